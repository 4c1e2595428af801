-- The five rounds against the whole call: their outputs joined are its output, and a round refuses what it refuses up to that point.
use mathlib.Core.Path.{◌≡◌, refl, sym, ap, ap₂, ◌∙◌}
use mathlib.Core.Logic.{◌≢◌, ◌↔◌}
use mathlib.Core.Bool.{Bool, true, false, cond}
use mathlib.Core.List.{List, [], ◌++◌}
use Prim.Native.Nat.{ℕ, ◌+◌, ◌≤◌}
use native.Mathlib.Nat.{le_refl, zero-add}
use native.Mathlib.Decide.{dec_le}
use lib.ListN.{length, take, drop, take-append-drop}
use lib.Seq.{take-take, take_all}
use Rattle.spec_leaves.specs.Answer.{Answer, fine, refused, ◌then◌}
use Rattle.spec_leaves.specs.Rq.{Element}
use Rattle.spec_protocol.specs.Checks.{require}
use Rattle.spec_protocol.specs.Parameters.{Parameters, parameters}
use Rattle.spec_protocol.specs.Layout.{span, counted, ends, layout, ranged, randomness_sections, job_refusal, randomness_refusal, witness_refusal, scratch_refusal, scratch_need}
use Rattle.spec_protocol.specs.Views.{Public, public, witness}
use Rattle.spec_protocol.specs.Formulas as F
use Rattle.spec_protocol.specs.Formulas.{norm_of, h_digits}
use Rattle.spec_protocol.specs.Prover.{Call, whole, made_sections, prove_refusal, witness_norm, t_norm, g_norm, h_norm, work_refusal, transcript, made, prove, prove_output}
use Rattle.spec_protocol.proofs.Fine.{refused_not-fine, require-holds, required, then_both_fine, then_fine_left, then_fine_each}
use Rattle.spec_protocol.proofs.Then.{then_assoc, then_either, then_only, refused-first}
use Rattle.spec_protocol.proofs.Prefix.{sections-append, refusal_of_prefix, refusal_of_all}
use Rattle.spec_protocol.proofs.Accepted.{Admitted, admitted, before-work, in_work, output-made}
use Rattle.spec_protocol.proofs.Alike.{upto}
use Rattle.spec_protocol.proofs.Handed.{Round, one, two, three, four, five, call, handed_to, made_alike, work_alike}

-- the whole call's refusals in its work are a call's, then 16 where the call works out no h
pub work_of-whole : (X : Public) (s : ℕ → ℕ → Element) (c : Call) → work_refusal X whole s ≡ work_refusal X c s then cond c.has_h fine (h_norm X (F.h X s))
unfolding work_refusal
work_of-whole X s c = then_either c.has_h (witness_norm X s then t_norm X (F.t X s) then g_norm X (F.g X s)) (h_norm X (F.h X s))

-- what h is refused for is 16
h_refusal : (X : Public) (s : ℕ → ℕ → Element) (c : Call) (n p : ℕ) → n ≢ 16 → cond c.has_h fine (h_norm X (F.h X s)) ≡ refused n p → ⊥
unfolding h_norm
h_refusal X s c n p other = go c.has_h (dec_le (norm_of (h_digits X (F.h X s))) X.P.bound_D)
  where
    go : (t : Bool) (d : Dec (norm_of (h_digits X (F.h X s)) ≤ X.P.bound_D)) → cond t fine (require d (refused 16 0)) ≡ refused n p → ⊥
    go true d e = refused_not-fine n p (sym e)
    go false (yes h) e = refused_not-fine n p (sym e)
    go false (no h) e = other (cc)

-- an answer that is another, then that for h: they give the same refusals but for 16
but_16 : (X : Public) (s : ℕ → ℕ → Element) (c : Call) (a b : Answer) → a ≡ b then cond c.has_h fine (h_norm X (F.h X s)) → (n p : ℕ) → n ≢ 16
    → (a ≡ refused n p) ↔ (b ≡ refused n p)
but_16 X s c a b e n p other =
    let last = cond c.has_h fine (h_norm X (F.h X s)) in
    (λ f. refused-first b last n p (h_refusal X s c n p other) (sym e ∙ f), λ f. e ∙ ap (λ x. x then last) f)

-- a call's work refuses what the whole call's does, but for 16
pub work_refuses : (X : Public) (s : ℕ → ℕ → Element) (c : Call) (n p : ℕ) → n ≢ 16 → (work_refusal X whole s ≡ refused n p) ↔ (work_refusal X c s ≡ refused n p)
work_refuses X s c = but_16 X s c (work_refusal X whole s) (work_refusal X c s) (work_of-whole X s c)

-- where the whole call's work refuses nothing, no call's does
pub work-fine : (X : Public) (s : ℕ → ℕ → Element) (c : Call) → work_refusal X whole s ≡ fine → work_refusal X c s ≡ fine
work-fine X s c e = then_fine_left (work_refusal X c s) (cond c.has_h fine (h_norm X (F.h X s))) (sym (work_of-whole X s c) ∙ e)

module _ (P : Parameters) (m : ℕ) (R : List ℕ) where
  -- what is wrong with the randomness beyond its first m sections
  abbrev pub beyond : Answer
  beyond = counted 7 R (upto P m) (drop m (randomness_sections P)) then ends 7 R (upto P 7) then ranged 8 R (upto P m) (drop m (randomness_sections P))

  -- where the counts of the first m sections are right, nothing is wrong beyond them
  abbrev pub NothingBeyond : Type 0
  NothingBeyond = counted 7 R 0 (take m (randomness_sections P)) ≡ fine → beyond ≡ fine

  -- then the first m sections handed alone are refused as all are
  pub same-randomness : NothingBeyond → randomness_refusal P m (take (upto P m) R) ≡ randomness_refusal P 7 R
  unfolding randomness_refusal
  same-randomness h =
      let ss = randomness_sections P in
      refusal_of_prefix 7 8 R (take m ss)
      ∙ sym (then_only (counted 7 R 0 (take m ss)) (counted 7 R (upto P m) (drop m ss)) (ends 7 R (upto P 7)) (ranged 8 R 0 (take m ss)) (ranged 8 R (upto P m) (drop m ss)) h)
      ∙ sym (rw (take-append-drop m ss) at (refusal_of_all 7 8 R (take m ss) (drop m ss)))

  -- randomness that is not refused is not refused where its first m sections are handed alone
  pub fine-randomness : randomness_refusal P 7 R ≡ fine → randomness_refusal P m (take (upto P m) R) ≡ fine
  unfolding randomness_refusal
  fine-randomness e =
      let ss = randomness_sections P in
      let all = rw (take-append-drop m ss) at (refusal_of_all 7 8 R (take m ss) (drop m ss)) in
      let each = then_fine_each (counted 7 R 0 (take m ss)) (counted 7 R (upto P m) (drop m ss)) (ends 7 R (upto P 7)) (ranged 8 R 0 (take m ss)) (ranged 8 R (upto P m) (drop m ss)) (sym all ∙ e) in
      refusal_of_prefix 7 8 R (take m ss) ∙ then_both_fine each.0 each.3

-- what is handed of what is handed
handed-twice : (c : Call) (J R : List ℕ) → handed_to c J (handed_to c J R) ≡ handed_to c J R
handed-twice c J R = take-take (upto (parameters J) c.handed) (upto (parameters J) c.handed) R (le_refl (upto (parameters J) c.handed))

module _ (J R W : List ℕ) (scratch output : ℕ) (ρ : Round) (output' : ℕ)
    (later : NothingBeyond (parameters J) (call ρ).handed R)
    (enough : span (made_sections whole (parameters J)) ≤ output)
    (enough' : span (made_sections (call ρ) (parameters J)) ≤ output') where
  -- before the work a round refuses what the whole call refuses, if nothing is wrong with the randomness that the round is not handed
  pub round_refusal : prove_refusal (call ρ) J (handed_to (call ρ) J R) W scratch output' ≡ prove_refusal whole J R W scratch output
  unfolding prove_refusal
  round_refusal =
      let P = parameters J in
      ap₂ (λ a b. job_refusal J then a then witness_refusal P W then scratch_refusal P scratch then b)
      (same-randomness P (call ρ).handed R later)
      (require-holds (dec_le (span (made_sections (call ρ) P)) output') (refused 2 (span (made_sections (call ρ) P))) enough'
      ∙ sym (require-holds (dec_le (span (made_sections whole P)) output) (refused 2 (span (made_sections whole P))) enough))

  -- the whole call's answer is the round's, then 16 where the round works out no h
  pub round_answer : prove whole J R W scratch output
      ≡ prove (call ρ) J (handed_to (call ρ) J R) W scratch output' then cond (call ρ).has_h fine (h_norm (public J R) (F.h (public J R) (witness (parameters J) W)))
  unfolding prove
  round_answer =
      let P = parameters J in
      let X = public J R in
      let s = witness P W in
      let last = cond (call ρ).has_h fine (h_norm X (F.h X s)) in
      ap (λ a. prove_refusal whole J R W scratch output then a) (work_of-whole X s (call ρ))
      ∙ sym (then_assoc (prove_refusal whole J R W scratch output) (work_refusal X (call ρ) s) last)
      ∙ ap₂ (λ a w. a then w then last) (sym round_refusal) (sym (work_alike J (handed_to (call ρ) J R) R s ρ (handed-twice (call ρ) J R)))

  -- "A round refuses what the whole call refuses up to that point.": all but 16, which is the fourth round's and the fifth's
  pub round_refuses : (n p : ℕ) → n ≢ 16 → (prove whole J R W scratch output ≡ refused n p) ↔ (prove (call ρ) J (handed_to (call ρ) J R) W scratch output' ≡ refused n p)
  round_refuses = but_16 (public J R) (witness (parameters J) W) (call ρ) (prove whole J R W scratch output) (prove (call ρ) J (handed_to (call ρ) J R) W scratch output') round_answer

-- the first round is handed an empty slice
pub handed-none : (J R : List ℕ) → handed_to (call one) J R ≡ []
unfolding span
handed-none J R = refl

-- the fifth round is handed all of a randomness that is not refused
pub handed-all : (J R : List ℕ) → randomness_refusal (parameters J) 7 R ≡ fine → handed_to (call five) J R ≡ R
unfolding randomness_refusal layout
handed-all J R e =
    let ss = randomness_sections (parameters J) in
    let each = then_fine_each fine fine (counted 7 R 0 ss) (ends 7 R (0 + span ss)) (ranged 8 R 0 ss) e in
    let within : length R ≤ 0 + span ss = required (dec_le (length R) (0 + span ss)) (refused 7 (0 + span ss)) (refused_not-fine 7 (0 + span ss)) each.3 in
    take_all (span ss) R (rw zero-add at within)

-- lists of the five rounds, one after the other
abbrev pub joined : (Round → List ℕ) → List ℕ
joined f = f one ++ f two ++ f three ++ f four ++ f five

-- equal lists joined
joined_ext : (f g : Round → List ℕ) → ((ρ : Round) → f ρ ≡ g ρ) → joined f ≡ joined g
joined_ext f g h = λ i. joined (λ ρ. h ρ i)

-- what the rounds make, joined
made_joined : (X : Public) (s : ℕ → ℕ → Element) → joined (λ ρ. made X (call ρ) s) ≡ made X whole s
unfolding made transcript
made_joined X s = simp (← sections-append)

-- what the rounds make, each of the randomness that it is handed, joined is what the whole call makes
pub rounds_made : (J R : List ℕ) (s : ℕ → ℕ → Element)
    → joined (λ ρ. made (public J (handed_to (call ρ) J R)) (call ρ) s) ≡ made (public J R) whole s
rounds_made J R s =
    joined_ext (λ ρ. made (public J (handed_to (call ρ) J R)) (call ρ) s) (λ ρ. made (public J R) (call ρ) s)
    (λ ρ. made_alike J (handed_to (call ρ) J R) R s ρ (handed-twice (call ρ) J R))
    ∙ made_joined (public J R) s

-- the needed part of the output that a call leaves
abbrev pub needed : Call → (J R W scratch output : List ℕ) → List ℕ
needed c J R W scratch output = take (span (made_sections c (parameters J))) (prove_output c J R W scratch output)

module _ (J R W scratch output : List ℕ) (whole-fine : prove whole J R W (length scratch) (length output) ≡ fine) where
  -- the whole call is not refused before the work
  whole_admitted : Admitted whole J R W (length scratch) (length output)
  whole_admitted = admitted whole J R W (length scratch) (length output) (before-work whole J R W scratch output whole-fine)

  -- where the whole call is fine each round is, with buffers long enough
  pub round_fine : (ρ : Round) (scratch' output' : ℕ) → scratch_need (parameters J) ≤ scratch' → span (made_sections (call ρ) (parameters J)) ≤ output'
      → prove (call ρ) J (handed_to (call ρ) J R) W scratch' output' ≡ fine
  unfolding prove prove_refusal
  round_fine ρ scratch' output' enough enough' =
      let P = parameters J in
      let s = witness P W in
      then_both_fine
      (then_both_fine
      (then_both_fine
      (then_both_fine
      (then_both_fine whole_admitted.job (fine-randomness P (call ρ).handed R whole_admitted.randomness))
      whole_admitted.witness)
      (require-holds (dec_le (scratch_need P) scratch') (refused 1 (scratch_need P)) enough))
      (require-holds (dec_le (span (made_sections (call ρ) P)) output') (refused 2 (span (made_sections (call ρ) P))) enough'))
      (work_alike J (handed_to (call ρ) J R) R s ρ (handed-twice (call ρ) J R)
      ∙ work-fine (public J R) s (call ρ) (in_work whole J R W scratch output whole-fine))

  -- "The five outputs, their sections' counts included, joined equal the whole call's.": with any buffers that are long enough
  pub rounds_joined : (scratches outputs : Round → List ℕ)
      → ((ρ : Round) → scratch_need (parameters J) ≤ length (scratches ρ))
      → ((ρ : Round) → span (made_sections (call ρ) (parameters J)) ≤ length (outputs ρ))
      → joined (λ ρ. needed (call ρ) J (handed_to (call ρ) J R) W (scratches ρ) (outputs ρ)) ≡ needed whole J R W scratch output
  rounds_joined scratches outputs enough enough' =
      let s = witness (parameters J) W in
      joined_ext (λ ρ. needed (call ρ) J (handed_to (call ρ) J R) W (scratches ρ) (outputs ρ)) (λ ρ. made (public J (handed_to (call ρ) J R)) (call ρ) s)
      (λ ρ. output-made (call ρ) J (handed_to (call ρ) J R) W (scratches ρ) (outputs ρ) (round_fine ρ (length (scratches ρ)) (length (outputs ρ)) (enough ρ) (enough' ρ)))
      ∙ rounds_made J R s
      ∙ sym (output-made whole J R W scratch output whole-fine)
