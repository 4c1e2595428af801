-- The same on words: the verifier's verdict on the prover's transcript with the words of section b'' replaced.
use mathlib.Core.Path.{◌≡◌, refl, sym, ap, ap₂, ◌∙◌}
use mathlib.Core.List.{List, [], ◌∷◌, ◌++◌}
use Prim.Native.Nat.{ℕ, suc, ◌+◌, ◌*◌, ◌≤◌, ◌<◌}
use native.Mathlib.Decide.{dec_le}
use native.Mathlib.Nat.{zero-add}
use native.Mathlib.Omega.{arith}
use lib.ListN.{length, set, drop, length-append}
use lib.Seq.{drop_at}
use Rattle.math.specs.lists.Table.{table}
use Rattle.math.specs.lists.Part.{splice}
use Rattle.math.proofs.lists.Table.{length-table, get_or-table}
use Rattle.math.proofs.lists.Splice.{splice_eq, get_or-splice-before, part-splice-before, part-splice-after, part-splice-same}
use Rattle.spec_leaves.specs.Answer.{fine, accepted, refused, failed, ◌then◌}
use Rattle.spec_leaves.specs.Rq.{Element}
use Rattle.spec_leaves.specs.Ring.{RqOps, element}
use Rattle.spec_protocol.specs.Checks.{require}
use Rattle.spec_protocol.specs.Parameters.{parameters}
use Rattle.spec_protocol.specs.Layout.{Section, span, start, sections, transcript_sections, transcript_refusal, scratch_need}
use Rattle.spec_protocol.specs.Views.{Public, public, witness, message, element_at}
use Rattle.spec_protocol.specs.Formulas as F
use Rattle.spec_protocol.specs.Formulas.{◌⊕◌, flat}
use Rattle.spec_protocol.specs.Prover.{whole, transcript, prove}
use Rattle.spec_protocol.specs.Conditions.{cells_left, alpha_error}
use Rattle.spec_protocol.specs.Verifier.{same, checks, verify_refusal, verify}
use Rattle.spec_protocol.proofs.Agrees.{Agrees}
use Rattle.spec_protocol.proofs.Fine.{require-holds, then_both_fine}
use Rattle.spec_protocol.proofs.Flat.{length-flat, flat-canonical, element_of-flat}
use Rattle.spec_protocol.proofs.Sections.{Filled, more, InRange, length-sections, layout-fine, ranged-fine}
use Rattle.spec_protocol.proofs.ReadBack.{transcript_filled, read_back}
use Rattle.spec_protocol.proofs.Accepted.{admitted, short, before-work, in_work, output-made, made-whole}
use Rattle.theorem_soundness.specs.Altered.{with_b'', altered, altered_words, made_transcript, beta_sum, RingsMet, Corrects, norms}
use Rattle.theorem_soundness.proofs.Altered.{verdict, equation_holds}

-- words replaced past the first
splice_cons : (x : ℕ) (l : List ℕ) (at : ℕ) (new : List ℕ) → splice (x ∷ l) (suc at) new ≡ x ∷ splice l at new
unfolding splice
splice_cons x l at [] = refl
splice_cons x l at (y ∷ new) = splice_cons x (set l at y) (suc at) new

-- words replaced in the second of two lists
splice-second : (l m : List ℕ) (at : ℕ) (new : List ℕ) → splice (l ++ m) (length l + at) new ≡ l ++ splice m at new
splice-second [] m at new = ap (λ i. splice m i new) (zero-add at)
splice-second (x ∷ l) m at new =
    let e : suc (length l) + at ≡ suc (length l + at) = omega arith in
    ap (λ i. splice (x ∷ (l ++ m)) i new) e ∙ splice_cons x (l ++ m) (length l + at) new ∙ ap (◌∷◌ x) (splice-second l m at new)

-- the first of two lists replaced
splice-first : (l m new : List ℕ) → length new ≡ length l → splice (l ++ m) 0 new ≡ new ++ m
splice-first l m new e =
    splice_eq (l ++ m) 0 new (omega (arith, length-append l m))
    ∙ ap (λ n. new ++ drop n (l ++ m)) (zero-add (length new) ∙ e)
    ∙ ap (◌++◌ new) (drop_at l m (length l) refl)

-- the words of the third of filled sections replaced
splice-third : {a b c : Section} {ss : List Section} (x y z new : List ℕ) (rest : List (List ℕ)) → Filled (a ∷ b ∷ c ∷ ss) (x ∷ y ∷ z ∷ rest) → length new ≡ c.count
    → splice (sections (x ∷ y ∷ z ∷ rest)) (start (a ∷ b ∷ c ∷ ss) 2) new ≡ sections (x ∷ y ∷ new ∷ rest)
unfolding sections start
splice-third {a} {b} {c} x y z new rest (more e r (more f q (more g t filled))) size =
    let first : 1 + a.count + (1 + b.count + 1) ≡ suc (length x + suc (length y + 1)) = omega arith in
    ap (λ i. splice (sections (x ∷ y ∷ z ∷ rest)) i new) first
    ∙ splice_cons (length x) (x ++ sections (y ∷ z ∷ rest)) (length x + suc (length y + 1)) new
    ∙ ap (◌∷◌ (length x))
    (splice-second x (sections (y ∷ z ∷ rest)) (suc (length y + 1)) new
    ∙ ap (◌++◌ x)
    (splice_cons (length y) (y ++ sections (z ∷ rest)) (length y + 1) new
    ∙ ap (◌∷◌ (length y))
    (splice-second y (sections (z ∷ rest)) 1 new
    ∙ ap (◌++◌ y) (splice_cons (length z) (z ++ sections rest) 0 new ∙ ap₂ ◌∷◌ (g ∙ sym size) (splice-first z (sections rest) new (size ∙ sym g))))))

-- they are filled again
third_filled : {a b c : Section} {ss : List Section} {x y z new : List ℕ} {rest : List (List ℕ)} → Filled (a ∷ b ∷ c ∷ ss) (x ∷ y ∷ z ∷ rest) → length new ≡ c.count → InRange c.range new
    → Filled (a ∷ b ∷ c ∷ ss) (x ∷ y ∷ new ∷ rest)
third_filled (more e r (more f q (more g t filled))) size range = more e r (more f q (more size range filled))

module _ (X : Public) (s : ℕ → ℕ → Element) (ε : ℕ → Element) where
  open X use {P}
  open P use {κ₁, L}

  -- the honest transcript, b'' as it is altered, its words, and the words altered
  abbrev T : List ℕ
  T = sections (transcript X s)

  abbrev elements : List Element
  elements = table L (altered ε (message P T)).b''

  abbrev T' : List ℕ
  T' = altered_words P ε T

  size : length (flat elements) ≡ 64 * L
  size = length-flat elements ∙ ap (λ n. 64 * n) (length-table L (altered ε (message P T)).b'')

  -- section b'' is within the transcript
  room : start (transcript_sections P) 2 + length (flat elements) ≤ length T
  unfolding start span
  room = omega (arith, size, length-sections (transcript_filled X s))

  -- the verifier refuses nothing of it
  refuses_nothing : transcript_refusal P T' ≡ fine
  unfolding transcript_refusal altered_words transcript
  refuses_nothing =
      let filled = third_filled (transcript_filled X s) size (flat-canonical elements) in
      ap (transcript_refusal P) (splice-third _ _ _ (flat elements) _ (transcript_filled X s) size)
      ∙ then_both_fine (layout-fine filled 9) (ranged-fine filled 10)

  -- elements of later sections
  later : (place m : ℕ) → start (transcript_sections P) 3 ≤ place → element_at T' place m ≡ element_at T place m
  unfolding altered_words start
  later place m h = ap element (part-splice-after 0 T (start (transcript_sections P) 2) (flat elements) (place + 64 * m) 64 (omega (arith, size)))

  -- the message but for b'' is that of the formulas
  agrees : Agrees X s (with_b'' (F.b'' X s) (message P T'))
  unfolding altered_words start
  agrees =
      let honest = read_back X s in
      let at = start (transcript_sections P) in
      record {
        u₁ = λ k h. ap element (part-splice-before 0 T (at 2) (flat elements) (at 0 + 64 * k) 64 (omega arith)) ∙ honest.u₁ k h;
        p = λ j h. get_or-splice-before T (at 2) (flat elements) (at 1 + j) 0 (omega arith) ∙ honest.p j h;
        b'' = λ k h. refl;
        u₂ = λ k h. later (at 3) k (omega arith) ∙ honest.u₂ k h;
        z = λ m h. later (at 4) m (omega arith) ∙ honest.z m h;
        t = λ i k h l. later (at 5) (i * P.κ + k) (omega arith) ∙ honest.t i k h l;
        g = λ i j h l. later (at 6) _ (omega arith) ∙ honest.g i j h l;
        h = λ i j h l. later (at 7) _ (omega arith) ∙ honest.h i j h l;
      }

  -- b'' is altered
  added : (k : ℕ) → k < L → (message P T').b'' k ≡ F.b'' X s k ⊕ ε k
  unfolding altered_words
  added k h =
      element_of-flat T' (start (transcript_sections P) 2) elements k RqOps.nil (part-splice-same 0 T (start (transcript_sections P) 2) (flat elements) room)
      (rw (length-table L (altered ε (message P T)).b'') h)
      ∙ get_or-table L (altered ε (message P T)).b'' k RqOps.nil h
      ∙ ap (λ x. x ⊕ ε k) ((read_back X s).b'' k h)

-- a prover's call that is refused nothing, and scratch enough for the verifier
module _ (J R W scratch output : List ℕ) (lent : ℕ) (proved : prove whole J R W (length scratch) (length output) ≡ fine) (enough : scratch_need (parameters J) ≤ lent) where
  -- the public values and the witness
  abbrev pub X : Public
  X = public J R

  abbrev pub s : ℕ → ℕ → Element
  s = witness (parameters J) W

  -- the verdict on the prover's transcript with altered b'': 21, 23, and one equation, Σ alpha_k⊗error_k = Σ β_k⊗ε_k
  pub one_equation_of-words : (ε : ℕ → Element) → Corrects X s ε
      → verify J R (altered_words (parameters J) ε (made_transcript J R W scratch output)) lent
      ≡ norms X s then require (same (alpha_error X s) (beta_sum X ε)) (failed 27 []) then accepted (cells_left X s)
  unfolding verify verify_refusal
  one_equation_of-words ε corrects =
      let P = parameters J in
      let call = admitted whole J R W (length scratch) (length output) (before-work whole J R W scratch output proved) in
      let bounds = short X s (in_work whole J R W scratch output proved) in
      ap (λ words. verify J R (altered_words P ε words) lent) (output-made whole J R W scratch output proved ∙ made-whole X s)
      ∙ ap (λ a. a then checks X (message P (T' X s ε)))
      (then_both_fine (then_both_fine (then_both_fine call.job call.randomness) (refuses_nothing X s ε)) (require-holds (dec_le (scratch_need P) lent) (refused 1 (scratch_need P)) enough))
      ∙ verdict X s ε (message P (T' X s ε)) (agrees X s ε) (added X s ε) (then_both_fine (then_both_fine bounds.of_t bounds.of_g) bounds.of_h) corrects

  -- what 22 does not force, over the verifier's words: the ring constraints met and Σ β_k⊗ε_k = 0, as if the psi condition were not there
  pub as_without_psi_of_words : (ε : ℕ → Element) → RingsMet X s → Corrects X s ε → beta_sum X ε ≡ RqOps.nil
      → verify J R (altered_words (parameters J) ε (made_transcript J R W scratch output)) lent ≡ norms X s then accepted (cells_left X s)
  as_without_psi_of_words ε met corrects zero = one_equation_of-words ε corrects ∙ equation_holds X s ε met zero
