-- A fork of transcripts that the prover made of one witness extracts that witness; a tree of them gives it away.
use mathlib.Core.Path.{◌≡◌, refl, sym, ap, ap₂, subst, ◌∙◌}
use mathlib.Core.List.{List}
use Prim.Native.Nat.{ℕ, ◌<◌}
use native.Mathlib.Nat.{zero-add}
use native.Mathlib.Omega.{arith}
use lib.ListN.{length, take}
use Rattle.math.specs.algebra.Ops as Ops
use Rattle.math.specs.algebra.Ops.{Ops}
use Rattle.math.proofs.algebra.Ring.{CRing, ring, mul_left_comm}
use Rattle.math.proofs.algebra.Sum.{sum_ext}
use Rattle.math.proofs.algebra.Dot.{dot_ext}
use Rattle.math.proofs.algebra.Form.{form_ext}
use Rattle.spec_leaves.specs.Rq.{Element}
use Rattle.spec_leaves.specs.Ring.{RqOps}
use Rattle.spec_leaves.proofs.RqRing.{rq_ring}
use Rattle.spec_leaves.proofs.Scalar.{rq_double_cancel}
use Rattle.spec_protocol.specs.Parameters.{parameters}
use Rattle.spec_protocol.specs.Layout.{span, layout, ranged, randomness_sections, randomness_refusal}
use Rattle.spec_protocol.specs.Views.{Public, Message, message, witness}
use Rattle.spec_protocol.specs.Formulas as Formulas
use Rattle.spec_protocol.specs.Formulas.{◌⊕◌, ◌⊗◌, dot, left, a_sum, φ_sum, b_sum}
use Rattle.spec_protocol.specs.Prover.{whole}
use Rattle.spec_protocol.proofs.Fine.{then_fine_left}
use Rattle.spec_protocol.proofs.Agrees.{Agrees}
use Rattle.spec_protocol.proofs.ReadBack.{read_back}
use Rattle.spec_protocol.proofs.Accepted.{admitted, before-work, output-made, made-whole}
use Rattle.spec_protocol.proofs.Alike.{u₁-same}
use Rattle.spec_protocol.proofs.Relations.{aggregated-left}
use Rattle.spec_protocol.proofs.Laid.{layout-whole}
use Rattle.spec_binding.specs.Openings.{nil, EqualU1}
use Rattle.theorem_extraction.specs.Fork.{Branch, values, message_of, z_of, challenge_of, ◌⊖◌, base, first, Fork}
use Rattle.theorem_extraction.specs.Extracted.{extracted, Opens, Extracted}
use Rattle.theorem_extraction.specs.Tree.{root, trunk, Tree, Witness}
use Rattle.theorem_extraction.specs.Honest.{Made, HonestFork, HonestTree}
use Rattle.theorem_extraction.proofs.Steps.{step, one_at, dot-step, dot-one_at}
use Rattle.theorem_extraction.proofs.Places.{divided}
use Rattle.theorem_extraction.proofs.Passes.{aggregated-holds}
use Rattle.theorem_extraction.proofs.Nodes.{C, dx, moved-first}
use Rattle.theorem_extraction.proofs.Tree.{all_met}

-- (t + d·a) − t = d·a
less_base : (O : Ops) (R : CRing O) (t a b d : O.Carrier) → O.add (O.add (O.add t (O.mul d a)) (O.mul O.nil b)) (O.neg t) ≡ O.mul d a
less_base O R t a b d = simp (ring, R)

-- vectors that are the same in range open the same
opens_same : (X : Public) (M : Message) (s s' : ℕ → ℕ → Element) → ((i m : ℕ) → i < X.P.r → m < X.P.n → s i m ≡ s' i m) → Opens X M s' → Opens X M s
opens_same X M s s' same opens = record {
  of_t = λ i k h l. dot_ext RqOps n (X.A k) (X.A k) (s i) (s' i) (λ m e. refl) (λ m e. same i m h e) ∙ opens.of_t i k h l;
  of_g = λ i j h l. opens.of_g i j h l ∙ sym (dot_ext RqOps n (s i) (s' i) (s j) (s' j) (λ m e. same i m h e) (λ m e. same j m l e));
  of_h = λ i j h l. opens.of_h i j h l ∙ sym (ap₂ ◌⊕◌ (with_φ i j l) (with_φ j i h));
  aggregated = form_ext RqOps X.P.r n (a_sum X) (a_sum X) (φ_sum X) (φ_sum X) s s' (λ i j h l. refl) (λ i m h l. refl) (λ i m h l. same i m h l) ∙ opens.aggregated;
}
  where
    n : ℕ
    n = X.P.n

    with_φ : (i j : ℕ) → j < X.P.r → dot n (φ_sum X i) (s j) ≡ dot n (φ_sum X i) (s' j)
    with_φ i j l = dot_ext RqOps n (φ_sum X i) (φ_sum X i) (s j) (s' j) (λ m e. refl) (λ m e. same j m l e)

module _ (J W : List ℕ) where
  open parameters J use {n, r}

  -- the witness that was proved
  abbrev s : ℕ → ℕ → Element
  s = witness (parameters J) W

  -- what a transcript that the prover made sends is what the formulas give of the witness
  pub made_agrees : (X : Branch J) → Made W X → Agrees (values X) s (message_of X)
  made_agrees X made =
      subst (λ T. Agrees (values X) s (message (parameters J) T))
      (sym (made.is_output ∙ output-made whole J X.accepted.randomness W made.scratch made.output made.proved ∙ made-whole (values X) s))
      (read_back (values X) s)

  -- the length of the randomness of a transcript that was made
  pub made-size : (X : Branch J) → Made W X → length X.accepted.randomness ≡ span (randomness_sections (parameters J))
  unfolding randomness_refusal
  made-size X made =
      let R = X.accepted.randomness in
      let ss = take 7 (randomness_sections (parameters J)) in
      let call = admitted whole J R W (length made.scratch) (length made.output) (before-work whole J R W made.scratch made.output made.proved) in
      layout-whole 7 R 0 ss (omega arith) (then_fine_left (layout 7 R 0 ss) (ranged 8 R 0 ss) call.randomness)
      ∙ zero-add (span ss)

  -- two of them have equal u1
  pub made_u1 : (X Y : Branch J) → Made W X → Made W Y → EqualU1 J X.transcript Y.transcript
  made_u1 X Y made made' k h =
      (made_agrees X made).u₁ k h
      ∙ ap (λ f. f k) (u₁-same J X.accepted.randomness Y.accepted.randomness 0 refl s)
      ∙ sym ((made_agrees Y made').u₁ k h)

  -- the witness opens the commitments of a transcript that the prover made of it
  pub witness_opens : (X : Branch J) → Made W X → Opens (values X) (message_of X) s
  unfolding Formulas.t Formulas.g Formulas.h
  witness_opens X made =
      let agrees = made_agrees X made in
      record {
        of_t = λ i k h l. sym (agrees.t i k h l);
        of_g = agrees.g;
        of_h = agrees.h;
        aggregated = rq_double_cancel (left (parameters J) (a_sum (values X)) (φ_sum (values X)) s) (b_sum (values X) (message_of X).b'')
            (sym (aggregated-left (values X) s (message_of X) agrees) ∙ aggregated-holds X);
      }

  module _ (F : Fork J) (honest : HonestFork W F) where
    -- z^(i) − z = (x_i − c_i)·s_i
    z-step : (i m : ℕ) → i < r → m < n → z_of (F.branch (first i)) m ⊖ z_of (F.branch base) m ≡ dx F i ⊗ s i m
    unfolding Formulas.z Ops.dot
    z-step i m h l =
        ap₂ (λ p q. p ⊖ q)
        ((made_agrees (F.branch (first i)) (honest (first i) h)).z m l
        ∙ sum_ext RqOps r (λ k. s k m ⊗ challenge_of (F.branch (first i)) k) (λ k. s k m ⊗ step RqOps (C F) (one_at RqOps i) (one_at RqOps i) (dx F i) nil k)
        (λ k e. ap (◌⊗◌ (s k m)) (moved-first F i i h k e))
        ∙ dot-step RqOps rq_ring r (λ k. s k m) (one_at RqOps i) (one_at RqOps i) (C F) (one_at RqOps i) (one_at RqOps i) (dx F i) nil)
        ((made_agrees (F.branch base) (honest base (record {}))).z m l)
        ∙ less_base RqOps rq_ring (dot r (λ k. s k m) (C F)) (dot r (λ k. s k m) (one_at RqOps i)) (dot r (λ k. s k m) (one_at RqOps i)) (dx F i)
        ∙ ap (◌⊗◌ (dx F i)) (dot-one_at RqOps rq_ring r i (λ k. s k m) h)

    -- honest forks extract the witness that was proved
    pub honest_extracts : (i m : ℕ) → i < r → m < n → extracted F i m ≡ witness (parameters J) W i m
    unfolding extracted
    honest_extracts i m h l =
        ap (◌⊗◌ (F.inverse i)) (z-step i m h l)
        ∙ mul_left_comm RqOps rq_ring (F.inverse i) (dx F i) (s i m)
        ∙ divided RqOps rq_ring (dx F i) (F.inverse i) (s i m) (F.inverse_x i h)

    -- so of them `Extracted` holds, whatever they give away
    pub honest_opens : Extracted F
    honest_opens = opens_same (values (F.branch base)) (message_of (F.branch base)) (extracted F) s honest_extracts (witness_opens (F.branch base) (honest base (record {})))

  -- and a tree of them gives away that witness: it meets every constraint, and its projection is the p that was sent
  pub honest-witness : (T : Tree J) → HonestTree W T → Witness T
  honest-witness T honest = all_met T (λ p within.
      (opens_same (values (trunk (T.fork p))) (message_of (trunk (T.fork p))) (extracted (T.fork root)) s (honest_extracts (T.fork root) (honest root (record {})))
      (witness_opens (trunk (T.fork p)) (honest p within base (record {})))).aggregated)
