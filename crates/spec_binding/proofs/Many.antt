-- The same over two of the verdicts of one call on many transcripts (document 02, Item 11).
use mathlib.Core.Path.{◌≡◌}
use mathlib.Core.List.{List}
use Prim.Native.Nat.{ℕ}
use Rattle.spec_leaves.specs.Answer.{accepted, number}
use Rattle.spec_protocol.specs.Parameters.{parameters}
use Rattle.spec_protocol.specs.Layout.{scratch_need}
use Rattle.spec_protocol.specs.Many.{randomness_part, transcript_part, part_verdict}
use Rattle.spec_protocol.proofs.Acceptance.{zero_accepts}
use Rattle.spec_binding.specs.Openings.{opening_1, opening_2, EqualU1, EqualU2, GivenAway1, GivenAway2, Accepted, SameTG, SameH}
use Rattle.spec_binding.proofs.Binding.{binding_1, binding_2}
use Rattle.spec_binding.proofs.Bound.{bound_1, bound_2}

module _ (J : List ℕ) (count : ℕ) (R T : List ℕ) where
  -- transcript m
  abbrev pub part : ℕ → List ℕ
  part m = transcript_part (parameters J) count T m

  -- of which the verdict is an acceptance
  pub accepted-part : (m cells : ℕ) → part_verdict J count R T m ≡ accepted cells → Accepted J (part m) cells
  unfolding part_verdict
  accepted-part m cells e = record { randomness = randomness_part (parameters J) count R m; scratch = scratch_need (parameters J); verdict = e }

  -- a verdict with the number 0 is one
  pub zero_part : (m : ℕ) → number (part_verdict J count R T m) ≡ 0 → (cells : ℕ) × (part_verdict J count R T m ≡ accepted cells)
  unfolding part_verdict
  zero_part m e = zero_accepts J (randomness_part (parameters J) count R m) (part m) (scratch_need (parameters J)) e

  module _ (i j : ℕ) where
    -- two verdicts with the number 0
    module _ (e : number (part_verdict J count R T i) ≡ 0) (f : number (part_verdict J count R T j) ≡ 0) where
      pub binding_1_of_parts : EqualU1 J (part i) (part j) → (opening_1 J (part i) ≡ opening_1 J (part j) → ⊥) → GivenAway1 J (part i) (part j)
      binding_1_of_parts =
          let a = zero_part i e in
          let b = zero_part j f in
          binding_1 J (part i) (part j) a.0 b.0 (accepted-part i a.0 a.1) (accepted-part j b.0 b.1)

      pub binding_2_of_parts : EqualU2 J (part i) (part j) → (opening_2 J (part i) ≡ opening_2 J (part j) → ⊥) → GivenAway2 J (part i) (part j)
      binding_2_of_parts =
          let a = zero_part i e in
          let b = zero_part j f in
          binding_2 J (part i) (part j) a.0 b.0 (accepted-part i a.0 a.1) (accepted-part j b.0 b.1)

    -- two acceptances with no cell that has something left
    module _ (e : part_verdict J count R T i ≡ accepted 0) (f : part_verdict J count R T j ≡ accepted 0) where
      pub bound_1_of-parts : EqualU1 J (part i) (part j) → (SameTG J (part i) (part j) → ⊥) → GivenAway1 J (part i) (part j)
      bound_1_of-parts = bound_1 J (part i) (part j) (accepted-part i 0 e) (accepted-part j 0 f)

      pub bound_2_of-parts : EqualU2 J (part i) (part j) → (SameH J (part i) (part j) → ⊥) → GivenAway2 J (part i) (part j)
      bound_2_of-parts = bound_2 J (part i) (part j) (accepted-part i 0 e) (accepted-part j 0 f)
