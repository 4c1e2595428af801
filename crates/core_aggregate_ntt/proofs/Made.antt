-- What the pass stands on, and that φ and b'' are what it stores.
use mathlib.Core.Path.{◌≡◌, refl, sym, ap, ◌∙◌}
use mathlib.Core.Bool.{Bool, true, false, cond, false≢true}
use mathlib.Core.List.{List}
use Prim.Native.Nat.{ℕ, ◌+◌, ◌*◌, ◌≤◌, ◌<◌, ◌^◌}
use native.Mathlib.Nat.{mul-le-mul_left}
use native.Mathlib.Omega.{arith}
use borrow.Author.Tests.{ltb-false}
use lib.Dec.{ltb}
use lib.ListN.{length, get_or, replicate, length-replicate, get_or-replicate}
use Rattle.math.specs.lists.Table.{table}
use Rattle.math.specs.lists.Part.{part, splice}
use Rattle.math.proofs.lists.Table.{table_ext, is_table}
use Rattle.math.proofs.lists.Splice.{length_part, get_d_part, part-splice-before}
use Rattle.math.proofs.algebra.Ring.{nil-add}
use Rattle.math.proofs.algebra.Dot.{dot_ext}
use Rattle.spec_leaves.specs.Rq.{rzero}
use Rattle.spec_leaves.specs.Ring.{RqOps, element}
use Rattle.spec_leaves.proofs.RqRing.{rq_ring}
use Rattle.ring_inner_product.specs.declared.Strided.{Strided}
use Rattle.ring_inner_product.specs.Run.{run}
use Rattle.spec_protocol.specs.Parameters.{triangular}
use Rattle.spec_protocol.specs.Views.{element_at, cell}
use Rattle.spec_protocol.specs.Formulas.{◌⊕◌, ◌⊗◌, dot, flat, pairs}
use Rattle.layout_regions.specs.declared.Regions.{Regions}
use Rattle.core_aggregate.specs.Weighed.{formed}
use Rattle.core_aggregate.proofs.Grid.{rows_run}
use Rattle.ntt_vectors.specs.NttForm.{AllValues}
use Rattle.core_aggregate_ntt.specs.Terms.{Weights, NttWeights, ntt_faster}
use Rattle.core_aggregate_ntt.proofs.Mixed.{ntt_mixed-all}
use Rattle.core_aggregate_ntt.proofs.Faster.{faster_weights}
use Rattle.core_aggregate_ntt.specs.Pass.{PassRoom, φ_mixed, HasLines, formed_with, φ''_rows, Passable, with_φ, with_b'', with_φ_and_b'', one_pass_faster}

-- one of two by a test
pub chosen-first : {A : Type 0} (b : Bool) (x y z : A) → b ≡ true → z ≡ x → z ≡ cond b x y
chosen-first b x y z h e = e ∙ sym (ap (λ t. cond t x y) h)

pub chosen-second : {A : Type 0} (b : Bool) (x y z : A) → b ≡ false → z ≡ y → z ≡ cond b x y
chosen-second b x y z h e = e ∙ sym (ap (λ t. cond t x y) h)

module _ (J : List ℕ) (x : Strided) (R : List ℕ) (alpha beta : ℕ) (S : List ℕ) (regions : Regions) (L r n : ℕ) (W : List ℕ) (s : ℕ) (p : Passable J x R alpha beta S regions L r n W s) where
  -- the rows of φ''
  abbrev y : Strided
  y = φ''_rows regions L r n

  pub pass_room : (transformed T : List ℕ) → Weights x.count L → L ≤ 32 → length J < 2 ^ 61 → length S < 2 ^ 61 → AllValues transformed 0 (x.count + L) → 64 * L ≤ length T
      → PassRoom J x S y regions.phi transformed W s (r * n) T
  pass_room transformed T w few short small values sums = record {
    in_job = λ m l. rows_run J x (r * n) m p.0.0 short l;
    in_scratch = λ m l. rows_run S y (r * n) m p.0.3 small l;
    before = λ m k l d. omega (arith, p.0.4, mul-le-mul_left (r * n) d);
    near = (omega (arith, p.0.0.0.within, p.0.0.0.narrow), omega (arith, p.0.3.0.within, p.0.3.0.narrow));
    room = p.0.5;
    vectors = p.1.4;
    values = values;
    few = omega arith;
    forms = few;
    sums = sums;
  }

  -- no totals yet
  zero_total : (k : ℕ) → k < 32 → element_at (replicate 2048 0) 0 k ≡ RqOps.nil
  unfolding rzero
  zero_total k l =
      let z : ℕ = 0 in
      ap element
      (is_table 64 (part (replicate 2048 z) (0 + 64 * k) 64) (λ i. z) z (length_part (replicate 2048 z) (0 + 64 * k) 64 (omega (arith, length-replicate 2048 z)))
      (λ i h. get_d_part z (replicate 2048 z) (0 + 64 * k) 64 i h ∙ get_or-replicate 2048 (0 + 64 * k + i) z z (omega arith)))

  module _ (transformed S₁ S₂ T : List ℕ) (few : x.count + L ≤ 96) (most : L ≤ 32) (weights : NttWeights transformed R alpha x.count beta L) (job : (j : ℕ) → get_or J j 0 ≤ 4294967295)
      (scratch : (j : ℕ) → get_or S j 0 ≤ 4294967295)
      (stored : S₁ ≡ splice S regions.phi (φ_mixed J x S y transformed (r * n)))
      (held : HasLines T (replicate 2048 0) S y W s (r * n))
      (made : S₂ ≡ splice S₁ regions.b2 (flat (table L (formed_with S₁ regions.a2 regions.g r T)))) where
    -- φ
    φ-stored : S₁ ≡ with_φ J x R alpha beta S regions L r n
    φ-stored = stored ∙ ap (splice S regions.phi) (ntt_mixed-all J x S y (r * n) transformed R alpha beta (omega arith) weights.0 weights.1 job scratch)

    -- the inner products of k
    line : (k : ℕ) → k < L → element_at T 0 k ≡ dot (r * n) (element_at S₁ (regions.phi2 + 64 * (k * (r * n)))) (element_at W s)
    line k l =
        held k l
        ∙ ap (λ e. e ⊕ dot (r * n) (run S (regions.phi2 + 64 * (r * n) * k) 64) (run W s 64)) (zero_total k (omega arith))
        ∙ nil-add RqOps rq_ring (dot (r * n) (run S (regions.phi2 + 64 * (r * n) * k) 64) (run W s 64))
        ∙ dot_ext RqOps (r * n) (run S (regions.phi2 + 64 * (r * n) * k) 64) (element_at S₁ (regions.phi2 + 64 * (k * (r * n)))) (run W s 64) (element_at W s)
        (λ m d.
        let there : regions.phi2 + 64 * (k * (r * n)) + 64 * m ≡ regions.phi2 + 64 * (r * n) * k + 64 * m = omega arith in
        let ends : regions.phi2 + 64 * (r * n) * k + 64 * m + 64 ≤ regions.phi = omega (arith, p.0.4, mul-le-mul_left (r * n) l) in
        sym (ap element (ap (λ o. part S₁ o 64) there ∙ ap (λ w. part w (regions.phi2 + 64 * (r * n) * k + 64 * m) 64) stored
        ∙ part-splice-before 0 S regions.phi (φ_mixed J x S y transformed (r * n)) (regions.phi2 + 64 * (r * n) * k + 64 * m) 64 ends)))
        (λ m d. refl)

    pub pass_made : S₂ ≡ with_φ_and_b'' J x R alpha beta S regions L r n W s
    unfolding formed
    pass_made =
        made
        ∙ ap (λ cells. splice S₁ regions.b2 (flat cells))
        (table_ext L (formed_with S₁ regions.a2 regions.g r T) (λ k. formed S₁ (regions.a2 + 64 * (k * triangular r)) regions.g (regions.phi2 + 64 * (k * (r * n))) r n W s)
        (λ k l. ap (λ e. pairs r (λ i j. element_at S₁ (regions.a2 + 64 * (k * triangular r)) (cell i j) ⊗ element_at S₁ regions.g (cell i j)) ⊕ e) (line k l)))
        ∙ ap (λ w. with_b'' w regions L r n W s) φ-stored

-- where the one pass is chosen, the weights have room, and the sums of every k
pub pass_weights : (width alphas betas : ℕ) → one_pass_faster width alphas betas ≡ true → Weights alphas betas × (betas ≤ 32)
pass_weights width alphas betas = go (ltb 32 betas) refl
  where
    go : (t : Bool) → ltb 32 betas ≡ t → cond t false (ntt_faster width alphas betas) ≡ true → Weights alphas betas × (betas ≤ 32)
    go true e h = absurd (false≢true h)
    go false e h = (faster_weights width alphas betas h, ltb-false 32 betas e)
