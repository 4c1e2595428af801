-- Blocks of products added one after the other.
use mathlib.Core.Path.{◌≡◌, refl, sym, ap, ap₂, ◌∙◌}
use mathlib.Core.List.{List}
use Prim.Native.Nat.{ℕ, ◌+◌, ◌*◌, ◌≤◌}
use native.Mathlib.Nat.{zero-add}
use native.Mathlib.Omega.{arith}
use lib.ListN.{length}
use Rattle.math.specs.lists.Table.{table}
use Rattle.math.specs.lists.Part.{splice}
use Rattle.math.specs.algebra.Ops as Ops
use Rattle.math.proofs.algebra.Sum.{sum_ext, sum_split}
use Rattle.spec_leaves.specs.Rq.{Element}
use Rattle.spec_leaves.specs.Ring.{RqOps}
use Rattle.spec_leaves.proofs.RqRing.{rq_ring}
use Rattle.ring_inner_product.specs.Run.{run}
use Rattle.spec_protocol.specs.Views.{element_at}
use Rattle.spec_protocol.specs.Formulas.{◌⊕◌, ◌⊗◌, flat}
use Rattle.ring_rq_matrix.proofs.Place.{rows-within, run-from}
use Rattle.load_constraints.specs.declared.sums.Target.{Target}
use Rattle.load_constraints.specs.Sums.{terms, plus, Placed}
use Rattle.load_constraints.proofs.Plus.{plus-plus, plus_ext, plus_none, read_between}
use Rattle.load_constraints.specs.Products.{Before, Canonical, with_terms}

-- the sums of b alone
abbrev b_alone : (to count : ℕ) → Target
b_alone to count = record { b0_at = 0; l = 0; b_at = to; k = count }

-- no terms
abbrev none : ℕ → Element
none x = RqOps.nil

module _ (J : List ℕ) (base m to count : ℕ) (before : Before J base m to count) where
  placed : Placed J (b_alone to count) 0 base m
  placed = record {
    before₀ = omega arith;
    between = omega arith;
    before = before.before;
    within = before.within;
    few_l = omega arith;
    few_k = before.few_k;
    few = before.few;
  }

  -- in a slice of the same length
  pub before_same : (job : List ℕ) → length job ≡ length J → Before job base m to count
  before_same job e = record { before = before.before; within = omega (arith, before.within); few_k = before.few_k; few = before.few }

  -- no block
  pub blocks_none : (ω : ℕ → Element) → Canonical J to count → J ≡ splice J to (flat (table count (with_terms J base m to 0 0 ω)))
  unfolding plus splice table Ops.sum
  blocks_none ω canonical = sym (plus_none J (b_alone to count) 0 base m placed record { b₀ = λ x h. absurd (omega arith); b = canonical })

  -- one more block
  pub blocks_next : (job next : List ℕ) (c n : ℕ) (s : List ℕ) (s-at place : ℕ) → c + n ≤ m → place ≡ s-at + 64 * c
      → job ≡ splice J to (flat (table count (with_terms J base m to 0 c (run s s-at 64))))
      → next ≡ splice job to (flat (table count (with_terms job base m to c n (run s place 64))))
      → next ≡ splice J to (flat (table count (with_terms J base m to 0 (c + n) (run s s-at 64))))
  unfolding plus splice table
  blocks_next job next c n s s-at place inside there now added =
      let ω : ℕ → Element = run s s-at 64 in
      let G : ℕ → Element = terms J base m 0 c ω in
      let t : Target = b_alone to count in
      added
      ∙ ap₂ (λ l f. plus l t none (terms l base m c n f)) now (run-from s s-at c place there)
      ∙ plus-plus J t 0 base m placed none G none (terms (plus J t none G) base m c n (λ j. ω (c + j)))
      ∙ plus_ext J t 0 base m placed (λ x. none x ⊕ none x) (λ x. G x ⊕ terms (plus J t none G) base m c n (λ j. ω (c + j)) x) (λ x. none x ⊕ none x) (terms J base m 0 (c + n) ω)
      (λ x l. refl)
      (λ x l.
      ap (λ y. G x ⊕ y)
      (sum_ext RqOps n (λ j. element_at (plus J t none G) base (x * m + (c + j)) ⊗ ω (c + j)) (λ j. element_at J base (x * m + (0 + (c + j))) ⊗ ω (c + j))
      (λ j h. ap (λ y. y ⊗ ω (c + j))
      (read_between J t 0 base m placed none G (x * m + (c + j)) (omega (arith, rows-within x count m l)) ∙ ap (λ q. element_at J base (x * m + q)) (sym (zero-add (c + j))))))
      ∙ sym (sum_split RqOps rq_ring c n (λ j. element_at J base (x * m + (0 + j)) ⊗ ω j)))
