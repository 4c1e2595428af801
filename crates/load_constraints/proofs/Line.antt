-- b0's terms of a line, and then b's, are both.
use mathlib.Core.Path.{◌≡◌, sym, ap, ap₂, subst, ◌∙◌}
use mathlib.Core.List.{List, flat_map}
use Prim.Native.Nat.{ℕ, ◌+◌, ◌*◌, ◌<◌}
use native.Mathlib.Omega.{arith}
use lib.ListN.{length, get_or}
use Rattle.math.specs.lists.Table.{table}
use Rattle.math.specs.lists.Part.{splice}
use Rattle.math.proofs.lists.Table.{length-table, table_ext}
use Rattle.math.proofs.lists.Splice.{length-splice, get_or-splice-after, part-splice-after}
use Rattle.math.proofs.algebra.Sum.{sum_ext}
use Rattle.spec_leaves.specs.Zq.{Q, zadd}
use Rattle.spec_leaves.specs.Rq.{Element, coeff}
use Rattle.spec_leaves.specs.Ring.{RqOps, words, element}
use Rattle.spec_protocol.specs.Views.{element_at}
use Rattle.spec_protocol.specs.Formulas.{◌⊕◌, ◌⊗◌, flat}
use Rattle.load_constraints.specs.declared.sums.Target.{Target}
use Rattle.load_constraints.specs.Sums.{terms, plus, Placed, Reduced}
use Rattle.load_constraints.specs.Products.{Before, Canonical, with_terms}

-- the sums of b0 alone
abbrev pub numbers : Target → Target
numbers t = record { b0_at = t.b0_at; l = t.l; b_at = t.b_at; k = 0 }

module _ (J : List ℕ) (t : Target) (base₀ base m : ℕ) (placed : Placed J t base₀ base m) where
  open t use {b0_at, l, b_at, k}

  pub numbers_placed : Placed J (numbers t) base₀ base m
  numbers_placed = record {
    before₀ = placed.before₀;
    between = placed.between;
    before = omega (arith, placed.before);
    within = omega (arith, placed.within);
    few_l = placed.few_l;
    few_k = omega arith;
    few = placed.few;
  }

  pub numbers_reduced : Reduced J t → Reduced J (numbers t)
  numbers_reduced reduced = record { b₀ = reduced.b₀; b = λ x h. absurd (omega arith) }

  module _ (one : List ℕ) (F G : ℕ → Element) (first : one ≡ plus J (numbers t) F G) where
    abbrev values : List ℕ
    values = table l (λ x. zadd (get_or J (b0_at + x) 0) (coeff (words (F x)) 0))

    size : length values ≡ l
    size = length-table l (λ x. zadd (get_or J (b0_at + x) 0) (coeff (words (F x)) 0))

    stored : one ≡ splice J b0_at values
    unfolding plus splice table flat flat_map
    stored = first

    pub line_before : Before one base m b_at k
    line_before = record {
      before = placed.before;
      within = omega (arith, placed.within, ap length stored, length-splice J b0_at values);
      few_k = placed.few_k;
      few = placed.few;
    }

    pub line_canonical : Reduced J t → Canonical one b_at k
    line_canonical reduced x h =
        subst (λ w. w < Q) (sym (ap (λ w. get_or w (b_at + x) 0) stored ∙ get_or-splice-after J b0_at values (b_at + x) 0 (omega (arith, placed, size)))) (reduced.b x h)

-- both
pub line_added : (J one two : List ℕ) (t : Target) (base₀ base m : ℕ) (ω : ℕ → Element) → Placed J t base₀ base m
    → one ≡ plus J (numbers t) (terms J base₀ m 0 m ω) (terms J base m 0 m ω)
    → two ≡ splice one t.b_at (flat (table t.k (with_terms one base m t.b_at 0 m ω)))
    → two ≡ plus J t (terms J base₀ m 0 m ω) (terms J base m 0 m ω)
unfolding plus
line_added J one two t base₀ base m ω placed first second =
    let F : ℕ → Element = terms J base₀ m 0 m ω in
    let G : ℕ → Element = terms J base m 0 m ω in
    let values : List ℕ = table t.l (λ x. zadd (get_or J (t.b0_at + x) 0) (coeff (words (F x)) 0)) in
    let size : length values ≡ t.l = length-table t.l (λ x. zadd (get_or J (t.b0_at + x) 0) (coeff (words (F x)) 0)) in
    second
    ∙ ap (λ l. splice l t.b_at (flat (table t.k (with_terms l base m t.b_at 0 m ω)))) (stored J t base₀ base m placed one F G first)
    ∙ ap (λ es. splice (splice J t.b0_at values) t.b_at (flat es))
    (table_ext t.k (with_terms (splice J t.b0_at values) base m t.b_at 0 m ω) (λ k. element_at J t.b_at k ⊕ G k)
    (λ k h. ap₂ ◌⊕◌
    (ap element (part-splice-after 0 J t.b0_at values (t.b_at + 64 * k) 64 (omega (arith, placed, size))))
    (sum_ext RqOps m (λ j. element_at (splice J t.b0_at values) base (k * m + (0 + j)) ⊗ ω j) (λ j. element_at J base (k * m + (0 + j)) ⊗ ω j)
    (λ j b. ap (λ e. e ⊗ ω j) (ap element (part-splice-after 0 J t.b0_at values (base + 64 * (k * m + (0 + j))) 64 (omega (arith, placed, size))))))))
