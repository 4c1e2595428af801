-- Sums for b0 and b, added up where they stand.
use Rattle.std.specs.Prelude.{List, ℕ, ◌+◌, ◌*◌, ◌%◌, ◌≤◌, ◌<◌, length, get_or}
use Rattle.math.specs.lists.Sum.{Σ}
use Rattle.math.specs.lists.Table.{table}
use Rattle.math.specs.lists.Part.{splice}
use Rattle.spec_leaves.specs.Zq.{Q, zadd}
use Rattle.spec_leaves.specs.Rq.{Element, coeff}
use Rattle.spec_leaves.specs.Ring.{words, element}
use Rattle.spec_protocol.specs.Views.{element_at}
use Rattle.spec_protocol.specs.Formulas.{◌⊕◌, ◌⊗◌, sum, flat}
use Rattle.load_constraints.specs.declared.sums.Target.{Target}

-- coefficients times the words from a place on, added up
abbrev pub dot_at : List ℕ → List ℕ → ℕ → ℕ
dot_at c ws at = Σ 64 (λ i. coeff c i * get_or ws (at + i) 0) % Q

-- element `cell` of constraint x, of m elements each from a place on, times a weight's words
abbrev pub term : List ℕ → (base m cell : ℕ) → List ℕ → ℕ → Element
term J base m cell weight x = element_at J base (x * m + cell) ⊗ element weight

-- of constraint x: so many of its m elements from one on, each with its weight
abbrev pub terms : List ℕ → (base m row count : ℕ) → (ℕ → Element) → ℕ → Element
terms J base m row count ω x = sum count (λ j. element_at J base (x * m + (row + j)) ⊗ ω j)

-- a job with F x added to number x of b0, its constant coefficient alone, and G k to element k of b
unfoldable pub plus : List ℕ → Target → (ℕ → Element) → (ℕ → Element) → List ℕ
plus J t F G =
    splice
    (splice J t.b0_at (table t.l (λ x. zadd (get_or J (t.b0_at + x) 0) (coeff (words (F x)) 0))))
    t.b_at
    (flat (table t.k (λ k. element_at J t.b_at k ⊕ G k)))

-- the elements that are multiplied stand before the sums: l times m of them, b0, k times m of them, b
pub record Placed (J : List ℕ) (t : Target) (base₀ base m : ℕ) : Type 0 where
  pub before₀ : base₀ + 64 * (t.l * m) ≤ t.b0_at
  pub between : t.b0_at + t.l ≤ base
  pub before : base + 64 * (t.k * m) ≤ t.b_at
  pub within : t.b_at + 64 * t.k ≤ length J
  pub few_l : t.l ≤ 64
  pub few_k : t.k ≤ 64
  pub few : m ≤ 1024

-- the sums so far are canonical
pub record Reduced (J : List ℕ) (t : Target) : Type 0 where
  pub b₀ : (x : ℕ) → x < t.l → get_or J (t.b0_at + x) 0 < Q
  pub b : (x : ℕ) → x < 64 * t.k → get_or J (t.b_at + x) 0 < Q
