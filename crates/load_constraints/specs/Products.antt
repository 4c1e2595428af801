-- Products of constraints' elements with weights, added up where b stands.
use Rattle.std.specs.Prelude.{List, ℕ, ◌+◌, ◌*◌, ◌≤◌, ◌<◌, length, get_or, replicate}
use Rattle.spec_leaves.specs.Zq.{Q}
use Rattle.spec_leaves.specs.Rq.{Element}
use Rattle.spec_leaves.specs.Ring.{element}
use Rattle.spec_protocol.specs.Views.{element_at}
use Rattle.spec_protocol.specs.Formulas.{◌⊕◌}
use Rattle.ntt_vectors.specs.Sums.{inverse_from}
use Rattle.core_aggregate_ntt.specs.Terms.{terms_added}
use Rattle.load_constraints.specs.Sums.{terms}

-- the element whose values are the sums of the products of n weights in NTT form with the elements from a place on
unfoldable pub ntt_line : List ℕ → (at n : ℕ) → List ℕ → Element
ntt_line J at n transformed = element (inverse_from (terms_added (replicate 192 0) transformed 0 J at 64 n) 0)

-- the elements that are multiplied stand before the sums: count times m of them
pub record Before (J : List ℕ) (base m to count : ℕ) : Type 0 where
  pub before : base + 64 * (count * m) ≤ to
  pub within : to + 64 * count ≤ length J
  pub few_k : count ≤ 64
  pub few : m ≤ 1024

-- the sums so far are canonical
abbrev pub Canonical : List ℕ → (to count : ℕ) → Type 0
Canonical J to count = (x : ℕ) → x < 64 * count → get_or J (to + x) 0 < Q

-- element k of the sums and the products of weights in NTT form with n elements of constraint k from one on, together
abbrev pub with_line : List ℕ → (base m to cell n : ℕ) → List ℕ → ℕ → Element
with_line J base m to cell n transformed k = element_at J to k ⊕ ntt_line J (base + 64 * (k * m + cell)) n transformed

-- the same of weights that are elements
abbrev pub with_terms : List ℕ → (base m to cell n : ℕ) → (ℕ → Element) → ℕ → Element
with_terms J base m to cell n ω k = element_at J to k ⊕ terms J base m cell n ω k
