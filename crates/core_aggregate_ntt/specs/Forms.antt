-- Sums of products of elements' values and a witness element's, 192 for each k.
use Rattle.std.specs.Prelude.{List, ℕ, ◌+◌, ◌-◌, ◌*◌, ◌/◌, ◌%◌, ◌≤◌, ◌<◌, length, get_or}
use Rattle.math.specs.lists.Table.{table}
use Rattle.math.specs.lists.Part.{part}
use Rattle.spec_leaves.specs.Rq.{Element}
use Rattle.spec_leaves.specs.Ring.{element}
use Rattle.ring_inner_product.specs.declared.Strided.{Strided}
use Rattle.ring_inner_product.specs.Run.{Within}
use Rattle.spec_protocol.specs.Views.{element_at}
use Rattle.spec_protocol.specs.Formulas.{◌⊕◌}
use Rattle.ntt_product.specs.NttForm.{most_products}
use Rattle.ntt_vectors.specs.NttForm.{ntt_form, AllValues}
use Rattle.ntt_vectors.specs.Sums.{inverse_from}

-- the products of an element's values and the values of s added to the sums from a place on
unfoldable pub form_added : List ℕ → ℕ → List ℕ → List ℕ → List ℕ
form_added forms form e s = table 192 (λ k. get_or forms (form + k) 0 + get_or (ntt_form e) k 0 * get_or s k 0)

-- those of so many elements a step apart, each added to sums of its own
unfoldable pub forms_added : List ℕ → List ℕ → (at step count : ℕ) → List ℕ → List ℕ
forms_added forms from at step count s =
    table (192 * count) (λ j. get_or forms j 0 + get_or (ntt_form (part from (at + step * (j / 192)) 64)) (j % 192) 0 * get_or s (j % 192) 0)

-- those of a run
abbrev pub run_formed : List ℕ → List ℕ → Strided → List ℕ → List ℕ
run_formed forms from x s = forms_added forms from x.at x.step x.count s

-- an element lies within the slice, and the weight and s are values
abbrev pub TermRoom : List ℕ → ℕ → List ℕ → ℕ → List ℕ → Type 0
TermRoom from at weights weight s = (at + 64 ≤ length from) × AllValues weights weight 1 × AllValues s 0 1

-- a run lies within the slice, and its weights and s are values
abbrev pub ColumnRoom : List ℕ → Strided → List ℕ → ℕ → List ℕ → Type 0
ColumnRoom from x weights weights-at s = Within from x × AllValues weights weights-at x.count × AllValues s 0 1

-- 192 sums from a place on, with room for a term
abbrev pub FormSmall : List ℕ → ℕ → Type 0
FormSmall forms form = (form + 192 ≤ length forms) × ((k : ℕ) → k < 192 → get_or forms (form + k) 0 ≤ (most_products - 1) * 18032502047663104)

-- so many times 192 sums, each with room for a term
abbrev pub FormsSmall : List ℕ → ℕ → Type 0
FormsSmall forms count = (192 * count ≤ length forms) × ((j : ℕ) → j < 192 * count → get_or forms j 0 ≤ (most_products - 1) * 18032502047663104)

-- and the element of the witness lies within it
abbrev pub FormsRoom : List ℕ → ℕ → List ℕ → ℕ → Type 0
FormsRoom forms count witness s-at = (s-at + 64 ≤ length witness) × FormsSmall forms count

-- element k of the totals and the element whose values the sums of k are, together
abbrev pub total : List ℕ → List ℕ → ℕ → Element
total totals forms k = element_at totals 0 k ⊕ element (inverse_from forms (192 * k))
