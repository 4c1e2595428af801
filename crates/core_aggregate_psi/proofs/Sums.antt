-- Places of constraints' elements in a slice, and elements added to elements that are stored.
use mathlib.Core.Path.{◌≡◌, sym, ap, ◌∙◌}
use mathlib.Core.List.{List}
use Prim.Native.Nat.{ℕ, ◌+◌, ◌*◌, ◌≤◌, ◌<◌, ◌^◌}
use native.Mathlib.Nat.{mul-le-mul_left}
use native.Mathlib.Omega.{arith}
use lib.ListN.{length}
use Rattle.math.specs.lists.Part.{part, splice}
use Rattle.math.proofs.lists.Splice.{part-splice-after}
use Rattle.spec_leaves.specs.Rq.{Element, radd}
use Rattle.spec_leaves.specs.Ring.{RqOps, words, element}
use Rattle.spec_leaves.proofs.Bridge.{element-words, element-radd, words-element, radd-element}
use Rattle.ring_inner_product.specs.Run.{Run}
use Rattle.spec_protocol.specs.Formulas.{flat, rows}
use Rattle.spec_protocol.proofs.Flat.{length-flat, length-rows}
use Rattle.core_aggregate_psi.specs.Grid.{Grid}

-- of a slice shorter than 2^61 words
pub grid_run : (words : List ℕ) (at width count c : ℕ) → Grid words at width count → length words < 2 ^ 61 → c < width → Run words (at + 64 * c) (64 * width) count
grid_run words at width count c g short h = record {
  within = λ m l. omega (arith, g.within, mul-le-mul_left width l);
  few = omega (arith, g.few);
  near = omega (arith, g.narrow);
  first = omega (arith, g.within);
}

-- whatever words are stored, the sum is that of their element
pub words-add-element : (a : List ℕ) (e : Element) → words (RqOps.add (element a) e) ≡ radd a (words e)
words-add-element a e =
    ap words (ap (RqOps.add (element a)) (sym (element-words e)) ∙ sym (element-radd a (words e))) ∙ words-element (radd a (words e)) (radd-element a (words e))

-- what stands after k rows is as it was
pub rows-rest : (l after : List ℕ) (to k width : ℕ) (f : ℕ → ℕ → Element) (from n : ℕ) → after ≡ splice l to (flat (rows k width f)) → to + 64 * (k * width) ≤ from → part after from n ≡ part l from n
rows-rest l after to k width f from n e h =
    ap (λ x. part x from n) e ∙ part-splice-after 0 l to (flat (rows k width f)) from n (omega (arith, length-flat (rows k width f), length-rows k f width))
