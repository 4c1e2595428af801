-- Places of elements in a slice, and what stores leave of them.
use mathlib.Core.Path.{◌≡◌, refl, sym, ap, subst, ◌∙◌}
use mathlib.Core.List.{List}
use Prim.Native.Nat.{ℕ, ◌+◌, ◌*◌, ◌≤◌, ◌<◌, ◌^◌}
use native.Mathlib.Nat.{mul-le-mul_left}
use native.Mathlib.Omega.{arith}
use lib.ListN.{length}
use Rattle.math.specs.lists.Part.{splice}
use Rattle.math.proofs.lists.Splice.{part-splice-before}
use Rattle.math.specs.algebra.Ops.{dot}
use Rattle.math.proofs.algebra.Dot.{dot_ext}
use Rattle.spec_leaves.specs.Ring.{RqOps, element}
use Rattle.ring_inner_product.specs.declared.Strided.{Strided}
use Rattle.ring_inner_product.specs.Run.{Run, run, strided, Within, further}
use Rattle.core_aggregate_psi.specs.Grid.{Grid}
use Rattle.core_aggregate_psi.proofs.Sums.{grid_run}
use Rattle.core_aggregate.specs.Weighed.{mixed, Rows}

-- n elements one after the other are a run
pub row-run : (words : List ℕ) (at n : ℕ) → at + 64 * n ≤ length words → n ≤ 2 ^ 18 → length words < 2 ^ 61 → Run words at 64 n
row-run words at n h few short = record { within = λ m l. omega arith; few = few; near = omega arith; first = omega arith }

-- within any slice of the same length
pub grid_same : (words others : List ℕ) (at width count : ℕ) → length others ≡ length words → Grid words at width count → Grid others at width count
grid_same words others at width count e g = record { within = omega (arith, g.within); narrow = g.narrow; few = g.few }

-- element c of rows that lie within a slice shorter than 2^61 words
pub rows_run : (words : List ℕ) (x : Strided) (width c : ℕ) → Rows words x width → length words < 2 ^ 61 → c < width → Within words (further x c)
rows_run words x width c r short l = subst (λ step. Run words (x.at + 64 * c) step x.count) (sym r.1) (grid_run words x.at width x.count c r.0 short l)

-- rows within any slice of the same length
pub rows_same : (words others : List ℕ) (x : Strided) (width : ℕ) → length others ≡ length words → Rows words x width → Rows others x width
rows_same words others x width e r = (grid_same words others x.at width x.count e r.0, r.1)

-- where element c of row m ends, of rows that end before a place
pub row_ends : (x : Strided) (width to c m : ℕ) → x.step ≡ 64 * width → x.at + 64 * (width * x.count) ≤ to → c < width → m < x.count → x.at + 64 * c + x.step * m + 64 ≤ to
row_ends x width to c m e h l k = subst (λ step. x.at + 64 * c + step * m + 64 ≤ to) (sym e) (omega (arith, h, mul-le-mul_left width k))

-- what lies before a store keeps its elements
pub mixed-before : (job : List ℕ) (constraints : Strided) (weights : List ℕ) (alpha beta : ℕ) (l after : List ℕ) (x : Strided) (to : ℕ) (new : List ℕ)
    → after ≡ splice l to new → ((m : ℕ) → m < x.count → x.at + x.step * m + 64 ≤ to)
    → mixed job constraints weights alpha beta after x ≡ mixed job constraints weights alpha beta l x
unfolding mixed
mixed-before job constraints weights alpha beta l after x to new e h =
    ap (RqOps.add (dot RqOps constraints.count (run weights alpha 64) (strided job constraints)))
    (dot_ext RqOps x.count (run weights beta 64) (run weights beta 64) (strided after x) (strided l x) (λ m i. refl)
    (λ m i. ap (λ w. strided w x m) e ∙ ap element (part-splice-before 0 l to new (x.at + x.step * m) 64 (h m i))))
