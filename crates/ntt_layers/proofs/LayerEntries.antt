-- The entries of a layer by the place that they come from.
use mathlib.Core.Path.{◌≡◌, ap, ◌∙◌}
use mathlib.Core.Bool.{cond}
use mathlib.Core.List.{List}
use Prim.Native.Nat.{ℕ, ◌+◌, ◌-◌, ◌*◌, ◌/◌, ◌%◌}
use native.Mathlib.Omega.{arith}
use borrow.Author.Tests.{eq-eqb, ne_eqb}
use lib.ListN.{get_or}
use Rattle.ntt_layers.specs.Fold.{prime}
use Rattle.ntt_layers.specs.Layer.{turned, layer_at}

pub layer_at_even : (d neginv : ℕ) (w : List ℕ) (at : ℕ) (x : List ℕ) (t : ℕ) → layer_at d neginv w at x (2 * t) ≡ get_or x t 0 + turned d neginv w at x t
unfolding layer_at
layer_at_even d neginv w at x t =
    let half : 2 * t / 2 ≡ t = omega arith in
    ap (λ b. cond b (get_or x (2 * t / 2) 0 + turned d neginv w at x (2 * t / 2)) (get_or x (2 * t / 2) 0 + (3 * prime d - turned d neginv w at x (2 * t / 2)))) (eq-eqb (2 * t % 2) 0 (omega arith))
    ∙ ap (λ i. get_or x i 0 + turned d neginv w at x i) half

pub layer_at_odd : (d neginv : ℕ) (w : List ℕ) (at : ℕ) (x : List ℕ) (t : ℕ) → layer_at d neginv w at x (2 * t + 1) ≡ get_or x t 0 + (3 * prime d - turned d neginv w at x t)
unfolding layer_at
layer_at_odd d neginv w at x t =
    let half : (2 * t + 1) / 2 ≡ t = omega arith in
    ap (λ b. cond b (get_or x ((2 * t + 1) / 2) 0 + turned d neginv w at x ((2 * t + 1) / 2)) (get_or x ((2 * t + 1) / 2) 0 + (3 * prime d - turned d neginv w at x ((2 * t + 1) / 2))))
    (ne_eqb ((2 * t + 1) % 2) 0 (omega arith))
    ∙ ap (λ i. get_or x i 0 + (3 * prime d - turned d neginv w at x i)) half
