use mathlib.Core.Path.{◌≡◌, refl, sym, subst, ◌∙◌}
use Prim.Native.Nat.{◌+◌, ◌*◌}
use native.Mathlib.Omega.{arith}
use Rattle.ring_challenge_products.specs.Sums.{row_sum, Grown}
use Rattle.ring_challenge_products.proofs.Grown.{grown_none, grown_seven, place-small, grown_fit}
use Rattle.ring_challenge_products.proofs.products.add_row.Goals as goal

pub add_seven-requires : goal.add_seven-requires
add_seven-requires c =
    let l = c.loop-g in
    let p = place-small c.args.powers.now c.args.at l.g c.requires.1 (omega arith) in (
      grown_fit c.args.sums.now l.sums c.args.powers.now c.args.at c.args.e.now l.g c.requires.0 c.requires.1 c.requires.2 l.invariant.0 l.invariant.1,
      c.requires.2,
      p 0 _ (omega arith) (omega arith),
      p 1 _ (omega arith) (omega arith),
      p 2 _ (omega arith) (omega arith),
      p 3 _ (omega arith) (omega arith),
      p 4 _ (omega arith) (omega arith),
      p 5 _ (omega arith) (omega arith),
      p 6 _ (omega arith) (omega arith),
    )

pub loop-g-preserved : goal.loop-g-preserved
loop-g-preserved c =
    let s = c.args in
    let l = c.loop-g in (
      omega arith,
      grown_seven s.sums.now s.powers.now s.at s.e.now l.sums _ l.g _ _ _ _ _ _ _ l.invariant.1 refl refl refl refl refl refl refl c.add_seven.ensures,
    )

pub returns : goal.returns
returns c =
    let l = c.loop-g in
    let s = c.args in
    let n : 7 * l.g ≡ 42 = omega arith in
    subst (λ m. Grown s.sums.now l.sums (row_sum s.powers.now s.at s.e.now m)) n l.invariant.1

pub loop-g-init : goal.loop-g-init
loop-g-init c = (omega arith, grown_none c.args.sums.now c.args.powers.now c.args.at c.args.e.now c.requires.0.count)

pub overflow_add-t : goal.overflow_add-t
overflow_add-t c = omega (arith, c.requires.1.within)

pub offset_bounds-powers-t : goal.offset_bounds-powers-t
offset_bounds-powers-t c = omega (arith, c.requires.1.within)

pub bounds-powers-t : goal.bounds-powers-t
bounds-powers-t c = omega (arith, c.requires.1.within)

pub overflow_cast-a : goal.overflow_cast-a
overflow_cast-a c = let g = c.loop-g.g in
    omega (arith, place-small c.args.powers.now c.args.at g c.requires.1 (omega arith) 0 (c.args.at + 7 * g) (omega arith) (omega arith))

pub overflow_add-b : goal.overflow_add-b
overflow_add-b c = omega (arith, c.requires.1.within)

pub offset_bounds-powers-t-in-loop-g : goal.offset_bounds-powers-t-in-loop-g
offset_bounds-powers-t-in-loop-g c = omega (arith, c.requires.1.within)

pub bounds-powers-t-in-loop-g : goal.bounds-powers-t-in-loop-g
bounds-powers-t-in-loop-g c = omega (arith, c.requires.1.within)

pub overflow_cast-b : goal.overflow_cast-b
overflow_cast-b c = let g = c.loop-g.g in
    omega (arith, place-small c.args.powers.now c.args.at g c.requires.1 (omega arith) 1 (c.args.at + 7 * g + 1) (omega arith) (omega arith))

pub overflow_add-c : goal.overflow_add-c
overflow_add-c c = omega (arith, c.requires.1.within)

pub offset_bounds-powers-t-in-loop-g-2 : goal.offset_bounds-powers-t-in-loop-g-2
offset_bounds-powers-t-in-loop-g-2 c = omega (arith, c.requires.1.within)

pub bounds-powers-t-in-loop-g-2 : goal.bounds-powers-t-in-loop-g-2
bounds-powers-t-in-loop-g-2 c = omega (arith, c.requires.1.within)

pub overflow_cast-c : goal.overflow_cast-c
overflow_cast-c c = let g = c.loop-g.g in
    omega (arith, place-small c.args.powers.now c.args.at g c.requires.1 (omega arith) 2 (c.args.at + 7 * g + 2) (omega arith) (omega arith))

pub overflow_add-d : goal.overflow_add-d
overflow_add-d c = omega (arith, c.requires.1.within)

pub offset_bounds-powers-t-in-loop-g-3 : goal.offset_bounds-powers-t-in-loop-g-3
offset_bounds-powers-t-in-loop-g-3 c = omega (arith, c.requires.1.within)

pub bounds-powers-t-in-loop-g-3 : goal.bounds-powers-t-in-loop-g-3
bounds-powers-t-in-loop-g-3 c = omega (arith, c.requires.1.within)

pub overflow_cast-d : goal.overflow_cast-d
overflow_cast-d c = let g = c.loop-g.g in
    omega (arith, place-small c.args.powers.now c.args.at g c.requires.1 (omega arith) 3 (c.args.at + 7 * g + 3) (omega arith) (omega arith))

pub overflow_add-p : goal.overflow_add-p
overflow_add-p c = omega (arith, c.requires.1.within)

pub offset_bounds-powers-t-in-loop-g-4 : goal.offset_bounds-powers-t-in-loop-g-4
offset_bounds-powers-t-in-loop-g-4 c = omega (arith, c.requires.1.within)

pub bounds-powers-t-in-loop-g-4 : goal.bounds-powers-t-in-loop-g-4
bounds-powers-t-in-loop-g-4 c = omega (arith, c.requires.1.within)

pub overflow_cast-p : goal.overflow_cast-p
overflow_cast-p c = let g = c.loop-g.g in
    omega (arith, place-small c.args.powers.now c.args.at g c.requires.1 (omega arith) 4 (c.args.at + 7 * g + 4) (omega arith) (omega arith))

pub overflow_add-q : goal.overflow_add-q
overflow_add-q c = omega (arith, c.requires.1.within)

pub offset_bounds-powers-t-in-loop-g-5 : goal.offset_bounds-powers-t-in-loop-g-5
offset_bounds-powers-t-in-loop-g-5 c = omega (arith, c.requires.1.within)

pub bounds-powers-t-in-loop-g-5 : goal.bounds-powers-t-in-loop-g-5
bounds-powers-t-in-loop-g-5 c = omega (arith, c.requires.1.within)

pub overflow_cast-q : goal.overflow_cast-q
overflow_cast-q c = let g = c.loop-g.g in
    omega (arith, place-small c.args.powers.now c.args.at g c.requires.1 (omega arith) 5 (c.args.at + 7 * g + 5) (omega arith) (omega arith))

pub overflow_add-s : goal.overflow_add-s
overflow_add-s c = omega (arith, c.requires.1.within)

pub offset_bounds-powers-t-in-loop-g-6 : goal.offset_bounds-powers-t-in-loop-g-6
offset_bounds-powers-t-in-loop-g-6 c = omega (arith, c.requires.1.within)

pub bounds-powers-t-in-loop-g-6 : goal.bounds-powers-t-in-loop-g-6
bounds-powers-t-in-loop-g-6 c = omega (arith, c.requires.1.within)

pub overflow_cast-s : goal.overflow_cast-s
overflow_cast-s c = let g = c.loop-g.g in
    omega (arith, place-small c.args.powers.now c.args.at g c.requires.1 (omega arith) 6 (c.args.at + 7 * g + 6) (omega arith) (omega arith))

pub shape_of-sums : goal.shape_of-sums
shape_of-sums c = c.loop-g.invariant.1.count ∙ sym c.requires.0.count
