use mathlib.Core.Path.{◌≡◌, refl, sym, ap, subst, ◌∙◌}
use Prim.Native.Nat.{◌+◌, ◌-◌, ◌*◌, ◌≤◌, ◌^◌}
use native.Mathlib.Omega.{arith}
use lib.ListN.{length}
use Rattle.math.specs.lists.Part.{part}
use Rattle.math.proofs.lists.Splice.{length-splice, length_part}
use Rattle.spec_leaves.specs.Ring.{words}
use Rattle.ring_inner_product.specs.Run.{run}
use Rattle.spec_protocol.specs.Formulas.{dot}
use Rattle.ring_rq_matrix.proofs.Place.{rows-within}
use Rattle.core_aggregate.proofs.Grid.{row-run}
use Rattle.ring_digit_products.specs.Forms.{SmallDigits}
use Rattle.ring_digit_products.proofs.Shifted.{formed}
use Rattle.verify_many_windows.proofs.DigitLaws.{product_none, product_next}
use Rattle.verify_many_windows.proofs.digits.product_by_forms.Goals.{In-loop-c}
use Rattle.verify_many_windows.proofs.digits.product_by_forms.Goals as goal

-- the digits of cell c and the row's entries for it lie within their slices
within : (c : In-loop-c)
    → let s = c.args in
    let l = c.loop-c in
    (l.from + 64 * s.parts ≤ length s.v.now) × (l.column + 64 * s.parts ≤ length s.matrix.now) × (s.parts ≤ 32)
within c =
    let l = c.loop-c in
    let r = rows-within l.c c.args.cells c.args.parts c.loop-c-test.true in
    (omega (arith, r, c.requires.1, l.invariant.2), omega (arith, r, c.requires.0, l.invariant.1), c.requires.2.few_parts)

-- as many words as a cell's digits have
lent : (c : In-loop-c)
    → let s = c.args in
    let l = c.loop-c in
    part s.v.now l.from (l.from + 64 * s.parts - l.from) ≡ part s.v.now l.from (64 * s.parts)
lent c =
    let s = c.args in
    let l = c.loop-c in
    let n : l.from + 64 * s.parts - l.from ≡ 64 * s.parts = omega arith in
    ap (part s.v.now l.from) n

size : (c : In-loop-c)
    → let s = c.args in
    let l = c.loop-c in
    length (part s.v.now l.from (l.from + 64 * s.parts - l.from)) ≡ 64 * s.parts
size c =
    let s = c.args in
    let l = c.loop-c in
    ap length (lent c) ∙ length_part s.v.now l.from (64 * s.parts) (within c).0

pub loop-c-init : goal.loop-c-init
loop-c-init c =
    let s = c.args in
    (omega arith, omega arith, omega arith, refl, product_none s.matrix.now s.v.now s.row s.at s.parts _ c.zero-total.ensures)

pub store_forms-requires : goal.store_forms-requires
store_forms-requires c =
    let i = (goal.at.store_forms-requires c).In-loop-c in
    (c.requires.2.half_fits, omega (arith, size i), omega (arith, c.loop-c.invariant.3, c.requires.3))

pub inner_product-product-requires : goal.inner_product-product-requires
inner_product-product-requires c =
    let i = (goal.at.inner_product-product-requires c).In-loop-c in
    let l = c.loop-c in
    let n = c.args.parts in
    let v = c.args.v.now in
    let digits = part v l.from (l.from + 64 * n - l.from) in
    let few : n ≤ 2 ^ 18 = omega (arith, (within i).2) in
    let small : c.args.half ≤ 2 ^ 15 → SmallDigits c.args.half digits n =
    λ h. subst (λ x. SmallDigits c.args.half x n) (sym (lent i ∙ ap (λ a. part v a (64 * n)) l.invariant.2)) (c.requires.2.small h l.c c.loop-c-test.true) in (
      row-run c.args.matrix.now l.column n (within i).1 few (omega arith),
      row-run digits 0 n (omega (arith, size i)) few (omega (arith, size i, (within i).2)),
      record {
        few = c.requires.2.few_parts;
        formed = formed c.args.half (λ m. part digits (64 * m) 64) l.forms _ digits n c.store_forms.ensures (omega (arith, l.invariant.3, c.requires.3)) (λ m k. refl);
        small = small;
      },
    )

pub loop-c-preserved : goal.loop-c-preserved
loop-c-preserved c =
    let i = (goal.at.loop-c-preserved c).In-loop-c in
    let l = c.loop-c in
    let s = c.args in (
      omega arith,
      omega (arith, l.invariant.1),
      omega (arith, l.invariant.2),
      ap length c.store_forms.ensures ∙ length-splice l.forms 0 _ ∙ l.invariant.3,
      product_next s.matrix.now s.v.now s.row s.at s.parts l.c l.column l.from _ _ _ l.invariant.1 l.invariant.2 c.add-next.ensures l.invariant.4
          (c.inner_product-product.ensures ∙ ap (λ x. words (dot s.parts (run s.matrix.now l.column 64) (run x 0 64))) (lent i)),
    )

pub returns : goal.returns
returns c =
    let s = c.args in
    let l = c.loop-c in
    let n : l.c ≡ s.cells = omega arith in
    l.invariant.4 ∙ ap (λ k. words (dot (k * s.parts) (run s.matrix.now s.row 64) (run s.v.now s.at 64))) n

pub overflow_mul-block : goal.overflow_mul-block
overflow_mul-block c = omega (arith, c.requires.2.few_parts)

pub overflow_add-to : goal.overflow_add-to
overflow_add-to c = omega (arith, within (goal.at.overflow_add-to c).In-loop-c)

pub offset_bounds-v-from : goal.offset_bounds-v-from
offset_bounds-v-from c = omega (arith, within (goal.at.offset_bounds-v-from c).In-loop-c)

pub slice_bounds-digits-end : goal.slice_bounds-digits-end
slice_bounds-digits-end c = omega (arith, within (goal.at.slice_bounds-digits-end c).In-loop-c)

pub overflow_add-column : goal.overflow_add-column
overflow_add-column c = omega (arith, within (goal.at.overflow_add-column c).In-loop-c)

pub shape_of-forms : goal.shape_of-forms
shape_of-forms c = c.loop-c.invariant.3
