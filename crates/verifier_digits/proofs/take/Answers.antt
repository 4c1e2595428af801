-- `take` meets its contract.
use mathlib.Core.Path.{◌≡◌, refl, sym, ap, subst}
use Prim.Native.Nat.{ℕ, ◌+◌, ◌*◌, ◌≤◌, ◌^◌}
use native.Mathlib.Omega.{arith}
use lib.Dec.{leb}
use lib.ListN.{length}
use Rattle.math.specs.lists.Table.{table}
use Rattle.spec_leaves.specs.Rq.{Element}
use Rattle.ring_inner_product.specs.Run.{run}
use Rattle.spec_protocol.specs.Formulas.{count_left}
use Rattle.spec_protocol.proofs.CellsLeft.{count-at_most}
use Rattle.verifier_common.proofs.Sent.{received_room, product_small}
use Rattle.verifier_digits.proofs.Digits.{t_norm_is, g_norm_is, h_norm_is, Found, sum_is, cells_left_is}
use Rattle.verifier_digits.proofs.take.Goals.{After-digits_norm-h}
use Rattle.verifier_digits.proofs.take.Goals as goal

-- few cells
few : (n m : ℕ) → n ≤ m → m ≤ 256 → n ≤ 2 ^ 18
few n m h h' = omega arith

-- the norm of few cells
norm_small : (x n m : ℕ) → x ≤ 2048 * n * 2 ^ 64 → n ≤ m → m ≤ 256 → x ≤ 524288 * 2 ^ 64
norm_small x n m h h' e = omega arith

-- the norm of two parts of few elements
parts_small : (x n : ℕ) → x ≤ 128 * n * 2 ^ 64 → n ≤ 64 → x ≤ 524288 * 2 ^ 64
parts_small x n h e = omega arith

-- the four norms
z_small : (c : After-digits_norm-h) → c.two_parts_norm-z.result ≤ 524288 * 2 ^ 64
z_small c = parts_small _ _ c.two_parts_norm-z.ensures.1 c.requires.sized.within.n.1

t_small : (c : After-digits_norm-h) → c.digits_norm-t.result.norm ≤ 524288 * 2 ^ 64
t_small c =
    let s = c.args in
    let w = c.requires in
    norm_small _ _ 256 c.digits_norm-t.ensures.norm_value.1 (product_small s.params.multiplicity s.params.kappa w.sized.within.r.1 w.sized.within.κ.1)
    (omega arith)

g_small : (c : After-digits_norm-h) → c.digits_norm-g.result.norm ≤ 524288 * 2 ^ 64
g_small c = norm_small _ _ 136 c.digits_norm-g.ensures.norm_value.1 c.triangle-cells.ensures.1 (omega arith)

h_small : (c : After-digits_norm-h) → c.digits_norm-h.result.norm ≤ 524288 * 2 ^ 64
h_small c = norm_small _ _ 136 c.digits_norm-h.ensures.norm_value.1 c.triangle-cells.ensures.1 (omega arith)

-- how many cells of each have something left
few-left : (b parts n m x : ℕ) (f : ℕ → Element) → x ≡ count_left b parts (table n f) → n ≤ m → x ≤ m
few-left b parts n m x f e l = omega (arith, count-at_most b parts n f)

t-left : (c : After-digits_norm-h) → c.digits_norm-t.result.cells_left ≤ 256
t-left c =
    let w = c.requires.sized.within in
    let d = c.digits_norm-t in
    few-left c.args.params.b c.args.params.t_1 (c.args.params.multiplicity * c.args.params.kappa) 256 d.result.cells_left
    (run c.args.transcript.now c.of_transcript-2.result 64)
    d.ensures.cells_left_value
    (product_small c.args.params.multiplicity c.args.params.kappa w.r.1 w.κ.1)

g-left : (c : After-digits_norm-h) → c.digits_norm-g.result.cells_left ≤ 136
g-left c =
    let s = c.args in
    let t = c.triangle-cells in
    let d = c.digits_norm-g in
    few-left s.params.b s.params.t_2 t.result 136 d.result.cells_left (run s.transcript.now c.of_transcript-3.result 64) d.ensures.cells_left_value
    t.ensures.1

h-left : (c : After-digits_norm-h) → c.digits_norm-h.result.cells_left ≤ 136
h-left c =
    let s = c.args in
    let t = c.triangle-cells in
    let d = c.digits_norm-h in
    few-left s.params.b s.params.t_1 t.result 136 d.result.cells_left (run s.transcript.now c.of_transcript-4.result 64) d.ensures.cells_left_value t.ensures.1

-- what is found of the four norms
found : (c : After-digits_norm-h)
    → let s = c.args in
    Found s.transcript.now s.params c.triangle-cells.result
    c.of_transcript.result c.of_transcript-2.result
    c.of_transcript-3.result c.of_transcript-4.result
    c.two_parts_norm-z.result c.digits_norm-t.result.norm
    c.digits_norm-g.result.norm c.digits_norm-h.result.norm
found c = record {
  size = c.triangle-cells.ensures.0;
  z-place = c.of_transcript.ensures;
  t-place = c.of_transcript-2.ensures;
  g-place = c.of_transcript-3.ensures;
  h-place = c.of_transcript-4.ensures;
  z_is = c.two_parts_norm-z.ensures.0;
  t_is = c.digits_norm-t.ensures.norm_value.0;
  g_is = c.digits_norm-g.ensures.norm_value.0;
  h_is = c.digits_norm-h.ensures.norm_value.0;
}

pub two_parts_norm-z-requires : goal.two_parts_norm-z-requires
two_parts_norm-z-requires c =
    let w = c.requires in
    (received_room w 4 c.of_transcript.result (omega arith) c.of_transcript.ensures, w.sized.within.b.0, few _ 64 w.sized.within.n.1 (omega arith))

pub overflow_mul-params : goal.overflow_mul-params
overflow_mul-params c =
    let s = c.args in
    let w = c.requires in
    omega (arith, product_small s.params.multiplicity s.params.kappa w.sized.within.r.1 w.sized.within.κ.1)

pub digits_norm-t-requires : goal.digits_norm-t-requires
digits_norm-t-requires c =
    let s = c.args in
    let w = c.requires in
    let o = c.of_transcript-2 in (
      received_room w 5 o.result (omega arith) o.ensures,
      w.sized.within.b.0,
      w.sized.within.t₁.1,
      few _ 256
          (product_small s.params.multiplicity s.params.kappa w.sized.within.r.1 w.sized.within.κ.1) (omega arith),
    )

pub digits_norm-g-requires : goal.digits_norm-g-requires
digits_norm-g-requires c =
    let s = c.args in
    let w = c.requires in
    let t = c.triangle-cells in
    let o = c.of_transcript-3 in (
      subst (λ n. o.result + 64 * n ≤ length s.transcript.now) (sym t.ensures.0)
          (received_room w 6 o.result (omega arith) o.ensures),
      w.sized.within.b.0,
      w.sized.within.t₂.1,
      few t.result 136 t.ensures.1 (omega arith),
    )

pub digits_norm-h-requires : goal.digits_norm-h-requires
digits_norm-h-requires c =
    let s = c.args in
    let w = c.requires in
    let t = c.triangle-cells in
    let o = c.of_transcript-4 in (
      subst (λ n. o.result + 64 * n ≤ length s.transcript.now) (sym t.ensures.0)
          (received_room w 7 o.result (omega arith) o.ensures),
      w.sized.within.b.0,
      w.sized.within.t₁.1,
      few t.result 136 t.ensures.1 (omega arith),
    )

pub overflow_add-sum : goal.overflow_add-sum
overflow_add-sum c = let m = (goal.at.overflow_add-sum c).After-digits_norm-h in omega (arith, z_small m, t_small m)

pub overflow_add-sum-2 : goal.overflow_add-sum-2
overflow_add-sum-2 c = let m = (goal.at.overflow_add-sum-2 c).After-digits_norm-h in omega (arith, z_small m, t_small m, g_small m)

pub overflow_add-sum-3 : goal.overflow_add-sum-3
overflow_add-sum-3 c = let m = (goal.at.overflow_add-sum-3 c).After-digits_norm-h in omega (arith, z_small m, t_small m, g_small m, h_small m)

pub overflow_add-result : goal.overflow_add-result
overflow_add-result c =
    let m = (goal.at.overflow_add-result c).After-digits_norm-h in omega (arith, t-left m, g-left m)

pub overflow_add-result-2 : goal.overflow_add-result-2
overflow_add-result-2 c =
    let m = (goal.at.overflow_add-result-2 c).After-digits_norm-h in omega (arith, t-left m, g-left m, h-left m)

pub returns : goal.returns
returns c =
    let m = (goal.at.returns c).After-digits_norm-h in
    let s = c.args in
    let f = found m in record {
      sum = sum_is s.transcript.now s.params _ _ _ _ _ _ _ _ _ f _ _ _ refl refl refl;
      t = ap (λ x. leb x s.params.bound_b) (t_norm_is s.transcript.now s.params _ _ f.t-place f.t_is);
      g = ap (λ x. leb x s.params.bound_c) (g_norm_is s.transcript.now s.params _ _ _ f.g-place f.size f.g_is);
      h = ap (λ x. leb x s.params.bound_d) (h_norm_is s.transcript.now s.params _ _ _ f.h-place f.size f.h_is);
      left = cells_left_is s.transcript.now s.params _ _ _ _ _ _ _ f.size f.t-place f.g-place f.h-place c.digits_norm-t.ensures.cells_left_value
          c.digits_norm-g.ensures.cells_left_value c.digits_norm-h.ensures.cells_left_value;
    }

pub triangle-cells-requires : goal.triangle-cells-requires
triangle-cells-requires c = c.requires.sized.within.r.1

pub of_transcript-requires : goal.of_transcript-requires
of_transcript-requires c = (c.requires.sized, omega arith)

pub of_transcript-requires-2 : goal.of_transcript-requires-2
of_transcript-requires-2 c = (c.requires.sized, omega arith)

pub of_transcript-requires-3 : goal.of_transcript-requires-3
of_transcript-requires-3 c = (c.requires.sized, omega arith)

pub of_transcript-requires-4 : goal.of_transcript-requires-4
of_transcript-requires-4 c = (c.requires.sized, omega arith)
