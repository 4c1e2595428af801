-- `lay_out` meets its contract.
use mathlib.Core.Path.{◌≡◌, refl, ap}
use Prim.Native.Nat.{ℕ, ◌+◌, ◌*◌, ◌≤◌}
use native.Mathlib.Nat.{mul-le-mul}
use native.Mathlib.Omega.{arith}
use Rattle.spec_protocol.specs.Parameters.{triangular}
use Rattle.layout_regions.proofs.lay_out.Goals.{After-cells-cells}
use Rattle.layout_regions.proofs.lay_out.Goals as goal

-- bounds of the regions' sizes
record Sizes (n r κ L cells : ℕ) : Type 0 where
  vectors : r * n ≤ 16 * 64
  triangle : cells ≤ 136
  all-vectors : L * (r * n) ≤ 32 * (16 * 64)
  all_cells : L * cells ≤ 32 * 136
  products : r * κ ≤ 16 * 16

sizes : (n r κ L cells : ℕ) → cells ≡ triangular r → n ≤ 64 → r ≤ 16 → κ ≤ 16 → L ≤ 32 → Sizes n r κ L cells
sizes n r κ L cells e hn hr hκ hL =
    let rows : r + 1 ≤ 17 = omega arith in
    let few : cells ≤ 136 = omega (arith, mul-le-mul hr rows) in
    record {
      vectors = mul-le-mul hr hn;
      triangle = few;
      all-vectors = mul-le-mul hL (mul-le-mul hr hn);
      all_cells = mul-le-mul hL few;
      products = mul-le-mul hr hκ;
    }

bounds : (c : After-cells-cells) → let s = c.args in Sizes s.n s.r s.kappa s.l c.cells-cells.result
bounds c = sizes c.args.n c.args.r c.args.kappa c.args.l c.cells-cells.result c.cells-cells.ensures c.requires.0 c.requires.1 c.requires.2 c.requires.3

-- a place, so many elements on
elements_on : (at m n : ℕ) → m ≡ n → at + 64 * m ≡ at + 64 * n
elements_on at m n e = ap (λ n. at + 64 * n) e

pub returns : goal.returns
returns c =
    let T = c.cells-cells.ensures in
    record {
      first = refl;
      a2 = refl;
      phi = elements_on _ _ _ (ap (λ t. c.args.l * t) T);
      a_or_h = refl;
      g = elements_on _ _ _ T;
      challenges = elements_on _ _ _ T;
      t = refl;
      u = refl;
      b2 = refl;
    }

pub overflow_mul-width : goal.overflow_mul-width
overflow_mul-width c = omega (arith, mul-le-mul c.requires.1 c.requires.0)

pub overflow_mul-a2 : goal.overflow_mul-a2
overflow_mul-a2 c = omega (arith, bounds (goal.at.overflow_mul-a2 c).After-cells-cells)

pub overflow_mul-a2-2 : goal.overflow_mul-a2-2
overflow_mul-a2-2 c = omega (arith, bounds (goal.at.overflow_mul-a2-2 c).After-cells-cells)

pub overflow_add-a2 : goal.overflow_add-a2
overflow_add-a2 c = omega (arith, bounds (goal.at.overflow_add-a2 c).After-cells-cells)

pub overflow_mul-phi : goal.overflow_mul-phi
overflow_mul-phi c = omega (arith, bounds (goal.at.overflow_mul-phi c).After-cells-cells)

pub overflow_mul-phi-2 : goal.overflow_mul-phi-2
overflow_mul-phi-2 c = omega (arith, bounds (goal.at.overflow_mul-phi-2 c).After-cells-cells)

pub overflow_add-phi : goal.overflow_add-phi
overflow_add-phi c = omega (arith, bounds (goal.at.overflow_add-phi c).After-cells-cells)

pub overflow_mul-a_or_h : goal.overflow_mul-a_or_h
overflow_mul-a_or_h c = omega (arith, bounds (goal.at.overflow_mul-a_or_h c).After-cells-cells)

pub overflow_add-a_or_h : goal.overflow_add-a_or_h
overflow_add-a_or_h c = omega (arith, bounds (goal.at.overflow_add-a_or_h c).After-cells-cells)

pub overflow_mul-g : goal.overflow_mul-g
overflow_mul-g c = omega (arith, bounds (goal.at.overflow_mul-g c).After-cells-cells)

pub overflow_add-g : goal.overflow_add-g
overflow_add-g c = omega (arith, bounds (goal.at.overflow_add-g c).After-cells-cells)

pub overflow_mul-challenges : goal.overflow_mul-challenges
overflow_mul-challenges c = omega (arith, bounds (goal.at.overflow_mul-challenges c).After-cells-cells)

pub overflow_add-challenges : goal.overflow_add-challenges
overflow_add-challenges c = omega (arith, bounds (goal.at.overflow_add-challenges c).After-cells-cells)

pub overflow_mul-t : goal.overflow_mul-t
overflow_mul-t c = omega (arith, bounds (goal.at.overflow_mul-t c).After-cells-cells)

pub overflow_add-t : goal.overflow_add-t
overflow_add-t c = omega (arith, bounds (goal.at.overflow_add-t c).After-cells-cells)

pub overflow_mul-u : goal.overflow_mul-u
overflow_mul-u c = omega (arith, bounds (goal.at.overflow_mul-u c).After-cells-cells)

pub overflow_mul-u-2 : goal.overflow_mul-u-2
overflow_mul-u-2 c = omega (arith, bounds (goal.at.overflow_mul-u-2 c).After-cells-cells)

pub overflow_add-u : goal.overflow_add-u
overflow_add-u c = omega (arith, bounds (goal.at.overflow_add-u c).After-cells-cells)

pub overflow_add-b2 : goal.overflow_add-b2
overflow_add-b2 c = omega (arith, bounds (goal.at.overflow_add-b2 c).After-cells-cells)
