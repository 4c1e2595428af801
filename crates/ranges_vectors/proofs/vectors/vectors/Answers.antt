use mathlib.Core.Path.{◌≡◌, ◌∙◌, ap}
use Prim.Native.Nat.{ℕ, ◌+◌, ◌*◌, ◌≤◌}
use native.Mathlib.Nat.{mul-le-mul_right}
use native.Mathlib.Omega.{arith}
use Rattle.math.specs.lists.Table.{padded}
use Rattle.math.proofs.lists.Padded.{padded-none, padded-next}
use Rattle.spec_protocol.specs.Ranges.{unused}
use Rattle.ranges_vectors.specs.Vectors.{range_norms}
use Rattle.ranges_vectors.proofs.vectors.vectors.Invariants.{of_vector}
use Rattle.ranges_vectors.proofs.vectors.vectors.Goals as goal

-- a vector lies within the lists
within : (i r count : ℕ) → i + 1 ≤ r → i * count + count ≤ r * count
within i r count h = omega (arith, mul-le-mul_right count h)

pub loop-i-init : goal.loop-i-init
loop-i-init c =
    let s = c.args in
    padded-none 16 (range_norms unused) (of_vector s.bound s.lows.now s.highs.now s.count)

pub vector-requires : goal.vector-requires
vector-requires c =
    let w = within c.loop-i.i c.args.r c.args.count (omega arith) in
    (c.requires.0, omega arith, omega arith)

pub overflow_mul-i : goal.overflow_mul-i
overflow_mul-i c =
    let w = within c.loop-i.i c.args.r c.args.count (omega arith) in
    omega arith

pub loop-i-preserved : goal.loop-i-preserved
loop-i-preserved c =
    let s = c.args in
    let l = c.loop-i in
    padded-next 16 (range_norms unused) (of_vector s.bound s.lows.now s.highs.now s.count) l.out l.i c.vector.result l.invariant (omega arith) c.vector.ensures

pub returns : goal.returns
returns c =
    let s = c.args in
    let l = c.loop-i in
    let n : l.i ≡ s.r = omega arith in
    l.invariant ∙ ap (λ k. padded 16 k (range_norms unused) (of_vector s.bound s.lows.now s.highs.now s.count)) n
