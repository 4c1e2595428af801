-- The length that a scratch needs is small.
use Prim.Native.Nat.{ℕ, ◌+◌, ◌*◌, ◌≤◌}
use native.Mathlib.Nat.{mul-le-mul}
use native.Mathlib.Omega.{arith}
use Rattle.spec_protocol.specs.Parameters.{Parameters, T}
use Rattle.spec_protocol.specs.Layout.{scratch_need}
use Rattle.spec_protocol.specs.Many.{many_need}
use Rattle.layout_sizes.specs.Sizes.{Sized}

pub need_few : (P : Parameters) → Sized P → scratch_need P ≤ 2548736
need_few P s =
    let w = s.within in
    let square : P.r * P.r ≤ 256 = mul-le-mul w.r.1 w.r.1 in
    let cells : T P ≤ 136 = omega arith in
    let rn : P.r * P.n ≤ 1024 = mul-le-mul w.r.1 w.n.1 in
    let rκ : P.r * P.κ ≤ 256 = mul-le-mul w.r.1 w.κ.1 in
    let sum : P.r * P.n + T P ≤ 1160 = omega arith in
    let rows : P.L + 2 ≤ 34 = omega (arith, w.L.1) in
    let all : (P.L + 2) * (P.r * P.n + T P) ≤ 39440 = mul-le-mul rows sum in
    omega (arith, w.n.1)

pub many_few : (P : Parameters) (count : ℕ) → Sized P → count ≤ 8 → many_need P count ≤ 20389888
many_few P count s h = mul-le-mul h (need_few P s)
