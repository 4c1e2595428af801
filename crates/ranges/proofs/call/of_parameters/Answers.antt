-- `of_parameters` meets its contract.
use mathlib.Core.Path.{sym, ◌∙◌, ap}
use Prim.Native.Nat.{ℕ, ◌+◌, ◌*◌, ◌≤◌, ◌<◌}
use native.Mathlib.Nat.{mul-le-mul, mul-le-mul_right}
use native.Mathlib.Omega.{arith}
use Rattle.spec_protocol.specs.Ranges.{pairs_refusal, Answered}
use Rattle.relation_env_params.specs.Parameters.{parameters_of}
use Rattle.ranges_vectors.specs.Vectors.{worked}
use Rattle.ranges_vectors.proofs.Worked.{worked-holds}
use Rattle.ranges.specs.Answers.{ranges_answer}
use Rattle.ranges.proofs.Ready.{Ready, ready}
use Rattle.ranges.proofs.Refused.{error_ranges}
use Rattle.ranges.proofs.call.of_parameters.Goals.{In-Ok, Start}
use Rattle.ranges.proofs.call.of_parameters.Goals as goal

-- few numbers
few : (c : Start) → c.args.params.multiplicity * c.args.params.rank ≤ 16 * 64
few c = mul-le-mul c.requires.within.r.1 c.requires.within.n.1

-- what holds of lows and highs that are refused nothing
all-ready : (c : In-Ok) → let s = c.args in Ready (64 * (s.params.multiplicity * s.params.rank)) s.lows.now s.highs.now
all-ready c =
    let s = c.args in
    ready (64 * (s.params.multiplicity * s.params.rank)) s.lows.now s.highs.now (sym c.in-Ok.ensures)

-- vector i lies within the lists
within : (i r n : ℕ) → i < r → i * (64 * n) + 64 * n ≤ 64 * (r * n)
within i r n h = omega (arith, mul-le-mul_right n h)

pub vectors-requires : goal.vectors-requires
vectors-requires c =
    let s = c.args in
    let e = all-ready (goal.at.vectors-requires c).In-Ok in
    let l = e.lows_count in
    let h = e.highs_count in
    (e.centred, c.requires.within.r.1, omega arith, omega arith)

pub returns-in-Err : goal.returns-in-Err
unfolding pairs_refusal
returns-in-Err c =
    let s = c.args in
    error_ranges (parameters_of s.params) s.lows.now s.highs.now (pairs_refusal (parameters_of s.params) s.lows.now s.highs.now) _ c.in-Err.error c.in-Err.ensures c.from.ensures

pub returns-in-Ok : goal.returns-in-Ok
unfolding pairs_refusal
returns-in-Ok c =
    let k = (goal.at.returns-in-Ok c).In-Ok in
    let s = c.args in
    let P = parameters_of s.params in
    let e = all-ready k in
    let v : ℕ → Answered = λ i. worked s.params.bound_a s.lows.now s.highs.now (i * (64 * s.params.rank)) (64 * s.params.rank) in
    record {
      vectors = v;
      hold = λ q i h.
          let l = e.lows_count in
          let g = e.highs_count in
          let w = within i s.params.multiplicity s.params.rank h in
          worked-holds s.params.bound_a s.lows.now s.highs.now (i * (64 * s.params.rank)) (64 * s.params.rank) (omega arith) (omega arith) e.ordered;
      answer = (λ i. record { number = 0; place = 0; vectors = c.vectors.ensures i }) ∙ ap (λ a. ranges_answer a P.r v) c.in-Ok.ensures;
    }

pub overflow_mul-r : goal.overflow_mul-r
overflow_mul-r c = omega (arith, few (goal.at.overflow_mul-r c).Start)

pub overflow_mul-r-2 : goal.overflow_mul-r-2
overflow_mul-r-2 c = omega (arith, few (goal.at.overflow_mul-r-2 c).Start)
