use mathlib.Core.Path.{◌≡◌, refl, sym, ap, ◌∙◌}
use mathlib.Core.List.{[], ◌∷◌}
use Prim.Native.Nat.{◌+◌, ◌*◌, ◌≤◌, ◌<◌}
use native.Mathlib.Decide.{ℕ_discrete}
use native.Mathlib.Omega.{arith}
use lib.ListN.{length, get_or}
use Rattle.spec_leaves.specs.Answer.{failed}
use Rattle.spec_protocol.specs.Checks.{first}
use Rattle.spec_protocol.specs.Parameters.{parameters}
use Rattle.spec_protocol.proofs.Fine.{require-holds, require_fails}
use Rattle.spec_protocol.proofs.First.{first_next}
use Rattle.verifier_constant_terms.proofs.Terms.{test, check_22_is, terms, test_is}
use Rattle.verifier_common.proofs.Verdicts.{first-failed}
use Rattle.verifier_constant_terms.proofs.constant_terms.check_constant_terms.Goals.{In-loop-k}
use Rattle.verifier_constant_terms.proofs.constant_terms.check_constant_terms.Goals as goal

-- the room for row k
at_room : (c : In-loop-k)
    → c.transcript_at-at.result + 64 * c.loop-k.k < length
    c.args.exchange.now.transcript.now
at_room c = let l = c.loop-k in l.invariant.2.at_room l.k c.loop-k-test.true

psi-room : (c : In-loop-k)
    → let s = c.args in
    c.randomness_at-psi.result + c.loop-k.k * s.exchange.now.params.constraint_l + s.exchange.now.params.constraint_l ≤ length s.exchange.now.randomness.now
psi-room c = let l = c.loop-k in l.invariant.2.psi-room l.k c.loop-k-test.true

om_room : (c : In-loop-k)
    → c.randomness_at-omega.result + c.loop-k.k * 256 + 256 ≤ length
    c.args.exchange.now.randomness.now
om_room c = let l = c.loop-k in l.invariant.2.om_room l.k c.loop-k-test.true

pub loop-k-init : goal.loop-k-init
unfolding first
loop-k-init c =
    let w = c.args.exchange.now.sent in (
      omega arith,
      refl,
      terms w c.job_at-b0.result c.randomness_at-psi.result c.randomness_at-omega.result
          c.transcript_at-projection.result c.transcript_at-at.result
          c.job_at-b0.ensures
          c.randomness_at-psi.ensures
          c.randomness_at-omega.ensures
          c.transcript_at-projection.ensures
          c.transcript_at-at.ensures,
    )

pub constant_term-computed-requires : goal.constant_term-computed-requires
constant_term-computed-requires c =
    let m = c.loop-k.invariant.2 in
    record {
      l_in_bounds = (
        m.b0_room,
        psi-room (goal.at.constant_term-computed-requires c).In-loop-k,
        om_room (goal.at.constant_term-computed-requires c).In-loop-k,
      );
      projection_in_bounds = (m.projection-room, m.short);
    }

pub returns-then-sent-computed : goal.returns-then-sent-computed
returns-then-sent-computed c =
    let s = c.args in
    let l = c.loop-k in
    let m = l.invariant.2 in
    let at = c.transcript_at-at.result in
    let sent = get_or s.exchange.now.transcript.now (at + 64 * l.k) 0 in
    let computed = c.constant_term-computed.result in
    let h : l.k < s.exchange.now.params.const_agg_length = c.loop-k-test.true in
    let h' : l.k < (parameters s.exchange.now.job.now).L = omega (arith, m.rows) in
    sym
    (sym (check_22_is s.exchange.now.job.now s.exchange.now.randomness.now s.exchange.now.transcript.now)
    ∙ first-failed (parameters s.exchange.now.job.now).L l.k (test s.exchange.now.job.now s.exchange.now.randomness.now s.exchange.now.transcript.now) 22 (l.k ∷ sent ∷ computed ∷ []) h' l.invariant.1
    (test_is m l.k computed h c.constant_term-computed.ensures ∙ require_fails (ℕ_discrete sent computed) (failed 22 (l.k ∷ sent ∷ computed ∷ [])) c.if-sent-computed.true))

pub loop-k-preserved : goal.loop-k-preserved
loop-k-preserved c =
    let s = c.args in
    let l = c.loop-k in
    let m = l.invariant.2 in
    let at = c.transcript_at-at.result in
    let sent = get_or s.exchange.now.transcript.now (at + 64 * l.k) 0 in
    let computed = c.constant_term-computed.result in
    let h : l.k < s.exchange.now.params.const_agg_length = c.loop-k-test.true in (
      omega (arith, h),
      first_next l.k (test s.exchange.now.job.now s.exchange.now.randomness.now s.exchange.now.transcript.now) l.invariant.1
          (test_is m l.k computed h c.constant_term-computed.ensures ∙ require-holds (ℕ_discrete sent computed) (failed 22 (l.k ∷ sent ∷ computed ∷ [])) c.if-sent-computed.false),
      m,
    )

pub returns : goal.returns
returns c =
    let s = c.args in
    let l = c.loop-k in
    let n : l.k ≡ (parameters s.exchange.now.job.now).L = omega (arith, l.invariant.2.rows, c.loop-k-test.false) in
    sym
    (sym (check_22_is s.exchange.now.job.now s.exchange.now.randomness.now s.exchange.now.transcript.now)
    ∙ ap (λ k. first k (test s.exchange.now.job.now s.exchange.now.randomness.now s.exchange.now.transcript.now)) (sym n)
    ∙ l.invariant.1)

pub overflow_mul-sent : goal.overflow_mul-sent
overflow_mul-sent c = omega (arith, at_room (goal.at.overflow_mul-sent c).In-loop-k)

pub overflow_add-sent : goal.overflow_add-sent
overflow_add-sent c = omega (arith, at_room (goal.at.overflow_add-sent c).In-loop-k)

pub offset_bounds-exchange-at : goal.offset_bounds-exchange-at
offset_bounds-exchange-at c = omega (arith, at_room (goal.at.offset_bounds-exchange-at c).In-loop-k)

pub bounds-exchange-at : goal.bounds-exchange-at
bounds-exchange-at c = omega (arith, at_room (goal.at.bounds-exchange-at c).In-loop-k)

pub overflow_mul-k : goal.overflow_mul-k
overflow_mul-k c = omega (arith, psi-room (goal.at.overflow_mul-k c).In-loop-k)

pub overflow_add-psi : goal.overflow_add-psi
overflow_add-psi c = omega (arith, psi-room (goal.at.overflow_add-psi c).In-loop-k)

pub overflow_mul-k-in-loop-k : goal.overflow_mul-k-in-loop-k
overflow_mul-k-in-loop-k c = omega (arith, om_room (goal.at.overflow_mul-k-in-loop-k c).In-loop-k)

pub overflow_add-omega : goal.overflow_add-omega
overflow_add-omega c = omega (arith, om_room (goal.at.overflow_add-omega c).In-loop-k)

pub loop-k-smaller : goal.loop-k-smaller
loop-k-smaller c = omega (arith, c.loop-k-test.true)
