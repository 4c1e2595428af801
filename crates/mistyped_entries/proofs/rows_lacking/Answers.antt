use mathlib.Core.Path.{ap, ◌∙◌}
use native.Mathlib.Omega.{arith}
use Rattle.math.proofs.lists.Padded.{padded-none, padded-next}
use Rattle.verifier_common.proofs.Sent.{reckoned}
use Rattle.mistyped_entries.specs.Lacking.{lacking, all_lacking}
use Rattle.mistyped_entries.proofs.rows_lacking.Goals as goal

pub loop-k-init : goal.loop-k-init
loop-k-init c =
    (omega arith, (reckoned c.requires.posed).within.L.1, padded-none 32 0 (lacking c.args.job.now c.args.randomness.now c.args.transcript.now))

pub loop-k-preserved : goal.loop-k-preserved
loop-k-preserved c =
    let l = c.loop-k in
    let s = c.args in (
      omega arith,
      l.invariant.1,
      padded-next 32 0 (lacking s.job.now s.randomness.now s.transcript.now) l.rows l.k c.row_lacking.result l.invariant.2 (omega (arith, l.invariant.1)) c.row_lacking.ensures,
    )

pub returns : goal.returns
returns c =
    let l = c.loop-k in
    let s = c.args in
    l.invariant.2 ∙ ap (all_lacking s.job.now s.randomness.now s.transcript.now) (omega (arith, c.loop-k-test.false))

pub row_lacking-requires : goal.row_lacking-requires
row_lacking-requires c = (c.requires, c.loop-k-test.true)

pub bounds-rows-k : goal.bounds-rows-k
bounds-rows-k c = omega (arith, c.loop-k-test.true)
