-- `commit_t_and_g` meets its contract.
use native.Mathlib.Omega.{arith}
use Rattle.core_workspace.proofs.Ready.{ready-sized}
use Rattle.prover_commit.proofs.commit_t_and_g.Goals as goal

pub plain_is_faster-requires : goal.plain_is_faster-requires
plain_is_faster-requires c = let l = (ready-sized _ _ _ _ c.requires.ready).within in (l.n.1, omega (arith, l.r.1))

pub commit_plain-requires : goal.commit_plain-requires
commit_plain-requires c = c.requires

pub commit_ntt-requires : goal.commit_ntt-requires
commit_ntt-requires c = c.requires

pub returns-then-plain_is_faster : goal.returns-then-plain_is_faster
returns-then-plain_is_faster c = c.commit_plain.ensures

pub returns-else-plain_is_faster : goal.returns-else-plain_is_faster
returns-else-plain_is_faster c = c.commit_ntt.ensures
