-- `compute_h` meets its contract.
use Rattle.prover_fill.proofs.ComputeH.{plain_fits, plain_unchanged, transforms_unchanged}
use Rattle.prover_fill.proofs.compute_h.Goals as goal

pub compute_h-requires-else-plain_is_faster : goal.compute_h-requires-else-plain_is_faster
compute_h-requires-else-plain_is_faster c = let h = c.requires in (h.witness, h.room)

pub plain_is_faster-requires : goal.plain_is_faster-requires
plain_is_faster-requires c = let k = c.requires.room in (k.4, k.5)

pub compute_h-requires : goal.compute_h-requires
compute_h-requires c = plain_fits _ _ _ _ c.requires

pub returns-then-plain_is_faster : goal.returns-then-plain_is_faster
returns-then-plain_is_faster c = plain_unchanged _ _ _ _ c.requires _ c.compute_h.ensures

pub returns-else-plain_is_faster : goal.returns-else-plain_is_faster
returns-else-plain_is_faster c = transforms_unchanged _ _ _ _ c.requires _ c.compute_h-else-plain_is_faster.ensures
