-- What the last line has written lies within the output.
use Rattle.std.proofs.Common.{sym, arith, length-take-le}
use Rattle.zq_lines_text.proofs.Chunks.{length_last}
use Rattle.zq_lines_text.proofs.Runs.{within}
use Rattle.zq_lines.proofs.end.Goals as goal

pub slice_bounds-write_all-end : goal.slice_bounds-write_all-end
slice_bounds-write_all-end g c = within c.finish-n.ensures (omega (arith, length_last c.args.s))

pub slice_bounds-write_all-end-2 : goal.slice_bounds-write_all-end-2
slice_bounds-write_all-end-2 g c = sym (length-take-le _ _ (slice_bounds-write_all-end g c))
