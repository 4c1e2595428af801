-- What the chunk has written lies within the output, and the state that is handed on is that after the bytes that were read.
use Rattle.std.proofs.Common.{◌≡◌, ℕ, ◌*◌, ◌≤◌, List, length, take, sym, arith, length-take-le}
use Rattle.zq_lines_text.specs.Reading.{answers}
use Rattle.zq_lines_text.specs.declared.reading.State.{State}
use Rattle.zq_lines_text.proofs.Chunks.{length-answers}
use Rattle.zq_lines_text.proofs.Runs.{within, written-first}
use Rattle.zq_lines.proofs.read_some.Goals as goal

-- what a chunk has written fits where the whole chunk's answers do
bound : (s : State) (n : ℕ) (chunk old out : List ℕ) → n ≤ length chunk → length chunk ≡ length old → 56 * length old ≤ length out → length (answers s (take n chunk)) ≤ length out
bound s n chunk old out h e f = omega (arith, length-answers s (take n chunk), length-take-le n chunk h)

pub slice_bounds-write_all-end : goal.slice_bounds-write_all-end
slice_bounds-write_all-end g c = within c.feed-fed.ensures.written (omega (arith, bound c.args.s c.in-Ok.n c.read.new.buf _ _ c.in-Ok.ensures.bound.0 c.read.auto.buf c.requires.chunk_in_bounds))

pub slice_bounds-write_all-end-2 : goal.slice_bounds-write_all-end-2
slice_bounds-write_all-end-2 g c = sym (length-take-le _ _ (slice_bounds-write_all-end g c))

pub returns : goal.returns
returns g c =
    let fits = bound c.args.s c.in-Ok.n c.read.new.buf _ _ c.in-Ok.ensures.bound.0 c.read.auto.buf c.requires.chunk_in_bounds in
    (c.in-Ok.n, c.feed-fed.ensures.state_value, written-first c.feed-fed.ensures.written fits)
