use mathlib.Core.Path.{◌≡◌, refl, ◌∙◌, sym, ap, subst}
use Prim.Native.Nat.{ℕ, ◌+◌, ◌<◌}
use native.Mathlib.Omega.{arith}
use mathlib.Core.List.{List}
use lib.ListN.{length, take, get_or}
use lib.Seq.{take_all, length-take-le}
use Rattle.zq_lines_text.specs.Reading.{after, answers, written, next, Bounded}
use Rattle.zq_lines_text.specs.Written.{Written}
use Rattle.zq_lines_text.specs.declared.reading.State.{State}
use Rattle.zq_lines_text.proofs.Chunks.{after-take, answers-take, length-answers}
use Rattle.zq_lines_text.proofs.Runs.{written_none, written-append, written-length}
use Rattle.zq_lines_text.proofs.Small.{bounded-after}
use Rattle.zq_lines_text.proofs.feeding.feed.Invariants.{FedTo}
use Rattle.zq_lines_text.proofs.feeding.feed.Goals as goal

-- one byte more
fed_more : (s t t' : State) (chunk out₀ out out' : List ℕ) (i p p' : ℕ) → i < length chunk → FedTo s chunk out₀ i out t p
    → t' ≡ next t (get_or chunk i 0) → Written out p (written t (get_or chunk i 0)) out' p' → FedTo s chunk out₀ (i + 1) out' t' p'
fed_more s t t' chunk out₀ out out' i p p' h f e w =
    let b = get_or chunk i 0 in
    let v = rw f.0 at w in (
      e ∙ ap (λ u. next u b) f.0 ∙ sym (after-take s chunk i h),
      rw (answers-take s chunk i h) (written-append f.1 v),
    )

pub loop-b-init : goal.loop-b-init
unfolding after answers
loop-b-init c = (refl, written_none _ _)

pub feed_byte-f-requires : goal.feed_byte-f-requires
feed_byte-f-requires c =
    let l = c.loop-b in record {
      bounded = subst Bounded (sym l.invariant.0) (bounded-after c.args.s (take l.b-index c.args.chunk.now) c.requires.bounded);
      at_in_bounds = omega
          (arith, written-length l.invariant.1, l.invariant.1.count, length-answers c.args.s (take l.b-index c.args.chunk.now), length-take-le l.b-index c.args.chunk.now (omega arith));
    }

pub loop-b-preserved : goal.loop-b-preserved
loop-b-preserved c =
    let a = c.args in
    let l = c.loop-b in
    let e = c.feed_byte-f.ensures in
    fed_more a.s l.f.state c.feed_byte-f.result.state a.chunk.now a.out.now l.out c.feed_byte-f.new.out
    l.b-index l.f.at c.feed_byte-f.result.at (omega arith) l.invariant e.state_value e.written

pub shape_of-out : goal.shape_of-out
shape_of-out c = written-length c.loop-b.invariant.1

pub returns : goal.returns
returns c =
    let a = c.args in
    let l = c.loop-b in
    let e : take l.b-index a.chunk.now ≡ a.chunk.now = take_all l.b-index a.chunk.now (omega arith) in
    record { state_value = l.invariant.0 ∙ ap (after a.s) e; written = rw (← ap (answers a.s) e) l.invariant.1 }
