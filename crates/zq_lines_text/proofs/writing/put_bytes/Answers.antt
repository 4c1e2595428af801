use mathlib.Core.Path.{refl, ◌∙◌, sym, ap}
use Prim.Native.Nat.{◌+◌}
use native.Mathlib.Omega.{arith}
use lib.ListN.{length, take, get_or, set}
use lib.Seq.{take_all}
use Rattle.math.specs.lists.Part.{splice}
use Rattle.math.proofs.lists.Splice.{length-splice, splice-nil, splice-take-next}
use Rattle.zq_lines_text.proofs.writing.put_bytes.Goals as goal

pub loop-i-init : goal.loop-i-init
loop-i-init c = (sym (splice-nil _ _), refl)

pub loop-i-preserved : goal.loop-i-preserved
loop-i-preserved c =
    let a = c.args in
    let i = c.loop-i.i in
    let w = ap (λ l. set l (a.at + i) (get_or a.bytes.now i 0)) c.loop-i.invariant.0 ∙ splice-take-next 0 a.out.now a.at a.bytes.now i (omega arith) in
    (w, ap length w ∙ length-splice a.out.now a.at (take (i + 1) a.bytes.now))

pub returns : goal.returns
returns c =
    let a = c.args in
    record {
      contents = c.loop-i.invariant.0 ∙ ap (splice a.out.now a.at) (take_all c.loop-i.i a.bytes.now (omega arith));
      count = refl;
    }

pub shape_of-out : goal.shape_of-out
shape_of-out c = c.loop-i.invariant.1
