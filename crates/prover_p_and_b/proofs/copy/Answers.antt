use mathlib.Core.Path.{◌≡◌, refl, sym, ◌∙◌, ap}
use Prim.Native.Nat.{◌+◌, ◌<◌}
use native.Mathlib.Omega.{arith}
use lib.ListN.{length, get_or, set, take, length-set}
use lib.Seq.{take_all}
use Rattle.math.specs.lists.Part.{part, splice}
use Rattle.math.proofs.lists.Splice.{splice-nil, splice-take-next, length_part, get_d_part}
-- `copy` meets its contract.
use Rattle.prover_p_and_b.proofs.copy.Goals as goal

pub loop-k-preserved : goal.loop-k-preserved
loop-k-preserved c =
    let s = c.args in
    let l = c.loop-k in
    let run = part s.from.now s.start s.count in
    let n : length run ≡ s.count = length_part s.from.now s.start s.count (omega arith) in
    let h : l.k < s.count = omega arith in (
      ap (λ w. set w (s.at + l.k) (get_or s.from.now (s.start + l.k) 0)) l.invariant.0
          ∙ ap (set (splice s.to.now s.at (take l.k run)) (s.at + l.k)) (sym (get_d_part 0 s.from.now s.start s.count l.k h))
          ∙ splice-take-next 0 s.to.now s.at run l.k (omega arith),
      simp length-set l.invariant.1,
    )

pub returns : goal.returns
returns c =
    let s = c.args in
    let l = c.loop-k in
    let run = part s.from.now s.start s.count in
    let n : length run ≡ s.count = length_part s.from.now s.start s.count (omega arith) in
    l.invariant.0 ∙ ap (splice s.to.now s.at) (take_all l.k run (omega arith))

pub loop-k-init : goal.loop-k-init
loop-k-init c = (sym (splice-nil _ _), refl)
