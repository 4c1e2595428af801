use mathlib.Core.Path.{◌≡◌, refl, ap, ◌∙◌}
use Prim.Native.Nat.{◌+◌, ◌*◌}
use native.Mathlib.Omega.{arith}
use Rattle.math.specs.lists.Table.{table}
use Rattle.math.specs.lists.Part.{splice}
use Rattle.spec_protocol.specs.Formulas.{flat}
use Rattle.spec_protocol.proofs.Stored.{stored-none}
use Rattle.ring_rq_matrix.proofs.Fill.{length_filled, fill_next}
use Rattle.transcript_challenges.proofs.Formula.{words_of-challenge}
use Rattle.transcript_challenges.proofs.generate_challenges.Invariants.{challenge_of}
use Rattle.transcript_challenges.proofs.generate_challenges.Goals as goal

pub loop-i-preserved : goal.loop-i-preserved
loop-i-preserved c =
    let s = c.args in
    let l = c.loop-i in
    let next = words_of-challenge _ s.words.now l.signs (s.signs_at + 41 * l.i) l.shuffle (s.shuffle_at + 63 * l.i) c.challenge_at.ensures
    l.invariant.1 l.invariant.2 in
    let filled = fill_next s.out.now s.out_at _ _ _ l.i l.place (challenge_of s.words.now s.signs_at s.shuffle_at) l.invariant.4 l.invariant.3 next
    c.store.ensures in (
      omega arith,
      omega arith,
      omega arith,
      omega arith,
      filled,
      length_filled _ s.out.now s.out_at
          (flat (table (l.i + 1) (challenge_of s.words.now s.signs_at s.shuffle_at))) filled,
    )

pub returns : goal.returns
returns c =
    let s = c.args in
    let l = c.loop-i in
    let done : l.i ≡ s.r = omega arith in
    l.invariant.4 ∙ ap (λ k. splice s.out.now s.out_at (flat (table k (challenge_of s.words.now s.signs_at s.shuffle_at)))) done

pub loop-i-init : goal.loop-i-init
loop-i-init c = (omega arith, omega arith, omega arith, omega arith, stored-none _ _ _, refl)
