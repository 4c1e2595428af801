use mathlib.Core.Path.{◌≡◌, refl, ap, ◌∙◌}
use Prim.Native.Nat.{◌+◌}
use native.Mathlib.Omega.{arith}
use lib.ListN.{set, length-set}
use Rattle.math.specs.lists.Part.{splice}
use Rattle.spec_protocol.specs.Load.{words_by, state_by}
use Rattle.load_draw.specs.Rules.{rule_of, step, value_by}
use Rattle.load_draw.proofs.More.{none-drawn, state-none, state-next, words-next}
use Rattle.load_draw.proofs.fill.Goals as goal

pub loop-k-preserved : goal.loop-k-preserved
loop-k-preserved c =
    let s = c.args in
    let l = c.loop-k in
    let rule = rule_of s.rule in
    let reached = c.advance-reached.ensures ∙ ap (step rule) l.invariant.2 ∙ state-next rule s.state l.k in
    let written = c.word_at.ensures ∙ ap (value_by rule) reached in (
      ap (λ w. set w (s.at + l.k) c.word_at.result) l.invariant.0
          ∙ ap (set (splice s.out.now s.at (words_by rule s.state l.k)) (s.at + l.k)) written
          ∙ words-next s.out.now s.at rule s.state l.k,
      simp length-set l.invariant.1,
      reached,
    )

pub returns : goal.returns
returns c =
    let s = c.args in
    let l = c.loop-k in
    let rule = rule_of s.rule in
    let done : l.k ≡ s.count = omega arith in
    (l.invariant.0 ∙ ap (λ k. splice s.out.now s.at (words_by rule s.state k)) done, l.invariant.2 ∙ ap (state_by rule s.state) done)

pub loop-k-init : goal.loop-k-init
loop-k-init c = (none-drawn _ _ (rule_of c.args.rule) _, refl, state-none (rule_of c.args.rule) _)
