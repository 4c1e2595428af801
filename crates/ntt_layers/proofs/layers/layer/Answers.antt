-- `layer` meets its contract.
use mathlib.Core.Path.{◌≡◌, sym, subst, ◌∙◌, ap}
use borrow.Author.Rules.{rules}
use lib.ListN.{length}
use Rattle.ntt_layers.specs.Layer.{SpreadFits, spread_of}
use Rattle.ntt_layers.proofs.Layer.{turned-spread, spread_fits}
use Rattle.ntt_layers.proofs.layers.layer.Goals as goal

pub spread-requires : goal.spread-requires
spread-requires c =
    let s = c.args in
    let n : length s.x ≡ 64 = search rules in
    subst (λ y. SpreadFits s.prime.delta y) (sym c.turn.ensures) (spread_fits s.prime.delta s.prime.opposite s.w.now s.at s.x n c.requires)

pub returns : goal.returns
returns c =
    let s = c.args in
    let n : length s.x ≡ 64 = search rules in
    c.spread.ensures ∙ ap (spread_of s.prime.delta) c.turn.ensures ∙ sym (turned-spread s.prime.delta s.prime.opposite s.w.now s.at s.x n)

pub turn-requires : goal.turn-requires
turn-requires c = c.requires.powers
