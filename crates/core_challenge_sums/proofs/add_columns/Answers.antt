use mathlib.Core.Path.{◌≡◌, refl, sym, ap, ◌∙◌}
use Prim.Native.Nat.{◌+◌, ◌*◌, ◌<◌}
use native.Mathlib.Omega.{arith}
use lib.ListN.{length}
use Rattle.core_aggregate_ntt.specs.Terms.{term_added, terms_added}
use Rattle.core_aggregate_ntt.proofs.Terms.{length-terms, terms-none, terms-next, terms-small, one_value}
use Rattle.core_challenge_sums.specs.Lines.{combined, combined_words}
use Rattle.core_challenge_sums.proofs.Columns.{part_of-words, flat-small}
use Rattle.core_challenge_sums.proofs.add_columns.Goals as goal

pub loop-m-init : goal.loop-m-init
loop-m-init c = (omega arith, terms-none _ _ _ _ _ _ c.requires.2.whole, refl)

pub add_column-requires : goal.add_column-requires
add_column-requires c =
    let s = c.args in
    let l = c.loop-m in
    let more : l.m < s.n = omega arith in
    let e = combined_words s.from.now s.at s.r s.n s.powers.now in (
      c.requires.0,
      more,
      one_value s.z.now 0 s.n l.m (192 * l.m) c.requires.1 more (omega arith),
      terms-small s.sums.now s.z.now 0 e 0 64 l.sums s.n l.m l.invariant.1 more c.requires.1 (flat-small _) c.requires.2,
    )

pub loop-m-preserved : goal.loop-m-preserved
loop-m-preserved c =
    let s = c.args in
    let l = c.loop-m in
    let f = combined s.from.now s.at s.r s.n s.powers.now in
    let e = combined_words s.from.now s.at s.r s.n s.powers.now in
    let made = terms-next s.sums.now s.z.now 0 e 0 64 l.sums _ l.m (192 * l.m) (0 + 64 * l.m) l.invariant.1 (omega arith) refl
    (c.add_column.ensures ∙ ap (term_added l.sums s.z.now (192 * l.m)) (sym (part_of-words s.n f l.m (omega arith)))) in
    (omega arith, made, ap length made ∙ omega (arith, length-terms s.sums.now s.z.now 0 e 0 64 (l.m + 1), c.requires.2.whole))

pub returns : goal.returns
returns c =
    let s = c.args in
    let l = c.loop-m in
    let n : l.m ≡ s.n = omega arith in
    l.invariant.1 ∙ ap (terms_added s.sums.now s.z.now 0 (combined_words s.from.now s.at s.r s.n s.powers.now) 0 64) n
