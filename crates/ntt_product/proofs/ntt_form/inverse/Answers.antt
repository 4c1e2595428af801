-- `inverse` meets its contract.
use mathlib.Core.Path.{◌≡◌, sym, ◌∙◌, ap, ap₂, subst}
use Prim.Native.Nat.{ℕ, ◌≤◌, ◌<◌, ◌^◌}
use native.Mathlib.Omega.{arith}
use borrow.Author.Rules.{rules}
use lib.ListN.{get_or}
use Rattle.ntt_transform.specs.Roots.{twiddle_table}
use Rattle.ntt_transform.specs.Transforms.{TwiddlesFit, inverse_transform_of}
use Rattle.ntt_transform.proofs.Roots.{inverses_fit}
use mir.Val.{Fits}
use mir.Syntax.{w64}
use Rattle.ntt_layers.specs.Words.{remainders_of}
use Rattle.ntt_product.specs.Crt.{crt_all_of}
use Rattle.ntt_product.specs.NttForm.{offset, scaled_of, inverse_ntt_of}
use Rattle.ntt_product.proofs.Residue.{inverse-small, remainders_below}
use Rattle.ntt_product.proofs.ntt_form.inverse.Goals as goal

pub inverse-requires : goal.inverse-requires
inverse-requires c = subst (λ l. TwiddlesFit 639 3898195327 l 576) (sym c.args.w.now.made) (inverses_fit 0 (omega arith))

pub remainders-first-requires : goal.remainders-first-requires
remainders-first-requires c =
    let s = c.args in
    let e : c.inverse.result ≡ inverse_transform_of 639 3898195327 twiddle_table 576 s.sums.first = c.inverse.ensures
    ∙ ap (λ l. inverse_transform_of 639 3898195327 l 576 s.sums.first) c.args.w.now.made in
    let sums : (k : ℕ) → k < 64 → get_or s.sums.first k 0 < 2 ^ 64 = λ k l. let f : Fits w64 (get_or s.sums.first k 0) = search rules in omega arith in
    (omega arith, omega arith, λ k l. subst (λ y. get_or y k 0 ≤ 285600000) (sym e) (inverse-small 0 (omega arith) s.sums.first sums k l))

pub inverse-requires-2 : goal.inverse-requires-2
inverse-requires-2 c = subst (λ l. TwiddlesFit 2047 130021375 l 768) (sym c.args.w.now.made) (inverses_fit 1 (omega arith))

pub remainders-second-requires : goal.remainders-second-requires
remainders-second-requires c =
    let s = c.args in
    let e : c.inverse-2.result ≡ inverse_transform_of 2047 130021375 twiddle_table 768 s.sums.second = c.inverse-2.ensures
    ∙ ap (λ l. inverse_transform_of 2047 130021375 l 768 s.sums.second) c.args.w.now.made in
    let sums : (k : ℕ) → k < 64 → get_or s.sums.second k 0 < 2 ^ 64 = λ k l. let f : Fits w64 (get_or s.sums.second k 0) = search rules in omega arith in
    (omega arith, omega arith, λ k l. subst (λ y. get_or y k 0 ≤ 285600000) (sym e) (inverse-small 1 (omega arith) s.sums.second sums k l))

pub inverse-requires-3 : goal.inverse-requires-3
inverse-requires-3 c = subst (λ l. TwiddlesFit 2175 2442639231 l 960) (sym c.args.w.now.made) (inverses_fit 2 (omega arith))

pub remainders-third-requires : goal.remainders-third-requires
remainders-third-requires c =
    let s = c.args in
    let e : c.inverse-3.result ≡ inverse_transform_of 2175 2442639231 twiddle_table 960 s.sums.third = c.inverse-3.ensures
    ∙ ap (λ l. inverse_transform_of 2175 2442639231 l 960 s.sums.third) c.args.w.now.made in
    let sums : (k : ℕ) → k < 64 → get_or s.sums.third k 0 < 2 ^ 64 = λ k l. let f : Fits w64 (get_or s.sums.third k 0) = search rules in omega arith in
    (omega arith, omega arith, λ k l. subst (λ y. get_or y k 0 ≤ 285600000) (sym e) (inverse-small 2 (omega arith) s.sums.third sums k l))

pub crt_all-requires : goal.crt_all-requires
crt_all-requires c =
    record {
      first = λ k l. subst (λ y. get_or y k 0 < 134217089) (sym c.remainders-first.ensures) (remainders_below 639 _ _ _ (omega arith) k l);
      second = λ k l. subst (λ y. get_or y k 0 < 134215681) (sym c.remainders-second.ensures) (remainders_below 2047 _ _ _ (omega arith) k l);
      third = λ k l. subst (λ y. get_or y k 0 < 134215553) (sym c.remainders-third.ensures) (remainders_below 2175 _ _ _ (omega arith) k l);
    }

pub returns : goal.returns
unfolding scaled_of inverse_ntt_of
returns c =
    c.crt_all.ensures
    ∙ ap₂ (λ x y. crt_all_of x y c.remainders-third.result)
    (c.remainders-first.ensures
    ∙ ap (remainders_of 639 132119947 (offset 0)) (c.inverse.ensures
    ∙ ap (λ l. inverse_transform_of 639 3898195327 l 576 c.args.sums.first)
    c.args.w.now.made))
    (c.remainders-second.ensures
    ∙ ap (remainders_of 2047 132118561 (offset 1))
    (c.inverse-2.ensures
    ∙ ap (λ l. inverse_transform_of 2047 130021375 l 768 c.args.sums.second)
    c.args.w.now.made))
    ∙ ap (crt_all_of (scaled_of 0 c.args.sums.first)
    (scaled_of 1 c.args.sums.second))
    (c.remainders-third.ensures
    ∙ ap (remainders_of 2175 132118435 (offset 2))
    (c.inverse-3.ensures
    ∙ ap (λ l. inverse_transform_of 2175 2442639231 l 960 c.args.sums.third)
    c.args.w.now.made))
