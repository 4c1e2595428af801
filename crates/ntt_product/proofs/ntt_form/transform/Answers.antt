-- `ntt_form::transform` meets its contract.
use mathlib.Core.Path.{sym, ◌∙◌, ap, subst}
use native.Mathlib.Omega.{arith}
use Rattle.ntt_transform.specs.Transforms.{TwiddlesFit, forward_of}
use Rattle.ntt_transform.proofs.Roots.{twiddles_fit}
use Rattle.ntt_product.specs.NttForm.{ntt_of}
use Rattle.ntt_product.proofs.ntt_form.transform.Goals as goal

pub forward-first-requires : goal.forward-first-requires
forward-first-requires c = subst (λ l. TwiddlesFit 639 3898195327 l 0) (sym c.args.w.now.made) (twiddles_fit 0 (omega arith))

pub forward-second-requires : goal.forward-second-requires
forward-second-requires c = subst (λ l. TwiddlesFit 2047 130021375 l 192) (sym c.args.w.now.made) (twiddles_fit 1 (omega arith))

pub forward-third-requires : goal.forward-third-requires
forward-third-requires c = subst (λ l. TwiddlesFit 2175 2442639231 l 384) (sym c.args.w.now.made) (twiddles_fit 2 (omega arith))

pub returns : goal.returns
unfolding ntt_of
returns c =
    record {
      one = c.forward-first.ensures ∙ ap (λ l. forward_of 639 3898195327 l 0 c.args.a) c.args.w.now.made;
      two = c.forward-second.ensures ∙ ap (λ l. forward_of 2047 130021375 l 192 c.args.a) c.args.w.now.made;
      three = c.forward-third.ensures ∙ ap (λ l. forward_of 2175 2442639231 l 384 c.args.a) c.args.w.now.made;
    }
