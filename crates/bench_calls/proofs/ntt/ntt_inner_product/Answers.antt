-- `ntt_inner_product` meets its contract.
use mathlib.Core.Path.{◌∙◌, ap}
use Rattle.bench_calls.specs.Repeated.{repeated}
use Rattle.bench_calls.proofs.ntt.ntt_inner_product.Goals as goal

pub returns : goal.returns
returns c = c.with_ntt_form.ensures ∙ ap (λ m. repeated m c.args.a.coeffs c.args.b.coeffs) c.terms.ensures.0

pub with_ntt_form-requires : goal.with_ntt_form-requires
with_ntt_form-requires c = c.terms.ensures.1
