-- `admit` meets its contract.
use mathlib.Core.Path.{sym, ap, ◌∙◌}
use Rattle.std.proofs.lemmas.Result.{err_from_is_err_and}
use Rattle.spec_protocol.specs.Load.{load_parameters}
use Rattle.layout_sections.proofs.Then.{goes_on}
use Rattle.admission_slices.proofs.Stages.{stops_at}
use Rattle.load_needs.specs.Given.{given, fits_refusal}
use Rattle.load_needs.proofs.Refusals.{ready, all_refusals}
use Rattle.load_needs.proofs.admit.Goals as goal

pub fits-requires : goal.fits-requires
fits-requires c = let read = c.in_ok-params.ensures in (ready (given c.args.g) _ read.found read.read).sized

pub returns-in_err-params-clause-result_value : goal.returns-in_err-params-clause-result_value
returns-in_err-params-clause-result_value c =
    let s = c.args in
    let G = given s.g in
    let f = c.from_residual in
    let p = err_from_is_err_and f.result f.ensures.1 in
    rw (p.1, p.2)
    (stops_at _ (fits_refusal (load_parameters G) s.job s.witness s.randomness) c.in_err-params.ensures.found ∙ sym (all_refusals G s.job s.witness s.randomness))

pub returns-in_err-fits-clause-result_value : goal.returns-in_err-fits-clause-result_value
returns-in_err-fits-clause-result_value c =
    let s = c.args in
    let G = given s.g in
    let read = c.in_ok-params.ensures in
    let f = c.from_residual-in_err-fits in
    let p = err_from_is_err_and f.result f.ensures.1 in
    rw (p.1, p.2)
    (goes_on read.found (c.in_err-fits.ensures ∙ ap (λ P. fits_refusal P s.job s.witness s.randomness) read.read) ∙ sym (all_refusals G s.job s.witness s.randomness))

pub returns : goal.returns
returns c =
    let s = c.args in
    let G = given s.g in
    let read = c.in_ok-params.ensures in
    record {
      result_value = goes_on read.found (c.in_ok-fits.ensures ∙ ap (λ P. fits_refusal P s.job s.witness s.randomness) read.read) ∙ sym (all_refusals G s.job s.witness s.randomness);
      at = ready G _ read.found read.read;
    }
