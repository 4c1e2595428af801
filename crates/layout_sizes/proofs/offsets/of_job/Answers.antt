-- `of_job` meets its contract.
use mathlib.Core.Path.{ap, ◌∙◌}
use Prim.Native.Nat.{◌+◌}
use native.Mathlib.Omega.{arith}
use Rattle.spec_protocol.specs.Layout.{start, job_sections}
use Rattle.layout_sections.proofs.Spans.{start-within}
use Rattle.relation_env_params.specs.Parameters.{parameters_of}
use Rattle.layout_sizes.proofs.Tables.{table-spans}
use Rattle.layout_sizes.proofs.offsets.of_job.Goals as goal

pub start-requires : goal.start-requires
start-requires c = (omega (arith, c.requires.1), table-spans c.job_sections.ensures)

pub overflow_add-result : goal.overflow_add-result
overflow_add-result c =
    let e = ap (λ l. start l c.args.m) c.job_sections.ensures.lists in
    omega (arith, c.start.ensures, e, start-within (job_sections (parameters_of c.args.params)) c.args.m (omega arith))

pub returns : goal.returns
returns c = ap (λ n. 31 + n) (c.start.ensures ∙ ap (λ l. start l c.args.m) c.job_sections.ensures.lists)
