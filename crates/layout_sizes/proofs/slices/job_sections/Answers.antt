-- `job_sections` meets its contract.
use Rattle.relation_env_params.specs.Parameters.{parameters_of}
use Rattle.layout_sizes.proofs.Tables.{listed_none, listed_more}
use Rattle.layout_sizes.proofs.Products.{products, job-spans}
use Rattle.layout_sizes.proofs.slices.job_sections.Goals as goal

pub returns : goal.returns
returns c =
    let P = parameters_of c.args.params in
    let t = c.triangle-t in
    record {
      lists = rw (← t.ensures.0) (
          listed_more _ _ c.canonical.ensures
          (listed_more _ _ c.canonical-2.ensures
          (listed_more _ _ c.canonical-3.ensures
          (listed_more _ _ c.canonical-4.ensures
          (listed_more _ _ c.canonical-5.ensures
          (listed_more _ _ c.canonical-6.ensures
          (listed_more _ _ c.canonical-7.ensures
          (listed_more _ _ c.canonical-8.ensures
          (listed_more _ _ c.canonical-9.ensures
          (listed_more _ _ c.canonical-10.ensures listed_none)))))))))
          );
      spans = job-spans P t.result c.requires (products P t.result c.requires t.ensures.1) t.ensures.0;
    }
