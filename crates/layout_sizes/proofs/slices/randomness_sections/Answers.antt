-- `randomness_sections` meets its contract.
use mathlib.Core.Path.{refl}
use native.Mathlib.Omega.{arith}
use Rattle.relation_env_params.specs.Parameters.{parameters_of}
use Rattle.layout_sizes.proofs.Tables.{listed_none, listed_more}
use Rattle.layout_sizes.proofs.Products.{products, randomness-spans}
use Rattle.layout_sizes.proofs.slices.randomness_sections.Goals as goal

pub returns : goal.returns
returns c =
    let P = parameters_of c.args.params in
    record {
      lists =
          listed_more _ _ c.canonical.ensures
          (listed_more _ _ c.canonical-2.ensures
          (listed_more _ _ c.canonical-3.ensures
          (listed_more _ _ c.canonical-4.ensures
          (listed_more _ _ c.canonical-5.ensures
          (listed_more _ _ refl
          (listed_more _ _ refl listed_none))))));
      spans = randomness-spans P 0 c.requires (products P 0 c.requires (omega arith));
    }
