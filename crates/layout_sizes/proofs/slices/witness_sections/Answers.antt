-- `witness_sections` meets its contract.
use native.Mathlib.Omega.{arith}
use Rattle.spec_protocol.specs.Layout.{span}
use Rattle.relation_env_params.specs.Parameters.{parameters_of}
use Rattle.layout_sizes.proofs.Tables.{listed_none, listed_more}
use Rattle.layout_sizes.proofs.Products.{products}
use Rattle.layout_sizes.proofs.slices.witness_sections.Goals as goal

pub returns : goal.returns
unfolding span
returns c = record {
  lists = listed_more _ _ c.canonical.ensures listed_none;
  spans = omega (arith, products (parameters_of c.args.params) 0 c.requires (omega arith));
}
