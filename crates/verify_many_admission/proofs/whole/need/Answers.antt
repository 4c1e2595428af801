-- `need` meets its contract.
use mathlib.Core.Path.{ap}
use Prim.Native.Nat.{◌*◌}
use native.Mathlib.Omega.{arith}
use Rattle.relation_env_params.specs.Parameters.{parameters_of}
use Rattle.verify_many_admission.proofs.Need.{many_few}
use Rattle.verify_many_admission.proofs.whole.need.Goals.{Start}
use Rattle.verify_many_admission.proofs.whole.need.Goals as goal

pub returns : goal.returns
returns c = let s = c.args in ap (λ n. s.count * n) c.scratch_length-one.ensures

pub overflow_mul-result : goal.overflow_mul-result
overflow_mul-result c =
    let s = (goal.at.overflow_mul-result c).Start in omega (
      arith,
      many_few (parameters_of c.args.params) c.args.count c.requires.0 c.requires.1,
      (let s = c.args in ap (λ n. s.count * n) c.scratch_length-one.ensures),
    )
