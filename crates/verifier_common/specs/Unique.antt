-- That a job, a randomness and a transcript are refused nothing is shown in one way.
use Rattle.std.specs.Prelude.{List, ℕ}
use Rattle.std.specs.Coded.{Unit-prop, le_prop}
use Rattle.std.proofs.Math.Nat.{ℕ_set}
use Rattle.spec_protocol.specs.Layout.{Range, free, under}
use Rattle.spec_protocol.specs.Laid.{In}
use Rattle.relation_env_params.specs.declared.env_params.EnvironmentParameters.{EnvironmentParameters}
use Rattle.verifier_common.specs.Work.{Sent}

-- a word is in a range in one way
pub In-prop : (r : Range) (w : ℕ) → IsProp (In r w)
In-prop free w = Unit-prop
In-prop (under limit) w = le_prop

-- the facts of a sent transcript, in one way
pub Sent-prop : (J R T : List ℕ) (params : EnvironmentParameters) → IsProp (Sent J R T params)
Sent-prop J R T params = Prim.hlevel (In-prop, ℕ_set, le_prop)
