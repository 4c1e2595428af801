-- The scratch with φ stored, and with b'', and what stands in it after h.
use Rattle.std.specs.Prelude.{Bool, true, false, cond, List, ℕ}
use Rattle.math.specs.lists.Part.{splice}
use Rattle.admission_slices.specs.declared.calls.Call.{Call}
use Rattle.admission_slices.specs.declared.calls.Call.TheVariants as C
use Rattle.layout_regions.specs.declared.Regions.{Regions}
use Rattle.relation_env_params.specs.declared.env_params.EnvironmentParameters.{EnvironmentParameters}
use Rattle.core_aggregate.specs.Weighed.{b''_words}
use Rattle.core_workspace.specs.Aggregated.{φ_words}
use Rattle.prover_commit.specs.Work.{AllMade, Aggregated, with_h}

-- φ in its region
abbrev pub with_φ : (J R : List ℕ) → Regions → List ℕ → List ℕ
with_φ J R regions S = splice S regions.phi (φ_words J R)

-- b'' in its region, of the a'', φ'' and g in theirs
abbrev pub with_b'' : List ℕ → (W : List ℕ) → EnvironmentParameters → Regions → List ℕ
with_b'' S W params regions = splice S regions.b2 (b''_words S regions.a2 regions.g regions.phi2 params.multiplicity params.rank W 1 params.const_agg_length)

-- φ, and b'' with it where that is asked for
abbrev pub weighed_scratch : (with-b : Bool) → (J R W : List ℕ) → EnvironmentParameters → Regions → List ℕ → List ℕ
weighed_scratch with-b J R W params regions S = cond with-b (with_b'' (with_φ J R regions S) W params regions) (with_φ J R regions S)

-- and then h
abbrev pub weighed_with_h : (with-b : Bool) → (J R W : List ℕ) → EnvironmentParameters → Regions → List ℕ → List ℕ
weighed_with_h with-b J R W params regions S = with_h W params regions (weighed_scratch with-b J R W params regions S)

-- t, g and h stand in their regions, and b'' too where it is asked for
abbrev pub MadeWith : (with-b : Bool) → (J R W : List ℕ) → Regions → List ℕ → Type 0
MadeWith true J R W regions S = AllMade J R W regions S
MadeWith false J R W regions S = Aggregated J R W regions S

-- the calls that need the challenges: the whole call, which needs b'' too, and round 5
abbrev pub last_call : (with-b : Bool) → Call
last_call true = C.Whole
last_call false = C.Round5
