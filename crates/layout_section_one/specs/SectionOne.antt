-- What section one is found to be.
use Rattle.std.specs.Prelude.{cond, List, ℕ, ◌+◌, ltb, get_or}
use Rattle.spec_leaves.specs.Answer.{Answer, ◌then◌}
use Rattle.spec_leaves.specs.Leaf.{limited}
use Rattle.spec_protocol.specs.Parameters.{parameters, limits, enough_aggregations}
use Rattle.spec_protocol.specs.Layout.{counted, first_section}

-- "section one by 3, then 4, 5": the first tests of the job
abbrev pub section_one : List ℕ → Answer
section_one J = counted 3 J 0 first_section then limits (parameters J) then enough_aggregations (parameters J)

-- the test of parameter k, counted from 0, of lists of least and greatest values by place
abbrev pub limit_at : List ℕ → List ℕ → List ℕ → ℕ → Answer
limit_at least greatest J k = let place = k + 1 in limited (get_or least place 0) (get_or greatest place 0) place (get_or J place 0)

-- the least l by the number of ring constraints: not both are 0
abbrev pub least_l : ℕ → ℕ
least_l K = cond (ltb 0 K) 0 1
