-- The struct that is answered of a witness vector, and what the code works out of it.
use Rattle.std.specs.Prelude.{cond, List, ℕ, ◌/◌, ◌%◌, ◌^◌, leb, ℤ}
use Rattle.spec_protocol.specs.Ranges.{norm, Answered}
use Rattle.ranges_vectors.specs.Ends.{nearest, farthest, picked}
use Rattle.ranges_vectors.specs.declared.vectors.RangeNorms.{RangeNorms}

-- each norm in two u64
abbrev pub range_norms : Answered → RangeNorms
range_norms a = record {
  meets = a.meets;
  least_hi = a.least / 2 ^ 64;
  least_lo = a.least % 2 ^ 64;
  greatest_hi = a.greatest / 2 ^ 64;
  greatest_lo = a.greatest % 2 ^ 64;
}

-- the number by the smallest and the largest norm
abbrev pub meets_by : (bound least greatest : ℕ) → ℕ
meets_by bound least greatest = cond (leb greatest bound) 1 (cond (leb least bound) 2 3)

-- what the code works out of a run of ranges
abbrev pub worked : (bound : ℕ) (lows highs : List ℤ) (from count : ℕ) → Answered
worked bound lows highs from count =
    let least = norm (picked nearest lows highs from count) in
    let greatest = norm (picked farthest lows highs from count) in
    record { meets = meets_by bound least greatest; least = least; greatest = greatest }
