-- Where a part starts and ends in its slice.
use Rattle.std.specs.Prelude.{cond, ℕ, ◌+◌, ◌*◌, min, ltb}
use Rattle.verify_many_admission.specs.declared.bounds.Bounds.{Bounds}

-- part m of so many that lie end to end, in a slice of so many words
abbrev pub bounded : (handed len count m : ℕ) → Bounds
bounded handed len count m = record { from = min (m * len) handed; to = cond (ltb (m + 1) count) (min (m * len + len) handed) handed }
