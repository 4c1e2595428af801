-- Elements at equal steps in a slice.
use Rattle.std.specs.Prelude.{List, ℕ, ◌+◌, ◌*◌, ◌≤◌, ◌<◌, ◌^◌, length}
use Rattle.math.specs.lists.Part.{part}
use Rattle.spec_leaves.specs.Rq.{Element}
use Rattle.spec_leaves.specs.Ring.{element}
use Rattle.ring_inner_product.specs.declared.Strided.{Strided}

-- element m of a run: its first word stands at the place and m steps on
abbrev pub run : List ℕ → ℕ → ℕ → ℕ → Element
run words at step m = element (part words (at + step * m) 64)

-- a run of n elements lies within the slice
pub record Run (words : List ℕ) (at step n : ℕ) : Type 0 where
  pub within : (m : ℕ) → m < n → at + step * m + 64 ≤ length words
  pub few : n ≤ 2 ^ 18
  pub near : step ≤ 2 ^ 40
  pub first : at ≤ 2 ^ 62

-- element m of a strided run
abbrev pub strided : List ℕ → Strided → ℕ → Element
strided words x = run words x.at x.step

-- a strided run lies within the slice
abbrev pub Within : List ℕ → Strided → Type 0
Within words x = Run words x.at x.step x.count

-- the run of the elements that stand c elements further on
abbrev pub further : Strided → ℕ → Strided
further x c = record { at = x.at + 64 * c; step = x.step; count = x.count }

-- n elements one after the other have room in the slice from a place on
abbrev pub Room : List ℕ → (at n : ℕ) → Type 0
Room words at n = at + 64 * n ≤ length words
