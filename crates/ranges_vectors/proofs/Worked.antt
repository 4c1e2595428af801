-- What the code works out holds of the choices.
use mathlib.Core.Path.{◌≡◌, refl}
use mathlib.Core.Bool.{Bool, true, false, cond}
use mathlib.Core.List.{List}
use Prim.Native.Nat.{ℕ, ◌+◌, ◌≤◌}
use borrow.Author.Tests.{leb-true, leb-false}
use lib.Dec.{leb}
use lib.IntN.{ℤ}
use lib.ListN.{length}
use Rattle.math.specs.lists.Part.{part}
use Rattle.spec_protocol.specs.Ranges.{norm, SmallestNorm, LargestNorm, Meets, Holds}
use Rattle.spec_protocol.proofs.Ranges.{meets-every, meets-some, meets-none}
use Rattle.ranges_vectors.specs.Ends.{nearest, farthest, picked}
use Rattle.ranges_vectors.proofs.Choices.{Ordered, run-smallest, run_largest}
use Rattle.ranges_vectors.specs.Vectors.{meets_by, worked}

-- the number is that of the choices
meets-holds : (bound : ℕ) (lows highs : List ℤ) (m k : ℕ) → SmallestNorm lows highs m → LargestNorm lows highs k → Meets bound lows highs (meets_by bound m k)
meets-holds bound lows highs m k s l = by (leb k bound) refl (leb m bound) refl
  where
    by : (a : Bool) → leb k bound ≡ a → (b : Bool) → leb m bound ≡ b → Meets bound lows highs (cond a 1 (cond b 2 3))
    by true e b f = meets-every lows highs bound l (leb-true k bound e)
    by false e true f = meets-some lows highs bound s l (leb-true m bound f) (leb-false k bound e)
    by false e false f = meets-none lows highs bound s (leb-false m bound f)

-- what is worked out of a run of ranges holds of them
pub worked-holds : (bound : ℕ) (lows highs : List ℤ) (from count : ℕ) → from + count ≤ length lows → from + count ≤ length highs → Ordered lows highs
    → Holds bound (part lows from count) (part highs from count) (worked bound lows highs from count)
worked-holds bound lows highs from count f g ordered =
    let s = run-smallest lows highs from count f g ordered in
    let l = run_largest lows highs from count f g ordered in
    record {
      meets = meets-holds bound (part lows from count) (part highs from count) (norm (picked nearest lows highs from count)) (norm (picked farthest lows highs from count)) s l;
      least = s;
      greatest = l;
    }
