-- A witness known within ranges (document 02, Item 14): "a store knows each coefficient only from a lowest to a highest centred number".
use Rattle.std.specs.Prelude.{◌≡◌, cond, List, [], ◌∷◌, map, ℕ, suc, ◌-◌, ◌*◌, ◌≤◌, ◌<◌, min, ℤ, pos, negsuc, nat_abs, ◌≤ℤ◌, length, get_or}
use Rattle.std.proofs.Math.Decide.{dec_le, ℕ_discrete}
use Rattle.std.specs.Int.Signed.{le_z}
use Rattle.math.specs.lists.Part.{part}
use Rattle.math.specs.lists.Sum.{Σ}
use Rattle.spec_leaves.specs.Zq.{Q, half_Q}
use Rattle.spec_leaves.specs.Answer.{Answer, fine, refused, ◌then◌}
use Rattle.spec_protocol.specs.Checks.{require, first}
use Rattle.spec_protocol.specs.Parameters.{Parameters, parameters}
use Rattle.spec_protocol.specs.Layout.{sections, job_refusal}

-- number j of a list of centred numbers
abbrev pub number_at : List ℤ → ℕ → ℤ
number_at xs j = get_or xs j (pos 0)

-- the square of a centred number
abbrev pub square : ℤ → ℕ
square x = nat_abs x * nat_abs x

-- "Norms sum centred squares."
unfoldable pub norm : List ℤ → ℕ
norm xs = Σ (length xs) (λ j. square (number_at xs j))

-- a choice: a number for each range, from the lowest to the highest
pub record Choice (lows highs xs : List ℤ) : Type 0 where
  pub count : length xs ≡ length lows
  pub from_low : (j : ℕ) → j < length lows → number_at lows j ≤ℤ number_at xs j
  pub to_high : (j : ℕ) → j < length lows → number_at xs j ≤ℤ number_at highs j

-- "the smallest […] norm": a choice has it, and none has a smaller one
pub record SmallestNorm (lows highs : List ℤ) (m : ℕ) : Type 0 where
  pub choice : List ℤ
  pub chosen : Choice lows highs choice
  pub attained : norm choice ≡ m
  pub none_smaller : (xs : List ℤ) → Choice lows highs xs → m ≤ norm xs

-- "and largest norm": a choice has it, and none has a larger one
pub record LargestNorm (lows highs : List ℤ) (m : ℕ) : Type 0 where
  pub choice : List ℤ
  pub chosen : Choice lows highs choice
  pub attained : norm choice ≡ m
  pub none_larger : (xs : List ℤ) → Choice lows highs xs → norm xs ≤ m

-- "its norm meets A's bound for every choice"
abbrev pub Every : (bound : ℕ) (lows highs : List ℤ) → Type 0
Every bound lows highs = (xs : List ℤ) → Choice lows highs xs → norm xs ≤ bound

-- "for some"
abbrev pub Some : (bound : ℕ) (lows highs : List ℤ) → Type 0
Some bound lows highs = (xs : List ℤ) × Choice lows highs xs × (norm xs ≤ bound)

-- the number of "for every choice, for some but not every, or for none": 1, 2, 3
pub data Meets (bound : ℕ) (lows highs : List ℤ) (number : ℕ) : Type 0 where
  every : number ≡ 1 → Every bound lows highs → Meets bound lows highs number
  some_only : number ≡ 2 → Some bound lows highs → (Every bound lows highs → ⊥) → Meets bound lows highs number
  none : number ≡ 3 → (Some bound lows highs → ⊥) → Meets bound lows highs number

-- what is answered of a witness vector
pub record Answered : Type 0 where
  pub meets : ℕ
  pub least : ℕ
  pub greatest : ℕ

-- what is answered holds of a vector's ranges
pub record Holds (bound : ℕ) (lows highs : List ℤ) (a : Answered) : Type 0 where
  pub meets : Meets bound lows highs a.meets
  pub least : SmallestNorm lows highs a.least
  pub greatest : LargestNorm lows highs a.greatest

-- "answers past r are marked unused, with both norms zero"
abbrev pub unused : Answered
unused = record { meets = 0; least = 0; greatest = 0 }

-- the numbers of witness vector i
abbrev pub vector : Parameters → List ℤ → ℕ → List ℤ
vector P xs i = part xs (i * (64 * P.n)) (64 * P.n)

-- "For each witness vector a call […] tells whether its norm meets A's bound"
abbrev pub AllHold : Parameters → (lows highs : List ℤ) → (ℕ → Answered) → Type 0
AllHold P lows highs a = (i : ℕ) → i < P.r → Holds P.bound_A (vector P lows i) (vector P highs i) (a i)

-- "64·r·n lows and as many highs without counts"
abbrev pub ranges_count : Parameters → ℕ
ranges_count P = 64 * (P.r * P.n)

-- "a wrong length is an 11": at the length where it is too short, at the first surplus number where it is too long
abbrev pub length_refusal : (need handed : ℕ) → Answer
length_refusal need handed = require (ℕ_discrete handed need) (refused 11 (min handed need))

-- "37 a number beyond ±2147483647", which is the greatest centre
abbrev pub size_refusal : (place : ℕ) → ℤ → Answer
size_refusal place x = require (dec_le (nat_abs x) half_Q) (refused 37 place)

-- "tested over all pairs"; "the place is the first such pair, from 0"
unfoldable pub beyond_refusal : ℕ → (lows highs : List ℤ) → Answer
beyond_refusal count lows highs = first count (λ j. size_refusal j (number_at lows j) then size_refusal j (number_at highs j))

-- "36 a pair whose low is above its high"
unfoldable pub crossed_refusal : ℕ → (lows highs : List ℤ) → Answer
crossed_refusal count lows highs = first count (λ j. cond (le_z (number_at lows j) (number_at highs j)) fine (refused 36 j))

-- "a wrong length is an 11, lows before highs"; 37 "is tested over all pairs before 36"
unfoldable pub pairs_refusal : Parameters → (lows highs : List ℤ) → Answer
pairs_refusal P lows highs =
    let count = ranges_count P in
    length_refusal count (length lows)
    then length_refusal count (length highs)
    then beyond_refusal count lows highs
    then crossed_refusal count lows highs

-- "After the job's refusals"
unfoldable pub ranges_refusal : List ℕ → (lows highs : List ℤ) → Answer
ranges_refusal J lows highs = job_refusal J then pairs_refusal (parameters J) lows highs

-- the canonical word of a centred number
abbrev pub word : ℤ → ℕ
word (pos n) = n
word (negsuc n) = Q - suc n

-- the witness whose coefficients are the numbers
abbrev pub exact_witness : List ℤ → List ℕ
exact_witness xs = sections (map word xs ∷ [])
