-- Laws of a witness known within ranges (document 02, Item 14).
use mathlib.Core.Path.{◌≡◌, refl, sym, ap, subst, ◌∙◌}
use mathlib.Core.Bool.{cond}
use mathlib.Core.List.{List}
use Prim.Native.Nat.{ℕ, ◌≤◌, ◌<◌}
use native.Mathlib.Nat.{le_antisymm, le_trans}
use native.Mathlib.Decide.{dec_le}
use native.Mathlib.Omega.{arith}
use lib.IntN.{ℤ, pos, negsuc}
use lib.Signed.{◌≤ℤ◌, ≤ℤ_refl}
use lib.Dec.{eqb, leb→le, le→leb}
use lib.ListN.{length}
use lib.Seq.{ext_get_or}
use Rattle.spec_leaves.specs.Answer.{Answer, fine}
use Rattle.spec_protocol.specs.Checks.{require}
use Rattle.spec_protocol.specs.Ranges.{number_at, norm, Choice, SmallestNorm, LargestNorm, Every, Some, Meets, every, some_only, none, Answered, Holds}
use Rattle.spec_protocol.proofs.Fine.{require-holds}

-- numbers in order both ways are equal
antisym : (a b : ℤ) → a ≤ℤ b → b ≤ℤ a → a ≡ b
antisym (pos a) (pos b) h k = let e : a ≡ b = le_antisymm (leb→le a b h.le) (leb→le b a k.le) in ap pos e
antisym (pos a) (negsuc b) h k = absurd h.le
antisym (negsuc a) (pos b) h k = absurd k.le
antisym (negsuc a) (negsuc b) h k = let e : a ≡ b = le_antisymm (leb→le a b k.le) (leb→le b a h.le) in ap negsuc e

-- what is answered of a vector is determined
module _ (lows highs : List ℤ) where
  pub smallest_unique : {m k : ℕ} → SmallestNorm lows highs m → SmallestNorm lows highs k → m ≡ k
  smallest_unique {m} {k} s t =
      le_antisymm (subst (λ x. m ≤ x) t.attained (s.none_smaller t.choice t.chosen)) (subst (λ x. k ≤ x) s.attained (t.none_smaller s.choice s.chosen))

  pub largest_unique : {m k : ℕ} → LargestNorm lows highs m → LargestNorm lows highs k → m ≡ k
  largest_unique {m} {k} s t =
      le_antisymm (subst (λ x. x ≤ k) s.attained (t.none_larger s.choice s.chosen)) (subst (λ x. x ≤ m) t.attained (s.none_larger t.choice t.chosen))

  module _ (bound : ℕ) where
    -- where there is a choice, a bound that every choice meets is met by some
    some_of-every : {m : ℕ} → SmallestNorm lows highs m → Every bound lows highs → Some bound lows highs
    some_of-every s all = (s.choice, s.chosen, all s.choice s.chosen)

    pub meets_unique : {x y m : ℕ} → SmallestNorm lows highs m → Meets bound lows highs x → Meets bound lows highs y → x ≡ y
    meets_unique s (every e f) (every e' f') = e ∙ sym e'
    meets_unique s (every e f) (some_only e' f' n') = absurd (n' f)
    meets_unique s (every e f) (none e' n') = absurd (n' (some_of-every s f))
    meets_unique s (some_only e f n) (every e' f') = absurd (n f')
    meets_unique s (some_only e f n) (some_only e' f' n') = e ∙ sym e'
    meets_unique s (some_only e f n) (none e' n') = absurd (n' f)
    meets_unique s (none e n) (every e' f') = absurd (n (some_of-every s f'))
    meets_unique s (none e n) (some_only e' f' n') = absurd (n f')
    meets_unique s (none e n) (none e' n') = e ∙ sym e'

    pub holds_unique : (a b : Answered) → Holds bound lows highs a → Holds bound lows highs b → a ≡ b
    holds_unique a b h k = λ i. record {
      meets = meets_unique h.least h.meets k.meets i;
      least = smallest_unique h.least k.least i;
      greatest = largest_unique h.greatest k.greatest i;
    }

    -- the number by the two norms
    pub meets-every : {m : ℕ} → LargestNorm lows highs m → m ≤ bound → Meets bound lows highs 1
    meets-every l h = every refl (λ xs c. let k = l.none_larger xs c in omega arith)

    pub meets-some : {m k : ℕ} → SmallestNorm lows highs m → LargestNorm lows highs k → m ≤ bound → bound < k → Meets bound lows highs 2
    meets-some s l h g =
        some_only refl (s.choice, s.chosen, rw s.attained h) (λ all. let f = all l.choice l.chosen in let e = l.attained in omega arith)

    pub meets-none : {m : ℕ} → SmallestNorm lows highs m → bound < m → Meets bound lows highs 3
    meets-none s h = none refl (λ some. let k = s.none_smaller some.0 some.1 in let l = some.2 in omega arith)

-- "Where low equals high throughout"
module _ (xs : List ℤ) where
  -- the numbers are a choice, and the only one
  exact_choice : Choice xs xs xs
  exact_choice = record { count = refl; from_low = λ j h. ≤ℤ_refl (number_at xs j); to_high = λ j h. ≤ℤ_refl (number_at xs j) }

  only_choice : (ys : List ℤ) → Choice xs xs ys → ys ≡ xs
  only_choice ys c = ext_get_or (pos 0) ys xs c.count (λ j h. let k : j < length xs = subst (λ n. j < n) c.count h in antisym (number_at ys j) (number_at xs j) (c.to_high j k) (c.from_low j k))

  -- both norms are the vector's
  pub exact_least : {m : ℕ} → SmallestNorm xs xs m → m ≡ norm xs
  exact_least s = sym s.attained ∙ ap norm (only_choice s.choice s.chosen)

  pub exact_greatest : {m : ℕ} → LargestNorm xs xs m → m ≡ norm xs
  exact_greatest l = sym l.attained ∙ ap norm (only_choice l.choice l.chosen)

  module _ (bound : ℕ) where
    -- every choice meets the bound where one does
    every_of-some : Some bound xs xs → Every bound xs xs
    every_of-some some ys c = subst (λ zs. norm zs ≤ bound) (only_choice some.0 some.1 ∙ sym (only_choice ys c)) some.2

    -- no vector meets the bound for some only
    pub exact_never_some : {x : ℕ} → Meets bound xs xs x → x ≡ 2 → ⊥
    exact_never_some (every e f) h = omega arith
    exact_never_some (some_only e f n) h = n (every_of-some f)
    exact_never_some (none e n) h = omega arith

    -- the vector is refused exactly where its number is 3
    pub exact_test : {x : ℕ} (answer : Answer) → Meets bound xs xs x → require (dec_le (norm xs) bound) answer ≡ cond (eqb x 3) answer fine
    exact_test answer (every e f) = require-holds (dec_le (norm xs) bound) answer (f xs exact_choice) ∙ ap (λ n. cond (eqb n 3) answer fine) (sym e)
    exact_test answer (some_only e f n) = absurd (n (every_of-some f))
    exact_test answer (none e n) = refuse (dec_le (norm xs) bound) ∙ ap (λ n. cond (eqb n 3) answer fine) (sym e)
      where
        refuse : (d : Dec (norm xs ≤ bound)) → require d answer ≡ answer
        refuse (yes h) = absurd (n (xs, exact_choice, h))
        refuse (no h) = refl

-- ranges that hold others
pub record Wider (lows highs wider-lows wider-highs : List ℤ) : Type 0 where
  pub count : length lows ≡ length wider-lows
  pub low : (j : ℕ) → j < length lows → number_at wider-lows j ≤ℤ number_at lows j
  pub high : (j : ℕ) → j < length lows → number_at highs j ≤ℤ number_at wider-highs j

≤ℤ_trans : (a b c : ℤ) → a ≤ℤ b → b ≤ℤ c → a ≤ℤ c
≤ℤ_trans (pos a) (pos b) (pos c) h k = record { le = le→leb a c (le_trans (leb→le a b h.le) (leb→le b c k.le)) }
≤ℤ_trans (pos a) (pos b) (negsuc c) h k = absurd k.le
≤ℤ_trans (pos a) (negsuc b) c h k = absurd h.le
≤ℤ_trans (negsuc a) b (pos c) h k = record { le = tt }
≤ℤ_trans (negsuc a) (pos b) (negsuc c) h k = absurd k.le
≤ℤ_trans (negsuc a) (negsuc b) (negsuc c) h k = record { le = le→leb c a (le_trans (leb→le c b k.le) (leb→le b a h.le)) }

-- ranges made wider
module _ (lows highs wider-lows wider-highs : List ℤ) (wider : Wider lows highs wider-lows wider-highs) where
  -- keep their choices
  kept-choice : (xs : List ℤ) → Choice lows highs xs → Choice wider-lows wider-highs xs
  kept-choice xs c = record {
    count = c.count ∙ wider.count;
    from_low = λ j h. let k : j < length lows = subst (λ n. j < n) (sym wider.count) h in ≤ℤ_trans (number_at wider-lows j) (number_at lows j) (number_at xs j) (wider.low j k) (c.from_low j k);
    to_high = λ j h. let k : j < length lows = subst (λ n. j < n) (sym wider.count) h in ≤ℤ_trans (number_at xs j) (number_at highs j) (number_at wider-highs j) (c.to_high j k) (wider.high j k);
  }

  -- and never turn "for none" into "for every choice"
  pub wider_never : (bound : ℕ) (a b : Answered) → Holds bound lows highs a → Holds bound wider-lows wider-highs b → a.meets ≡ 3 → b.meets ≡ 1 → ⊥
  wider_never bound a b h k three one = by h.meets k.meets
    where
      by : Meets bound lows highs a.meets → Meets bound wider-lows wider-highs b.meets → ⊥
      by (every e f) m = omega arith
      by (some_only e f n) m = omega arith
      by (none e n) (every e' f') = n (h.least.choice, h.least.chosen, f' h.least.choice (kept-choice h.least.choice h.least.chosen))
      by (none e n) (some_only e' f' n') = omega arith
      by (none e n) (none e' n') = omega arith
