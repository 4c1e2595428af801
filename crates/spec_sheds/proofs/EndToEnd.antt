-- The runs of a split by rising index stand end to end.
use mathlib.Core.Path.{◌≡◌, refl, ap}
use mathlib.Core.List.{List, [], ◌∷◌, Memᴰ}
use Prim.Native.Nat.{ℕ, ◌-◌, ◌<◌, ◌≤◌}
use native.Mathlib.Decide.{dec_le, dec_lt}
use native.Mathlib.Omega.{arith}
use Rattle.spec_sheds.specs.Runs.{Run}
use Rattle.spec_sheds.specs.Split.{holds, in_runs, Splits, Rising}
use Rattle.spec_sheds.proofs.Indexes.{holds-before, holds-within, holds_after}

-- runs from one index to another, each from where the one before it ends
unfoldable pub Chain : ℕ → List Run → ℕ → Type 0
Chain a [] r = a ≡ r
Chain a (x ∷ xs) r = (x.first ≡ a) × (x.first < x.end) × Chain x.end xs r

-- each index from one up to another is in one run, and no other in any
record Between (a r : ℕ) (xs : List Run) : Type 0 where
  pub order : a ≤ r
  pub once : (i : ℕ) → a ≤ i → i < r → in_runs xs i ≡ 1
  pub before : (i : ℕ) → i < a → in_runs xs i ≡ 0
  pub after : (i : ℕ) → r ≤ i → in_runs xs i ≡ 0

-- no run holds an index below all first ones
none-holds : (xs : List Run) (i : ℕ) → ((y : Run) → Memᴰ y xs → i < y.first) → in_runs xs i ≡ 0
unfolding in_runs
none-holds [] i h = refl
none-holds (x ∷ xs) i h =
    let a = holds-before x i (h x (Memᴰ.head refl)) in
    let b = none-holds xs i (λ y m. h y (Memᴰ.tail m)) in
    omega arith

-- a run and those after it
module _ (a r : ℕ) (x : Run) (xs : List Run) (b : Between a r (x ∷ xs)) (some : x.first < x.end) (least : (y : Run) → Memᴰ y xs → x.first < y.first) where
  holds-first : holds x x.first ≡ 1
  holds-first = holds-within x x.first (omega arith) some

  from_first : a ≤ x.first
  from_first = by (dec_lt x.first a)
    where
      never : x.first < a → ⊥
      never k = unfold in_runs in omega (arith, b.before x.first k, holds-first)

      by : Dec (x.first < a) → a ≤ x.first
      by (yes k) = absurd (never k)
      by (no k) = omega arith

  first_below : x.first < r
  first_below = by (dec_lt x.first r)
    where
      never : r ≤ x.first → ⊥
      never k = unfold in_runs in omega (arith, b.after x.first k, holds-first)

      by : Dec (x.first < r) → x.first < r
      by (yes k) = k
      by (no k) = absurd (never (omega arith))

  -- it starts at the first index
  first_is : x.first ≡ a
  first_is = by (dec_lt a x.first)
    where
      never : a < x.first → ⊥
      never k = unfold in_runs in omega (arith, b.once a (omega arith) (omega (arith, first_below)), holds-before x a k, none-holds xs a (λ y m. omega (arith, least y m)))

      by : Dec (a < x.first) → x.first ≡ a
      by (yes k) = absurd (never k)
      by (no k) = omega (arith, from_first)

  -- and ends within
  end-within : x.end ≤ r
  end-within = by (dec_le x.end r)
    where
      never : r < x.end → ⊥
      never k = unfold in_runs in omega (arith, b.after r (omega arith), holds-within x r (omega (arith, first_below)) k)

      by : Dec (x.end ≤ r) → x.end ≤ r
      by (yes k) = k
      by (no k) = absurd (never (omega arith))

  -- the runs after it take the indexes after it
  rest : Between x.end r xs
  unfolding in_runs
  rest = record {
    order = end-within;
    once = λ i h k. omega (arith, b.once i (omega (arith, first_is)) k, holds_after x i h);
    before = earlier;
    after = λ i h. omega (arith, b.after i h);
  }
    where
      earlier : (i : ℕ) → i < x.end → in_runs xs i ≡ 0
      earlier i h = by (dec_lt i x.first)
        where
          by : Dec (i < x.first) → in_runs xs i ≡ 0
          by (yes k) = omega (arith, b.before i (omega (arith, first_is)))
          by (no k) = omega (arith, b.once i (omega (arith, first_is)) (omega (arith, end-within)), holds-within x i (omega arith) h)

chain_of : (xs : List Run) (a r : ℕ) → Between a r xs → Rising xs → Chain a xs r
unfolding Chain Rising
chain_of [] a r b rise = by (dec_lt a r)
  where
    by : Dec (a < r) → a ≡ r
    by (yes k) = unfold in_runs in omega (arith, b.once a (omega arith) k)
    by (no k) = omega (arith, b.order)
chain_of (x ∷ xs) a r b rise =
    (first_is a r x xs b rise.0 rise.1, rise.0, chain_of xs x.end r (rest a r x xs b rise.0 rise.1) rise.2)

-- the runs of a split by rising index go from 0 to r
pub split_chain : (r : ℕ) (xs : List Run) → Splits r xs → Rising xs → Chain 0 xs r
split_chain r xs s rise =
    chain_of xs 0 r (record { order = omega arith; once = λ i h k. s.once i k; before = λ i h. absurd (omega arith); after = s.inside }) rise

-- how often an index is in a run is at most how often it is in all
held-by-one : (x : Run) (xs : List Run) (i : ℕ) → Memᴰ x xs → holds x i ≤ in_runs xs i
unfolding in_runs
held-by-one x [] i m = elim m [ ]
held-by-one x (y ∷ ys) i (Memᴰ.head e) = omega (arith, ap (λ z. holds z i) e)
held-by-one x (y ∷ ys) i (Memᴰ.tail m) = omega (arith, held-by-one x ys i m)

-- each run of a split that has a vector ends at r or before, so that 34 is not given
pub split_within : (r : ℕ) (xs : List Run) → Splits r xs → (x : Run) → Memᴰ x xs → x.first < x.end → x.end ≤ r
split_within r xs s x m some = by (dec_le x.end r)
  where
    never : r < x.end → ⊥
    never k =
        let i = x.end - 1 in
        omega (arith, s.inside i (omega arith), held-by-one x xs i m, holds-within x i (omega arith) (omega arith))

    by : Dec (x.end ≤ r) → x.end ≤ r
    by (yes k) = k
    by (no k) = absurd (never (omega arith))
