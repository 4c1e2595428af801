-- The indexes of runs: sums over the vectors of runs as sums over all indexes.
use mathlib.Core.Path.{◌≡◌, refl, sym, ap, ap₂, ◌∙◌}
use mathlib.Core.List.{List, [], ◌∷◌, ◌++◌}
use Prim.Native.Nat.{ℕ, ◌+◌, ◌-◌, ◌*◌, ◌<◌, ◌≤◌}
use native.Mathlib.Decide.{dec_le, dec_lt}
use native.Mathlib.Nat.{add_assoc, zero-mul}
use native.Mathlib.Omega.{arith}
use borrow.Author.Tests.{lt-ltb, le-ltb}
use Rattle.math.specs.lists.Sum.{Σ}
use Rattle.math.proofs.lists.Sum.{Σ_ext, Σ_zero, Σ_split}
use Rattle.spec_sheds.specs.Runs.{Run, size}
use Rattle.spec_sheds.specs.Split.{holds, in_runs, Splits}

-- whether an index is in a run
module _ (x : Run) (i : ℕ) where
  pub holds-before : i < x.first → holds x i ≡ 0
  unfolding holds
  holds-before h = rw (lt-ltb i x.first h)

  pub holds-within : x.first ≤ i → i < x.end → holds x i ≡ 1
  unfolding holds
  holds-within a b = rw (le-ltb i x.first a, lt-ltb i x.end b)

  pub holds_after : x.end ≤ i → holds x i ≡ 0
  holds_after h = by (dec_lt i x.first)
    where
      past : x.first ≤ i → holds x i ≡ 0
      past a = unfold holds in rw (le-ltb i x.first a, le-ltb i x.end h)

      by : Dec (i < x.first) → holds x i ≡ 0
      by (yes k) = holds-before k
      by (no k) = past (omega arith)

-- the runs of two lists
pub in_both : (xs ys : List Run) (i : ℕ) → in_runs (xs ++ ys) i ≡ in_runs xs i + in_runs ys i
unfolding in_runs
in_both [] ys i = sym (zero_plus (in_runs ys i))
  where
    zero_plus : (n : ℕ) → 0 + n ≡ n
    zero_plus n = omega arith
in_both (x ∷ xs) ys i = ap (λ n. holds x i + n) (in_both xs ys i) ∙ sym (add_assoc (holds x i) (in_runs xs i) (in_runs ys i))

-- a sum of terms that are all zero
zeros : (n : ℕ) (g : ℕ → ℕ) → ((i : ℕ) → i < n → g i ≡ 0) → Σ n g ≡ 0
zeros n g h = Σ_ext n g (λ i. 0) h ∙ Σ_zero n

-- a term of an index that is in no run, or in one
none_of : (a b : ℕ) → a ≡ 0 → a * b ≡ 0
none_of a b e = ap (λ n. n * b) e ∙ zero-mul b

one_of : (a b : ℕ) → a ≡ 1 → a * b ≡ b
one_of a b e = ap (λ n. n * b) e ∙ once b
  where
    once : (b : ℕ) → 1 * b ≡ b
    once b = omega arith

-- the sum over a run's vectors is that over all indexes which the run holds
pub sum_of-run : (x : Run) (f : ℕ → ℕ) (N : ℕ) → x.end ≤ N → Σ (size x) (λ i. f (x.first + i)) ≡ Σ N (λ i. holds x i * f i)
sum_of-run x f N h = by (dec_le x.first x.end)
  where
    g : ℕ → ℕ
    g i = holds x i * f i

    before : Σ x.first g ≡ 0
    before = zeros x.first g (λ i l. none_of (holds x i) (f i) (holds-before x i l))

    within : x.first ≤ x.end → Σ (size x) (λ i. g (x.first + i)) ≡ Σ (size x) (λ i. f (x.first + i))
    within a =
        Σ_ext (size x) (λ i. g (x.first + i)) (λ i. f (x.first + i))
        (λ i l. one_of (holds x (x.first + i)) (f (x.first + i)) (holds-within x (x.first + i) (omega arith) (omega arith)))

    after : x.first ≤ x.end → Σ (N - x.end) (λ i. g (x.first + (size x + i))) ≡ 0
    after a =
        zeros (N - x.end) (λ i. g (x.first + (size x + i)))
        (λ i l. none_of (holds x (x.first + (size x + i))) (f (x.first + (size x + i))) (holds_after x (x.first + (size x + i)) (omega arith)))

    parted : x.first ≤ x.end → Σ N g ≡ Σ x.first g + (Σ (size x) (λ i. g (x.first + i)) + Σ (N - x.end) (λ i. g (x.first + (size x + i))))
    parted a =
        let count : N ≡ x.first + (size x + (N - x.end)) = omega arith in
        ap (λ k. Σ k g) count
        ∙ Σ_split x.first (size x + (N - x.end)) g
        ∙ ap (λ n. Σ x.first g + n) (Σ_split (size x) (N - x.end) (λ i. g (x.first + i)))

    middle : (a b c d : ℕ) → a ≡ 0 → c ≡ 0 → b ≡ d → d ≡ a + (b + c)
    middle a b c d e k l = omega arith

    no_vector : (m : ℕ) (F : ℕ → ℕ) → m ≡ 0 → Σ m F ≡ 0
    no_vector m F e = ap (λ k. Σ k F) e ∙ unfold Σ in refl

    by : Dec (x.first ≤ x.end) → Σ (size x) (λ i. f (x.first + i)) ≡ Σ N g
    by (yes a) =
        middle (Σ x.first g) (Σ (size x) (λ i. g (x.first + i))) (Σ (N - x.end) (λ i. g (x.first + (size x + i)))) (Σ (size x) (λ i. f (x.first + i))) before (after a) (within a)
        ∙ sym (parted a)
    by (no a) =
        let empty : x.end - x.first ≡ 0 = omega arith in
        no_vector (size x) (λ i. f (x.first + i)) empty
        ∙ sym (zeros N g (λ i l. none_of (holds x i) (f i) (never i)))
      where
        never : (i : ℕ) → holds x i ≡ 0
        never i = or (dec_lt i x.first)
          where
            or : Dec (i < x.first) → holds x i ≡ 0
            or (yes k) = holds-before x i k
            or (no k) = holds_after x i (omega arith)

-- of a split, each index below r is summed once
pub sum_of_split : (r : ℕ) (xs : List Run) → Splits r xs → (f : ℕ → ℕ) (N : ℕ) → Σ (r + N) (λ i. in_runs xs i * f i) ≡ Σ r f
sum_of_split r xs s f N =
    Σ_split r N (λ i. in_runs xs i * f i)
    ∙ ap₂ ◌+◌ (Σ_ext r (λ i. in_runs xs i * f i) f (λ i l. one_of (in_runs xs i) (f i) (s.once i l)))
    (zeros N (λ i. in_runs xs (r + i) * f (r + i)) (λ i l. none_of (in_runs xs (r + i)) (f (r + i)) (s.inside (r + i) (omega arith))))
    ∙ plus_zero (Σ r f)
  where
    plus_zero : (n : ℕ) → n + 0 ≡ n
    plus_zero n = omega arith
