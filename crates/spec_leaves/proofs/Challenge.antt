-- The shuffle keeps the multiset of entries, and what follows of a challenge.
use mathlib.Core.Path.{◌≡◌, refl, sym, ap, ◌∙◌}
use mathlib.Core.Bool.{Bool, true, false, cond, not}
use mathlib.Core.List.{List}
use mathlib.Core.Logic.{◌⊎◌, inl, inr}
use Prim.Native.Nat.{ℕ, zero, suc, ◌+◌, ◌-◌, ◌*◌, ◌%◌, ◌≤◌, ◌<◌}
use native.Mathlib.Nat.{mod-lt, not-suc-le-zero, eq-or-lt_of_le}
use native.Mathlib.Decide.{ℕ_discrete}
use native.Mathlib.Omega.{arith}
use lib.Dec.{ltb, eqb}
use lib.ListN.{length, get_or, set, length-set}
use lib.IntN.{pos, neg_ℤ}
use lib.Seq.{lt-length-set, get_or-set_same, get_or-set_other}
use borrow.Author.Tests.{lt-ltb, ltb-true}
use Rattle.math.specs.lists.Sum.{Σ}
use Rattle.math.proofs.lists.Table.{length-table, get_or-table}
use Rattle.math.proofs.lists.Sum.{Σ_ext, Σ_zero, Σ-term}
use Rattle.spec_leaves.specs.Zq.{Q, Canonical, zneg, centre, size}
use Rattle.spec_leaves.specs.Digits.{signed}
use Rattle.spec_leaves.specs.Norm.{norm}
use Rattle.spec_leaves.specs.Rq.{AllCanonical}
use Rattle.spec_leaves.specs.Challenge.{start_size, start_coeff, start, swap, swaps, shuffle, challenge}
use Rattle.spec_leaves.proofs.Cases.{ltb_cases}
use Rattle.spec_leaves.proofs.Centre.{size-signed, centre_of-signed, signed-canonical}

-- the sum of f over the entries of a list
abbrev pub total : (ℕ → ℕ) → List ℕ → ℕ
total f a = Σ (length a) (λ i. f (get_or a i 0))

-- how many entries of a list pass a test
abbrev pub count : (ℕ → Bool) → List ℕ → ℕ
count p a = total (λ x. cond (p x) 1 0) a

-- storing v at j puts f v in the place of f a_j
Σ_set : (f : ℕ → ℕ) (a : List ℕ) (j v n : ℕ) → j < n → j < length a → Σ n (λ i. f (get_or (set a j v) i 0)) + f (get_or a j 0) ≡ Σ n (λ i. f (get_or a i 0)) + f v
unfolding Σ
Σ_set f a j v zero h l = absurd (not-suc-le-zero h)
Σ_set f a j v (suc n) h l = go (eq-or-lt_of_le h) (Σ_set f a j v n)
  where
    go : (suc j ≡ suc n) ⊎ (suc j < suc n)
        → (j < n → j < length a → Σ n (λ i. f (get_or (set a j v) i 0)) + f (get_or a j 0) ≡ Σ n (λ i. f (get_or a i 0)) + f v)
        → Σ n (λ i. f (get_or (set a j v) i 0)) + f (get_or (set a j v) n 0) + f (get_or a j 0) ≡ Σ n (λ i. f (get_or a i 0)) + f (get_or a n 0) + f v
    go (inl e) ih =
        let k : j ≡ n = omega arith in
        let below : Σ n (λ i. f (get_or (set a j v) i 0)) ≡ Σ n (λ i. f (get_or a i 0)) = Σ_ext n (λ i. f (get_or (set a j v) i 0)) (λ i. f (get_or a i 0))
        (λ i m. ap f (get_or-set_other a j i v 0 (omega arith))) in
        let here : f (get_or (set a j v) n 0) ≡ f v = ap (λ i. f (get_or (set a j v) i 0)) (sym k) ∙ ap f (get_or-set_same a j v 0 l) in
        let there : f (get_or a j 0) ≡ f (get_or a n 0) = ap (λ i. f (get_or a i 0)) k in
        omega arith
    go (inr m) ih =
        let last : f (get_or (set a j v) n 0) ≡ f (get_or a n 0) = ap f (get_or-set_other a j n v 0 (omega arith)) in
        omega (arith, ih (omega arith) l)

-- a swap keeps the length
pub length-swap : (a : List ℕ) (i j : ℕ) → length (swap a i j) ≡ length a
length-swap a i j = simp length-set

-- with a_j stored at i, the value at j is a_j
after-set : (a : List ℕ) (i j : ℕ) → i < length a → get_or (set a i (get_or a j 0)) j 0 ≡ get_or a j 0
after-set a i j h = go (ℕ_discrete j i)
  where
    go : Dec (j ≡ i) → get_or (set a i (get_or a j 0)) j 0 ≡ get_or a j 0
    go (yes e) = ap (λ k. get_or (set a i (get_or a j 0)) k 0) e ∙ get_or-set_same a i (get_or a j 0) 0 h
    go (no n) = get_or-set_other a i j (get_or a j 0) 0 n

-- a swap keeps the sum of f over the entries
pub total-swap : (f : ℕ → ℕ) (a : List ℕ) (i j : ℕ) → i < length a → j < length a → total f (swap a i j) ≡ total f a
total-swap f a i j h l =
    let b : List ℕ = set a i (get_or a j 0) in
    let first : Σ (length a) (λ k. f (get_or b k 0)) + f (get_or a i 0) ≡ total f a + f (get_or a j 0) = Σ_set f a i (get_or a j 0) (length a) h h in
    let second : Σ (length a) (λ k. f (get_or (swap a i j) k 0)) + f (get_or b j 0) ≡ Σ (length a) (λ k. f (get_or b k 0)) + f (get_or a i 0) = Σ_set f b j (get_or a i 0) (length a)
    l (lt-length-set a i (get_or a j 0) l) in
    let same : f (get_or b j 0) ≡ f (get_or a j 0) = ap f (after-set a i j h) in
    ap (λ n. Σ n (λ k. f (get_or (swap a i j) k 0))) (length-swap a i j) ∙ omega arith

-- swaps keep the length
pub length-swaps : (words : List ℕ) (k : ℕ) (a : List ℕ) → length (swaps words k a) ≡ length a
unfolding swaps
length-swaps words zero a = refl
length-swaps words (suc k) a = simp length-set (length-swaps words k a)

-- swaps keep the sum of f over the entries
pub total-swaps : (f : ℕ → ℕ) (words : List ℕ) (k : ℕ) (a : List ℕ) → length a ≡ 64 → total f (swaps words k a) ≡ total f a
unfolding swaps
total-swaps f words zero a e = refl
total-swaps f words (suc k) a e =
    let n : length (swaps words k a) ≡ 64 = length-swaps words k a ∙ e in
    total-swap f (swaps words k a) (63 - k) (get_or words k 0 % (63 - k + 1)) (omega arith) (omega (arith, mod-lt (get_or words k 0) {m = 63 - k + 1} (omega arith)))
    ∙ total-swaps f words k a e

-- the shuffle keeps the length
pub length-shuffle : (words a : List ℕ) → length (shuffle words a) ≡ length a
unfolding shuffle
length-shuffle words a = length-swaps words 63 a

-- the shuffle keeps the sum of f over the entries
pub total-shuffle : (f : ℕ → ℕ) (words a : List ℕ) → length a ≡ 64 → total f (shuffle words a) ≡ total f a
unfolding shuffle
total-shuffle f words a e = total-swaps f words 63 a e

-- the shuffle keeps how many entries pass a test
pub count-shuffle : (p : ℕ → Bool) (words a : List ℕ) → length a ≡ 64 → count p (shuffle words a) ≡ count p a
count-shuffle p words a e = total-shuffle (λ x. cond (p x) 1 0) words a e

-- what each entry passes, each entry of the shuffled list passes
pub all-shuffle : (p : ℕ → Bool) (words a : List ℕ) → length a ≡ 64 → ((k : ℕ) → k < 64 → p (get_or a k 0) ≡ true) → (k : ℕ) → k < 64 → p (get_or (shuffle words a) k 0) ≡ true
all-shuffle p words a e h k l =
    let none : total fails (shuffle words a) ≡ 0 = total-shuffle fails words a e ∙ ap (λ n. Σ n (λ i. fails (get_or a i 0))) e
    ∙ Σ_ext 64 (λ i. fails (get_or a i 0)) (λ i. 0) (λ i m. ap (λ t. cond t 0 1) (h i m)) ∙ Σ_zero 64 in
    passes (p (get_or (shuffle words a) k 0)) (omega (arith, Σ-term (length (shuffle words a)) (λ i. fails (get_or (shuffle words a) i 0)) k (rw (length-shuffle words a, e) l)))
  where
    fails : ℕ → ℕ
    fails x = cond (p x) 0 1

    passes : (t : Bool) → cond t 0 1 ≤ 0 → t ≡ true
    passes true z = refl
    passes false z = absurd (not-suc-le-zero z)

-- a size before the shuffle is at most 2
start_size-le : (k : ℕ) → start_size k ≤ 2
start_size-le k = ltb_cases (λ t. cond t 1 (cond (ltb k 41) 2 0) ≤ 2) k 31 (λ h. omega arith) (λ h. ltb_cases (λ t. cond t 2 0 ≤ 2) k 41 (λ m. omega arith) (λ m. omega arith))

-- sign 1 gives the size itself
pub start-plus : (signs : List ℕ) (k : ℕ) → get_or signs k 0 ≡ 1 → centre (start_coeff signs k) ≡ pos (start_size k)
start-plus signs k e = rw e (centre_of-signed false (start_size k) (omega (arith, start_size-le k)))

-- sign 0 gives minus the size
pub start_minus : (signs : List ℕ) (k : ℕ) → get_or signs k 0 ≡ 0 → centre (start_coeff signs k) ≡ neg_ℤ (pos (start_size k))
start_minus signs k e = rw e (centre_of-signed true (start_size k) (omega (arith, start_size-le k)))

-- a coefficient before the shuffle is the size with its sign
start-signed : (signs : List ℕ) (k : ℕ) → start_coeff signs k ≡ signed (not (eqb (get_or signs k 0) 1)) (start_size k)
start-signed signs k = either (eqb (get_or signs k 0) 1)
  where
    either : (t : Bool) → cond t (start_size k) (zneg (start_size k)) ≡ signed (not t) (start_size k)
    either true = refl
    either false = refl

-- a coefficient before the shuffle has the size that its place gives
pub size-start : (signs : List ℕ) (k : ℕ) → size (start_coeff signs k) ≡ start_size k
size-start signs k = ap size (start-signed signs k) ∙ size-signed (not (eqb (get_or signs k 0) 1)) (start_size k) (omega (arith, start_size-le k))

-- a coefficient before the shuffle is canonical
pub start-canonical : (signs : List ℕ) (k : ℕ) → Canonical (start_coeff signs k)
start-canonical signs k = rw (start-signed signs k) (signed-canonical (not (eqb (get_or signs k 0) 1)) (start_size k) (omega (arith, start_size-le k)))

-- there are 64 coefficients before the shuffle
pub length-start : (signs : List ℕ) → length (start signs) ≡ 64
unfolding start
length-start signs = length-table 64 (start_coeff signs)

-- coefficient k before the shuffle
pub get_or-start : (signs : List ℕ) (k : ℕ) → k < 64 → get_or (start signs) k 0 ≡ start_coeff signs k
unfolding start
get_or-start signs k h = get_or-table 64 (start_coeff signs) k 0 h

-- a challenge has 64 coefficients
pub length-challenge : (signs words : List ℕ) → length (challenge signs words) ≡ 64
unfolding challenge
length-challenge signs words = length-shuffle words (start signs) ∙ length-start signs

-- what the sizes of a challenge's coefficients give, summed, depends on neither signs nor shuffle
pub total-challenge : (g : ℕ → ℕ) (signs words : List ℕ) → total (λ x. g (size x)) (challenge signs words) ≡ Σ 64 (λ k. g (start_size k))
unfolding challenge
total-challenge g signs words =
    total-shuffle (λ x. g (size x)) words (start signs) (length-start signs)
    ∙ ap (λ n. Σ n (λ k. g (size (get_or (start signs) k 0)))) (length-start signs)
    ∙ Σ_ext 64 (λ k. g (size (get_or (start signs) k 0))) (λ k. g (start_size k)) (λ k h. ap g (ap size (get_or-start signs k h) ∙ size-start signs k))

-- "23 zeros, 31 of size one, 10 of size two"
pub count-challenge : (signs words : List ℕ)
    → (count (λ x. eqb (size x) 0) (challenge signs words) ≡ 23)
    × (count (λ x. eqb (size x) 1) (challenge signs words) ≡ 31)
    × (count (λ x. eqb (size x) 2) (challenge signs words) ≡ 10)
unfolding Σ
count-challenge signs words = (
  total-challenge (λ n. cond (eqb n 0) 1 0) signs words,
  total-challenge (λ n. cond (eqb n 1) 1 0) signs words,
  total-challenge (λ n. cond (eqb n 2) 1 0) signs words,
)

-- "Sizes sum to 51"
pub sizes_challenge : (signs words : List ℕ) → total size (challenge signs words) ≡ 51
unfolding Σ
sizes_challenge signs words = total-challenge (λ n. n) signs words

-- the norm of a challenge is 71
pub norm-challenge : (signs words : List ℕ) → norm (challenge signs words) ≡ 71
unfolding Σ norm
norm-challenge signs words = total-challenge (λ n. n * n) signs words

-- each coefficient of a challenge is canonical
pub challenge-canonical : (signs words : List ℕ) → AllCanonical (challenge signs words)
unfolding challenge
challenge-canonical signs words k h =
    ltb-true
    (get_or (challenge signs words) k 0)
    Q
    (all-shuffle (λ x. ltb x Q) words (start signs) (length-start signs) before k (rw (length-challenge signs words) at h))
  where
    before : (i : ℕ) → i < 64 → ltb (get_or (start signs) i 0) Q ≡ true
    before i m = lt-ltb (get_or (start signs) i 0) Q (rw (get_or-start signs i m) (start-canonical signs i))
