-- 64 entries of which the first t of each half are those of a function, and the others zero.
use mathlib.Core.Path.{◌≡◌, sym, ap, ◌∙◌}
use mathlib.Core.Bool.{cond}
use mathlib.Core.List.{List}
use mathlib.Core.Logic.{◌≢◌}
use Prim.Native.Nat.{ℕ, ◌+◌, ◌%◌, ◌<◌}
use native.Mathlib.Decide.{dec_lt, ℕ_discrete}
use native.Mathlib.Omega.{arith}
use borrow.Author.Tests.{lt-ltb, le-ltb}
use lib.Dec.{ltb}
use lib.ListN.{length, get_or, set, length-set, replicate}
use lib.Seq.{get_or-set_same, get_or-set_other}
use Rattle.math.specs.lists.Table.{table, padded}
use Rattle.math.proofs.lists.Table.{length-table, get_or-table, table_ext, is_table}
use Rattle.math.proofs.lists.Padded.{padded-none}

-- entry k where the first t of each half are done
abbrev pub half_at : (ℕ → ℕ) → ℕ → ℕ → ℕ
half_at f t k = cond (ltb (k % 32) t) (f k) 0

-- the first t of each half
unfoldable pub halves : (ℕ → ℕ) → ℕ → List ℕ
halves f t = table 64 (half_at f t)

pub halves_none : (f : ℕ → ℕ) → replicate 64 0 ≡ halves f 0
unfolding halves padded
halves_none f = padded-none 64 0 f ∙ table_ext 64 (λ i. cond (ltb i 0) (f i) 0) (half_at f 0) (λ k h. simp (le-ltb k 0 (omega arith), le-ltb (k % 32) 0 (omega arith)))

pub halves_done : (f : ℕ → ℕ) (l : List ℕ) (t : ℕ) → l ≡ halves f t → t ≡ 32 → l ≡ table 64 f
unfolding halves
halves_done f l t e h = e ∙ table_ext 64 (half_at f t) f (λ k m. simp (lt-ltb (k % 32) t (omega arith)))

-- one more entry of each half
pub halves_next : (f : ℕ → ℕ) (l : List ℕ) (t a b : ℕ) → l ≡ halves f t → t < 32 → a ≡ f t → b ≡ f (t + 32) → set (set l t a) (t + 32) b ≡ halves f (t + 1)
unfolding halves
halves_next f l t a b e h ea eb =
    is_table 64 (set (set l t a) (t + 32) b) (half_at f (t + 1)) 0 (length-set (set l t a) (t + 32) b ∙ length-set l t a ∙ n) (λ k m. at k m (ℕ_discrete k t) (ℕ_discrete k (t + 32)))
  where
    n : length l ≡ 64
    n = ap length e ∙ length-table 64 (half_at f t)

    before : (k : ℕ) → k < 64 → get_or l k 0 ≡ half_at f t k
    before k m = ap (λ x. get_or x k 0) e ∙ get_or-table 64 (half_at f t) k 0 m

    done : (k : ℕ) → k % 32 < t + 1 → f k ≡ half_at f (t + 1) k
    done k l = sym (ap (λ c. cond c (f k) 0) (lt-ltb (k % 32) (t + 1) l))

    same : (k : ℕ) → Dec (k % 32 < t) → k < 64 → k ≢ t → k ≢ t + 32 → half_at f t k ≡ half_at f (t + 1) k
    same k (yes l) m p neginv = ap (λ c. cond c (f k) 0) (lt-ltb (k % 32) t l) ∙ done k (omega arith)
    same k (no l) m p neginv = ap (λ c. cond c (f k) 0) (le-ltb (k % 32) t (omega arith)) ∙ sym (ap (λ c. cond c (f k) 0) (le-ltb (k % 32) (t + 1) (omega arith)))

    first : (k : ℕ) → k ≡ t → get_or (set (set l t a) (t + 32) b) k 0 ≡ half_at f (t + 1) k
    first k p =
        get_or-set_other (set l t a) (t + 32) k b 0 (omega arith)
        ∙ ap (λ i. get_or (set l t a) i 0) p
        ∙ get_or-set_same l t a 0 (omega (arith, n))
        ∙ ea
        ∙ ap f (sym p)
        ∙ done k (omega arith)

    second : (k : ℕ) → k ≡ t + 32 → get_or (set (set l t a) (t + 32) b) k 0 ≡ half_at f (t + 1) k
    second k p =
        ap (λ i. get_or (set (set l t a) (t + 32) b) i 0) p
        ∙ get_or-set_same (set l t a) (t + 32) b 0 (omega (arith, n, length-set l t a))
        ∙ eb
        ∙ ap f (sym p)
        ∙ done k (omega arith)

    at : (k : ℕ) → k < 64 → Dec (k ≡ t) → Dec (k ≡ t + 32) → get_or (set (set l t a) (t + 32) b) k 0 ≡ half_at f (t + 1) k
    at k m (yes p) neginv = first k p
    at k m (no p) (yes neginv) = second k neginv
    at k m (no p) (no neginv) = get_or-set_other (set l t a) (t + 32) k b 0 neginv ∙ get_or-set_other l t k a 0 p ∙ before k m ∙ same k (dec_lt (k % 32) t) m p neginv
