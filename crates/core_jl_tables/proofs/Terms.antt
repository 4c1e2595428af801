-- Terms added to a sum that is kept with 2^31 added.
use Rattle.std.proofs.Common.{◌≡◌, ℕ, zero, suc, ◌+◌, ◌-◌, ◌%◌, ◌^◌, ◌<◌, ◌≤◌, Bool, true, false, cond, ltb, sym, refl, ap, ◌∙◌, ap₂, add-zero, add_assoc, add-one, arith, le-ltb, lt-ltb}
use Rattle.math.specs.lists.Sum.{Σ}
use Rattle.spec_leaves.specs.Zq.{Q, lack_Q}
use Rattle.spec_leaves.proofs.Modulo.{add-mod}
use Rattle.ring_zq.proofs.Words.{lowered-same}
use Rattle.core_jl_transpose.specs.Omega.{carried}
use Rattle.core_jl_transpose.proofs.Columns.{carried-word, carried-mod}
use Rattle.core_jl_tables.specs.Pairs.{biased}
use Rattle.core_jl_tables.specs.Tables.{biased_sum, terms_added}

-- one more term
pub terms-next : (f : ℕ → ℕ) (x t : ℕ) → biased_sum (terms_added f x t) (f t) ≡ terms_added f x (t + 1)
unfolding terms_added
terms-next f x t = rw add-one

pub terms-none : (f : ℕ → ℕ) (x : ℕ) → x ≡ terms_added f x 0
unfolding terms_added
terms-none f x = refl

-- terms that agree
pub terms_ext : (f g : ℕ → ℕ) (x n : ℕ) → ((t : ℕ) → t < n → f t ≡ g t) → terms_added f x n ≡ terms_added g x n
unfolding terms_added
terms_ext f g x zero h = refl
terms_ext f g x (suc n) h = ap₂ biased_sum (terms_ext f g x n (λ t l. h t (omega arith))) (h n (omega arith))

-- 2^31 added twice
biased-twice : (x : ℕ) → x < 4294967296 → biased (biased x) ≡ x
biased-twice x h = omega arith

-- a term added before or after 2^31
biased-plus : (x term : ℕ) → x < 4294967296 → term < 4294967296 → biased ((x + term) % 4294967296) ≡ (biased x + term) % 4294967296
biased-plus x term h l = omega arith

-- sums less than before have passed 32 bits, and no others
passes : (a term : ℕ) → a < 4294967296 → term < 4294967296 → (a + term) % 4294967296 < a → 4294967296 ≤ a + term
passes a term h l less = omega arith

stays : (a term : ℕ) → a < 4294967296 → term < 4294967296 → a ≤ (a + term) % 4294967296 → a + term < 4294967296
stays a term h l more = omega arith

-- a sum that has passed, and 2^31 added to it less Q
once_less : (y : ℕ) → 4294967296 ≤ y → y - Q < 4294967296 → y < 8589934592 → (biased (y % 4294967296) + lack_Q) % 4294967296 ≡ biased (y - Q)
once_less y h l m = omega arith

mod-small : (y : ℕ) → y < 4294967296 → y % 4294967296 ≡ y
mod-small y h = omega arith

module _ (x term next : ℕ) (small : x < 4294967296) (few : term ≤ Q) (e : next ≡ (x + term) % 4294967296) where
  word : term < 4294967296
  word = omega arith

  -- what is kept, without the 2^31
  kept : biased next ≡ (biased x + term) % 4294967296
  kept = ap biased e ∙ biased-plus x term small word

  again : next ≡ biased ((biased x + term) % 4294967296)
  again = sym (biased-twice next (omega arith)) ∙ ap biased kept

  -- the term is lowered already
  carried_as : (t : Bool) → ltb (biased x + term) 4294967296 ≡ t → biased_sum x term ≡ biased (cond t (biased x + term) (biased x + term - Q))
  carried_as t h =
      ap (λ u. biased (cond (ltb (biased x + u) 4294967296) (biased x + u) (biased x + u - Q))) (lowered-same term few)
      ∙ ap (λ t. biased (cond t (biased x + term) (biased x + term - Q))) h

  pub sum_passed : biased next < biased x → (next + lack_Q) % 4294967296 ≡ biased_sum x term
  sum_passed less =
      let past : 4294967296 ≤ biased x + term = passes (biased x) term (omega arith) word (rw kept at less) in
      ap (λ n. (n + lack_Q) % 4294967296) again
      ∙ once_less (biased x + term) past (omega arith) (omega arith)
      ∙ sym (carried_as false (le-ltb (biased x + term) 4294967296 past))

  pub sum_stayed : biased x ≤ biased next → next ≡ biased_sum x term
  sum_stayed more =
      let within : biased x + term < 4294967296 = stays (biased x) term (omega arith) word (rw kept at more) in
      again ∙ ap biased (mod-small (biased x + term) within) ∙ sym (carried_as true (lt-ltb (biased x + term) 4294967296 within))

-- modulo Q the terms are added
pub terms-mod : (f : ℕ → ℕ) (x n : ℕ) → ((t : ℕ) → f t < 2 ^ 32) → biased (terms_added f x n) % Q ≡ (biased x + Σ n f) % Q
unfolding terms_added Σ
terms-mod f x zero h = ap (λ y. y % Q) (sym (add-zero (biased x)))
terms-mod f x (suc n) h =
    let before : ℕ = biased (terms_added f x n) in
    ap (λ y. y % Q) (biased-twice (carried before (f n)) (carried-word before (f n) (omega arith) (h n)))
    ∙ carried-mod before (f n)
    ∙ add-mod Q before (f n) (biased x + Σ n f) (f n) (terms-mod f x n h) refl
    ∙ ap (λ y. y % Q) (add_assoc (biased x) (Σ n f) (f n))
