-- What a word lacks of Q is at most Q, and the negative modulo Q; a lowered word is at most Q, and the same modulo Q.
use Rattle.std.proofs.Common.{◌≡◌, ℕ, ◌+◌, ◌-◌, ◌*◌, ◌%◌, ◌^◌, ◌<◌, ◌≤◌, cond, ltb, sym, refl, ap, ◌∙◌, zero-add, arith, le-ltb}
use Rattle.spec_leaves.specs.Zq.{Q, lack_Q, zneg, zsub}
use Rattle.spec_leaves.proofs.Cases.{ltb_cases}
use Rattle.spec_leaves.proofs.Suited.{suited, words-below-twice}
use Rattle.ring_zq.specs.Words.{lack, lowered}

-- a word is below 2·Q, since Q lacks little of 2^32
pub word_below : (a : ℕ) → a < 2 ^ 32 → a < 2 * Q
word_below a h = omega (arith, words-below-twice lack_Q suited)

-- it is at most Q
pub lack-le : (a : ℕ) → lack a ≤ Q
lack-le a = ltb_cases (λ t. cond t (Q - (a - Q)) (Q - a) ≤ Q) Q a (λ l. omega arith) (λ l. omega arith)

-- how many Q a word and what it lacks make: 1, or 2 where the word is above Q
pub over : ℕ → ℕ
over a = cond (ltb Q a) 2 1

-- they make so many Q
pub lack-whole : (a : ℕ) → a < 2 ^ 32 → lack a + a ≡ Q * over a
unfolding over
lack-whole a h = ltb_cases (λ t. cond t (Q - (a - Q)) (Q - a) + a ≡ Q * cond t 2 1) Q a (λ l. omega (arith, word_below a h)) (λ l. omega arith)

-- of a canonical value it is what is missing to Q
pub lack-canonical : (a : ℕ) → a < Q → lack a ≡ Q - a
lack-canonical a h = ltb_cases (λ t. cond t (Q - (a - Q)) (Q - a) ≡ Q - a) Q a (λ l. omega arith) (λ l. refl)

-- with a word added to a number, it gives the difference
pub lack-sub : (x a : ℕ) → a < 2 ^ 32 → (x + lack a) % Q ≡ zsub x a
lack-sub x a h = ltb_cases (λ t. (x + cond t (Q - (a - Q)) (Q - a)) % Q ≡ zsub x a) Q a (λ l. above l) (λ l. omega arith)
  where
    above : Q < a → (x + (Q - (a - Q))) % Q ≡ zsub x a
    above l = let e : a % Q ≡ a - Q = omega (arith, word_below a h) in omega (arith, word_below a h)

-- modulo Q it is the negative
pub lack-neg : (a : ℕ) → a < 2 ^ 32 → lack a % Q ≡ zneg a
lack-neg a h = ap (λ x. x % Q) (sym (zero-add (lack a))) ∙ lack-sub 0 a h ∙ ap (λ x. x % Q) (zero-add (Q - a % Q))

-- a word that is lowered is at most Q, and the same modulo Q
pub lowered-le : (a : ℕ) → a < 2 ^ 32 → lowered a ≤ Q
lowered-le a h = ltb_cases (λ t. cond t (a - Q) a ≤ Q) Q a (λ l. omega (arith, word_below a h)) (λ l. l)

pub lowered-mod : (a : ℕ) → lowered a % Q ≡ a % Q
lowered-mod a = ltb_cases (λ t. cond t (a - Q) a % Q ≡ a % Q) Q a (λ l. omega arith) (λ l. refl)

-- and added to a number
pub lowered-add : (x a : ℕ) → (x + lowered a) % Q ≡ (x + a) % Q
lowered-add x a = ltb_cases (λ t. (x + cond t (a - Q) a) % Q ≡ (x + a) % Q) Q a (λ l. omega arith) (λ l. refl)

-- a number up to Q is as it was
pub lowered-same : (a : ℕ) → a ≤ Q → lowered a ≡ a
lowered-same a h = ap (λ t. cond t (a - Q) a) (le-ltb Q a h)
