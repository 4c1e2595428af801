-- Laws of decimal text.
use mathlib.Core.Path.{◌≡◌, sym, ◌∙◌, ap}
use mathlib.Core.Bool.{Bool, true, false, cond}
use Rattle.std.specs.Prelude.{Option, Some, None}
use mathlib.Core.List.{[], ◌∷◌, ◌++◌}
use Prim.Native.Nat.{ℕ, zero, suc, ◌+◌, ◌-◌, ◌*◌, ◌/◌, ◌%◌, ◌^◌, ◌≤◌, ◌<◌}
use native.Mathlib.Nat.{pow-suc}
use native.Mathlib.Omega.{arith}
use lib.Dec.{ltb}
use lib.ListN.{length, length-append}
use lib.IntN.{ℤ, pos, negsuc, ◌-ℤ◌}
use borrow.Author.Tests.{lt-ltb, le-ltb}
use Rattle.std.specs.Fmt.{decimal as Fmt·decimal, signed_decimal}
use Rattle.std.proofs.lemmas.Fmt.{AppendsLastDigit, decimal_from_appends, length-decimal-le}
use Rattle.spec_leaves.specs.Zq.{Q, half_Q, Canonical, zadd, zmul, centre, size}
use Rattle.zq_lines_text.specs.Text.{decimal_in, decimal, signed}
use Rattle.zq_lines_text.specs.Line.{text}

-- the number's front is written, and then its last digit
decimal_in-appends : AppendsLastDigit decimal_in
unfolding decimal_in
decimal_in-appends = record { one = λ k n h. rw (lt-ltb n 10 h); more = λ k n h. rw (le-ltb n 10 h) }

-- `decimal` is what `{}` writes of a word
pub decimal-word : (n : ℕ) → n < 2 ^ 32 → Fmt·decimal n ≡ decimal n
unfolding decimal
decimal-word n h = sym (decimal_from_appends decimal_in decimal_in-appends 10 n (omega arith) (length-decimal-le 10 n (omega arith) (omega arith) (omega arith)))

-- `signed` is what `{}` writes of a centre
pub signed-centre : (a : ℕ) → Canonical a → signed_decimal (centre a) ≡ signed (centre a)
signed-centre a c = by (ltb half_Q a)
  where
    by : (t : Bool) → signed_decimal (cond t (pos a -ℤ pos Q) (pos a)) ≡ signed (cond t (pos a -ℤ pos Q) (pos a))
    by true = rw (lt-ltb a Q c) (ap (λ l. 45 ∷ l) (decimal-word (suc (Q - suc a)) (omega arith)))
    by false = decimal-word a (omega arith)

-- a number below ten has one digit
pub decimal_digit : (n : ℕ) → n < 10 → decimal n ≡ (48 + n) ∷ []
unfolding decimal decimal_in
decimal_digit n h = rw (lt-ltb n 10 h)

-- a number of two digits and more: the digits of n / 10, and the last one
decimal_in_split : (k n : ℕ) → 10 ≤ n → decimal_in (suc k) n ≡ decimal_in k (n / 10) ++ ((48 + n % 10) ∷ [])
unfolding decimal_in
decimal_in_split k n h = rw (le-ltb n 10 h)

-- where k digits suffice, one more changes nothing
decimal_in_more : (k n : ℕ) → n < 10 ^ suc k → decimal_in (suc k) n ≡ decimal_in (suc (suc k)) n
unfolding decimal_in
decimal_in_more zero n h =
    let p : n < 10 = h in
    rw (lt-ltb n 10 p)
decimal_in_more (suc k) n h =
    let p : n < 10 ^ suc k * 10 = rw (pow-suc 10 (suc k)) at h in
    ap (λ l. cond (ltb n 10) ((48 + n) ∷ []) (l ++ ((48 + n % 10) ∷ []))) (decimal_in_more k (n / 10) (omega arith))

-- a word of two digits and more: the digits of n / 10, and the last one
pub decimal_more : (n : ℕ) → 10 ≤ n → n < 2 ^ 32 → decimal n ≡ decimal (n / 10) ++ ((48 + n % 10) ∷ [])
unfolding decimal
decimal_more n h p = decimal_in_split 9 n h ∙ ap (λ l. l ++ ((48 + n % 10) ∷ [])) (decimal_in_more 8 (n / 10) (omega arith))

-- it has one digit more than n / 10
pub length-decimal_more : (n : ℕ) → 10 ≤ n → n < 2 ^ 32 → length (decimal n) ≡ length (decimal (n / 10)) + 1
length-decimal_more n h p = ap length (decimal_more n h p) ∙ length-append (decimal (n / 10)) ((48 + n % 10) ∷ [])

-- at most k digits
length-decimal_in : (k n : ℕ) → length (decimal_in k n) ≤ k
unfolding decimal_in
length-decimal_in zero n = omega arith
length-decimal_in (suc k) n = by (ltb n 10) (length-decimal_in k (n / 10))
  where
    by : (t : Bool) → length (decimal_in k (n / 10)) ≤ k → length (cond t ((48 + n) ∷ []) (decimal_in k (n / 10) ++ ((48 + n % 10) ∷ []))) ≤ suc k
    by true h = omega arith
    by false h = rw length-append (omega arith)

-- at most ten digits
pub length-decimal : (n : ℕ) → length (decimal n) ≤ 10
unfolding decimal
length-decimal n = length-decimal_in 10 n

-- at most ten digits and a space
pub length_spaced : (n : ℕ) → length (decimal n ++ (32 ∷ [])) ≤ 11
length_spaced n = rw length-append (omega (arith, length-decimal n))

-- at most a sign and ten digits
pub length-signed : (z : ℤ) → length (signed z) ≤ 11
length-signed (pos n) = omega (arith, length-decimal n)
length-signed (negsuc n) = omega (arith, length-decimal (suc n))

-- an answer has at most 55 bytes
pub length-text : (p : Option (ℕ × ℕ)) → length (text p) ≤ 55
unfolding text
length-text (Some (a, b)) =
    simp length-append
    (omega (arith, length-decimal a, length-decimal b, length-decimal (zadd a b), length-decimal (zmul a b), length-signed (centre a)))
length-text None = omega arith

-- the text of a centre that is not below zero
pub signed-small : (a : ℕ) → a ≤ half_Q → signed (centre a) ≡ decimal a
signed-small a h = rw (le-ltb half_Q a h)

-- the text of a centre below zero
pub signed_large : (a : ℕ) → half_Q < a → Canonical a → signed (centre a) ≡ 45 ∷ decimal (size a)
signed_large a h c = rw (lt-ltb half_Q a h, lt-ltb a Q c) (ap (λ n. 45 ∷ decimal n) less)
  where
    less : suc (Q - suc a) ≡ Q - a
    less = omega arith
