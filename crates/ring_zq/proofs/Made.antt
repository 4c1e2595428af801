-- What `array::from_fn` makes of a closure that changes nothing.
use Rattle.std.proofs.Common.{◌≡◌, ℕ, zero, suc, ◌+◌, ◌<◌, ◌≤◌, List, length, get_or, sym, ap, subst, ◌∙◌, arith}
use Rattle.std.specs.Array.{IsFromFnResult, IsFromFnResultFrom}
use denote.Param.Members.{Mut, Called}
use native.Mathlib.Decide.{dec_lt}
use Rattle.math.specs.lists.Table.{table}
use Rattle.math.proofs.lists.Table.{is_table}

-- at the place that is reached the element is known, and beyond it by what follows
here_or_on : (ys : List ℕ) (want : ℕ → ℕ) (i k : ℕ) → Dec (i < k) → i ≤ k → get_or ys i 0 ≡ want i → (i < k → get_or ys k 0 ≡ want k) → get_or ys k 0 ≡ want k
here_or_on ys want i k (yes l) le here on = on l
here_or_on ys want i k (no l) le here on =
    let e : i ≡ k = omega arith in
    sym (ap (λ j. get_or ys j 0) e) ∙ here ∙ ap want e

module _ {F : Type 0} (g : Mut F (ℕ × Unit {0}) ℕ) (f : F) (want : ℕ → ℕ) (calls : (i y : ℕ) (q : F) → Called g f (i, tt {0}) y q → (y ≡ want i) × (q ≡ f)) where
  -- element k of the n from i on
  element_at : (ys : List ℕ) (i n k : ℕ) → IsFromFnResultFrom g f ys i n → i ≤ k → k < i + n → get_or ys k 0 ≡ want k
  element_at ys i zero k h l m = absurd (omega arith)
  element_at ys i (suc n) k h l m =
      let c = calls i h.1 h.0 h.3 in
      here_or_on ys want i k (dec_lt i k) l (h.2.1 0 ∙ c.0) (λ b. element_at ys (i + 1) n k (subst (λ q. IsFromFnResultFrom g q ys (i + 1) n) c.1 h.4) (omega arith) (omega arith))

  -- the results of the calls are the table of what they give
  pub made : (ys : List ℕ) (n : ℕ) → IsFromFnResult g f ys n → ys ≡ table n want
  made ys n h = is_table n ys want 0 h.long (λ i l. element_at ys 0 n i h.each (omega arith) (omega arith))
