-- The rows taken so far as one congruence.
use mathlib.Core.Path.{◌≡◌, subst}
use mathlib.Core.Logic.{◌↔◌}
use mathlib.Core.List.{List}
use Prim.Native.Nat.{ℕ, ◌+◌, ◌*◌, ◌<◌}
use native.Mathlib.Nat.{dvd_refl, mul-mod_right}
use native.Mathlib.Omega.{arith}
use borrow.Author.Count.{below_more}
use lib.ListN.{get_or}
use Rattle.spec_leaves.specs.Zq.{Q}
use Rattle.mistyped_solve.specs.declared.congruence.Congruence.{Congruence}
use Rattle.std.specs.Prelude.{Option, Some, None}
use Rattle.mistyped_solve.specs.Congruence.{Solves, Reduced, Combines, Found}
use Rattle.mistyped_solve.specs.Rows.{Supplies}

-- what is found of one fact is found of another that holds of the same numbers
pub found-same : (p q : ℕ → Type 0) → ((x : ℕ) → p x ↔ q x) → (s : Option ℕ) → Found p s → Found q s
found-same p q e (Some x) (c, (h, f)) = (c, ((e x).0 h, λ y k g. f y k ((e y).1 g)))
found-same p q e None f = λ y g. f y ((e y).1 g)

module _ (R : List ℕ) (at width : ℕ) (lacking : List ℕ) where
  -- the congruence of row k
  abbrev pub row : ℕ → Congruence
  row k = record { factor = get_or R (at + k * width) 0; value = get_or lacking k 0 }

  -- the solutions of a congruence are the numbers that give each of the first k rows what it lacks
  pub record Taken (k : ℕ) (c : Congruence) : Type 0 where
    pub reduced : Reduced c
    pub same : (x : ℕ) → Supplies R at width lacking k x ↔ Solves c x

  -- no row
  pub taken_start : Taken 0 (record { factor = Q; value = 0 })
  taken_start = record {
    reduced = record { divides = dvd_refl Q; canonical = omega arith };
    same = λ x. (λ f. mul-mod_right Q x, λ e k h. omega arith);
  }

  module _ {k : ℕ} {c : Congruence} (t : Taken k c) where
    -- one more row
    pub taken_next : (j : Option Congruence) (both : Congruence) → j ≡ Some both → Combines c (row k) j → Taken (k + 1) both
    taken_next j both e g =
        let m : Combines c (row k) (Some both) = subst (λ j. Combines c (row k) j) e g in
        record {
          reduced = m.0;
          same = λ x. (
            λ f. (m.1 x).0 ((t.same x).0 (λ i h. f i (omega arith)), f k (omega arith)),
            λ s. let b = (m.1 x).1 s in below_more _ _ ((t.same x).1 b.0) b.1,
          );
        }

    -- one more row that no solution meets
    pub taken_stop : (j : Option Congruence) → j ≡ None → Combines c (row k) j → (n : ℕ) → k < n → (y : ℕ) → Supplies R at width lacking n y → ⊥
    taken_stop j e g n h y f =
        let m : Combines c (row k) None = subst (λ j. Combines c (row k) j) e g in
        m y ((t.same y).0 (λ i l. f i (omega arith))) (f k h)

    -- all rows
    pub taken-all : (n : ℕ) → k ≡ n → (s : Option ℕ) → Found (Solves c) s → Found (Supplies R at width lacking n) s
    taken-all n e s f = subst (λ n. Found (Supplies R at width lacking n) s) e (found-same (Solves c) (Supplies R at width lacking k) (λ x. ((t.same x).1, (t.same x).0)) s f)
