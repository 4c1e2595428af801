-- The order of tuples of numbers is that of the definition: the first field that differs decides.
use mathlib.Core.Path.{◌≡◌, refl, sym, ap, ◌∙◌}
use mathlib.Core.Bool.{Bool, true, false, cond}
use Prim.Native.Nat.{ℕ}
use native.Mathlib.Omega.{arith}
use borrow.Author.Tests.{ne_eqb}
use lib.Dec.{eqb, ltb}
use Rattle.std.specs.Prelude.{Option, Some}
use Rattle.std.proofs.Common.{Ordering, Less, Equal, Greater}
use Rattle.std.specs.Ordering.{nat_cmp, is_lt, is_some_and, partial_ordering_then}
use Rattle.spec_leaves.proofs.Cases.{ltb_cases}
use Rattle.spec_protocol.specs.Mistyped.{by_number}

-- the lower of two numbers comes first; where they are equal, what follows decides
pub order-then : (a b : ℕ) (r : Option Ordering) → is_some_and is_lt (partial_ordering_then (Some (nat_cmp a b)) r) ≡ by_number a b (is_some_and is_lt r)
order-then a b r =
    ltb_cases (λ t. is_some_and is_lt (partial_ordering_then (Some (cond t Less (cond (eqb a b) Equal Greater))) r) ≡ cond (eqb a b) (is_some_and is_lt r) t) a b
    (λ h. sym (ap (λ e. cond e (is_some_and is_lt r) true) (ne_eqb a b (omega arith))))
    (λ h. go (eqb a b))
  where
    go : (e : Bool) → is_some_and is_lt (partial_ordering_then (Some (cond e Equal Greater)) r) ≡ cond e (is_some_and is_lt r) false
    go true = refl
    go false = refl

-- three fields are compared as two and a third
then-assoc : (a b : ℕ) (q r : Option Ordering) → partial_ordering_then (partial_ordering_then (Some (nat_cmp a b)) q) r ≡ partial_ordering_then (Some (nat_cmp a b)) (partial_ordering_then q r)
then-assoc a b q r = go (nat_cmp a b)
  where
    go : (o : Ordering) → partial_ordering_then (partial_ordering_then (Some o) q) r ≡ partial_ordering_then (Some o) (partial_ordering_then q r)
    go Less = refl
    go Equal = refl
    go Greater = refl

-- one number before another
order-last : (a b : ℕ) → is_some_and is_lt (Some (nat_cmp a b)) ≡ ltb a b
order-last a b = ltb_cases (λ t. is_some_and is_lt (Some (cond t Less (cond (eqb a b) Equal Greater))) ≡ t) a b (λ h. refl) (λ h. go (eqb a b))
  where
    go : (e : Bool) → is_some_and is_lt (Some (cond e Equal Greater)) ≡ false
    go true = refl
    go false = refl

-- whether three numbers come before three others as tuples
abbrev pub three_before : (k m : ℕ × ℕ × ℕ) → Bool
three_before k m = is_some_and is_lt (partial_ordering_then (partial_ordering_then (Some (nat_cmp k.0 m.0)) (Some (nat_cmp k.1 m.1))) (Some (nat_cmp k.2 m.2)))

-- it goes by the first field that differs
pub order-three : (a b c x y z : ℕ) → three_before (a, b, c) (x, y, z) ≡ by_number a x (by_number b y (ltb c z))
order-three a b c x y z =
    ap (is_some_and is_lt) (then-assoc a x (Some (nat_cmp b y)) (Some (nat_cmp c z)))
    ∙ order-then a x (partial_ordering_then (Some (nat_cmp b y)) (Some (nat_cmp c z)))
    ∙ ap (by_number a x) (order-then b y (Some (nat_cmp c z)) ∙ ap (by_number b y) (order-last c z))
