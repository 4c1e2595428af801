-- Searches through the numbers below n, and decisions about elements.
use mathlib.Core.Path.{◌≡◌, ap, subst}
use mathlib.Core.Logic.{◌⊎◌, inl, inr}
use Prim.Native.Nat.{ℕ, zero, suc, ◌<◌}
use native.Mathlib.Nat.{not-suc-le-zero, eq-or-lt_of_le}
use native.Mathlib.Omega.{arith}
use Rattle.spec_leaves.specs.Rq.{Element}
use Rattle.spec_leaves.specs.Ring.{words}
use Rattle.spec_leaves.proofs.RqRing.{words_path}
use Rattle.spec_protocol.specs.Verifier.{same}

-- what holds of each number below n holds of each below n + 1 where it holds of n
one_more : (n : ℕ) (P : ℕ → Type 0) → ((i : ℕ) → i < n → P i) → P n → (i : ℕ) → i < suc n → P i
one_more n P h p i l = go (eq-or-lt_of_le l)
  where
    go : (suc i ≡ suc n) ⊎ (suc i < suc n) → P i
    go (inl e) = let q : n ≡ i = omega arith in subst P q p
    go (inr m) = h i (omega arith)

-- of each number below n a fact holds, or something else is found: the fact holds of all, or that is found
pub all-below : {G : Type 0} (n : ℕ) (P : ℕ → Type 0) → ((i : ℕ) → i < n → G ⊎ P i) → G ⊎ ((i : ℕ) → i < n → P i)
all-below zero P h = inr (λ i l. absurd (not-suc-le-zero l))
all-below {G} (suc n) P h = go (all-below n P (λ i l. h i (omega arith))) (h n (omega arith))
  where
    go : G ⊎ ((i : ℕ) → i < n → P i) → G ⊎ P n → G ⊎ ((i : ℕ) → i < suc n → P i)
    go (inl g) p = inl g
    go (inr all) (inl g) = inl g
    go (inr all) (inr p) = inr (one_more n P all p)

-- what follows where nothing else is found
pub or_else : {G A B : Type 0} → G ⊎ A → (A → G ⊎ B) → G ⊎ B
or_else (inl g) f = inl g
or_else (inr a) f = f a

-- whether two elements are the same
pub element_discrete : (a b : Element) → Dec (a ≡ b)
element_discrete a b = go (same a b)
  where
    go : Dec (words a ≡ words b) → Dec (a ≡ b)
    go (yes e) = yes (words_path a b e)
    go (no d) = no (λ e. d (ap words e))

-- whether entries below n are all the same
pub all_same : (n : ℕ) (f g : ℕ → Element) → Dec ((m : ℕ) → m < n → f m ≡ g m)
all_same zero f g = yes (λ m l. absurd (not-suc-le-zero l))
all_same (suc n) f g = go (all_same n f g) (element_discrete (f n) (g n))
  where
    go : Dec ((m : ℕ) → m < n → f m ≡ g m) → Dec (f n ≡ g n) → Dec ((m : ℕ) → m < suc n → f m ≡ g m)
    go (yes all) (yes e) = yes (one_more n (λ m. f m ≡ g m) all e)
    go (yes all) (no d) = no (λ h. d (h n (omega arith)))
    go (no d) e = no (λ h. d (λ m l. h m (omega arith)))
