-- What mends check 22 (document 02, Item 8), row by row; the number of smallest size is unique.
use mathlib.Core.Path.{◌≡◌, sym, ap, ap₂, ◌∙◌}
use mathlib.Core.Bool.{cond}
use mathlib.Core.Logic.{◌⊎◌, inl, inr, ◌↔◌}
use mathlib.Core.List.{[], ◌∷◌}
use Prim.Native.Nat.{ℕ, zero, suc, ◌+◌, ◌-◌, ◌*◌, ◌/◌, ◌%◌, ◌≤◌, ◌<◌}
use native.Mathlib.Nat.{le_antisymm, mod-add-mod, mod-add-div', add-mod-mod, mod-lt, mul-zero, mul-mod_left}
use native.Mathlib.Decide.{ℕ_discrete}
use native.Mathlib.Omega.{arith}
use lib.Dec.{eqb}
use Rattle.math.specs.lists.Sum.{Σ}
use Rattle.math.proofs.lists.Sum.{Σ-changed}
use Rattle.spec_leaves.specs.Zq.{Q, lack_Q, half_Q, Canonical, zadd, zsub, size}
use Rattle.spec_leaves.specs.Rq.{coeff}
use Rattle.spec_leaves.specs.Ring.{words}
use Rattle.spec_leaves.specs.Answer.{Answer, fine, failed}
use Rattle.spec_leaves.proofs.Modulo.{mul_mod_second, add_cancel-mod}
use Rattle.spec_leaves.proofs.ZqRing.{zsub_iff}
use Rattle.spec_leaves.proofs.Cases.{ltb_cases}
use Rattle.spec_leaves.proofs.Bridge.{coeff-canonical}
use Rattle.spec_leaves.proofs.Suited.{suited, odd_modulus}
use Rattle.spec_protocol.specs.Checks.{require}
use Rattle.spec_protocol.specs.Views.{Public, Message}
use Rattle.spec_protocol.specs.Verifier.{check_22}
use Rattle.spec_protocol.specs.Mistyped.{added, Mends, Smallest}
use Rattle.spec_protocol.proofs.Fine.{require-holds, required, failed_not-fine}
use Rattle.spec_protocol.proofs.First.{first-each}
use Rattle.spec_protocol.proofs.Checks.{first_fine}

-- a number added to one value, modulo Q: w·x is added to the sum
pub Σ-added : (n i : ℕ) (w b : ℕ → ℕ) (x o : ℕ) → i < n → (Σ n (λ m. w m * cond (eqb m i) (zadd (b i) x) (b m)) + o) % Q ≡ (Σ n (λ m. w m * b m) + o + w i * x) % Q
Σ-added n i w b x o h =
    add_cancel-mod Q (omega arith) (S' + o) (w i * b i) (S + o + w i * x)
    (ap (λ k. k % Q) (front S' S (w i * b i) (w i * zadd (b i) x) o (Σ-changed n i w b (zadd (b i) x) h))
    ∙ sym (add-mod-mod (S + o) (w i * zadd (b i) x) Q)
    ∙ ap (λ k. (S + o + k) % Q) (mul_mod_second Q (w i) (b i + x))
    ∙ add-mod-mod (S + o) (w i * (b i + x)) Q
    ∙ ap (λ k. k % Q) (out S (w i) (b i) x o))
  where
    S : ℕ
    S = Σ n (λ m. w m * b m)

    S' : ℕ
    S' = Σ n (λ m. w m * cond (eqb m i) (zadd (b i) x) (b m))

    front : (s' s u v o : ℕ) → s' + u ≡ s + v → s' + o + u ≡ s + o + v
    front s' s u v o e = omega arith

    out : (s w b x o : ℕ) → s + o + w * (b + x) ≡ s + o + w * x + w * b
    out s w b x o = omega arith

-- twice a word below Q is 0 modulo Q for 0 alone, since Q is odd
double_zero : (d : ℕ) → d < Q → (d + d) % Q ≡ 0 → d ≡ 0
double_zero d h e = go ((d + d) / Q) (sym (mod-add-div' (d + d) Q) ∙ ap (λ r. r + (d + d) / Q * Q) e)
  where
    go : (q : ℕ) → d + d ≡ 0 + q * Q → d ≡ 0
    go zero f = omega arith
    go (suc zero) f = absurd (odd d f)
      where
        odd : (d : ℕ) → d + d ≡ 0 + 1 * Q → ⊥
        odd d f = omega (arith, odd_modulus lack_Q suited)
    go (suc (suc q)) f = omega arith

-- words of equal size are equal or opposite
opposite : (x y : ℕ) → Canonical x → Canonical y → size x ≡ size y → (x ≡ y) ⊎ (x + y ≡ Q)
opposite x y h k e =
    ltb_cases (λ t. cond t (Q - x) x ≡ size y → (x ≡ y) ⊎ (x + y ≡ Q)) half_Q x
    (λ g. ltb_cases (λ t. Q - x ≡ cond t (Q - y) y → (x ≡ y) ⊎ (x + y ≡ Q)) half_Q y (λ f e. inl (omega arith)) (λ f e. inr (omega arith)))
    (λ g. ltb_cases (λ t. x ≡ cond t (Q - y) y → (x ≡ y) ⊎ (x + y ≡ Q)) half_Q y (λ f e. inr (omega arith)) (λ f e. inl e))
    e

-- a word of size 0 is 0
size_zero : (x : ℕ) → Canonical x → size x ≤ 0 → x ≡ 0
size_zero x h e = ltb_cases (λ t. cond t (Q - x) x ≤ 0 → x ≡ 0) half_Q x (λ g e. omega arith) (λ g e. omega arith) e

module _ (X : Public) (M : Message) where
  open X use {P, b₀, psi}
  open P use {L, l}
  open M use {p, b''}

  -- how many rows check 22 has
  abbrev pub rows : ℕ
  rows = L

  -- the constant coefficient of b''_k as it is sent
  abbrev pub sent : ℕ → ℕ
  sent k = coeff (words (b'' k)) 0

  -- and as it is computed, not reduced
  abbrev whole : ℕ → ℕ
  whole k = Σ l (λ x. psi k x * b₀ x) + Σ 256 (λ j. X.omega k j * p j)

  -- "Σ psi[k][l]·b0[l] + Σ omega[k][j]·p[j]"
  abbrev pub computed : ℕ → ℕ
  computed k = whole k % Q

  -- what row k lacks: what psi[k][i]·x has to be
  abbrev pub lacking : ℕ → ℕ
  lacking k = zsub (sent k) (computed k)

  -- a number x gives every row of index i what it lacks
  abbrev pub Supplies : (i x : ℕ) → Type 0
  Supplies i x = (k : ℕ) → k < rows → (psi k i * x) % Q ≡ lacking k

  module _ (i : ℕ) (h : i < l) where
    -- the test of row k with x added to b0[i]
    row_test : (x k : ℕ) → Answer
    row_test x k =
        let y = (Σ l (λ m. psi k m * cond (eqb m i) (zadd (b₀ i) x) (b₀ m)) + Σ 256 (λ j. X.omega k j * p j)) % Q in
        require (ℕ_discrete (sent k) y) (failed 22 (k ∷ sent k ∷ y ∷ []))

    -- row k lacks nothing more
    row_iff : (x k : ℕ) → (sent k ≡ (Σ l (λ m. psi k m * cond (eqb m i) (zadd (b₀ i) x) (b₀ m)) + Σ 256 (λ j. X.omega k j * p j)) % Q) ↔ ((psi k i * x) % Q ≡ lacking k)
    row_iff x k =
        let e = Σ-added l i (psi k) b₀ x (Σ 256 (λ j. X.omega k j * p j)) h in
        let m = zsub_iff (sent k) (whole k) (psi k i * x) (coeff-canonical (b'' k) 0) in
        (λ f. m.0 (f ∙ e), λ f. m.1 f ∙ sym e)

    -- what passes check 22 supplies every row
    pub passes_supplies : (x : ℕ) → check_22 (added X i x) M ≡ fine → Supplies i x
    unfolding check_22 row_test
    passes_supplies x e k g =
        (row_iff x k).0 (required (ℕ_discrete (sent k) _) (failed 22 (k ∷ sent k ∷ _ ∷ [])) (failed_not-fine 22 _) (first-each rows (row_test x) e k g))

    -- and the other way round
    pub supplies_passes : (x : ℕ) → Supplies i x → check_22 (added X i x) M ≡ fine
    unfolding check_22 row_test
    supplies_passes x f = first_fine rows (row_test x) (λ k g. require-holds (ℕ_discrete (sent k) _) (failed 22 (k ∷ sent k ∷ _ ∷ [])) ((row_iff x k).1 (f k g)))

    -- zero mends where a number and its negative do
    zero_mends : (x y : ℕ) → x + y ≡ Q → Mends X M i x → Mends X M i y → Mends X M i 0
    zero_mends x y e m n = (omega arith, supplies_passes 0 (λ k g. ap (λ z. z % Q) (mul-zero (psi k i)) ∙ sym (double_zero (lacking k) (double k g).0 (double k g).1)))
      where
        double : (k : ℕ) → k < rows → (lacking k < Q) × ((lacking k + lacking k) % Q ≡ 0)
        double k g = (
          mod-lt _ (omega arith),
          ap₂ (λ u v. (u + v) % Q) (sym (passes_supplies x m.1 k g)) (sym (passes_supplies y n.1 k g))
              ∙ mod-add-mod (psi k i * x) Q ((psi k i * y) % Q)
              ∙ add-mod-mod (psi k i * x) (psi k i * y) Q
              ∙ ap (λ z. z % Q) (join (psi k i) x y ∙ ap (λ z. psi k i * z) e)
              ∙ mul-mod_left (psi k i) Q,
        )
          where
            join : (w x y : ℕ) → w * x + w * y ≡ w * (x + y)
            join w x y = omega arith

    -- the number of smallest size is unique, since Q is odd
    pub smallest_unique : (x y : ℕ) → Smallest X M i x → Smallest X M i y → x ≡ y
    smallest_unique x y s t = go (opposite x y s.mends.0 t.mends.0 (le_antisymm (s.none_smaller y t.mends) (t.none_smaller x s.mends)))
      where
        go : (x ≡ y) ⊎ (x + y ≡ Q) → x ≡ y
        go (inl e) = e
        go (inr e) =
            let z = zero_mends x y e s.mends t.mends in
            size_zero x s.mends.0 (s.none_smaller 0 z) ∙ sym (size_zero y t.mends.0 (t.none_smaller 0 z))
