-- The size of a coefficient of z, which is part 0 plus b times part 1.
use mathlib.Core.Path.{◌≡◌, sym, ap, ap₂, subst, ◌∙◌}
use Prim.Native.Nat.{ℕ, ◌+◌, ◌*◌, ◌%◌, ◌^◌, ◌≤◌, ◌<◌}
use native.Mathlib.Nat.{mul-le-mul, mod-mod, mul-one, pow-zero, pow-suc, zero-add}
use native.Mathlib.Omega.{arith}
use Rattle.math.specs.lists.Sum.{Σ}
use Rattle.spec_leaves.specs.Zq.{Q, Canonical, size}
use Rattle.spec_leaves.specs.Norm.{square}
use Rattle.spec_leaves.specs.Digits.{digit, leftover, rest}
use Rattle.spec_leaves.proofs.Digits.{digits_sum, digit_of-canonical, rest_of-canonical}
use Rattle.spec_binding.proofs.Size.{twice_product}
use Rattle.theorem_extraction.proofs.NormsWithin.{Within, within_itself, size-within, size-least, within-mod, within-add, within-mul}

module _ (b : ℕ) (p : 0 < b) where
  -- a value is its part 0 plus b times its part 1 modulo Q
  parts-sum : (a : ℕ) → Canonical a → (digit b a 0 + rest b a * b) % Q ≡ a
  unfolding Σ rest leftover
  parts-sum a h =
      ap (λ x. x % Q) (ap₂ (λ u v. u + rest b a * v) (sym (zero-add (digit b a 0 * b ^ 0) ∙ ap (λ x. digit b a 0 * x) (pow-zero b) ∙ mul-one (digit b a 0))) (sym first))
      ∙ digits_sum b 1 a p h
    where
      first : b ^ 1 ≡ b
      first = omega (arith, pow-suc b 0, ap (λ x. x * b) (pow-zero b))

  -- so its size is at most that sum of the sizes
  size_of-parts : (a : ℕ) → Canonical a → size a ≤ size (digit b a 0) + size (rest b a) * b
  size_of-parts a h =
      size-least a (size (digit b a 0) + size (rest b a) * b) h
      (subst (λ x. Within x (size (digit b a 0) + size (rest b a) * b)) (parts-sum a h)
      (within-mod (digit b a 0 + rest b a * b) ((digit b a 0 + rest b a * b) % Q) (size (digit b a 0) + size (rest b a) * b) (sym (mod-mod (digit b a 0 + rest b a * b) Q))
      (within-add (digit b a 0) (rest b a * b) (size (digit b a 0)) (size (rest b a) * b)
      (size-within (digit b a 0) (digit_of-canonical b a 0 h))
      (within-mul (rest b a) b (size (rest b a)) b (size-within (rest b a) (rest_of-canonical b a h)) (within_itself b)))))

  -- and its square at most 1 + b² times the squares together
  pub square_of-parts : (a : ℕ) → Canonical a → square a ≤ (1 + b * b) * (square (digit b a 0) + square (rest b a))
  square_of-parts a h = omega (arith, mul-le-mul (size_of-parts a h) (size_of-parts a h), schwarz (size (digit b a 0)) (size (rest b a)))
    where
      schwarz : (u v : ℕ) → (u + v * b) * (u + v * b) ≤ (1 + b * b) * (u * u + v * v)
      schwarz u v = omega (arith, twice_product (u * b) v)
