-- The solutions of a congruence whose factor divides Q are the numbers of one remainder; of these the least or the greatest below Q has the smallest centred size.
use mathlib.Core.Path.{◌≡◌, sym, ap, subst, ◌∙◌}
use mathlib.Core.Bool.{cond}
use Prim.Native.Nat.{ℕ, ◌+◌, ◌-◌, ◌*◌, ◌/◌, ◌%◌, ◌≤◌, ◌<◌}
use native.Mathlib.Nat.{div-add-mod', mul-add-mod_self_right, mod-eq_of_lt, mod-lt, mod-le, mul-lt-mul_of_pos_left, lt_of_mul-lt-mul_left, eq_of_mul-eq-mul_left}
use native.Mathlib.Nat.{pos_of_dvd_of_pos, mul-div_cancel', div-add-mod, mul-mod_right, div-le_self, add-zero, mul-le-mul_right}
use native.Mathlib.Omega.{arith}
use Rattle.spec_leaves.specs.Zq.{Q, half_Q, Canonical, size}
use Rattle.spec_leaves.proofs.Cases.{ltb_cases}
use Rattle.mistyped_solve.specs.declared.congruence.Congruence.{Congruence}
use Rattle.mistyped_solve.specs.Congruence.{Solves, Reduced}

-- a common factor of a number and its modulus
mul-mod-mul : (g m x : ℕ) → 0 < g → 0 < m → (g * x) % (g * m) ≡ g * (x % m)
mul-mod-mul g m x h k =
    ap (λ z. z % (g * m)) (ap (λ z. g * z) (sym (div-add-mod' x m)) ∙ out g (x / m) m (x % m))
    ∙ mul-add-mod_self_right (x / m) (g * m) (g * (x % m))
    ∙ mod-eq_of_lt (mul-lt-mul_of_pos_left (mod-lt x k) h)
  where
    out : (g q m r : ℕ) → g * (q * m + r) ≡ q * (g * m) + g * r
    out g q m r = omega arith

-- the size of a word is at most what bounds it and its distance to Q from below, and at most each of them
size_above : (y m : ℕ) → m ≤ y → m ≤ Q - y → m ≤ size y
size_above y m h k = ltb_cases (λ t. m ≤ cond t (Q - y) y) half_Q y (λ g. k) (λ g. h)

size_below : (y : ℕ) → size y ≤ y
size_below y = ltb_cases (λ t. cond t (Q - y) y ≤ y) half_Q y (λ g. omega arith) (λ g. omega arith)

size-from-Q : (y : ℕ) → size y ≤ Q - y
size-from-Q y = ltb_cases (λ t. cond t (Q - y) y ≤ Q - y) half_Q y (λ g. omega arith) (λ g. omega arith)

module _ (c : Congruence) (r : Reduced c) where
  abbrev G : ℕ
  G = c.factor

  abbrev H : ℕ
  H = c.value

  -- how far the solutions are apart
  abbrev M : ℕ
  M = Q / G

  pub G_positive : 0 < G
  G_positive = pos_of_dvd_of_pos r.divides (omega arith)

  -- Q in steps
  steps : G * M ≡ Q
  steps = mul-div_cancel' G r.divides

  M_positive : 0 < M
  M_positive = lt_of_mul-lt-mul_left G (omega (arith, steps))

  -- factor·x modulo Q by the remainder of x
  product_is : (x : ℕ) → (G * x) % Q ≡ G * (x % M)
  product_is x = ap (λ m. (G * x) % m) (sym steps) ∙ mul-mod-mul G M x G_positive M_positive

  -- a value that the factor does not divide has no solution
  pub no_solution : (H % G ≡ 0 → ⊥) → (y : ℕ) → Solves c y → ⊥
  no_solution d y e = d (ap (λ k. k % G) (sym e ∙ product_is y) ∙ mul-mod_right G (y % M))

  module _ (divides : H % G ≡ 0) where
    -- the least solution
    abbrev x₀ : ℕ
    x₀ = H / G

    value_is : G * x₀ ≡ H
    value_is = sym (add-zero (G * x₀)) ∙ ap (λ k. G * x₀ + k) (sym divides) ∙ div-add-mod H G

    pub below_step : x₀ < M
    below_step = lt_of_mul-lt-mul_left G (omega (arith, value_is, steps, r.canonical))

    -- what has its remainder is a solution
    remainder_solves : (x : ℕ) → x % M ≡ x₀ → Solves c x
    remainder_solves x e = product_is x ∙ ap (λ k. G * k) e ∙ value_is

    -- and the other way round
    solution_remainder : (y : ℕ) → Solves c y → y % M ≡ x₀
    solution_remainder y e = eq_of_mul-eq-mul_left G G_positive (y % M) x₀ (sym (product_is y) ∙ e ∙ sym value_is)

    -- a solution is at least the least one
    from_zero : (y : ℕ) → Solves c y → x₀ ≤ y
    from_zero y e = subst (λ k. k ≤ y) (solution_remainder y e) (mod-le y M)

    -- and at least as far from Q as the greatest one
    from-Q : (y : ℕ) → Canonical y → Solves c y → M - x₀ ≤ Q - y
    from-Q y h e =
        let w : y ≡ y / M * M + x₀ = sym (div-add-mod' y M) ∙ ap (λ k. y / M * M + k) (solution_remainder y e) in
        let j : y / M < G = lt_of_mul-lt-mul_left M (count (y / M) M x₀ y G w h steps) in
        rest (y / M) G M x₀ y w j steps
      where
        count : (q m x y g : ℕ) → y ≡ q * m + x → y < Q → g * m ≡ Q → m * q < m * g
        count q m x y g w h e = omega arith

        rest : (q g m x y : ℕ) → y ≡ q * m + x → q < g → g * m ≡ Q → m - x ≤ Q - y
        rest q g m x y w h e = let n : (q + 1) * m ≤ g * m = mul-le-mul_right m (omega arith) in omega arith

    -- the least solution has the smallest size where it is nearer to 0 than the greatest one to Q
    pub least-found : x₀ ≤ M - x₀ → Canonical x₀ × (Solves c x₀ × ((y : ℕ) → Canonical y → Solves c y → size x₀ ≤ size y))
    least-found h = (
      omega (arith, below_step, div-le_self Q G),
      (
        remainder_solves x₀ (mod-eq_of_lt below_step),
        λ y k e. size_above y (size x₀) (omega (arith, size_below x₀, from_zero y e)) (omega (arith, size_below x₀, from-Q y k e)),
      ),
    )

    -- one more of a number
    add-one-mul : (a m : ℕ) → a * m + m ≡ (a + 1) * m
    add-one-mul a m = omega arith

    -- and else the greatest one has
    pub greatest-found : (x : ℕ) → x ≡ Q - (M - x₀) → M - x₀ < x₀ → Canonical x × (Solves c x × ((y : ℕ) → Canonical y → Solves c y → size x ≤ size y))
    greatest-found x w h =
        let far : size x ≤ M - x₀ = omega (arith, size-from-Q x, below_step, div-le_self Q G) in (
          omega (arith, below_step, div-le_self Q G),
          (
            remainder_solves x (ap (λ k. k % M) (w ∙ last G M x₀ steps G_positive below_step) ∙ mul-add-mod_self_right (G - 1) M x₀ ∙ mod-eq_of_lt below_step),
            λ y k e. size_above y (size x) (omega (arith, far, from_zero y e)) (omega (arith, far, from-Q y k e)),
          ),
        )
      where
        one_less : (g m : ℕ) → 0 < g → (g - 1) * m + m ≡ g * m
        one_less g m h = let d : g - 1 + 1 ≡ g = omega arith in add-one-mul (g - 1) m ∙ ap (λ k. k * m) d

        last : (g m x : ℕ) → g * m ≡ Q → 0 < g → x < m → Q - (m - x) ≡ (g - 1) * m + x
        last g m x e h k = let n : (g - 1) * m + m ≡ g * m = one_less g m h in omega arith

-- what the solution of smallest size is told by
pub ruleset smallest_steps = (G_positive, no_solution, below_step, least-found, greatest-found, div-le_self)
