-- What the prover works out (document 01, the section of that name), from the public values X and the witness s.
use Rattle.std.specs.Prelude.{Bool, cond, ℕ, ◌+◌, ◌*◌, ◌/◌, ◌%◌, length, get_or}
use mathlib.Core.List.{List, [], ◌∷◌, flat_map}
use Rattle.math.specs.lists.Table.{table, cat}
use Rattle.math.specs.lists.Sum.{Σ}
use Rattle.math.specs.algebra.Ops as Ops
use Rattle.spec_leaves.specs.Zq.{Q}
use Rattle.spec_leaves.specs.Norm.{norm}
use Rattle.spec_leaves.specs.Rq.{Element, coeff, is_zero, digit_row, left_row, rest_row}
use Rattle.spec_leaves.specs.Ring.{RqOps, words, element, scale, conj}
use Rattle.spec_protocol.specs.Parameters.{Parameters}
use Rattle.spec_protocol.specs.Views.{Public}

infixl 30 ◌⊕◌
infixl 40 ◌⊗◌
-- sum and product of elements, finite sums, inner products, sums over all pairs, a constraint's left side
abbrev pub ◌⊕◌ : Element → Element → Element
◌⊕◌ = RqOps.add

abbrev pub ◌⊗◌ : Element → Element → Element
◌⊗◌ = RqOps.mul

abbrev pub sum : ℕ → (ℕ → Element) → Element
sum = Ops.sum RqOps

abbrev pub dot : ℕ → (ℕ → Element) → (ℕ → Element) → Element
dot = Ops.dot RqOps

abbrev pub pairs : ℕ → (ℕ → ℕ → Element) → Element
pairs = Ops.pairs RqOps

-- "A constraint's left side, taken of the witness, is Σ a_ij·⟨s_i,s_j⟩ + Σ⟨φ_i,s_i⟩"
abbrev pub left : Parameters → (ℕ → ℕ → Element) → (ℕ → ℕ → Element) → (ℕ → ℕ → Element) → Element
left P = Ops.form RqOps P.r P.n

-- the cells of a triangle of r rows: row i, columns 0 to i, rows rising
unfoldable pub triangle : ℕ → (ℕ → ℕ → Element) → List Element
triangle r f = cat r (λ i. table (i + 1) (f i))

-- the cells of r rows of m each
unfoldable pub rows : ℕ → ℕ → (ℕ → ℕ → Element) → List Element
rows r m f = cat r (λ i. table m (f i))

-- digit k of each coefficient of an element
abbrev pub digit_element : ℕ → Element → ℕ → Element
digit_element b e k = element (digit_row b (words e) k)

-- the rest of each coefficient of an element after its digit 0
abbrev pub rest_element : ℕ → Element → Element
rest_element b e = element (rest_row b (words e))

-- document 02, Item 9: the two parts of an element, its digit 0 and "the whole rest with its sign"
abbrev pub two_parts : ℕ → Element → List Element
two_parts b e = digit_element b e 0 ∷ rest_element b e ∷ []

-- "Digits(t) lists each cell's t1 digits, lowest first, cell after cell"
unfoldable pub digits_of : ℕ → ℕ → List Element → List Element
digits_of b parts = flat_map (λ e. table parts (digit_element b e))

-- document 02, Item 5: whether no coefficient of a cell has something left after a number of parts
unfoldable pub nothing_left : ℕ → ℕ → Element → Bool
nothing_left b parts e = is_zero (left_row b parts (words e))

-- 1 of a cell that has "a coefficient with something left", 0 of any other
abbrev pub one_if_left : ℕ → ℕ → Element → ℕ
one_if_left b parts e = cond (nothing_left b parts e) 0 1

-- how many of some cells have one, as the code counts them
unfoldable pub count_left : ℕ → ℕ → List Element → ℕ
count_left b parts cells = length (flat_map (λ e. cond (nothing_left b parts e) [] (e ∷ [])) cells)

-- the words of elements one after the other
unfoldable pub flat : List Element → List ℕ
flat = flat_map words

-- the squared norm of elements together
abbrev pub norm_of : List Element → ℕ
norm_of es = norm (flat es)

-- row k of a matrix times a vector
unfoldable pub times : (ℕ → ℕ → Element) → List Element → ℕ → Element
times M v k = sum (length v) (λ m. M k m ⊗ get_or v m RqOps.nil)

-- coefficient m of a vector of elements, over all its elements' coefficients
abbrev pub coefficient : (ℕ → Element) → ℕ → ℕ
coefficient v m = coeff (words (v (m / 64))) (m % 64)

module _ (X : Public) where
  open X use {P, a', φ', b₀, a, φ, b, A, B, C, D, Π, psi, omega, alpha, beta, c}
  open P use {n, r, κ, K, l, t₁, t₂, L}

  -- element m of row j of Π_i
  unfoldable pub Π_row : ℕ → ℕ → ℕ → Element
  Π_row i j m = element (table 64 (λ q. Π i j (64 * m + q)))

  -- "a''_k = Σ psi[k][l]·a'_l"
  unfoldable pub a'' : ℕ → ℕ → ℕ → Element
  a'' k i j = sum l (λ x. scale (a' x i j) (psi k x))

  -- "φ''_k,i = Σ psi[k][l]·φ'_l,i + Σ omega[k][j]·conj(row j of Π_i)"
  unfoldable pub φ'' : ℕ → ℕ → ℕ → Element
  φ'' k i m = sum l (λ x. scale (φ' x i m) (psi k x)) ⊕ sum 256 (λ j. scale (conj (Π_row i j m)) (omega k j))

  -- "Alpha weighs the ring constraints and beta the doubled-prime ones into a, φ, b."
  unfoldable pub a_sum : ℕ → ℕ → Element
  a_sum i j = sum K (λ k. alpha k ⊗ a k i j) ⊕ sum L (λ k. beta k ⊗ a'' k i j)

  unfoldable pub φ_sum : ℕ → ℕ → Element
  φ_sum i m = sum K (λ k. alpha k ⊗ φ k i m) ⊕ sum L (λ k. beta k ⊗ φ'' k i m)

  -- of the b'' handed in
  unfoldable pub b_sum : (ℕ → Element) → Element
  b_sum b'' = sum K (λ k. alpha k ⊗ b k) ⊕ sum L (λ k. beta k ⊗ b'' k)

  -- "u1 = B·digits(t) + C·digits(g)": of the t and g handed in, and the vectors that it takes
  abbrev pub t_digits : (ℕ → ℕ → Element) → List Element
  t_digits t = digits_of P.b t₁ (rows r κ t)

  abbrev pub g_digits : (ℕ → ℕ → Element) → List Element
  g_digits g = digits_of P.b t₂ (triangle r g)

  abbrev pub h_digits : (ℕ → ℕ → Element) → List Element
  h_digits h = digits_of P.b t₁ (triangle r h)

  -- document 02, Item 5: "how many cells of t, g and h together have a coefficient with something left", in the parts of their digits: each cell of a triangle once
  unfoldable pub cells_left_of : (t g h : ℕ → ℕ → Element) → ℕ
  cells_left_of t g h =
      Σ r (λ i. Σ κ (λ k. one_if_left P.b t₁ (t i k)))
      + Σ r (λ i. Σ (i + 1) (λ j. one_if_left P.b t₂ (g i j)))
      + Σ r (λ i. Σ (i + 1) (λ j. one_if_left P.b t₁ (h i j)))

  unfoldable pub u₁_of : (ℕ → ℕ → Element) → (ℕ → ℕ → Element) → ℕ → Element
  u₁_of t g k = times B (t_digits t) k ⊕ times C (g_digits g) k

  -- "u2 = D·digits(h)"
  unfoldable pub u₂_of : (ℕ → ℕ → Element) → ℕ → Element
  u₂_of h k = times D (h_digits h) k

  module _ (s : ℕ → ℕ → Element) where
    -- "t_i = A·s_i"
    unfoldable pub t : ℕ → ℕ → Element
    t i k = dot n (A k) (s i)

    -- "g_ij = ⟨s_i,s_j⟩"
    unfoldable pub g : ℕ → ℕ → Element
    g i j = dot n (s i) (s j)

    unfoldable pub u₁ : ℕ → Element
    u₁ = u₁_of t g

    -- Π_i·s_i over coefficients, at row j, before the reduction modulo Q
    unfoldable pub projection : ℕ → ℕ → ℕ
    projection i j = Σ (64 * n) (λ m. Π i j m * coefficient (s i) m)

    -- "p = Σ Π_i·s_i over coefficients"
    unfoldable pub p : ℕ → ℕ
    p j = Σ r (λ i. projection i j) % Q

    -- "b''_k = Σ a''_k,ij·⟨s_i,s_j⟩ + Σ⟨φ''_k,i,s_i⟩"
    unfoldable pub b'' : ℕ → Element
    b'' k = left P (a'' k) (φ'' k) s

    -- "h_ij = ⟨φ_i,s_j⟩+⟨φ_j,s_i⟩, not halved"
    unfoldable pub h : ℕ → ℕ → Element
    h i j = dot n (φ_sum i) (s j) ⊕ dot n (φ_sum j) (s i)

    unfoldable pub u₂ : ℕ → Element
    u₂ = u₂_of h

    -- "z = Σ s_i·c_i"
    unfoldable pub z : ℕ → Element
    z m = sum r (λ i. s i m ⊗ c i)
