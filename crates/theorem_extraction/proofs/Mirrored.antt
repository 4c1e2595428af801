-- Triangles are mirrored: what holds of the cells up to the diagonal holds of all.
use mathlib.Core.Path.{◌≡◌, ap, ap₂, subst, ◌∙◌}
use mathlib.Core.List.{List}
use Prim.Native.Nat.{ℕ, ◌+◌, ◌≤◌, ◌<◌, min, max}
use native.Mathlib.Decide.{dec_lt}
use native.Mathlib.Omega.{arith}
use Rattle.spec_leaves.specs.Rq.{Element}
use Rattle.spec_protocol.specs.Parameters.{parameters, triangular}
use Rattle.spec_protocol.specs.Layout.{start, transcript_sections}
use Rattle.spec_protocol.specs.Views.{element_at, cell}
use Rattle.theorem_extraction.specs.Fork.{Branch, message_of}

-- a triangle's cell is that of the mirrored indexes
cell_comm : (i j : ℕ) → cell i j ≡ cell j i
cell_comm i j = ap₂ (λ a b. triangular a + b) (largest i j) (least i j)
  where
    largest : (i j : ℕ) → max i j ≡ max j i
    largest i j = omega arith

    least : (i j : ℕ) → min i j ≡ min j i
    least i j = omega arith

-- what holds on the diagonal, of each i below j, and of (i, j) where it holds of (j, i), holds of all pairs
pub all-pairs : (r : ℕ) (P : ℕ → ℕ → Type 0) → ((i : ℕ) → i < r → P i i) → ((i j : ℕ) → i < j → j < r → P i j) → ((i j : ℕ) → P j i → P i j) → (i j : ℕ) → i < r → j < r → P i j
all-pairs r P diagonal below mirror i j h l = go (dec_lt i j) (dec_lt j i)
  where
    go : Dec (i < j) → Dec (j < i) → P i j
    go (yes a) b = below i j a l
    go (no a) (yes b) = mirror i j (below j i b h)
    go (no a) (no b) = let e : i ≡ j = omega arith in subst (P i) e (diagonal i h)

-- cells below the diagonal that agree, of two mirrored triangles
pub mirrored : (r : ℕ) (f g : ℕ → ℕ → Element) → ((i j : ℕ) → f i j ≡ f j i) → ((i j : ℕ) → g i j ≡ g j i) → ((i j : ℕ) → i < r → j ≤ i → f i j ≡ g i j) → (i j : ℕ) → i < r → j < r → f i j ≡ g i j
mirrored r f g f-mirror g_mirror same =
    all-pairs r (λ i j. f i j ≡ g i j) (λ i h. same i i h (omega arith)) (λ i j a l. f-mirror i j ∙ same j i l (omega arith) ∙ g_mirror j i) (λ i j e. f-mirror i j ∙ e ∙ g_mirror j i)

module _ {J : List ℕ} (X : Branch J) where
  -- the g and the h that are sent are mirrored
  pub g_mirror : (i j : ℕ) → (message_of X).g i j ≡ (message_of X).g j i
  g_mirror i j = ap (element_at X.transcript (start (transcript_sections (parameters J)) 6)) (cell_comm i j)

  pub h_mirror : (i j : ℕ) → (message_of X).h i j ≡ (message_of X).h j i
  h_mirror i j = ap (element_at X.transcript (start (transcript_sections (parameters J)) 7)) (cell_comm i j)
