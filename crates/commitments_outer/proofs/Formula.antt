-- What the commitments store and what the norm tests answer is what the protocol's formulas say.
use mathlib.Core.Path.{◌≡◌, refl, sym, ◌∙◌, ap, ap₂}
use mathlib.Core.Bool.{cond}
use mathlib.Core.List.{List}
use Prim.Native.Nat.{ℕ, ◌+◌, ◌*◌}
use native.Mathlib.Omega.{arith}
use lib.Dec.{leb}
use Rattle.math.specs.lists.Table.{table}
use Rattle.math.proofs.lists.Table.{table_ext}
use Rattle.math.proofs.lists.Sum.{Σ_const}
use Rattle.math.proofs.lists.Cat.{cat_ext, cat_runs}
use Rattle.spec_leaves.specs.Answer.{fine, refused}
use Rattle.spec_leaves.specs.Rq.{Element}
use Rattle.ring_inner_product.specs.Run.{run}
use Rattle.spec_protocol.specs.Checks.{first}
use Rattle.spec_protocol.specs.Parameters.{parameters, triangular}
use Rattle.spec_protocol.specs.Layout.{start, job_sections, witness_sections}
use Rattle.spec_protocol.specs.Views.{Public, public, witness, cell}
use Rattle.spec_protocol.specs.Formulas as F
use Rattle.spec_protocol.specs.Formulas.{◌⊕◌, dot, norm_of, rows, triangle, digits_of, times, t_digits, g_digits, h_digits}
use Rattle.spec_protocol.specs.Prover.{witness_norm, t_norm, g_norm, h_norm}
use Rattle.spec_protocol.proofs.Region.{Vectors, Triangle, rows_ext, triangle-table}
use Rattle.ring_rq_matrix.specs.Region.{vector}
use Rattle.commitments_outer.specs.declared.outer_commitments.Digits.{Digits}
use Rattle.commitments_outer.specs.Cells.{digits_at, vector_norm}
use Rattle.commitments_outer.proofs.Answers.{require-leb}

-- r rows of m of the elements f 0, f 1, … are all of them
rows-table : (r m : ℕ) (f : ℕ → Element) → rows r m (λ i k. f (i * m + k)) ≡ table (r * m) f
unfolding rows
rows-table r m f =
    cat_ext r (λ i. table m (λ k. f (i * m + k))) (λ i. table m (λ k. f (_ + k))) (λ i h. ap (λ n. table m (λ k. f (n + k))) (sym (Σ_const i m)))
    ∙ cat_runs r (λ i. m) f
    ∙ ap (λ n. table n f) (Σ_const r m)

-- the cells of vectors in a slice, one after the other
pub vectors_cells : (ws : List ℕ) (at r m : ℕ) (f : ℕ → ℕ → Element) → Vectors ws at r m f → table (r * m) (run ws at 64) ≡ rows r m f
vectors_cells ws at r m f h = sym (rows-table r m (run ws at 64)) ∙ rows_ext r m (λ i k. run ws at 64 (i * m + k)) f h

-- the cells of a triangle in a slice, one after the other
pub triangle_cells : (ws : List ℕ) (at r : ℕ) (f : ℕ → ℕ → Element) → Triangle ws at r f → table (triangular r) (run ws at 64) ≡ triangle r f
unfolding triangle
triangle_cells ws at r f h =
    sym (triangle-table r (run ws at 64))
    ∙ cat_ext r (λ i. table (i + 1) (λ j. run ws at 64 (cell i j))) (λ i. table (i + 1) (f i))
    (λ i k. table_ext (i + 1) (λ j. run ws at 64 (cell i j)) (f i) (λ j l. h i j k (omega arith)))

-- the digits of cells from a place on
abbrev pub digits : ℕ → ℕ → ℕ → Digits
digits at cells parts = record { at = at; cells = cells; parts = parts }

module _ (J R : List ℕ) where
  open parameters J use {n, r, κ, b, t₁, t₂, bound_A}

  -- the places of the job's sections
  abbrev at : ℕ → ℕ
  at m = 31 + start (job_sections (parameters J)) m

  module _ (W : List ℕ) where
    -- t, as `commit_all` stores it
    pub t_is : (λ i k. dot n (vector J (at 6) n k) (vector W (start (witness_sections (parameters J)) 0) n i)) ≡ F.t (public J R) (witness (parameters J) W)
    unfolding F.t
    t_is = refl

    -- 13, as `check_witness` answers it
    pub witness_norm_is : first r (vector_norm W (start (witness_sections (parameters J)) 0) n bound_A) ≡ witness_norm (public J R) (witness (parameters J) W)
    unfolding witness_norm
    witness_norm_is = refl

  -- cells of t, g and h in a slice
  module _ (S : List ℕ) where
    -- u1, as `compute_u1` stores it
    pub u₁_is : (t-at g-at : ℕ) (t g : ℕ → ℕ → Element) → Vectors S t-at r κ t → Triangle S g-at r g
        → (λ k. times (vector J (at 7) (r * κ * t₁)) (digits_at S (digits t-at (r * κ) t₁) b) k ⊕ times (vector J (at 8) (triangular r * t₂))
        (digits_at S (digits g-at (triangular r) t₂) b) k) ≡ F.u₁_of (public J R) t g
    unfolding F.u₁_of
    u₁_is t-at g-at t g e e' =
        ap₂ (λ x y k. times (vector J (at 7) (r * κ * t₁)) (digits_of b t₁ x) k ⊕ times (vector J (at 8) (triangular r * t₂)) (digits_of b t₂ y) k) (vectors_cells S t-at r κ t e)
        (triangle_cells S g-at r g e')

    -- u2, as `compute_u2` stores it
    pub u₂_is : (h-at : ℕ) (h : ℕ → ℕ → Element) → Triangle S h-at r h
        → times (vector J (at 9) (triangular r * t₁)) (digits_at S (digits h-at (triangular r) t₁) b) ≡ F.u₂_of (public J R) h
    unfolding F.u₂_of
    u₂_is h-at h e = ap (λ x k. times (vector J (at 9) (triangular r * t₁)) (digits_of b t₁ x) k) (triangle_cells S h-at r h e)

-- the norm tests as `digits_within` answers them; of the public values the parameters alone are read
module _ (X : Public) (S : List ℕ) where
  open X.P use {r, κ, b, t₁, t₂, bound_B, bound_C, bound_D}

  -- 14
  pub t_norm_of : (t-at : ℕ) (t : ℕ → ℕ → Element) → Vectors S t-at r κ t
      → t_norm X t ≡ cond (leb (norm_of (digits_at S (digits t-at (r * κ) t₁) b)) bound_B) fine (refused 14 0)
  unfolding t_norm
  t_norm_of t-at t e = require-leb (norm_of (t_digits X t)) bound_B (refused 14 0) ∙ ap (λ x. cond (leb (norm_of (digits_of b t₁ x)) bound_B) fine (refused 14 0)) (sym (vectors_cells S t-at r κ t e))

  -- 15
  pub g_norm_of : (g-at : ℕ) (g : ℕ → ℕ → Element) → Triangle S g-at r g
      → g_norm X g ≡ cond (leb (norm_of (digits_at S (digits g-at (triangular r) t₂) b)) bound_C) fine (refused 15 0)
  unfolding g_norm
  g_norm_of g-at g e = require-leb (norm_of (g_digits X g)) bound_C (refused 15 0) ∙ ap (λ x. cond (leb (norm_of (digits_of b t₂ x)) bound_C) fine (refused 15 0)) (sym (triangle_cells S g-at r g e))

  -- 16
  pub h_norm_of : (h-at : ℕ) (h : ℕ → ℕ → Element) → Triangle S h-at r h
      → h_norm X h ≡ cond (leb (norm_of (digits_at S (digits h-at (triangular r) t₁) b)) bound_D) fine (refused 16 0)
  unfolding h_norm
  h_norm_of h-at h e = require-leb (norm_of (h_digits X h)) bound_D (refused 16 0) ∙ ap (λ x. cond (leb (norm_of (digits_of b t₁ x)) bound_D) fine (refused 16 0)) (sym (triangle_cells S h-at r h e))

-- the same of the public values of a job and a randomness
module _ (J R S : List ℕ) where
  open parameters J use {r, κ, b, t₁, t₂, bound_B, bound_C, bound_D}

  pub t_norm_is : (t-at : ℕ) (t : ℕ → ℕ → Element) → Vectors S t-at r κ t
      → t_norm (public J R) t ≡ cond (leb (norm_of (digits_at S (digits t-at (r * κ) t₁) b)) bound_B) fine (refused 14 0)
  t_norm_is = t_norm_of (public J R) S

  pub g_norm_is : (g-at : ℕ) (g : ℕ → ℕ → Element) → Triangle S g-at r g
      → g_norm (public J R) g ≡ cond (leb (norm_of (digits_at S (digits g-at (triangular r) t₂) b)) bound_C) fine (refused 15 0)
  g_norm_is = g_norm_of (public J R) S

  pub h_norm_is : (h-at : ℕ) (h : ℕ → ℕ → Element) → Triangle S h-at r h
      → h_norm (public J R) h ≡ cond (leb (norm_of (digits_at S (digits h-at (triangular r) t₁) b)) bound_D) fine (refused 16 0)
  h_norm_is = h_norm_of (public J R) S
