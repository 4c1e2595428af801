-- The omega part is document 01's, and φ'' is the part of psi and the omega part.
use Rattle.std.proofs.Common.{◌≡◌, ℕ, ◌+◌, ◌*◌, List, get_or, sym, ap, ap₂, add_assoc, arith}
use Rattle.math.specs.lists.Table.{table}
use Rattle.math.proofs.lists.Table.{table_ext}
use Rattle.math.proofs.algebra.Sum.{sum_ext}
use Rattle.spec_leaves.specs.Projection.{entry}
use Rattle.spec_leaves.specs.Ring.{RqOps, element, scale, conj}
use Rattle.spec_protocol.specs.Parameters.{parameters}
use Rattle.spec_protocol.specs.Layout.{start, randomness_sections}
use Rattle.spec_protocol.specs.Views.{public}
use Rattle.spec_protocol.specs.Formulas.{◌⊕◌, sum, Π_row, φ''}
use Rattle.core_jl_transpose.specs.Omega.{row_element, omega_element}

-- word c of row j of vector i
row-place : (pi i j w c : ℕ) → pi + i * 256 * w + j * w + c ≡ pi + ((i * 256 + j) * w + c)
row-place pi i j w c = omega arith

-- the omega part of φ'' of vector i for k, from the place of the vector's first row and that of k's omega
pub omega_is : (J R : List ℕ) (i k m : ℕ)
    → omega_element R (start (randomness_sections (parameters J)) 0 + i * 256 * (64 * (parameters J).n)) (start (randomness_sections (parameters J)) 2 + k * 256) (parameters J).n m
    ≡ sum 256 (λ j. scale (conj (Π_row (public J R) i j m)) ((public J R).omega k j))
unfolding omega_element Π_row
omega_is J R i k m =
    sum_ext RqOps 256
    (λ j. scale (conj (row_element R (pi + i * 256 * w + j * w) m)) (get_or R (om + k * 256 + j) 0))
    (λ j. scale (conj (Π_row (public J R) i j m)) ((public J R).omega k j))
    (λ j h. ap₂ (λ e o. scale (conj (element e)) o) (entries j) (ap (λ x. get_or R x 0) (add_assoc om (k * 256) j)))
  where
    pi : ℕ
    pi = start (randomness_sections (parameters J)) 0

    om : ℕ
    om = start (randomness_sections (parameters J)) 2

    w : ℕ
    w = 64 * (parameters J).n

    entries : (j : ℕ) → table 64 (λ q. entry (get_or R (pi + i * 256 * w + j * w + (64 * m + q)) 0)) ≡ table 64 (λ q. entry (get_or R (pi + ((i * 256 + j) * w + (64 * m + q))) 0))
    entries j =
        table_ext 64 (λ q. entry (get_or R (pi + i * 256 * w + j * w + (64 * m + q)) 0)) (λ q. entry (get_or R (pi + ((i * 256 + j) * w + (64 * m + q))) 0))
        (λ q l. ap (λ x. entry (get_or R x 0)) (row-place pi i j w (64 * m + q)))

-- φ'' is the part of psi and the omega part
pub φ''-parts : (J R : List ℕ) (i k m : ℕ)
    → φ'' (public J R) k i m
    ≡ sum (parameters J).l (λ x. scale ((public J R).φ' x i m) ((public J R).psi k x))
    ⊕ omega_element R (start (randomness_sections (parameters J)) 0 + i * 256 * (64 * (parameters J).n)) (start (randomness_sections (parameters J)) 2 + k * 256) (parameters J).n m
unfolding φ''
φ''-parts J R i k m = ap (λ e. sum (parameters J).l (λ x. scale ((public J R).φ' x i m) ((public J R).psi k x)) ⊕ e) (sym (omega_is J R i k m))
