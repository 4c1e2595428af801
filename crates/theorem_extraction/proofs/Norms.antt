-- The norms of the vectors that a fork gives away (T4, (b)): of x − y − z + w, and of a difference of two products with differences of challenges.
use mathlib.Core.List.{List}
use Prim.Native.Nat.{ℕ, ◌+◌, ◌*◌, ◌≤◌}
use native.Mathlib.Nat.{mul-le-mul_left}
use native.Mathlib.Omega.{arith}
use Rattle.math.specs.lists.Table.{table}
use Rattle.spec_leaves.specs.Zq.{size}
use Rattle.spec_leaves.specs.Rq.{Element}
use Rattle.spec_leaves.specs.Ring.{words}
use Rattle.spec_leaves.proofs.Challenge.{total}
use Rattle.spec_protocol.specs.Parameters.{parameters}
use Rattle.spec_protocol.specs.Views.{public}
use Rattle.spec_protocol.specs.Formulas.{◌⊕◌, ◌⊗◌, norm_of}
use Rattle.spec_binding.specs.Openings.{neg, sent, Accepted}
use Rattle.theorem_extraction.proofs.NormsOfSums.{difference-norm, difference-within, four_norm}
use Rattle.theorem_extraction.proofs.NormsOfMultiples.{product_norm_of}
use Rattle.theorem_extraction.proofs.NormsOfZ.{z-norm-le}
use Rattle.theorem_extraction.proofs.NormsOfChallenges.{difference_l1}

-- of four vectors within a limit, x − y − z + w is within 16 times the limit
pub mixed-norm : (n limit : ℕ) (x y z w : ℕ → Element)
    → norm_of (table n x) ≤ limit
    → norm_of (table n y) ≤ limit
    → norm_of (table n z) ≤ limit
    → norm_of (table n w) ≤ limit
    → norm_of (table n (λ m. x m ⊕ neg (y m) ⊕ neg (z m) ⊕ w m)) ≤ 16 * limit
mixed-norm n limit x y z w hx hy hz hw = omega (arith, four_norm n x y z w)

-- of two vectors within a limit and two elements whose sizes sum to at most S, d·u − d'·v is within 4·S² times the limit
pub single_norm : (n S limit : ℕ) (d d' : Element) (u v : ℕ → Element)
    → total size (words d) ≤ S
    → total size (words d') ≤ S
    → norm_of (table n u) ≤ limit
    → norm_of (table n v) ≤ limit
    → norm_of (table n (λ m. d ⊗ u m ⊕ neg (d' ⊗ v m))) ≤ 4 * (S * S) * limit
single_norm n S limit d d' u v hd hd' hu hv =
    omega (
      arith,
      difference-norm n (λ m. d ⊗ u m) (λ m. d' ⊗ v m),
      product_norm_of S d n u hd,
      product_norm_of S d' n v hd',
      mul-le-mul_left (S * S) hu,
      mul-le-mul_left (S * S) hv,
    )

-- of transcripts that are accepted under one job
module _ (J : List ℕ) where
  open parameters J use {n, b, beta_prime_sq}

  -- the squared norm of z is at most (1 + b²)·beta_prime_sq
  pub z-within : {X : List ℕ} {cells : ℕ} → Accepted J X cells → norm_of (table n (sent J X).z) ≤ (1 + b * b) * beta_prime_sq
  z-within {X} {cells} a = z-norm-le J a.randomness X a.scratch cells a.verdict

  -- "w_ij = z^(ij) − z^(i) − z^(j) + z, of squared norm at most 16·(1 + b²)·beta_prime_sq"
  pub w_mixed-norm : {X Y Z O : List ℕ} {i j k l : ℕ}
      → Accepted J X i
      → Accepted J Y j
      → Accepted J Z k
      → Accepted J O l
      → norm_of (table n (λ m. (sent J X).z m ⊕ neg ((sent J Y).z m) ⊕ neg ((sent J Z).z m) ⊕ (sent J O).z m)) ≤ 16 * ((1 + b * b) * beta_prime_sq)
  w_mixed-norm {X} {Y} {Z} {O} a a' a'' o =
      mixed-norm n ((1 + b * b) * beta_prime_sq) (sent J X).z (sent J Y).z (sent J Z).z (sent J O).z (z-within a) (z-within a') (z-within a'') (z-within o)

  -- the difference of challenges i of two randomnesses
  abbrev pub challenges-difference : ℕ → List ℕ → List ℕ → Element
  challenges-difference i R R' = (public J R).c i ⊕ neg ((public J R').c i)

  -- the difference of element m of z in two transcripts
  abbrev pub z-difference : List ℕ → List ℕ → ℕ → Element
  z-difference X O m = (sent J X).z m ⊕ neg ((sent J O).z m)

  -- "w_i = (y_i − c_i)(z^(i) − z) − (x_i − c_i)(z^(i') − z), at most 408²·(1 + b²)·beta_prime_sq": x_i, z^(i) of X; y_i, z^(i') of Y; c_i, z of O, and of O'
  pub w_single-norm : (i : ℕ) {X O Y O' : List ℕ} {j k l q : ℕ} (a : Accepted J X j) (o : Accepted J O k) (a' : Accepted J Y l) (o' : Accepted J O' q)
      → norm_of (table n (λ m. challenges-difference i a'.randomness o'.randomness ⊗ z-difference X O m ⊕ neg (challenges-difference i a.randomness o.randomness ⊗ z-difference Y O' m)))
      ≤ 408 * 408 * ((1 + b * b) * beta_prime_sq)
  w_single-norm i {X} {O} {Y} {O'} a o a' o' =
      let limit = (1 + b * b) * beta_prime_sq in
      omega (
        arith,
        single_norm n 102 (4 * limit)
            (challenges-difference i a'.randomness o'.randomness)
            (challenges-difference i a.randomness o.randomness)
            (z-difference X O)
            (z-difference Y O')
            (difference_l1 J a'.randomness o'.randomness i i)
            (difference_l1 J a.randomness o.randomness i i)
            (difference-within n limit (sent J X).z (sent J O).z (z-within a) (z-within o))
            (difference-within n limit (sent J Y).z (sent J O').z (z-within a') (z-within o')),
      )
