-- A fork of transcripts at the challenges (T4): one job, the randomness before the challenges and the commitments equal, one or two challenges changed. p and b'' need not be equal.
use Rattle.std.specs.Prelude.{◌≡◌, cond, List, [], ℕ, ◌+◌, ◌*◌, ◌<◌, eqb}
use Rattle.math.specs.lists.Table.{table}
use Rattle.spec_leaves.specs.Rq.{Element}
use Rattle.spec_leaves.specs.Ring.{RqOps}
use Rattle.spec_protocol.specs.Parameters.{parameters}
use Rattle.spec_protocol.specs.Views.{Public, public, Message}
use Rattle.spec_protocol.specs.Formulas.{◌⊕◌, ◌⊗◌}
use Rattle.spec_binding.specs.Openings.{neg, sent, Accepted, EqualU1, EqualU2, ShortKernel, GivenAway1, GivenAway2}
use Rattle.theorem_soundness.specs.Weights.{IsUnit}

-- a transcript that is accepted under the job, with no cell of t, g and h that has something left
pub record Branch (J : List ℕ) : Type 0 where
  pub transcript : List ℕ
  pub accepted : Accepted J transcript 0

-- the public values of a branch, its message and its challenges
abbrev pub values : {J : List ℕ} → Branch J → Public
values {J} X = public J X.accepted.randomness

abbrev pub message_of : {J : List ℕ} → Branch J → Message
message_of {J} X = sent J X.transcript

abbrev pub challenge_of : {J : List ℕ} → Branch J → ℕ → Element
challenge_of X = (values X).c

abbrev pub z_of : {J : List ℕ} → Branch J → ℕ → Element
z_of X = (message_of X).z

infixl 30 ◌⊖◌
-- the difference of two elements
abbrev pub ◌⊖◌ : Element → Element → Element
a ⊖ b = a ⊕ neg b

module _ (X Y : Public) where
  open X use {P}
  open P use {n, r, K, l, L}

  -- the same Π; the same row k of psi, and of omega; the same alpha; the same beta: each in its range
  abbrev pub SameΠ : Type 0
  SameΠ = (i j m : ℕ) → i < r → j < 256 → m < 64 * n → X.Π i j m ≡ Y.Π i j m

  abbrev pub SamePsi : ℕ → Type 0
  SamePsi k = (x : ℕ) → x < l → X.psi k x ≡ Y.psi k x

  abbrev pub SameOmega : ℕ → Type 0
  SameOmega k = (j : ℕ) → j < 256 → X.omega k j ≡ Y.omega k j

  abbrev pub SameAlpha : Type 0
  SameAlpha = (k : ℕ) → k < K → X.alpha k ≡ Y.alpha k

  abbrev pub SameBeta : Type 0
  SameBeta = (k : ℕ) → k < L → X.beta k ≡ Y.beta k

  -- "the same first five sections of randomness"
  pub record SameWeights : Type 0 where
    pub same_Π : SameΠ
    pub same_psi : (k : ℕ) → k < L → SamePsi k
    pub same_omega : (k : ℕ) → k < L → SameOmega k
    pub same_alpha : SameAlpha
    pub same_beta : SameBeta

-- the (r+1)(r+2)/2 transcripts: "challenges c; c with c_i → x_i; c with c_i → y_i; c with c_i → x_i and c_j → x_j (i < j)"
pub data Node : Type 0 where
  base : Node
  first second : ℕ → Node
  mixed : ℕ → ℕ → Node

-- whether one of them is used where there are r challenges
abbrev pub Used : ℕ → Node → Type 0
Used r base = record {}
Used r (first i) = i < r
Used r (second i) = i < r
Used r (mixed i j) = (i < j) × (j < r)

-- c with c_i → x
unfoldable pub changed : (ℕ → Element) → ℕ → Element → ℕ → Element
changed c i x k = cond (eqb k i) x (c k)

module _ {J : List ℕ} (branch : Node → Branch J) where
  -- the challenges c_i, x_i and y_i
  abbrev pub c : ℕ → Element
  c = challenge_of (branch base)

  abbrev pub x : ℕ → Element
  x i = challenge_of (branch (first i)) i

  abbrev pub y : ℕ → Element
  y i = challenge_of (branch (second i)) i

  -- the challenges that a transcript of the fork has
  abbrev pub challenges_at : Node → ℕ → Element
  challenges_at base = c
  challenges_at (first i) = changed c i (x i)
  challenges_at (second i) = changed c i (y i)
  challenges_at (mixed i j) = changed (changed c i (x i)) j (x j)

-- a fork at the challenges: "equal u1, … u2"; "x_i − c_i, y_i − c_i, x_i − y_i are units (inverses handed in)". Only of the nodes that are used something is asked; any other may repeat the base
pub record Fork (J : List ℕ) : Type 0 where
  pub branch : Node → Branch J
  pub same_weights : (v : Node) → Used (parameters J).r v → SameWeights (values (branch base)) (values (branch v))
  pub same_u1 : (v : Node) → Used (parameters J).r v → EqualU1 J (branch base).transcript (branch v).transcript
  pub same_u2 : (v : Node) → Used (parameters J).r v → EqualU2 J (branch base).transcript (branch v).transcript
  pub same_challenges : (v : Node) → Used (parameters J).r v → (k : ℕ) → k < (parameters J).r → challenge_of (branch v) k ≡ challenges_at branch v k
  pub inverse : ℕ → Element
  pub inverse_x : (i : ℕ) → i < (parameters J).r → (x branch i ⊖ c branch i) ⊗ inverse i ≡ RqOps.one
  pub unit_y : (i : ℕ) → i < (parameters J).r → IsUnit RqOps (y branch i ⊖ c branch i)
  pub unit_x_y : (i : ℕ) → i < (parameters J).r → IsUnit RqOps (x branch i ⊖ y branch i)

module _ (J : List ℕ) where
  open parameters J use {n, r, κ, b, beta_prime_sq}

  -- "w_ij = z^(ij) − z^(i) − z^(j) + z", of four transcripts
  unfoldable pub w_mixed : (X Y Z O : Branch J) → List Element
  w_mixed X Y Z O = table n (λ m. z_of X m ⊖ z_of Y m ⊖ z_of Z m ⊕ z_of O m)

  -- "w_i = (y_i − c_i)(z^(i) − z) − (x_i − c_i)(z^(i') − z)", of two pairs of transcripts: x_i, z^(i) of X; y_i, z^(i') of Y; c_i, z of O, and of O'
  unfoldable pub w_single : (i : ℕ) → (X O Y O' : Branch J) → List Element
  w_single i X O Y O' =
      table n (λ m. (challenge_of Y i ⊖ challenge_of O' i) ⊗ (z_of X m ⊖ z_of O m) ⊖ (challenge_of X i ⊖ challenge_of O i) ⊗ (z_of Y m ⊖ z_of O' m))

  -- what z's squared norm is at most: (1 + b²)·beta_prime_sq
  abbrev pub z_limit : ℕ
  z_limit = (1 + b * b) * beta_prime_sq

  -- (a) and (b): what a family of transcripts gives away. Item 13's vector for (B | C) or D of two of them, or "a nonzero vector that A sends to 0", with its bound
  pub data GivesAway {Index : Type 0} (branch : Index → Branch J) : Type 0 where
    unlike_t_g : (v w : Index) → GivenAway1 J (branch v).transcript (branch w).transcript → GivesAway branch
    unlike_h : (v w : Index) → GivenAway2 J (branch v).transcript (branch w).transcript → GivesAway branch
    mixed_z : (v w u o : Index) → ShortKernel (public J []).A κ n (16 * z_limit) (w_mixed (branch v) (branch w) (branch u) (branch o)) → GivesAway branch
    single_z : (i : ℕ) (v o w o' : Index) → i < r → ShortKernel (public J []).A κ n (408 * 408 * z_limit) (w_single i (branch v) (branch o) (branch w) (branch o')) → GivesAway branch
