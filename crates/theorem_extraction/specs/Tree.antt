-- A tree of forks (T5): at several alpha and beta, and at several psi and omega. Each fork is one of T4; two forks are compared by their first transcripts.
use Rattle.std.specs.Prelude.{◌≡◌, List, ◌≢◌, ℕ, ◌<◌}
use Rattle.math.specs.algebra.Ops.{Ops}
use Rattle.spec_leaves.specs.Ring.{RqOps, ZqOps, residue}
use Rattle.spec_protocol.specs.Parameters.{Parameters, parameters}
use Rattle.spec_protocol.specs.Formulas as Formulas
use Rattle.spec_protocol.specs.Conditions.{Meets}
use Rattle.spec_binding.specs.Openings.{EqualU1}
use Rattle.theorem_soundness.specs.Weights.{IsUnit}
use Rattle.theorem_extraction.specs.Fork.{Branch, values, message_of, Node, base, Fork, SameΠ, SamePsi, SameOmega, SameAlpha, SameBeta}
use Rattle.theorem_extraction.specs.Extracted.{extracted}

-- "differ in one" entry "by a unit": of n entries all but k are equal, and the difference of the two at k has an inverse
pub record DifferAt (O : Ops) (n k : ℕ) (v w : ℕ → O.Carrier) : Type 0 where
  pub others : (i : ℕ) → i < n → i ≢ k → v i ≡ w i
  pub unit : IsUnit O (O.add (v k) (O.neg (w k)))

-- two transcripts
module _ {J : List ℕ} (X Y : Branch J) where
  open parameters J use {K, l, L}

  -- the same Π, psi, omega and b''
  pub record SameRows : Type 0 where
    pub same_Π : SameΠ (values X) (values Y)
    pub same_psi : (k : ℕ) → k < L → SamePsi (values X) (values Y) k
    pub same_omega : (k : ℕ) → k < L → SameOmega (values X) (values Y) k
    pub same_b'' : (k : ℕ) → k < L → (message_of X).b'' k ≡ (message_of Y).b'' k

  -- a fork at alpha: "two choices that differ in one alpha_k by a unit"
  pub record AtAlpha (k : ℕ) : Type 0 where
    pub rows : SameRows
    pub alphas : DifferAt RqOps K k (values X).alpha (values Y).alpha
    pub betas : SameBeta (values X) (values Y)

  -- a fork at beta: "in one beta_k"
  pub record AtBeta (k : ℕ) : Type 0 where
    pub rows : SameRows
    pub alphas : SameAlpha (values X) (values Y)
    pub betas : DifferAt RqOps L k (values X).beta (values Y).beta

  -- the same Π and p
  pub record SameProjection : Type 0 where
    pub same_Π : SameΠ (values X) (values Y)
    pub same_p : (j : ℕ) → j < 256 → (message_of X).p j ≡ (message_of Y).p j

  -- a fork at psi: "rows (psi, omega) that differ in one entry by a unit", entry x of row k of psi
  pub record AtPsi (k x : ℕ) : Type 0 where
    pub projection : SameProjection
    pub psis : DifferAt ZqOps l x (λ i. residue ((values X).psi k i)) (λ i. residue ((values Y).psi k i))
    pub omegas : SameOmega (values X) (values Y) k

  -- a fork at omega: entry j of row k of omega
  pub record AtOmega (k j : ℕ) : Type 0 where
    pub projection : SameProjection
    pub psis : SamePsi (values X) (values Y) k
    pub omegas : DifferAt ZqOps 256 j (λ i. residue ((values X).omega k i)) (λ i. residue ((values Y).omega k i))

-- the forks of a tree: the root; with alpha_k, or one entry of beta, changed; with entry x of a row of psi, or entry j of one of omega, changed; and each of these two with beta changed too
pub data Place : Type 0 where
  root beta : Place
  alpha psi psi-beta omega omega-beta : ℕ → Place

-- whether one of them is used
abbrev pub Within : Parameters → Place → Type 0
Within P root = record {}
Within P beta = record {}
Within P (alpha k) = k < P.K
Within P (psi x) = x < P.l
Within P (psi-beta x) = x < P.l
Within P (omega j) = j < 256
Within P (omega-beta j) = j < 256

-- the first transcript of a fork
abbrev pub trunk : {J : List ℕ} → Fork J → Branch J
trunk F = F.branch base

-- the whole tree: 2 + K + 2·(l + 256) forks with the same u1; the row of psi and omega, and the entry of beta, that are changed
pub record Tree (J : List ℕ) : Type 0 where
  pub fork : Place → Fork J
  pub row : ℕ
  pub row_below : row < (parameters J).L
  pub same_u1 : (p : Place) → Within (parameters J) p → EqualU1 J (trunk (fork root)).transcript (trunk (fork p)).transcript
  pub at_alpha : (k : ℕ) → k < (parameters J).K → AtAlpha (trunk (fork root)) (trunk (fork (alpha k))) k
  pub at_beta : AtBeta (trunk (fork root)) (trunk (fork beta)) row
  pub at_psi : (x : ℕ) → x < (parameters J).l → AtPsi (trunk (fork root)) (trunk (fork (psi x))) row x
  pub at_psi_beta : (x : ℕ) → x < (parameters J).l → AtBeta (trunk (fork (psi x))) (trunk (fork (psi-beta x))) row
  pub at_omega : (j : ℕ) → j < 256 → AtOmega (trunk (fork root)) (trunk (fork (omega j))) row j
  pub at_omega_beta : (j : ℕ) → j < 256 → AtBeta (trunk (fork (omega j))) (trunk (fork (omega-beta j))) row

module _ {J : List ℕ} (T : Tree J) where
  -- the transcripts of a tree
  abbrev pub branches : Place × Node → Branch J
  branches v = (T.fork v.0).branch v.1

  -- "a witness that meets every constraint and whose projection is p": the vectors that the root extracts
  pub record Witness : Type 0 where
    pub meets : Meets (values (trunk (T.fork root))) (extracted (T.fork root))
    pub projection : (j : ℕ) → j < 256 → Formulas.p (values (trunk (T.fork root))) (extracted (T.fork root)) j ≡ (message_of (trunk (T.fork root))).p j
