-- The words of the transcript's sections, of a job, a randomness and a witness.
use Rattle.std.specs.Prelude.{List, [], ℕ}
use Rattle.math.specs.lists.Table.{table}
use Rattle.spec_leaves.specs.Rq.{Element}
use Rattle.spec_protocol.specs.Parameters.{parameters}
use Rattle.spec_protocol.specs.Views.{Public, public, witness}
use Rattle.spec_protocol.specs.Formulas as F
use Rattle.spec_protocol.specs.Formulas.{flat, rows, triangle}

-- the public values of a job alone
abbrev pub statement : List ℕ → Public
statement J = public J []

-- the public values, and the witness's elements
abbrev pub X : List ℕ → List ℕ → Public
X J R = public J R

abbrev pub s : List ℕ → List ℕ → ℕ → ℕ → Element
s J W = witness (parameters J) W

-- "u1 (κ1 elements), p (256 words), b'' (κ elements), u2 (κ2), z (n), t (r·κ), g (T), h (T)", each by its formula: those that no randomness is in
module _ (J W : List ℕ) where
  open parameters J use {r, κ, κ₁}

  abbrev pub u₁_words : List ℕ
  u₁_words = flat (table κ₁ (F.u₁ (statement J) (s J W)))

  abbrev pub t_words : List ℕ
  t_words = flat (rows r κ (F.t (statement J) (s J W)))

  abbrev pub g_words : List ℕ
  g_words = flat (triangle r (F.g (statement J) (s J W)))

-- and the others
module _ (J R W : List ℕ) where
  open parameters J use {n, r, κ₂, L}

  abbrev pub p_words : List ℕ
  p_words = table 256 (F.p (X J R) (s J W))

  abbrev pub b''_words : List ℕ
  b''_words = flat (table L (F.b'' (X J R) (s J W)))

  abbrev pub u₂_words : List ℕ
  u₂_words = flat (table κ₂ (F.u₂ (X J R) (s J W)))

  abbrev pub z_words : List ℕ
  z_words = flat (table n (F.z (X J R) (s J W)))

  abbrev pub h_words : List ℕ
  h_words = flat (triangle r (F.h (X J R) (s J W)))
