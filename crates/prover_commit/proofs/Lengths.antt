-- The lengths of the words of the transcript's sections.
use mathlib.Core.Path.{◌≡◌, ap, ◌∙◌}
use mathlib.Core.List.{List}
use Prim.Native.Nat.{ℕ, ◌*◌}
use lib.ListN.{length}
use Rattle.spec_leaves.specs.Rq.{Element}
use Rattle.spec_protocol.specs.Parameters.{parameters, T, triangular}
use Rattle.spec_protocol.specs.Formulas as F
use Rattle.spec_protocol.specs.Formulas.{flat, rows, triangle}
use Rattle.spec_protocol.proofs.Flat.{length-flat, length-rows, length-triangle, length-flat-table}
use Rattle.prover_commit.specs.Words.{statement, X, s, t_words, g_words, b''_words, h_words}

-- the words of a triangle of r rows
pub length_cells : (r : ℕ) (f : ℕ → ℕ → Element) → length (flat (triangle r f)) ≡ 64 * triangular r
length_cells r f = length-flat (triangle r f) ∙ ap (λ k. 64 * k) (length-triangle r f)

-- the words of t, g, b'' and h
module _ (J W : List ℕ) where
  open parameters J use {r, κ}

  pub length-t : length (t_words J W) ≡ 64 * (r * κ)
  length-t = length-flat (rows r κ (F.t (statement J) (s J W))) ∙ ap (λ k. 64 * k) (length-rows r (F.t (statement J) (s J W)) κ)

  pub length-g : length (g_words J W) ≡ 64 * T (parameters J)
  length-g = length_cells r (F.g (statement J) (s J W))

module _ (J R W : List ℕ) where
  open parameters J use {r, L}

  pub length-b'' : length (b''_words J R W) ≡ 64 * L
  length-b'' = length-flat-table L (F.b'' (X J R) (s J W))

  pub length-h : length (h_words J R W) ≡ 64 * T (parameters J)
  length-h = length_cells r (F.h (X J R) (s J W))
