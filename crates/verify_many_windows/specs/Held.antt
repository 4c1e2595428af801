-- The digits of t, g and h of a transcript that are stored in the scratch.
use Rattle.std.specs.Prelude.{List, ℕ, ◌*◌}
use Rattle.spec_leaves.specs.Rq.{Element}
use Rattle.spec_protocol.specs.Parameters.{Parameters, parameters, T}
use Rattle.spec_protocol.specs.Views.{message}
use Rattle.spec_protocol.specs.Formulas.{flat, rows, triangle, digits_of}
use Rattle.commitments_outer.specs.declared.outer_commitments.Digits.{Digits}
use Rattle.commitments_outer.specs.Cells.{width, Room, digits_at}
use Rattle.core_workspace.specs.Holds.{Holds}
use Rattle.verify_many_windows.specs.declared.row.Held.{Held}

-- the digits of cells stand from a place on
pub record DigitsHeld (S : List ℕ) (at : ℕ) (X : List ℕ) (d : Digits) (b : ℕ) : Type 0 where
  pub room : Room S at (width d)
  pub held : Holds S at (flat (digits_at X d b))

-- the digits that B, C and D take
module _ (P : Parameters) (X : List ℕ) where
  abbrev pub digits_t : List Element
  digits_t = digits_of P.b P.t₁ (rows P.r P.κ (message P X).t)

  abbrev pub digits_g : List Element
  digits_g = digits_of P.b P.t₂ (triangle P.r (message P X).g)

  abbrev pub digits_h : List Element
  digits_h = digits_of P.b P.t₁ (triangle P.r (message P X).h)

-- all of them stand from their places on
pub record AllHeld (J X S : List ℕ) (at : Held) : Type 0 where
  pub t_room : Room S at.t ((parameters J).r * (parameters J).κ * (parameters J).t₁)
  pub t : Holds S at.t (flat (digits_t (parameters J) X))
  pub g_room : Room S at.g (T (parameters J) * (parameters J).t₂)
  pub g : Holds S at.g (flat (digits_g (parameters J) X))
  pub h_room : Room S at.h (T (parameters J) * (parameters J).t₁)
  pub h : Holds S at.h (flat (digits_h (parameters J) X))
