-- Regions that loops fill: one more element at a running place, and the rows of a triangle.
use mathlib.Core.Path.{◌≡◌, ap, ◌∙◌}
use mathlib.Core.List.{List}
use Prim.Native.Nat.{ℕ, ◌+◌, ◌*◌, ◌≤◌}
use native.Mathlib.Omega.{arith}
use lib.ListN.{length}
use Rattle.math.specs.lists.Table.{table}
use Rattle.math.specs.lists.Part.{splice}
use Rattle.math.proofs.lists.Splice.{length-splice}
use Rattle.spec_leaves.specs.Rq.{Element}
use Rattle.spec_leaves.specs.Ring.{words}
use Rattle.spec_protocol.specs.Parameters.{triangular}
use Rattle.spec_protocol.specs.Formulas.{flat, triangle}
use Rattle.spec_protocol.proofs.Flat.{length-flat, length-triangle}
use Rattle.spec_protocol.proofs.Stored.{stored_next, lists-none, lists-next}
use Rattle.ring_rq_matrix.specs.Region.{Apart}
use Rattle.ring_rq_matrix.proofs.Place.{apart_part}

-- a slice with words spliced in keeps its length
pub length_filled : (out l : List ℕ) (at : ℕ) (new : List ℕ) → out ≡ splice l at new → length out ≡ length l
length_filled out l at new e = ap length e ∙ length-splice l at new

module _ (start : List ℕ) (at : ℕ) where
  -- one more element
  pub fill_next : (out next ws : List ℕ) (m place : ℕ) (f : ℕ → Element) → out ≡ splice start at (flat (table m f)) → place ≡ at + 64 * m
      → ws ≡ words (f m) → next ≡ splice out place ws → next ≡ splice start at (flat (table (m + 1) f))
  fill_next out next ws m place f e p w h = h ∙ ap (λ k. splice out k ws) p ∙ stored_next start out at m f ws e w

  -- no row of a triangle
  pub triangle-none : (f : ℕ → ℕ → Element) → start ≡ splice start at (flat (triangle 0 f))
  unfolding triangle
  triangle-none f = lists-none start at (λ i. table (i + 1) (f i))

  -- one more row of a triangle
  pub triangle-next : (out next : List ℕ) (i place : ℕ) (f : ℕ → ℕ → Element) → out ≡ splice start at (flat (triangle i f)) → place ≡ at + 64 * triangular i
      → next ≡ splice out place (flat (table (i + 1) (f i))) → next ≡ splice start at (flat (triangle (i + 1) f))
  unfolding triangle
  triangle-next out next i place f e p h =
      h ∙ ap (λ k. splice out k (flat (table (i + 1) (f i)))) p ∙ lists-next start out at i (triangular i) (λ k. table (k + 1) (f k)) e (length-triangle i f)

-- a region that is apart from another is apart from the elements that fill a part of it
pub apart_filled : (at count place size : ℕ) (es : List Element) → Apart at count place size → 64 * length es ≤ size → Apart at count place (length (flat es))
apart_filled at count place size es apart h = apart_part at count place size at count place (length (flat es)) apart (omega arith) (omega arith) (omega arith) (omega (arith, length-flat es))
