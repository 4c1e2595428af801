-- The made transcript is read back: its sections are filled, and its message agrees with the formulas.
use mathlib.Core.Path.{◌≡◌, refl, ap, ◌∙◌}
use mathlib.Core.List.{List, [], ◌∷◌}
use Prim.Native.Nat.{ℕ, ◌+◌, ◌*◌, ◌<◌}
use lib.ListN.{length, get_or}
use Rattle.math.specs.lists.Table.{table}
use Rattle.math.specs.lists.Sum.{Σ}
use Rattle.math.proofs.lists.Table.{length-table, get_or-table}
use Rattle.math.proofs.algebra.Dot.{dot_comm}
use Rattle.spec_leaves.specs.Zq.{Q}
use Rattle.spec_leaves.specs.Rq.{Element, AllCanonical}
use Rattle.spec_leaves.specs.Ring.{RqOps, canonical_mod}
use Rattle.spec_leaves.proofs.RqRing.{rq_ring}
use Rattle.spec_protocol.specs.Parameters.{T}
use Rattle.spec_protocol.specs.Layout.{Section, canonical, sections, start, transcript_sections}
use Rattle.spec_protocol.specs.Views.{Public, element_at, cell, message}
use Rattle.spec_protocol.specs.Formulas as F
use Rattle.spec_protocol.specs.Formulas.{flat, rows, triangle}
use Rattle.spec_protocol.specs.Prover.{transcript}
use Rattle.spec_protocol.proofs.Agrees.{Agrees}
use Rattle.spec_protocol.proofs.Sections.{Filled, none, more, section_part, section_word}
use Rattle.spec_protocol.proofs.Flat.{length-flat, flat-canonical, element_of-flat, length-rows, row-cell-within, row-cell, length-triangle, cell-within, triangle-cell}

-- the words of n elements fill a section of 64 · n words
flat_fills : {ss : List Section} {wss : List (List ℕ)} (es : List Element) (n : ℕ) → length es ≡ n → Filled ss wss → Filled (canonical (64 * n) ∷ ss) (flat es ∷ wss)
flat_fills es n e f = more (length-flat es ∙ ap (λ k. 64 * k) e) (flat-canonical es) f

module _ (X : Public) (s : ℕ → ℕ → Element) where
  open X use {P}

  -- p is canonical
  p-canonical : AllCanonical (table 256 (F.p X s))
  p-canonical k h = rw (get_or-table 256 (F.p X s) k 0 (rw length-table at h)) (reduced k)
    where
      reduced : (j : ℕ) → F.p X s j < Q
      reduced j = unfold F.p in canonical_mod (Σ P.r (λ i. F.projection X s i j))

  -- the transcript's sections have their counts and ranges
  pub transcript_filled : Filled (transcript_sections P) (transcript X s)
  unfolding transcript
  transcript_filled =
      flat_fills (table P.κ₁ (F.u₁ X s)) P.κ₁ (length-table P.κ₁ (F.u₁ X s))
      (more (length-table 256 (F.p X s)) p-canonical
      (flat_fills (table P.L (F.b'' X s)) P.L (length-table P.L (F.b'' X s))
      (flat_fills (table P.κ₂ (F.u₂ X s)) P.κ₂ (length-table P.κ₂ (F.u₂ X s))
      (flat_fills (table P.n (F.z X s)) P.n (length-table P.n (F.z X s))
      (flat_fills (rows P.r P.κ (F.t X s)) (P.r * P.κ) (length-rows P.r (F.t X s) P.κ)
      (flat_fills (triangle P.r (F.g X s)) (T P) (length-triangle P.r (F.g X s))
      (flat_fills (triangle P.r (F.h X s)) (T P) (length-triangle P.r (F.h X s)) none)))))))

  -- element k of the elements es whose words are section m
  read : (m : ℕ) (es : List Element) (k : ℕ) → get_or (transcript X s) m [] ≡ flat es → k < length es
      → element_at (sections (transcript X s)) (start (transcript_sections P) m) k ≡ get_or es k RqOps.nil
  read m es k e h = element_of-flat (sections (transcript X s)) (start (transcript_sections P) m) es k RqOps.nil (rw e at (section_part transcript_filled m)) h

  -- of a table of elements
  read_table : (m n : ℕ) (f : ℕ → Element) (k : ℕ) → get_or (transcript X s) m [] ≡ flat (table n f) → k < n → element_at (sections (transcript X s)) (start (transcript_sections P) m) k ≡ f k
  read_table m n f k e h = read m (table n f) k e (rw length-table h) ∙ get_or-table n f k RqOps.nil h

  -- of a triangle of elements that is the same mirrored
  read_triangle : (m : ℕ) (f : ℕ → ℕ → Element) → ((i j : ℕ) → f i j ≡ f j i) → (i j : ℕ) → get_or (transcript X s) m [] ≡ flat (triangle P.r f) → i < P.r → j < P.r
      → element_at (sections (transcript X s)) (start (transcript_sections P) m) (cell i j) ≡ f i j
  read_triangle m f symmetric i j e h l = read m (triangle P.r f) (cell i j) e (cell-within P.r f i j h l) ∙ triangle-cell P.r f symmetric RqOps.nil i j h l

  -- the formulas' g is symmetric
  pub g_symmetric : (i j : ℕ) → F.g X s i j ≡ F.g X s j i
  unfolding F.g
  g_symmetric i j = dot_comm RqOps rq_ring P.n (s i) (s j)

  -- the formulas' h is symmetric
  pub h_symmetric : (i j : ℕ) → F.h X s i j ≡ F.h X s j i
  unfolding F.h
  h_symmetric i j = rq_ring.add_comm (F.dot P.n (F.φ_sum X i) (s j)) (F.dot P.n (F.φ_sum X j) (s i))

  -- the message of the made transcript is that of the formulas
  pub read_back : Agrees X s (message P (sections (transcript X s)))
  unfolding transcript
  read_back = record {
    u₁ = λ k h. read_table 0 P.κ₁ (F.u₁ X s) k refl h;
    p = λ j h. section_word transcript_filled 1 j (rw (length-table 256 (F.p X s)) h) ∙ get_or-table 256 (F.p X s) j 0 h;
    b'' = λ k h. read_table 2 P.L (F.b'' X s) k refl h;
    u₂ = λ k h. read_table 3 P.κ₂ (F.u₂ X s) k refl h;
    z = λ m h. read_table 4 P.n (F.z X s) m refl h;
    t = λ i k h l. read 5 (rows P.r P.κ (F.t X s)) (i * P.κ + k) refl (row-cell-within P.r (F.t X s) P.κ i k h l) ∙ row-cell P.r (F.t X s) P.κ i k RqOps.nil h l;
    g = λ i j h l. read_triangle 6 (F.g X s) g_symmetric i j refl h l;
    h = λ i j h l. read_triangle 7 (F.h X s) h_symmetric i j refl h l;
  }
