-- The inner products of vectors of a slice, transformed one after the other, with the vectors in NTT form that the slice holds.
use mathlib.Core.Path.{◌≡◌, refl, ap, ◌∙◌}
use mathlib.Core.List.{List}
use Prim.Native.Nat.{ℕ, ◌+◌, ◌*◌, ◌≤◌}
use native.Mathlib.Omega.{arith}
use lib.ListN.{length, get_or}
use Rattle.math.specs.lists.Table.{table}
use Rattle.math.specs.lists.Part.{splice}
use Rattle.math.proofs.lists.Table.{table_ext}
use Rattle.math.proofs.lists.Splice.{get_d_part}
use Rattle.spec_protocol.specs.Formulas.{dot, rows}
use Rattle.spec_protocol.proofs.Region.{rows_ext}
use Rattle.ring_rq_matrix.specs.Region.{vector}
use Rattle.ring_rq_matrix.proofs.Place.{rows-within, dot-vectors}
use Rattle.ntt_vectors.specs.NttForm.{ntt_words, NttForm, ntt_dot, ntt_row}
use Rattle.ntt_vectors.proofs.Stored.{length-ntt_words, ntt_words_alone, ntt_words-after}
use Rattle.ntt_vectors.proofs.Laws.{dot-same, dot_before, same_copied, ntt_form-vector, ntt_dot_is}
use Rattle.core_garbage_ntt.specs.NttLines.{ntt_line}

-- a vector transformed into a buffer
pub line_copied : (B B' xs S : List ℕ) (φ-at n at count : ℕ) → B' ≡ splice B 0 (ntt_words xs φ-at n) → 192 * n ≤ length B
    → table count (ntt_row B' S at n) ≡ table count (ntt_row (ntt_words xs φ-at n) S at n)
line_copied B B' xs S φ-at n at count e room =
    table_ext count (ntt_row B' S at n) (ntt_row (ntt_words xs φ-at n) S at n)
    (λ j l. dot-same B' (ntt_words xs φ-at n) 0 0 S S (at + 192 * (j * n)) (at + 192 * (j * n)) n (same_copied B B' (ntt_words xs φ-at n) (192 * n) e (length-ntt_words xs φ-at n) room) (λ o m. refl))

-- after a store behind the vectors in NTT form and before the vector
pub line_between : (S S' : List ℕ) (to : ℕ) (new : List ℕ) (start n at count : ℕ) → S' ≡ splice S to new → at + 192 * (count * n) ≤ to → to + length new ≤ start
    → table count (ntt_row (ntt_words S' start n) S' at n) ≡ table count (ntt_row (ntt_words S start n) S at n)
line_between S S' to new start n at count e h l =
    table_ext count (ntt_row (ntt_words S' start n) S' at n) (ntt_row (ntt_words S start n) S at n) (λ j m.
    ap (λ ws. ntt_dot ws 0 S' (at + 192 * (j * n)) n) (ntt_words-after S S' to new start n e l)
    ∙ dot_before (ntt_words S start n) S S' to new e n 0 (at + 192 * (j * n)) (omega (arith, rows-within j count n m)))

-- the square of inner products with the vectors in NTT form
pub lines_are : (S S' : List ℕ) (at : ℕ) (s : List ℕ) (s-at φ-at r n : ℕ) → n ≤ 64 → S' ≡ splice S at (ntt_words s s-at (r * n)) → at + 192 * (r * n) ≤ φ-at → NttForm S' at s s-at (r * n)
    → ((k : ℕ) → get_or S k 0 ≤ 4294967295) → rows r r (ntt_line S' φ-at at n) ≡ rows r r (λ i j. dot n (vector S φ-at n i) (vector s s-at n j))
lines_are S S' at s s-at φ-at r n few e h k small =
    rows_ext r r (ntt_line S' φ-at at n) (λ i j. dot n (vector S φ-at n i) (vector s s-at n j)) (λ i j l m.
    ap (λ ws. ntt_dot ws 0 S' (at + 192 * (j * n)) n) (ntt_words-after S S' at (ntt_words s s-at (r * n)) (φ-at + 64 * (i * n)) n e (omega (arith, length-ntt_words s s-at (r * n))))
    ∙ ntt_dot_is (ntt_words S (φ-at + 64 * (i * n)) n) 0 S (φ-at + 64 * (i * n)) S' (at + 192 * (j * n)) s (s-at + 64 * (j * n)) n few
    (ntt_words_alone S (φ-at + 64 * (i * n)) n (λ o q b. omega (arith, get_d_part 0 S (φ-at + 64 * (i * n) + 64 * o) 64 q b, small (φ-at + 64 * (i * n) + 64 * o + q))))
    (ntt_form-vector S' at s s-at r n j (at + 192 * (j * n)) (s-at + 64 * (j * n)) k m refl refl)
    ∙ dot-vectors S φ-at i (φ-at + 64 * (i * n)) s s-at j (s-at + 64 * (j * n)) n refl refl)
