-- The cells of t from vectors in NTT form.
use mathlib.Core.Path.{◌≡◌, refl, ap, ◌∙◌}
use mathlib.Core.List.{List}
use Prim.Native.Nat.{ℕ, ◌+◌, ◌*◌, ◌≤◌, ◌<◌}
use native.Mathlib.Omega.{arith}
use lib.ListN.{length, get_or}
use Rattle.math.specs.lists.Part.{splice}
use Rattle.math.proofs.lists.Splice.{get_d_part}
use Rattle.spec_protocol.specs.Formulas.{dot, flat, rows}
use Rattle.spec_protocol.proofs.Region.{rows_ext}
use Rattle.ring_rq_matrix.specs.Region.{vector}
use Rattle.ring_rq_matrix.proofs.Place.{rows-within, dot-vectors}
use Rattle.commitments_outer.specs.Cells.{commitments_of}
use Rattle.ntt_vectors.specs.NttForm.{ntt_words, NttForm, ntt_dot, ntt_row}
use Rattle.ntt_vectors.proofs.Stored.{length-ntt_words, ntt_words_alone}
use Rattle.ntt_vectors.proofs.Laws.{dot-same, same_copied, ntt_form-vector, ntt_dot_is}
use Rattle.commitments_ajtai.specs.Spread.{spread, ntt_t}
use Rattle.commitments_ajtai.proofs.SpreadLaws.{spread_ext}

-- column k, of a row of the matrix that is transformed into a buffer
pub column_is : (matrix : List ℕ) (m-at : ℕ) (S S' next B B' : List ℕ) (at n r width k start place to : ℕ) → start ≡ m-at + 64 * (k * n) → place ≡ to + 64 * k
    → B' ≡ splice B 0 (ntt_words matrix start n) → 192 * n ≤ length B → at + 192 * (r * n) ≤ to → ((x : ℕ) → x < to → get_or S' x 0 ≡ get_or S x 0)
    → next ≡ spread S' place (64 * width) r (ntt_row B' S' at n) → next ≡ spread S' (to + 64 * k) (64 * width) r (λ i. ntt_t matrix m-at S at n i k)
column_is matrix m-at S S' next B B' at n r width k start place to p q e room h same w =
    w
    ∙ ap (λ x. spread S' x (64 * width) r (ntt_row B' S' at n)) q
    ∙ spread_ext S' (to + 64 * k) (64 * width) r (ntt_row B' S' at n) (λ i. ntt_t matrix m-at S at n i k) (λ i l.
    dot-same B' (ntt_words matrix start n) 0 0 S' S (at + 192 * (i * n)) (at + 192 * (i * n)) n
    (same_copied B B' (ntt_words matrix start n) (192 * n) e (length-ntt_words matrix start n) room)
    (λ o m. same (at + 192 * (i * n) + o) (omega (arith, rows-within i r n l)))
    ∙ ap (λ x. ntt_dot (ntt_words matrix x n) 0 S (at + 192 * (i * n)) n) p)

-- t of vectors in NTT form
pub t-ntt : (matrix : List ℕ) (m-at width n : ℕ) (S : List ℕ) (at : ℕ) (s : List ℕ) (s-at r : ℕ) → n ≤ 64 → NttForm S at s s-at (r * n) → ((k : ℕ) → get_or matrix k 0 ≤ 4294967295)
    → flat (rows r width (ntt_t matrix m-at S at n)) ≡ commitments_of matrix m-at width n s s-at r
t-ntt matrix m-at width n S at s s-at r few k small =
    ap flat (rows_ext r width (ntt_t matrix m-at S at n) (λ i j. dot n (vector matrix m-at n j) (vector s s-at n i)) (λ i j l m.
    ntt_dot_is (ntt_words matrix (m-at + 64 * (j * n)) n) 0 matrix (m-at + 64 * (j * n)) S (at + 192 * (i * n)) s (s-at + 64 * (i * n)) n few
    (ntt_words_alone matrix (m-at + 64 * (j * n)) n (λ o q b. omega (arith, get_d_part 0 matrix (m-at + 64 * (j * n) + 64 * o) 64 q b, small (m-at + 64 * (j * n) + 64 * o + q))))
    (ntt_form-vector S at s s-at r n i (at + 192 * (i * n)) (s-at + 64 * (i * n)) k l refl refl)
    ∙ dot-vectors matrix m-at j (m-at + 64 * (j * n)) s s-at i (s-at + 64 * (i * n)) n refl refl))
