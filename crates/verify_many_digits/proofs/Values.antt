-- The values of elements of two lists joined, and of a copied list.
use mathlib.Core.Path.{◌≡◌, sym, ap, ap₂, ◌∙◌}
use mathlib.Core.List.{List, ◌++◌, flat_map}
use Prim.Native.Nat.{ℕ, ◌+◌, ◌*◌, ◌≤◌, ◌<◌}
use native.Mathlib.Omega.{arith}
use lib.ListN.{length, take}
use lib.Seq.{take-append_seam, drop-append-add}
use Rattle.math.specs.lists.Table.{table}
use Rattle.math.specs.lists.Part.{part, splice}
use Rattle.math.proofs.lists.Table.{table_ext, table_split}
use Rattle.math.proofs.lists.Part.{part_of-take}
use Rattle.math.proofs.lists.Additive.{flat_map_append}
use Rattle.math.proofs.lists.Splice.{part-splice-within}
use Rattle.ntt_vectors.specs.NttForm.{ntt_form, ntt_words}

-- the values of the elements of two lists joined
pub ntt_words-append : (A B : List ℕ) (a b : ℕ) → length A ≡ 64 * a → ntt_words (A ++ B) 0 (a + b) ≡ ntt_words A 0 a ++ ntt_words B 0 b
ntt_words-append A B a b e =
    ap (flat_map ntt_form)
    (table_split a b (λ m. part (A ++ B) (0 + 64 * m) 64)
    ∙ ap₂ ◌++◌ (table_ext a (λ m. part (A ++ B) (0 + 64 * m) 64) (λ m. part A (0 + 64 * m) 64) first)
    (table_ext b (λ m. part (A ++ B) (0 + 64 * (a + m)) 64) (λ m. part B (0 + 64 * m) 64) second))
    ∙ flat_map_append ntt_form (table a (λ m. part A (0 + 64 * m) 64)) (table b (λ m. part B (0 + 64 * m) 64))
  where
    first : (m : ℕ) → m < a → part (A ++ B) (0 + 64 * m) 64 ≡ part A (0 + 64 * m) 64
    first m h = sym (part_of-take (length A) (A ++ B) (0 + 64 * m) 64 (omega arith)) ∙ ap (λ l. part l (0 + 64 * m) 64) (take-append_seam A B)

    second : (m : ℕ) → m < b → part (A ++ B) (0 + 64 * (a + m)) 64 ≡ part B (0 + 64 * m) 64
    second m h =
        let place : 0 + 64 * (a + m) ≡ length A + (0 + 64 * m) = omega arith in
        ap (λ k. part (A ++ B) k 64) place ∙ ap (take 64) (drop-append-add A B (0 + 64 * m))

-- the values of elements that are copied to a slice's start
pub ntt_words_copied : (S S' ws : List ℕ) (n : ℕ) → S' ≡ splice S 0 ws → 64 * n ≤ length ws → length ws ≤ length S → ntt_words S' 0 n ≡ ntt_words ws 0 n
ntt_words_copied S S' ws n e h room =
    ap (flat_map ntt_form)
    (table_ext n (λ m. part S' (0 + 64 * m) 64) (λ m. part ws (0 + 64 * m) 64) (λ m l.
    let there : 64 * m ≡ 0 + 64 * m = omega arith in
    ap (λ s. part s (0 + 64 * m) 64) e ∙ part-splice-within 0 S 0 ws (64 * m) 64 (omega arith) (omega arith) ∙ ap (λ k. part ws k 64) there))
