-- "For t the runs' rows, laid next to each other by rising index, are the whole t."
use mathlib.Core.Path.{◌≡◌, sym, ap, ap₂, ◌∙◌}
use mathlib.Core.List.{List, [], ◌∷◌, ◌++◌, append-nil, append_assoc, flat_map}
use Prim.Native.Nat.{ℕ, zero, suc, ◌+◌, ◌-◌, ◌≤◌}
use native.Mathlib.Decide.{dec_le}
use native.Mathlib.Nat.{add-zero, add-suc}
use native.Mathlib.Omega.{arith}
use lib.ListN.{get_or}
use Rattle.math.specs.lists.Table.{table, cat}
use Rattle.math.proofs.lists.Cat.{cat_ext}
use Rattle.math.proofs.lists.Table.{table_ext}
use Rattle.spec_leaves.specs.Answer.{Answer, fine, refused, ◌then◌}
use Rattle.spec_leaves.specs.Rq.{Element}
use Rattle.spec_protocol.specs.Checks.{require, first}
use Rattle.spec_protocol.specs.Parameters.{parameters}
use Rattle.spec_protocol.specs.Views.{public, witness}
use Rattle.spec_protocol.specs.Formulas as F
use Rattle.spec_protocol.specs.Formulas.{flat, rows, norm_of}
use Rattle.spec_protocol.specs.Prover.{transcript, witness_norm}
use Rattle.spec_protocol.proofs.Stored.{flat_append}
use Rattle.spec_protocol.proofs.Then.{then_assoc}
use Rattle.spec_protocol.proofs.Checks.{then_fine, first_ext}
use Rattle.spec_sheds.specs.Runs.{Run, size, run_norm}
use Rattle.spec_sheds.specs.Split.{Splits, Rising, vectors_of, joined_rows, joined_norms}
use Rattle.spec_sheds.proofs.Cut.{element_is, run_rows_is}
use Rattle.spec_sheds.proofs.EndToEnd.{Chain, split_chain}

-- lists joined, parted after the first m
cat_split {ℓ} : {A : Type ℓ} (m n : ℕ) (f : ℕ → List A) → cat (m + n) f ≡ cat m f ++ cat n (λ i. f (m + i))
unfolding cat
cat_split m zero f = ap (λ k. cat k f) (add-zero m) ∙ sym (append-nil (cat m f))
cat_split m (suc n) f = ap (λ k. cat k f) (add-suc m n) ∙ ap (λ l. l ++ f (m + n)) (cat_split m n f) ∙ append_assoc (cat m f) (cat n (λ i. f (m + i))) (f (m + n))

-- the first answer that is not fine, parted after the first m
first_split : (m n : ℕ) (f : ℕ → Answer) → first (m + n) f ≡ first m f then first n (λ i. f (m + i))
unfolding first
first_split m zero f = ap (λ k. first k f) (add-zero m) ∙ sym (then_fine (first m f))
first_split m (suc n) f = ap (λ k. first k f) (add-suc m n) ∙ ap (λ a. a then f (m + n)) (first_split m n f) ∙ then_assoc (first m f) (first n (λ i. f (m + i))) (f (m + n))

module _ (J R W : List ℕ) where
  -- the rows of t from one index up to another
  rows-from : ℕ → ℕ → List ℕ
  rows-from a count = flat (rows count (parameters J).κ (λ i. F.t (public J R) (witness (parameters J) W) (a + i)))

  -- of an index on, rows are parted after the first m
  rows-part : (a m n : ℕ) → rows-from a (m + n) ≡ rows-from a m ++ rows-from (a + m) n
  unfolding rows-from rows
  rows-part a m n =
      let κ = (parameters J).κ in
      let t : ℕ → ℕ → Element = F.t (public J R) (witness (parameters J) W) in
      ap flat
      (cat_split m n (λ i. table κ (t (a + i)))
      ∙ ap (λ l. cat m (λ i. table κ (t (a + i))) ++ l)
      (cat_ext n (λ i. table κ (t (a + (m + i)))) (λ i. table κ (t (a + m + i))) (λ i h. let e : a + (m + i) ≡ a + m + i = omega arith in ap (λ k. table κ (t k)) e)))
      ∙ flat_append (cat m (λ i. table κ (t (a + i)))) (cat n (λ i. table κ (t (a + m + i))))

  -- runs end to end
  joined : (xs : List Run) (a r : ℕ) → Chain a xs r → (a ≤ r) × (joined_rows J W xs ≡ rows-from a (r - a))
  unfolding Chain joined_rows flat_map flat rows-from
  joined [] a r c = (omega arith, nothing a (r - a) (omega arith))
    where
      nothing : (a n : ℕ) → n ≡ 0 → [] ≡ rows-from a n
      nothing a n e = unfold rows cat in sym (ap (λ k. flat (cat k (λ i. table (parameters J).κ (F.t (public J R) (witness (parameters J) W) (a + i))))) e)
  joined (x ∷ xs) a r c =
      let ih = joined xs x.end r c.2 in
      let count : size x + (r - x.end) ≡ r - a = omega (arith, c.0, c.1, ih.0) in
      let next : a + size x ≡ x.end = omega (arith, c.0, c.1) in (
        omega (arith, c.0, c.1, ih.0),
        ap₂ ◌++◌ (run_rows_is J R W x ∙ ap (λ k. rows-from k (size x)) c.0) (ih.1 ∙ ap (λ k. rows-from k (r - x.end)) (sym next))
            ∙ sym (rows-part a (size x) (r - x.end))
            ∙ ap (rows-from a) count,
      )

  -- "laid next to each other by rising index": section t of the whole transcript
  pub whole-t : (xs : List Run) → Splits (parameters J).r xs → Rising xs → joined_rows J W xs ≡ get_or (transcript (public J R) (witness (parameters J) W)) 5 []
  unfolding transcript rows-from rows
  whole-t xs s rise =
      let r = (parameters J).r in
      let κ = (parameters J).κ in
      let t : ℕ → ℕ → Element = F.t (public J R) (witness (parameters J) W) in
      let all : r - 0 ≡ r = omega arith in
      (joined xs 0 r (split_chain r xs s rise)).1
      ∙ ap (rows-from 0) all
      ∙ ap flat (cat_ext r (λ i. table κ (t (0 + i))) (λ i. table κ (t i)) (λ i h. let e : 0 + i ≡ i = omega arith in ap (λ k. table κ (t k)) e))

  -- the norm of vector i of the whole witness against A's bound
  norm_at : ℕ → Answer
  norm_at i = require (dec_le (norm_of (table (parameters J).n (witness (parameters J) W i))) (parameters J).bound_A) (refused 13 i)

  -- 13 of a run is that of the whole witness at its indexes
  run_norm_is : (x : Run) → run_norm J x (vectors_of J W x) ≡ first (size x) (λ i. norm_at (x.first + i))
  unfolding run_norm norm_at
  run_norm_is x =
      let P = parameters J in
      first_ext (size x)
      (λ i. require (dec_le (norm_of (table P.n (witness P (vectors_of J W x) i))) P.bound_A) (refused 13 (x.first + i)))
      (λ i. norm_at (x.first + i))
      (λ i a.
      ap (λ es. require (dec_le (norm_of es) P.bound_A) (refused 13 (x.first + i)))
      (table_ext P.n (witness P (vectors_of J W x) i) (witness P W (x.first + i)) (λ q b. element_is J R W x i q a b)))

  norms : (xs : List Run) (a r : ℕ) → Chain a xs r → (a ≤ r) × (joined_norms J W xs ≡ first (r - a) (λ i. norm_at (a + i)))
  unfolding Chain joined_norms
  norms [] a r c = (omega arith, nothing (r - a) (λ i. norm_at (a + i)) (omega arith))
    where
      nothing : (n : ℕ) (f : ℕ → Answer) → n ≡ 0 → fine ≡ first n f
      nothing n f e = unfold first in sym (ap (λ k. first k f) e)
  norms (x ∷ xs) a r c =
      let ih = norms xs x.end r c.2 in
      let count : size x + (r - x.end) ≡ r - a = omega (arith, c.0, c.1, ih.0) in
      let next : (i : ℕ) → x.end + i ≡ a + (size x + i) = λ i. omega (arith, c.0, c.1) in (
        omega (arith, c.0, c.1, ih.0),
        ap₂ ◌then◌ (run_norm_is x ∙ ap (λ k. first (size x) (λ i. norm_at (k + i))) c.0)
            (ih.1 ∙ first_ext (r - x.end) (λ i. norm_at (x.end + i)) (λ i. norm_at (a + (size x + i))) (λ i h. ap norm_at (next i)))
            ∙ sym (first_split (size x) (r - x.end) (λ i. norm_at (a + i)))
            ∙ ap (λ k. first k (λ i. norm_at (a + i))) count,
      )

  -- "13, its i counted over the whole job": the first run by rising index that is refused is refused as the whole witness is
  pub whole-norm : (xs : List Run) → Splits (parameters J).r xs → Rising xs → joined_norms J W xs ≡ witness_norm (public J R) (witness (parameters J) W)
  unfolding witness_norm norm_at
  whole-norm xs s rise =
      let r = (parameters J).r in
      let all : r - 0 ≡ r = omega arith in
      (norms xs 0 r (split_chain r xs s rise)).1
      ∙ ap (λ k. first k (λ i. norm_at (0 + i))) all
      ∙ first_ext r (λ i. norm_at (0 + i)) norm_at (λ i h. let e : 0 + i ≡ i = omega arith in ap norm_at e)
