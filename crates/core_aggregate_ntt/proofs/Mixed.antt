-- What the sums with weights in NTT form come to: the elements weighed by alpha and by beta, together.
use mathlib.Core.Path.{◌≡◌, sym, ap, ap₂, ◌∙◌}
use mathlib.Core.Bool.{Bool, true, false, cond}
use mathlib.Core.List.{List}
use Prim.Native.Nat.{ℕ, ◌+◌, ◌-◌, ◌*◌, ◌≤◌, ◌<◌}
use native.Mathlib.Nat.{zero-add}
use native.Mathlib.Omega.{arith}
use borrow.Author.Tests.{lt-ltb, le-ltb}
use lib.Dec.{ltb}
use lib.ListN.{get_or, replicate, get_or-replicate}
use Rattle.math.specs.lists.Part.{part, splice}
use Rattle.math.specs.lists.Sum.{Σ}
use Rattle.math.proofs.lists.Table.{table_ext}
use Rattle.math.proofs.lists.Sum.{Σ_ext, Σ_split}
use Rattle.math.proofs.lists.Splice.{part-splice-before}
use Rattle.math.specs.algebra.Ops.{dot}
use Rattle.math.proofs.algebra.Dot.{dot_ext, dot_split}
use Rattle.spec_leaves.specs.Ring.{RqOps, words, element}
use Rattle.spec_leaves.proofs.Bridge.{element-words, words-element}
use Rattle.spec_leaves.proofs.RqRing.{rq_ring}
use Rattle.ntt_product.specs.NttForm.{most_products}
use Rattle.ntt_product.proofs.Residue.{Words}
use Rattle.spec_protocol.specs.Formulas.{flat}
use Rattle.ring_inner_product.specs.declared.Strided.{Strided}
use Rattle.ring_inner_product.specs.Run.{run, strided, further}
use Rattle.core_aggregate.specs.Weighed.{mixed, mixed_words}
use Rattle.ntt_vectors.specs.NttForm.{ntt_form, NttForm}
use Rattle.ntt_vectors.specs.Sums.{inverse_from, HoldsSums}
use Rattle.ntt_vectors.proofs.SumsLaws.{part-words, ntt_form-value, inverse-holds, inverse_from-element}
use Rattle.core_aggregate_ntt.specs.Terms.{terms_added, run_added, ntt_mixed, ntt_mixed_words}
use Rattle.core_aggregate_ntt.proofs.Terms.{length-terms, term_at}

-- the first K of one, then the other
joined : ℕ → (f g : ℕ → List ℕ) → ℕ → List ℕ
joined K f g m = cond (ltb m K) (f m) (g (m - K))

module _ (K : ℕ) (f g : ℕ → List ℕ) where
  first : (m : ℕ) → m < K → joined K f g m ≡ f m
  unfolding joined
  first m l = ap (λ b. cond b (f m) (g (m - K))) (lt-ltb m K l)

  second : (m : ℕ) → joined K f g (K + m) ≡ g m
  unfolding joined
  second m =
      let back : K + m - K ≡ m = omega arith in
      ap (λ b. cond b (f (K + m)) (g (K + m - K))) (le-ltb (K + m) K (omega arith)) ∙ ap g back

  joined_words : ((m : ℕ) → Words (f m)) → ((m : ℕ) → Words (g m)) → (m : ℕ) → Words (joined K f g m)
  unfolding joined
  joined_words wf wg m = either (ltb m K)
    where
      either : (b : Bool) → Words (cond b (f m) (g (m - K)))
      either true = wf m
      either false = wg (m - K)

module _ (J : List ℕ) (x : Strided) (S : List ℕ) (y : Strided) (weights W : List ℕ) (alpha beta : ℕ) (few : x.count + y.count ≤ most_products)
    (ntt-alpha : NttForm weights 0 W alpha x.count) (ntt-beta : NttForm weights (192 * x.count) W beta y.count) (job : (j : ℕ) → get_or J j 0 ≤ 4294967295)
    (scratch : (j : ℕ) → get_or S j 0 ≤ 4294967295) where
  abbrev K : ℕ
  K = x.count

  abbrev L : ℕ
  L = y.count

  abbrev α : ℕ → List ℕ
  α m = part W (alpha + 64 * m) 64

  abbrev β : ℕ → List ℕ
  β m = part W (beta + 64 * m) 64

  abbrev c : ℕ → List ℕ
  c m = part J (x.at + x.step * m) 64

  abbrev d : ℕ → List ℕ
  d m = part S (y.at + y.step * m) 64

  abbrev sums : List ℕ
  sums = run_added (run_added (replicate 192 0) weights 0 J x) weights (192 * K) S y

  product : (k : ℕ) → ℕ → ℕ
  product k m = get_or (ntt_form (joined K α β m)) k 0 * get_or (ntt_form (joined K c d m)) k 0

  by-alpha : (k : ℕ) → k < 192 → Σ K (λ m. get_or weights (0 + 192 * m + k) 0 * get_or (ntt_form (c m)) k 0) ≡ Σ K (product k)
  unfolding product
  by-alpha k l =
      Σ_ext K (λ m. get_or weights (0 + 192 * m + k) 0 * get_or (ntt_form (c m)) k 0) (product k) (λ m b.
      ap₂ ◌*◌ (ntt_form-value weights 0 W alpha K ntt-alpha m k b l ∙ ap (λ e. get_or (ntt_form e) k 0) (sym (first K α β m b))) (ap (λ e. get_or (ntt_form e) k 0) (sym (first K c d m b))))

  by-beta : (k : ℕ) → k < 192 → Σ L (λ m. get_or weights (192 * K + 192 * m + k) 0 * get_or (ntt_form (d m)) k 0) ≡ Σ L (λ m. product k (K + m))
  unfolding product
  by-beta k l =
      Σ_ext L (λ m. get_or weights (192 * K + 192 * m + k) 0 * get_or (ntt_form (d m)) k 0) (λ m. product k (K + m)) (λ m b.
      ap₂ ◌*◌ (ntt_form-value weights (192 * K) W beta L ntt-beta m k b l ∙ ap (λ e. get_or (ntt_form e) k 0) (sym (second K α β m))) (ap (λ e. get_or (ntt_form e) k 0) (sym (second K c d m))))

  holds : HoldsSums sums 0 (K + L) (joined K α β) (joined K c d)
  unfolding product
  holds k l =
      let z : ℕ = 0 in
      ap (λ j. get_or sums j 0) (zero-add k)
      ∙ term_at (run_added (replicate 192 0) weights 0 J x) weights (192 * K) S y.at y.step L k l
      ∙ ap₂ ◌+◌ (term_at (replicate 192 0) weights 0 J x.at x.step K k l ∙ ap₂ ◌+◌ (get_or-replicate 192 k z z l) (by-alpha k l) ∙ zero-add (Σ K (product k))) (by-beta k l)
      ∙ sym (Σ_split K L (product k))

  pub ntt_mixed_is : ntt_mixed J x S y weights ≡ mixed J x W alpha beta S y
  unfolding ntt_mixed mixed
  ntt_mixed_is =
      ap element
      (inverse-holds sums 0 (K + L) (joined K α β) (joined K c d) (omega (arith, length-terms (run_added (replicate 192 0) weights 0 J x) weights (192 * K) S y.at y.step L)) holds few
      (joined_words K α β ntt-alpha.small ntt-beta.small) (joined_words K c d (λ m. part-words J job (x.at + x.step * m)) (λ m. part-words S scratch (y.at + y.step * m))))
      ∙ element-words (dot RqOps (K + L) (λ m. element (joined K α β m)) (λ m. element (joined K c d m)))
      ∙ dot_split RqOps rq_ring K L (λ m. element (joined K α β m)) (λ m. element (joined K c d m))
      ∙ ap₂ RqOps.add
      (dot_ext RqOps K (λ m. element (joined K α β m)) (run W alpha 64) (λ m. element (joined K c d m)) (strided J x) (λ m l. ap element (first K α β m l)) (λ m l. ap element (first K c d m l)))
      (dot_ext RqOps L (λ m. element (joined K α β (K + m))) (run W beta 64) (λ m. element (joined K c d (K + m))) (strided S y) (λ m l. ap element (second K α β m))
      (λ m l. ap element (second K c d m)))

-- the words of both runs of terms and the inverse NTT
pub mixed_words_are : (J : List ℕ) (x : Strided) (S : List ℕ) (y : Strided) (weights s₁ s₂ r : List ℕ) → s₁ ≡ run_added (replicate 192 0) weights 0 J x → s₂ ≡ run_added s₁ weights (192 * x.count) S y
    → r ≡ inverse_from s₂ 0 → r ≡ words (ntt_mixed J x S y weights)
unfolding ntt_mixed
mixed_words_are J x S y weights s₁ s₂ r a b e =
    e ∙ ap (λ s. inverse_from s 0) (b ∙ ap (λ s. run_added s weights (192 * x.count) S y) a) ∙ sym (words-element (inverse_from sums 0) (inverse_from-element sums 0))
  where
    sums : List ℕ
    sums = run_added (run_added (replicate 192 0) weights 0 J x) weights (192 * x.count) S y

-- what lies before a store keeps its elements
pub ntt_mixed-before : (J : List ℕ) (x : Strided) (S S' : List ℕ) (y : Strided) (weights : List ℕ) (to : ℕ) (new : List ℕ) → S' ≡ splice S to new
    → ((m : ℕ) → m < y.count → y.at + y.step * m + 64 ≤ to) → ntt_mixed J x S' y weights ≡ ntt_mixed J x S y weights
unfolding ntt_mixed terms_added
ntt_mixed-before J x S S' y weights to new e h =
    ap (λ t. element (inverse_from t 0))
    (table_ext 192 (λ k. get_or s k 0 + Σ y.count (term S' k)) (λ k. get_or s k 0 + Σ y.count (term S k)) (λ k l.
    ap (λ z. get_or s k 0 + z) (Σ_ext y.count (term S' k) (term S k) (λ m b. ap (λ z. get_or weights (192 * x.count + 192 * m + k) 0 * get_or (ntt_form z) k 0)
    (ap (λ l. part l (y.at + y.step * m) 64) e ∙ part-splice-before 0 S to new (y.at + y.step * m) 64 (h m b))))))
  where
    s : List ℕ
    s = run_added (replicate 192 0) weights 0 J x

    term : List ℕ → ℕ → ℕ → ℕ
    term l k m = get_or weights (192 * x.count + 192 * m + k) 0 * get_or (ntt_form (part l (y.at + y.step * m) 64)) k 0

-- all elements
pub ntt_mixed-all : (J : List ℕ) (x : Strided) (S : List ℕ) (y : Strided) (width : ℕ) (weights W : List ℕ) (alpha beta : ℕ) → x.count + y.count ≤ most_products
    → NttForm weights 0 W alpha x.count → NttForm weights (192 * x.count) W beta y.count
    → ((j : ℕ) → get_or J j 0 ≤ 4294967295) → ((j : ℕ) → get_or S j 0 ≤ 4294967295) → ntt_mixed_words J x S y width weights ≡ mixed_words J x W alpha beta S y width
ntt_mixed-all J x S y width weights W alpha beta few a b job scratch =
    ap flat
    (table_ext width (λ c. ntt_mixed J (further x c) S (further y c) weights) (λ c. mixed J (further x c) W alpha beta S (further y c))
    (λ c l. ntt_mixed_is J (further x c) S (further y c) weights W alpha beta few a b job scratch))
