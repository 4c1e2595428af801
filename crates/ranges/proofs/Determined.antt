-- The contract of the call on ranges leaves nothing of its answer open.
use mathlib.Core.Path.{◌≡◌, refl, sym, ap, ◌∙◌}
use mathlib.Core.Bool.{cond}
use mathlib.Core.List.{List}
use Prim.Native.Nat.{ℕ, ◌≤◌, ◌<◌}
use native.Mathlib.Decide.{dec_lt}
use native.Mathlib.Omega.{arith}
use borrow.Author.Tests.{le-ltb}
use lib.Dec.{ltb}
use lib.IntN.{ℤ}
use Rattle.math.specs.lists.Table.{padded}
use Rattle.math.proofs.lists.Table.{table_ext}
use Rattle.spec_leaves.specs.Answer.{Answer, fine, accepted, refused, failed}
use Rattle.spec_protocol.specs.Parameters.{Parameters}
use Rattle.spec_protocol.specs.Ranges.{vector, unused, AllHold}
use Rattle.spec_protocol.proofs.Ranges.{holds_unique}
use Rattle.ranges_vectors.specs.Vectors.{range_norms}
use Rattle.ranges.specs.declared.answers.RangesAnswer.{RangesAnswer}
use Rattle.ranges.specs.Answers.{ranges_answer, Ranges}

-- entries that agree below k
padded_ext {ℓ} : {A : Type ℓ} (n k : ℕ) (d : A) (f g : ℕ → A) → ((i : ℕ) → i < k → f i ≡ g i) → padded n k d f ≡ padded n k d g
unfolding padded
padded_ext n k d f g h = table_ext n (λ i. cond (ltb i k) (f i) d) (λ i. cond (ltb i k) (g i) d) (λ i l. by i (dec_lt i k))
  where
    by : (i : ℕ) → Dec (i < k) → cond (ltb i k) (f i) d ≡ cond (ltb i k) (g i) d
    by i (yes l) = ap (λ x. cond (ltb i k) x d) (h i l)
    by i (no l) = let m : k ≤ i = omega arith in ap (λ b. cond b (f i) d) (le-ltb i k m) ∙ sym (ap (λ b. cond b (g i) d) (le-ltb i k m))

-- two answers to the same job, lows and highs are equal
pub determined : (P : Parameters) (lows highs : List ℤ) (a : Answer) (r s : RangesAnswer) → Ranges P lows highs a r → Ranges P lows highs a s → r ≡ s
determined P lows highs a r s x y = x.answer ∙ same a x.hold y.hold ∙ sym y.answer
  where
    same : (a : Answer) → (a ≡ fine → AllHold P lows highs x.vectors) → (a ≡ fine → AllHold P lows highs y.vectors)
        → ranges_answer a P.r x.vectors ≡ ranges_answer a P.r y.vectors
    same fine f g = λ i. record {
      number = 0;
      place = 0;
      vectors = padded_ext 16 P.r (range_norms unused) (λ j. range_norms (x.vectors j)) (λ j. range_norms (y.vectors j))
          (λ j l. ap range_norms (holds_unique (vector P lows j) (vector P highs j) P.bound_A (x.vectors j) (y.vectors j) (f refl j l) (g refl j l))) i;
    }
    same (accepted cells) f g = refl
    same (refused n p) f g = refl
    same (failed n vs) f g = refl
