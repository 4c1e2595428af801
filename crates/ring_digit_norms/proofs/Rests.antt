-- The two parts of any 64 words: digit 0 and the whole rest, of which a norm sees the sizes alone.
use mathlib.Core.Path.{◌≡◌, sym, ◌∙◌, ap, ap₂}
use mathlib.Core.Bool.{false}
use mathlib.Core.List.{List}
use Prim.Native.Nat.{ℕ, ◌+◌, ◌*◌, ◌%◌, ◌≤◌}
use native.Mathlib.Omega.{arith}
use Rattle.math.proofs.lists.Sum.{Σ_ext}
use Rattle.spec_leaves.specs.Zq.{Q, Canonical, size}
use Rattle.spec_leaves.specs.Norm.{square, norm}
use Rattle.spec_leaves.specs.Digits.{size_after, rest}
use Rattle.spec_leaves.specs.Rq.{coeff, digit_row, rest_row}
use Rattle.ring_rq.specs.Words.{AtMostQ}
use Rattle.spec_leaves.specs.Ring.{words, element}
use Rattle.spec_leaves.proofs.Centre.{size-le, size-signed}
use Rattle.spec_leaves.proofs.Digits.{size_after_self}
use Rattle.spec_leaves.proofs.Rest.{size-rest}
use Rattle.spec_leaves.proofs.Bridge.{coeff-element}
use Rattle.ring_rq_digits.proofs.Sizes.{sizes_after}
use Rattle.spec_protocol.specs.Conditions.{two_parts_norm}
use Rattle.spec_protocol.proofs.Norms.{norm-table}
use Rattle.ring_rq_vector.proofs.Rows.{of_word, row_of-words}

-- the square of a word's rest is that of the size that goes on
rest-square : (b a : ℕ) → a ≤ Q → square (rest b (a % Q)) ≡ square (size_after b 1 (size a))
rest-square b a h = of_word (λ x y. square (rest b x) ≡ square (size_after b 1 (size y))) a h canonical (canonical 0 (omega arith))
  where
    canonical : (x : ℕ) → Canonical x → square (rest b x) ≡ square (size_after b 1 (size x))
    canonical x l =
        let s = size_after b 1 (size x) in
        let own : size s ≡ s = size-signed false s (omega (arith, size_after_self b 1 (size x), size-le x l)) in
        ap (λ n. n * n) (size-rest b x l ∙ sym own)

-- the norm of the rest is that of the sizes that go on after digit 0
rest-norm : (b : ℕ) (a : List ℕ) → AtMostQ a → norm (sizes_after b a 1) ≡ norm (rest_row b (words (element a)))
unfolding sizes_after rest_row
rest-norm b a f =
    norm-table 64 (λ j. size_after b 1 (size (coeff a j)))
    ∙ Σ_ext 64 (λ j. square (size_after b 1 (size (coeff a j)))) (λ j. square (rest b (coeff (words (element a)) j)))
    (λ j h. sym (ap (λ x. square (rest b x)) (coeff-element a j h) ∙ rest-square b (coeff a j) (f j h)))
    ∙ sym (norm-table 64 (λ j. rest b (coeff (words (element a)) j)))

-- the norms of digit 0 and of the sizes that go on are those of the two parts
pub parts-norm : (b : ℕ) (a row next : List ℕ) → AtMostQ a → row ≡ digit_row b a 0 → next ≡ sizes_after b a 1 → norm row + norm next ≡ two_parts_norm b (element a)
parts-norm b a row next f e g = ap₂ ◌+◌ (ap norm (e ∙ sym (row_of-words b a 0 f))) (ap norm g ∙ rest-norm b a f)
