-- Rows and lists of elements stored one after the other.
use mathlib.Core.Path.{◌≡◌, refl, sym, ap, ap₂, ◌∙◌}
use mathlib.Core.List.{List, ◌++◌, append-nil, append_assoc}
use Prim.Native.Nat.{ℕ, zero, suc, ◌+◌, ◌-◌, ◌*◌, ◌≤◌, ◌<◌}
use native.Mathlib.Nat.{add-zero, add-suc, mul-le-mul_right}
use native.Mathlib.Omega.{arith}
use lib.ListN.{length}
use Rattle.math.specs.lists.Table.{cat}
use Rattle.math.specs.lists.Part.{splice}
use Rattle.math.proofs.lists.Cat.{cat_ext}
use Rattle.math.proofs.lists.Splice.{splice-append, splice_again, length-splice}
use Rattle.spec_leaves.specs.Rq.{Element}
use Rattle.spec_protocol.specs.Formulas.{flat, rows}
use Rattle.core_jl_transpose.specs.Omega.{omega_element}
use Rattle.spec_protocol.proofs.Flat.{length-flat}
use Rattle.spec_protocol.proofs.Stored.{flat_append}
use Rattle.spec_protocol.proofs.Region.{length-lists}
use Rattle.core_aggregate.specs.Omega.{omega_rows}

-- row k of rows of so many elements ends where the rows do, or before
pub row_within : (at k aggregations width end : ℕ) → k < aggregations → at + 64 * (aggregations * width) ≤ end → at + 64 * (k * width) + 64 * width ≤ end
row_within at k aggregations width end l h = omega (arith, mul-le-mul_right width l)

-- where the next row starts
pub row_next : (at k width place : ℕ) → place ≡ at + 64 * (k * width) → place + 64 * width ≡ at + 64 * ((k + 1) * width)
row_next at k width place e = omega arith

-- so many lists and so many more
cat_split : (m n : ℕ) (f : ℕ → List Element) → cat (m + n) f ≡ cat m f ++ cat n (λ q. f (m + q))
unfolding cat
cat_split m zero f = ap (λ k. cat k f) (add-zero m) ∙ sym (append-nil (cat m f))
cat_split m (suc n) f = ap (λ k. cat k f) (add-suc m n) ∙ ap (λ x. x ++ f (m + n)) (cat_split m n f) ∙ append_assoc (cat m f) (cat n (λ q. f (m + q))) (f (m + n))

-- so many more lists of w elements stored after the first m
pub lists_more : (l before : List ℕ) (at m n w : ℕ) (f g : ℕ → List Element) → before ≡ splice l at (flat (cat m f)) → ((k : ℕ) → length (f k) ≡ w) → ((q : ℕ) → g q ≡ f (m + q))
    → splice before (at + 64 * (m * w)) (flat (cat n g)) ≡ splice l at (flat (cat (m + n) f))
lists_more l before at m n w f g b h e =
    ap₂ (λ x y. splice x (at + 64 * (m * w)) (flat y)) b (cat_ext n g (λ q. f (m + q)) (λ q i. e q))
    ∙ ap (λ j. splice (splice l at (flat (cat m f))) (at + j) (flat (cat n (λ q. f (m + q))))) (sym (length-flat (cat m f) ∙ ap (λ j. 64 * j) (length-lists m w f h)))
    ∙ splice-append l at (flat (cat m f)) (flat (cat n (λ q. f (m + q))))
    ∙ ap (splice l at) (sym (flat_append (cat m f) (cat n (λ q. f (m + q)))) ∙ ap flat (sym (cat_split m n f)))

-- the same where the first k of them stand there already
pub lists_over : (l before : List ℕ) (at m k n w : ℕ) (f g : ℕ → List Element) → before ≡ splice l at (flat (cat (m + k) f))
    → ((j : ℕ) → length (f j) ≡ w) → ((q : ℕ) → g q ≡ f (m + q)) → k ≤ n → at + 64 * ((m + n) * w) ≤ length l → splice before (at + 64 * (m * w)) (flat (cat n g)) ≡ splice l at (flat (cat (m + n) f))
lists_over l before at m k n w f g b h e u room =
    ap₂ (λ x y. splice x place y) (b ∙ sym (lists_more l first at m k w f g refl h e)) both
    ∙ sym (splice-append (splice first place there) place there more)
    ∙ ap (λ x. splice x (place + length there) more) (splice_again 0 first place there there refl within)
    ∙ splice-append first place there more
    ∙ ap (splice first place) (sym both)
    ∙ lists_more l first at m n w f g refl h e
  where
    place : ℕ
    place = at + 64 * (m * w)

    first : List ℕ
    first = splice l at (flat (cat m f))

    there : List ℕ
    there = flat (cat k g)

    more : List ℕ
    more = flat (cat (n - k) (λ q. g (k + q)))

    both : flat (cat n g) ≡ there ++ more
    both =
        let all : n ≡ k + (n - k) = omega arith in
        ap (λ j. flat (cat j g)) all ∙ ap flat (cat_split k (n - k) g) ∙ flat_append (cat k g) (cat (n - k) (λ q. g (k + q)))

    within : place + length there ≤ length first
    within =
        let size : length there ≡ 64 * (k * w) = length-flat (cat k g) ∙ ap (λ j. 64 * j) (length-lists k w g (λ q. ap length (e q) ∙ h (m + q))) in
        let fewer : (m + k) * w ≤ (m + n) * w = mul-le-mul_right w (omega arith) in
        omega (arith, length-splice l at (flat (cat m f)))

-- the omega part for k = m + q is that for q from the omega of m on
pub omega_rows-from : (R : List ℕ) (pi om from r n m q : ℕ) → from ≡ om + m * 256 → omega_rows R pi from r n q ≡ omega_rows R pi om r n (m + q)
omega_rows-from R pi om from r n m q e =
    let place : from + q * 256 ≡ om + (m + q) * 256 = omega arith in
    ap (λ w. rows r n (λ i. omega_element R (pi + i * 256 * (64 * n)) w n)) place
