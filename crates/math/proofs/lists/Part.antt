-- Parts of a list: the elements from one place on.
use mathlib.Core.Path.{◌≡◌, refl, ap, ◌∙◌}
use mathlib.Core.List.{List, [], ◌∷◌, ◌++◌, flat_map}
use Prim.Native.Nat.{ℕ, zero, suc, ◌+◌, ◌*◌, ◌≤◌, ◌<◌}
use native.Mathlib.Nat.{not-suc-le-zero}
use native.Mathlib.Omega.{arith}
use lib.ListN.{length, get_or, take, drop, length-append}
use lib.Seq.{take_at, drop_at, drop-append-add, drop-drop, take-take}

module _ {ℓ} {A : Type ℓ} where
  -- a part of a list's first elements
  pub part_of-take : (n : ℕ) (l : List A) (i k : ℕ) → i + k ≤ n → take k (drop i (take n l)) ≡ take k (drop i l)
  part_of-take n l zero k h = take-take k n l (omega arith)
  part_of-take zero l (suc i) k h = absurd (omega arith)
  part_of-take (suc n) [] (suc i) k h = refl
  part_of-take (suc n) (x ∷ l) (suc i) k h = part_of-take n l i k (omega arith)

  -- a part of a part
  pub part_of-part : (l : List A) (from n i k : ℕ) → i + k ≤ n → take k (drop i (take n (drop from l))) ≡ take k (drop (from + i) l)
  part_of-part l from n i k h = part_of-take n (drop from l) i k h ∙ ap (take k) (drop-drop i from l)

  -- what stands between two lists
  pub part-between : (p l q : List A) (from n : ℕ) → length p ≡ from → length l ≡ n → take n (drop from (p ++ (l ++ q))) ≡ l
  part-between p l q from n e f = ap (take n) (drop_at p (l ++ q) from e) ∙ take_at l q n f

-- lists of k elements each, joined
module _ {ℓ κ} {A : Type ℓ} {B : Type κ} (f : A → List B) (k : ℕ) (size : (x : A) → length (f x) ≡ k) where
  -- they have k elements for each list
  pub length_flat_map : (l : List A) → length (flat_map f l) ≡ k * length l
  unfolding flat_map
  length_flat_map [] = omega arith
  length_flat_map (x ∷ l) = length-append (f x) (flat_map f l) ∙ omega (arith, size x, length_flat_map l)

  -- list m is the part from place k · m on
  pub part_flat_map : (l : List A) (m : ℕ) (d : A) → m < length l → take k (drop (k * m) (flat_map f l)) ≡ f (get_or l m d)
  unfolding flat_map
  part_flat_map [] m d h = absurd (not-suc-le-zero h)
  part_flat_map (x ∷ l) zero d h = part-between [] (f x) (flat_map f l) (k * 0) k (omega arith) (size x)
  part_flat_map (x ∷ l) (suc m) d h = ap (λ i. take k (drop i (f x ++ flat_map f l))) next ∙ ap (take k) (drop-append-add (f x) (flat_map f l) (k * m)) ∙ part_flat_map l m d (omega arith)
    where
      next : k * suc m ≡ length (f x) + k * m
      next = omega (arith, size x)
