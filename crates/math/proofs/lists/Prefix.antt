-- Lists that begin alike: what lies within a common prefix is the same.
use mathlib.Core.Path.{◌≡◌, sym, ap, ◌∙◌}
use mathlib.Core.List.{List}
use Prim.Native.Nat.{ℕ, ◌+◌, ◌≤◌, ◌<◌}
use lib.ListN.{get_or, take, drop}
use lib.Seq.{get_or-take}
use Rattle.math.proofs.lists.Part.{part_of-take}

module _ {ℓ} {A : Type ℓ} (n : ℕ) (l l' : List A) (alike : take n l ≡ take n l') where
  -- an element
  pub get_or_alike : (i : ℕ) (d : A) → i < n → get_or l i d ≡ get_or l' i d
  get_or_alike i d h = sym (get_or-take n l i d h) ∙ ap (λ k. get_or k i d) alike ∙ get_or-take n l' i d h

  -- a part
  pub part_alike : (i k : ℕ) → i + k ≤ n → take k (drop i l) ≡ take k (drop i l')
  part_alike i k h = sym (part_of-take n l i k h) ∙ ap (λ m. take k (drop i m)) alike ∙ part_of-take n l' i k h
