-- What a write to a part of a slice leaves, as a splice.
use Rattle.std.proofs.Common.{◌≡◌, ℕ, ◌+◌, ◌-◌, ◌≤◌, List, ◌++◌, length, take, drop, sym, ap, ◌∙◌, arith}
use Rattle.std.proofs.lemmas.Slice.{put_mid-paste}
use borrow.Rule.Slice.PartMut.{put_mid}
use lib.Seq.{take_all}
use Rattle.math.specs.lists.Part.{splice}
use Rattle.math.proofs.lists.Splice.{splice_eq}

-- the n elements from a place on written anew
pub overwritten : {X : Type 0} (at n k : ℕ) (xs ys zs : List X) → k ≡ at + n → ys ≡ zs → length zs ≡ n → at + n ≤ length xs → put_mid at (k - at) xs ys ≡ splice xs at zs
overwritten at n k xs ys zs q e l h =
    put_mid-paste at (k - at) xs ys zs n e (omega arith) (sym l)
    ∙ ap (λ m. take at xs ++ m ++ drop (at + n) xs) (take_all n zs (omega arith))
    ∙ ap (λ m. take at xs ++ zs ++ drop (at + m) xs) (sym l)
    ∙ sym (splice_eq xs at zs (omega arith))
