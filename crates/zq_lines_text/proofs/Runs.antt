-- Runs of bytes written one after the other.
use mathlib.Core.Path.{◌≡◌, ◌∙◌, sym, ap}
use mathlib.Core.List.{List, [], ◌++◌}
use Prim.Native.Nat.{ℕ, ◌+◌, ◌≤◌}
use native.Mathlib.Omega.{arith}
use lib.ListN.{length, take, drop, length-append}
use lib.Seq.{take_at, drop_at}
use Rattle.math.specs.lists.Part.{splice}
use Rattle.math.proofs.lists.Splice.{length-splice, splice_eq, splice-nil, splice-append}
use Rattle.zq_lines_text.specs.Written.{Written}

-- nothing written
pub written_none : (l : List ℕ) (at : ℕ) → Written l at [] l at
written_none l at = record { contents = sym (splice-nil l at); count = omega arith }

-- what two calls write, one after the other
pub written-append : {l m n xs ys : List ℕ} {at p q : ℕ} → Written l at xs m p → Written m p ys n q → Written l at (xs ++ ys) n q
written-append {l} {m} {n} {xs} {ys} {at} {p} {q} a b = record {
  contents = b.contents ∙ ap (λ k. splice m k ys) a.count ∙ ap (λ k. splice k (at + length xs) ys) a.contents ∙ splice-append l at xs ys;
  count = b.count ∙ ap (λ k. k + length ys) a.count ∙ rw length-append (omega arith);
}

-- a written slice is as long as before
pub written-length : {l m xs : List ℕ} {at p : ℕ} → Written l at xs m p → length m ≡ length l
written-length {l} {m} {xs} {at} w = ap length w.contents ∙ length-splice l at xs

-- after at most k bytes, n bytes fit where k + n did
pub room : {l m xs : List ℕ} {at p : ℕ} (k n : ℕ) → Written l at xs m p → length xs ≤ k → at + (k + n) ≤ length l → p + n ≤ length m
room k n w h f = omega (arith, w.count, written-length w)

-- bytes that fit end within the slice
pub within : {l m xs : List ℕ} {at p : ℕ} → Written l at xs m p → at + length xs ≤ length l → p ≤ length m
within w h = omega (arith, w.count, written-length w)

-- bytes written at the start are the first ones, and the rest is as it was
pub written_start : {l m xs : List ℕ} {p : ℕ} → Written l 0 xs m p → length xs ≤ length l → (take p m ≡ xs) × (drop p m ≡ drop p l)
written_start {l} {m} {xs} {p} w h =
    let n : length xs ≡ p = omega (arith, w.count) in
    let e : m ≡ xs ++ drop p l = w.contents ∙ splice_eq l 0 xs (omega arith) ∙ ap (λ k. xs ++ drop k l) (sym w.count) in
    (ap (take p) e ∙ take_at xs (drop p l) p n, ap (drop p) e ∙ drop_at xs (drop p l) p n)

-- the same by the number of bytes
pub written-first : {l m xs : List ℕ} {p : ℕ} → Written l 0 xs m p → length xs ≤ length l → take (length xs) m ≡ xs
written-first {l} {m} {xs} {p} w h =
    let n : length xs ≡ p = omega (arith, w.count) in
    ap (λ k. take k m) n ∙ (written_start w h).0
