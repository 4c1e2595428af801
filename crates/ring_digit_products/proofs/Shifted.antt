-- The forms of digits are small, and stand where they were stored.
use mathlib.Core.Path.{◌≡◌, sym, ◌∙◌, ap}
use mathlib.Core.Bool.{cond}
use mathlib.Core.List.{List, [], ◌∷◌, ◌++◌, flat_map, append-nil}
use Prim.Native.Nat.{ℕ, ◌+◌, ◌-◌, ◌*◌, ◌%◌, ◌≤◌, ◌<◌, ◌^◌}
use native.Mathlib.Nat.{zero-add, add-sub_cancel_left}
use native.Mathlib.Decide.{dec_lt}
use native.Mathlib.Omega.{arith}
use borrow.Author.Tests.{lt-ltb, le-ltb}
use lib.ListN.{length, get_or}
use Rattle.math.specs.lists.Table.{table}
use Rattle.math.specs.lists.Part.{part, splice}
use Rattle.math.proofs.lists.Table.{length-table, get_or-table, table-suc, table_ext, table_split}
use Rattle.math.proofs.lists.Part.{length_flat_map, part_flat_map}
use Rattle.math.proofs.lists.Additive.{flat_map_append}
use Rattle.math.proofs.lists.Splice.{splice-append, get_d_part, part-splice-within, length-splice}
use Rattle.spec_leaves.specs.Zq.{Q, half_Q, size}
use Rattle.ring_zq.specs.Words.{lack}
use Rattle.spec_leaves.specs.Rq.{coeff}
use Rattle.ring_zq.proofs.Words.{lack-canonical}
use Rattle.ring_rq_product.specs.Product.{extended_coeff}
use Rattle.ring_digit_products.specs.Forms.{shifted_coeff, shifted, Formed}
use Rattle.ring_digit_products.specs.Small.{SmallFrom}

-- a size is the number or what it lacks of Q
size_cases : (c h : ℕ) → size c ≤ h → c < Q → Dec (half_Q < c) → (v : ℕ) → (c ≤ h → v ≤ 2 * h) → (Q - c ≤ h → v ≤ 2 * h) → v ≤ 2 * h
size_cases c h s l (yes above) v low high = high (rw (lt-ltb half_Q c above) at s)
size_cases c h s l (no below) v low high = let le : c ≤ half_Q = omega arith in low (rw (le-ltb half_Q c le) at s)

-- a negative coefficient with half the base added, and a coefficient
negative_small : (c h : ℕ) → size c ≤ h → c < Q → h ≤ 2147483648 → (Q - c + h) % Q ≤ 2 * h
negative_small c h s l m = size_cases c h s l (dec_lt half_Q c) ((Q - c + h) % Q) (λ g. omega arith) (λ g. omega arith)

plain_small : (c h : ℕ) → size c ≤ h → c < Q → h ≤ 2147483648 → (c + h) % Q ≤ 2 * h
plain_small c h s l m = size_cases c h s l (dec_lt half_Q c) ((c + h) % Q) (λ g. omega arith) (λ g. omega arith)

-- a form has 128 entries
pub length-shifted : (half : ℕ) (a : List ℕ) → length (shifted half a) ≡ 128
unfolding shifted
length-shifted half a = length-table 128 (shifted_coeff half a)

-- the forms of elements, one after the other
module _ (half : ℕ) (e : ℕ → List ℕ) where
  abbrev joined : ℕ → List ℕ
  joined m = flat_map (shifted half) (table m e)

  pub length_joined : (m : ℕ) → length (joined m) ≡ 128 * m
  length_joined m = length_flat_map (shifted half) 128 (length-shifted half) (table m e) ∙ ap (λ n. 128 * n) (length-table m e)

  -- one more form stored
  pub forms-next : (l forms next : List ℕ) (m : ℕ) → forms ≡ splice l 0 (joined m) → next ≡ splice forms (128 * m) (shifted half (e m)) → next ≡ splice l 0 (joined (m + 1))
  unfolding flat_map
  forms-next l forms next m h s =
      let n = length_joined m in
      let last : joined (m + 1) ≡ joined m ++ shifted half (e m) =
      ap (flat_map (shifted half)) (table-suc m e)
      ∙ flat_map_append (shifted half) (table m e) (e m ∷ [])
      ∙ ap (λ k. joined m ++ k) (append-nil (shifted half (e m))) in
      let at : 128 * m ≡ 0 + length (joined m) = omega arith in
      s
      ∙ ap (λ w. splice w (128 * m) (shifted half (e m))) h
      ∙ ap (λ p. splice (splice l 0 (joined m)) p (shifted half (e m))) at
      ∙ splice-append l 0 (joined m) (shifted half (e m))
      ∙ ap (splice l 0) (sym last)

  -- stored, they stand one after the other
  pub formed : (l forms v : List ℕ) (n : ℕ) → forms ≡ splice l 0 (joined n) → 128 * n ≤ length l → ((m : ℕ) → m < n → e m ≡ part v (64 * m) 64) → Formed forms half v n
  formed l forms v n h room same =
      let long = length_joined n in record {
        room = omega (arith, ap length h ∙ length-splice l 0 (joined n));
        each = λ m less.
            ap (λ w. part w (128 * m) 128) h
            ∙ ap (λ p. part (splice l 0 (joined n)) p 128) (sym (zero-add (128 * m)))
            ∙ part-splice-within 0 l 0 (joined n) (128 * m) 128 (omega arith) (omega arith)
            ∙ part_flat_map (shifted half) 128 (length-shifted half) (table n e) m [] (omega (arith, length-table n e))
            ∙ ap (shifted half) (get_or-table n e m [] less ∙ same m less);
      }

-- the form of small digits is small
pub form_small : (a y : List ℕ) (at half : ℕ) → part y at 128 ≡ shifted half a → half ≤ 2 ^ 15 → ((i : ℕ) → i < 64 → coeff a i < Q) → ((i : ℕ) → i < 64 → size (coeff a i) ≤ half) → SmallFrom y at 128
unfolding shifted
form_small a y at half e h canonical within j l =
    let read : get_or y (at + j) 0 ≡ shifted_coeff half a j = sym (get_d_part 0 y at 128 j l) ∙ ap (λ f. get_or f j 0) e ∙ get_or-table 128 (shifted_coeff half a) j 0 l in
    omega (arith, read, by (dec_lt j 64))
  where
    by : Dec (j < 64) → shifted_coeff half a j ≤ 2 * half
    by (yes low) =
        let first : extended_coeff a j ≡ Q - coeff a j = ap (λ b. cond b (lack (coeff a j)) (coeff a (j - 64))) (lt-ltb j 64 low) ∙ lack-canonical (coeff a j) (canonical j low) in
        rw first (negative_small (coeff a j) half (within j low) (canonical j low) (omega arith))
    by (no high) =
        let second : extended_coeff a j ≡ coeff a (j - 64) = ap (λ b. cond b (lack (coeff a j)) (coeff a (j - 64))) (le-ltb j 64 (omega arith)) in
        rw second (plain_small (coeff a (j - 64)) half (within (j - 64) (omega arith)) (canonical (j - 64) (omega arith)) (omega arith))

-- the coefficients of −a shifted, and behind them those of a, are the form of a
pub halves_form : (half : ℕ) (a b forms : List ℕ) (to : ℕ) → b ≡ table 64 (λ m. lack (get_or a m 0))
    → splice (splice forms to (table 64 (λ m. (get_or b m 0 + half) % Q))) (to + 64) (table 64 (λ m. (get_or a m 0 + half) % Q)) ≡ splice forms to (shifted half a)
unfolding shifted
halves_form half a b forms to e =
    let f : ℕ → ℕ = shifted_coeff half a in
    let lower : List ℕ = table 64 (λ m. (get_or b m 0 + half) % Q) in
    let upper : List ℕ = table 64 (λ m. (get_or a m 0 + half) % Q) in
    let first : lower ≡ table 64 f = table_ext 64 _ f (λ m h. ap (λ v. (v + half) % Q) (ap (λ w. get_or w m 0) e ∙ get_or-table 64 _ m 0 h ∙ simp (lt-ltb m 64 h))) in
    let second : upper ≡ table 64 (λ m. f (64 + m)) = table_ext 64 _ _ (λ m h. ap (λ v. (v + half) % Q) (simp (le-ltb (64 + m) 64 (omega arith), add-sub_cancel_left 64 m))) in
    ap (λ n. splice (splice forms to lower) (to + n) upper) (sym (length-table 64 _))
    ∙ splice-append forms to lower upper
    ∙ ap (splice forms to) (ap (λ w. w ++ upper) first ∙ ap (λ w. table 64 f ++ w) second ∙ sym (table_split 64 64 f))
