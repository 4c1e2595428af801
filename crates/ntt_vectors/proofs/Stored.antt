-- The values of elements, stored one after the other.
use mathlib.Core.Path.{◌≡◌, refl, sym, ap, ap₂, subst, ◌∙◌}
use mathlib.Core.List.{List, [], ◌∷◌, ◌++◌, append-nil, append_assoc, flat_map}
use Prim.Native.Nat.{ℕ, zero, suc, ◌+◌, ◌*◌, ◌≤◌, ◌<◌}
use native.Mathlib.Nat.{not-suc-le-zero}
use native.Mathlib.Omega.{arith}
use lib.ListN.{length, get_or, length-append}
use Rattle.math.specs.lists.Table.{table}
use Rattle.math.specs.lists.Part.{part, splice}
use Rattle.math.proofs.lists.Table.{length-table, get_or-table, table-suc, table_ext}
use Rattle.math.proofs.lists.Part.{part_of-part, part-between, length_flat_map, part_flat_map}
use Rattle.math.proofs.lists.Additive.{flat_map_append}
use Rattle.math.proofs.lists.Splice.{length-splice, splice-nil, splice-append, part-splice-within, part-splice-after}
use Rattle.ntt_layers.specs.Words.{folded_of}
use Rattle.ntt_transform.specs.Transforms.{forward_of}
use Rattle.ntt_product.specs.NttForm.{ntt_of, Transform}
use Rattle.ntt_vectors.specs.NttForm.{ntt_form, ntt_words, NttForm}

-- 64 values modulo each prime
length_of : (i : ℕ) (a : List ℕ) → length (ntt_of i a) ≡ 64
unfolding ntt_of forward_of folded_of
length_of i a = length-table 64 _

pub length-values : (a : List ℕ) → length (ntt_form a) ≡ 192
unfolding ntt_form
length-values a =
    omega (arith, length-append (ntt_of 0 a) (ntt_of 1 a ++ ntt_of 2 a), length-append (ntt_of 1 a) (ntt_of 2 a), length_of 0 a, length_of 1 a, length_of 2 a)

-- the values modulo prime i
pub values-part : (a : List ℕ) (i : ℕ) → i < 3 → part (ntt_form a) (64 * i) 64 ≡ ntt_of i a
unfolding ntt_form
values-part a zero h = part-between [] (ntt_of 0 a) (ntt_of 1 a ++ ntt_of 2 a) 0 64 refl (length_of 0 a)
values-part a (suc zero) h = part-between (ntt_of 0 a) (ntt_of 1 a) (ntt_of 2 a) 64 64 (length_of 0 a) (length_of 1 a)
values-part a (suc (suc zero)) h =
    ap (λ l. part l 128 64) (ap (λ l. ntt_of 0 a ++ (ntt_of 1 a ++ l)) (sym (append-nil (ntt_of 2 a))) ∙ sym (append_assoc (ntt_of 0 a) (ntt_of 1 a) (ntt_of 2 a ++ [])))
    ∙ part-between (ntt_of 0 a ++ ntt_of 1 a) (ntt_of 2 a) [] 128 64 (omega (arith, length-append (ntt_of 0 a) (ntt_of 1 a), length_of 0 a, length_of 1 a)) (length_of 2 a)
values-part a (suc (suc (suc i))) h = let l : i < 0 = omega arith in absurd (not-suc-le-zero l)

-- one element's values, stored prime by prime
pub values-stored : (a t₁ t₂ t₃ S S₁ S₂ S₃ : List ℕ) (at : ℕ) → Transform a t₁ t₂ t₃ → S₁ ≡ splice S at t₁ → S₂ ≡ splice S₁ (at + 64) t₂ → S₃ ≡ splice S₂ (at + 128) t₃ → S₃ ≡ splice S at (ntt_form a)
unfolding ntt_form
values-stored a t₁ t₂ t₃ S S₁ S₂ S₃ at t e₁ e₂ e₃ =
    e₃
    ∙ ap₂ (λ l x. splice l (at + 128) x) (e₂ ∙ ap₂ (λ l x. splice l (at + 64) x) (e₁ ∙ ap (splice S at) t.one) t.two) t.three
    ∙ ap₂ (λ p q. splice (splice (splice S at v₀) p v₁) q v₂) first second
    ∙ splice-append (splice S at v₀) (at + length v₀) v₁ v₂
    ∙ splice-append S at v₀ (v₁ ++ v₂)
  where
    v₀ : List ℕ
    v₀ = ntt_of 0 a

    v₁ : List ℕ
    v₁ = ntt_of 1 a

    v₂ : List ℕ
    v₂ = ntt_of 2 a

    first : at + 64 ≡ at + length v₀
    first = omega (arith, length_of 0 a)

    second : at + 128 ≡ at + length v₀ + length v₁
    second = omega (arith, length_of 0 a, length_of 1 a)

module _ (xs : List ℕ) (from : ℕ) where
  pub length-ntt_words : (n : ℕ) → length (ntt_words xs from n) ≡ 192 * n
  length-ntt_words n = length_flat_map ntt_form 192 length-values (table n (λ m. part xs (from + 64 * m) 64)) ∙ ap (λ k. 192 * k) (length-table n (λ m. part xs (from + 64 * m) 64))

  -- element m
  abbrev element : ℕ → List ℕ
  element m = part xs (from + 64 * m) 64

  -- none yet
  pub ntt_words-none : (S : List ℕ) (at : ℕ) → S ≡ splice S at (ntt_words xs from 0)
  unfolding table flat_map
  ntt_words-none S at = sym (splice-nil S at)

  -- one more element's
  pub ntt_words-next : (S out next a : List ℕ) (at m i place : ℕ) → out ≡ splice S at (ntt_words xs from m) → i ≡ from + 64 * m → place ≡ at + 192 * m → a ≡ part xs i 64
      → next ≡ splice out place (ntt_form a)
      → next ≡ splice S at (ntt_words xs from (m + 1))
  unfolding flat_map
  ntt_words-next S out next a at m i place e p q w h =
      let there : place ≡ at + length (ntt_words xs from m) = omega (arith, length-ntt_words m) in
      h
      ∙ ap₂ (λ l x. splice l place (ntt_form x)) e (w ∙ ap (λ k. part xs k 64) p)
      ∙ ap (λ k. splice (splice S at (ntt_words xs from m)) k (ntt_form (element m))) there
      ∙ splice-append S at (ntt_words xs from m) (ntt_form (element m))
      ∙ ap (splice S at) (ap (λ l. ntt_words xs from m ++ l) (sym (append-nil (ntt_form (element m)))) ∙ sym (flat_map_append ntt_form (table m element) (element m ∷ []))
      ∙ ap (flat_map ntt_form) (sym (table-suc m element)))

  -- the values of element m modulo prime i
  ntt_words_at : (n i m : ℕ) → i < 3 → m < n → part (ntt_words xs from n) (192 * m + 64 * i) 64 ≡ ntt_of i (part xs (from + 64 * m) 64)
  ntt_words_at n i m h l =
      sym (part_of-part (ntt_words xs from n) (192 * m) 192 (64 * i) 64 (omega arith))
      ∙ ap (λ l. part l (64 * i) 64) (part_flat_map ntt_form 192 length-values (table n element) m [] (omega (arith, length-table n element)) ∙ ap ntt_form (get_or-table n element m [] l))
      ∙ values-part (element m) i h

  -- they are the NTT form by themselves
  pub ntt_words_alone : (n : ℕ) → ((m k : ℕ) → k < 64 → get_or (part xs (from + 64 * m) 64) k 0 ≤ 4294967295) → NttForm (ntt_words xs from n) 0 xs from n
  ntt_words_alone n small = record {
    ntt = λ i m h l. let there : 0 + 64 * i + 192 * m ≡ 192 * m + 64 * i = omega arith in ap (λ p. part (ntt_words xs from n) p 64) there ∙ ntt_words_at n i m h l;
    small = small;
    within = omega (arith, length-ntt_words n);
  }

  -- and by a slice that they are stored into
  pub ntt_words-stored : (S S' : List ℕ) (at n : ℕ) → S' ≡ splice S at (ntt_words xs from n) → at + 192 * n ≤ length S
      → ((m k : ℕ) → k < 64 → get_or (part xs (from + 64 * m) 64) k 0 ≤ 4294967295) → NttForm S' at xs from n
  ntt_words-stored S S' at n e room small =
      subst (λ l. NttForm l at xs from n) (sym e) record {
        ntt = λ i m h l.
            let there : at + 64 * i + 192 * m ≡ at + (192 * m + 64 * i) = omega arith in
            ap (λ p. part (splice S at (ntt_words xs from n)) p 64) there
            ∙ part-splice-within 0 S at (ntt_words xs from n) (192 * m + 64 * i) 64 (omega (arith, length-ntt_words n)) (omega (arith, length-ntt_words n))
            ∙ ntt_words_at n i m h l;
        small = small;
        within = omega (arith, length-splice S at (ntt_words xs from n));
      }

-- the values of what stands after a store
pub ntt_words-after : (S S' : List ℕ) (to : ℕ) (new : List ℕ) (from n : ℕ) → S' ≡ splice S to new → to + length new ≤ from → ntt_words S' from n ≡ ntt_words S from n
ntt_words-after S S' to new from n e h =
    ap (flat_map ntt_form)
    (table_ext n (λ m. part S' (from + 64 * m) 64) (λ m. part S (from + 64 * m) 64) (λ m l. ap (λ s. part s (from + 64 * m) 64) e ∙ part-splice-after 0 S to new (from + 64 * m) 64 (omega arith)))
