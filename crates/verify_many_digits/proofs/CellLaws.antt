-- Digits in NTT form, stored cell after cell and list after list.
use mathlib.Core.Path.{◌≡◌, refl, sym, ap, ap₂, subst, ◌∙◌}
use mathlib.Core.List.{List, ◌++◌, append_assoc, flat_map}
use Prim.Native.Nat.{ℕ, ◌+◌, ◌*◌, ◌≤◌, ◌<◌}
use native.Mathlib.Decide.{dec_lt}
use native.Mathlib.Omega.{arith}
use lib.ListN.{length, get_or, length-append, get_or-eq_default}
use Rattle.math.specs.lists.Table.{table, cat}
use Rattle.math.specs.lists.Part.{part, splice}
use Rattle.math.proofs.lists.Cat.{cat-suc}
use Rattle.math.proofs.lists.Splice.{splice-nil, splice-append, get_d_part}
use Rattle.spec_leaves.specs.Rq.{Element, AllCanonical}
use Rattle.spec_protocol.specs.Parameters.{Parameters, T, triangular}
use Rattle.spec_protocol.specs.Views.{message}
use Rattle.spec_protocol.specs.Formulas.{flat, digits_of}
use Rattle.spec_protocol.proofs.Flat.{length-flat, flat-canonical}
use Rattle.spec_protocol.proofs.Stored.{flat_append}
use Rattle.ntt_vectors.specs.NttForm.{ntt_words}
use Rattle.ntt_vectors.proofs.Stored.{length-ntt_words}
use Rattle.commitments_outer.specs.Cells.{digits_at}
use Rattle.commitments_outer.proofs.Formula.{digits, vectors_cells, triangle_cells}
use Rattle.verifier_common.proofs.Sent.{transcript_at}
use Rattle.verify_many_windows.specs.Held.{digits_t, digits_g, digits_h}
use Rattle.verify_many_windows.specs.Digits.{digit_count, window_digits}
use Rattle.verify_many_windows.proofs.WindowDigits.{length-t, length-g}
use Rattle.verify_many_digits.proofs.Values.{ntt_words-append}

-- no cell's yet
pub cells_none : (l : List ℕ) (at parts : ℕ) (f : ℕ → List Element) → l ≡ splice l at (ntt_words (flat (cat 0 f)) 0 (0 * parts))
unfolding flat cat flat_map table
cells_none l at parts f = let none : 0 ≡ 0 * parts = omega arith in sym (splice-nil l at) ∙ ap (λ n. splice l at (ntt_words (flat (cat 0 f)) 0 n)) none

-- one more cell's
pub cells_next : (l before after : List ℕ) (at place c parts : ℕ) (f : ℕ → List Element) → before ≡ splice l at (ntt_words (flat (cat c f)) 0 (c * parts)) → length (cat c f) ≡ c * parts
    → place ≡ at + 192 * (c * parts) → after ≡ splice before place (ntt_words (flat (f c)) 0 parts)
    → after ≡ splice l at (ntt_words (flat (cat (c + 1) f)) 0 ((c + 1) * parts))
cells_next l before after at place c parts f b k p e =
    let A = flat (cat c f) in
    let there : place ≡ at + length (ntt_words A 0 (c * parts)) = omega (arith, length-ntt_words A 0 (c * parts)) in
    let size : length A ≡ 64 * (c * parts) = length-flat (cat c f) ∙ ap (λ j. 64 * j) k in
    let more : c * parts + parts ≡ (c + 1) * parts = omega arith in
    e
    ∙ ap₂ (λ x q. splice x q (ntt_words (flat (f c)) 0 parts)) b there
    ∙ splice-append l at (ntt_words A 0 (c * parts)) (ntt_words (flat (f c)) 0 parts)
    ∙ ap (splice l at) (sym (ntt_words-append A (flat (f c)) (c * parts) parts size))
    ∙ ap₂ (λ x n. splice l at (ntt_words x 0 n)) (sym (flat_append (cat c f) (f c)) ∙ ap flat (sym (cat-suc c f))) more

-- the words of a transcript's digits fit
pub digits-small : (P : Parameters) (X : List ℕ) (m k : ℕ) → k < 64 → get_or (part (window_digits P X) (0 + 64 * m) 64) k 0 ≤ 4294967295
digits-small P X m k h = subst (λ x. x ≤ 4294967295) (sym (get_d_part 0 (window_digits P X) (0 + 64 * m) 64 k h)) (go (dec_lt (0 + 64 * m + k) (length (window_digits P X))))
  where
    all : AllCanonical (window_digits P X)
    all = subst AllCanonical (flat_append (digits_t P X) (digits_g P X ++ digits_h P X) ∙ ap (λ x. flat (digits_t P X) ++ x) (flat_append (digits_g P X) (digits_h P X)))
        (flat-canonical (digits_t P X ++ (digits_g P X ++ digits_h P X)))

    go : Dec (0 + 64 * m + k < length (window_digits P X)) → get_or (window_digits P X) (0 + 64 * m + k) 0 ≤ 4294967295
    go (yes l) = omega (arith, all (0 + 64 * m + k) l)
    go (no more) = subst (λ x. x ≤ 4294967295) (sym (get_or-eq_default (window_digits P X) 0 (omega arith))) (omega arith)

-- t's, g's and h's digits one after the other
module _ (P : Parameters) (X : List ℕ) where
  abbrev A : List ℕ
  A = flat (digits_t P X)

  abbrev B : List ℕ
  B = flat (digits_g P X)

  abbrev C : List ℕ
  C = flat (digits_h P X)

  abbrev a : ℕ
  a = P.r * P.κ * P.t₁

  abbrev b : ℕ
  b = T P * P.t₂

  abbrev c : ℕ
  c = T P * P.t₁

  joined : (ntt_words A 0 a ++ ntt_words B 0 b) ++ ntt_words C 0 c ≡ ntt_words (window_digits P X) 0 (digit_count P)
  joined =
      append_assoc (ntt_words A 0 a) (ntt_words B 0 b) (ntt_words C 0 c)
      ∙ ap (λ x. ntt_words A 0 a ++ x) (sym (ntt_words-append B C b c (length-g P X)))
      ∙ sym (ntt_words-append A (B ++ C) a (b + c) (length-t P X))

  pub window-stored : (S S₁ S₂ S₃ : List ℕ) (start g-to h-to : ℕ) (t-at g-at h-at cells : ℕ)
      → t-at ≡ transcript_at P 5 → g-at ≡ transcript_at P 6 → h-at ≡ transcript_at P 7 → cells ≡ triangular P.r → g-to ≡ start + 192 * a → h-to ≡ g-to + 192 * (cells * P.t₂)
      → S₁ ≡ splice S start (ntt_words (flat (digits_at X (digits t-at (P.r * P.κ) P.t₁) P.b)) 0 (P.r * P.κ * P.t₁))
      → S₂ ≡ splice S₁ g-to (ntt_words (flat (digits_at X (digits g-at cells P.t₂) P.b)) 0 (cells * P.t₂))
      → S₃ ≡ splice S₂ h-to (ntt_words (flat (digits_at X (digits h-at cells P.t₁) P.b)) 0 (cells * P.t₁))
      → S₃ ≡ splice S start (ntt_words (window_digits P X) 0 (digit_count P))
  window-stored S S₁ S₂ S₃ start g-to h-to t-at g-at h-at cells et eg eh ec eb eh' e₁ e₂ e₃ =
      let WA = ntt_words A 0 a in
      let Wb = ntt_words B 0 b in
      let WC = ntt_words C 0 c in
      let g-place : g-to ≡ start + length WA = omega (arith, length-ntt_words A 0 a) in
      let h-place : h-to ≡ start + length (WA ++ Wb) = omega (arith, length-append WA Wb, length-ntt_words A 0 a, length-ntt_words B 0 b, ap (λ n. n * P.t₂) ec) in
      let x₁ : S₁ ≡ splice S start WA =
      e₁
      ∙ ap (λ t. splice S start (ntt_words (flat (digits_at X (digits t (P.r * P.κ) P.t₁) P.b)) 0 a)) et
      ∙ ap (λ v. splice S start (ntt_words (flat (digits_of P.b P.t₁ v)) 0 a)) (vectors_cells X (transcript_at P 5) P.r P.κ (message P X).t (λ i k l m. refl)) in
      let x₂ : S₂ ≡ splice S₁ (start + length WA) Wb =
      e₂
      ∙ ap₂ (λ s t. splice S₁ s (ntt_words (flat (digits_at X (digits t cells P.t₂) P.b)) 0 (cells * P.t₂))) g-place eg
      ∙ ap (λ n. splice S₁ (start + length WA) (ntt_words (flat (digits_at X (digits (transcript_at P 6) n P.t₂) P.b)) 0 (n * P.t₂))) ec
      ∙ ap (λ v. splice S₁ (start + length WA) (ntt_words (flat (digits_of P.b P.t₂ v)) 0 b)) (triangle_cells X (transcript_at P 6) P.r (message P X).g (λ i j l m. refl)) in
      let x₃ : S₃ ≡ splice S₂ (start + length (WA ++ Wb)) WC =
      e₃
      ∙ ap₂ (λ s t. splice S₂ s (ntt_words (flat (digits_at X (digits t cells P.t₁) P.b)) 0 (cells * P.t₁))) h-place eh
      ∙ ap (λ n. splice S₂ (start + length (WA ++ Wb)) (ntt_words (flat (digits_at X (digits (transcript_at P 7) n P.t₁) P.b)) 0 (n * P.t₁))) ec
      ∙ ap (λ v. splice S₂ (start + length (WA ++ Wb)) (ntt_words (flat (digits_of P.b P.t₁ v)) 0 c)) (triangle_cells X (transcript_at P 7) P.r (message P X).h (λ i j l m. refl)) in
      let ab : S₂ ≡ splice S start (WA ++ Wb) = x₂ ∙ ap (λ s. splice s (start + length WA) Wb) x₁ ∙ splice-append S start WA Wb in
      x₃ ∙ ap (λ s. splice s (start + length (WA ++ Wb)) WC) ab ∙ splice-append S start (WA ++ Wb) WC ∙ ap (splice S start) joined
