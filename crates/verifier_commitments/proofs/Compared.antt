-- Runs of elements that are worked out and compared with those of a transcript, word by word.
use mathlib.Core.Path.{◌≡◌, refl, sym, ap, ap₂, ◌∙◌}
use mathlib.Core.Bool.{Bool, cond}
use mathlib.Core.List.{List, ◌++◌, List-discrete}
use Prim.Native.Nat.{ℕ, zero, suc, ◌+◌, ◌*◌, ◌≤◌}
use native.Mathlib.Decide.{ℕ_discrete}
use native.Mathlib.Numerals.{add-one}
use native.Mathlib.Omega.{arith}
use lib.ListN.{length, take, drop}
use lib.Seq.{take_at, drop_at}
use Rattle.math.specs.lists.Table.{table}
use Rattle.math.specs.lists.Part.{part, splice}
use Rattle.math.proofs.lists.Table.{table-suc}
use Rattle.math.proofs.lists.Splice.{part-splice-same}
use Rattle.spec_leaves.specs.Answer.{fine, failed, ◌then◌}
use Rattle.spec_leaves.specs.Rq.{Element}
use Rattle.spec_leaves.specs.Ring.{words}
use Rattle.spec_protocol.specs.Checks.{require, first}
use Rattle.spec_protocol.specs.Formulas.{flat}
use Rattle.spec_protocol.specs.Verifier.{same}
use Rattle.spec_protocol.proofs.Fine.{require-holds, require_fails}
use Rattle.spec_protocol.proofs.Stored.{flat_append, flat-one}
use Rattle.spec_protocol.proofs.Flat.{length-flat-table}
use Rattle.ring_inner_product.specs.Run.{run}
use Rattle.commitments_outer.specs.Cells.{CanonicalFrom}
use Rattle.commitments_outer.proofs.Added.{flat-run}
use Rattle.verifier_common.specs.Work.{equal}
use Rattle.verifier_common.proofs.Runs.{require-equal}

-- two tests that fail alike are one test of both facts
require-both {ℓ κ μ} : {A : Type ℓ} {B : Type κ} {C : Type μ} (d : Dec A) (e : Dec B) (k : Dec C) (number : ℕ) (values : List ℕ) → (A → B → C) → (C → A) → (C → B)
    → require d (failed number values) then require e (failed number values) ≡ require k (failed number values)
require-both (yes a) (yes b) k number values both left right = sym (require-holds k (failed number values) (both a b))
require-both (yes a) (no n) k number values both left right = sym (require_fails k (failed number values) (λ c. n (right c)))
require-both (no n) e k number values both left right = sym (require_fails k (failed number values) (λ c. n (left c)))

-- the words of one more element
flat_more : (n : ℕ) (f : ℕ → Element) → flat (table (suc n) f) ≡ flat (table n f) ++ words (f n)
flat_more n f =
    ap (λ k. flat (table k f)) (sym (add-one n)) ∙ ap flat (table-suc n f) ∙ flat_append (table n f) _ ∙ ap (λ x. flat (table n f) ++ x) (flat-one (f n))

-- elements compared one after the other are their words compared
first-same : (n : ℕ) (f g : ℕ → Element) (number : ℕ) (values : List ℕ)
    → first n (λ k. require (same (f k) (g k)) (failed number values)) ≡ require (List-discrete ℕ_discrete (flat (table n f)) (flat (table n g))) (failed number values)
unfolding first table
first-same zero f g number values = sym (require-holds (List-discrete ℕ_discrete (flat (table 0 f)) (flat (table 0 g))) (failed number values) refl)
first-same (suc n) f g number values =
    ap (λ x. x then require (same (f n) (g n)) (failed number values)) (first-same n f g number values)
    ∙ require-both (List-discrete ℕ_discrete (flat (table n f)) (flat (table n g))) (same (f n) (g n)) (List-discrete ℕ_discrete (flat (table (suc n) f)) (flat (table (suc n) g))) number values
    (λ a b. flat_more n f ∙ ap₂ ◌++◌ a b ∙ sym (flat_more n g)) before last
  where
    joined : flat (table (suc n) f) ≡ flat (table (suc n) g) → flat (table n f) ++ words (f n) ≡ flat (table n g) ++ words (g n)
    joined c = sym (flat_more n f) ∙ c ∙ flat_more n g

    before : flat (table (suc n) f) ≡ flat (table (suc n) g) → flat (table n f) ≡ flat (table n g)
    before c =
        sym (take_at (flat (table n f)) (words (f n)) (64 * n) (length-flat-table n f))
        ∙ ap (take (64 * n)) (joined c)
        ∙ take_at (flat (table n g)) (words (g n)) (64 * n) (length-flat-table n g)

    last : flat (table (suc n) f) ≡ flat (table (suc n) g) → words (f n) ≡ words (g n)
    last c =
        sym (drop_at (flat (table n f)) (words (f n)) (64 * n) (length-flat-table n f))
        ∙ ap (drop (64 * n)) (joined c)
        ∙ drop_at (flat (table n g)) (words (g n)) (64 * n) (length-flat-table n g)

-- the words of elements that are stored
part-stored : (S S' : List ℕ) (at n : ℕ) (f : ℕ → Element) → at + 64 * n ≤ length S → S' ≡ splice S at (flat (table n f)) → part S' at (64 * n) ≡ flat (table n f)
part-stored S S' at n f h e =
    let w : length (flat (table n f)) ≡ 64 * n = length-flat-table n f in
    ap (λ x. part x at (64 * n)) e ∙ ap (λ k. part (splice S at (flat (table n f))) at k) (sym w) ∙ part-splice-same 0 S at (flat (table n f)) (omega arith)

-- canonical words compared with the words of elements that are stored
pub compared : (X S S' : List ℕ) (place at n : ℕ) (f : ℕ → Element) (number : ℕ) (values : List ℕ) (t : Bool)
    → place + 64 * n ≤ length X → CanonicalFrom X place (64 * n) → at + 64 * n ≤ length S → S' ≡ splice S at (flat (table n f))
    → t ≡ equal (part X place (64 * n)) (part S' at (64 * n))
    → cond t fine (failed number values) ≡ first n (λ k. require (same (run X place 64 k) (f k)) (failed number values))
compared X S S' place at n f number values t h c h' e v =
    sym
    (first-same n (run X place 64) f number values
    ∙ require-equal (flat (table n (run X place 64))) (flat (table n f)) (failed number values) t (v ∙ ap₂ equal (sym (flat-run X place n h c)) (part-stored S S' at n f h' e)))
