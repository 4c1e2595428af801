use mathlib.Core.Path.{◌≡◌, refl, sym, ◌∙◌, ap}
use mathlib.Core.List.{List, []}
use Prim.Native.Nat.{ℕ, ◌+◌, ◌*◌}
use native.Mathlib.Nat.{zero-add}
use native.Mathlib.Omega.{arith}
use borrow.Author.Rules.{rules}
use lib.ListN.{length, get_or, length-append}
use mir.Syntax.{w32}
use denote.Plain.{UInt}
use Rattle.math.specs.lists.Table.{cat}
use Rattle.math.specs.lists.Part.{splice}
use Rattle.math.proofs.lists.Cat.{cat-suc}
use Rattle.math.proofs.lists.Splice.{splice-nil, splice-append}
use Rattle.api_leaf_answers.proofs.Owned.{row_long}
use Rattle.api_leaf_answers.proofs.digits.store_rows.Invariants.{Stored}
use Rattle.api_leaf_answers.proofs.digits.store_rows.Goals as goal

none-stored : (out₀ : List ℕ) (f : ℕ → List ℕ) → Stored out₀ f 0 out₀
unfolding cat
none-stored out₀ f = (refl, sym (splice-nil out₀ 0))

row-stored : (out₀ out next : List ℕ) (f : ℕ → List ℕ) (k : ℕ) → length (f k) ≡ 64 → Stored out₀ f k out
    → next ≡ splice out (64 * k) (f k) → Stored out₀ f (k + 1) next
row-stored out₀ out next f k n (l, s) e = (
  ap length (cat-suc k f) ∙ length-append (cat k f) (f k) ∙ omega arith,
  e
      ∙ ap (λ o. splice o (64 * k) (f k)) s
      ∙ ap (λ m. splice (splice out₀ 0 (cat k f)) m (f k)) (sym l ∙ sym (zero-add (length (cat k f))))
      ∙ splice-append out₀ 0 (cat k f) (f k)
      ∙ ap (splice out₀ 0) (sym (cat-suc k f)),
)

all-stored : (out₀ out : List ℕ) (f : ℕ → List ℕ) (k : ℕ) → k ≡ 32 → Stored out₀ f k out → out ≡ splice out₀ 0 (cat 32 f)
all-stored out₀ out f k e s = s.1 ∙ ap (λ m. splice out₀ 0 (cat m f)) e

pub loop-k-preserved : goal.loop-k-preserved
loop-k-preserved c =
    let l = c.loop-k in
    let rows = c.args.rows in
    let count : length rows ≡ 32 = search rules in
    let long : length (get_or rows l.k []) ≡ 64 = row_long (UInt w32) 64 rows _ l.k (omega arith) c.well_formed.0.1.1 in
    let stored = c.store in
    (omega arith, stored.auto.words ∙ l.invariant.1, row-stored _ _ _ (λ i. get_or rows i []) l.k long l.invariant.2 stored.ensures)

pub returns : goal.returns
returns c = all-stored _ _ _ _ (omega arith) c.loop-k.invariant.2

pub loop-k-init : goal.loop-k-init
loop-k-init c = (omega arith, refl, none-stored _ _)
