-- An entry put among entries in order: it and they are there, in order.
use mathlib.Core.Path.{◌≡◌, refl, ap, ◌∙◌}
use mathlib.Core.Bool.{Bool, true, false, cond}
use mathlib.Core.Logic.{◌⊎◌, inl, inr}
use mathlib.Core.List.Memᴰ
use mathlib.Core.List.{List, [], ◌∷◌, Memᴰ}
use Prim.Native.Nat.{suc}
use lib.ListN.{length}
use Rattle.spec_leaves.proofs.Cases.{no_both}
use Rattle.spec_protocol.specs.Mistyped.{Entry, comes_before, Ordered}
use Rattle.spec_protocol.proofs.MistypedList.{before_trans}
use Rattle.mistyped_solve.specs.Insert.{later_of, insert}

-- one entry more
pub length-insert : (e : Entry) (es : List Entry) → length (insert e es) ≡ suc (length es)
unfolding insert
length-insert e [] = refl
length-insert e (f ∷ fs) = ap suc (length-insert (later_of e f) fs)

-- what is there is the entry or one of the others
pub insert-from : (e : Entry) (es : List Entry) (g : Entry) → Memᴰ g (insert e es) → (g ≡ e) ⊎ Memᴰ g es
unfolding insert
insert-from e [] g m = Memᴰ.cases_cons m
insert-from e (f ∷ fs) g m = go (comes_before e f) m (λ h. insert-from h fs g)
  where
    there : {a b : Entry} → (g ≡ a → (g ≡ e) ⊎ Memᴰ g (f ∷ fs)) → (g ≡ b → (g ≡ e) ⊎ Memᴰ g (f ∷ fs)) → (Memᴰ g (insert b fs) → (g ≡ b) ⊎ Memᴰ g fs)
        → (g ≡ a) ⊎ Memᴰ g (insert b fs) → (g ≡ e) ⊎ Memᴰ g (f ∷ fs)
    there p q ih (inl x) = p x
    there {a} {b} p q ih (inr x) = on (ih x)
      where
        on : (g ≡ b) ⊎ Memᴰ g fs → (g ≡ e) ⊎ Memᴰ g (f ∷ fs)
        on (inl y) = q y
        on (inr y) = inr (Memᴰ.tail y)

    go : (b : Bool) → Memᴰ g (cond b e f ∷ insert (cond b f e) fs) → ((h : Entry) → Memᴰ g (insert h fs) → (g ≡ h) ⊎ Memᴰ g fs) → (g ≡ e) ⊎ Memᴰ g (f ∷ fs)
    go true m ih = there (λ x. inl x) (λ x. inr (Memᴰ.head x)) (ih f) (Memᴰ.cases_cons m)
    go false m ih = there (λ x. inr (Memᴰ.head x)) (λ x. inl x) (ih e) (Memᴰ.cases_cons m)

-- the entry and the others are there
pub insert_to : (e : Entry) (es : List Entry) (g : Entry) → (g ≡ e) ⊎ Memᴰ g es → Memᴰ g (insert e es)
unfolding insert
insert_to e [] g (inl x) = Memᴰ.head x
insert_to e [] g (inr m) = absurd (Memᴰ.not-nil m)
insert_to e (f ∷ fs) g x = go (comes_before e f) (three x) (λ h. insert_to h fs g)
  where
    three : (g ≡ e) ⊎ Memᴰ g (f ∷ fs) → (g ≡ e) ⊎ ((g ≡ f) ⊎ Memᴰ g fs)
    three (inl x) = inl x
    three (inr m) = inr (Memᴰ.cases_cons m)

    go : (b : Bool) → (g ≡ e) ⊎ ((g ≡ f) ⊎ Memᴰ g fs) → ((h : Entry) → (g ≡ h) ⊎ Memᴰ g fs → Memᴰ g (insert h fs)) → Memᴰ g (cond b e f ∷ insert (cond b f e) fs)
    go true (inl x) ih = Memᴰ.head x
    go true (inr y) ih = Memᴰ.tail (ih f y)
    go false (inl x) ih = Memᴰ.tail (ih e (inl x))
    go false (inr (inl y)) ih = Memᴰ.head y
    go false (inr (inr y)) ih = Memᴰ.tail (ih e (inr y))

-- an entry can be put among entries: where it does not come before one of them, that one comes before it
abbrev pub Comparable : Entry → List Entry → Type 0
Comparable e es = (g : Entry) → Memᴰ g es → comes_before e g ≡ false → comes_before g e ≡ true

-- then they are in order
pub insert-ordered : (e : Entry) (es : List Entry) → Ordered es → Comparable e es → Ordered (insert e es)
unfolding insert Ordered
insert-ordered e [] o c = (λ g m. absurd (Memᴰ.not-nil m), tt)
insert-ordered e (f ∷ fs) o c = go (comes_before e f) refl (λ h k. insert-ordered h fs o.1 k)
  where
    -- an entry that comes before the one put in and before the others
    leads : (a b : Entry) → comes_before a b ≡ true → ((g : Entry) → Memᴰ g fs → comes_before a g ≡ true) → (g : Entry) → Memᴰ g (insert b fs) → comes_before a g ≡ true
    leads a b p q g m = on (insert-from b fs g m)
      where
        on : (g ≡ b) ⊎ Memᴰ g fs → comes_before a g ≡ true
        on (inl x) = ap (comes_before a) x ∙ p
        on (inr y) = q g y

    go : (b : Bool) → comes_before e f ≡ b → ((h : Entry) → Comparable h fs → Ordered (insert h fs)) → Ordered (cond b e f ∷ insert (cond b f e) fs)
    go true p ih = (
      leads e f p (λ g m. before_trans e f g p (o.0 g m)),
      ih f (λ g m n. absurd (no_both (o.0 g m) n)),
    )
    go false p ih = (
      leads f e (c f (Memᴰ.head refl) p) o.0,
      ih e (λ g m. c g (Memᴰ.tail m)),
    )
