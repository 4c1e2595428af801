-- Laws of sums that are added up where they stand.
use mathlib.Core.Path.{◌≡◌, refl, sym, ap, ap₂, ◌∙◌}
use mathlib.Core.List.{List, [], ◌∷◌, ◌++◌, flat_map}
use Prim.Native.Nat.{ℕ, zero, suc, ◌+◌, ◌*◌, ◌≤◌, ◌<◌}
use native.Mathlib.Omega.{arith}
use lib.ListN.{length, get_or, take, drop}
use lib.Seq.{take-add, drop-drop}
use Rattle.math.specs.lists.Table.{table}
use Rattle.math.specs.lists.Part.{part, splice}
use Rattle.math.proofs.lists.Table.{length-table, get_or-table, table_ext}
use Rattle.math.proofs.lists.Fill.{get_or-splice-table, splice-table-same}
use Rattle.math.proofs.lists.Splice.{length-splice, splice-swap, splice_again, get_or-splice-before, get_or-splice-within, part-splice-before, part-splice-after}
use Rattle.math.proofs.lists.Splice.{part-splice-same, part-table, length_part, get_d_part}
use Rattle.spec_leaves.specs.Zq.{Q, zadd}
use Rattle.spec_leaves.specs.Rq.{Element, coeff, rzero, radd}
use Rattle.spec_leaves.specs.Ring.{RqOps, words, element, canonical_mod}
use Rattle.spec_leaves.proofs.RqRing.{rq_ring}
use Rattle.spec_leaves.proofs.Bridge.{words-add, words-nil, words-element}
use Rattle.spec_protocol.specs.Views.{element_at}
use Rattle.spec_protocol.specs.Formulas.{◌⊕◌, flat}
use Rattle.spec_protocol.proofs.Flat.{length-flat, flat-canonical, element_of-flat}
use Rattle.spec_protocol.proofs.Stored.{flat_append, flat-one}
use Rattle.load_constraints.specs.declared.sums.Target.{Target}
use Rattle.load_constraints.specs.Sums.{plus, Placed, Reduced}

-- elements read from canonical words are those words
flat_read : (J : List ℕ) (at n : ℕ) → at + 64 * n ≤ length J → ((x : ℕ) → x < 64 * n → get_or J (at + x) 0 < Q) → flat (table n (element_at J at)) ≡ part J at (64 * n)
unfolding table flat flat_map
flat_read J at zero h canonical = refl
flat_read J at (suc n) h canonical =
    let place : at + 64 * n + 64 ≤ length J = omega arith in
    flat_append (table n (element_at J at)) (element_at J at n ∷ [])
    ∙ ap₂ ◌++◌ (flat_read J at n (omega arith) (λ x l. canonical x (omega arith)))
    (flat-one (element_at J at n)
    ∙ words-element (part J (at + 64 * n) 64) (
      length_part J (at + 64 * n) 64 place,
      λ k l. rw (get_d_part 0 J (at + 64 * n) 64 k (omega (arith, length_part J (at + 64 * n) 64 place)))
          (rw (deeper n k) (canonical (64 * n + k) (omega (arith, length_part J (at + 64 * n) 64 place)))),
    ))
    ∙ ap (λ l. part J at (64 * n) ++ take 64 l) (sym (drop-drop (64 * n) at J))
    ∙ sym (take-add (64 * n) 64 (drop at J))
    ∙ ap (λ k. take k (drop at J)) (more n)
  where
    deeper : (n k : ℕ) → at + 64 * n + k ≡ at + (64 * n + k)
    deeper n k = omega arith

    more : (n : ℕ) → 64 * n + 64 ≡ 64 * suc n
    more n = omega arith

-- coefficient 0 of zero and of a sum
constant-none : coeff (words RqOps.nil) 0 ≡ 0
unfolding rzero
constant-none = ap (λ l. coeff l 0) words-nil ∙ get_or-table 64 (λ k. 0) 0 0 (omega arith)

constant-sum : (a b : Element) → coeff (words (a ⊕ b)) 0 ≡ zadd (coeff (words a) 0) (coeff (words b) 0)
unfolding radd
constant-sum a b = ap (λ l. coeff l 0) (words-add a b) ∙ get_or-table 64 (λ k. zadd (coeff (words a) k) (coeff (words b) k)) 0 0 (omega arith)

-- sums modulo Q in another grouping
zadd_assoc : (a b c : ℕ) → zadd (zadd a b) c ≡ zadd a (zadd b c)
zadd_assoc a b c = omega arith

module _ (J : List ℕ) (t : Target) (base₀ base m : ℕ) (placed : Placed J t base₀ base m) where
  open t use {b0_at, l, b_at, k}

  module _ (F G : ℕ → Element) where
    abbrev numbers : List ℕ
    numbers = table l (λ x. zadd (get_or J (b0_at + x) 0) (coeff (words (F x)) 0))

    abbrev elements : List Element
    elements = table k (λ x. element_at J b_at x ⊕ G x)

    size₀ : length numbers ≡ l
    size₀ = length-table l (λ x. zadd (get_or J (b0_at + x) 0) (coeff (words (F x)) 0))

    size : length (flat elements) ≡ 64 * k
    size = length-flat elements ∙ ap (λ n. 64 * n) (length-table k (λ x. element_at J b_at x ⊕ G x))

    pub length-plus : length (plus J t F G) ≡ length J
    unfolding plus
    length-plus = length-splice (splice J b0_at numbers) b_at (flat elements) ∙ length-splice J b0_at numbers

    pub placed-plus : Placed (plus J t F G) t base₀ base m
    placed-plus = record {
      before₀ = placed.before₀;
      between = placed.between;
      before = placed.before;
      within = omega (arith, length-plus, placed.within);
      few_l = placed.few_l;
      few_k = placed.few_k;
      few = placed.few;
    }

    -- what is read is as it was
    pub read_before : (x : ℕ) → x < l * m → element_at (plus J t F G) base₀ x ≡ element_at J base₀ x
    unfolding plus
    read_before x h = ap element
        (part-splice-before 0 (splice J b0_at numbers) b_at (flat elements) (base₀ + 64 * x) 64 (omega (arith, placed))
        ∙ part-splice-before 0 J b0_at numbers (base₀ + 64 * x) 64 (omega (arith, placed)))

    pub read_between : (x : ℕ) → x < k * m → element_at (plus J t F G) base x ≡ element_at J base x
    unfolding plus
    read_between x h = ap element
        (part-splice-before 0 (splice J b0_at numbers) b_at (flat elements) (base + 64 * x) 64 (omega (arith, placed))
        ∙ part-splice-after 0 J b0_at numbers (base + 64 * x) 64 (omega (arith, placed, size₀)))

    -- what stands for b0 and b
    pub number_of : (x : ℕ) → x < l → get_or (plus J t F G) (b0_at + x) 0 ≡ zadd (get_or J (b0_at + x) 0) (coeff (words (F x)) 0)
    unfolding plus
    number_of x h =
        get_or-splice-before (splice J b0_at numbers) b_at (flat elements) (b0_at + x) 0 (omega (arith, placed))
        ∙ get_or-splice-table J b0_at l (λ x. zadd (get_or J (b0_at + x) 0) (coeff (words (F x)) 0)) x 0 h (omega (arith, placed))

    b-part : part (plus J t F G) b_at (length (flat elements)) ≡ flat elements
    unfolding plus
    b-part = part-splice-same 0 (splice J b0_at numbers) b_at (flat elements) (omega (arith, placed, size, length-splice J b0_at numbers))

    pub element_of : (x : ℕ) → x < k → element_at (plus J t F G) b_at x ≡ element_at J b_at x ⊕ G x
    element_of x h =
        element_of-flat (plus J t F G) b_at elements x RqOps.nil b-part (omega (arith, length-table k (λ x. element_at J b_at x ⊕ G x)))
        ∙ get_or-table k (λ x. element_at J b_at x ⊕ G x) x RqOps.nil h

    -- the sums stay canonical
    pub reduced-plus : Reduced (plus J t F G) t
    unfolding plus
    reduced-plus = record {
      b₀ = λ x h. rw (number_of x h) (canonical_mod (get_or J (b0_at + x) 0 + coeff (words (F x)) 0));
      b = λ x h. rw (get_or-splice-within (splice J b0_at numbers) b_at (flat elements) x 0 (omega (arith, size)) (omega (arith, placed, size, length-splice J b0_at numbers)))
          (flat-canonical elements x (omega (arith, size)));
    }

    -- two additions are one
    pub plus-plus : (F' G' : ℕ → Element) → plus (plus J t F G) t F' G' ≡ plus J t (λ x. F x ⊕ F' x) (λ x. G x ⊕ G' x)
    unfolding plus
    plus-plus F' G' =
        let both : List ℕ = table l (λ x. zadd (get_or J (b0_at + x) 0) (coeff (words (F x ⊕ F' x)) 0)) in
        let all : List Element = table k (λ x. element_at J b_at x ⊕ (G x ⊕ G' x)) in
        ap₂ (λ a b. splice (splice (plus J t F G) b0_at a) b_at (flat b))
        (table_ext l (λ x. zadd (get_or (plus J t F G) (b0_at + x) 0) (coeff (words (F' x)) 0)) (λ x. zadd (get_or J (b0_at + x) 0) (coeff (words (F x ⊕ F' x)) 0))
        (λ x h. ap (λ w. zadd w (coeff (words (F' x)) 0)) (number_of x h) ∙ zadd_assoc (get_or J (b0_at + x) 0) (coeff (words (F x)) 0) (coeff (words (F' x)) 0)
        ∙ ap (zadd (get_or J (b0_at + x) 0)) (sym (constant-sum (F x) (F' x)))))
        (table_ext k (λ x. element_at (plus J t F G) b_at x ⊕ G' x) (λ x. element_at J b_at x ⊕ (G x ⊕ G' x))
        (λ x h. ap (λ e. e ⊕ G' x) (element_of x h) ∙ rq_ring.add_assoc (element_at J b_at x) (G x) (G' x)))
        ∙ ap (λ w. splice w b_at (flat all))
        (splice-swap (splice J b0_at numbers) b_at (flat elements) b0_at both (omega (arith, placed, length-table l (λ x. zadd (get_or J (b0_at + x) 0) (coeff (words (F x ⊕ F' x)) 0)))))
        ∙ splice_again 0 (splice (splice J b0_at numbers) b0_at both) b_at (flat elements) (flat all)
        (size ∙ sym (length-flat all ∙ ap (λ n. 64 * n) (length-table k (λ x. element_at J b_at x ⊕ (G x ⊕ G' x)))))
        (omega (arith, placed, size, length-splice (splice J b0_at numbers) b0_at both, length-splice J b0_at numbers))
        ∙ ap (λ w. splice w b_at (flat all))
        (splice_again 0 J b0_at numbers both (size₀ ∙ sym (length-table l (λ x. zadd (get_or J (b0_at + x) 0) (coeff (words (F x ⊕ F' x)) 0)))) (omega (arith, placed, size₀)))

    -- equal terms
    pub plus_ext : (F' G' : ℕ → Element) → ((x : ℕ) → x < l → F x ≡ F' x) → ((x : ℕ) → x < k → G x ≡ G' x) → plus J t F G ≡ plus J t F' G'
    unfolding plus
    plus_ext F' G' f g =
        ap₂ (λ a b. splice (splice J b0_at a) b_at (flat b))
        (table_ext l (λ x. zadd (get_or J (b0_at + x) 0) (coeff (words (F x)) 0)) (λ x. zadd (get_or J (b0_at + x) 0) (coeff (words (F' x)) 0))
        (λ x h. ap (λ e. zadd (get_or J (b0_at + x) 0) (coeff (words e) 0)) (f x h)))
        (table_ext k (λ x. element_at J b_at x ⊕ G x) (λ x. element_at J b_at x ⊕ G' x) (λ x h. ap (λ e. element_at J b_at x ⊕ e) (g x h)))

  -- nothing added
  pub plus_none : Reduced J t → plus J t (λ x. RqOps.nil) (λ x. RqOps.nil) ≡ J
  unfolding plus
  plus_none reduced =
      ap₂ (λ a b. splice (splice J b0_at a) b_at (flat b))
      (table_ext l (λ x. zadd (get_or J (b0_at + x) 0) (coeff (words RqOps.nil) 0)) (λ x. get_or J (b0_at + x) 0)
      (λ x h. ap (zadd (get_or J (b0_at + x) 0)) constant-none ∙ omega (arith, reduced.b₀ x h)))
      (table_ext k (λ x. element_at J b_at x ⊕ RqOps.nil) (element_at J b_at) (λ x h. rq_ring.add-nil (element_at J b_at x)))
      ∙ ap₂ (λ w e. splice w b_at e)
      (splice-table-same J b0_at l 0 (omega (arith, placed)))
      (flat_read J b_at k placed.within reduced.b ∙ sym (part-table 0 J b_at (64 * k) placed.within))
      ∙ splice-table-same J b_at (64 * k) 0 placed.within
