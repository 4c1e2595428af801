-- Laws of `splice`: what stores in a run of places leave.
use mathlib.Core.Path.{◌≡◌, refl, sym, ap, ◌∙◌}
use mathlib.Core.List.{List, [], ◌∷◌, ◌++◌}
use mathlib.Core.Logic.{◌≢◌}
use Prim.Native.Nat.{ℕ, zero, suc, ◌+◌, ◌-◌, ◌≤◌, ◌<◌}
use native.Mathlib.Nat.{add-zero}
use native.Mathlib.Decide.{dec_lt}
use native.Mathlib.Numerals.{add-one}
use native.Mathlib.Omega.{arith}
use lib.ListN.{length, get_or, set, take, drop, replicate, length-set, length-take, length-drop, length-replicate, replicate-append-replicate}
use lib.Seq.{sets, sets-eq, length-sets, ext_get_or, set_comm, get_or-take, get_or-drop, get_or-set_same, get_or-set_other, take-length, length-take-le, take-suc}
use Rattle.math.specs.lists.Table.{table}
use Rattle.math.specs.lists.Part.{part, splice}
use Rattle.math.proofs.lists.Table.{is_table}

module _ {ℓ} {A : Type ℓ} where
  -- as long as the list
  pub length-splice : (l : List A) (at : ℕ) (new : List A) → length (splice l at new) ≡ length l
  unfolding splice
  length-splice l at new = length-sets l at new

  -- within the list, what stands before, the replacement, and what stands after
  pub splice_eq : (l : List A) (at : ℕ) (new : List A) → at + length new ≤ length l → splice l at new ≡ take at l ++ new ++ drop (at + length new) l
  unfolding splice
  splice_eq l at new h = sets-eq new l at h

  -- nothing replaced
  pub splice-nil : (l : List A) (at : ℕ) → splice l at [] ≡ l
  unfolding splice
  splice-nil l at = refl

  -- a second run right after the first
  pub splice-append : (l : List A) (at : ℕ) (new more : List A) → splice (splice l at new) (at + length new) more ≡ splice l at (new ++ more)
  unfolding splice
  splice-append l at [] more = ap (λ k. sets l k more) (add-zero at)
  splice-append l at (x ∷ new) more =
      let e : at + suc (length new) ≡ suc at + length new = omega arith in
      ap (λ k. sets (sets (set l at x) (suc at) new) k more) e ∙ splice-append (set l at x) (suc at) new more

  -- one more store right after a run
  pub splice-next : (l : List A) (at : ℕ) (new : List A) (x : A) → set (splice l at new) (at + length new) x ≡ splice l at (new ++ (x ∷ []))
  unfolding splice
  splice-next l at new x = splice-append l at new (x ∷ [])

  -- a store before a run and the run, in either order
  set-splice : (l : List A) (at : ℕ) (new : List A) (i : ℕ) (v : A) → i < at → set (splice l at new) i v ≡ splice (set l i v) at new
  unfolding splice
  set-splice l at [] i v h = refl
  set-splice l at (x ∷ new) i v h =
      let ne : at ≢ i = λ e. omega arith in
      set-splice (set l at x) (suc at) new i v (omega arith) ∙ ap (λ m. sets m (suc at) new) (set_comm l at i x v ne)

  -- a run before another and that one, in either order
  pub splice-swap : (l : List A) (at : ℕ) (new : List A) (to : ℕ) (more : List A) → to + length more ≤ at → splice (splice l at new) to more ≡ splice (splice l to more) at new
  unfolding splice
  splice-swap l at new to [] h = refl
  splice-swap l at new to (x ∷ more) h =
      ap (λ m. sets m (suc to) more) (set-splice l at new to x (omega arith)) ∙ splice-swap (set l to x) at new (suc to) more (omega arith)

  -- an element before the run
  pub get_or-splice-before : (l : List A) (at : ℕ) (new : List A) (i : ℕ) (d : A) → i < at → get_or (splice l at new) i d ≡ get_or l i d
  unfolding splice
  get_or-splice-before l at [] i d h = refl
  get_or-splice-before l at (x ∷ new) i d h =
      let ne : i ≢ at = λ e. omega arith in
      get_or-splice-before (set l at x) (suc at) new i d (omega arith) ∙ get_or-set_other l at i x d ne

  -- an element after the run
  pub get_or-splice-after : (l : List A) (at : ℕ) (new : List A) (i : ℕ) (d : A) → at + length new ≤ i → get_or (splice l at new) i d ≡ get_or l i d
  unfolding splice
  get_or-splice-after l at [] i d h = refl
  get_or-splice-after l at (x ∷ new) i d h =
      let ne : i ≢ at = λ e. omega arith in
      get_or-splice-after (set l at x) (suc at) new i d (omega arith) ∙ get_or-set_other l at i x d ne

  -- element k of the run
  pub get_or-splice-within : (l : List A) (at : ℕ) (new : List A) (k : ℕ) (d : A) → k < length new → at + length new ≤ length l
      → get_or (splice l at new) (at + k) d ≡ get_or new k d
  unfolding splice
  get_or-splice-within l at [] k d h f = absurd (omega arith)
  get_or-splice-within l at (x ∷ new) zero d h f =
      let here : at + 0 ≡ at = omega arith in
      ap (λ i. get_or (sets (set l at x) (suc at) new) i d) here ∙ get_or-splice-before (set l at x) (suc at) new at d (omega arith) ∙ get_or-set_same l at x d (omega arith)
  get_or-splice-within l at (x ∷ new) (suc k) d h f =
      let e : at + suc k ≡ suc at + k = omega arith in
      let f' : suc at + length new ≤ length (set l at x) = rw (length-set l at x) (omega arith) in
      ap (λ i. get_or (sets (set l at x) (suc at) new) i d) e ∙ get_or-splice-within (set l at x) (suc at) new k d (omega arith) f'

  -- the length of a part within the list
  pub length_part : (l : List A) (from n : ℕ) → from + n ≤ length l → length (part l from n) ≡ n
  length_part l from n h = simp (length-take, length-drop) (omega arith)

module _ {ℓ} {A : Type ℓ} (d : A) where
  -- an element of a part
  pub get_d_part : (l : List A) (from n i : ℕ) → i < n → get_or (part l from n) i d ≡ get_or l (from + i) d
  get_d_part l from n i h = get_or-take n (drop from l) i d h ∙ get_or-drop from l i d

  -- parts of two lists that agree there
  pub part_ext : (l m : List A) (from n : ℕ) → length l ≡ length m → ((i : ℕ) → from ≤ i → i < from + n → get_or l i d ≡ get_or m i d)
      → part l from n ≡ part m from n
  part_ext l m from n e h = ext_get_or d (part l from n) (part m from n) (simp (length-take, length-drop, e)) agree
    where
      agree : (i : ℕ) → i < length (part l from n) → get_or (part l from n) i d ≡ get_or (part m from n) i d
      agree i k =
          let k' : i < n = omega (arith, simp (length-take, length-drop) at k) in
          get_d_part l from n i k' ∙ h (from + i) (omega arith) (omega arith) ∙ sym (get_d_part m from n i k')

  -- a part before the run
  pub part-splice-before : (l : List A) (at : ℕ) (new : List A) (from n : ℕ) → from + n ≤ at → part (splice l at new) from n ≡ part l from n
  part-splice-before l at new from n h = part_ext (splice l at new) l from n (length-splice l at new) (λ i a b. get_or-splice-before l at new i d (omega arith))

  -- a part after the run
  pub part-splice-after : (l : List A) (at : ℕ) (new : List A) (from n : ℕ) → at + length new ≤ from → part (splice l at new) from n ≡ part l from n
  part-splice-after l at new from n h = part_ext (splice l at new) l from n (length-splice l at new) (λ i a b. get_or-splice-after l at new i d (omega arith))

  -- a part of the run
  pub part-splice-within : (l : List A) (at : ℕ) (new : List A) (k n : ℕ) → k + n ≤ length new → at + length new ≤ length l
      → part (splice l at new) (at + k) n ≡ part new k n
  part-splice-within l at new k n h f =
      ext_get_or d (part (splice l at new) (at + k) n) (part new k n)
      (length_part (splice l at new) (at + k) n (rw (length-splice l at new) (omega arith)) ∙ sym (length_part new k n h))
      agree
    where
      agree : (i : ℕ) → i < length (part (splice l at new) (at + k) n) → get_or (part (splice l at new) (at + k) n) i d ≡ get_or (part new k n) i d
      agree i m =
          let m' : i < n = omega (arith, simp (length-take, length-drop) at m) in
          let e : at + k + i ≡ at + (k + i) = omega arith in
          get_d_part (splice l at new) (at + k) n i m'
          ∙ ap (λ j. get_or (splice l at new) j d) e
          ∙ get_or-splice-within l at new (k + i) d (omega arith) f
          ∙ sym (get_d_part new k n i m')

  -- the run itself
  pub part-splice-same : (l : List A) (at : ℕ) (new : List A) → at + length new ≤ length l → part (splice l at new) at (length new) ≡ new
  part-splice-same l at new h =
      let e : at ≡ at + 0 = omega arith in
      ap (λ j. part (splice l at new) j (length new)) e ∙ part-splice-within l at new 0 (length new) (omega arith) h ∙ take-length new

  -- a run replaced again
  pub splice_again : (l : List A) (at : ℕ) (new more : List A) → length new ≡ length more → at + length new ≤ length l
      → splice (splice l at new) at more ≡ splice l at more
  splice_again l at new more e f =
      ext_get_or d (splice (splice l at new) at more) (splice l at more)
      (length-splice (splice l at new) at more ∙ length-splice l at new ∙ sym (length-splice l at more))
      (λ i h. agree i (dec_lt i at) (dec_lt i (at + length more)))
    where
      agree : (i : ℕ) → Dec (i < at) → Dec (i < at + length more) → get_or (splice (splice l at new) at more) i d ≡ get_or (splice l at more) i d
      agree i (yes b) c =
          get_or-splice-before (splice l at new) at more i d b ∙ get_or-splice-before l at new i d b ∙ sym (get_or-splice-before l at more i d b)
      agree i (no b) (yes c) =
          let at_i : i ≡ at + (i - at) = omega arith in
          ap (λ j. get_or (splice (splice l at new) at more) j d) at_i
          ∙ get_or-splice-within (splice l at new) at more (i - at) d (omega arith) (rw (length-splice l at new) (omega arith))
          ∙ sym (get_or-splice-within l at more (i - at) d (omega arith) (omega arith))
          ∙ ap (λ j. get_or (splice l at more) j d) (sym at_i)
      agree i (no b) (no c) =
          get_or-splice-after (splice l at new) at more i d (omega arith) ∙ get_or-splice-after l at new i d (omega arith) ∙ sym (get_or-splice-after l at more i d (omega arith))

  -- one more element of a list stored after its first k
  pub splice-take-next : (l : List A) (at : ℕ) (new : List A) (k : ℕ) → k < length new
      → set (splice l at (take k new)) (at + k) (get_or new k d) ≡ splice l at (take (k + 1) new)
  splice-take-next l at new k h =
      let e : length (take k new) ≡ k = length-take-le k new (omega arith) in
      ap (λ j. set (splice l at (take k new)) (at + j) (get_or new k d)) (sym e)
      ∙ splice-next l at (take k new) (get_or new k d)
      ∙ ap (splice l at) (sym (take-suc new k d h) ∙ ap (λ j. take j new) (sym (add-one k)))

  -- a part as a table
  pub part-table : (l : List A) (from n : ℕ) → from + n ≤ length l → table n (λ i. get_or l (from + i) d) ≡ part l from n
  part-table l from n h = sym (is_table n (part l from n) (λ i. get_or l (from + i) d) d (length_part l from n h) (λ i k. get_d_part l from n i k))

  -- one more store of a fixed value
  pub splice-replicate-next : (l : List A) (at k : ℕ) → set (splice l at (replicate k d)) (at + k) d ≡ splice l at (replicate (k + 1) d)
  splice-replicate-next l at k =
      ap (λ j. set (splice l at (replicate k d)) (at + j) d) (sym (length-replicate k d))
      ∙ splice-next l at (replicate k d) d
      ∙ ap (splice l at) (replicate-append-replicate k 1 d)
