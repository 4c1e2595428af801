-- The products in the windows of the scratch: one more row stored, and the others as they were.
use mathlib.Core.Path.{◌≡◌, sym, ap, ap₂, subst, ◌∙◌}
use mathlib.Core.Bool.{Bool, true, false}
use mathlib.Core.List.{List, [], ◌∷◌, ◌++◌, append_assoc}
use Prim.Native.Nat.{ℕ, ◌+◌, ◌-◌, ◌*◌, ◌≤◌, ◌<◌}
use native.Mathlib.Decide.{dec_lt}
use native.Mathlib.Omega.{arith}
use lib.ListN.{length, take, drop, replicate, length-append, length-replicate, replicate-append-replicate}
use lib.Seq.{take-add, drop-drop}
use Rattle.math.specs.lists.Table.{table}
use Rattle.math.specs.lists.Part.{part, splice}
use Rattle.math.proofs.lists.Table.{table-suc}
use Rattle.math.proofs.lists.Splice.{length-splice, part-splice-before, part-splice-after, part-splice-same}
use Rattle.spec_leaves.specs.Rq.{Element}
use Rattle.spec_leaves.specs.Ring.{words}
use Rattle.spec_protocol.specs.Parameters.{parameters}
use Rattle.spec_protocol.specs.Layout.{scratch_need}
use Rattle.spec_protocol.specs.Formulas.{flat}
use Rattle.spec_protocol.specs.Many.{many_need, transcript_part, row_product, RowsDone, window, AllRowsDone}
use Rattle.spec_protocol.proofs.Flat.{length-words, length-flat-table}
use Rattle.spec_protocol.proofs.Stored.{flat_append, flat-one}
use Rattle.ring_rq_matrix.proofs.Place.{rows-within}
use Rattle.core_workspace.specs.Holds.{Holds, Unchanged}
use Rattle.core_workspace.proofs.Holds.{holds-first, holds-second}
use Rattle.core_workspace.proofs.Unchanged.{unchanged_stored}
use Rattle.verify_many_windows.specs.Product.{stored_for}
use Rattle.verify_many_windows.proofs.WindowLaws.{products, done_of, of_done}

-- a part in three
part-three : (l : List ℕ) (a x y z n : ℕ) → n ≡ x + (y + z) → part l a n ≡ part l a x ++ (part l (a + x) y ++ part l (a + x + y) z)
part-three l a x y z n e =
    ap (λ n. part l a n) e
    ∙ take-add x (y + z) (drop a l)
    ∙ ap (λ r. part l a x ++ r) (ap (take (y + z)) (drop-drop x a l) ∙ take-add y z (drop (a + x) l) ∙ ap (λ r. part l (a + x) y ++ take z r) (drop-drop y (a + x) l))

-- the words of one more element
flat-next : (n : ℕ) (f : ℕ → Element) → flat (table (n + 1) f) ≡ flat (table n f) ++ words (f n)
flat-next n f = ap flat (table-suc n f) ∙ flat_append (table n f) (f n ∷ []) ∙ ap (λ x. flat (table n f) ++ x) (flat-one (f n))

-- the next row's product stored after those of ρ rows
module _ (S S' : List ℕ) (a ρ : ℕ) (f : ℕ → Element) (within : a + 4096 ≤ length S) (few : ρ < 64) (before : part S a 4096 ≡ products ρ f) (stored : S' ≡ splice S (a + 64 * ρ) (words (f ρ))) where
  abbrev F : List ℕ
  F = flat (table ρ f)

  abbrev w : List ℕ
  w = words (f ρ)

  abbrev z : List ℕ
  z = replicate 64 0

  abbrev Z : List ℕ
  Z = replicate (64 * (64 - (ρ + 1))) 0

  zeros_first : replicate {A = ℕ} (64 * (64 - ρ)) 0 ≡ z ++ Z
  zeros_first =
      let more : 64 * (64 - ρ) ≡ 64 + 64 * (64 - (ρ + 1)) = omega arith in
      ap (λ n. replicate n 0) more ∙ sym (replicate-append-replicate 64 (64 * (64 - (ρ + 1))) 0)

  all-length : length (F ++ (z ++ Z)) ≡ 4096
  all-length =
      length-append F (z ++ Z)
      ∙ ap₂ ◌+◌ (length-flat-table ρ f) (length-append z Z ∙ ap₂ ◌+◌ (length-replicate {A = ℕ} 64 0) (length-replicate {A = ℕ} (64 * (64 - (ρ + 1))) 0))
      ∙ omega arith

  held : Holds S a (F ++ (z ++ Z))
  held = ap (part S a) all-length ∙ before ∙ ap (λ x. F ++ x) zeros_first

  rest : Holds S (a + length F + length w) Z
  rest =
      let size : length z ≡ length w = length-replicate {A = ℕ} 64 0 ∙ sym (length-words (f ρ)) in
      subst (λ n. Holds S (a + length F + n) Z) size (holds-second S (a + length F) z Z (holds-second S a F (z ++ Z) held))

  -- the products are those of one row more
  pub row-stored : part S' a 4096 ≡ products (ρ + 1) f
  row-stored =
      let x : length F ≡ 64 * ρ = length-flat-table ρ f in
      let y : length w ≡ 64 = length-words (f ρ) in
      let u : length Z ≡ 64 * (64 - (ρ + 1)) = length-replicate {A = ℕ} (64 * (64 - (ρ + 1))) 0 in
      let place : S' ≡ splice S (a + length F) w = stored ∙ ap (λ n. splice S (a + n) w) (sym x) in
      ap (λ l. part l a 4096) place
      ∙ part-three (splice S (a + length F) w) a (length F) (length w) (length Z) 4096 (omega arith)
      ∙ ap₂ ◌++◌ (part-splice-before 0 S (a + length F) w a (length F) (omega arith) ∙ holds-first S a F (z ++ Z) held)
      (ap₂ ◌++◌ (part-splice-same 0 S (a + length F) w (omega arith)) (part-splice-after 0 S (a + length F) w (a + length F + length w) (length Z) (omega arith) ∙ rest))
      ∙ sym (append_assoc F w Z)
      ∙ ap (λ x. x ++ Z) (sym (flat-next ρ f))

-- all windows while one row is taken for one transcript after another
module _ (J T : List ℕ) (count : ℕ) (passes : ℕ → Bool) (ρ : ℕ) where
  abbrev need : ℕ
  need = scratch_need (parameters J)

  abbrev Done : List ℕ → ℕ → ℕ → Type 0
  Done S i n = RowsDone J (transcript_part (parameters J) count T i) (window (parameters J) S i) n

  -- row ρ is done for the transcripts before m that pass, and not for those after
  pub record Progress (S : List ℕ) (m : ℕ) : Type 0 where
    pub done : (i : ℕ) → i < m → i < count → passes i ≡ true → Done S i (ρ + 1)
    pub left : (i : ℕ) → m ≤ i → i < count → passes i ≡ true → Done S i ρ

  pub progress_none : (S : List ℕ) → AllRowsDone J count passes T S ρ → Progress S 0
  progress_none S all = record { done = λ i h. absurd (omega arith); left = λ i h. all i }

  pub progress_all : (S : List ℕ) (m : ℕ) → m ≡ count → Progress S m → AllRowsDone J count passes T S (ρ + 1)
  progress_all S m e p i h = p.done i (omega arith) h

  -- a transcript that does not pass is left out
  pub progress_skipped : (S : List ℕ) (m : ℕ) → passes m ≡ false → Progress S m → Progress S (m + 1)
  progress_skipped S m e p = record { done = λ i h c t. go i h c t (dec_lt i m); left = λ i h. p.left i (omega arith) }
    where
      go : (i : ℕ) → i < m + 1 → i < count → passes i ≡ true → Dec (i < m) → Done S i (ρ + 1)
      go i h c t (yes less) = p.done i less c t
      go i h c t (no more) =
          let k : i ≡ m = omega arith in
          let z : ◌≡◌ {A = ℕ} 0 1 = cc in
          absurd (omega arith)

  -- the product of row ρ stored in window m
  module _ (S S' : List ℕ) (m : ℕ) (few : ρ < 64) (room : many_need (parameters J) count ≤ length S) (h : m < count)
      (stored : S' ≡ splice S (m * need + (need - 4096) + 64 * ρ) (words (row_product J (transcript_part (parameters J) count T m) ρ))) where
    abbrev product : List ℕ
    product = words (row_product J (transcript_part (parameters J) count T m) ρ)

    size : length product ≡ 64
    size = length-words (row_product J (transcript_part (parameters J) count T m) ρ)

    -- window m lies within the scratch
    m_within : m * need + need ≤ length S
    m_within = omega (arith, rows-within m count need h)

    -- the windows before it and after it are as they were
    window-before : (i : ℕ) → i < m → window (parameters J) S' i ≡ window (parameters J) S i
    window-before i l =
        ap (λ s. window (parameters J) s i) stored
        ∙ part-splice-before 0 S (m * need + (need - 4096) + 64 * ρ) product (i * need) need (omega (arith, rows-within i m need l))

    window-after : (i : ℕ) → m < i → window (parameters J) S' i ≡ window (parameters J) S i
    window-after i l =
        ap (λ s. window (parameters J) s i) stored
        ∙ part-splice-after 0 S (m * need + (need - 4096) + 64 * ρ) product (i * need) need (omega (arith, size, rows-within m i need l))

    -- row ρ is done for the transcripts up to m
    pub progress_stored : passes m ≡ true → Progress S m → Progress S' (m + 1)
    progress_stored t p = record {
      done = λ i l c u. go i l c u (dec_lt i m);
      left = λ i l c u. subst (λ x. RowsDone J (transcript_part (parameters J) count T i) x ρ) (sym (window-after i (omega arith))) (p.left i (omega arith) c u);
    }
      where
        next : Done S' m (ρ + 1)
        next =
            of_done J (transcript_part (parameters J) count T m) S' m (ρ + 1) (omega (arith, m_within, ap length stored, length-splice S (m * need + (need - 4096) + 64 * ρ) product))
            (row-stored S S' (m * need + (need - 4096)) ρ (row_product J (transcript_part (parameters J) count T m)) (omega (arith, m_within)) few
            (done_of J (transcript_part (parameters J) count T m) S m ρ m_within (p.left m (omega arith) h t)) stored)

        go : (i : ℕ) → i < m + 1 → i < count → passes i ≡ true → Dec (i < m) → Done S' i (ρ + 1)
        go i l c u (yes less) = subst (λ x. RowsDone J (transcript_part (parameters J) count T i) x (ρ + 1)) (sym (window-before i less)) (p.done i less c u)
        go i l c u (no more) =
            let k : m ≡ i = omega arith in
            subst (λ i. Done S' i (ρ + 1)) k next

-- one transcript more, stored where it passes
module _ (J T : List ℕ) (count : ℕ) (passes : ℕ → Bool) (ρ : ℕ) (S₀ S S' : List ℕ) (m place : ℕ) (few : ρ < 64) (room : many_need (parameters J) count ≤ length S) (h : m < count)
    (at : place ≡ m * scratch_need (parameters J) + (scratch_need (parameters J) - 4096) + 64 * ρ) where
  abbrev K : ℕ
  K = many_need (parameters J) count

  -- the row's product of transcript m
  abbrev e : Element
  e = row_product J (transcript_part (parameters J) count T m) ρ

  pub progress_next : (pass : Bool) → pass ≡ passes m → S' ≡ stored_for J T count ρ m place pass S → Progress J T count passes ρ S m × Unchanged K S₀ S
      → Progress J T count passes ρ S' (m + 1) × Unchanged K S₀ S'
  progress_next true t stored (p, unchanged) =
      let put : S' ≡ splice S (m * scratch_need (parameters J) + (scratch_need (parameters J) - 4096) + 64 * ρ) (words e) = stored ∙ ap (λ a. splice S a (words e)) at in (
        progress_stored J T count passes ρ S S' m few room h put (sym t) p,
        unchanged_stored K S₀ S S' place (words e) unchanged stored (omega (arith, at, few, length-words e, rows-within m count (scratch_need (parameters J)) h)),
      )
  progress_next false t stored (p, unchanged) =
      let same = sym stored in
      (progress_skipped J T count passes ρ S' m (sym t) (subst (λ s. Progress J T count passes ρ s m) same p), subst (λ s. Unchanged K S₀ s) same unchanged)
