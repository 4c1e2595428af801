-- T4: of a fork of accepted transcripts at the challenges something is given away, or its vectors are extracted.
use mathlib.Core.Path.{◌≡◌, sym, ap, ap₂, ◌∙◌}
use mathlib.Core.List.{List, []}
use mathlib.Core.Logic.{◌⊎◌, inr}
use Prim.Native.Nat.{ℕ, ◌<◌}
use native.Mathlib.Omega.{arith}
use Rattle.math.specs.algebra.Ops.{Ops}
use Rattle.math.proofs.algebra.Ring.{CRing, ring, sub_common, mul_left_comm}
use Rattle.math.proofs.algebra.Sum.{sum_ext}
use Rattle.math.proofs.algebra.Dot.{dot_comm, dot-mul_right, dot-sub_right}
use Rattle.math.proofs.algebra.Form.{pairs_ext, twice-form}
use Rattle.spec_leaves.specs.Rq.{Element}
use Rattle.spec_leaves.specs.Ring.{RqOps}
use Rattle.spec_leaves.proofs.RqRing.{rq_ring}
use Rattle.spec_leaves.proofs.Scalar.{rq_double_cancel}
use Rattle.spec_protocol.specs.Parameters.{parameters}
use Rattle.spec_protocol.specs.Views.{public}
use Rattle.spec_protocol.specs.Formulas.{◌⊕◌, ◌⊗◌, dot, left, a_sum, φ_sum, b_sum}
use Rattle.spec_protocol.specs.Verifier.{twice}
use Rattle.spec_binding.specs.Openings.{nil, neg}
use Rattle.theorem_soundness.specs.Weights.{IsUnit}
use Rattle.theorem_extraction.specs.Fork.{values, message_of, z_of, challenge_of, ◌⊖◌, Node, base, first, second, mixed, Used, x, y, Fork, GivesAway}
use Rattle.theorem_extraction.specs.Extracted.{extracted, Extracted}
use Rattle.theorem_extraction.proofs.Steps.{step}
use Rattle.theorem_extraction.proofs.Places.{step-none, step-first, step-second, one-step, other_step, both-steps, divided}
use Rattle.theorem_extraction.proofs.Quadratic.{Squares, squares-after, squares-one, squares-both, Lines, lines_after, lines-one, lines-both}
use Rattle.theorem_extraction.proofs.Search.{all-below, or_else}
use Rattle.theorem_extraction.proofs.Passes.{g-holds, h-holds, aggregated-holds}
use Rattle.theorem_extraction.proofs.SameWeights.{same-φ}
use Rattle.theorem_extraction.proofs.Mirrored.{all-pairs, g_mirror, h_mirror}
use Rattle.theorem_extraction.proofs.Compare.{mixed_or_zero, single_or_same}
use Rattle.theorem_extraction.proofs.Nodes.{C, first_t, dx, dy, Like, like, like_base, Moved, moved-base, moved-first, moved-second, moved_other, moved-mixed}
use Rattle.theorem_extraction.proofs.Nodes.{difference-first, difference-second, difference-mixed}

-- (p + p) + (q + q) = (q + p) + (q + p)
double_sum : (O : Ops) (R : CRing O) (p q : O.Carrier) → O.add (O.add p p) (O.add q q) ≡ O.add (O.add q p) (O.add q p)
double_sum O R p q = simp (ring, R)

module _ {J : List ℕ} (F : Fork J) where
  open parameters J use {n, r, κ}
  open public J [] use {A}

  -- z of a transcript; z, g, h and φ of the first; and the extracted vectors
  abbrev z_at : Node → ℕ → Element
  z_at v = z_of (F.branch v)

  abbrev Z : ℕ → Element
  Z = z_at base

  abbrev G : ℕ → ℕ → Element
  G = (message_of (F.branch base)).g

  abbrev H : ℕ → ℕ → Element
  H = (message_of (F.branch base)).h

  abbrev φ : ℕ → ℕ → Element
  φ = φ_sum (values (F.branch base))

  abbrev s : ℕ → ℕ → Element
  s = extracted F

  -- what holds where nothing is given away
  record Found : Type 0 where
    firsts : (i : ℕ) → i < r → Like F (first i)
    seconds : (i : ℕ) → i < r → Like F (second i)
    mixeds : (j : ℕ) → j < r → (i : ℕ) → i < j → Like F (mixed i j)
    singles : (i : ℕ) → i < r → (m : ℕ) → m < n → dy F i ⊗ (z_at (first i) m ⊖ Z m) ≡ dx F i ⊗ (z_at (second i) m ⊖ Z m)
    no_mixed : (j : ℕ) → j < r → (i : ℕ) → i < j → (m : ℕ) → m < n → z_at (mixed i j) m ⊖ z_at (first i) m ⊖ z_at (first j) m ⊕ Z m ≡ nil

  found : GivesAway J F.branch ⊎ Found
  found =
      or_else (all-below r (λ i. Like F (first i)) (λ i h. like F (first i) h)) (λ firsts.
      or_else (all-below r (λ i. Like F (second i)) (λ i h. like F (second i) h)) (λ seconds.
      or_else (all-below r (λ j. (i : ℕ) → i < j → Like F (mixed i j)) (λ j l. all-below j (λ i. Like F (mixed i j)) (λ i h. like F (mixed i j) (h, l)))) (λ mixeds.
      or_else (all-below r (λ i. (m : ℕ) → m < n → dy F i ⊗ (z_at (first i) m ⊖ Z m) ≡ dx F i ⊗ (z_at (second i) m ⊖ Z m)) (λ i h.
      single_or_same F.branch i (first i) base (second i) base (first_t F i) h (difference-first F i h (firsts i h)) (difference-second F i h (seconds i h)))) (λ singles.
      or_else (all-below r (λ j. (i : ℕ) → i < j → (m : ℕ) → m < n → z_at (mixed i j) m ⊖ z_at (first i) m ⊖ z_at (first j) m ⊕ Z m ≡ nil) (λ j l.
      all-below j (λ i. (m : ℕ) → m < n → z_at (mixed i j) m ⊖ z_at (first i) m ⊖ z_at (first j) m ⊕ Z m ≡ nil) (λ i h.
      mixed_or_zero F.branch (mixed i j) (first i) (first j) base (difference-mixed F i j h l (mixeds j l i h) (firsts i (omega arith)) (firsts j l))))) (λ no_mixed.
      inr (record { firsts = firsts; seconds = seconds; mixeds = mixeds; singles = singles; no_mixed = no_mixed }))))))

  -- x_i − c_i, y_i − c_i and their difference are units
  unit_x : (i : ℕ) → i < r → IsUnit RqOps (dx F i)
  unit_x i h = (F.inverse i, F.inverse_x i h)

  unit_x_y : (i : ℕ) → i < r → IsUnit RqOps (dx F i ⊖ dy F i)
  unit_x_y i h =
      let unit = F.unit_x_y i h in
      (unit.0, ap (λ e. e ⊗ unit.0) (sub_common RqOps rq_ring (x F.branch i) (neg (C F i)) (y F.branch i)) ∙ unit.1)

  -- A·s_i = t_i, by 24
  A-s : (i k : ℕ) → i < r → k < κ → Like F (first i) → dot n (A k) (s i) ≡ first_t F i k
  unfolding extracted
  A-s i k h l alike =
      dot-mul_right RqOps rq_ring n (F.inverse i) (A k) (λ m. z_at (first i) m ⊖ Z m)
      ∙ ap (◌⊗◌ (F.inverse i)) (dot-sub_right RqOps rq_ring n (A k) (z_at (first i)) Z ∙ difference-first F i h alike k l)
      ∙ mul_left_comm RqOps rq_ring (F.inverse i) (dx F i) (first_t F i k)
      ∙ divided RqOps rq_ring (dx F i) (F.inverse i) (first_t F i k) (F.inverse_x i h)

  -- z of a transcript is z of the first with δ·s_i and ε·s_j added
  abbrev Reached : Node → (i j : ℕ) → (δ ε : Element) → Type 0
  Reached v i j δ ε = (m : ℕ) → m < n → z_at v m ≡ step RqOps Z (s i) (s j) δ ε m

  reached_base : (i j : ℕ) → Reached base i j nil nil
  reached_base i j m l = step-none RqOps rq_ring Z (s i) (s j) m

  -- z^(i) = z + (x_i − c_i)·s_i
  z-first : (i m : ℕ) → i < r → z_at (first i) m ≡ Z m ⊕ dx F i ⊗ s i m
  unfolding extracted
  z-first i m h = one-step RqOps rq_ring (dx F i) (F.inverse i) (Z m) (z_at (first i) m) (F.inverse_x i h)

  reached_first : (i j : ℕ) → i < r → Reached (first i) i j (dx F i) nil
  reached_first i j h m l = z-first i m h ∙ step-first RqOps rq_ring Z (s i) (s j) (dx F i) m

  reached_other : (i j : ℕ) → j < r → Reached (first j) i j nil (dx F j)
  reached_other i j h m l = z-first j m h ∙ step-second RqOps rq_ring Z (s i) (s j) (dx F j) m

  module _ (known : Found) where
    -- z^(i') = z + (y_i − c_i)·s_i
    reached_second : (i j : ℕ) → i < r → Reached (second i) i j (dy F i) nil
    unfolding extracted
    reached_second i j h m l =
        other_step RqOps rq_ring (dx F i) (dy F i) (F.inverse i) (Z m) (z_at (first i) m) (z_at (second i) m) (F.inverse_x i h) (known.singles i h m l)
        ∙ step-first RqOps rq_ring Z (s i) (s j) (dy F i) m

    -- z^(ij) = z + (x_i − c_i)·s_i + (x_j − c_j)·s_j
    reached_mixed : (i j : ℕ) → i < j → j < r → Reached (mixed i j) i j (dx F i) (dx F j)
    unfolding step extracted
    reached_mixed i j h l m e =
        both-steps RqOps rq_ring (Z m) (z_at (first i) m) (z_at (first j) m) (z_at (mixed i j) m) (known.no_mixed j l i h m e)
        ∙ ap₂ (λ p q. Z m ⊕ p ⊕ q)
        (sym (divided RqOps rq_ring (dx F i) (F.inverse i) (z_at (first i) m ⊖ Z m) (F.inverse_x i (omega arith))))
        (sym (divided RqOps rq_ring (dx F j) (F.inverse j) (z_at (first j) m ⊖ Z m) (F.inverse_x j l)))

    -- 25 and 26 of a transcript
    squares : (v : Node) (i j : ℕ) (δ ε : Element) → Like F v → Moved F v i j δ ε → Reached v i j δ ε → Squares RqOps rq_ring n r i j (C F) Z s G δ ε
    squares v i j δ ε alike moved reached =
        squares-after RqOps rq_ring n r i j (C F) Z s G (z_at v) (challenge_of (F.branch v)) (message_of (F.branch v)).g δ ε reached moved alike.of_g (g-holds (F.branch v))

    lines : (v : Node) (i j : ℕ) (δ ε : Element) → Used r v → Like F v → Moved F v i j δ ε → Reached v i j δ ε → Lines RqOps rq_ring n r i j (C F) Z s H φ δ ε
    lines v i j δ ε used alike moved reached =
        lines_after RqOps rq_ring n r i j (C F) Z s H φ (z_at v) (challenge_of (F.branch v)) (φ_sum (values (F.branch v))) (message_of (F.branch v)).h δ ε reached moved
        (λ a m h l. sym (same-φ (F.branch base) (F.branch v) (F.same_weights v used) a m h l)) alike.of_h (h-holds (F.branch v))

    -- g_ii = ⟨s_i,s_i⟩
    g-one : (i : ℕ) → i < r → G i i ≡ dot n (s i) (s i)
    g-one i h =
        sym (squares-one RqOps rq_ring n r i i (C F) Z s G (dx F i) (dy F i) h (unit_x i h) (F.unit_y i h) (unit_x_y i h)
        (squares base i i nil nil (like_base F) (moved-base F i i) (reached_base i i))
        (squares (first i) i i (dx F i) nil (known.firsts i h) (moved-first F i i h) (reached_first i i h))
        (squares (second i) i i (dy F i) nil (known.seconds i h) (moved-second F i i h) (reached_second i i h)))

    -- g_ij = ⟨s_i,s_j⟩ for i < j
    g-both : (i j : ℕ) → i < j → j < r → G i j ≡ dot n (s i) (s j)
    g-both i j h l =
        let k : i < r = omega arith in
        rq_double_cancel (G i j) (dot n (s i) (s j))
        (ap (λ e. e ⊕ G i j) (g_mirror (F.branch base) i j)
        ∙ sym (squares-both RqOps rq_ring n r i j (C F) Z s G (dx F i) (dx F j) k l (unit_x i k) (unit_x j l)
        (squares base i j nil nil (like_base F) (moved-base F i j) (reached_base i j))
        (squares (first i) i j (dx F i) nil (known.firsts i k) (moved-first F i j k) (reached_first i j k))
        (squares (first j) i j nil (dx F j) (known.firsts j l) (moved_other F i j l) (reached_other i j l))
        (squares (mixed i j) i j (dx F i) (dx F j) (known.mixeds j l i h) (moved-mixed F i j h l) (reached_mixed i j h l)))
        ∙ ap (◌⊕◌ (dot n (s i) (s j))) (dot_comm RqOps rq_ring n (s j) (s i)))

    -- h_ii = ⟨φ_i,s_i⟩ + ⟨φ_i,s_i⟩
    h-one : (i : ℕ) → i < r → H i i ≡ dot n (φ i) (s i) ⊕ dot n (φ i) (s i)
    h-one i h =
        sym (lines-one RqOps rq_ring n r i i (C F) Z s H φ (dx F i) (dy F i) h (unit_x i h) (F.unit_y i h) (unit_x_y i h)
        (lines base i i nil nil (record {}) (like_base F) (moved-base F i i) (reached_base i i))
        (lines (first i) i i (dx F i) nil h (known.firsts i h) (moved-first F i i h) (reached_first i i h))
        (lines (second i) i i (dy F i) nil h (known.seconds i h) (moved-second F i i h) (reached_second i i h)))

    -- h_ij = ⟨φ_i,s_j⟩ + ⟨φ_j,s_i⟩ for i < j
    h-both : (i j : ℕ) → i < j → j < r → H i j ≡ dot n (φ i) (s j) ⊕ dot n (φ j) (s i)
    h-both i j h l =
        let k : i < r = omega arith in
        rq_double_cancel (H i j) (dot n (φ i) (s j) ⊕ dot n (φ j) (s i))
        (ap (λ e. e ⊕ H i j) (h_mirror (F.branch base) i j)
        ∙ sym (lines-both RqOps rq_ring n r i j (C F) Z s H φ (dx F i) (dx F j) k l (unit_x i k) (unit_x j l)
        (lines base i j nil nil (record {}) (like_base F) (moved-base F i j) (reached_base i j))
        (lines (first i) i j (dx F i) nil k (known.firsts i k) (moved-first F i j k) (reached_first i j k))
        (lines (first j) i j nil (dx F j) l (known.firsts j l) (moved_other F i j l) (reached_other i j l))
        (lines (mixed i j) i j (dx F i) (dx F j) (h, l) (known.mixeds j l i h) (moved-mixed F i j h l) (reached_mixed i j h l)))
        ∙ double_sum RqOps rq_ring (dot n (φ j) (s i)) (dot n (φ i) (s j)))

    g-all : (i j : ℕ) → i < r → j < r → G i j ≡ dot n (s i) (s j)
    g-all = all-pairs r (λ i j. G i j ≡ dot n (s i) (s j)) g-one g-both (λ i j e. g_mirror (F.branch base) i j ∙ e ∙ dot_comm RqOps rq_ring n (s j) (s i))

    h-all : (i j : ℕ) → i < r → j < r → H i j ≡ dot n (φ i) (s j) ⊕ dot n (φ j) (s i)
    h-all = all-pairs r (λ i j. H i j ≡ dot n (φ i) (s j) ⊕ dot n (φ j) (s i)) h-one h-both
        (λ i j e. h_mirror (F.branch base) i j ∙ e ∙ rq_ring.add_comm (dot n (φ j) (s i)) (dot n (φ i) (s j)))

    -- the aggregated constraint, by 27
    aggregated_equation : left (parameters J) (a_sum (values (F.branch base))) φ s ≡ b_sum (values (F.branch base)) (message_of (F.branch base)).b''
    aggregated_equation =
        let a = a_sum (values (F.branch base)) in
        rq_double_cancel (left (parameters J) a φ s) (b_sum (values (F.branch base)) (message_of (F.branch base)).b'')
        (sym (twice-form RqOps rq_ring r n a φ s)
        ∙ ap₂ (λ p q. twice p ⊕ q)
        (pairs_ext RqOps r (λ i j. a i j ⊗ dot n (s i) (s j)) (λ i j. a i j ⊗ G i j) (λ i j h l. ap (◌⊗◌ (a i j)) (sym (g-all i j h l))))
        (sum_ext RqOps r (λ i. dot n (φ i) (s i) ⊕ dot n (φ i) (s i)) (λ i. H i i) (λ i h. sym (h-all i i h h)))
        ∙ aggregated-holds (F.branch base))

    opens : Extracted F
    opens = record { of_t = λ i k h l. A-s i k h l (known.firsts i h); of_g = g-all; of_h = h-all; aggregated = aggregated_equation }

  -- T4: Item 13's vector for (B | C) or D, or a nonzero vector that A sends to 0 within its bound, or the extracted vectors have all that an honest prover's have
  pub extraction : GivesAway J F.branch ⊎ Extracted F
  extraction = or_else found (λ known. inr (opens known))
