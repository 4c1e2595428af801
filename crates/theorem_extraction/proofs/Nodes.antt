-- The transcripts of a fork: alike in t, g and h, or something is given away; their challenges as steps from those of the first; and A·z of each, by 24.
use mathlib.Core.Path.{◌≡◌, sym, ap, ap₂, ◌∙◌}
use mathlib.Core.Bool.{cond}
use mathlib.Core.List.{List}
use mathlib.Core.Logic.{◌⊎◌, inr, ◌≢◌}
use Prim.Native.Nat.{ℕ, ◌<◌}
use native.Mathlib.Omega.{arith}
use borrow.Author.Tests.{ne_eqb}
use Rattle.math.specs.algebra.Ops as Ops
use Rattle.math.specs.algebra.Ops.{Ops}
use Rattle.math.proofs.algebra.Ring.{CRing, ring, add_left_comm, add-neg, add_neg_cancel}
use Rattle.math.proofs.algebra.Sum.{sum_ext}
use Rattle.spec_leaves.specs.Rq.{Element}
use Rattle.spec_leaves.specs.Ring.{RqOps}
use Rattle.spec_leaves.proofs.RqRing.{rq_ring}
use Rattle.spec_protocol.specs.Parameters.{parameters}
use Rattle.spec_protocol.specs.Formulas.{◌⊕◌, ◌⊗◌, sum}
use Rattle.spec_binding.specs.Openings.{nil}
use Rattle.theorem_extraction.specs.Fork.{message_of, challenge_of, ◌⊖◌, Node, base, first, second, mixed, Used, changed, c, x, y, Fork, GivesAway}
use Rattle.theorem_extraction.proofs.Steps.{step, one_at, dot-step, dot-one_at}
use Rattle.theorem_extraction.proofs.Places.{step-none, step-first, step-second, one-changed}
use Rattle.theorem_extraction.proofs.Search.{or_else}
use Rattle.theorem_extraction.proofs.Passes.{t-holds}
use Rattle.theorem_extraction.proofs.Mirrored.{mirrored, g_mirror, h_mirror}
use Rattle.theorem_extraction.proofs.Compare.{alike_t_g, alike_h, A-z}

module _ (O : Ops) (R : CRing O) where
  open O use {Carrier, add as ◌⊕'◌, mul as ◌⊗'◌, neg as minus, nil as zero}

  infixl 60 ◌⊕'◌
  infixl 70 ◌⊗'◌
  -- (t + δ·a) − t = δ·a
  one-difference : (t a b d : Carrier) → t ⊕' d ⊗' a ⊕' zero ⊗' b ⊕' minus (t ⊕' zero ⊗' a ⊕' zero ⊗' b) ≡ d ⊗' a
  one-difference t a b d = simp (ring, R)

  -- t + δ·a + ε·b has no mixed difference
  no_mixed_difference : (t a b d e : Carrier) → t ⊕' d ⊗' a ⊕' e ⊗' b ⊕' minus (t ⊕' d ⊗' a ⊕' zero ⊗' b) ⊕' minus (t ⊕' zero ⊗' a ⊕' e ⊗' b) ⊕' (t ⊕' zero ⊗' a ⊕' zero ⊗' b) ≡ zero
  no_mixed_difference t a b d e = simp (ring, R) (none (a ⊗' d) (b ⊗' e))
    where
      none : (p q : Carrier) → p ⊕' (q ⊕' (minus p ⊕' minus q)) ≡ zero
      none p q = ap (λ w. p ⊕' w) (add_left_comm O R q (minus p) (minus q)) ∙ add_neg_cancel O R p (q ⊕' minus q) ∙ add-neg O R q

module _ {J : List ℕ} (F : Fork J) where
  open parameters J use {n, r, κ}

  -- the challenges of the first transcript, and its t
  abbrev pub C : ℕ → Element
  C = c F.branch

  abbrev pub first_t : ℕ → ℕ → Element
  first_t = (message_of (F.branch base)).t

  -- x_i − c_i and y_i − c_i
  abbrev pub dx : ℕ → Element
  dx i = x F.branch i ⊖ C i

  abbrev pub dy : ℕ → Element
  dy i = y F.branch i ⊖ C i

  -- a transcript with the t, g and h of the first
  pub record Like (v : Node) : Type 0 where
    pub of_t : (i k : ℕ) → i < r → k < κ → (message_of (F.branch v)).t i k ≡ first_t i k
    pub of_g : (i j : ℕ) → i < r → j < r → (message_of (F.branch v)).g i j ≡ (message_of (F.branch base)).g i j
    pub of_h : (i j : ℕ) → i < r → j < r → (message_of (F.branch v)).h i j ≡ (message_of (F.branch base)).h i j

  pub like : (v : Node) → Used r v → GivesAway J F.branch ⊎ Like v
  like v used =
      or_else (alike_t_g F.branch base v (F.same_u1 v used)) (λ tg.
      or_else (alike_h F.branch base v (F.same_u2 v used)) (λ same.
      inr (record {
        of_t = λ i k h l. sym (tg.of_t i k h l);
        of_g = mirrored r (message_of (F.branch v)).g (message_of (F.branch base)).g (g_mirror (F.branch v)) (g_mirror (F.branch base)) (λ i j h l. sym (tg.of_g i j h l));
        of_h = mirrored r (message_of (F.branch v)).h (message_of (F.branch base)).h (h_mirror (F.branch v)) (h_mirror (F.branch base)) (λ i j h l. sym (same i j h l));
      })))

  -- the first itself
  pub like_base : Like base
  like_base = record { of_t = λ i k h l. refl_of (first_t i k); of_g = λ i j h l. refl_of ((message_of (F.branch base)).g i j); of_h = λ i j h l. refl_of ((message_of (F.branch base)).h i j) }
    where
      refl_of : (e : Element) → e ≡ e
      refl_of e = λ t. e

  -- its challenges are c with δ added at i and ε at j
  abbrev pub Moved : Node → (i j : ℕ) → (δ ε : Element) → Type 0
  Moved v i j δ ε = (k : ℕ) → k < r → challenge_of (F.branch v) k ≡ step RqOps C (one_at RqOps i) (one_at RqOps j) δ ε k

  pub moved-base : (i j : ℕ) → Moved base i j nil nil
  moved-base i j k l = step-none RqOps rq_ring C (one_at RqOps i) (one_at RqOps j) k

  -- c with c_i → x
  at_one : (i : ℕ) (x : Element) (k : ℕ) → changed C i x k ≡ C k ⊕ (x ⊖ C i) ⊗ one_at RqOps i k
  unfolding changed
  at_one i x k = one-changed RqOps rq_ring C i x k

  pub moved-first : (i j : ℕ) → i < r → Moved (first i) i j (dx i) nil
  moved-first i j h k l = F.same_challenges (first i) h k l ∙ at_one i (x F.branch i) k ∙ step-first RqOps rq_ring C (one_at RqOps i) (one_at RqOps j) (dx i) k

  pub moved-second : (i j : ℕ) → i < r → Moved (second i) i j (dy i) nil
  moved-second i j h k l = F.same_challenges (second i) h k l ∙ at_one i (y F.branch i) k ∙ step-first RqOps rq_ring C (one_at RqOps i) (one_at RqOps j) (dy i) k

  pub moved_other : (i j : ℕ) → j < r → Moved (first j) i j nil (dx j)
  moved_other i j h k l = F.same_challenges (first j) h k l ∙ at_one j (x F.branch j) k ∙ step-second RqOps rq_ring C (one_at RqOps i) (one_at RqOps j) (dx j) k

  pub moved-mixed : (i j : ℕ) → i < j → j < r → Moved (mixed i j) i j (dx i) (dx j)
  unfolding changed step
  moved-mixed i j h l k below =
      F.same_challenges (mixed i j) (h, l) k below
      ∙ one-changed RqOps rq_ring (changed C i (x F.branch i)) j (x F.branch j) k
      ∙ ap₂ (λ a b. a ⊕ (x F.branch j ⊖ b) ⊗ one_at RqOps j k) (at_one i (x F.branch i) k) (ap (λ t. cond t (x F.branch i) (C j)) (ne_eqb j i (apart i j h)))
    where
      apart : (i j : ℕ) → i < j → j ≢ i
      apart i j h = omega arith

  -- 24 of changed challenges: A·z = Σ t_i·c_i + δ·t_i + ε·t_j
  pub A-after : (v : Node) (i j : ℕ) (δ ε : Element) → i < r → j < r → Like v → Moved v i j δ ε → (k : ℕ) → k < κ
      → A-z F.branch v k ≡ sum r (λ a. first_t a k ⊗ C a) ⊕ δ ⊗ first_t i k ⊕ ε ⊗ first_t j k
  unfolding Ops.dot
  A-after v i j δ ε h l alike moved k below =
      t-holds (F.branch v) k below
      ∙ sum_ext RqOps r (λ a. (message_of (F.branch v)).t a k ⊗ challenge_of (F.branch v) a) (λ a. first_t a k ⊗ step RqOps C (one_at RqOps i) (one_at RqOps j) δ ε a)
      (λ a q. ap₂ ◌⊗◌ (alike.of_t a k q below) (moved a q))
      ∙ dot-step RqOps rq_ring r (λ a. first_t a k) (one_at RqOps i) (one_at RqOps j) C (one_at RqOps i) (one_at RqOps j) δ ε
      ∙ ap₂ (λ p q. sum r (λ a. first_t a k ⊗ C a) ⊕ δ ⊗ p ⊕ ε ⊗ q) (dot-one_at RqOps rq_ring r i (λ a. first_t a k) h) (dot-one_at RqOps rq_ring r j (λ a. first_t a k) l)

  -- the difference of A·z along one challenge
  difference_along : (v : Node) (i : ℕ) (δ : Element) → i < r → Like v → Moved v i i δ nil → (k : ℕ) → k < κ → A-z F.branch v k ⊖ A-z F.branch base k ≡ δ ⊗ first_t i k
  difference_along v i δ h alike moved k below =
      ap₂ (λ p q. p ⊖ q) (A-after v i i δ nil h h alike moved k below) (A-after base i i nil nil h h like_base (moved-base i i) k below)
      ∙ one-difference RqOps rq_ring (sum r (λ a. first_t a k ⊗ C a)) (first_t i k) (first_t i k) δ

  pub difference-first : (i : ℕ) → i < r → Like (first i) → (k : ℕ) → k < κ → A-z F.branch (first i) k ⊖ A-z F.branch base k ≡ dx i ⊗ first_t i k
  difference-first i h alike = difference_along (first i) i (dx i) h alike (moved-first i i h)

  pub difference-second : (i : ℕ) → i < r → Like (second i) → (k : ℕ) → k < κ → A-z F.branch (second i) k ⊖ A-z F.branch base k ≡ dy i ⊗ first_t i k
  difference-second i h alike = difference_along (second i) i (dy i) h alike (moved-second i i h)

  -- there is no mixed difference of A·z
  pub difference-mixed : (i j : ℕ) → i < j → j < r → Like (mixed i j) → Like (first i) → Like (first j) → (k : ℕ) → k < κ
      → A-z F.branch (mixed i j) k ⊖ A-z F.branch (first i) k ⊖ A-z F.branch (first j) k ⊕ A-z F.branch base k ≡ nil
  difference-mixed i j h l both one other k below =
      ap₂ ◌⊕◌
      (ap₂ (λ p q. p ⊖ q)
      (ap₂ (λ p q. p ⊖ q)
      (A-after (mixed i j) i j (dx i) (dx j) (omega arith) l both (moved-mixed i j h l) k below)
      (A-after (first i) i j (dx i) nil (omega arith) l one (moved-first i j (omega arith)) k below))
      (A-after (first j) i j nil (dx j) (omega arith) l other (moved_other i j l) k below))
      (A-after base i j nil nil (omega arith) l like_base (moved-base i j) k below)
      ∙ no_mixed_difference RqOps rq_ring (sum r (λ a. first_t a k ⊗ C a)) (first_t i k) (first_t j k) (dx i) (dx j)
