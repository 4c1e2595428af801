-- Two forks of a tree with the same t extract the same vectors, or w_i across the two is given away.
use mathlib.Core.Path.{◌≡◌, refl, sym, ap, ◌∙◌}
use mathlib.Core.List.{List, []}
use mathlib.Core.Logic.{◌⊎◌, inl, inr}
use Prim.Native.Nat.{ℕ, ◌<◌}
use Rattle.math.specs.algebra.Ops.{Ops}
use Rattle.math.proofs.algebra.Ring.{CRing, ring}
use Rattle.math.proofs.algebra.Dot.{dot-sub_right, dot-mul_right}
use Rattle.math.proofs.algebra.Form.{form_ext}
use Rattle.spec_leaves.specs.Rq.{Element}
use Rattle.spec_leaves.specs.Ring.{RqOps}
use Rattle.spec_leaves.proofs.RqRing.{rq_ring}
use Rattle.spec_protocol.specs.Parameters.{parameters}
use Rattle.spec_protocol.specs.Views.{Public, public}
use Rattle.spec_protocol.specs.Formulas.{◌⊗◌, dot, left, a_sum, φ_sum, b_sum}
use Rattle.spec_binding.specs.Openings.{SameTG}
use Rattle.theorem_extraction.specs.Fork.{Branch, values, message_of, z_of, ◌⊖◌, base, first, c, x, Fork, GivesAway, unlike_t_g, unlike_h, mixed_z, single_z}
use Rattle.theorem_extraction.specs.Extracted.{extracted, Extracted}
use Rattle.theorem_extraction.specs.Tree.{Place, root, Within, trunk, Tree, branches}
use Rattle.theorem_extraction.proofs.Places.{divided}
use Rattle.theorem_extraction.proofs.Search.{all-below, or_else}
use Rattle.theorem_extraction.proofs.Compare.{alike_t_g, single_or_same}
use Rattle.theorem_extraction.proofs.Extraction.{extraction}

-- d'·x = d·y gives x/d = y/d'
same_quotient : (O : Ops) (R : CRing O) (d f d' f' x y : O.Carrier) → O.mul d f ≡ O.one → O.mul d' f' ≡ O.one → O.mul d' x ≡ O.mul d y → O.mul f x ≡ O.mul f' y
same_quotient O R d f d' f' x y u u' e =
    ap (O.mul f) (sym (divided O R d' f' x u'))
    ∙ before d' f' f x
    ∙ ap (λ z. O.mul f (O.mul f' z)) e
    ∙ after d f f' y
    ∙ divided O R d f (O.mul f' y) u
  where
    before : (d' f' f x : O.Carrier) → O.mul f (O.mul d' (O.mul f' x)) ≡ O.mul f (O.mul f' (O.mul d' x))
    before d' f' f x = simp (ring, R)

    after : (d f f' y : O.Carrier) → O.mul f (O.mul f' (O.mul d y)) ≡ O.mul d (O.mul f (O.mul f' y))
    after d f f' y = simp (ring, R)

-- what some of a family of transcripts give away the family gives away
some_give : {J : List ℕ} {Index Some : Type 0} (branch : Index → Branch J) (f : Some → Index) → GivesAway J (λ v. branch (f v)) → GivesAway J branch
some_give branch f (unlike_t_g v w short) = unlike_t_g (f v) (f w) short
some_give branch f (unlike_h v w short) = unlike_h (f v) (f w) short
some_give branch f (mixed_z v w u o short) = mixed_z (f v) (f w) (f u) (f o) short
some_give branch f (single_z i v o w o' h short) = single_z i (f v) (f o) (f w) (f o') h short

-- where A·s_i = t_i, A·z^(i) and A·z differ by (x_i − c_i)·t_i
module _ {J : List ℕ} (F : Fork J) where
  open parameters J use {n, r, κ}
  open public J [] use {A}

  step-of_t : (i k : ℕ) (t : Element) → i < r → dot n (A k) (extracted F i) ≡ t
      → dot n (A k) (z_of (F.branch (first i))) ⊖ dot n (A k) (z_of (F.branch base)) ≡ (x F.branch i ⊖ c F.branch i) ⊗ t
  unfolding extracted
  step-of_t i k t h e =
      let step : Element = dot n (A k) (z_of (F.branch (first i))) ⊖ dot n (A k) (z_of (F.branch base)) in
      let quotient : F.inverse i ⊗ step ≡ t =
      ap (◌⊗◌ (F.inverse i)) (sym (dot-sub_right RqOps rq_ring n (A k) (z_of (F.branch (first i))) (z_of (F.branch base))))
      ∙ sym (dot-mul_right RqOps rq_ring n (F.inverse i) (A k) (λ m. z_of (F.branch (first i)) m ⊖ z_of (F.branch base) m))
      ∙ e
      in
      sym (divided RqOps rq_ring (x F.branch i ⊖ c F.branch i) (F.inverse i) step (F.inverse_x i h)) ∙ ap (◌⊗◌ (x F.branch i ⊖ c F.branch i)) quotient

-- s meets the aggregated constraint of a transcript
abbrev pub MeetsSum : {J : List ℕ} → Branch J → (ℕ → ℕ → Element) → Type 0
MeetsSum {J} X s = left (parameters J) (a_sum (values X)) (φ_sum (values X)) s ≡ b_sum (values X) (message_of X).b''

module _ {J : List ℕ} (T : Tree J) (p : Place) where
  open parameters J use {n, r}

  -- the vectors that the root and another fork extract
  same-extracted : Extracted (T.fork root) → Extracted (T.fork p) → SameTG J (trunk (T.fork root)).transcript (trunk (T.fork p)).transcript
      → GivesAway J (branches T) ⊎ ((i : ℕ) → i < r → (m : ℕ) → m < n → extracted (T.fork root) i m ≡ extracted (T.fork p) i m)
  unfolding extracted
  same-extracted E E' same = all-below r (λ i. (m : ℕ) → m < n → extracted F i m ≡ extracted G i m) (λ i h.
      or_else
      (single_or_same (branches T) i (root, first i) (root, base) (p, first i) (p, base) ((message_of (trunk F)).t i) h
      (λ k l. step-of_t F i k ((message_of (trunk F)).t i k) h (E.of_t i k h l))
      (λ k l. step-of_t G i k ((message_of (trunk F)).t i k) h (E'.of_t i k h l ∙ sym (same.of_t i k h l))))
      (λ crossed. inr (λ m l.
      same_quotient RqOps rq_ring (x F.branch i ⊖ c F.branch i) (F.inverse i) (x G.branch i ⊖ c G.branch i) (G.inverse i)
      (z_of (F.branch (first i)) m ⊖ z_of (F.branch base) m) (z_of (G.branch (first i)) m ⊖ z_of (G.branch base) m)
      (F.inverse_x i h) (G.inverse_x i h) (crossed m l))))
    where
      F : Fork J
      F = T.fork root

      G : Fork J
      G = T.fork p

  -- the root's vectors meet the aggregated constraint of a fork's first transcript
  pub fork-meets : Within (parameters J) p → GivesAway J (branches T) ⊎ MeetsSum (trunk (T.fork p)) (extracted (T.fork root))
  fork-meets within =
      or_else (of_fork root) (λ E.
      or_else (of_fork p) (λ E'.
      or_else (alike_t_g (branches T) (root, base) (p, base) (T.same_u1 p within)) (λ same.
      or_else (same-extracted E E' same) (λ alike.
      inr (same_left alike ∙ E'.aggregated)))))
    where
      Y : Public
      Y = values (trunk (T.fork p))

      same_left : ((i : ℕ) → i < r → (m : ℕ) → m < n → extracted (T.fork root) i m ≡ extracted (T.fork p) i m)
          → left (parameters J) (a_sum Y) (φ_sum Y) (extracted (T.fork root)) ≡ left (parameters J) (a_sum Y) (φ_sum Y) (extracted (T.fork p))
      same_left alike =
          form_ext RqOps r n (a_sum Y) (a_sum Y) (φ_sum Y) (φ_sum Y) (extracted (T.fork root)) (extracted (T.fork p)) (λ i j h l. refl) (λ i m h l. refl) (λ i m h l. alike i h m l)

      given : (q : Place) → GivesAway J (T.fork q).branch ⊎ Extracted (T.fork q) → GivesAway J (branches T) ⊎ Extracted (T.fork q)
      given q (inl g) = inl (some_give (branches T) (λ v. (q, v)) g)
      given q (inr E) = inr E

      of_fork : (q : Place) → GivesAway J (branches T) ⊎ Extracted (T.fork q)
      of_fork q = given q (extraction (T.fork q))
