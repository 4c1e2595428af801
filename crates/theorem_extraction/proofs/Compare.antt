-- Transcripts compared: they are alike, or a short vector is given away.
use mathlib.Core.Path.{◌≡◌, sym, ap, ap₂, ◌∙◌}
use mathlib.Core.List.{List, [], List-discrete}
use mathlib.Core.Logic.{◌⊎◌, inl, inr}
use Prim.Native.Nat.{ℕ, ◌*◌, ◌≤◌, ◌<◌}
use Rattle.math.specs.lists.Table.{table}
use Rattle.math.proofs.lists.Table.{length-table, get_or-table}
use Rattle.math.specs.algebra.Ops as Ops
use Rattle.math.specs.algebra.Ops.{Ops}
use Rattle.math.proofs.algebra.Ring.{CRing, ring, eq_of_sub_nil}
use Rattle.math.proofs.algebra.Sum.{sum_ext}
use Rattle.math.proofs.algebra.Dot.{dot-add_right, dot-sub_right, dot-mul_right}
use Rattle.spec_leaves.specs.Rq.{Element}
use Rattle.spec_leaves.specs.Ring.{RqOps}
use Rattle.spec_leaves.proofs.RqRing.{rq_ring}
use Rattle.spec_protocol.specs.Parameters.{parameters}
use Rattle.spec_protocol.specs.Views.{public}
use Rattle.spec_protocol.specs.Formulas.{◌⊕◌, ◌⊗◌, sum, dot, norm_of, times}
use Rattle.spec_binding.specs.Openings.{nil, entry, EqualU1, EqualU2, SameTG, SameH, opening_1, opening_2, ShortKernel}
use Rattle.spec_binding.proofs.Binding.{binding_1, binding_2}
use Rattle.spec_binding.proofs.Bound.{same-t-g, same-h}
use Rattle.theorem_extraction.specs.Fork.{Branch, z_of, challenge_of, ◌⊖◌, w_mixed, w_single, z_limit, GivesAway, unlike_t_g, unlike_h, mixed_z, single_z}
use Rattle.theorem_extraction.proofs.Norms.{w_mixed-norm, w_single-norm}
use Rattle.theorem_extraction.proofs.Search.{element_discrete, all_same}

-- a row of a matrix times a table is the inner product
times-table : (M : ℕ → ℕ → Element) (n : ℕ) (f : ℕ → Element) (k : ℕ) → times M (table n f) k ≡ dot n (M k) f
unfolding times Ops.dot
times-table M n f k =
    ap (λ c. sum c (λ m. M k m ⊗ entry (table n f) m)) (length-table n f)
    ∙ sum_ext RqOps n (λ m. M k m ⊗ entry (table n f) m) (λ m. M k m ⊗ f m) (λ m l. ap (◌⊗◌ (M k m)) (get_or-table n f m nil l))

-- a vector that a matrix sends to zero, with its norm: it is zero, or a short vector that is given away
kernel_or_zero : (M : ℕ → ℕ → Element) (rows n bound : ℕ) (f : ℕ → Element) → ((k : ℕ) → k < rows → dot n (M k) f ≡ nil) → norm_of (table n f) ≤ bound
    → ShortKernel M rows n bound (table n f) ⊎ ((m : ℕ) → m < n → f m ≡ nil)
kernel_or_zero M rows n bound f zero short = go (all_same n f (λ m. nil))
  where
    go : Dec ((m : ℕ) → m < n → f m ≡ nil) → ShortKernel M rows n bound (table n f) ⊎ ((m : ℕ) → m < n → f m ≡ nil)
    go (yes all) = inr all
    go (no some) = inl (record {
      size = length-table n f;
      nonzero = λ none. some (λ m l. sym (get_or-table n f m nil l) ∙ none m l);
      to_zero = λ k l. times-table M n f k ∙ zero k l;
      short = short;
    })

-- of a family of branches
module _ {J : List ℕ} {Index : Type 0} (branch : Index → Branch J) where
  open parameters J use {n, r, κ}
  open public J [] use {A}

  -- two with equal u1: the same t and g, or their digits differ
  pub alike_t_g : (v w : Index) → EqualU1 J (branch v).transcript (branch w).transcript → GivesAway J branch ⊎ SameTG J (branch v).transcript (branch w).transcript
  alike_t_g v w equal = go (List-discrete element_discrete (opening_1 J (branch v).transcript) (opening_1 J (branch w).transcript))
    where
      go : Dec (opening_1 J (branch v).transcript ≡ opening_1 J (branch w).transcript) → GivesAway J branch ⊎ SameTG J (branch v).transcript (branch w).transcript
      go (yes e) = inr (same-t-g J (branch v).transcript (branch w).transcript (branch v).accepted (branch w).accepted e)
      go (no d) = inl (unlike_t_g v w (binding_1 J (branch v).transcript (branch w).transcript 0 0 (branch v).accepted (branch w).accepted equal d))

  -- two with equal u2: the same h, or its digits differ
  pub alike_h : (v w : Index) → EqualU2 J (branch v).transcript (branch w).transcript → GivesAway J branch ⊎ SameH J (branch v).transcript (branch w).transcript
  alike_h v w equal = go (List-discrete element_discrete (opening_2 J (branch v).transcript) (opening_2 J (branch w).transcript))
    where
      go : Dec (opening_2 J (branch v).transcript ≡ opening_2 J (branch w).transcript) → GivesAway J branch ⊎ SameH J (branch v).transcript (branch w).transcript
      go (yes e) = inr (same-h J (branch v).transcript (branch w).transcript (branch v).accepted (branch w).accepted e)
      go (no d) = inl (unlike_h v w (binding_2 J (branch v).transcript (branch w).transcript 0 0 (branch v).accepted (branch w).accepted equal d))

  -- A times z
  abbrev pub A-z : Index → ℕ → Element
  A-z v k = dot n (A k) (z_of (branch v))

  -- four of which A·z has no mixed difference: neither has z, or w_ij is given away
  pub mixed_or_zero : (v w u o : Index) → ((k : ℕ) → k < κ → A-z v k ⊖ A-z w k ⊖ A-z u k ⊕ A-z o k ≡ nil)
      → GivesAway J branch ⊎ ((m : ℕ) → m < n → z_of (branch v) m ⊖ z_of (branch w) m ⊖ z_of (branch u) m ⊕ z_of (branch o) m ≡ nil)
  unfolding w_mixed
  mixed_or_zero v w u o zero =
      go (kernel_or_zero A κ n (16 * z_limit J) f (λ k l. row k ∙ zero k l) (w_mixed-norm J (branch v).accepted (branch w).accepted (branch u).accepted (branch o).accepted))
    where
      f : ℕ → Element
      f m = z_of (branch v) m ⊖ z_of (branch w) m ⊖ z_of (branch u) m ⊕ z_of (branch o) m

      row : (k : ℕ) → dot n (A k) f ≡ A-z v k ⊖ A-z w k ⊖ A-z u k ⊕ A-z o k
      row k =
          dot-add_right RqOps rq_ring n (A k) (λ m. z_of (branch v) m ⊖ z_of (branch w) m ⊖ z_of (branch u) m) (z_of (branch o))
          ∙ ap (λ x. x ⊕ A-z o k)
          (dot-sub_right RqOps rq_ring n (A k) (λ m. z_of (branch v) m ⊖ z_of (branch w) m) (z_of (branch u))
          ∙ ap (λ x. x ⊖ A-z u k) (dot-sub_right RqOps rq_ring n (A k) (z_of (branch v)) (z_of (branch w))))

      go : ShortKernel A κ n (16 * z_limit J) (table n f) ⊎ ((m : ℕ) → m < n → f m ≡ nil) → GivesAway J branch ⊎ ((m : ℕ) → m < n → f m ≡ nil)
      go (inl short) = inl (mixed_z v w u o short)
      go (inr all) = inr all

  -- two pairs of which A·z differs by c's difference times the same t_i: so do their z, or w_i is given away
  pub single_or_same : (i : ℕ) (v o w o' : Index) (t : ℕ → Element)
      → i < r
      → ((k : ℕ) → k < κ → A-z v k ⊖ A-z o k ≡ (challenge_of (branch v) i ⊖ challenge_of (branch o) i) ⊗ t k)
      → ((k : ℕ) → k < κ → A-z w k ⊖ A-z o' k ≡ (challenge_of (branch w) i ⊖ challenge_of (branch o') i) ⊗ t k)
      → GivesAway J branch
      ⊎ ((m : ℕ) → m < n → (challenge_of (branch w) i ⊖ challenge_of (branch o') i) ⊗ (z_of (branch v) m ⊖ z_of (branch o) m)
      ≡ (challenge_of (branch v) i ⊖ challenge_of (branch o) i) ⊗ (z_of (branch w) m ⊖ z_of (branch o') m))
  unfolding w_single
  single_or_same i v o w o' t h first second =
      go (kernel_or_zero A κ n (408 * 408 * z_limit J) f zero (w_single-norm J i (branch v).accepted (branch o).accepted (branch w).accepted (branch o').accepted))
    where
      d : Element
      d = challenge_of (branch v) i ⊖ challenge_of (branch o) i

      d' : Element
      d' = challenge_of (branch w) i ⊖ challenge_of (branch o') i

      f : ℕ → Element
      f m = d' ⊗ (z_of (branch v) m ⊖ z_of (branch o) m) ⊖ d ⊗ (z_of (branch w) m ⊖ z_of (branch o') m)

      multiple : (e : Element) (v o : Index) (k : ℕ) → dot n (A k) (λ m. e ⊗ (z_of (branch v) m ⊖ z_of (branch o) m)) ≡ e ⊗ (A-z v k ⊖ A-z o k)
      multiple e v o k = dot-mul_right RqOps rq_ring n e (A k) (λ m. z_of (branch v) m ⊖ z_of (branch o) m) ∙ ap (◌⊗◌ e) (dot-sub_right RqOps rq_ring n (A k) (z_of (branch v)) (z_of (branch o)))

      crossed : (O : Ops) (R : CRing O) (a b x : O.Carrier) → O.add (O.mul a (O.mul b x)) (O.neg (O.mul b (O.mul a x))) ≡ O.nil
      crossed O R a b x = simp (ring, R)

      zero : (k : ℕ) → k < κ → dot n (A k) f ≡ nil
      zero k l =
          dot-sub_right RqOps rq_ring n (A k) (λ m. d' ⊗ (z_of (branch v) m ⊖ z_of (branch o) m)) (λ m. d ⊗ (z_of (branch w) m ⊖ z_of (branch o') m))
          ∙ ap₂ (λ x y. x ⊖ y) (multiple d' v o k ∙ ap (◌⊗◌ d') (first k l)) (multiple d w o' k ∙ ap (◌⊗◌ d) (second k l))
          ∙ crossed RqOps rq_ring d' d (t k)

      go : ShortKernel A κ n (408 * 408 * z_limit J) (table n f) ⊎ ((m : ℕ) → m < n → f m ≡ nil)
          → GivesAway J branch ⊎ ((m : ℕ) → m < n → d' ⊗ (z_of (branch v) m ⊖ z_of (branch o) m) ≡ d ⊗ (z_of (branch w) m ⊖ z_of (branch o') m))
      go (inl short) = inl (single_z i v o w o' h short)
      go (inr all) = inr (λ m l. eq_of_sub_nil RqOps rq_ring (d' ⊗ (z_of (branch v) m ⊖ z_of (branch o) m)) (d ⊗ (z_of (branch w) m ⊖ z_of (branch o') m)) (all m l))
