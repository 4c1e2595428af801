-- The conjugate and the constant coefficient of an element: both are linear, and the constant coefficient of conj(a)·b is the inner product of the coefficients.
use mathlib.Core.Path.{◌≡◌, sym, ap, ap₂, ◌∙◌}
use mathlib.Core.Bool.{cond}
use Prim.Native.Nat.{ℕ, zero, suc, ◌-◌, ◌*◌, ◌%◌, ◌<◌}
use native.Mathlib.Nat as Nat
use native.Mathlib.Omega.{arith}
use lib.Dec.{lit<, eqb, eqb-suc-zero}
use Rattle.math.specs.lists.Sum.{Σ}
use Rattle.math.specs.algebra.Ops.{sum, dot}
use Rattle.math.proofs.algebra.Ring.{neg-neg, neg_dist, neg-mul, neg-nil}
use Rattle.math.proofs.algebra.Sum.{sum_ext, sum-map}
use Rattle.math.proofs.algebra.Antiperiodic.{Anti, extend, extend_anti, extend_below, conj_F, conj_at, conj_mul_F}
use Rattle.spec_leaves.specs.Zq.{Q, zneg}
use Rattle.spec_leaves.specs.Rq.{coeff, Element, rmul, rconj}
use Rattle.spec_leaves.specs.Ring.{Residue, residue, ZqOps, words, RqOps, scalar, scale, conj, constant}
use Rattle.spec_leaves.proofs.ZqRing.{zq_ring, residue-zneg}
use Rattle.spec_leaves.proofs.RqRing.{coefficient, element_path, coefficient-table, coefficient-radd, coefficient-rzero, coefficient-neg, coefficient-rscale}
use Rattle.spec_leaves.proofs.RqRing.{continued, carry, carry_below, carry_mul, AntiOps, carry_path, carry_add, carry_nil, word_mod, residue-products}
use Rattle.spec_leaves.proofs.Bridge.{words-mul, words-conj}
use Rattle.spec_leaves.proofs.Scalar.{continued_scale, coefficient-scalar-mul}

-- the coefficients of a conjugate
pub coefficient-conj : (a : Element) (k : ℕ) → k < 64 → coefficient (conj a) k ≡ conj_F ZqOps 64 (continued a) k
unfolding conj rconj conj_F
coefficient-conj a k h = coefficient-table (λ i. cond (eqb i 0) (coeff (words a) 0) (zneg (coeff (words a) (64 - i)))) k h ∙ each k h
  where
    each : (i : ℕ) → i < 64 → residue (cond (eqb i 0) (coeff (words a) 0) (zneg (coeff (words a) (64 - i)))) ≡ ZqOps.neg (continued a (64 - i))
    each zero l = sym (ap ZqOps.neg ((carry a).1 0) ∙ neg-neg ZqOps zq_ring (continued a 0) ∙ carry_below a 0 l)
    each (suc i) l =
        ap (λ b. residue (cond b (coeff (words a) 0) (zneg (coeff (words a) (64 - suc i))))) (eqb-suc-zero i)
        ∙ residue-zneg (coeff (words a) (64 - suc i))
        ∙ ap ZqOps.neg (sym (carry_below a (64 - suc i) (omega arith)))

-- the conjugate in Zq[X]/(X^64 + 1)
abbrev pub carried-conj : Element → Anti ZqOps 64
carried-conj a = (extend ZqOps 64 (conj_F ZqOps 64 (continued a)), extend_anti ZqOps zq_ring 64 (lit< tt) (conj_F ZqOps 64 (continued a)))

-- a conjugate is carried to the conjugate
pub carry_conj : (a : Element) → carry (conj a) ≡ carried-conj a
carry_conj a = carry_path (conj a) (carried-conj a) (λ k h. coefficient-conj a k h ∙ sym (extend_below ZqOps zq_ring 64 (lit< tt) (conj_F ZqOps 64 (continued a)) k h))

-- the conjugate of a conjugate
pub conj-conj : (a : Element) → conj (conj a) ≡ a
unfolding conj_F
conj-conj a = element_path (conj (conj a)) a (λ k h.
    coefficient-conj (conj a) k h
    ∙ ap ZqOps.neg (ap (λ (x : Anti ZqOps 64). x.0 (64 - k)) (carry_conj a) ∙ ap (extend ZqOps 64 (conj_F ZqOps 64 (continued a))) (sym (Nat.zero-add (64 - k)))
    ∙ conj_at ZqOps zq_ring 64 (lit< tt) (continued a) (carry a).1 k h)
    ∙ neg-neg ZqOps zq_ring (continued a k)
    ∙ carry_below a k h)

-- the conjugate of a sum
pub conj-add : (a b : Element) → conj (RqOps.add a b) ≡ RqOps.add (conj a) (conj b)
unfolding conj_F
conj-add a b = element_path (conj (RqOps.add a b)) (RqOps.add (conj a) (conj b)) (λ k h.
    coefficient-conj (RqOps.add a b) k h
    ∙ ap ZqOps.neg (ap (λ (x : Anti ZqOps 64). x.0 (64 - k)) (carry_add a b))
    ∙ neg_dist ZqOps zq_ring (continued a (64 - k)) (continued b (64 - k))
    ∙ ap₂ ZqOps.add (sym (coefficient-conj a k h)) (sym (coefficient-conj b k h))
    ∙ sym (coefficient-radd (words (conj a)) (words (conj b)) k h))

-- the conjugate of zero
pub conj-nil : conj RqOps.nil ≡ RqOps.nil
unfolding conj_F
conj-nil = element_path (conj RqOps.nil) RqOps.nil (λ k h.
    coefficient-conj RqOps.nil k h ∙ ap ZqOps.neg (ap (λ (x : Anti ZqOps 64). x.0 (64 - k)) carry_nil) ∙ neg-nil ZqOps zq_ring ∙ sym (coefficient-rzero k h))

-- the conjugate of a multiple
pub conj-scale : (a : Element) (c : ℕ) → conj (scale a c) ≡ scale (conj a) c
unfolding conj_F scale
conj-scale a c = element_path (conj (scale a c)) (scale (conj a) c) (λ k h.
    coefficient-conj (scale a c) k h
    ∙ ap ZqOps.neg (continued_scale a c (64 - k))
    ∙ sym (neg-mul ZqOps zq_ring (continued a (64 - k)) (residue c))
    ∙ ap (λ x. ZqOps.mul x (residue c)) (sym (coefficient-conj a k h))
    ∙ sym (coefficient-rscale (words (conj a)) c k h))

-- the conjugate of a finite sum
pub conj-sum : (n : ℕ) (f : ℕ → Element) → conj (sum RqOps n f) ≡ sum RqOps n (λ i. conj (f i))
conj-sum n f = sum-map RqOps RqOps conj conj-nil conj-add n f

-- the constant coefficient of zero
pub constant-nil : constant RqOps.nil ≡ ZqOps.nil
unfolding constant
constant-nil = coefficient-rzero 0 (lit< tt)

-- the constant coefficient of a sum
pub constant-add : (a b : Element) → constant (RqOps.add a b) ≡ ZqOps.add (constant a) (constant b)
unfolding constant
constant-add a b = coefficient-radd (words a) (words b) 0 (lit< tt)

-- the constant coefficient of a negative
pub constant-neg : (a : Element) → constant (RqOps.neg a) ≡ ZqOps.neg (constant a)
unfolding constant
constant-neg a = coefficient-neg a 0 (lit< tt)

-- the constant coefficient of a multiple
pub constant-scale : (a : Element) (c : ℕ) → constant (scale a c) ≡ ZqOps.mul (constant a) (residue c)
unfolding constant scale
constant-scale a c = coefficient-rscale (words a) c 0 (lit< tt)

-- the constant coefficient of the product of a number and an element
pub constant-scalar-mul : (c : ℕ) (a : Element) → constant (RqOps.mul (scalar c) a) ≡ ZqOps.mul (residue c) (constant a)
unfolding constant
constant-scalar-mul c a = coefficient-scalar-mul c a 0 (lit< tt)

-- the constant coefficient of a finite sum
pub constant-sum : (n : ℕ) (f : ℕ → Element) → constant (sum RqOps n f) ≡ sum ZqOps n (λ i. constant (f i))
constant-sum n f = sum-map RqOps ZqOps constant constant-nil constant-add n f

-- the number of the constant coefficient is the first word
pub constant-word : (a : Element) → (constant a).0 ≡ coeff (words a) 0
unfolding constant
constant-word a = word_mod a 0 (lit< tt)

-- the constant coefficient of conj(a)·b is the sum of the products of the coefficients
pub constant-conj-mul : (a b : Element) → constant (RqOps.mul (conj a) b) ≡ sum ZqOps 64 (λ i. ZqOps.mul (coefficient a i) (coefficient b i))
unfolding constant
constant-conj-mul a b =
    sym (carry_below (RqOps.mul (conj a) b) 0 (lit< tt))
    ∙ ap (λ (x : Anti ZqOps 64). x.0 0) (carry_mul (conj a) b ∙ ap (λ x. AntiOps.mul x (carry b)) (carry_conj a))
    ∙ conj_mul_F ZqOps zq_ring 64 (lit< tt) (continued a) (continued b) (carry a).1 (carry b).1
    ∙ sum_ext ZqOps 64 (λ i. ZqOps.mul (continued a i) (continued b i)) (λ i. ZqOps.mul (coefficient a i) (coefficient b i)) (λ i h. ap₂ ZqOps.mul (carry_below a i h) (carry_below b i h))

-- the same over the natural numbers, reduced once
pub constant-conj-Σ : (a b : Element) → constant (RqOps.mul (conj a) b) ≡ residue (Σ 64 (λ i. coeff (words a) i * coeff (words b) i))
constant-conj-Σ a b = constant-conj-mul a b ∙ sym (residue-products 64 (coeff (words a)) (coeff (words b)))

-- the same of the words
pub conj-mul-word : (a b : Element) → coeff (rmul (rconj (words a)) (words b)) 0 ≡ Σ 64 (λ i. coeff (words a) i * coeff (words b) i) % Q
conj-mul-word a b =
    ap (λ l. coeff (rmul l (words b)) 0) (sym (words-conj a))
    ∙ ap (λ l. coeff l 0) (sym (words-mul (conj a) b))
    ∙ sym (constant-word (RqOps.mul (conj a) b))
    ∙ ap (λ (x : Residue). x.0) (constant-conj-Σ a b)

-- the constant coefficient of an inner product with conjugates is the inner product of all coefficients
pub constant-conj-dot : (n : ℕ) (f g : ℕ → Element) → constant (dot RqOps n (λ j. conj (f j)) g) ≡ sum ZqOps n (λ j. sum ZqOps 64 (λ i. ZqOps.mul (coefficient (f j) i) (coefficient (g j) i)))
unfolding dot
constant-conj-dot n f g =
    constant-sum n (λ j. RqOps.mul (conj (f j)) (g j))
    ∙ sum_ext ZqOps n (λ j. constant (RqOps.mul (conj (f j)) (g j))) (λ j. sum ZqOps 64 (λ i. ZqOps.mul (coefficient (f j) i) (coefficient (g j) i))) (λ j h. constant-conj-mul (f j) (g j))
