-- Rq is a commutative ring: an element's coefficients carry it into Zq[X]/(X^64 + 1), one to one and with every operation.
use mathlib.Core.Path.{◌≡◌, refl, sym, ap, ap₂, ◌∙◌}
use mathlib.Core.List.{List, [], ◌∷◌, is_set}
use mathlib.Core.HLevel.{×_prop, Π_prop, Σ_set, Σ_prop_path, prop→set}
use Prim.Native.Nat.{ℕ, zero, suc, ◌+◌, ◌-◌, ◌*◌, ◌%◌, ◌<◌}
use native.Mathlib.Nat as Nat
use native.Mathlib.Bridge.{le_prop}
use native.Mathlib.Omega.{arith}
use lib.Dec.{lit<}
use lib.ListN.{length, get_or}
use lib.Seq.{ext_get_or}
use Rattle.math.specs.lists.Table.{table}
use Rattle.math.specs.lists.Sum.{Σ}
use Rattle.math.proofs.lists.Table.{get_or-table}
use Rattle.math.specs.algebra.Ops.{Ops, sum}
use Rattle.math.proofs.algebra.Ring.{CRing, transfer, nil-add}
use Rattle.math.proofs.algebra.Sum.{sum_ext}
use Rattle.math.proofs.algebra.Antiperiodic.{Anti, extend, extend_below, extend_anti, const_F, mul_f, mul_F_coefficient, anti_ops, anti_path, anti_ring}
use Rattle.spec_leaves.specs.Zq.{Q, zadd, zsub, zmul}
use Rattle.spec_leaves.specs.Rq.{coeff, Element, rzero, radd, rsub, low, high, rmul, rscale}
use Rattle.spec_leaves.specs.Ring.{Residue, residue, ZqOps, IsElement, words, element, scalar, RqOps}
use Rattle.spec_leaves.proofs.ZqRing.{zq_ring, residue-reduced, residue-zadd, residue-zsub, residue-zmul, residue-mul, residue-Σ}

-- being the words of an element is a proposition
pub IsElement_prop : (l : List ℕ) → IsProp (IsElement l)
IsElement_prop l = ×_prop (Nat.ℕ_set (length l) 64) (Π_prop (λ k. Π_prop (λ h. le_prop)))

-- elements with the same words are equal
pub words_path : (a b : Element) → words a ≡ words b → a ≡ b
words_path a b e = Σ_prop_path IsElement_prop e

-- coefficient k of an element, as a canonical value
abbrev pub coefficient : Element → ℕ → Residue
coefficient a k = residue (coeff (words a) k)

-- a word of an element is its own remainder
pub word_mod : (a : Element) (k : ℕ) → k < 64 → coeff (words a) k % Q ≡ coeff (words a) k
word_mod a k h = Nat.mod-eq_of_lt (a.1.1 k (rw a.1.0 h))

-- elements whose coefficients agree below 64 are equal
pub element_path : (a b : Element) → ((k : ℕ) → k < 64 → coefficient a k ≡ coefficient b k) → a ≡ b
element_path a b h = words_path a b (ext_get_or 0 (words a) (words b) (a.1.0 ∙ sym b.1.0) (λ k l. same k (rw a.1.0 at l)))
  where
    same : (k : ℕ) → k < 64 → coeff (words a) k ≡ coeff (words b) k
    same k l = sym (word_mod a k l) ∙ ap (λ (x : Residue). x.0) (h k l) ∙ word_mod b k l

-- the coefficients of the element of a list
pub coefficient-element : (l : List ℕ) (k : ℕ) → k < 64 → coefficient (element l) k ≡ residue (coeff l k)
unfolding element
coefficient-element l k h = ap residue (get_or-table 64 (λ i. coeff l i % Q) k 0 h) ∙ residue-reduced (coeff l k)

-- the coefficients of the element of a table
pub coefficient-table : (f : ℕ → ℕ) (k : ℕ) → k < 64 → coefficient (element (table 64 f)) k ≡ residue (f k)
coefficient-table f k h = coefficient-element (table 64 f) k h ∙ ap residue (get_or-table 64 f k 0 h)

-- the coefficients of a sum
pub coefficient-radd : (a b : List ℕ) (k : ℕ) → k < 64 → coefficient (element (radd a b)) k ≡ ZqOps.add (residue (coeff a k)) (residue (coeff b k))
unfolding radd
coefficient-radd a b k h = coefficient-table (λ i. zadd (coeff a i) (coeff b i)) k h ∙ residue-zadd (coeff a k) (coeff b k)

-- the coefficients of a difference
pub coefficient-rsub : (a b : List ℕ) (k : ℕ) → k < 64 → coefficient (element (rsub a b)) k ≡ ZqOps.add (residue (coeff a k)) (ZqOps.neg (residue (coeff b k)))
unfolding rsub
coefficient-rsub a b k h = coefficient-table (λ i. zsub (coeff a i) (coeff b i)) k h ∙ residue-zsub (coeff a k) (coeff b k)

-- the coefficients of zero
pub coefficient-rzero : (k : ℕ) → k < 64 → coefficient (element rzero) k ≡ ZqOps.nil
unfolding rzero
coefficient-rzero k h = coefficient-table (λ i. 0) k h

-- the coefficients of a negative
pub coefficient-neg : (a : Element) (k : ℕ) → k < 64 → coefficient (RqOps.neg a) k ≡ ZqOps.neg (coefficient a k)
coefficient-neg a k h =
    coefficient-rsub rzero (words a) k h
    ∙ ap (λ x. ZqOps.add x (ZqOps.neg (coefficient a k))) (sym (coefficient-element rzero k h) ∙ coefficient-rzero k h)
    ∙ nil-add ZqOps zq_ring (ZqOps.neg (coefficient a k))

-- the coefficients of a multiple
pub coefficient-rscale : (a : List ℕ) (c k : ℕ) → k < 64 → coefficient (element (rscale a c)) k ≡ ZqOps.mul (residue (coeff a k)) (residue c)
unfolding rscale
coefficient-rscale a c k h = coefficient-table (λ i. zmul (coeff a i) c) k h ∙ residue-zmul (coeff a k) c

-- the coefficients of a product: the sum over i + j = k less the sum over i + j = k + 64
pub coefficient-rmul : (a b : List ℕ) (k : ℕ) → k < 64 → coefficient (element (rmul a b)) k ≡ ZqOps.add (residue (low a b k)) (ZqOps.neg (residue (high a b k)))
unfolding rmul
coefficient-rmul a b k h = coefficient-table (λ i. zsub (low a b i) (high a b i)) k h ∙ residue-zsub (low a b k) (high a b k)

-- the canonical value of a sum of products
pub residue-products : (n : ℕ) (f g : ℕ → ℕ) → residue (Σ n (λ i. f i * g i)) ≡ sum ZqOps n (λ i. ZqOps.mul (residue (f i)) (residue (g i)))
residue-products n f g = residue-Σ n (λ i. f i * g i) ∙ sum_ext ZqOps n (λ i. residue (f i * g i)) (λ i. ZqOps.mul (residue (f i)) (residue (g i))) (λ i l. residue-mul (f i) (g i))

-- the sum over i + j = k in Zq
pub residue-low : (a b : List ℕ) (k : ℕ) → residue (low a b k) ≡ sum ZqOps (k + 1) (λ i. ZqOps.mul (residue (coeff a i)) (residue (coeff b (k - i))))
unfolding low
residue-low a b k = residue-products (k + 1) (λ i. coeff a i) (λ i. coeff b (k - i))

-- the sum over i + j = k + 64 in Zq
pub residue-high : (a b : List ℕ) (k : ℕ) → residue (high a b k) ≡ sum ZqOps (63 - k) (λ i. ZqOps.mul (residue (coeff a (k + 1 + i))) (residue (coeff b (63 - i))))
unfolding high
residue-high a b k = residue-products (63 - k) (λ i. coeff a (k + 1 + i)) (λ i. coeff b (63 - i))

-- the coefficients of a number: the number, then zeros
pub coefficient-scalar : (c k : ℕ) → k < 64 → coefficient (scalar c) k ≡ const_F ZqOps (residue c) k
unfolding scalar const_F
coefficient-scalar c k h = coefficient-element (c ∷ []) k h ∙ first k
  where
    first : (i : ℕ) → residue (get_or (c ∷ []) i 0) ≡ const_F ZqOps (residue c) i
    first zero = refl
    first (suc i) = refl

-- Zq[X]/(X^64 + 1)
abbrev pub AntiOps : Ops
AntiOps = anti_ops ZqOps zq_ring 64 (lit< tt)

-- an element as a function on all of ℕ
abbrev pub continued : Element → ℕ → Residue
continued a = extend ZqOps 64 (coefficient a)

-- an element in Zq[X]/(X^64 + 1)
abbrev pub carry : Element → Anti ZqOps 64
carry a = (continued a, extend_anti ZqOps zq_ring 64 (lit< tt) (coefficient a))

-- coefficient k below 64 of the element carried
pub carry_below : (a : Element) (k : ℕ) → k < 64 → continued a k ≡ coefficient a k
carry_below a k h = extend_below ZqOps zq_ring 64 (lit< tt) (coefficient a) k h

-- an element is carried to whatever has its coefficients
pub carry_path : (a : Element) (f : Anti ZqOps 64) → ((k : ℕ) → k < 64 → coefficient a k ≡ f.0 k) → carry a ≡ f
carry_path a f h = anti_path ZqOps zq_ring 64 (lit< tt) (carry a) f (λ k l. carry_below a k l ∙ h k l)

-- elements carried to the same are equal
pub carry_inj : (a b : Element) → carry a ≡ carry b → a ≡ b
carry_inj a b e = element_path a b (λ k l. sym (carry_below a k l) ∙ ap (λ (x : Anti ZqOps 64). x.0 k) e ∙ carry_below b k l)

-- a sum is carried to the sum
pub carry_add : (a b : Element) → carry (RqOps.add a b) ≡ AntiOps.add (carry a) (carry b)
carry_add a b = carry_path (RqOps.add a b) (AntiOps.add (carry a) (carry b)) (λ k l. coefficient-radd (words a) (words b) k l ∙ ap₂ ZqOps.add (sym (carry_below a k l)) (sym (carry_below b k l)))

-- a negative is carried to the negative
pub carry_neg : (a : Element) → carry (RqOps.neg a) ≡ AntiOps.neg (carry a)
carry_neg a = carry_path (RqOps.neg a) (AntiOps.neg (carry a)) (λ k l. coefficient-neg a k l ∙ ap ZqOps.neg (sym (carry_below a k l)))

-- zero is carried to zero
pub carry_nil : carry RqOps.nil ≡ AntiOps.nil
carry_nil = carry_path RqOps.nil AntiOps.nil coefficient-rzero

-- the constant in Zq[X]/(X^64 + 1)
abbrev pub carried-constant : ℕ → Anti ZqOps 64
carried-constant c = (extend ZqOps 64 (const_F ZqOps (residue c)), extend_anti ZqOps zq_ring 64 (lit< tt) (const_F ZqOps (residue c)))

-- a number is carried to the constant
pub carry_scalar : (c : ℕ) → carry (scalar c) ≡ carried-constant c
carry_scalar c = carry_path (scalar c) (carried-constant c) (λ k l. coefficient-scalar c k l ∙ sym (extend_below ZqOps zq_ring 64 (lit< tt) (const_F ZqOps (residue c)) k l))

-- a product is carried to the product
pub carry_mul : (a b : Element) → carry (RqOps.mul a b) ≡ AntiOps.mul (carry a) (carry b)
carry_mul a b = carry_path (RqOps.mul a b) (AntiOps.mul (carry a) (carry b)) same
  where
    same : (k : ℕ) → k < 64 → coefficient (RqOps.mul a b) k ≡ mul_f ZqOps 64 (continued a) (continued b) k
    same k h =
        coefficient-rmul (words a) (words b) k h
        ∙ ap₂ (λ x y. ZqOps.add x (ZqOps.neg y))
        (residue-low (words a) (words b) k
        ∙ sum_ext ZqOps (k + 1) (λ i. ZqOps.mul (coefficient a i) (coefficient b (k - i))) (λ i. ZqOps.mul (continued a i) (continued b (k - i)))
        (λ i l. ap₂ ZqOps.mul (sym (carry_below a i (omega arith))) (sym (carry_below b (k - i) (omega arith)))))
        (residue-high (words a) (words b) k
        ∙ sum_ext ZqOps (63 - k) (λ i. ZqOps.mul (coefficient a (k + 1 + i)) (coefficient b (63 - i))) (λ i. ZqOps.mul (continued a (k + 1 + i)) (continued b (63 - i)))
        (λ i l. ap₂ ZqOps.mul (sym (carry_below a (k + 1 + i) (omega arith))) (sym (carry_below b (63 - i) (omega arith)))))
        ∙ sym (mul_F_coefficient ZqOps zq_ring 64 (lit< tt) (continued a) (continued b) (carry b).1 k h)

-- Rq is a commutative ring
pub rq_ring : CRing RqOps
rq_ring = transfer RqOps AntiOps (anti_ring ZqOps zq_ring 64 (lit< tt)) (Σ_set (is_set Nat.ℕ_set) (λ l. prop→set (IsElement_prop l))) carry carry_inj carry_add carry_mul
    carry_neg carry_nil (carry_scalar 1)
