-- The canonical values and the ring elements with their operations: the rings Zq and Rq. proofs/ has their laws.
use Rattle.std.specs.Prelude.{◌≡◌, List, [], ◌∷◌, ℕ, ◌+◌, ◌-◌, ◌*◌, ◌%◌, length}
use Rattle.std.proofs.Common.{sym, subst, mod-lt, arith}
use Rattle.math.specs.lists.Table.{table}
use Rattle.math.proofs.lists.Table.{length-table, get_or-table}
use Rattle.math.specs.algebra.Ops.{Ops}
use Rattle.spec_leaves.specs.Zq.{Q, Canonical}
use Rattle.spec_leaves.specs.Rq.{coeff, AllCanonical, Element, rzero, radd, rsub, rmul, rscale, rconj}

-- a canonical value
abbrev pub Residue : Type 0
Residue = (a : ℕ) × Canonical a

-- a remainder by Q is canonical
pub canonical_mod : (a : ℕ) → Canonical (a % Q)
canonical_mod a = mod-lt a (omega arith)

-- the canonical value of a number
abbrev pub residue : ℕ → Residue
residue a = (a % Q, canonical_mod a)

-- Zq: the canonical values with addition, multiplication and negation modulo Q
abbrev pub ZqOps : Ops
ZqOps = record {
  Carrier = Residue;
  add = λ a b. residue (a.0 + b.0);
  mul = λ a b. residue (a.0 * b.0);
  neg = λ a. residue (Q - a.0);
  nil = residue 0;
  one = residue 1;
}

-- whether a list is the words of an element
abbrev pub IsElement : List ℕ → Type 0
IsElement a = (length a ≡ 64) × AllCanonical a

-- the words of an element
abbrev pub words : Element → List ℕ
words a = a.0

-- a table of 64 canonical values is the words of an element
pub table_element : (f : ℕ → ℕ) → ((k : ℕ) → Canonical (f k)) → IsElement (table 64 f)
table_element f h = (length-table 64 f, λ k l. subst Canonical (sym (get_or-table 64 f k 0 (rw length-table at l))) (h k))

-- the element of any list: its coefficients, each reduced
unfoldable pub element : List ℕ → Element
element l = (table 64 (λ k. coeff l k % Q), table_element (λ k. coeff l k % Q) (λ k. canonical_mod (coeff l k)))

-- a number as an element
unfoldable pub scalar : ℕ → Element
scalar c = element (c ∷ [])

-- Rq: the elements with their sum, product and negative
abbrev pub RqOps : Ops
RqOps = record {
  Carrier = Element;
  add = λ a b. element (radd (words a) (words b));
  mul = λ a b. element (rmul (words a) (words b));
  neg = λ a. element (rsub rzero (words a));
  nil = element rzero;
  one = scalar 1;
}

-- the product of an element with a number
unfoldable pub scale : Element → ℕ → Element
scale a c = element (rscale (words a) c)

-- the conjugate of an element
unfoldable pub conj : Element → Element
conj a = element (rconj (words a))

-- the constant coefficient of an element
unfoldable pub constant : Element → Residue
constant a = residue (coeff (words a) 0)
