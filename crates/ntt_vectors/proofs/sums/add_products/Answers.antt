-- `add_products` meets its contract.
use mathlib.Core.Path.{◌≡◌, sym, ◌∙◌, ap, ap₂}
use mathlib.Core.List.{List}
use Prim.Native.Nat.{ℕ, ◌+◌, ◌*◌}
use native.Mathlib.Omega.{arith}
use lib.ListN.{get_or, set}
use Rattle.math.specs.lists.Table.{table}
use Rattle.math.specs.lists.Part.{splice}
use Rattle.math.proofs.lists.Table.{length-table}
use Rattle.math.proofs.lists.Splice.{splice-nil, get_or-splice-after}
use Rattle.math.proofs.lists.Fill.{splice-table-next}
use Rattle.ntt_vectors.specs.Sums.{product_added}
use Rattle.ntt_vectors.proofs.sums.add_products.Goals as goal

-- sum k is the one lent, while the sums before it have their products added
untouched : (sums now : List ℕ) (at k : ℕ) (f : ℕ → ℕ) → now ≡ splice sums at (table k f) → get_or now (at + k) 0 ≡ get_or sums (at + k) 0
untouched sums now at k f e = ap (λ w. get_or w (at + k) 0) e ∙ get_or-splice-after sums at (table k f) (at + k) 0 (omega (arith, length-table k f))

pub loop-k-init : goal.loop-k-init
unfolding table
loop-k-init g c = sym (splice-nil _ _)

pub overflow_add-sums-in-loop-k : goal.overflow_add-sums-in-loop-k
overflow_add-sums-in-loop-k g c =
    let s = c.args in
    let l = c.loop-k in
    let same = untouched s.sums.now l.sums s.at l.k (product_added s.sums.now s.at s.x.now s.x_at s.y.now s.y_at) l.invariant in
    let product = ap₂ ◌*◌ c.from.ensures c.from-in-loop-k.ensures in
    omega (arith, same, product, c.requires.3 l.k (omega arith))

pub loop-k-preserved : goal.loop-k-preserved
loop-k-preserved g c =
    let s = c.args in
    let l = c.loop-k in
    let f : ℕ → ℕ = product_added s.sums.now s.at s.x.now s.x_at s.y.now s.y_at in
    let v = get_or l.sums (s.at + l.k) 0 + c.from.result * c.from-in-loop-k.result in
    let same = untouched s.sums.now l.sums s.at l.k f l.invariant in
    ap (λ w. set w (s.at + l.k) v) l.invariant ∙ splice-table-next s.sums.now s.at l.k f v (ap₂ ◌+◌ same (ap₂ ◌*◌ c.from.ensures c.from-in-loop-k.ensures))
