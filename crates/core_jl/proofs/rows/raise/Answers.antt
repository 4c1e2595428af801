use mathlib.Core.Path.{◌≡◌, refl, sym, ◌∙◌, ap}
use mathlib.Core.List.{List}
use Prim.Native.Nat.{ℕ, ◌+◌}
use native.Mathlib.Omega.{arith}
use lib.ListN.{length, get_or}
use Rattle.math.specs.lists.Table.{table}
use Rattle.math.specs.lists.Part.{splice}
use Rattle.math.proofs.lists.Table.{length-table}
use Rattle.math.proofs.lists.Splice.{splice-nil, length-splice, get_or-splice-after}
use Rattle.math.proofs.lists.Fill.{entry-stored}
use Rattle.core_jl.specs.Rows.{raised}
use Rattle.core_jl.proofs.rows.raise.Goals as goal

-- the next sum is as it was
unraised : (l before rows : List ℕ) (j t : ℕ) → before ≡ splice l j (table t (raised l j rows)) → get_or before (j + t) 0 + get_or rows t 0 ≡ raised l j rows t
unraised l before rows j t e =
    ap (λ b. get_or b (j + t) 0 + get_or rows t 0) e
    ∙ ap (λ x. x + get_or rows t 0) (get_or-splice-after l j (table t (raised l j rows)) (j + t) 0 (omega (arith, length-table t (raised l j rows))))

pub loop-t-init : goal.loop-t-init
unfolding table
loop-t-init c = (sym (splice-nil _ _), refl)

pub loop-t-preserved : goal.loop-t-preserved
loop-t-preserved c =
    let s = c.args in
    let l = c.loop-t in
    let is = unraised s.sums.now l.sums s.rows s.j l.t l.invariant.0 in
    let stored = entry-stored s.sums.now l.sums s.j l.t (raised s.sums.now s.j s.rows) _ l.invariant.0 is in
    (stored, ap length stored ∙ length-splice _ _ _)

pub returns : goal.returns
returns c =
    let s = c.args in
    let n : c.loop-t.t ≡ 4 = omega arith in
    c.loop-t.invariant.0 ∙ ap (λ k. splice s.sums.now s.j (table k (raised s.sums.now s.j s.rows))) n

pub overflow_add-sums-in-loop-t : goal.overflow_add-sums-in-loop-t
overflow_add-sums-in-loop-t c =
    let s = c.args in
    let l = c.loop-t in
    omega (arith, unraised s.sums.now l.sums s.rows s.j l.t l.invariant.0, c.requires.1 l.t (omega arith))
