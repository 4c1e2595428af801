use mathlib.Core.Path.{◌≡◌, refl, sym, ap, ◌∙◌}
use mathlib.Core.List.{List}
use Prim.Native.Nat.{ℕ, ◌+◌, ◌*◌, ◌≤◌, ◌<◌, ◌^◌}
use native.Mathlib.Nat.{zero-add}
use native.Mathlib.Omega.{arith}
use lib.ListN.{get_or, length-set}
use Rattle.math.specs.lists.Table.{table}
use Rattle.math.specs.lists.Part.{splice}
use Rattle.math.proofs.lists.Splice.{splice-nil}
use Rattle.math.proofs.lists.Fill.{added-stored, unfilled, get_or-splice-table}
use Rattle.ring_challenge_products.specs.Sums.{Entries, seven_sum}
use Rattle.ring_challenge_products.proofs.products.add_seven.Goals.{Start}
use Rattle.ring_challenge_products.proofs.products.add_seven.Goals as goal

-- an entry that is added
e_at : (e : List ℕ) (x k : ℕ) → Entries e → x ≤ 384 → k < 64 → get_or e (x + k) 0 ≤ 2 ^ 33
e_at e x k f h l = f.small (x + k) (omega arith)

-- seven of them
seven_small : (c : Start) (k : ℕ) → k < 64
    → seven_sum c.args.e.now c.args.a c.args.b c.args.c c.args.d c.args.p c.args.q c.args.s k ≤ 7 * 2 ^ 33
seven_small c k l =
    let e = c.args.e.now in
    let f = c.requires.1 in
    omega (
      arith,
      e_at e c.args.a k f (omega arith) l,
      e_at e c.args.b k f (omega arith) l,
      e_at e c.args.c k f (omega arith) l,
      e_at e c.args.d k f (omega arith) l,
      e_at e c.args.p k f (omega arith) l,
      e_at e c.args.q k f (omega arith) l,
      e_at e c.args.s k f (omega arith) l,
    )

pub loop-k-init : goal.loop-k-init
unfolding table
loop-k-init c = (omega arith, sym (splice-nil _ _), refl)

pub overflow_add-sums-in-loop-k-13 : goal.overflow_add-sums-in-loop-k-13
overflow_add-sums-in-loop-k-13 c =
    let s = (goal.at.overflow_add-sums-in-loop-k-13 c).Start in
    let m = c.loop-k in
    let l : m.k < 64 = omega arith in
    omega (arith, unfilled c.args.sums.now m.sums m.k m.k _ 0 m.invariant.1 (omega arith), c.requires.0.each m.k l, seven_small s m.k l)

pub loop-k-preserved : goal.loop-k-preserved
loop-k-preserved c =
    let l = c.loop-k in
    let s = c.args in
    let f : ℕ → ℕ = λ k. get_or s.sums.now k 0 + seven_sum s.e.now s.a s.b s.c s.d s.p s.q s.s k in
    (omega arith, added-stored s.sums.now l.sums l.k f _ l.invariant.1 refl, simp length-set l.invariant.2)

pub returns : goal.returns
returns c =
    let l = c.loop-k in
    let s = c.args in
    let h = c.requires in
    let f : ℕ → ℕ = λ k. get_or s.sums.now k 0 + seven_sum s.e.now s.a s.b s.c s.d s.p s.q s.s k in
    let n : l.k ≡ 64 = omega arith in record {
      count = l.invariant.2 ∙ h.0.count;
      each = λ k less.
          ap (λ r. get_or r k 0) (l.invariant.1 ∙ ap (λ m. splice s.sums.now 0 (table m f)) n)
          ∙ ap (λ i. get_or (splice s.sums.now 0 (table 64 f)) i 0) (sym (zero-add k))
          ∙ get_or-splice-table s.sums.now 0 64 f k 0 less (omega (arith, h.0.count));
    }

pub overflow_add-sums-in-loop-k-2 : goal.overflow_add-sums-in-loop-k-2
overflow_add-sums-in-loop-k-2 c = omega (arith, seven_small (goal.at.overflow_add-sums-in-loop-k-2 c).Start c.loop-k.k (omega arith))

pub overflow_add-sums-in-loop-k-4 : goal.overflow_add-sums-in-loop-k-4
overflow_add-sums-in-loop-k-4 c = omega (arith, seven_small (goal.at.overflow_add-sums-in-loop-k-4 c).Start c.loop-k.k (omega arith))

pub overflow_add-sums-in-loop-k-6 : goal.overflow_add-sums-in-loop-k-6
overflow_add-sums-in-loop-k-6 c = omega (arith, seven_small (goal.at.overflow_add-sums-in-loop-k-6 c).Start c.loop-k.k (omega arith))

pub overflow_add-sums-in-loop-k-8 : goal.overflow_add-sums-in-loop-k-8
overflow_add-sums-in-loop-k-8 c = omega (arith, seven_small (goal.at.overflow_add-sums-in-loop-k-8 c).Start c.loop-k.k (omega arith))

pub overflow_add-sums-in-loop-k-10 : goal.overflow_add-sums-in-loop-k-10
overflow_add-sums-in-loop-k-10 c = omega (arith, seven_small (goal.at.overflow_add-sums-in-loop-k-10 c).Start c.loop-k.k (omega arith))

pub overflow_add-sums-in-loop-k-12 : goal.overflow_add-sums-in-loop-k-12
overflow_add-sums-in-loop-k-12 c = omega (arith, seven_small (goal.at.overflow_add-sums-in-loop-k-12 c).Start c.loop-k.k (omega arith))
