use mathlib.Core.Path.{◌≡◌, sym, ◌∙◌, ap}
use mathlib.Core.List.{List}
use Prim.Native.Nat.{ℕ, ◌+◌, ◌≤◌, ◌<◌, ◌^◌}
use native.Mathlib.Nat.{add-zero}
use native.Mathlib.Omega.{arith}
use lib.ListN.{get_or}
use Rattle.math.specs.lists.Sum.{Σ}
use Rattle.math.proofs.lists.Sum.{Σ-suc}
use Rattle.ring_digit_products.specs.Small.{Factors}
use Rattle.ring_digit_products.proofs.small.four.Invariants.{begun, term}
use Rattle.ring_digit_products.proofs.small.four.Goals as goal

-- one more product
begun_next : (x y : List ℕ) (at start i sum next : ℕ) → begun x y at start i sum → next ≡ sum + term x y at i → next ≤ sum + 2 ^ 48 → begun x y at start (i + 1) next
begun_next x y at start i sum next h e l = (omega (arith, h.0, e, Σ-suc i (term x y at)), omega (arith, h.1, l))

-- what a product asks, `off` places on
asked : (x y : List ℕ) (at start off i sum : ℕ) → Factors x y at 67 start → begun x y (at + off) start i sum → i < 64 → off < 4
    → (sum ≤ 2 ^ 62) × (get_or x i 0 < 2 ^ 32) × (get_or y (at + off + i) 0 ≤ 2 ^ 16)
asked x y at start off i sum f h l o =
    let place : at + off + i ≡ at + (off + i) = omega arith in
    (omega (arith, h.1, f.first), f.words i (omega (arith, f.count)), omega (arith, ap (λ j. get_or y j 0) place, f.small (off + i) (omega arith)))

pub loop-i-init : goal.loop-i-init
unfolding Σ
loop-i-init c =
    let s = c.args.start in
    let none = sym (add-zero s) in
    (omega arith, (none, omega arith), (none, omega arith), (none, omega arith), (none, omega arith))

pub add_term-a-requires : goal.add_term-a-requires
add_term-a-requires c =
    let l = c.loop-i in
    let f = c.requires in
    (omega (arith, l.invariant.1.1, f.first), f.words l.i (omega (arith, f.count)), f.small l.i (omega arith))

pub add_term-b-requires : goal.add_term-b-requires
add_term-b-requires c =
    let l = c.loop-i in
    let s = c.args in
    asked s.x.now s.y.now s.at s.start 1 l.i l.b c.requires l.invariant.2 (omega arith) (omega arith)

pub add_term-c-requires : goal.add_term-c-requires
add_term-c-requires c =
    let l = c.loop-i in
    let s = c.args in
    asked s.x.now s.y.now s.at s.start 2 l.i l.c c.requires l.invariant.3 (omega arith) (omega arith)

pub add_term-d-requires : goal.add_term-d-requires
add_term-d-requires c =
    let l = c.loop-i in
    let s = c.args in
    asked s.x.now s.y.now s.at s.start 3 l.i l.d c.requires
    l.invariant.4 (omega arith) (omega arith)

pub loop-i-preserved : goal.loop-i-preserved
loop-i-preserved c =
    let l = c.loop-i in
    let s = c.args in
    let first = c.add_term-a.ensures in
    let second = c.add_term-b.ensures in
    let third = c.add_term-c.ensures in
    let fourth = c.add_term-d.ensures in
    let next : (at sum result : ℕ) → begun s.x.now s.y.now at s.start l.i sum → result ≡ sum + term s.x.now s.y.now at l.i → result ≤ sum + 2 ^ 48
    → begun s.x.now s.y.now at s.start (l.i + 1) result = λ at sum result. begun_next s.x.now s.y.now at s.start l.i sum result in (
      omega arith,
      next s.at _ _ l.invariant.1 first.0 first.1,
      next (s.at + 1) _ _ l.invariant.2 second.0 second.1,
      next (s.at + 2) _ _ l.invariant.3 third.0 third.1,
      next (s.at + 3) _ _ l.invariant.4 fourth.0 fourth.1,
    )

pub returns : goal.returns
returns c =
    let l = c.loop-i in
    let s = c.args in
    let start = c.requires.first in
    let n : l.i ≡ 64 = omega arith in
    let all : (at sum : ℕ) → begun s.x.now s.y.now at s.start l.i sum → sum ≡ s.start + Σ 64 (term s.x.now s.y.now at) = λ at sum h. h.0
    ∙ ap (λ m. s.start + Σ m (term s.x.now s.y.now at)) n in
    let most : (at sum : ℕ) → begun s.x.now s.y.now at s.start l.i sum
    → sum ≤ 2 ^ 55 = λ at sum h. omega (arith, h.1, start) in record {
      a_value = (all s.at l.a l.invariant.1, all (s.at + 1) l.b l.invariant.2);
      c_value = (
        all (s.at + 2) l.c l.invariant.3,
        all (s.at + 3) l.d l.invariant.4,
      );
      a_bound = (most s.at l.a l.invariant.1, most (s.at + 1) l.b l.invariant.2, most (s.at + 2) l.c l.invariant.3, most (s.at + 3) l.d l.invariant.4);
    }
