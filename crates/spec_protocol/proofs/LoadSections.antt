-- The sections of a load have their counts and ranges.
use mathlib.Core.Path.{◌≡◌, refl, sym, ap, ◌∙◌}
use mathlib.Core.Bool.{cond}
use mathlib.Core.List.{List, [], ◌∷◌}
use Prim.Native.Nat.{ℕ, zero, suc, ◌+◌, ◌-◌, ◌*◌, ◌%◌, ◌<◌, ◌^◌}
use native.Mathlib.Nat.{mod-lt, div-lt_iff_lt-mul, add-zero, add-suc}
use native.Mathlib.Omega.{arith}
use lib.ListN.{length, get_or, set, replicate, length-replicate}
use Rattle.math.specs.lists.Table.{table}
use Rattle.math.proofs.lists.Table.{length-table, get_or-table}
use Rattle.spec_leaves.specs.Zq.{Q}
use Rattle.spec_leaves.specs.Ring.{canonical_mod}
use Rattle.spec_leaves.proofs.Cases.{ltb_cases}
use Rattle.spec_protocol.specs.Layout.{Range, free, under, Section, canonical}
use Rattle.spec_protocol.specs.Load.{Rule, by, later, state, word, sign, ternary, drawn, after}
use Rattle.spec_protocol.proofs.Sections.{InRange, Filled, none, more}

-- a word in a range
abbrev pub Good : Range → ℕ → Type 0
Good free w = Unit {0}
Good (under limit) w = w < limit

-- every state is a word
pub state_fits : (x k : ℕ) → x < 2 ^ 32 → state x k < 2 ^ 32
unfolding state
state_fits x zero h = h
state_fits x (suc k) h = mod-lt (state x k * 1664525 + 1013904223) (omega arith)

-- a draw goes on from the state that was reached
pub state-add : (x a b : ℕ) → state (state x a) b ≡ state x (a + b)
unfolding state
state-add x a zero = ap (state x) (sym (add-zero a))
state-add x a (suc b) = ap (λ y. (y * 1664525 + 1013904223) % 2 ^ 32) (state-add x a b) ∙ ap (state x) (sym (add-suc a b))

-- what each rule gives of a state
pub word-canonical : (x : ℕ) → x < 2 ^ 32 → word x < Q
unfolding word
word-canonical x h = ltb_cases (λ t. cond t x 0 < Q) x Q (λ l. l) (λ l. omega arith)

pub sign_bit : (x : ℕ) → x < 2 ^ 32 → sign x < 2
unfolding sign
sign_bit x h = (div-lt_iff_lt-mul {k = 2 ^ 31} {x = x} {y = 2} (omega arith)).1 (omega arith)

pub ternary-canonical : (x : ℕ) → x < 2 ^ 32 → ternary x < Q
unfolding ternary
ternary-canonical x h = canonical_mod (x % 3 + (Q - 1))

-- a rule for each section, whose words are in its range
pub data Suit : List Rule → List Section → Type 0 where
  end : Suit [] []
  draw : {f : ℕ → ℕ} {s : Section} {rules : List Rule} {ss : List Section} → ((x : ℕ) → x < 2 ^ 32 → Good s.range (f x)) → Suit rules ss → Suit (by f ∷ rules) (s ∷ ss)
  skip : {s : Section} {rules : List Rule} {ss : List Section} → Good s.range 0 → Suit rules ss → Suit (later ∷ rules) (s ∷ ss)

-- words that are each good are in range
in_range : (range : Range) (n : ℕ) (f : ℕ → ℕ) → ((k : ℕ) → Good range (f k)) → InRange range (table n f)
in_range free n f h = tt
in_range (under limit) n f h = λ k l. rw (get_or-table n f k 0 (rw length-table at l)) (h k)

-- a zero among zeros
pub get_or_zeros : (n k : ℕ) → ◌≡◌ {A = ℕ} (get_or (replicate n 0) k 0) 0
get_or_zeros zero k = refl
get_or_zeros (suc n) zero = refl
get_or_zeros (suc n) (suc k) = get_or_zeros n k

-- so are zeros
zeros_in_range : (range : Range) (n : ℕ) → Good range 0 → InRange range (replicate n 0)
zeros_in_range free n h = tt
zeros_in_range (under limit) n h = λ k l. rw (get_or_zeros n k) h

-- sections drawn by suitable rules are filled
pub drawn_filled : {rules : List Rule} {ss : List Section} → Suit rules ss → (x : ℕ) → x < 2 ^ 32 → Filled ss (drawn x rules ss)
unfolding drawn
drawn_filled end x h = none
drawn_filled (draw {f} {s} good suit) x h =
    more (length-table s.count (λ k. f (state x (k + 1)))) (in_range s.range s.count (λ k. f (state x (k + 1))) (λ k. good (state x (k + 1)) (state_fits x (k + 1) h)))
    (drawn_filled suit (state x s.count) (state_fits x s.count h))
drawn_filled (skip {s} good suit) x h = more (length-replicate {A = ℕ} s.count 0) (zeros_in_range s.range s.count good) (drawn_filled suit x h)

-- the state after them is a word
pub after_fits : {rules : List Rule} {ss : List Section} → Suit rules ss → (x : ℕ) → x < 2 ^ 32 → after x rules ss < 2 ^ 32
unfolding after
after_fits end x h = h
after_fits (draw {s = s} good suit) x h = after_fits suit (state x s.count) (state_fits x s.count h)
after_fits (skip good suit) x h = after_fits suit x h

-- a section replaced by another of its count and range
pub filled_set : {ss : List Section} {wss : List (List ℕ)} → Filled ss wss → (m : ℕ) (new : List ℕ) → length new ≡ (get_or ss m (canonical 0)).count
    → InRange (get_or ss m (canonical 0)).range new → Filled ss (set wss m new)
filled_set none m new e r = none
filled_set (more e r f) zero new e' r' = more e' r' f
filled_set (more e r f) (suc m) new e' r' = more e r (filled_set f m new e' r')
