-- The limits of the parameters, one by one, and what a section one that is refused nothing says.
use mathlib.Core.Path.{◌≡◌, sym, ap, subst, ◌∙◌}
use mathlib.Core.Bool.{cond}
use mathlib.Core.List.{List, [], ◌∷◌}
use Prim.Native.Nat.{ℕ, ◌+◌, ◌≤◌, ◌<◌}
use native.Mathlib.Decide.{dec_le}
use native.Mathlib.Omega.{arith}
use borrow.Author.Tests.{lt-ltb, le-ltb}
use lib.ListN.{get_or}
use Rattle.spec_leaves.specs.Zq.{top_Q}
use Rattle.spec_leaves.specs.Answer.{fine, refused, ◌then◌}
use Rattle.spec_leaves.specs.Leaf.{limited}
use Rattle.spec_leaves.proofs.Leaf.{within-fine, limited-fine}
use Rattle.spec_protocol.specs.Checks.{require, first}
use Rattle.spec_protocol.specs.Parameters.{Parameters, parameters, rounded_up, some_constraint, limits, enough_aggregations}
use Rattle.spec_protocol.specs.Layout.{span, counted, first_section}
use Rattle.spec_protocol.proofs.Fine.{require-holds, require_fails, required, refused_not-fine, then_fine_left, then_fine_right}
use Rattle.spec_protocol.proofs.Checks.{then_fine}
use Rattle.spec_protocol.proofs.Then.{then_assoc}
use Rattle.spec_protocol.proofs.First.{first-each}
use Rattle.spec_protocol.proofs.Laid.{counted-inside}
use Rattle.relation_env_params.specs.SectionOne.{Within, Sound}
use Rattle.layout_section_one.specs.SectionOne.{section_one, limit_at, least_l}

-- a value below its least
pub limited-low : (least greatest place x : ℕ) → x < least → refused 4 place ≡ limited least greatest place x
limited-low least greatest place x h = rw (lt-ltb x least h)

-- a value above its greatest
pub limited-high : (least greatest place x : ℕ) → least ≤ x → greatest < x → refused 4 place ≡ limited least greatest place x
limited-high least greatest place x h g = rw (le-ltb x least h, lt-ltb greatest x g)

-- the least and the greatest values by place, of a least l; the count is 30
abbrev pub least : ℕ → List ℕ
least l = 30 ∷ 1 ∷ 1 ∷ 1 ∷ 1 ∷ 1 ∷ 0 ∷ l ∷ 16 ∷ 2 ∷ 1 ∷ 1 ∷ 1 ∷ []

abbrev pub greatest : List ℕ
greatest = 30 ∷ 64 ∷ 16 ∷ 16 ∷ 16 ∷ 16 ∷ 64 ∷ 64 ∷ 32 ∷ top_Q ∷ 32 ∷ 32 ∷ 32 ∷ []

-- l from its least value on is l from 0 on, and not both 0
l-limited : (K l : ℕ) → limited (least_l K) 64 7 l ≡ limited 0 64 7 l then require (dec_le 1 (K + l)) (refused 4 7)
l-limited K l = go (dec_le 1 K) (dec_le 1 l)
  where
    go : Dec (1 ≤ K) → Dec (1 ≤ l) → limited (least_l K) 64 7 l ≡ limited 0 64 7 l then require (dec_le 1 (K + l)) (refused 4 7)
    go (yes k) d =
        ap (λ t. limited (cond t 0 1) 64 7 l) (lt-ltb 0 K k)
        ∙ sym (ap (λ a. limited 0 64 7 l then a) (require-holds (dec_le 1 (K + l)) (refused 4 7) (omega arith)) ∙ then_fine (limited 0 64 7 l))
    go (no k) (yes h) =
        ap (λ t. limited (cond t 0 1) 64 7 l) (le-ltb 0 K (omega arith))
        ∙ (let down : limited 1 64 7 l ≡ limited 0 64 7 l = rw (le-ltb l 1 h, le-ltb l 0 (omega arith)) in down)
        ∙ sym (ap (λ a. limited 0 64 7 l then a) (require-holds (dec_le 1 (K + l)) (refused 4 7) (omega arith)) ∙ then_fine (limited 0 64 7 l))
    go (no k) (no h) =
        ap (λ t. limited (cond t 0 1) 64 7 l) (le-ltb 0 K (omega arith))
        ∙ sym (limited-low 1 64 7 l (omega arith))
        ∙ sym (ap (λ a. a then require (dec_le 1 (K + l)) (refused 4 7)) (within-fine 4 0 64 7 l (omega arith) (omega arith)) ∙ require_fails (dec_le 1 (K + l)) (refused 4 7) (λ both. omega arith))

-- the limits one after the other are those of the lists
pub limits-first : (J : List ℕ) → first 12 (limit_at (least (least_l (get_or J 6 0))) greatest J) ≡ limits (parameters J)
unfolding first limits
limits-first J =
    let P = parameters J in
    let head = limited 1 64 1 P.n then limited 1 16 2 P.r then limited 1 16 3 P.κ then limited 1 16 4 P.κ₁ then limited 1 16 5 P.κ₂ then limited 0 64 6 P.K in
    ap (λ a. a then limited 16 32 8 P.log_q then limited 2 top_Q 9 P.b then limited 1 32 10 P.t₁ then limited 1 32 11 P.t₂ then limited 1 32 12 P.L)
    (ap (λ a. head then a) (l-limited P.K P.l) ∙ sym (then_assoc head (limited 0 64 7 P.l) (some_constraint P)))

-- the same of a least l that is worked out
pub limits-by : (J : List ℕ) (l : ℕ) → l ≡ least_l (get_or J 6 0) → first 12 (limit_at (least l) greatest J) ≡ limits (parameters J)
limits-by J l e = ap (λ m. first 12 (limit_at (least m) greatest J)) e ∙ limits-first J

module _ (J : List ℕ) (e : limits (parameters J) ≡ fine) where
  one : (k : ℕ) → k < 12 → limit_at (least (least_l (get_or J 6 0))) greatest J k ≡ fine
  one = first-each 12 (limit_at (least (least_l (get_or J 6 0))) greatest J) (limits-first J ∙ e)

  -- parameters whose limits are refused nothing are within them
  pub within : Within (parameters J)
  within = record {
    n = limited-fine 4 1 64 1 (get_or J 1 0) (one 0 (omega arith));
    r = limited-fine 4 1 16 2 (get_or J 2 0) (one 1 (omega arith));
    κ = limited-fine 4 1 16 3 (get_or J 3 0) (one 2 (omega arith));
    κ₁ = limited-fine 4 1 16 4 (get_or J 4 0) (one 3 (omega arith));
    κ₂ = limited-fine 4 1 16 5 (get_or J 5 0) (one 4 (omega arith));
    K = limited-fine 4 0 64 6 (get_or J 6 0) (one 5 (omega arith));
    l = (omega arith, (limited-fine 4 (least_l (get_or J 6 0)) 64 7 (get_or J 7 0) (one 6 (omega arith))).1);
    log_q = limited-fine 4 16 32 8 (get_or J 8 0) (one 7 (omega arith));
    b = limited-fine 4 2 top_Q 9 (get_or J 9 0) (one 8 (omega arith));
    t₁ = limited-fine 4 1 32 10 (get_or J 10 0) (one 9 (omega arith));
    t₂ = limited-fine 4 1 32 11 (get_or J 11 0) (one 10 (omega arith));
    L = limited-fine 4 1 32 12 (get_or J 12 0) (one 11 (omega arith));
  }

-- L against its least, of parameters that are those of a record
module _ (P Q : Parameters) (e : Q ≡ P) where
  pub enough : rounded_up Q.log_q ≤ Q.L → fine ≡ enough_aggregations P
  unfolding enough_aggregations
  enough h = sym (subst (λ P. enough_aggregations P ≡ fine) e (require-holds (dec_le (rounded_up Q.log_q) Q.L) (refused 5 12) h))

  pub too_few : Q.L < rounded_up Q.log_q → refused 5 12 ≡ enough_aggregations P
  unfolding enough_aggregations
  too_few h = sym (subst (λ P. enough_aggregations P ≡ refused 5 12) e (require_fails (dec_le (rounded_up Q.log_q) Q.L) (refused 5 12) (λ g. omega arith)))

-- a section one that is refused nothing
pub sound : (J : List ℕ) → section_one J ≡ fine → Sound J
unfolding enough_aggregations span
sound J e =
    let P = parameters J in
    let two = then_fine_left (counted 3 J 0 first_section then limits P) (enough_aggregations P) e in
    let fits = within J (then_fine_right (counted 3 J 0 first_section) (limits P) two) in
    record {
      room = counted-inside 3 J 0 first_section (omega arith) (then_fine_left (counted 3 J 0 first_section) (limits P) two);
      within = fits;
      aggregated = required (dec_le (rounded_up P.log_q) P.L) (refused 5 12) (refused_not-fine 5 12) (then_fine_right (counted 3 J 0 first_section then limits P) (enough_aggregations P) e);
    }
