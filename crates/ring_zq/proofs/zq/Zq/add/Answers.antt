-- `Zq::add` meets its contract.
use Rattle.std.proofs.Common.{◌≡◌, ℕ, ◌+◌, ◌%◌, ◌^◌, ◌<◌, ◌≤◌, sym, ap, ◌∙◌, arith}
use Rattle.spec_leaves.specs.Zq.{Q, lack_Q}
use Rattle.ring_zq.proofs.Words.{lowered-le, lowered-add}
use Rattle.ring_zq.proofs.zq.Zq.add.Goals.{After-wrapping_add_u32-sum}
use Rattle.ring_zq.proofs.zq.Zq.add.Goals as goal

-- with a carry the sum is 2^32 more, which counts what Q lacks of it
carried : (a b s : ℕ) → a < 2 ^ 32 → b ≤ Q → s ≡ (a + b) % 2 ^ 32 → s < b → s + 4294967296 ≡ a + b
carried a b s ha hb e l = omega arith

counts : (s t : ℕ) → s + 4294967296 ≡ t → (s + lack_Q) % Q ≡ t % Q
counts s t e = omega arith

-- without one it is whole
whole : (a b s : ℕ) → a < 2 ^ 32 → b < 2 ^ 32 → s ≡ (a + b) % 2 ^ 32 → b ≤ s → a + b ≡ s
whole a b s ha hb e l = omega arith

-- the second summand, which is at most Q
term-le : (c : After-wrapping_add_u32-sum) → c.lowered-term.result ≤ Q
term-le c = let a = c.args.rhs.0 in omega (arith, c.lowered-term.ensures, lowered-le a (omega arith))

-- the sum with it is that of both, modulo Q
both : (c : After-wrapping_add_u32-sum) → (c.args.self.0 + c.lowered-term.result) % Q ≡ (c.args.self.0 + c.args.rhs.0) % Q
both c = let s = c.args in ap (λ b. (s.self.0 + b) % Q) c.lowered-term.ensures ∙ lowered-add s.self.0 s.rhs.0

pub overflow_add-sum : goal.overflow_add-sum
overflow_add-sum c =
    let w = (goal.at.overflow_add-sum c).After-wrapping_add_u32-sum in
    omega (arith, term-le w, carried c.args.self.0 c.lowered-term.result _ (omega arith) (term-le w) c.wrapping_add_u32-sum.ensures.value c.if-sum-term.true)

pub returns-then-sum-term : goal.returns-then-sum-term
returns-then-sum-term c =
    let w = (goal.at.returns-then-sum-term c).After-wrapping_add_u32-sum in
    c.canonical.ensures
    ∙ counts _ _ (carried c.args.self.0 c.lowered-term.result _ (omega arith) (term-le w) c.wrapping_add_u32-sum.ensures.value c.if-sum-term.true)
    ∙ both w

pub returns-else-sum-term : goal.returns-else-sum-term
returns-else-sum-term c =
    let w = (goal.at.returns-else-sum-term c).After-wrapping_add_u32-sum in
    c.canonical-else-sum-term.ensures
    ∙ sym (ap (λ n. n % Q) (whole c.args.self.0 c.lowered-term.result _ (omega arith) (omega (arith, term-le w)) c.wrapping_add_u32-sum.ensures.value c.if-sum-term.false))
    ∙ both w
