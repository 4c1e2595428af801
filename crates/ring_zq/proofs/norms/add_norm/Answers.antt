use Rattle.std.proofs.Common.{◌≡◌, ℕ, ◌+◌, ◌*◌, get_or, sym, ap, ◌∙◌, ap₂, add-zero, add_assoc, arith}
use Rattle.math.specs.lists.Sum.{Σ}
use Rattle.math.proofs.lists.Sum.{Σ-suc}
use Rattle.spec_leaves.specs.Norm.{square}
use Rattle.ring_zq.proofs.Part.{norm-part}
use Rattle.ring_zq.proofs.norms.add_norm.Goals as goal

pub loop-k-init : goal.loop-k-init
unfolding Σ
loop-k-init c = (omega arith, sym (add-zero _), omega arith)

pub loop-k-preserved : goal.loop-k-preserved
loop-k-preserved c =
    let s = c.args in
    let l = c.loop-k in
    let f : ℕ → ℕ = λ i. square (get_or s.words.now (s.at + i) 0) in (
      omega arith,
      c.add_square-total.ensures.0
          ∙ ap₂ ◌+◌ l.invariant.1 (ap (λ n. n * n) c.size.ensures)
          ∙ add_assoc _ _ _
          ∙ ap (λ x. s.sum + x) (sym (Σ-suc l.k f)),
      omega arith,
    )

pub returns : goal.returns
returns c =
    let s = c.args in
    let l = c.loop-k in
    let n : l.k ≡ s.count = omega arith in (
      l.invariant.1
          ∙ ap (λ k. s.sum + Σ k (λ i. square (get_or s.words.now (s.at + i) 0))) n
          ∙ ap (λ x. s.sum + x) (sym (norm-part s.words.now s.at s.count (omega arith))),
      omega arith,
    )
