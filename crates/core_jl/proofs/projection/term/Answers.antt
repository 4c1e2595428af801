-- `term` meets its contract.
use mathlib.Core.Path.{◌≡◌, ap, ◌∙◌}
use mathlib.Core.Bool.{cond}
use Prim.Native.Nat.{ℕ, ◌-◌, ◌≤◌}
use native.Mathlib.Omega.{arith}
use lib.Dec.{ltb}
use Rattle.spec_leaves.specs.Zq.{Q, lack_Q}
use Rattle.spec_leaves.proofs.Cases.{ltb_cases}
use Rattle.transcript_words.specs.Entries.{by_entry}
use Rattle.core_jl.specs.Rows.{term, flipped}
use Rattle.core_jl.proofs.projection.term.Goals as goal

-- where Q is 2^32 − 1, a word with each bit changed is what the word lacks
same : (code x : ℕ) → lack_Q ≡ 1 → x ≤ 4294967295 → flipped code x ≡ term code x
same code x e h =
    ap (λ n. cond (ltb code 1073741824) n (cond (ltb code 2147483648) x 0))
    (ltb_cases (λ t. 4294967295 - x ≡ cond t (Q - (x - Q)) (Q - x)) Q x (λ l. omega arith) (λ l. omega arith))

pub returns-then-this-eq-LACK : goal.returns-then-this-eq-LACK
returns-then-this-eq-LACK c = let s = c.args in c.flipped.ensures ∙ same s.code s.word c.if-this-eq-LACK.true (omega arith)

pub returns : goal.returns
returns c =
    let s = c.args in
    c.by_entry.ensures ∙ ap (λ n. by_entry s.code n s.word 0) c.lack.ensures
