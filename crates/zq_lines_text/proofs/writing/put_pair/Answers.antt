-- `put_pair` meets its contract.
use mathlib.Core.Path.{◌≡◌}
use mathlib.Core.List.{List, [], ◌∷◌, ◌++◌, append_assoc}
use Prim.Native.Nat.{ℕ, ◌+◌, ◌≤◌}
use native.Mathlib.Omega.{arith}
use lib.ListN.{length}
use Rattle.spec_leaves.specs.Zq.{zadd, zmul, centre}
use Rattle.zq_lines_text.specs.Text.{decimal, signed}
use Rattle.zq_lines_text.specs.Line.{text}
use Rattle.zq_lines_text.specs.Written.{Written}
use Rattle.std.specs.Prelude.{Some}
use Rattle.zq_lines_text.proofs.Decimal.{length_spaced}
use Rattle.zq_lines_text.proofs.Runs.{written-append, room}
use Rattle.zq_lines_text.proofs.writing.put_pair.Goals.{After-put_word-second}
use Rattle.zq_lines_text.proofs.writing.put_pair.Goals as goal

-- the five numbers written one after the other
five : {l l₁ l₂ l₃ l₄ l₅ : List ℕ} {at p₁ p₂ p₃ p₄ p₅ : ℕ} (a b s p : ℕ) → s ≡ zadd a b → p ≡ zmul a b
    → Written l at (decimal a ++ (32 ∷ [])) l₁ p₁ → Written l₁ p₁ (decimal b ++ (32 ∷ [])) l₂ p₂
    → Written l₂ p₂ (decimal s ++ (32 ∷ [])) l₃ p₃ → Written l₃ p₃ (decimal p ++ (32 ∷ [])) l₄ p₄
    → Written l₄ p₄ (signed (centre a)) l₅ p₅ → Written l at (text (Some (a, b))) l₅ p₅
unfolding text
five a b s p es ep w₁ w₂ w₃ w₄ w₅ =
    let w = written-append (written-append (written-append (written-append w₁ w₂) w₃) w₄) w₅ in
    rw (← es, ← ep) (simp append_assoc (simp append_assoc at w))

-- the room that is left after each number
first : (c : After-put_word-second) → c.put_word-second.result + 44 ≤ length c.put_word-second.new.out
first c = room 11 44 c.put_word-second.ensures (length_spaced c.args.a) (omega arith)

pub put_word-third-requires : goal.put_word-third-requires
put_word-third-requires c = omega (arith, first (goal.at.put_word-third-requires c).After-put_word-second)

pub put_word-fourth-requires : goal.put_word-fourth-requires
put_word-fourth-requires c =
    let second = room 11 33 c.put_word-third.ensures (length_spaced c.args.b) (first (goal.at.put_word-fourth-requires c).After-put_word-second) in
    omega (arith, second)

pub put_word-fifth-requires : goal.put_word-fifth-requires
put_word-fifth-requires c =
    let second = room 11 33 c.put_word-third.ensures (length_spaced c.args.b) (first (goal.at.put_word-fifth-requires c).After-put_word-second) in
    let third = room 11 22 c.put_word-fourth.ensures (length_spaced _) second in
    omega (arith, third)

pub put_centre-requires : goal.put_centre-requires
put_centre-requires c =
    let second = room 11 33 c.put_word-third.ensures (length_spaced c.args.b) (first (goal.at.put_centre-requires c).After-put_word-second) in
    let third = room 11 22 c.put_word-fourth.ensures (length_spaced _) second in
    record { canonical = c.requires.canonical; at_in_bounds = room 11 11 c.put_word-fifth.ensures (length_spaced _) third }

pub returns : goal.returns
returns c =
    five c.args.a c.args.b c.add-sum.result.0 c.mul-product.result.0 c.add-sum.ensures c.mul-product.ensures
    c.put_word-second.ensures
    c.put_word-third.ensures
    c.put_word-fourth.ensures
    c.put_word-fifth.ensures
    c.put_centre.ensures
