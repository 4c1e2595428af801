-- `biased_add` meets its contract.
use Rattle.std.proofs.Common.{◌+◌, ◌%◌, refl, rules}
use Rattle.core_jl_tables.proofs.Terms.{sum_passed, sum_stayed}
use Rattle.core_jl_tables.proofs.tables.biased_add.Goals as goal

pub returns-then-biased : goal.returns-then-biased
returns-then-biased c =
    let s = c.args in
    sum_passed s.sum s.term ((s.sum + s.term) % 4294967296) (search rules) c.requires refl (rw (c.biased.ensures, c.biased-2.ensures) at c.if-biased.true)

pub returns-else-biased : goal.returns-else-biased
returns-else-biased c =
    let s = c.args in
    sum_stayed s.sum s.term ((s.sum + s.term) % 4294967296) (search rules) c.requires refl (rw (c.biased.ensures, c.biased-2.ensures) at c.if-biased.false)
