-- `four_place` meets its contract.
use Rattle.std.proofs.Common.{◌+◌, ◌*◌, ap₂}
use Rattle.core_jl_tables.proofs.tables.four_place.Goals as goal

pub returns : goal.returns
returns c = ap₂ (λ x y. 4 * (x + 16 * y)) c.pair_number-first.ensures.0 c.pair_number-second.ensures.0
