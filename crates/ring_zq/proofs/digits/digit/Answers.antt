-- `digit` meets its contract.
use Rattle.std.proofs.Common.{mod-lt}
use Rattle.ring_zq.proofs.digits.digit.Goals as goal

pub digit_of-requires : goal.digit_of-requires
digit_of-requires c = mod-lt c.args.size c.requires
