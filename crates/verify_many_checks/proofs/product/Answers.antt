-- `product` meets its contract.
use mathlib.Core.Path.{ap, ◌∙◌}
use Prim.Native.Nat.{◌+◌, ◌-◌, ◌*◌}
use Rattle.math.specs.lists.Part.{part}
use Rattle.verify_many_checks.proofs.product.Goals as goal

pub returns : goal.returns
returns c =
    let s = c.args in
    c.load.ensures ∙ ap (λ n. part s.window.now (n - 4096 + 64 * s.row) 64) c.scratch_length-at.ensures
