-- The invariant: the first k sums have their product added.
use mathlib.Core.Path.{◌≡◌}
use Rattle.math.specs.lists.Table.{table}
use Rattle.math.specs.lists.Part.{splice}
use Rattle.ntt_vectors.specs.Sums.{product_added}
use Rattle.ntt_vectors.proofs.sums.add_products.Given as goal

abbrev pub invariant-loop-k : goal.invariant-loop-k
invariant-loop-k g l = l.sums ≡ splice l.initial.sums l.at (table l.k (product_added l.initial.sums l.at l.x l.x_at l.y l.y_at))
