-- Elements stored one after the other, and zeros after them.
use mathlib.Core.Path.{◌≡◌, sym, ◌∙◌, ap}
use mathlib.Core.List.{List, ◌++◌}
use Prim.Native.Nat.{ℕ, ◌+◌, ◌-◌, ◌*◌, ◌≤◌, ◌<◌}
use native.Mathlib.Omega.{arith}
use Rattle.math.specs.lists.Table.{table}
use Rattle.math.specs.lists.Part.{splice}
use Rattle.math.proofs.lists.Table.{table_ext, table_split}
use Rattle.math.proofs.lists.Splice.{splice-append}
use Rattle.spec_leaves.specs.Rq.{Element}
use Rattle.spec_leaves.specs.Ring.{RqOps}
use Rattle.spec_protocol.specs.Formulas.{flat}
use Rattle.spec_protocol.proofs.Flat.{length-flat-table}
use Rattle.spec_protocol.proofs.Stored.{flat_append}

-- n elements of which those from the m-th on are zero
pub zeros_after : (l before after : List ℕ) (at m n : ℕ) (f : ℕ → Element) → m ≤ n → before ≡ splice l at (flat (table m f))
    → after ≡ splice before (at + 64 * m) (flat (table (n - m) (λ k. RqOps.nil))) → ((k : ℕ) → m ≤ k → k < n → f k ≡ RqOps.nil)
    → after ≡ splice l at (flat (table n f))
zeros_after l before after at m n f h b a z =
    let zeros : List Element = table (n - m) (λ k. RqOps.nil) in
    let whole : m + (n - m) ≡ n = omega arith in
    a
    ∙ ap (λ x. splice x (at + 64 * m) (flat zeros)) b
    ∙ ap (λ k. splice (splice l at (flat (table m f))) (at + k) (flat zeros)) (sym (length-flat-table m f))
    ∙ splice-append l at (flat (table m f)) (flat zeros)
    ∙ ap (splice l at)
    (sym (flat_append (table m f) zeros)
    ∙ ap (λ t. flat (table m f ++ t)) (table_ext (n - m) (λ k. RqOps.nil) (λ k. f (m + k)) (λ k l. sym (z (m + k) (omega arith) (omega arith))))
    ∙ ap flat (sym (table_split m (n - m) f) ∙ ap (λ k. table k f) whole))
