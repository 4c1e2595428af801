-- What the row phase stands on, and what one row leaves.
use Rattle.std.specs.Prelude.{◌≡◌, List, ℕ, ◌+◌, ◌*◌, ◌<◌, replicate}
use Rattle.math.specs.lists.Part.{part}
use Rattle.spec_protocol.specs.Parameters.{Parameters}
use Rattle.spec_protocol.specs.Layout.{scratch_need}
use Rattle.spec_protocol.specs.Many.{products_at}
pub use Rattle.verify_many_windows.specs.Product.{stored_for}
pub use Rattle.verify_many_windows.specs.Rowable.{Rowable}

-- the products' part of every window is zero
abbrev pub ProductsZero : Parameters → (count : ℕ) → List ℕ → Type 0
ProductsZero P count S = (m : ℕ) → m < count → part S (m * scratch_need P + products_at P) 4096 ≡ replicate 4096 0
