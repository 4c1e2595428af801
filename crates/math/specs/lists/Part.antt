-- A part of a list, and a list with a part replaced.
use Rattle.std.specs.Prelude.{List, ℕ, take, drop}
use Rattle.std.proofs.lemmas.List.Edits.{sets}

-- the elements from one place on, so many
abbrev pub part {ℓ} : {A : Type ℓ} → List A → ℕ → ℕ → List A
part l from count = take count (drop from l)

-- the list with the elements from one place on replaced
unfoldable pub splice {ℓ} : {A : Type ℓ} → List A → ℕ → List A → List A
splice l from new = sets l from new
