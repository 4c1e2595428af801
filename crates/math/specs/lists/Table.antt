-- A list given by a function of the index.
use Rattle.std.specs.Prelude.{cond, List, [], ◌∷◌, ◌++◌, ℕ, zero, suc, ltb}

-- f 0, f 1, …, f (n − 1)
unfoldable pub table {ℓ} : {A : Type ℓ} → ℕ → (ℕ → A) → List A
table zero f = []
table (suc n) f = table n f ++ (f n ∷ [])

-- n entries: f 0, …, f (k − 1), then d
unfoldable pub padded {ℓ} : {A : Type ℓ} → ℕ → ℕ → A → (ℕ → A) → List A
padded n k d f = table n (λ i. cond (ltb i k) (f i) d)

-- f 0 ++ f 1 ++ … ++ f (n − 1)
unfoldable pub cat {ℓ} : {A : Type ℓ} → ℕ → (ℕ → List A) → List A
cat zero f = []
cat (suc n) f = cat n f ++ f n
