-- The words of the aggregated constraints and of the challenges, as their regions hold them.
use Rattle.std.specs.Prelude.{List, ◌++◌, ℕ}
use Rattle.math.specs.lists.Table.{table, cat}
use Rattle.spec_protocol.specs.Parameters.{Parameters, parameters}
use Rattle.spec_protocol.specs.Layout.{start, randomness_sections}
use Rattle.spec_protocol.specs.Views.{public}
use Rattle.spec_protocol.specs.Formulas.{flat, rows, triangle, a'', φ'', a_sum, φ_sum}
use Rattle.transcript_challenges.specs.Challenges.{challenges}

-- the challenges, of the parameters and a randomness
abbrev pub challenge_words : Parameters → List ℕ → List ℕ
challenge_words P R = let of = start (randomness_sections P) in flat (challenges R (of 5) (of 6) P.r)

module _ (J R : List ℕ) where
  -- a''_k, one triangle after the other
  abbrev pub a''_words : List ℕ
  a''_words = flat (cat (parameters J).L (λ k. triangle (parameters J).r (a'' (public J R) k)))

  -- φ''_k, the r vectors of one k after the other's
  abbrev pub φ''_words : List ℕ
  φ''_words = flat (cat (parameters J).L (λ k. rows (parameters J).r (parameters J).n (φ'' (public J R) k)))

  -- both, as their regions lie
  abbrev pub double_prime_words : List ℕ
  double_prime_words = φ''_words ++ a''_words

  -- φ, r vectors
  abbrev pub φ_words : List ℕ
  φ_words = flat (rows (parameters J).r (parameters J).n (φ_sum (public J R)))

  -- a, a triangle
  abbrev pub a_words : List ℕ
  a_words = flat (triangle (parameters J).r (a_sum (public J R)))

  -- the challenges
  abbrev pub c_words : List ℕ
  c_words = flat (table (parameters J).r (public J R).c)
