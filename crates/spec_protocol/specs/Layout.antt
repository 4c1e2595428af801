-- Sections, their layout and their words' ranges (document 01, "What a call is handed" and "Who can cause which refusal").
use Rattle.std.specs.Prelude.{cond, List, [], ◌∷◌, ◌++◌, ℕ, zero, suc, ◌+◌, ◌*◌, ltb, eqb, length, get_or, take}
use Rattle.std.proofs.Math.Decide.{dec_le}
pub use Rattle.math.specs.lists.Part.{part}
use Rattle.spec_leaves.specs.Zq.{Q}
use Rattle.spec_leaves.specs.Answer.{Answer, fine, refused, below, ◌then◌}
use Rattle.spec_protocol.specs.Checks.{require}
use Rattle.spec_protocol.specs.Parameters.{Parameters, parameters, T, limits, enough_aggregations}

-- what a section's words may be: any word, or those below a limit
pub data Range : Type 0 where
  free : Range
  under : ℕ → Range

-- a section of a slice: the number of its words, and their range
pub record Section : Type 0 where
  pub count : ℕ
  pub range : Range

-- sections of canonical words
abbrev pub canonical : ℕ → Section
canonical count = record { count = count; range = under Q }

-- "Each slice is sections in a fixed order, each after its count": the words that sections take, counts included
unfoldable pub span : List Section → ℕ
span [] = 0
span (s ∷ ss) = 1 + s.count + span ss

-- where the words of section m stand
unfoldable pub start : List Section → ℕ → ℕ
start [] m = 0
start (s ∷ ss) zero = 1
start (s ∷ ss) (suc m) = 1 + s.count + start ss m

-- the sections of words, each after its count
unfoldable pub sections : List (List ℕ) → List ℕ
sections [] = []
sections (ws ∷ wss) = (length ws ∷ ws) ++ sections wss

-- the counts of sections that start at a place. "For layout it is that of the wrong count […]; the slice's length if it ends early."
unfoldable pub counted : (number : ℕ) → List ℕ → ℕ → List Section → Answer
counted number words place [] = fine
counted number words place (s ∷ ss) =
    cond (ltb place (length words))
    (cond (eqb (get_or words place 0) s.count)
    (require (dec_le (place + 1 + s.count) (length words)) (refused number (length words)) then counted number words (place + 1 + s.count) ss)
    (refused number place))
    (refused number (length words))

-- "or the first surplus word": nothing stands from a place on
abbrev pub ends : (number : ℕ) → List ℕ → ℕ → Answer
ends number words place = require (dec_le (length words) place) (refused number place)

-- sections from a place to the slice's end
unfoldable pub layout : (number : ℕ) → List ℕ → ℕ → List Section → Answer
layout number words place ss = counted number words place ss then ends number words (place + span ss)

-- the first word out of a range; the words' first is at the place
abbrev pub in_range : Range → (number place : ℕ) → List ℕ → Answer
in_range free number place words = fine
in_range (under limit) number place words = below limit number place words

-- the first word out of its section's range, of sections that start at a place
unfoldable pub ranged : (number : ℕ) → List ℕ → ℕ → List Section → Answer
ranged number words place [] = fine
ranged number words place (s ∷ ss) =
    in_range s.range number (place + 1) (part words (place + 1) s.count)
    then ranged number words (place + 1 + s.count) ss

-- "constant-term constraints: l triangles a', then l·r·n elements φ', then l words b0; ring constraints: K triangles a, K·r·n elements φ, K elements b;
-- matrices A (κ rows of n), B (κ1 rows of r·κ·t1), C (κ1 rows of T·t2), D (κ2 rows of T·t1)"
abbrev pub job_sections : Parameters → List Section
job_sections P =
    canonical (64 * (P.l * T P))
    ∷ canonical (64 * (P.l * P.r * P.n))
    ∷ canonical P.l
    ∷ canonical (64 * (P.K * T P))
    ∷ canonical (64 * (P.K * P.r * P.n))
    ∷ canonical (64 * P.K)
    ∷ canonical (64 * (P.κ * P.n))
    ∷ canonical (64 * (P.κ₁ * (P.r * P.κ * P.t₁)))
    ∷ canonical (64 * (P.κ₁ * (T P * P.t₂)))
    ∷ canonical (64 * (P.κ₂ * (T P * P.t₁)))
    ∷ []

-- "16384·n·r projection words […]; psi, L rows of l; omega, L rows of 256; alpha, K elements; beta, L elements; 41·r sign words; 63·r shuffle words"; "sign words are 0 or 1, shuffle words are free"
abbrev pub randomness_sections : Parameters → List Section
randomness_sections P =
    canonical (16384 * P.n * P.r)
    ∷ canonical (P.L * P.l)
    ∷ canonical (P.L * 256)
    ∷ canonical (64 * P.K)
    ∷ canonical (64 * P.L)
    ∷ record { count = 41 * P.r; range = under 2 }
    ∷ record { count = 63 * P.r; range = free }
    ∷ []

-- "Witness: r·n elements, s_1 to s_r."
abbrev pub witness_sections : Parameters → List Section
witness_sections P = canonical (64 * (P.r * P.n)) ∷ []

-- "Transcript: u1 (κ1 elements), p (256 words), b''" of L elements (document 02, Item 6), "u2 (κ2), z (n), t (r·κ), g (T), h (T)."
abbrev pub transcript_sections : Parameters → List Section
transcript_sections P =
    canonical (64 * P.κ₁)
    ∷ canonical 256
    ∷ canonical (64 * P.L)
    ∷ canonical (64 * P.κ₂)
    ∷ canonical (64 * P.n)
    ∷ canonical (64 * (P.r * P.κ))
    ∷ canonical (64 * T P)
    ∷ canonical (64 * T P)
    ∷ []

-- section one's count and its words (document 02, Item 6: "Section one grows to 30 words")
abbrev pub first_section : List Section
first_section = record { count = 30; range = free } ∷ []

-- "section one by 3, then 4, 5; other job sections 3, 6"
unfoldable pub job_refusal : List ℕ → Answer
job_refusal J =
    let P = parameters J in
    counted 3 J 0 first_section
    then limits P
    then enough_aggregations P
    then layout 3 J 31 (job_sections P)
    then ranged 6 J 31 (job_sections P)

-- "7 layout; 8 a word out of range": of the first m sections, as a round is handed them
unfoldable pub randomness_refusal : Parameters → ℕ → List ℕ → Answer
randomness_refusal P m R = let ss = take m (randomness_sections P) in layout 7 R 0 ss then ranged 8 R 0 ss

-- "11 layout; 12 a word at or above Q"
unfoldable pub witness_refusal : Parameters → List ℕ → Answer
witness_refusal P W = layout 11 W 0 (witness_sections P) then ranged 12 W 0 (witness_sections P)

-- "9 layout; 10 a word at or above Q"
unfoldable pub transcript_refusal : Parameters → List ℕ → Answer
transcript_refusal P X = layout 9 X 0 (transcript_sections P) then ranged 10 X 0 (transcript_sections P)

-- "1 scratch shorter than 64·((L+2)(r·n+T)+r·κ+n+64) words": the length needed
abbrev pub scratch_need : Parameters → ℕ
scratch_need P = 64 * ((P.L + 2) * (P.r * P.n + T P) + P.r * P.κ + P.n + 64)

-- "Place is the length needed."
abbrev pub scratch_refusal : Parameters → ℕ → Answer
scratch_refusal P lent = require (dec_le (scratch_need P) lent) (refused 1 (scratch_need P))

-- "2 output too short": of the sections that the call makes
abbrev pub output_refusal : List Section → ℕ → Answer
output_refusal ss lent = require (dec_le (span ss) lent) (refused 2 (span ss))
