-- Refusals and their places on short slices, as one table under one proof against the definitions.
use mathlib.Core.Path.{refl}
use mathlib.Core.Bool.{true, false}
use mathlib.Core.List.{List, [], ◌∷◌, ◌++◌}
use Prim.Native.Nat.{ℕ, ◌+◌, ◌-◌}
use native.Mathlib.Decide.{dec_le, ℕ_discrete}
use lib.IntN.{ℤ, pos, negsuc}
use lib.ListN.{take, set, replicate}
use Rattle.spec_leaves.specs.Zq.{Q, half_Q}
use Rattle.spec_leaves.specs.Answer.{Answer, fine, accepted, refused, failed, below}
use Rattle.spec_leaves.proofs.Table.{Row, ◌is◌, Holds}
use Rattle.spec_protocol.specs.Parameters.{parameters, limits, enough_aggregations}
use Rattle.spec_protocol.specs.Layout.{span, sections, counted, layout, ranged, job_refusal, randomness_refusal, witness_refusal, transcript_refusal}
use Rattle.spec_protocol.specs.Checks.{first}
use Rattle.spec_protocol.specs.Prover.{round₁, prove_refusal}
use Rattle.spec_protocol.specs.Many.{cut, many_refusal}
use Rattle.spec_protocol.specs.Mistyped.{Entry, comes_before, judged}
use Rattle.spec_protocol.specs.Ranges.{beyond_refusal, crossed_refusal, pairs_refusal}

-- words that are all 0
abbrev pub zeros : ℕ → List ℕ
zeros n = replicate n 0

-- section one with n = r = κ₁ = κ₂ = K = l = t₁ = t₂ = 1, κ = L = 4, log_q = 32, b = 2, and the greatest word in every bound
abbrev pub section_one : List ℕ
section_one = 30 ∷ 1 ∷ 1 ∷ 4 ∷ 1 ∷ 1 ∷ 1 ∷ 1 ∷ 32 ∷ 2 ∷ 1 ∷ 1 ∷ 4 ∷ replicate 18 4294967295

-- the job of these parameters whose other sections are zero
abbrev pub job : List ℕ
job = section_one ++ sections (zeros 64 ∷ zeros 64 ∷ zeros 1 ∷ zeros 64 ∷ zeros 64 ∷ zeros 64 ∷ zeros 256 ∷ zeros 256 ∷ zeros 64 ∷ zeros 64 ∷ [])

-- the jobs of ring constraints only and of constant-term constraints only: an empty section is its count, 0
abbrev pub rings_only : List ℕ
rings_only = set section_one 7 0 ++ sections ([] ∷ [] ∷ [] ∷ zeros 64 ∷ zeros 64 ∷ zeros 64 ∷ zeros 256 ∷ zeros 256 ∷ zeros 64 ∷ zeros 64 ∷ [])

abbrev pub constants_only : List ℕ
constants_only = set section_one 6 0 ++ sections (zeros 64 ∷ zeros 64 ∷ zeros 1 ∷ [] ∷ [] ∷ [] ∷ zeros 256 ∷ zeros 256 ∷ zeros 64 ∷ zeros 64 ∷ [])

-- its witness of zeros
abbrev pub zero_witness : List ℕ
zero_witness = sections (zeros 64 ∷ [])

-- its transcript of zeros
abbrev pub zero_transcript : List ℕ
zero_transcript = sections (zeros 64 ∷ zeros 256 ∷ zeros 256 ∷ zeros 64 ∷ zeros 64 ∷ zeros 256 ∷ zeros 64 ∷ zeros 64 ∷ [])

-- refusals of section one alone with one word changed
abbrev pub section_one-with : ℕ → ℕ → Answer
section_one-with place word = job_refusal (set section_one place word)

-- the randomness where n = 0, which leaves its first section empty: signs of 1 and the greatest shuffle words
abbrev pub randomness : List ℕ
randomness = sections (zeros 0 ∷ zeros 4 ∷ zeros 1024 ∷ zeros 64 ∷ zeros 256 ∷ replicate 41 1 ∷ replicate 63 4294967295 ∷ [])

-- refusals of its first m sections
abbrev pub randomness_of : ℕ → List ℕ → Answer
randomness_of = randomness_refusal (parameters (set section_one 1 0))

-- refusals of a transcript
abbrev pub transcript_of : List ℕ → Answer
transcript_of = transcript_refusal (parameters job)

-- the first round's refusals of randomness, witness, scratch and output
abbrev pub first_round : List ℕ → List ℕ → ℕ → ℕ → Answer
first_round = prove_refusal round₁ job

-- an entry of the list of mistyped constants
abbrev pub entry : ℕ → ℕ → Entry
entry index number = record { index = index; number = number }

-- refusals of lows and highs, of which there should be 64 each, and as many zeros as are said
abbrev pub ranges_of : (lows highs : List ℤ) → Answer
ranges_of = pairs_refusal (parameters job)

abbrev pub zero_numbers : ℕ → List ℤ
zero_numbers n = replicate n (pos 0)

-- slices and what they are refused for
abbrev pub examples : List Row
examples =
    -- an empty job; a count of 29; a job that ends within section one
    ((job_refusal [] ∷ job_refusal (29 ∷ zeros 29) ∷ job_refusal (take 12 job) ∷ [])
    is (refused 3 0 ∷ refused 3 0 ∷ refused 3 12 ∷ []))
    -- section one alone with n = 65, and with n = 64
    ∷ ((section_one-with 1 65 ∷ section_one-with 1 64 ∷ []) is (refused 4 1 ∷ refused 3 31 ∷ []))
    -- κ₂ = 17 and K = 65: the first is named
    ∷ (job_refusal (set (set section_one 5 17) 6 65) is refused 4 5)
    -- K = 0 and l = 0: both, both with log_q = 15, and both with K = 65 in place of 0
    ∷ ((job_refusal (set (set section_one 6 0) 7 0) ∷ job_refusal (set (set (set section_one 6 0) 7 0) 8 15) ∷ job_refusal (set (set section_one 6 65) 7 0) ∷ [])
    is (refused 4 7 ∷ refused 4 7 ∷ refused 4 6 ∷ []))
    -- whole jobs of one kind only; one with a word in an empty section
    ∷ ((job_refusal rings_only ∷ job_refusal constants_only ∷ job_refusal (set rings_only 31 1) ∷ []) is (fine ∷ fine ∷ refused 3 31 ∷ []))
    -- log_q = 15, 33, and 31, at which L is at least 5
    ∷ ((section_one-with 8 15 ∷ section_one-with 8 33 ∷ section_one-with 8 31 ∷ []) is (refused 4 8 ∷ refused 4 8 ∷ refused 5 12 ∷ []))
    -- L = 0, 33, 3, which is below 128/32, and 32; L = 3 with t₂ = 33, which is named first; κ = 16, which need not be L
    ∷ ((section_one-with 12 0 ∷ section_one-with 12 33 ∷ section_one-with 12 3 ∷ section_one-with 12 32 ∷ job_refusal (set (set section_one 12 3) 11 33) ∷ section_one-with 3 16 ∷ [])
    is (refused 4 12 ∷ refused 4 12 ∷ refused 5 12 ∷ refused 3 31 ∷ refused 4 11 ∷ refused 3 31 ∷ []))
    -- b = 1, b = Q
    ∷ ((section_one-with 9 1 ∷ section_one-with 9 Q ∷ []) is (refused 4 9 ∷ refused 4 9 ∷ []))
    -- a whole job; one that ends early; one with a surplus word; one with a word Q
    ∷ ((job_refusal job ∷ job_refusal (take 500 job) ∷ job_refusal (job ++ (0 ∷ [])) ∷ job_refusal (set job 1000 Q) ∷ [])
    is (fine ∷ refused 3 500 ∷ refused 3 1002 ∷ refused 6 1000 ∷ []))
    -- seven sections of randomness, shuffle words of 4294967295 among them; with a psi word Q; with a sign word 2; where five sections are due
    ∷ ((randomness_of 7 randomness ∷ randomness_of 7 (set randomness 2 Q) ∷ randomness_of 7 (set randomness 1354 2) ∷ randomness_of 5 randomness ∷ [])
    is (fine ∷ refused 8 2 ∷ refused 8 1354 ∷ refused 7 1353 ∷ []))
    -- a wrong count is named before a word out of range, though that stands before it
    ∷ (randomness_of 7 (set (set randomness 2 Q) 1395 62) is refused 7 1395)
    -- a transcript; an empty one; one with a word Q
    ∷ ((transcript_of zero_transcript ∷ transcript_of [] ∷ transcript_of (set zero_transcript 66 Q) ∷ []) is (fine ∷ refused 9 0 ∷ refused 10 66 ∷ []))
    -- a transcript that ends early; one that does after a wrong count
    ∷ ((transcript_of (take 400 zero_transcript) ∷ transcript_of (take 400 (set zero_transcript 65 255)) ∷ []) is (refused 9 400 ∷ refused 9 65 ∷ []))
    -- the first round takes an empty randomness only
    ∷ (first_round (0 ∷ []) zero_witness 5184 65 is refused 7 0)
    -- an empty witness; one with a surplus word; one with a word Q
    ∷ ((first_round [] [] 5184 65 ∷ first_round [] (zero_witness ++ (0 ∷ [])) 5184 65 ∷ first_round [] (set zero_witness 64 Q) 5184 65 ∷ [])
    is (refused 11 0 ∷ refused 11 65 ∷ refused 12 64 ∷ []))
    -- scratch and output each one word short; output alone; neither
    ∷ ((first_round [] zero_witness 5183 64 ∷ first_round [] zero_witness 5184 64 ∷ first_round [] zero_witness 5184 65 ∷ []) is (refused 1 5184 ∷ refused 2 65 ∷ fine ∷ []))
    -- many transcripts (document 02, Item 11): none and nine, of an empty job; eight, of an empty job
    ∷ ((many_refusal [] 0 0 ∷ many_refusal [] 9 0 ∷ many_refusal [] 8 0 ∷ []) is (refused 35 0 ∷ refused 35 0 ∷ refused 3 0 ∷ []))
    -- three parts of two words: a surplus word is the last one's; a slice that ends early cuts one short and empties the last
    ∷ ((cut 2 3 (1 ∷ 2 ∷ 3 ∷ 4 ∷ 5 ∷ 6 ∷ 7 ∷ []) 1 ∷ cut 2 3 (1 ∷ 2 ∷ 3 ∷ 4 ∷ 5 ∷ 6 ∷ 7 ∷ []) 2 ∷ []) is ((3 ∷ 4 ∷ []) ∷ (5 ∷ 6 ∷ 7 ∷ []) ∷ []))
    ∷ ((cut 2 3 (1 ∷ 2 ∷ 3 ∷ []) 1 ∷ cut 2 3 (1 ∷ 2 ∷ 3 ∷ []) 2 ∷ []) is ((3 ∷ []) ∷ [] ∷ []))
    -- mistyped constants (document 02, Item 8): 14 to 16 stay themselves; an acceptance, another failed check, a failed 22 without and with an entry
    ∷ ((judged (refused 14 0) [] ∷ judged (refused 15 0) (entry 0 1 ∷ []) ∷ judged (refused 16 0) [] ∷ judged (accepted 0) []
    ∷ judged (failed 23 []) [] ∷ judged (failed 22 []) [] ∷ judged (failed 22 []) (entry 0 1 ∷ []) ∷ [])
    is (refused 14 0 ∷ refused 15 0 ∷ refused 16 0 ∷ refused 32 0 ∷ refused 32 0 ∷ refused 33 0 ∷ fine ∷ []))
    -- entries of equal size (Item 12): −5 at a higher index before 5 and not after it; 5 at the lower index first; 4 before −5
    ∷ ((comes_before (entry 3 (Q - 5)) (entry 1 5) ∷ comes_before (entry 1 5) (entry 3 (Q - 5)) ∷ comes_before (entry 1 5) (entry 2 5)
    ∷ comes_before (entry 2 5) (entry 1 5) ∷ comes_before (entry 3 4) (entry 1 (Q - 5)) ∷ [])
    is (true ∷ false ∷ true ∷ false ∷ true ∷ []))
    -- a witness within ranges (Item 14): lows one short with highs too long, lows one too long, highs empty
    ∷ ((ranges_of (zero_numbers 63) (zero_numbers 66) ∷ ranges_of (zero_numbers 65) (zero_numbers 64) ∷ ranges_of (zero_numbers 64) [] ∷ []) is (refused 11 63 ∷ refused 11 64 ∷ refused 11 0 ∷ []))
    -- the first pair crossed, and the third pair's high beyond, which is tested over all pairs before; the first pair crossed alone; both numbers at the limit
    ∷ ((ranges_of (set (zero_numbers 64) 0 (pos 1)) (set (zero_numbers 64) 2 (pos (half_Q + 1))) ∷ ranges_of (set (zero_numbers 64) 0 (pos 1)) (zero_numbers 64)
    ∷ ranges_of (set (zero_numbers 64) 2 (negsuc (half_Q - 1))) (set (zero_numbers 64) 2 (pos half_Q)) ∷ [])
    is (refused 37 2 ∷ refused 36 0 ∷ fine ∷ []))
    ∷ []

-- each row of the table holds
pub examples_hold : Holds examples
unfolding comes_before pairs_refusal beyond_refusal crossed_refusal first many_refusal cut job_refusal randomness_refusal witness_refusal transcript_refusal
    prove_refusal counted limits enough_aggregations layout ranged span sections below dec_le ℕ_discrete
examples_hold =
    (refl, (refl, (refl, (refl, (refl, (refl, (refl, (refl, (refl, (refl, (refl, (refl, (refl, (refl, (refl, (refl, (refl, (refl, (refl, (refl, (refl, (refl, (refl, tt)))))))))))))))))))))))
