-- A test load: job, witness and randomness from the parameters and a seed (document 02, Item 1; "Item 1's call takes L too", Item 6).
use Rattle.std.specs.Prelude.{cond, List, [], ◌∷◌, ◌++◌, ℕ, zero, suc, ◌+◌, ◌*◌, ◌/◌, ◌%◌, ◌^◌, ltb, length, get_or, drop, replicate}
use Rattle.math.specs.lists.Table.{table}
use Rattle.spec_leaves.specs.Zq.{Q, zsub}
use Rattle.spec_leaves.specs.Answer.{Answer, result_of, ◌then◌}
use Rattle.spec_leaves.specs.Rq.{Element, coeff}
use Rattle.spec_leaves.specs.Ring.{words}
use Rattle.spec_protocol.specs.Parameters.{Parameters, parameters, limits, enough_aggregations}
use Rattle.spec_protocol.specs.Layout.{Section, span, sections, first_section, job_sections, randomness_sections, witness_sections, output_refusal}
use Rattle.spec_protocol.specs.Views.{Public, public, witness}
use Rattle.spec_protocol.specs.Formulas.{left, flat}

-- "From eleven parameters and a seed word", with L the twelfth: in section one's order
pub record Given : Type 0 where
  pub n : ℕ
  pub r : ℕ
  pub κ : ℕ
  pub κ₁ : ℕ
  pub κ₂ : ℕ
  pub K : ℕ
  pub l : ℕ
  pub log_q : ℕ
  pub b : ℕ
  pub t₁ : ℕ
  pub t₂ : ℕ
  pub L : ℕ

-- "The six bounds are the largest three-word number.": the words of section one
abbrev pub section_one : Given → List ℕ
section_one G =
    G.n ∷ G.r ∷ G.κ ∷ G.κ₁ ∷ G.κ₂ ∷ G.K ∷ G.l ∷ G.log_q ∷ G.b ∷ G.t₁ ∷ G.t₂ ∷ G.L
    ∷ 4294967295 ∷ 4294967295 ∷ 4294967295 ∷ 4294967295 ∷ 4294967295 ∷ 4294967295
    ∷ 4294967295 ∷ 4294967295 ∷ 4294967295 ∷ 4294967295 ∷ 4294967295 ∷ 4294967295
    ∷ 4294967295 ∷ 4294967295 ∷ 4294967295 ∷ 4294967295 ∷ 4294967295 ∷ 4294967295 ∷ []

-- the parameters that section one's words stand for
abbrev pub load_parameters : Given → Parameters
load_parameters G = parameters (30 ∷ section_one G)

-- "state·1664525+1013904223 modulo 2^32"
abbrev pub next : ℕ → ℕ
next x = (x * 1664525 + 1013904223) % 2 ^ 32

-- "Its state starts at the seed and becomes […] before each word": the state after so many words
unfoldable pub state : ℕ → ℕ → ℕ
state seed zero = seed
state seed (suc k) = next (state seed k)

-- "a word equal to Q is written as 0 while the state keeps it", and so is one above Q where there are such
unfoldable pub word : ℕ → ℕ
word x = cond (ltb x Q) x 0

-- "sign words take the state's top bit"
unfoldable pub sign : ℕ → ℕ
sign x = x / 2 ^ 31

-- "Witness words are the draw modulo 3, less 1."
unfoldable pub ternary : ℕ → ℕ
ternary x = zsub (x % 3) 1

-- how the words of a section come about: each from the state of its draw, or "not drawn but worked out"
pub data Rule : Type 0 where
  by : (ℕ → ℕ) → Rule
  later : Rule

-- so many words from a state on, and the state after them; zeros where they are not drawn
abbrev pub words_by : Rule → ℕ → ℕ → List ℕ
words_by (by f) x count = table count (λ k. f (state x (k + 1)))
words_by later x count = replicate count 0

abbrev pub state_by : Rule → ℕ → ℕ → ℕ
state_by (by f) x count = state x count
state_by later x count = x

-- the words of sections that are drawn one after the other from a state on, and the state after them
unfoldable pub drawn : ℕ → List Rule → List Section → List (List ℕ)
drawn x [] ss = []
drawn x (rule ∷ rules) [] = []
drawn x (rule ∷ rules) (s ∷ ss) = words_by rule x s.count ∷ drawn (state_by rule x s.count) rules ss

unfoldable pub after : ℕ → List Rule → List Section → ℕ
after x [] ss = x
after x (rule ∷ rules) [] = x
after x (rule ∷ rules) (s ∷ ss) = after (state_by rule x s.count) rules ss

-- "Counts and section one aren't drawn." "b0 and b are not drawn": a', φ', b0, a, φ, b, A, B, C, D
abbrev pub job_rules : List Rule
job_rules = by word ∷ by word ∷ later ∷ by word ∷ by word ∷ later ∷ by word ∷ by word ∷ by word ∷ by word ∷ []

abbrev pub witness_rules : List Rule
witness_rules = by ternary ∷ []

-- the projection words, psi, omega, alpha, beta, signs, shuffles
abbrev pub randomness_rules : List Rule
randomness_rules = by word ∷ by word ∷ by word ∷ by word ∷ by word ∷ by sign ∷ by word ∷ []

module _ (G : Given) (seed : ℕ) where
  -- "Words are drawn in layout order, the witness after the job, then randomness"
  abbrev pub job_drawn : List (List ℕ)
  job_drawn = drawn seed job_rules (job_sections (load_parameters G))

  abbrev pub after_job : ℕ
  after_job = after seed job_rules (job_sections (load_parameters G))

  abbrev pub after_witness : ℕ
  after_witness = after after_job witness_rules (witness_sections (load_parameters G))

  -- the witness's words
  unfoldable pub load_witness : List ℕ
  load_witness = sections (drawn after_job witness_rules (witness_sections (load_parameters G)))

  -- the randomness's words
  unfoldable pub load_randomness : List ℕ
  load_randomness = sections (drawn after_witness randomness_rules (randomness_sections (load_parameters G)))

  -- the job before b0 and b are worked out, what its words stand for, and the witness vectors
  unfoldable pub blank_job : List ℕ
  blank_job = sections (section_one G ∷ job_drawn)

  abbrev pub blank : Public
  blank = public blank_job []

  abbrev pub load_vectors : ℕ → ℕ → Element
  load_vectors = witness (load_parameters G) load_witness

  -- "worked out as `calculate_b_constraint` does (b0 is its constant coefficient), so that each constraint is met"
  unfoldable pub b₀_words : List ℕ
  b₀_words = table G.l (λ x. coeff (words (left (load_parameters G) (blank.a' x) (blank.φ' x) load_vectors)) 0)

  unfoldable pub b_words : List ℕ
  b_words = flat (table G.K (λ k. left (load_parameters G) (blank.a k) (blank.φ k) load_vectors))

  -- section m of the job after section one, as it is drawn
  abbrev pub job_section : ℕ → List ℕ
  job_section m = get_or job_drawn m []

  -- the job's words: section one, a', φ', b0, a, φ, b, A, B, C, D
  unfoldable pub load_job : List ℕ
  load_job =
      sections
      (section_one G
      ∷ job_section 0
      ∷ job_section 1
      ∷ b₀_words
      ∷ job_section 3
      ∷ job_section 4
      ∷ b_words
      ∷ job_section 6
      ∷ job_section 7
      ∷ job_section 8
      ∷ job_section 9
      ∷ [])

-- the sections that the job's words take
abbrev pub load_job_sections : Given → List Section
load_job_sections G = first_section ++ job_sections (load_parameters G)

-- "refused by 4 and 5 with section one's places, then the first output too short by 2, in the order job, witness, randomness"
unfoldable pub load_refusal : Given → (job witness randomness : ℕ) → Answer
load_refusal G job witness randomness =
    let P = load_parameters G in
    limits P
    then enough_aggregations P
    then output_refusal (load_job_sections G) job
    then output_refusal (witness_sections P) witness
    then output_refusal (randomness_sections P) randomness

-- a buffer at exit: the words, then the words beyond; a refusal touches nothing
abbrev pub loaded : Answer → List ℕ → List ℕ → List ℕ
loaded answer made buffer = result_of answer (made ++ drop (length made) buffer) buffer

-- the lengths needed
abbrev pub job_need : Given → ℕ
job_need G = span (load_job_sections G)

abbrev pub witness_need : Given → ℕ
witness_need G = span (witness_sections (load_parameters G))

abbrev pub randomness_need : Given → ℕ
randomness_need G = span (randomness_sections (load_parameters G))

-- what is refused of the parameters alone
abbrev pub needs_refusal : Given → Answer
needs_refusal G = limits (load_parameters G) then enough_aggregations (load_parameters G)
