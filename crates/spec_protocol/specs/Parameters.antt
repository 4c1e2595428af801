-- The parameters: section one of the job (document 01, "What a call is handed").
use Rattle.std.specs.Prelude.{List, ℕ, ◌+◌, ◌*◌, ◌/◌, ◌^◌, get_or}
use Rattle.std.proofs.Math.Decide.{dec_le}
use Rattle.spec_leaves.specs.Zq.{top_Q}
use Rattle.spec_leaves.specs.Answer.{Answer, refused, ◌then◌}
use Rattle.spec_leaves.specs.Leaf.{limited}
use Rattle.spec_protocol.specs.Checks.{require}

-- "n, r, κ, κ1, κ2, K, l, log_q, b, t1, t2, then beta_sq, beta_prime_sq and the norm bounds of A, B, C, D"; document 02, Item 6: "L stands after t2", the number of aggregated equations
pub record Parameters : Type 0 where
  pub n : ℕ
  pub r : ℕ
  pub κ : ℕ
  pub κ₁ : ℕ
  pub κ₂ : ℕ
  pub K : ℕ
  pub l : ℕ
  pub log_q : ℕ
  pub b : ℕ
  pub t₁ : ℕ
  pub t₂ : ℕ
  pub L : ℕ
  pub beta_sq : ℕ
  pub beta_prime_sq : ℕ
  pub bound_A : ℕ
  pub bound_B : ℕ
  pub bound_C : ℕ
  pub bound_D : ℕ

-- "each three words, least first"
abbrev pub three_words : List ℕ → ℕ → ℕ
three_words J i = get_or J i 0 + get_or J (i + 1) 0 * 2 ^ 32 + get_or J (i + 2) 0 * 2 ^ 64

-- "128 divided by log_q, rounded up": the least L
abbrev pub rounded_up : ℕ → ℕ
rounded_up log_q = (127 + log_q) / log_q

-- the parameters of a job's words; its first word is section one's count
abbrev pub parameters : List ℕ → Parameters
parameters J = record {
  n = get_or J 1 0;
  r = get_or J 2 0;
  κ = get_or J 3 0;
  κ₁ = get_or J 4 0;
  κ₂ = get_or J 5 0;
  K = get_or J 6 0;
  l = get_or J 7 0;
  log_q = get_or J 8 0;
  b = get_or J 9 0;
  t₁ = get_or J 10 0;
  t₂ = get_or J 11 0;
  L = get_or J 12 0;
  beta_sq = three_words J 13;
  beta_prime_sq = three_words J 16;
  bound_A = three_words J 19;
  bound_B = three_words J 22;
  bound_C = three_words J 25;
  bound_D = three_words J 28;
}

-- "T = r(r+1)/2": the cells of a triangle of n rows
abbrev pub triangular : ℕ → ℕ
triangular n = n * (n + 1) / 2

abbrev pub T : Parameters → ℕ
T P = triangular P.r

-- document 02, Item 4: "K or l may be 0, though not both […] Both zero is a 4 at l's place."
abbrev pub some_constraint : Parameters → Answer
some_constraint P = require (dec_le 1 (P.K + P.l)) (refused 4 7)

-- "4 a parameter outside its limits (place of the first)"; "n 1 to 64; r, κ, κ1, κ2 1 to 16; K, l" 0 "to 64; log_q 16 to 32; b 2 to 4294967294; t1, t2 1 to 32"; document 02, Item 6: L "from 1 to 32"
unfoldable pub limits : Parameters → Answer
limits P =
    limited 1 64 1 P.n
    then limited 1 16 2 P.r
    then limited 1 16 3 P.κ
    then limited 1 16 4 P.κ₁
    then limited 1 16 5 P.κ₂
    then limited 0 64 6 P.K
    then limited 0 64 7 P.l
    then some_constraint P
    then limited 16 32 8 P.log_q
    then limited 2 top_Q 9 P.b
    then limited 1 32 10 P.t₁
    then limited 1 32 11 P.t₂
    then limited 1 32 12 P.L

-- document 02, Item 6: "Refusal 5, wherever it is given, is now for an L below 128 divided by log_q, rounded up (5 for log_q 31), at L's place"
unfoldable pub enough_aggregations : Parameters → Answer
enough_aggregations P = require (dec_le (rounded_up P.log_q) P.L) (refused 5 12)
