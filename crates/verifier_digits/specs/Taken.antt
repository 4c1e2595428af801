-- What the digits of a transcript show (document 02, Item 5: "Commitments and the norm sum carry it upward").
use Rattle.std.specs.Prelude.{◌≡◌, cond, ℕ, ◌+◌, leb}
use mathlib.Core.List.{List, flat_map}
use Rattle.math.specs.lists.Table.{table}
use Rattle.spec_leaves.specs.Answer.{Answer, fine, refused, ◌then◌}
use Rattle.spec_protocol.specs.Parameters.{Parameters}
use Rattle.spec_protocol.specs.Views.{message}
use Rattle.spec_protocol.specs.Formulas.{norm_of, two_parts, t_digits, g_digits, h_digits}
use Rattle.verifier_common.specs.Answers.{bare, cells_left}
use Rattle.verifier_digits.specs.declared.SentDigits.{SentDigits}

-- of the parameters and a transcript
module _ (P : Parameters) (T : List ℕ) where
  -- "digit norms of z with two" parts, "t and h with t1, g with t2 sum"
  abbrev pub digit_norms : ℕ
  digit_norms =
      norm_of (flat_map (two_parts P.b) (table P.n (message P T).z))
      + norm_of (t_digits (bare P) (message P T).t)
      + norm_of (g_digits (bare P) (message P T).g)
      + norm_of (h_digits (bare P) (message P T).h)

  -- what is found of them: the sum, whether each bound is met, and the cells with something left
  pub record Taken (d : SentDigits) : Type 0 where
    pub sum : d.sum ≡ digit_norms
    pub t : d.t_within ≡ leb (norm_of (t_digits (bare P) (message P T).t)) P.bound_B
    pub g : d.g_within ≡ leb (norm_of (g_digits (bare P) (message P T).g)) P.bound_C
    pub h : d.h_within ≡ leb (norm_of (h_digits (bare P) (message P T).h)) P.bound_D
    pub left : d.cells_left ≡ cells_left P T

-- 14 and 15 by what is found
abbrev pub t_and_g_found : SentDigits → Answer
t_and_g_found d = cond d.t_within fine (refused 14 0) then cond d.g_within fine (refused 15 0)

-- 16 by what is found
abbrev pub h_found : SentDigits → Answer
h_found d = cond d.h_within fine (refused 16 0)
