-- The products of the rows of each matrix.
use Rattle.std.specs.Prelude.{List, [], ℕ}
use Rattle.spec_leaves.specs.Rq.{Element}
use Rattle.spec_protocol.specs.Parameters.{parameters}
use Rattle.spec_protocol.specs.Views.{public, message}
use Rattle.spec_protocol.specs.Formulas.{dot, times, t_digits, g_digits, h_digits}

module _ (J T : List ℕ) where
  -- row k of A times z
  abbrev pub of_A : ℕ → Element
  of_A k = dot (parameters J).n ((public J []).A k) (message (parameters J) T).z

  -- of B times the digits of t
  abbrev pub of_B : ℕ → Element
  of_B = times (public J []).B (t_digits (public J []) (message (parameters J) T).t)

  -- of C times the digits of g
  abbrev pub of_C : ℕ → Element
  of_C = times (public J []).C (g_digits (public J []) (message (parameters J) T).g)

  -- of D times the digits of h
  abbrev pub of_D : ℕ → Element
  of_D = times (public J []).D (h_digits (public J []) (message (parameters J) T).h)
