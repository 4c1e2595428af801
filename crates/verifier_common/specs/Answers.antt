-- What each check answers, over what it is about (document 01, "The verifier's checks, in order").
use Rattle.std.specs.Prelude.{List, [], ℕ}
use Rattle.spec_leaves.specs.Answer.{Answer, ◌then◌}
use Rattle.spec_protocol.specs.Parameters.{Parameters, parameters}
use Rattle.spec_protocol.specs.Views.{Public, public, message}
use Rattle.spec_protocol.specs.Formulas.{cells_left_of}
use Rattle.spec_protocol.specs.Prover.{t_norm, g_norm, h_norm}
use Rattle.spec_protocol.specs.Verifier.{check_21, check_22, check_23, check_24, check_25, check_26, check_27, check_28, check_29}

-- public values of which the parameters alone are given: 21, 23 and 14 to 16 read no others
abbrev pub bare : Parameters → Public
bare P =
    let X = public [] [] in
    record {
      P = P;
      a' = X.a';
      φ' = X.φ';
      b₀ = X.b₀;
      a = X.a;
      φ = X.φ;
      b = X.b;
      A = X.A;
      B = X.B;
      C = X.C;
      D = X.D;
      Π = X.Π;
      psi = X.psi;
      omega = X.omega;
      alpha = X.alpha;
      beta = X.beta;
      c = X.c;
    }

-- of the parameters and a transcript
module _ (P : Parameters) (T : List ℕ) where
  -- "21 norm of p above 128·beta_sq"
  abbrev pub projection_norm : Answer
  projection_norm = check_21 (bare P) (message P T)

  -- "23 digit norms of z with two" parts, "t and h with t1, g with t2 sum above beta_prime_sq"
  abbrev pub norm_sum : Answer
  norm_sum = check_23 (bare P) (message P T)

  -- document 02, Item 5: "how many cells of t, g and h together have a coefficient with something left"
  abbrev pub cells_left : ℕ
  cells_left = cells_left_of (bare P) (message P T).t (message P T).g (message P T).h

  -- "14 digits of t above B's bound, 15 of g above C's"
  abbrev pub t_and_g_bounds : Answer
  t_and_g_bounds = t_norm (bare P) (message P T).t then g_norm (bare P) (message P T).g

  -- "16 of h above D's"
  abbrev pub h_bound : Answer
  h_bound = h_norm (bare P) (message P T).h

-- of a job and a transcript; no randomness is read
module _ (J T : List ℕ) where
  -- "28 u1 differs"
  abbrev pub u1_differs : Answer
  u1_differs = check_28 (public J []) (message (parameters J) T)

  -- "29 u2 differs"
  abbrev pub u2_differs : Answer
  u2_differs = check_29 (public J []) (message (parameters J) T)

-- of a job, a randomness and a transcript
module _ (J R T : List ℕ) where
  -- "22 for some k below" L, "the constant coefficient of b''_k is not Σ psi[k][l]·b0[l] + Σ omega[k][j]·p[j]"
  abbrev pub constant_terms : Answer
  constant_terms = check_22 (public J R) (message (parameters J) T)

  -- "24 A·z is not Σ t_i·c_i."
  abbrev pub az : Answer
  az = check_24 (public J R) (message (parameters J) T)

  -- "25 ⟨z,z⟩ is not Σ g_ij·c_i·c_j."
  abbrev pub z_inner : Answer
  z_inner = check_25 (public J R) (message (parameters J) T)

  -- "26 twice Σ⟨φ_i,z⟩·c_i is not Σ h_ij·c_i·c_j."
  abbrev pub phi : Answer
  phi = check_26 (public J R) (message (parameters J) T)

  -- "27 twice Σ a_ij·g_ij plus Σ h_ii is not twice the aggregated b."
  abbrev pub relation : Answer
  relation = check_27 (public J R) (message (parameters J) T)
