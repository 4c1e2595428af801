-- What the slices' words stand for (document 01, "What a call is handed"). All indexes count from 0.
use Rattle.std.specs.Prelude.{List, ℕ, ◌+◌, ◌*◌, min, max, get_or}
use Rattle.spec_leaves.specs.Rq.{Element}
use Rattle.spec_leaves.specs.Ring.{element}
use Rattle.spec_leaves.specs.Projection.{entry}
use Rattle.spec_leaves.specs.Challenge.{challenge}
use Rattle.spec_protocol.specs.Parameters.{Parameters, parameters, T, triangular}
use Rattle.spec_protocol.specs.Layout.{part, start, job_sections, randomness_sections, witness_sections, transcript_sections}

-- element m of the elements whose words start at a place
abbrev pub element_at : List ℕ → ℕ → ℕ → Element
element_at words place m = element (part words (place + 64 * m) 64)

-- "A triangle lists row i, columns 0 to i, rows rising.": the index of cell (i, j) for j ≤ i, and of (j, i), mirrored
abbrev pub cell : ℕ → ℕ → ℕ
cell i j = triangular (max i j) + min i j

-- the statement, the matrices and the randomness, public to prover and verifier
pub record Public : Type 0 where
  pub P : Parameters
  pub a' : ℕ → ℕ → ℕ → Element
  pub φ' : ℕ → ℕ → ℕ → Element
  pub b₀ : ℕ → ℕ
  pub a : ℕ → ℕ → ℕ → Element
  pub φ : ℕ → ℕ → ℕ → Element
  pub b : ℕ → Element
  pub A : ℕ → ℕ → Element
  pub B : ℕ → ℕ → Element
  pub C : ℕ → ℕ → Element
  pub D : ℕ → ℕ → Element
  pub Π : ℕ → ℕ → ℕ → ℕ
  pub psi : ℕ → ℕ → ℕ
  pub omega : ℕ → ℕ → ℕ
  pub alpha : ℕ → Element
  pub beta : ℕ → Element
  pub c : ℕ → Element

-- the public values of a job and a randomness. a' l i j, a k i j: cells of triangles; φ' l i m, φ k i m: element m of vector i; Π i j m: entry m of row j of vector i's matrix
abbrev pub public : List ℕ → List ℕ → Public
public J R =
    let P = parameters J in
    let at : ℕ → ℕ = λ m. 31 + start (job_sections P) m in
    let of = start (randomness_sections P) in
    record {
      P = P;
      a' = λ l i j. element_at J (at 0) (l * T P + cell i j);
      φ' = λ l i m. element_at J (at 1) ((l * P.r + i) * P.n + m);
      b₀ = λ l. get_or J (at 2 + l) 0;
      a = λ k i j. element_at J (at 3) (k * T P + cell i j);
      φ = λ k i m. element_at J (at 4) ((k * P.r + i) * P.n + m);
      b = λ k. element_at J (at 5) k;
      A = λ k m. element_at J (at 6) (k * P.n + m);
      B = λ k m. element_at J (at 7) (k * (P.r * P.κ * P.t₁) + m);
      C = λ k m. element_at J (at 8) (k * (T P * P.t₂) + m);
      D = λ k m. element_at J (at 9) (k * (T P * P.t₁) + m);
      Π = λ i j m. entry (get_or R (of 0 + ((i * 256 + j) * (64 * P.n) + m)) 0);
      psi = λ k l. get_or R (of 1 + (k * P.l + l)) 0;
      omega = λ k j. get_or R (of 2 + (k * 256 + j)) 0;
      alpha = λ k. element_at R (of 3) k;
      beta = λ k. element_at R (of 4) k;
      c = λ i. element (challenge (part R (of 5 + 41 * i) 41) (part R (of 6 + 63 * i) 63));
    }

-- s i m: element m of the witness vector s_i
abbrev pub witness : Parameters → List ℕ → ℕ → ℕ → Element
witness P W i m = element_at W (start (witness_sections P) 0) (i * P.n + m)

-- what the prover sends
pub record Message : Type 0 where
  pub u₁ : ℕ → Element
  pub p : ℕ → ℕ
  pub b'' : ℕ → Element
  pub u₂ : ℕ → Element
  pub z : ℕ → Element
  pub t : ℕ → ℕ → Element
  pub g : ℕ → ℕ → Element
  pub h : ℕ → ℕ → Element

-- the message of a transcript's words
abbrev pub message : Parameters → List ℕ → Message
message P X =
    let at = start (transcript_sections P) in
    record {
      u₁ = λ k. element_at X (at 0) k;
      p = λ j. get_or X (at 1 + j) 0;
      b'' = λ k. element_at X (at 2) k;
      u₂ = λ k. element_at X (at 3) k;
      z = λ m. element_at X (at 4) m;
      t = λ i k. element_at X (at 5) (i * P.κ + k);
      g = λ i j. element_at X (at 6) (cell i j);
      h = λ i j. element_at X (at 7) (cell i j);
    }
