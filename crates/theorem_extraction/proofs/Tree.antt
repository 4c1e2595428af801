-- T5: a tree of accepted transcripts gives away a short vector of A, (B | C) or D, or a witness that meets every constraint and whose projection is p.
use mathlib.Core.Path.{◌≡◌}
use mathlib.Core.List.{List}
use mathlib.Core.Logic.{◌⊎◌, inr}
use Prim.Native.Nat.{ℕ, ◌<◌}
use Rattle.spec_leaves.specs.Rq.{Element}
use Rattle.spec_protocol.specs.Parameters.{Parameters, parameters}
use Rattle.spec_protocol.specs.Formulas as F
use Rattle.theorem_extraction.specs.Fork.{Branch, values, message_of, GivesAway}
use Rattle.theorem_extraction.specs.Extracted.{extracted}
use Rattle.theorem_extraction.specs.Tree.{Place, root, beta, alpha, psi, psi-beta, omega, omega-beta, Within, trunk, AtBeta, Tree, branches, Witness}
use Rattle.theorem_extraction.proofs.Search.{all-below, or_else}
use Rattle.theorem_extraction.proofs.TreeForks.{MeetsSum, fork-meets}
use Rattle.theorem_extraction.proofs.TreeWeights.{ring_met, row_met, constant_met, projection_met}

-- of each place that is used a fact holds, or something else is found: the fact holds of all, or that is found
every-place : {G : Type 0} (P : Parameters) (C : Place → Type 0) → ((p : Place) → Within P p → G ⊎ C p) → G ⊎ ((p : Place) → Within P p → C p)
every-place {G} P C each =
    or_else (each root (record {})) (λ of-root.
    or_else (each beta (record {})) (λ of-beta.
    or_else (all-below P.K (λ k. C (alpha k)) (λ k. each (alpha k))) (λ of-alpha.
    or_else (all-below P.l (λ x. C (psi x)) (λ x. each (psi x))) (λ of_psi.
    or_else (all-below P.l (λ x. C (psi-beta x)) (λ x. each (psi-beta x))) (λ of-psi-beta.
    or_else (all-below 256 (λ j. C (omega j)) (λ j. each (omega j))) (λ of-omega.
    or_else (all-below 256 (λ j. C (omega-beta j)) (λ j. each (omega-beta j))) (λ of-omega-beta.
    inr (joined of-root of-beta of-alpha of_psi of-psi-beta of-omega of-omega-beta))))))))
  where
    joined : C root → C beta → ((k : ℕ) → k < P.K → C (alpha k)) → ((x : ℕ) → x < P.l → C (psi x)) → ((x : ℕ) → x < P.l → C (psi-beta x))
        → ((j : ℕ) → j < 256 → C (omega j)) → ((j : ℕ) → j < 256 → C (omega-beta j)) → (p : Place) → Within P p → C p
    joined of-root of-beta of-alpha of_psi of-psi-beta of-omega of-omega-beta root h = of-root
    joined of-root of-beta of-alpha of_psi of-psi-beta of-omega of-omega-beta beta h = of-beta
    joined of-root of-beta of-alpha of_psi of-psi-beta of-omega of-omega-beta (alpha k) h = of-alpha k h
    joined of-root of-beta of-alpha of_psi of-psi-beta of-omega of-omega-beta (psi x) h = of_psi x h
    joined of-root of-beta of-alpha of_psi of-psi-beta of-omega of-omega-beta (psi-beta x) h = of-psi-beta x h
    joined of-root of-beta of-alpha of_psi of-psi-beta of-omega of-omega-beta (omega j) h = of-omega j h
    joined of-root of-beta of-alpha of_psi of-psi-beta of-omega of-omega-beta (omega-beta j) h = of-omega-beta j h

module _ {J : List ℕ} (T : Tree J) where
  -- the vectors that the root extracts, and the first transcript of each fork
  abbrev s : ℕ → ℕ → Element
  s = extracted (T.fork root)

  abbrev at : Place → Branch J
  at p = trunk (T.fork p)

  -- where they meet the aggregated constraints of all forks
  module _ (met : (p : Place) → Within (parameters J) p → MeetsSum (at p) s) where
    -- the row of b'' of a fork that is forked at beta
    row_of : (p q : Place) → Within (parameters J) p → Within (parameters J) q → AtBeta (at p) (at q) T.row → F.b'' (values (at p)) s T.row ≡ (message_of (at p)).b'' T.row
    row_of p q h k forked = row_met (at p) (at q) s T.row T.row_below forked (met p h) (met q k)

    root-row : F.b'' (values (at root)) s T.row ≡ (message_of (at root)).b'' T.row
    root-row = row_of root beta (record {}) (record {}) T.at_beta

    -- they are a witness
    pub all_met : Witness T
    all_met = record {
      meets = record {
        constants = λ x h. constant_met (at root) (at (psi x)) s T.row T.row_below root-row (row_of (psi x) (psi-beta x) h h (T.at_psi_beta x h)) x h (T.at_psi x h);
        rings = λ k h. ring_met (at root) (at (alpha k)) s k h (T.at_alpha k h) (met root (record {})) (met (alpha k) h);
      };
      projection = λ j h. projection_met (at root) (at (omega j)) s T.row T.row_below root-row (row_of (omega j) (omega-beta j) h h (T.at_omega_beta j h)) j h (T.at_omega j h);
    }

-- T5
pub witness : (J : List ℕ) (T : Tree J) → GivesAway J (branches T) ⊎ Witness T
witness J T = or_else (every-place (parameters J) (λ p. MeetsSum (trunk (T.fork p)) (extracted (T.fork root))) (λ p within. fork-meets T p within)) (λ met. inr (all_met T met))
