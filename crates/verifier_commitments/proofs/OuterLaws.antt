-- What the checks 28 and 29 stand on, of the parameters and places that the code holds.
use mathlib.Core.Path.{◌≡◌, refl, sym, ap, subst, ◌∙◌}
use mathlib.Core.Bool.{Bool, cond}
use mathlib.Core.List.{List, []}
use Prim.Native.Nat.{ℕ, ◌+◌, ◌*◌, ◌≤◌, ◌<◌, ◌^◌}
use native.Mathlib.Omega.{arith}
use mir.Syntax.{w64}
use mir.Val.{Fits}
use lib.ListN.{length, get_or}
use Rattle.math.specs.lists.Table.{table}
use Rattle.math.specs.lists.Part.{part, splice}
use Rattle.spec_leaves.specs.Zq.{Canonical}
use Rattle.spec_leaves.specs.Answer.{Answer, fine, failed}
use Rattle.spec_leaves.specs.Rq.{Element}
use Rattle.spec_protocol.specs.Checks.{require, first}
use Rattle.spec_protocol.specs.Parameters.{Parameters, parameters, triangular}
use Rattle.spec_protocol.specs.Layout.{start, job_sections, scratch_need}
use Rattle.spec_protocol.specs.Views.{public, message}
use Rattle.spec_protocol.specs.Formulas.{◌⊕◌, flat, times}
use Rattle.spec_protocol.specs.Verifier.{same, check_28, check_29}
use Rattle.spec_protocol.proofs.Flat.{length-flat-table}
use Rattle.layout_regions.specs.declared.Regions.{Regions}
use Rattle.relation_env_params.specs.declared.env_params.EnvironmentParameters.{EnvironmentParameters}
use Rattle.relation_env_params.specs.Parameters.{parameters_of}
use Rattle.ring_inner_product.specs.Run.{run}
use Rattle.ring_rq_matrix.specs.Region.{vector}
use Rattle.commitments_outer.specs.Cells.{digits_at, Cells, CanonicalFrom}
use Rattle.commitments_outer.proofs.Formula.{digits, u₁_is, u₂_is}
use Rattle.core_workspace.specs.Ready.{Ready}
use Rattle.core_workspace.specs.Holds.{Unchanged}
use Rattle.core_workspace.proofs.Unchanged.{unchanged_refl, unchanged_stored}
use Rattle.core_workspace.proofs.Ready.{regions_end, u-end, b''-end}
use Rattle.verifier_common.specs.Work.{Received, Posed, equal}
use Rattle.verifier_common.proofs.Sent.{product_small, transcript_at, reckoned, transcript-room, job-room, t_within, g_within, h-within}
use Rattle.verifier_commitments.proofs.Compared.{compared}

-- where the words of the job's section m after the parameters start
abbrev pub job_at : Parameters → ℕ → ℕ
job_at P m = 31 + start (job_sections P) m

-- cells that lie within a slice
cells_at : (X : List ℕ) (at cells count parts : ℕ) → cells ≡ count → at + 64 * count ≤ length X → cells ≤ 2 ^ 18 → parts ≤ 32 → Cells X (digits at cells parts)
cells_at X at cells count parts e h few less = record { within = subst (λ n. at + 64 * n ≤ length X) (sym e) h; few_cells = few; few_parts = less }

-- small counts fit a word of 64 bits
pub few_words : (n : ℕ) → n ≤ 16 → Fits w64 (64 * n)
few_words n h = omega arith

pub few_cells : (n : ℕ) → n ≤ 256 → Fits w64 n
few_cells n h = omega arith

-- a place from 0 on
from_zero : (a : ℕ) → 0 + a ≡ a
from_zero a = omega arith

module _ (X : List ℕ) (params : EnvironmentParameters) (s : Received X params) where
  -- the base is not 0 or 1
  pub base_large : 1 < params.b
  base_large = omega (arith, s.sized.within.b.0)

  -- r·κ is small
  pub few-t : params.multiplicity * params.kappa ≤ 256
  few-t = product_small params.multiplicity params.kappa s.sized.within.r.1 s.sized.within.κ.1

  -- the digits of t, g and h in the transcript
  module _ (at cells : ℕ) where
    pub t_cells : at ≡ transcript_at (parameters_of params) 5 → cells ≡ params.multiplicity * params.kappa → Cells X (digits at cells params.t_1)
    t_cells e f = cells_at X at cells (params.multiplicity * params.kappa) params.t_1 f (t_within X params s at e) (omega (arith, f, few-t)) s.sized.within.t₁.1

    pub g_cells : at ≡ transcript_at (parameters_of params) 6 → (cells ≡ triangular params.multiplicity) × (cells ≤ 136) → Cells X (digits at cells params.t_2)
    g_cells e f = cells_at X at cells (triangular params.multiplicity) params.t_2 f.0 (g_within X params s at e) (omega (arith, f.1)) s.sized.within.t₂.1

    pub h_cells : at ≡ transcript_at (parameters_of params) 7 → (cells ≡ triangular params.multiplicity) × (cells ≤ 136) → Cells X (digits at cells params.t_1)
    h_cells e f = cells_at X at cells (triangular params.multiplicity) params.t_1 f.0 (h-within X params s at e) (omega (arith, f.1)) s.sized.within.t₁.1

module _ (J X : List ℕ) (params : EnvironmentParameters) (s : Posed J X params) where
  -- u2's words in the transcript lie within it and are canonical
  pub u₂-within : (at : ℕ) → at ≡ transcript_at (parameters_of params) 3 → at + 64 * params.kappa_2 ≤ length X
  u₂-within at e = transcript-room s 3 at (omega arith) e

  pub u₂-canonical : (at : ℕ) → at ≡ transcript_at (parameters_of params) 3 → CanonicalFrom X at (64 * params.kappa_2)
  u₂-canonical at e =
      subst (λ a. CanonicalFrom X a (64 * params.kappa_2)) (sym e)
      (subst (λ Q. CanonicalFrom X (transcript_at Q 3) (64 * Q.κ₂)) (sym s.same)
      (λ i h. subst (λ a. Canonical (get_or X (a + i) 0)) (from_zero (transcript_at (parameters J) 3)) (s.transcript.ranges 3 i (omega arith) h)))

  -- u1's words in the transcript lie within it and are canonical
  pub u₁-within : (at : ℕ) → at ≡ transcript_at (parameters_of params) 0 → at + 64 * params.kappa_1 ≤ length X
  u₁-within at e = transcript-room s 0 at (omega arith) e

  pub u₁-canonical : (at : ℕ) → at ≡ transcript_at (parameters_of params) 0 → CanonicalFrom X at (64 * params.kappa_1)
  u₁-canonical at e =
      subst (λ a. CanonicalFrom X a (64 * params.kappa_1)) (sym e)
      (subst (λ Q. CanonicalFrom X (transcript_at Q 0) (64 * Q.κ₁)) (sym s.same)
      (λ i h. subst (λ a. Canonical (get_or X (a + i) 0)) (from_zero (transcript_at (parameters J) 0)) (s.transcript.ranges 0 i (omega arith) h)))

  -- B and C lie within the job
  pub B-within : (at : ℕ) → at ≡ job_at (parameters_of params) 7 → at + 64 * (params.kappa_1 * (params.multiplicity * params.kappa * params.t_1)) ≤ length J
  B-within at e = job-room s 7 at (omega arith) e

  pub C-within : (at cells : ℕ) → at ≡ job_at (parameters_of params) 8 → cells ≡ triangular params.multiplicity → at + 64 * (params.kappa_1 * (cells * params.t_2)) ≤ length J
  C-within at cells e f =
      subst (λ n. at + 64 * (params.kappa_1 * (n * params.t_2)) ≤ length J) (sym f)
      (job-room s 8 at (omega arith) e)

  -- D lies within the job
  pub D-within : (at cells : ℕ) → at ≡ job_at (parameters_of params) 9 → cells ≡ triangular params.multiplicity → at + 64 * (params.kappa_2 * (cells * params.t_1)) ≤ length J
  D-within at cells e f =
      subst (λ n. at + 64 * (params.kappa_2 * (n * params.t_1)) ≤ length J) (sym f)
      (job-room s 9 at (omega arith) e)

  -- with a scratch
  module _ (regions : Regions) (S : List ℕ) (ready : Ready J params regions S) where
    -- as many elements as u1 or u2 has fit their region
    pub u-within : (n : ℕ) → n ≤ 16 → regions.u + 64 * n ≤ length S
    u-within n h = omega (arith, u-end J params regions S ready, b''-end J params regions S ready)

    -- a store there leaves what is beyond the length needed
    pub u_unchanged : (S' : List ℕ) (n : ℕ) (f : ℕ → Element) → n ≤ 16 → S' ≡ splice S regions.u (flat (table n f)) → Unchanged (scratch_need (parameters J)) S S'
    u_unchanged S' n f h e =
        unchanged_stored (scratch_need (parameters J)) S S S' regions.u (flat (table n f)) (unchanged_refl (scratch_need (parameters J)) S) e
        (omega (arith, length-flat-table n f, u-end J params regions S ready, regions_end J params regions S ready))

    -- 29 by the boolean's value
    pub u₂-answer : (h-at cells d-at u-at : ℕ) (S' : List ℕ) (t : Bool) → h-at ≡ transcript_at (parameters_of params) 7 → cells ≡ triangular params.multiplicity
        → d-at ≡ job_at (parameters_of params) 9
        → u-at ≡ transcript_at (parameters_of params) 3
        → S' ≡ splice S regions.u (flat (table params.kappa_2 (times (vector J d-at (cells * params.t_1)) (digits_at X (digits h-at cells params.t_1) params.b))))
        → t ≡ equal (part X u-at (64 * params.kappa_2)) (part S' regions.u (64 * params.kappa_2))
        → cond t fine (failed 29 []) ≡ check_29 (public J []) (message (parameters J) X)
    unfolding check_29
    u₂-answer h-at cells d-at u-at S' t e-h e-n e-d e-u stored v =
        compared X S S' u-at regions.u params.kappa_2 (worked params h-at cells d-at) 29 [] t (u₂-within u-at e-u) (u₂-canonical u-at e-u)
        (u-within params.kappa_2 (reckoned s).within.κ₂.1) stored v
        ∙ ap (λ a. checked params.kappa_2 u-at (worked params a cells d-at)) e-h
        ∙ ap (λ n. checked params.kappa_2 u-at (worked params (transcript_at (parameters_of params) 7) n d-at)) e-n
        ∙ ap (λ a. checked params.kappa_2 u-at (worked params (transcript_at (parameters_of params) 7) (triangular params.multiplicity) a)) e-d
        ∙ ap (λ a. checked params.kappa_2 a (worked params (transcript_at (parameters_of params) 7) (triangular params.multiplicity) (job_at (parameters_of params) 9))) e-u
        ∙ ap (λ Q. checked Q.κ₂ (transcript_at Q 3)
        (times (vector J (job_at Q 9) (triangular Q.r * Q.t₁)) (digits_at X (digits (transcript_at Q 7) (triangular Q.r) Q.t₁) Q.b))) s.same
        ∙ ap (checked (parameters J).κ₂ (transcript_at (parameters J) 3)) (u₂_is J [] X (transcript_at (parameters J) 7) (message (parameters J) X).h (λ i j l m. refl))
      where
        -- what is worked out, of the places and the number that the code holds
        worked : EnvironmentParameters → ℕ → ℕ → ℕ → ℕ → Element
        worked params h-at cells d-at = times (vector J d-at (cells * params.t_1)) (digits_at X (digits h-at cells params.t_1) params.b)

        -- the elements of the transcript from a place on compared with others
        checked : ℕ → ℕ → (ℕ → Element) → Answer
        checked n at f = first n (λ k. require (same (run X at 64 k) (f k)) (failed 29 []))

    -- 28 by the boolean's value
    pub u₁-answer : (t-at g-at cells b_at c-at u-at : ℕ) (S' : List ℕ) (t : Bool) → t-at ≡ transcript_at (parameters_of params) 5 → g-at ≡ transcript_at (parameters_of params) 6
        → cells ≡ triangular params.multiplicity
        → b_at ≡ job_at (parameters_of params) 7 → c-at ≡ job_at (parameters_of params) 8 → u-at ≡ transcript_at (parameters_of params) 0
        → S'
        ≡ splice S regions.u
        (flat
        (table params.kappa_1
        (λ k. times (vector J b_at (params.multiplicity * params.kappa * params.t_1)) (digits_at X (digits t-at (params.multiplicity * params.kappa) params.t_1) params.b) k
        ⊕ times (vector J c-at (cells * params.t_2)) (digits_at X (digits g-at cells params.t_2) params.b) k)))
        → t ≡ equal (part X u-at (64 * params.kappa_1)) (part S' regions.u (64 * params.kappa_1))
        → cond t fine (failed 28 []) ≡ check_28 (public J []) (message (parameters J) X)
    unfolding check_28
    u₁-answer t-at g-at cells b_at c-at u-at S' t e-t e-g e-n e-b e-c e-u stored v =
        compared X S S' u-at regions.u params.kappa_1 (worked (parameters_of params) t-at g-at cells b_at c-at) 28 [] t (u₁-within u-at e-u) (u₁-canonical u-at e-u)
        (u-within params.kappa_1 (reckoned s).within.κ₁.1) stored v
        ∙ ap (λ a. checked params.kappa_1 u-at (worked (parameters_of params) a g-at cells b_at c-at)) e-t
        ∙ ap (λ a. checked params.kappa_1 u-at (worked (parameters_of params) (transcript_at (parameters_of params) 5) a cells b_at c-at)) e-g
        ∙ ap (λ n. checked params.kappa_1 u-at (worked (parameters_of params) (transcript_at (parameters_of params) 5) (transcript_at (parameters_of params) 6) n b_at c-at)) e-n
        ∙ ap (λ a. checked params.kappa_1 u-at
        (worked (parameters_of params) (transcript_at (parameters_of params) 5) (transcript_at (parameters_of params) 6) (triangular params.multiplicity) a c-at)) e-b
        ∙ ap (λ a. checked params.kappa_1 u-at
        (worked (parameters_of params) (transcript_at (parameters_of params) 5) (transcript_at (parameters_of params) 6) (triangular params.multiplicity) (job_at (parameters_of params) 7) a)) e-c
        ∙ ap (λ a. checked params.kappa_1 a (settled (parameters_of params))) e-u
        ∙ ap (λ Q. checked Q.κ₁ (transcript_at Q 0) (settled Q)) s.same
        ∙ ap (checked (parameters J).κ₁ (transcript_at (parameters J) 0))
        (u₁_is J [] X (transcript_at (parameters J) 5) (transcript_at (parameters J) 6) (message (parameters J) X).t (message (parameters J) X).g (λ i k l m. refl) (λ i j l m. refl))
      where
        -- what is worked out, of places and a number of cells
        worked : Parameters → ℕ → ℕ → ℕ → ℕ → ℕ → ℕ → Element
        worked Q t-at g-at cells b_at c-at k =
            times (vector J b_at (Q.r * Q.κ * Q.t₁)) (digits_at X (digits t-at (Q.r * Q.κ) Q.t₁) Q.b) k
            ⊕ times (vector J c-at (cells * Q.t₂)) (digits_at X (digits g-at cells Q.t₂) Q.b) k

        -- of those of the parameters
        settled : Parameters → ℕ → Element
        settled Q = worked Q (transcript_at Q 5) (transcript_at Q 6) (triangular Q.r) (job_at Q 7) (job_at Q 8)

        -- the elements of the transcript from a place on compared with others
        checked : ℕ → ℕ → (ℕ → Element) → Answer
        checked n at f = first n (λ k. require (same (run X at 64 k) (f k)) (failed 28 []))
