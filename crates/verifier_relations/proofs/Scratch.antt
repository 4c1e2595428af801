-- What the steps before the checks 24 to 27 leave in the scratch.
use mathlib.Core.Path.{◌≡◌, sym, ap, subst, ◌∙◌}
use mathlib.Core.List.{List, ◌++◌}
use Prim.Native.Nat.{ℕ, ◌+◌, ◌*◌, ◌≤◌}
use native.Mathlib.Omega.{arith}
use lib.ListN.{length, length-append}
use Rattle.math.specs.lists.Part.{splice}
use Rattle.math.proofs.lists.Splice.{length-splice}
use Rattle.spec_protocol.specs.Parameters.{parameters, T}
use Rattle.spec_protocol.specs.Layout.{scratch_need}
use Rattle.layout_regions.specs.declared.Regions.{Regions}
use Rattle.relation_env_params.specs.declared.env_params.EnvironmentParameters.{EnvironmentParameters}
use Rattle.core_workspace.specs.Ready.{Ready}
use Rattle.core_workspace.specs.Holds.{Holds, Unchanged}
use Rattle.core_workspace.specs.Aggregated.{a''_words, φ''_words, φ_words, a_words, c_words}
use Rattle.core_workspace.proofs.Unchanged.{unchanged_refl, unchanged_stored}
use Rattle.core_workspace.proofs.Holds.{holds-stored, holds-before, holds_after, holds-first, holds-second}
use Rattle.core_workspace.proofs.Ready.{length-φ'', length-a'', length-φ, length-a, length-c, ready-changed, regions_end, φ''-end, a''-end, φ-end, a-end, g_end, c-end, t-end, u-end}

-- a scratch that holds words stored before a place, and is as it was from there on
pub record Made (J : List ℕ) (params : EnvironmentParameters) (regions : Regions) (S S' : List ℕ) (at : ℕ) (ws : List ℕ) : Type 0 where
  pub ready : Ready J params regions S'
  pub unchanged : Unchanged (scratch_need (parameters J)) S S'
  pub holds : Holds S' at ws

module _ (J R : List ℕ) (params : EnvironmentParameters) (regions : Regions) (S : List ℕ) (ready : Ready J params regions S) (S' : List ℕ) where
  -- words stored before the length needed
  made : (at : ℕ) (ws : List ℕ) → S' ≡ splice S at ws → at + length ws ≤ scratch_need (parameters J) → Made J params regions S S' at ws
  made at ws e h = record {
    ready = ready-changed J params regions S ready S' (ap length e ∙ length-splice S at ws);
    unchanged = unchanged_stored (scratch_need (parameters J)) S S S' at ws (unchanged_refl (scratch_need (parameters J)) S) e h;
    holds = subst (λ l. Holds l at ws) (sym e) (holds-stored S at ws (omega (arith, h, ready.room)));
  }

  -- where the challenges' region ends
  c_need : regions.challenges + 64 * (parameters J).r ≤ scratch_need (parameters J)
  c_need = omega (arith, c-end J params regions S ready, t-end J params regions S ready, u-end J params regions S ready, regions_end J params regions S ready)

  -- the regions before it end before it
  before-c : regions.a_or_h + 64 * T (parameters J) ≤ regions.challenges
  before-c = omega (arith, a-end J params regions S ready, g_end J params regions S ready)

  φ-before-c : regions.phi + 64 * ((parameters J).r * (parameters J).n) ≤ regions.challenges
  φ-before-c = omega (arith, φ-end J params regions S ready, before-c)

  a''-before-c : regions.a2 + 64 * ((parameters J).L * T (parameters J)) ≤ regions.challenges
  a''-before-c = omega (arith, a''-end J params regions S ready, φ-before-c)

  -- the challenges
  pub challenges-made : S' ≡ splice S regions.challenges (c_words J R) → Made J params regions S S' regions.challenges (c_words J R)
  challenges-made e = made regions.challenges (c_words J R) e (omega (arith, length-c J R, c_need))

  -- a
  pub a-made : S' ≡ splice S regions.a_or_h (a_words J R) → Made J params regions S S' regions.a_or_h (a_words J R)
  a-made e = made regions.a_or_h (a_words J R) e (omega (arith, length-a J R, before-c, c_need))

  module _ (e : S' ≡ splice S regions.phi (φ_words J R)) where
    -- φ
    pub φ-made : Made J params regions S S' regions.phi (φ_words J R)
    φ-made = made regions.phi (φ_words J R) e (omega (arith, length-φ J R, φ-before-c, c_need))

    -- which leaves a''
    pub φ_leaves-a'' : Holds S regions.a2 (a''_words J R) → Holds S' regions.a2 (a''_words J R)
    φ_leaves-a'' h =
        subst (λ l. Holds l regions.a2 (a''_words J R)) (sym e)
        (holds-before S regions.a2 (a''_words J R) regions.phi (φ_words J R) (omega (arith, length-a'' J R, a''-end J params regions S ready)) h)

    -- and the challenges
    pub φ_leaves-c : Holds S regions.challenges (c_words J R) → Holds S' regions.challenges (c_words J R)
    φ_leaves-c h =
        subst (λ l. Holds l regions.challenges (c_words J R)) (sym e)
        (holds_after S regions.challenges (c_words J R) regions.phi (φ_words J R) (omega (arith, length-φ J R, φ-before-c)) h)

  module _ (e : S' ≡ splice S 0 (φ''_words J R ++ a''_words J R)) where
    -- where a'' ends
    double_end : 0 + length (φ''_words J R ++ a''_words J R) ≤ regions.challenges
    double_end = omega (arith, length-append (φ''_words J R) (a''_words J R), length-φ'' J R, length-a'' J R, ready.laid.first, φ''-end J params regions S ready, a''-before-c)

    -- φ'' and a''
    pub double_made : Made J params regions S S' 0 (φ''_words J R ++ a''_words J R)
    double_made = made 0 (φ''_words J R ++ a''_words J R) e (omega (arith, double_end, c_need))

    pub φ''-made : Holds S' regions.phi2 (φ''_words J R)
    φ''-made = subst (λ k. Holds S' k (φ''_words J R)) (sym ready.laid.first) (holds-first S' 0 (φ''_words J R) (a''_words J R) double_made.holds)

    pub a''-made : Holds S' regions.a2 (a''_words J R)
    a''-made =
        let place : 0 + length (φ''_words J R) ≡ regions.a2 = omega (arith, length-φ'' J R, ready.laid.first, ready.laid.a2) in
        subst (λ k. Holds S' k (a''_words J R)) place (holds-second S' 0 (φ''_words J R) (a''_words J R) double_made.holds)

    -- which leave the challenges
    pub double_leaves_c : Holds S regions.challenges (c_words J R) → Holds S' regions.challenges (c_words J R)
    double_leaves_c h =
        subst (λ l. Holds l regions.challenges (c_words J R)) (sym e) (holds_after S regions.challenges (c_words J R) 0 (φ''_words J R ++ a''_words J R) double_end h)
