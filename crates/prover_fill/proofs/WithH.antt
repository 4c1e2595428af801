-- What the steps up to φ find and leave in the scratch, and b'' and h after it.
use mathlib.Core.Path.{◌≡◌, refl, ap, ◌∙◌}
use mathlib.Core.Bool.{Bool, true, false, cond}
use mathlib.Core.List.{List, ◌++◌}
use Prim.Native.Nat.{ℕ, ◌+◌, ◌≤◌}
use native.Mathlib.Omega.{arith}
use lib.ListN.{length, length-append}
use Rattle.math.specs.lists.Part.{splice}
use Rattle.math.proofs.lists.Splice.{length-splice}
use Rattle.spec_protocol.specs.Parameters.{Parameters, parameters}
use Rattle.spec_protocol.specs.Layout.{scratch_need}
use Rattle.layout_regions.specs.declared.Regions.{Regions}
use Rattle.relation_env_params.specs.declared.env_params.EnvironmentParameters.{EnvironmentParameters}
use Rattle.core_workspace.specs.Ready.{Ready, Drawn}
use Rattle.core_workspace.specs.Holds.{Holds, Unchanged}
use Rattle.core_workspace.specs.Aggregated.{a''_words, φ''_words, φ_words}
use Rattle.core_workspace.proofs.Unchanged.{unchanged_stored, unchanged_trans}
use Rattle.core_workspace.proofs.Ready.{drawn_fewer, φ''-end, a''-end, φ-end, a-end, g_end, c-end, length-φ'', length-a'', length-φ}
use Rattle.prover_commit.specs.Words.{t_words, g_words, b''_words, h_words}
use Rattle.prover_commit.specs.Refusals.{h_refusal, h_check}
use Rattle.prover_commit.specs.Work.{WorkGiven, Committed, Weighed, Aggregated, AllMade, with_h}
use Rattle.prover_commit.proofs.Commitments.{b''-made, held-stored, held-before, held_after, given-changed, a-room, given-h, unchanged_h, stands_h, held-h, h_checked}
use Rattle.prover_commit.proofs.Lengths.{length-h}
use Rattle.prover_fill.specs.Stored.{with_φ, with_b'', weighed_scratch, MadeWith}
use Rattle.prover_fill.proofs.Scratch as Scratch

-- φ and b'' leave the scratch's length
pub length-weighed : (b : Bool) (J R W : List ℕ) (params : EnvironmentParameters) (regions : Regions) (S : List ℕ) → length (weighed_scratch b J R W params regions S) ≡ length S
length-weighed true J R W params regions S = length-splice (with_φ J R regions S) regions.b2 _ ∙ length-splice S regions.phi (φ_words J R)
length-weighed false J R W params regions S = length-splice S regions.phi (φ_words J R)

module _ (J R W : List ℕ) (params : EnvironmentParameters) (regions : Regions) (S : List ℕ) (h : WorkGiven J W params regions S) (d : Drawn 5 J R) where
  abbrev P : Parameters
  P = parameters J

  -- φ'' and a'' together
  abbrev both : List ℕ
  both = φ''_words J R ++ a''_words J R

  -- where they end
  both_end : 0 + length both ≤ regions.phi
  both_end = omega (arith, length-append (φ''_words J R) (a''_words J R), length-φ'' J R, length-a'' J R, h.ready.laid.first, h.ready.laid.a2, h.ready.laid.phi)

  φ_stop : regions.phi + length (φ_words J R) ≤ regions.a_or_h
  φ_stop = omega (arith, length-φ J R, φ-end J params regions S h.ready)

  a_stop : regions.a_or_h + length (h_words J R W) ≤ regions.g
  a_stop = omega (arith, length-h J R W, a-end J params regions S h.ready)

  g-first : regions.g ≤ regions.t
  g-first = omega (arith, g_end J params regions S h.ready, c-end J params regions S h.ready)

  h_room : regions.a_or_h + length (h_words J R W) ≤ scratch_need P
  h_room = omega (arith, length-h J R W, a-room J W params regions S h)

  -- t and g stand after what is stored
  committed-after : (L L' : List ℕ) (to : ℕ) (new : List ℕ) → L' ≡ splice L to new → to + length new ≤ regions.g → Committed J W regions L → Committed J W regions L'
  committed-after L L' to new e l c =
      record { t = held_after L L' to new e regions.t (t_words J W) (omega (arith, g-first, l)) c.t; g = held_after L L' to new e regions.g (g_words J W) l c.g }

  -- a scratch of which the needed words changed
  module _ (S₁ : List ℕ) (unchanged : Unchanged (scratch_need P) S S₁) where
    given₁ : WorkGiven J W params regions S₁
    given₁ = given-changed J W params regions S h S₁ unchanged.size

    pub double_prime_needs : Ready J params regions S₁ × Drawn 3 J R
    double_prime_needs = (given₁.ready, drawn_fewer 5 3 J R (omega arith) d)

    -- into which φ'' and a'' were stored
    module _ (S₂ : List ℕ) (e₂ : S₂ ≡ splice S₁ 0 both) where
      size₂ : length S₂ ≡ length S
      size₂ = ap length e₂ ∙ length-splice S₁ 0 both ∙ unchanged.size

      φ''-held : Holds S₂ regions.phi2 (φ''_words J R)
      φ''-held = Scratch.φ''-held J R W params regions S₁ given₁ S₂ e₂

      a''-held : Holds S₂ regions.a2 (a''_words J R)
      a''-held = Scratch.a''-held J R W params regions S₁ given₁ S₂ e₂

      pub pass_needs : WorkGiven J W params regions S₂ × Drawn 5 J R × Holds S₂ regions.phi2 (φ''_words J R)
      pass_needs = (given-changed J W params regions S h S₂ size₂, d, φ''-held)

      -- then φ
      module _ (S₃ : List ℕ) (e₃ : S₃ ≡ splice S₂ regions.phi (φ_words J R)) where
        pub φ-held : Holds S₃ regions.phi (φ_words J R)
        φ-held = held-stored S₂ S₃ regions.phi (φ_words J R) e₃ (omega (arith, φ_stop, h_room, h.ready.room, size₂))

        pub unchanged_φ : Unchanged (scratch_need P) S S₃
        unchanged_φ = unchanged_stored (scratch_need P) S S₂ S₃ regions.phi (φ_words J R)
            (unchanged_stored (scratch_need P) S S₁ S₂ 0 both unchanged e₂ (omega (arith, both_end, φ_stop, h_room))) e₃ (omega (arith, φ_stop, h_room))

        pub weighed : Committed J W regions S₁ → Weighed J R W regions S₃
        weighed w =
            record {
              committed = committed-after S₂ S₃ regions.phi (φ_words J R) e₃ (omega (arith, φ_stop, a_stop))
                  (committed-after S₁ S₂ 0 both e₂ (omega (arith, both_end, φ_stop, a_stop)) w);
              phi2 =
                  held-before S₂ S₃ regions.phi (φ_words J R) e₃ regions.phi2 (φ''_words J R)
                  (omega (arith, length-φ'' J R, φ''-end J params regions S h.ready, a''-end J params regions S h.ready)) φ''-held;
              a2 = held-before S₂ S₃ regions.phi (φ_words J R) e₃ regions.a2 (a''_words J R) (omega (arith, length-a'' J R, a''-end J params regions S h.ready)) a''-held;
              phi = φ-held;
            }

-- h after φ: a scratch with t, g and φ
module _ (J R W : List ℕ) (params : EnvironmentParameters) (regions : Regions) (S : List ℕ) (h : WorkGiven J W params regions S)
    (S₁ : List ℕ) (unchanged : Unchanged (scratch_need (parameters J)) S S₁) (k : Weighed J R W regions S₁) where
  pub weighed-given : WorkGiven J W params regions S₁
  weighed-given = given-changed J W params regions S h S₁ unchanged.size

  g-before-t : regions.g ≤ regions.t
  g-before-t = omega (arith, g_end J params regions S h.ready, c-end J params regions S h.ready)

  -- and then h
  module _ (S₂ : List ℕ) (e : Unchanged regions.phi (with_h W params regions S₁) S₂) where
    pub h_answered : h_check params regions S₂ ≡ h_refusal J R W
    h_answered = h_checked J W params regions S₂ (given-h J W params regions S₁ weighed-given R S₂ k.phi e) R (held-h J W params regions S₁ weighed-given R S₂ k.phi e)

    pub h_unchanged : Unchanged (scratch_need (parameters J)) S S₂
    h_unchanged = unchanged_trans (scratch_need (parameters J)) S S₁ S₂ unchanged (unchanged_h J W params regions S₁ weighed-given R S₂ k.phi e)

    pub h-aggregated : Aggregated J R W regions S₂
    h-aggregated =
        record {
          committed = record {
            t = stands_h J W params regions S₁ weighed-given R S₂ k.phi e regions.t (t_words J W) g-before-t k.committed.t;
            g = stands_h J W params regions S₁ weighed-given R S₂ k.phi e regions.g (g_words J W) (omega arith) k.committed.g;
          };
          h = held-h J W params regions S₁ weighed-given R S₂ k.phi e;
        }

  -- or b'' first
  module _ (S₂ : List ℕ) (e : S₂ ≡ splice S₁ regions.b2 (b''_words J R W)) where
    stays : (at : ℕ) (ws : List ℕ) → at + length ws ≤ regions.b2 → Holds S₁ at ws → Holds S₂ at ws
    stays = Scratch.b''-before J R W params regions S₁ weighed-given S₂ e

    t-place : regions.t + length (t_words J W) ≤ regions.b2
    t-place = Scratch.t-below J R W params regions S₁ weighed-given

    g-place : regions.g + length (g_words J W) ≤ regions.b2
    g-place = omega (arith, Scratch.g-below J R W params regions S₁ weighed-given, Scratch.c-below J R W params regions S₁ weighed-given, t-place)

    φ-place : regions.phi + length (φ_words J R) ≤ regions.b2
    φ-place = omega (arith, length-φ J R, φ-end J params regions S h.ready, a-end J params regions S h.ready, g-place)

    b_unchanged : Unchanged (scratch_need (parameters J)) S S₂
    b_unchanged = unchanged_trans (scratch_need (parameters J)) S S₁ S₂ unchanged (Scratch.b''_unchanged J R W params regions S₁ weighed-given S₂ e)

    b-given : WorkGiven J W params regions S₂
    b-given = given-changed J W params regions S h S₂ b_unchanged.size

    φ_stands : Holds S₂ regions.phi (φ_words J R)
    φ_stands = stays regions.phi (φ_words J R) φ-place k.phi

    -- and then h
    module _ (S₃ : List ℕ) (e' : Unchanged regions.phi (with_h W params regions S₂) S₃) where
      pub all_answered : h_check params regions S₃ ≡ h_refusal J R W
      all_answered = h_checked J W params regions S₃ (given-h J W params regions S₂ b-given R S₃ φ_stands e') R (held-h J W params regions S₂ b-given R S₃ φ_stands e')

      pub all_unchanged : Unchanged (scratch_need (parameters J)) S S₃
      all_unchanged = unchanged_trans (scratch_need (parameters J)) S S₂ S₃ b_unchanged (unchanged_h J W params regions S₂ b-given R S₃ φ_stands e')

      pub all_made : AllMade J R W regions S₃
      all_made = (
        record {
          committed = record {
            t = stands_h J W params regions S₂ b-given R S₃ φ_stands e' regions.t (t_words J W) g-before-t (stays regions.t (t_words J W) t-place k.committed.t);
            g = stands_h J W params regions S₂ b-given R S₃ φ_stands e' regions.g (g_words J W) (omega arith) (stays regions.g (g_words J W) g-place k.committed.g);
          };
          h = held-h J W params regions S₂ b-given R S₃ φ_stands e';
        },
        stands_h J W params regions S₂ b-given R S₃ φ_stands e' regions.b2 (b''_words J R W) (omega (arith, g-place)) (Scratch.b''-held J R W params regions S₁ weighed-given S₂ e),
      )

  -- what h leaves after φ and, where it is asked for, b''
  abbrev pub After : (with-b : Bool) → List ℕ → Type 0
  After with-b E = (h_check params regions E ≡ h_refusal J R W) × (Unchanged (scratch_need (parameters J)) S E × MadeWith with-b J R W regions E)

  pub weighed_after : (with-b : Bool) (E : List ℕ) → Unchanged regions.phi (with_h W params regions (cond with-b (with_b'' S₁ W params regions) S₁)) E → After with-b E
  weighed_after true E u =
      let b = with_b'' S₁ W params regions in
      let e = b''-made J W params regions S₁ weighed-given R b k.phi2 k.a2 k.committed.g refl in
      (all_answered b e E u, (all_unchanged b e E u, all_made b e E u))
  weighed_after false E u = (h_answered E u, (h_unchanged E u, h-aggregated E u))
