-- The five rounds: what a round makes, and what it refuses in its work, depends on no more randomness than it is handed.
use mathlib.Core.Path.{◌≡◌, refl, ap, ap₂}
use mathlib.Core.List.{List, [], ◌∷◌}
use Prim.Native.Nat.{ℕ, ◌+◌, ◌≤◌}
use native.Mathlib.Nat.{le_refl}
use native.Mathlib.Decide.{dec_le}
use native.Mathlib.Omega.{arith}
use lib.ListN.{take}
use Rattle.math.specs.lists.Table.{table}
use Rattle.math.proofs.lists.Table.{table_ext}
use Rattle.math.proofs.lists.Cat.{cat_ext}
use Rattle.spec_leaves.specs.Answer.{fine, refused, ◌then◌}
use Rattle.spec_leaves.specs.Rq.{Element}
use Rattle.spec_protocol.specs.Checks.{require}
use Rattle.spec_protocol.specs.Parameters.{Parameters, parameters}
use Rattle.spec_protocol.specs.Layout.{span, sections}
use Rattle.spec_protocol.specs.Views.{public}
use Rattle.spec_protocol.specs.Formulas as F
use Rattle.spec_protocol.specs.Formulas.{flat, rows, triangle, norm_of, digits_of, times}
use Rattle.spec_protocol.specs.Prover.{Call, round₁, round₂, round₃, round₄, round₅, witness_norm, t_norm, g_norm, h_norm, work_refusal, transcript, made}
use Rattle.spec_protocol.proofs.Alike.{upto, u₁-same, p_alike, b''_alike, h_alike, z_alike}

-- the five rounds
pub data Round : Type 0 where
  one two three four five : Round

-- the call of a round
abbrev pub call : Round → Call
call one = round₁
call two = round₂
call three = round₃
call four = round₄
call five = round₅

-- "A round's randomness slice ends after the first 0, 1, 3, 5 or 7 sections.": what a call is handed of the whole call's randomness
abbrev pub handed_to : Call → List ℕ → List ℕ → List ℕ
handed_to c J R = take (upto (parameters J) c.handed) R

-- five sections take fewer words than seven
seven_hold_five : (P : Parameters) → upto P 5 ≤ upto P 7
unfolding span
seven_hold_five P = omega arith

module _ (J R R' : List ℕ) (s : ℕ → ℕ → Element) where
  open parameters J use {n, r, κ, κ₁, κ₂, b, t₁, L, bound_D}

  -- the triangle h, from randomness that is alike for five sections
  h-triangle_alike : (N : ℕ) → take N R ≡ take N R' → upto (parameters J) 5 ≤ N → triangle r (F.h (public J R) s) ≡ triangle r (F.h (public J R') s)
  unfolding triangle
  h-triangle_alike N alike within =
      cat_ext r (λ i. table (i + 1) (F.h (public J R) s i)) (λ i. table (i + 1) (F.h (public J R') s i))
      (λ i hi. table_ext (i + 1) (F.h (public J R) s i) (F.h (public J R') s i) (λ j hj. h_alike J R R' N alike s within i j hi (omega arith)))

  -- what a round makes depends on no more randomness than it is handed
  pub made_alike : (ρ : Round) → handed_to (call ρ) J R ≡ handed_to (call ρ) J R' → made (public J R) (call ρ) s ≡ made (public J R') (call ρ) s
  unfolding made transcript F.t F.g F.u₂ F.u₂_of
  made_alike one alike = ap (λ f. sections (flat (table κ₁ f) ∷ [])) (u₁-same J R R' 0 refl s)
  made_alike two alike =
      ap (λ l. sections (l ∷ []))
      (table_ext 256 (F.p (public J R) s) (F.p (public J R') s) (p_alike J R R' (upto (parameters J) 1) alike s (le_refl (upto (parameters J) 1))))
  made_alike three alike =
      ap (λ l. sections (flat l ∷ []))
      (table_ext L (F.b'' (public J R) s) (F.b'' (public J R') s)
      (λ k hk. b''_alike J R R' (upto (parameters J) 3) alike s (le_refl (upto (parameters J) 3)) k hk))
  made_alike four alike =
      ap (λ l. sections (flat (table κ₂ (times (public J R).D (digits_of b t₁ l))) ∷ []))
      (h-triangle_alike (upto (parameters J) 5) alike (le_refl (upto (parameters J) 5)))
  made_alike five alike =
      ap₂ (λ z h. sections (flat z ∷ flat (rows r κ (F.t (public J R) s)) ∷ flat (triangle r (F.g (public J R) s)) ∷ flat h ∷ []))
      (table_ext n (F.z (public J R) s) (F.z (public J R') s) (λ m hm. z_alike J R R' (upto (parameters J) 7) alike s (le_refl (upto (parameters J) 7)) m))
      (h-triangle_alike (upto (parameters J) 7) alike (seven_hold_five (parameters J)))

  -- the refusals before h read no randomness
  norms-same : witness_norm (public J R) s then t_norm (public J R) (F.t (public J R) s) then g_norm (public J R) (F.g (public J R) s)
      ≡ witness_norm (public J R') s then t_norm (public J R') (F.t (public J R') s) then g_norm (public J R') (F.g (public J R') s)
  unfolding witness_norm t_norm g_norm F.t F.g
  norms-same = refl

  -- that of h reads five sections
  h_norm_alike : (N : ℕ) → take N R ≡ take N R' → upto (parameters J) 5 ≤ N → h_norm (public J R) (F.h (public J R) s) ≡ h_norm (public J R') (F.h (public J R') s)
  unfolding h_norm
  h_norm_alike N alike within = ap (λ l. require (dec_le (norm_of (digits_of b t₁ l)) bound_D) (refused 16 0)) (h-triangle_alike N alike within)

  -- what a round refuses in its work depends on no more randomness than it is handed
  pub work_alike : (ρ : Round) → handed_to (call ρ) J R ≡ handed_to (call ρ) J R' → work_refusal (public J R) (call ρ) s ≡ work_refusal (public J R') (call ρ) s
  unfolding work_refusal
  work_alike one alike = ap (λ a. a then fine) norms-same
  work_alike two alike = ap (λ a. a then fine) norms-same
  work_alike three alike = ap (λ a. a then fine) norms-same
  work_alike four alike = ap₂ ◌then◌ norms-same (h_norm_alike (upto (parameters J) 5) alike (le_refl (upto (parameters J) 5)))
  work_alike five alike = ap₂ ◌then◌ norms-same (h_norm_alike (upto (parameters J) 7) alike (seven_hold_five (parameters J)))
