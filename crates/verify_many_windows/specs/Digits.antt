-- The digits of t, g and h of a transcript at the start of its window.
use Rattle.std.specs.Prelude.{◌≡◌, Bool, true, cond, List, ◌++◌, ℕ, ◌+◌, ◌*◌, ◌≤◌, ◌<◌}
use Rattle.math.specs.lists.Part.{splice}
use Rattle.spec_protocol.specs.Parameters.{Parameters, parameters, T}
use Rattle.spec_protocol.specs.Layout.{scratch_need}
use Rattle.spec_protocol.specs.Formulas.{flat}
use Rattle.spec_protocol.specs.Many.{transcript_part, products_at}
use Rattle.core_workspace.specs.Holds.{Holds}
use Rattle.verify_many_windows.specs.declared.row.Held.{Held}
use Rattle.verify_many_windows.specs.Held.{digits_t, digits_g, digits_h}

-- how many digits t, g and h have
abbrev pub digit_count : Parameters → ℕ
digit_count P = P.r * P.κ * P.t₁ + (T P * P.t₂ + T P * P.t₁)

-- they have room before the products
abbrev pub Fitting : Parameters → Type 0
Fitting P = 64 * digit_count P ≤ products_at P

-- their words
abbrev pub window_digits : Parameters → List ℕ → List ℕ
window_digits P X = flat (digits_t P X) ++ (flat (digits_g P X) ++ flat (digits_h P X))

-- the scratch after they are stored for transcript m, where it passes
abbrev pub digits_for : Parameters → (T : List ℕ) (count m start : ℕ) → (pass : Bool) → List ℕ → List ℕ
digits_for P T count m start pass S = cond pass (splice S start (window_digits P (transcript_part P count T m))) S

-- their places in the window that starts at a place
pub record Places (P : Parameters) (start : ℕ) (at : Held) : Type 0 where
  pub t : at.t ≡ start
  pub g : at.g ≡ start + 64 * (P.r * P.κ * P.t₁)
  pub h : at.h ≡ start + 64 * (P.r * P.κ * P.t₁) + 64 * (T P * P.t₂)

-- those of every transcript that passes stand at the start of its window
abbrev pub AllDigits : (J : List ℕ) → (count : ℕ) → (passes : ℕ → Bool) → (T S : List ℕ) → Type 0
AllDigits J count passes T S =
    (m : ℕ) → m < count → passes m ≡ true → Holds S (m * scratch_need (parameters J)) (window_digits (parameters J) (transcript_part (parameters J) count T m))

-- where they are stored
pub record StoredDigits (J : List ℕ) (count : ℕ) (passes : ℕ → Bool) (T S : List ℕ) (stored : Bool) : Type 0 where
  pub fitting : stored ≡ true → Fitting (parameters J)
  pub all : stored ≡ true → AllDigits J count passes T S
