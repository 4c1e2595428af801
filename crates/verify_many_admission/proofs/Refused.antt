-- 35 comes before any other test.
use mathlib.Core.Path.{◌≡◌, sym, ap, ap₂, ◌∙◌}
use mathlib.Core.List.{List}
use Prim.Native.Nat.{ℕ, ◌≤◌, ◌<◌}
use native.Mathlib.Decide.{dec_le}
use native.Mathlib.Omega.{arith}
use Rattle.spec_leaves.specs.Answer.{Answer, refused, ◌then◌}
use Rattle.spec_protocol.specs.Checks.{require}
use Rattle.spec_protocol.specs.Parameters.{parameters}
use Rattle.spec_protocol.specs.Layout.{job_refusal}
use Rattle.spec_protocol.proofs.Fine.{require-holds, require_fails}
use Rattle.spec_protocol.specs.Many.{need_refusal, many_refusal}

module _ (J : List ℕ) (count scratch : ℕ) where
  abbrev later : Answer
  later = job_refusal J then need_refusal (parameters J) count scratch

  pub none-handed : count < 1 → refused 35 0 ≡ many_refusal J count scratch
  unfolding many_refusal
  none-handed h = ap (λ a. a then require (dec_le count 8) (refused 35 0) then later) (sym (require_fails (dec_le 1 count) (refused 35 0) (λ g. omega arith)))

  module _ (some : 1 ≤ count) where
    -- the first test is fine
    after_first : {a : Answer} → a ≡ require (dec_le count 8) (refused 35 0) → a then later ≡ many_refusal J count scratch
    unfolding many_refusal
    after_first e = ap₂ (λ a b. a then b then later) (sym (require-holds (dec_le 1 count) (refused 35 0) some)) e

    pub too_many : 8 < count → refused 35 0 ≡ many_refusal J count scratch
    too_many h = after_first (sym (require_fails (dec_le count 8) (refused 35 0) (λ g. omega arith)))

    pub so_many : count ≤ 8 → {a : Answer} → a ≡ later → a ≡ many_refusal J count scratch
    so_many h e = e ∙ after_first (sym (require-holds (dec_le count 8) (refused 35 0) h))
