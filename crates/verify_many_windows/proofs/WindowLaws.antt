-- The windows of the scratch and the products in them.
use mathlib.Core.Path.{◌≡◌, sym, ap, subst, ◌∙◌}
use mathlib.Core.Bool.{Bool, true}
use mathlib.Core.List.{List, ◌++◌}
use Prim.Native.Nat.{ℕ, ◌+◌, ◌-◌, ◌*◌, ◌≤◌, ◌<◌}
use native.Mathlib.Nat.{mul-le-mul}
use native.Mathlib.Omega.{arith}
use lib.ListN.{length, take, drop, replicate, length-drop}
use lib.Seq.{take-add, drop-drop, drop_at, length-take-le}
use Rattle.math.specs.lists.Table.{table}
use Rattle.math.specs.lists.Part.{part}
use Rattle.spec_leaves.specs.Rq.{Element}
use Rattle.spec_protocol.specs.Parameters.{Parameters, parameters}
use Rattle.spec_protocol.specs.Layout.{scratch_need}
use Rattle.spec_protocol.specs.Formulas.{flat}
use Rattle.spec_protocol.specs.Many.{transcript_part, row_count, row_product, RowsDone, window}
use Rattle.ring_rq_matrix.proofs.Place.{rows-within}
use Rattle.relation_env_params.specs.declared.env_params.EnvironmentParameters.{EnvironmentParameters}
use Rattle.relation_env_params.specs.Parameters.{parameters_of}
use Rattle.layout_sizes.specs.Sizes.{Sized}
use Rattle.layout_sizes.proofs.Sized.{sized}
use Rattle.verifier_common.specs.Work.{Posed, Received}
use Rattle.verifier_common.proofs.Sent.{received}
use Rattle.verify_many_windows.specs.Rowable.{Rowable}

-- the products of so many rows, and zeros for the others
abbrev pub products : ℕ → (ℕ → Element) → List ℕ
products ρ f = flat (table ρ f) ++ replicate (64 * (64 - ρ)) 0

-- the products' part of a window
pub window-products : (P : Parameters) (S : List ℕ) (m : ℕ) → m * scratch_need P + scratch_need P ≤ length S
    → drop (scratch_need P - 4096) (window P S m) ≡ part S (m * scratch_need P + (scratch_need P - 4096)) 4096
window-products P S m h =
    let need = scratch_need P in
    let pa = need - 4096 in
    let l = drop (m * need) S in
    let size : need ≡ pa + 4096 = omega arith in
    let room : pa ≤ length l = omega (arith, length-drop (m * need) S) in
    ap (λ n. drop pa (take n l)) size
    ∙ ap (drop pa) (take-add pa 4096 l)
    ∙ drop_at (take pa l) (take 4096 (drop pa l)) pa (length-take-le pa l room)
    ∙ ap (take 4096) (drop-drop pa (m * need) S)

module _ (J X S : List ℕ) (m ρ : ℕ) (h : m * scratch_need (parameters J) + scratch_need (parameters J) ≤ length S) where
  abbrev at : ℕ
  at = m * scratch_need (parameters J) + (scratch_need (parameters J) - 4096)

  -- a window's products by the scratch's words
  pub done_of : RowsDone J X (window (parameters J) S m) ρ → part S at 4096 ≡ products ρ (row_product J X)
  unfolding RowsDone
  done_of d = sym (window-products (parameters J) S m h) ∙ d

  pub of_done : part S at 4096 ≡ products ρ (row_product J X) → RowsDone J X (window (parameters J) S m) ρ
  unfolding RowsDone
  of_done d = window-products (parameters J) S m h ∙ d

-- what is known of a call's windows
module _ (J T : List ℕ) (count : ℕ) (passes : ℕ → Bool) (scratch : ℕ) (params : EnvironmentParameters) (r : Rowable J T count passes scratch params) where
  -- its parameters can be reckoned with
  pub rowable_sized : Sized (parameters_of params)
  rowable_sized = sized J (parameters_of params) r.sound r.same

  -- a transcript that passes is posed
  pub posed : (m : ℕ) → m < count → passes m ≡ true → Posed J (transcript_part (parameters J) count T m) params
  posed m h t = record { same = r.same; sound = r.sound; job = r.job; transcript = r.laid m h t }

  -- and received, by the code's parameters
  pub part_received : (m : ℕ) → m < count → passes m ≡ true → Received (transcript_part (parameters_of params) count T m) params
  part_received m h t = subst (λ P. Received (transcript_part P count T m) params) (sym r.same) (received (posed m h t))

  -- the rows are few
  pub few-rows : row_count (parameters_of params) ≤ 64
  few-rows =
      let w = rowable_sized.within in
      omega (arith, w.κ.1, w.κ₁.1, w.κ₂.1)

  module _ (n : ℕ) (e : n ≡ scratch_need (parameters_of params)) where
    -- the length needed, by the job's parameters
    pub need_is : n ≡ scratch_need (parameters J)
    need_is = e ∙ ap scratch_need r.same

    -- the products' elements take no more
    pub need_large : 4096 ≤ n
    need_large = subst (λ k. 4096 ≤ k) (sym e) (omega arith)

    -- the windows lie within the scratch
    pub windows_within : count * n ≤ scratch
    windows_within = subst (λ k. count * k ≤ scratch) (sym need_is) r.room

    pub window-within : (m : ℕ) → m < count → m * n + n ≤ scratch
    window-within m h = omega (arith, windows_within, rows-within m count n h)

    -- the place of row ρ's product in the window that ends at a place
    pub place_is : (m end ρ : ℕ) → end ≡ m * n + n → end - 4096 + 64 * ρ ≡ m * scratch_need (parameters J) + (scratch_need (parameters J) - 4096) + 64 * ρ
    place_is m end ρ f =
        let g : end - 4096 + 64 * ρ ≡ m * n + (n - 4096) + 64 * ρ = omega (arith, need_large) in
        g ∙ ap (λ k. m * k + (k - 4096) + 64 * ρ) need_is

-- products of parameters within their limits; t is at most T's greatest value
pub record Few (P : Parameters) (t : ℕ) : Type 0 where
  pub rκ : P.r * P.κ ≤ 256
  pub rκt₁ : P.r * P.κ * P.t₁ ≤ 8192
  pub tt₂ : t * P.t₂ ≤ 4352
  pub tt₁ : t * P.t₁ ≤ 4352

pub few : (P : Parameters) (t : ℕ) → Sized P → t ≤ 136 → Few P t
few P t s h =
    let w = s.within in
    let rκ : P.r * P.κ ≤ 256 = mul-le-mul w.r.1 w.κ.1 in
    record { rκ = rκ; rκt₁ = mul-le-mul rκ w.t₁.1; tt₂ = mul-le-mul h w.t₂.1; tt₁ = mul-le-mul h w.t₁.1 }
