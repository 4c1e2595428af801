-- `row_of_all` meets its contract.
use mathlib.Core.Path.{◌≡◌, sym, ap, subst, ◌∙◌}
use mathlib.Core.Bool.{false}
use Prim.Native.Nat.{◌+◌, ◌-◌, ◌*◌, ◌≤◌, ◌<◌, ◌^◌}
use native.Mathlib.Nat.{mul-le-mul}
use native.Mathlib.Omega.{arith}
use lib.ListN.{length, get_or}
use Rattle.spec_protocol.specs.Parameters.{parameters, T}
use Rattle.spec_protocol.specs.Layout.{scratch_need}
use Rattle.spec_protocol.specs.Unchanged.{Unchanged}
use Rattle.spec_protocol.specs.Many.{many_need, AllRowsDone}
use Rattle.relation_env_params.specs.Parameters.{parameters_of}
use Rattle.layout_sizes.specs.Sizes.{Sized}
use Rattle.layout_sizes.proofs.Sized.{sized}
use Rattle.verify_many_windows.specs.Digits.{digit_count}
use Rattle.verify_many_windows.proofs.WindowLaws.{few}
use Rattle.verify_many_digits.specs.NttDigits.{AllNttDigits}
use Rattle.verify_many_digits.specs.Sums.{RowSummed}
use Rattle.verify_many_digits.specs.Rows.{stored_sums}
use Rattle.verify_many_digits.proofs.SumLaws.{values-part}
use Rattle.verify_many_digits.proofs.RowLaws.{few_cells, need_small, length-sums, RowIs, row_is, sums_are, unchanged_all, digits_stay, row_done}
use Rattle.verify_many_digits.proofs.rows.row_of_all.Goals.{After-place_of-p, After-scratch_length-need, After-slice_known-1, Start}
use Rattle.verify_many_digits.proofs.rows.row_of_all.Goals as goal

-- the parameters can be reckoned with
reckoned : (s : Start) → Sized (parameters_of s.args.params)
reckoned s = sized s.args.job.now (parameters_of s.args.params) s.requires.valued.sound s.requires.valued.same

-- there are few rows
few-rows : (s : Start) → s.args.row < 64
few-rows s = let w = (reckoned s).within in omega (arith, w.κ.1, w.κ₁.1, w.κ₂.1, s.requires.kappa_le_row.1)

-- what is known of the row
known : (c : After-place_of-p) → let s = c.args in RowIs s.job.now s.params s.row c.place_of-p.result
known c =
    subst (λ R. RowIs c.args.job.now c.args.params c.args.row R) (sym c.place_of-p.ensures)
    (row_is c.args.job.now c.args.params c.requires.valued.same c.requires.valued.job c.args.row c.requires.kappa_le_row.0 c.requires.kappa_le_row.1)

-- the length of a window, by the job's parameters
need_is : (c : After-scratch_length-need) → c.scratch_length-need.result ≡ scratch_need (parameters c.args.job.now)
need_is c = c.scratch_length-need.ensures ∙ ap scratch_need c.requires.valued.same

pub row_sums-sums-requires : goal.row_sums-sums-requires
row_sums-sums-requires c =
    let s = (goal.at.row_sums-sums-requires c).Start in
    let v = c.requires.valued in
    let k = known (goal.at.row_sums-sums-requires c).After-place_of-p in
    let R = c.place_of-p.result in
    let P = parameters c.args.job.now in
    let within = subst (λ P. k.off + R.width ≤ digit_count P) v.same k.within in
    let f = few (parameters_of c.args.params) (T (parameters_of c.args.params)) (reckoned s) (few_cells (parameters_of c.args.params) (reckoned s).within.r.1) in
    let n = need_is (goal.at.row_sums-sums-requires c).After-scratch_length-need in
    let windows : c.args.count * c.scratch_length-need.result ≤ 8 * 4000000 =
    mul-le-mul v.few (subst (λ x. x ≤ 4000000) (sym c.scratch_length-need.ensures) (need_small (parameters_of c.args.params) (reckoned s).within)) in
    let short : R.digits + c.args.count * c.scratch_length-need.result + 192 * R.width < 2 ^ 64 = omega
    (arith, k.place, k.within, f.rκt₁, f.tt₂, f.tt₁, windows) in (
      omega (arith, k.inside, c.of_job.ensures),
      record {
        few = v.few;
        short = short;
        values = λ m h t.
            values-part c.args.scratch.now (m * scratch_need P) k.off R.width (digit_count P) (R.digits + m * c.scratch_length-need.result)
            (v.values m h t) within
            (omega (arith, k.place, ap (λ x. m * x) n));
      },
    )

pub store_sums-requires : goal.store_sums-requires
store_sums-requires c =
    let s = (goal.at.store_sums-requires c).Start in
    let n = need_is (goal.at.store_sums-requires c).After-scratch_length-need in (
      c.requires.valued.few,
      omega (arith, few-rows s, c.scratch_length-need.ensures),
      subst (λ x. c.args.count * x ≤ length
          c.args.scratch.now) (sym n) c.requires.valued.room,
    )

pub returns : goal.returns
returns c =
    let s = (goal.at.returns c).Start in
    let a = c.args in
    let J = a.job.now in
    let S = a.scratch.now in
    let v = c.requires.valued in
    let few = few-rows s in
    let R = c.place_of-p.result in
    let sums = c.row_sums-sums.result in
    let n = need_is (goal.at.returns c).After-scratch_length-need in
    let e = c.store_sums.ensures in
    let stored = e.0 ∙ ap (λ x. stored_sums sums (λ m. get_or a.passes m false) (x - 4096 + 64 * a.row) x a.count S) n in
    let row_at = c.of_job.result + 64 * (R.k * R.width) in
    let summed = subst (λ x. RowSummed J row_at R.width S a.count (λ m. get_or a.passes m false) R.digits x sums) n c.row_sums-sums.ensures in record {
      row_made = λ T₀ r digits done.
          let is = sums_are J a.params v.same v.job a.row c.requires.kappa_le_row.0 c.requires.kappa_le_row.1 T₀ a.count (λ m. get_or a.passes m false) S (length S) r R (known
          (goal.at.returns c).After-place_of-p) row_at
          (ap (λ x. x + 64 * (R.k * R.width)) c.of_job.ensures) sums summed digits in (
            subst (λ x. AllNttDigits J a.count (λ m. get_or a.passes m false) T₀ x) (sym stored)
                (digits_stay J a.count (λ m. get_or a.passes m false) a.row sums few S v.room e.1 T₀ v.fitting digits),
            subst (λ x. AllRowsDone J a.count (λ m. get_or a.passes m false) T₀ x (a.row + 1)) (sym stored)
                (row_done J a.count (λ m. get_or a.passes m false) a.row sums few S v.room T₀ is done),
          );
      unchanged = subst (λ x. Unchanged (many_need (parameters J) a.count) S x) (sym stored) (unchanged_all J a.count (λ m. get_or a.passes m false) a.row sums few S v.room e.1);
    }

pub scratch_length-need-requires : goal.scratch_length-need-requires
scratch_length-need-requires c = reckoned (goal.at.scratch_length-need-requires c).Start

pub place_of-p-requires : goal.place_of-p-requires
place_of-p-requires c =
    let s = (goal.at.place_of-p-requires c).Start in (reckoned s, c.requires.kappa_le_row.0, c.requires.kappa_le_row.1)

pub of_job-requires : goal.of_job-requires
of_job-requires c = (reckoned (goal.at.of_job-requires c).Start, (known (goal.at.of_job-requires c).After-place_of-p).known)

pub overflow_mul-at : goal.overflow_mul-at
overflow_mul-at c = omega (arith, (known (goal.at.overflow_mul-at c).After-place_of-p).inside)

pub overflow_mul-at-2 : goal.overflow_mul-at-2
overflow_mul-at-2 c = omega (arith, (known (goal.at.overflow_mul-at-2 c).After-place_of-p).inside)

pub overflow_add-at : goal.overflow_add-at
overflow_add-at c = omega (arith, (known (goal.at.overflow_add-at c).After-place_of-p).inside, c.of_job.ensures)

pub overflow_sub-need : goal.overflow_sub-need
overflow_sub-need c = omega (arith, c.scratch_length-need.ensures)

pub overflow_mul-row : goal.overflow_mul-row
overflow_mul-row c = omega (arith, few-rows (goal.at.overflow_mul-row c).Start)

pub overflow_add-need : goal.overflow_add-need
overflow_add-need c = omega (arith, few-rows (goal.at.overflow_add-need c).Start)

pub shape_of-scratch : goal.shape_of-scratch
shape_of-scratch c = ap length c.store_sums.ensures.0 ∙ length-sums _ _ _ _
    c.args.scratch.now _
