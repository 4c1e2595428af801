-- `commit_ntt` meets its contract.
use native.Mathlib.Omega.{arith}
use Rattle.std.proofs.lemmas.Result.{err_from_is_err_and}
use Rattle.core_workspace.proofs.Ready.{ready-sized}
use Rattle.prover_commit.proofs.Room.{placed}
use Rattle.prover_commit.proofs.Commitments.{values_unchanged, t_fits, t_made, g_fits, g-made}
use Rattle.prover_commit.proofs.TAndG.{given-t, given-g, t-refused, unchanged_t, t_and-g}
use Rattle.prover_commit.proofs.commit_ntt.Goals as goal

pub t_of-requires : goal.t_of-requires
t_of-requires c = t_fits _ _ _ _ _ c.requires _ c.of_job-a_at.ensures

pub check_t-requires : goal.check_t-requires
check_t-requires c =
    let h = c.requires in
    placed _ _ _ _ (given-t _ _ _ _ _ h _ (values_unchanged _ _ _ _ _ h) _
    (t_made _ _ _ _ _ h _ _ _ c.of_job-a_at.ensures c.t_of.ensures.scratch_after)).ready

pub compute_g-requires : goal.compute_g-requires
compute_g-requires c =
    let h = c.requires in
    g_fits _ _ _ _ _ (given-t _ _ _ _ _ h _ (values_unchanged _ _ _ _ _ h) _
    (t_made _ _ _ _ _ h _ _ _ c.of_job-a_at.ensures
    c.t_of.ensures.scratch_after)) c.t_of.ensures.ntt_form

pub check_triangle-requires : goal.check_triangle-requires
check_triangle-requires c =
    let h = c.requires in
    let e = t_made _ _ _ _ _ h _ _ _ c.of_job-a_at.ensures
    c.t_of.ensures.scratch_after in
    let g = given-t _ _ _ _ _ h _ (values_unchanged _ _ _ _ _ h) _ e in
    let p = placed _ _ _ _ (given-g _ _ _ _ _ h _ (values_unchanged _ _ _ _ _ h) _ e _
    (g-made _ _ _ _ _ g _ c.t_of.ensures.ntt_form c.compute_g.ensures)).ready in
    (p.sized, p.g, p.sized.within.t₂.1)

pub returns-in_err-check_t-clause-result_value : goal.returns-in_err-check_t-clause-result_value
returns-in_err-check_t-clause-result_value c =
    let h = c.requires in
    let f = c.from_residual in
    let p = err_from_is_err_and f.result f.ensures.1 in
    rw (p.1, p.2) (t-refused _ _ _ _ _ h _ (values_unchanged _ _ _ _ _ h) _
    (t_made _ _ _ _ _ h _ _ _ c.of_job-a_at.ensures c.t_of.ensures.scratch_after) _ c.in_err-check_t.ensures)

pub returns-in_err-check_t-clause-unchanged : goal.returns-in_err-check_t-clause-unchanged
returns-in_err-check_t-clause-unchanged c =
    let h = c.requires in
    unchanged_t _ _ _ _ _ h _ (values_unchanged _ _ _ _ _ h) _ (t_made _ _ _ _ _ h _ _ _ c.of_job-a_at.ensures c.t_of.ensures.scratch_after)

pub returns : goal.returns
returns c =
    let h = c.requires in
    let e = t_made _ _ _ _ _ h _ _ _ c.of_job-a_at.ensures
    c.t_of.ensures.scratch_after in
    let g = given-t _ _ _ _ _ h _ (values_unchanged _ _ _ _ _ h) _ e in
    let whole = t_and-g _ _ _ _ _ h _ (values_unchanged _ _ _ _ _ h) _ e c.check_triangle.result c.in_ok-check_t.ensures _
    (g-made _ _ _ _ _ g _ c.t_of.ensures.ntt_form
    c.compute_g.ensures) c.check_triangle.ensures in
    record { result_value = whole.0; unchanged = whole.1.0; made = whole.1.1 }

pub of_job-a_at-requires : goal.of_job-a_at-requires
of_job-a_at-requires c = (ready-sized _ _ _ _ c.requires.ready, omega arith)
