-- `commit_plain` meets its contract.
use native.Mathlib.Omega.{arith}
use Rattle.std.proofs.lemmas.Result.{err_from_is_err_and}
use Rattle.core_workspace.proofs.Unchanged.{unchanged_refl}
use Rattle.core_workspace.proofs.Ready.{ready-sized}
use Rattle.prover_commit.proofs.Room.{placed}
use Rattle.prover_commit.proofs.Commitments.{t_plain_fits, t_made, g_plain_fits, g_plain-made}
use Rattle.prover_commit.proofs.TAndG.{given-t, given-g, t-refused, unchanged_t, t_and-g}
use Rattle.prover_commit.proofs.commit_plain.Goals as goal

pub commit_all-requires : goal.commit_all-requires
commit_all-requires c = t_plain_fits _ _ _ _ _ c.requires _ c.of_job-a_at.ensures

pub check_t-requires : goal.check_t-requires
check_t-requires c =
    let h = c.requires in
    placed _ _ _ _ (given-t _ _ _ _ _ h _ (unchanged_refl _ _) _
    (t_made _ _ _ _ _ h _ _ _ c.of_job-a_at.ensures c.commit_all.ensures)).ready

pub compute_g-requires : goal.compute_g-requires
compute_g-requires c =
    let h = c.requires in
    g_plain_fits _ _ _ _ _ (given-t _ _ _ _ _ h _ (unchanged_refl _ _) _
    (t_made _ _ _ _ _ h _ _ _ c.of_job-a_at.ensures
    c.commit_all.ensures))

pub check_triangle-requires : goal.check_triangle-requires
check_triangle-requires c =
    let h = c.requires in
    let e = t_made _ _ _ _ _ h _ _ _ c.of_job-a_at.ensures
    c.commit_all.ensures in
    let g = given-t _ _ _ _ _ h _ (unchanged_refl _ _) _ e in
    let p = placed _ _ _ _ (given-g _ _ _ _ _ h _ (unchanged_refl _ _) _ e _
    (g_plain-made _ _ _ _ _ g _ c.compute_g.ensures)).ready in
    (p.sized, p.g, p.sized.within.t₂.1)

pub returns-in_err-check_t-clause-result_value : goal.returns-in_err-check_t-clause-result_value
returns-in_err-check_t-clause-result_value c =
    let h = c.requires in
    let f = c.from_residual in
    let p = err_from_is_err_and f.result f.ensures.1 in
    rw (p.1, p.2) (t-refused _ _ _ _ _ h _ (unchanged_refl _ _) _
    (t_made _ _ _ _ _ h _ _ _ c.of_job-a_at.ensures c.commit_all.ensures) _ c.in_err-check_t.ensures)

pub returns-in_err-check_t-clause-unchanged : goal.returns-in_err-check_t-clause-unchanged
returns-in_err-check_t-clause-unchanged c =
    let h = c.requires in
    unchanged_t _ _ _ _ _ h _ (unchanged_refl _ _) _ (t_made _ _ _ _ _ h _ _ _ c.of_job-a_at.ensures c.commit_all.ensures)

pub returns : goal.returns
returns c =
    let h = c.requires in
    let e = t_made _ _ _ _ _ h _ _ _ c.of_job-a_at.ensures
    c.commit_all.ensures in
    let g = given-t _ _ _ _ _ h _ (unchanged_refl _ _) _ e in
    let whole = t_and-g _ _ _ _ _ h _ (unchanged_refl _ _) _ e c.check_triangle.result c.in_ok-check_t.ensures _
    (g_plain-made _ _ _ _ _ g _ c.compute_g.ensures) c.check_triangle.ensures in
    record { result_value = whole.0; unchanged = whole.1.0; made = whole.1.1 }

pub of_job-a_at-requires : goal.of_job-a_at-requires
of_job-a_at-requires c = (ready-sized _ _ _ _ c.requires.ready, omega arith)
