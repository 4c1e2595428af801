-- `work_out` meets its contract.
use mathlib.Core.Path.{refl, ◌∙◌}
use native.Mathlib.Omega.{arith}
use Rattle.spec_protocol.specs.Layout.{span}
use Rattle.relation_env_params.specs.Parameters.{parameters_of}
use Rattle.load_constraints.specs.declared.sums.Target.{Target}
use Rattle.load_constraints.specs.Sums.{plus}
use Rattle.load_constraints.specs.Terms.{left_of}
use Rattle.load.proofs.Places.{Aims, placed_triangles, placed-vectors, zero_reduced}
use Rattle.load.proofs.Finish.{sums-from_zero}
use Rattle.load.proofs.work_out.Goals as goal

pub add_left-requires : goal.add_left-requires
unfolding span
add_left-requires c =
    let s = c.args in
    let h = c.requires in
    let P = parameters_of s.params in
    let t : Target = record {
      b0_at = c.of_job.result;
      l = s.params.constraint_l;
      b_at =
          c.of_job-2.result;
      k = s.params.constraint_k;
    } in
    let aims : Aims P t = record { b₀ = c.of_job.ensures; l = refl; b = c.of_job-2.ensures; k = refl } in (
      placed_triangles P s.job.now t h.0 h.1 aims _ _ c.of_job-a0.ensures c.of_job-a.ensures,
      placed-vectors P s.job.now t h.0 h.1 aims _ _ c.of_job-phi0.ensures c.of_job-phi.ensures,
      zero_reduced P s.job.now t h.0 h.1 aims,
      omega (arith, h.2),
      h.0.within.r.1,
      h.0.within.n.1,
    )

pub returns : goal.returns
returns c =
    let s = c.args in
    let P = parameters_of s.params in
    let t : Target = record {
      b0_at = c.of_job.result;
      l = s.params.constraint_l;
      b_at =
          c.of_job-2.result;
      k = s.params.constraint_k;
    } in
    c.add_left.ensures
    ∙ (λ i. plus s.job.now t (left_of s.job.now (c.of_job-a0.ensures i)
    (c.of_job-phi0.ensures i) s.witness.now 1 P.r P.n)
    (left_of s.job.now (c.of_job-a.ensures i) (c.of_job-phi.ensures i) s.witness.now 1 P.r P.n))
    ∙ sums-from_zero P s.job.now s.witness.now t c.requires.1
    c.of_job.ensures refl c.of_job-2.ensures refl
