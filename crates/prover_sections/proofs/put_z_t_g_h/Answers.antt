-- `put_z_t_g_h` meets its contract.
use mathlib.Core.List.{[], ◌∷◌}
use Rattle.relation_env_params.specs.Parameters.{parameters_of}
use Rattle.prover_sections.specs.Sections.{z_in, t_g_h_in}
use Rattle.prover_p_and_b.proofs.TranscriptSections.{room-first, put_after, put_room}
use Rattle.prover_sections.proofs.put_z_t_g_h.Goals as goal

pub compute_z-t_at-requires : goal.compute_z-t_at-requires
compute_z-t_at-requires c =
    let a = c.args in (
      c.requires.0,
      c.requires.1,
      c.requires.2,
      room-first _ a.at ((z_in (parameters_of a.params) a.regions a.scratch.now a.witness.now) ∷ [])
          (t_g_h_in (parameters_of a.params) a.regions a.scratch.now) c.requires.3,
    )

pub put_t_g_h-requires : goal.put_t_g_h-requires
put_t_g_h-requires c =
    let a = c.args in (
      c.requires.0,
      put_room a.output.now _ a.at _ ((z_in (parameters_of a.params) a.regions a.scratch.now a.witness.now) ∷ [])
          (t_g_h_in (parameters_of a.params) a.regions a.scratch.now) c.requires.3 c.compute_z-t_at.ensures,
    )

pub returns : goal.returns
returns c =
    let a = c.args in
    put_after a.output.now _ _ a.at _ _ ((z_in (parameters_of a.params) a.regions a.scratch.now a.witness.now) ∷ [])
    (t_g_h_in (parameters_of a.params) a.regions a.scratch.now) c.compute_z-t_at.ensures c.put_t_g_h.ensures
