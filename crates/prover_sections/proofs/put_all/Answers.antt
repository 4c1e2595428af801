-- `put_all` meets its contract.
use mathlib.Core.List.{[], ◌∷◌}
use Rattle.relation_env_params.specs.Parameters.{parameters_of}
use Rattle.prover_commit.proofs.Room.{placed}
use Rattle.prover_p_and_b.specs.Sections.{p_in, b''_in}
use Rattle.prover_sections.specs.Sections.{u₁_in, u₂_in, last_in}
use Rattle.prover_p_and_b.proofs.TranscriptSections.{room-first, put_after, put_room}
use Rattle.prover_sections.proofs.put_all.Goals as goal

pub compute_u1-p_at-requires : goal.compute_u1-p_at-requires
compute_u1-p_at-requires c =
    let a = c.args in (
      c.requires.ready.0,
      room-first _ 0 ((u₁_in (parameters_of a.params) a.regions a.scratch.now a.job.now) ∷ [])
          ((p_in (parameters_of a.params) a.randomness.now a.witness.now) ∷ (b''_in (parameters_of a.params) a.regions a.scratch.now)
          ∷ (u₂_in (parameters_of a.params) a.regions a.scratch.now a.job.now) ∷ (last_in (parameters_of a.params) a.regions a.scratch.now a.witness.now)) c.requires.sections_room,
    )

pub compute_p-b_at-requires : goal.compute_p-b_at-requires
compute_p-b_at-requires c =
    let a = c.args in (
      c.requires.ready.1,
      room-first _ _ ((p_in (parameters_of a.params) a.randomness.now a.witness.now) ∷ [])
          ((b''_in (parameters_of a.params) a.regions a.scratch.now) ∷ (u₂_in (parameters_of a.params) a.regions a.scratch.now a.job.now)
          ∷ (last_in (parameters_of a.params) a.regions a.scratch.now a.witness.now))
          (put_room a.output.now _ 0 _ ((u₁_in (parameters_of a.params) a.regions a.scratch.now a.job.now) ∷ [])
          ((p_in (parameters_of a.params) a.randomness.now a.witness.now) ∷ (b''_in (parameters_of a.params) a.regions a.scratch.now)
          ∷ (u₂_in (parameters_of a.params) a.regions a.scratch.now a.job.now)
          ∷ (last_in (parameters_of a.params) a.regions a.scratch.now a.witness.now)) c.requires.sections_room c.compute_u1-p_at.ensures),
    )

pub put_b_double_prime-u_at-requires : goal.put_b_double_prime-u_at-requires
put_b_double_prime-u_at-requires c =
    let a = c.args in (
      placed _ _ _ _ c.requires.ready.0,
      room-first _ _ ((b''_in (parameters_of a.params) a.regions a.scratch.now) ∷ [])
          ((u₂_in (parameters_of a.params) a.regions a.scratch.now a.job.now) ∷ (last_in (parameters_of a.params) a.regions a.scratch.now a.witness.now))
          (put_room a.output.now _ 0 _
          ((u₁_in (parameters_of a.params) a.regions a.scratch.now a.job.now) ∷ (p_in (parameters_of a.params) a.randomness.now a.witness.now) ∷ [])
          ((b''_in (parameters_of a.params) a.regions a.scratch.now) ∷ (u₂_in (parameters_of a.params) a.regions a.scratch.now a.job.now)
          ∷ (last_in (parameters_of a.params) a.regions a.scratch.now a.witness.now)) c.requires.sections_room
          (put_after a.output.now _ _ 0 _ _ ((u₁_in (parameters_of a.params) a.regions a.scratch.now a.job.now) ∷ [])
          ((p_in (parameters_of a.params) a.randomness.now a.witness.now) ∷ [])
          c.compute_u1-p_at.ensures c.compute_p-b_at.ensures)),
    )

pub compute_u2-z_at-requires : goal.compute_u2-z_at-requires
compute_u2-z_at-requires c =
    let a = c.args in (
      c.requires.ready.0,
      room-first _ _ ((u₂_in (parameters_of a.params) a.regions a.scratch.now a.job.now) ∷ [])
          ((last_in (parameters_of a.params) a.regions a.scratch.now a.witness.now))
          (put_room a.output.now _ 0 _
          ((u₁_in (parameters_of a.params) a.regions a.scratch.now a.job.now) ∷ (p_in (parameters_of a.params) a.randomness.now a.witness.now)
          ∷ (b''_in (parameters_of a.params) a.regions a.scratch.now) ∷ [])
          ((u₂_in (parameters_of a.params) a.regions a.scratch.now a.job.now)
          ∷ (last_in (parameters_of a.params) a.regions a.scratch.now a.witness.now)) c.requires.sections_room
          (put_after a.output.now _ _ 0 _ _
          ((u₁_in (parameters_of a.params) a.regions a.scratch.now a.job.now)
          ∷ (p_in (parameters_of a.params) a.randomness.now a.witness.now) ∷ [])
          ((b''_in (parameters_of a.params) a.regions a.scratch.now) ∷ [])
          (put_after a.output.now _ _ 0 _ _ ((u₁_in (parameters_of a.params) a.regions a.scratch.now a.job.now) ∷ [])
          ((p_in (parameters_of a.params) a.randomness.now a.witness.now) ∷ [])
          c.compute_u1-p_at.ensures
          c.compute_p-b_at.ensures) c.put_b_double_prime-u_at.ensures)),
    )

pub put_z_t_g_h-requires : goal.put_z_t_g_h-requires
put_z_t_g_h-requires c =
    let a = c.args in (
      placed _ _ _ _ c.requires.ready.0,
      c.requires.ready.1.vectors,
      c.requires.ready.2,
      put_room a.output.now _ 0 _
          ((u₁_in (parameters_of a.params) a.regions a.scratch.now a.job.now) ∷ (p_in (parameters_of a.params) a.randomness.now a.witness.now)
          ∷ (b''_in (parameters_of a.params) a.regions a.scratch.now) ∷ (u₂_in (parameters_of a.params) a.regions a.scratch.now a.job.now) ∷ [])
          ((last_in (parameters_of a.params) a.regions a.scratch.now a.witness.now)) c.requires.sections_room
          (put_after a.output.now _ _ 0 _ _
          ((u₁_in (parameters_of a.params) a.regions a.scratch.now a.job.now) ∷ (p_in (parameters_of a.params) a.randomness.now a.witness.now)
          ∷ (b''_in (parameters_of a.params) a.regions a.scratch.now) ∷ []) ((u₂_in (parameters_of a.params) a.regions a.scratch.now a.job.now) ∷ [])
          (put_after a.output.now _ _ 0 _ _
          ((u₁_in (parameters_of a.params) a.regions a.scratch.now a.job.now)
          ∷ (p_in (parameters_of a.params) a.randomness.now a.witness.now) ∷ [])
          ((b''_in (parameters_of a.params) a.regions a.scratch.now) ∷ [])
          (put_after a.output.now _ _ 0 _ _ ((u₁_in (parameters_of a.params) a.regions a.scratch.now a.job.now) ∷ [])
          ((p_in (parameters_of a.params) a.randomness.now a.witness.now) ∷ [])
          c.compute_u1-p_at.ensures
          c.compute_p-b_at.ensures)
          c.put_b_double_prime-u_at.ensures)
          c.compute_u2-z_at.ensures),
    )

pub returns : goal.returns
returns c =
    let a = c.args in
    put_after a.output.now _ _ 0 _ _
    ((u₁_in (parameters_of a.params) a.regions a.scratch.now a.job.now) ∷ (p_in (parameters_of a.params) a.randomness.now a.witness.now)
    ∷ (b''_in (parameters_of a.params) a.regions a.scratch.now) ∷ (u₂_in (parameters_of a.params) a.regions a.scratch.now a.job.now) ∷ [])
    (last_in (parameters_of a.params) a.regions a.scratch.now a.witness.now)
    (put_after a.output.now _ _ 0 _ _
    ((u₁_in (parameters_of a.params) a.regions a.scratch.now a.job.now) ∷ (p_in (parameters_of a.params) a.randomness.now a.witness.now)
    ∷ (b''_in (parameters_of a.params) a.regions a.scratch.now) ∷ []) ((u₂_in (parameters_of a.params) a.regions a.scratch.now a.job.now) ∷ [])
    (put_after a.output.now _ _ 0 _ _
    ((u₁_in (parameters_of a.params) a.regions a.scratch.now a.job.now)
    ∷ (p_in (parameters_of a.params) a.randomness.now a.witness.now) ∷ [])
    ((b''_in (parameters_of a.params) a.regions a.scratch.now) ∷ [])
    (put_after a.output.now _ _ 0 _ _ ((u₁_in (parameters_of a.params) a.regions a.scratch.now a.job.now) ∷ [])
    ((p_in (parameters_of a.params) a.randomness.now a.witness.now) ∷ [])
    c.compute_u1-p_at.ensures
    c.compute_p-b_at.ensures)
    c.put_b_double_prime-u_at.ensures)
    c.compute_u2-z_at.ensures)
    c.put_z_t_g_h.ensures
