-- `put` meets its contract.
use native.Mathlib.Omega.{arith}
use Rattle.admission_slices.specs.declared.calls.Call.TheVariants as C
use Rattle.prover_commit.proofs.Answers.{drawn_known}
use Rattle.prover_commit.proofs.Room.{placed, s-room}
use Rattle.prover_p_and_b.proofs.SectionRoom.{projects}
use Rattle.prover_sections.proofs.SectionMade.{c-sparse}
use Rattle.prover_sections.proofs.Calls.{sections₁, sections₂, sections₃, sections₄, sections₅, sections-all, filled_known, room_known, put_known}
use Rattle.prover_sections.proofs.put.Goals as goal

pub put_all-requires : goal.put_all-requires
put_all-requires c =
    let a = c.args in record {
      ready = (
        c.requires.work_given.0.ready,
        projects 7 a.job.now a.randomness.now a.witness.now a.params a.regions a.scratch.now c.requires.work_given.0
            (drawn_known a.call C.Whole a.job.now a.randomness.now c.in-Whole.is c.requires.work_given.1) (omega arith),
        c-sparse a.job.now a.randomness.now a.witness.now a.params a.regions a.scratch.now c.requires.work_given.0.ready.same
            (filled_known a.job.now a.randomness.now a.witness.now a.call C.Whole c.in-Whole.is a.regions a.scratch.now c.requires.filled.0).1.1,
      );
      sections_room = room_known a.job.now
          a.randomness.now a.witness.now a.call C.Whole c.in-Whole.is a.output.now _ c.requires.filled.1
          (sections-all a.job.now a.randomness.now a.witness.now a.params a.regions a.scratch.now c.requires.work_given.0.ready.same
          (filled_known a.job.now a.randomness.now a.witness.now a.call C.Whole c.in-Whole.is a.regions a.scratch.now c.requires.filled.0));
    }

pub returns-in-Whole : goal.returns-in-Whole
returns-in-Whole c =
    let a = c.args in
    put_known a.job.now a.randomness.now a.witness.now a.call C.Whole c.in-Whole.is a.output.now _ _
    c.put_all.ensures.1
    (sections-all a.job.now a.randomness.now a.witness.now a.params a.regions a.scratch.now c.requires.work_given.0.ready.same
    (filled_known a.job.now a.randomness.now a.witness.now a.call C.Whole c.in-Whole.is a.regions
    a.scratch.now c.requires.filled.0))

pub compute_u1-requires : goal.compute_u1-requires
compute_u1-requires c =
    let a = c.args in (
      c.requires.work_given.0.ready,
      room_known a.job.now a.randomness.now a.witness.now a.call C.Round1 c.in-Round1.is a.output.now _
          c.requires.filled.1 (sections₁ a.job.now a.randomness.now a.witness.now a.params a.regions a.scratch.now c.requires.work_given.0.ready.same
          (filled_known a.job.now a.randomness.now a.witness.now a.call C.Round1 c.in-Round1.is a.regions a.scratch.now c.requires.filled.0)),
    )

pub returns-in-Round1 : goal.returns-in-Round1
returns-in-Round1 c =
    let a = c.args in
    put_known a.job.now a.randomness.now a.witness.now a.call C.Round1 c.in-Round1.is a.output.now _ _
    c.compute_u1.ensures.1
    (sections₁ a.job.now a.randomness.now a.witness.now a.params a.regions a.scratch.now c.requires.work_given.0.ready.same
    (filled_known a.job.now a.randomness.now a.witness.now a.call C.Round1 c.in-Round1.is a.regions
    a.scratch.now c.requires.filled.0))

pub compute_p-requires : goal.compute_p-requires
compute_p-requires c =
    let a = c.args in (
      projects 1 a.job.now a.randomness.now a.witness.now a.params a.regions a.scratch.now c.requires.work_given.0
          (drawn_known a.call C.Round2 a.job.now a.randomness.now c.in-Round2.is c.requires.work_given.1) (omega arith),
      room_known a.job.now
          a.randomness.now a.witness.now a.call C.Round2 c.in-Round2.is a.output.now _ c.requires.filled.1
          (sections₂ a.job.now a.randomness.now a.witness.now a.params a.regions a.scratch.now c.requires.work_given.0.ready.same),
    )

pub returns-in-Round2 : goal.returns-in-Round2
returns-in-Round2 c =
    let a = c.args in
    put_known a.job.now a.randomness.now a.witness.now a.call C.Round2 c.in-Round2.is a.output.now _ _
    c.compute_p.ensures.1 (sections₂ a.job.now a.randomness.now a.witness.now a.params a.regions a.scratch.now c.requires.work_given.0.ready.same)

pub put_b_double_prime-requires : goal.put_b_double_prime-requires
put_b_double_prime-requires c =
    let a = c.args in (
      placed _ _ _ _ c.requires.work_given.0.ready,
      room_known a.job.now a.randomness.now a.witness.now a.call C.Round3 c.in-Round3.is
          a.output.now _ c.requires.filled.1
          (sections₃ a.job.now a.randomness.now a.witness.now a.params a.regions a.scratch.now c.requires.work_given.0.ready.same
          (filled_known a.job.now a.randomness.now a.witness.now a.call C.Round3 c.in-Round3.is a.regions a.scratch.now c.requires.filled.0)),
    )

pub returns-in-Round3 : goal.returns-in-Round3
returns-in-Round3 c =
    let a = c.args in
    put_known a.job.now a.randomness.now a.witness.now a.call C.Round3 c.in-Round3.is a.output.now _ _
    c.put_b_double_prime.ensures.1
    (sections₃ a.job.now a.randomness.now a.witness.now a.params a.regions a.scratch.now c.requires.work_given.0.ready.same
    (filled_known a.job.now a.randomness.now a.witness.now a.call C.Round3 c.in-Round3.is a.regions
    a.scratch.now c.requires.filled.0))

pub compute_u2-requires : goal.compute_u2-requires
compute_u2-requires c =
    let a = c.args in (
      c.requires.work_given.0.ready,
      room_known a.job.now a.randomness.now a.witness.now a.call C.Round4 c.in-Round4.is a.output.now _
          c.requires.filled.1 (sections₄ a.job.now a.randomness.now a.witness.now a.params a.regions a.scratch.now c.requires.work_given.0.ready.same
          (filled_known a.job.now a.randomness.now a.witness.now a.call C.Round4 c.in-Round4.is a.regions a.scratch.now c.requires.filled.0)),
    )

pub returns-in-Round4 : goal.returns-in-Round4
returns-in-Round4 c =
    let a = c.args in
    put_known a.job.now a.randomness.now a.witness.now a.call C.Round4 c.in-Round4.is a.output.now _ _
    c.compute_u2.ensures.1
    (sections₄ a.job.now a.randomness.now a.witness.now a.params a.regions a.scratch.now c.requires.work_given.0.ready.same
    (filled_known a.job.now a.randomness.now a.witness.now a.call C.Round4 c.in-Round4.is a.regions
    a.scratch.now c.requires.filled.0))

pub put_z_t_g_h-requires : goal.put_z_t_g_h-requires
put_z_t_g_h-requires c =
    let a = c.args in (
      placed _ _ _ _ c.requires.work_given.0.ready,
      s-room a.job.now a.witness.now a.params a.regions a.scratch.now c.requires.work_given.0,
      c-sparse a.job.now a.randomness.now a.witness.now a.params a.regions a.scratch.now c.requires.work_given.0.ready.same
          (filled_known a.job.now a.randomness.now a.witness.now a.call C.Round5 c.in-Round5.is a.regions a.scratch.now c.requires.filled.0).1,
      room_known a.job.now
          a.randomness.now a.witness.now a.call C.Round5 c.in-Round5.is a.output.now _ c.requires.filled.1
          (sections₅ a.job.now a.randomness.now a.witness.now a.params a.regions a.scratch.now c.requires.work_given.0.ready.same
          (filled_known a.job.now a.randomness.now a.witness.now a.call C.Round5 c.in-Round5.is a.regions a.scratch.now c.requires.filled.0)),
    )

pub returns-in-Round5 : goal.returns-in-Round5
returns-in-Round5 c =
    let a = c.args in
    put_known a.job.now a.randomness.now a.witness.now a.call C.Round5 c.in-Round5.is a.output.now _ _
    c.put_z_t_g_h.ensures.1
    (sections₅ a.job.now a.randomness.now a.witness.now a.params a.regions a.scratch.now c.requires.work_given.0.ready.same
    (filled_known a.job.now a.randomness.now a.witness.now a.call C.Round5 c.in-Round5.is a.regions
    a.scratch.now c.requires.filled.0))
