use mathlib.Core.Path.{refl, ◌∙◌}
use Prim.Native.Nat.{◌<◌}
use native.Mathlib.Omega.{arith}
use lib.ListN.{length, length-set}
use Rattle.spec_protocol.specs.Layout.{transcript_refusal}
use Rattle.spec_protocol.specs.Many.{transcript_part}
use Rattle.relation_env_params.specs.Parameters.{parameters_of}
use Rattle.verify_many_admission.proofs.Found.{stored}
use Rattle.verify_many_admission.proofs.parts.check_transcripts.Goals as goal

pub loop-m-init : goal.loop-m-init
loop-m-init c = (omega arith, refl, λ k h. absurd (omega arith))

pub check_transcript-requires : goal.check_transcript-requires
check_transcript-requires c = (omega arith, c.requires.1, c.requires.0)

pub loop-m-preserved : goal.loop-m-preserved
loop-m-preserved c =
    let l = c.loop-m in
    let s = c.args in
    let room : l.m < length l.found = omega (arith, l.invariant.1) in (
      omega arith,
      length-set l.found l.m c.check_transcript.result ∙ l.invariant.1,
      stored l.found l.m c.check_transcript.result
          (λ k. transcript_refusal (parameters_of s.params) (transcript_part (parameters_of s.params) s.count s.transcripts.now k)) room l.invariant.2 c.check_transcript.ensures,
    )

pub returns : goal.returns
returns c = let l = c.loop-m in λ m h. l.invariant.2 m (omega arith)
