-- `store_of_c` meets its contract.
use mathlib.Core.Path.{ap, ◌∙◌}
use native.Mathlib.Omega.{arith}
use borrow.Author.Rules.{rules}
use Rattle.math.specs.lists.Part.{splice}
use Rattle.spec_leaves.specs.Ring.{words}
use Rattle.verifier_common.proofs.Sent.{reckoned, received}
use Rattle.verifier_commitments.proofs.OuterLaws.{base_large, g_cells}
use Rattle.verify_many_windows.proofs.Products.{held_place, c-room, g_held, c_is}
use Rattle.verify_many_windows.proofs.row.store_of_c.Goals as goal

pub of_transcript-requires : goal.of_transcript-requires
of_transcript-requires c = (reckoned c.requires.posed.0, omega arith)

pub triangle-requires : goal.triangle-requires
triangle-requires c = (reckoned c.requires.posed.0).within.r.1

pub of_job-c_at-requires : goal.of_job-c_at-requires
of_job-c_at-requires c = (reckoned c.requires.posed.0, omega arith)

pub store_digits-requires : goal.store_digits-requires
store_digits-requires c =
    let s = c.requires.posed in
    let t = c.triangle.ensures in record {
      room = (
        c-room _ _ _ s.0 _ _ _ c.of_job-c_at.ensures t.0 s.1,
        g_cells _ _ (received s.0) _ _ c.of_transcript.ensures t,
        base_large _ _ (received s.0),
        s.2,
      );
      digits_held = held_place _ _ _ c.args.held c.map.result (λ h. h.g) c.map.ensures.cases c.requires.all_held (λ h a p. search rules) (λ h all. g_held _ _ _ s.0 c.args.scratch.now h all _ _
          c.of_transcript.ensures t.0);
    }

pub returns : goal.returns
returns c =
    c.store_digits.ensures
    ∙ ap (λ x. splice c.args.scratch.now c.args.place (words x))
    (c_is _ _ _ c.requires.posed.0 _ _ _ c.args.k c.of_job-c_at.ensures c.of_transcript.ensures
    c.triangle.ensures.0)
