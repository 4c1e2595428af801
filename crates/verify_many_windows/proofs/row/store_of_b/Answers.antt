-- `store_of_b` meets its contract.
use mathlib.Core.Path.{refl, ap, ◌∙◌}
use native.Mathlib.Omega.{arith}
use borrow.Author.Rules.{rules}
use Rattle.math.specs.lists.Part.{splice}
use Rattle.spec_leaves.specs.Ring.{words}
use Rattle.verifier_common.proofs.Sent.{reckoned, received}
use Rattle.verifier_commitments.proofs.OuterLaws.{base_large, few_cells, few-t, t_cells}
use Rattle.verify_many_windows.proofs.Products.{held_place, b-room, t-held, b_is}
use Rattle.verify_many_windows.proofs.row.store_of_b.Goals as goal

pub of_transcript-requires : goal.of_transcript-requires
of_transcript-requires c = (reckoned c.requires.posed.0, omega arith)

pub overflow_mul-t : goal.overflow_mul-t
overflow_mul-t c = few_cells _ (few-t _ _ (received c.requires.posed.0))

pub of_job-b_at-requires : goal.of_job-b_at-requires
of_job-b_at-requires c = (reckoned c.requires.posed.0, omega arith)

pub store_digits-requires : goal.store_digits-requires
store_digits-requires c =
    let s = c.requires.posed in record {
      room = (
        b-room _ _ _ s.0 _ _ c.of_job-b_at.ensures s.1,
        t_cells _ _ (received s.0) _ _ c.of_transcript.ensures refl,
        base_large _ _ (received s.0),
        s.2,
      );
      digits_held = held_place _ _ _ c.args.held c.map.result (λ h. h.t) c.map.ensures.cases c.requires.all_held (λ h a p. search rules) (λ h all. t-held _ _ _ s.0 c.args.scratch.now h all _
          c.of_transcript.ensures);
    }

pub returns : goal.returns
returns c =
    c.store_digits.ensures
    ∙ ap (λ x. splice c.args.scratch.now c.args.place (words x))
    (b_is _ _ _ c.requires.posed.0 _ _ c.args.k c.of_job-b_at.ensures c.of_transcript.ensures)
