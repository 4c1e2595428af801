-- `t_of` meets its contract.
use mathlib.Core.Path.{ap₂, ◌∙◌}
use Prim.Native.Nat.{◌*◌}
use native.Mathlib.Omega.{arith}
use Rattle.math.specs.lists.Part.{splice}
use Rattle.ring_rq_matrix.proofs.Place.{product_bound}
use Rattle.ring_rq_matrix.proofs.Fill.{length_filled}
use Rattle.ntt_vectors.proofs.Laws.{ntt_form-values, ntt_form-before}
use Rattle.commitments_ajtai.proofs.NttColumns.{t-ntt}
use Rattle.commitments_ajtai.proofs.ntt.t_of.Goals as goal

pub columns-requires : goal.columns-requires
columns-requires c =
    let s = c.args in
    let k = c.to_ntt_form in
    let size = length_filled _ _ _ _ k.ensures.out_after in
    (omega arith, ntt_form-values _ s.at s.s.now s.s_at (s.r * s.n) k.ensures.ntt_form, (omega arith, omega (arith, size), omega arith, omega arith, omega arith))

pub returns : goal.returns
returns c =
    let s = c.args in
    let k = c.to_ntt_form in
    let made = c.columns.ensures in record {
      scratch_after = made
          ∙ ap₂ (λ l ws. splice l s.out_at ws) k.ensures.out_after
          (t-ntt s.matrix.now s.m_at s.width s.n _ s.at s.s.now s.s_at s.r (omega arith) k.ensures.ntt_form
          (λ i. omega (arith, c.type_inv.matrix i)));
      ntt_form = ntt_form-before _ s.at s.s.now s.s_at _ s.out_at _ (s.r * s.n) made (omega arith) k.ensures.ntt_form;
    }

pub overflow_mul-r : goal.overflow_mul-r
overflow_mul-r c = omega (arith, product_bound c.args.r c.args.n (omega arith) (omega arith))

pub to_ntt_form-requires : goal.to_ntt_form-requires
to_ntt_form-requires c = (omega arith, omega arith)
