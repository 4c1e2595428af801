use mathlib.Core.Path.{◌≡◌, refl, ap, ◌∙◌}
use Prim.Native.Nat.{◌+◌, ◌*◌}
use native.Mathlib.Omega.{arith}
use Rattle.math.specs.lists.Part.{splice}
use Rattle.math.proofs.lists.Splice.{get_d_part}
use Rattle.ring_rq_matrix.proofs.Fill.{length_filled}
use Rattle.ntt_vectors.specs.NttForm.{ntt_words}
use Rattle.ntt_vectors.proofs.Stored.{ntt_words-none, ntt_words-next, ntt_words-stored}
use Rattle.ntt_vectors.proofs.vectors.to_ntt_form.Goals as goal

pub loop-m-init : goal.loop-m-init
loop-m-init c = (omega arith, omega arith, omega arith, ntt_words-none _ _ _ _, refl)

pub loop-m-preserved : goal.loop-m-preserved
loop-m-preserved c =
    let s = c.args in
    let l = c.loop-m in
    let e = c.store_ntt_form.ensures in (
      omega arith,
      omega arith,
      omega arith,
      ntt_words-next s.from.now s.from_at s.out.now l.out _ _ s.at l.m l.i l.place l.invariant.3 l.invariant.1 l.invariant.2
          c.load.ensures e,
      length_filled _ _ _ _ e ∙ l.invariant.4,
    )

pub returns : goal.returns
returns c =
    let s = c.args in
    let l = c.loop-m in
    let n : l.m ≡ s.n = omega arith in
    let e = l.invariant.3 ∙ ap (λ k. splice s.out.now s.at (ntt_words s.from.now s.from_at k)) n in record {
      out_after = e;
      ntt_form = ntt_words-stored s.from.now s.from_at s.out.now _ s.at s.n e (omega arith)
          (λ m k h. omega (arith, get_d_part 0 s.from.now (s.from_at + 64 * m) 64 k h, c.type_inv.from (s.from_at + 64 * m + k)));
    }
