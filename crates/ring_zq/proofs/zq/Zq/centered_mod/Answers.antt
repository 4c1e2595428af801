-- `Zq::centered_mod` meets its contract.
use Rattle.std.proofs.Common.{◌^◌, ◌<◌, sym, ◌∙◌, arith, w64}
use mir.ValLaws.{to_z-of_z}
use Rattle.ring_zq.proofs.Signed.{to_Z_word, less_fits}
use Rattle.ring_zq.proofs.zq.Zq.centered_mod.Goals as goal

pub overflow_sub-result : goal.overflow_sub-result
overflow_sub-result c =
    let a = c.args.self.0 in
    let h : a < 2 ^ 32 = omega arith in
    rw (to_Z_word a h) (less_fits a h)

pub returns-then-is_larger_than_half : goal.returns-then-is_larger_than_half
returns-then-is_larger_than_half c =
    let a = c.args.self.0 in
    let h : a < 2 ^ 32 = omega arith in
    rw (to_Z_word a h, to_z-of_z w64 _ (less_fits a h)) (simp (sym c.is_larger_than_half.ensures ∙ c.if-is_larger_than_half.true))

pub returns-else-is_larger_than_half : goal.returns-else-is_larger_than_half
returns-else-is_larger_than_half c =
    let a = c.args.self.0 in
    let h : a < 2 ^ 32 = omega arith in
    rw (to_Z_word a h) (simp (sym c.is_larger_than_half.ensures ∙ c.if-is_larger_than_half.false))
