use mathlib.Core.Path.{◌≡◌, refl, sym, ◌∙◌, ap, ap₂}
use Prim.Native.Nat.{ℕ, ◌+◌, ◌*◌, ◌/◌, ◌%◌, ◌≤◌}
use native.Mathlib.Nat.{add-zero, mul-le-mul, mod-lt, add-mul-mod_self_right}
use native.Mathlib.Omega.{arith}
use lib.ListN.{length, length-set}
use Rattle.math.specs.lists.Table.{padded}
use Rattle.math.proofs.lists.Padded.{length-padded, padded-next}
use Rattle.ntt_layers.specs.Fold.{prime}
use Rattle.ntt_layers.proofs.Folds.{prime_pos}
use Rattle.ntt_transform.specs.Roots.{delta, entry, scaled}
use Rattle.ntt_transform.proofs.Rule.{roots, roots_entry}
use Rattle.ntt_transform.proofs.Roots.{entry-small}
use Rattle.ntt_transform.proofs.table.scale.Goals.{After-from}
use Rattle.ntt_transform.proofs.table.scale.Goals as goal

-- 2^32 is 32·d
scaled_is : (x d : ℕ) → d ≤ 2175 → x * (32 * d) % prime d ≡ x * 4294967296 % prime d
scaled_is x d h =
    let e : prime d + d ≡ 134217728 = omega arith in
    sym (add-mul-mod_self_right (x * (32 * d)) (x * 32) (prime d)) ∙ ap (λ y. y % prime d) (sums x (prime d) e)
  where
    sums : (x p : ℕ) → p + d ≡ 134217728 → x * (32 * d) + x * 32 * p ≡ x * 4294967296
    sums x p e = omega (arith, ap (λ y. x * y) e)

module _ (c : After-from) where
  power : c.from.result ≡ entry (128 * c.args.i + c.loop-e.e)
  unfolding roots
  power = c.from.ensures ∙ roots_entry (128 * c.args.i + c.loop-e.e) (omega (arith, c.requires.0))

  product : c.from.result * (32 * c.args.prime.delta) ≤ 134217727 * 69600
  product =
      mul-le-mul {n₁ = c.from.result} {m₁ = 32 * c.args.prime.delta} {n₂ = 134217727} {m₂ = 69600}
      (omega (arith, power, entry-small (128 * c.args.i + c.loop-e.e))) (omega (arith, c.args.prime.small))

pub loop-e-preserved : goal.loop-e-preserved
unfolding scaled
loop-e-preserved c =
    let s = c.args in
    let h = c.requires in
    let l = c.loop-e in
    let k : ℕ = 128 * s.i + l.e in
    let n : k / 128 ≡ s.i = omega arith in
    let more : k + 1 ≡ 128 * s.i + (l.e + 1) = omega arith in (
      omega arith,
      padded-next 384 0 scaled _ k _ l.invariant.1 (omega (arith, h.0))
          (c.remainder.ensures
          ∙ scaled_is c.from.result s.prime.delta c.args.prime.small
          ∙ ap₂ (λ x d. x * 4294967296 % prime d) (power (goal.at.loop-e-preserved c).After-from) (h.1 ∙ ap delta (sym n)))
          ∙ ap (λ m. padded 384 m 0 scaled) more,
      simp length-set l.invariant.2,
    )

pub returns : goal.returns
returns c =
    let n : c.loop-e.e ≡ 128 = omega arith in
    c.loop-e.invariant.1 ∙ ap (λ e. padded 384 (128 * c.args.i + e) 0 scaled) n

pub loop-e-init : goal.loop-e-init
loop-e-init c = (omega arith, c.requires.2 ∙ ap (λ m. padded 384 m 0 scaled) (sym (add-zero (128 * c.args.i))), refl)

pub overflow_mul-from : goal.overflow_mul-from
overflow_mul-from c = omega (arith, product (goal.at.overflow_mul-from c).After-from)

pub remainder-requires : goal.remainder-requires
remainder-requires c = omega (arith, product (goal.at.remainder-requires c).After-from)

pub overflow_cast-out : goal.overflow_cast-out
overflow_cast-out c = omega (
  arith,
  c.remainder.ensures,
  mod-lt (c.from.result * (32 * c.args.prime.delta))
      (prime_pos c.args.prime.delta c.args.prime.small),
)

pub bounds-out-k : goal.bounds-out-k
bounds-out-k c = omega (
  arith,
  c.requires.0,
  ap length c.loop-e.invariant.1,
  length-padded 384 0 scaled
      (128 * c.args.i + c.loop-e.e),
)
