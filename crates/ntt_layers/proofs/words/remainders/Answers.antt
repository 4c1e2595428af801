use mathlib.Core.Path.{◌≡◌, ◌∙◌, ap, ap₂}
use Prim.Native.Nat.{ℕ, ◌+◌, ◌*◌, ◌%◌, ◌≤◌, ◌<◌}
use native.Mathlib.Omega.{arith}
use Rattle.math.proofs.lists.Padded.{padded-none, padded-next, padded_done}
use Rattle.ntt_layers.specs.Fold.{prime}
use Rattle.ntt_layers.specs.Words.{remainders_of}
use native.Mathlib.Nat.{mul-le-mul}
use Rattle.ntt_layers.proofs.Folds.{reduced-mod}
use Rattle.ntt_layers.proofs.words.remainders.Goals.{After-from}
use Rattle.ntt_layers.proofs.words.remainders.Goals as goal

-- the product that is reduced
within : (x factor offset : ℕ) → x ≤ 285600000 → factor < 134217728 → offset < 134217728 → x * (factor % 4294967296) + offset < 576460752303423488
within x factor offset hx hf ho = omega (arith, mul-le-mul {n₁ = x} {m₁ = factor % 4294967296} {n₂ = 285600000} {m₂ = 134217727} hx (omega arith))

small : (c : After-from) → c.from.result ≤ 285600000
small c = omega (arith, c.from.ensures, c.requires.2 c.loop-k.k (omega arith))

pub loop-k-init : goal.loop-k-init
loop-k-init c = (omega arith, padded-none 64 0 _)

pub overflow_mul-multiple : goal.overflow_mul-multiple
overflow_mul-multiple c = omega (arith, within c.from.result c.args.factor 0 (small (goal.at.overflow_mul-multiple c).After-from) c.requires.0 (omega arith))

pub overflow_add-multiple : goal.overflow_add-multiple
overflow_add-multiple c = omega (
  arith,
  within c.from.result c.args.factor c.args.offset (small (goal.at.overflow_add-multiple c).After-from)
      c.requires.0 c.requires.1,
)

pub reduce-requires : goal.reduce-requires
reduce-requires c = within c.from.result c.args.factor c.args.offset (small (goal.at.reduce-requires c).After-from) c.requires.0 c.requires.1

pub loop-k-preserved : goal.loop-k-preserved
loop-k-preserved c =
    let s = c.args in
    let h = c.requires in
    let f : s.factor % 4294967296 ≡ s.factor = omega (arith, h.0) in (
      omega arith,
      padded-next 64 0 _ _ _ _ c.loop-k.invariant.1 (omega arith)
          (c.rest.ensures
          ∙ ap (λ x. x % prime s.prime.delta) c.reduce.ensures.0
          ∙ reduced-mod s.prime.delta (c.from.result * (s.factor % 4294967296) + s.offset) s.prime.small
          ∙ ap₂ (λ x y. (x * y + s.offset) % prime s.prime.delta) c.from.ensures f),
    )

pub returns : goal.returns
unfolding remainders_of
returns c = padded_done 64 0 _ _ _ c.loop-k.invariant.1 (omega arith)
