-- A list of 64 entries filled four at a time.
use Rattle.std.proofs.Common.{◌≡◌, ℕ, ◌+◌, ◌*◌, ◌<◌, List, set, ap, ◌∙◌, arith}
use Rattle.math.specs.lists.Table.{padded}
use Rattle.math.proofs.lists.Padded.{padded-next}

-- four more entries stored
pub padded_four : (f : ℕ → ℕ) (out : List ℕ) (b p q r s : ℕ) → out ≡ padded 64 (4 * b) 0 f → b < 16 → p ≡ f (4 * b) → q ≡ f (4 * b + 1) → r ≡ f (4 * b + 2) → s ≡ f (4 * b + 3)
    → set (set (set (set out (4 * b) p) (4 * b + 1) q) (4 * b + 2) r) (4 * b + 3) s ≡ padded 64 (4 * (b + 1)) 0 f
padded_four f out b p q r s e h ep eq er es =
    let two : 4 * b + 1 + 1 ≡ 4 * b + 2 = omega arith in
    let three : 4 * b + 2 + 1 ≡ 4 * b + 3 = omega arith in
    let all : 4 * b + 3 + 1 ≡ 4 * (b + 1) = omega arith in
    let first = padded-next 64 0 f out (4 * b) p e (omega arith) ep in
    let second = padded-next 64 0 f _ (4 * b + 1) q first (omega arith) eq ∙ ap (λ n. padded 64 n 0 f) two in
    let third = padded-next 64 0 f _ (4 * b + 2) r second (omega arith) er ∙ ap (λ n. padded 64 n 0 f) three in
    padded-next 64 0 f _ (4 * b + 3) s third (omega arith) es ∙ ap (λ n. padded 64 n 0 f) all
