-- The sizes of a challenge sum to 51, those of a difference of two challenges to at most 102.
use mathlib.Core.Path.{◌≡◌, ap, ◌∙◌}
use mathlib.Core.List.{List}
use Prim.Native.Nat.{ℕ, ◌+◌, ◌*◌, ◌≤◌}
use native.Mathlib.Omega.{arith}
use lib.ListN.{get_or}
use Rattle.math.specs.lists.Table.{table}
use Rattle.math.specs.lists.Sum.{Σ}
use Rattle.math.proofs.lists.Table.{length-table, get_or-table}
use Rattle.math.proofs.lists.Sum.{Σ_ext, Σ-le, Σ-add}
use Rattle.spec_leaves.specs.Zq.{zsub, size}
use Rattle.spec_leaves.specs.Rq.{Element, coeff, rsub}
use Rattle.spec_leaves.specs.Ring.{words}
use Rattle.spec_leaves.specs.Challenge.{challenge}
use Rattle.spec_leaves.proofs.Bridge.{coeff-canonical, words-element, words-sub}
use Rattle.spec_leaves.proofs.Challenge.{total, length-challenge, challenge-canonical, sizes_challenge}
use Rattle.spec_protocol.specs.Parameters.{parameters}
use Rattle.spec_protocol.specs.Layout.{part, start, randomness_sections}
use Rattle.spec_protocol.specs.Views.{public}
use Rattle.spec_protocol.specs.Formulas.{◌⊕◌}
use Rattle.spec_protocol.proofs.Flat.{length-words}
use Rattle.spec_binding.specs.Openings.{neg}
use Rattle.spec_binding.proofs.Size.{size_of-difference}

-- the sizes of a difference sum to at most those of both
pub sizes_of_difference : (x y : Element) → total size (words (x ⊕ neg y)) ≤ total size (words x) + total size (words y)
unfolding rsub
sizes_of_difference x y =
    let d : ℕ → ℕ = λ k. zsub (coeff (words x) k) (coeff (words y) k) in
    let u : ℕ → ℕ = λ k. size (coeff (words x) k) in
    let v : ℕ → ℕ = λ k. size (coeff (words y) k) in
    let of-table = ap (λ n. Σ n (λ k. size (get_or (table 64 d) k 0))) (length-table 64 d)
    ∙ Σ_ext 64 (λ k. size (get_or (table 64 d) k 0)) (λ k. size (d k)) (λ k l. ap size (get_or-table 64 d k 0 l)) in
    omega (
      arith,
      ap (total size) (words-sub x y) ∙ of-table,
      Σ-le 64 (λ k. size (d k)) (λ k. u k + v k) (λ k l. size_of-difference (coeff (words x) k) (coeff (words y) k) (coeff-canonical x k) (coeff-canonical y k)),
      Σ-add 64 u v,
      ap (λ n. Σ n u) (length-words x),
      ap (λ n. Σ n v) (length-words y),
    )

-- "Sizes sum to 51": of challenge i of a randomness
pub challenge_l1 : (J R : List ℕ) (i : ℕ) → total size (words ((public J R).c i)) ≡ 51
challenge_l1 J R i =
    let of = start (randomness_sections (parameters J)) in
    let signs = part R (of 5 + 41 * i) 41 in
    let shuffles = part R (of 6 + 63 * i) 63 in
    ap (total size) (words-element (challenge signs shuffles) (length-challenge signs shuffles, challenge-canonical signs shuffles)) ∙ sizes_challenge signs shuffles

-- so those of a difference of two challenges sum to at most 102
pub difference_l1 : (J R R' : List ℕ) (i j : ℕ) → total size (words ((public J R).c i ⊕ neg ((public J R').c j))) ≤ 102
difference_l1 J R R' i j = omega (arith, sizes_of_difference ((public J R).c i) ((public J R').c j), challenge_l1 J R i, challenge_l1 J R' j)
