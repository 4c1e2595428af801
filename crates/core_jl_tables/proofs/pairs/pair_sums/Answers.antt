use Rattle.std.proofs.Common.{◌≡◌, ℕ, ◌+◌, ◌*◌, ◌/◌, ◌%◌, List, length, sym, ap, ◌∙◌, ap₂, zero-add, arith}
use lib.ListN.{length-replicate}
use Rattle.math.specs.lists.Table.{table}
use Rattle.math.specs.lists.Part.{splice}
use Rattle.math.proofs.lists.Splice.{splice-nil, length-splice}
use Rattle.math.proofs.lists.Fill.{table_more, filled}
use Rattle.core_jl_tables.specs.Pairs.{pair_sum, pair_entries, pair_entry}
use Rattle.core_jl_tables.proofs.pairs.pair_sums.Goals as goal

-- the entries for one more number
next-entries : (R : List ℕ) (om : ℕ) (l before : List ℕ) (q : ℕ) → before ≡ splice l 0 (table (4 * q) (pair_entry R om))
    → splice before (4 * q) (pair_entries R (om + q / 16 * 2) (q % 16)) ≡ splice l 0 (table (4 * (q + 1)) (pair_entry R om))
next-entries R om l before q e =
    let g : ℕ → ℕ = λ k. pair_sum R (om + q / 16 * 2 + k * 256) (q % 16) in
    let next : 4 * q + 4 ≡ 4 * (q + 1) = omega arith in
    ap₂ (λ b p. splice b p (table 4 g)) e (sym (zero-add (4 * q)))
    ∙ table_more l 0 (4 * q) 4 (pair_entry R om) g (λ k h.
    let place : om + q / 16 * 2 + k * 256 ≡ om + (4 * q + k) / 64 * 2 + (4 * q + k) % 4 * 256 = omega arith in
    let quarter : q ≡ (4 * q + k) / 4 = omega arith in
    ap₂ (λ a x. pair_sum R a (x % 16)) place quarter)
    ∙ ap (λ n. splice l 0 (table n (pair_entry R om))) next

pub loop-q-init : goal.loop-q-init
unfolding table
loop-q-init c = (omega arith, sym (splice-nil _ _), length-replicate {A = ℕ} 128 0, length-replicate {A = ℕ} 128 0)

pub loop-q-preserved : goal.loop-q-preserved
loop-q-preserved c =
    let l = c.loop-q in
    let s = c.args in
    let w = c.pair_entries.ensures in
    (omega arith, w ∙ next-entries s.randomness.now s.omega_at _ l.sums l.q l.invariant.1, ap length w ∙ length-splice _ _ _ ∙ l.invariant.2, l.invariant.3)

pub returns : goal.returns
returns c =
    let l = c.loop-q in
    let s = c.args in
    let n : 4 * l.q ≡ 128 = omega arith in
    filled 128 (4 * l.q) _ l.sums (pair_entry s.randomness.now s.omega_at) 0 l.invariant.1 n l.invariant.3

pub slice_bounds-pair_entries-end : goal.slice_bounds-pair_entries-end
slice_bounds-pair_entries-end c = sym c.loop-q.invariant.2

pub pair_entries-requires : goal.pair_entries-requires
pair_entries-requires c = (omega arith, omega arith, omega arith)
