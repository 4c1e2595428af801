-- `is_zero` meets its contract.
use Rattle.std.proofs.Common.{◌≡◌, ℕ, Bool, true, false, List, replicate, refl, sym}
use Rattle.std.proofs.lemmas.Slice.Eq.{slice_eq-Decides}
use Rattle.std.proofs.lemmas.Bool.Decides.{Decides-eqb, not_from_Decides}
use Rattle.std.specs.Bool.{Decides}
use mathlib.Core.List.{List-discrete}
use native.Mathlib.Decide.{ℕ_discrete}
use Rattle.math.specs.lists.Table.{table}
use Rattle.spec_leaves.specs.Rq.{rzero, is_zero}
use Rattle.spec_leaves.proofs.Cases.{decided, not_decided}
use Rattle.ring_rq_digits.proofs.digits.is_zero.Goals as goal

-- what tells whether a list is 64 zeros is the definition's test
told : (l : List ℕ) (r : Bool) → Decides r (l ≡ replicate 64 0) → r ≡ is_zero l
unfolding is_zero rzero table
told l true d = sym (decided (List-discrete ℕ_discrete l rzero) (d.0 refl))
told l false d = sym (not_decided (List-discrete ℕ_discrete l rzero) (not_from_Decides false d refl))

pub returns : goal.returns
returns c = told c.args.sizes c.eq.result (slice_eq-Decides Decides-eqb c.args.sizes _ c.eq.result c.eq.ensures)
