-- `check_projection_norm` meets its contract.
use mathlib.Core.Path.{◌≡◌, refl, sym}
use mathlib.Core.Bool.{Bool, true, false, cond}
use mathlib.Core.List.{[], ◌∷◌}
use Prim.Native.Nat.{◌*◌}
use native.Mathlib.Omega.{arith}
use borrow.Author.Tests.{le-leb, lt-leb}
use lib.Dec.{leb}
use Rattle.spec_leaves.specs.Answer.{fine, failed}
use Rattle.relation_env_params.specs.Parameters.{parameters_of}
use Rattle.verifier_common.specs.Answers.{projection_norm}
use Rattle.verifier_common.proofs.Sent.{received_room}
use Rattle.verifier_norms.proofs.Norms.{check_21_is}
use Rattle.verifier_norms.proofs.norm_checks.check_projection_norm.Goals.{After-norm_of-norm}
use Rattle.verifier_norms.proofs.norm_checks.check_projection_norm.Goals as goal

-- 21, by how the norm compares with 128 times beta_sq
found : (c : After-norm_of-norm) (t : Bool)
    → let s = c.args in
    t ≡ leb c.norm_of-norm.result (128 * s.params.beta_sq)
    → cond t fine (failed 21 (c.norm_of-norm.result ∷ 128 * s.params.beta_sq ∷ [])) ≡ projection_norm (parameters_of s.params) s.transcript.now
found c t e =
    let o = c.of_transcript in
    sym
    (check_21_is c.args.transcript.now c.args.params
    o.result c.norm_of-norm.result (128 * c.args.params.beta_sq) t o.ensures
    (received_room c.requires 1 o.result (omega arith) o.ensures)
    c.norm_of-norm.ensures.0
    refl
    e)

pub norm_of-norm-requires : goal.norm_of-norm-requires
norm_of-norm-requires c = received_room c.requires 1 c.of_transcript.result (omega arith) c.of_transcript.ensures

-- 21 with a norm up to beta_sq
pub returns-then-norm-params : goal.returns-then-norm-params
returns-then-norm-params c =
    found (goal.at.returns-then-norm-params c).After-norm_of-norm true (sym (le-leb c.norm_of-norm.result (128 * c.args.params.beta_sq) (omega arith)))

pub returns-then-norm-limit : goal.returns-then-norm-limit
returns-then-norm-limit c =
    found (goal.at.returns-then-norm-limit c).After-norm_of-norm true (sym (le-leb c.norm_of-norm.result (128 * c.args.params.beta_sq) (omega arith)))

pub returns-else-norm-limit : goal.returns-else-norm-limit
returns-else-norm-limit c =
    found (goal.at.returns-else-norm-limit c).After-norm_of-norm false (sym (lt-leb c.norm_of-norm.result (128 * c.args.params.beta_sq) (omega arith)))

pub of_transcript-requires : goal.of_transcript-requires
of_transcript-requires c = (c.requires.sized, omega arith)
