-- `held_from` meets its contract.
use mathlib.Core.Path.{sym, subst}
use Rattle.std.proofs.lemmas.Option.{none-some, same_Some}
use Rattle.relation_env_params.specs.Parameters.{parameters_of}
use Rattle.verify_many_windows.specs.Digits.{Places}
use Rattle.verify_many_rows.proofs.rows.held_from.Goals as goal

pub returns-then-stored-clause-told : goal.returns-then-stored-clause-told
returns-then-stored-clause-told c = sym c.if-stored.true

pub returns-then-stored-clause-places : goal.returns-then-stored-clause-places
returns-then-stored-clause-places c = λ at e. subst (λ a. Places (parameters_of c.args.params) c.args.start a) (same_Some _ _ e) c.places.ensures

pub returns-else-stored-clause-told : goal.returns-else-stored-clause-told
returns-else-stored-clause-told c = sym c.if-stored.false

pub returns-else-stored-clause-places : goal.returns-else-stored-clause-places
returns-else-stored-clause-places c = λ at e. absurd (none-some at e)
