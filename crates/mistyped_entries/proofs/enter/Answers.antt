-- `enter` meets its contract.
use mathlib.Core.Path.{sym, ap, ◌∙◌}
use native.Mathlib.Numerals.{add-one}
use Rattle.mistyped_entries.specs.Entered.{entered_count, entered_list}
use Rattle.mistyped_entries.proofs.enter.Goals as goal

pub returns-in-Some : goal.returns-in-Some
returns-in-Some c =
    let s = c.args in
    let e = sym c.in-Some.is in record { value = add-one s.count ∙ ap (λ f. entered_count f s.count) e; list_after = c.insert.ensures ∙ ap (λ f. entered_list f s.index s.count s.list.now) e }
