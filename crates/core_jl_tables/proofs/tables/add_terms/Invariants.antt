-- `add_terms` meets its contract. The invariant: the first t terms are added.
use Rattle.std.proofs.Common.{◌≡◌, ◌≤◌}
use Rattle.core_jl_tables.specs.Tables.{terms_added, table_term}
use Rattle.core_jl_tables.proofs.tables.add_terms.Given as goal

abbrev pub invariant-loop-t : goal.invariant-loop-t
invariant-loop-t l = (l.t ≤ 4) × (l.sum ≡ terms_added (table_term l.tables l.places l.w l.k) l.start l.t)
