-- `insert` meets its contract. The loop's invariant: the entries passed are stored, and what is carried is put among the others.
use Rattle.mistyped_solve.specs.Insert.{entry, entry_of}
use Rattle.mistyped_solve.proofs.Words.{Inserting}
use Rattle.mistyped_solve.proofs.list.insert.Given as goal

abbrev pub invariant-loop-j : goal.invariant-loop-j
invariant-loop-j l = Inserting l.initial.list l.count (entry l.index l.number) l.j (entry_of l.carried) l.list
