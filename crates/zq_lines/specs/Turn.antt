-- What one turn of the program leaves. No contract can say which bytes are read: that the chunk's first bytes are those is the kernel's part.
use Rattle.std.specs.Prelude.{◌≡◌, List, ℕ, length, take, Option, Some, None, Result, Ok, Err}
use Rattle.zq_lines_text.specs.Reading.{after, answers}
use Rattle.zq_lines_text.specs.declared.reading.State.{State}
use Rattle.zq_lines.specs.declared.Failure.{Failure}

-- a turn from the state s: the first n bytes of the chunk are fed, and what they have written stands at the start of `out`; or the input has ended, or a read or a write failed
abbrev pub TurnFrom : State → List ℕ → List ℕ → Result (Option State) Failure → Type 0
TurnFrom s chunk out (Ok (Some t)) = (n : ℕ) × (t ≡ after s (take n chunk)) × (take (length (answers s (take n chunk))) out ≡ answers s (take n chunk))
TurnFrom s chunk out (Ok None) = Unit {0}
TurnFrom s chunk out (Err failure) = Unit {0}
