-- Who is favoured in a slot, as marks (02, Eight): one for each place of a table.
use Rattle.std.specs.Prelude.{ℕ, ◌≤◌, ◌≡◌, List, Bool, length}
use Rattle.facts.specs.Places.{marks_of}
use Rattle.table.specs.Limits.{row_limit}
use Rattle.pd2.specs.Choice.{pd2_picks}
use Rattle.choice.specs.Choice.{favours_marked}
use Rattle.dispatcher.specs.declared.State.{State}
use Rattle.dispatcher.specs.State.{rows_in, quanta_in, time_of}
use Rattle.dispatcher.specs.Slot.{favoured_in, picks_in}

abbrev pub favoured_marks : State → List Bool
favoured_marks s = marks_of (favoured_in s) row_limit

-- With them the same rows are picked.
abbrev pub PicksByMarks : Type 0
PicksByMarks = (s : State) (k : ℕ) → length (rows_in s) ≤ row_limit → pd2_picks (rows_in s) (quanta_in s) (favours_marked (favoured_marks s)) (time_of s) k ≡ picks_in s k
