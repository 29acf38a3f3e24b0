-- What a slot or a check says, as the program holds it.
use Rattle.std.specs.Prelude.{◌≡◌}
use Rattle.trace.specs.Said.{Said}
use Rattle.dispatcher.specs.declared.Told.{Told}

-- What is told has the number, the row and the time of what was said.
pub record Says (said : Said) (told : Told) : Type 0 where
  pub number : told.number ≡ said.number
  pub row : told.row ≡ said.row
  pub time : told.time ≡ said.time
