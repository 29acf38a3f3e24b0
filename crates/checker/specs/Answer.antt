-- What the trace check answers: number, row and time (01, "What comes back").
use Rattle.std.specs.Prelude.{ℕ, Result, Ok, Err}
use Rattle.table.specs.Reply.{fault_number}
use Rattle.trace.specs.declared.Misshape.{Misshape}
use Rattle.trace.specs.Said.{Said, bare, named}
use Rattle.trace.specs.Shaped.{shaped_of}
use Rattle.checker.specs.declared.Finding.{Finding}
use Rattle.checker.specs.declared.Finding.TheVariants.{Table, Cut, TooManyCores, TooManyRows, BadRow, Early, Late, Extra, TooLong}

-- 01's number for what is found in the shape of a record.
abbrev pub shape_said : Misshape → ℕ
shape_said misshape = (shaped_of (Err misshape)).number

-- 01's number, row and time for each finding,
abbrev pub said_by : Finding → Said
said_by (Table fault) = bare (fault_number fault)
said_by Cut = bare 40
said_by TooManyCores = bare 41
said_by TooManyRows = bare 42
said_by BadRow = bare 43
said_by (Early row slot) = named 44 row slot.0
said_by (Late row time) = named 45 row time.0
said_by Extra = bare 46
said_by TooLong = bare 47

-- and for each answer.
abbrev pub said_of : Result (Unit {0}) Finding → Said
said_of (Ok _) = bare 0
said_of (Err finding) = said_by finding
