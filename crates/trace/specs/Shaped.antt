-- What is answered of the shape of a record: the place behind it, or what is found in it first.
use Rattle.std.specs.Prelude.{ℕ, List, Result, Ok, Err}
use Rattle.facts.specs.Zero.{if0}
use Rattle.facts.specs.Findings.{first_found}
use Rattle.trace.specs.declared.Misshape.{Misshape}
use Rattle.trace.specs.declared.Misshape.TheVariants.{Cut, TooManyCores, TooManyRows, BadRow}
use Rattle.trace.specs.Records.{past_record}
use Rattle.trace.specs.Said.{bare}
use Rattle.trace.specs.Shape.{shape_at}

-- a number of 01's table, 0 where nothing is found, and with 0 where the next record begins
pub record ShapeReply : Type 0 where
  pub number : ℕ
  pub next : ℕ

-- 01's number for each answer
abbrev pub shaped_of : Result ℕ Misshape → ShapeReply
shaped_of (Ok next) = record { number = 0; next = next }
shaped_of (Err Cut) = record { number = 40; next = 0 }
shaped_of (Err TooManyCores) = record { number = 41; next = 0 }
shaped_of (Err TooManyRows) = record { number = 42; next = 0 }
shaped_of (Err BadRow) = record { number = 43; next = 0 }

-- "for each record 40 (its first two bytes), 41, 42, 40 (its rows), 43": the first that is found in the record at a place, 0 if none is
abbrev pub shape_number : ℕ → ℕ → List ℕ → ℕ → ℕ
shape_number M n s place = (first_found (bare 0) (shape_at M n s place)).number

-- the answer for every place, past the trace's end too
unfoldable pub shape_of : ℕ → ℕ → List ℕ → ℕ → ShapeReply
shape_of M n s place = record { number = shape_number M n s place; next = if0 (shape_number M n s place) (past_record s place) 0 }
