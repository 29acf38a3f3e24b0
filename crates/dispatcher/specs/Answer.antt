-- What a slot answers: number, row and time (01, "What comes back"; 02, One, for 35).
use Rattle.std.specs.Prelude.{ℕ, List, [], ◌∷◌, Option, Some, None, Result, Ok, Err}
use Rattle.counts.specs.declared.Slot.{Slot}
use Rattle.trace.specs.Said.{Said, bare, named}
use Rattle.dispatcher.specs.declared.Told.{Told}
use Rattle.dispatcher.specs.declared.Refusal.{Refusal}
use Rattle.dispatcher.specs.declared.Refusal.TheVariants.{Broken, Stopped, AtLimit, NoSuchCore, NoRoom}
use Rattle.dispatcher.specs.declared.Ran.{Ran}
use Rattle.dispatcher.specs.declared.Ran.TheVariants.{InTime, Late}

-- How a slot was run, or why it is refused.
abbrev pub Answer : Type 0
Answer = Result Ran Refusal

-- The paper's number for each refusal,
abbrev pub refusal_number : Refusal → ℕ
refusal_number Broken = 30
refusal_number Stopped = 31
refusal_number AtLimit = 32
refusal_number NoSuchCore = 35
refusal_number NoRoom = 34

-- 0 where a slot is not refused,
abbrev pub number_of : Option Refusal → ℕ
number_of None = 0
number_of (Some refusal) = refusal_number refusal

-- and number, row and time for each answer.
abbrev pub said_of : Answer → Said
said_of (Ok InTime) = bare 0
said_of (Ok (Late row time)) = named 1 row time.0
said_of (Err refusal) = bare (refusal_number refusal)

-- What was told of an answer.
abbrev pub said_by : Told → Said
said_by told = record { number = told.number; row = told.row; time = told.time }

-- "slot done, and some row is late at the new time; names the lowest such row and that time": by the late rows, rising, and the time
abbrev pub done_said : List ℕ → ℕ → Said
done_said [] time = bare 0
done_said (lowest ∷ others) time = named 1 lowest time

-- How a slot ended, by the lowest late row and the time.
abbrev pub ran_of : Option ℕ → Slot → Ran
ran_of None time = InTime
ran_of (Some row) time = Late row time
