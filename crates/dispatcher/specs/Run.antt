-- A run: step after step from a fresh state, the records written one behind the other into a buffer, up to the first answer that is not 0. A slot is the
-- only step there is.
use Rattle.std.specs.Prelude.{ℕ, zero, suc, ◌+◌, List, Bool, length}
use Rattle.facts.specs.Zero.{if0, if01}
use Rattle.table.specs.declared.Table.{Table}
use Rattle.dispatcher.specs.declared.State.{State}
use Rattle.dispatcher.specs.State.{fresh_of}
use Rattle.trace.specs.Said.{Said, bare}
use Rattle.cores.specs.Sets.{size}
use Rattle.dispatcher.specs.Slot.{record_in, SlotReply, slot_of}

-- A step: a slot with a set of free cores. (Steps that are no slots would be cases beside it.)
pub data Step : Type 0 where
  slot : List Bool → Step

-- what it gives back,
abbrev pub step_of : State → Step → List ℕ → ℕ → SlotReply
step_of s (Step.slot free) buffer place = slot_of s free buffer place

-- and the record that it writes if it is done
abbrev pub record_by : State → Step → List ℕ
record_by s (Step.slot free) = record_in s (size free)

-- The last answer, the state, the buffer, and the place behind the last record.
pub record Run : Type 0 where
  pub said : Said
  pub state : State
  pub bytes : List ℕ
  pub place : ℕ

-- The place goes behind the record of a step that was done (0 or 1).
abbrev pub place_by : ℕ → ℕ → List ℕ → ℕ
place_by number place entry = if01 number (place + length entry) (place + length entry) place

abbrev pub run_with : SlotReply → Run → List ℕ → Run
run_with g r entry = record { said = g.said; state = g.state; bytes = g.bytes; place = place_by g.said.number r.place entry }

-- A step more, if the number of the last answer is 0.
abbrev pub one_more : ℕ → Run → Step → Run
one_more number r step =
    let next = run_with (step_of r.state step r.bytes r.place) r (record_by r.state step) in
    if0 number next r

-- A run of at most m steps, from the given place in the buffer on.
unfoldable pub run : Table → (ℕ → Step) → List ℕ → ℕ → ℕ → Run
run table steps buffer place zero = record { said = bare 0; state = fresh_of table; bytes = buffer; place = place }
run table steps buffer place (suc m) = let r = run table steps buffer place m in one_more r.said.number r (steps m)
