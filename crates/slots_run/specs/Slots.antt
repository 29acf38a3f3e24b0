-- Slot after slot with one set of free cores, each record written to the front of the same buffer.
use Rattle.std.specs.Prelude.{ℕ, zero, suc, List}
use Rattle.cores.specs.Sets.{first_cores}
use Rattle.dispatcher.specs.declared.State.{State}
use Rattle.dispatcher.specs.Slot.{SlotReply, slot_of}

-- What the slots leave: the state, and the bytes of the buffer.
pub record Left : Type 0 where
  pub state : State
  pub bytes : List ℕ

abbrev pub left_by : SlotReply → Left
left_by given = record { state = given.state; bytes = given.bytes }

-- m slots with the first k cores free, from a state and a buffer on. A slot that is refused leaves both as they are.
unfoldable pub slots_from : State → ℕ → List ℕ → ℕ → Left
slots_from s k bytes zero = record { state = s; bytes = bytes }
slots_from s k bytes (suc m) = let left = slots_from s k bytes m in left_by (slot_of left.state (first_cores k) left.bytes 0)
