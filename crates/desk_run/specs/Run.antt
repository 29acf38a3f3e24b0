-- What the desk's command shows of slots that run one after the other from a fresh state, each with its own number of free cores: entry behind entry in a
-- lent buffer.
use Rattle.std.specs.Prelude.{ℕ, zero, suc, ◌+◌, ◌*◌, ◌/◌, min, length}
use mathlib.Core.List.{List, ◌++◌, flat_map}
use Rattle.std.proofs.lemmas.List.Edits.{sets}
use Rattle.fields.specs.Fields.{byte, bytes_of}
use Rattle.table.specs.Bytes.{reading}
use Rattle.cores.specs.Sets.{first_cores}
use Rattle.dispatcher.specs.declared.State.{State}
use Rattle.dispatcher.specs.State.{fresh_of}
use Rattle.dispatcher.specs.Slot.{SlotReply, slot_of}

-- An entry has 20 bytes: the slot's record (01; the longest has ten), the core of each picked row (02, One; eight, 0 past the last row), and the number and
-- the row that the slot answers. With a refusal the bytes of the record stay as they were.
abbrev pub entry_length : ℕ
entry_length = 20

unfoldable pub entered : SlotReply → ℕ → List ℕ
entered given at =
    sets given.bytes (at + 10) (flat_map (bytes_of 1) given.placed.cores ++ bytes_of 1 given.said.number ++ bytes_of 1 given.said.row)

-- What is left by slots: the state, and the bytes of the buffer.
pub record Left : Type 0 where
  pub state : State
  pub bytes : List ℕ

-- The first m entries: entry i stands at 20 * i, and has the first `byte list i` cores free. A slot that is refused leaves the state as it is.
unfoldable pub run_from : State → List ℕ → List ℕ → ℕ → Left
run_from s list bytes zero = record { state = s; bytes = bytes }
run_from s list bytes (suc m) =
    let left = run_from s list bytes m in
    let at = entry_length * m in
    let given = slot_of left.state (first_cores (byte list m)) left.bytes at in
    record { state = given.state; bytes = entered given at }

-- As many slots as the list has numbers, and as the buffer has room for entries.
abbrev pub slots_run : List ℕ → List ℕ → ℕ
slots_run list bytes = min (length list) (length bytes / entry_length)

-- Over the table in these bytes (of a refused one the value is all 0, and every slot answers 30).
abbrev pub ran : List ℕ → List ℕ → List ℕ → Left
ran table list bytes = run_from (fresh_of (reading table).table) list bytes (slots_run list bytes)
