-- "Half is heavy" (02, Three): "001 says heavy is at least one half; we had followed 000. Mend the definition and the bench value .. Show that no pick changes".
use Rattle.std.specs.Prelude.{ℕ, ◌<◌, ◌≡◌, List, Bool, length}
use Rattle.windows.specs.Half.{MovedAtHalf}
use Rattle.table.specs.declared.Row.{Row}
use Rattle.pd2.specs.Picks.{picks}
use Rattle.pd2.specs.Half.{went_before, former_picks, NoPickChanges}
use Rattle.choice.specs.Choice.{says_ready_in, chosen}
use Rattle.trace.specs.Records.{rows_at}
use Rattle.cores.specs.Sets.{size}
use Rattle.dispatcher.specs.declared.State.{State}
use Rattle.dispatcher.specs.State.{rows_in, quanta_in, time_of}
use Rattle.dispatcher.specs.Slot.{favoured_in, picks_in, slot_of}

-- the rows that a slot of a state picked by the group deadline as it was, with k cores free
abbrev pub former_picks_in : State → ℕ → List ℕ
former_picks_in s k = former_picks (rows_in s) (quanta_in s) (favoured_in s) (time_of s) k

-- No slot of any state picks other rows than it did. (A broken state is refused; `picks_in` says whom it would pick.)
abbrev pub NoSlotPicksOthers : Type 0
NoSlotPicksOthers = (s : State) (k : ℕ) → picks_in s k ≡ former_picks_in s k

-- The record of a slot names the rows that it named.
abbrev pub NoRecordNamesOthers : Type 0
NoRecordNamesOthers =
    (s : State) (free : List Bool) (buffer : List ℕ) (place : ℕ) → (slot_of s free buffer place).said.number < 2 →
    rows_at (slot_of s free buffer place).bytes place ≡ former_picks_in s (size free)

-- `choice::picks`, asked alone, picks the rows that it picked, of wild rows too, whoever is favoured.
abbrev pub NoChoiceChanges : Type 0
NoChoiceChanges =
    (rows : List Row) (quanta : List ℕ) (favours : ℕ → Bool) (t k : ℕ) →
    chosen rows quanta favours t k ≡ picks (says_ready_in rows quanta t) (went_before rows quanta favours) (length rows) k

pub record HalfIsHeavy : Type 0 where
  -- D moved from 0 to d where the weight is one half, and nowhere else; "such a row's b is always 0"
  pub moved : MovedAtHalf
  -- "no pick changes", whatever the rows, the quanta, the slot and the cores
  pub picks : NoPickChanges
  pub slots : NoSlotPicksOthers
  pub records : NoRecordNamesOthers
  pub choice : NoChoiceChanges
