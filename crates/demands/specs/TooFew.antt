-- Too few cores: the other side of never late (specs/NeverLate.antt). A table whose sum is above c·L is late with c cores in every slot.
use Rattle.std.specs.Prelude.{ℕ, ◌+◌, ◌*◌, ◌≤◌, ◌<◌, ◌≡◌, List, length}
use Rattle.table.specs.declared.Table.{Table}
use Rattle.table.specs.Causes.{load}
use Rattle.table.specs.Value.{fault_of, rows_of}
use Rattle.pd2.specs.Choice.{row_at}
use Rattle.cores.specs.Sets.{size}
use Rattle.dispatcher.specs.declared.State.{State}
use Rattle.dispatcher.specs.State.{time_of, fresh_of}
use Rattle.dispatcher.specs.Run.{Step, step_of}

-- A step has at most c cores free,
abbrev pub HasAtMost : ℕ → Step → Type 0
HasAtMost c (Step.slot free) = size free ≤ c

-- and these are the states that such steps lead to from a fresh start, with any buffer and any place, as long as none has reported a row late.
pub data WithAtMost (table : Table) (c : ℕ) : State → Type 0 where
  start : WithAtMost table c (fresh_of table)
  step : (s : State) (x : Step) (buffer : List ℕ) (place : ℕ) → WithAtMost table c s → HasAtMost c x → ((step_of s x buffer place).said.number ≡ 1 → ⊥) →
      WithAtMost table c (step_of s x buffer place).state

-- None of them has come to this time, where no phase is later than F; with no phases it is the end of the first cycle.
abbrev pub late_by : ℕ → ℕ → ℕ → ℕ
late_by cycle c F = F + cycle * (c * F + 1)

abbrev pub NoPhaseAfter : Table → ℕ → Type 0
NoPhaseAfter table F = (i : ℕ) → i < length (rows_of table) → (row_at (rows_of table) i).phase ≤ F

abbrev pub LateWithTooFew : Type 0
LateWithTooFew =
    (table : Table) (c F : ℕ) → fault_of table ≡ 0 → c * table.cycle < load table.cycle (rows_of table) → NoPhaseAfter table F →
    (s : State) → WithAtMost table c s → time_of s < late_by table.cycle c F
