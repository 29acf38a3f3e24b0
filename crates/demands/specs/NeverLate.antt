-- Never late: what a planner may count on. PD2 is optimal (001), and so is this dispatcher: a table that is taken, with the cores that its rows need free in
-- every slot, never has a row late.
use Rattle.std.specs.Prelude.{ℕ, ◌+◌, ◌*◌, ◌≤◌, ◌<◌, ◌≡◌, List, Bool, true, false, length, get_or, replicate}
use Rattle.counts.specs.Limits.{time_limit}
use Rattle.table.specs.declared.Table.{Table}
use Rattle.table.specs.Causes.{load}
use Rattle.table.specs.Value.{fault_of, rows_of}
use Rattle.table.specs.Bytes.{table_number, table_in}
use Rattle.table.specs.Example.{example}
use Rattle.trace.specs.Said.{bare, named}
use Rattle.cores.specs.Sets.{size, first_cores}
use Rattle.dispatcher.specs.declared.State.{State}
use Rattle.dispatcher.specs.State.{time_of, fresh_of}
use Rattle.dispatcher.specs.Slot.{slot_of}
use Rattle.dispatcher.specs.Run.{Step, step_of, run}

-- A step has at least c cores free, whichever they are.
abbrev pub HasCores : ℕ → Step → Type 0
HasCores c (Step.slot free) = c ≤ size free

-- The states that steps lead to from a fresh start, if each has at least c cores free, any buffer and any place.
pub data WithCores (table : Table) (c : ℕ) : State → Type 0 where
  start : WithCores table c (fresh_of table)
  step : (s : State) (x : Step) (buffer : List ℕ) (place : ℕ) → WithCores table c s → HasCores c x → WithCores table c (step_of s x buffer place).state

pub record NeverLateWith (table : Table) (c : ℕ) : Type 0 where
  -- From there no slot with at least c cores free answers 1,
  pub never_1 : (s : State) → WithCores table c s → (free : List Bool) (buffer : List ℕ) (place : ℕ) → c ≤ size free → (slot_of s free buffer place).said.number ≡ 1 → ⊥
  -- and every such slot answers 0, up to the time limit, if its cores are there and it has ten bytes for its record.
  pub always_0 : (s : State) → WithCores table c s → (free : List Bool) (buffer : List ℕ) (place : ℕ) → c ≤ size free →
      ((core : ℕ) → get_or free core false ≡ true → core < table.cores) → time_of s < time_limit → place + 10 ≤ length buffer → (slot_of s free buffer place).said ≡ bare 0

-- For every table that the reader takes, from `fresh`, if every slot has all M cores, no slot ever answers 1.
abbrev pub NeverLateWithAllCores : Type 0
NeverLateWithAllCores = (bytes : List ℕ) → table_number bytes ≡ 0 → NeverLateWith (table_in bytes) (table_in bytes).cores

-- And with a core held back: if every slot has at least c cores, and the rows' sum is at most c·L.
abbrev pub NeverLateWithSome : Type 0
NeverLateWithSome = (table : Table) (c : ℕ) → fault_of table ≡ 0 → load table.cycle (rows_of table) ≤ c * table.cycle → NeverLateWith table c

-- A step that has at least c cores free, all of them the table's own.
abbrev pub HasOwnCores : Table → ℕ → Step → Type 0
HasOwnCores table c (Step.slot free) = (c ≤ size free) × ((core : ℕ) → get_or free core false ≡ true → core < table.cores)

-- So a run of such steps goes on up to the time limit, in a buffer that has ten bytes for each slot: every answer is 0.
abbrev pub RunsOn : Type 0
RunsOn =
    (table : Table) (c : ℕ) → fault_of table ≡ 0 → load table.cycle (rows_of table) ≤ c * table.cycle → (steps : ℕ → Step) → ((t : ℕ) → HasOwnCores table c (steps t)) →
    (buffer : List ℕ) (place m : ℕ) → m ≤ time_limit → place + 10 * m ≤ length buffer →
    let r = run table steps buffer place m in
    (r.said ≡ bare 0) × (time_of r.state ≡ m)

pub record NeverLate : Type 0 where
  pub all_cores : NeverLateWithAllCores
  pub some_cores : NeverLateWithSome
  pub runs_on : RunsOn
  -- 01's example is such a table, and takes all of its two cores.
  pub example_taken : table_number example ≡ 0
  pub example_full : load (table_in example).cycle (rows_of (table_in example)) ≡ (table_in example).cores * (table_in example).cycle
  -- The sum is what counts: with one core free, one less than its rows need, its row 2 is late at time 2.
  pub example_late_with_one : (run (table_in example) (λ s. Step.slot (first_cores 1)) (replicate 100 0) 0 2).said ≡ named 1 2 2
