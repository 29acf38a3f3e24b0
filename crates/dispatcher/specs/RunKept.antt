-- What the records of a run say, whichever cores each slot had. (That its rows keep within their limits is demand 3: crates/demands.)
use Rattle.std.specs.Prelude.{ℕ, ◌-◌, ◌<◌, ◌≡◌, List}
use Rattle.table.specs.declared.Table.{Table}
use Rattle.pd2.specs.Choice.{quanta_at}
use Rattle.trace.specs.Records.{rows_at, place_of, times_named_from}
use Rattle.cores.specs.Placement.{rows_placed}
use Rattle.dispatcher.specs.State.{quanta_in, time_of}
use Rattle.dispatcher.specs.Run.{Step, Run, run}

module _ (table : Table) (steps : ℕ → Step) (buffer : List ℕ) (place : ℕ) where
  abbrev pub run_for : ℕ → Run
  run_for = run table steps buffer place

  -- The quanta of each row are as many as the records that name it; they stand in the buffer from the place on, one a slot.
  abbrev pub QuantaAreRecords : Type 0
  QuantaAreRecords =
      (m i : ℕ) → quanta_at (quanta_in (run_for m).state) i ≡ times_named_from (run_for m).bytes place i (time_of (run_for m).state)

  -- What the state remembers are the rows of the last of them: "which row ran on which core in the last slot" (02, One).
  abbrev pub MemoryIsLastRecord : Type 0
  MemoryIsLastRecord =
      (m : ℕ) → 0 < time_of (run_for m).state →
      rows_placed (run_for m).state.last ≡ rows_at (run_for m).bytes (place_of (run_for m).bytes place (time_of (run_for m).state - 1))

  abbrev pub RecordsStandInTurn : Type 0
  RecordsStandInTurn = (m : ℕ) → (run_for m).place ≡ place_of (run_for m).bytes place (time_of (run_for m).state)
