-- "What we want next from you is a core for each picked row, with as few moves as can be. We do not need idle cores put to sleep." (the demands; 02, One)
use Rattle.std.specs.Prelude.{ℕ, ◌<◌, ◌≡◌, List, Bool, false, ◌↔◌, length, get_or}
use Rattle.facts.specs.Counting.{how_many}
use Rattle.table.specs.declared.Table.{Table}
use Rattle.cores.specs.Sets.{size, FirstCoresAreK}
use Rattle.cores.specs.Placement.{nobody}
use Rattle.cores.specs.Cores.{CoresAreBest, PlacedAlone}
use Rattle.cores.specs.Fault.{MisremembersOrRemembers, NoMoreThanCores}
use Rattle.cores.specs.Examples.{Examples}
use Rattle.dispatcher.specs.declared.State.{State}
use Rattle.dispatcher.specs.State.{time_of, fresh_of}
use Rattle.dispatcher.specs.Run.{Step}
use Rattle.dispatcher.specs.RunKept.{MemoryIsLastRecord}
use Rattle.dispatcher.specs.Placed.{DoneGetsBestCores, SlotIsRemembered, DoneAsWithItsSize, CoresHaveNoPart}
use Rattle.printer.specs.Text.{asked_of}
use Rattle.demands.specs.One.{NotBroken}

pub record Cores : Type 0 where
  -- "a core for each picked row": a slot that is done places the rows that it picks, on the cores that no placement betters, and on no others.
  pub best : DoneGetsBestCores
  -- So of every memory in which each row and each core is in one place, any set and any rising rows, as long as there is a core for each: a list of cores is what we
  -- answer exactly if it is the best; and of `place` asked alone.
  pub exactly : CoresAreBest
  pub alone : PlacedAlone
  -- "a row picked in this slot and the one before, on another core", computed: a new row does not move, a row on another core does.
  pub examples : Examples
  -- "The state remembers which row ran on which core in the last slot; fresh, none."
  pub remembered : SlotIsRemembered
  pub fresh : (t : Table) → (fresh_of t).last ≡ nobody
  pub in_run : (table : Table) (steps : ℕ → Step) (buffer : List ℕ) (place : ℕ) → MemoryIsLastRecord table steps buffer place
  -- "k becomes the size of the set; picks, shares and traces stay as they are"
  pub size_is : (free : List Bool) → size free ≡ how_many (λ core. get_or free core false) (length free)
  pub as_with : DoneAsWithItsSize
  pub no_part : CoresHaveNoPart
  -- "and the printer's k means the first k cores"
  pub printer : FirstCoresAreK
  -- "35 for .. a printer's k above M"
  pub printer_35 : (s : State) (k : ℕ) → NotBroken s → s.stopped ≡ false → time_of s < 1_000_000_000_000 → ((asked_of s k).said.number ≡ 35) ↔ (s.table.cores < k)
  -- "30 also for a remembered core not below M or given to two rows, or a remembered row not below n or on two cores"; in Eight "not rising, or a count of them above M"
  pub memory : MisremembersOrRemembers
  pub no_more : NoMoreThanCores
