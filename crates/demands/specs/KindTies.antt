-- "Format 2 breaks ties kindly" (02, Eight): "Tables of format 2 keep the bytes of format 1 but end PD2's order differently: among full ties, a row picked in the
-- previous slot goes first, then the lower row number." That the picks, demand 3 and never late hold in both formats is said where they are stated:
-- of any table, whatever its format.
use Rattle.std.specs.Prelude.{ℕ, ◌+◌, ◌<◌, ◌≡◌, List, [], ◌∷◌, map, Bool, true, false, not, ◌↔◌, ltb, length, get_or, replicate, Result, Ok}
use Rattle.facts.specs.Counting.{how_many}
use Rattle.facts.specs.Places.{places}
use Rattle.table.specs.declared.Table.{Table}
use Rattle.table.specs.declared.faults.Fault.{Fault}
use Rattle.table.specs.Bytes.{format_in}
use Rattle.table.specs.Formats.{in_format, KeepsTheBytes}
use Rattle.pd2.specs.Order.{FullTie}
use Rattle.pd2.specs.InFormat1.{BeforeIn01, AlikeIsIn01}
use Rattle.pd2.specs.Choice.{favours_nobody, pd2_picks, Pd2IsStrict}
use Rattle.trace.specs.Records.{rows_at, place_of, names}
use Rattle.cores.specs.Sets.{first_cores}
use Rattle.cores.specs.Placement.{row_in, core_in, placement, ran_before}
use Rattle.dispatcher.specs.declared.State.{State}
use Rattle.dispatcher.specs.State.{rows_in, quanta_in, time_of, fresh_of}
use Rattle.dispatcher.specs.Broken.{broken}
use Rattle.dispatcher.specs.Slot.{favoured_in, picks_in, slot_of}
use Rattle.dispatcher.specs.Run.{Step, run}
use Rattle.dispatcher.specs.Placed.{NoMovesIfAllFree, RanIsNamed, FormatOneForgets, RowsDecide}
use Rattle.why.specs.declared.Rule.TheVariants.{RanBefore}
use Rattle.why.specs.declared.Reason.TheVariants.{PassedOver}
use Rattle.why.specs.Reasons.{is_ready, rank_in, goes_before}
use Rattle.demands.specs.LawInputs.{remembering}
use Rattle.demands.specs.KindLaws.{four_halves}
use Rattle.demands.specs.Inputs.{Bytes, Possible, CanAsk, CanWrite}
use Rattle.demands.specs.ShutOut.{Dispatcher, IsDispatcher, number_of, rows_written, Explainer, IsExplainer, IsReader, number_read, IsTableCheck, Writer, IsWriter, said_written}

-- In format 1 the order is 01's, to the letter, and nobody's having run has a part in the picks.
pub record IsIn01 (s : State) : Type 0 where
  pub order : (j i : ℕ) → (goes_before s j i ≡ true) ↔ BeforeIn01 (rank_in s j) (rank_in s i)
  pub picks : (k : ℕ) → picks_in s k ≡ pd2_picks (rows_in s) (quanta_in s) favours_nobody (time_of s) k

abbrev pub FormatOneIsIn01 : Type 0
FormatOneIsIn01 = (s : State) → s.table.format ≡ 1 → IsIn01 s

-- "among full ties, a row picked in the previous slot goes first, then the lower row number": of rows j and i of a state of format 2 that tie fully.
pub record KindBetween (s : State) (j i : ℕ) : Type 0 where
  -- j ran in the slot before, and i did not:
  pub goes_first : ran_before s.last j ≡ true → ran_before s.last i ≡ false → goes_before s j i ≡ true
  -- both did, or neither:
  pub lower : ran_before s.last j ≡ ran_before s.last i → goes_before s j i ≡ ltb j i
  -- So if i is picked and j did run and is ready, j is picked too.
  pub picked_too : ran_before s.last j ≡ true → ran_before s.last i ≡ false → j < length (rows_in s) → is_ready s j (time_of s) ≡ true → (k : ℕ) →
      names (picks_in s k) i ≡ true → names (picks_in s k) j ≡ true

abbrev pub KindTie : Type 0
KindTie = (s : State) (j i : ℕ) → s.table.format ≡ 2 → FullTie (rank_in s j) (rank_in s i) → KindBetween s j i

-- So it is from slot to slot: of two rows that tie fully after a slot was done, one that its record names goes before one that it does not name.
abbrev pub KindAfterSlot : Type 0
KindAfterSlot =
    (s : State) (free : List Bool) (buffer : List ℕ) (place : ℕ) → s.table.format ≡ 2 → (slot_of s free buffer place).said.number < 2 → (j i : ℕ) →
    FullTie (rank_in (slot_of s free buffer place).state j) (rank_in (slot_of s free buffer place).state i) →
    names (rows_at (slot_of s free buffer place).bytes place) j ≡ true → names (rows_at (slot_of s free buffer place).bytes place) i ≡ false →
    goes_before (slot_of s free buffer place).state j i ≡ true

-- "fresh, there are none": a fresh state favours nobody.
abbrev pub FreshFavoursNobody : Type 0
FreshFavoursNobody = (t : Table) (row : ℕ) → favoured_in (fresh_of t) row ≡ false

-- What it is for: four rows of 1/2 on two cores, all free, for eight slots. These are the rows that are picked, slot after slot,
abbrev pub eight_slots : ℕ → List ℕ
eight_slots format = (run (in_format format four_halves) (λ t. Step.slot (first_cores 2)) (replicate 32 0) 0 8).bytes

abbrev pub picked_in : ℕ → List (List ℕ)
picked_in format = let records = eight_slots format in map (λ t. rows_at records (place_of records 0 t)) (places 0 1 8)

-- and so often one starts that did not run in the slot before; after these rows:
unfoldable pub starts_after : List ℕ → List (List ℕ) → ℕ
starts_after before [] = 0
starts_after before (rows ∷ later) = how_many (λ i. not (names before (get_or rows i 0))) (length rows) + starts_after rows later

-- 16 starts, and 10. (Moves, "a row picked in this slot and the one before, on another core", are not what format 2 saves: with all cores free there are none in
-- either format, `no_moves`.)
pub record StartsLess : Type 0 where
  pub picked_1 : picked_in 1 ≡ (0 ∷ 1 ∷ []) ∷ (2 ∷ 3 ∷ []) ∷ (0 ∷ 1 ∷ []) ∷ (2 ∷ 3 ∷ []) ∷ (0 ∷ 1 ∷ []) ∷ (2 ∷ 3 ∷ []) ∷ (0 ∷ 1 ∷ []) ∷ (2 ∷ 3 ∷ []) ∷ []
  pub picked_2 : picked_in 2 ≡ (0 ∷ 1 ∷ []) ∷ (2 ∷ 3 ∷ []) ∷ (2 ∷ 3 ∷ []) ∷ (0 ∷ 1 ∷ []) ∷ (0 ∷ 1 ∷ []) ∷ (2 ∷ 3 ∷ []) ∷ (2 ∷ 3 ∷ []) ∷ (0 ∷ 1 ∷ []) ∷ []
  pub starts_1 : starts_after [] (picked_in 1) ≡ 16
  pub starts_2 : starts_after [] (picked_in 2) ≡ 10

-- Shut out are: a reader, or the board's table check, that takes no table of format 2, and one that never says 11;
abbrev pub TakesNoFormat2 : (List ℕ → ℕ) → Type 0
TakesNoFormat2 number = (bytes : List ℕ) → Bytes bytes → format_in bytes ≡ 2 → number bytes ≡ 0 → ⊥

abbrev pub TakesAnyFormat : (List ℕ → ℕ) → Type 0
TakesAnyFormat number = (bytes : List ℕ) → Bytes bytes → number bytes ≡ 11 → ⊥

-- a writer that writes every table as one of format 1, and one that never says 11;
abbrev pub WritesFormat1 : Writer → Type 0
WritesFormat1 write = (t : Table) (buffer : List ℕ) → CanWrite t buffer → (said_written write t buffer).number ≡ 0 → get_or (write t buffer).1 0 0 ≡ 1

abbrev pub WritesAnyFormat : Writer → Type 0
WritesAnyFormat write = (t : Table) (buffer : List ℕ) → CanWrite t buffer → (said_written write t buffer).number ≡ 11 → ⊥

-- a dispatcher that favours nobody, one that favours whoever ran in format 1 too, one that does not look whether the format is 1 or 2, and one that does not look whether the
-- rows remembered rise: neither refuses a state in which nothing else is wrong;
abbrev pub KindnessForgotten : Dispatcher → Type 0
KindnessForgotten slot =
    (s : State) (k : ℕ) (buffer : List ℕ) (place : ℕ) → Possible s (first_cores k) buffer place → number_of (slot s (first_cores k) buffer place) < 2 →
    rows_written (slot s (first_cores k) buffer place) place ≡ pd2_picks (rows_in s) (quanta_in s) favours_nobody (time_of s) k

abbrev pub AlwaysKind : Dispatcher → Type 0
AlwaysKind slot =
    (s : State) (k : ℕ) (buffer : List ℕ) (place : ℕ) → Possible s (first_cores k) buffer place → number_of (slot s (first_cores k) buffer place) < 2 →
    rows_written (slot s (first_cores k) buffer place) place ≡ pd2_picks (rows_in s) (quanta_in s) (ran_before s.last) (time_of s) k

abbrev pub as_in_format : ℕ → State → State
as_in_format format s = record { table = in_format format s.table; time = s.time; stopped = s.stopped; quanta = s.quanta; last = s.last }

abbrev pub RunsAnyFormat : Dispatcher → Type 0
RunsAnyFormat slot =
    (s : State) (free : List Bool) (buffer : List ℕ) (place : ℕ) → Possible s free buffer place → broken (as_in_format 1 s) ≡ false →
    number_of (slot s free buffer place) ≡ 30 → ⊥

abbrev pub exchanged : State → State
exchanged s = remembering s (placement (row_in s.last 1 ∷ row_in s.last 0 ∷ []) (core_in s.last 1 ∷ core_in s.last 0 ∷ []))

abbrev pub RunsFallingRows : Dispatcher → Type 0
RunsFallingRows slot =
    (s : State) (free : List Bool) (buffer : List ℕ) (place : ℕ) → Possible s free buffer place → s.last.count ≡ 2 → broken (exchanged s) ≡ false →
    number_of (slot s free buffer place) ≡ 30 → ⊥

-- and one who says why a row waits and never says that another ran in the slot before.
abbrev pub NeverSaysRan : Explainer → Type 0
NeverSaysRan explain = (s : State) (k row by : ℕ) → CanAsk s k row → explain s k row ≡ Ok (PassedOver by RanBefore) → ⊥

pub record KindShutOut : Type 0 where
  pub takes_no_format_2 : (read : List ℕ → Result Table Fault) → IsReader read → TakesNoFormat2 (number_read read) → ⊥
  pub takes_any_format : (read : List ℕ → Result Table Fault) → IsReader read → TakesAnyFormat (number_read read) → ⊥
  pub board_takes_no_format_2 : (check : List ℕ → ℕ) → IsTableCheck check → TakesNoFormat2 check → ⊥
  pub board_takes_any_format : (check : List ℕ → ℕ) → IsTableCheck check → TakesAnyFormat check → ⊥
  pub writes_format_1 : (write : Writer) → IsWriter write → WritesFormat1 write → ⊥
  pub writes_any_format : (write : Writer) → IsWriter write → WritesAnyFormat write → ⊥
  pub kindness_forgotten : (slot : Dispatcher) → IsDispatcher slot → KindnessForgotten slot → ⊥
  pub always_kind : (slot : Dispatcher) → IsDispatcher slot → AlwaysKind slot → ⊥
  pub runs_any_format : (slot : Dispatcher) → IsDispatcher slot → RunsAnyFormat slot → ⊥
  pub runs_falling_rows : (slot : Dispatcher) → IsDispatcher slot → RunsFallingRows slot → ⊥
  pub never_says_ran : (explain : Explainer) → IsExplainer explain → NeverSaysRan explain → ⊥

pub record KindTies : Type 0 where
  -- "Tables of format 2 keep the bytes of format 1"
  pub bytes : KeepsTheBytes
  -- "The order's laws .. proved once over both": over whoever is favoured; between two that are favoured alike the rules are 01's.
  pub laws : Pd2IsStrict
  pub order : AlikeIsIn01
  pub format_1 : FormatOneIsIn01
  pub tie : KindTie
  pub ran : RanIsNamed
  pub after_slot : KindAfterSlot
  pub fresh : FreshFavoursNobody
  -- What is remembered favours nobody in format 1, and in format 2 the rows that it names, on whichever cores.
  pub forgets : FormatOneForgets
  pub rows_decide : RowsDecide
  pub example : StartsLess
  pub no_moves : NoMovesIfAllFree
  pub shut_out : KindShutOut
