-- What must be shut out (01, "What the statements must say"): no function that keeps the promise is so. A function is asked to keep its promise, and is
-- said to be wrong, only on what it can be called with (specs/Inputs.antt): so one that is wrong on all of that is shut out, whatever it does elsewhere.
-- (Those that mistake a limit stand in specs/ShorterSlots.antt.)
use Rattle.std.specs.Prelude.{ℕ, ◌+◌, ◌-◌, ◌*◌, ◌/◌, ◌≤◌, ◌<◌, ◌≡◌, List, [], Bool, true, false, cond, ◌&&◌, length, get_or, take, Option, Result, Ok}
use Rattle.facts.specs.Counting.{some}
use Rattle.counts.specs.declared.Slot.{Slot}
use Rattle.counts.specs.declared.Subtask.{Subtask}
use Rattle.windows.specs.declared.times.Window.{Window}
use Rattle.windows.specs.Question.{Reply, reply_of}
use Rattle.windows.specs.Formula.{formula}
use Rattle.table.specs.declared.Table.{Table}
use Rattle.table.specs.declared.faults.Fault.{Fault}
use Rattle.table.specs.declared.faults.Unwritten.{Unwritten}
use Rattle.table.specs.Reply.{Writing, reply_of as table_reply_of, written_of}
use Rattle.table.specs.Value.{rows_of}
use Rattle.table.specs.Bytes.{table_number, table_in}
use Rattle.table.specs.Written.{bytes_needed}
use Rattle.pd2.specs.Choice.{row_at, quanta_at}
use Rattle.trace.specs.Record.{marked}
use Rattle.trace.specs.Records.{rows_at, names}
use Rattle.cores.specs.Placement.{cores_placed}
use Rattle.dispatcher.specs.declared.State.{State}
use Rattle.dispatcher.specs.declared.Outcome.{Outcome}
use Rattle.dispatcher.specs.State.{rows_in, quanta_in, time_of, fresh_of}
use Rattle.dispatcher.specs.Answer.{said_of}
use Rattle.dispatcher.specs.Slot.{picks_in}
use Rattle.why.specs.declared.Rule.{Rule}
use Rattle.why.specs.declared.Rule.TheVariants.{RowNumber}
use Rattle.why.specs.declared.Reason.TheVariants.{Picked, NotReady, PassedOver}
use Rattle.why.specs.Reasons.{goes_before}
use Rattle.why.specs.Answer as why
use Rattle.checker.specs.declared.Finding.{Finding}
use Rattle.checker.specs.Answer as checked
use Rattle.demands.specs.Promises.{windows·window, table·read, table·write, dispatcher·State·slot, why·of_row, checker·check, firmware·zb_table_check, firmware·zb_trace_check}
use Rattle.demands.specs.Inputs.{Bytes, CanAskWindow, Possible, CanAsk, CanWrite}

-- A reader keeps the promise of `read`, and the board's table check that of `zb_table_check`.
abbrev pub IsReader : (List ℕ → Result Table Fault) → Type 0
IsReader read = (bytes : List ℕ) → Bytes bytes → table·read bytes (read bytes)

-- the number that a reader answers
abbrev pub number_read : (List ℕ → Result Table Fault) → List ℕ → ℕ
number_read read bytes = (table_reply_of (read bytes)).number

abbrev pub IsTableCheck : (List ℕ → ℕ) → Type 0
IsTableCheck check = (bytes : List ℕ) → Bytes bytes → firmware·zb_table_check bytes (check bytes)

-- "a reader that takes no table": by the number that it answers
abbrev pub TakesNoTable : (List ℕ → ℕ) → Type 0
TakesNoTable number = (bytes : List ℕ) → Bytes bytes → number bytes ≡ 0 → ⊥

-- one that takes none with a row of e = p, and one that never says 18 (02, Six)
abbrev pub TakesNoWholeCore : (List ℕ → ℕ) → Type 0
TakesNoWholeCore number =
    (bytes : List ℕ) → Bytes bytes → (i : ℕ) → i < length (rows_of (table_in bytes)) → (row_at (rows_of (table_in bytes)) i).cost ≡ (row_at (rows_of (table_in bytes)) i).period → number bytes ≡ 0 → ⊥

abbrev pub TakesAnyCost : (List ℕ → ℕ) → Type 0
TakesAnyCost number = (bytes : List ℕ) → Bytes bytes → number bytes ≡ 18 → ⊥

-- A dispatcher keeps the promise of `slot`; it gives back the outcome and the buffer.
abbrev pub Dispatcher : Type 0
Dispatcher = State → List Bool → List ℕ → ℕ → Outcome × List ℕ

abbrev pub IsDispatcher : Dispatcher → Type 0
IsDispatcher slot =
    (s : State) (free : List Bool) (buffer : List ℕ) (place : ℕ) → Possible s free buffer place →
    dispatcher·State·slot s free buffer place (slot s free buffer place).0 (slot s free buffer place).1

-- the number that a dispatcher answers, and the rows of the record at the place
abbrev pub number_of : Outcome × List ℕ → ℕ
number_of r = (said_of r.0.answer).number

abbrev pub rows_written : Outcome × List ℕ → ℕ → List ℕ
rows_written r place = rows_at r.1 place

-- "a dispatcher that refuses all",
abbrev pub RefusesAll : Dispatcher → Type 0
RefusesAll slot = (s : State) (free : List Bool) (buffer : List ℕ) (place : ℕ) → Possible s free buffer place → 1 < number_of (slot s free buffer place)

-- "or picks nobody, or always row 0": it never names another row,
abbrev pub PicksNobody : Dispatcher → Type 0
PicksNobody slot =
    (s : State) (free : List Bool) (buffer : List ℕ) (place : ℕ) → Possible s free buffer place → number_of (slot s free buffer place) < 2 →
    rows_written (slot s free buffer place) place ≡ []

abbrev pub AlwaysRow0 : Dispatcher → Type 0
AlwaysRow0 slot =
    (s : State) (free : List Bool) (buffer : List ℕ) (place : ℕ) → Possible s free buffer place → number_of (slot s free buffer place) < 2 → (i : ℕ) →
    names (rows_written (slot s free buffer place) place) i ≡ true → i ≡ 0

-- "one that leaves state and buffer as found and says 0",
abbrev pub ChangesNothing : Dispatcher → Type 0
ChangesNothing slot =
    (s : State) (free : List Bool) (buffer : List ℕ) (place : ℕ) → Possible s free buffer place → number_of (slot s free buffer place) ≡ 0 →
    ((slot s free buffer place).0.state ≡ s) × ((slot s free buffer place).1 ≡ buffer)

-- "one that does slot 0 properly and repeats it"
abbrev pub RepeatsSlot0 : Dispatcher → Type 0
RepeatsSlot0 slot =
    (s : State) (free : List Bool) (buffer : List ℕ) (place : ℕ) → Possible s free buffer place → number_of (slot s free buffer place) < 2 →
    rows_written (slot s free buffer place) place ≡ rows_written (slot (fresh_of s.table) free buffer place) place

-- "quanta counts that do not equal the records naming the row": each slot gives a quantum to the rows that its record names, and to no other. (Of a
-- whole run: `quanta` of demand 3.)
abbrev pub GivesAsRecorded : Dispatcher → Type 0
GivesAsRecorded slot =
    (s : State) (free : List Bool) (buffer : List ℕ) (place : ℕ) → Possible s free buffer place → number_of (slot s free buffer place) < 2 → (i : ℕ) →
    quanta_at (quanta_in (slot s free buffer place).0.state) i ≡ quanta_at (quanta_in s) i + cond (names (rows_written (slot s free buffer place) place) i) 1 0

-- And of the cores (02, One): one that places nobody, one that gives the lowest free cores in turn, whoever ran where, and one that remembers nothing.
abbrev pub PlacesNobody : Dispatcher → Type 0
PlacesNobody slot =
    (s : State) (free : List Bool) (buffer : List ℕ) (place : ℕ) → Possible s free buffer place → number_of (slot s free buffer place) < 2 →
    cores_placed (slot s free buffer place).0.placed ≡ []

abbrev pub LowestInTurn : Dispatcher → Type 0
LowestInTurn slot =
    (s : State) (free : List Bool) (buffer : List ℕ) (place : ℕ) → Possible s free buffer place → number_of (slot s free buffer place) < 2 →
    let rows = rows_written (slot s free buffer place) place in
    cores_placed (slot s free buffer place).0.placed ≡ take (length rows) (marked free)

abbrev pub RemembersNothing : Dispatcher → Type 0
RemembersNothing slot =
    (s : State) (free : List Bool) (buffer : List ℕ) (place : ℕ) → Possible s free buffer place → number_of (slot s free buffer place) < 2 →
    (slot s free buffer place).0.state.last.count ≡ 0

-- A dispatcher is none of these, and gives as it records.
pub record ShutOutOf (slot : Dispatcher) : Type 0 where
  pub refuses_all : RefusesAll slot → ⊥
  pub picks_nobody : PicksNobody slot → ⊥
  pub always_row_0 : AlwaysRow0 slot → ⊥
  pub changes_nothing : ChangesNothing slot → ⊥
  pub repeats_slot_0 : RepeatsSlot0 slot → ⊥
  pub gives_as_recorded : GivesAsRecorded slot
  pub places_nobody : PlacesNobody slot → ⊥
  pub lowest_in_turn : LowestInTurn slot → ⊥
  pub remembers_nothing : RemembersNothing slot → ⊥

-- Who says why a row waits keeps the promise of `of_row` (02, Two). Shut out are one that refuses all, one that says 'picked' of every row
-- that it does not refuse, one that names the picked row with the lowest number in place of the lowest-ranked, one that names the best, one that knows no rule but the row number, and one
-- that gives the present slot as the first in which a row will be ready.
abbrev pub Explainer : Type 0
Explainer = State → ℕ → ℕ → why.Answer

abbrev pub IsExplainer : Explainer → Type 0
IsExplainer explain = (s : State) (k row : ℕ) → CanAsk s k row → why·of_row s k row (explain s k row)

abbrev pub ExplainsNothing : Explainer → Type 0
ExplainsNothing explain = (s : State) (k row : ℕ) → CanAsk s k row → why.number_of (explain s k row) ≡ 0 → ⊥

abbrev pub SaysPicked : Explainer → Type 0
SaysPicked explain = (s : State) (k row : ℕ) → CanAsk s k row → why.number_of (explain s k row) ≡ 0 → explain s k row ≡ Ok Picked

abbrev pub NamesLowestNumber : Explainer → Type 0
NamesLowestNumber explain = (s : State) (k row by : ℕ) (rule : Rule) → CanAsk s k row → explain s k row ≡ Ok (PassedOver by rule) → by ≡ get_or (picks_in s k) 0 0

abbrev pub NamesTheBest : Explainer → Type 0
NamesTheBest explain =
    (s : State) (k row by : ℕ) (rule : Rule) → CanAsk s k row → explain s k row ≡ Ok (PassedOver by rule) →
    some (λ other. names (picks_in s k) other && goes_before s other by) (length (rows_in s)) ≡ false

abbrev pub KnowsOneRule : Explainer → Type 0
KnowsOneRule explain = (s : State) (k row by : ℕ) (rule : Rule) → CanAsk s k row → explain s k row ≡ Ok (PassedOver by rule) → rule ≡ RowNumber

abbrev pub SaysNow : Explainer → Type 0
SaysNow explain = (s : State) (k row : ℕ) (until : Slot) → CanAsk s k row → explain s k row ≡ Ok (NotReady until) → until.0 ≡ time_of s

pub record ShutOutOfWhy (explain : Explainer) : Type 0 where
  pub explains_nothing : ExplainsNothing explain → ⊥
  pub says_picked : SaysPicked explain → ⊥
  pub names_lowest_number : NamesLowestNumber explain → ⊥
  pub names_the_best : NamesTheBest explain → ⊥
  pub knows_one_rule : KnowsOneRule explain → ⊥
  pub says_now : SaysNow explain → ⊥

-- Who answers the window question keeps the promise of `window`, which is that of `window_by_walk` too. Shut out is one that answers D 0 whenever the weight is exactly
-- one half (02, Three). Of heavy rows below weight one (02, Four) so are one that puts d into the formula as it is, not counted from the phase, one that rounds the formula's
-- divisions down, and one whose walk stops at the window of i itself if that is 3 slots long. Where e = p (02, Six), so are one that refuses, and one that answers D 0.
abbrev pub Answerer : Type 0
Answerer = ℕ → ℕ → ℕ → Subtask → Option Window

abbrev pub IsAnswerer : Answerer → Type 0
IsAnswerer window = (e p f : ℕ) (i : Subtask) → CanAskWindow e p f i → windows·window e p f i (window e p f i)

abbrev pub HalfIsLight : Answerer → Type 0
HalfIsLight window = (e f : ℕ) (i : Subtask) → CanAskWindow e (2 * e) f i → (reply_of (window e (2 * e) f i)).D ≡ 0

-- so of every window of a heavy row below weight one that is answered
abbrev pub OfHeavyRows : Answerer → (ℕ → ℕ → ℕ → Reply → Type 0) → Type 0
OfHeavyRows window wrong =
    (e p f : ℕ) (i : Subtask) → CanAskWindow e p f i → e < p → p ≤ 2 * e → (reply_of (window e p f i)).number ≡ 0 → wrong e p f (reply_of (window e p f i))

abbrev pub PhaseLeftIn : Answerer → Type 0
PhaseLeftIn window = OfHeavyRows window (λ e p f reply. reply.D ≡ formula e p f reply.d)

abbrev pub RoundsDown : Answerer → Type 0
RoundsDown window = OfHeavyRows window (λ e p f reply. reply.D ≡ f + (reply.d - f) * (p - e) / p * p / (p - e))

abbrev pub OwnWindowCounts : Answerer → Type 0
OwnWindowCounts window = OfHeavyRows window (λ e p f reply. reply.d ≡ reply.r + 3 → reply.D + 1 ≡ reply.d)

abbrev pub WholeCoreRefused : Answerer → Type 0
WholeCoreRefused window = (p f : ℕ) (i : Subtask) → CanAskWindow p p f i → (reply_of (window p p f i)).number ≡ 50

abbrev pub WholeCoreIsLight : Answerer → Type 0
WholeCoreIsLight window = (p f : ℕ) (i : Subtask) → CanAskWindow p p f i → (reply_of (window p p f i)).D ≡ 0

pub record ShutOutOfWindow (window : Answerer) : Type 0 where
  pub half_is_light : HalfIsLight window → ⊥
  pub phase_left_in : PhaseLeftIn window → ⊥
  pub rounds_down : RoundsDown window → ⊥
  pub own_window_counts : OwnWindowCounts window → ⊥
  pub whole_core_refused : WholeCoreRefused window → ⊥
  pub whole_core_is_light : WholeCoreIsLight window → ⊥

-- A writer keeps the promise of `write` (02, Five); it gives back the answer and the buffer. Shut out are one that refuses all, one that judges nothing and
-- writes wherever there is room, one that says 0 and leaves the buffer as it was, one that fills the buffer past the bytes with 0, one that asks for a byte more than is
-- needed, and one that says with 37 how many bytes it would have written.
abbrev pub Writer : Type 0
Writer = Table → List ℕ → Result ℕ Unwritten × List ℕ

abbrev pub IsWriter : Writer → Type 0
IsWriter write = (t : Table) (buffer : List ℕ) → CanWrite t buffer → table·write t buffer (write t buffer).0 (write t buffer).1

-- what a writer says, and how many bytes it says are written
abbrev pub said_written : Writer → Table → List ℕ → Writing
said_written write t buffer = written_of (write t buffer).0

abbrev pub WritesNoTable : Writer → Type 0
WritesNoTable write = (t : Table) (buffer : List ℕ) → CanWrite t buffer → (said_written write t buffer).number ≡ 0 → ⊥

abbrev pub JudgesNothing : Writer → Type 0
JudgesNothing write = (t : Table) (buffer : List ℕ) → CanWrite t buffer → bytes_needed t ≤ length buffer → (said_written write t buffer).number ≡ 0

abbrev pub WritesNothing : Writer → Type 0
WritesNothing write = (t : Table) (buffer : List ℕ) → CanWrite t buffer → (said_written write t buffer).number ≡ 0 → (write t buffer).1 ≡ buffer

abbrev pub PadsTheRest : Writer → Type 0
PadsTheRest write =
    (t : Table) (buffer : List ℕ) → CanWrite t buffer → (said_written write t buffer).number ≡ 0 → (i : ℕ) → bytes_needed t ≤ i → i < length buffer → get_or (write t buffer).1 i 1 ≡ 0

abbrev pub AsksForMore : Writer → Type 0
AsksForMore write = (t : Table) (buffer : List ℕ) → CanWrite t buffer → length buffer ≡ bytes_needed t → (said_written write t buffer).number ≡ 0 → ⊥

abbrev pub SaysWhatItWould : Writer → Type 0
SaysWhatItWould write = (t : Table) (buffer : List ℕ) → CanWrite t buffer → (said_written write t buffer).number ≡ 37 → (said_written write t buffer).length ≡ bytes_needed t

pub record ShutOutOfWriting (write : Writer) : Type 0 where
  pub writes_no_table : WritesNoTable write → ⊥
  pub judges_nothing : JudgesNothing write → ⊥
  pub writes_nothing : WritesNothing write → ⊥
  pub pads_the_rest : PadsTheRest write → ⊥
  pub asks_for_more : AsksForMore write → ⊥
  pub says_what_it_would : SaysWhatItWould write → ⊥

-- A checker keeps the promise of `check`, and the board's trace check that of `zb_trace_check`.
abbrev pub IsChecker : (List ℕ → List ℕ → Result (Unit {0}) Finding) → Type 0
IsChecker check = (bytes s : List ℕ) → Bytes bytes → Bytes s → checker·check bytes s (check bytes s)

abbrev pub IsTraceCheck : (List ℕ → List ℕ → ℕ) → Type 0
IsTraceCheck check = (bytes s : List ℕ) → Bytes bytes → Bytes s → firmware·zb_trace_check bytes s (check bytes s)

-- the number that a checker answers
abbrev pub number_checked : (List ℕ → List ℕ → Result (Unit {0}) Finding) → List ℕ → List ℕ → ℕ
number_checked check bytes s = (checked.said_of (check bytes s)).number

-- "a checker that always passes or never", by the number that it answers: always for tables that are taken
abbrev pub AlwaysPasses : (List ℕ → List ℕ → ℕ) → Type 0
AlwaysPasses number = (bytes s : List ℕ) → Bytes bytes → Bytes s → table_number bytes ≡ 0 → number bytes s ≡ 0

abbrev pub NeverPasses : (List ℕ → List ℕ → ℕ) → Type 0
NeverPasses number = (bytes s : List ℕ) → Bytes bytes → Bytes s → number bytes s ≡ 0 → ⊥

pub record ShutOut : Type 0 where
  pub reader : (read : List ℕ → Result Table Fault) → IsReader read → TakesNoTable (number_read read) → ⊥
  pub takes_no_whole_core : (read : List ℕ → Result Table Fault) → IsReader read → TakesNoWholeCore (number_read read) → ⊥
  pub takes_any_cost : (read : List ℕ → Result Table Fault) → IsReader read → TakesAnyCost (number_read read) → ⊥
  pub dispatcher : (slot : Dispatcher) → IsDispatcher slot → ShutOutOf slot
  pub why : (explain : Explainer) → IsExplainer explain → ShutOutOfWhy explain
  pub window : (window : Answerer) → IsAnswerer window → ShutOutOfWindow window
  pub writing : (write : Writer) → IsWriter write → ShutOutOfWriting write
  pub always_passes : (check : List ℕ → List ℕ → Result (Unit {0}) Finding) → IsChecker check → AlwaysPasses (number_checked check) → ⊥
  pub never_passes : (check : List ℕ → List ℕ → Result (Unit {0}) Finding) → IsChecker check → NeverPasses (number_checked check) → ⊥
  -- the same of what the board calls
  pub board_takes_none : (check : List ℕ → ℕ) → IsTableCheck check → TakesNoTable check → ⊥
  pub board_takes_no_whole_core : (check : List ℕ → ℕ) → IsTableCheck check → TakesNoWholeCore check → ⊥
  pub board_takes_any_cost : (check : List ℕ → ℕ) → IsTableCheck check → TakesAnyCost check → ⊥
  pub board_always_passes : (check : List ℕ → List ℕ → ℕ) → IsTraceCheck check → AlwaysPasses check → ⊥
  pub board_never_passes : (check : List ℕ → List ℕ → ℕ) → IsTraceCheck check → NeverPasses check → ⊥
