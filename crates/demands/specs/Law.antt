-- What a line of our own table of laws asks, and when it holds (specs/Laws.antt).
use Rattle.std.specs.Prelude.{ℕ, List, [], ◌∷◌, Bool, true, ◌&&◌, not, cond, eqb, length, get_or, take, replicate}
use Rattle.windows.specs.Question.{window_reply}
use Rattle.table.specs.declared.Row.{Row}
use Rattle.table.specs.declared.Table.{Table}
use Rattle.table.specs.Value.{fault_of}
use Rattle.table.specs.Bytes.{reading}
use Rattle.table.specs.Writing.{writing, buffer_after}
use Rattle.trace.specs.Found.{part_found, part_begins}
use Rattle.trace.specs.Said.{Said, bare}
use Rattle.cores.specs.declared.Placement.{Placement}
use Rattle.cores.specs.Sets.{first_cores}
use Rattle.cores.specs.Placement.{nobody, placement}
use Rattle.dispatcher.specs.declared.State.{State}
use Rattle.dispatcher.specs.State.{quanta_in, time_of}
use Rattle.dispatcher.specs.Slot.{slot_of}
use Rattle.why.specs.Answer.{told_of}
use Rattle.why.specs.Why.{why_of}
use Rattle.checker.specs.Check.{check_of}
use Rattle.printer.specs.Text.{text_of}
use Rattle.demands.specs.Bench.{same, same_said}

-- What is asked, and what 01 and 02 answer.
pub data Law : Type 0 where
  -- the window of subtask i of e/p with phase f: its number, r, d, b and D
  window : (e p f i number r d b D : ℕ) → Law
  -- reading these bytes as a table: the number
  reads : (bytes : List ℕ) (number : ℕ) → Law
  -- the table that is handed back for these bytes: its format, its L, M and n, its row at place i, its board number at place j
  has_format : (bytes : List ℕ) (format : ℕ) → Law
  has_sizes : (bytes : List ℕ) (cycle cores n : ℕ) → Law
  has_row : (bytes : List ℕ) (i : ℕ) (row : Row) → Law
  has_board : (bytes : List ℕ) (j board : ℕ) → Law
  -- the fault of a table value
  faulty : (table : Table) (number : ℕ) → Law
  -- writing a table value into a buffer of so many bytes, all 99: the number, how many bytes are written, and the buffer
  writes : (table : Table) (bytes number length : ℕ) (buffer : List ℕ) → Law
  -- a slot of a state with the first k cores free, in a buffer of so many bytes, all 99, from a place on: the answer,
  slot : (s : State) (k bytes place : ℕ) (said : Said) → Law
  -- and what it leaves: the buffer, the time, the stopped mark, and the first quanta
  leaves : (s : State) (k bytes place : ℕ) (buffer : List ℕ) (time : ℕ) (stopped : Bool) (quanta : List ℕ) → Law
  -- a slot of a state with a set of cores free, in a buffer of so many bytes from its front on: the answer, the rows that are placed, and their cores;
  -- both are remembered
  places : (s : State) (free : List Bool) (bytes : ℕ) (said : Said) (rows cores : List ℕ) → Law
  -- such a slot that is refused: it places nobody, and remembers what it came with
  refuses : (s : State) (free : List Bool) (bytes number : ℕ) → Law
  -- why a row of a state waits with k cores free: the number, the reason and the rule by their places in 02's lists, the slot and the row that are named
  explains : (s : State) (k row number reason until by rule : ℕ) → Law
  -- the record of slot s in a trace: where the part begins, and its bytes
  part : (trace : List ℕ) (s begins : ℕ) (bytes : List ℕ) → Law
  -- checking a trace against the bytes of a table
  check : (table trace : List ℕ) (said : Said) → Law
  -- the text that the slot printer prints for an input
  prints : (input text : List ℕ) → Law

abbrev pub same_row : Row → Row → Bool
same_row a b =
    eqb a.tank b.tank && eqb a.cost b.cost && eqb a.period b.period && eqb a.phase b.phase && eqb a.kind b.kind

-- a row that no table here has: what stands at a place that is not there
abbrev pub no_such_row : Row
no_such_row = record { tank = 9; cost = 9; period = 9; phase = 9; kind = 9 }

-- "has 0 in every place past n"
abbrev pub all_zero : Row
all_zero = record { tank = 0; cost = 0; period = 0; phase = 0; kind = 0 }

-- in all of their places, past the count too
abbrev pub same_places : Placement → Placement → Bool
same_places a b = eqb a.count b.count && same a.rows b.rows && same a.cores b.cores

-- both marks are set, or neither
abbrev pub same_mark : Bool → Bool → Bool
same_mark a b = cond a b (not b)

-- A law holds of the definitions.
abbrev pub law_holds : Law → Bool
law_holds (window e p f i number r d b D) =
    let reply = window_reply e p f i in
    eqb reply.number number && eqb reply.r r && eqb reply.d d && eqb reply.b b && eqb reply.D D
law_holds (reads bytes number) = eqb (reading bytes).number number
law_holds (has_format bytes format) = eqb (reading bytes).table.format format
law_holds (has_sizes bytes cycle cores n) =
    let table = (reading bytes).table in
    eqb table.cycle cycle && eqb table.cores cores && eqb table.n n
law_holds (has_row bytes i row) = same_row (get_or (reading bytes).table.rows i no_such_row) row
law_holds (has_board bytes j board) = eqb (get_or (reading bytes).table.boards j 256) board
law_holds (faulty table number) = eqb (fault_of table) number
law_holds (writes table bytes number length buffer) =
    let said = writing table (replicate bytes 99) in
    eqb said.number number && eqb said.length length && same (buffer_after table (replicate bytes 99)) buffer
law_holds (slot s k bytes place said) = same_said (slot_of s (first_cores k) (replicate bytes 99) place).said said
law_holds (leaves s k bytes place buffer time stopped quanta) =
    let after = slot_of s (first_cores k) (replicate bytes 99) place in
    same after.bytes buffer && eqb (time_of after.state) time && same_mark after.state.stopped stopped && same (take (length quanta) (quanta_in after.state)) quanta
law_holds (places s free bytes said rows cores) =
    let after = slot_of s free (replicate bytes 99) 0 in
    same_said after.said said && same_places after.placed (placement rows cores) && same_places after.state.last (placement rows cores)
law_holds (refuses s free bytes number) =
    let after = slot_of s free (replicate bytes 99) 0 in
    same_said after.said (bare number) && same_places after.placed nobody && same_places after.state.last s.last
law_holds (explains s k row number reason until by rule) =
    let told = told_of (why_of s k row) in
    eqb told.number number && eqb told.reason reason && eqb told.slot until && eqb told.row by && eqb told.rule rule
law_holds (part trace s begins bytes) = eqb (part_begins trace s) begins && same (part_found trace s) bytes
law_holds (check table trace said) = same_said (check_of table trace) said
law_holds (prints input text) = same (text_of input) text

unfoldable pub all_laws_hold : List Law → Bool
all_laws_hold [] = true
all_laws_hold (law ∷ laws) = law_holds law && all_laws_hold laws
