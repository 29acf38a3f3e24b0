-- The bench values that 01 marks P (01, "Bench values"), that of 1/2 as 02, Three mends it: one table and one statement, over the definitions.
use Rattle.std.specs.Prelude.{ℕ, ◌-◌, ◌≡◌, List, [], ◌∷◌, ◌++◌, Bool, true, false, ◌&&◌, eqb, length, get_or, take, replicate}
use Rattle.facts.specs.Counting.{those}
use Rattle.windows.specs.Question.{window_reply}
use Rattle.table.specs.declared.Row.{Row}
use Rattle.table.specs.declared.Table.{Table}
use Rattle.table.specs.Limits.{row_limit}
use Rattle.table.specs.Causes.{zero_row}
use Rattle.table.specs.Bytes.{table_number, table_in}
use Rattle.table.specs.Example.{example}
use Rattle.trace.specs.Records.{rows_at, named_in, first_place}
use Rattle.trace.specs.Said.{Said, bare, named}
use Rattle.cores.specs.Sets.{first_cores}
use Rattle.dispatcher.specs.Run.{Step, Run, run}
use Rattle.checker.specs.Check.{check_of}
use Rattle.demands.specs.RunPasses.{trace_of}

-- rows e/p with phase 0; the tank is the row's number
abbrev pub plain_row : ℕ → ℕ → ℕ → Row
plain_row tank e p = record { tank = tank; cost = e; period = p; phase = 0; kind = 0 }

abbrev pub early_release : ℕ → ℕ → ℕ → Row
early_release tank e p = record { tank = tank; cost = e; period = p; phase = 0; kind = 1 }

-- a table of format 1, of a cycle and so many cores, with these rows
abbrev pub box : ℕ → ℕ → List Row → Table
box cycle cores rows =
    record {
      format = 1;
      cycle = cycle;
      cores = cores;
      boards = 0 ∷ 1 ∷ 2 ∷ 3 ∷ 4 ∷ 5 ∷ 6 ∷ 7 ∷ [];
      n = length rows;
      rows = rows ++ replicate (row_limit - length rows) zero_row;
    }

-- a slot with the first k cores free
abbrev pub slot_with : ℕ → Step
slot_with k = Step.slot (first_cores k)

-- slots from a fresh state, with these numbers of cores free one after the other, in a buffer of 100 bytes
abbrev pub run_of : Table → List ℕ → Run
run_of table free = run table (λ s. slot_with (get_or free s 0)) (replicate 100 0) 0 (length free)

-- "Its trace is `03000000 02020001 02020002 02020102`."
abbrev pub example_trace : List ℕ
example_trace = 3 ∷ 0 ∷ 0 ∷ 0 ∷ 2 ∷ 2 ∷ 0 ∷ 1 ∷ 2 ∷ 2 ∷ 0 ∷ 2 ∷ 2 ∷ 2 ∷ 1 ∷ 2 ∷ []

-- A value that a line gives, or leaves out.
pub data Value : Type 0 where
  is : ℕ → Value
  unsaid : Value

-- What a line of the bench says.
pub data Line : Type 0 where
  -- the window of subtask i of the row e/p with phase f: r to d, b and D
  window : (e p f i r d : ℕ) (b D : Value) → Line
  -- slot 0 of a fresh state, with k cores free, picks these rows
  picks : (table : Table) (k : ℕ) (rows : List ℕ) → Line
  -- slots with these numbers of cores free: the last answers so
  answers : (table : Table) (free : List ℕ) (last : Said) → Line
  -- with one core in each of the first m slots, row 0 runs in these
  runs : (table : Table) (m : ℕ) (slots : List ℕ) → Line
  -- with so many cores in each of m slots, this is the trace, and it passes
  traced : (bytes : List ℕ) (k m : ℕ) (trace : List ℕ) → Line
  -- these bytes of a table are answered so
  table_read : (bytes : List ℕ) (number : ℕ) → Line

abbrev pub agrees : Value → ℕ → Bool
agrees (is n) value = eqb value n
agrees unsaid value = true

unfoldable pub same : List ℕ → List ℕ → Bool
same [] [] = true
same [] (y ∷ ys) = false
same (x ∷ xs) [] = false
same (x ∷ xs) (y ∷ ys) = eqb x y && same xs ys

abbrev pub same_said : Said → Said → Bool
same_said a b = eqb a.number b.number && eqb a.row b.row && eqb a.time b.time

-- A line holds of the definitions.
abbrev pub holds : Line → Bool
holds (window e p f i r d b D) =
    let reply = window_reply e p f i in
    eqb reply.number 0 && eqb reply.r r && eqb reply.d d && agrees b reply.b && agrees D reply.D
holds (picks table k rows) = let r = run_of table (k ∷ []) in same_said r.said (bare 0) && same (rows_at r.bytes 0) rows
holds (answers table free last) = same_said (run_of table free).said last
holds (runs table m slots) =
    let r = run_of table (replicate m 1) in
    let place : ℕ = 0 in
    let row : ℕ = 0 in
    same_said r.said (bare 0) && same (those (named_in r.bytes place row) m) slots
holds (traced bytes k m trace) =
    same (trace_of (run (table_in bytes) (λ s. slot_with k) (replicate 100 0) first_place m)) trace && same_said (check_of bytes trace) (bare 0)
holds (table_read bytes number) = eqb (table_number bytes) number

unfoldable pub all_hold : List Line → Bool
all_hold [] = true
all_hold (line ∷ lines) = holds line && all_hold lines

-- "Plain rows 2/3, 2/3, 3/4, three cores"
abbrev pub three_cores : Table
three_cores = box 12 3 (plain_row 0 2 3 ∷ plain_row 1 2 3 ∷ plain_row 2 3 4 ∷ [])

abbrev pub bench : List Line
bench =
    -- "P 5/16, i = 2: 3 to 7, b 1. P i = 5: 12 to 16, b 0."
    window 5 16 0 2 3 7 (is 1) unsaid
    ∷ window 5 16 0 5 12 16 (is 0) unsaid
    -- "P 8/11, i = 1: 0 to 2, b 1, D 4. P i = 3: 2 to 5, D 8. P i = 6: 6 to 9, D 11."
    ∷ window 8 11 0 1 0 2 (is 1) (is 4)
    ∷ window 8 11 0 3 2 5 unsaid (is 8)
    ∷ window 8 11 0 6 6 9 unsaid (is 11)
    -- "P 1/2, i = 1: 0 to 2, b 0", and "1/2, i = 1 has D 2" (02, Three)
    ∷ window 1 2 0 1 0 2 (is 0) (is 2)
    -- "P 2/3 with f = 4, i = 1: 4 to 6, b 1, D 7."
    ∷ window 2 3 4 1 4 6 (is 1) (is 7)
    -- "P Plain rows 1/2, 1/2, 2/3, two cores: slot 0 picks rows 0 and 2."
    ∷ picks (box 6 2 (plain_row 0 1 2 ∷ plain_row 1 1 2 ∷ plain_row 2 2 3 ∷ [])) 2 (0 ∷ 2 ∷ [])
    -- "P Plain rows 2/3, 2/3, 3/4, three cores, k = 1: slot 0 picks row 2."
    ∷ picks three_cores 1 (2 ∷ [])
    -- "P The same with k = 0 twice: the second slot answers 1, row 0, time 2. With k = 0 then 3: no row late."
    ∷ answers three_cores (0 ∷ []) (bare 0)
    ∷ answers three_cores (0 ∷ 0 ∷ []) (named 1 0 2)
    ∷ answers three_cores (0 ∷ 3 ∷ []) (bare 0)
    -- "P One core, early release 2/6: slots 0, 1, 6 of the first seven. P Early release 1/3: slots 0, 3, 6."
    ∷ runs (box 6 1 (early_release 0 2 6 ∷ [])) 7 (0 ∷ 1 ∷ 6 ∷ [])
    ∷ runs (box 3 1 (early_release 0 1 3 ∷ [])) 7 (0 ∷ 3 ∷ 6 ∷ [])
    -- "P The trace above passes. 35 of the table's 36 bytes: 10. One byte more: 21."
    ∷ traced example 2 3 example_trace
    ∷ table_read (take 35 example) 10
    ∷ table_read (example ++ (0 ∷ [])) 21
    ∷ []

-- Every line follows from the definitions.
abbrev pub BenchHolds : Type 0
BenchHolds = all_hold bench ≡ true
