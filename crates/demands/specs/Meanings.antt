-- What the definitions mean that the demands and the promises name, once more in 01's own numbers and bytes. Some lines repeat a definition to the letter, on purpose: whoever
-- changes the definition has to change it here too, under 01's sentence.
use Rattle.std.specs.Prelude.{ℕ, suc, ◌+◌, ◌-◌, ◌*◌, ◌/◌, ◌%◌, ◌≤◌, ◌<◌, min, ◌≡◌, List, [], ◌∷◌, ◌++◌, map, Bool, true, false, cond, not, ◌&&◌, ◌↔◌, eqb, length, get_or, take, drop, replicate, Ok, Err}
use Rattle.std.proofs.lemmas.List.Edits.{sets}
use Rattle.facts.specs.Counting.{how_many}
use Rattle.fields.specs.Fields.{bytes_of}
use Rattle.windows.specs.Windows.{start, deadline, bit, window_length, job_start}
use Rattle.windows.specs.Group.{group_deadline}
use Rattle.table.specs.declared.Row.{Row}
use Rattle.table.specs.declared.Table.{Table}
use Rattle.table.specs.Causes.{zero_row, load}
use Rattle.table.specs.Value.{rows_of, boards_of}
use Rattle.table.specs.Bytes.{table_in, reading}
use Rattle.pd2.specs.Ready.{ready, late}
use Rattle.pd2.specs.Share.{within}
use Rattle.pd2.specs.Order.{Rank, rank_of, with_favour, before}
use Rattle.pd2.specs.Choice.{row_at, quanta_at, ready_in, goes_before_by}
use Rattle.trace.specs.Record.{record_of, marked, write_number, part_after}
use Rattle.trace.specs.Records.{names, slots_in, place_in, rows_of_slot, times_named}
use Rattle.trace.specs.Said.{Said}
use Rattle.cores.specs.declared.Placement.{Placement}
use Rattle.cores.specs.Sets.{first_cores}
use Rattle.cores.specs.Placement.{ran_on, ran_before}
use Rattle.cores.specs.Best.{moves}
use Rattle.dispatcher.specs.declared.State.{State}
use Rattle.dispatcher.specs.State.{fresh_of}
use Rattle.dispatcher.specs.Slot.{SlotReply, slot_of}
use Rattle.checker.specs.Causes.{too_early, too_late, lowest}
use Rattle.checker.specs.WellFormed.{WellFormed}
use Rattle.printer.specs.Text.{text_of}
use Rattle.printer.specs.Buffer.{too_short, printed_of, out_after}
use Rattle.slots_run.specs.Slots.{slots_from}
use Rattle.desk_run.specs.Run.{entered, run_from, ran}
use Rattle.desk_run.specs.Judged.{place_of}
use Rattle.demands.specs.Limits.{InLimits}

-- "start r = f + floor((i-1)·p/e); deadline d = f + ceil(i·p/e)", "bit b = 0 if e divides i·p, else 1", "f + floor((i-1)/e)·p"
pub record WindowMeans (e p f i : ℕ) : Type 0 where
  pub start_is : start e p f i ≡ f + (i - 1) * p / e
  pub deadline_is : deadline e p f i ≡ f + (i * p + (e - 1)) / e
  pub bit_is : bit e p i ≡ cond (eqb (i * p % e) 0) 0 1
  pub length_is : window_length e p f i ≡ deadline e p f i - start e p f i
  pub job_start_is : job_start e p f i ≡ f + (i - 1) / e * p

-- The table in bytes: format at 0, L in the four bytes from 1 on, M at 5, the board numbers behind it, n, and the rows of nine bytes each.
pub record TableMeans (s : List ℕ) : Type 0 where
  pub format : (table_in s).format ≡ get_or s 0 0
  pub cycle : (table_in s).cycle ≡ get_or s 1 0 + 256 * get_or s 2 0 + 65_536 * get_or s 3 0 + 16_777_216 * get_or s 4 0
  pub cores : (table_in s).cores ≡ get_or s 5 0
  pub boards : (j : ℕ) → j < get_or s 5 0 → get_or (table_in s).boards j 0 ≡ get_or s (6 + j) 0
  pub row_count : (table_in s).n ≡ get_or s (6 + get_or s 5 0) 0
  pub rows : (i : ℕ) → i < get_or s (6 + get_or s 5 0) 0 →
      let at = 7 + get_or s 5 0 + 9 * i in
      get_or (table_in s).rows i zero_row
      ≡ record {
        tank = get_or s at 0 + 256 * get_or s (at + 1) 0;
        cost = get_or s (at + 2) 0 + 256 * get_or s (at + 3) 0;
        period = get_or s (at + 4) 0 + 256 * get_or s (at + 5) 0;
        phase = get_or s (at + 6) 0 + 256 * get_or s (at + 7) 0;
        kind = get_or s (at + 8) 0;
      }

-- Its rows are those below n, its boards those below M; "The sum of e·(L/p)" goes over the rows.
pub record ValueMeans (t : Table) : Type 0 where
  pub rows : rows_of t ≡ take t.n t.rows
  pub boards : boards_of t ≡ take t.cores t.boards
  pub no_load : (cycle : ℕ) → load cycle [] ≡ 0
  pub load_is : (cycle : ℕ) (row : Row) (rows : List Row) → load cycle (row ∷ rows) ≡ row.cost * (cycle / row.period) + load cycle rows

-- "A plain row is ready in slot t if t is at or past r of its next subtask. An early-release row is ready if t is at or past the start of the job that holds it";
-- "late at time t if its next subtask has d at or before t". With q quanta the next subtask is q + 1.
pub record RowMeans (row : Row) (q t : ℕ) : Type 0 where
  pub ready_plain : eqb row.kind 1 ≡ false → (ready row q t ≡ true) ↔ (row.phase + q * row.period / row.cost ≤ t)
  pub ready_early_release : eqb row.kind 1 ≡ true → (ready row q t ≡ true) ↔ (row.phase + q / row.cost * row.period ≤ t)
  pub late_is : (late row q t ≡ true) ↔ (row.phase + ((q + 1) * row.period + (row.cost - 1)) / row.cost ≤ t)

-- "Share": pd2 tests whole numbers; they are demand 3's limits, for every row with 0 < e ≤ p.
abbrev pub ShareMeans : Row → ℕ → ℕ → Type 0
ShareMeans row q t = 0 < row.cost → row.cost ≤ row.period → (within row q t ≡ true) ↔ InLimits row q t

-- The order looks at d, b and D of the next subtask, at whether the row is favoured, and at its number.
pub record OrderMeans (rows : List Row) (quanta : List ℕ) (j i : ℕ) : Type 0 where
  pub ready_is : (t : ℕ) → ready_in rows quanta t i ≡ ready (row_at rows i) (quanta_at quanta i) t
  pub rank_is : (row : Row) (q : ℕ) →
      rank_of row i q
      ≡ record {
        d = deadline row.cost row.period row.phase (q + 1);
        b = bit row.cost row.period (q + 1);
        D = group_deadline row.cost row.period row.phase (q + 1);
        favoured = false;
        row = i;
      }
  pub favour_is : (x : Rank) (favoured : Bool) → with_favour x favoured ≡ record { d = x.d; b = x.b; D = x.D; favoured = favoured; row = x.row }
  pub goes_before : (favours : ℕ → Bool) →
      goes_before_by before rows quanta favours j i
      ≡ before (with_favour (rank_of (row_at rows j) j (quanta_at quanta j)) (favours j)) (with_favour (rank_of (row_at rows i) i (quanta_at quanta i)) (favours i))

-- "A trace is well formed .. when its bytes give no cause for 40 to 43, 46 or 47 anywhere": the count, the records one behind the other, and nothing after them.
pub record Shaped (table : Table) (s : List ℕ) : Type 0 where
  pub slot_count : 4 ≤ length s
  pub limit : slots_in s ≤ 1_000_000_000
  pub heads : (t : ℕ) → t < slots_in s → place_in s t + 2 ≤ length s
  pub free : (t : ℕ) → t < slots_in s → get_or s (place_in s t) 0 ≤ table.cores
  pub picked : (t : ℕ) → t < slots_in s → get_or s (place_in s t + 1) 0 ≤ get_or s (place_in s t) 0
  pub whole : (t : ℕ) → t < slots_in s → place_in s t + 2 + get_or s (place_in s t + 1) 0 ≤ length s
  pub rows_below : (t j : ℕ) → t < slots_in s → j < length (rows_of_slot s t) → get_or (rows_of_slot s t) j 0 < length (rows_of table)
  pub rows_rise : (t i j : ℕ) → t < slots_in s → i < j → j < length (rows_of_slot s t) → get_or (rows_of_slot s t) i 0 < get_or (rows_of_slot s t) j 0
  pub end : length s ≤ place_in s (slots_in s)

pub record TraceMeans (s : List ℕ) : Type 0 where
  pub slots : slots_in s ≡ get_or s 0 0 + 256 * get_or s 1 0 + 65_536 * get_or s 2 0 + 16_777_216 * get_or s 3 0
  pub first : place_in s 0 ≡ 4
  pub next : (t : ℕ) → place_in s (t + 1) ≡ place_in s t + 2 + get_or s (place_in s t + 1) 0
  pub rows : (t : ℕ) → rows_of_slot s t ≡ take (get_or s (place_in s t + 1) 0) (drop (place_in s t + 2) s)
  pub well_formed : (table : Table) → WellFormed table s ↔ Shaped table s

-- 44 and 45: a row that was named and not ready, a row that is late, "for the lowest row", with the quanta that the records before have given it.
pub record NamedMeans (table : Table) (s : List ℕ) (t i : ℕ) : Type 0 where
  pub early_is : too_early table s t i ≡ names (rows_of_slot s t) i && not (ready (row_at (rows_of table) i) (times_named s i t) t)
  pub late_is : too_late table s t i ≡ late (row_at (rows_of table) i) (times_named s i t) t
  pub lowest_is : (is : ℕ → Bool) → i < length (rows_of table) → is i ≡ true → ((j : ℕ) → j < i → is j ≡ false) → lowest table is ≡ i

-- The record writer: "cores free k (1), rows picked c (1), and c row numbers", of the marked rows, or 34.
pub record WriteMeans (part : List ℕ) (free : ℕ) (marks : List Bool) : Type 0 where
  pub names_marked : (i : ℕ) → names (marked marks) i ≡ get_or marks i false
  pub record_is : record_of free (marked marks) ≡ free ∷ length (marked marks) ∷ marked marks
  pub written : length (record_of free (marked marks)) ≤ length part →
      let entry = record_of free (marked marks) in
      (write_number part entry ≡ 0) × (part_after part entry ≡ entry ++ drop (length entry) part)
  pub no_room : length part < length (record_of free (marked marks)) →
      let entry = record_of free (marked marks) in
      (write_number part entry ≡ 34) × (part_after part entry ≡ part)

-- The printer: the text at the front of the buffer, or nothing where it is too short.
pub record PrintMeans (input out : List ℕ) : Type 0 where
  pub printed : length (text_of input) ≤ length out →
      (printed_of input out ≡ Ok (length (text_of input))) × (out_after input out ≡ text_of input ++ drop (length (text_of input)) out)
  pub too_short : length out < length (text_of input) → (printed_of input out ≡ Err too_short) × (out_after input out ≡ out)

-- "A fresh state can be made from any table value: time 0, not stopped, all quanta 0"; it remembers no row ("fresh, none": 02, One)
abbrev pub FreshMeans : Table → Type 0
FreshMeans t =
    fresh_of t
    ≡ record {
      table = t;
      time = record { 0 = 0 };
      stopped = false;
      quanta = replicate 32 (record { 0 = 0 });
      last = record { count = 0; rows = replicate 8 0; cores = replicate 8 0 };
    }

-- "which row ran on which core in the last slot" (02, One), place by place of a memory; "The number of moves (a row picked in this slot and the one before, on another
-- core)": as many as the rows that ran, and not on their core.
pub record MemoryMeans (last : Placement) : Type 0 where
  pub ran_on_is : last.count ≤ 8 → (row core : ℕ) →
      (ran_on last row core ≡ true) ↔ ((i : ℕ) × (i < last.count) × (get_or last.rows i 0 ≡ row) × (get_or last.cores i 0 ≡ core))
  pub ran_before_is : last.count ≤ 8 → (row : ℕ) → (ran_before last row ≡ true) ↔ ((i : ℕ) × (i < last.count) × (get_or last.rows i 0 ≡ row))
  pub moves : (rows cores : List ℕ) → length cores ≡ length rows →
      moves last rows cores ≡ how_many (λ i. ran_before last (get_or rows i 0) && not (ran_on last (get_or rows i 0) (get_or cores i 0))) (length rows)

-- Slots one after the other, which only `zb_slots` of the speed bench promises.
pub record SlotsMean (s : State) (k : ℕ) (bytes : List ℕ) : Type 0 where
  pub none : slots_from s k bytes 0 ≡ record { state = s; bytes = bytes }
  pub one_more : (m : ℕ) →
      let left = slots_from s k bytes m in
      let after = slot_of left.state (first_cores k) left.bytes 0 in
      slots_from s k bytes (suc m) ≡ record { state = after.state; bytes = after.bytes }

-- Slots one after the other, each with its own number of free cores and an entry of its own, which only `zb_run` of the desk's command promises: as many as there are numbers,
-- and room for entries of 20 bytes. An entry has the record, the eight cores from place 10 on, the number and the row.
pub record RunMeans (s : State) (list bytes : List ℕ) : Type 0 where
  pub all : (table : List ℕ) → ran table list bytes ≡ run_from (fresh_of (reading table).table) list bytes (min (length list) (length bytes / 20))
  pub none : run_from s list bytes 0 ≡ record { state = s; bytes = bytes }
  pub one_more : (m : ℕ) →
      let left = run_from s list bytes m in
      let after = slot_of left.state (first_cores (get_or list m 0)) left.bytes (20 * m) in
      run_from s list bytes (suc m) ≡ record { state = after.state; bytes = entered after (20 * m) }
  pub entry : (given : SlotReply) (at : ℕ) →
      entered given at ≡ sets given.bytes (at + 10) (map (λ n. n % 256) given.placed.cores ++ (given.said.number % 256 ∷ given.said.row % 256 ∷ []))

-- The row and the time that a check names, which only `zb_judge` of the desk's command promises in bytes: one for the row, eight for the time.
abbrev pub PlaceMeans : Said → List ℕ → Type 0
PlaceMeans said bytes = place_of said bytes ≡ sets bytes 0 (said.row % 256 ∷ bytes_of 8 said.time)

pub record Meanings : Type 0 where
  pub window : (e p f i : ℕ) → WindowMeans e p f i
  pub table : (s : List ℕ) → TableMeans s
  pub value : (t : Table) → ValueMeans t
  pub row : (row : Row) (q t : ℕ) → RowMeans row q t
  pub share : (row : Row) (q t : ℕ) → ShareMeans row q t
  pub order : (rows : List Row) (quanta : List ℕ) (j i : ℕ) → OrderMeans rows quanta j i
  pub trace : (s : List ℕ) → TraceMeans s
  pub named : (table : Table) (s : List ℕ) (t i : ℕ) → NamedMeans table s t i
  pub write : (part : List ℕ) (free : ℕ) (marks : List Bool) → WriteMeans part free marks
  pub print : (input out : List ℕ) → PrintMeans input out
  pub fresh : (t : Table) → FreshMeans t
  pub memory : (last : Placement) → MemoryMeans last
  pub slots : (s : State) (k : ℕ) (bytes : List ℕ) → SlotsMean s k bytes
  pub run : (s : State) (list bytes : List ℕ) → RunMeans s list bytes
  pub place : (said : Said) (bytes : List ℕ) → PlaceMeans said bytes
