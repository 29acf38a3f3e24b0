-- The trace check (01, "What comes back"): "The checker judges the table first and answers its refusal without reading the trace. Then the
-- trace from the front".
use Rattle.std.specs.Prelude.{ℕ, zero, suc, ◌+◌, List, [], ◌∷◌, length}
use Rattle.facts.specs.Zero.{if0}
use Rattle.facts.specs.Findings.{Finding, ◌says◌, ◌then◌, first_found}
use Rattle.table.specs.declared.Table.{Table}
use Rattle.table.specs.Value.{rows_of}
use Rattle.table.specs.Bytes.{table_number, table_in}
use Rattle.trace.specs.Records.{slots_in, place_in}
use Rattle.trace.specs.Said.{Said, bare, named}
use Rattle.checker.specs.Causes.{slot_count_cut, too_long, head_cut, too_many_cores, too_many_rows, rows_cut, bad_row, too_early, too_late, lowest, any_row, extra}

-- "and for each record 40 (its first two bytes), 41, 42, 40 (its rows), 43 ..": what is looked for in the shape of the record at a place,
-- for a table of M cores and n rows
abbrev pub shape_at : ℕ → ℕ → List ℕ → ℕ → List (Finding Said)
shape_at M n s place =
    (head_cut s place says bare 40)
    ∷ (too_many_cores M s place says bare 41)
    ∷ (too_many_rows s place says bare 42)
    ∷ (rows_cut s place says bare 40)
    ∷ (bad_row n s place says bare 43)
    ∷ []

-- ".. 44 for the lowest row, and 45 for the lowest late row at the slot's end": what is looked for in slot t
abbrev pub time_findings : Table → List ℕ → ℕ → List (Finding Said)
time_findings table s t =
    (any_row table (too_early table s t) says named 44 (lowest table (too_early table s t)) t)
    ∷ (any_row table (too_late table s (t + 1)) says named 45 (lowest table (too_late table s (t + 1))) (t + 1))
    ∷ []

-- both, for the record of slot t
abbrev pub record_findings : Table → List ℕ → ℕ → List (Finding Said)
record_findings table s t = shape_at table.cores (length (rows_of table)) s (place_in s t) then time_findings table s t

-- in the records of m slots from slot t on
unfoldable pub records_findings : Table → List ℕ → ℕ → ℕ → List (Finding Said)
records_findings table s t zero = []
records_findings table s t (suc m) =
    let later = records_findings table s (t + 1) m in
    record_findings table s t then later

-- "40 for the count, 47 ..": before the records
abbrev pub slot_count_findings : List ℕ → List (Finding Said)
slot_count_findings s = (slot_count_cut s says bare 40) ∷ (too_long s says bare 47) ∷ []

-- "Last 46."
abbrev pub last_findings : List ℕ → List (Finding Said)
last_findings s = (extra s says bare 46) ∷ []

-- all that is looked for in a trace, in order
abbrev pub trace_findings : Table → List ℕ → List (Finding Said)
trace_findings table s = slot_count_findings s then records_findings table s 0 (slots_in s) then last_findings s

unfoldable pub trace_said : Table → List ℕ → Said
trace_said table s = first_found (bare 0) (trace_findings table s)

-- "judges the table first and answers its refusal without reading the trace"
abbrev pub check_by : ℕ → List ℕ → List ℕ → Said
check_by number table_bytes s = let judged = trace_said (table_in table_bytes) s in if0 number judged (bare number)

unfoldable pub check_of : List ℕ → List ℕ → Said
check_of table_bytes s = check_by (table_number table_bytes) table_bytes s
