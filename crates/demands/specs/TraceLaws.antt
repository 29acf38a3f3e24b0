-- Laws of the trace in bytes and of its check (01, "The trace, in bytes", "What comes back"): part of specs/Laws.antt.
use Rattle.std.specs.Prelude.{List, [], ◌∷◌, ◌++◌, take, drop, replicate}
use Rattle.fields.specs.Fields.{bytes_of}
use Rattle.table.specs.Example.{example}
use Rattle.trace.specs.Said.{bare, named}
use Rattle.demands.specs.Bench.{example_trace}
use Rattle.demands.specs.Law.{Law, part, check}
use Rattle.demands.specs.LawInputs.{front, row_bytes, half_and_third_bytes, camera_and_other_bytes}

-- "Asked for slot s, the trace hands back the record itself .. It is found exactly if the 4 count bytes are there, s is below the count, and the records of
-- slots 0 to s lie wholly inside; their contents are not judged. Otherwise the part handed back has length 0 and begins at 0."
abbrev pub part_laws : List Law
part_laws =
    part example_trace 0 4 (2 ∷ 2 ∷ 0 ∷ 1 ∷ [])
    ∷ part example_trace 2 12 (2 ∷ 2 ∷ 1 ∷ 2 ∷ [])
    ∷ part example_trace 3 0 []
    ∷ part (bytes_of 4 2 ++ drop 4 example_trace) 2 0 []
    ∷ part (take 15 example_trace) 2 0 []
    ∷ part (take 15 example_trace) 1 8 (2 ∷ 2 ∷ 0 ∷ 2 ∷ [])
    ∷ part (9 ∷ 0 ∷ 0 ∷ 0 ∷ 255 ∷ 3 ∷ 7 ∷ 7 ∷ 0 ∷ 1 ∷ 0 ∷ []) 1 9 (1 ∷ 0 ∷ [])
    ∷ part (1 ∷ 0 ∷ 0 ∷ []) 0 0 []
    ∷ []

-- 40 to 47 of a trace
abbrev pub trace_laws : List Law
trace_laws =
    -- a trace that passes, with k other than c; no slots at all
    check half_and_third_bytes (bytes_of 4 3 ++ (2 ∷ 2 ∷ 0 ∷ 1 ∷ 2 ∷ 0 ∷ 2 ∷ 1 ∷ 0 ∷ [])) (bare 0)
    ∷ check half_and_third_bytes (bytes_of 4 0) (bare 0)
    -- "judges the table first and answers its refusal without reading the trace"
    ∷ check [] [] (bare 10)
    ∷ check (0 ∷ []) (bytes_of 4 1) (bare 11)
    -- 40, "trace ends inside its count or a record": no count, no first two bytes, no rows
    ∷ check half_and_third_bytes [] (bare 40)
    ∷ check half_and_third_bytes (0 ∷ 0 ∷ 0 ∷ []) (bare 40)
    ∷ check half_and_third_bytes (bytes_of 4 1) (bare 40)
    ∷ check half_and_third_bytes (bytes_of 4 1 ++ (2 ∷ [])) (bare 40)
    ∷ check half_and_third_bytes (bytes_of 4 1 ++ (2 ∷ 2 ∷ 0 ∷ [])) (bare 40)
    ∷ check half_and_third_bytes (bytes_of 4 2 ++ (2 ∷ 2 ∷ 0 ∷ 1 ∷ [])) (bare 40)
    ∷ check example (take 15 example_trace) (bare 40)
    -- 41, "k above M"
    ∷ check half_and_third_bytes (bytes_of 4 1 ++ (3 ∷ 2 ∷ 0 ∷ 1 ∷ [])) (bare 41)
    ∷ check half_and_third_bytes (bytes_of 4 2 ++ (2 ∷ 2 ∷ 0 ∷ 1 ∷ 3 ∷ 0 ∷ [])) (bare 41)
    ∷ check (front 1 (0 ∷ []) ++ (0 ∷ [])) (bytes_of 4 41 ++ (replicate 80 0 ++ (2 ∷ 0 ∷ []))) (bare 41)
    -- 42, "c above k"
    ∷ check half_and_third_bytes (bytes_of 4 2 ++ (2 ∷ 2 ∷ 0 ∷ 1 ∷ 0 ∷ 1 ∷ 0 ∷ [])) (bare 42)
    ∷ check half_and_third_bytes (bytes_of 4 1 ++ (1 ∷ 2 ∷ 0 ∷ 1 ∷ [])) (bare 42)
    -- 43, "row number not below n, or not rising"
    ∷ check half_and_third_bytes (bytes_of 4 1 ++ (2 ∷ 2 ∷ 0 ∷ 2 ∷ [])) (bare 43)
    ∷ check half_and_third_bytes (bytes_of 4 1 ++ (2 ∷ 2 ∷ 0 ∷ 0 ∷ [])) (bare 43)
    ∷ check half_and_third_bytes (bytes_of 4 1 ++ (2 ∷ 2 ∷ 1 ∷ 0 ∷ [])) (bare 43)
    ∷ check (front 3 (0 ∷ 1 ∷ 2 ∷ []) ++ (3 ∷ row_bytes 0 2 3 0 0 ++ row_bytes 1 2 3 0 0 ++ row_bytes 2 2 3 0 0)) (bytes_of 4 1 ++ (3 ∷ 3 ∷ 0 ∷ 2 ∷ 1 ∷ [])) (bare 43)
    -- 44, "quantum before its row was ready (row, slot)", "for the lowest row"
    ∷ check half_and_third_bytes (bytes_of 4 2 ++ (2 ∷ 2 ∷ 0 ∷ 1 ∷ 2 ∷ 1 ∷ 1 ∷ [])) (named 44 1 1)
    ∷ check half_and_third_bytes (bytes_of 4 2 ++ (2 ∷ 2 ∷ 0 ∷ 1 ∷ 2 ∷ 2 ∷ 0 ∷ 1 ∷ [])) (named 44 0 1)
    ∷ check (front 3 (0 ∷ 1 ∷ 2 ∷ []) ++ (3 ∷ row_bytes 0 2 3 0 0 ++ row_bytes 1 2 3 0 0 ++ row_bytes 2 2 3 0 0)) (bytes_of 4 3 ++ (3 ∷ 3 ∷ 0 ∷ 1 ∷ 2 ∷ 3 ∷ 3 ∷ 0 ∷ 1 ∷ 2 ∷ 3 ∷ 2 ∷ 1 ∷ 2 ∷ [])) (named 44 1 2)
    -- 45, "row late (row, time)", "for the lowest late row at the slot's end"
    ∷ check half_and_third_bytes (bytes_of 4 3 ++ (1 ∷ 1 ∷ 0 ∷ 0 ∷ 0 ∷ 0 ∷ 0 ∷ [])) (named 45 1 3)
    ∷ check (front 3 (0 ∷ []) ++ (2 ∷ row_bytes 0 1 3 0 0 ++ row_bytes 1 1 3 0 0)) (bytes_of 4 3 ++ replicate 6 0) (named 45 0 3)
    -- a row of phase 4 from bytes, and one of early release
    ∷ check (front 6 (0 ∷ 1 ∷ []) ++ (2 ∷ row_bytes 3 2 3 4 0 ++ row_bytes 5 2 6 0 1)) (bytes_of 4 2 ++ (2 ∷ 1 ∷ 1 ∷ 2 ∷ 1 ∷ 1 ∷ [])) (bare 0)
    ∷ check (front 6 (0 ∷ 1 ∷ []) ++ (2 ∷ row_bytes 3 2 3 4 0 ++ row_bytes 5 2 6 0 0)) (bytes_of 4 2 ++ (2 ∷ 1 ∷ 1 ∷ 2 ∷ 1 ∷ 1 ∷ [])) (named 44 1 1)
    ∷ check (front 6 (0 ∷ 1 ∷ []) ++ (2 ∷ row_bytes 3 2 3 4 0 ++ row_bytes 5 2 6 0 1)) (bytes_of 4 1 ++ (2 ∷ 1 ∷ 0 ∷ [])) (named 44 0 0)
    ∷ check (front 6 (0 ∷ []) ++ (1 ∷ row_bytes 0 2 6 3 1)) (bytes_of 4 1 ++ (1 ∷ 1 ∷ 0 ∷ [])) (named 44 0 0)
    -- a row with e = p (02, Six), beside one of 2/3: in every slot, one slot missed, and before its phase
    ∷ check camera_and_other_bytes (bytes_of 4 2 ++ (2 ∷ 2 ∷ 0 ∷ 1 ∷ 2 ∷ 2 ∷ 0 ∷ 1 ∷ [])) (bare 0)
    ∷ check camera_and_other_bytes (bytes_of 4 2 ++ (2 ∷ 2 ∷ 0 ∷ 1 ∷ 1 ∷ 1 ∷ 1 ∷ [])) (named 45 0 2)
    ∷ check (front 5 (0 ∷ []) ++ (1 ∷ row_bytes 0 5 5 2 1)) (bytes_of 4 2 ++ (1 ∷ 0 ∷ 1 ∷ 1 ∷ 0 ∷ [])) (named 44 0 1)
    -- 46, "bytes after the last record"
    ∷ check example (example_trace ++ (0 ∷ [])) (bare 46)
    ∷ check half_and_third_bytes (bytes_of 4 0 ++ (0 ∷ [])) (bare 46)
    -- 47, "slot count above 1,000,000,000": "Each trace still covers at most 1,000,000,000 slots" (02, Seven)
    ∷ check half_and_third_bytes (bytes_of 4 1_000_000_000) (bare 40)
    ∷ check half_and_third_bytes (bytes_of 4 1_000_000_001) (bare 47)
    ∷ check half_and_third_bytes (bytes_of 4 4_294_967_295) (bare 47)
    -- "40 for the count, 47, and for each record 40 (its first two bytes), 41, 42, 40 (its rows), 43, 44 .., and 45 .. Last 46": 40 and 41, 41 and 42, 42 and
    -- 40, 40 and 43, 43 and 44, 44 and 45, 45 and 40 of the next record, 45 and 46
    ∷ check half_and_third_bytes (bytes_of 4 1 ++ (3 ∷ [])) (bare 40)
    ∷ check half_and_third_bytes (bytes_of 4 1 ++ (3 ∷ 4 ∷ 0 ∷ 0 ∷ 0 ∷ 0 ∷ [])) (bare 41)
    ∷ check half_and_third_bytes (bytes_of 4 1 ++ (1 ∷ 2 ∷ 0 ∷ [])) (bare 42)
    ∷ check half_and_third_bytes (bytes_of 4 1 ++ (2 ∷ 2 ∷ 9 ∷ [])) (bare 40)
    ∷ check half_and_third_bytes (bytes_of 4 2 ++ (2 ∷ 1 ∷ 0 ∷ 2 ∷ 2 ∷ 0 ∷ 2 ∷ [])) (bare 43)
    ∷ check (front 12 (0 ∷ 1 ∷ []) ++ (2 ∷ row_bytes 0 1 2 0 0 ++ row_bytes 1 1 4 0 0)) (bytes_of 4 2 ++ (2 ∷ 1 ∷ 1 ∷ 2 ∷ 1 ∷ 1 ∷ [])) (named 44 1 1)
    ∷ check half_and_third_bytes (bytes_of 4 4 ++ (1 ∷ 1 ∷ 0 ∷ 0 ∷ 0 ∷ 0 ∷ 0 ∷ [])) (named 45 1 3)
    ∷ check half_and_third_bytes (bytes_of 4 3 ++ (1 ∷ 1 ∷ 0 ∷ 0 ∷ 0 ∷ 0 ∷ 0 ∷ 99 ∷ [])) (named 45 1 3)
    ∷ []
