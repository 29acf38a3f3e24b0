-- The causes of 40 to 47 (01, "What comes back"), for a table that is taken and the bytes s of a trace.
use Rattle.std.specs.Prelude.{ℕ, ◌+◌, ◌<◌, ◌≡◌, List, [], ◌∷◌, Bool, false, not, ◌&&◌, ◌||◌, ◌↔◌, ltb, length, get_or}
use Rattle.facts.specs.Counting.{some, those}
use Rattle.fields.specs.Fields.{shorter}
use Rattle.table.specs.declared.Table.{Table}
use Rattle.table.specs.Value.{rows_of}
use Rattle.pd2.specs.Ready.{ready, late}
use Rattle.pd2.specs.Choice.{row_at}
use Rattle.trace.specs.Records.{free_at, picked_at, rows_at, past_record, names, slots_in, place_in, rows_of_slot, times_named}

-- "Slot count (4, at most 1,000,000,000)"
abbrev pub slot_limit : ℕ
slot_limit = 1_000_000_000

-- 47, "slot count above 1,000,000,000"
abbrev pub too_long : List ℕ → Bool
too_long s = ltb slot_limit (slots_in s)

-- 40, "trace ends inside its count or a record": before its count is there,
abbrev pub slot_count_cut : List ℕ → Bool
slot_count_cut s = shorter s 4

-- before the first two bytes of the record at a place are,
abbrev pub head_cut : List ℕ → ℕ → Bool
head_cut s place = shorter s (place + 2)

-- or before its rows are
abbrev pub rows_cut : List ℕ → ℕ → Bool
rows_cut s place = shorter s (past_record s place)

-- 41, "k above M", 42, "c above k"
abbrev pub too_many_cores : ℕ → List ℕ → ℕ → Bool
too_many_cores M s place = ltb M (free_at s place)

abbrev pub too_many_rows : List ℕ → ℕ → Bool
too_many_rows s place = ltb (free_at s place) (picked_at s place)

-- 43, "row number not below n, or not rising": the least that may stand next is one above the last
unfoldable pub bad_rows : ℕ → ℕ → List ℕ → Bool
bad_rows n least [] = false
bad_rows n least (row ∷ rows) = not (ltb row n) || ltb row least || bad_rows n (row + 1) rows

abbrev pub bad_row : ℕ → List ℕ → ℕ → Bool
bad_row n s place = bad_rows n 0 (rows_at s place)

-- "c row numbers rising strictly", each below n: row numbers are not bad exactly if they are so.
abbrev pub RisingExactly : Type 0
RisingExactly =
    (n : ℕ) (rows : List ℕ) →
    (bad_rows n 0 rows ≡ false)
    ↔ (((j : ℕ) → j < length rows → get_or rows j 0 < n) × ((i j : ℕ) → i < j → j < length rows → get_or rows i 0 < get_or rows j 0))

-- 44, "quantum before its row was ready (row, slot)": row i is named in slot t and was not ready
abbrev pub too_early : Table → List ℕ → ℕ → ℕ → Bool
too_early table s t i = names (rows_of_slot s t) i && not (ready (row_at (rows_of table) i) (times_named s i t) t)

-- 45, "row late (row, time)": row i is late at time t
abbrev pub too_late : Table → List ℕ → ℕ → ℕ → Bool
too_late table s t i = late (row_at (rows_of table) i) (times_named s i t) t

-- the lowest row that is so, if any is
abbrev pub lowest : Table → (ℕ → Bool) → ℕ
lowest table is = get_or (those is (length (rows_of table))) 0 0

abbrev pub any_row : Table → (ℕ → Bool) → Bool
any_row table is = some is (length (rows_of table))

-- 46, "bytes after the last record"
abbrev pub extra : List ℕ → Bool
extra s = ltb (place_in s (slots_in s)) (length s)
