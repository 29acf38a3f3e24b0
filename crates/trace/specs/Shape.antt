-- The shape of a trace and of its records: the causes of 40 to 43, 46 and 47 (01, "What comes back"), for a table of M cores and n rows and the
-- bytes s of a trace.
use Rattle.std.specs.Prelude.{ℕ, ◌+◌, ◌<◌, ◌≡◌, List, [], ◌∷◌, Bool, false, not, ◌||◌, ◌↔◌, ltb, length, get_or}
use Rattle.facts.specs.Findings.{Finding, ◌says◌}
use Rattle.fields.specs.Fields.{shorter}
use Rattle.trace.specs.Records.{free_at, picked_at, rows_at, past_record, slots_in, place_in}
use Rattle.trace.specs.Said.{Said, bare}

-- "Slot count (4, at most 1,000,000,000)"
abbrev pub slot_limit : ℕ
slot_limit = 1_000_000_000

-- 47, "slot count above 1,000,000,000"
abbrev pub too_long : List ℕ → Bool
too_long s = ltb slot_limit (slots_in s)

-- 40, "trace ends inside its count or a record": before its count is there,
abbrev pub slot_count_cut : List ℕ → Bool
slot_count_cut s = shorter s 4

-- before the first two bytes of the record at a place are,
abbrev pub head_cut : List ℕ → ℕ → Bool
head_cut s place = shorter s (place + 2)

-- or before its rows are
abbrev pub rows_cut : List ℕ → ℕ → Bool
rows_cut s place = shorter s (past_record s place)

-- 41, "k above M", 42, "c above k"
abbrev pub too_many_cores : ℕ → List ℕ → ℕ → Bool
too_many_cores M s place = ltb M (free_at s place)

abbrev pub too_many_rows : List ℕ → ℕ → Bool
too_many_rows s place = ltb (free_at s place) (picked_at s place)

-- 43, "row number not below n, or not rising": the least that may stand next is one above the last
unfoldable pub bad_rows : ℕ → ℕ → List ℕ → Bool
bad_rows n least [] = false
bad_rows n least (row ∷ rows) = not (ltb row n) || ltb row least || bad_rows n (row + 1) rows

abbrev pub bad_row : ℕ → List ℕ → ℕ → Bool
bad_row n s place = bad_rows n 0 (rows_at s place)

-- "c row numbers rising strictly", each below n: row numbers are not bad exactly if they are so.
abbrev pub RisingExactly : Type 0
RisingExactly =
    (n : ℕ) (rows : List ℕ) →
    (bad_rows n 0 rows ≡ false)
    ↔ (((j : ℕ) → j < length rows → get_or rows j 0 < n) × ((i j : ℕ) → i < j → j < length rows → get_or rows i 0 < get_or rows j 0))

-- 46, "bytes after the last record"
abbrev pub extra : List ℕ → Bool
extra s = ltb (place_in s (slots_in s)) (length s)

-- "and for each record 40 (its first two bytes), 41, 42, 40 (its rows), 43 ..": what is looked for in the shape of the record at a place,
-- for a table of M cores and n rows
abbrev pub shape_at : ℕ → ℕ → List ℕ → ℕ → List (Finding Said)
shape_at M n s place =
    (head_cut s place says bare 40)
    ∷ (too_many_cores M s place says bare 41)
    ∷ (too_many_rows s place says bare 42)
    ∷ (rows_cut s place says bare 40)
    ∷ (bad_row n s place says bare 43)
    ∷ []

-- The record at a place gives no cause for 40 to 43.
pub record SoundRecord (M n : ℕ) (s : List ℕ) (place : ℕ) : Type 0 where
  pub head : head_cut s place ≡ false
  pub cores : too_many_cores M s place ≡ false
  pub picked : too_many_rows s place ≡ false
  pub rows : rows_cut s place ≡ false
  pub numbers : bad_row n s place ≡ false

-- "A trace is well formed .. when its bytes give no cause for 40 to 43, 46 or 47 anywhere, leaving 44 and 45 aside": of the table only its cores
-- and how many rows it has are asked for.
pub record WellFormedFor (M n : ℕ) (s : List ℕ) : Type 0 where
  pub slot_count : slot_count_cut s ≡ false
  pub limit : too_long s ≡ false
  pub records : (t : ℕ) → t < slots_in s → SoundRecord M n s (place_in s t)
  pub end : extra s ≡ false
