-- Fields, rows and whole tables in bytes: each is read as it was written, and written as it was read. Assumes nothing.
use Prim.Native.Nat.{ℕ, ◌+◌, ◌*◌, ◌/◌, ◌%◌, ◌≤◌, ◌<◌}
use mathlib.Core.Path.{◌≡◌, refl, ap, ◌∙◌}
use mathlib.Core.List.{List, [], ◌++◌, flat_map}
use mathlib.Core.Bool.{true}
use native.Mathlib.Nat.{mod-eq_of_lt}
use native.Mathlib.Omega.{arith}
use lib.ListN.{length, take, drop, length-append}
use lib.Seq.{get_or-append-add, take-length}
use Rattle.facts.specs.Below.{all_below}
use Rattle.facts.proofs.Joining.{parts_joined, joined_long, joined_are_written}
use Rattle.facts.proofs.Places.{first_are_read}
use Rattle.fields.specs.Fields.{byte, half, bytes_of}
use Rattle.fields.proofs.Numbers.{bytes_long, written_is_read, read_is_written, fields_are_numbers}
use Rattle.table.specs.declared.Row.{Row}
use Rattle.table.specs.declared.Table.{Table}
use Rattle.table.specs.Limits.{core_limit, row_limit}
use Rattle.table.specs.Causes.{zero_row}
use Rattle.table.specs.Value.{boards_of, rows_of}
use Rattle.table.specs.Bytes.{cores_in, row_count_in, rows_place, row_in_bytes, table_number, table_in}
use Rattle.table.specs.Fits.{row_fits}
use Rattle.table.specs.Writing.{bytes_of_row, bytes_of_table}
use Rattle.table.proofs.Fits.{row_numbers}
use Rattle.table.proofs.Faultless.{taken_is_as_long}

-- how many bytes there are

pub row_is_nine : (row : Row) → length (bytes_of_row row) ≡ 9
unfolding bytes_of_row bytes_of
row_is_nine row = refl

pub table_is_long : (t : Table) → length (bytes_of_table t) ≡ 7 + length (boards_of t) + 9 * length (rows_of t)
unfolding bytes_of_table bytes_of
table_is_long t =
    let boards = flat_map (bytes_of 1) (boards_of t) in
    let rows = flat_map bytes_of_row (rows_of t) in
    omega (
      arith,
      length-append (boards ++ bytes_of 1 t.n) rows,
      length-append boards (bytes_of 1 t.n),
      joined_long (bytes_of 1) 1 (bytes_long 1) (boards_of t),
      joined_long bytes_of_row 9 row_is_nine (rows_of t),
    )

-- what is written is read

-- a field of one byte,
pub byte_is_read : (front rest : List ℕ) (n : ℕ) → n < 256 → byte (front ++ (bytes_of 1 n ++ rest)) (length front) ≡ n
byte_is_read front rest n h = fields_are_numbers.one (front ++ (bytes_of 1 n ++ rest)) (length front) ∙ written_is_read 1 n h front rest

-- of two,
two_bytes : (n : ℕ) → n < 65_536 → n % 256 + 256 * (n / 256 % 256) ≡ n
unfolding bytes_of
two_bytes n h = fields_are_numbers.two (bytes_of 2 n) 0 ∙ written_is_read 2 n h [] []

-- a row at the front,
row_in_front : (row : Row) (rest : List ℕ) → row_fits row ≡ true → row_in_bytes (bytes_of_row row ++ rest) 0 ≡ row
unfolding bytes_of_row bytes_of
row_in_front row rest fits =
    let small = row_numbers row fits in
    let tank = two_bytes row.tank small.tank in
    let cost = two_bytes row.cost small.cost in
    let period = two_bytes row.period small.period in
    let phase = two_bytes row.phase small.phase in
    let kind = mod-eq_of_lt small.kind in
    λ z. record { tank = tank z; cost = cost z; period = period z; phase = phase z; kind = kind z }

-- a field and a row behind a front,
half_behind : (front s : List ℕ) (k : ℕ) → half (front ++ s) (length front + k) ≡ half s k
half_behind front s k =
    omega (
      arith,
      get_or-append-add front s k 0,
      ap (byte (front ++ s)) {x = length front + k + 1} {y = length front + (k + 1)} (omega arith),
      get_or-append-add front s (k + 1) 0,
    )

row_behind : (front s : List ℕ) → row_in_bytes (front ++ s) (length front) ≡ row_in_bytes s 0
row_behind front s =
    let tank : half (front ++ s) (length front) ≡ half s 0 = ap (half (front ++ s)) {x = length front} {y = length front + 0} (omega arith) ∙ half_behind front s 0 in
    let cost = half_behind front s 2 in
    let period = half_behind front s 4 in
    let phase = half_behind front s 6 in
    let kind = get_or-append-add front s 8 0 in
    λ z. record { tank = tank z; cost = cost z; period = period z; phase = phase z; kind = kind z }

-- and so a row wherever it stands.
pub row_is_read : (front rest : List ℕ) (row : Row) → row_fits row ≡ true → row_in_bytes (front ++ (bytes_of_row row ++ rest)) (length front) ≡ row
row_is_read front rest row fits = row_behind front (bytes_of_row row ++ rest) ∙ row_in_front row rest fits

-- what is read is written

module _ (s : List ℕ) (bytes : all_below 256 s ≡ true) where
  -- a field of one byte,
  byte_is_written : (i : ℕ) → i + 1 ≤ length s → bytes_of 1 (byte s i) ≡ take 1 (drop i s)
  byte_is_written i h = ap (bytes_of 1) (fields_are_numbers.one s i) ∙ read_is_written s bytes 1 i h

  -- of two,
  half_is_written : (i : ℕ) → i + 2 ≤ length s → bytes_of 2 (half s i) ≡ take 2 (drop i s)
  half_is_written i h = ap (bytes_of 2) (fields_are_numbers.two s i) ∙ read_is_written s bytes 2 i h

  -- a row,
  row_is_written : (i : ℕ) → i + 9 ≤ length s → bytes_of_row (row_in_bytes s i) ≡ take 9 (drop i s)
  unfolding bytes_of_row
  row_is_written i h =
      let tank = half_is_written i (omega arith) in
      let cost = parts_joined s i 2 2 tank (half_is_written (i + 2) (omega arith)) refl in
      let period = parts_joined s i 4 2 cost (half_is_written (i + 4) (omega arith)) refl in
      let phase = parts_joined s i 6 2 period (half_is_written (i + 6) (omega arith)) refl in
      parts_joined s i 8 1 phase (byte_is_written (i + 8) (omega arith)) refl

  -- and so the bytes of a table that is taken.
  pub table_is_written : table_number s ≡ 0 → bytes_of_table (table_in s) ≡ s
  unfolding bytes_of_table
  table_is_written taken =
      let m = cores_in s in
      let n = row_count_in s in
      let long = taken_is_as_long s taken in
      let format = byte_is_written 0 (omega arith) in
      let word_is = ap (bytes_of 4) (fields_are_numbers.four s 1) ∙ read_is_written s bytes 4 1 (omega arith) in
      let cycle = parts_joined s 0 1 4 format word_is refl in
      let cores = parts_joined s 0 5 1 cycle (byte_is_written 5 (omega arith)) refl in
      let boards_are = ap (flat_map (bytes_of 1)) (first_are_read (byte s) 0 core_limit 6 1 m) ∙ joined_are_written (bytes_of 1) 1 s (byte s) byte_is_written 6 m (omega arith) in
      let boards = parts_joined s 0 6 (1 * m) cores boards_are refl in
      let count = parts_joined s 0 (6 + 1 * m) 1 {j = 6 + m} boards (byte_is_written (6 + m) (omega arith)) (omega arith) in
      let rows_are = ap (flat_map bytes_of_row) (first_are_read (row_in_bytes s) zero_row row_limit (rows_place s) 9 n) ∙ joined_are_written bytes_of_row 9 s (row_in_bytes s) row_is_written (rows_place s) n (omega arith) in
      let rows = parts_joined s 0 (6 + 1 * m + 1) (9 * n) {j = rows_place s} count rows_are (omega arith) in
      rows ∙ (ap (λ k. take k s) {x = 6 + 1 * m + 1 + 9 * n} {y = length s} (omega arith) ∙ take-length s)
