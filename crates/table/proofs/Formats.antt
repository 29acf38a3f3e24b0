-- A table in format 2 has the bytes of format 1. Assumes nothing.
use Prim.Native.Nat.{ℕ, zero, suc, ◌+◌, ◌≤◌}
use mathlib.Core.Path.{◌≡◌, refl}
use mathlib.Core.List.{List, ◌∷◌, map}
use native.Mathlib.Nat.{not-suc-le-zero, mod-eq_of_lt}
use native.Mathlib.Omega.{arith}
use Rattle.facts.specs.Findings.{Test, first_found}
use Rattle.facts.specs.Rising.{rising}
use Rattle.facts.specs.Places.{places, padded}
use Rattle.fields.specs.Fields.{byte, half, bytes_of}
use Rattle.table.specs.declared.Table.{Table}
use Rattle.table.specs.Causes.{cut, board_tests, board_above, row_tests, tank_above}
use Rattle.table.specs.Value.{fault_of}
use Rattle.table.specs.Bytes.{cycle_in, cores_in, row_count_place, row_count_in, rows_place, row_in_bytes, board_places, row_places, boards_tests_in, rows_tests_in, table_number}
use Rattle.table.specs.Writing.{bytes_of_table}
use Rattle.table.specs.Formats.{ReadsAlike, WritesAlike, KeepsTheBytes}

-- What reads alike from place 1 on
module _ {A : Type 0} (read other : ℕ → A) (alike : (i : ℕ) → 1 ≤ i → read i ≡ other i) (step : ℕ) where
  -- reads the same at places that stand there,
  same_read : (from n : ℕ) → 1 ≤ from → map read (places from step n) ≡ map other (places from step n)
  unfolding places
  same_read from zero h = refl
  same_read from (suc n) h = rw (alike from h, same_read (from + step) n (omega arith))

  -- and is tested the same there.
  same_tests : (tests : ℕ → ℕ → A → List Test) (above : A → ℕ) (least from n : ℕ) → 1 ≤ from →
      rising (λ low i. tests low i (read i)) (λ i. above (read i)) least (places from step n)
      ≡ rising (λ low i. tests low i (other i)) (λ i. above (other i)) least (places from step n)
  unfolding places rising
  same_tests tests above least from zero h = refl
  same_tests tests above least from (suc n) h = rw (alike from h, same_tests tests above (above (other from)) (from + step) n (omega arith))

module _ (rest : List ℕ) where
  -- From place 1 on the bytes are the same,
  same_byte : (i : ℕ) → 1 ≤ i → byte (2 ∷ rest) i ≡ byte (1 ∷ rest) i
  same_byte zero h = absurd (not-suc-le-zero h)
  same_byte (suc i) h = refl

  -- the numbers in two of them,
  same_half : (i : ℕ) → 1 ≤ i → half (2 ∷ rest) i ≡ half (1 ∷ rest) i
  same_half i h = rw (same_byte i h, same_byte (i + 1) (omega arith))

  -- and the rows.
  same_row : (i : ℕ) → 1 ≤ i → row_in_bytes (2 ∷ rest) i ≡ row_in_bytes (1 ∷ rest) i
  same_row i h =
      rw (same_half i h, same_half (i + 2) (omega arith), same_half (i + 4) (omega arith), same_half (i + 6) (omega arith), same_byte (i + 8) (omega arith))

  -- So the row count is the same,
  same_row_count : row_count_in (2 ∷ rest) ≡ row_count_in (1 ∷ rest)
  same_row_count = same_byte (row_count_place (1 ∷ rest)) (omega arith)

  -- all board numbers,
  same_boards : map (byte (2 ∷ rest)) (board_places (2 ∷ rest)) ≡ map (byte (1 ∷ rest)) (board_places (1 ∷ rest))
  same_boards = same_read (byte (2 ∷ rest)) (byte (1 ∷ rest)) same_byte 1 6 (cores_in (1 ∷ rest)) (omega arith)

  -- all tests of board numbers,
  same_boards_tests : boards_tests_in (2 ∷ rest) ≡ boards_tests_in (1 ∷ rest)
  same_boards_tests =
      same_tests (byte (2 ∷ rest)) (byte (1 ∷ rest)) same_byte 1 (λ least i board. cut (1 ∷ rest) (i + 1) ∷ board_tests least board) board_above
      0 6 (cores_in (1 ∷ rest)) (omega arith)

  -- all rows,
  same_rows : map (row_in_bytes (2 ∷ rest)) (row_places (2 ∷ rest)) ≡ map (row_in_bytes (1 ∷ rest)) (row_places (1 ∷ rest))
  same_rows =
      rw same_row_count (same_read (row_in_bytes (2 ∷ rest)) (row_in_bytes (1 ∷ rest)) same_row 9 (rows_place (1 ∷ rest)) (row_count_in (1 ∷ rest)) (omega arith))

  -- and all tests of rows.
  same_rows_tests : rows_tests_in (2 ∷ rest) ≡ rows_tests_in (1 ∷ rest)
  same_rows_tests =
      rw same_row_count
      (same_tests (row_in_bytes (2 ∷ rest)) (row_in_bytes (1 ∷ rest)) same_row 9
      (λ least i row. cut (1 ∷ rest) (i + 9) ∷ row_tests (cycle_in (1 ∷ rest)) least row) tank_above
      0 (rows_place (1 ∷ rest)) (row_count_in (1 ∷ rest)) (omega arith))

  -- What is read is the same but for the format.
  read_alike : ReadsAlike rest
  unfolding table_number padded
  read_alike = record { number = rw (same_boards_tests, same_rows_tests, same_rows, same_row_count); table = rw (same_boards, same_rows, same_row_count) }

-- What is written is the same but for the format too.
written_alike : (t : Table) → WritesAlike t
unfolding bytes_of_table bytes_of fault_of first_found
written_alike t = record { first = λ format l. mod-eq_of_lt l; rest = refl; fault = refl }

-- So format 2 keeps the bytes of format 1.
pub keeps_the_bytes : KeepsTheBytes
keeps_the_bytes = record { read = read_alike; written = written_alike }
