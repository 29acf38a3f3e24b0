-- What is written reads back as the same table and is refused as the reader would; what reads back and is written gives the same bytes. Assumes nothing.
use Prim.Native.Nat.{ℕ, ◌+◌, ◌*◌, ◌≤◌, ◌<◌}
use mathlib.Core.Path.{◌≡◌, refl, sym, ap, ◌∙◌}
use mathlib.Core.List.{List, [], ◌++◌, map, flat_map, append-nil, append_assoc}
use mathlib.Core.Bool.{true}
use native.Mathlib.Nat.{mod-eq_of_lt}
use native.Mathlib.Omega.{arith}
use borrow.Author.Tests.{le-ltb, ltb-false}
use lib.ListN.{length, get_or, drop, length-append}
use lib.Seq.{get_or-take, length-take-le, take-append_seam}
use Rattle.facts.specs.Findings.{first_found, NoneFound}
use Rattle.facts.specs.Rising.{rising}
use Rattle.facts.specs.Places.{places}
use Rattle.facts.proofs.Findings.{Alike, alike_without, alike_in_turn}
use Rattle.facts.proofs.Rising.{tested_as_read}
use Rattle.facts.proofs.Places.{first_are_read}
use Rattle.facts.proofs.Joining.{joined_long, joined_are_read}
use Rattle.fields.specs.Fields.{byte, bytes_of}
use Rattle.fields.proofs.Numbers.{bytes_long, written_is_read, fields_are_numbers}
use Rattle.table.specs.declared.Table.{Table}
use Rattle.table.specs.Limits.{core_limit, row_limit}
use Rattle.table.specs.Causes.{zero_row, board_tests, board_above, row_tests, tank_above}
use Rattle.table.specs.Value.{boards_of, rows_of, front_tests, boards_tests, row_count_tests, rows_tests, sum_tests, fault_of}
use Rattle.table.specs.Bytes.{format_in, cycle_in, cores_in, row_count_in, rows_place, row_places, row_in_bytes, board_tests_in, row_tests_in, head_tests, boards_tests_in, row_count_tests_in, rows_tests_in, last_tests, table_number, table_in, reading}
use Rattle.table.specs.Fits.{row_fits, CanBeHeld}
use Rattle.table.specs.Writing.{bytes_of_row, bytes_of_table}
use Rattle.table.specs.RoundTrip.{ReadsBack, WrittenReadsBack, ReadIsWrittenBack, RefusedAsTheReaderWould, ReaderSaysTheSame}
use Rattle.table.proofs.Numbers.{none_in_value}
use Rattle.table.proofs.Value.{front_passed}
use Rattle.table.proofs.Taken.{number_read, table_read, taken_value_has_no_fault}
use Rattle.table.proofs.Fits.{TableNumbers, table_numbers}
use Rattle.table.proofs.Spelled.{row_is_nine, table_is_long, byte_is_read, row_is_read, table_is_written}
use Rattle.table.proofs.Written.{number_is_fault, done_if_fits, written_if_done}

-- The bytes of a value, part by part: each is read as the value has it, and so tested as the value is.
module _ (t : Table) (can : CanBeHeld t) where
  abbrev s : List ℕ
  s = bytes_of_table t

  small : TableNumbers t
  small = table_numbers t can.numbers

  -- what stands before the board numbers, and before the rows
  abbrev head : List ℕ
  head = bytes_of 1 t.format ++ bytes_of 4 t.cycle ++ bytes_of 1 t.cores

  abbrev boards : List ℕ
  boards = flat_map (bytes_of 1) (boards_of t)

  abbrev rows : List ℕ
  rows = flat_map bytes_of_row (rows_of t)

  head_is_six : length head ≡ 6
  unfolding bytes_of
  head_is_six = refl

  cycle_is : cycle_in s ≡ t.cycle
  unfolding bytes_of_table bytes_of
  cycle_is =
      let behind = bytes_of 1 t.cores ++ boards ++ bytes_of 1 t.n ++ rows in
      fields_are_numbers.four s 1 ∙ written_is_read 4 t.cycle small.cycle (bytes_of 1 t.format) behind

  cores_is : cores_in s ≡ t.cores
  unfolding bytes_of_table bytes_of
  cores_is = mod-eq_of_lt small.cores

  format_is : format_in s ≡ t.format
  unfolding bytes_of_table bytes_of
  format_is = mod-eq_of_lt small.format

  head_same : Alike (head_tests s) (front_tests t)
  unfolding first_found
  head_same =
      let long : 7 ≤ length s = omega (arith, table_is_long t) in
      record {
        same = λ otherwise.
            rw (le-ltb (length s) 1 (omega arith), le-ltb (length s) 5 (omega arith), le-ltb (length s) 6 (omega arith), format_is, cycle_is, cores_is) refl;
      }

  module _ (front : NoneFound (front_tests t)) where
    few_cores : t.cores ≤ core_limit
    few_cores = (front_passed t front).2.1

    boards_many : length (boards_of t) ≡ t.cores
    boards_many = length-take-le t.cores t.boards (omega (arith, few_cores, can.boards))

    boards_read : map (byte s) (places 6 1 (cores_in s)) ≡ boards_of t
    unfolding bytes_of_table bytes_of
    boards_read =
        ap (λ m. map (byte s) (places 6 1 m)) (cores_is ∙ sym boards_many)
        ∙ (ap (λ l. map (byte (head ++ l)) (places 6 1 (length (boards_of t)))) (append_assoc boards (bytes_of 1 t.n) rows)
        ∙ joined_are_read (bytes_of 1) 1 (bytes_long 1) byte (λ board. board < 256) byte_is_read head (bytes_of 1 t.n ++ rows) (boards_of t) 0 fits refl)
      where
        fits : (i : ℕ) → i < length (boards_of t) → get_or (boards_of t) i 0 < 256
        fits i h = rw (get_or-take t.cores t.boards i 0 (omega (arith, boards_many))) (small.boards i)

    boards_same : Alike (boards_tests_in s) (boards_tests t)
    boards_same =
        record {
          same = λ otherwise. (tested_as_read (board_tests_in s) board_tests board_above (byte s) 1 (length s) (λ least i h. alike_without (le-ltb (length s) (i + 1) h)) 0 6 (cores_in s) (omega (arith, table_is_long t, cores_is, boards_many))).same otherwise
              ∙ ap (λ l. first_found otherwise (rising board_tests board_above 0 l)) boards_read;
        }

    -- the row count stands behind them
    count_is : row_count_in s ≡ t.n
    unfolding bytes_of_table
    count_is =
        let long : length (head ++ boards) ≡ 6 + t.cores = length-append head boards ∙ omega (arith, joined_long (bytes_of 1) 1 (bytes_long 1) (boards_of t), boards_many, head_is_six) in
        ap (byte s) {x = 6 + cores_in s} {y = length (head ++ boards)} (omega (arith, cores_is, long))
        ∙ (ap (λ l. byte l (length (head ++ boards))) (append_assoc (head ++ boards) (bytes_of 1 t.n) rows)
        ∙ byte_is_read (head ++ boards) rows t.n small.row_count)

    count_same : Alike (row_count_tests_in s) (row_count_tests t)
    unfolding first_found
    count_same = record { same = λ otherwise. rw (le-ltb (length s) (rows_place s) (omega (arith, table_is_long t, cores_is, boards_many)), count_is) refl }

    module _ (count : NoneFound (row_count_tests t)) where
      few_rows : t.n ≤ row_limit
      few_rows = go count
        where
          go : NoneFound (row_count_tests t) → t.n ≤ row_limit
          go (NoneFound.later few NoneFound.end) = ltb-false row_limit t.n few

      rows_many : length (rows_of t) ≡ t.n
      rows_many = length-take-le t.n t.rows (omega (arith, few_rows, can.rows))

      rows_read : map (row_in_bytes s) (row_places s) ≡ rows_of t
      unfolding bytes_of_table
      rows_read =
          ap (λ n. map (row_in_bytes s) (places (rows_place s) 9 n)) (count_is ∙ sym rows_many)
          ∙ (ap (λ l. map (row_in_bytes (head ++ boards ++ bytes_of 1 t.n ++ l)) (places (rows_place s) 9 (length (rows_of t)))) (sym (append-nil rows))
          ∙ joined_are_read bytes_of_row 9 row_is_nine row_in_bytes (λ row. row_fits row ≡ true) row_is_read (head ++ boards ++ bytes_of 1 t.n) [] (rows_of t) zero_row fits place)
        where
          fits : (i : ℕ) → i < length (rows_of t) → row_fits (get_or (rows_of t) i zero_row) ≡ true
          fits i h = rw (get_or-take t.n t.rows i zero_row (omega (arith, rows_many))) (small.rows i zero_row (omega (arith, rows_many, few_rows, can.rows)))

          place : rows_place s ≡ length (head ++ boards ++ bytes_of 1 t.n)
          place =
              omega (
                arith,
                cores_is,
                length-append (head ++ boards) (bytes_of 1 t.n),
                length-append head boards,
                joined_long (bytes_of 1) 1 (bytes_long 1) (boards_of t),
                boards_many,
                head_is_six,
                bytes_long 1 t.n,
              )

      rows_same : Alike (rows_tests_in s) (rows_tests t)
      rows_same =
          record {
            same = λ otherwise. ap (λ cycle. first_found otherwise (rising (row_tests_in s cycle) (λ i. tank_above (row_in_bytes s i)) 0 (row_places s))) cycle_is
                ∙ ((tested_as_read (row_tests_in s t.cycle) (row_tests t.cycle) tank_above (row_in_bytes s) 9 (length s) (λ least i h. alike_without (le-ltb (length s) (i + 9) h)) 0 (rows_place s) (row_count_in s) (omega (arith, table_is_long t, cores_is, boards_many, count_is, rows_many))).same otherwise
                ∙ ap (λ l. first_found otherwise (rising (row_tests t.cycle) tank_above 0 l)) rows_read);
          }

      last_same : Alike (last_tests s) (sum_tests t)
      unfolding first_found
      last_same =
          record { same = λ otherwise. rw (le-ltb (rows_place s + 9 * row_count_in s) (length s) (omega (arith, table_is_long t, cores_is, boards_many, count_is, rows_many)), rows_read, cycle_is, cores_is) refl }

-- The reader says of a value's bytes what the fault of the value is.
pub reader_says_the_same : ReaderSaysTheSame
unfolding table_number fault_of
reader_says_the_same t can =
    (alike_in_turn (head_same t can)
    (λ front. alike_in_turn (boards_same t can front)
    (λ _. alike_in_turn (count_same t can front)
    (λ count. alike_in_turn (rows_same t can front count)
    (λ _. last_same t can front count))))).same 0

-- So a value that the reader would refuse is refused with that number.
pub refused_as_the_reader_would : RefusedAsTheReaderWould
refused_as_the_reader_would t buffer can refused =
    let same = reader_says_the_same t can in
    sym (number_is_fault t buffer same refused)

-- Where there is none, the table that is read is the value below n and M.
reads_back : (t : Table) → CanBeHeld t → fault_of t ≡ 0 → ReadsBack t (bytes_of_table t)
reads_back t can none =
    let s = bytes_of_table t in
    let each = none_in_value t none in
    let number : table_number s ≡ 0 = reader_says_the_same t can ∙ none in
    let boards : boards_of (table_in s) ≡ boards_of t = first_are_read (byte s) 0 core_limit 6 1 (cores_in s) ∙ boards_read t can each.0 in
    let rows : rows_of (table_in s) ≡ rows_of t = first_are_read (row_in_bytes s) zero_row row_limit (rows_place s) 9 (row_count_in s) ∙ rows_read t can each.0 each.2 in
    record {
      taken = number_read s ∙ number;
      same =
          rw (table_read s number)
          (record {
            format = sym (format_is t can);
            cycle = sym (cycle_is t can);
            cores = sym (cores_is t can);
            boards = sym boards;
            row_count = sym (count_is t can each.0);
            rows = sym rows;
          });
    }

-- What is written reads back,
pub written_reads_back : WrittenReadsBack
written_reads_back t buffer can done =
    let written = written_if_done t buffer done in
    rw (written.long, written.bytes)
    (rw (take-append_seam (bytes_of_table t) (drop (length (bytes_of_table t)) buffer)) (reads_back t can written.none))

-- and what reads back and is written gives the same bytes.
pub read_is_written_back : ReadIsWrittenBack
read_is_written_back s buffer bytes taken room =
    let number = sym (number_read s) ∙ taken in
    let same = ap bytes_of_table (table_read s number) ∙ table_is_written s bytes number in
    let none = ap fault_of (table_read s number) ∙ taken_value_has_no_fault s number in
    let done = done_if_fits (reading s).table buffer none (omega (arith, ap length same)) in
    let written = written_if_done (reading s).table buffer done in
    record {
      said = λ z. record { number = done z; length = (written.long ∙ ap length same) z };
      bytes = written.bytes ∙ ap (λ l. l ++ drop (length l) buffer) same;
    }
