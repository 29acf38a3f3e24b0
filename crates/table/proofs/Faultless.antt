-- A table has no fault, and is taken, exactly if it is as 01 says. Assumes nothing.
use Prim.Native.Nat.{ℕ, zero, suc, ◌+◌, ◌*◌, ◌%◌, ◌≤◌, ◌<◌}
use mathlib.Core.Path.{◌≡◌, refl, sym, ap}
use mathlib.Core.List.{List, map}
use mathlib.Core.Bool.{false, not}
use mathlib.Core.Logic.{◌⊎◌, inl, inr}
use native.Mathlib.Omega.{arith}
use borrow.Author.Tests.{le-ltb, ltb-false, eq-eqb, ne_eqb}
use lib.ListN.{length, get_or}
use Rattle.facts.specs.Findings.{NoneFound}
use Rattle.facts.specs.Rising.{rising}
use Rattle.facts.specs.Places.{places}
use Rattle.facts.proofs.Findings.{none_says_otherwise, none_joined}
use Rattle.facts.proofs.Rising.{rising_as_read, each_passed, pass_too, risen_pass}
use Rattle.facts.proofs.Places.{how_many_places, place_at, first_are_read}
use Rattle.fields.specs.Fields.{byte}
use Rattle.table.specs.declared.Row.{Row}
use Rattle.table.specs.declared.Table.{Table}
use Rattle.table.specs.Limits.{core_limit, row_limit}
use Rattle.table.specs.Causes.{format_test, board_tests, board_above, row_tests, tank_above, load, outside, zero_row}
use Rattle.table.specs.Value.{boards_of, rows_of, front_tests, boards_tests, rows_tests, fault_of}
use Rattle.table.specs.Bytes.{cycle_in, cores_in, row_count_in, rows_place, board_places, row_places, row_in_bytes, board_tests_in, row_tests_in, head_tests, boards_tests_in, row_count_tests_in, rows_tests_in, last_tests, table_number, table_in}
use Rattle.table.specs.Taken.{Sound}
use Rattle.table.specs.Faultless.{Faultless, FaultlessExactly, TakenExactly}
use Rattle.table.proofs.Numbers.{none_in_bytes}
use Rattle.table.proofs.Value.{no_fault}
use Rattle.table.proofs.Bytes.{board_rises, board_passes_there, row_was_there}
use Rattle.table.proofs.Taken.{taken_value_has_no_fault, rows_are_sound, sum_is_within, sizes_are_within, format_is_known, boards_rise, tanks_rise}

-- What is between is not outside.
between_not_outside : {low high x : ℕ} → (low ≤ x) × (x ≤ high) → outside low high x ≡ false
between_not_outside {low} {high} {x} h = rw (le-ltb x low h.0, le-ltb high x h.1)

-- A format that is 1 or 2 passes its test.
known_passes : {format : ℕ} → (format ≡ 1) ⊎ (format ≡ 2) → (format_test format).cause ≡ false
known_passes (inl one) = rw one
known_passes (inr two) = rw two

-- A sound row whose tank is high enough passes its tests.
sound_row_passes : (cycle least : ℕ) (row : Row) → least ≤ row.tank → Sound cycle row → NoneFound (row_tests cycle least row)
sound_row_passes cycle least row h sound =
    NoneFound.later (le-ltb row.tank least h)
    (NoneFound.later (ne_eqb row.cost 0 (λ z. omega (arith, sound.cost)))
    (NoneFound.later (le-ltb row.period row.cost sound.within_period)
    (NoneFound.later (ap not (eq-eqb (cycle % row.period) 0 sound.divides)) (NoneFound.later (le-ltb 1 row.kind sound.kind) NoneFound.end))))

-- A faultless table has no fault in its front,
front_passes : (t : Table) → Faultless t → NoneFound (front_tests t)
front_passes t f =
    NoneFound.later (known_passes f.format)
    (NoneFound.later (between_not_outside f.cycle) (NoneFound.later (between_not_outside f.cores) NoneFound.end))

-- none in its board numbers,
boards_pass : (t : Table) → Faultless t → NoneFound (boards_tests t)
boards_pass t f =
    risen_pass board_tests board_above (λ board. board) (λ board. refl) 0 0 (boards_of t)
    (λ i k from. board_rises from (get_or (boards_of t) i 0)) f.boards (λ k. omega arith)

-- none in its rows,
rows_pass : (t : Table) → Faultless t → NoneFound (rows_tests t)
rows_pass t f =
    risen_pass (row_tests t.cycle) tank_above (λ row. row.tank) (λ row. refl) zero_row 0 (rows_of t)
    (λ i k from h. sound_row_passes t.cycle from (get_or (rows_of t) i zero_row) h (f.rows i k)) f.tanks (λ k. omega arith)

-- and so none at all.
pub faultless_has_none : (t : Table) → Faultless t → fault_of t ≡ 0
faultless_has_none t f =
    sym
    (no_fault t (front_passes t f) (boards_pass t f) f.row_count (rows_pass t f) refl
    (le-ltb (t.cores * t.cycle) (load t.cycle (rows_of t)) f.sum))

-- A table without fault is faultless.
pub none_is_faultless : (t : Table) → fault_of t ≡ 0 → Faultless t
none_is_faultless t h =
    let sizes = sizes_are_within t h in
    record {
      format = format_is_known t h;
      cycle = sizes.0;
      cores = sizes.1;
      boards = boards_rise t h;
      row_count = sizes.2;
      tanks = tanks_rise t h;
      rows = rows_are_sound t h;
      sum = sum_is_within t h;
    }

-- So a table has no fault exactly if it is faultless.
pub faultless_exactly : FaultlessExactly
faultless_exactly t = (none_is_faultless t, faultless_has_none t)

-- Bytes that are as long as their counts say, with a faultless table in them, are taken: part by part nothing is met.
module _ (s : List ℕ) (long : length s ≡ 7 + byte s 5 + 9 * byte s (6 + byte s 5)) (f : Faultless (table_in s)) where
  -- The head passes,
  head_passes : NoneFound (head_tests s)
  head_passes =
      NoneFound.later (le-ltb (length s) 1 (omega arith))
      (NoneFound.later (known_passes f.format)
      (NoneFound.later (le-ltb (length s) 5 (omega arith))
      (NoneFound.later (between_not_outside f.cycle)
      (NoneFound.later (le-ltb (length s) 6 (omega arith)) (NoneFound.later (between_not_outside f.cores) NoneFound.end)))))

  -- the board numbers pass, as all of them are there,
  boards_pass_in_bytes : NoneFound (boards_tests_in s)
  boards_pass_in_bytes =
      pass_too (λ from i. board_tests from (byte s i)) (λ i. board_above (byte s i)) (board_tests_in s) 0 0 (board_places s) there
      (rw (first_are_read (byte s) 0 core_limit 6 1 (cores_in s), rising_as_read board_tests board_above (byte s) 0 (board_places s)) at (boards_pass (table_in s) f))
    where
      there : (j : ℕ) → j < length (board_places s) → (from : ℕ) → NoneFound (board_tests from (byte s (get_or (board_places s) j 0))) →
          NoneFound (board_tests_in s from (get_or (board_places s) j 0))
      there j k from none =
          let below : j < cores_in s = omega (arith, how_many_places 6 1 (cores_in s)) in
          board_passes_there s from (get_or (board_places s) j 0) (omega (arith, place_at 6 1 (cores_in s) j 0 below)) none

  -- the row count passes,
  count_passes_in_bytes : NoneFound (row_count_tests_in s)
  count_passes_in_bytes =
      NoneFound.later (le-ltb (length s) (rows_place s) (omega arith)) (NoneFound.later (le-ltb row_limit (row_count_in s) f.row_count) NoneFound.end)

  -- the rows pass, as all their bytes are there,
  rows_pass_in_bytes : NoneFound (rows_tests_in s)
  rows_pass_in_bytes =
      pass_too (λ from i. row_tests (cycle_in s) from (row_in_bytes s i)) (λ i. tank_above (row_in_bytes s i)) (row_tests_in s (cycle_in s)) 0 0 (row_places s) there
      (rw (first_are_read (row_in_bytes s) zero_row row_limit (rows_place s) 9 (row_count_in s), rising_as_read (row_tests (cycle_in s)) tank_above (row_in_bytes s) 0 (row_places s)) at (rows_pass (table_in s) f))
    where
      there : (j : ℕ) → j < length (row_places s) → (from : ℕ) → NoneFound (row_tests (cycle_in s) from (row_in_bytes s (get_or (row_places s) j 0))) →
          NoneFound (row_tests_in s (cycle_in s) from (get_or (row_places s) j 0))
      there j k from none =
          let below : j < row_count_in s = omega (arith, how_many_places (rows_place s) 9 (row_count_in s)) in
          NoneFound.later (le-ltb (length s) (get_or (row_places s) j 0 + 9) (omega (arith, place_at (rows_place s) 9 (row_count_in s) j 0 below))) none

  -- and so do the end of the bytes and the sum.
  last_passes : NoneFound (last_tests s)
  last_passes =
      let sum : load (cycle_in s) (map (row_in_bytes s) (row_places s)) ≤ cores_in s * cycle_in s =
      rw (first_are_read (row_in_bytes s) zero_row row_limit (rows_place s) 9 (row_count_in s)) at f.sum in
      NoneFound.later (le-ltb (rows_place s + 9 * row_count_in s) (length s) (omega arith)) (NoneFound.later (le-ltb (cores_in s * cycle_in s) _ sum) NoneFound.end)

  -- So the whole passes.
  pub faultless_is_taken : table_number s ≡ 0
  unfolding table_number
  faultless_is_taken =
      none_says_otherwise 0
      (none_joined head_passes (none_joined boards_pass_in_bytes (none_joined count_passes_in_bytes (none_joined rows_pass_in_bytes last_passes))))

-- Bytes that are taken have all their rows (the last of them, if there is one, ends where the bytes are still there),
rows_are_there : (s : List ℕ) → NoneFound (row_count_tests_in s) → NoneFound (rows_tests_in s) → rows_place s + 9 * row_count_in s ≤ length s
rows_are_there s (NoneFound.later front few) rows = go (row_count_in s) rows
  where
    go : (n : ℕ) → NoneFound (rising (row_tests_in s (cycle_in s)) (λ i. tank_above (row_in_bytes s i)) 0 (places (rows_place s) 9 n)) → rows_place s + 9 * n ≤ length s
    go zero none = omega (arith, ltb-false (length s) (rows_place s) front)
    go (suc n) none =
        let last = each_passed (row_tests_in s (cycle_in s)) (λ i. tank_above (row_in_bytes s i)) 0 (places (rows_place s) 9 (suc n)) none n 0 (omega (arith, how_many_places (rows_place s) 9 (suc n))) in
        omega (arith, row_was_there s (cycle_in s) last.0 _ last.1, place_at (rows_place s) 9 (suc n) n 0 (omega arith))

-- and nothing after them.
pub taken_is_as_long : (s : List ℕ) → table_number s ≡ 0 → length s ≡ 7 + byte s 5 + 9 * byte s (6 + byte s 5)
taken_is_as_long s h = let each = none_in_bytes s h in go (rows_are_there s each.2 each.3) each.4
  where
    go : rows_place s + 9 * row_count_in s ≤ length s → NoneFound (last_tests s) → length s ≡ 7 + byte s 5 + 9 * byte s (6 + byte s 5)
    go there (NoneFound.later after sum) = omega (arith, there, ltb-false (rows_place s + 9 * row_count_in s) (length s) after)

-- So bytes are taken exactly if they are as long as their counts say and hold a faultless table.
pub taken_exactly : TakenExactly
taken_exactly s = (
  λ h. (taken_is_as_long s h, none_is_faultless (table_in s) (taken_value_has_no_fault s h)),
  λ x. faultless_is_taken s x.0 x.1,
)
