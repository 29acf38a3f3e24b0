-- What is known of a table that is taken. Assumes nothing.
use mathlib.Core.Path.{◌≡◌, refl, sym, ap, ◌∙◌}
use mathlib.Core.List.{List, map}
use mathlib.Core.Bool.{false}
use mathlib.Core.Logic.{◌⊎◌}
use Prim.Native.Nat.{ℕ, zero, suc, ◌*◌, ◌/◌, ◌%◌, ◌≤◌, ◌<◌}
use native.Mathlib.Nat.{pos_of_ne-zero, div-add-mod'}
use native.Mathlib.Omega.{arith}
use lib.Seq.{length-take-le, get_or-take}
use borrow.Author.Tests.{ltb-false, eqb-true, eqb-false, not-false}
use lib.Dec.{ltb}
use lib.ListN.{length, get_or}
use Rattle.facts.specs.Findings.{NoneFound}
use Rattle.facts.proofs.Findings.{said_exactly, none_exactly, otherwise_or_such}
use Rattle.facts.proofs.Rising.{rising_as_read, each_passed, pass_too, passed_rise}
use Rattle.facts.proofs.Places.{first_are_read, others_are_nothing, how_many_padded}
use Rattle.fields.specs.Fields.{byte}
use Rattle.table.specs.declared.Row.{Row}
use Rattle.table.specs.declared.Table.{Table}
use Rattle.table.specs.Limits.{cycle_limit, core_limit, row_limit}
use Rattle.table.specs.Causes.{row_tests, tank_above, load, zero_row, board_tests, board_above}
use Rattle.table.specs.Value.{boards_of, rows_of, front_tests, row_count_tests, sum_tests, fault_of}
use Rattle.table.specs.Bytes.{cycle_in, cores_in, row_count_in, rows_place, board_places, row_places, row_in_bytes, board_tests_in, row_tests_in, head_tests, row_count_tests_in, last_tests, table_tests, table_number, table_in, reading_of, reading}
use Rattle.table.specs.Reply.{no_table}
use Rattle.table.specs.Taken.{NumbersAreFirstCauses, NumbersAre10To22, TakenWhereNoCause, PastIsZero, Sound}
use Rattle.table.proofs.Numbers.{table_says, none_in_value, none_in_bytes}
use Rattle.table.proofs.Value.{front_passed, no_fault}

-- for callers

-- The number of a reading is the first fault met,
pub number_read : (s : List ℕ) → (reading s).number ≡ table_number s
unfolding reading
number_read s = go (table_number s)
  where
    go : (k : ℕ) → (reading_of k (table_in s)).number ≡ k
    go zero = refl
    go (suc k) = refl

-- and where there is none its table is the one in the bytes.
pub table_read : (s : List ℕ) → table_number s ≡ 0 → (reading s).table ≡ table_in s
unfolding reading
table_read s e = rw e

-- A number other than 0 is answered exactly if its cause is the first met,
pub numbers_are_first_causes : NumbersAreFirstCauses
unfolding table_number
numbers_are_first_causes s k h = said_exactly 0 (table_tests s) h

-- and 0 exactly if no test has its cause.
pub taken_where_no_cause : TakenWhereNoCause
unfolding table_number
taken_where_no_cause s = none_exactly 0 (table_says s) (λ number. omega (arith, number.0))

-- A number that is answered is 0, or one of 10 to 22.
pub numbers_are_10_to_22 : NumbersAre10To22
unfolding table_number
numbers_are_10_to_22 s = otherwise_or_such 0 (table_says s)

-- Where there is a fault, it has no table.
pub no_table_read : (s : List ℕ) → (table_number s ≡ 0 → ⊥) → (reading s).table ≡ no_table
unfolding reading
no_table_read s f = go (table_number s) f
  where
    go : (k : ℕ) → (k ≡ 0 → ⊥) → (reading_of k (table_in s)).table ≡ no_table
    go zero h = absurd (h refl)
    go (suc k) h = refl

-- What passed in bytes passes as a value: a head as the front,
pub head_passed : (s : List ℕ) → NoneFound (head_tests s) → NoneFound (front_tests (table_in s))
head_passed s (NoneFound.later _ (NoneFound.later format (NoneFound.later _ (NoneFound.later cycle (NoneFound.later _ (NoneFound.later cores NoneFound.end)))))) =
    NoneFound.later format (NoneFound.later cycle (NoneFound.later cores NoneFound.end))

-- and a board number or row.
board_as_read : (s : List ℕ) (least i : ℕ) → NoneFound (board_tests_in s least i) → NoneFound (board_tests least (byte s i))
board_as_read s least i (NoneFound.later there none) = none

row_as_read : (s : List ℕ) (cycle least i : ℕ) → NoneFound (row_tests_in s cycle least i) → NoneFound (row_tests cycle least (row_in_bytes s i))
row_as_read s cycle least i (NoneFound.later there none) = none

few : (s : List ℕ) → NoneFound (row_count_tests_in s) → row_count_in s ≤ row_limit
few s (NoneFound.later there (NoneFound.later count NoneFound.end)) = ltb-false row_limit (row_count_in s) count

within : (s : List ℕ) → NoneFound (last_tests s) → ltb (cores_in s * cycle_in s) (load (cycle_in s) (map (row_in_bytes s) (row_places s))) ≡ false
within s (NoneFound.later ended (NoneFound.later sum NoneFound.end)) = sum

-- For callers: the table in bytes that are taken has no fault.
pub taken_value_has_no_fault : (s : List ℕ) → table_number s ≡ 0 → fault_of (table_in s) ≡ 0
taken_value_has_no_fault s h =
    let each = none_in_bytes s h in
    sym
    (no_fault (table_in s) (head_passed s each.0)
    (rw (first_are_read (byte s) 0 core_limit 6 1 (cores_in s), rising_as_read board_tests board_above (byte s) 0 (board_places s))
    (pass_too (board_tests_in s) (λ i. board_above (byte s i)) _ 0 0 (board_places s) (λ j k from. board_as_read s from _) each.1))
    (few s each.2)
    (rw (first_are_read (row_in_bytes s) zero_row row_limit (rows_place s) 9 (row_count_in s), rising_as_read (row_tests (cycle_in s)) tank_above (row_in_bytes s) 0 (row_places s))
    (pass_too (row_tests_in s (cycle_in s)) (λ i. tank_above (row_in_bytes s i)) _ 0 0 (row_places s) (λ j k from. row_as_read s (cycle_in s) from _) each.3))
    (sym (ap (load (cycle_in s)) (first_are_read (row_in_bytes s) zero_row row_limit (rows_place s) 9 (row_count_in s))))
    (within s each.4))

pub taken_has_no_fault : (s : List ℕ) → (reading s).number ≡ 0 → fault_of (reading s).table ≡ 0
taken_has_no_fault s h =
    let none = sym (number_read s) ∙ h in
    ap fault_of (table_read s none) ∙ taken_value_has_no_fault s none

pub past_is_zero : PastIsZero
past_is_zero s i d b = (
  others_are_nothing (row_in_bytes s) zero_row row_limit (rows_place s) 9 {n = row_count_in s} d,
  others_are_nothing (byte s) 0 core_limit 6 1 {n = cores_in s} b,
)

-- a row that passes its tests can be
sound_row : (cycle least : ℕ) (row : Row) → NoneFound (row_tests cycle least row) → Sound cycle row
sound_row cycle least row (NoneFound.later tank (NoneFound.later cost (NoneFound.later weight (NoneFound.later divides (NoneFound.later kind NoneFound.end))))) =
    record {
      cost = pos_of_ne-zero (eqb-false row.cost 0 cost);
      within_period = ltb-false row.period row.cost weight;
      divides = eqb-true (cycle % row.period) 0 (not-false _ divides);
      kind = ltb-false 1 row.kind kind;
    }

pub rows_are_sound : (t : Table) → fault_of t ≡ 0 → (i : ℕ) → i < length (rows_of t) → Sound t.cycle (get_or (rows_of t) i zero_row)
rows_are_sound t h i k =
    let row = each_passed (row_tests t.cycle) tank_above 0 (rows_of t) (none_in_value t h).3 i zero_row k in
    sound_row t.cycle row.0 _ row.1

pub sum_is_within : (t : Table) → fault_of t ≡ 0 → load t.cycle (rows_of t) ≤ t.cores * t.cycle
sum_is_within t h = go (none_in_value t h).4
  where
    go : NoneFound (sum_tests t) → load t.cycle (rows_of t) ≤ t.cores * t.cycle
    go (NoneFound.later sum NoneFound.end) = ltb-false (t.cores * t.cycle) (load t.cycle (rows_of t)) sum

pub sizes_are_within : (t : Table) → fault_of t ≡ 0 → ((1 ≤ t.cycle) × (t.cycle ≤ cycle_limit)) × ((1 ≤ t.cores) × (t.cores ≤ core_limit)) × (t.n ≤ row_limit)
sizes_are_within t h =
    let each = none_in_value t h in
    let front = front_passed t each.0 in
    (front.1, front.2, go each.2)
  where
    go : NoneFound (row_count_tests t) → t.n ≤ row_limit
    go (NoneFound.later count NoneFound.end) = ltb-false row_limit t.n count

-- For callers: a table without fault has format 1 or 2.
pub format_is_known : (t : Table) → fault_of t ≡ 0 → (t.format ≡ 1) ⊎ (t.format ≡ 2)
format_is_known t h = (front_passed t (none_in_value t h).0).0

-- A table value has its 32 places; then each row below n is sound, whatever is read past the end.
pub row_is_sound : (t : Table) → fault_of t ≡ 0 → length t.rows ≡ row_limit → (i : ℕ) (d : Row) → i < t.n → Sound t.cycle (get_or t.rows i d)
row_is_sound t h l i d k =
    let n = (sizes_are_within t h).2 in
    let many : length (rows_of t) ≡ t.n = length-take-le t.n t.rows (omega (arith, n, l)) in
    let row = each_passed (row_tests t.cycle) tank_above 0 (rows_of t) (none_in_value t h).3 i d (omega (arith, many, k)) in
    rw (get_or-take t.n t.rows i d k) at (sound_row t.cycle row.0 (get_or (rows_of t) i d) row.1)

-- A table that is taken has all its places,
pub places_are_there : (s : List ℕ) → table_number s ≡ 0 → (length (table_in s).boards ≡ core_limit) × (length (table_in s).rows ≡ row_limit)
places_are_there s h =
    let sizes = sizes_are_within (table_in s) (taken_value_has_no_fault s h) in
    (how_many_padded (byte s) 0 core_limit 6 1 sizes.1.1, how_many_padded (row_in_bytes s) zero_row row_limit (rows_place s) 9 sizes.2)

-- A sound row's jobs fill the cycle.
pub jobs_fill_cycle : {cycle : ℕ} {row : Row} → Sound cycle row → cycle / row.period * row.period ≡ cycle
jobs_fill_cycle {cycle} {row} s = omega (arith, div-add-mod' cycle row.period, s.divides)

-- a board number or tank that passes is at least the least that may stand there
board_enough : (least board : ℕ) → NoneFound (board_tests least board) → least ≤ board
board_enough least board (NoneFound.later rises NoneFound.end) = ltb-false board least rises

tank_enough : (cycle least : ℕ) (row : Row) → NoneFound (row_tests cycle least row) → least ≤ row.tank
tank_enough cycle least row (NoneFound.later rises others) = ltb-false row.tank least rises

pub boards_rise : (t : Table) → fault_of t ≡ 0 → (i j : ℕ) → i < j → j < length (boards_of t) → get_or (boards_of t) i 0 < get_or (boards_of t) j 0
boards_rise t h = passed_rise board_tests board_above (λ board. board) (λ board. refl) 0 board_enough 0 (boards_of t) (none_in_value t h).1

pub tanks_rise : (t : Table) → fault_of t ≡ 0 → (i j : ℕ) → i < j → j < length (rows_of t) → (get_or (rows_of t) i zero_row).tank < (get_or (rows_of t) j zero_row).tank
tanks_rise t h = passed_rise (row_tests t.cycle) tank_above (λ row. row.tank) (λ row. refl) zero_row (tank_enough t.cycle) 0 (rows_of t) (none_in_value t h).3
