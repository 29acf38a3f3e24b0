-- The numbers of a table's tests are 10 to 22, so 0 is answered exactly where no cause is there. Assumes nothing.
use Prim.Native.Nat.{ℕ, ◌≤◌}
use mathlib.Core.Path.{◌≡◌, refl, sym}
use native.Mathlib.Decide.{ℕ_discrete}
use mathlib.Core.List.{List}
use native.Mathlib.Omega.{arith}
use Rattle.facts.specs.Findings.{Test, ◌then◌, first_found, NoneFound}
use Rattle.facts.proofs.Findings.{AllSay, none_exactly, none_in_five, all_joined, in_range, after_none, decides}
use Rattle.facts.specs.Zero.{if0}
use Rattle.facts.proofs.Zero.{if0_other}
use Rattle.facts.proofs.Rising.{rising_say}
use Rattle.fields.specs.Fields.{byte}
use Rattle.table.specs.declared.Row.{Row}
use Rattle.table.specs.declared.Table.{Table}
use Rattle.table.specs.declared.faults.Fault.{Fault}
use Rattle.table.specs.declared.faults.Fault.TheVariants.{Ends, Format, Cycle, Cores, Boards, RowCount, Tanks, Cost, Weight, Period, Kind, After, Sum}
use Rattle.table.specs.Reply.{fault_number}
use Rattle.table.specs.Causes.{board_tests, board_above, row_tests, tank_above}
use Rattle.table.specs.Value.{boards_of, rows_of, front_tests, boards_tests, row_count_tests, rows_tests, sum_tests, value_tests, fault_of}
use Rattle.table.specs.Bytes.{cycle_in, board_places, row_places, row_in_bytes, board_tests_in, row_tests_in, head_tests, boards_tests_in, row_count_tests_in, rows_tests_in, last_tests, table_tests, table_number}

-- a number of a table's refusal
abbrev pub Number : ℕ → Type 0
Number k = (10 ≤ k) × (k ≤ 22)

-- for callers

-- Each fault has one of them,
pub fault_says : (fault : Fault) → Number (fault_number fault)
fault_says Ends = (omega arith, omega arith)
fault_says Format = (omega arith, omega arith)
fault_says Cycle = (omega arith, omega arith)
fault_says Cores = (omega arith, omega arith)
fault_says Boards = (omega arith, omega arith)
fault_says RowCount = (omega arith, omega arith)
fault_says Tanks = (omega arith, omega arith)
fault_says Cost = (omega arith, omega arith)
fault_says Weight = (omega arith, omega arith)
fault_says Period = (omega arith, omega arith)
fault_says Kind = (omega arith, omega arith)
fault_says After = (omega arith, omega arith)
fault_says Sum = (omega arith, omega arith)

-- and so not 0.
pub is_fault : (fault : Fault) → fault_number fault ≡ 0 → ⊥
is_fault fault e = omega (arith, (fault_says fault).0, e)

-- Where 0 is answered, no test has its cause.
pub none_met : {tests : List Test} → AllSay Number tests → first_found 0 tests ≡ 0 → NoneFound tests
none_met all = (none_exactly 0 all (λ number. omega (arith, number.0))).0

-- What is found in tests that come one after the other: what the first say, or where they say nothing what the others do.
pub in_turn : {tests : List Test} → AllSay Number tests → (others : List Test) → first_found 0 (tests then others) ≡ if0 (first_found 0 tests) (first_found 0 others) (first_found 0 tests)
in_turn {tests} all others = go (ℕ_discrete (first_found 0 tests) 0)
  where
    go : Dec (first_found 0 tests ≡ 0) → first_found 0 (tests then others) ≡ if0 (first_found 0 tests) (first_found 0 others) (first_found 0 tests)
    go (yes none) = rw none (after_none 0 others (none_met all none))
    go (no some) = rw (if0_other (first_found 0 tests) (first_found 0 others) (first_found 0 tests) some) (sym (decides 0 tests others refl some))

-- The tests of a row have these numbers,
pub row_says : (cycle least : ℕ) (row : Row) → AllSay Number (row_tests cycle least row)
row_says cycle least row = in_range 10 22 (row_tests cycle least row) refl

-- those of a table value,
module _ (t : Table) where
  -- its board numbers
  pub boards_say : AllSay Number (boards_tests t)
  boards_say = rising_say board_tests board_above (λ least board. in_range 10 22 (board_tests least board) refl) 0 (boards_of t)

  -- its rows,
  pub rows_say : AllSay Number (rows_tests t)
  rows_say = rising_say (row_tests t.cycle) tank_above (row_says t.cycle) 0 (rows_of t)

  -- and the whole,
  pub value_says : AllSay Number (value_tests t)
  value_says =
      all_joined (in_range 10 22 (front_tests t) refl)
      (all_joined boards_say (all_joined (in_range 10 22 (row_count_tests t) refl) (all_joined rows_say (in_range 10 22 (sum_tests t) refl))))

  -- so where it has no fault, no part of it has;
  pub none_in_value : fault_of t ≡ 0 →
      NoneFound (front_tests t) × NoneFound (boards_tests t) × NoneFound (row_count_tests t) × NoneFound (rows_tests t) × NoneFound (sum_tests t)
  unfolding fault_of
  none_in_value h = none_in_five (front_tests t) (boards_tests t) (row_count_tests t) (rows_tests t) (none_met value_says h)

-- and those of a table in bytes:
module _ (s : List ℕ) where
  -- its head,
  pub head_says : AllSay Number (head_tests s)
  head_says = in_range 10 22 (head_tests s) refl

  -- its board numbers,
  pub boards_say_in : AllSay Number (boards_tests_in s)
  boards_say_in = rising_say (board_tests_in s) (λ i. board_above (byte s i)) (λ least i. in_range 10 22 (board_tests_in s least i) refl) 0 (board_places s)

  -- each row,
  pub row_says_in : (cycle least i : ℕ) → AllSay Number (row_tests_in s cycle least i)
  row_says_in cycle least i = in_range 10 22 (row_tests_in s cycle least i) refl

  -- all rows,
  pub rows_say_in : AllSay Number (rows_tests_in s)
  rows_say_in = rising_say (row_tests_in s (cycle_in s)) (λ i. tank_above (row_in_bytes s i)) (row_says_in (cycle_in s)) 0 (row_places s)

  -- and the whole.
  pub table_says : AllSay Number (table_tests s)
  table_says =
      all_joined head_says
      (all_joined boards_say_in (all_joined (in_range 10 22 (row_count_tests_in s) refl) (all_joined rows_say_in (in_range 10 22 (last_tests s) refl))))

  -- So where it is taken, no part of it has a fault.
  pub none_in_bytes : table_number s ≡ 0 →
      NoneFound (head_tests s) × NoneFound (boards_tests_in s) × NoneFound (row_count_tests_in s) × NoneFound (rows_tests_in s) × NoneFound (last_tests s)
  unfolding table_number
  none_in_bytes h = none_in_five (head_tests s) (boards_tests_in s) (row_count_tests_in s) (rows_tests_in s) (none_met table_says h)
