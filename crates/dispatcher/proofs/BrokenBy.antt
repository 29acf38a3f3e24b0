-- What makes a state broken, cause by cause. Assumes nothing.
use Prim.Native.Nat.{◌≤◌, ◌<◌}
use mathlib.Core.Path.{◌≡◌, refl, sym, ap, ◌∙◌}
use mathlib.Core.Bool.{Bool, true, false, not, ◌&&◌, ◌||◌}
use native.Mathlib.Omega.{arith}
use borrow.Author.Tests.{lt-ltb, le-ltb, eq-eqb, ne_eqb}
use lib.ListN.{length}
use lib.Seq.{length-take-le}
use Rattle.facts.specs.Counting.{some}
use Rattle.facts.proofs.Some.{some_either, some_where}
use Rattle.counts.specs.Limits.{time_limit}
use Rattle.table.specs.Limits.{row_limit}
use Rattle.table.specs.Value.{fault_of}
use Rattle.table.proofs.Taken.{sizes_are_within}
use Rattle.pd2.proofs.Share.{row_can_be}
use Rattle.choice.specs.Arrays.{InPlace}
use Rattle.cores.specs.Fault.{misremembers}
use Rattle.dispatcher.specs.declared.State.{State}
use Rattle.dispatcher.specs.State.{rows_in, is_row, time_of}
use Rattle.dispatcher.specs.Broken.{of_row, some_row, exceeds, outside_share, broken}
use Rattle.dispatcher.specs.Usable.{Testable, broken_row}
use Rattle.dispatcher.proofs.Rows.{some_row_is}

module _ (s : State) where
  -- A fault of the table,
  pub by_fault : (fault_of s.table ≡ 0 → ⊥) → true ≡ broken s
  unfolding broken
  by_fault h = rw (ne_eqb (fault_of s.table) 0 h) refl

  module _ (none : fault_of s.table ≡ 0) where
    -- or a time past the limit.
    pub by_time : time_limit < time_of s → true ≡ broken s
    unfolding broken
    by_time h = rw (eq-eqb (fault_of s.table) 0 none, lt-ltb time_limit (time_of s) h) refl

    -- The arrays hold the rows of a table without fault.
    pub in_place : length s.table.rows ≡ row_limit → length s.quanta ≡ row_limit → InPlace s.table.rows s.quanta s.table.n
    in_place rows quanta =
        let few = (sizes_are_within s.table none).2 in
        record { few = few; all = length-take-le s.table.n s.table.rows (omega arith); long = quanta }

    -- Within the time limit its rows can be tested:
    pub testable : InPlace s.table.rows s.quanta s.table.n → time_of s ≤ time_limit →
        Testable s.table.rows s.quanta s.table.n (time_of s)
    testable place slot_left = record { place = place; each = row_can_be s.table none; time = slot_left }

    module _ (slot_left : time_of s ≤ time_limit) where
      -- one of them may break the state,
      abbrev rows_break : Bool
      rows_break = some (of_row s (broken_row s.stopped (time_of s))) (length (rows_in s))

      some_breaks : rows_break ≡ some_row s (exceeds (time_of s)) || (not s.stopped && some_row s (outside_share (time_of s)))
      some_breaks =
          let n = length (rows_in s) in
          rw (some_row_is s (exceeds (time_of s)), some_row_is s (outside_share (time_of s)))
          (some_either (of_row s (exceeds (time_of s))) (λ i. not s.stopped && of_row s (outside_share (time_of s)) i) n
          ∙ ap (λ b. some (of_row s (exceeds (time_of s))) n || b) (some_where (not s.stopped) (of_row s (outside_share (time_of s))) n))

      -- so that it is broken by its rows or else by its memory.
      by_rows_or_memory : broken s ≡ rows_break || misremembers s.last (is_row s) s.table.cores
      unfolding broken
      by_rows_or_memory = rw (eq-eqb (fault_of s.table) 0 none, le-ltb time_limit (time_of s) slot_left, some_breaks) refl

      pub by_rows : rows_break ≡ true → true ≡ broken s
      by_rows h = sym (by_rows_or_memory ∙ ap (λ b. b || misremembers s.last (is_row s) s.table.cores) h)

      pub by_memory : rows_break ≡ false → misremembers s.last (is_row s) s.table.cores ≡ broken s
      by_memory h = sym (by_rows_or_memory ∙ ap (λ b. b || misremembers s.last (is_row s) s.table.cores) h)
