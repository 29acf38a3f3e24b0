-- The rows of a state are those below n: what is asked of each of its rows is asked of the numbers below n. Assumes nothing.
use Prim.Native.Nat.{ℕ, ◌<◌}
use mathlib.Core.Path.{◌≡◌, ap}
use mathlib.Core.Bool.{Bool, ◌&&◌}
use borrow.Author.Tests.{lt-ltb}
use lib.Dec.{ltb}
use lib.ListN.{length}
use Rattle.facts.specs.Counting.{some, those}
use Rattle.facts.proofs.Counting.{same_count}
use Rattle.facts.proofs.Listing.{same_list}
use Rattle.table.specs.declared.Row.{Row}
use Rattle.dispatcher.specs.declared.State.{State}
use Rattle.dispatcher.specs.State.{rows_in, time_of}
use Rattle.dispatcher.specs.Broken.{of_row, some_row}
use Rattle.dispatcher.specs.Slot.{late_at, late_in}

-- Of numbers below n the test whether they are below n holds.
below_too : (f : ℕ → Bool) (n i : ℕ) → i < n → ltb i n && f i ≡ f i
below_too f n i l = rw (lt-ltb i n l)

module _ (s : State) where
  -- Some row is so exactly if some number below n is,
  pub some_row_is : (is : Row → ℕ → Bool) → some_row s is ≡ some (of_row s is) (length (rows_in s))
  some_row_is is = ap (ltb 0) (same_count _ (of_row s is) (length (rows_in s)) (below_too (of_row s is) (length (rows_in s))))

  -- and the late rows are the numbers below n that are late.
  pub late_rows : late_in s ≡ those (of_row s (late_at (time_of s))) (length (rows_in s))
  late_rows = same_list _ (of_row s (late_at (time_of s))) (length (rows_in s)) (below_too (of_row s (late_at (time_of s))) (length (rows_in s)))
