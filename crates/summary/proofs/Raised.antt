-- Counts that are raised record by record are those of the trace. Assumes nothing.
use Prim.Native.Nat.{ℕ, ◌+◌, ◌<◌}
use mathlib.Core.Path.{◌≡◌, sym, ap, ◌∙◌}
use mathlib.Core.List.{List}
use mathlib.Core.Bool.{Bool, true, false, cond}
use native.Mathlib.Omega.{arith}
use lib.ListN.{length, get_or}
use Rattle.facts.proofs.Counting.{counted_one_more}
use Rattle.table.specs.Limits.{row_limit}
use Rattle.trace.specs.Raising.{count_limit, raised_if, raised}
use Rattle.trace.specs.Records.{rows_at, first_place, place_in, names, named_in, times_named}
use Rattle.trace.proofs.Raising.{are_raised}
use Rattle.summary.specs.Summary.{counts_at}
use Rattle.summary.proofs.Summary.{counts_long, count_at}
use Rattle.summary.proofs.Right.{named_at_most}

-- a row that is named has a count that is one more
one_more : (q : ℕ) (named : Bool) → q < count_limit → raised_if named q ≡ q + cond named 1 0
one_more q true l = omega arith
one_more q false l = omega arith

-- The record of slot t raises the counts of time t to those of the next.
pub raised_is_next : (trace : List ℕ) (t : ℕ) → t < count_limit → raised (rows_at trace (place_in trace t)) 0 (counts_at trace t) ≡ counts_at trace (t + 1)
raised_is_next trace t l = sym (are_raised (rows_at trace (place_in trace t)) (counts_at trace t) (counts_long trace (t + 1) ∙ sym (counts_long trace t)) each)
  where
    each : (i : ℕ) → i < length (counts_at trace t) → get_or (counts_at trace (t + 1)) i 0 ≡ raised_if (names (rows_at trace (place_in trace t)) i) (get_or (counts_at trace t) i 0)
    each i h =
        let row : i < row_limit = omega (arith, counts_long trace t) in
        let named = names (rows_at trace (place_in trace t)) i in
        count_at trace (t + 1) i row
        ∙ (counted_one_more (named_in trace first_place i) t
        ∙ (sym (one_more (times_named trace i t) named (omega (arith, named_at_most trace i t))) ∙ ap (raised_if named) (sym (count_at trace t i row))))
