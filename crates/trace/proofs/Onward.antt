-- Records are walked on from any of them. Assumes nothing.
use Prim.Native.Nat.{ℕ, zero, suc, ◌+◌}
use mathlib.Core.Path.{◌≡◌, ap}
use mathlib.Core.List.{List}
use native.Mathlib.Nat.{add-zero, add-suc}
use native.Mathlib.Omega.{arith}
use Rattle.facts.specs.Counting.{how_many}
use Rattle.trace.specs.Records.{rows_at, past_record, place_of, names, named_in, times_named_from}

-- The record of slot a + m is that of slot m from the place of slot a on,
pub place_from : (s : List ℕ) (from a m : ℕ) → place_of s from (a + m) ≡ place_of s (place_of s from a) m
unfolding place_of
place_from s from a zero = ap (place_of s from) (add-zero a)
place_from s from a (suc m) = rw (add-suc a m) (ap (past_record s) (place_from s from a m))

-- and so a row is counted.
pub count_from : (s : List ℕ) (from row a m : ℕ) → times_named_from s from row (a + m) ≡ times_named_from s from row a + times_named_from s (place_of s from a) row m
unfolding how_many
count_from s from row a zero = rw (add-zero a) (omega arith)
count_from s from row a (suc m) =
    rw (add-suc a m)
    (let before = count_from s from row a m in
    let same : named_in s from row (a + m) ≡ named_in s (place_of s from a) row m = ap (λ place. names (rows_at s place) row) (place_from s from a m) in
    rw (before, same) (omega arith))
