-- What is said of a trace whose last slot ends with a late row. Assumes nothing.
use Prim.Native.Nat.{ℕ, zero, suc, ◌+◌, ◌<◌}
use mathlib.Core.Path.{◌≡◌, ap, subst}
use mathlib.Core.List.{List}
use mathlib.Core.Bool.{true}
use native.Mathlib.Omega.{arith}
use lib.ListN.{length, get_or}
use Rattle.facts.specs.First.{Lowest}
use Rattle.facts.specs.Findings.{FirstFound, NoneFound}
use Rattle.facts.proofs.Findings.{first_is_said, none_joined, first_in_front, first_behind}
use Rattle.facts.proofs.Some.{some_if, none_if}
use Rattle.facts.proofs.Listing.{lowest_is_first}
use Rattle.table.specs.declared.Table.{Table}
use Rattle.table.specs.Value.{rows_of}
use Rattle.pd2.specs.Ready.{ready}
use Rattle.pd2.specs.Choice.{row_at}
use Rattle.trace.specs.Records.{names, slots_in, place_in, rows_of_slot, times_named}
use Rattle.trace.specs.Said.{Said, bare, named}
use Rattle.checker.specs.Causes.{too_early, too_late, lowest}
use Rattle.checker.specs.Check.{shape_at, time_findings, record_findings, records_findings, last_findings, trace_said}
use Rattle.checker.specs.WellFormed.{WellFormed}
use Rattle.checker.proofs.Sound.{InTime, none_in_shape, not_early, none_in_time}

module _ (table : Table) (s : List ℕ) where
  -- What is found first in the last of the records from slot t on is found first in all, if nothing is in the others.
  first_in_last : (last t m : ℕ) {x : Said} → t + m ≡ last → ((j : ℕ) → j < last → NoneFound (record_findings table s j)) →
      FirstFound (record_findings table s last) x → FirstFound (records_findings table s t (suc m)) x
  unfolding records_findings
  first_in_last last t zero {x} e none first =
      let same : last ≡ t = omega arith in
      first_in_front (records_findings table s (t + 1) 0) (subst (λ j. FirstFound (record_findings table s j) x) same first)
  first_in_last last t (suc m) e none first = first_behind (none t (omega arith)) (first_in_last last (t + 1) m (omega arith) none first)

  module _ (m row : ℕ) (low : Lowest (too_late table s (m + 1)) (length (rows_of table)) row) (is_row : row < length (rows_of table)) where
    -- If the rows of a slot were ready, and at its end a row is the lowest late one, that is found in it,
    late_is_found : ((i : ℕ) → i < length (rows_of table) → names (rows_of_slot s m) i ≡ true → ready (row_at (rows_of table) i) (times_named s i m) m ≡ true) →
        FirstFound (time_findings table s m) (named 45 row (m + 1))
    late_is_found readied =
        let none = none_if (too_early table s m) (length (rows_of table)) (λ i l. (not_early table s m i).1 (readied i l)) in
        let found = some_if (too_late table s (m + 1)) (length (rows_of table)) row is_row (low.passes is_row) in
        let first : lowest table (too_late table s (m + 1)) ≡ row = ap (λ l. get_or l 0 0) (lowest_is_first (too_late table s (m + 1)) (length (rows_of table)) row low is_row).1 in
        subst (λ i. FirstFound (time_findings table s m) (named 45 i (m + 1))) first (FirstFound.later none (FirstFound.here found))

    -- and if the trace is well formed, the slot its last and all before it in time, that is said.
    pub late_is_said : WellFormed table s → slots_in s ≡ suc m → ((t : ℕ) → t < m → InTime table s t) →
        ((i : ℕ) → i < length (rows_of table) → names (rows_of_slot s m) i ≡ true → ready (row_at (rows_of table) i) (times_named s i m) m ≡ true) →
        trace_said table s ≡ named 45 row (m + 1)
    unfolding trace_said
    late_is_said well slots in_time readied = first_is_said (bare 0) (FirstFound.later well.slot_count (FirstFound.later well.limit (first_in_front (last_findings s) found)))
      where
        shape : (t : ℕ) → t < suc m → NoneFound (shape_at table.cores (length (rows_of table)) s (place_in s t))
        shape t l = (none_in_shape table s (place_in s t)).1 (well.records t (omega (arith, slots)))

        found : FirstFound (records_findings table s 0 (slots_in s)) (named 45 row (m + 1))
        found =
            rw slots
            (first_in_last m 0 m (omega arith) (λ t l. none_joined (shape t (omega arith)) ((none_in_time table s t).1 (in_time t l)))
            (first_behind (shape m (omega arith)) (late_is_found readied)))
