-- A trace passes exactly if it is well formed and each slot is in time: what the findings of the check mean. Assumes nothing.
use Prim.Native.Nat.{ℕ, zero, suc, ◌+◌, ◌≤◌, ◌<◌}
use mathlib.Core.Path.{◌≡◌, refl}
use mathlib.Core.List.{List, [], ◌∷◌}
use mathlib.Core.Bool.{Bool, true, false, not, ◌&&◌, ◌||◌}
use mathlib.Core.Logic.{◌↔◌}
use native.Mathlib.Decide.{dec_lt}
use native.Mathlib.Omega.{arith}
use borrow.Author.Tests.{ltb-true, ltb-false, lt-ltb, le-ltb, not-false}
use lib.Dec.{ltb}
use lib.ListN.{length, get_or}
use Rattle.facts.specs.Counting.{those}
use Rattle.facts.specs.Findings.{NoneFound}
use Rattle.facts.proofs.Findings.{none_joined, none_apart}
use Rattle.facts.proofs.Tests.{neither_holds}
use Rattle.facts.proofs.Some.{none_if, each_fails}
use Rattle.facts.proofs.Listing.{listed_pass, listed_rise}
use Rattle.table.specs.declared.Table.{Table}
use Rattle.table.specs.Value.{rows_of}
use Rattle.pd2.specs.Ready.{ready, late}
use Rattle.pd2.specs.Choice.{row_at}
use Rattle.trace.specs.Records.{names, slots_in, place_in, rows_of_slot, times_named}
use Rattle.checker.specs.Causes.{bad_rows, RisingExactly, too_early, too_late, extra}
use Rattle.checker.specs.Check.{shape_at, time_findings, record_findings, records_findings, last_findings, trace_findings}
use Rattle.checker.specs.WellFormed.{SoundRecord, WellFormed}
use Rattle.checker.specs.Passes.{Passes}
use Rattle.checker.proofs.Said.{passes_where_none_found}

-- Slot t is in time: each row that it names was ready, and at its end no row is late.
pub record InTime (table : Table) (s : List ℕ) (t : ℕ) : Type 0 where
  pub readied : (row : ℕ) → row < length (rows_of table) → names (rows_of_slot s t) row ≡ true → ready (row_at (rows_of table) row) (times_named s row t) t ≡ true
  pub none_late : (row : ℕ) → row < length (rows_of table) → late (row_at (rows_of table) row) (times_named s row (t + 1)) (t + 1) ≡ false

-- If the first row and those after it are not bad, it is below n and not too low, and they are not bad above it.
not_bad_parts : (n least row : ℕ) (rows : List ℕ) → bad_rows n least (row ∷ rows) ≡ false → (row < n) × (least ≤ row) × (bad_rows n (row + 1) rows ≡ false)
unfolding bad_rows
not_bad_parts n least row rows h =
    let first = neither_holds (not (ltb row n) || ltb row least) (bad_rows n (row + 1) rows) h in
    let each = neither_holds (not (ltb row n)) (ltb row least) first.0 in
    (ltb-true row n (not-false _ each.0), ltb-false row least each.1, first.1)

-- Rising rows below n are not bad,
rising_not_bad : (n least : ℕ) (rows : List ℕ) → ((j : ℕ) → j < length rows → get_or rows j 0 < n) →
    ((i j : ℕ) → i < j → j < length rows → get_or rows i 0 < get_or rows j 0) → (0 < length rows → least ≤ get_or rows 0 0) → bad_rows n least rows ≡ false
unfolding bad_rows
rising_not_bad n least [] below rise low = refl
rising_not_bad n least (row ∷ rows) below rise low =
    rw (
      lt-ltb row n (below 0 (omega arith)),
      le-ltb row least (low (omega arith)),
      rising_not_bad n (row + 1) rows
          (λ j l. below (suc j) (omega arith))
          (λ i j l h. rise (suc i) (suc j) (omega arith) (omega arith))
          (λ l. omega (arith, rise 0 1 (omega arith) (omega arith))),
    )

-- rows that are not bad are below n, and none is lower than the least that may stand first,
not_bad_within : (n least : ℕ) (rows : List ℕ) → bad_rows n least rows ≡ false → (j : ℕ) → j < length rows → (least ≤ get_or rows j 0) × (get_or rows j 0 < n)
not_bad_within n least [] h j l = absurd (omega arith)
not_bad_within n least (row ∷ rows) h zero l = let x = not_bad_parts n least row rows h in (x.1, x.0)
not_bad_within n least (row ∷ rows) h (suc j) l =
    let x = not_bad_parts n least row rows h in
    let rest = not_bad_within n (row + 1) rows x.2 j (omega arith) in
    (omega (arith, x, rest), rest.1)

-- and rise.
not_bad_rises : (n least : ℕ) (rows : List ℕ) → bad_rows n least rows ≡ false → (i j : ℕ) → i < j → j < length rows → get_or rows i 0 < get_or rows j 0
not_bad_rises n least [] h i j b l = absurd (omega arith)
not_bad_rises n least (row ∷ rows) h i zero b l = absurd (omega arith)
not_bad_rises n least (row ∷ rows) h zero (suc j) b l = omega (arith, not_bad_within n (row + 1) rows (not_bad_parts n least row rows h).2 j (omega arith))
not_bad_rises n least (row ∷ rows) h (suc i) (suc j) b l = not_bad_rises n (row + 1) rows (not_bad_parts n least row rows h).2 i j (omega arith) (omega arith)

-- So rows are not bad exactly if they are below n and rise.
pub rising_exactly : RisingExactly
rising_exactly n rows = (
  λ h. (λ j l. (not_bad_within n 0 rows h j l).1, not_bad_rises n 0 rows h),
  λ x. rising_not_bad n 0 rows x.0 x.1 (λ l. omega arith),
)

-- So those that are listed below n are not bad.
pub listed_not_bad : (a : ℕ → Bool) (n : ℕ) → bad_rows n 0 (those a n) ≡ false
listed_not_bad a n = (rising_exactly n (those a n)).1 (λ j l. (listed_pass a n j 0 l).0, λ i j. listed_rise a n i j 0)

module _ (table : Table) (s : List ℕ) where
  -- Nothing is found in the shape of a record exactly if it is sound.
  pub none_in_shape : (place : ℕ) → NoneFound (shape_at table.cores (length (rows_of table)) s place) ↔ SoundRecord table s place
  none_in_shape place = (
    to,
    λ sound.
        NoneFound.later sound.head
        (NoneFound.later sound.cores (NoneFound.later sound.picked (NoneFound.later sound.rows (NoneFound.later sound.numbers NoneFound.end)))),
  )
    where
      to : NoneFound (shape_at table.cores (length (rows_of table)) s place) → SoundRecord table s place
      to (NoneFound.later a (NoneFound.later b (NoneFound.later c (NoneFound.later d (NoneFound.later e NoneFound.end))))) =
          record { head = a; cores = b; picked = c; rows = d; numbers = e }

  -- A row is not early exactly if it was ready where it is named.
  pub not_early : (t row : ℕ) → (too_early table s t row ≡ false) ↔ (names (rows_of_slot s t) row ≡ true → ready (row_at (rows_of table) row) (times_named s row t) t ≡ true)
  not_early t row = (λ h e. not-false _ (rw e at h), go (names (rows_of_slot s t) row))
    where
      go : (named : Bool) →
          (named ≡ true → ready (row_at (rows_of table) row) (times_named s row t) t ≡ true) →
          named && not (ready (row_at (rows_of table) row) (times_named s row t) t) ≡ false
      go true h = rw (h refl)
      go false h = refl

  -- Nothing is found in a slot exactly if it is in time.
  pub none_in_time : (t : ℕ) → NoneFound (time_findings table s t) ↔ InTime table s t
  none_in_time t = (to, from)
    where
      to : NoneFound (time_findings table s t) → InTime table s t
      to (NoneFound.later a (NoneFound.later b NoneFound.end)) =
          record {
            readied = λ row l. (not_early t row).0 (each_fails (too_early table s t) (length (rows_of table)) a row l);
            none_late = each_fails (too_late table s (t + 1)) (length (rows_of table)) b;
          }

      from : InTime table s t → NoneFound (time_findings table s t)
      from in_time =
          NoneFound.later (none_if (too_early table s t) (length (rows_of table)) (λ row l. (not_early t row).1 (in_time.readied row l)))
          (NoneFound.later (none_if (too_late table s (t + 1)) (length (rows_of table)) in_time.none_late) NoneFound.end)

  -- If nothing is found in the records of m slots from slot t on, nothing is in each,
  none_in_each : (t m : ℕ) → NoneFound (records_findings table s t m) → (j : ℕ) → t ≤ j → j < t + m → NoneFound (record_findings table s j)
  unfolding records_findings
  none_in_each t zero none j l k = absurd (omega arith)
  none_in_each t (suc m) none j l k =
      let parts = none_apart (record_findings table s t) none in
      go (dec_lt t j) parts.0 (none_in_each (t + 1) m parts.1 j)
    where
      go : Dec (t < j) → NoneFound (record_findings table s t) → (t + 1 ≤ j → j < t + 1 + m → NoneFound (record_findings table s j)) →
          NoneFound (record_findings table s j)
      go (yes h) here rest = rest (omega arith) (omega arith)
      go (no h) here rest = let same : j ≡ t = omega arith in rw same here

  -- and the other way round.
  none_in_all : (t m : ℕ) → ((j : ℕ) → t ≤ j → j < t + m → NoneFound (record_findings table s j)) → NoneFound (records_findings table s t m)
  unfolding records_findings
  none_in_all t zero each = NoneFound.end
  none_in_all t (suc m) each = none_joined (each t (omega arith) (omega arith)) (none_in_all (t + 1) m (λ j l k. each j (omega arith) (omega arith)))

  -- A trace passes exactly if it is well formed and each of its slots is in time.
  pub passes_exactly : Passes table s ↔ (WellFormed table s × ((t : ℕ) → t < slots_in s → InTime table s t))
  passes_exactly = (λ e. to ((passes_where_none_found table s).0 e), λ x. (passes_where_none_found table s).1 (from x.0 x.1))
    where
      to : NoneFound (trace_findings table s) → WellFormed table s × ((t : ℕ) → t < slots_in s → InTime table s t)
      to (NoneFound.later a (NoneFound.later b rest)) =
          let parts = none_apart (records_findings table s 0 (slots_in s)) rest in
          let each : (t : ℕ) → t < slots_in s → NoneFound (shape_at table.cores (length (rows_of table)) s (place_in s t)) × NoneFound (time_findings table s t) =
          λ t l. none_apart (shape_at table.cores (length (rows_of table)) s (place_in s t)) (none_in_each 0 (slots_in s) parts.0 t (omega arith) (omega arith)) in (
            record { slot_count = a; limit = b; records = λ t l. (none_in_shape (place_in s t)).0 (each t l).0; end = none_last parts.1 },
            λ t l. (none_in_time t).0 (each t l).1,
          )
        where
          none_last : NoneFound (last_findings s) → extra s ≡ false
          none_last (NoneFound.later c NoneFound.end) = c

      from : WellFormed table s → ((t : ℕ) → t < slots_in s → InTime table s t) → NoneFound (trace_findings table s)
      from well in_time =
          let each : (t : ℕ) → t < slots_in s → NoneFound (record_findings table s t) =
          λ t l. none_joined ((none_in_shape (place_in s t)).1 (well.records t l)) ((none_in_time t).1 (in_time t l)) in
          let records = none_in_all 0 (slots_in s) (λ t l k. each t (omega arith)) in
          NoneFound.later well.slot_count (NoneFound.later well.limit (none_joined records (NoneFound.later well.end NoneFound.end)))
