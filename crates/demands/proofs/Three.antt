-- Demand 3. Assumes nothing.
use Prim.Native.Nat.{ℕ, ◌+◌, ◌*◌, ◌≤◌, ◌<◌, zero-le}
use mathlib.Core.Path.{◌≡◌, refl, sym, ap, ◌∙◌, subst}
use mathlib.Core.List.{List}
use mathlib.Core.Bool.{Bool, true, false, true≢false}
use mathlib.Core.Logic.{◌↔◌}
use native.Mathlib.Decide.{dec_lt, ℕ_discrete}
use native.Mathlib.Nat.{mul-zero, div-le_self}
use native.Mathlib.Omega.{arith}
use lib.ListN.{length}
use Rattle.counts.specs.Limits.{time_limit}
use Rattle.table.specs.declared.Row.{Row}
use Rattle.table.specs.declared.Table.{Table}
use Rattle.table.specs.Value.{fault_of, rows_of}
use Rattle.table.specs.Bytes.{table_in}
use Rattle.table.proofs.Taken.{taken_value_has_no_fault, sizes_are_within}
use Rattle.pd2.specs.Ready.{late}
use Rattle.pd2.specs.Share.{within, CanBe}
use Rattle.pd2.specs.Choice.{row_at, quanta_at}
use Rattle.pd2.proofs.Share.{row_can_be, late_exactly_if_owed}
use Rattle.trace.specs.Records.{times_named}
use Rattle.trace.specs.Said.{Said}
use Rattle.cores.specs.Sets.{size, names_past}
use Rattle.cores.proofs.Sets.{size_within}
use Rattle.dispatcher.specs.declared.State.{State}
use Rattle.dispatcher.specs.State.{rows_in, quanta_in, time_of, fresh_of}
use Rattle.dispatcher.specs.Broken.{broken}
use Rattle.dispatcher.specs.Slot.{picks_in, slot_of}
use Rattle.dispatcher.specs.Run.{Step}
use Rattle.dispatcher.proofs.Whole.{is_whole, nothing_given}
use Rattle.dispatcher.proofs.Placing.{picks_are_few}
use Rattle.dispatcher.proofs.Kept.{After, Goes, goes_back, not_refused_is_done, refusal_changes_nothing, done_makes_the_step, done_keeps_whole, fresh_is_whole, fault_answers_30}
use Rattle.dispatcher.proofs.RunKept.{one_when_late, quanta_are_records, records_stand_in_turn}
use Rattle.checker.proofs.Passes.{passes_in_shares, checked_as_table}
use Rattle.demands.specs.Limits.{since_phase, InLimits}
use Rattle.demands.specs.Three.{PassesInLimits, FromFresh, KeepsLimits, IsOwed, Reports, ReportsLate, DemandThree}
use Rattle.demands.proofs.Limits.{in_limits, upper_limit_is}
use Rattle.demands.proofs.WithCount.{word_bytes_are_read}
use Rattle.demands.proofs.RunPasses.{run_passes}
use Rattle.demands.proofs.LongerRuns.{first_slots_pass, longer_is_refused}

-- A well-formed trace passes exactly when each row is in its limits at each time: it passes as its table's trace does.
passes_in_limits : PassesInLimits
passes_in_limits bytes s e well =
    let table = table_in bytes in
    let sound = taken_value_has_no_fault bytes e in
    let means = passes_in_shares table s sound well in
    let same = checked_as_table table s bytes e refl in
    let limits : (t i : ℕ) (l : i < length (rows_of table)) → (within (row_at (rows_of table) i) (times_named s i t) t ≡ true) ↔ InLimits (row_at (rows_of table) i) (times_named s i t) t =
    λ t i l. in_limits (row_at (rows_of table) i) (row_can_be table sound i l) (times_named s i t) t in (
      λ h t i k l. (limits t i l).0 (means.0 (sym same ∙ h) t i k l),
      λ each. same ∙ means.1 (λ t i k l. (limits t i l).1 (each t i k l)),
    )

-- A slot that is done and does not answer 1 answers 0.
pub done_with_0 : {n : ℕ} → n < 2 → (n ≡ 1 → ⊥) → n ≡ 0
done_with_0 {n} l h = go (dec_lt n 1)
  where
    go : Dec (n < 1) → n ≡ 0
    go (yes m) = omega arith
    go (no m) = absurd (h (omega arith))

-- What is known of a state that slots have led to from a fresh start.
pub record Running (table : Table) (s : State) : Type 0 where
  pub same : s.table ≡ table
  pub whole : broken s ≡ false
  pub runs : s.stopped ≡ false

-- It is known of a fresh state,
pub fresh_runs : (table : Table) → fault_of table ≡ 0 → Running table (fresh_of table)
fresh_runs table sound = record { same = refl; whole = (fresh_is_whole table).1 sound; runs = refl }

-- and a slot that does not report a row late keeps it: it is done with 0, or refused and changes nothing.
pub still_runs : (table : Table) (s : State) (free : List Bool) (buffer : List ℕ) (place : ℕ) → Running table s → ((slot_of s free buffer place).said.number ≡ 1 → ⊥) →
    Running table (slot_of s free buffer place).state
still_runs table s free buffer place so not_late = go (dec_lt (slot_of s free buffer place).said.number 2)
  where
    go : Dec ((slot_of s free buffer place).said.number < 2) → Running table (slot_of s free buffer place).state
    go (yes done) =
        let after = done_keeps_whole s free buffer place done in
        record {
          same = ap (λ x. x.state.table) (done_makes_the_step s free buffer place done) ∙ so.same;
          whole = after.whole;
          runs = after.runs_on (done_with_0 done not_late);
        }
    go (no refused) = subst (Running table) (sym (refusal_changes_nothing s free buffer place (omega arith)).0) so

-- So it is known as long as no row is reported late.
running : (table : Table) (s : State) → fault_of table ≡ 0 → FromFresh table s → Running table s
running table _ sound FromFresh.start = fresh_runs table sound
running table _ sound (FromFresh.step s (Step.slot free) buffer place from not_late) = still_runs table s free buffer place (running table s sound from) not_late

-- Such a slot is done up to the time limit, if its cores are the table's own and it has ten bytes for its record.
pub done_with_room : (table : Table) (s : State) (free : List Bool) (buffer : List ℕ) (place : ℕ) → fault_of table ≡ 0 → Running table s → names_past table.cores free ≡ false →
    time_of s < time_limit → place + 10 ≤ length buffer → (slot_of s free buffer place).said.number < 2
done_with_room table s free buffer place sound so there time room =
    let few : length (picks_in s (size free)) ≤ 8 = omega (arith, picks_are_few s (size free), size_within table.cores free there, (sizes_are_within table sound).1.1) in
    let going : Goes s free buffer place = record { whole = so.whole; runs = so.runs; time = time; there = rw so.same there; room = omega arith } in
    not_refused_is_done s free buffer place (goes_back s free buffer place going)

-- A table with a fault stays fresh: each slot answers 30.
pub stays_fresh : (table : Table) (s : State) → (fault_of table ≡ 0 → ⊥) → FromFresh table s → s ≡ fresh_of table
stays_fresh table _ bad FromFresh.start = refl
stays_fresh table _ bad (FromFresh.step s (Step.slot free) buffer place from not_late) =
    let same = stays_fresh table s bad from in
    let said : (slot_of s free buffer place).said.number ≡ 30 =
    ap (λ x. (slot_of x free buffer place).said.number) same ∙ ap (λ x. x.number) (fault_answers_30 table bad free buffer place) in
    (refusal_changes_nothing s free buffer place (omega (arith, said))).0 ∙ same

-- and at time 0 nothing is more or less than any row's limits.
nothing_in_limits : (row : Row) → InLimits row 0 0
nothing_in_limits row =
    let none : row.cost * since_phase row 0 ≡ 0 = ap (λ a. row.cost * a) {x = since_phase row 0} {y = 0} (omega arith) ∙ mul-zero row.cost in
    record { at_least = omega (arith, none, div-le_self (row.cost * since_phase row 0) row.period); at_most = zero-le }

-- So every row is in its limits.
keeps_sound : (table : Table) (s : State) → fault_of table ≡ 0 → FromFresh table s → (i : ℕ) → i < length (rows_of table) →
    InLimits (row_at (rows_of table) i) (quanta_at (quanta_in s) i) (time_of s)
keeps_sound table s sound from =
    let so = running table s sound from in
    subst (λ x. (i : ℕ) → i < length (rows_of x) → InLimits (row_at (rows_of x) i) (quanta_at (quanta_in s) i) (time_of s)) so.same
    (λ i l. (in_limits (row_at (rows_in s) i) (row_can_be s.table (is_whole s so.whole).table i l) (quanta_at (quanta_in s) i) (time_of s)).0 ((is_whole s so.whole).shares so.runs i l))

keeps_limits : KeepsLimits
keeps_limits table s from i l = go (ℕ_discrete (fault_of table) 0)
  where
    go : Dec (fault_of table ≡ 0) → InLimits (row_at (rows_of table) i) (quanta_at (quanta_in s) i) (time_of s)
    go (yes sound) = keeps_sound table s sound from i l
    go (no bad) =
        subst (λ x. InLimits (row_at (rows_of table) i) (quanta_at (quanta_in x) i) (time_of x)) (sym (stays_fresh table s bad from))
        (rw (nothing_given table i) (nothing_in_limits (row_at (rows_of table) i)))

-- What a slot that is done reports, of its own table.
module _ (said : Said) (s : State) (after : After s said) (done : said.number < 2) where
  can : (i : ℕ) → i < length (rows_in s) → CanBe (row_at (rows_in s) i)
  can i l = row_can_be s.table (is_whole s after.whole).table i l

  -- late is the same as owed
  late_if_owed : (i : ℕ) → i < length (rows_in s) → (late (row_at (rows_in s) i) (quanta_at (quanta_in s) i) (time_of s) ≡ true) ↔ IsOwed s.table s i
  late_if_owed i l =
      let means = late_exactly_if_owed (row_at (rows_in s) i) (can i l) (quanta_at (quanta_in s) i) (time_of s) in
      (λ h. omega (arith, means.0 h), λ h. means.1 (omega arith))

  reports : Reports s.table said s
  reports =
      let means = one_when_late s said after done in
      record {
        exactly = (
          λ e. let found = means.0 e in (found.0, found.1, (late_if_owed found.0 found.1).0 found.2),
          λ found. means.1 (found.0, found.1, (late_if_owed found.0 found.1).1 found.2),
        );
        names_time = after.names_time;
        names_row = λ e. (after.row_is_there e, (late_if_owed said.row (after.row_is_there e)).0 ((after.names_row e).passes (after.row_is_there e)));
        names_lowest = λ e i l owed. true≢false (sym ((late_if_owed i (omega (arith, after.row_is_there e))).1 owed) ∙ (after.names_row e).none_before i l);
        uppers_hold = λ i l. upper_limit_is (row_at (rows_in s) i) (can i l) (quanta_at (quanta_in s) i) (time_of s) (after.uppers i l);
      }

-- And so of the table that it began with.
reports_late : ReportsLate
reports_late s free buffer place done =
    subst (λ x. Reports x (slot_of s free buffer place).said (slot_of s free buffer place).state) (ap (λ x. x.state.table) (done_makes_the_step s free buffer place done))
    (reports (slot_of s free buffer place).said (slot_of s free buffer place).state (done_keeps_whole s free buffer place done) done)

pub demand_three : DemandThree
demand_three =
    record {
      passes = passes_in_limits;
      keeps = keeps_limits;
      reports = reports_late;
      quanta = quanta_are_records;
      in_turn = records_stand_in_turn;
      slot_count_is_read = word_bytes_are_read;
      run_passes = run_passes;
      first_slots_pass = first_slots_pass;
      longer_is_refused = longer_is_refused;
    }
