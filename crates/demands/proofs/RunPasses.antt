-- The trace of a run that is no longer than a trace passes the check, or the check names the row and the time that the run named. Assumes nothing.
use Prim.Native.Nat.{ℕ, zero, suc, ◌+◌, ◌≤◌, ◌<◌}
use mathlib.Core.Path.{◌≡◌, refl, sym, ap, ◌∙◌, subst}
use mathlib.Core.List.{List, [], ◌∷◌}
use mathlib.Core.Bool.{true}
use mathlib.Core.Logic.{◌⊎◌, inl, inr}
use native.Mathlib.Decide.{ℕ_discrete, dec_le, dec_lt}
use native.Mathlib.Numerals.{add-one}
use native.Mathlib.Omega.{arith}
use lib.ListN.{length, take, drop}
use Rattle.fields.specs.Fields.{bytes_of}
use Rattle.facts.specs.First.{Lowest}
use Rattle.facts.proofs.First.{same_lowest}
use Rattle.table.specs.declared.Table.{Table}
use Rattle.table.specs.Value.{fault_of, rows_of}
use Rattle.pd2.specs.Ready.{ready, late}
use Rattle.pd2.specs.Share.{upper, within}
use Rattle.pd2.specs.Choice.{row_at, quanta_at}
use Rattle.pd2.proofs.Share.{row_can_be, upper_after_quantum_means_ready}
use Rattle.trace.specs.Records.{first_place, place_of, names, rows_of_slot, times_named, times_named_from}
use Rattle.trace.specs.Said.{bare, named}
use Rattle.trace.proofs.Records.{counted_if_named}
use Rattle.dispatcher.specs.State.{quanta_in, time_of, fresh_of}
use Rattle.dispatcher.specs.Slot.{slot_of}
use Rattle.dispatcher.specs.Run.{Step, step_of, Run, run, one_more}
use Rattle.dispatcher.proofs.Kept.{done_is_not_refused, goes, fault_answers_30}
use Rattle.dispatcher.proofs.RunKept.{going, one_on, first_late, first_late_is_lowest, quanta_are_records}
use Rattle.dispatcher.proofs.Written.{Written, written_going, written_last, shares_written, shares_before, ends_late}
use Rattle.checker.specs.Causes.{slot_limit, too_late}
use Rattle.checker.specs.Check.{trace_said}
use Rattle.checker.specs.WellFormed.{WellFormed}
use Rattle.checker.proofs.Sound.{InTime, passes_exactly}
use Rattle.checker.proofs.Rows.{within_was_ready, within_not_late}
use Rattle.checker.proofs.Passes.{checked_as_table}
use Rattle.checker.proofs.Late.{late_is_said}
use Rattle.demands.specs.RunPasses.{with_slot_count, trace_of, SaysTheSame, IsTraceOf, RunPasses}
use Rattle.demands.proofs.WithCount.{slots_are, count_is, is_well_formed, is_trace_of, records_pass}

-- What a trace of the run is: its count is the run's time.
abbrev IsTrace : Table → Run → Type 0
IsTrace table r = IsTraceOf table (time_of r.state) r.said (trace_of r)

trace_of_run : (table : Table) (r : Run) (n : ℕ) → time_of r.state ≡ n → IsTraceOf table n r.said (with_slot_count n r.bytes r.place) → IsTrace table r
trace_of_run table r n clock is = subst (λ t. IsTraceOf table t r.said (with_slot_count t r.bytes r.place)) (sym clock) is

module _ (table : Table) (steps : ℕ → Step) (buffer : List ℕ) (sound : fault_of table ≡ 0) (starts : first_place ≤ length buffer) where
  abbrev at : ℕ → Run
  at = run table steps buffer first_place

  -- A run of m slots that all answered 0.
  module _ (m : ℕ) (few : time_of (at m).state ≤ slot_limit) (e : (at m).said.number ≡ 0) where
    -- The time is m, and every row is within its share at each time: so the trace passes.
    passes_going : IsTrace table (at m)
    passes_going =
        let clock = (going table steps buffer first_place sound m e).clock in
        let written = written_going table steps buffer first_place sound starts m e in
        let short : m ≤ slot_limit = omega (arith, few, clock) in
        let passes = records_pass table m (at m).bytes (at m).place written short sound (λ t row k l. shares_written table steps buffer first_place sound starts m e row t l k) in
        trace_of_run table (at m) m clock
        (is_trace_of table m (at m).bytes (at m).place written short (record { passes = λ z. passes; late = λ z. absurd (omega (arith, e, z)) }))

  -- A run of m slots that answered 0, and one more that answered 1.
  module _ (m : ℕ) (few : time_of (at (suc m)).state ≤ slot_limit) (e : (at m).said.number ≡ 0) (is_late : (at (suc m)).said.number ≡ 1) where
    abbrev last : Run
    last = at (suc m)

    abbrev late_trace : List ℕ
    late_trace = with_slot_count (m + 1) last.bytes last.place

    -- the time is m + 1, and within the limit
    late_clock : (time_of last.state ≡ m + 1) × (m + 1 ≤ slot_limit)
    late_clock =
        let on = one_on table steps buffer first_place m (going table steps buffer first_place sound m e) e (omega (arith, is_late)) in
        (on.2, omega (arith, on.2, few))

    late_written : Written table first_place (m + 1) last.bytes last.place
    late_written = written_last table steps buffer first_place sound starts m e (omega (arith, is_late))

    -- every row is within its share at each time up to m,
    late_shares : (t row : ℕ) → t ≤ m → row < length (rows_of table) → within (row_at (rows_of table) row) (times_named late_trace row t) t ≡ true
    late_shares t row k l =
        rw (count_is table (m + 1) last.bytes last.place late_written late_clock.1 row t (omega arith))
        (shares_before table steps buffer first_place sound starts m e (omega (arith, is_late)) row t l k)

    -- so the slots before the last are in time;
    in_time_before : (t : ℕ) → t < m → InTime table late_trace t
    in_time_before t k =
        record {
          readied = λ row l. within_was_ready table late_trace sound row l t (late_shares (t + 1) row (omega arith) l);
          none_late = λ row l. within_not_late table late_trace sound row l (t + 1) (late_shares (t + 1) row (omega arith) l);
        }

    -- the trace counts the quanta that the run gave,
    quanta_counted : (i : ℕ) → quanta_at (quanta_in last.state) i ≡ times_named late_trace i (m + 1)
    quanta_counted i =
        quanta_are_records table steps buffer first_place (suc m) i
        ∙ (ap (times_named_from last.bytes first_place i) late_clock.0
        ∙ sym (count_is table (m + 1) last.bytes last.place late_written late_clock.1 i (m + 1) (omega arith)))

    -- the rows named in the last slot were ready, since the upper limits still hold after it,
    last_readied : (i : ℕ) → i < length (rows_of table) → names (rows_of_slot late_trace m) i ≡ true → ready (row_at (rows_of table) i) (times_named late_trace i m) m ≡ true
    last_readied i l named_there =
        let row = row_at (rows_of table) i in
        let with_one_more = quanta_counted i ∙ counted_if_named late_trace first_place i m named_there in
        let high = (first_late table steps buffer first_place sound m e is_late).2 i l in
        sym (upper_after_quantum_means_ready row (row_can_be table sound i l) (times_named late_trace i m) m)
        ∙ subst (λ q. upper row q (m + 1) ≡ true) with_one_more high

    -- and the row that the run named is the lowest late one
    lowest_counted : Lowest (too_late table late_trace (m + 1)) (length (rows_of table)) last.said.row
    lowest_counted =
        same_lowest (λ i. late (row_at (rows_of table) i) (quanta_at (quanta_in last.state) i) (m + 1)) (too_late table late_trace (m + 1)) (length (rows_of table)) last.said.row
        (λ i l. ap (λ q. late (row_at (rows_of table) i) q (m + 1)) (quanta_counted i))
        (first_late_is_lowest table steps buffer first_place sound m e is_late)

    -- So the check names the same row and time.
    named_late : IsTrace table last
    named_late =
        let first = first_late table steps buffer first_place sound m e is_late in
        let slots = slots_are table (m + 1) last.bytes last.place late_written late_clock.1 in
        let well = is_well_formed table (m + 1) last.bytes last.place late_written late_clock.1 in
        let said = late_is_said table late_trace m last.said.row lowest_counted first.1 well (slots ∙ add-one m) in_time_before last_readied in
        trace_of_run table last (m + 1) late_clock.0
        (is_trace_of table (m + 1) last.bytes last.place late_written late_clock.1
        record {
          passes = λ z. absurd (omega (arith, is_late, z));
          late = λ z. said ∙ ap (named 45 last.said.row) (sym first.0);
        })

-- So of a table without fault, in a buffer with a place for the first record.
run_of_sound_passes : (table : Table) (steps : ℕ → Step) (buffer : List ℕ) → fault_of table ≡ 0 → first_place ≤ length buffer → (m : ℕ) →
    (run table steps buffer first_place m).said.number < 2 → time_of (run table steps buffer first_place m).state ≤ slot_limit → IsTrace table (run table steps buffer first_place m)
run_of_sound_passes table steps buffer sound starts m h few = go (run table steps buffer first_place m).said.number refl h
  where
    go : (number : ℕ) → (run table steps buffer first_place m).said.number ≡ number → number < 2 → IsTrace table (run table steps buffer first_place m)
    go zero e l = passes_going table steps buffer sound starts m few e
    go (suc zero) e l =
        let ends = ends_late table steps buffer first_place m e in
        rw ends.same (named_late table steps buffer sound starts ends.slots (rw ends.same at few) ends.before ends.late)
    go (suc (suc number)) e l = absurd (omega arith)

-- The empty trace passes for every table.
module _ (table : Table) where
  abbrev no_records : List ℕ
  no_records = 0 ∷ 0 ∷ 0 ∷ 0 ∷ []

  nothing_behind : (n : ℕ) (b : List ℕ) → drop n (take n b) ≡ []
  nothing_behind zero b = refl
  nothing_behind (suc n) [] = refl
  nothing_behind (suc n) (x ∷ b) = nothing_behind n b

  pub no_slots : (b : List ℕ) → with_slot_count 0 b first_place ≡ no_records
  unfolding bytes_of
  no_slots b = ap (λ rest. 0 ∷ 0 ∷ 0 ∷ 0 ∷ rest) (nothing_behind first_place b)

  empty_is_well_formed : WellFormed table no_records
  unfolding place_of
  empty_is_well_formed = record { slot_count = refl; limit = refl; records = λ t l. absurd (omega arith); end = refl }

  nothing_is_found : trace_said table no_records ≡ bare 0
  nothing_is_found = (passes_exactly table no_records).1 (empty_is_well_formed, λ t l. absurd (omega arith))

  pub empty_is_trace : IsTraceOf table 0 (bare 0) no_records
  empty_is_trace =
      let said : SaysTheSame (bare 0) (trace_said table no_records) = record { passes = λ z. nothing_is_found; late = λ z. absurd (omega (arith, z)) } in
      record {
        slots = refl;
        well_formed = empty_is_well_formed;
        checked = said;
        checked_by_bytes = λ bytes e t. rw (checked_as_table table no_records bytes e t) said;
      }

  -- It is that of a run of no slots.
  nothing_is_trace : (steps : ℕ → Step) (buffer : List ℕ) → IsTrace table (run table steps buffer first_place 0)
  unfolding run
  nothing_is_trace steps buffer = rw (no_slots buffer) empty_is_trace

-- The first step is refused if the table has a fault, or if the place lies past the buffer,
module _ (table : Table) (buffer : List ℕ) where
  first_refused : (fault_of table ≡ 0 → ⊥) ⊎ (length buffer < first_place) → (step : Step) → 1 < (step_of (fresh_of table) step buffer first_place).said.number
  first_refused (inl bad) (Step.slot free) = omega (arith, ap (λ x. x.number) (fault_answers_30 table bad free buffer first_place))
  first_refused (inr short) (Step.slot free) = go (dec_lt (slot_of (fresh_of table) free buffer first_place).said.number 2)
    where
      go : Dec ((slot_of (fresh_of table) free buffer first_place).said.number < 2) → 1 < (slot_of (fresh_of table) free buffer first_place).said.number
      go (yes done) = absurd (omega (arith, (goes (fresh_of table) free buffer first_place (done_is_not_refused (fresh_of table) free buffer first_place done)).room))
      go (no refused) = omega arith

module _ (table : Table) (steps : ℕ → Step) (buffer : List ℕ) where
  -- and then so is the last answer of every run with a step.
  all_refused : 1 < (step_of (fresh_of table) (steps 0) buffer first_place).said.number → (m : ℕ) → 1 < (run table steps buffer first_place (suc m)).said.number
  unfolding run
  all_refused h zero = h
  all_refused h (suc m) = go (run table steps buffer first_place (suc m)) (all_refused h m)
    where
      go : (r : Run) → 1 < r.said.number → 1 < (one_more r.said.number r (steps (suc m))).said.number
      go r l = stays r.said.number refl l
        where
          stays : (number : ℕ) → r.said.number ≡ number → 1 < number → 1 < (one_more number r (steps (suc m))).said.number
          stays zero e l = absurd (omega arith)
          stays (suc number) e l = rw e l

  -- So if the last answer is 0 or 1 no step was made.
  pub nothing_done : (fault_of table ≡ 0 → ⊥) ⊎ (length buffer < first_place) → (m : ℕ) → (run table steps buffer first_place m).said.number < 2 → m ≡ 0
  nothing_done why zero l = refl
  nothing_done why (suc m) l = absurd (omega (arith, all_refused (first_refused table buffer why (steps 0)) m))

-- The trace of a run that is no longer than a trace passes the check, or the check names the row and the time that the run named.
pub run_passes : RunPasses
run_passes table steps buffer m h few = go (ℕ_discrete (fault_of table) 0) (dec_le first_place (length buffer))
  where
    nothing : (fault_of table ≡ 0 → ⊥) ⊎ (length buffer < first_place) → IsTrace table (run table steps buffer first_place m)
    nothing why = rw (nothing_done table steps buffer why m h) (nothing_is_trace table steps buffer)

    go : Dec (fault_of table ≡ 0) → Dec (first_place ≤ length buffer) → IsTrace table (run table steps buffer first_place m)
    go (yes sound) (yes starts) = run_of_sound_passes table steps buffer sound starts m h few
    go (no bad) starts = nothing (inl bad)
    go (yes sound) (no short) = nothing (inr (omega arith))
