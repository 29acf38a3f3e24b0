-- Until a row is late, one with e = p has a core in every slot. Assumes nothing.
use Prim.Native.Nat.{ℕ, ◌+◌, ◌-◌, ◌*◌, ◌/◌, ◌≤◌, ◌<◌}
use mathlib.Core.Path.{◌≡◌, refl, sym, ap, ◌∙◌, subst}
use mathlib.Core.Bool.{true}
use native.Mathlib.Nat.{div-eq_of_eq-mul_left}
use native.Mathlib.Decide.{dec_lt, dec_le, ℕ_discrete}
use native.Mathlib.Omega.{arith}
use lib.ListN.{length}
use Rattle.facts.specs.Rounding.{ceil_div}
use Rattle.facts.specs.First.{at_first}
use Rattle.facts.specs.Counting.{how_many, those}
use Rattle.facts.specs.Findings.{first_found}
use Rattle.facts.specs.Rising.{rising}
use Rattle.facts.specs.Places.{places, padded}
use Rattle.facts.proofs.Rounding.{ceil_between}
use Rattle.facts.proofs.Tests.{both}
use Rattle.fields.specs.Fields.{bytes_of}
use Rattle.windows.specs.Windows.{start, deadline, bit, window_length, job_start}
use Rattle.windows.specs.Group.{heavy, stops, stop_time, group_deadline}
use Rattle.windows.specs.Question.{window_reply}
use Rattle.windows.proofs.WholeCore.{whole_core_rows}
use Rattle.table.specs.declared.Row.{Row}
use Rattle.table.specs.declared.Table.{Table}
use Rattle.table.specs.Causes.{load}
use Rattle.table.specs.Value.{fault_of, rows_of}
use Rattle.table.specs.Bytes.{table_number}
use Rattle.pd2.specs.Ready.{ready, late}
use Rattle.pd2.specs.Share.{lower, upper, CanBe}
use Rattle.pd2.specs.Order.{before}
use Rattle.pd2.specs.Picks.{picked}
use Rattle.pd2.specs.Choice.{row_at, quanta_at, given}
use Rattle.pd2.proofs.Readiness.{ready_is_past_origin}
use Rattle.pd2.proofs.Share.{row_can_be, upper_after_quantum_means_ready}
use Rattle.trace.specs.Record.{with_front, with_record}
use Rattle.trace.specs.Records.{place_of, names}
use Rattle.cores.specs.Fault.{misremembers}
use Rattle.cores.specs.Cores.{wanted, left_over, in_turn, cores_for}
use Rattle.dispatcher.specs.declared.State.{State}
use Rattle.dispatcher.specs.State.{quanta_in, time_of}
use Rattle.dispatcher.specs.Broken.{broken}
use Rattle.dispatcher.specs.Slot.{refusal, slot_of}
use Rattle.dispatcher.specs.Run.{Step, run}
use Rattle.dispatcher.proofs.Whole.{nothing_given}
use Rattle.dispatcher.proofs.Kept.{refusal_changes_nothing}
use Rattle.dispatcher.proofs.Places.{at_most_one_quantum}
use Rattle.checker.specs.Causes.{bad_rows}
use Rattle.checker.specs.Check.{records_findings, trace_said, check_of}
use Rattle.demands.specs.Limits.{since_phase, share_down, share_up, InLimits}
use Rattle.demands.specs.Three.{FromFresh}
use Rattle.demands.specs.Bench.{same, all_hold}
use Rattle.demands.specs.NeverLate.{WithCores}
use Rattle.demands.specs.WholeCore.{IsWholeCore, WindowsOfOneSlot, HasRunInAll, KeepsItsCore, one_camera, two_cameras, whole_core_lines, WholeCore}
use Rattle.demands.proofs.Limits.{in_limits}
use Rattle.demands.proofs.Meanings.{meanings}
use Rattle.demands.proofs.Two.{picks_are_pd2s}
use Rattle.demands.proofs.Three.{stays_fresh, demand_three}
use Rattle.demands.proofs.NeverLate.{never_late}

-- The numbers of a row with e = p.
module _ (row : Row) (whole : IsWholeCore row) where
  period : 0 < row.period
  period = omega (arith, whole)

  -- The share is a whole number: the slots since the phase.
  share : (a : ℕ) → row.cost * a ≡ a * row.period
  share a = ap (λ x. x * a) whole.1 ∙ omega arith

  share_down_is : (t : ℕ) → share_down row t ≡ since_phase row t
  share_down_is t = div-eq_of_eq-mul_left period (share (since_phase row t))

  share_up_is : (t : ℕ) → share_up row t ≡ since_phase row t
  share_up_is t =
      let product = share (since_phase row t) in
      ceil_between (row.cost * since_phase row t) row.period (since_phase row t) period (omega arith) (omega (arith, period))

  -- Its next subtask has one slot.
  one_slot : (q t : ℕ) → WindowsOfOneSlot row q t
  one_slot q t =
      let means = meanings.row row q t in
      let window = whole_core_rows.windows row.period row.phase (q + 1) period (omega arith) in
      let next = meanings.window row.period row.period row.phase (q + 1) in
      let begins : row.phase + q * row.period / row.cost ≡ row.phase + q = ap (λ x. row.phase + q * row.period / x) whole.1 ∙ ap (λ x. row.phase + x) (div-eq_of_eq-mul_left period refl) in
      let ends : row.phase + ((q + 1) * row.period + (row.cost - 1)) / row.cost ≡ row.phase + (q + 1) =
      ap (λ x. row.phase + ((q + 1) * row.period + (x - 1)) / x) whole.1 ∙ sym next.deadline_is ∙ window.ends in
      record {
        ready_is = λ plain. (λ h. omega (arith, (means.ready_plain plain).0 h, begins), λ h. (means.ready_plain plain).1 (omega (arith, h, begins)));
        late_is = (λ h. omega (arith, means.late_is.0 h, ends), λ h. means.late_is.1 (omega (arith, h, ends)));
        limits_are = λ plain. (
          λ limits. omega (arith, limits.at_least, rw plain at limits.at_most, share_down_is t, share_up_is t),
          λ as_many. record { at_least = omega (arith, as_many, share_down_is t); at_most = rw plain (omega (arith, as_many, share_up_is t)) },
        );
      }

-- A row may have had a quantum at time t + 1 if it was ready in slot t, and then its phase had begun.
phase_has_begun : (row : Row) → CanBe row → (q t : ℕ) → InLimits row (q + 1) (t + 1) → row.phase ≤ t
phase_has_begun row can q t limits =
    ready_is_past_origin row q t
    (sym (upper_after_quantum_means_ready row can q t) ∙ (both (lower row (q + 1) (t + 1)) _ ((in_limits row can (q + 1) (t + 1)).1 limits)).1)

module _ (table : Table) (sound : fault_of table ≡ 0) (i : ℕ) (there : i < length (rows_of table)) where
  -- No row of a table without fault has more quanta than slots since its phase: before it has none, and then at most one a slot.
  at_most_one_a_slot : (s : State) → FromFresh table s → quanta_at (quanta_in s) i ≤ since_phase (row_at (rows_of table) i) (time_of s)
  at_most_one_a_slot _ FromFresh.start = omega (arith, nothing_given table i)
  at_most_one_a_slot _ (FromFresh.step s (Step.slot free) buffer place from not_late) = go (dec_lt (slot_of s free buffer place).said.number 2) (at_most_one_a_slot s from)
    where
      after : State
      after = (slot_of s free buffer place).state

      one_more : quanta_at (quanta_in after) i ≤ quanta_at (quanta_in s) i + 1
      one_more = at_most_one_quantum s free buffer place i

      limits : InLimits (row_at (rows_of table) i) (quanta_at (quanta_in after) i) (time_of after)
      limits = demand_three.keeps table after (FromFresh.step s (Step.slot free) buffer place from not_late) i there

      began : time_of after ≡ time_of s + 1 → Dec ((row_at (rows_of table) i).phase ≤ time_of s) → quanta_at (quanta_in s) i ≤ since_phase (row_at (rows_of table) i) (time_of s) →
          Dec (quanta_at (quanta_in after) i < 1) → quanta_at (quanta_in after) i ≤ since_phase (row_at (rows_of table) i) (time_of after)
      began time (yes past) few _ = omega (arith, one_more)
      began time (no yet) few (yes none) = omega arith
      began time (no yet) few (no some) =
          let one : quanta_at (quanta_in after) i ≡ 0 + 1 = omega (arith, one_more) in
          absurd (omega (arith, phase_has_begun (row_at (rows_of table) i) (row_can_be table sound i there) 0 (time_of s) (rw (one, time) at limits)))

      go : Dec ((slot_of s free buffer place).said.number < 2) → quanta_at (quanta_in s) i ≤ since_phase (row_at (rows_of table) i) (time_of s) →
          quanta_at (quanta_in after) i ≤ since_phase (row_at (rows_of table) i) (time_of after)
      go (yes done) few = began (picks_are_pd2s s free buffer place done).time (dec_le _ _) few (dec_lt _ _)
      go (no refused) few = subst (λ x. quanta_at (quanta_in x) i ≤ since_phase (row_at (rows_of table) i) (time_of x)) (sym (refusal_changes_nothing s free buffer place (omega arith)).0) few

  -- One with e = p has as many.
  keeps_if_sound : (s : State) → FromFresh table s → IsWholeCore (row_at (rows_of table) i) → HasRunInAll table s i
  keeps_if_sound s from whole =
      let least = (demand_three.keeps table s from i there).at_least in
      omega (arith, least, share_down_is (row_at (rows_of table) i) whole (time_of s), at_most_one_a_slot s from)

-- A table with a fault has run no slot.
keeps_its_core : KeepsItsCore
keeps_its_core table s from i there whole = go (ℕ_discrete (fault_of table) 0)
  where
    go : Dec (fault_of table ≡ 0) → HasRunInAll table s i
    go (yes sound) = keeps_if_sound table sound i there s from whole
    go (no bad) = subst (λ x. HasRunInAll table x i) (sym (stays_fresh table s bad from)) (nothing_given table i ∙ omega arith)

-- Slots with enough cores never report a row late.
from_fresh : (table : Table) (c : ℕ) → fault_of table ≡ 0 → load table.cycle (rows_of table) ≤ c * table.cycle → (s : State) → WithCores table c s → FromFresh table s
from_fresh table c sound few _ WithCores.start = FromFresh.start
from_fresh table c sound few _ (WithCores.step s (Step.slot free) buffer place from enough) =
    FromFresh.step s (Step.slot free) buffer place (from_fresh table c sound few s from) ((never_late.some_cores table c sound few).never_1 s from free buffer place enough)

lines_hold : all_hold whole_core_lines ≡ true
unfolding ceil_div at_first how_many those first_found rising places padded start deadline bit window_length job_start heavy stops stop_time group_deadline window_reply load fault_of table_number ready late lower upper before picked given with_front with_record place_of names misremembers wanted left_over in_turn cores_for broken refusal slot_of run bad_rows records_findings trace_said check_of bytes_of same all_hold
lines_hold = refl

pub whole_core : WholeCore
unfolding first_found rising places padded bytes_of load table_number
whole_core =
    record {
      windows = whole_core_rows;
      one_slot = λ row q t whole. one_slot row whole q t;
      keeps_its_core = keeps_its_core;
      always_keeps_its_core = λ table c sound few s from. keeps_its_core table s (from_fresh table c sound few s from);
      camera_taken = refl;
      camera_never_late = never_late.all_cores one_camera refl;
      cameras_full = refl;
      cameras_never_late = never_late.all_cores two_cameras refl;
      lines = lines_hold;
    }
