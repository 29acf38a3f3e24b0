-- Shorter slots: the limits, and what is shut out, by examples that are computed. Assumes nothing.
use Rattle.std.proofs.Common.{Ok, Err}
use Prim.Native.Nat.{ℕ, ◌^◌, ◌≤◌, ◌<◌}
use mathlib.Core.Path.{◌≡◌, refl, sym, ap, ◌∙◌}
use mathlib.Core.List.{List, [], ◌∷◌}
use mathlib.Core.Bool.{Bool, true, false}
use mathlib.Core.Logic.{◌↔◌}
use native.Mathlib.Omega.{arith}
use lib.Dec.{ltb}
use lib.ListN.{replicate}
use Rattle.facts.specs.Rounding.{ceil_div}
use Rattle.facts.specs.First.{at_first}
use Rattle.facts.specs.Counting.{how_many, those}
use Rattle.facts.specs.Findings.{first_found}
use Rattle.facts.specs.Rising.{rising}
use Rattle.facts.specs.Places.{places, padded}
use Rattle.facts.specs.Below.{all_below}
use Rattle.fields.specs.Fields.{bytes_of}
use Rattle.counts.specs.declared.Subtask.{Subtask}
use Rattle.windows.specs.Windows.{start, deadline, bit, window_length, job_start}
use Rattle.windows.specs.Group.{heavy, stops, stop_time, group_deadline}
use Rattle.windows.specs.Question.{last_subtask, window_reply}
use Rattle.windows.proofs.Question.{windows_are_answered, is_fit, fit_says}
use Rattle.table.specs.Causes.{load}
use Rattle.table.specs.Value.{fault_of}
use Rattle.table.specs.Fits.{rows_fit}
use Rattle.table.specs.Bytes.{table_number}
use Rattle.table.specs.Example.{example}
use Rattle.pd2.specs.Ready.{ready, late}
use Rattle.pd2.specs.Share.{lower, upper}
use Rattle.pd2.specs.Order.{before}
use Rattle.pd2.specs.Picks.{picked}
use Rattle.pd2.specs.Choice.{given}
use Rattle.trace.specs.Record.{with_front, with_record}
use Rattle.trace.specs.Records.{names}
use Rattle.trace.specs.Said.{bare}
use Rattle.cores.specs.Sets.{first_cores}
use Rattle.cores.specs.Fault.{misremembers}
use Rattle.cores.specs.Cores.{wanted, left_over, in_turn, cores_for}
use Rattle.dispatcher.specs.declared.State.{State}
use Rattle.dispatcher.specs.State.{time_of}
use Rattle.dispatcher.specs.Broken.{broken}
use Rattle.dispatcher.specs.Slot.{refusal, slot_of}
use Rattle.why.specs.declared.Reason.TheVariants.{Picked}
use Rattle.why.specs.declared.Refusal.TheVariants.{AtLimit}
use Rattle.why.specs.Rules.{rule_for}
use Rattle.why.specs.Lowest.{lowest_picked}
use Rattle.why.specs.Answer.{number_of as number_of_why}
use Rattle.why.specs.Why.{ready_from, reason_of, why_of}
use Rattle.checker.specs.Check.{records_findings, trace_said, check_of}
use Rattle.demands.specs.Inputs.{Bytes, CanAskWindow, Possible, CanAsk}
use Rattle.demands.specs.Bench.{plain_row, box}
use Rattle.demands.specs.LawInputs.{state_of, no_rows}
use Rattle.demands.specs.ShutOut.{Dispatcher, IsDispatcher, number_of}
use Rattle.demands.specs.ShorterSlots.{ShorterSlots}

-- Of a row that can be, the window of i is answered exactly if i is in 1 to the last one.
window_exactly : (e p f i : ℕ) → 0 < e → e ≤ p → ((window_reply e p f i).number ≡ 0) ↔ ((1 ≤ i) × (i ≤ last_subtask))
window_exactly e p f i cost weight = (
  λ none. let says = fit_says e p i (λ unfit. omega (arith, none, ap (λ reply. reply.number) ((windows_are_answered e p f i).if_unfit unfit))) in (says.2, says.3),
  λ within. ap (λ reply. reply.number) ((windows_are_answered e p f i).if_fit (is_fit e p i cost weight within.0 within.1)),
)

-- a state without rows at a time, with its one core free and ten bytes for the record
abbrev idle : ℕ → State
idle time = state_of no_rows time false []

abbrev one_core : List Bool
one_core = first_cores 1

abbrev blank : List ℕ
blank = replicate 10 0

-- Such a state can be, at any time that 64 bits hold, in any buffer;
can_be_idle_in : (time : ℕ) → ltb time (2 ^ 64) ≡ true → (buffer : List ℕ) → Bytes buffer → Possible (idle time) one_core buffer 0
unfolding all_below rows_fit places padded
can_be_idle_in time small buffer bytes =
    record {
      table = record { numbers = refl; boards = refl; rows = refl };
      quanta = refl;
      counts = rw small refl;
      last_rows = refl;
      last_cores = refl;
      remembered = refl;
      marks = refl;
      bytes = bytes;
    }

-- and so can its slot and the question why its row 0 waits.
module _ (time : ℕ) (small : ltb time (2 ^ 64) ≡ true) where
  can_be_idle : Possible (idle time) one_core blank 0
  unfolding all_below
  can_be_idle = can_be_idle_in time small blank refl

  can_ask_idle : CanAsk (idle time) 1 0
  unfolding all_below
  can_ask_idle = record { state = can_be_idle_in time small [] refl; numbers = refl }

-- a row of 1/2 that is due at the limit
abbrev due_at_limit : State
due_at_limit = state_of (box 2 1 (plain_row 0 1 2 ∷ [])) 999_999_999_999 false (499_999_999_999 ∷ [])

abbrev nth : ℕ → Subtask
nth i = record { 0 = i }

-- a count above the trace's limit, and no records
abbrev long_trace : List ℕ
long_trace = bytes_of 4 1_000_000_001

record Computed : Type 0 where
  in_last_slot : (slot_of (idle 999_999_999_999) one_core blank 0).said ≡ bare 0
  at_limit : (slot_of (idle 1_000_000_000_000) one_core blank 0).said ≡ bare 32
  past_32_bits : (slot_of (idle 4_294_967_295) one_core blank 0).said ≡ bare 0
  time_past_32_bits : time_of (slot_of (idle 4_294_967_295) one_core blank 0).state ≡ 4_294_967_296
  can_ask_why : CanAsk due_at_limit 1 0
  row_is_picked : why_of due_at_limit 1 0 ≡ Ok Picked
  asked_at_limit : why_of (idle 1_000_000_000_000) 1 0 ≡ Err AtLimit
  can_ask_last : CanAskWindow 1 2 0 (nth 1_000_000_000_001)
  can_ask_next : CanAskWindow 1 2 0 (nth 1_000_000_000_002)
  bytes : Bytes example
  long_bytes : Bytes long_trace
  too_long : check_of example long_trace ≡ bare 47

computed : Computed
unfolding all_below rows_fit ceil_div at_first how_many those first_found rising places padded start deadline bit window_length job_start heavy stops stop_time group_deadline load fault_of table_number ready late lower upper before picked given with_front with_record names misremembers wanted left_over in_turn cores_for broken refusal slot_of rule_for lowest_picked ready_from reason_of why_of bytes_of records_findings trace_said check_of
computed =
    record {
      in_last_slot = refl;
      at_limit = refl;
      past_32_bits = refl;
      time_past_32_bits = refl;
      can_ask_why =
          record {
            state =
                record {
                  table = record { numbers = refl; boards = refl; rows = refl };
                  quanta = refl;
                  counts = refl;
                  last_rows = refl;
                  last_cores = refl;
                  remembered = refl;
                  marks = refl;
                  bytes = refl;
                };
            numbers = refl;
          };
      row_is_picked = refl;
      asked_at_limit = refl;
      can_ask_last = refl;
      can_ask_next = refl;
      bytes = refl;
      long_bytes = refl;
      too_long = refl;
    }

-- What a dispatcher answers to such a state, by its number.
module _ (slot : Dispatcher) (is : IsDispatcher slot) (time : ℕ) (small : ltb time (2 ^ 64) ≡ true) where
  says : {number : ℕ} → (slot_of (idle time) one_core blank 0).said ≡ bare number → number_of (slot (idle time) one_core blank 0) ≡ number
  says e = ap (λ x. x.number) ((is (idle time) one_core blank 0 (can_be_idle time small)).0 ∙ e)

  leaves : time_of (slot (idle time) one_core blank 0).0.state ≡ time_of (slot_of (idle time) one_core blank 0).state
  leaves = ap time_of (is (idle time) one_core blank 0 (can_be_idle time small)).2

pub shorter_slots : ShorterSlots
shorter_slots =
    record {
      time_limit_is = refl;
      over_3_years = omega arith;
      last_subtask_is = refl;
      windows = window_exactly;
      slot_limit_is = refl;
      under_28_hours = omega arith;
      ends_too_early = λ slot is early.
          omega (arith, says slot is 999_999_999_999 refl computed.in_last_slot, early (idle 999_999_999_999) one_core blank 0 (can_be_idle 999_999_999_999 refl) (omega arith));
      never_ends = λ slot is never. never (idle 1_000_000_000_000) one_core blank 0 (can_be_idle 1_000_000_000_000 refl) (says slot is 1_000_000_000_000 refl computed.at_limit);
      time_in_32_bits = λ slot is small.
          let done = says slot is 4_294_967_295 refl computed.past_32_bits in
          omega (arith, leaves slot is 4_294_967_295 refl, computed.time_past_32_bits, small (idle 4_294_967_295) one_core blank 0 (can_be_idle 4_294_967_295 refl) (omega (arith, done)));
      reasons_end_too_early = λ explain is early.
          early due_at_limit 1 0 computed.can_ask_why (omega arith) (ap number_of_why (is due_at_limit 1 0 computed.can_ask_why ∙ computed.row_is_picked));
      reasons_never_end = λ explain is never.
          let can = can_ask_idle 1_000_000_000_000 refl in
          never (idle 1_000_000_000_000) 1 0 can (ap number_of_why (is (idle 1_000_000_000_000) 1 0 can ∙ computed.asked_at_limit));
      last_is_refused = λ window is refused.
          let last = nth 1_000_000_000_001 in
          let taken = (window_exactly 1 2 0 1_000_000_000_001 (omega arith) (omega arith)).1 (omega arith, omega arith) in
          omega (arith, ap (λ reply. reply.number) (is 1 2 0 last computed.can_ask_last), taken, refused 1 2 0 last computed.can_ask_last (omega arith));
      no_last_subtask = λ window is taken.
          let next = nth 1_000_000_000_002 in
          let none = ap (λ reply. reply.number) (is 1 2 0 next computed.can_ask_next) in
          let past = (window_exactly 1 2 0 1_000_000_000_002 (omega arith) (omega arith)).0 (sym none ∙ taken 1 2 0 next computed.can_ask_next (omega arith) (omega arith) (omega arith)) in
          omega (arith, past.1);
      takes_any_count = λ check is any. any example long_trace computed.bytes computed.long_bytes (ap (λ x. x.number) (is example long_trace computed.bytes computed.long_bytes ∙ computed.too_long));
      board_takes_any_count = λ check is any.
          any example long_trace computed.bytes computed.long_bytes (is example long_trace computed.bytes computed.long_bytes ∙ ap (λ x. x.number) computed.too_long);
    }
