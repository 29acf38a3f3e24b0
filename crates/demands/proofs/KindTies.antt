-- Format 2 breaks ties kindly. Assumes nothing.
use Rattle.std.proofs.Common.{Ok}
use Prim.Native.Nat.{ℕ, ◌<◌}
use mathlib.Core.Path.{◌≡◌, refl, sym, ap, ◌∙◌}
use mathlib.Core.List.{List, [], ◌∷◌, flat_map}
use mathlib.Core.Bool.{Bool, true, false, not, ◌&&◌, ◌||◌, beq, true≢false, and-false}
use mathlib.Core.Logic.{◌↔◌}
use native.Mathlib.Omega.{arith}
use borrow.Author.Tests.{lt-ltb, ltb-true}
use lib.Dec.{ltb, eqb}
use lib.ListN.{length, get_or, replicate}
use Rattle.facts.specs.Rounding.{ceil_div}
use Rattle.facts.specs.First.{at_first}
use Rattle.facts.specs.Counting.{how_many, those}
use Rattle.facts.specs.Findings.{first_found}
use Rattle.facts.specs.Rising.{rising}
use Rattle.facts.specs.Places.{places, padded}
use Rattle.facts.specs.Below.{all_below}
use Rattle.facts.proofs.Tests.{both}
use Rattle.fields.specs.Fields.{bytes_of}
use Rattle.windows.specs.Windows.{start, deadline, bit, window_length, job_start}
use Rattle.windows.specs.Group.{heavy, stops, stop_time, group_deadline}
use Rattle.table.specs.declared.Table.{Table}
use Rattle.table.specs.Causes.{load}
use Rattle.table.specs.Value.{fault_of}
use Rattle.table.specs.Bytes.{table_number, reading}
use Rattle.table.specs.Fits.{rows_fit}
use Rattle.table.specs.Formats.{in_format}
use Rattle.table.specs.Writing.{bytes_of_row, bytes_of_table, write_number, writing, buffer_after}
use Rattle.table.proofs.Formats.{keeps_the_bytes}
use Rattle.pd2.specs.Ready.{ready, late}
use Rattle.pd2.specs.Share.{lower, upper}
use Rattle.pd2.specs.Order.{Before, before}
use Rattle.pd2.specs.Picks.{picked}
use Rattle.pd2.specs.Choice.{favours_nobody, ready_in, pd2_picks, given}
use Rattle.pd2.specs.InFormat1.{BeforeIn01}
use Rattle.pd2.proofs.Order.{only_last_decide, before_means_rule}
use Rattle.pd2.proofs.InFormat1.{alike_is_in_01}
use Rattle.pd2.proofs.Picks.{picks_are_best}
use Rattle.pd2.proofs.Choice.{pd2_is_strict}
use Rattle.trace.specs.Record.{with_front, with_record}
use Rattle.trace.specs.Records.{place_of, rows_at, names}
use Rattle.trace.specs.Said.{bare}
use Rattle.trace.proofs.Names.{listed_are_named}
use Rattle.cores.specs.Sets.{first_cores}
use Rattle.cores.specs.Placement.{ran_before}
use Rattle.cores.specs.Fault.{misremembers}
use Rattle.cores.specs.Cores.{wanted, left_over, in_turn, cores_for}
use Rattle.dispatcher.specs.declared.State.{State}
use Rattle.dispatcher.specs.State.{rows_in, quanta_in, time_of}
use Rattle.dispatcher.specs.Broken.{broken}
use Rattle.dispatcher.specs.Slot.{favoured_in, picks_in, refusal, slot_of}
use Rattle.dispatcher.specs.Run.{run}
use Rattle.dispatcher.proofs.Favoured.{same_favours}
use Rattle.dispatcher.proofs.Placed.{no_moves_if_all_free, ran_is_named_in_record, done_as_with_its_size, format_one_forgets, rows_decide}
use Rattle.why.specs.declared.Rule.TheVariants.{RanBefore}
use Rattle.why.specs.declared.Reason.TheVariants.{PassedOver}
use Rattle.why.specs.Rules.{rule_for}
use Rattle.why.specs.Lowest.{lowest_picked}
use Rattle.why.specs.Reasons.{is_ready, rank_in, goes_before}
use Rattle.why.specs.Why.{ready_from, reason_of, why_of}
use Rattle.demands.specs.KindLaws.{halves_after}
use Rattle.demands.specs.Inputs.{Bytes, Possible, CanAsk, CanWrite}
use Rattle.demands.specs.ShutOut.{Dispatcher, IsDispatcher, number_of, rows_written}
use Rattle.demands.specs.KindTies.{FormatOneIsIn01, KindTie, KindAfterSlot, FreshFavoursNobody, starts_after, StartsLess, as_in_format, exchanged, KindShutOut, KindTies}

-- In format 1 nobody is favoured.
in_format_1 : FormatOneIsIn01
in_format_1 s one = record { order = order; picks = λ k. same_favours (rows_in s) (quanta_in s) (λ row _. nobody row) (time_of s) k }
  where
    nobody : (row : ℕ) → favoured_in s row ≡ false
    nobody = format_one_forgets s one

    order : (j i : ℕ) → (goes_before s j i ≡ true) ↔ BeforeIn01 (rank_in s j) (rank_in s i)
    order j i =
        let rules = before_means_rule (rank_in s j) (rank_in s i) in
        let in_01 = alike_is_in_01 (rank_in s j) (rank_in s i) (nobody j ∙ sym (nobody i)) in
        (λ h. in_01.0 (rules.0 h), λ b. rules.1 (in_01.1 b))

-- In format 2 those are favoured that ran.
kind_tie : KindTie
kind_tie s j i two tie = record { goes_first = goes_first; lower = lower_row; picked_too = picked_too }
  where
    favours : (row : ℕ) → favoured_in s row ≡ ran_before s.last row
    favours row = rw two refl

    goes_first : ran_before s.last j ≡ true → ran_before s.last i ≡ false → goes_before s j i ≡ true
    goes_first ran other = (before_means_rule (rank_in s j) (rank_in s i)).1 (Before.by_favour tie (favours j ∙ ran) (favours i ∙ other))

    by_row : (f : Bool) → (f && not f) || (beq f f && ltb j i) ≡ ltb j i
    by_row true = refl
    by_row false = refl

    lower_row : ran_before s.last j ≡ ran_before s.last i → goes_before s j i ≡ ltb j i
    lower_row same =
        only_last_decide (rank_in s j) (rank_in s i) tie ∙ rw (favours j ∙ (same ∙ sym (favours i))) (by_row (favoured_in s i))

    picked_too : ran_before s.last j ≡ true → ran_before s.last i ≡ false → j < length (rows_in s) → is_ready s j (time_of s) ≡ true → (k : ℕ) →
        names (picks_in s k) i ≡ true → names (picks_in s k) j ≡ true
    picked_too ran other lj row_is_ready k named = go (is_picked j) refl
      where
        is_picked : ℕ → Bool
        is_picked = picked (ready_in (rows_in s) (quanta_in s) (time_of s)) (goes_before s) (length (rows_in s)) k

        named_if : (row : ℕ) → names (picks_in s k) row ≡ ltb row (length (rows_in s)) && is_picked row
        named_if = listed_are_named is_picked (length (rows_in s))

        -- i is a row, and picked
        other_picked : (ltb i (length (rows_in s)) ≡ true) × (is_picked i ≡ true)
        other_picked = both (ltb i (length (rows_in s))) (is_picked i) (sym (named_if i) ∙ named)

        go : (t : Bool) → is_picked j ≡ t → names (picks_in s k) j ≡ true
        go true e = named_if j ∙ rw (lt-ltb j (length (rows_in s)) lj) e
        go false e =
            let best = picks_are_best (ready_in (rows_in s) (quanta_in s) (time_of s)) (goes_before s) (length (rows_in s)) k (pd2_is_strict (rows_in s) (quanta_in s) (favoured_in s) (time_of s) (length (rows_in s))) in
            absurd (true≢false (sym (goes_first ran other) ∙ best.best j i lj (ltb-true i (length (rows_in s)) other_picked.0) row_is_ready e other_picked.1))

-- The rows that its record names ran in the slot before.
kind_after_slot : KindAfterSlot
kind_after_slot s free buffer place two done j i tie named other =
    let ran = ran_is_named_in_record s free buffer place done in
    let table = (done_as_with_its_size s free buffer place done).table in
    (kind_tie (slot_of s free buffer place).state j i (ap (λ t. t.format) table ∙ two) tie).goes_first (ran j ∙ named) (ran i ∙ other)

-- Fresh, nobody ran.
fresh_favours_nobody : FreshFavoursNobody
unfolding how_many
fresh_favours_nobody t row = and-false (eqb t.format 2)

-- Four rows of 1/2, computed.
starts_less : StartsLess
unfolding all_below rows_fit ceil_div at_first how_many those first_found rising places padded start deadline bit window_length job_start heavy stops stop_time group_deadline load fault_of table_number ready late lower upper before picked given with_front with_record place_of names misremembers wanted left_over in_turn cores_for broken refusal slot_of run starts_after
starts_less = record { picked_1 = refl; picked_2 = refl; starts_1 = refl; starts_2 = refl }

-- What is shut out, each by an example, computed: a table of no rows, and the four rows of 1/2 after rows 2 and 3 ran.
abbrev no_rows_in : ℕ → List ℕ
no_rows_in format = format ∷ 1 ∷ 0 ∷ 0 ∷ 0 ∷ 1 ∷ 0 ∷ 0 ∷ []

abbrev empty_in : ℕ → Table
empty_in format = in_format format (record { format = 1; cycle = 1; cores = 1; boards = replicate 8 0; n = 0; rows = replicate 32 (record { tank = 0; cost = 0; period = 0; phase = 0; kind = 0 }) })

abbrev blank : List ℕ
blank = replicate 10 0

abbrev after_two : ℕ → State
after_two format = halves_after format (2 ∷ 3 ∷ []) (0 ∷ 1 ∷ [])

abbrev fallen : State
fallen = halves_after 1 (3 ∷ 2 ∷ []) (0 ∷ 1 ∷ [])

record Computed : Type 0 where
  bytes_2 : Bytes (no_rows_in 2)
  taken_2 : table_number (no_rows_in 2) ≡ 0
  read_2 : (reading (no_rows_in 2)).number ≡ 0
  bytes_3 : Bytes (no_rows_in 3)
  refused_3 : table_number (no_rows_in 3) ≡ 11
  read_3 : (reading (no_rows_in 3)).number ≡ 11
  can_write_2 : CanWrite (empty_in 2) blank
  written_2 : (writing (empty_in 2) blank).number ≡ 0
  first_2 : get_or (buffer_after (empty_in 2) blank) 0 0 ≡ 2
  can_write_3 : CanWrite (empty_in 3) blank
  unwritten_3 : (writing (empty_in 3) blank).number ≡ 11
  can_1 : Possible (after_two 1) (first_cores 2) blank 0
  said_1 : (slot_of (after_two 1) (first_cores 2) blank 0).said ≡ bare 0
  rows_1 : rows_at (slot_of (after_two 1) (first_cores 2) blank 0).bytes 0 ≡ 0 ∷ 1 ∷ []
  always_1 : pd2_picks (rows_in (after_two 1)) (quanta_in (after_two 1)) (ran_before (after_two 1).last) 2 2 ≡ 2 ∷ 3 ∷ []
  can_2 : Possible (after_two 2) (first_cores 2) blank 0
  said_2 : (slot_of (after_two 2) (first_cores 2) blank 0).said ≡ bare 0
  rows_2 : rows_at (slot_of (after_two 2) (first_cores 2) blank 0).bytes 0 ≡ 2 ∷ 3 ∷ []
  forgotten_2 : pd2_picks (rows_in (after_two 2)) (quanta_in (after_two 2)) favours_nobody 2 2 ≡ 0 ∷ 1 ∷ []
  whole_1 : broken (as_in_format 1 (after_two 3)) ≡ false
  can_3 : Possible (after_two 3) (first_cores 2) blank 0
  said_3 : (slot_of (after_two 3) (first_cores 2) blank 0).said ≡ bare 30
  whole_risen : broken (exchanged fallen) ≡ false
  can_fall : Possible fallen (first_cores 2) blank 0
  said_fallen : (slot_of fallen (first_cores 2) blank 0).said ≡ bare 30
  can_ask : CanAsk (after_two 2) 2 0
  ran : why_of (after_two 2) 2 0 ≡ Ok (PassedOver 3 RanBefore)

computed : Computed
unfolding all_below rows_fit ceil_div at_first how_many those first_found rising places padded start deadline bit window_length job_start heavy stops stop_time group_deadline load fault_of table_number reading ready late lower upper before picked given with_front with_record names misremembers wanted left_over in_turn cores_for broken refusal slot_of rule_for lowest_picked ready_from reason_of why_of flat_map bytes_of bytes_of_row bytes_of_table write_number writing buffer_after
computed =
    record {
      bytes_2 = refl;
      taken_2 = refl;
      read_2 = refl;
      bytes_3 = refl;
      refused_3 = refl;
      read_3 = refl;
      can_write_2 = record { table = record { numbers = refl; boards = refl; rows = refl }; bytes = refl };
      written_2 = refl;
      first_2 = refl;
      can_write_3 = record { table = record { numbers = refl; boards = refl; rows = refl }; bytes = refl };
      unwritten_3 = refl;
      can_1 = record { table = record { numbers = refl; boards = refl; rows = refl }; quanta = refl; counts = refl; last_rows = refl; last_cores = refl; remembered = refl; marks = refl; bytes = refl };
      said_1 = refl;
      rows_1 = refl;
      always_1 = refl;
      can_2 = record { table = record { numbers = refl; boards = refl; rows = refl }; quanta = refl; counts = refl; last_rows = refl; last_cores = refl; remembered = refl; marks = refl; bytes = refl };
      said_2 = refl;
      rows_2 = refl;
      forgotten_2 = refl;
      whole_1 = refl;
      can_3 = record { table = record { numbers = refl; boards = refl; rows = refl }; quanta = refl; counts = refl; last_rows = refl; last_cores = refl; remembered = refl; marks = refl; bytes = refl };
      said_3 = refl;
      whole_risen = refl;
      can_fall = record { table = record { numbers = refl; boards = refl; rows = refl }; quanta = refl; counts = refl; last_rows = refl; last_cores = refl; remembered = refl; marks = refl; bytes = refl };
      said_fallen = refl;
      can_ask = record { state = record { table = record { numbers = refl; boards = refl; rows = refl }; quanta = refl; counts = refl; last_rows = refl; last_cores = refl; remembered = refl; marks = refl; bytes = refl }; numbers = refl };
      ran = refl;
    }

-- What a dispatcher answers to such a state, by its number, and the rows that it writes.
module _ (slot : Dispatcher) (is : IsDispatcher slot) (s : State) (can : Possible s (first_cores 2) blank 0) where
  says : {number : ℕ} → (slot_of s (first_cores 2) blank 0).said ≡ bare number → number_of (slot s (first_cores 2) blank 0) ≡ number
  says e = ap (λ x. x.number) ((is s (first_cores 2) blank 0 can).0 ∙ e)

  writes : {rows : List ℕ} → rows_at (slot_of s (first_cores 2) blank 0).bytes 0 ≡ rows → rows_written (slot s (first_cores 2) blank 0) 0 ≡ rows
  writes e = ap (λ bytes. rows_at bytes 0) (is s (first_cores 2) blank 0 can).3 ∙ e

-- Rows 0 and 1 are not rows 2 and 3.
other_rows : ◌≡◌ {A = List ℕ} (0 ∷ 1 ∷ []) (2 ∷ 3 ∷ []) → ⊥
other_rows e = let z : ◌≡◌ {A = ℕ} 0 2 = ap (λ l. get_or l 0 0) e in omega arith

kind_shut_out : KindShutOut
kind_shut_out =
    let c = computed in
    record {
      takes_no_format_2 = λ read is none. none (no_rows_in 2) c.bytes_2 refl (ap (λ r. r.number) (is (no_rows_in 2) c.bytes_2) ∙ c.read_2);
      takes_any_format = λ read is any. any (no_rows_in 3) c.bytes_3 (ap (λ r. r.number) (is (no_rows_in 3) c.bytes_3) ∙ c.read_3);
      board_takes_no_format_2 = λ check is none. none (no_rows_in 2) c.bytes_2 refl (is (no_rows_in 2) c.bytes_2 ∙ c.taken_2);
      board_takes_any_format = λ check is any. any (no_rows_in 3) c.bytes_3 (is (no_rows_in 3) c.bytes_3 ∙ c.refused_3);
      writes_format_1 = λ write is one.
          let w = is (empty_in 2) blank c.can_write_2 in
          let z : ◌≡◌ {A = ℕ} 2 1 = sym (ap (λ bytes. get_or bytes 0 0) w.1 ∙ c.first_2) ∙ one (empty_in 2) blank c.can_write_2 (ap (λ x. x.number) w.0 ∙ c.written_2) in
          omega arith;
      writes_any_format = λ write is any. any (empty_in 3) blank c.can_write_3 (ap (λ x. x.number) (is (empty_in 3) blank c.can_write_3).0 ∙ c.unwritten_3);
      kindness_forgotten = λ slot is forgets.
          let done = says slot is (after_two 2) c.can_2 c.said_2 in
          other_rows (sym (forgets (after_two 2) 2 blank 0 c.can_2 (omega (arith, done)) ∙ c.forgotten_2) ∙ writes slot is (after_two 2) c.can_2 c.rows_2);
      always_kind = λ slot is kind.
          let done = says slot is (after_two 1) c.can_1 c.said_1 in
          other_rows (sym (writes slot is (after_two 1) c.can_1 c.rows_1) ∙ (kind (after_two 1) 2 blank 0 c.can_1 (omega (arith, done)) ∙ c.always_1));
      runs_any_format = λ slot is runs. runs (after_two 3) (first_cores 2) blank 0 c.can_3 c.whole_1 (says slot is (after_two 3) c.can_3 c.said_3);
      runs_falling_rows = λ slot is runs. runs fallen (first_cores 2) blank 0 c.can_fall refl c.whole_risen (says slot is fallen c.can_fall c.said_fallen);
      never_says_ran = λ explain is never. never (after_two 2) 2 0 3 c.can_ask (is (after_two 2) 2 0 c.can_ask ∙ c.ran);
    }

pub kind_ties : KindTies
kind_ties =
    record {
      bytes = keeps_the_bytes;
      laws = pd2_is_strict;
      order = alike_is_in_01;
      format_1 = in_format_1;
      tie = kind_tie;
      ran = ran_is_named_in_record;
      after_slot = kind_after_slot;
      fresh = fresh_favours_nobody;
      forgets = format_one_forgets;
      rows_decide = rows_decide;
      example = starts_less;
      no_moves = no_moves_if_all_free;
      shut_out = kind_shut_out;
    }
