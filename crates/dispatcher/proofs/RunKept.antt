-- What a run keeps, whichever cores each slot had. Assumes nothing.
use Prim.Native.Nat.{ℕ, zero, suc, ◌+◌, ◌-◌, ◌≤◌, ◌<◌}
use mathlib.Core.Path.{◌≡◌, refl, sym, ap, ◌∙◌, subst}
use mathlib.Core.List.{List}
use mathlib.Core.Bool.{Bool, true, false, true≢false}
use mathlib.Core.Logic.{◌↔◌}
use native.Mathlib.Decide.{dec_lt}
use native.Mathlib.Numerals.{add-one}
use native.Mathlib.Omega.{arith}
use lib.ListN.{length}
use Rattle.facts.specs.First.{Lowest}
use Rattle.facts.proofs.Tests.{both}
use Rattle.facts.proofs.Counting.{none_counted}
use Rattle.table.specs.declared.Table.{Table}
use Rattle.table.specs.Limits.{row_limit}
use Rattle.table.specs.Value.{fault_of, rows_of}
use Rattle.pd2.specs.Ready.{late}
use Rattle.pd2.specs.Share.{lower, upper, within}
use Rattle.pd2.specs.Choice.{row_at, quanta_at}
use Rattle.pd2.proofs.Share.{row_can_be, late_means_below}
use Rattle.trace.specs.Said.{Said}
use Rattle.trace.specs.Records.{rows_at, place_of, named_in, times_named_from}
use Rattle.trace.proofs.Records.{next_place, named_once_more}
use Rattle.trace.proofs.Agree.{agrees_before, place_agrees, rows_written}
use Rattle.cores.specs.Sets.{size}
use Rattle.cores.specs.Placement.{rows_placed}
use Rattle.dispatcher.specs.declared.State.{State}
use Rattle.dispatcher.specs.State.{rows_in, quanta_in, time_of}
use Rattle.dispatcher.specs.Broken.{broken}
use Rattle.dispatcher.specs.Slot.{picks_in, record_in, placed_in, SlotReply, done_reply, slot_of}
use Rattle.dispatcher.specs.Run.{Step, step_of, record_by, Run, place_by, run_with, one_more, run}
use Rattle.dispatcher.specs.RunKept.{run_for, QuantaAreRecords, MemoryIsLastRecord, RecordsStandInTurn}
use Rattle.dispatcher.proofs.Whole.{Whole, is_whole, nothing_given}
use Rattle.dispatcher.proofs.Stepping.{places_stay}
use Rattle.dispatcher.proofs.Placing.{gets_best_cores}
use Rattle.dispatcher.proofs.Kept.{After, done_is_not_refused, Goes, goes, refusal_changes_nothing, done_makes_the_step, quanta_after, done_keeps_whole, fresh_is_whole}

-- A slot that is done answers 1 exactly if some row is late: with 1 the row that is named is, and with 0 all rows are within their shares, so none is.
pub one_when_late : (s : State) (said : Said) → After s said → said.number < 2 →
    (said.number ≡ 1) ↔ ((i : ℕ) × (i < length (rows_in s)) × (late (row_at (rows_in s) i) (quanta_at (quanta_in s) i) (time_of s) ≡ true))
one_when_late s said after h = (λ e. (said.row, after.row_is_there e, (after.names_row e).passes (after.row_is_there e)), λ found. go said.number refl h found)
  where
    whole : Whole s
    whole = is_whole s after.whole

    none_late : said.number ≡ 0 → (i : ℕ) → i < length (rows_in s) → late (row_at (rows_in s) i) (quanta_at (quanta_in s) i) (time_of s) ≡ true → ⊥
    none_late e i l is_late =
        let row = row_at (rows_in s) i in
        let inside = (both (lower row (quanta_at (quanta_in s) i) (time_of s)) _ (whole.shares (after.runs_on e) i l)).0 in
        let below = late_means_below row (row_can_be s.table whole.table i l) (quanta_at (quanta_in s) i) (time_of s) in
        true≢false (sym is_late ∙ rw inside at below)

    go : (n : ℕ) → said.number ≡ n → n < 2 → (i : ℕ) × (i < length (rows_in s)) × (late (row_at (rows_in s) i) (quanta_at (quanta_in s) i) (time_of s) ≡ true) → n ≡ 1
    go zero e l found = absurd (none_late e found.0 found.1 found.2)
    go (suc zero) e l found = refl
    go (suc (suc n)) e l found = absurd (omega arith)

-- After m slots that answered 0: what the run has come to.
pub record Going (table : Table) (s : State) (m : ℕ) : Type 0 where
  pub same : s.table ≡ table
  pub clock : time_of s ≡ m
  pub whole : broken s ≡ false
  pub runs : s.stopped ≡ false
  pub long : length s.quanta ≡ row_limit

-- every row is then within its share
going_shares : (table : Table) (s : State) (m : ℕ) → Going table s m → (i : ℕ) → i < length (rows_of table) → within (row_at (rows_of table) i) (quanta_at (quanta_in s) i) m ≡ true
going_shares table s m g i l =
    let inside = (is_whole s g.whole).shares g.runs i (rw g.same l) in
    ap (λ t. within (row_at (rows_of t) i) (quanta_at (quanta_in s) i) m) (sym g.same)
    ∙ (ap (λ t. within (row_at (rows_in s) i) (quanta_at (quanta_in s) i) t) (sym g.clock) ∙ inside)

-- Where the records of a run stand: as many as the time says, one behind the other up to the next place; the quanta are counted in them, and the last is remembered.
record Stands (from : ℕ) (s : State) (b : List ℕ) (next : ℕ) : Type 0 where
  long : length s.quanta ≡ row_limit
  place : next ≡ place_of b from (time_of s)
  counts : (i : ℕ) → quanta_at (quanta_in s) i ≡ times_named_from b from i (time_of s)
  memory : 0 < time_of s → rows_placed s.last ≡ rows_at b (place_of b from (time_of s - 1))

-- one record more
stands_after : (from : ℕ) (s : State) (b : List ℕ) (next : ℕ) (free : List Bool) → Stands from s b next → Goes s free b next →
    Stands from (done_reply s free b next).state (done_reply s free b next).bytes (next + length (record_in s (size free)))
stands_after from s b next free so can =
    let whole = is_whole s can.whole in
    let inside : place_of b from (time_of s) ≤ length b = omega (arith, so.place, can.room) in
    record {
      long = places_stay s (picks_in s (size free)) (placed_in s free) ∙ so.long;
      place = rw (so.place, add-one (time_of s)) (sym (next_place b from (time_of s) (size free) (picks_in s (size free)) inside));
      counts = λ i.
          quanta_after s free whole so.long i
          ∙ rw (so.counts i, so.place, add-one (time_of s)) (sym (named_once_more b from (time_of s) (size free) (picks_in s (size free)) inside i));
      memory = λ _. (gets_best_cores s free whole can.there).rows ∙ sym last_record;
    }
  where
    after : List ℕ
    after = (done_reply s free b next).bytes

    stands_next : place_of after from (time_of s) ≡ next
    stands_next =
        place_agrees from next after b (agrees_before b next (size free) (picks_in s (size free)) can.room from) (time_of s) (omega (arith, so.place)) ∙ sym so.place

    last_record : rows_at after (place_of after from (time_of s + 1 - 1)) ≡ picks_in s (size free)
    last_record =
        ap (λ t. rows_at after (place_of after from t)) {x = time_of s + 1 - 1} {y = time_of s} (omega arith)
        ∙ (ap (rows_at after) stands_next ∙ rows_written b next (size free) (picks_in s (size free)) can.room)

-- The place goes behind the record with 0 and 1,
pub place_behind : (number place : ℕ) (entry : List ℕ) → number < 2 → place_by number place entry ≡ place + length entry
place_behind zero place entry l = refl
place_behind (suc zero) place entry l = refl
place_behind (suc (suc n)) place entry l = absurd (omega arith)

-- and with another number it stays
place_kept : (number place : ℕ) (entry : List ℕ) → 1 < number → place_by number place entry ≡ place
place_kept zero place entry l = absurd (omega arith)
place_kept (suc zero) place entry l = absurd (omega arith)
place_kept (suc (suc n)) place entry l = refl

-- one step more, done or refused
stands_on : (from : ℕ) (s : State) (b : List ℕ) (next : ℕ) (step : Step) → Stands from s b next →
    Stands from (step_of s step b next).state (step_of s step b next).bytes (place_by (step_of s step b next).said.number next (record_by s step))
stands_on from s b next (Step.slot free) so = go (dec_lt (slot_of s free b next).said.number 2)
  where
    go : Dec ((slot_of s free b next).said.number < 2) →
        Stands from (slot_of s free b next).state (slot_of s free b next).bytes (place_by (slot_of s free b next).said.number next (record_in s (size free)))
    go (yes h) =
        let step = done_makes_the_step s free b next h in
        let can = goes s free b next (done_is_not_refused s free b next h) in
        rw (place_behind _ next (record_in s (size free)) h, step) (stands_after from s b next free so can)
    go (no h) =
        let refused : 1 < (slot_of s free b next).said.number = omega arith in
        let same = refusal_changes_nothing s free b next refused in
        rw (same.0, same.1, place_kept _ next (record_in s (size free)) refused) so

-- What a step that is done keeps and adds.
pub record StepDone (s : State) (r : SlotReply) : Type 0 where
  pub after : After r.state r.said
  pub table : r.state.table ≡ s.table
  pub time : time_of r.state ≡ time_of s + 1
  pub places : length r.state.quanta ≡ length s.quanta

pub step_done : (s : State) (step : Step) (b : List ℕ) (place : ℕ) → (step_of s step b place).said.number < 2 → StepDone s (step_of s step b place)
step_done s (Step.slot free) b place h =
    let step = done_makes_the_step s free b place h in
    record {
      after = done_keeps_whole s free b place h;
      table = ap (λ x. x.state.table) step;
      time = ap (λ x. time_of x.state) step;
      places = ap (λ x. length x.state.quanta) step ∙ places_stay s (picks_in s (size free)) (placed_in s free);
    }

module _ (table : Table) (steps : ℕ → Step) (buffer : List ℕ) (place : ℕ) where
  -- A run goes on with one step if its last answer was 0,
  pub next_run : (m : ℕ) → (run_for table steps buffer place m).said.number ≡ 0 →
      let r = run_for table steps buffer place m in
      run_for table steps buffer place (suc m) ≡ run_with (step_of r.state (steps m) r.bytes r.place) r (record_by r.state (steps m))
  unfolding run
  next_run m e = rw e

  -- so where it answers 0 it answered 0 before.
  pub before_too : (m : ℕ) → (run_for table steps buffer place (suc m)).said.number ≡ 0 → (run_for table steps buffer place m).said.number ≡ 0
  unfolding run
  before_too m = let r = run_for table steps buffer place m in go r r.said.number refl
    where
      go : (r : Run) (n : ℕ) → r.said.number ≡ n → (one_more n r (steps m)).said.number ≡ 0 → r.said.number ≡ 0
      go r zero e h = e
      go r (suc n) e h = h

  -- One step more that is done keeps the table and the places, and the time is one higher.
  pub one_on : (m : ℕ) → (let r = run_for table steps buffer place m in Going table r.state m) →
      (run_for table steps buffer place m).said.number ≡ 0 → (run_for table steps buffer place (suc m)).said.number < 2 →
      let r = run_for table steps buffer place (suc m) in
      After r.state r.said × (r.state.table ≡ table) × (time_of r.state ≡ m + 1) × (length r.state.quanta ≡ row_limit)
  one_on m g e h =
      let r = run_for table steps buffer place m in
      let next = next_run m e in
      let done : (step_of r.state (steps m) r.bytes r.place).said.number < 2 = rw next at h in
      let step = step_done r.state (steps m) r.bytes r.place done in
      rw next (step.after, step.table ∙ g.same, step.time ∙ ap (λ t. t + 1) g.clock, step.places ∙ g.long)

  -- While every answer is 0 the run goes on.
  pub going : fault_of table ≡ 0 → (m : ℕ) → (run_for table steps buffer place m).said.number ≡ 0 → Going table (run_for table steps buffer place m).state m
  unfolding run
  going h zero e = record { same = refl; clock = refl; whole = (fresh_is_whole table).1 h; runs = refl; long = refl }
  going h (suc m) e =
      let earlier = before_too m e in
      let on = one_on m (going h m earlier) earlier (omega (arith, e)) in
      record { same = on.1; clock = on.2 ∙ add-one m; whole = on.0.whole; runs = on.0.runs_on e; long = on.3 }

  -- While every answer is 0, m slots lead to time m, and every row is within its share.
  pub keeps_shares : fault_of table ≡ 0 → (m : ℕ) → (run_for table steps buffer place m).said.number ≡ 0 →
      let s = (run_for table steps buffer place m).state in
      (time_of s ≡ m) × ((i : ℕ) → i < length (rows_of table) → within (row_at (rows_of table) i) (quanta_at (quanta_in s) i) m ≡ true)
  keeps_shares h m e = let g = going h m e in (g.clock, going_shares table (run_for table steps buffer place m).state m g)

  -- At the first late time that time and a row of the table are named, and all upper limits hold.
  pub first_late : fault_of table ≡ 0 → (m : ℕ) → (run_for table steps buffer place m).said.number ≡ 0 →
      let r = run_for table steps buffer place (suc m) in
      r.said.number ≡ 1 →
      (r.said.time ≡ m + 1) × (r.said.row < length (rows_of table))
      × ((i : ℕ) → i < length (rows_of table) → upper (row_at (rows_of table) i) (quanta_at (quanta_in r.state) i) (m + 1) ≡ true)
  first_late h m e l =
      let on = one_on m (going h m e) e (omega (arith, l)) in
      let s = (run_for table steps buffer place (suc m)).state in
      let said = (run_for table steps buffer place (suc m)).said in
      let after = on.0 in
      subst (λ t. (said.time ≡ m + 1) × (said.row < length (rows_of t)) × ((i : ℕ) → i < length (rows_of t) → upper (row_at (rows_of t) i) (quanta_at (quanta_in s) i) (m + 1) ≡ true)) on.1
      (after.names_time l ∙ on.2, after.row_is_there l, λ i k. subst (λ t. upper (row_at (rows_in s) i) (quanta_at (quanta_in s) i) t ≡ true) on.2 (after.uppers i k))

  -- The row that is named then is the lowest late row.
  pub first_late_is_lowest : fault_of table ≡ 0 → (m : ℕ) → (run_for table steps buffer place m).said.number ≡ 0 →
      (let r = run_for table steps buffer place (suc m) in r.said.number ≡ 1 → Lowest (λ i. late (row_at (rows_of table) i) (quanta_at (quanta_in r.state) i) (m + 1)) (length (rows_of table)) r.said.row)
  first_late_is_lowest h m e l =
      let on = one_on m (going h m e) e (omega (arith, l)) in
      let r = run_for table steps buffer place (suc m) in
      subst (λ t. Lowest (λ i. late (row_at (rows_of t) i) (quanta_at (quanta_in r.state) i) (m + 1)) (length (rows_of t)) r.said.row) on.1
      (subst (λ t. Lowest (λ i. late (row_at (rows_in r.state) i) (quanta_at (quanta_in r.state) i) t) (length (rows_in r.state)) r.said.row) on.2 (on.0.names_row l))

  -- Slot after slot the records stand: a slot that is done writes one behind the others, a refused one changes nothing, and after an answer
  -- that is not 0 the run is at its end.
  stands : (m : ℕ) → let r = run_for table steps buffer place m in Stands place r.state r.bytes r.place
  unfolding run place_of
  stands zero =
      record {
        long = refl;
        place = refl;
        counts = λ i. nothing_given table i ∙ sym (none_counted (named_in buffer place i));
        memory = λ begun. absurd (omega arith);
      }
  stands (suc m) = let r = run_for table steps buffer place m in go r r.said.number (stands m)
    where
      go : (r : Run) (n : ℕ) → Stands place r.state r.bytes r.place →
          let next = one_more n r (steps m) in
          Stands place next.state next.bytes next.place
      go r zero so = stands_on place r.state r.bytes r.place (steps m) so
      go r (suc n) so = so

  -- The quanta of each row are as many as the records that name it,
  pub quanta_are_records : QuantaAreRecords table steps buffer place
  quanta_are_records m i = (stands m).counts i

  -- the state remembers the rows of the last one,
  pub memory_is_last_record : MemoryIsLastRecord table steps buffer place
  memory_is_last_record m = (stands m).memory

  -- and the records stand one behind the other.
  pub records_stand_in_turn : RecordsStandInTurn table steps buffer place
  records_stand_in_turn m = (stands m).place
