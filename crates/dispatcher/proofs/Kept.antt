-- What one slot keeps, and what its answers mean. Assumes nothing.
use Prim.Native.Nat.{ℕ, zero, suc, ◌+◌, ◌-◌, ◌≤◌, ◌<◌}
use mathlib.Core.Path.{◌≡◌, refl, sym, ap, subst, ◌∙◌}
use mathlib.Core.List.{List, [], ◌∷◌}
use mathlib.Core.Bool.{Bool, true, false, cond, not, ◌&&◌}
use mathlib.Core.Logic.{◌↔◌, ◌⊎◌, inl, inr, ⊎_elim}
use native.Mathlib.Decide.{dec_lt}
use native.Mathlib.Omega.{arith}
use lib.Dec.{ltb, leb, eqb}
use lib.ListN.{length, get_or-eq_default}
use borrow.Author.Tests.{ltb-true, ltb-false, leb-true, eqb-false, not-false, not-true}
use Rattle.facts.specs.Counting.{some}
use Rattle.facts.specs.First.{Lowest}
use Rattle.facts.specs.Findings.{FirstFound, NoneFound}
use Rattle.facts.proofs.Tests.{both, hold_both, neither_holds}
use Rattle.facts.proofs.First.{a_lowest}
use Rattle.facts.proofs.Some.{some_if, none_if, each_fails}
use Rattle.facts.proofs.Listing.{some_listed, none_is_listed, lowest_is_first}
use Rattle.facts.proofs.Findings.{AllSay, said_exactly, none_exactly, otherwise_or_such}
use Rattle.counts.specs.Limits.{time_limit}
use Rattle.table.specs.declared.Row.{Row}
use Rattle.table.specs.declared.Table.{Table}
use Rattle.table.specs.Limits.{row_limit}
use Rattle.table.specs.Value.{fault_of}
use Rattle.pd2.specs.Share.{lower, upper, CanBe}
use Rattle.pd2.specs.Picks.{picked}
use Rattle.pd2.specs.Choice.{row_at, quanta_at, given, ready_in, goes_before_by}
use Rattle.pd2.specs.Order.{before}
use Rattle.pd2.proofs.Share.{row_can_be, nothing_is_within, upper_kept_when_idle, upper_after_quantum_means_ready, late_means_below}
use Rattle.pd2.proofs.Picks.{picked_is_ready}
use Rattle.pd2.proofs.Choice.{given_at}
use Rattle.trace.specs.Record.{with_record}
use Rattle.trace.specs.Records.{rows_at, names}
use Rattle.trace.proofs.Names.{listed_are_named}
use Rattle.trace.proofs.Agree.{rows_written}
use Rattle.trace.specs.Said.{Said, bare}
use Rattle.cores.specs.Sets.{size, names_past}
use Rattle.cores.specs.Fault.{misremembers}
use Rattle.cores.proofs.Placed.{nobody_is_remembered}
use Rattle.dispatcher.specs.declared.State.{State}
use Rattle.dispatcher.specs.State.{rows_in, is_row, quanta_in, time_of, fresh_of}
use Rattle.dispatcher.specs.Broken.{of_row, broken}
use Rattle.dispatcher.specs.Answer.{done_said}
use Rattle.dispatcher.specs.Slot.{favoured_in, picks_in, record_in, late_at, late_in, placed_in, after_slot, stopped_by, slot_tests, refusal, done_reply, slot_by, slot_of}
use Rattle.dispatcher.specs.Places.{RefusalChangesNothing, FaultAnswers30}
use Rattle.counts.proofs.Numbers.{as_many_numbers, as_counted}
use Rattle.dispatcher.proofs.Rows.{late_rows}
use Rattle.dispatcher.proofs.Stepping.{places_stay}
use Rattle.dispatcher.proofs.Refused.{has_room_for, first_30, first_31, by_room}
use Rattle.dispatcher.proofs.Whole.{Whole, is_whole, is_not_broken, rows_have_places, nothing_given}
use Rattle.dispatcher.proofs.Placing.{placed_has_no_fault}

-- A slot is done with 0 or 1.
pub done_number : (late : List ℕ) (time : ℕ) → (done_said late time).number < 2
done_number [] time = omega arith
done_number (lowest ∷ others) time = omega arith

-- The number of a refusal: 30 to 35, but not 33.
abbrev pub IsRefusal : ℕ → Type 0
IsRefusal number = (30 ≤ number) × (number ≤ 35) × (number ≡ 33 → ⊥)

is_refusal : (number : ℕ) → leb 30 number && leb number 35 && not (eqb number 33) ≡ true → IsRefusal number
is_refusal number h =
    let three = both (leb 30 number && leb number 35) (not (eqb number 33)) h in
    let two = both (leb 30 number) (leb number 35) three.0 in
    (leb-true 30 number two.0, leb-true number 35 two.1, eqb-false number 33 (not-true (eqb number 33) three.1))

module _ (s : State) (free : List Bool) (buffer : List ℕ) (place : ℕ) where
  -- for callers

  -- Each of the tests has such a number,
  all_refuse : AllSay IsRefusal (slot_tests s free buffer place)
  all_refuse =
      AllSay.next (is_refusal 30 refl) (AllSay.next (is_refusal 31 refl) (AllSay.next (is_refusal 32 refl) (AllSay.next (is_refusal 35 refl) (AllSay.next (is_refusal 34 refl) AllSay.end))))

  -- so a refusal has one.
  pub refusal_numbers : (refusal s free buffer place ≡ 0) ⊎ IsRefusal (refusal s free buffer place)
  unfolding refusal
  refusal_numbers = otherwise_or_such 0 all_refuse

  -- A slot whose number is 0 or 1 was not refused,
  pub done_is_not_refused : (slot_of s free buffer place).said.number < 2 → refusal s free buffer place ≡ 0
  unfolding slot_of
  done_is_not_refused = go (refusal s free buffer place) refusal_numbers
    where
      go : (r : ℕ) → (r ≡ 0) ⊎ IsRefusal r → (slot_by r s free buffer place).said.number < 2 → r ≡ 0
      go zero n h = refl
      go (suc r) (inl n) h = n
      go (suc r) (inr n) h = absurd (omega (arith, n.0))

  -- and one that was not refused makes the step.
  pub slot_done : refusal s free buffer place ≡ 0 → slot_of s free buffer place ≡ done_reply s free buffer place
  unfolding slot_of
  slot_done e = ap (λ r. slot_by r s free buffer place) e

  pub not_refused_is_done : refusal s free buffer place ≡ 0 → (slot_of s free buffer place).said.number < 2
  not_refused_is_done e = rw (slot_done e) (done_number (late_in (after_slot s free)) (time_of s + 1))

  -- What is known where a slot is not refused.
  pub record Goes : Type 0 where
    pub whole : broken s ≡ false
    pub runs : s.stopped ≡ false
    pub time : time_of s < time_limit
    pub there : names_past s.table.cores free ≡ false
    pub room : place + length (record_in s (size free)) ≤ length buffer

  -- Such a slot meets none of the causes.
  pub goes : refusal s free buffer place ≡ 0 → Goes
  unfolding refusal
  goes h = go ((none_exactly 0 all_refuse (λ number. omega (arith, number.0))).0 h)
    where
      go : NoneFound (slot_tests s free buffer place) → Goes
      go (NoneFound.later whole (NoneFound.later runs (NoneFound.later limit (NoneFound.later there (NoneFound.later lacks NoneFound.end))))) =
          let slot_left : time_of s ≡ time_limit → ⊥ = eqb-false (time_of s) time_limit limit in
          let room = neither_holds (ltb (length buffer) place) _ lacks in
          record {
            whole = whole;
            runs = runs;
            time = omega (arith, (is_whole s whole).time);
            there = there;
            room = omega (arith, ltb-false (length buffer) place room.0, ltb-false (length buffer - place) (2 + length (picks_in s (size free))) room.1);
          }

  -- And one that meets none is not refused.
  pub goes_back : Goes → refusal s free buffer place ≡ 0
  goes_back g = by_room s free buffer place g.whole g.runs g.time g.there {lacks = false} (has_room_for buffer place (length (picks_in s (size free))) (omega (arith, g.room)))

  -- Its record names the rows that are picked.
  pub record_names_picks : Goes → {bytes : List ℕ} → bytes ≡ with_record buffer place (record_in s (size free)) → rows_at bytes place ≡ picks_in s (size free)
  record_names_picks g e = ap (λ b. rows_at b place) e ∙ rows_written buffer place (size free) (picks_in s (size free)) g.room

  -- A number above 1 is the refusal's.
  pub refused_number : (number : ℕ) → 1 < number → ((slot_of s free buffer place).said.number ≡ number) ↔ (refusal s free buffer place ≡ number)
  unfolding slot_of
  refused_number number h = go (refusal s free buffer place)
    where
      go : (r : ℕ) → ((slot_by r s free buffer place).said.number ≡ number) ↔ (r ≡ number)
      go zero = (
        λ e. absurd (omega (arith, done_number (late_in (after_slot s free)) (time_of s + 1), e)),
        λ e. absurd (omega arith),
      )
      go (suc r) = (λ e. e, λ e. e)

-- A slot answers a number above 1 exactly if its cause is the first met,
pub refusals_are_first_causes : (s : State) (free : List Bool) (buffer : List ℕ) (place number : ℕ) → 1 < number →
    ((slot_of s free buffer place).said.number ≡ number) ↔ FirstFound (slot_tests s free buffer place) number
unfolding refusal
refusals_are_first_causes s free buffer place number h =
    let same = refused_number s free buffer place number h in
    let first = said_exactly 0 (slot_tests s free buffer place) {x = number} (λ z. omega arith) in
    (λ e. first.0 (same.0 e), λ m. same.1 (first.1 m))

-- and then state and buffer are as they were.
pub refusal_changes_nothing : RefusalChangesNothing
unfolding slot_of
refusal_changes_nothing s free buffer place = go (refusal s free buffer place)
  where
    go : (r : ℕ) → 1 < (slot_by r s free buffer place).said.number → ((slot_by r s free buffer place).state ≡ s) × ((slot_by r s free buffer place).bytes ≡ buffer)
    go zero h = absurd (omega (arith, done_number (late_in (after_slot s free)) (time_of s + 1)))
    go (suc r) h = (refl, refl)

-- With 0 or 1 it makes the step.
pub done_makes_the_step : (s : State) (free : List Bool) (buffer : List ℕ) (place : ℕ) → (slot_of s free buffer place).said.number < 2 →
    slot_of s free buffer place ≡ done_reply s free buffer place
done_makes_the_step s free buffer place h = slot_done s free buffer place (done_is_not_refused s free buffer place h)

-- a state has as many places for quanta as its list
as_many_places : (s : State) → length (quanta_in s) ≡ length s.quanta
as_many_places s = as_many_numbers s.quanta

-- All rows are within their upper limits.
abbrev pub UppersHold : State → Type 0
UppersHold s = (i : ℕ) → i < length (rows_in s) → of_row s (λ row q. upper row q (time_of s)) i ≡ true

-- A slot that is done, so from a state that is neither broken nor stopped, leads to one that is not broken. With 0 it is not stopped. With 1 it
-- is, the answer names the lowest late row and the new time, and all upper limits hold.
pub record After (s : State) (said : Said) : Type 0 where
  pub whole : broken s ≡ false
  pub uppers : UppersHold s
  pub runs_on : said.number ≡ 0 → s.stopped ≡ false
  pub stops : said.number ≡ 1 → s.stopped ≡ true
  pub names_time : said.number ≡ 1 → said.time ≡ time_of s
  pub row_is_there : said.number ≡ 1 → said.row < length (rows_in s)
  pub names_row : said.number ≡ 1 → Lowest (of_row s (late_at (time_of s))) (length (rows_in s)) said.row

-- What a slot gives, with a set of cores free.
module _ (s : State) (free : List Bool) where
  -- A row that is named is picked, so it is a ready row of the table.
  pub named_is_ready : (i : ℕ) → names (picks_in s (size free)) i ≡ true → (i < length (rows_in s)) × (ready_in (rows_in s) (quanta_in s) (time_of s) i ≡ true)
  named_is_ready i h =
      let test = picked (ready_in (rows_in s) (quanta_in s) (time_of s)) (goes_before_by before (rows_in s) (quanta_in s) (favoured_in s)) (length (rows_in s)) (size free) in
      let x = both (ltb i (length (rows_in s))) (test i) (sym (listed_are_named test (length (rows_in s)) i) ∙ h) in
      (ltb-true i (length (rows_in s)) x.0, picked_is_ready _ _ _ (size free) i x.1)

  -- a row that has a place has one quantum more if it is picked,
  given_in_place : (i : ℕ) → i < length s.quanta → quanta_at (quanta_in (after_slot s free)) i ≡ quanta_at (quanta_in s) i + cond (names (picks_in s (size free)) i) 1 0
  given_in_place i l =
      ap (λ l. quanta_at l i) (as_counted (given (names (picks_in s (size free))) 0 (quanta_in s)))
      ∙ (given_at (names (picks_in s (size free))) 0 (quanta_in s) i (omega (arith, as_many_places s))
      ∙ ap (λ j. quanta_at (quanta_in s) i + cond (names (picks_in s (size free)) j) 1 0) {x = 0 + i} {y = i} (omega arith))

  -- and one that has none has no quanta, as before
  none_past_places : (i : ℕ) → length s.quanta ≤ i → quanta_at (quanta_in (after_slot s free)) i ≡ quanta_at (quanta_in s) i
  none_past_places i l =
      get_or-eq_default (quanta_in (after_slot s free)) 0 {n = i} (omega (arith, as_many_places (after_slot s free), places_stay s (picks_in s (size free)) (placed_in s free)))
      ∙ sym (get_or-eq_default (quanta_in s) 0 {n = i} (omega (arith, as_many_places s)))

  -- Each row has one quantum more if it is picked, in a whole state with places for 32 rows,
  pub quanta_after : Whole s → length s.quanta ≡ row_limit → (i : ℕ) → quanta_at (quanta_in (after_slot s free)) i ≡ quanta_at (quanta_in s) i + cond (names (picks_in s (size free)) i) 1 0
  quanta_after whole long i = go (dec_lt i row_limit) (names (picks_in s (size free)) i) refl
    where
      go : Dec (i < row_limit) → (t : Bool) → names (picks_in s (size free)) i ≡ t → quanta_at (quanta_in (after_slot s free)) i ≡ quanta_at (quanta_in s) i + cond (names (picks_in s (size free)) i) 1 0
      go (yes l) t e = given_in_place i (omega (arith, long))
      go (no l) true e = absurd (omega (arith, (named_is_ready i e).0, rows_have_places s.table whole.table))
      go (no l) false e = none_past_places i (omega (arith, long)) ∙ rw e (omega arith)

  -- and in any state it has one more and is picked, or as many as before.
  pub one_more_or_same : (i : ℕ) →
      ((names (picks_in s (size free)) i ≡ true) × (quanta_at (quanta_in (after_slot s free)) i ≡ quanta_at (quanta_in s) i + 1))
      ⊎ (quanta_at (quanta_in (after_slot s free)) i ≡ quanta_at (quanta_in s) i)
  one_more_or_same i = go (dec_lt i (length s.quanta)) (names (picks_in s (size free)) i) refl
    where
      go : Dec (i < length s.quanta) → (t : Bool) → names (picks_in s (size free)) i ≡ t →
          ((names (picks_in s (size free)) i ≡ true) × (quanta_at (quanta_in (after_slot s free)) i ≡ quanta_at (quanta_in s) i + 1))
          ⊎ (quanta_at (quanta_in (after_slot s free)) i ≡ quanta_at (quanta_in s) i)
      go (yes l) true e = inl (e, given_in_place i l ∙ rw e)
      go (yes l) false e = inr (given_in_place i l ∙ rw e (omega arith))
      go (no l) t e = inr (none_past_places i (omega arith))

  -- All upper limits hold after it: a row that is picked was ready, and a row that is not picked only waits.
  uppers_hold : Whole s → s.stopped ≡ false → UppersHold (after_slot s free)
  uppers_hold whole runs i l = go (one_more_or_same i)
    where
      row : Row
      row = row_at (rows_in s) i

      q : ℕ
      q = quanta_at (quanta_in s) i

      can : CanBe row
      can = row_can_be s.table whole.table i l

      go : ((names (picks_in s (size free)) i ≡ true) × (quanta_at (quanta_in (after_slot s free)) i ≡ q + 1)) ⊎ (quanta_at (quanta_in (after_slot s free)) i ≡ q) →
          upper row (quanta_at (quanta_in (after_slot s free)) i) (time_of s + 1) ≡ true
      go (inl more) = rw more.1 (upper_after_quantum_means_ready row can q (time_of s) ∙ (named_is_ready i more.0).1)
      go (inr same) = rw same (upper_kept_when_idle row can q (time_of s) (both (lower row q (time_of s)) _ (whole.shares runs i l)).1)

  -- No row then has more quanta than the time.
  quanta_within : Whole s → (i : ℕ) → i < length (rows_in s) → quanta_at (quanta_in (after_slot s free)) i ≤ time_of s + 1
  quanta_within whole i l = ⊎_elim (λ more. omega (arith, more.1, whole.quanta i l)) (λ same. omega (arith, same, whole.quanta i l)) (one_more_or_same i)

-- A state in which all upper limits hold is judged: if a row is late it is named and the state stops, and else every row is within its share.
module _ (x : State) (table : fault_of x.table ≡ 0) (time : time_of x ≤ time_limit) (quanta : (i : ℕ) → i < length (rows_in x) → quanta_at (quanta_in x) i ≤ time_of x) (uppers : UppersHold x)
    (memory : misremembers x.last (is_row x) x.table.cores ≡ false) where
  -- it is not broken,
  judged_whole : Whole (stopped_by (late_in x) x)
  judged_whole =
      record {
        table = table;
        time = time;
        quanta = quanta;
        shares = λ runs i l.
            let none = each_fails (of_row x (late_at (time_of x))) (length (rows_in x)) (sym (ap (λ late. ltb 0 (length late)) (late_rows x) ∙ some_listed _ _) ∙ runs) i l in
            let low = late_means_below (row_at (rows_in x) i) (row_can_be x.table table i l) (quanta_at (quanta_in x) i) (time_of x) in
            hold_both (not-false (lower (row_at (rows_in x) i) (quanta_at (quanta_in x) i) (time_of x)) (sym low ∙ none)) (uppers i l);
        memory = memory;
      }

  -- and what is said of it is so: by the lowest late row, if there is one
  judged_after : After (stopped_by (late_in x) x) (done_said (late_in x) (time_of x))
  judged_after = let lowest = a_lowest is_late (length (rows_in x)) in go lowest.0 lowest.1 (dec_lt lowest.0 (length (rows_in x)))
    where
      is_late : ℕ → Bool
      is_late = of_row x (late_at (time_of x))

      some_late : ltb 0 (length (late_in x)) ≡ some is_late (length (rows_in x))
      some_late = ap (λ late. ltb 0 (length late)) (late_rows x) ∙ some_listed is_late (length (rows_in x))

      go : (i : ℕ) → Lowest is_late (length (rows_in x)) i → Dec (i < length (rows_in x)) → After (stopped_by (late_in x) x) (done_said (late_in x) (time_of x))
      go i low (yes l) =
          subst (λ late. After (stopped_by (late_in x) x) (done_said late (time_of x))) (sym (late_rows x ∙ (lowest_is_first is_late (length (rows_in x)) i low l).1))
          record {
            whole = is_not_broken (stopped_by (late_in x) x) judged_whole;
            uppers = uppers;
            runs_on = λ e. absurd (omega arith);
            stops = λ e. some_late ∙ some_if is_late (length (rows_in x)) i l (low.passes l);
            names_time = λ e. refl;
            row_is_there = λ e. l;
            names_row = λ e. low;
          }
      go i low (no l) =
          let none : (j : ℕ) → j < length (rows_in x) → is_late j ≡ false = λ j m. low.none_before j (omega arith) in
          subst (λ late. After (stopped_by (late_in x) x) (done_said late (time_of x))) (sym (late_rows x ∙ none_is_listed is_late (length (rows_in x)) none))
          record {
            whole = is_not_broken (stopped_by (late_in x) x) judged_whole;
            uppers = uppers;
            runs_on = λ e. some_late ∙ none_if is_late (length (rows_in x)) none;
            stops = λ e. absurd (omega arith);
            names_time = λ e. absurd (omega arith);
            row_is_there = λ e. absurd (omega arith);
            names_row = λ e. absurd (omega arith);
          }

-- A slot that is done leads to a state that is not broken, and its answer says of it what is so. The step keeps the upper limits and the quanta
-- within the time; judging finds the late rows, and where there is none every row has its lower limit too.
pub done_keeps_whole : (s : State) (free : List Bool) (buffer : List ℕ) (place : ℕ) → (slot_of s free buffer place).said.number < 2 →
    After (slot_of s free buffer place).state (slot_of s free buffer place).said
done_keeps_whole s free buffer place h =
    let done = done_is_not_refused s free buffer place h in
    let can = goes s free buffer place done in
    let whole = is_whole s can.whole in
    rw (slot_done s free buffer place done)
    (judged_after (after_slot s free) whole.table (omega (arith, can.time)) (quanta_within s free whole) (uppers_hold s free whole can.runs)
    (placed_has_no_fault s free whole can.there))

-- a state that is stopped and not broken answers 31
stopped_answers : (s : State) (free : List Bool) (buffer : List ℕ) (place : ℕ) → broken s ≡ false → s.stopped ≡ true → (slot_of s free buffer place).said.number ≡ 31
unfolding slot_of
stopped_answers s free buffer place whole stopped = rw (first_31 s free buffer place whole stopped)

-- The slot after a 1 answers 31.
pub next_is_stopped : (s : State) (free : List Bool) (buffer : List ℕ) (place : ℕ) → (slot_of s free buffer place).said.number ≡ 1 → (free' : List Bool) (buffer' : List ℕ) (place' : ℕ) →
    (slot_of (slot_of s free buffer place).state free' buffer' place').said.number ≡ 31
next_is_stopped s free buffer place h free' buffer' place' =
    let after = done_keeps_whole s free buffer place (omega (arith, h)) in
    stopped_answers (slot_of s free buffer place).state free' buffer' place' after.whole (after.stops h)

-- A fresh state is broken only by its table.
pub fresh_is_whole : (t : Table) → (broken (fresh_of t) ≡ false) ↔ (fault_of t ≡ 0)
fresh_is_whole t = (λ h. (is_whole (fresh_of t) h).table, λ h. is_not_broken (fresh_of t) (whole h))
  where
    whole : fault_of t ≡ 0 → Whole (fresh_of t)
    whole h =
        record {
          table = h;
          time = omega arith;
          quanta = λ i l. omega (arith, nothing_given t i);
          shares = λ runs i l. rw (nothing_given t i) (nothing_is_within (row_at (rows_in (fresh_of t)) i) (row_can_be t h i l));
          memory = nobody_is_remembered (is_row (fresh_of t)) t.cores;
        }

-- a broken state answers 30
broken_answers : (s : State) (free : List Bool) (buffer : List ℕ) (place : ℕ) → broken s ≡ true → (slot_of s free buffer place).said ≡ bare 30
unfolding slot_of
broken_answers s free buffer place h = rw (first_30 s free buffer place h)

-- A fresh state whose table has a fault answers 30.
pub fault_answers_30 : FaultAnswers30
fault_answers_30 t fault free buffer place = go (broken (fresh_of t)) refl
  where
    go : (b : Bool) → broken (fresh_of t) ≡ b → (slot_of (fresh_of t) free buffer place).said ≡ bare 30
    go true e = broken_answers (fresh_of t) free buffer place e
    go false e = absurd (fault ((fresh_is_whole t).0 e))
