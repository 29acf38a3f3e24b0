-- Never late: the slots that a dispatcher has done are a course of PD2 on a box, and there nobody is late. Assumes nothing.
use Prim.Native.Nat.{ℕ, ◌+◌, ◌*◌, ◌≤◌, ◌<◌}
use mathlib.Core.Path.{◌≡◌, refl, sym, ap, ◌∙◌, subst}
use mathlib.Core.List.{List}
use mathlib.Core.Bool.{Bool, true, false, cond, true≢false}
use native.Mathlib.Decide.{dec_lt}
use native.Mathlib.Omega.{arith}
use borrow.Author.Tests.{lt-ltb, le-ltb, le-leb, lt-leb}
use lib.Dec.{ltb, leb}
use lib.ListN.{length, replicate}
use Rattle.facts.specs.Rounding.{ceil_div}
use Rattle.facts.specs.First.{at_first}
use Rattle.facts.specs.Counting.{how_many, those}
use Rattle.facts.specs.Findings.{first_found}
use Rattle.facts.specs.Rising.{rising}
use Rattle.facts.specs.Places.{places, padded}
use Rattle.counts.specs.Limits.{time_limit}
use Rattle.windows.specs.Windows.{start, deadline, bit, window_length, job_start}
use Rattle.windows.specs.Group.{heavy, stops, stop_time, group_deadline}
use Rattle.table.specs.declared.Table.{Table}
use Rattle.table.specs.Limits.{row_limit}
use Rattle.table.specs.Causes.{load}
use Rattle.table.specs.Value.{fault_of, rows_of}
use Rattle.table.specs.Bytes.{table_number, table_in}
use Rattle.table.specs.Example.{example}
use Rattle.table.proofs.Taken.{taken_value_has_no_fault, sum_is_within}
use Rattle.pd2.specs.Ready.{ready, late}
use Rattle.pd2.specs.Share.{lower, upper}
use Rattle.pd2.specs.Order.{before}
use Rattle.pd2.specs.Picks.{picked}
use Rattle.pd2.specs.Choice.{row_at, quanta_at, ready_in, favours_nobody, goes_before_by, given}
use Rattle.trace.specs.Record.{with_front, with_record}
use Rattle.trace.specs.Records.{names}
use Rattle.trace.specs.Said.{bare, named}
use Rattle.trace.proofs.Names.{listed_are_named}
use Rattle.optimal.specs.Box.{Box}
use Rattle.optimal.proofs.Box.{sum_is_load, table_is_box}
use Rattle.optimal.proofs.NeverLate.{pd2_never_late}
use Rattle.cores.specs.Sets.{size, names_past, first_cores}
use Rattle.cores.specs.Fault.{misremembers}
use Rattle.cores.specs.Cores.{wanted, left_over, in_turn, cores_for}
use Rattle.cores.proofs.Past.{there_exactly}
use Rattle.dispatcher.specs.declared.State.{State}
use Rattle.dispatcher.specs.State.{quanta_in, time_of}
use Rattle.dispatcher.specs.Broken.{broken}
use Rattle.dispatcher.specs.Run.{Step, run}
use Rattle.dispatcher.specs.Slot.{favoured_in, picks_in, placed_in, refusal, slot_of}
use Rattle.dispatcher.proofs.Whole.{is_whole}
use Rattle.dispatcher.proofs.Stepping.{places_stay}
use Rattle.dispatcher.proofs.Kept.{refusal_changes_nothing, done_makes_the_step, quanta_after, done_keeps_whole}
use Rattle.dispatcher.proofs.Places.{bare_unless_late}
use Rattle.demands.proofs.Three.{done_with_0, Running, fresh_runs, still_runs, done_with_room}
use Rattle.demands.specs.NeverLate.{WithCores, NeverLateWith, NeverLate}
use Rattle.demands.proofs.RunsOn.{runs_on}

-- A sound table whose rows need at most c cores.
module _ (table : Table) (c : ℕ) (sound : fault_of table ≡ 0) (few : load table.cycle (rows_of table) ≤ c * table.cycle) where
  box : Box (length (rows_of table)) (row_at (rows_of table)) table.cycle c
  box =
      let all = table_is_box table sound in
      record { long = all.long; can = all.can; divides = all.divides; within = omega (arith, sum_is_load table.cycle (rows_of table)) }

  -- Row i is picked in slot t, with k cores free, by the quanta that were given before, and by who is favoured.
  abbrev is_picked : List ℕ → (ℕ → Bool) → ℕ → ℕ → ℕ → Bool
  is_picked quanta favours t k i = picked (ready_in (rows_of table) quanta t) (goes_before_by before (rows_of table) quanta favours) (length (rows_of table)) k i

  -- The quanta at each time up to T, and the cores that each slot had and whom it favoured: they grew by PD2's picks.
  record Course (T : ℕ) (last : List ℕ) : Type 0 where
    quanta : ℕ → List ℕ
    favours : ℕ → ℕ → Bool
    free : ℕ → ℕ
    enough : (t : ℕ) → c ≤ free t
    now : quanta T ≡ last
    grown : (t i : ℕ) → t < T → i < length (rows_of table) → quanta_at (quanta (t + 1)) i ≡ quanta_at (quanta t) i + cond (is_picked (quanta t) (favours t) t (free t) i) 1 0

  -- So nobody is late at the last time.
  nobody_late : (T : ℕ) (last : List ℕ) → Course T last → (i : ℕ) → i < length (rows_of table) → late (row_at (rows_of table) i) (quanta_at last i) T ≡ false
  nobody_late T last course i l =
      ap (λ q. late (row_at (rows_of table) i) (quanta_at q i) T) (sym course.now)
      ∙ pd2_never_late (rows_of table) table.cycle c T course.quanta course.favours course.free box (λ t _. course.enough t) course.grown T i (omega arith) l

  -- A course with no slot yet,
  begins : (last : List ℕ) → Course 0 last
  begins last = record { quanta = λ t. last; favours = λ t. favours_nobody; free = λ t. c; enough = λ t. omega arith; now = refl; grown = λ t i l. absurd (omega arith) }

  -- and with one slot more.
  goes_on : (T : ℕ) (last next : List ℕ) (favoured : ℕ → Bool) (k : ℕ) → Course T last → c ≤ k →
      ((i : ℕ) → i < length (rows_of table) → quanta_at next i ≡ quanta_at last i + cond (is_picked last favoured T k i) 1 0) → Course (T + 1) next
  goes_on T last next favoured k course more step =
      record {
        quanta = quanta;
        favours = favours;
        free = free;
        enough = λ t. go_enough (ltb t T) (course.enough t);
        now = rw (lt-leb (T + 1) T (omega arith));
        grown = λ t i l m. go t i m (dec_lt t T) (omega arith);
      }
    where
      quanta : ℕ → List ℕ
      quanta t = cond (leb t T) (course.quanta t) next

      favours : ℕ → ℕ → Bool
      favours t = cond (ltb t T) (course.favours t) favoured

      free : ℕ → ℕ
      free t = cond (ltb t T) (course.free t) k

      go_enough : (b : Bool) {x : ℕ} → c ≤ x → c ≤ cond b x k
      go_enough true l = l
      go_enough false l = more

      go : (t i : ℕ) → i < length (rows_of table) → Dec (t < T) → t ≤ T → quanta_at (quanta (t + 1)) i ≡ quanta_at (quanta t) i + cond (is_picked (quanta t) (favours t) t (free t) i) 1 0
      go t i m (yes l) h = rw (le-leb t T h, le-leb (t + 1) T (omega arith), lt-ltb t T l) (course.grown t i l m)
      go t i m (no l) h =
          let same : t ≡ T = omega arith in
          rw (same, le-leb T T (omega arith), lt-leb (T + 1) T (omega arith), le-ltb T T (omega arith), course.now) (step i m)

  -- What is known of a state that slots with at least c cores have led to.
  record Kept (s : State) : Type 0 where
    known : Running table s
    long : length s.quanta ≡ row_limit
    course : Course (time_of s) (quanta_in s)

  -- A slot that is done goes on with the course,
  course_after : (s : State) (free : List Bool) (buffer : List ℕ) (place : ℕ) → Kept s → c ≤ size free → (slot_of s free buffer place).said.number < 2 →
      Course (time_of (slot_of s free buffer place).state) (quanta_in (slot_of s free buffer place).state)
  course_after s free buffer place so more done =
      rw (ap (λ x. x.state) (done_makes_the_step s free buffer place done))
      (goes_on (time_of s) (quanta_in s) _ (favoured_in s) (size free) so.course more
      (λ i l. quanta_after s free (is_whole s so.known.whole) so.long i ∙ ap (λ b. quanta_at (quanta_in s) i + cond b 1 0) (named i l)))
    where
      named : (i : ℕ) → i < length (rows_of table) → names (picks_in s (size free)) i ≡ is_picked (quanta_in s) (favoured_in s) (time_of s) (size free) i
      named i l = rw so.known.same (listed_are_named _ _ i ∙ rw (lt-ltb i (length (rows_of table)) l) refl)

  -- so it does not answer 1,
  not_late : (s : State) (free : List Bool) (buffer : List ℕ) (place : ℕ) → Kept s → c ≤ size free → (slot_of s free buffer place).said.number ≡ 1 → ⊥
  not_late s free buffer place so more is_1 =
      let done : (slot_of s free buffer place).said.number < 2 = omega (arith, is_1) in
      let after = done_keeps_whole s free buffer place done in
      let same : (slot_of s free buffer place).state.table ≡ table = ap (λ x. x.state.table) (done_makes_the_step s free buffer place done) ∙ so.known.same in
      let row = (slot_of s free buffer place).said.row in
      let is_late = (after.names_row is_1).passes (after.row_is_there is_1) in
      let nobody = nobody_late _ _ (course_after s free buffer place so more done) row (rw same at (after.row_is_there is_1)) in
      true≢false (sym (rw same at is_late) ∙ nobody)

  -- and what is known of the state is known of the next.
  kept : (s : State) → WithCores table c s → Kept s
  kept _ WithCores.start =
      record {
        known = fresh_runs table sound;
        long = refl;
        course = begins _;
      }
  kept _ (WithCores.step s (Step.slot free) buffer place from more) = go (dec_lt (slot_of s free buffer place).said.number 2) (kept s from)
    where
      go : Dec ((slot_of s free buffer place).said.number < 2) → Kept s → Kept (slot_of s free buffer place).state
      go (yes done) so =
          let step = ap (λ x. x.state) (done_makes_the_step s free buffer place done) in
          record {
            known = still_runs table s free buffer place so.known (not_late s free buffer place so more);
            long = ap (λ x. length x.quanta) step ∙ (places_stay s (picks_in s (size free)) (placed_in s free) ∙ so.long);
            course = course_after s free buffer place so more done;
          }
      go (no refused) so = subst Kept (sym (refusal_changes_nothing s free buffer place (omega arith)).0) so

  -- A slot that meets none of the causes of a refusal is done, and does not answer 1.
  never_late_with : NeverLateWith table c
  never_late_with =
      record {
        never_1 = λ s from free buffer place more. not_late s free buffer place (kept s from) more;
        always_0 = λ s from free buffer place more there time room. answers_0 s free buffer place (kept s from) more ((there_exactly table.cores free).1 there) time room;
      }
    where
      answers_0 : (s : State) (free : List Bool) (buffer : List ℕ) (place : ℕ) → Kept s → c ≤ size free → names_past table.cores free ≡ false → time_of s < time_limit → place + 10 ≤ length buffer →
          (slot_of s free buffer place).said ≡ bare 0
      answers_0 s free buffer place so more there time room =
          let done = done_with_room table s free buffer place sound so.known there time room in
          let late = not_late s free buffer place so more in
          bare_unless_late s free buffer place late ∙ ap bare (done_with_0 done late)

-- The second slot of 01's example with one core free answers 1.
late_with_one : (run (table_in example) (λ s. Step.slot (first_cores 1)) (replicate 100 0) 0 2).said ≡ named 1 2 2
unfolding ceil_div how_many those first_found rising places padded start deadline bit window_length job_start heavy stops stop_time at_first group_deadline load fault_of table_number ready late lower upper before picked given with_front with_record names misremembers wanted left_over in_turn cores_for broken refusal slot_of run
late_with_one = refl

pub never_late : NeverLate
unfolding table_number first_found rising places padded load
never_late =
    record {
      all_cores = λ bytes e. let sound = taken_value_has_no_fault bytes e in never_late_with (table_in bytes) (table_in bytes).cores sound (sum_is_within (table_in bytes) sound);
      some_cores = never_late_with;
      runs_on = λ table c sound few. runs_on table c sound (never_late_with table c sound few);
      example_taken = refl;
      example_full = refl;
      example_late_with_one = late_with_one;
    }
