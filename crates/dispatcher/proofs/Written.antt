-- What a run has written: sound records, one behind the other, in which every row is within its share. Assumes nothing.
use Prim.Native.Nat.{ℕ, zero, suc, ◌+◌, ◌≤◌, ◌<◌}
use mathlib.Core.Path.{◌≡◌, refl, sym, ap, ◌∙◌, subst}
use mathlib.Core.List.{List}
use mathlib.Core.Bool.{Bool, true}
use native.Mathlib.Decide.{dec_lt}
use native.Mathlib.Numerals.{add-one}
use native.Mathlib.Omega.{arith}
use lib.ListN.{length}
use Rattle.facts.specs.Counting.{those}
use Rattle.table.specs.declared.Table.{Table}
use Rattle.table.specs.Value.{fault_of, rows_of}
use Rattle.pd2.specs.Picks.{picked}
use Rattle.pd2.specs.Order.{before}
use Rattle.pd2.specs.Share.{within}
use Rattle.pd2.specs.Choice.{row_at, ready_in, goes_before_by}
use Rattle.trace.specs.Record.{record_of, with_record}
use Rattle.trace.specs.Records.{free_at, picked_at, rows_at, past_record, place_of, times_named_from}
use Rattle.trace.proofs.Records.{places_rise, stand_from, ends_at_next, ends_before}
use Rattle.trace.proofs.Agree.{Agree, rows_agree, place_agrees, count_agrees, still_as_long, agrees_before, free_written, count_written, rows_written}
use Rattle.cores.specs.Sets.{size}
use Rattle.cores.proofs.Sets.{size_within}
use Rattle.dispatcher.specs.declared.State.{State}
use Rattle.dispatcher.specs.State.{rows_in, quanta_in, time_of}
use Rattle.dispatcher.specs.Slot.{favoured_in, picks_in, record_in}
use Rattle.dispatcher.specs.Run.{Step, step_of, record_by, Run, place_by, one_more, run}
use Rattle.dispatcher.specs.RunKept.{run_for}
use Rattle.dispatcher.proofs.Placing.{picks_are_few}
use Rattle.dispatcher.proofs.Kept.{goes, done_is_not_refused, done_makes_the_step, refusal_changes_nothing}
use Rattle.dispatcher.proofs.RunKept.{next_run, before_too, going, place_behind, keeps_shares, quanta_are_records}

-- for callers

-- The record at a place is sound for a table: no more cores are free than it has, no more rows are picked than cores are free, and the rows rise
-- below n.
pub record SoundAt (table : Table) (b : List ℕ) (place : ℕ) : Type 0 where
  pub free : free_at b place ≤ table.cores
  pub picked : picked_at b place ≤ free_at b place
  pub listed : ℕ → Bool
  pub rows : rows_at b place ≡ those listed (length (rows_of table))

-- It is sound in any bytes that agree with these.
pub sound_there : (table : Table) (from end : ℕ) (a b : List ℕ) → Agree from end a b → (place : ℕ) → from ≤ place → past_record b place ≤ end →
    SoundAt table b place → SoundAt table a place
sound_there table from end a b agree place l h sound =
    let head = agree.same place l (omega arith) in
    record {
      free = rw head sound.free;
      picked = rw (head, agree.same (place + 1) (omega arith) (omega arith)) sound.picked;
      listed = sound.listed;
      rows = rows_agree from end a b agree place l h ∙ sound.rows;
    }

-- The sound records of t slots stand from a place on, one behind the other up to the next place, inside the buffer.
pub record Written (table : Table) (from t : ℕ) (b : List ℕ) (next : ℕ) : Type 0 where
  pub place : next ≡ place_of b from t
  pub inside : next ≤ length b
  pub each : (j : ℕ) → j < t → SoundAt table b (place_of b from j)

-- The first n of them are sound records too.
pub written_first : (table : Table) (from t : ℕ) (b : List ℕ) (next : ℕ) → Written table from t b next → (n : ℕ) → n ≤ t → Written table from n b (place_of b from n)
written_first table from t b next so n l =
    record { place = refl; inside = omega (arith, places_rise b from n t l, so.place, so.inside); each = λ j k. so.each j (omega arith) }

-- one record more
module _ (table : Table) (from t : ℕ) (b : List ℕ) (next k : ℕ) (rows : List ℕ) (so : Written table from t b next) (room : next + length (record_of k rows) ≤ length b) where
  abbrev after : List ℕ
  after = with_record b next (record_of k rows)

  agree : Agree from next after b
  agree = agrees_before b next k rows room from

  -- it stands at the next place,
  stands_next : place_of after from t ≡ next
  stands_next = place_agrees from next after b agree t (omega (arith, so.place)) ∙ sym so.place

  -- those before it stay sound,
  stay_sound : (j : ℕ) → j < t → SoundAt table after (place_of after from j)
  stay_sound j l =
      let past : past_record b (place_of b from j) ≤ next = omega (arith, ends_before b from j t l, so.place) in
      rw (place_agrees from next after b agree j (omega arith))
      (sound_there table from next after b agree (place_of b from j) (stand_from b from j) past (so.each j l))

  -- and it is written with them
  written_after : k ≤ table.cores → length rows ≤ k → (listed : ℕ → Bool) → rows ≡ those listed (length (rows_of table)) →
      Written table from (t + 1) after (next + length (record_of k rows))
  written_after cores few listed same =
      record {
        place = rw (add-one t, ← ends_at_next after from t, stands_next, count_written b next k rows room) (omega arith);
        inside = omega (arith, still_as_long b next k rows room);
        each = λ j l. go j l (dec_lt j t);
      }
    where
      this : SoundAt table after next
      this =
          record {
            free = rw (free_written b next k rows room) cores;
            picked = rw (free_written b next k rows room, count_written b next k rows room) few;
            listed = listed;
            rows = rows_written b next k rows room ∙ same;
          }

      go : (j : ℕ) → j < t + 1 → Dec (j < t) → SoundAt table after (place_of after from j)
      go j l (yes h) = stay_sound j h
      go j l (no h) = let e : j ≡ t = omega arith in rw (e, stands_next) this

-- What a step that is done has written: one sound record more, behind the others.
record Wrote (table : Table) (b : List ℕ) (place : ℕ) (after : List ℕ) (next : ℕ) : Type 0 where
  k : ℕ
  rows : List ℕ
  listed : ℕ → Bool
  room : place + length (record_of k rows) ≤ length b
  bytes : after ≡ with_record b place (record_of k rows)
  behind : next ≡ place + length (record_of k rows)
  cores : k ≤ table.cores
  few : length rows ≤ k
  same : rows ≡ those listed (length (rows_of table))

wrote : (s : State) (step : Step) (b : List ℕ) (place : ℕ) → (step_of s step b place).said.number < 2 →
    Wrote s.table b place (step_of s step b place).bytes (place_by (step_of s step b place).said.number place (record_by s step))
wrote s (Step.slot free) b place h =
    let can = goes s free b place (done_is_not_refused s free b place h) in
    record {
      k = size free;
      rows = picks_in s (size free);
      listed = picked (ready_in (rows_in s) (quanta_in s) (time_of s)) (goes_before_by before (rows_in s) (quanta_in s) (favoured_in s)) (length (rows_in s)) (size free);
      room = can.room;
      bytes = ap (λ x. x.bytes) (done_makes_the_step s free b place h);
      behind = place_behind _ place (record_in s (size free)) h;
      cores = size_within s.table.cores free can.there;
      few = picks_are_few s (size free);
      same = refl;
    }

-- A step that is refused leaves state and bytes as they were.
refused_stays : (s : State) (step : Step) (b : List ℕ) (place : ℕ) → 1 < (step_of s step b place).said.number → ((step_of s step b place).state ≡ s) × ((step_of s step b place).bytes ≡ b)
refused_stays s (Step.slot free) b place h = refusal_changes_nothing s free b place h

module _ (table : Table) (steps : ℕ → Step) (buffer : List ℕ) (place : ℕ) where
  abbrev at : ℕ → Run
  at = run_for table steps buffer place

  -- So has a step of a run.
  step : (m : ℕ) → (at m).said.number ≡ 0 → (at (suc m)).said.number < 2 → Wrote (at m).state.table (at m).bytes (at m).place (at (suc m)).bytes (at (suc m)).place
  step m e h =
      let r = at m in
      let on = next_run table steps buffer place m e in
      rw on (wrote r.state (steps m) r.bytes r.place (rw on at h))

  -- one step more that is done writes one sound record more
  written_on : (m : ℕ) → (at m).state.table ≡ table → Wrote (at m).state.table (at m).bytes (at m).place (at (suc m)).bytes (at (suc m)).place →
      Written table place m (at m).bytes (at m).place → Written table place (m + 1) (at (suc m)).bytes (at (suc m)).place
  written_on m same st so =
      rw (st.bytes, st.behind)
      (written_after table place m (at m).bytes (at m).place st.k st.rows so st.room
      (subst (λ t. st.k ≤ t.cores) same st.cores)
      st.few
      st.listed
      (st.same ∙ ap (λ t. those st.listed (length (rows_of t))) same))

  module _ (sound : fault_of table ≡ 0) (starts : place ≤ length buffer) where
    -- While every answer is 0, a run of m slots has written m sound records,
    pub written_going : (m : ℕ) → (at m).said.number ≡ 0 → Written table place m (at m).bytes (at m).place
    unfolding run place_of
    written_going zero e = record { place = refl; inside = starts; each = λ j l. absurd (omega arith) }
    written_going (suc m) e =
        let earlier = before_too table steps buffer place m e in
        subst (λ t. Written table place t (at (suc m)).bytes (at (suc m)).place) (add-one m)
        (written_on m (going table steps buffer place sound m earlier).same (step m earlier (omega (arith, e))) (written_going m earlier))

    -- and one more in a slot that answers 0 or 1.
    pub written_last : (m : ℕ) → (at m).said.number ≡ 0 → (at (suc m)).said.number < 2 → Written table place (m + 1) (at (suc m)).bytes (at (suc m)).place
    written_last m e h = written_on m (going table steps buffer place sound m e).same (step m e h) (written_going m e)

    -- the records before a slot that is done count as before
    counts_stay : (m : ℕ) → (at m).said.number ≡ 0 → (at (suc m)).said.number < 2 → (i t : ℕ) → t ≤ m →
        times_named_from (at (suc m)).bytes place i t ≡ times_named_from (at m).bytes place i t
    counts_stay m e h i t l =
        let st = step m e h in
        let r = at m in
        let agree = agrees_before r.bytes r.place st.k st.rows st.room place in
        let there : place_of r.bytes place t ≤ r.place = omega (arith, places_rise r.bytes place t m l, (written_going m e).place) in
        rw st.bytes (count_agrees place r.place _ r.bytes agree i t there)

    -- each row is within its share at the end, by the records written,
    shares_now : (m : ℕ) → (at m).said.number ≡ 0 → (i : ℕ) → i < length (rows_of table) → within (row_at (rows_of table) i) (times_named_from (at m).bytes place i m) m ≡ true
    shares_now m e i l =
        let kept = keeps_shares table steps buffer place sound m e in
        subst (λ q. within (row_at (rows_of table) i) q m ≡ true)
        (quanta_are_records table steps buffer place m i ∙ ap (times_named_from (at m).bytes place i) kept.0)
        (kept.1 i l)

    -- While every answer is 0, each row is within its share at each time, by the records written so far,
    pub shares_written : (m : ℕ) → (at m).said.number ≡ 0 → (i t : ℕ) → i < length (rows_of table) → t ≤ m →
        within (row_at (rows_of table) i) (times_named_from (at m).bytes place i t) t ≡ true
    shares_written zero e i t l k = let same : t ≡ 0 = omega arith in rw same (shares_now 0 e i l)
    shares_written (suc m) e i t l k = go (dec_lt m t) (shares_written m earlier i t l)
      where
        earlier : (at m).said.number ≡ 0
        earlier = before_too table steps buffer place m e

        go : Dec (m < t) → (t ≤ m → within (row_at (rows_of table) i) (times_named_from (at m).bytes place i t) t ≡ true) →
            within (row_at (rows_of table) i) (times_named_from (at (suc m)).bytes place i t) t ≡ true
        go (yes h) rest = let same : t ≡ suc m = omega arith in rw same (shares_now (suc m) e i l)
        go (no h) rest = rw (counts_stay m earlier (omega (arith, e)) i t (omega arith)) (rest (omega arith))

    -- and before a slot that answers 0 or 1.
    pub shares_before : (m : ℕ) → (at m).said.number ≡ 0 → (at (suc m)).said.number < 2 → (i t : ℕ) → i < length (rows_of table) → t ≤ m →
        within (row_at (rows_of table) i) (times_named_from (at (suc m)).bytes place i t) t ≡ true
    shares_before m e h i t l k = rw (counts_stay m e h i t k) (shares_written m e i t l k)

  -- A run that ends with 1 is one of m slots that answered 0 and one more that answered 1.
  pub record EndsLate (r : Run) : Type 0 where
    pub slots : ℕ
    pub before : (at slots).said.number ≡ 0
    pub late : (at (suc slots)).said.number ≡ 1
    pub same : r ≡ at (suc slots)

  -- So it is, unless the last answer is 0 or above 1.
  pub ends_late : (m : ℕ) → (at m).said.number ≡ 1 → EndsLate (at m)
  unfolding run
  ends_late zero e = absurd (omega (arith, e))
  ends_late (suc m) e = go (at m).said.number refl (ends_late m)
    where
      go : (n : ℕ) → (at m).said.number ≡ n → ((at m).said.number ≡ 1 → EndsLate (at m)) → EndsLate (at (suc m))
      go zero z rest = record { slots = m; before = z; late = e; same = refl }
      go (suc n) z rest =
          let stays : at (suc m) ≡ at m = ap (λ x. one_more x (at m) (steps m)) z in
          rw stays (rest (sym (ap (λ r. r.said.number) stays) ∙ e))

  -- Whatever the last answer of a run is, its state and its bytes are those of one whose last answer is 0 or 1, and 1 only if its own is: a refusal changes nothing.
  pub record ComesDone (r : Run) : Type 0 where
    pub slots : ℕ
    pub done : (at slots).said.number < 2
    pub late : (at slots).said.number ≡ 1 → r.said.number ≡ 1
    pub state : r.state ≡ (at slots).state
    pub bytes : r.bytes ≡ (at slots).bytes

  pub comes_done : (m : ℕ) → ComesDone (at m)
  unfolding run
  comes_done zero = record { slots = 0; done = omega arith; late = λ e. e; state = refl; bytes = refl }
  comes_done (suc m) = go (at m).said.number refl (comes_done m)
    where
      next : (at m).said.number ≡ 0 → Dec ((at (suc m)).said.number < 2) → ComesDone (at (suc m))
      next z (yes done) = record { slots = suc m; done = done; late = λ e. e; state = refl; bytes = refl }
      next z (no refused) =
          let r = at m in
          let on = next_run table steps buffer place m z in
          let above : 1 < (at (suc m)).said.number = omega arith in
          let same = refused_stays r.state (steps m) r.bytes r.place (rw on at above) in
          record { slots = m; done = omega (arith, z); late = λ e. absurd (omega (arith, z, e)); state = rw on same.0; bytes = rw on same.1 }

      go : (n : ℕ) → (at m).said.number ≡ n → ComesDone (at m) → ComesDone (at (suc m))
      go zero z rest = next z (dec_lt (at (suc m)).said.number 2)
      go (suc n) z rest = let stays : at (suc m) ≡ at m = ap (λ x. one_more x (at m) (steps m)) z in rw stays rest
