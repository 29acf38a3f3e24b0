-- The laws of the question's code: the walk from record to record, and the tests around it. Assumes nothing.
use Prim.Native.Nat.{ℕ, ◌+◌, ◌-◌, ◌*◌, ◌≤◌, ◌<◌, min}
use mathlib.Core.Path.{◌≡◌, refl, sym, ap, ◌∙◌}
use mathlib.Core.List.{List, [], ◌∷◌}
use mathlib.Core.Bool.{Bool, true, false, cond, ◌||◌}
use native.Mathlib.Numerals.{add-one}
use native.Mathlib.Omega.{arith}
use borrow.Author.Tests.{lt-ltb, le-ltb}
use Rattle.std.specs.Prelude.{Some, None}
use Rattle.std.specs.List.{list_any}
use lib.Dec.{eqb}
use lib.ListN.{length, take, drop}
use Rattle.facts.specs.Findings.{first_found}
use Rattle.facts.proofs.Counting.{Counted, counting_begins, counts_passed, skips_failed, counted_all, no_more_than_all}
use Rattle.facts.proofs.Some.{NoneYet, looking_begins, looks_on, none_at_all, some_if}
use Rattle.fields.specs.Fields.{shorter}
use Rattle.table.specs.Limits.{row_limit}
use Rattle.trace.specs.Records.{picked_at, rows_at, past_record, place_of, names, named_in, times_named_from}
use Rattle.trace.specs.Search.{length_inside, some_length}
use Rattle.trace.proofs.Records.{begins_at_first, ends_at_next}
use Rattle.trace.proofs.Search.{cut_ends, whole_ends}
use Rattle.summary.specs.Summary.{spacing, entry_size, place_said, quanta_said}
use Rattle.summary.specs.Question.{Reply, last_entry, since_entry, past_count, entry_missing, exceed_time, some_outside, counted_on, reply_to}
use Rattle.summary.specs.Walking.{walk_of, on_reply}

-- A row is among others exactly if they name it.
pub is_named : (rows : List ℕ) (row : ℕ) → list_any (λ r. eqb r row) rows ≡ names rows row
unfolding names
is_named [] row = refl
is_named (r ∷ rows) row = ap (λ b. eqb r row || b) (is_named rows row)

-- The walk over m records from a place on, which counts those that name a row.
module _ (s : List ℕ) (from row m : ℕ) where
  -- The record of slot j is not inside the trace.
  abbrev pub is_outside : ℕ → Bool
  is_outside j = shorter s (past_record s (place_of s from j))

  -- i records lie inside and are counted, and the next begins at `at`.
  pub record Walked (at times i : ℕ) : Type 0 where
    pub place : at ≡ place_of s from i
    pub counted : Counted (named_in s from row) m times i
    pub inside : NoneYet is_outside m i

  -- The walk begins,
  pub walk_begins : Walked from 0 0
  walk_begins = record { place = sym (begins_at_first s from); counted = counting_begins (named_in s from row) m; inside = looking_begins is_outside m }

  -- ends with the count of all,
  pub walk_ends : {at times i : ℕ} → Walked at times i → m ≤ i → Some times ≡ walk_of s from row m
  unfolding walk_of
  walk_ends so h = rw (none_at_all is_outside m so.inside h) (ap Some (counted_all (named_in s from row) m so.counted h))

  module _ {at times i : ℕ} (so : Walked at times i) (l : i < m) where
    -- or where a record is not inside the trace.
    pub walk_cut : None ≡ some_length (length_inside s at) → None ≡ walk_of s from row m
    unfolding walk_of
    walk_cut cut =
        let out : is_outside i ≡ true = rw (← so.place) (lt-ltb (length s) (past_record s at) (cut_ends s at cut)) in
        rw (some_if is_outside m i l out)

    module _ {n : ℕ} (whole : Some n ≡ some_length (length_inside s at)) where
      -- One that has a length ends inside, so many bytes on,
      pub ends_inside : (past_record s at ≡ at + n) × (at + n ≤ length s) × (2 ≤ n)
      ends_inside = let h = whole_ends s at whole in (h.0, h.1, omega (arith, h.0))

      -- its rows stand behind its first two bytes,
      these_rows : names (take (at + n - (at + 2)) (drop (at + 2) s)) row ≡ named_in s from row i
      these_rows =
          let c : at + n - (at + 2) ≡ picked_at s at = omega (arith, ends_inside.0) in
          ap (λ k. names (take k (drop (at + 2) s)) row) c ∙ ap (λ p. names (rows_at s p) row) so.place

      -- the next begins where it ends,
      next_place : at + n ≡ place_of s from (i + 1)
      next_place =
          sym ends_inside.0 ∙ (ap (past_record s) so.place ∙ (ends_at_next s from i ∙ ap (place_of s from) (sym (add-one i))))

      next_inside : NoneYet is_outside m (i + 1)
      next_inside = looks_on is_outside m so.inside l (rw (← so.place) (le-ltb (length s) (past_record s at) (omega (arith, ends_inside))))

      -- and the walk goes on behind it, with one more if it names the row.
      pub walk_on_named : true ≡ names (take (at + n - (at + 2)) (drop (at + 2) s)) row → Walked (at + n) (times + 1) (i + 1)
      walk_on_named named =
          record { place = next_place; counted = counts_passed (named_in s from row) m so.counted l (sym (named ∙ these_rows)); inside = next_inside }

      pub walk_on_other : false ≡ names (take (at + n - (at + 2)) (drop (at + 2) s)) row → Walked (at + n) times (i + 1)
      walk_on_other other =
          record { place = next_place; counted = skips_failed (named_in s from row) m so.counted l (sym (other ∙ these_rows)); inside = next_inside }

  -- If the walk tells a number, all records are inside, and so many of them name the row,
  pub told_times : {x : ℕ} → Some x ≡ walk_of s from row m → (some_outside s from m ≡ false) × (x ≡ times_named_from s from row m) × (x ≤ m)
  unfolding walk_of
  told_times {x} e = go (some_outside s from m) refl
    where
      go : (b : Bool) → some_outside s from m ≡ b → (some_outside s from m ≡ false) × (x ≡ times_named_from s from row m) × (x ≤ m)
      go true h =
          let found : Some x ≡ None = e ∙ ap (λ b. cond b None (Some (times_named_from s from row m))) h in
          absurd cc
      go false h =
          let found : Some x ≡ Some (times_named_from s from row m) = e ∙ ap (λ b. cond b None (Some (times_named_from s from row m))) h in
          let same : x ≡ times_named_from s from row m = cc found in
          (h, same, omega (arith, same, no_more_than_all (named_in s from row) m))

  -- and else one is not.
  pub told_outside : None ≡ walk_of s from row m → some_outside s from m ≡ true
  unfolding walk_of
  told_outside e = go (some_outside s from m) refl
    where
      go : (b : Bool) → some_outside s from m ≡ b → some_outside s from m ≡ true
      go true h = h
      go false h =
          let found : None ≡ Some (times_named_from s from row m) = e ∙ ap (λ b. cond b None (Some (times_named_from s from row m))) h in
          absurd cc

-- What is answered once neither 36 nor 38 is.
module _ (trace summary : List ℕ) (row t : ℕ) where
  -- 39 if the entry is missing,
  pub is_missing : length summary < entry_size * last_entry t + entry_size → record { number = 39; quanta = 0 } ≡ on_reply trace summary row t
  unfolding on_reply
  is_missing h =
      let out : entry_missing summary (last_entry t) ≡ true = lt-ltb (length summary) (entry_size * (last_entry t + 1)) (omega arith) in
      rw out

  module _ (there : entry_size * last_entry t + entry_size ≤ length summary) where
    -- the entry is there
    has_entry : entry_missing summary (last_entry t) ≡ false
    has_entry = le-ltb (length summary) (entry_size * (last_entry t + 1)) (omega (arith, there))

    -- if its quanta of the row exceed its time,
    pub exceeds : spacing * last_entry t < quanta_said summary (last_entry t) row → record { number = 39; quanta = 0 } ≡ on_reply trace summary row t
    unfolding on_reply
    exceeds h = rw (has_entry, lt-ltb (spacing * last_entry t) (quanta_said summary (last_entry t) row) h)

    module _ (few : quanta_said summary (last_entry t) row ≤ spacing * last_entry t) where
      -- its quanta do not exceed its time
      not_more : exceed_time summary (last_entry t) row ≡ false
      not_more = le-ltb (spacing * last_entry t) (quanta_said summary (last_entry t) row) few

      -- or if a record since is not inside the trace;
      pub outside : some_outside trace (place_said summary (last_entry t)) (since_entry t) ≡ true → record { number = 39; quanta = 0 } ≡ on_reply trace summary row t
      unfolding on_reply
      outside h = rw (has_entry, not_more, h)

      -- and else the quanta, counted on.
      pub answered : some_outside trace (place_said summary (last_entry t)) (since_entry t) ≡ false → {q : ℕ} → q ≡ counted_on trace summary row t →
          ◌≡◌ {A = Reply} (record { number = 0; quanta = q }) (on_reply trace summary row t)
      unfolding on_reply
      answered h e = rw (has_entry, not_more, h, e)

-- What is answered to the whole question.
module _ (n : ℕ) (trace summary : List ℕ) (row t : ℕ) where
  -- 36 for a row not below n, or not below 32,
  pub no_row : min n row_limit ≤ row → record { number = 36; quanta = 0 } ≡ reply_to n trace summary row t
  unfolding reply_to first_found
  no_row h = rw (le-ltb row (min n row_limit) h)

  module _ (has : row < min n row_limit) where
    -- 38 for a time past the count,
    pub is_past : past_count trace t ≡ true → record { number = 38; quanta = 0 } ≡ reply_to n trace summary row t
    unfolding reply_to first_found
    is_past e = rw (lt-ltb row (min n row_limit) has, e)

    -- and else what is answered from there on.
    pub is_on : past_count trace t ≡ false → on_reply trace summary row t ≡ reply_to n trace summary row t
    unfolding reply_to on_reply first_found
    is_on e = rw (lt-ltb row (min n row_limit) has, e)

-- What the walk meets, and what the question meets.
pub ruleset walk_met = (whole_ends, walk_ends, walk_cut)

pub ruleset question_met = (no_row, is_past, is_on)
