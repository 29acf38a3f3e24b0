-- What records in bytes mean: the rows they name, and what one record more does. Assumes nothing.
use Prim.Native.Nat.{ℕ, zero, suc, ◌+◌, ◌≤◌, ◌<◌}
use mathlib.Core.Path.{◌≡◌, refl, sym, ap, ◌∙◌}
use mathlib.Core.List.{List, ◌++◌}
use mathlib.Core.Bool.{true, false, cond}
use native.Mathlib.Numerals.{add-one}
use native.Mathlib.Omega.{arith}
use lib.ListN.{length, take, drop, length-drop, take-append-drop, get_or-append}
use lib.Seq.{length-take-le, take-append_seam, take-append-le, drop-append-le, drop-append-add, get_or-append-add}
use Rattle.facts.proofs.Growing.{never_falls}
use Rattle.facts.proofs.Counting.{same_count, counted_if_passed, uncounted_if_failed, counted_one_more}
use Rattle.fields.specs.Fields.{byte}
use Rattle.trace.specs.Record.{record_of, with_front, with_record}
use Rattle.trace.specs.Records.{picked_at, rows_at, past_record, place_of, names, named_in, times_named_from}

-- The record of slot 0 begins at the first place.
pub begins_at_first : (s : List ℕ) (from : ℕ) → place_of s from 0 ≡ from
unfolding place_of
begins_at_first s from = refl

-- Records stand one behind the other: a later one begins at a later place.
pub places_rise : (s : List ℕ) (from j t : ℕ) → j ≤ t → place_of s from j ≤ place_of s from t
unfolding place_of
places_rise s from j t = never_falls (place_of s from) t (λ m l. rw (add-one m) (omega arith)) j

-- The records stand from that place on,
pub stand_from : (s : List ℕ) (from t : ℕ) → from ≤ place_of s from t
stand_from s from t = omega (arith, begins_at_first s from, places_rise s from 0 t (omega arith))

-- that of slot t ends where the next begins,
pub ends_at_next : (s : List ℕ) (from t : ℕ) → past_record s (place_of s from t) ≡ place_of s from (suc t)
unfolding place_of
ends_at_next s from t = refl

-- and so before any later one.
pub ends_before : (s : List ℕ) (from j t : ℕ) → j < t → past_record s (place_of s from j) ≤ place_of s from t
ends_before s from j t l = rw (ends_at_next s from j) (places_rise s from (suc j) t l)

-- Records that lie wholly in the front of the bytes are the same, whatever comes behind it.
module _ (front x y : List ℕ) where
  -- each byte of the front,
  byte_stays : (i : ℕ) → i < length front → byte (front ++ y) i ≡ byte (front ++ x) i
  byte_stays i l = get_or-append front y 0 i l ∙ sym (get_or-append front x 0 i l)

  -- each part of it,
  part_stays : (i c : ℕ) → i + c ≤ length front → take c (drop i (front ++ y)) ≡ take c (drop i (front ++ x))
  part_stays i c l = alone y ∙ sym (alone x)
    where
      alone : (z : List ℕ) → take c (drop i (front ++ z)) ≡ take c (drop i front)
      alone z =
          ap (take c) (drop-append-le i front z (omega arith))
          ∙ take-append-le c (drop i front) z (omega (arith, length-drop i front))

  -- The rows of a record that ends in the front stay,
  pub rows_stay : (place : ℕ) → past_record (front ++ x) place ≤ length front → rows_at (front ++ y) place ≡ rows_at (front ++ x) place
  rows_stay place l =
      ap (λ c. take c (drop (place + 2) (front ++ y))) (byte_stays (place + 1) (omega arith))
      ∙ part_stays (place + 2) (picked_at (front ++ x) place) (omega arith)

  module _ (from : ℕ) where
    -- and so does the place of slot t, if it is no later than the end of the front,
    pub place_stays : (t : ℕ) → place_of (front ++ x) from t ≤ length front → place_of (front ++ y) from t ≡ place_of (front ++ x) from t
    unfolding place_of
    place_stays zero l = refl
    place_stays (suc t) l =
        let same = place_stays t (omega arith) in
        rw same (ap (λ c. place_of (front ++ x) from t + 2 + c) (byte_stays (place_of (front ++ x) from t + 1) (omega arith)))

    -- and the count of the records before it that name a row.
    pub count_stays : (row t : ℕ) → place_of (front ++ x) from t ≤ length front → times_named_from (front ++ y) from row t ≡ times_named_from (front ++ x) from row t
    unfolding place_of
    count_stays row t l = same_count (named_in (front ++ y) from row) (named_in (front ++ x) from row) t each
      where
        each : (j : ℕ) → j < t → named_in (front ++ y) from row j ≡ named_in (front ++ x) from row j
        each j h =
            let past : past_record (front ++ x) (place_of (front ++ x) from j) ≤ length front = omega (arith, places_rise (front ++ x) from (suc j) t (omega arith), l) in
            rw (place_stays j (omega arith)) (ap (λ rows. names rows row) (rows_stay (place_of (front ++ x) from j) past))

-- The record that stands behind a front of the bytes is found there.
module _ (front rest rows : List ℕ) (k : ℕ) where
  -- Its second byte says how many rows it has,
  pub count_found : picked_at (front ++ (record_of k rows ++ rest)) (length front) ≡ length rows
  count_found = get_or-append-add front (record_of k rows ++ rest) 1 0

  -- and behind it stand its rows.
  pub rows_found : rows_at (front ++ (record_of k rows ++ rest)) (length front) ≡ rows
  rows_found =
      rw (count_found, drop-append-add front (record_of k rows ++ rest) 2) (take-append_seam rows rest)

-- t records fill the front from a place on, and one more stands behind it
module _ (front x rest rows : List ℕ) (k from t : ℕ) (full : place_of (front ++ x) from t ≡ length front) where
  -- the front stays full,
  full_still : place_of (front ++ (record_of k rows ++ rest)) from t ≡ length front
  full_still = place_stays front x (record_of k rows ++ rest) from t (omega (arith, full)) ∙ full

  -- the next place is behind the record,
  next_behind : place_of (front ++ (record_of k rows ++ rest)) from (suc t) ≡ length front + length (record_of k rows)
  unfolding place_of
  next_behind = rw (full_still, count_found front rest rows k) (omega arith)

  -- and what it names is counted
  named_too : (row : ℕ) → times_named_from (front ++ (record_of k rows ++ rest)) from row (suc t) ≡ times_named_from (front ++ x) from row t + cond (names rows row) 1 0
  named_too row =
      ap (times_named_from (front ++ (record_of k rows ++ rest)) from row) (sym (add-one t))
      ∙ (counted_one_more (named_in (front ++ (record_of k rows ++ rest)) from row) t
      ∙ rw (count_stays front x (record_of k rows ++ rest) from row t (omega (arith, full)), full_still, rows_found front rest rows k) refl)

-- For callers: t records stand in the bytes from a place on, and that of slot t is written behind them.
module _ (b : List ℕ) (from t k : ℕ) (rows : List ℕ) (inside : place_of b from t ≤ length b) where
  -- the bytes before the place are as many as the place says,
  as_long : place_of b from t ≡ length (take (place_of b from t) b)
  as_long = sym (length-take-le (place_of b from t) b inside)

  -- and the t records fill them
  fills : place_of (take (place_of b from t) b ++ drop (place_of b from t) b) from t ≡ length (take (place_of b from t) b)
  fills = ap (λ s. place_of s from t) (take-append-drop (place_of b from t) b) ∙ as_long

  -- Then the place of the next slot is behind that record,
  pub next_place : place_of (with_record b (place_of b from t) (record_of k rows)) from (suc t) ≡ place_of b from t + length (record_of k rows)
  unfolding with_record with_front
  next_place = next_behind (take (place_of b from t) b) (drop (place_of b from t) b) _ rows k from t fills ∙ ap (λ n. n + length (record_of k rows)) (sym as_long)

  -- and a row that it names is named once more.
  pub named_once_more : (row : ℕ) → times_named_from (with_record b (place_of b from t) (record_of k rows)) from row (suc t) ≡ times_named_from b from row t + cond (names rows row) 1 0
  unfolding with_record with_front
  named_once_more row =
      named_too (take (place_of b from t) b) (drop (place_of b from t) b) _ rows k from t fills row
      ∙ ap (λ s. times_named_from s from row t + cond (names rows row) 1 0) (take-append-drop (place_of b from t) b)

-- A row that the record of slot t names is counted,
pub counted_if_named : (s : List ℕ) (from row t : ℕ) → named_in s from row t ≡ true → times_named_from s from row (t + 1) ≡ times_named_from s from row t + 1
counted_if_named s from row t h = counted_if_passed (named_in s from row) t h

-- and a row that it does not name is not.
pub uncounted_if_not_named : (s : List ℕ) (from row t : ℕ) → named_in s from row t ≡ false → times_named_from s from row (t + 1) ≡ times_named_from s from row t
uncounted_if_not_named s from row t h = uncounted_if_failed (named_in s from row) t h
