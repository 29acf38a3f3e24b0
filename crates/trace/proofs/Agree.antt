-- Records in two byte lists that agree from a place up to an end. Assumes nothing.
use Prim.Native.Nat.{ℕ, zero, suc, ◌+◌, ◌-◌, ◌≤◌, ◌<◌}
use mathlib.Core.Path.{◌≡◌, refl, sym, ap, ◌∙◌}
use mathlib.Core.List.{List, ◌++◌}
use native.Mathlib.Omega.{arith}
use lib.ListN.{length, take, drop, length-append, length-drop, get_or-append}
use lib.Seq.{drop-cons, length-take-le, get_or-take, get_or-drop, get_or-append-add}
use Rattle.facts.proofs.Counting.{same_count}
use Rattle.fields.specs.Fields.{byte}
use Rattle.trace.specs.Record.{record_of, with_front, with_record}
use Rattle.trace.specs.Records.{free_at, picked_at, rows_at, past_record, place_of, names, named_in, times_named_from}
use Rattle.trace.proofs.Writing.{front_fits}
use Rattle.trace.proofs.Records.{stand_from, ends_before, count_found, rows_found}

-- for callers

-- Two byte lists have the same bytes from a place up to an end, and both reach it.
pub record Agree (from end : ℕ) (a b : List ℕ) : Type 0 where
  pub same : (i : ℕ) → from ≤ i → i < end → byte a i ≡ byte b i
  pub reaches : end ≤ length a
  pub reaches_too : end ≤ length b

module _ (from end : ℕ) (a b : List ℕ) (agree : Agree from end a b) where
  -- each part of them is the same
  part_agrees : (c i : ℕ) → from ≤ i → i + c ≤ end → take c (drop i a) ≡ take c (drop i b)
  part_agrees zero i l h = refl
  part_agrees (suc c) i l h =
      rw (
        drop-cons a i 0 (omega (arith, agree.reaches)),
        drop-cons b i 0 (omega (arith, agree.reaches_too)),
        agree.same i l (omega arith),
        part_agrees c (suc i) (omega arith) (omega arith),
      )

  -- The rows of a record between them are the same,
  pub rows_agree : (place : ℕ) → from ≤ place → past_record b place ≤ end → rows_at a place ≡ rows_at b place
  rows_agree place l h =
      ap (λ c. take c (drop (place + 2) a)) (agree.same (place + 1) (omega arith) (omega arith))
      ∙ part_agrees (picked_at b place) (place + 2) (omega arith) (omega arith)

  -- the place of slot t is, if it is no later than the end,
  pub place_agrees : (t : ℕ) → place_of b from t ≤ end → place_of a from t ≡ place_of b from t
  unfolding place_of
  place_agrees zero l = refl
  place_agrees (suc t) l =
      rw (place_agrees t (omega arith))
      (ap (λ c. place_of b from t + 2 + c) (agree.same (place_of b from t + 1) (omega (arith, stand_from b from t)) (omega arith)))

  -- and so is the count of the records before it that name a row.
  pub count_agrees : (row t : ℕ) → place_of b from t ≤ end → times_named_from a from row t ≡ times_named_from b from row t
  count_agrees row t l = same_count (named_in a from row) (named_in b from row) t each
    where
      each : (j : ℕ) → j < t → named_in a from row j ≡ named_in b from row j
      each j h =
          let past : past_record b (place_of b from j) ≤ end = omega (arith, ends_before b from j t h, l) in
          rw (place_agrees j (omega arith)) (ap (λ rows. names rows row) (rows_agree (place_of b from j) (stand_from b from j) past))

-- A record is written at a place where it has room.
module _ (b : List ℕ) (place k : ℕ) (rows : List ℕ) (room : place + length (record_of k rows) ≤ length b) where
  -- the bytes before the place
  abbrev front : List ℕ
  front = take place b

  before : length front ≡ place
  before = length-take-le place b (omega arith)

  -- The buffer is as long as it was,
  pub still_as_long : length (with_record b place (record_of k rows)) ≡ length b
  unfolding with_record
  still_as_long =
      let fits = front_fits (drop place b) (record_of k rows) (omega (arith, length-drop place b)) in
      length-append front (with_front (drop place b) (record_of k rows)) ∙ omega (arith, before, fits, length-drop place b)

  -- agrees with what it was up to that place,
  pub agrees_before : (from : ℕ) → Agree from place (with_record b place (record_of k rows)) b
  unfolding with_record
  agrees_before from =
      record {
        same = λ i l h. get_or-append front (with_front (drop place b) (record_of k rows)) 0 i (omega (arith, before)) ∙ get_or-take place b i 0 h;
        reaches = omega (arith, still_as_long);
        reaches_too = omega arith;
      }

  -- and from behind the record on,
  pub agrees_behind : (i : ℕ) → place + length (record_of k rows) ≤ i → byte (with_record b place (record_of k rows)) i ≡ byte b i
  unfolding with_record with_front
  agrees_behind i l =
      let entry = record_of k rows in
      let rest = i - place - length entry in
      ap (byte (with_record b place entry)) {x = i} {y = length front + (length entry + rest)} (omega (arith, before))
      ∙ (get_or-append-add front (entry ++ drop (length entry) (drop place b)) (length entry + rest) 0
      ∙ (get_or-append-add entry (drop (length entry) (drop place b)) rest 0
      ∙ (get_or-drop (length entry) (drop place b) rest 0 ∙ (get_or-drop place b (length entry + rest) 0 ∙ ap (byte b) {x = place + (length entry + rest)} {y = i} (omega arith)))))

  -- and the record is found there: the cores free, the count of its rows, and the rows.
  pub free_written : free_at (with_record b place (record_of k rows)) place ≡ k
  unfolding with_record with_front
  free_written = ap (byte (with_record b place (record_of k rows))) {x = place} {y = length front + 0} (omega (arith, before)) ∙ get_or-append-add front _ 0 0

  pub count_written : picked_at (with_record b place (record_of k rows)) place ≡ length rows
  unfolding with_record with_front
  count_written = ap (picked_at (with_record b place (record_of k rows))) (sym before) ∙ count_found front _ rows k

  pub rows_written : rows_at (with_record b place (record_of k rows)) place ≡ rows
  unfolding with_record with_front
  rows_written = ap (rows_at (with_record b place (record_of k rows))) (sym before) ∙ rows_found front _ rows k
