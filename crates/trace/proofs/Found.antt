-- What it means that the record of a slot is found, and what is then handed back. Assumes nothing.
use Prim.Native.Nat.{ℕ, suc, ◌+◌, ◌≤◌}
use mathlib.Core.Path.{◌≡◌, refl, ap, ◌∙◌}
use mathlib.Core.List.{List, [], ◌∷◌}
use mathlib.Core.Bool.{true, false}
use native.Mathlib.Numerals.{add-one}
use native.Mathlib.Omega.{arith}
use borrow.Author.Tests.{le-leb, lt-ltb, leb-true, ltb-true}
use lib.Dec.{leb, ltb}
use lib.ListN.{length, take, drop, length-drop}
use lib.Seq.{drop-cons, length-take-le}
use Rattle.facts.proofs.Tests.{both, hold_both}
use Rattle.trace.specs.Record.{record_of}
use Rattle.trace.specs.Records.{free_at, picked_at, past_record, first_place, slots_in, place_of, place_in, rows_of_slot}
use Rattle.trace.specs.Found.{is_found, part_found, part_begins, Found, FoundIfAllInside}
use Rattle.trace.proofs.Records.{ends_before}

-- The next record begins where this one ends.
pub next_begins : (s : List ℕ) (t : ℕ) → place_in s (t + 1) ≡ past_record s (place_in s t)
unfolding place_of
next_begins s t = rw (add-one t)

-- The record of slot t is found exactly if the count bytes are there, t is below the count, and each record of slots 0 to t lies wholly inside.
pub found_if_all_inside : FoundIfAllInside
unfolding is_found
found_if_all_inside s t = (to, from)
  where
    to : is_found s t ≡ true → Found s t
    to h =
        let a = both (leb 4 (length s)) _ h in
        let b = both (ltb t (slots_in s)) _ a.1 in
        let end = leb-true (place_in s (t + 1)) (length s) b.1 in
        record {
          slot_count_there = leb-true 4 (length s) a.0;
          below_slot_count = ltb-true t (slots_in s) b.0;
          all_inside = λ j l. record { front = omega (arith, ends_before s first_place j (t + 1) (omega arith), end); whole = omega (arith, ends_before s first_place j (t + 1) (omega arith), end) };
        }

    from : Found s t → is_found s t ≡ true
    from f =
        let last : place_in s (t + 1) ≤ length s = rw (next_begins s t) (f.all_inside t (omega arith)).whole in
        hold_both (le-leb 4 (length s) f.slot_count_there) (hold_both (lt-ltb t (slots_in s) f.below_slot_count) (le-leb _ (length s) last))

-- From a place with two bytes behind it on stand those two, and then the rest.
two_first : (s : List ℕ) (place : ℕ) → place + 2 ≤ length s → drop place s ≡ free_at s place ∷ picked_at s place ∷ drop (place + 2) s
two_first s place h = drop-cons s place 0 (omega arith) ∙ ap (λ l. free_at s place ∷ l) (rw (← add-one place) (next ∙ ap (λ n. picked_at s place ∷ drop n s) two_on))
  where
    next : drop (place + 1) s ≡ picked_at s place ∷ drop (suc (place + 1)) s
    next = drop-cons s (place + 1) 0 (omega arith)

    two_on : suc (place + 1) ≡ place + 2
    two_on = omega arith

-- The part that is found is the record that stands there: cores free, rows picked and their numbers.
pub part_is_record : (s : List ℕ) (t : ℕ) → is_found s t ≡ true → part_found s t ≡ record_of (free_at s (place_in s t)) (rows_of_slot s t)
part_is_record s t h =
    let place = place_in s t in
    let inside = ((found_if_all_inside s t).0 h).all_inside t (omega arith) in
    let many : length (rows_of_slot s t) ≡ picked_at s place = length-take-le (picked_at s place) (drop (place + 2) s) (omega (arith, inside.whole, length-drop (place + 2) s)) in
    let two : 2 + picked_at s place ≡ suc (suc (picked_at s place)) = omega arith in
    rw (h, many, two, two_first s place inside.front)

-- Worked values, computed from the definitions on 01's own trace.
bench : List ℕ
bench = 3 ∷ 0 ∷ 0 ∷ 0 ∷ 2 ∷ 2 ∷ 0 ∷ 1 ∷ 2 ∷ 2 ∷ 0 ∷ 2 ∷ 2 ∷ 2 ∷ 1 ∷ 2 ∷ []

-- The record of slot 1 begins at 8,
bench_slot_1 : (part_found bench 1 ≡ 2 ∷ 2 ∷ 0 ∷ 2 ∷ []) × (part_begins bench 1 ≡ 8)
unfolding bench is_found place_of
bench_slot_1 = (refl, refl)

-- there is none of slot 3,
bench_slot_3 : (part_found bench 3 ≡ []) × (part_begins bench 3 ≡ 0)
unfolding bench is_found place_of
bench_slot_3 = (refl, refl)

-- with its last byte gone the record of slot 2 is not found, and that of slot 1 still is,
bench_cut : (is_found (take 15 bench) 2 ≡ false) × (is_found (take 15 bench) 1 ≡ true)
unfolding bench is_found place_of
bench_cut = (refl, refl)

-- and more rows than cores, not rising, under a count above the limit, are found all the same.
unjudged : (part_found (255 ∷ 255 ∷ 255 ∷ 255 ∷ 0 ∷ 2 ∷ 9 ∷ 9 ∷ []) 0 ≡ 0 ∷ 2 ∷ 9 ∷ 9 ∷ []) × (part_begins (255 ∷ 255 ∷ 255 ∷ 255 ∷ 0 ∷ 2 ∷ 9 ∷ 9 ∷ []) 0 ≡ 4)
unfolding is_found place_of
unjudged = (refl, refl)
