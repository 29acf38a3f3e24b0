-- The search for the record of a slot: the walk from record to record, and what it leads to. Assumes nothing.
use Prim.Native.Nat.{ℕ, ◌+◌, ◌-◌, ◌≤◌, ◌<◌}
use mathlib.Core.Path.{◌≡◌, refl, sym, ap, ap₂, ◌∙◌}
use mathlib.Core.List.{List, []}
use mathlib.Core.Bool.{Bool, true, false}
use native.Mathlib.Decide.{dec_le}
use native.Mathlib.Omega.{arith}
use borrow.Author.Tests.{le-leb, lt-leb, lt-ltb, le-ltb}
use lib.Dec.{leb}
use lib.ListN.{length, take, drop}
use Rattle.std.proofs.lemmas.Option.{some_pair_parts}
use Rattle.std.specs.Prelude.{Option, Some, None}
use Rattle.trace.specs.Records.{picked_at, past_record, first_place, slots_in, place_of, place_in}
use Rattle.trace.specs.Found.{is_found, part_found, part_begins}
use Rattle.trace.specs.Search.{length_inside, some_length, place_if, place_inside, place_found}
use Rattle.trace.proofs.Records.{ends_before}
use Rattle.trace.proofs.Found.{next_begins, found_if_all_inside}

-- The record that begins at a place.
module _ (s : List ℕ) (place : ℕ) where
  -- A record that ends past the trace is cut,
  pub is_cut : length s < past_record s place → None ≡ some_length (length_inside s place)
  unfolding length_inside
  is_cut h = simp (lt-leb _ _ h)

  -- and one that does not is whole.
  pub is_whole : {n : ℕ} → past_record s place ≤ length s → n ≡ 2 + picked_at s place → Some n ≡ some_length (length_inside s place)
  unfolding length_inside
  is_whole {n} h e =
      let some : 0 < n = omega arith in
      rw (le-leb (past_record s place) (length s) h, ← e, lt-ltb 0 n some) refl

  -- A record without length ends past the trace,
  pub cut_ends : None ≡ some_length (length_inside s place) → length s < past_record s place
  cut_ends h = go (dec_le (past_record s place) (length s))
    where
      go : Dec (past_record s place ≤ length s) → length s < past_record s place
      go (yes l) = let whole = is_whole l refl in absurd cc
      go (no l) = omega arith

  -- and one with a length ends inside, so many bytes on.
  pub whole_ends : {n : ℕ} → Some n ≡ some_length (length_inside s place) → (past_record s place ≡ place + n) × (place + n ≤ length s)
  whole_ends {n} h = go (dec_le (past_record s place) (length s))
    where
      go : Dec (past_record s place ≤ length s) → (past_record s place ≡ place + n) × (place + n ≤ length s)
      go (yes l) = let whole = is_whole l refl in let long : n ≡ 2 + picked_at s place = cc in (omega arith, omega arith)
      go (no l) = let cut = is_cut (omega arith) in absurd cc

-- The walk has come to the record of slot i, on the way to that of slot t.
pub record Walked (s : List ℕ) (t start i : ℕ) : Type 0 where
  pub place : start ≡ place_in s i
  pub within : i ≤ t

-- From `start` to `end` lies the part of the trace that is to be handed back.
pub record IsPart (s : List ℕ) (t start end : ℕ) : Type 0 where
  pub ordered : start ≤ end
  pub inside : end ≤ length s
  pub bytes : take (end - start) (drop start s) ≡ part_found s t
  pub begins : start ≡ part_begins s t

module _ (s : List ℕ) (t : ℕ) where
  -- The walk begins at slot 0,
  pub walk_begins : Walked s t 4 0
  unfolding place_of
  walk_begins = record { place = refl; within = omega arith }

  -- without the count bytes nothing is found,
  pub no_count : length s < 4 → None ≡ place_found s t
  unfolding is_found place_found
  no_count h = simp (lt-leb _ _ h)

  -- nor from the count on,
  pub past_count : slots_in s ≤ t → None ≡ place_found s t
  unfolding is_found place_found
  past_count h = go (leb 4 (length s)) refl
    where
      go : (b : Bool) → leb 4 (length s) ≡ b → None ≡ place_found s t
      go true e = simp (e, le-ltb _ _ h)
      go false e = simp e

  -- and below the count what lies inside is found.
  pub below_slot_count : 4 ≤ length s → t < slots_in s → place_inside s t ≡ place_found s t
  unfolding is_found place_inside place_found
  below_slot_count a h = simp (le-leb _ _ a, lt-ltb _ _ h)

  -- What is found of the slot is what was found when its number was asked for.
  pub found_as_asked : {asked : ℕ} {place : Option (ℕ × ℕ)} → place ≡ place_found s asked → asked ≡ t → place_found s t ≡ place
  found_as_asked e same = sym (e ∙ ap (place_found s) same)

  -- Where nothing is found the part is empty and begins at 0,
  pub nowhere_is : place_found s t ≡ None → ([] ≡ part_found s t) × (0 ≡ part_begins s t)
  unfolding place_found
  nowhere_is h = go (is_found s t) refl
    where
      go : (b : Bool) → is_found s t ≡ b → ([] ≡ part_found s t) × (0 ≡ part_begins s t)
      go true e =
          let found : place_if true s t ≡ None = ap (λ b. place_if b s t) (sym e) ∙ h in
          absurd cc
      go false e = rw e (refl, refl)

  -- and where a record is found the part lies inside, has its bytes and begins at its place.
  pub between_is : {start end : ℕ} → place_found s t ≡ Some (start, end) → IsPart s t start end
  unfolding place_found is_found
  between_is {start} {end} h = go (is_found s t) refl
    where
      go : (b : Bool) → is_found s t ≡ b → IsPart s t start end
      go true e =
          let found : place_if true s t ≡ Some (start, end) = ap (λ b. place_if b s t) (sym e) ∙ h in
          let parts = some_pair_parts _ _ _ _ found in
          let first : place_in s t ≡ start = parts.0 in
          let last : place_in s t + (2 + picked_at s (place_in s t)) ≡ end = parts.1 in
          let inside = (((found_if_all_inside s t).0 e).all_inside t (omega arith)).whole in
          let long : end - start ≡ 2 + picked_at s (place_in s t) = omega (arith, first, last) in
          record {
            ordered = omega (arith, first, last);
            inside = omega (arith, last, inside);
            bytes = rw (e, long, ← first);
            begins = rw (e, first);
          }
      go false e =
          let found : None ≡ Some (start, end) = ap (λ b. place_if b s t) (sym e) ∙ h in
          absurd cc

  module _ {start i : ℕ} (so : Walked s t start i) where
    -- At a record that is cut the walk ends with nothing,
    pub walk_cut : None ≡ some_length (length_inside s start) → None ≡ place_inside s t
    unfolding place_inside
    walk_cut h =
        let past : length s < place_in s (t + 1) = omega (arith, cut_ends s start h, ap (past_record s) so.place, ends_before s first_place i (t + 1) (omega (arith, so.within))) in
        simp (lt-leb _ _ past)

    module _ {n : ℕ} (whole : Some n ≡ some_length (length_inside s start)) where
      -- at the slot's own record it ends with that,
      pub walk_ends : i ≡ t → Some (start, start + n) ≡ place_inside s t
      unfolding place_inside
      walk_ends same =
          let end = whole_ends s start whole in
          let here : start ≡ place_in s t = so.place ∙ ap (place_in s) same in
          let inside : place_in s (t + 1) ≤ length s = omega (arith, next_begins s t, ap (past_record s) here, end) in
          let long : start + n ≡ place_in s t + (2 + picked_at s (place_in s t)) = omega (arith, ap (past_record s) here, end.0) in
          rw (le-leb _ _ inside) (ap₂ (λ a b. Some (a, b)) here long)

      -- and from any other it goes on to the next.
      pub walk_on : i < t → Walked s t (start + n) (i + 1)
      walk_on before =
          record {
            place = sym (whole_ends s start whole).0 ∙ (ap (past_record s) so.place ∙ sym (next_begins s i));
            within = omega arith;
          }

-- What `find` meets, and the steps of the walk.
pub ruleset search_found = (no_count, past_count, below_slot_count)

pub ruleset walk_steps = (whole_ends, walk_cut, walk_ends, walk_on)
