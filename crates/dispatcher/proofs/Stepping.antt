-- What is left of a slot once its rows are picked: quanta are given, and lateness is judged. Assumes nothing.
use Prim.Native.Nat.{ℕ, ◌+◌, ◌-◌, ◌≤◌, ◌<◌}
use mathlib.Core.Path.{◌≡◌, refl, sym, ap, ◌∙◌}
use mathlib.Core.List.{List}
use Rattle.std.specs.Prelude.{Option, Some, None, Ok, is_some}
use mathlib.Core.Bool.{Bool, true, false, ◌&&◌}
use native.Mathlib.Omega.{arith}
use borrow.Author.Tests.{le-ltb, ltb-true}
use Rattle.facts.proofs.Tests.{both}
use lib.Dec.{ltb}
use lib.ListN.{length, length-map}
use Rattle.facts.specs.Counting.{those}
use Rattle.facts.proofs.First.{same_lowest}
use Rattle.facts.proofs.Some.{some_if, none_if}
use Rattle.facts.proofs.Listing.{some_listed, lowest_is_first, none_is_listed, list_ends}
use Rattle.counts.proofs.Numbers.{as_many_numbers, as_counted}
use Rattle.pd2.specs.Ready.{late}
use Rattle.pd2.specs.Choice.{row_at, quanta_at, given}
use Rattle.pd2.proofs.Choice.{how_many_given}
use Rattle.trace.specs.Records.{names}
use Rattle.trace.proofs.Names.{listed_are_named}
use Rattle.cores.specs.declared.Placement.{Placement}
use Rattle.dispatcher.specs.declared.State.{State}
use Rattle.dispatcher.specs.State.{rows_in, quanta_in, time_of}
use Rattle.dispatcher.specs.Broken.{of_row}
use Rattle.dispatcher.specs.Answer.{said_of, done_said, ran_of}
use Rattle.dispatcher.specs.Slot.{late_at, late_in, stepped}
use Rattle.dispatcher.specs.Looking.{GivesTo}
use Rattle.dispatcher.specs.Tests.{LowestIs, CanStep}
use Rattle.dispatcher.proofs.Rows.{late_rows}

-- Giving keeps the places of a state.
pub places_stay : (s : State) (rows : List ℕ) (placed : Placement) → length (stepped s rows placed).quanta ≡ length s.quanta
places_stay s rows placed =
    length-map (given (names rows) 0 (quanta_in s)) (λ q. record { 0 = q })
    ∙ (how_many_given (names rows) 0 (quanta_in s) ∙ as_many_numbers s.quanta)

-- The rows of a record can be given a quantum each,
pub gives_to_rows : (s : State) {rows : List ℕ} {late : Option ℕ} → CanStep s rows late → GivesTo rows s.quanta
gives_to_rows s {rows} can =
    record {
      listed =
          can.listed
          ∙ sym (ap (those named) {x = 32} {y = n + (32 - n)} (omega (arith, few)) ∙ list_ends named named n (32 - n) (λ i l. refl) (λ i l m. none i l));
      small = λ i h. let l = there i h in omega (arith, (can.usable.each i l).quanta, (can.usable.each i l).time);
      long = can.usable.place.long;
    }
  where
    named : ℕ → Bool
    named = names rows

    n : ℕ
    n = length (rows_in s)

    few : n ≤ 32
    few = omega (arith, can.usable.place.few, can.usable.place.all)

    below : (i : ℕ) → named i ≡ ltb i n && named i
    below i = ap (λ rows. names rows i) can.listed ∙ listed_are_named named n i

    none : (i : ℕ) → n ≤ i → named i ≡ false
    none i l = below i ∙ ap (λ b. b && named i) (le-ltb i n l)

    there : (i : ℕ) → named i ≡ true → i < n
    there i h = ltb-true i n (both (ltb i n) (named i) (sym (below i) ∙ h)).0

-- where two tests agree, so do the lowest numbers that pass them,
same_lowest_is : (a b : ℕ → Bool) (n : ℕ) → ((i : ℕ) → i < n → a i ≡ b i) → (lowest : Option ℕ) → LowestIs a n lowest → LowestIs b n lowest
same_lowest_is a b n same None none = λ i l. sym (same i l) ∙ none i l
same_lowest_is a b n same (Some i) low = (low.0, same_lowest a b n i same low.1)

-- and the lowest row that is late then is that of the state after it.
pub lowest_then : (s : State) {rows : List ℕ} {late : Option ℕ} → CanStep s rows late → (placed : Placement) →
    LowestIs (of_row (stepped s rows placed) (late_at (time_of s + 1))) (length (rows_in s)) late
lowest_then s {rows} {late = lowest} can placed =
    let numbers = given (names rows) 0 (quanta_in s) in
    same_lowest_is (λ i. late (row_at (rows_in s) i) (quanta_at numbers i) (time_of s + 1)) (of_row (stepped s rows placed) (late_at (time_of s + 1))) (length (rows_in s))
    (λ i l. ap (λ quanta. late (row_at (rows_in s) i) (quanta_at quanta i) (time_of s + 1)) (sym (as_counted numbers)))
    lowest can.late

-- The lowest late row is named, and the state is stopped; where none is late the slot is done, and the state runs on.
pub by_lowest : (s : State) (late : Option ℕ) → LowestIs (of_row s (late_at (time_of s))) (length (rows_in s)) late →
    (said_of (Ok (ran_of late s.time)) ≡ done_said (late_in s) (time_of s)) × (is_some late ≡ ltb 0 (length (late_in s)))
by_lowest s None none =
    rw (late_rows s) (sym (ap (λ rows. done_said rows (time_of s)) (none_is_listed _ _ none)), sym (some_listed _ _ ∙ none_if _ _ none))
by_lowest s (Some i) low =
    let first = lowest_is_first _ _ i low.1 low.0 in
    rw (late_rows s) (sym (ap (λ rows. done_said rows (time_of s)) first.1), sym (some_listed _ _ ∙ some_if _ _ i low.0 (low.1.passes low.0)))
