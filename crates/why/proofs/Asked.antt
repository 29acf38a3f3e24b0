-- What the functions need to know of a row, a state and two ranks. Assumes nothing.
use Prim.Native.Nat.{ℕ, ◌+◌, ◌-◌, ◌≤◌, ◌<◌}
use mathlib.Core.Path.{◌≡◌, refl, sym, ap, ◌∙◌}
use mathlib.Core.List.{List}
use mathlib.Core.Bool.{Bool, true, false, cond, not, ◌&&◌, true≢false}
use mathlib.Core.Logic.{⊎_elim}
use native.Mathlib.Decide.{dec_lt}
use native.Mathlib.Omega.{arith}
use borrow.Author.Tests.{lt-ltb, le-ltb, eq-eqb, ne_eqb, not-true}
use lib.ListN.{length, get_or}
use Rattle.std.specs.Prelude.{Option, Some, None, unwrap_or}
use Rattle.std.specs.Option.{MatchOption}
use Rattle.facts.specs.First.{Lowest}
use Rattle.facts.proofs.Tests.{both, hold_both}
use Rattle.counts.specs.declared.Quanta.{Quanta}
use Rattle.counts.proofs.Numbers.{number_there}
use Rattle.windows.proofs.Windows.{bit_is_0_or_1}
use Rattle.table.specs.declared.Row.{Row}
use Rattle.pd2.specs.Order.{Rank, rank_of, with_favour}
use Rattle.pd2.specs.Choice.{row_at, quanta_at}
use Rattle.pd2.specs.Near.{HasWindow}
use Rattle.pd2.proofs.Choice.{row_there}
use Rattle.trace.specs.Record.{marked}
use Rattle.trace.specs.Records.{names}
use Rattle.trace.proofs.Names.{marked_are_named}
use Rattle.dispatcher.specs.declared.State.{State}
use Rattle.dispatcher.specs.State.{rows_in, quanta_in, time_of}
use Rattle.dispatcher.specs.Slot.{favoured_in, picks_in}
use Rattle.dispatcher.specs.Usable.{UsableRow, UsableState}
use Rattle.dispatcher.proofs.Asked.{usable_there}
use Rattle.why.specs.declared.Rule.{Rule}
use Rattle.why.specs.declared.Rule.TheVariants.{Deadline, Bit, GroupDeadline, RowNumber, RanBefore}
use Rattle.why.specs.Rules.{rule_for}
use Rattle.why.specs.Reasons.{is_ready, rank_in}
use Rattle.why.specs.Why.{lowest_in}
use Rattle.why.specs.Asked.{dropped_from}
use Rattle.why.proofs.Picked.{named_is_row, dropped_is_lowest_named, one_is_dropped_of_named}
use Rattle.why.proofs.Why.{lowest_is_found}

-- A bit is 0 or 1.
pub bit_is_small : (row : Row) (q : ℕ) → (rank_of row 0 q).b ≤ 1
bit_is_small row q = ⊎_elim (λ z. omega (arith, z)) (λ z. omega (arith, z)) (bit_is_0_or_1 row.cost row.period (q + 1))

-- A usable row has a window.
pub usable_has_window : {row : Row} {q t : ℕ} → UsableRow row q t → HasWindow row q
usable_has_window u = record { cost = u.cost; weight = u.within_period; quanta = omega (arith, u.quanta, u.time) }

-- The rule does not look at the numbers of rows, and of who is favoured only at whether the one ahead is alone.
any_numbers : (ahead behind : Row) (had given i j : ℕ) (f g : Bool) →
    rule_for (with_favour (rank_of ahead 0 had) (f && not g)) (rank_of behind 0 given) ≡ rule_for (with_favour (rank_of ahead i had) f) (with_favour (rank_of behind j given) g)
unfolding rule_for
any_numbers ahead behind had given i j true true = refl
any_numbers ahead behind had given i j true false = refl
any_numbers ahead behind had given i j false g = refl

-- A row of a state, as the code reads it, is row i,
module _ (s : State) (u : UsableState s) {i : ℕ} (l : i < length (rows_in s)) (r : Row) (q : Quanta) where
  pub read_there : (get_or s.table.rows i r ≡ row_at (rows_in s) i) × ((get_or s.quanta i q).0 ≡ quanta_at (quanta_in s) i)
  read_there = (row_there s.table.rows s.table.n i r l, number_there s.quanta i q (omega (arith, l, u.place.few, u.place.all, u.place.long)))

  -- and has a next window.
  pub window_there : HasWindow (get_or s.table.rows i r) (get_or s.quanta i q).0
  window_there = usable_has_window (usable_there u l r q)

-- The rule between two such rows is the rule between these rows of the state.
pub rule_there : (s : State) (i j : ℕ) {ahead behind : Row} {had given : ℕ} → ahead ≡ row_at (rows_in s) i → had ≡ quanta_at (quanta_in s) i → behind ≡ row_at (rows_in s) j →
    given ≡ quanta_at (quanta_in s) j → {rule : Rule} {kinder : Bool} → kinder ≡ favoured_in s i && not (favoured_in s j) →
    rule ≡ rule_for (with_favour (rank_of ahead 0 had) kinder) (rank_of behind 0 given) → rule ≡ rule_for (rank_in s i) (rank_in s j)
rule_there s i j first had second given is e =
    (rw (is, first, had, second, given) at e)
    ∙ any_numbers (row_at (rows_in s) i) (row_at (rows_in s) j) (quanta_at (quanta_in s) i) (quanta_at (quanta_in s) j) i j (favoured_in s i) (favoured_in s j)

-- The marks are the rows that are named.
pub marks_name : (marks : List Bool) {rows : List ℕ} → marked marks ≡ rows → (i : ℕ) → get_or marks i false ≡ names rows i
marks_name marks e i = sym (marked_are_named marks i) ∙ ap (λ l. names l i) e

-- The row that is dropped with one core fewer is found, and is the lowest that is picked.
module _ (s : State) (k row : ℕ) (is_row : row < length (rows_in s)) (row_is_ready : is_ready s row (time_of s) ≡ true) (some_core : k ≡ 0 → ⊥) (out : names (picks_in s k) row ≡ false)
    (few : length (rows_in s) ≤ 32) (marks fewer : List Bool) (with_k : marked marks ≡ picks_in s k) (with_fewer : marked fewer ≡ picks_in s (k - 1)) where
  is_dropped : (i : ℕ) → names (picks_in s k) i ≡ true → names (picks_in s (k - 1)) i ≡ false → dropped_from marks fewer i ≡ true
  is_dropped i p q = hold_both (marks_name marks with_k i ∙ p) (ap not (marks_name fewer with_fewer i ∙ q))

  pub dropped_is_found : (by : ℕ) → Lowest (dropped_from marks fewer) 32 by → (by < length (rows_in s)) × (by ≡ lowest_in s k)
  dropped_is_found by low = go (one_is_dropped_of_named s k row is_row row_is_ready (omega (arith, some_core)) out)
    where
      -- one row is dropped, so that the search ends there or before
      within : {i : ℕ} → names (picks_in s k) i ≡ true → names (picks_in s (k - 1)) i ≡ false → Dec (i < by) → by < 32
      within p q (yes l) = absurd (true≢false (sym (is_dropped _ p q) ∙ low.none_before _ l))
      within {i} p q (no l) = omega (arith, l, few, named_is_row s k i p)

      go : (i : ℕ) × (names (picks_in s k) i ≡ true) × (names (picks_in s (k - 1)) i ≡ false) → (by < length (rows_in s)) × (by ≡ lowest_in s k)
      go (i, p, q) =
          let two = both (get_or marks by false) (not (get_or fewer by false)) (low.passes (within p q (dec_lt i by))) in
          let is_in = sym (marks_name marks with_k by) ∙ two.0 in
          let gone = sym (marks_name fewer with_fewer by) ∙ not-true _ two.1 in
          (named_is_row s k by is_in, (lowest_is_found s k row is_row row_is_ready some_core by).0 (dropped_is_lowest_named s k by is_in gone))

-- What is found first of the numbers below 32 is the lowest; none is 32.
pub first_is_lowest : (test : ℕ → Bool) (r : Option ℕ) →
    MatchOption r ((k : ℕ) → 0 ≤ k → k < 32 → test k ≡ false) (λ i. (0 ≤ i) × (i < 32) × (test i ≡ true) × ((k : ℕ) → 0 ≤ k → k < i → test k ≡ false)) → Lowest test 32 (unwrap_or r 32)
first_is_lowest test None none = record { within = omega arith; passes = λ l. absurd (omega arith); none_before = λ k l. none k (omega arith) l }
first_is_lowest test (Some i) so = record { within = omega (arith, so.1); passes = λ l. so.2; none_before = λ k l. so.3 k (omega arith) l }

-- The rule that decides between two ranks, test by test.
module _ (x y : Rank) where
  pub by_deadline : x.d < y.d → Deadline ≡ rule_for x y
  unfolding rule_for
  by_deadline l = sym (rw (lt-ltb x.d y.d l))

  module _ (due : y.d ≤ x.d) where
    pub by_bit : x.b ≡ 1 → y.b ≡ 0 → Bit ≡ rule_for x y
    unfolding rule_for
    by_bit p q = sym (rw (le-ltb x.d y.d due, eq-eqb x.b 1 p, eq-eqb y.b 0 q))

    pub last_at_bit_0 : x.b ≡ 0 → cond (x.favoured && not y.favoured) RanBefore RowNumber ≡ rule_for x y
    unfolding rule_for
    last_at_bit_0 p = let none : x.b ≡ 1 → ⊥ = λ one. omega arith in sym (rw (le-ltb x.d y.d due, ne_eqb x.b 1 none))

    module _ (p : x.b ≡ 1) (q : y.b ≡ 1) where
      not_0 : y.b ≡ 0 → ⊥
      not_0 z = omega arith

      pub by_group : y.D < x.D → GroupDeadline ≡ rule_for x y
      unfolding rule_for
      by_group l = sym (rw (le-ltb x.d y.d due, eq-eqb x.b 1 p, ne_eqb y.b 0 not_0, eq-eqb y.b 1 q, lt-ltb y.D x.D l))

      pub last_at_bit_1 : x.D ≤ y.D → cond (x.favoured && not y.favoured) RanBefore RowNumber ≡ rule_for x y
      unfolding rule_for
      last_at_bit_1 l = sym (rw (le-ltb x.d y.d due, eq-eqb x.b 1 p, ne_eqb y.b 0 not_0, eq-eqb y.b 1 q, le-ltb y.D x.D l))
