-- What is picked, ready and first, of the rows of a state. Assumes nothing.
use Prim.Native.Nat.{ℕ, ◌-◌, ◌<◌}
use mathlib.Core.Path.{◌≡◌, refl, sym, ap, subst, ◌∙◌}
use mathlib.Core.Bool.{Bool, true, false, not, true≢false}
use mathlib.Core.Logic.{⊎_elim}
use native.Mathlib.Decide.{ℕ_discrete}
use native.Mathlib.Omega.{arith}
use borrow.Author.Tests.{lt-ltb, le-leb, lt-leb, ltb-true, leb-false, not-true}
use lib.Dec.{ltb, leb}
use lib.ListN.{length}
use Rattle.facts.specs.Counting.{some, how_many}
use Rattle.facts.specs.First.{IsFirst}
use Rattle.facts.proofs.Counting.{same_count}
use Rattle.facts.proofs.Tests.{both}
use Rattle.facts.proofs.Some.{some_if}
use Rattle.table.specs.declared.Row.{Row}
use Rattle.pd2.specs.Ready.{ready}
use Rattle.pd2.specs.Order.{Before}
use Rattle.pd2.specs.Picks.{picked, Strict}
use Rattle.pd2.specs.Choice.{row_at, quanta_at, ready_in}
use Rattle.pd2.proofs.Order.{order_is_irreflexive, before_means_rule}
use Rattle.pd2.proofs.Readiness.{ready_from_start}
use Rattle.pd2.proofs.Choice.{pd2_is_strict}
use Rattle.pd2.proofs.Picks.{picked_is_ready, picked_has_few_ahead, unready_is_not_picked, best_is_picked, as_many_as_can_be}
use Rattle.trace.specs.Records.{names}
use Rattle.trace.proofs.Names.{listed_are_named}
use Rattle.dispatcher.specs.declared.State.{State}
use Rattle.dispatcher.specs.State.{rows_in, quanta_in, time_of}
use Rattle.dispatcher.specs.Slot.{favoured_in, picks_in}
use Rattle.why.specs.Lowest.{LowestPicked}
use Rattle.why.specs.Reasons.{is_ready, rank_in, goes_before}
use Rattle.why.specs.Why.{ready_from, ready_from_in}
use Rattle.why.proofs.Lowest.{one_before, not_both_ways, strict_among_picked, dropped_is_lowest, one_is_dropped}

-- A row is ready from that slot on.
ready_from_is : (row : Row) (q t : ℕ) → ready row q t ≡ leb (ready_from row q) t
unfolding ready_from
ready_from_is = ready_from_start

-- A row that is not ready will be, from that slot on and not before.
pub first_ready : (s : State) (row : ℕ) → is_ready s row (time_of s) ≡ false → IsFirst (is_ready s row) (time_of s) (ready_from_in s row)
first_ready s row unready =
    let from = ready_from_is (row_at (rows_in s) row) (quanta_at (quanta_in s) row) in
    let later = leb-false (ready_from_in s row) (time_of s) (sym (from (time_of s)) ∙ unready) in
    record {
      from = omega (arith, later);
      fit = from (ready_from_in s row) ∙ le-leb (ready_from_in s row) (ready_from_in s row) (omega arith);
      none_before = λ t a b. from t ∙ lt-leb (ready_from_in s row) t b;
    }

module _ (s : State) where
  abbrev n : ℕ
  n = length (rows_in s)

  abbrev ready_now : ℕ → Bool
  ready_now = ready_in (rows_in s) (quanta_in s) (time_of s)

  strict : Strict ready_now (goes_before s) n
  strict = pd2_is_strict (rows_in s) (quanta_in s) (favoured_in s) (time_of s) n

  module _ (k : ℕ) where
    abbrev row_is_picked : ℕ → Bool
    row_is_picked = picked ready_now (goes_before s) n k

    -- The record names the rows below n that are picked,
    named_if_picked : (i : ℕ) → i < n → names (picks_in s k) i ≡ row_is_picked i
    named_if_picked i l = listed_are_named row_is_picked n i ∙ rw (lt-ltb i n l)

    -- and no others.
    pub named_is_row : (i : ℕ) → names (picks_in s k) i ≡ true → i < n
    named_is_row i h = ltb-true i n (both (ltb i n) (row_is_picked i) (sym (listed_are_named row_is_picked n i) ∙ h)).0

    -- A row that is not ready is not named.
    pub unready_is_not_named : (row : ℕ) → row < n → ready_now row ≡ false → names (picks_in s k) row ≡ false
    unready_is_not_named row l unready = named_if_picked row l ∙ unready_is_not_picked ready_now (goes_before s) n k row unready

    -- With no core nobody is named.
    pub nobody_without_core : k ≡ 0 → (i : ℕ) → names (picks_in s k) i ≡ false
    nobody_without_core z i = go (names (picks_in s k) i) refl
      where
        go : (t : Bool) → names (picks_in s k) i ≡ t → names (picks_in s k) i ≡ false
        go false e = e
        go true e =
            absurd
            (omega (arith, z, picked_has_few_ahead ready_now (goes_before s) n k i (sym (named_if_picked i (named_is_row i e)) ∙ e)))

    -- Named rows are strictly ordered,
    pub strict_among_named : Strict (names (picks_in s k)) (goes_before s) n
    strict_among_named =
        let order = strict_among_picked ready_now (goes_before s) n k strict in
        record {
          irreflexive = order.irreflexive;
          transitive = order.transitive;
          total = λ i j l h p q. order.total i j l h (sym (named_if_picked i (omega arith)) ∙ p) (sym (named_if_picked j h) ∙ q);
        }

    module _ (row : ℕ) (row_is_there : row < n) (row_is_ready : ready_now row ≡ true) where
      -- One is named where a row is ready and a core is free.
      pub somebody : 0 < k → some (names (picks_in s k)) n ≡ true
      somebody some_core =
          let same = same_count (names (picks_in s k)) row_is_picked n named_if_picked in
          lt-ltb 0 (how_many (names (picks_in s k)) n)
          (omega (arith, same, some_core, as_many_as_can_be ready_now (goes_before s) n strict k, ltb-true 0 (how_many ready_now n) (some_if ready_now n row row_is_there row_is_ready)))

      -- A named row goes before a ready one that is not named.
      pub goes_ahead : names (picks_in s k) row ≡ false → (by : ℕ) → names (picks_in s k) by ≡ true → Before (rank_in s by) (rank_in s row)
      goes_ahead out by is_in =
          (before_means_rule (rank_in s by) (rank_in s row)).0 (⊎_elim (λ t. t) (λ t. absurd (true≢false (sym t ∙ not_behind))) (one_before ready_now (goes_before s) n strict by row by_is_row row_is_there differ by_is_ready row_is_ready))
        where
          by_is_row : by < n
          by_is_row = named_is_row by is_in

          by_is_picked : row_is_picked by ≡ true
          by_is_picked = sym (named_if_picked by by_is_row) ∙ is_in

          by_is_ready : ready_now by ≡ true
          by_is_ready = picked_is_ready ready_now (goes_before s) n k by by_is_picked

          not_behind : goes_before s row by ≡ false
          not_behind =
              best_is_picked ready_now (goes_before s) n strict.irreflexive strict.transitive k row by row_is_there by_is_row row_is_ready (sym (named_if_picked row row_is_there) ∙ out) by_is_picked

          differ : by ≡ row → ⊥
          differ e = true≢false (sym is_in ∙ ap (names (picks_in s k)) e ∙ out)

      -- For the functions: one is named with k cores and not with one fewer.
      pub one_is_dropped_of_named : 0 < k → names (picks_in s k) row ≡ false → (i : ℕ) × (names (picks_in s k) i ≡ true) × (names (picks_in s (k - 1)) i ≡ false)
      one_is_dropped_of_named some_core out =
          let x = one_is_dropped ready_now (goes_before s) n k strict some_core row row_is_there row_is_ready (sym (named_if_picked row row_is_there) ∙ out) in
          let y = both _ (not (picked ready_now (goes_before s) n (k - 1) x.0)) x.2 in
          (x.0, named_if_picked x.0 x.1 ∙ y.0, listed_are_named _ n x.0 ∙ rw (lt-ltb x.0 n x.1) (not-true _ y.1))

    -- For the functions: a row that is named with k cores and not with one fewer is the lowest of those named.
    pub dropped_is_lowest_named : (i : ℕ) → names (picks_in s k) i ≡ true → names (picks_in s (k - 1)) i ≡ false → LowestPicked (names (picks_in s k)) (goes_before s) n i
    dropped_is_lowest_named i is_in out =
        let l = named_is_row i is_in in
        let low = dropped_is_lowest ready_now (goes_before s) n k strict i l (sym (named_if_picked i l) ∙ is_in) (sym (listed_are_named _ n i ∙ rw (lt-ltb i n l)) ∙ out) in
        record {
          row_is_there = l;
          row_is_picked = is_in;
          behind_all = λ other m p. low.behind_all other m (sym (named_if_picked other m) ∙ p);
        }

    -- A row behind the lowest that is named is not named itself.
    pub behind_is_not_named : (row by : ℕ) → LowestPicked (names (picks_in s k)) (goes_before s) n by → Before (rank_in s by) (rank_in s row) → names (picks_in s k) row ≡ false
    behind_is_not_named row by low ahead = go (names (picks_in s k) row) refl (ℕ_discrete row by)
      where
        go : (t : Bool) → names (picks_in s k) row ≡ t → Dec (row ≡ by) → names (picks_in s k) row ≡ false
        go false e same = e
        go true e (yes same) = absurd (order_is_irreflexive (subst (λ i. Before (rank_in s by) (rank_in s i)) same ahead))
        go true e (no differ) =
            let l = named_is_row row e in
            absurd
            (not_both_ways _ (goes_before s) n strict_among_named row by l low.row_is_there
            (low.behind_all row l e differ) ((before_means_rule (rank_in s by) (rank_in s row)).1 ahead))
