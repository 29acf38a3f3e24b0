-- Giving the rows of a record their quanta, one row after the other. Assumes nothing.
use Prim.Native.Nat.{ℕ, ◌+◌, ◌≤◌, ◌<◌}
use mathlib.Core.Path.{◌≡◌, refl, subst, ◌∙◌}
use mathlib.Core.List.{List}
use mathlib.Core.Bool.{Bool}
use native.Mathlib.Omega.{arith}
use borrow.Author.Tests.{le-leb, lt-leb}
use lib.ListN.{length, get_or, take}
use Rattle.counts.specs.declared.Slot.{Slot}
use Rattle.table.specs.declared.Row.{Row}
use Rattle.table.specs.declared.Table.{Table}
use Rattle.table.specs.Limits.{row_limit}
use Rattle.table.specs.Value.{rows_of}
use Rattle.pd2.specs.Ready.{ready}
use Rattle.pd2.specs.Choice.{row_at}
use Rattle.pd2.proofs.Choice.{row_there}
use Rattle.checker.specs.declared.Finding.TheVariants.{Early}
use Rattle.checker.specs.declared.giving.Kept.{Kept}
use Rattle.checker.specs.declared.giving.Walk.{Walk}
use Rattle.checker.specs.Walking.{IsKept, kept_at, with_kept, AreKept, CanStep, gave_to, CanGiveOn, GaveAll, FoundEarly}
use Rattle.checker.proofs.Named.{PassSoFar, passing_begins, passes_on, fails_first, none_fails, nothing_given, not_given_yet, now_given, others_stay, all_given, named_is_below}
use Rattle.checker.proofs.Kept.{read_row_can_be, ready_from_kept, same_kept, one_kept}

module _ (table : Table) (quanta : ℕ → ℕ) (rows : List ℕ) (slot : Slot) where
  abbrev is_ready : ℕ → Bool
  is_ready i = ready (row_at (rows_of table) i) (quanta i) slot.0

  -- For the loop that gives: the first j rows were ready, and what is kept is that of one quantum more for each of them.
  pub record GaveSoFar (j : ℕ) (walk : Walk) : Type 0 where
    pub pass : PassSoFar rows is_ready j
    pub kept : AreKept table (length (rows_of table)) (gave_to quanta (take j rows)) walk

  module _ {before : Walk} (can : CanGiveOn table rows slot.0 before quanta) where
    -- It begins,
    pub giving_begins : GaveSoFar 0 before
    giving_begins =
        record {
          pass = passing_begins rows _ can.rise is_ready;
          kept = same_kept table _ (λ i l. nothing_given rows _ can.rise quanta i) can.kept;
        }

    module _ (j : ℕ) (l : j < length rows) where
      -- the row that is next
      abbrev next : ℕ
      next = get_or rows j 0

      -- comes to a row of the table,
      pub next_is_row : next < length (rows_of table)
      next_is_row = named_is_below rows _ can.rise j l

      pub next_fits : next < row_limit
      next_fits = omega (arith, next_is_row, can.can.few, can.can.all)

      module _ {walk : Walk} (so : GaveSoFar j walk) {time : ℕ} (now : time ≡ slot.0) {kept : Kept} (read : kept ≡ kept_at walk next) where
        -- of which that is kept which it has been given,
        own : IsKept (row_at (rows_of table) next) (quanta next) kept
        own =
            subst (λ q. IsKept (row_at (rows_of table) next) q kept) (not_given_yet rows _ can.rise quanta j l refl)
            (rw read (so.kept.each next next_is_row))

        next_is_kept : (d : Row) → IsKept (get_or table.rows next d) (quanta next) kept
        next_is_kept d = rw (row_there table.rows table.n next d next_is_row) own

        -- ends at one that has not started, which is the lowest that is early,
        pub early_is_lowest : time < kept.start → FoundEarly table quanta rows slot (Early next slot)
        early_is_lowest before =
            record {
              row = next;
              is = refl;
              below = next_is_row;
              lowest = fails_first rows _ can.rise is_ready so.pass l (ready_from_kept _ own slot.0 ∙ lt-leb _ slot.0 (omega (arith, before, now)));
            }

        module _ (started : kept.start ≤ time) where
          -- can give one that has,
          pub next_can_step : (d : Row) → CanStep (get_or table.rows next d) kept
          next_can_step d =
              record {
                can = read_row_can_be table can.can next next_is_row d;
                quanta = quanta next;
                is = next_is_kept d;
                started = omega (arith, started, now, can.time);
              }

          -- goes on behind it,
          pub gives_next : (d : Row) {more : Kept} → ((q : ℕ) → IsKept (get_or table.rows next d) q kept → IsKept (get_or table.rows next d) (q + 1) more) →
              {after : Walk} → after ≡ with_kept walk next more → GaveSoFar (j + 1) after
          gives_next d {more} gives {after} stored =
              record {
                pass = passes_on rows _ can.rise is_ready so.pass l (ready_from_kept _ own slot.0 ∙ le-leb _ slot.0 (omega (arith, started, now)));
                kept =
                    rw stored
                    (one_kept table _ _ so.kept next next_fits
                    (subst (λ q. IsKept (row_at (rows_of table) next) q more) (now_given rows _ can.rise quanta j l refl)
                    (rw (row_there table.rows table.n next d next_is_row) at (gives (quanta next) (next_is_kept d))))
                    (λ i m other. (m, others_stay rows _ can.rise quanta j l refl i other)));
              }

    -- and ends when all have been given theirs.
    pub all_gave : {j : ℕ} {walk : Walk} → GaveSoFar j walk → length rows ≤ j → GaveAll table quanta rows slot.0 walk
    all_gave {j} so h =
        record {
          none = none_fails rows _ can.rise is_ready so.pass h;
          kept = same_kept table _ (λ i l. all_given rows _ can.rise quanta j h i) so.kept;
        }
