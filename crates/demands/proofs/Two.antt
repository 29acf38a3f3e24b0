-- Demand 2. Assumes nothing.
use Prim.Native.Nat.{zero-le}
use mathlib.Core.Path.{◌≡◌, refl, sym, ap, ◌∙◌}
use mathlib.Core.Logic.{◌↔◌}
use native.Mathlib.Decide.{ℕ_discrete}
use native.Mathlib.Omega.{arith}
use borrow.Author.Tests.{lt-ltb}
use lib.ListN.{length, get_or}
use Rattle.table.specs.Bytes.{table_number, table_in}
use Rattle.table.proofs.Taken.{taken_value_has_no_fault}
use Rattle.pd2.specs.Order.{before}
use Rattle.pd2.specs.Picks.{picked}
use Rattle.pd2.specs.Choice.{quanta_at, ready_in, goes_before_by}
use Rattle.pd2.proofs.Order.{before_means_rule}
use Rattle.pd2.proofs.Picks.{picks_are_best}
use Rattle.pd2.proofs.Choice.{pd2_is_strict}
use Rattle.choice.proofs.Chosen.{chosen_as_pd2}
use Rattle.trace.specs.Records.{free_at, rows_at, names}
use Rattle.trace.specs.Said.{bare}
use Rattle.trace.proofs.Names.{listed_are_named}
use Rattle.trace.proofs.Agree.{still_as_long, agrees_before, agrees_behind, free_written, rows_written}
use Rattle.cores.specs.Sets.{size}
use Rattle.dispatcher.specs.State.{rows_in, quanta_in, time_of}
use Rattle.dispatcher.specs.Slot.{favoured_in, picks_in}
use Rattle.dispatcher.proofs.Whole.{is_whole}
use Rattle.dispatcher.proofs.Kept.{done_is_not_refused, goes, done_makes_the_step, named_is_ready, quanta_after, done_keeps_whole}
use Rattle.dispatcher.proofs.Places.{at_most_one_quantum}
use Rattle.checker.specs.Check.{check_of}
use Rattle.checker.specs.WellFormed.{WellFormed}
use Rattle.checker.specs.Passes.{Passes, InWindows}
use Rattle.checker.proofs.Passes.{passes_in_windows, judges_table_first}
use Rattle.demands.specs.Two.{PicksArePd2s, PassesExactly, DemandTwo}

-- A slot that is done was not refused: its state is whole and its record has room.
pub picks_are_pd2s : PicksArePd2s
picks_are_pd2s s free buffer place done =
    let k = size free in
    let so = goes s free buffer place (done_is_not_refused s free buffer place done) in
    let step = done_makes_the_step s free buffer place done in
    let bytes = ap (λ x. x.bytes) step in
    let state = ap (λ x. x.state) step in
    let rows = ap (λ b. rows_at b place) bytes ∙ rows_written buffer place k (picks_in s k) so.room in
    record {
      bytes = bytes;
      size = ap length bytes ∙ still_as_long buffer place k (picks_in s k) so.room;
      before_it = λ j l. ap (λ b. get_or b j 0) bytes ∙ (agrees_before buffer place k (picks_in s k) so.room 0).same j zero-le l;
      behind_it = λ j l. ap (λ b. get_or b j 0) bytes ∙ agrees_behind buffer place k (picks_in s k) so.room j (omega arith);
      picked_rows = λ i l.
          ap (λ named. names named i) rows
          ∙ (listed_are_named (picked (ready_in (rows_in s) (quanta_in s) (time_of s)) (goes_before_by before (rows_in s) (quanta_in s) (favoured_in s)) (length (rows_in s)) k) (length (rows_in s)) i
          ∙ rw (lt-ltb i (length (rows_in s)) l) refl);
      free = ap (λ b. free_at b place) bytes ∙ free_written buffer place k (picks_in s k) so.room;
      rows = rows;
      best = picks_are_best (ready_in (rows_in s) (quanta_in s) (time_of s)) (goes_before_by before (rows_in s) (quanta_in s) (favoured_in s)) (length (rows_in s)) k (pd2_is_strict (rows_in s) (quanta_in s) (favoured_in s) (time_of s) (length (rows_in s)));
      quanta = λ long i. ap (λ x. quanta_at (quanta_in x) i) state ∙ rw rows (quanta_after s free (is_whole s so.whole) long i);
      time = ap time_of state;
      ready = λ i h. named_is_ready s free i (sym (ap (λ l. names l i) rows) ∙ h);
      stops = (done_keeps_whole s free buffer place done).stops;
      runs_on = (done_keeps_whole s free buffer place done).runs_on;
    }

-- The bytes of a table that is taken are checked as the table is; where it is not taken, nothing passes.
passes_exactly : PassesExactly
passes_exactly bytes s = (
  λ passes.
      let e = taken passes (ℕ_discrete (table_number bytes) 0) in
      let found = (means e).0 (sym ((judges_table_first bytes s).1 e) ∙ passes) in
      (e, found.0, found.1),
  λ h. (judges_table_first bytes s).1 h.0 ∙ (means h.0).1 (h.1, h.2),
)
  where
    means : table_number bytes ≡ 0 → Passes (table_in bytes) s ↔ (WellFormed (table_in bytes) s × InWindows (table_in bytes) s)
    means e = passes_in_windows (table_in bytes) s (taken_value_has_no_fault bytes e)

    taken : check_of bytes s ≡ bare 0 → Dec (table_number bytes ≡ 0) → table_number bytes ≡ 0
    taken passes (yes e) = e
    taken passes (no n) = ap (λ x. x.number) (sym ((judges_table_first bytes s).0 n) ∙ passes)

pub demand_two : DemandTwo
demand_two = record { order = before_means_rule; picks = picks_are_pd2s; alone = chosen_as_pd2; at_most_one = at_most_one_quantum; passes = passes_exactly }
