-- What judging a record leads to. Assumes nothing.
use Prim.Native.Nat.{ℕ, ◌+◌, ◌-◌, ◌<◌}
use mathlib.Core.Path.{◌≡◌, refl, sym, ap, subst, ◌∙◌}
use mathlib.Core.List.{List, [], ◌∷◌}
use mathlib.Core.Bool.{Bool, true, false}
use native.Mathlib.Numerals.{add-one}
use lib.Dec.{leb}
use lib.ListN.{length, get_or, take, drop}
use Rattle.counts.specs.declared.Slot.{Slot}
use Rattle.facts.specs.First.{Lowest}
use Rattle.facts.specs.Findings.{◌says◌, FirstFound, NoneFound}
use Rattle.facts.proofs.First.{same_lowest}
use Rattle.facts.proofs.Findings.{none_joined, first_in_front, first_behind}
use Rattle.facts.proofs.Counting.{counted_one_more}
use Rattle.facts.proofs.Some.{some_if, none_if}
use Rattle.facts.proofs.Listing.{lowest_is_first}
use Rattle.table.specs.declared.Table.{Table}
use Rattle.table.specs.Value.{rows_of}
use Rattle.pd2.specs.Choice.{row_at}
use Rattle.pd2.proofs.Readiness.{late_from_deadline}
use Rattle.trace.specs.Said.{Said, named}
use Rattle.trace.specs.Records.{rows_at, past_record, named_in, first_place, place_in, rows_of_slot, times_named}
use Rattle.trace.proofs.Records.{ends_at_next}
use Rattle.checker.specs.declared.Finding.{Finding}
use Rattle.checker.specs.declared.giving.Walk.{Walk}
use Rattle.checker.specs.Answer.{said_by}
use Rattle.checker.specs.Causes.{too_early, too_late, lowest, any_row}
use Rattle.checker.specs.Check.{shape_at, time_findings, record_findings}
use Rattle.checker.specs.Walking.{AreKept, CanJudge, Walked, CanGiveOn, GaveAll, FoundEarly, is_early}
use Rattle.checker.proofs.Kept.{same_kept}
use Rattle.checker.proofs.Shape.{SoundShape}

-- The lowest row that is so is the one that is named.
is_lowest : (table : Table) (is : ℕ → Bool) (i : ℕ) → Lowest is (length (rows_of table)) i → i < length (rows_of table) → (any_row table is ≡ true) × (lowest table is ≡ i)
is_lowest table is i low l =
    (some_if is (length (rows_of table)) i l (low.passes l), ap (λ rows. get_or rows 0 0) (lowest_is_first is (length (rows_of table)) i low l).1)

none_is : (table : Table) (is : ℕ → Bool) → Lowest is (length (rows_of table)) (length (rows_of table)) → any_row table is ≡ false
none_is table is low = none_if is (length (rows_of table)) low.none_before

module _ (table : Table) (s : List ℕ) (slot : Slot) (at : ℕ) (walk : Walk) (can : CanJudge table s slot.0 at walk) where
  abbrev t : ℕ
  t = slot.0

  -- A record ends the check where its shape is not sound,
  pub shape_ends : {x : Said} → FirstFound (shape_at table.cores table.n s at) x → FirstFound (record_findings table s t) x
  shape_ends {x} f =
      first_in_front {a = shape_at table.cores (length (rows_of table)) s (place_in s t)} (time_findings table s t)
      (rw (can.can.all, ← can.reached.place) f)

  module _ {next : ℕ} (shape : SoundShape table.cores table.n s at next) where
    sound : NoneFound (shape_at table.cores (length (rows_of table)) s (place_in s t))
    sound = rw (can.can.all, ← can.reached.place) shape.none

    -- the rows that the record names
    abbrev rows : List ℕ
    rows = take (next - (at + 2)) (drop (at + 2) s)

    rows_are : rows ≡ rows_of_slot s t
    rows_are = shape.rows ∙ ap (rows_at s) can.reached.place

    -- its rows can be given quanta,
    pub can_give : CanGiveOn table rows t walk (λ i. times_named s i t)
    can_give =
        record {
          can = can.can;
          rise = rw (can.can.all, shape.rows) shape.rise;
          kept = can.reached.kept;
          time = can.time;
        }

    same_early : {i : ℕ} → Lowest (is_early table (λ i. times_named s i t) rows t) (length (rows_of table)) i → Lowest (too_early table s t) (length (rows_of table)) i
    same_early {i} low = same_lowest (is_early table (λ i. times_named s i t) rows t) (too_early table s t) (length (rows_of table)) i (λ j l. rw rows_are refl) low

    -- an early row ends the check,
    pub early_ends : {finding : Finding} → FoundEarly table (λ i. times_named s i t) rows slot finding → FirstFound (record_findings table s t) (said_by finding)
    early_ends early =
        let is = is_lowest table (too_early table s t) early.row (same_early early.lowest) early.below in
        rw early.is
        (first_behind sound (subst (λ row. FirstFound (time_findings table s t) (named 44 row t)) is.1 (FirstFound.here is.0)))

    module _ {after : Walk} (gave : GaveAll table (λ i. times_named s i t) rows t after) where
      no_early : any_row table (too_early table s t) ≡ false
      no_early = none_is table (too_early table s t) (same_early gave.none)

      -- what is kept after the slot
      kept_after : AreKept table (length (rows_of table)) (λ i. times_named s i (t + 1)) after
      kept_after =
          same_kept table (length (rows_of table)) (λ i l. rw rows_are (sym (counted_one_more (named_in s first_place i) t))) gave.kept

      -- the lowest late row, as it was found in the array
      same_late : {i : ℕ} → Lowest (λ i. leb (get_or after.dues i 0) (t + 1)) (length (rows_of table)) i → Lowest (too_late table s (t + 1)) (length (rows_of table)) i
      same_late {i} low =
          same_lowest (λ i. leb (get_or after.dues i 0) (t + 1)) (too_late table s (t + 1)) (length (rows_of table)) i
          (λ j l. rw (kept_after.each j l).dues (sym (late_from_deadline (row_at (rows_of table) j) (times_named s j (t + 1)) (t + 1))))
          low

      -- a late row ends it,
      pub late_ends : {time i : ℕ} → time ≡ t + 1 → Lowest (λ i. leb (get_or after.dues i 0) time) table.n i → i < table.n →
          FirstFound (record_findings table s t) (named 45 i time)
      late_ends {i = i} e low l =
          let is = is_lowest table (too_late table s (t + 1)) i (same_late (rw can.can.all (rw e at low))) (rw can.can.all l) in
          rw e
          (first_behind sound
          (FirstFound.later no_early (subst (λ row. FirstFound ((any_row table (too_late table s (t + 1)) says named 45 (lowest table (too_late table s (t + 1))) (t + 1)) ∷ []) (named 45 row (t + 1))) is.1 (FirstFound.here is.0))))

      -- and else the walk goes on.
      pub goes_on : {time : ℕ} → time ≡ t + 1 → Lowest (λ i. leb (get_or after.dues i 0) time) table.n table.n →
          Walked table s t after next
      goes_on e low =
          record {
            none =
                none_joined sound
                (NoneFound.later no_early (NoneFound.later (none_is table (too_late table s (t + 1)) (same_late (rw can.can.all (rw e at low)))) NoneFound.end));
            reached =
                record {
                  place = shape.behind ∙ (ap (past_record s) can.reached.place ∙ (ends_at_next s first_place t ∙ ap (place_in s) (sym (add-one t))));
                  inside = shape.inside;
                  kept = kept_after;
                };
          }
