-- What a slot answers and what it leaves alone. Assumes nothing.
use Prim.Native.Nat.{ℕ, zero, suc, ◌+◌, ◌≤◌, ◌<◌}
use mathlib.Core.Path.{◌≡◌, refl, sym, ap, ap₂, ◌∙◌}
use mathlib.Core.List.{List, [], ◌∷◌}
use mathlib.Core.Bool.{Bool, false, not, ◌&&◌, ◌||◌}
use mathlib.Core.Logic.{◌⊎◌, inl, inr, ⊎_elim}
use native.Mathlib.Omega.{arith}
use borrow.Author.Tests.{ltb-false}
use lib.Dec.{ltb, eqb}
use lib.ListN.{length, take}
use lib.Seq.{get_or-take}
use Rattle.facts.specs.Counting.{those, some}
use Rattle.facts.proofs.Counting.{same_count}
use Rattle.facts.proofs.Listing.{same_list}
use Rattle.counts.specs.Limits.{time_limit}
use Rattle.counts.proofs.Numbers.{as_counted}
use Rattle.table.specs.declared.Row.{Row}
use Rattle.table.specs.Value.{fault_of}
use Rattle.pd2.specs.Ready.{ready}
use Rattle.pd2.specs.Choice.{row_at, quanta_at, given, ready_in, goes_before_by, pd2_picks}
use Rattle.pd2.specs.Order.{before}
use Rattle.pd2.proofs.Picks.{same_picked}
use Rattle.pd2.proofs.Choice.{given_in_front}
use Rattle.trace.specs.Record.{marked, record_of, with_record}
use Rattle.trace.specs.Records.{names}
use Rattle.trace.specs.Said.{bare}
use Rattle.cores.specs.Sets.{size}
use Rattle.cores.specs.Placement.{row_in, core_in}
use Rattle.cores.specs.Cores.{placed_for}
use Rattle.cores.specs.Fault.{misremembers}
use Rattle.cores.proofs.Alike.{AlikeIn, faults_alike, ran_alike, places_alike}
use Rattle.dispatcher.specs.declared.State.{State}
use Rattle.dispatcher.specs.State.{rows_in, is_row, quanta_in, time_of}
use Rattle.dispatcher.specs.Broken.{of_row, some_row, exceeds, outside_share, broken}
use Rattle.dispatcher.specs.Answer.{done_said}
use Rattle.dispatcher.specs.Slot.{favoured_in, picks_in, late_at, late_in, placed_in, after_slot, refusal, done_reply, slot_by, slot_of}
use Rattle.dispatcher.specs.Places.{SlotNumbers, BareUnlessLate, AtMostOneQuantum, PastIsReturned, AlikeBelow, SameAnswer, PastIsIgnored}
use Rattle.dispatcher.proofs.Favoured.{same_favours}
use Rattle.dispatcher.proofs.Rows.{some_row_is, late_rows}
use Rattle.dispatcher.proofs.Kept.{IsRefusal, done_number, refusal_numbers, named_is_ready, one_more_or_same}

-- The number of a slot is 0, 1 or that of the first of the five causes.
pub slot_numbers : SlotNumbers
unfolding slot_of
slot_numbers s free buffer place = go (refusal s free buffer place) (refusal_numbers s free buffer place)
  where
    go : (r : ℕ) → (r ≡ 0) ⊎ IsRefusal r →
        let number = (slot_by r s free buffer place).said.number in
        (number < 2) ⊎ ((30 ≤ number) × (number ≤ 35) × (number ≡ 33 → ⊥))
    go zero known = inl (done_number (late_in (after_slot s free)) (time_of s + 1))
    go (suc r) (inl none) = absurd (omega arith)
    go (suc r) (inr range) = inr range

-- Row and time are 0 except with 1.
pub bare_unless_late : BareUnlessLate
unfolding slot_of
bare_unless_late s free buffer place = go (refusal s free buffer place)
  where
    done : (late : List ℕ) (time : ℕ) → ((done_said late time).number ≡ 1 → ⊥) → done_said late time ≡ bare (done_said late time).number
    done [] time other = refl
    done (lowest ∷ others) time other = absurd (other refl)

    go : (r : ℕ) → ((slot_by r s free buffer place).said.number ≡ 1 → ⊥) → (slot_by r s free buffer place).said ≡ bare (slot_by r s free buffer place).said.number
    go zero other = done (late_in (after_slot s free)) (time_of s + 1) other
    go (suc r) other = refl

-- a slot makes the step or leaves the state as it was
steps_or_stays : (s : State) (free : List Bool) (buffer : List ℕ) (place : ℕ) → ((slot_of s free buffer place).state ≡ (done_reply s free buffer place).state) ⊎ ((slot_of s free buffer place).state ≡ s)
unfolding slot_of
steps_or_stays s free buffer place = go (refusal s free buffer place)
  where
    go : (r : ℕ) → ((slot_by r s free buffer place).state ≡ (done_reply s free buffer place).state) ⊎ ((slot_by r s free buffer place).state ≡ s)
    go zero = inl refl
    go (suc r) = inr refl

-- A row gets at most one quantum: the step gives it one or none.
pub at_most_one_quantum : AtMostOneQuantum
at_most_one_quantum s free buffer place i =
    ⊎_elim
    (λ steps. rw steps (⊎_elim (λ more. omega (arith, more.1)) (λ same. omega (arith, same)) (one_more_or_same s free i)))
    (λ stays. rw stays (omega arith))
    (steps_or_stays s free buffer place)

-- The table stays, and so do the quanta past n: only rows below n are picked.
pub past_is_returned : PastIsReturned
past_is_returned s free buffer place =
    ⊎_elim (λ steps. rw steps (refl, unpicked)) (λ stays. rw stays (refl, λ i past. refl)) (steps_or_stays s free buffer place)
  where
    unpicked : (i : ℕ) → is_row s i ≡ false → quanta_at (quanta_in (after_slot s free)) i ≡ quanta_at (quanta_in s) i
    unpicked i past =
        ⊎_elim (λ more. absurd (omega (arith, (named_is_ready s free i more.0).0, ltb-false i (length (rows_in s)) past))) (λ same. same) (one_more_or_same s free i)

-- Quanta that agree on the rows make the same rows ready and go first, so the picks are the same.
same_picks : (rows : List Row) (quanta quanta' : List ℕ) → ((i : ℕ) → i < length rows → quanta_at quanta i ≡ quanta_at quanta' i) →
    (favours : ℕ → Bool) (t k : ℕ) → pd2_picks rows quanta favours t k ≡ pd2_picks rows quanta' favours t k
same_picks rows quanta quanta' same favours t k =
    same_list _ _ (length rows)
    (same_picked (ready_in rows quanta t) (ready_in rows quanta' t) (goes_before_by before rows quanta favours) (goes_before_by before rows quanta' favours) (length rows) k
    (λ i l. ap (λ q. ready (row_at rows i) q t) (same i l))
    (λ i j l m. rw (same i l, same j m) refl))

-- Two states that differ only past n and M
module _ (s s' : State) (alike : AlikeBelow s s') where
  -- have tables with the same fault,
  fault_alike : fault_of s.table ≡ fault_of s'.table
  unfolding fault_of
  fault_alike = rw (alike.format, alike.boards, alike.rows, alike.cycle, alike.cores, alike.row_count)

  -- have the same quanta below n,
  pub quanta_alike : (i : ℕ) → i < length (rows_in s) → quanta_at (quanta_in s) i ≡ quanta_at (quanta_in s') i
  quanta_alike i l =
      sym (get_or-take (length (rows_in s)) (quanta_in s) i 0 l) ∙ (ap (λ q. quanta_at q i) alike.quanta ∙ get_or-take (length (rows_in s)) (quanta_in s') i 0 l)

  -- have the same answer to a question about each row and its quanta,
  row_alike : (is : Row → ℕ → Bool) (i : ℕ) → i < length (rows_in s) → of_row s is i ≡ of_row s' is i
  row_alike is i l = ap₂ is (ap (λ rows. row_at rows i) alike.rows) (quanta_alike i l)

  -- so of some row,
  some_alike : (is : Row → ℕ → Bool) → some_row s is ≡ some_row s' is
  some_alike is =
      some_row_is s is
      ∙ (ap (ltb 0) (same_count (of_row s is) (of_row s' is) (length (rows_in s)) (row_alike is))
      ∙ (ap (λ rows. some (of_row s' is) (length rows)) alike.rows ∙ sym (some_row_is s' is)))

  -- and are late in the same rows;
  late_alike : late_in s ≡ late_in s'
  late_alike =
      late_rows s
      ∙ (same_list (of_row s (late_at (time_of s))) (of_row s' (late_at (time_of s))) (length (rows_in s)) (row_alike (late_at (time_of s)))
      ∙ (ap₂ (λ rows t. those (of_row s' (late_at t)) (length rows)) alike.rows alike.time ∙ sym (late_rows s')))

  -- remember the same,
  memory_alike : AlikeIn s.last s'.last
  memory_alike = record { count = alike.remembered; rows = alike.last_rows; cores = alike.last_cores }

  -- both are broken or neither is,
  pub broken_alike : broken s ≡ broken s'
  unfolding broken
  broken_alike =
      rw (fault_alike, some_alike (exceeds (time_of s)), some_alike (outside_share (time_of s)), alike.time, alike.stopped, faults_alike memory_alike (is_row s) s.table.cores, alike.cores)
      (ap (λ rows. not_so || misremembers s'.last (λ i. ltb i (length rows)) s'.table.cores) alike.rows)
    where
      not_so : Bool
      not_so =
          not (eqb (fault_of s'.table) 0)
          || ltb time_limit (time_of s')
          || some_row s' (exceeds (time_of s'))
          || (not s'.stopped && some_row s' (outside_share (time_of s')))

  -- the same rows are favoured,
  pub favour_alike : (row : ℕ) → favoured_in s row ≡ favoured_in s' row
  favour_alike row = ap₂ (λ format ran. eqb format 2 && ran) alike.format (ran_alike memory_alike row)

  -- and picked,
  pub picks_alike : (k : ℕ) → picks_in s k ≡ picks_in s' k
  picks_alike k =
      same_picks (rows_in s) (quanta_in s) (quanta_in s') quanta_alike (favoured_in s) (time_of s) k
      ∙ (same_favours (rows_in s) (quanta_in s') (λ row _. favour_alike row) (time_of s) k
      ∙ ap₂ (λ rows t. pd2_picks rows (quanta_in s') (favoured_in s') t k) alike.rows alike.time)

  module _ (free : List Bool) where
    -- and get the same cores,
    placed_alike : placed_in s free ≡ placed_in s' free
    placed_alike = places_alike memory_alike (marked free) (picks_in s (size free)) ∙ ap (placed_for s'.last (marked free)) (picks_alike (size free))

    -- and after them the states are still alike.
    alike_after : AlikeBelow (after_slot s free) (after_slot s' free)
    alike_after =
        record {
          format = alike.format;
          cycle = alike.cycle;
          cores = alike.cores;
          boards = alike.boards;
          row_count = alike.row_count;
          rows = alike.rows;
          time = ap (λ t. t + 1) alike.time;
          stopped = alike.stopped;
          quanta = front s ∙ (ap₂ (λ picks l. given (names picks) 0 l) (picks_alike (size free)) alike.quanta ∙ sym (front s'));
          remembered = ap (λ placed. placed.count) placed_alike;
          last_rows = λ i l. ap (λ placed. row_in placed i) placed_alike;
          last_cores = λ i l. ap (λ placed. core_in placed i) placed_alike;
        }
      where
        n : ℕ
        n = length (rows_in s)

        front : (x : State) → take n (quanta_in (after_slot x free)) ≡ given (names (picks_in x (size free))) 0 (take n (quanta_in x))
        front x =
            ap (take n) (as_counted (given (names (picks_in x (size free))) 0 (quanta_in x))) ∙ given_in_front (names (picks_in x (size free))) n 0 (quanta_in x)

    -- The same cause is met first.
    refusal_alike : (buffer : List ℕ) (place : ℕ) → refusal s free buffer place ≡ refusal s' free buffer place
    unfolding refusal
    refusal_alike buffer place = rw (broken_alike, picks_alike (size free), alike.stopped, alike.time, alike.cores)

-- Two such states get the same answer, the same cores and the same bytes, and are alike afterwards.
pub past_is_ignored : PastIsIgnored
unfolding slot_of
past_is_ignored s s' free buffer place alike = rw (refusal_alike s s' alike free buffer place) (go (refusal s' free buffer place))
  where
    after : AlikeBelow (after_slot s free) (after_slot s' free)
    after = alike_after s s' alike free

    same_late : late_in (after_slot s free) ≡ late_in (after_slot s' free)
    same_late = late_alike (after_slot s free) (after_slot s' free) after

    judged_alike : AlikeBelow (done_reply s free buffer place).state (done_reply s' free buffer place).state
    judged_alike =
        record {
          format = after.format;
          cycle = after.cycle;
          cores = after.cores;
          boards = after.boards;
          row_count = after.row_count;
          rows = after.rows;
          time = after.time;
          stopped = ap (λ late. ltb 0 (length late)) same_late;
          quanta = after.quanta;
          remembered = after.remembered;
          last_rows = after.last_rows;
          last_cores = after.last_cores;
        }

    go : (r : ℕ) → SameAnswer (slot_by r s free buffer place) (slot_by r s' free buffer place)
    go zero =
        record {
          said = ap₂ done_said same_late after.time;
          placed = placed_alike s s' alike free;
          bytes = ap (λ picks. with_record buffer place (record_of (size free) picks)) (picks_alike s s' alike (size free));
          state = judged_alike;
        }
    go (suc r) = record { said = refl; placed = refl; bytes = refl; state = alike }
