-- What slots in time mean for one row: it is within its share, each quantum falls inside its allowed slots, and none is overdue. Assumes nothing.
use Prim.Native.Nat.{ℕ, zero, suc, ◌+◌, ◌≤◌, ◌<◌}
use mathlib.Core.Path.{◌≡◌, refl, sym, ap, ◌∙◌}
use mathlib.Core.List.{List}
use mathlib.Core.Bool.{Bool, true, false, not}
use native.Mathlib.Decide.{dec_lt}
use native.Mathlib.Numerals.{add-one}
use native.Mathlib.Omega.{arith}
use borrow.Author.Tests.{leb-true, leb-false, le-leb, lt-leb, not-false}
use lib.Dec.{leb}
use lib.ListN.{length}
use Rattle.facts.proofs.Tests.{both, hold_both}
use Rattle.facts.proofs.Counting.{none_counted, counts_grow}
use Rattle.windows.proofs.Windows.{window_has_a_slot, due_in_order}
use Rattle.table.specs.declared.Row.{Row}
use Rattle.table.specs.declared.Table.{Table}
use Rattle.table.specs.Value.{fault_of, rows_of}
use Rattle.pd2.specs.Ready.{origin_of, ready, late}
use Rattle.pd2.specs.Share.{lower, upper, within, CanBe}
use Rattle.pd2.specs.Choice.{row_at}
use Rattle.pd2.proofs.Readiness.{ready_from_start, late_from_deadline}
use Rattle.pd2.proofs.Share.{row_can_be, nothing_is_within, upper_kept_when_idle, upper_after_quantum_means_ready, late_means_below}
use Rattle.trace.specs.Records.{named_in, first_place, names, slots_in, rows_of_slot, times_named}
use Rattle.trace.proofs.Records.{counted_if_named, uncounted_if_not_named}
use Rattle.checker.specs.Passes.{first_allowed, due, Holds, InWindows}
use Rattle.checker.proofs.Sound.{InTime}

-- A row of a table without fault, in a trace.
module _ (table : Table) (s : List ℕ) (sound : fault_of table ≡ 0) (i : ℕ) (l : i < length (rows_of table)) where
  abbrev row : Row
  row = row_at (rows_of table) i

  -- its quanta at time t
  abbrev quanta : ℕ → ℕ
  quanta t = times_named s i t

  -- it is within its share at time t
  abbrev in_share : ℕ → Type 0
  in_share t = within row (quanta t) t ≡ true

  can : CanBe row
  can = row_can_be table sound i l

  -- at time 0 it is within its share,
  share_begins : in_share 0
  share_begins = rw (none_counted (named_in s first_place i)) (nothing_is_within row can)

  -- and a slot in time keeps it there: at the end it is not late, and if it is named it was ready
  share_kept : (t : ℕ) → InTime table s t → in_share t → in_share (t + 1)
  share_kept t in_time now =
      let low = sym (late_means_below row can (quanta (t + 1)) (t + 1)) ∙ in_time.none_late i l in
      hold_both (not-false (lower row (quanta (t + 1)) (t + 1)) low) (go (names (rows_of_slot s t) i) refl)
    where
      go : (named : Bool) → names (rows_of_slot s t) i ≡ named → upper row (quanta (t + 1)) (t + 1) ≡ true
      go true e = rw (counted_if_named s first_place i t e) (upper_after_quantum_means_ready row can (quanta t) t ∙ in_time.readied i l e)
      go false e = rw (uncounted_if_not_named s first_place i t e) (upper_kept_when_idle row can (quanta t) t (both (lower row (quanta t) t) _ now).1)

  -- So after slots in time it is within its share,
  pub within_after : (n : ℕ) → ((t : ℕ) → t < n → InTime table s t) → in_share n
  within_after zero each = share_begins
  within_after (suc t) each = rw (← add-one t) (share_kept t (each t (omega arith)) (within_after t (λ j k. each j (omega arith))))

  -- and the other way round: if it is within its share after slot t that names it, it was ready,
  pub within_was_ready : (t : ℕ) → in_share (t + 1) → names (rows_of_slot s t) i ≡ true → ready row (quanta t) t ≡ true
  within_was_ready t after e =
      let high = (both (lower row (quanta (t + 1)) (t + 1)) _ after).1 in
      sym (upper_after_quantum_means_ready row can (quanta t) t) ∙ rw (counted_if_named s first_place i t e) at high

  -- and where it is within its share it is not late.
  pub within_not_late : (t : ℕ) → in_share t → late row (quanta t) t ≡ false
  within_not_late t now = late_means_below row can (quanta t) t ∙ ap not (both (lower row (quanta t) t) _ now).0

  -- after slots in time its next subtask is due later
  due_ahead : (n : ℕ) → ((t : ℕ) → t < n → InTime table s t) → n < due row (quanta n + 1)
  due_ahead zero each =
      let period : 0 < row.period = omega (arith, can.cost, can.weight) in
      omega (arith, window_has_a_slot row.cost row.period (origin_of row) can.cost period {i = quanta 0 + 1} (omega arith))
  due_ahead (suc t) each =
      rw (← add-one t)
      (leb-false _ (t + 1) (sym (late_from_deadline row (quanta (t + 1)) (t + 1)) ∙ (each t (omega arith)).none_late i l))

  -- So a quantum in a slot of them falls inside its allowed slots,
  pub in_time_is_allowed : (t j : ℕ) → ((u : ℕ) → u ≤ t → InTime table s u) → Holds s i t j → (first_allowed row j ≤ t) × (t < due row j)
  in_time_is_allowed t j each holds =
      let was_ready = sym (ready_from_start row (quanta t) t) ∙ (each t (omega arith)).readied i l holds.0 in
      rw (← holds.1) (leb-true (first_allowed row (quanta t + 1)) t was_ready, due_ahead t (λ u k. each u (omega arith)))

  -- and what is due after them has been held,
  pub in_time_is_held : (j : ℕ) → ((t : ℕ) → t < due row j → InTime table s t) → j ≤ quanta (due row j)
  in_time_is_held j each =
      omega (arith, due_in_order row.cost row.period (origin_of row) can.cost can.weight j (quanta (due row j) + 1) (due_ahead (due row j) each))

  -- and the other way round: with each quantum inside its allowed slots it was ready where it is named,
  pub allowed_was_ready : InWindows table s → (t : ℕ) → t < slots_in s → names (rows_of_slot s t) i ≡ true → ready row (quanta t) t ≡ true
  allowed_was_ready windows t k e =
      ready_from_start row (quanta t) t
      ∙ le-leb (first_allowed row (quanta t + 1)) t (windows.allowed i t (quanta t + 1) l k (e, refl)).0

  -- and with none overdue it is not late: what is due by time t has been held by then, so it is not the next.
  pub held_not_late : InWindows table s → (t : ℕ) → t ≤ slots_in s → late row (quanta t) t ≡ false
  held_not_late windows t k = late_from_deadline row (quanta t) t ∙ go (dec_lt t (due row (quanta t + 1)))
    where
      next : ℕ
      next = due row (quanta t + 1)

      go : Dec (t < next) → leb next t ≡ false
      go (yes h) = lt-leb next t h
      go (no h) =
          let held = windows.none_overdue i (quanta t + 1) l (omega arith) (omega arith) in
          absurd (omega (arith, held, counts_grow (named_in s first_place i) next t (omega arith)))
