-- The laws of reading one board number and one row. Assumes nothing.
use mathlib.Core.Path.{◌≡◌, refl, sym, ap, ◌∙◌}
use mathlib.Core.List.{List}
use Rattle.std.proofs.Common.{Ok, Err}
use Prim.Native.Nat.{ℕ, ◌+◌, ◌≤◌, ◌<◌}
use native.Mathlib.Omega.{arith}
use borrow.Author.Tests.{lt-ltb, le-ltb, ltb-false}
use lib.ListN.{length}
use Rattle.facts.specs.Findings.{first_found, FirstFound, NoneFound}
use Rattle.facts.proofs.Zero.{if0_other}
use Rattle.facts.proofs.Findings.{first_is_said, after_none}
use Rattle.fields.specs.Fields.{byte}
use Rattle.table.specs.declared.Row.{Row}
use Rattle.table.specs.declared.faults.Fault.{Fault}
use Rattle.table.specs.declared.faults.Fault.TheVariants.{Ends}
use Rattle.table.specs.declared.rows.Cursor.{Cursor}
use Rattle.table.specs.Reply.{fault_number}
use Rattle.table.specs.Causes.{row_tests, board_tests, zero_row}
use Rattle.table.specs.Bytes.{row_in_bytes, board_tests_in, row_tests_in}
use Rattle.table.specs.RowRead.{RowReply, row_reply_of, row_reply_by, row_reply}
use Rattle.table.proofs.Numbers.{is_fault, none_met, row_says_in}

-- A board number is a fault if it is too low,
pub board_too_low : (least board : ℕ) → board < least → first_found 0 (board_tests least board) ≡ 14
board_too_low least board h = first_is_said 0 (FirstFound.here (lt-ltb board least h))

pub board_rises : (least board : ℕ) → least ≤ board → NoneFound (board_tests least board)
board_rises least board h = NoneFound.later (le-ltb board least h) NoneFound.end

-- and in bytes also if it is not there.
module _ (s : List ℕ) (least i : ℕ) where
  pub board_cut : length s ≤ i → first_found 0 (board_tests_in s least i) ≡ 10
  board_cut h = first_is_said 0 (FirstFound.here (lt-ltb (length s) (i + 1) (omega arith)))

  pub board_low_there : i < length s → byte s i < least → first_found 0 (board_tests_in s least i) ≡ 14
  board_low_there h low = first_is_said 0 (FirstFound.later (le-ltb (length s) (i + 1) (omega arith)) (FirstFound.here (lt-ltb (byte s i) least low)))

  pub board_passes_there : i < length s → NoneFound (board_tests least (byte s i)) → NoneFound (board_tests_in s least i)
  board_passes_there h none = NoneFound.later (le-ltb (length s) (i + 1) (omega arith)) none

-- An answer by its number,
module _ (k : ℕ) (row : Row) (past : ℕ) where
  -- without a fault the row, with one the number alone.
  by_none : k ≡ 0 → row_reply_by k row past ≡ record { number = 0; row = row; past = past }
  by_none none = rw none refl

  by_fault : (fault : Fault) → fault_number fault ≡ k → row_reply_by k row past ≡ row_reply_of (Err fault)
  by_fault fault e =
      let some : k ≡ 0 → ⊥ = λ z. is_fault fault (e ∙ z) in
      rw (if0_other k row zero_row some, if0_other k past 0 some, e) refl

  -- So what was read tells the fault: a row comes with 0.
  was_row : {row' : Row} {past' : Cursor} → row_reply_of (Ok (row', past')) ≡ row_reply_by k row past → (k ≡ 0) × (row' ≡ row) × (past'.at ≡ past)
  was_row {row'} {past'} e =
      let none : k ≡ 0 = sym (ap (λ (x : RowReply). x.number) e) in
      let same = e ∙ by_none none in
      (none, ap (λ (x : RowReply). x.row) same, ap (λ (x : RowReply). x.past) same)

module _ (s : List ℕ) (cycle least i : ℕ) where
  -- A row with a fault is answered by its number.
  answered_by_fault : (fault : Fault) → fault_number fault ≡ first_found 0 (row_tests_in s cycle least i) → row_reply_of (Err fault) ≡ row_reply s cycle least i
  unfolding row_reply
  answered_by_fault fault e = sym (by_fault _ (row_in_bytes s i) (i + 9) fault e)

  -- It is cut,
  pub row_cut : length s < i + 9 → row_reply_of (Err Ends) ≡ row_reply s cycle least i
  row_cut h = answered_by_fault Ends (sym (first_is_said 0 (FirstFound.here (lt-ltb (length s) (i + 9) h))))

  -- or all there, and then its first fault is that of its value:
  row_there : i + 9 ≤ length s → first_found 0 (row_tests_in s cycle least i) ≡ first_found 0 (row_tests cycle least (row_in_bytes s i))
  row_there h = after_none 0 (row_tests cycle least (row_in_bytes s i)) (NoneFound.later (le-ltb (length s) (i + 9) h) NoneFound.end)

  -- it has a fault,
  pub row_faulty : i + 9 ≤ length s → (fault : Fault) → fault_number fault ≡ first_found 0 (row_tests cycle least (row_in_bytes s i)) → row_reply_of (Err fault) ≡ row_reply s cycle least i
  row_faulty h fault e = answered_by_fault fault (e ∙ sym (row_there h))

  -- or is read.
  pub row_read : i + 9 ≤ length s → 0 ≡ first_found 0 (row_tests cycle least (row_in_bytes s i)) → {row : Row} → row ≡ row_in_bytes s i → row_reply_of (Ok (row, record { at = i + 9 })) ≡ row_reply s cycle least i
  unfolding row_reply
  row_read h f e = rw (row_there h, sym f, e)

  -- A row that was read has no fault,
  pub row_was_read : {row : Row} {past : Cursor} → row_reply_of (Ok (row, past)) ≡ row_reply s cycle least i →
      NoneFound (row_tests_in s cycle least i) × (row ≡ row_in_bytes s i) × (past.at ≡ i + 9)
  unfolding row_reply
  row_was_read e =
      let was = was_row (first_found 0 (row_tests_in s cycle least i)) (row_in_bytes s i) (i + 9) e in
      (none_met (row_says_in s cycle least i) was.0, was.1, was.2)

  -- so all its bytes are there;
  pub row_was_there : NoneFound (row_tests_in s cycle least i) → i + 9 ≤ length s
  row_was_there (NoneFound.later there none) = ltb-false (length s) (i + 9) there

  -- and a fault that was found is its first.
  pub row_was_faulty : (fault : Fault) → row_reply_of (Err fault) ≡ row_reply s cycle least i → fault_number fault ≡ first_found 0 (row_tests_in s cycle least i)
  unfolding row_reply
  row_was_faulty fault e = ap (λ (x : RowReply). x.number) e
