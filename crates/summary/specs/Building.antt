-- Building the summary of a trace in a lent buffer (02, Ten). 02 asks for no numbers here: 0 is built, 1 is a trace that is not well formed for a table that is taken,
-- 2 a buffer that is too short (docs/DECISIONS.md, 141).
use Rattle.std.specs.Prelude.{ℕ, ◌*◌, ◌≡◌, List, [], ◌∷◌, Bool, false, cond, not, ◌||◌, ◌↔◌, eqb, length, Result, Ok, Err}
use Rattle.facts.specs.Counting.{some}
use Rattle.facts.specs.Findings.{Test, ◌says◌, first_found}
use Rattle.facts.specs.Zero.{if0}
use Rattle.fields.specs.Fields.{shorter}
use Rattle.table.specs.declared.Table.{Table}
use Rattle.table.specs.Value.{fault_of, rows_of}
use Rattle.trace.specs.Record.{with_front, with_record}
use Rattle.trace.specs.Records.{slots_in, place_in}
use Rattle.trace.specs.Shape.{slot_count_cut, too_long, head_cut, too_many_cores, too_many_rows, rows_cut, bad_row, extra}
use Rattle.summary.specs.declared.Unbuilt.{Unbuilt}
use Rattle.summary.specs.declared.Unbuilt.TheVariants.{NotWellFormed, NoRoom}
use Rattle.summary.specs.Summary.{entry_size, entry_bytes, entries_in, summary_of}
use Rattle.summary.specs.Question.{entry_missing}
use Rattle.summary.specs.Right.{WellFormedOver}

-- The record at a place gives cause for one of 40 to 43,
abbrev pub bad_record : ℕ → ℕ → List ℕ → ℕ → Bool
bad_record M n s place = head_cut s place || too_many_cores M s place || too_many_rows s place || rows_cut s place || bad_row n s place

-- and a trace for one of 40 to 43, 46 and 47.
unfoldable pub bad_trace : ℕ → ℕ → List ℕ → Bool
bad_trace M n s = slot_count_cut s || too_long s || some (λ t. bad_record M n s (place_in s t)) (slots_in s) || extra s

-- The trace is not well formed for a table that is taken.
abbrev pub ill_formed : Table → List ℕ → Bool
ill_formed table trace = not (eqb (fault_of table) 0) || bad_trace table.cores (length (rows_of table)) trace

-- That is the same as 01's sentence, which says it of each record.
abbrev pub IllFormedExactly : Type 0
IllFormedExactly = (table : Table) (trace : List ℕ) → (ill_formed table trace ≡ false) ↔ WellFormedOver table trace

abbrev pub build_tests : Table → List ℕ → List ℕ → List Test
build_tests table trace buffer =
    (ill_formed table trace says 1)
    ∷ (shorter buffer (length (summary_of trace)) says 2)
    ∷ []

-- What comes back: one of these numbers, and how many entries were written.
pub record BuildReply : Type 0 where
  pub number : ℕ
  pub entries : ℕ

abbrev pub built_of : Result ℕ Unbuilt → BuildReply
built_of (Ok entries) = record { number = 0; entries = entries }
built_of (Err NotWellFormed) = record { number = 1; entries = 0 }
built_of (Err NoRoom) = record { number = 2; entries = 0 }

abbrev pub build_number : Table → List ℕ → List ℕ → ℕ
build_number table trace buffer = first_found 0 (build_tests table trace buffer)

unfoldable pub build_of : Table → List ℕ → List ℕ → BuildReply
build_of table trace buffer = let number = build_number table trace buffer in record { number = number; entries = if0 number (entries_in (slots_in trace)) 0 }

-- The summary stands at the front of the buffer, and every other byte is as before; refused, all bytes are.
unfoldable pub built_in : Table → List ℕ → List ℕ → List ℕ
built_in table trace buffer = let built = with_front buffer (summary_of trace) in if0 (build_number table trace buffer) built buffer

-- An entry is written to its own place, by its number, if it lies wholly inside; every other byte is as before.
unfoldable pub with_entry : List ℕ → ℕ → ℕ → List ℕ → List ℕ
with_entry summary x place counts = cond (entry_missing summary x) summary (with_record summary (entry_size * x) (entry_bytes place counts))
