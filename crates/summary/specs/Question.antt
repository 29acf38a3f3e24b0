-- The question for row and time (02, Ten): "A question for row and time counts on from the last entry at or before that time."
use Rattle.std.specs.Prelude.{ℕ, ◌+◌, ◌*◌, ◌/◌, ◌%◌, min, List, [], ◌∷◌, Bool, not, ◌||◌, ltb}
use Rattle.facts.specs.Counting.{some}
use Rattle.facts.specs.Findings.{Test, ◌says◌, first_found}
use Rattle.facts.specs.Zero.{if0}
use Rattle.fields.specs.Fields.{shorter}
use Rattle.table.specs.Limits.{row_limit}
use Rattle.trace.specs.Records.{past_record, place_of, slots_in, times_named_from}
use Rattle.summary.specs.Summary.{spacing, entry_size, place_said, quanta_said}

-- "the last entry at or before that time"
abbrev pub last_entry : ℕ → ℕ
last_entry t = t / spacing

-- how many records lie between that entry's time and the time
abbrev pub since_entry : ℕ → ℕ
since_entry t = t % spacing

-- 36, "for a row not below n": an entry has 32 counts, so no row is above (docs/DECISIONS.md, 138)
abbrev pub no_row : ℕ → ℕ → Bool
no_row n row = not (ltb row (min n row_limit))

-- 38, "if the count is cut or the time past it"
abbrev pub past_count : List ℕ → ℕ → Bool
past_count trace t = shorter trace 4 || ltb (slots_in trace) t

-- 39, "if the entry is missing,
abbrev pub entry_missing : List ℕ → ℕ → Bool
entry_missing summary x = shorter summary (entry_size * (x + 1))

-- its quanta of the row exceed its time,
abbrev pub exceed_time : List ℕ → ℕ → ℕ → Bool
exceed_time summary x row = ltb (spacing * x) (quanta_said summary x row)

-- or a record from its place up to the time is not inside the trace": of m records from a place on
abbrev pub some_outside : List ℕ → ℕ → ℕ → Bool
some_outside trace from m = some (λ j. shorter trace (past_record trace (place_of trace from j))) m

abbrev pub no_entry : List ℕ → List ℕ → ℕ → ℕ → Bool
no_entry trace summary row t =
    let x = last_entry t in
    entry_missing summary x || (exceed_time summary x row || some_outside trace (place_said summary x) (since_entry t))

-- "Refusals: for a question 36 .., 38 .., 39 .."
abbrev pub question_tests : ℕ → List ℕ → List ℕ → ℕ → ℕ → List Test
question_tests n trace summary row t =
    (no_row n row says 36)
    ∷ (past_count trace t says 38)
    ∷ (no_entry trace summary row t says 39)
    ∷ []

-- What comes back: 02's number, and the quanta of the row before the time; "In any refused answer each part that no rule names is 0 or empty" (01).
pub record Reply : Type 0 where
  pub number : ℕ
  pub quanta : ℕ

-- "counts on from the last entry": its quanta, and how many of the records since name the row
abbrev pub counted_on : List ℕ → List ℕ → ℕ → ℕ → ℕ
counted_on trace summary row t = let x = last_entry t in quanta_said summary x row + times_named_from trace (place_said summary x) row (since_entry t)

abbrev pub reply_by : ℕ → ℕ → Reply
reply_by number quanta = record { number = number; quanta = if0 number quanta 0 }

unfoldable pub reply_to : ℕ → List ℕ → List ℕ → ℕ → ℕ → Reply
reply_to n trace summary row t = reply_by (first_found 0 (question_tests n trace summary row t)) (counted_on trace summary row t)
