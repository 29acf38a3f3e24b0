-- "with such a summary the answer is what counting from slot 0 gives" (02, Ten).
use Rattle.std.specs.Prelude.{ℕ, ◌≤◌, ◌<◌, ◌≡◌, List, ◌↔◌, length}
use Rattle.facts.specs.Findings.{FirstFound}
use Rattle.table.specs.declared.Table.{Table}
use Rattle.table.specs.Value.{rows_of}
use Rattle.trace.specs.Records.{slots_in, times_named}
use Rattle.summary.specs.Question.{question_tests, reply_to}
use Rattle.summary.specs.Right.{IsRight}

-- 36 and 38 are the only refusals, and every other question is answered with how
-- many of the records from slot 0 on name the row.
pub record CountsFromZero (n : ℕ) (trace summary : List ℕ) (row t : ℕ) : Type 0 where
  pub no_row : n ≤ row → reply_to n trace summary row t ≡ record { number = 36; quanta = 0 }
  pub past_count : row < n → slots_in trace < t → reply_to n trace summary row t ≡ record { number = 38; quanta = 0 }
  pub counted : row < n → t ≤ slots_in trace → reply_to n trace summary row t ≡ record { number = 0; quanta = times_named trace row t }

abbrev pub RightCountsFromZero : Type 0
RightCountsFromZero =
    (table : Table) (trace summary : List ℕ) (row t : ℕ) → IsRight table trace summary → CountsFromZero (length (rows_of table)) trace summary row t

-- Of any trace and summary: 36, 38 and 39 are answered exactly when their cause is the first met.
abbrev pub QuestionRefusalsAreFirstCauses : Type 0
QuestionRefusalsAreFirstCauses =
    (n : ℕ) (trace summary : List ℕ) (row t number : ℕ) → (number ≡ 0 → ⊥) →
    ((reply_to n trace summary row t).number ≡ number) ↔ FirstFound (question_tests n trace summary row t) number
