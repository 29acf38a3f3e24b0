-- Each answer of the reader is the first fault met, part by part. Assumes nothing.
use Rattle.std.proofs.Common.{◌≡◌, refl, sym, ap, ◌∙◌, ℕ, List, Err}
use Rattle.facts.specs.Zero.{if0}
use Rattle.facts.specs.Findings.{first_found}
use Rattle.facts.proofs.Findings.{in_range}
use Rattle.facts.proofs.Zero.{if0_other}
use Rattle.table.specs.declared.faults.Fault.{Fault}
use Rattle.table.specs.Reply.{fault_number, no_table, reply_of}
use Rattle.table.specs.Bytes.{cycle_in, cores_in, row_count_in, rows_place, head_tests, row_count_tests_in, last_tests, table_number, table_in, reading}
use Rattle.table.specs.Parts.{boards_fault_in, rows_fault_in}
use Rattle.table.proofs.Numbers.{is_fault, in_turn, head_says, boards_say_in, rows_say_in}

-- The number that is answered, part after part: what a part says, or where it says nothing what the parts behind it say.
pub table_in_turn : (s : List ℕ) →
    let head = first_found 0 (head_tests s) in
    let boards = boards_fault_in s (cores_in s) in
    let count = first_found 0 (row_count_tests_in s) in
    let rows = rows_fault_in s (cycle_in s) (rows_place s) (row_count_in s) in
    table_number s ≡ if0 head (if0 boards (if0 count (if0 rows (first_found 0 (last_tests s)) rows) count) boards) head
unfolding table_number
table_in_turn s =
    let head = first_found 0 (head_tests s) in
    let boards = boards_fault_in s (cores_in s) in
    let count = first_found 0 (row_count_tests_in s) in
    in_turn (head_says s) _
    ∙ ap (λ k. if0 head k head) (in_turn (boards_say_in s) _
    ∙ ap (λ k. if0 boards k boards) (in_turn (in_range 10 22 (row_count_tests_in s) refl) _
    ∙ ap (λ k. if0 count k count) (in_turn (rows_say_in s) _)))

-- The first fault met is answered, with no table.
pub is_refused : (s : List ℕ) (fault : Fault) → fault_number fault ≡ table_number s → reply_of (Err fault) ≡ reading s
unfolding reading
is_refused s fault e = λ i. record { number = e i; table = (sym (if0_other (fault_number fault) (table_in s) no_table (is_fault fault)) ∙ ap (λ k. if0 k (table_in s) no_table) e) i }

-- A fault of the rows is met where nothing before them has one.
pub rows_decide : (s : List ℕ) → 0 ≡ first_found 0 (head_tests s) → 0 ≡ boards_fault_in s (cores_in s) → 0 ≡ first_found 0 (row_count_tests_in s) →
    (fault : Fault) → fault_number fault ≡ rows_fault_in s (cycle_in s) (rows_place s) (row_count_in s) → fault_number fault ≡ table_number s
rows_decide s head boards count fault rows =
    rw (table_in_turn s, sym head, sym boards, sym count) (rw (sym rows) (sym (if0_other (fault_number fault) (first_found 0 (last_tests s)) (fault_number fault) (is_fault fault))))
