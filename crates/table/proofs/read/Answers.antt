use Rattle.std.proofs.Common.{◌≡◌, ◌+◌, sym, ap, ◌∙◌, length, arith}
use Rattle.std.proofs.lemmas.Result.{err_from_is_err_and}
use borrow.Author.Tests.{le-ltb}
use Rattle.facts.specs.Findings.{first_found, NoneFound}
use Rattle.facts.proofs.Findings.{none_says_otherwise}
use Rattle.fields.specs.Fields.{byte}
use Rattle.table.specs.Limits.{row_limit}
use Rattle.table.specs.Bytes.{cores_in, row_count_in, rows_place, row_count_tests_in, reading}
use Rattle.table.specs.Parts.{boards_fault_in, rows_fault_in}
use Rattle.table.proofs.Answers.{table_in_turn, rows_decide, is_refused}
use Rattle.table.proofs.read.Goals as goal

pub returns-in_err-read : goal.returns-in_err-read
returns-in_err-read c =
    let s = c.args.bytes.now in
    let fields = c.in_ok-head.ensures.fields in
    let n : c.byte-row_count.result ≡ row_count_in s = c.byte-row_count.ensures ∙ ap (λ m. byte s (6 + m)) fields.2 in
    let boards : 0 ≡ boards_fault_in s (cores_in s) = c.in_ok-boards.ensures.number ∙ ap (boards_fault_in s) fields.2 in
    let count : NoneFound (row_count_tests_in s) =
    NoneFound.later (le-ltb (length s) (rows_place s) (omega arith)) (NoneFound.later (le-ltb row_limit (row_count_in s) (omega arith)) NoneFound.end) in
    let handed = err_from_is_err_and c.from_residual-in_err-read.result c.from_residual-in_err-read.ensures.1 in
    rw (handed.1, handed.2)
    (is_refused s _
    (rows_decide s c.in_ok-head.ensures.number boards (sym (none_says_otherwise 0 count)) _
    (c.in_err-read.ensures ∙ (λ i. rows_fault_in s (fields.1 i) (6 + fields.2 i + 1) (n i)))))

pub returns-then-is_overfull : goal.returns-then-is_overfull
unfolding first_found reading
returns-then-is_overfull c = grind (arith, c.in_ok-read.ensures, c.in_ok-head.ensures.fields, c.in_ok-head.ensures.number, c.in_ok-boards.ensures.number, table_in_turn)
