use Rattle.std.proofs.Common.{ap, ◌∙◌, arith}
use Rattle.std.proofs.lemmas.Result.{err_from_is_err_and}
use Rattle.facts.specs.Findings.{first_found}
use Rattle.table.specs.Causes.{row_tests}
use Rattle.table.proofs.Bytes.{row_cut, row_faulty, row_read}
use Rattle.table.proofs.rows.read_one.Goals as goal

pub returns-then-bytes-at-lt9 : goal.returns-then-bytes-at-lt9
returns-then-bytes-at-lt9 c =
    let x = c.args in
    row_cut x.bytes.now x.cycle x.least x.cursor.at (omega arith)

pub returns-in_err-judge : goal.returns-in_err-judge
returns-in_err-judge c =
    let x = c.args in
    let row = c.at-row.ensures in
    let handed = err_from_is_err_and c.from_residual.result c.from_residual.ensures.1 in
    rw (handed.1, handed.2)
    (row_faulty x.bytes.now x.cycle x.least x.cursor.at (omega arith) _ (c.in_err-judge.ensures ∙ ap (λ r. first_found 0 (row_tests x.cycle x.least r)) row))

pub returns : goal.returns
returns c =
    let x = c.args in
    let row = c.at-row.ensures in
    row_read x.bytes.now x.cycle x.least x.cursor.at (omega arith) (c.in_ok-judge.ensures ∙ ap (λ r. first_found 0 (row_tests x.cycle x.least r)) row) row
