use Rattle.std.proofs.Common.{◌≡◌, ◌≤◌, false, sym, ◌∙◌, arith}
use Rattle.std.proofs.lemmas.Result.{err_from_is_err_and}
use borrow.Author.Tests.{le-ltb}
use Rattle.facts.specs.Findings.{NoneFound}
use Rattle.facts.proofs.Findings.{none_says_otherwise}
use Rattle.table.specs.Limits.{cycle_limit, core_limit, row_limit}
use Rattle.table.specs.Causes.{outside, format_test}
use Rattle.table.specs.Value.{front_tests, row_count_tests}
use Rattle.table.proofs.Value.{rows_decide}
use Rattle.table.proofs.judge.Goals as goal

pub returns-in_err-sum : goal.returns-in_err-sum
returns-in_err-sum c =
    let t = c.args.table.now in
    let format : (format_test t.format).cause ≡ false = sym c.format_is_unknown.ensures ∙ c.if-format_is_unknown.false in
    let cycle : outside 1 cycle_limit t.cycle ≡ false = sym c.is_outside.ensures ∙ c.if-is_outside.false in
    let cores : outside 1 core_limit t.cores ≡ false = sym c.is_outside-2.ensures ∙ c.if-is_outside-2.false in
    let few : t.n ≤ row_limit = omega arith in
    let front : NoneFound (front_tests t) = NoneFound.later format (NoneFound.later cycle (NoneFound.later cores NoneFound.end)) in
    let count : NoneFound (row_count_tests t) = NoneFound.later (le-ltb row_limit t.n few) NoneFound.end in
    let handed = err_from_is_err_and c.from_residual-in_err-sum.result c.from_residual-in_err-sum.ensures.1 in
    rw (handed.1, handed.2)
    (rows_decide t _ (sym (none_says_otherwise 0 front)) c.in_ok-judge.ensures (sym (none_says_otherwise 0 count)) c.in_err-sum.ensures)
