use Rattle.std.proofs.Common.{ap, ◌∙◌}
use Rattle.checker.specs.Check.{check_of}
use Rattle.desk_run.proofs.Judged.{place_is_there}
use Rattle.desk_run.proofs.zb_judge.Goals as goal

pub returns-clause-place_after : goal.returns-clause-place_after
returns-clause-place_after c =
    let says = c.check-answer.ensures in
    let names = c.named-row.ensures in
    let time = c.time-time.ensures ∙ names.1 ∙ ap (λ said. said.time) says in
    place_is_there (check_of c.args.table.now c.args.trace.now) c.args.place.now (names.0 ∙ ap (λ said. said.row) says) time c.put.ensures.s_after c.put-2.ensures.s_after
