use Rattle.std.proofs.Common.{rules, ap, ◌∙◌}
use Rattle.std.proofs.lemmas.List.Edits.{sets}
use Rattle.fields.specs.Fields.{bytes_of}
use Rattle.values.proofs.Written.{state_written, mark_is}
use Rattle.values.proofs.write.state.Goals as goal

pub returns : goal.returns
returns c =
    let timed = c.put.ensures.s_after ∙ ap (λ time. sets c.table.new.bytes 303 (bytes_of 8 time)) c.time.ensures in
    let marked = c.put-2.ensures.s_after ∙ ap (λ mark. sets c.put.new.s 311 (bytes_of 1 mark)) (mark_is c.args.state.stopped) in
    state_written c.args.bytes.now c.args.state (search rules) (search rules) (search rules) c.table.ensures timed marked c.quanta.ensures c.placement.ensures
