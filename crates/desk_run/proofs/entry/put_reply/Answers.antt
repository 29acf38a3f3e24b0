use Rattle.std.proofs.Common.{rules, ◌≡◌, length}
use Rattle.desk_run.proofs.Run.{reply_is_there}
use Rattle.desk_run.proofs.entry.put_reply.Goals as goal

pub returns : goal.returns
returns c =
    let eight : length c.args.cores.now ≡ 8 = search rules in
    reply_is_there c.args.entries.now c.args.cores.now c.args.at c.args.told.number c.args.told.row eight c.put_cores.ensures c.put.ensures.s_after c.put-2.ensures.s_after
