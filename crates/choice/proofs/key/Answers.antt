use Prim.Native.Nat.{◌<◌}
use borrow.Author.Rules.{rules}
use Rattle.choice.proofs.Asked.{due_fits, ready_key}
use Rattle.choice.proofs.key.Goals as goal

pub packed-requires : goal.packed-requires
packed-requires c =
    let period : c.args.row.period < 65_536 = search rules in
    let due = c.in_ok-due.ensures in
    let fits = due_fits _ _ _ period due.0 due.1 in
    (fits.0, fits.1, c.how_far_behind-far.ensures.1, c.end.ensures.1)

pub returns : goal.returns
returns c =
    let cost : c.args.row.cost < 65_536 = search rules in
    let due = c.in_ok-due.ensures in
    ready_key _ _ _ _ _ c.requires cost due.0 due.1 c.how_far_behind-far.ensures.0 c.end.ensures.0 c.packed.ensures
