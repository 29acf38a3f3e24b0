use mathlib.Core.Path.{◌≡◌}
use borrow.Author.Rules.{rules}
use lib.ListN.{length}
use Rattle.cores.proofs.Found.{turns_give}
use Rattle.cores.proofs.place.Goals as goal

pub returns : goal.returns
returns c =
    let a = c.args in
    let long : length a.free ≡ 32 = search rules in
    turns_give _ _ _ _ _ long c.keep-kept.ensures c.in_turn.ensures
