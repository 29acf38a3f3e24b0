use mathlib.Core.Path.{◌≡◌, ap, ◌∙◌}
use borrow.Author.Rules.{rules}
use lib.Dec.{ltb}
use lib.ListN.{length}
use Rattle.cores.proofs.Sets.{past_if_some}
use Rattle.cores.proofs.names_past.Goals as goal

pub returns : goal.returns
returns c =
    let long : length c.args.free ≡ 32 = search rules in
    ap (ltb 0) c.how_many_in.ensures ∙ past_if_some c.args.cores c.min-least.result c.args.free long c.min-least.ensures
