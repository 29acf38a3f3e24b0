use mathlib.Core.Path.{◌≡◌}
use native.Mathlib.Omega.{arith}
use lib.ListN.{length}
use borrow.Author.Rules.{rules}
use Rattle.choice.proofs.Left.{left_in_front}
use Rattle.choice.proofs.first_left.Goals as goal

pub returns : goal.returns
returns c =
    let long : length c.args.keys.now ≡ 32 = search rules in
    left_in_front _ _ _ c.left_out.ensures c.min.ensures (omega arith) long
