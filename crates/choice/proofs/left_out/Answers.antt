use native.Mathlib.Omega.{arith}
use lib.ListN.{get_or}
use mir.Syntax.{w64}
use mir.Val.{Fits}
use Rattle.choice.proofs.Left.{first_behind}
use borrow.Author.Rules.{rules}
use Rattle.choice.proofs.left_out.Goals as goal

pub returns : goal.returns
returns c =
    let range : Fits w64 (get_or c.smallest.result c.args.k 0) = search rules in
    first_behind _ _ c.smallest.ensures (omega (arith, range))
