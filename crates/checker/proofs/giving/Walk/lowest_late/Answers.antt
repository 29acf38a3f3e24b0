use Prim.Native.Nat.{◌≤◌}
use native.Mathlib.Omega.{arith}
use borrow.Author.Rules.{rules}
use lib.ListN.{length}
use Rattle.checker.proofs.Due.{none_is_lowest, first_is_lowest}
use Rattle.checker.proofs.giving.Walk.lowest_late.Goals as goal

pub returns-then-how_many_due-eq0 : goal.returns-then-how_many_due-eq0
returns-then-how_many_due-eq0 c =
    let long : c.args.n ≤ length c.args.self.now.dues = search rules in
    rw (← c.time-end.ensures) (none_is_lowest _ _ _ long (omega (arith, c.how_many_due.ensures, c.if-how_many_due-eq0.true)))

pub returns : goal.returns
returns c =
    let long : c.args.n ≤ length c.args.self.now.dues = search rules in
    rw (← c.time-end.ensures, c.first_due.ensures) (first_is_lowest _ _ _ long)
