use native.Mathlib.Omega.{arith}
use Rattle.pd2.proofs.Share.{row_can_be}
use Rattle.checker.proofs.giving.Walk.begin.Goals as goal

pub before_first-requires : goal.before_first-requires
before_first-requires c = row_can_be _ c.requires.sound c.loop-i.i (omega (arith, c.loop-i-test.true, c.requires.all))
