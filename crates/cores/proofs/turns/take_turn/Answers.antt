use mathlib.Core.Path.{◌∙◌}
use native.Mathlib.Omega.{arith}
use Rattle.cores.proofs.FromOn.{not_from}
use Rattle.cores.proofs.Placing.{stays_there, takes_lowest, takes_none}
use Rattle.cores.proofs.turns.take_turn.Goals as goal

pub returns-then-own-lt32 : goal.returns-then-own-lt32
returns-then-own-lt32 c = stays_there c.requires c.if-own-lt32.true

pub returns-then-left-core : goal.returns-then-left-core
returns-then-left-core c =
    takes_lowest c.if-own-lt32.false (omega (arith, c.told-left, c.loop-core-test.true)) c.told-left c.loop-core.invariant c.if-left-core.true

pub loop-core-preserved : goal.loop-core-preserved
loop-core-preserved c = c.loop-core.invariant ∙ not_from _ _ c.if-left-core.false

pub returns : goal.returns
returns c = takes_none c.if-own-lt32.false c.told-left c.loop-core.invariant c.loop-core-test.false
