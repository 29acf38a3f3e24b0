use native.Mathlib.Omega.{arith}
use Rattle.dispatcher.proofs.Giving.{giving_begins, row_in_array, gives_one, all_given}
use Rattle.dispatcher.proofs.picked.give.Goals as goal

pub loop-row-init : goal.loop-row-init
loop-row-init c = giving_begins _ _

pub bounds-quanta-i : goal.bounds-quanta-i
bounds-quanta-i c = row_in_array _ _ c.requires (omega arith)

pub bounds-quanta-i-in-loop-row : goal.bounds-quanta-i-in-loop-row
bounds-quanta-i-in-loop-row c = row_in_array _ _ c.requires (omega arith)

pub loop-row-preserved : goal.loop-row-preserved
loop-row-preserved c = gives_one _ _ c.requires (omega arith) _ c.loop-row.invariant c.one_more.ensures

pub returns : goal.returns
returns c = all_given _ _ c.loop-row.invariant (omega arith)
