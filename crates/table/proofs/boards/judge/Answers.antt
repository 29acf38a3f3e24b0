use Rattle.std.proofs.Common.{refl, sym, ◌∙◌, arith}
use Rattle.facts.proofs.Loops.{none_passed, all_passed, stops_at_fault, one_more_passed}
use Rattle.table.proofs.Bytes.{board_too_low, board_rises}
use Rattle.table.proofs.boards.judge.Goals as goal

pub loop-board-init : goal.loop-board-init
loop-board-init c = none_passed _ _ _

pub returns-then-number-least : goal.returns-then-number-least
returns-then-number-least c =
    let low = board_too_low _ _ c.if-number-least.true in
    sym (stops_at_fault _ _ _ c.loop-board.invariant (omega arith) 0 refl (λ z. omega (arith, low, z)) ∙ low)

pub loop-board-preserved : goal.loop-board-preserved
loop-board-preserved c = one_more_passed _ _ _ c.loop-board.invariant (omega arith) 0 refl (board_rises _ _ c.if-number-least.false)

pub returns : goal.returns
returns c = sym (all_passed _ _ _ c.loop-board.invariant (omega arith))
