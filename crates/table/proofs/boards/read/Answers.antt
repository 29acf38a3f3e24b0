use Rattle.std.proofs.Common.{refl, sym, ap, ◌+◌, ◌≤◌, ◌<◌, arith}
use Rattle.facts.proofs.Loops.{reading_begins, reading_ends, reading_stops, reading_goes_on}
use Rattle.fields.specs.Fields.{byte}
use Rattle.table.specs.Causes.{board_above}
use Rattle.table.proofs.Bytes.{board_rises, board_cut, board_low_there, board_passes_there}
use Rattle.table.proofs.boards.read.Goals as goal

pub loop-i-init : goal.loop-i-init
loop-i-init c = reading_begins _ _ _ _ _ _ _ _ refl

pub returns-then-bytes-at-clause-number : goal.returns-then-bytes-at-clause-number
returns-then-bytes-at-clause-number c =
    (reading_stops _ _ _ _ _ _ _ _ {place = 6 + c.loop-i.i} c.loop-i.invariant c.loop-i-test.true (omega arith)
    (sym (board_cut c.args.bytes.now c.loop-i.least (6 + c.loop-i.i) c.if-bytes-at.true)) (λ z. omega arith)).first

pub returns-then-number-least-clause-number : goal.returns-then-number-least-clause-number
returns-then-number-least-clause-number c =
    let low : byte c.args.bytes.now (6 + c.loop-i.i) < c.loop-i.least = omega (arith, c.byte-board.ensures, c.if-number-least.true) in
    (reading_stops _ _ _ _ _ _ _ _ {place = 6 + c.loop-i.i} c.loop-i.invariant c.loop-i-test.true (omega arith)
    (sym (board_low_there c.args.bytes.now c.loop-i.least (6 + c.loop-i.i) c.if-bytes-at.false low)) (λ z. omega arith)).first

pub loop-i-preserved : goal.loop-i-preserved
loop-i-preserved c =
    let board = c.byte-board.ensures in
    let high : c.loop-i.least ≤ byte c.args.bytes.now (6 + c.loop-i.i) = omega (arith, board, c.if-number-least.false) in
    reading_goes_on _ _ _ _ _ _ _ _ {place = 6 + c.loop-i.i} c.loop-i.invariant c.loop-i-test.true (omega arith) (omega (arith, c.loop-i-test.true, c.requires))
    (board_passes_there c.args.bytes.now c.loop-i.least (6 + c.loop-i.i) c.if-bytes-at.false (board_rises _ _ high)) board (ap board_above board)

pub returns-clause-number : goal.returns-clause-number
returns-clause-number c = (reading_ends _ _ _ _ _ _ _ _ c.loop-i.invariant c.loop-i-test.false).first

pub returns-clause-boards : goal.returns-clause-boards
returns-clause-boards c = (reading_ends _ _ _ _ _ _ _ _ c.loop-i.invariant c.loop-i-test.false).content refl
