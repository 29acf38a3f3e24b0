use Rattle.std.proofs.Common.{◌≡◌, take}
use Rattle.printer.specs.Writing.{Wrote}
use Rattle.printer.proofs.write.Page.word.Given as goal

abbrev pub invariant-loop-byte : goal.invariant-loop-byte
invariant-loop-byte l =
    (l.self.out.ghost_name ≡ l.initial.self.out.ghost_name)
    × Wrote l.initial.self.out.now l.initial.self.at (take l.byte-index l.word) l.self.out.now l.self.at
