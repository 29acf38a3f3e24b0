use lib.Dec.{ltb}
use Rattle.facts.proofs.Some.{NoneYet}
use Rattle.cores.specs.Placement.{row_in, core_in}
use Rattle.cores.specs.Fault.{bad_place}
use Rattle.cores.proofs.Fault.{Least}
use Rattle.cores.proofs.Marks.{Marked}
use Rattle.cores.proofs.Placement.is_faulty.Given as goal

abbrev pub invariant-loop-i : goal.invariant-loop-i
invariant-loop-i l = NoneYet (bad_place l.self (λ row. ltb row l.n) l.cores) l.self.count l.i × Marked (core_in l.self) 256 l.i l.used × Least (row_in l.self) l.i l.least
