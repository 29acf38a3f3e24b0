use Rattle.trace.proofs.Search.{walk_begins}
use Rattle.trace.proofs.walk.Goals as goal

pub loop-init : goal.loop-init
loop-init c = walk_begins _ _
