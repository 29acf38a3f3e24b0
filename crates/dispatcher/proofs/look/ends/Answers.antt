use Rattle.facts.proofs.Filling.{filling_begins}
use Rattle.dispatcher.proofs.look.ends.Goals as goal

pub loop-i-init : goal.loop-i-init
loop-i-init c = filling_begins _ _ _ _
