use Rattle.trace.proofs.Search.{found_as_asked, nowhere_is, between_is}
use Rattle.trace.proofs.begins.Goals as goal

pub returns-in-Some : goal.returns-in-Some
returns-in-Some c = (between_is _ _ (found_as_asked _ _ c.in-Some.ensures c.time.ensures)).begins

pub returns-in-None : goal.returns-in-None
returns-in-None c = (nowhere_is _ _ (found_as_asked _ _ c.in-None.ensures c.time.ensures)).1
