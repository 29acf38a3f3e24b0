use lib.ListN.{length}
use Rattle.facts.proofs.Some.{NoneYet}
use Rattle.choice.specs.Keys.{key_in}
use Rattle.dispatcher.specs.Looking.{is_due}
use Rattle.dispatcher.proofs.picked.lowest_late.Given as goal

abbrev pub invariant-loop-key : goal.invariant-loop-key
invariant-loop-key l = NoneYet (λ k. is_due l.first l.soon (key_in l.keys k)) (length l.keys) l.key-index
