use lib.ListN.{length}
use Rattle.dispatcher.proofs.Recorded.{PutBefore}
use Rattle.dispatcher.proofs.picked.put_rows.Given as goal

abbrev pub invariant-loop-key : goal.invariant-loop-key
invariant-loop-key l = PutBefore l.initial.part l.keys (length l.keys) l.first l.part l.at l.key-index
