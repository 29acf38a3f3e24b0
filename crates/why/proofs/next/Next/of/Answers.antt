use Rattle.why.proofs.Asked.{read_there, window_there}
use Rattle.why.proofs.next.Next.of.Goals as goal

pub invariant_of-result : goal.invariant_of-result
invariant_of-result c = record { has_window = window_there c.args.state.now c.requires.0 c.requires.1 _ _ }

pub returns : goal.returns
returns c = read_there c.args.state.now c.requires.0 c.requires.1 _ _
