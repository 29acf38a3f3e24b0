use mathlib.Core.Path.{◌∙◌}
use Rattle.dispatcher.proofs.Asked.{state_chosen_as_pd2}
use Rattle.why.proofs.picks.Goals as goal

pub returns : goal.returns
returns c = (rw c.requires.1 at c.picks.ensures.result_value) ∙ state_chosen_as_pd2 c.args.state.now c.args.k c.requires.0 c.requires.2
