use mathlib.Core.Path.{◌∙◌}
use Rattle.dispatcher.proofs.Looking.{div_ceil_is, ahead_ready, ahead_outside, ahead_waits_on}
use Rattle.dispatcher.proofs.look.stands_ahead.Goals as goal

pub returns-then-given-released : goal.returns-then-given-released
returns-then-given-released c = ahead_ready _ _ _ _ (c.div_ceil.ensures ∙ div_ceil_is _ _ c.requires.period_some) c.if-given-released.true

pub returns-then-released-given : goal.returns-then-released-given
returns-then-released-given c = ahead_outside _ _ _ _ (c.div_ceil.ensures ∙ div_ceil_is _ _ c.requires.period_some) c.if-released-given.true

pub returns : goal.returns
returns c = ahead_waits_on _ _ _ _ (c.div_ceil.ensures ∙ div_ceil_is _ _ c.requires.period_some) c.if-given-released.false c.if-released-given.false
