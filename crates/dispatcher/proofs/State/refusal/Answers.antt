use mathlib.Core.Path.{refl, ap, ◌∙◌}
use Rattle.dispatcher.specs.Answer.{number_of}
use Rattle.dispatcher.proofs.Refused.{cause_is_refusal}
use Rattle.dispatcher.proofs.State.refusal.Goals as goal

pub returns : goal.returns
returns c = ap number_of c.err.ensures.value ∙ cause_is_refusal c.args.self c.args.free c.args.buffer.now c.args.place _ c.cause.result c.cause.ensures refl
