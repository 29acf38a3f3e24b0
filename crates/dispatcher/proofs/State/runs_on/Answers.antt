use mathlib.Core.Path.{sym, ◌∙◌}
use native.Mathlib.Omega.{arith}
use Rattle.dispatcher.proofs.Refused.{first_31, first_35}
use Rattle.dispatcher.proofs.State.runs_on.Goals as goal

pub returns-then-self : goal.returns-then-self
returns-then-self c = record { met = λ buffer place. sym (first_31 c.args.self.now c.args.free buffer place c.requires c.if-self.true) }

pub returns-then-names_past : goal.returns-then-names_past
returns-then-names_past c =
    record { met = λ buffer place. sym (first_35 c.args.self.now c.args.free buffer place c.requires c.if-self.false (omega (arith, c.time.ensures)) (sym c.names_past.ensures ∙ c.if-names_past.true)) }

pub returns : goal.returns
returns c = record { runs = c.if-self.false; slot_left = omega (arith, c.time.ensures); there = sym c.names_past.ensures ∙ c.if-names_past.false }
