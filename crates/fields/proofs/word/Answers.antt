use mathlib.Core.Path.{sym, ◌∙◌}
use Rattle.fields.proofs.Numbers.{fields_are_numbers}
use Rattle.fields.proofs.word.Goals as goal

pub returns : goal.returns
returns c = c.number.ensures.value ∙ sym (fields_are_numbers.four c.args.s.now c.args.at)
