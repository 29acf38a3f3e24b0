use mathlib.Core.Path.{sym, ◌∙◌}
use Rattle.fields.proofs.Numbers.{fields_are_numbers}
use Rattle.fields.proofs.half.Goals as goal

pub returns : goal.returns
returns c = c.number.ensures.value ∙ sym (fields_are_numbers.two c.args.s.now c.args.at)
