use Rattle.facts.proofs.Rounding.{ceil_by_quotient}
use Rattle.windows.proofs.row_subtask.portion.Goals as goal

pub returns : goal.returns
returns c = ceil_by_quotient _ _
