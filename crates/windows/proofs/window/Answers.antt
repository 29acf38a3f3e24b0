use mathlib.Core.Path.{◌∙◌}
use Rattle.windows.proofs.Question.{is_taken}
use Rattle.windows.proofs.window.Goals as goal

pub returns : goal.returns
returns c =
    let asked = c.in_ok-subtask.ensures in
    let found = c.window.ensures in
    is_taken _ _ _ _ asked.answers asked.as_asked found.starts found.ends found.bit (found.group ∙ c.group_deadline.ensures)
