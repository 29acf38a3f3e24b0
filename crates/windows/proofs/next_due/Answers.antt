use mathlib.Core.Path.{sym}
use Rattle.windows.proofs.Next.{answers_due}
use Rattle.windows.proofs.next_due.Goals as goal

pub returns : goal.returns
returns c = sym (answers_due _ _ _ _ c.in_ok-subtask.ensures.answers c.in_ok-subtask.ensures.as_asked c.due.ensures.deadline c.due.ensures.bit)
