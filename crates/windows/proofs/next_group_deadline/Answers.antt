use mathlib.Core.Path.{sym}
use Rattle.windows.specs.Group.{group_deadline}
use Rattle.windows.proofs.Next.{answers}
use Rattle.windows.proofs.next_group_deadline.Goals as goal

pub returns : goal.returns
returns c = sym (answers _ _ _ _ c.in_ok-subtask.ensures.answers c.in_ok-subtask.ensures.as_asked group_deadline c.group_deadline.ensures)
