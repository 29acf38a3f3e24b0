use mathlib.Core.Path.{sym}
use Rattle.windows.specs.Windows.{start}
use Rattle.windows.proofs.Next.{answers}
use Rattle.windows.proofs.next_start.Goals as goal

pub returns : goal.returns
returns c = sym (answers _ _ _ _ c.in_ok-subtask.ensures.answers c.in_ok-subtask.ensures.as_asked start c.start.ensures)
