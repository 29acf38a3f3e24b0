use mathlib.Core.Path.{sym}
use Rattle.windows.specs.Windows.{job_start}
use Rattle.windows.proofs.Next.{answers}
use Rattle.windows.proofs.next_job_start.Goals as goal

pub returns : goal.returns
returns c = sym (answers _ _ _ _ c.in_ok-subtask.ensures.answers c.in_ok-subtask.ensures.as_asked job_start c.job_start.ensures)
