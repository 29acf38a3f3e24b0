use mathlib.Core.Path.{ap, ◌∙◌}
use Prim.Native.Nat.{◌*◌}
use Rattle.windows.proofs.Fits.{end_of_whole, end_of_part}
use Rattle.windows.proofs.row_subtask.RowSubtask.due.Goals as goal

pub returns-then-whole-self-eq0 : goal.returns-then-whole-self-eq0
returns-then-whole-self-eq0 c =
    let product = c.product-whole.ensures in
    let end = end_of_whole c.args.self.fits product.fits (product.value ∙ ap (λ n. n * c.args.self.period) c.number.ensures) c.later-next_start.ensures c.if-whole-self-eq0.true in
    record { deadline = end.0; bit = end.1 }

pub returns-else-whole-self-eq0 : goal.returns-else-whole-self-eq0
returns-else-whole-self-eq0 c =
    let product = c.product-whole.ensures in
    let end = end_of_part c.args.self.fits product.fits (product.value ∙ ap (λ n. n * c.args.self.period) c.number.ensures) c.later-next_start.ensures c.if-whole-self-eq0.false in
    record { deadline = c.later.ensures ∙ end.0; bit = end.1 }
