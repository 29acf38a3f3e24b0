use mathlib.Core.Path.{ap, ◌∙◌}
use Prim.Native.Nat.{◌*◌}
use Rattle.windows.proofs.Fits.{start_is}
use Rattle.windows.proofs.row_subtask.RowSubtask.start.Goals as goal

pub returns : goal.returns
returns c =
    let quanta = c.count.ensures ∙ c.quanta_before.ensures in
    let product = c.product-whole.ensures in
    start_is c.args.self.fits product.fits (product.value ∙ ap (λ n. n * c.args.self.period) quanta) c.later.ensures
