use native.Mathlib.Omega.{arith}
use Rattle.windows.proofs.Fits.{product_fits}
use Rattle.pd2.proofs.product.Goals as goal

pub overflow_mul-result : goal.overflow_mul-result
overflow_mul-result c = rw c.from.ensures (omega (arith, product_fits {p = c.args.factor} c.requires (omega arith)))

pub returns : goal.returns
returns c = rw c.from.ensures (omega (arith, product_fits {p = c.args.factor} c.requires (omega arith)))
