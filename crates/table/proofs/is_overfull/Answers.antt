use native.Mathlib.Nat.{mul-le-mul}
use native.Mathlib.Omega.{arith}
use Rattle.table.proofs.is_overfull.Goals as goal

pub overflow_mul-quanta : goal.overflow_mul-quanta
overflow_mul-quanta c = omega (arith, mul-le-mul {n₁ = c.args.cores} {m₁ = c.args.cycle} {n₂ = 255} {m₂ = 4_294_967_295} (omega arith) (omega arith))
