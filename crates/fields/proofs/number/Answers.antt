use native.Mathlib.Omega.{arith}
use Rattle.fields.proofs.Reading.{reads_none, reading_begins, reads_one_more, stays_small, reading_ends}
use Rattle.fields.proofs.number.Goals as goal

pub returns-then-s-at : goal.returns-then-s-at
returns-then-s-at g c = let none = reads_none c.args.s.now c.args.at g.row.WIDTH c.if-s-at.true in record { value = none.0; fits = none.1 }

pub loop-i-init : goal.loop-i-init
loop-i-init g c = reading_begins _ _ _

pub overflow_mul-number : goal.overflow_mul-number
overflow_mul-number g c = omega (arith, stays_small _ _ _ c.loop-i.invariant (omega arith) (omega arith))

pub overflow_add-number : goal.overflow_add-number
overflow_add-number g c = omega (arith, stays_small _ _ _ c.loop-i.invariant (omega arith) (omega arith))

pub loop-i-preserved : goal.loop-i-preserved
loop-i-preserved g c = reads_one_more _ _ _ c.loop-i.invariant (omega arith) (omega arith) (omega arith) (omega arith)

pub returns : goal.returns
returns g c = let all = reading_ends _ _ _ c.loop-i.invariant (omega arith) in record { value = all.0; fits = all.1 }
