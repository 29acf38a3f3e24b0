use Prim.Native.Nat.{◌<◌}
use native.Mathlib.Omega.{arith}
use borrow.Author.Rules.{rules}
use lib.ListN.{length}
use Rattle.dispatcher.proofs.Recorded.{putting_begins, puts_picked, puts_no_other, picked_has_place, stays_as_long}
use Rattle.dispatcher.proofs.picked.put_rows.Goals as goal
use Rattle.dispatcher.proofs.picked.put_rows.Goals.{then-key-first, else-key-first}

pub loop-key-init : goal.loop-key-init
loop-key-init c = putting_begins _ _ _ _

pub bounds-part-at : goal.bounds-part-at
bounds-part-at c =
    let inv = c.loop-key.invariant in
    omega (arith, inv.place, picked_has_place _ _ _ _ inv (omega arith) c.if-key-first.true c.requires, stays_as_long _ _ _ _ inv c.requires)

pub overflow_add-at : goal.overflow_add-at
overflow_add-at c =
    let inv = c.loop-key.invariant in
    let short : length c.args.part.now < 18_446_744_073_709_551_616 = search rules in
    omega (arith, inv.place, picked_has_place _ _ _ _ inv (omega arith) c.if-key-first.true c.requires, short)

pub loop-key-preserved : goal.loop-key-preserved
loop-key-preserved c =
    let inv = c.loop-key.invariant in
    elim c.if-key-first.branch [
      | then-key-first w ↦
          rw (w.part-is, w.at-is)
          (puts_picked _ _ _ _ inv (omega arith) w.if-key-first.true (picked_has_place _ _ _ _ inv (omega arith) w.if-key-first.true c.requires))
      | else-key-first w ↦ rw (w.part-is, w.at-is) (puts_no_other _ _ _ _ inv (omega arith) w.if-key-first.false)
    ]
