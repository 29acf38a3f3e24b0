use Prim.Native.Nat.{◌+◌}
use Rattle.choice.specs.Keys.{key_in, Smallest}
use Rattle.choice.proofs.smallest.smallest.Given as goal

abbrev pub invariant-loop-i : goal.invariant-loop-i
invariant-loop-i l = Smallest (key_in l.keys) l.i (l.k + 1) l.best
