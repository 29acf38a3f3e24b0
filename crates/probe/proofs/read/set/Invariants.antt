use Rattle.std.proofs.Common.{◌≡◌, ℕ, ◌/◌, ◌%◌, ◌^◌, ◌<◌, false, eqb, get_or}
use Rattle.fields.specs.Fields.{word}
use Rattle.probe.proofs.read.set.Given as goal

abbrev pub invariant-loop-core : goal.invariant-loop-core
invariant-loop-core l = (c : ℕ) → c < l.core → get_or l.mark-items c false ≡ eqb (word l.s l.at / 2 ^ c % 2) 1
