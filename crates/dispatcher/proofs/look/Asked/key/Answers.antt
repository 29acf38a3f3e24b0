use mathlib.Core.Path.{refl}
use Prim.Native.Nat.{◌+◌, ◌-◌, ◌*◌, ◌/◌, ◌≤◌, ◌<◌}
use native.Mathlib.Nat.{mod-lt}
use native.Mathlib.Omega.{arith}
use Rattle.counts.specs.Limits.{time_limit}
use Rattle.dispatcher.proofs.Looking.{past_phase, owed_less, few_slots, below_period, key_of_whole, key_of_part}
use borrow.Author.Rules.{rules}
use Rattle.dispatcher.proofs.look.Asked.key.Goals as goal

pub overflow_sub-share : goal.overflow_sub-share
overflow_sub-share c = past_phase _ _ _ c.requires.0

pub overflow_sub-lacking : goal.overflow_sub-lacking
overflow_sub-lacking c = omega (arith, owed_less _ _ _ c.requires.0)

pub packed-requires : goal.packed-requires
packed-requires c =
    let soon : let a = c.args.self in a.time + (a.given * a.row.period + a.row.period - (a.time - a.row.phase) * a.row.cost) / a.row.cost ≤ time_limit + 65_536 = let period : c.args.self.row.period < 65_536 = search rules in omega (arith, few_slots _ _ _ c.requires.0 refl, period, c.requires.0.time) in
    (omega (arith, soon), omega arith, c.requires.1)

pub returns-then-rest-eq0 : goal.returns-then-rest-eq0
returns-then-rest-eq0 c =
    let cost : c.args.self.row.cost < 65_536 = search rules in
    key_of_whole _ _ _ c.requires.0 refl cost c.args.end refl c.if-rest-eq0.true c.packed.ensures

pub far-requires : goal.far-requires
far-requires c =
    let cost : c.args.self.row.cost < 65_536 = search rules in
    let period : c.args.self.row.period < 65_536 = search rules in
    (omega (arith, c.if-rest-eq0.false), mod-lt _ c.requires.0.can.cost, below_period _ _ _ c.requires.0 refl cost c.if-rest-eq0.false, period)

pub packed-requires-2 : goal.packed-requires-2
packed-requires-2 c =
    let soon : let a = c.args.self in a.time + (a.given * a.row.period + a.row.period - (a.time - a.row.phase) * a.row.cost) / a.row.cost ≤ time_limit + 65_536 = let period : c.args.self.row.period < 65_536 = search rules in omega (arith, few_slots _ _ _ c.requires.0 refl, period, c.requires.0.time) in
    (omega (arith, soon), c.far.ensures.1, c.requires.1)

pub returns : goal.returns
returns c =
    let cost : c.args.self.row.cost < 65_536 = search rules in
    key_of_part _ _ _ c.requires.0 refl cost c.if-rest-eq0.false c.args.end c.far.ensures.0 c.packed-2.ensures
