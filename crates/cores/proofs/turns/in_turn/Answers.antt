use Prim.Native.Nat.{◌<◌, ◌≤◌, min}
use native.Mathlib.Omega.{arith}
use lib.ListN.{length, length-take}
use Rattle.std.proofs.lemmas.List.{get_or-take}
use Rattle.table.specs.Limits.{core_limit}
use Rattle.cores.proofs.Placing.{turns_begin, turns_go_on, turns_end}
use Rattle.cores.proofs.turns.in_turn.Goals as goal

pub loop-i-init : goal.loop-i-init
loop-i-init c = turns_begin _ _ _

pub loop-i-preserved : goal.loop-i-preserved
loop-i-preserved c =
    let picked = c.args.picked.now in
    let n = c.min-count.result in
    let i = c.loop-i.i in
    let has_place : i < min (length picked) core_limit = omega (arith, length-take n picked, c.loop-i-test.true, c.min-count.ensures) in
    let early : i < n = omega (arith, has_place, c.min-count.ensures) in
    turns_go_on _ _ _ c.loop-i.invariant (get_or-take n picked i 0 early) has_place c.take_turn-turn.ensures

pub returns : goal.returns
returns c =
    let picked = c.args.picked.now in
    let n = c.min-count.result in
    let all : n ≤ c.loop-i.i = omega (arith, length-take n picked, c.loop-i-test.false, c.min-count.ensures) in
    turns_end _ _ _ c.loop-i.invariant c.min-count.ensures all
