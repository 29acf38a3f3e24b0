use mathlib.Core.Path.{◌≡◌, refl, ◌∙◌}
use Prim.Native.Nat.{◌+◌, ◌-◌}
use native.Mathlib.Omega.{arith}
use borrow.Author.Tests.{eq-eqb, ne_eqb}
use Rattle.pd2.specs.Ready.{origin_of}
use Rattle.dispatcher.proofs.Looking.{before_phase, given_before_phase, owed, behind, ahead_but_ready, ahead_and_waits, ahead_and_outside, ahead_by_jobs}
use Rattle.dispatcher.proofs.look.Asked.stand.Goals as goal

pub returns-then-given-eq0 : goal.returns-then-given-eq0
returns-then-given-eq0 c = before_phase _ _ _ c.if-time-given.false c.requires.0 c.if-time-phase.true c.if-given-eq0.true

pub returns-else-given-eq0 : goal.returns-else-given-eq0
returns-else-given-eq0 c = given_before_phase _ _ _ c.if-time-given.false c.requires.0 c.if-time-phase.true c.if-given-eq0.false

pub returns-then-had-period : goal.returns-then-had-period
returns-then-had-period c =
    let from : c.args.self.time ≡ origin_of c.args.self.row + (c.args.self.time - c.args.self.row.phase) = omega (arith, c.if-time-phase.false) in
    owed _ _ _ c.if-time-given.false c.requires.0 _ from refl refl c.if-had-period.true

pub returns-then-had-share : goal.returns-then-had-share
returns-then-had-share c =
    let from : c.args.self.time ≡ origin_of c.args.self.row + (c.args.self.time - c.args.self.row.phase) = omega (arith, c.if-time-phase.false) in
    behind _ _ _ c.if-time-given.false c.requires.0 _ from refl refl c.if-had-period.false c.if-had-share.true

pub returns-then-row-eq1 : goal.returns-then-row-eq1
returns-then-row-eq1 c =
    let from : c.args.self.time ≡ origin_of c.args.self.row + (c.args.self.time - c.args.self.row.phase) = omega (arith, c.if-time-phase.false) in
    c.stands_ahead.ensures
    ∙ ahead_by_jobs _ _ _ c.if-time-given.false c.requires.0 _ from refl refl c.if-had-period.false c.if-had-share.false (eq-eqb _ 1 c.if-row-eq1.true)

pub returns-then-had-share-2 : goal.returns-then-had-share-2
returns-then-had-share-2 c =
    let from : c.args.self.time ≡ origin_of c.args.self.row + (c.args.self.time - c.args.self.row.phase) = omega (arith, c.if-time-phase.false) in
    ahead_but_ready _ _ _ c.if-time-given.false c.requires.0 _ from refl refl c.if-had-period.false (ne_eqb _ 1 c.if-row-eq1.false) c.if-had-share-2.true

pub returns-then-had-share-3 : goal.returns-then-had-share-3
returns-then-had-share-3 c =
    let from : c.args.self.time ≡ origin_of c.args.self.row + (c.args.self.time - c.args.self.row.phase) = omega (arith, c.if-time-phase.false) in
    ahead_and_waits _ _ _ c.if-time-given.false c.requires.0 _ from refl refl c.if-had-period.false (ne_eqb _ 1 c.if-row-eq1.false) c.if-had-share-2.false c.if-had-share-3.true

pub returns-else-had-share-3 : goal.returns-else-had-share-3
returns-else-had-share-3 c =
    let from : c.args.self.time ≡ origin_of c.args.self.row + (c.args.self.time - c.args.self.row.phase) = omega (arith, c.if-time-phase.false) in
    ahead_and_outside _ _ _ c.if-time-given.false c.requires.0 _ from refl refl c.if-had-period.false (ne_eqb _ 1 c.if-row-eq1.false) c.if-had-share-3.false
