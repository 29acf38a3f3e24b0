use mathlib.Core.Path.{◌≡◌, refl}
use Prim.Native.Nat.{◌-◌, ◌<◌}
use Rattle.std.specs.Prelude.{MatchOption}
use Rattle.windows.specs.Group.{group_deadline}
use Rattle.pd2.proofs.Verdicts.{moment_is_said}
use Rattle.choice.proofs.Asked.{asked_behind}
use borrow.Author.Rules.{rules}
use Rattle.choice.proofs.how_far_behind.Goals as goal

pub returns : goal.returns
returns c =
    let small : c.args.row.phase < 65_536 = search rules in
    let cost : c.args.row.cost < 65_536 = search rules in
    let far : MatchOption c.next_group_deadline-group.result (c.map_or.result ≡ 0) (λ time. c.map_or.result ≡ time.0 - c.args.due.deadline.0) = search rules in
    let said = moment_is_said _ _ c.requires.window small c.origin.ensures group_deadline c.next_group_deadline-group.ensures in
    asked_behind _ _ cost c.requires c.if-due-eq0.false refl (rw said at far)
