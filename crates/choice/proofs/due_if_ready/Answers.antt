use mathlib.Core.Path.{◌≡◌, sym, ap, ◌∙◌}
use mathlib.Core.Bool.{true}
use Prim.Native.Nat.{◌<◌}
use borrow.Author.Rules.{rules}
use Rattle.pd2.specs.Verdict.{is_yes}
use Rattle.choice.specs.Choice.{says_ready}
use Rattle.choice.proofs.Asked.{due_of_ready}
use Rattle.choice.proofs.due_if_ready.Goals as goal

pub returns : goal.returns
returns c =
    let small : c.args.row.phase < 65_536 = search rules in
    let is_ready : says_ready c.args.row c.args.given.0 c.args.slot.0 ≡ true = sym (c.is_yes.ensures ∙ ap is_yes c.ready.ensures) ∙ c.if-not-is_yes.false in
    due_of_ready _ _ _ small is_ready c.origin.ensures c.next_due.ensures
