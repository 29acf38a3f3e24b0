use borrow.Author.Rules.{rules}
use borrow.Author.Tests.{tests}
use mathlib.Core.Path.{◌≡◌}
use mathlib.Core.Bool.{true, false}
use Rattle.std.proofs.lemmas.Iterator.{first_from_Range}
use Rattle.why.specs.Asked.{dropped_from}
use Rattle.why.proofs.Asked.{first_is_lowest}
use Rattle.why.proofs.dropped.Goals as goal

pub returns : goal.returns
returns c =
    let dropped = dropped_from c.args.marks.now c.args.fewer.now in
    first_is_lowest dropped c.find.result
    (first_from_Range _ _ _ c.find.result (λ i. dropped i ≡ true) (λ i. dropped i ≡ false) c.find.ensures.ran
    (λ x q k. search (rules, tests)) (λ x q k. search (rules, tests)))
