use mathlib.Core.Path.{◌≡◌, ◌∙◌}
use native.Mathlib.Omega.{arith}
use borrow.Author.Rules.{rules}
use lib.ListN.{length}
use Rattle.std.proofs.lemmas.List.Sums.{count_by-le-length}
use Rattle.cores.proofs.Sets.{counted_are_size}
use Rattle.cores.proofs.how_many.Goals as goal

pub returns : goal.returns
returns c =
    let long : length c.args.free ≡ 32 = search rules in
    (c.how_many_in.ensures ∙ counted_are_size c.args.free, omega (arith, c.how_many_in.ensures, count_by-le-length (λ mark. mark) c.args.free))
