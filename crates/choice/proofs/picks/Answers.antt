use mathlib.Core.Path.{◌≡◌, ap, ◌∙◌}
use Prim.Native.Nat.{◌≤◌, min}
use native.Mathlib.Omega.{arith}
use lib.ListN.{length, take, length-take}
use Rattle.choice.specs.Keys.{key_in, FirstLeft}
use Rattle.choice.proofs.Chosen.{no_more_than_all}
use Rattle.choice.proofs.Picked.{found_are_picks}
use borrow.Author.Rules.{rules}
use Rattle.choice.proofs.picks.Goals as goal

pub returns-clause-result_value : goal.returns-clause-result_value
returns-clause-result_value c =
    let many : length c.args.rows ≡ 32 = search rules in
    let long : length c.keys_of-keys.result ≡ 32 = search rules in
    let first : c.min.result ≡ min c.args.n 32 = omega arith in
    let few : length (take c.min.result c.args.rows) ≤ 32 = omega (arith, length-take c.min.result c.args.rows, first) in
    let left : FirstLeft (key_in c.keys_of-keys.result) (min (length (take c.min.result c.args.rows)) 32) (min c.args.k 8) c.first_left-first.result = search rules in
    let picked = c.rows_before.ensures.1 ∙ found_are_picks c.keys_of-keys.ensures few long left in
    let all = ap (λ m. take m c.args.rows) first ∙ no_more_than_all c.args.rows c.args.n many in
    rw all at picked
