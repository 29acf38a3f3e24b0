use mathlib.Core.Path.{◌≡◌}
use native.Mathlib.Omega.{arith}
use lib.ListN.{length}
use borrow.Author.Rules.{rules}
use Rattle.choice.proofs.Filled.{no_keys_yet, one_more_keyed, all_keyed}
use Rattle.choice.proofs.keys_of.Goals as goal

pub loop-i-init : goal.loop-i-init
loop-i-init c = no_keys_yet _ _ _ _

pub loop-i-preserved : goal.loop-i-preserved
loop-i-preserved c =
    let long : length c.args.quanta.now ≡ 32 = search rules in
    one_more_keyed _ _ c.requires long _ _ (omega arith) _ c.loop-i.invariant c.key.ensures c.unwrap_or.ensures

pub returns : goal.returns
returns c = all_keyed c.loop-i.invariant (omega arith)
