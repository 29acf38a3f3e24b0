-- Which rule of PD2's order puts one row ahead of another (02, Two): "the rule that put it ahead (deadline, bit, group deadline, row number)"; (02, Eight):
-- "the list of rules gains 'ran in the slot before'".
use Rattle.std.specs.Prelude.{◌≡◌, cond, not, ◌&&◌, ltb}
use Rattle.pd2.specs.Order.{Rank, Before, bit_decides, group_decides}
use Rattle.why.specs.declared.Rule.{Rule}
use Rattle.why.specs.declared.Rule.TheVariants.{Deadline, Bit, GroupDeadline, RowNumber, RanBefore}

-- A row goes before another by a rule of PD2's order: this is its name. (Each case of the order is one rule, so no rule is named that does not hold.)
abbrev pub rule_of : {x y : Rank} → Before x y → Rule
rule_of (Before.by_deadline l) = Deadline
rule_of (Before.by_bit d p q) = Bit
rule_of (Before.by_group d p q l) = GroupDeadline
rule_of (Before.by_favour t is none) = RanBefore
rule_of (Before.by_row t same l) = RowNumber

-- The same, computed: the first rule that decides.
unfoldable pub rule_for : Rank → Rank → Rule
rule_for x y = cond (ltb x.d y.d) Deadline (cond (bit_decides x y) Bit (cond (group_decides x y) GroupDeadline (cond (x.favoured && not y.favoured) RanBefore RowNumber)))

-- One row goes before another by one rule alone.
abbrev pub OneRule : Type 0
OneRule = (x y : Rank) (ahead : Before x y) → rule_of ahead ≡ rule_for x y
