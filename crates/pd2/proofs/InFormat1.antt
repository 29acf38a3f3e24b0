-- In format 1 the order is 01's. Assumes nothing.
use mathlib.Core.Path.{sym, ◌∙◌}
use mathlib.Core.Bool.{true≢false}
use Rattle.pd2.specs.Order.{Before}
use Rattle.pd2.specs.InFormat1.{BeforeIn01, AlikeIsIn01}

pub alike_is_in_01 : AlikeIsIn01
alike_is_in_01 x y alike = (to, from)
  where
    to : Before x y → BeforeIn01 x y
    to (Before.by_deadline l) = BeforeIn01.by_deadline l
    to (Before.by_bit d p q) = BeforeIn01.by_bit d p q
    to (Before.by_group d p q l) = BeforeIn01.by_group d p q l
    to (Before.by_favour t is none) = absurd (true≢false (sym is ∙ (alike ∙ none)))
    to (Before.by_row t same l) = BeforeIn01.by_row t.deadline t.bit t.group l

    from : BeforeIn01 x y → Before x y
    from (BeforeIn01.by_deadline l) = Before.by_deadline l
    from (BeforeIn01.by_bit d p q) = Before.by_bit d p q
    from (BeforeIn01.by_group d p q l) = Before.by_group d p q l
    from (BeforeIn01.by_row d b g l) = Before.by_row (record { deadline = d; bit = b; group = g }) alike l
