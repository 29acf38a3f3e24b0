use mathlib.Core.Path.{◌≡◌, refl, ◌∙◌}
use mathlib.Core.Bool.{Bool, true, false, cond, ◌&&◌}
use Prim.Native.Nat.{ℕ, ◌≤◌}
use native.Mathlib.Omega.{arith}
use Rattle.pd2.specs.Order.{Rank, rank_of, with_favour}
use Rattle.why.specs.declared.Rule.TheVariants.{RowNumber, RanBefore}
use Rattle.why.specs.declared.next.Next.{Next}
use Rattle.why.proofs.Asked.{by_deadline, by_bit, last_at_bit_0, by_group, last_at_bit_1, bit_is_small}
use Rattle.why.proofs.order.rule_between.Goals as goal

-- what the order looks at, of each of the two
abbrev first_rank : Next → Bool → Rank
first_rank ahead kinder = with_favour (rank_of ahead.row 0 ahead.given.0) kinder

abbrev second_rank : Next → Rank
second_rank behind = rank_of behind.row 0 behind.given.0

-- Past the tests of the bits both are 1,
both_1 : (ahead behind : Next) {one other : ℕ} → one ≡ (second_rank ahead).b → other ≡ (second_rank behind).b → (one ≡ 0 → ⊥) → one ≤ other →
    ((second_rank ahead).b ≡ 1) × ((second_rank behind).b ≡ 1)
both_1 ahead behind e f some most =
    let small = bit_is_small ahead.row ahead.given.0 in
    let small_too = bit_is_small behind.row behind.given.0 in
    (omega (arith, small), omega (arith, small, small_too))

-- and between full ties only who is favoured is left to be asked.
last : (kinder : Bool) → cond kinder RanBefore RowNumber ≡ cond (kinder && true) RanBefore RowNumber
last true = refl
last false = refl

pub returns-then-time : goal.returns-then-time
returns-then-time c =
    by_deadline (first_rank c.args.ahead c.args.kinder) (second_rank c.args.behind)
    (omega (arith, c.if-time.true, c.time.ensures, c.time-2.ensures, c.due-first.ensures, c.due-second.ensures))

pub returns-then-second-first : goal.returns-then-second-first
returns-then-second-first c =
    let small = bit_is_small c.args.ahead.row c.args.ahead.given.0 in
    by_bit (first_rank c.args.ahead c.args.kinder) (second_rank c.args.behind)
    (omega (arith, c.if-time.false, c.time.ensures, c.time-2.ensures, c.due-first.ensures, c.due-second.ensures))
    (omega (arith, small, c.if-second-first.true, c.due-first.ensures, c.due-second.ensures))
    (omega (arith, small, c.if-second-first.true, c.due-first.ensures, c.due-second.ensures))

pub returns-then-first-eq0 : goal.returns-then-first-eq0
returns-then-first-eq0 c =
    c.last_rule.ensures
    ∙ last c.args.kinder
    ∙ last_at_bit_0 (first_rank c.args.ahead c.args.kinder) (second_rank c.args.behind)
    (omega (arith, c.if-time.false, c.time.ensures, c.time-2.ensures, c.due-first.ensures, c.due-second.ensures))
    (omega (arith, c.if-first-eq0.true, c.due-first.ensures))

pub returns-then-time-2 : goal.returns-then-time-2
returns-then-time-2 c =
    let bits = both_1 c.args.ahead c.args.behind c.due-first.ensures.1 c.due-second.ensures.1 c.if-first-eq0.false c.if-second-first.false in
    by_group (first_rank c.args.ahead c.args.kinder) (second_rank c.args.behind)
    (omega (arith, c.if-time.false, c.time.ensures, c.time-2.ensures, c.due-first.ensures, c.due-second.ensures))
    bits.0 bits.1
    (omega (arith, c.if-time-2.true, c.time-3.ensures, c.time-4.ensures, c.group_deadline.ensures, c.group_deadline-2.ensures))

pub returns : goal.returns
returns c =
    let bits = both_1 c.args.ahead c.args.behind c.due-first.ensures.1 c.due-second.ensures.1 c.if-first-eq0.false c.if-second-first.false in
    c.last_rule-2.ensures
    ∙ last c.args.kinder
    ∙ last_at_bit_1 (first_rank c.args.ahead c.args.kinder) (second_rank c.args.behind)
    (omega (arith, c.if-time.false, c.time.ensures, c.time-2.ensures, c.due-first.ensures, c.due-second.ensures))
    bits.0 bits.1
    (omega (arith, c.if-time-2.false, c.time-3.ensures, c.time-4.ensures, c.group_deadline.ensures, c.group_deadline-2.ensures))
