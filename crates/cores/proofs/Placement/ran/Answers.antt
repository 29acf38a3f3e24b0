use Prim.Native.Nat.{◌<◌}
use mathlib.Core.Path.{◌≡◌, ap, ◌∙◌}
use native.Mathlib.Omega.{arith}
use borrow.Author.Rules.{rules}
use lib.Dec.{eqb}
use lib.ListN.{length, length-take}
use Rattle.std.proofs.lemmas.List.{get_or-take}
use Rattle.facts.specs.Counting.{some}
use Rattle.facts.proofs.Places.{are_marks}
use Rattle.table.specs.Limits.{row_limit}
use Rattle.cores.specs.Placement.{row_in, ran_before}
use Rattle.cores.proofs.Marks.{marking_begins, marks_one_more, marks_no_more}
use Rattle.cores.proofs.Placement.ran.Goals.{then-row-lt32, else-row-lt32}
use Rattle.cores.proofs.Placement.ran.Goals as goal

pub loop-row-init : goal.loop-row-init
loop-row-init c = marking_begins _ 32

pub loop-row-preserved : goal.loop-row-preserved
loop-row-preserved c =
    let n = c.min-count.result in
    let rows = c.args.self.rows in
    let i = c.loop-row.row-index in
    let early : i < n = omega (arith, length-take n rows, c.loop-row-test.true) in
    let here = get_or-take n rows i 0 early in
    elim c.if-row-lt32.branch [
      | then-row-lt32 w ↦ rw w.marks-is (marks_one_more _ _ c.loop-row.invariant here w.if-row-lt32.true)
      | else-row-lt32 w ↦ rw w.marks-is (marks_no_more _ _ c.loop-row.invariant here w.if-row-lt32.false)
    ]

pub returns : goal.returns
returns c =
    let n = c.min-count.result in
    let rows = c.args.self.rows in
    let long : length rows ≡ 8 = search rules in
    let all : c.loop-row.row-index ≡ n = omega (arith, length-take n rows, c.loop-row.auto.row-index-end, c.loop-row-test.false, c.min-count.ensures) in
    are_marks (ran_before c.args.self) row_limit c.loop-row.invariant.long
    (λ row l. c.loop-row.invariant.says row l ∙ ap (some (λ i. eqb (row_in c.args.self i) row)) (all ∙ c.min-count.ensures))
