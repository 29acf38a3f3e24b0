use Rattle.std.proofs.Common.{ℕ, ◌≡◌, ap, ◌∙◌, ◌<◌, length, arith, rules}
use Rattle.facts.specs.Counting.{those}
use Rattle.trace.specs.Record.{with_front}
use Rattle.trace.proofs.Writing.{is_marked, writing_begins, writes_marked, writes_no_unmarked, has_place}
use Rattle.trace.proofs.put_rows.Goals as goal
use Rattle.trace.proofs.put_rows.Goals.{then-is_marked, else-is_marked}

below : {i n : ℕ} → i < 32 → n ≡ 32 → i < n
below l long = omega arith

pub loop-i-init : goal.loop-i-init
loop-i-init c = writing_begins _ _

pub bounds-part-at : goal.bounds-part-at
bounds-part-at c =
    let place_of : length (those (is_marked c.args.marks.now) c.loop-i.i) < length c.args.part.now = has_place _ _ c.loop-i.invariant (below c.loop-i-test.true c.told-marks) c.if-is_marked.true c.requires in
    omega (arith, c.loop-i.invariant.place)

pub overflow_add-at : goal.overflow_add-at
overflow_add-at c =
    let place_of : length (those (is_marked c.args.marks.now) c.loop-i.i) < length c.args.part.now = has_place _ _ c.loop-i.invariant (below c.loop-i-test.true c.told-marks) c.if-is_marked.true c.requires in
    let short : length c.args.part.now < 18_446_744_073_709_551_616 = search rules in
    omega (arith, c.loop-i.invariant.place)

pub loop-i-preserved : goal.loop-i-preserved
loop-i-preserved c =
    elim c.if-is_marked.branch [
      | then-is_marked w ↦ rw (w.part-is, w.at-is) (writes_marked _ _ c.loop-i.invariant (below c.loop-i-test.true c.told-marks) w.if-is_marked.true (has_place _ _ c.loop-i.invariant (below c.loop-i-test.true c.told-marks) w.if-is_marked.true c.requires))
      | else-is_marked w ↦ rw (w.part-is, w.at-is) (writes_no_unmarked _ _ c.loop-i.invariant (below c.loop-i-test.true c.told-marks) w.if-is_marked.false)
    ]

pub returns : goal.returns
returns c =
    let inv = c.loop-i.invariant in
    let all : c.loop-i.i ≡ length c.args.marks.now = omega (arith, inv.within, c.loop-i-test.false, c.told-marks) in
    inv.holds ∙ ap (λ k. with_front c.args.part.now (those (is_marked c.args.marks.now) k)) all
