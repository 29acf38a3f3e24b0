use native.Mathlib.Omega.{arith}
use Rattle.std.proofs.lemmas.Result.{err_from_is_err_and}
use Rattle.checker.proofs.Shape.{shape_is_sound, misshape_is_first}
use Rattle.checker.proofs.Judged.{shape_ends, can_give, early_ends, late_ends, goes_on}
use Rattle.checker.proofs.record.judge.Goals as goal

pub returns-in_err-next : goal.returns-in_err-next
returns-in_err-next c =
    let p = err_from_is_err_and c.from_residual.result c.from_residual.ensures.1 in
    rw (p.1, p.2) (shape_ends _ _ _ _ _ c.requires (misshape_is_first _ _ _ _ _ c.in_err-next.ensures))

pub slice_bounds-rows-count : goal.slice_bounds-rows-count
slice_bounds-rows-count c = let shape = shape_is_sound _ _ _ _ c.in_ok-next.ensures in omega (arith, shape.behind)

pub slice_bounds-rows-start : goal.slice_bounds-rows-start
slice_bounds-rows-start c = let shape = shape_is_sound _ _ _ _ c.in_ok-next.ensures in omega (arith, shape.behind)

pub slice_bounds-rows-end : goal.slice_bounds-rows-end
slice_bounds-rows-end c = let shape = shape_is_sound _ _ _ _ c.in_ok-next.ensures in shape.inside

pub give-requires : goal.give-requires
give-requires c = (_, can_give _ _ _ _ _ c.requires (shape_is_sound _ _ _ _ c.in_ok-next.ensures))

pub returns-in_err-give : goal.returns-in_err-give
returns-in_err-give c =
    let p = err_from_is_err_and c.from_residual-in_err-give.result c.from_residual-in_err-give.ensures.1 in
    let shape = shape_is_sound _ _ _ _ c.in_ok-next.ensures in
    rw (p.1, p.2) (early_ends _ _ _ _ _ c.requires shape (c.in_err-give.ensures _ (can_give _ _ _ _ _ c.requires shape)))

pub returns-in-Some : goal.returns-in-Some
returns-in-Some c =
    let shape = shape_is_sound _ _ _ _ c.in_ok-next.ensures in
    let late = c.in-Some.ensures in
    late_ends _ _ _ _ _ c.requires shape (c.in_ok-give.ensures _ (can_give _ _ _ _ _ c.requires shape)) (omega (arith, c.later-time.ensures, c.requires.time)) late.1 late.0

pub returns : goal.returns
returns c =
    let shape = shape_is_sound _ _ _ _ c.in_ok-next.ensures in
    goes_on _ _ _ _ _ c.requires shape (c.in_ok-give.ensures _ (can_give _ _ _ _ _ c.requires shape)) (omega (arith, c.later-time.ensures, c.requires.time)) c.in_default.ensures
