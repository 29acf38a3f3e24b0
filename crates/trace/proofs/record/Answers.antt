use Rattle.std.proofs.Common.{refl, arith}
use Rattle.trace.proofs.Search.{found_as_asked, nowhere_is, between_is}
use Rattle.trace.proofs.record.Goals as goal

pub slice_bounds-result-count : goal.slice_bounds-result-count
slice_bounds-result-count c = (between_is _ _ (found_as_asked _ _ c.in-Some.ensures c.time.ensures)).ordered

pub slice_bounds-result-start : goal.slice_bounds-result-start
slice_bounds-result-start c = (between_is _ _ (found_as_asked _ _ c.in-Some.ensures c.time.ensures)).ordered

pub slice_bounds-result-end : goal.slice_bounds-result-end
slice_bounds-result-end c = (between_is _ _ (found_as_asked _ _ c.in-Some.ensures c.time.ensures)).inside

pub returns-in-Some : goal.returns-in-Some
returns-in-Some c =
    let part = between_is _ _ (found_as_asked _ _ c.in-Some.ensures c.time.ensures) in
    record { content = part.bytes; place = (refl, omega (arith, part.begins)) }

pub returns-in-None : goal.returns-in-None
returns-in-None c =
    let none = nowhere_is _ _ (found_as_asked _ _ c.in-None.ensures c.time.ensures) in
    record { content = none.0; place = (refl, omega (arith, none.1)) }
