use Rattle.std.proofs.Common.{◌≡◌, ℕ, false, true, sym, ◌∙◌, arith, length-take-le}
use Rattle.std.proofs.lemmas.List.{length-replicate}
use Rattle.std.specs.Result.{is_ok}
use Rattle.printer.proofs.Buffer.{printed_is_within, large_is_enough}
use Rattle.slot_printer.proofs.main.Goals as goal

-- No text is too long for the buffer,
pub prove-unreachable-requires : goal.prove-unreachable-requires
prove-unreachable-requires c =
    let print = c.print-printed.ensures in
    let all = print.value ∙ large_is_enough _ _ print.input_len_bound (omega (arith, length-replicate {A = ℕ} 237_616 0)) in
    let found : false ≡ true = rw all at (sym c.if-prove.true ∙ c.is_ok.ensures.value) in
    absurd cc

-- and so what was printed lies within it.
pub slice_bounds-text-end : goal.slice_bounds-text-end
slice_bounds-text-end c = omega (arith, c.length-length.ensures, printed_is_within _ _ c.print-printed.ensures.value, c.print-printed.auto.out)

pub slice_bounds-write_all-end : goal.slice_bounds-write_all-end
slice_bounds-write_all-end c =
    let fits = printed_is_within _ _ c.print-printed.ensures.value in
    sym (length-take-le _ _ (omega (arith, c.length-length.ensures, fits, c.print-printed.auto.out)))
