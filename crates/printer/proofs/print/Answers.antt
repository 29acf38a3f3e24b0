use native.Mathlib.Omega.{arith}
use Rattle.printer.proofs.Buffer.{is_too_short, is_printed}
use Rattle.printer.proofs.print.Goals as goal

pub returns-then-out-length : goal.returns-then-out-length
returns-then-out-length c =
    let a = c.args in
    let measured = c.put_text-length.ensures in
    let law = is_too_short a.input.now a.out.now (omega (arith, measured.wrote.place, c.if-out-length.true)) in
    record { value = law.0; out_after = law.1; input_len_bound = measured.few }

pub returns : goal.returns
returns c =
    let a = c.args in
    let measured = c.put_text-length.ensures in
    let law = is_printed a.input.now a.out.now {n = c.put_text-length.result} (omega (arith, measured.wrote.place)) (omega (arith, measured.wrote.place, c.if-out-length.false)) c.put_text.ensures.wrote in
    record { value = law.0; out_after = law.1; input_len_bound = measured.few }
