use Rattle.std.proofs.Common.{◌≡◌, refl, sym, ap, ◌∙◌, arith}
use Rattle.std.specs.Result.{result_err}
use lib.ListN.{replicate, length-replicate}
use Rattle.facts.proofs.Loops.{reading_begins, reading_ends, reading_stops, reading_goes_on}
use Rattle.table.specs.declared.Row.{Row}
use Rattle.facts.proofs.Places.{first_are_read}
use Rattle.table.specs.Limits.{row_limit}
use Rattle.table.specs.Bytes.{row_in_bytes}
use Rattle.table.specs.Causes.{tank_above, load, zero_row}
use Rattle.table.proofs.Sum.{added_none, added_put, added_all}
use Rattle.table.proofs.Numbers.{is_fault}
use Rattle.table.proofs.Zeros.{default_row_is_zeros}
use Rattle.table.proofs.Bytes.{row_was_read, row_was_there, row_was_faulty}
use Rattle.table.proofs.rows.read.Goals as goal

pub loop-i-init : goal.loop-i-init
loop-i-init c =
    let none = default_row_is_zeros c.default-rows.ensures in (
      reading_begins _ _ _ _ _ _ _ _ (ap (λ (z : Row). replicate 32 z) none),
      omega arith,
      added_none _ _ _ (omega (arith, c.requires.1, length-replicate 32 zero_row)),
      c.requires.0,
    )

pub returns-in_default : goal.returns-in_default
returns-in_default c =
    let was = row_was_faulty _ _ _ _ c.in_default.field-0 (rw c.in_default.is at c.read_one-got.ensures) in
    let same = sym c.unwrap.ensures ∙ (c.err.ensures.value ∙ ap result_err c.in_default.is) in
    let handed : c.unwrap.result ≡ c.in_default.field-0 = cc in
    rw handed (reading_stops _ _ _ _ _ _ _ _ c.loop-i.invariant.0 c.loop-i-test.true c.loop-i.invariant.1 was (λ z. is_fault _ z)).first

pub loop-i-preserved : goal.loop-i-preserved
loop-i-preserved c =
    let quanta = c.quanta-sum.ensures in
    let taken = c.loop-i-test.true in
    let was = row_was_read _ _ _ _ (rw c.in-Ok.is at c.read_one-got.ensures) in
    let past = was.2 in (
      reading_goes_on _ _ _ _ _ _ _ _ c.loop-i.invariant.0 taken c.loop-i.invariant.1 (omega (arith, taken, c.requires.1)) was.0 was.1 (c.above-least.ensures ∙ ap tank_above was.1),
      omega (arith, past, c.loop-i.invariant.1),
      added_put c.loop-i.invariant.2 taken quanta.1 _ quanta.0,
      omega (arith, past, row_was_there c.args.bytes.now c.args.cycle c.loop-i.least c.loop-i.cursor.at was.0),
    )

pub returns : goal.returns
returns c =
    let read = reading_ends _ _ _ _ _ _ _ _ c.loop-i.invariant.0 c.loop-i-test.false in
    let rows = read.content refl in (
      read.first,
      rows,
      added_all c.loop-i.invariant.2 c.loop-i-test.false
          ∙ rw rows (ap (load c.args.cycle) (first_are_read (row_in_bytes c.args.bytes.now) zero_row row_limit c.args.at 9 c.args.n)),
    )
