use Rattle.std.proofs.Common.{◌≡◌, ℕ, ◌+◌, ◌-◌, false, List, ◌++◌, take, drop, sym, ap, ◌∙◌, length-append, arith}
use Rattle.table.specs.Bytes.{reading}
use Rattle.table.specs.Reply.{Reading}
use Rattle.table.proofs.Numbers.{is_fault}
use Rattle.dispatcher.specs.State.{fresh_of}
use Rattle.printer.specs.Input.{table_length, table_bytes, held_back, unfit}
use Rattle.printer.specs.Lines.{header}
use Rattle.printer.specs.Text.{all_slots}
use Rattle.printer.proofs.Writing.{wrote_on, wrote_few_as}
use Rattle.printer.proofs.Input.{is_fit}
use Rattle.printer.proofs.Buffer.{input_words, header_words, text_of_unfit, text_of_refused, text_of_taken}
use Rattle.printer.proofs.write_text.Goals as goal

-- What is read is the table in the input.
table_read : (s : List ℕ) {n : ℕ} {r : Reading} → n ≡ table_length s → r ≡ reading (take (2 + n - 2) (drop 2 s)) → r ≡ reading (table_bytes s)
table_read s {n} half read = read ∙ ap (λ n. reading (take n (drop 2 s))) {x = 2 + n - 2} {y = table_length s} (omega (arith, half))

pub returns-then-is_unfit-clause-wrote : goal.returns-then-is_unfit-clause-wrote
returns-then-is_unfit-clause-wrote c =
    let s = c.args.input.now in
    wrote_few_as (input_words ∙ text_of_unfit held_back s (sym c.is_unfit.ensures ∙ c.if-is_unfit.true)) c.word.ensures.wrote (omega arith)

pub slice_bounds-read-end : goal.slice_bounds-read-end
slice_bounds-read-end c =
    let fit : unfit c.args.input.now ≡ false = sym c.is_unfit.ensures ∙ c.if-is_unfit.false in
    omega (arith, (is_fit _ fit).long, c.half.ensures)

pub all-requires : goal.all-requires
all-requires c =
    let fit : unfit c.args.input.now ≡ false = sym c.is_unfit.ensures ∙ c.if-is_unfit.false in
    (omega (arith, c.word-in-Ok.ensures.wrote.place, c.requires), (is_fit _ fit).slots)

pub returns-in-Ok-clause-wrote : goal.returns-in-Ok-clause-wrote
returns-in-Ok-clause-wrote c =
    let s = c.args.input.now in
    let fit : unfit s ≡ false = sym c.is_unfit.ensures ∙ c.if-is_unfit.false in
    let table_is = table_read s c.half.ensures c.in-Ok.ensures in
    let all = c.all.ensures.wrote in
    let state = ap (λ r. fresh_of r.table) table_is in
    wrote_few_as
    (ap (λ l. l ++ all_slots held_back s (fresh_of c.in-Ok.table)) header_words
    ∙ (ap (λ x. header ++ all_slots held_back s x) state ∙ text_of_taken held_back s fit (sym (ap (λ r. r.number) table_is))))
    (wrote_on c.word-in-Ok.ensures.wrote all.wrote) (rw (length-append _ _) (omega (arith, all.few)))

pub returns-in-Err-clause-wrote : goal.returns-in-Err-clause-wrote
returns-in-Err-clause-wrote c =
    let s = c.args.input.now in
    let fit : unfit s ≡ false = sym c.is_unfit.ensures ∙ c.if-is_unfit.false in
    let number = ap (λ r. r.number) (table_read s c.half.ensures c.in-Err.ensures) in
    let refused = rw c.number.ensures at c.refused.ensures.wrote in
    wrote_few_as (text_of_refused held_back s fit number (is_fault c.in-Err.fault)) refused.wrote (omega (arith, refused.few))
