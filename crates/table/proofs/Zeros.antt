-- Where a table is wanted whatever the bytes are, a refused one counts as a table of zeros. Assumes nothing.
use Rattle.std.proofs.Common.{◌≡◌, ◌<◌, ◌∙◌, sym, Result, Ok, Err, arith}
use Rattle.std.proofs.lemmas.List.{ext_get_or, get_or-replicate}
use Rattle.std.specs.Result.{ResultUnwrapsOrElse}
use Rattle.table.specs.declared.Row.{Row}
use Rattle.table.specs.declared.Table.{Table}
use Rattle.table.specs.declared.faults.Fault.{Fault}
use Rattle.table.specs.contracts.RowDefault as of_row
use Rattle.table.specs.contracts.TableDefault as of_table
use Rattle.table.specs.Causes.{zero_row}
use Rattle.table.specs.Reply.{no_table, reply_of}

-- the default row is a place that holds no row,
pub default_row_is_zeros : {row : Row} → (of_row.TheImpl.is_default-value).it row → row ≡ zero_row
default_row_is_zeros h = λ i. record { tank = h.0 i; cost = h.1.0 i; period = h.1.1.0 i; phase = h.1.1.1.0 i; kind = h.1.1.1.1 i }

-- and the default table holds zeros,
default_is_zeros : {t : Table} → (of_table.TheImpl.is_default-value).it t → t ≡ no_table
default_is_zeros {t} h =
    let eight = h.1.1.0 in
    let thirty_two = h.1.1.1.1.0 in
    let boards : t.boards ≡ no_table.boards =
    ext_get_or 0 t.boards no_table.boards eight.long (λ i l. let here : i < 8 = omega (arith, eight.long) in eight.at i 0 here ∙ sym (get_or-replicate 8 i 0 0 here)) in
    let rows : t.rows ≡ no_table.rows =
    ext_get_or zero_row t.rows no_table.rows thirty_two.long
    (λ i l. let here : i < 32 = omega (arith, thirty_two.long) in default_row_is_zeros (thirty_two.at i zero_row here) ∙ sym (get_or-replicate 32 i zero_row zero_row here)) in
    λ k. record { cycle = h.0 k; cores = h.1.0 k; boards = boards k; n = h.1.1.1.0 k; rows = rows k; format = h.1.1.1.1.1 k }

-- so that what is read of bytes, or by default, is the table that their reading names.
pub taken_or_zeros : (read : Result Table Fault) {t : Table} → ResultUnwrapsOrElse read (of_table.TheImpl.is_default-value).it t → t ≡ (reply_of read).table
taken_or_zeros (Ok table) h = h
taken_or_zeros (Err fault) h = default_is_zeros h
