use Rattle.std.proofs.Common.{◌≡◌, ◌+◌, ◌*◌, sym, length, arith, rules}
use Rattle.table.specs.Writing.{bytes_of_table}
use Rattle.table.proofs.Numbers.{is_fault}
use Rattle.table.proofs.Taken.{sizes_are_within}
use Rattle.table.proofs.Written.{bytes_needed_is, by_fault, by_room, is_written}
use Rattle.table.proofs.write.Goals as goal

pub returns-in-Err : goal.returns-in-Err
returns-in-Err c =
    let refused = by_fault c.args.table c.args.buffer.now c.in-Err.ensures (is_fault _) in
    record { value = refused.0; buffer_after = refused.1 }

pub returns-then-buffer-length : goal.returns-then-buffer-length
returns-then-buffer-length c =
    let t = c.args.table in
    let none = sym c.in_default.ensures in
    let sizes = sizes_are_within t none in
    let long : length (bytes_of_table t) ≡ 7 + t.cores + 9 * t.n = bytes_needed_is t (search rules) (search rules) sizes.1.1 sizes.2 in
    let refused = by_room t c.args.buffer.now none (omega (arith, long)) in
    record { value = refused.0; buffer_after = refused.1 }

pub put-requires : goal.put-requires
put-requires c = let sizes = sizes_are_within c.args.table (sym c.in_default.ensures) in (sizes.1.1, sizes.2)

pub returns : goal.returns
returns c =
    let t = c.args.table in
    let none = sym c.in_default.ensures in
    let sizes = sizes_are_within t none in
    let long : length (bytes_of_table t) ≡ 7 + t.cores + 9 * t.n = bytes_needed_is t (search rules) (search rules) sizes.1.1 sizes.2 in
    let written = is_written t c.args.buffer.now none (omega (arith, long)) (sym long) c.put.ensures in
    record { value = written.0; buffer_after = written.1 }
