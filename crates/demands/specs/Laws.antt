-- A table of our own beside the bench: inputs, and the answers that 01 and 02 give to them. Each number has an input that gives it, each two causes that are
-- neighbours in 01's order and can be met together an input with both, each limit an input on either side. One table and one statement, over the definitions.
use Rattle.std.specs.Prelude.{◌≡◌, List, [], ◌∷◌, ◌++◌, true}
use Rattle.demands.specs.Law.{Law, window, all_laws_hold}
use Rattle.demands.specs.TableLaws.{table_laws}
use Rattle.demands.specs.ReadingLaws.{reading_order, value_laws}
use Rattle.demands.specs.WriteLaws.{write_laws}
use Rattle.demands.specs.SlotLaws.{slot_laws}
use Rattle.demands.specs.CoreLaws.{core_laws}
use Rattle.demands.specs.WhyLaws.{why_laws}
use Rattle.demands.specs.KindLaws.{kind_laws}
use Rattle.demands.specs.TraceLaws.{part_laws, trace_laws}
use Rattle.demands.specs.PrinterLaws.{printer_laws}

-- "A window may be asked for alone .. It is refused if e = 0", if "e above p" (02, Six), "or if i is not in 1 to 1,000,000,001" (with the new limit of 02, Seven: 1,000,000,000,001);
-- "then r, d, b and D come back as 0."
-- e, p, f, i; then the number, r, d, b and D
abbrev pub window_laws : List Law
window_laws =
    window 0 3 0 1 50 0 0 0 0
    ∷ window 4 3 0 1 50 0 0 0 0
    ∷ window 1 0 0 1 50 0 0 0 0
    ∷ window 0 0 0 1 50 0 0 0 0
    ∷ window 2 3 0 0 50 0 0 0 0
    ∷ window 2 3 7 1 0 7 9 1 10
    ∷ window 2 3 0 1_000_000_000_001 0 1_500_000_000_000 1_500_000_000_002 1 1_500_000_000_003
    ∷ window 2 3 0 1_000_000_000_002 50 0 0 0 0
    -- up to the limit of 01, past it, and past 32 bits ("The time limit rises", 02, Seven)
    ∷ window 2 3 0 1_000_000_001 0 1_500_000_000 1_500_000_002 1 1_500_000_003
    ∷ window 2 3 0 1_000_000_002 0 1_500_000_001 1_500_000_003 0 1_500_000_003
    ∷ window 2 3 7 4_294_967_297 0 6_442_450_951 6_442_450_953 1 6_442_450_954
    ∷ window 1 2 65_535 1 0 65_535 65_537 0 65_537
    ∷ window 1 65_535 65_535 1_000_000_000_001 0 65_535_000_000_065_535 65_535_000_000_131_070 0 0
    -- "group deadline D: 0 for a light row": also one of two quanta, whose bit is 1
    ∷ window 2 5 0 1 0 0 3 1 0
    -- "heavy is at least one half" (02, Three), however it is written; and the weights next below and above it
    ∷ window 2 4 0 2 0 2 4 0 4
    ∷ window 3 6 5 4 0 11 13 0 13
    ∷ window 32_767 65_534 0 1 0 0 2 0 2
    ∷ window 32_767 65_535 0 1 0 0 3 1 0
    ∷ window 32_768 65_535 0 1 0 0 2 1 3
    -- "windows of one slot, b = 0, and D = d" (02, Six)
    ∷ window 1 1 0 1 0 0 1 0 1
    ∷ window 3 3 0 1 0 0 1 0 1
    ∷ window 5 5 2 3 0 4 5 0 5
    ∷ window 65_535 65_535 65_535 1_000_000_000_001 0 1_000_000_065_535 1_000_000_065_536 0 1_000_000_065_536
    ∷ window 65_535 65_535 0 1_000_000_000_002 50 0 0 0 0
    -- "one less than the deadline of a subtask of this row whose window is 3 slots long": also far out
    ∷ window 8 11 0 1_000_000_000_001 0 1_375_000_000_000 1_375_000_000_002 1 1_375_000_000_004
    ∷ window 9 13 0 2 0 1 3 1 4
    ∷ window 3 5 0 1 0 0 2 1 3
    ∷ []

abbrev pub laws : List Law
laws = window_laws ++ (table_laws ++ (reading_order ++ (value_laws ++ (write_laws ++ (slot_laws ++ (core_laws ++ (why_laws ++ (kind_laws ++ (part_laws ++ (trace_laws ++ printer_laws))))))))))

-- Every law follows from the definitions.
abbrev pub LawsHold : Type 0
LawsHold = all_laws_hold laws ≡ true
