-- 01's example (01, "Slot printer"), with the k list that 02, Nine gives it, and without one; computed.
use Rattle.std.specs.Prelude.{ℕ, ◌≡◌, List, [], ◌∷◌, ◌++◌}
use Rattle.table.specs.Example.{example}
use Rattle.printer.specs.Text.{text_of}
use Rattle.printer.specs.FullList.{text_before}

-- the table with its length of 36 bytes, 3 slots, and "01's listing gets a k list of three 2s" (02, Nine)
abbrev pub example_input : List ℕ
example_input = 36 ∷ 0 ∷ example ++ (3 ∷ 0 ∷ 3 ∷ 0 ∷ 2 ∷ 2 ∷ 2 ∷ [])

-- "Whole output": `slot free tanks`, `0 2 10 11`, `1 2 10 20`, `2 2 11 20`, `end 3`
abbrev pub example_text : List ℕ
example_text =
    115 ∷ 108 ∷ 111 ∷ 116 ∷ 32 ∷ 102 ∷ 114 ∷ 101 ∷ 101 ∷ 32 ∷ 116 ∷ 97 ∷ 110 ∷ 107 ∷ 115 ∷ 10
    ∷ 48 ∷ 32 ∷ 50 ∷ 32 ∷ 49 ∷ 48 ∷ 32 ∷ 49 ∷ 49 ∷ 10
    ∷ 49 ∷ 32 ∷ 50 ∷ 32 ∷ 49 ∷ 48 ∷ 32 ∷ 50 ∷ 48 ∷ 10
    ∷ 50 ∷ 32 ∷ 50 ∷ 32 ∷ 49 ∷ 49 ∷ 32 ∷ 50 ∷ 48 ∷ 10
    ∷ 101 ∷ 110 ∷ 100 ∷ 32 ∷ 51 ∷ 10 ∷ []

abbrev pub ExampleIsPrinted : Type 0
ExampleIsPrinted = text_of example_input ≡ example_text

-- Without a k list one of the two cores is held back, and tank 20 is late: `slot free tanks`, `0 1 10`, `1 1 11`, `late 2 20`
abbrev pub unlisted_input : List ℕ
unlisted_input = 36 ∷ 0 ∷ example ++ (3 ∷ 0 ∷ 0 ∷ 0 ∷ [])

abbrev pub unlisted_text : List ℕ
unlisted_text =
    115 ∷ 108 ∷ 111 ∷ 116 ∷ 32 ∷ 102 ∷ 114 ∷ 101 ∷ 101 ∷ 32 ∷ 116 ∷ 97 ∷ 110 ∷ 107 ∷ 115 ∷ 10
    ∷ 48 ∷ 32 ∷ 49 ∷ 32 ∷ 49 ∷ 48 ∷ 10
    ∷ 49 ∷ 32 ∷ 49 ∷ 32 ∷ 49 ∷ 49 ∷ 10
    ∷ 108 ∷ 97 ∷ 116 ∷ 101 ∷ 32 ∷ 50 ∷ 32 ∷ 50 ∷ 48 ∷ 10 ∷ []

abbrev pub UnlistedIsPrinted : Type 0
UnlistedIsPrinted = text_of unlisted_input ≡ unlisted_text

-- before, it had all cores
abbrev pub UnlistedWasPrinted : Type 0
UnlistedWasPrinted = text_before unlisted_input ≡ example_text
