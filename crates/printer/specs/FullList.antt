-- "The night bench must write its k list in full and print as before." (02, Nine)
use Rattle.std.specs.Prelude.{ℕ, ◌-◌, ◌≤◌, ◌≡◌, List, ◌++◌, length, replicate}
use Rattle.fields.specs.Fields.{bytes_of}
use Rattle.table.specs.Bytes.{table_in}
use Rattle.printer.specs.Limits.{input_limit, run_limit}
use Rattle.printer.specs.Input.{slots_asked, list_length}
use Rattle.printer.specs.Text.{text_with, text_of}

-- What was printed before: "Slots past the k list use all M cores." (01)
abbrev pub text_before : List ℕ → List ℕ
text_before s = text_with (λ cores. cores) s

-- An input whose k list is in full prints the same whatever slots past the list use,
abbrev pub FullListDecides : Type 0
FullListDecides = (s : List ℕ) → list_length s ≡ slots_asked s → (past past' : ℕ → ℕ) → text_with past s ≡ text_with past' s

-- and so as before.
abbrev pub FullListPrintsAsBefore : Type 0
FullListPrintsAsBefore = (s : List ℕ) → list_length s ≡ slots_asked s → text_of s ≡ text_before s

-- An input of its parts: "table length (2), table, slots to run (2 ..), count of k values (2 ..), those k bytes"
abbrev pub input_of : List ℕ → ℕ → List ℕ → List ℕ
input_of table slots list = bytes_of 2 (length table) ++ (table ++ (bytes_of 2 slots ++ (bytes_of 2 (length list) ++ list)))

-- a k list written in full: all M cores in each slot that it left out
abbrev pub in_full : ℕ → ℕ → List ℕ → List ℕ
in_full cores slots list = list ++ replicate (slots - length list) cores

-- An input that leaned on all M cores prints as before once its k list is written in full, if it still fits: every one does whose table is taken.
abbrev pub WrittenInFullPrintsAsBefore : Type 0
WrittenInFullPrintsAsBefore =
    (table : List ℕ) (slots : ℕ) (list : List ℕ) → slots ≤ run_limit → length list ≤ slots →
    let full = input_of table slots (in_full (table_in table).cores slots list) in
    length full ≤ input_limit → text_of full ≡ text_before (input_of table slots list)
