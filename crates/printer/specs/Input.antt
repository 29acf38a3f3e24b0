-- The slot printer's input (01, "Slot printer"; 02, Nine, for slots past the k list): "table length (2), table, slots to run (2, at most 4,096),
-- count of k values (2, at most the slots), those k bytes".
use Rattle.std.specs.Prelude.{ℕ, ◌+◌, ◌-◌, List, Bool, cond, not, ◌||◌, ltb, eqb, length, take, drop}
use Rattle.fields.specs.Fields.{byte, half}
use Rattle.printer.specs.Limits.{input_limit, run_limit}

-- "table length (2), table"
abbrev pub table_length : List ℕ → ℕ
table_length s = half s 0

abbrev pub table_bytes : List ℕ → List ℕ
table_bytes s = take (table_length s) (drop 2 s)

-- "slots to run (2 ..)"
abbrev pub slots_place : List ℕ → ℕ
slots_place s = 2 + table_length s

abbrev pub slots_asked : List ℕ → ℕ
slots_asked s = half s (slots_place s)

-- "count of k values (2 ..), those k bytes"
abbrev pub list_length : List ℕ → ℕ
list_length s = half s (slots_place s + 2)

abbrev pub list_place : List ℕ → ℕ
list_place s = slots_place s + 4

-- The k of a slot: the one that is listed, or `past` in a slot past the k list.
unfoldable pub listed_or : List ℕ → ℕ → ℕ → ℕ
listed_or s past slot = cond (ltb slot (list_length s)) (byte s (list_place s + slot)) past

-- "Slots past the k list now use M - 1, and 1 if M is 1." (02, Nine)
abbrev pub held_back : ℕ → ℕ
held_back cores = cond (eqb cores 1) 1 (cores - 1)

-- So this is the k of a slot of a listing.
abbrev pub free_in : List ℕ → ℕ → ℕ → ℕ
free_in s cores slot = listed_or s (held_back cores) slot

-- "Missing or extra bytes": the input is not as long as its parts say. A missing byte is read as 0, but an input that lacks one is too short
-- for its parts, whatever they say.
abbrev pub wrong_length : List ℕ → Bool
wrong_length s = not (eqb (length s) (list_place s + list_length s))

-- "input beyond 65,536 bytes"
abbrev pub beyond_limit : List ℕ → Bool
beyond_limit s = ltb input_limit (length s)

-- "a number above its limit here": "slots .. at most 4,096", "count of k values (2, at most the slots)"
abbrev pub above_limit : List ℕ → Bool
above_limit s = ltb run_limit (slots_asked s) || ltb (slots_asked s) (list_length s)

-- "Missing or extra bytes, input beyond 65,536 bytes, or a number above its limit here, print `input` alone"
unfoldable pub unfit : List ℕ → Bool
unfit s = wrong_length s || beyond_limit s || above_limit s
