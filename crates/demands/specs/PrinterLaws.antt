-- Laws of the slot printer (01, "Slot printer"; 02, Nine): part of specs/Laws.antt.
use Rattle.std.specs.Prelude.{ℕ, zero, suc, ◌+◌, List, [], ◌∷◌, ◌++◌, map, cond, eqb, take, replicate}
use Rattle.table.specs.Example.{example}
use Rattle.printer.specs.FullList.{input_of}
use Rattle.printer.specs.Example.{example_input, example_text, unlisted_input, unlisted_text}
use Rattle.demands.specs.Law.{Law, prints}
use Rattle.demands.specs.LawInputs.{front, row_bytes, half_and_third_bytes}

-- A line of digits and spaces: each digit stands for itself, and `sp`, which is no digit, for a space. A newline, the byte 10, ends the line.
abbrev pub sp : ℕ
sp = 99

abbrev pub char_of : ℕ → ℕ
char_of x = cond (eqb x sp) 32 (48 + x)

abbrev pub line_of : List ℕ → List ℕ
line_of xs = map char_of xs ++ (10 ∷ [])

-- "end ", "late ", "refused " and such a line; "input" and "slot free tanks" alone
abbrev pub end_text : List ℕ → List ℕ
end_text xs = 101 ∷ 110 ∷ 100 ∷ 32 ∷ line_of xs

abbrev pub late_text : List ℕ → List ℕ
late_text xs = 108 ∷ 97 ∷ 116 ∷ 101 ∷ 32 ∷ line_of xs

abbrev pub refused_text : List ℕ → List ℕ
refused_text xs = 114 ∷ 101 ∷ 102 ∷ 117 ∷ 115 ∷ 101 ∷ 100 ∷ 32 ∷ line_of xs

abbrev pub input_text : List ℕ
input_text = 105 ∷ 110 ∷ 112 ∷ 117 ∷ 116 ∷ 10 ∷ []

abbrev pub header_text : List ℕ
header_text = 115 ∷ 108 ∷ 111 ∷ 116 ∷ 32 ∷ 102 ∷ 114 ∷ 101 ∷ 101 ∷ 32 ∷ 116 ∷ 97 ∷ 110 ∷ 107 ∷ 115 ∷ 10 ∷ []

-- the lines of n slots with one core and no rows, from a slot of one digit on
unfoldable pub idle_slots : ℕ → ℕ → List ℕ
idle_slots slot zero = []
idle_slots slot (suc n) = line_of (slot ∷ sp ∷ 1 ∷ []) ++ idle_slots (slot + 1) n

-- The slot printer.
abbrev pub printer_laws : List Law
printer_laws =
    -- "Whole output", with "a k list of three 2s" (02, Nine); without a list tank 20 is late
    prints example_input example_text
    ∷ prints unlisted_input unlisted_text
    -- no slots: "end 0"; "A refused table prints `refused N` alone, without the header", here an empty one
    ∷ prints (input_of half_and_third_bytes 0 []) (header_text ++ end_text (0 ∷ []))
    ∷ prints (input_of [] 0 []) (refused_text (1 ∷ 0 ∷ []))
    -- "per slot its number, k, and the picked tanks in row order": tank 12,345
    ∷ prints (input_of (front 2 (0 ∷ []) ++ (1 ∷ row_bytes 12_345 1 2 0 0)) 1 [])
    (header_text ++ (line_of (0 ∷ sp ∷ 1 ∷ sp ∷ 1 ∷ 2 ∷ 3 ∷ 4 ∷ 5 ∷ []) ++ end_text (1 ∷ [])))
    -- eleven slots of no rows: `0 1`, .., `9 1`, `10 1`, `end 11`
    ∷ prints (input_of (front 1 (0 ∷ []) ++ (0 ∷ [])) 11 [])
    (header_text ++ (idle_slots 0 10 ++ (line_of (1 ∷ 0 ∷ sp ∷ 1 ∷ []) ++ end_text (1 ∷ 1 ∷ []))))
    -- tanks 100 and 9,999
    ∷ prints (input_of (front 2 (0 ∷ []) ++ (2 ∷ row_bytes 100 1 2 0 0 ++ row_bytes 9_999 1 2 0 0)) 2 [])
    (header_text ++ (line_of (0 ∷ sp ∷ 1 ∷ sp ∷ 1 ∷ 0 ∷ 0 ∷ []) ++ (line_of (1 ∷ sp ∷ 1 ∷ sp ∷ 9 ∷ 9 ∷ 9 ∷ 9 ∷ []) ++ end_text (2 ∷ []))))
    -- "Slots past the k list now use M - 1 .." (02, Nine): `0 2 0 1`, and in slots 1 and 2, past the list, `1 1` and `2 1 0`; without a list `0 1 0`, `1 1 1`;
    -- with one in full `0 2 0 1`, `1 2`; of 8 cores 7
    ∷ prints (input_of half_and_third_bytes 3 (2 ∷ []))
    (header_text ++ (line_of (0 ∷ sp ∷ 2 ∷ sp ∷ 0 ∷ sp ∷ 1 ∷ []) ++ (line_of (1 ∷ sp ∷ 1 ∷ []) ++ (line_of (2 ∷ sp ∷ 1 ∷ sp ∷ 0 ∷ []) ++ end_text (3 ∷ [])))))
    ∷ prints (input_of half_and_third_bytes 2 [])
    (header_text ++ (line_of (0 ∷ sp ∷ 1 ∷ sp ∷ 0 ∷ []) ++ (line_of (1 ∷ sp ∷ 1 ∷ sp ∷ 1 ∷ []) ++ end_text (2 ∷ []))))
    ∷ prints (input_of half_and_third_bytes 2 (2 ∷ 2 ∷ []))
    (header_text ++ (line_of (0 ∷ sp ∷ 2 ∷ sp ∷ 0 ∷ sp ∷ 1 ∷ []) ++ (line_of (1 ∷ sp ∷ 2 ∷ []) ++ end_text (2 ∷ []))))
    ∷ prints (input_of (front 1 (0 ∷ 1 ∷ 2 ∷ 3 ∷ 4 ∷ 5 ∷ 6 ∷ 7 ∷ []) ++ (0 ∷ [])) 1 []) (header_text ++ (line_of (0 ∷ sp ∷ 7 ∷ []) ++ end_text (1 ∷ [])))
    -- ".. and 1 if M is 1": `0 0`, and past the list `1 1`
    ∷ prints (input_of (front 1 (0 ∷ []) ++ (0 ∷ [])) 2 (0 ∷ []))
    (header_text ++ (line_of (0 ∷ sp ∷ 0 ∷ []) ++ (line_of (1 ∷ sp ∷ 1 ∷ []) ++ end_text (2 ∷ []))))
    -- "`late T TANK` after the late slot's line": with no core in slots 0 and 1 row 0, tank 10, is late at 2; with k = 1, 0, 0 row 1, tank 1, is at 3
    ∷ prints (input_of example 3 (0 ∷ 0 ∷ []))
    (header_text ++ (line_of (0 ∷ sp ∷ 0 ∷ []) ++ (line_of (1 ∷ sp ∷ 0 ∷ []) ++ late_text (2 ∷ sp ∷ 1 ∷ 0 ∷ []))))
    ∷ prints (input_of half_and_third_bytes 4 (1 ∷ 0 ∷ 0 ∷ []))
    (header_text ++ (line_of (0 ∷ sp ∷ 1 ∷ sp ∷ 0 ∷ []) ++ (line_of (1 ∷ sp ∷ 0 ∷ []) ++ (line_of (2 ∷ sp ∷ 0 ∷ []) ++ late_text (3 ∷ sp ∷ 1 ∷ [])))))
    -- "A refused slot prints `refused N` in place of its line and ends": 35 for "a printer's k above M" (02, One), also for 255.
    ∷ prints (input_of half_and_third_bytes 2 (3 ∷ [])) (header_text ++ refused_text (3 ∷ 5 ∷ []))
    ∷ prints (input_of half_and_third_bytes 2 (1 ∷ 3 ∷ [])) (header_text ++ (line_of (0 ∷ sp ∷ 1 ∷ sp ∷ 0 ∷ []) ++ refused_text (3 ∷ 5 ∷ [])))
    ∷ prints (input_of half_and_third_bytes 2 (255 ∷ [])) (header_text ++ refused_text (3 ∷ 5 ∷ []))
    -- "Missing or extra bytes": nothing, no whole number, k bytes or table bytes missing, one too many
    ∷ prints [] input_text
    ∷ prints (take 7 (input_of [] 2 (1 ∷ 1 ∷ []))) input_text
    ∷ prints (9 ∷ 0 ∷ 0 ∷ 0 ∷ 0 ∷ 0 ∷ []) input_text
    ∷ prints (take 5 (input_of [] 0 [])) input_text
    ∷ prints (input_of [] 0 [] ++ (0 ∷ [])) input_text
    ∷ prints (input_of [] 2 (1 ∷ 1 ∷ []) ++ (1 ∷ [])) input_text
    -- "slots to run (2, at most 4,096)", "count of k values (2, at most the slots)"
    ∷ prints (input_of [] 4_096 []) (refused_text (1 ∷ 0 ∷ []))
    ∷ prints (input_of [] 4_097 []) input_text
    ∷ prints (input_of [] 2 (1 ∷ 1 ∷ [])) (refused_text (1 ∷ 0 ∷ []))
    ∷ prints (input_of [] 2 (1 ∷ 1 ∷ 1 ∷ [])) input_text
    -- "input beyond 65,536 bytes": 6 bytes and a table of 65,530, and one byte more
    ∷ prints (input_of (replicate 65_530 0) 0 []) (refused_text (1 ∷ 1 ∷ []))
    ∷ prints (input_of (replicate 65_531 0) 0 []) input_text
    ∷ []
