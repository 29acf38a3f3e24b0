-- The record of a slot (01, "The trace, in bytes"), and a buffer in which it stands.
use Rattle.std.specs.Prelude.{ℕ, List, ◌∷◌, ◌++◌, Bool, false, cond, Result, Ok, Err, leb, length, get_or, take, drop}
use Rattle.facts.specs.Counting.{those}
use Rattle.trace.specs.declared.NoRoom.{NoRoom}

-- "one record a slot: cores free k (1), rows picked c (1), and c row numbers rising strictly (1 each)"
abbrev pub record_of : ℕ → List ℕ → List ℕ
record_of k rows = k ∷ length rows ∷ rows

-- The rows whose mark is set, rising.
abbrev pub marked : List Bool → List ℕ
marked marks = those (λ i. get_or marks i false) (length marks)

-- "fewer than 2 + c bytes remain": a record has room in a part of the buffer.
abbrev pub has_room : List ℕ → List ℕ → Bool
has_room part entry = leb (length entry) (length part)

-- A part with a record at its front: "every other byte is as before".
unfoldable pub with_front : List ℕ → List ℕ → List ℕ
with_front part entry = entry ++ drop (length entry) part

-- "the record stands at the given place in the lent buffer, every other byte is as before"
unfoldable pub with_record : List ℕ → ℕ → List ℕ → List ℕ
with_record buffer place entry = take place buffer ++ with_front (drop place buffer) entry

-- 01's number for each case of the writer's answer: 0, "done", and 34, "fewer than 2 + c bytes remain after it". It names nothing else.
abbrev pub stored_number : Result (Unit {0}) NoRoom → ℕ
stored_number (Ok done) = 0
stored_number (Err no_room) = 34

-- What the writer answers, by that number, and what it leaves.
abbrev pub write_number : List ℕ → List ℕ → ℕ
write_number part entry = cond (has_room part entry) 0 34

abbrev pub part_after : List ℕ → List ℕ → List ℕ
part_after part entry = cond (has_room part entry) (with_front part entry) part
