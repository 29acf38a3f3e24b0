-- The record of a slot, handed back as a part of the trace (01, "The trace, in bytes").
use Rattle.std.specs.Prelude.{ℕ, ◌+◌, ◌≤◌, ◌<◌, List, [], ◌≡◌, Bool, true, cond, ◌&&◌, ◌↔◌, leb, ltb, length, take, drop}
use Rattle.trace.specs.Records.{picked_at, past_record, slots_in, place_in}

-- "It is found exactly if the 4 count bytes are there, s is below the count, and the records of slots 0 to s lie wholly inside;
-- their contents are not judged." Of these records that of slot s ends last, where the next one would begin.
unfoldable pub is_found : List ℕ → ℕ → Bool
is_found trace s = leb 4 (length trace) && (ltb s (slots_in trace) && leb (place_in trace (s + 1)) (length trace))

-- "the record itself, the very bytes inside the lent trace. .. Otherwise the part handed back has length 0": a record has 2 + c bytes
abbrev pub part_found : List ℕ → ℕ → List ℕ
part_found trace s = cond (is_found trace s) (take (2 + picked_at trace (place_in trace s)) (drop (place_in trace s) trace)) []

-- where the part begins: at the record's place. "Otherwise the part .. begins at 0."
abbrev pub part_begins : List ℕ → ℕ → ℕ
part_begins trace s = cond (is_found trace s) (place_in trace s) 0

-- A record lies wholly inside: its first two bytes are there, and so are the rows that the second counts.
pub record Inside (trace : List ℕ) (place : ℕ) : Type 0 where
  pub front : place + 2 ≤ length trace
  pub whole : past_record trace place ≤ length trace

-- "the 4 count bytes are there, s is below the count, and the records of slots 0 to s lie wholly inside", said of each record
pub record Found (trace : List ℕ) (s : ℕ) : Type 0 where
  pub slot_count_there : 4 ≤ length trace
  pub below_slot_count : s < slots_in trace
  pub all_inside : (j : ℕ) → j ≤ s → Inside trace (place_in trace j)

-- The test, which looks at the last record's end, holds exactly if that is so.
abbrev pub FoundIfAllInside : Type 0
FoundIfAllInside = (trace : List ℕ) (s : ℕ) → (is_found trace s ≡ true) ↔ Found trace s
