-- What records in bytes mean (01, "The trace, in bytes"). The records stand one behind the other from a place on; slot 0 is first.
use Rattle.std.specs.Prelude.{ℕ, zero, suc, ◌+◌, List, [], ◌∷◌, Bool, false, ◌||◌, eqb, take, drop}
use Rattle.facts.specs.Counting.{how_many}
use Rattle.fields.specs.Fields.{byte, word}

-- "cores free k (1), rows picked c (1), and c row numbers rising strictly (1 each)": the record that begins at a place
abbrev pub free_at : List ℕ → ℕ → ℕ
free_at s place = byte s place

abbrev pub picked_at : List ℕ → ℕ → ℕ
picked_at s place = byte s (place + 1)

abbrev pub rows_at : List ℕ → ℕ → List ℕ
rows_at s place = take (picked_at s place) (drop (place + 2) s)

-- where the next record begins
abbrev pub past_record : List ℕ → ℕ → ℕ
past_record s place = place + 2 + picked_at s place

-- where the record of slot t begins, if that of slot 0 begins at `from`
unfoldable pub place_of : List ℕ → ℕ → ℕ → ℕ
place_of s from zero = from
place_of s from (suc t) = let place = place_of s from t in past_record s place

-- A record's rows name a row.
unfoldable pub names : List ℕ → ℕ → Bool
names [] row = false
names (r ∷ rows) row = eqb r row || names rows row

-- The record of slot t names a row.
abbrev pub named_in : List ℕ → ℕ → ℕ → ℕ → Bool
named_in s from row t = names (rows_at s (place_of s from t)) row

-- how many of the first t records name a row
abbrev pub times_named_from : List ℕ → ℕ → ℕ → ℕ → ℕ
times_named_from s from row t = how_many (named_in s from row) t

-- "Slot count (4, at most 1,000,000,000), then one record a slot": the trace's count, and where the record of slot 0 begins
abbrev pub slots_in : List ℕ → ℕ
slots_in s = word s 0

abbrev pub first_place : ℕ
first_place = 4

-- where the record of slot t of a trace begins, and its rows
abbrev pub place_in : List ℕ → ℕ → ℕ
place_in s t = place_of s first_place t

abbrev pub rows_of_slot : List ℕ → ℕ → List ℕ
rows_of_slot s t = rows_at s (place_in s t)

-- how many of the first t records of a trace name a row
abbrev pub times_named : List ℕ → ℕ → ℕ → ℕ
times_named s row t = times_named_from s first_place row t
