-- Between functions: what those that search for the record of a slot answer. No part of what 01 says.
use Rattle.std.specs.Prelude.{ℕ, ◌+◌, List, Bool, cond, ltb, leb, length, Option, Some, None}
use Rattle.trace.specs.Records.{picked_at, past_record, place_in}
use Rattle.trace.specs.Found.{is_found}

-- how many bytes the record that begins at a place has, 0 if it is cut
unfoldable pub length_inside : List ℕ → ℕ → ℕ
length_inside s place = cond (leb (past_record s place) (length s)) (2 + picked_at s place) 0

-- answered as a length only if it is not 0
abbrev pub some_length : ℕ → Option ℕ
some_length n = cond (ltb 0 n) (Some n) None

-- where the record of slot t begins and ends, given whether it is to be had
abbrev pub place_if : Bool → List ℕ → ℕ → Option (ℕ × ℕ)
place_if had s t = cond had (Some (place_in s t, place_in s t + (2 + picked_at s (place_in s t)))) None

-- It is had if it lies inside, whatever the count says,
unfoldable pub place_inside : List ℕ → ℕ → Option (ℕ × ℕ)
place_inside s t = place_if (leb (place_in s (t + 1)) (length s)) s t

-- or if it is found.
unfoldable pub place_found : List ℕ → ℕ → Option (ℕ × ℕ)
place_found s t = place_if (is_found s t) s t
