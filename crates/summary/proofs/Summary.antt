-- The entries of a summary: where each stands, and what is read there. Assumes nothing.
use Prim.Native.Nat.{ℕ, zero, suc, ◌+◌, ◌*◌, ◌^◌, ◌<◌}
use mathlib.Core.Path.{◌≡◌, refl, sym, ap, ◌∙◌, subst}
use mathlib.Core.List.{List, [], ◌++◌, map, flat_map, append_assoc, append-nil}
use native.Mathlib.Decide.{dec_lt}
use native.Mathlib.Omega.{arith}
use lib.ListN.{length, get_or, length-append, length-map, get_or-map}
use Rattle.facts.specs.Places.{places}
use Rattle.facts.proofs.Places.{how_many_places, place_at}
use Rattle.facts.proofs.Filling.{get_d_any}
use Rattle.facts.proofs.Joining.{joined_long, joined_are_read}
use Rattle.fields.specs.Fields.{bytes_of, number_at}
use Rattle.fields.proofs.Numbers.{bytes_long, written_is_read}
use Rattle.table.specs.Limits.{row_limit}
use Rattle.trace.specs.Records.{place_in, times_named}
use Rattle.summary.specs.Summary.{spacing, entry_size, counts_at, entry_bytes, entry_of, entries_of, place_said, quanta_said}

-- There are 32 counts,
pub counts_long : (trace : List ℕ) (t : ℕ) → length (counts_at trace t) ≡ row_limit
unfolding counts_at
counts_long trace t = length-map (places 0 1 row_limit) (λ row. times_named trace row t) ∙ how_many_places 0 1 row_limit

-- that of a row at its number.
pub count_at : (trace : List ℕ) (t row : ℕ) → row < row_limit → get_or (counts_at trace t) row 0 ≡ times_named trace row t
unfolding counts_at
count_at trace t row l =
    get_d_any (counts_at trace t) row 0 (times_named trace 0 t) (rw (counts_long trace t) l)
    ∙ (get_or-map (λ row. times_named trace row t) (places 0 1 row_limit) row 0
    ∙ ap (λ row. times_named trace row t) (place_at 0 1 row_limit row 0 l ∙ omega arith))

-- An entry has eight bytes and four for each count,
pub entry_bytes_long : (place : ℕ) (counts : List ℕ) → length (entry_bytes place counts) ≡ 8 + 4 * length counts
unfolding entry_bytes
entry_bytes_long place counts =
    length-append (bytes_of 8 place) (flat_map (bytes_of 4) counts) ∙ omega (arith, bytes_long 8 place, joined_long (bytes_of 4) 4 (bytes_long 4) counts)

-- wherever it stands the place is read in front,
module _ (front rest : List ℕ) (place : ℕ) (counts : List ℕ) where
  pub place_is_read : place < 256 ^ 8 → number_at 8 (front ++ (entry_bytes place counts ++ rest)) (length front) ≡ place
  unfolding entry_bytes
  place_is_read small =
      ap (λ l. number_at 8 (front ++ l) (length front)) (append_assoc (bytes_of 8 place) (flat_map (bytes_of 4) counts) rest)
      ∙ written_is_read 8 place small front (flat_map (bytes_of 4) counts ++ rest)

  -- and the counts behind it.
  pub count_is_read : ((row : ℕ) → row < length counts → get_or counts row 0 < 256 ^ 4) → (row : ℕ) → row < length counts →
      number_at 4 (front ++ (entry_bytes place counts ++ rest)) (length front + 8 + 4 * row) ≡ get_or counts row 0
  unfolding entry_bytes
  count_is_read small row l =
      let longer = front ++ bytes_of 8 place in
      let all = flat_map (bytes_of 4) counts in
      let here : longer ++ (all ++ rest) ≡ front ++ ((bytes_of 8 place ++ all) ++ rest) =
      append_assoc front (bytes_of 8 place) (all ++ rest) ∙ ap (λ m. front ++ m) (sym (append_assoc (bytes_of 8 place) all rest)) in
      let from : length front + 8 ≡ length longer = omega (arith, length-append front (bytes_of 8 place), bytes_long 8 place) in
      let read : ℕ → ℕ = number_at 4 (longer ++ (all ++ rest)) in
      let each = joined_are_read (bytes_of 4) 4 (bytes_long 4) (number_at 4) (λ n. n < 256 ^ 4) (λ f r n s. written_is_read 4 n s f r) longer rest counts 0 small from in
      let there = places (length front + 8) 4 (length counts) in
      let long : length (map read there) ≡ length counts = length-map there read ∙ how_many_places (length front + 8) 4 (length counts) in
      ap (λ s. number_at 4 s (length front + 8 + 4 * row)) (sym here)
      ∙ (ap read (sym (place_at (length front + 8) 4 (length counts) row 0 l))
      ∙ (sym (get_or-map read there row 0)
      ∙ (sym (get_d_any (map read there) row 0 (read 0) (rw long l)) ∙ ap (λ m. get_or m row 0) each)))

module _ (trace : List ℕ) where
  -- So the entry of a time has 136,
  pub entry_long : (t : ℕ) → length (entry_of trace t) ≡ entry_size
  entry_long t = entry_bytes_long (place_in trace t) (counts_at trace t) ∙ omega (arith, counts_long trace t)

  -- and m entries have m times as many.
  pub entries_long : (m : ℕ) → length (entries_of trace m) ≡ entry_size * m
  unfolding entries_of
  entries_long zero = refl
  entries_long (suc m) = length-append (entries_of trace m) (entry_of trace (spacing * m)) ∙ omega (arith, entries_long m, entry_long (spacing * m))

  -- Each stands behind those before it.
  pub entry_stands : (m x : ℕ) → x < m → (rest : List ℕ) × (entries_of trace m ≡ entries_of trace x ++ (entry_of trace (spacing * x) ++ rest))
  unfolding entries_of
  entry_stands zero x l = absurd (omega arith)
  entry_stands (suc m) x l = go (dec_lt x m) (entry_stands m x)
    where
      last : List ℕ
      last = entry_of trace (spacing * m)

      go : Dec (x < m) → (x < m → (rest : List ℕ) × (entries_of trace m ≡ entries_of trace x ++ (entry_of trace (spacing * x) ++ rest))) →
          (rest : List ℕ) × (entries_of trace m ++ last ≡ entries_of trace x ++ (entry_of trace (spacing * x) ++ rest))
      go (yes h) before =
          let b = before h in (
            b.0 ++ last,
            ap (λ l. l ++ last) b.1
                ∙ (append_assoc (entries_of trace x) (entry_of trace (spacing * x) ++ b.0) last
                ∙ ap (λ l. entries_of trace x ++ l) (append_assoc (entry_of trace (spacing * x)) b.0 last)),
          )
      go (no h) before =
          let same : x ≡ m = omega arith in
          ([], rw same (ap (λ l. entries_of trace m ++ l) (sym (append-nil last))))

  -- So entry x says its place,
  pub place_is_said : (m x : ℕ) → x < m → place_in trace (spacing * x) < 256 ^ 8 → place_said (entries_of trace m) x ≡ place_in trace (spacing * x)
  place_is_said m x l small =
      let t = spacing * x in
      let here = entry_stands m x l in
      ap (λ s. number_at 8 s (entry_size * x)) here.1
      ∙ (ap (number_at 8 (entries_of trace x ++ (entry_of trace t ++ here.0))) (sym (entries_long x))
      ∙ place_is_read (entries_of trace x) here.0 (place_in trace t) (counts_at trace t) small)

  -- and the quanta of each row.
  pub quanta_are_said : (m x row : ℕ) → x < m → row < row_limit → ((row : ℕ) → times_named trace row (spacing * x) < 256 ^ 4) →
      quanta_said (entries_of trace m) x row ≡ times_named trace row (spacing * x)
  quanta_are_said m x row l r small =
      let t = spacing * x in
      let here = entry_stands m x l in
      let long = counts_long trace t in
      ap (λ s. number_at 4 s (entry_size * x + 8 + 4 * row)) here.1
      ∙ (ap (λ i. number_at 4 (entries_of trace x ++ (entry_of trace t ++ here.0)) (i + 8 + 4 * row)) (sym (entries_long x))
      ∙ (count_is_read (entries_of trace x) here.0 (place_in trace t) (counts_at trace t)
      (λ i h. subst (λ n. n < 256 ^ 4) (sym (count_at trace t i (omega (arith, long)))) (small i)) row (omega (arith, long))
      ∙ count_at trace t row r))
