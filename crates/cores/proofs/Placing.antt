-- For the code: rows and cores that are placed one after the other, up to eight. Assumes nothing.
use Prim.Native.Nat.{ℕ, ◌+◌, ◌-◌, ◌≤◌, ◌<◌, min}
use mathlib.Core.Path.{◌≡◌, refl, sym, ap, ◌∙◌}
use mathlib.Core.List.{List, [], ◌∷◌, ◌++◌}
use mathlib.Core.Bool.{Bool, true, false}
use mathlib.Core.Logic.{◌⊎◌, inl, inr}
use native.Mathlib.Decide.{dec_lt}
use native.Mathlib.Numerals.{add-one}
use native.Mathlib.Nat.{add-zero}
use native.Mathlib.Omega.{arith}
use borrow.Author.Tests.{lt-ltb, le-ltb}
use lib.ListN.{length, get_or, take, drop, set, replicate, length-append, length-drop, drop_of_length-le}
use lib.Seq.{take-suc, take_all, drop-cons, drop-drop, get_or-drop, length-take-le}
use Rattle.facts.proofs.Filling.{filled_one_more}
use Rattle.table.specs.Limits.{core_limit}
use Rattle.trace.specs.Record.{marked}
use Rattle.cores.specs.declared.Placement.{Placement}
use Rattle.cores.specs.Placement.{filled_up, placement}
use Rattle.cores.specs.Cores.{in_turn}
use Rattle.cores.specs.Turns.{in_turn_by, from_on, TakesTurn}
use Rattle.cores.proofs.FromOn.{from_0, none_from, first_from}

-- So many of a list are in an array, and these are left.
pub record Placing (all : List ℕ) (count : ℕ) (rest array : List ℕ) : Type 0 where
  pub within : count ≤ length all
  pub behind : drop count all ≡ rest
  pub content : array ≡ filled_up (take count all)

-- It begins with none,
pub placing_begins : (all : List ℕ) {rest : List ℕ} → all ≡ rest → Placing all 0 rest (replicate core_limit 0)
placing_begins all same = record { within = omega arith; behind = same; content = refl }

-- places the first that is left,
pub places_one_more : {all : List ℕ} {count x : ℕ} {rest array : List ℕ} → Placing all count (x ∷ rest) array → count < core_limit →
    Placing all (count + 1) rest (set array count x)
places_one_more {all} {count} {x} {rest} {array} so few =
    record {
      within = omega (arith, there);
      behind = sym (drop-drop 1 count all) ∙ ap (drop 1) so.behind;
      content =
          ap (λ l. set l count x) so.content
          ∙ ap (λ k. set (take count all ++ replicate (core_limit - k) 0) count x) long
          ∙ filled_one_more (take count all) core_limit count 0 x long few
          ∙ ap (λ k. (take count all ++ (x ∷ [])) ++ replicate (core_limit - k) 0) (sym longer)
          ∙ ap filled_up (sym next);
    }
  where
    there : count < length all
    there = omega (arith, length-drop count all, ap length so.behind)

    long : length (take count all) ≡ count
    long = length-take-le count all (omega arith)

    longer : length (take count all ++ (x ∷ [])) ≡ count + 1
    longer = length-append (take count all) (x ∷ []) ∙ omega (arith, long)

    here : get_or all count 0 ≡ x
    here = ap (λ k. get_or all k 0) (sym (add-zero count)) ∙ sym (get_or-drop count all 0 0) ∙ ap (λ l. get_or l 0 0) so.behind

    next : take (count + 1) all ≡ take count all ++ (x ∷ [])
    next = ap (λ k. take k all) (add-one count) ∙ take-suc all count 0 there ∙ ap (λ y. take count all ++ (y ∷ [])) here

-- and ends where eight are placed or none is left.
pub all_placed : {all : List ℕ} {count : ℕ} {rest array : List ℕ} → Placing all count rest array → count ≤ core_limit → (core_limit ≤ count) ⊎ (rest ≡ []) →
    (count ≡ length (take core_limit all)) × (array ≡ filled_up (take core_limit all))
all_placed {all} {count} {rest} so few end = (sym (length-take-le count all so.within) ∙ ap length (same end), so.content ∙ ap filled_up (same end))
  where
    same : (core_limit ≤ count) ⊎ (rest ≡ []) → take count all ≡ take core_limit all
    same (inl l) = ap (λ k. take k all) {x = count} {y = core_limit} (omega arith)
    same (inr e) =
        let short : length all ≤ count = omega (arith, length-drop count all, ap length (so.behind ∙ e)) in
        take_all count all short ∙ sym (take_all core_limit all (omega arith))

-- The loop over the rows: so many are placed, and for the rest the cores are left from there on.
pub record SoFar (picked own : List ℕ) (left : List Bool) (rows cores : List ℕ) (i next : ℕ) : Type 0 where
  pub few : i ≤ min (length picked) core_limit
  pub next_within : next ≤ 32
  pub rows_placed : Placing picked i (drop i picked) rows
  pub cores_placed : Placing (in_turn_by own (marked left) picked) i (in_turn_by own (from_on left next) (drop i picked)) cores

module _ (picked own : List ℕ) (left : List Bool) where
  -- It begins with nobody placed,
  pub turns_begin : SoFar picked own left (replicate core_limit 0) (replicate core_limit 0) 0 0
  turns_begin =
      record {
        few = omega arith;
        next_within = omega arith;
        rows_placed = placing_begins picked refl;
        cores_placed = placing_begins (in_turn_by own (marked left) picked) (rw (from_0 left));
      }

  module _ {rows cores : List ℕ} {i next : ℕ} (so : SoFar picked own left rows cores i next) where
    -- places a row with the core of its turn,
    pub turns_go_on : {row core after : ℕ} → row ≡ get_or picked i 0 → i < min (length picked) core_limit → TakesTurn (get_or own row 0) left next core after →
        SoFar picked own left (set rows i row) (set cores i core) (i + 1) after
    unfolding in_turn
    turns_go_on {row} {core} {after} same l turn =
        record {
          few = omega arith;
          next_within = turn.within;
          rows_placed = places_one_more (rw here at so.rows_placed) (omega arith);
          cores_placed = places_one_more (rw (here, its_turn) at so.cores_placed) (omega arith);
        }
      where
        here : drop i picked ≡ row ∷ drop (i + 1) picked
        here = drop-cons picked i 0 (omega arith) ∙ ap (λ k. get_or picked i 0 ∷ drop k picked) (sym (add-one i)) ∙ ap (λ r. r ∷ drop (i + 1) picked) (sym same)

        its_turn : in_turn_by own (from_on left next) (row ∷ drop (i + 1) picked) ≡ core ∷ in_turn_by own (from_on left after) (drop (i + 1) picked)
        its_turn = rw (turn.gets, turn.leaves)

    -- and ends with eight placed, or past the last row.
    pub turns_end : {count : ℕ} → count ≡ min (length picked) core_limit → count ≤ i →
        ◌≡◌ {A = Placement} record { count = count; rows = rows; cores = cores }
        (placement (take core_limit picked) (take core_limit (in_turn_by own (marked left) picked)))
    unfolding in_turn
    turns_end {count} many end =
        let r = all_placed so.rows_placed (omega (arith, so.few)) (rows_end (dec_lt (length picked) core_limit)) in
        let c = all_placed so.cores_placed (omega (arith, so.few)) (cores_end (dec_lt (length picked) core_limit)) in
        rw (same, r.0, r.1, c.1)
      where
        same : count ≡ i
        same = omega (arith, so.few)

        rows_end : Dec (length picked < core_limit) → (core_limit ≤ i) ⊎ (drop i picked ≡ [])
        rows_end (yes h) = inr (drop_of_length-le picked {i = i} (omega arith))
        rows_end (no h) = inl (omega arith)

        cores_end : Dec (length picked < core_limit) → (core_limit ≤ i) ⊎ (in_turn_by own (from_on left next) (drop i picked) ≡ [])
        cores_end (yes h) = inr (rw (drop_of_length-le picked {i = i} (omega arith)))
        cores_end (no h) = inl (omega arith)

-- One row's turn: it stays on its own core,
pub stays_there : {own next : ℕ} {left : List Bool} → next ≤ 32 → own < 32 → TakesTurn own left next own next
stays_there {own} fits h = record { gets = rw (lt-ltb own 32 h); leaves = rw (lt-ltb own 32 h); within = fits }

-- takes the lowest that is left: none before it is,
pub takes_lowest : {own next core : ℕ} {left : List Bool} → 32 ≤ own → core < length left → length left ≡ 32 → from_on left next ≡ from_on left core →
    get_or left core false ≡ true → TakesTurn own left next core (core + 1)
takes_lowest {own} {core = core} {left = left} h l long same marked =
    let first = same ∙ first_from left l marked in
    record { gets = rw (le-ltb own 32 h, first); leaves = rw (le-ltb own 32 h, first); within = omega arith }

-- or 0 where none is.
pub takes_none : {own next end : ℕ} {left : List Bool} → 32 ≤ own → length left ≡ 32 → from_on left next ≡ from_on left end → 32 ≤ end → TakesTurn own left next 0 32
takes_none {own} {end = end} {left = left} h long same past =
    let none = same ∙ none_from left {i = end} (omega (arith, long)) in
    record {
      gets = rw (le-ltb own 32 h, none);
      leaves = rw (le-ltb own 32 h, none) (none_from left (omega (arith, long)));
      within = omega arith;
    }
