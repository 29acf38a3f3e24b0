-- Counts that are raised by a record's rows. Assumes nothing.
use Prim.Native.Nat.{ℕ, zero, suc, ◌+◌, ◌-◌, ◌≤◌, ◌<◌, min}
use mathlib.Core.Path.{◌≡◌, refl, sym, ap, ◌∙◌}
use mathlib.Core.List.{List, [], ◌∷◌}
use mathlib.Core.Bool.{Bool, true, false, cond}
use native.Mathlib.Decide.{ℕ_discrete, dec_lt}
use native.Mathlib.Omega.{arith}
use lib.ListN.{length, get_or, set, take, drop, replicate, length-set, length-drop, length-replicate, get_or-replicate, drop_of_length-le}
use lib.Seq.{take_all, take-nil, ext_get_or, get_or-set_same, get_or-set_other}
use Rattle.trace.specs.Records.{picked_at, rows_at, names}
use Rattle.trace.specs.Raising.{raised_if, raised}
use Rattle.trace.proofs.Names.{names_nothing, own_named, other_named}

-- for callers

-- There are as many counts as before,
pub raised_long : (rows : List ℕ) (i : ℕ) (counts : List ℕ) → length (raised rows i counts) ≡ length counts
unfolding raised
raised_long rows i [] = refl
raised_long rows i (q ∷ counts) = ap suc (raised_long rows (i + 1) counts)

-- and each is raised if its row is named.
pub count_raised : (rows : List ℕ) (i : ℕ) (counts : List ℕ) (j : ℕ) → j < length counts → get_or (raised rows i counts) j 0 ≡ raised_if (names rows (i + j)) (get_or counts j 0)
unfolding raised
count_raised rows i [] j l = absurd (omega arith)
count_raised rows i (q ∷ counts) zero l = ap (λ k. raised_if (names rows k) q) {x = i} {y = i + 0} (omega arith)
count_raised rows i (q ∷ counts) (suc j) l =
    count_raised rows (i + 1) counts j (omega arith)
    ∙ ap (λ k. raised_if (names rows k) (get_or counts j 0)) {x = i + 1 + j} {y = i + suc j} (omega arith)

-- Counts of which each is raised if its row is named are those.
pub are_raised : (rows counts : List ℕ) {after : List ℕ} → length after ≡ length counts →
    ((i : ℕ) → i < length counts → get_or after i 0 ≡ raised_if (names rows i) (get_or counts i 0)) → after ≡ raised rows 0 counts
are_raised rows counts {after} long each =
    ext_get_or 0 after (raised rows 0 counts) (long ∙ sym (raised_long rows 0 counts))
    (λ i l. let m : i < length counts = omega (arith, long) in each i m ∙ sym (count_raised rows 0 counts i m ∙ ap (λ k. raised_if (names rows k) (get_or counts i 0)) {x = 0 + i} {y = i} (omega arith)))

-- A record that names no row raises nothing.
pub none_raised : (counts : List ℕ) → counts ≡ raised [] 0 counts
none_raised counts = are_raised [] counts refl (λ i l. sym (ap (λ named. raised_if named (get_or counts i 0)) (names_nothing i)))

-- For one row: what it leaves, by whether its mark was set.
abbrev pub Once : ℕ → List Bool → List ℕ → List Bool → List ℕ → Type 0
Once row counted counts counted' counts' =
    (counted' ≡ set counted row true) × (counts' ≡ cond (get_or counted row false) counts (set counts row (raised_if true (get_or counts row 0))))

-- For the loop: the first j of the rows have been gone through.
pub record RaisedBy (rows counts₀ : List ℕ) (counted : List Bool) (counts : List ℕ) (j : ℕ) : Type 0 where
  pub within : j ≤ length rows
  pub marks_long : length counted ≡ length counts₀
  pub long : length counts ≡ length counts₀
  pub marks : (i : ℕ) → i < length counts₀ → get_or counted i false ≡ names (take j rows) i
  pub each : (i : ℕ) → i < length counts₀ → get_or counts i 0 ≡ raised_if (names (take j rows) i) (get_or counts₀ i 0)

module _ (rows counts₀ : List ℕ) where
  -- It begins with no mark set,
  pub raising_begins : {counted : List Bool} → length counts₀ ≡ 32 → counted ≡ replicate 32 false → RaisedBy rows counts₀ counted counts₀ 0
  raising_begins many e =
      record {
        within = omega arith;
        marks_long = ap length e ∙ (length-replicate {A = Bool} 32 false ∙ sym many);
        long = refl;
        marks = λ i l. ap (λ m. get_or m i false) e ∙ (get_or-replicate 32 i false false (omega arith) ∙ sym (names_nothing i));
        each = λ i l. sym (ap (λ named. raised_if named (get_or counts₀ i 0)) (names_nothing i));
      }

  module _ {counted : List Bool} {counts : List ℕ} {j row : ℕ} (so : RaisedBy rows counts₀ counted counts j) (l : j < length rows) (here : row ≡ get_or rows j 0) where
    now_named : names (take (j + 1) rows) row ≡ true
    now_named = ap (names (take (j + 1) rows)) here ∙ own_named rows j l

    as_before : (i : ℕ) → (i ≡ row → ⊥) → names (take (j + 1) rows) i ≡ names (take j rows) i
    as_before i other = other_named rows j i l (λ e. other (e ∙ sym here))

    -- the marks with that of the row set
    marks_on : (i : ℕ) → i < length counts₀ → get_or (set counted row true) i false ≡ names (take (j + 1) rows) i
    marks_on i m = go (ℕ_discrete i row)
      where
        go : Dec (i ≡ row) → get_or (set counted row true) i false ≡ names (take (j + 1) rows) i
        go (yes e) =
            ap (λ k. get_or (set counted row true) k false) e
            ∙ (get_or-set_same counted row true false (omega (arith, so.marks_long)) ∙ (sym now_named ∙ ap (names (take (j + 1) rows)) (sym e)))
        go (no e) = get_or-set_other counted row i true false e ∙ (so.marks i m ∙ sym (as_before i e))

    -- A count that was raised stays,
    stays : get_or counted row false ≡ true → (i : ℕ) → i < length counts₀ → get_or counts i 0 ≡ raised_if (names (take (j + 1) rows) i) (get_or counts₀ i 0)
    stays marked i m = so.each i m ∙ ap (λ named. raised_if named (get_or counts₀ i 0)) (go (ℕ_discrete i row))
      where
        go : Dec (i ≡ row) → names (take j rows) i ≡ names (take (j + 1) rows) i
        go (yes e) = sym (so.marks i m) ∙ (ap (λ k. get_or counted k false) e ∙ (marked ∙ (sym now_named ∙ ap (names (take (j + 1) rows)) (sym e))))
        go (no e) = sym (as_before i e)

    -- and one that was not is raised.
    rises : get_or counted row false ≡ false → (i : ℕ) → i < length counts₀ →
        get_or (set counts row (raised_if true (get_or counts row 0))) i 0 ≡ raised_if (names (take (j + 1) rows) i) (get_or counts₀ i 0)
    rises unmarked i m = go (ℕ_discrete i row)
      where
        go : Dec (i ≡ row) → get_or (set counts row (raised_if true (get_or counts row 0))) i 0 ≡ raised_if (names (take (j + 1) rows) i) (get_or counts₀ i 0)
        go (yes e) =
            let before : names (take j rows) i ≡ false = sym (so.marks i m) ∙ (ap (λ k. get_or counted k false) e ∙ unmarked) in
            let same : get_or counts i 0 ≡ get_or counts₀ i 0 = so.each i m ∙ ap (λ named. raised_if named (get_or counts₀ i 0)) before in
            let named : names (take (j + 1) rows) i ≡ true = ap (names (take (j + 1) rows)) e ∙ now_named in
            ap (λ k. get_or (set counts row (raised_if true (get_or counts row 0))) k 0) e
            ∙ (get_or-set_same counts row (raised_if true (get_or counts row 0)) 0 (omega (arith, so.long))
            ∙ (ap (λ k. raised_if true (get_or counts k 0)) (sym e) ∙ (ap (raised_if true) same ∙ sym (ap (λ b. raised_if b (get_or counts₀ i 0)) named))))
        go (no e) =
            get_or-set_other counts row i (raised_if true (get_or counts row 0)) 0 e
            ∙ (so.each i m ∙ sym (ap (λ named. raised_if named (get_or counts₀ i 0)) (as_before i e)))

    -- goes on with the next row,
    pub raises_on : {counted' : List Bool} {counts' : List ℕ} → Once row counted counts counted' counts' → RaisedBy rows counts₀ counted' counts' (j + 1)
    raises_on {counts' = counts'} (p, q) = rw p (go (get_or counted row false) refl)
      where
        go : (b : Bool) → get_or counted row false ≡ b → RaisedBy rows counts₀ (set counted row true) counts' (j + 1)
        go true e =
            rw (q, e)
            (record { within = omega arith; marks_long = length-set counted row true ∙ so.marks_long; long = so.long; marks = marks_on; each = stays e })
        go false e =
            rw (q, e)
            (record {
              within = omega arith;
              marks_long = length-set counted row true ∙ so.marks_long;
              long = length-set counts row (raised_if true (get_or counts row 0)) ∙ so.long;
              marks = marks_on;
              each = rises e;
            })

  -- and ends with all.
  pub raising_ends : {counted : List Bool} {counts : List ℕ} {j : ℕ} → RaisedBy rows counts₀ counted counts j → length rows ≤ j → counts ≡ raised rows 0 counts₀
  raising_ends {j = j} so h =
      are_raised rows counts₀ so.long (λ i l. so.each i l ∙ ap (λ named. raised_if named (get_or counts₀ i 0)) (ap (λ r. names r i) (take_all j rows h)))

-- Where fewer than two bytes are left there is no row,
pub no_rows_there : (s : List ℕ) (place : ℕ) → length s ≤ place + 2 → rows_at s place ≡ []
no_rows_there s place h = ap (take (picked_at s place)) (drop_of_length-le s {i = place + 2} h) ∙ take-nil (picked_at s place)

-- and else those that are there.
pub rows_there : (s : List ℕ) (place : ℕ) {c : ℕ} → c ≡ min (2 + picked_at s place) (length s - place) - 2 → take c (drop (place + 2) s) ≡ rows_at s place
rows_there s place {c} e = go (dec_lt (place + 2 + picked_at s place) (length s))
  where
    rest : List ℕ
    rest = drop (place + 2) s

    go : Dec (place + 2 + picked_at s place < length s) → take c rest ≡ rows_at s place
    go (yes l) = ap (λ k. take k rest) {x = c} {y = picked_at s place} (omega arith)
    go (no l) =
        let long = length-drop (place + 2) s in
        take_all c rest (omega (arith, long)) ∙ sym (take_all (picked_at s place) rest (omega (arith, long)))

-- What `raise` finds.
pub ruleset rows_raised = (none_raised, no_rows_there, rows_there)
