-- The cores that rows get in turn: they are a placement, with the fewest moves. Assumes nothing.
use Prim.Native.Nat.{ℕ, zero, suc, ◌≤◌, ◌<◌}
use mathlib.Core.Path.{◌≡◌, refl, sym, ap}
use mathlib.Core.List.{List, [], ◌∷◌}
use mathlib.Core.Bool.{Bool, true, false, cond, not}
use mathlib.Core.Logic.{◌⊎◌, inl, inr, ⊎_elim}
use native.Mathlib.Omega.{arith}
use lib.ListN.{length, get_or, drop}
use Rattle.trace.specs.Records.{names}
use Rattle.trace.proofs.Names.{named_at}
use Rattle.cores.specs.declared.Placement.{Placement}
use Rattle.cores.specs.Best.{moves}
use Rattle.cores.specs.Cores.{stays, own_core, in_turn, Apart}
use Rattle.cores.proofs.Naming.{names_first, names_rest, first_or_rest, names_none, Rises, rest_rises, first_is_least, tally}
use Rattle.cores.proofs.Memory.{own_is_free, own_is_ran_on, of_one_row}
use Rattle.cores.proofs.Moves.{must_move, AllFree, moves_anyway, moves_not}

-- The cores in turn,
abbrev pub turn : Placement → List ℕ → List ℕ → List ℕ → List ℕ
turn last free left rows = in_turn (stays last free) (own_core last free) left rows

-- and how many of those left they need.
abbrev pub needed : Placement → List ℕ → List ℕ → ℕ
needed last free rows = tally (λ row. not (stays last free row)) rows

-- No two of these cores are the same.
abbrev pub AllApart : List ℕ → Type 0
AllApart cores = (i j : ℕ) → i < j → j < length cores → get_or cores i 0 ≡ get_or cores j 0 → ⊥

module _ (last : Placement) (free : List ℕ) where
  -- One row's turn: it stays on its own core, or takes the first that is left.
  pub data Step (left : List ℕ) (row : ℕ) (rows : List ℕ) : Type 0 where
    staying : stays last free row ≡ true → turn last free left (row ∷ rows) ≡ own_core last free row ∷ turn last free left rows →
        needed last free rows ≤ length left → Step left row rows
    taking : (core : ℕ) (after : List ℕ) → stays last free row ≡ false → left ≡ core ∷ after →
        turn last free left (row ∷ rows) ≡ core ∷ turn last free after rows → needed last free rows ≤ length after → Step left row rows

  pub step : (left : List ℕ) (row : ℕ) (rows : List ℕ) → needed last free (row ∷ rows) ≤ length left → Step left row rows
  unfolding tally in_turn
  step left row rows n = go (stays last free row) left refl n
    where
      go : (t : Bool) (left : List ℕ) → stays last free row ≡ t → needed last free (row ∷ rows) ≤ length left → Step left row rows
      go true left s n = Step.staying s (rw s) (omega (arith, rw s at n))
      go false [] s n = absurd (omega (arith, rw s at n))
      go false (core ∷ after) s n = Step.taking core after s refl (rw s) (omega (arith, rw s at n))

  -- Nobody gets no core,
  pub no_turn : (left : List ℕ) → turn last free left [] ≡ []
  unfolding in_turn
  no_turn left = refl

  -- and each row gets one.
  pub as_many : (left rows : List ℕ) → length (turn last free left rows) ≡ length rows
  unfolding in_turn
  as_many left [] = refl
  as_many left (row ∷ rows) = ap suc (as_many (cond (stays last free row) left (drop 1 left)) rows)

  -- Each is one of those left, or the own core of a row that stays.
  abbrev ComesFrom : List ℕ → List ℕ → ℕ → Type 0
  ComesFrom left rows core = (names left core ≡ true) ⊎ ((row : ℕ) × (names rows row ≡ true) × (stays last free row ≡ true) × (core ≡ own_core last free row))

  comes_from : (left rows : List ℕ) → needed last free rows ≤ length left → (core : ℕ) → names (turn last free left rows) core ≡ true → ComesFrom left rows core
  comes_from left [] n core h = absurd (names_none core (rw (no_turn left) at h))
  comes_from left (row ∷ rows) n core h = go (step left row rows n) (λ l. comes_from l rows)
    where
      later : (l : List ℕ) → ((c : ℕ) → names l c ≡ true → names left c ≡ true) → ComesFrom l rows core → ComesFrom left (row ∷ rows) core
      later l sub (inl t) = inl (sub core t)
      later l sub (inr f) = inr (f.0, names_rest row f.0 rows f.1, f.2, f.3)

      go : Step left row rows →
          ((l : List ℕ) → needed last free rows ≤ length l → (core : ℕ) → names (turn last free l rows) core ≡ true → ComesFrom l rows core) →
          ComesFrom left (row ∷ rows) core
      go (Step.staying s e m) rest =
          ⊎_elim
          (λ p. inr (row, names_first row rows, s, sym p))
          (λ t. later left (λ c x. x) (rest left m core t))
          (first_or_rest (own_core last free row) core (turn last free left rows) (rw e at h))
      go (Step.taking c after s d e m) rest =
          ⊎_elim
          (λ p. inl (rw (d, ← p) (names_first c after)))
          (λ t. later after (λ x y. rw d (names_rest c x after y)) (rest after m core t))
          (first_or_rest c core (turn last free after rows) (rw e at h))

  -- So each is free,
  pub all_free : (left rows : List ℕ) → needed last free rows ≤ length left → ((core : ℕ) → names left core ≡ true → names free core ≡ true) →
      AllFree free (turn last free left rows)
  all_free left rows n sub i l =
      ⊎_elim
      (sub (get_or (turn last free left rows) i 0))
      (λ f. rw f.3 (own_is_free last free f.0 f.2))
      (comes_from left rows n (get_or (turn last free left rows) i 0) (named_at (turn last free left rows) i l))

  -- they have as many moves as every placement has,
  pub as_few : (left rows : List ℕ) → needed last free rows ≤ length left → ((core : ℕ) → names left core ≡ true → names free core ≡ true) →
      moves last rows (turn last free left rows) ≡ tally (must_move last free) rows
  unfolding moves tally
  as_few left [] n sub = refl
  as_few left (row ∷ rows) n sub = go (step left row rows n) (λ l. as_few l rows)
    where
      go : Step left row rows →
          ((l : List ℕ) → needed last free rows ≤ length l → ((core : ℕ) → names l core ≡ true → names free core ≡ true) →
          moves last rows (turn last free l rows) ≡ tally (must_move last free) rows) →
          moves last (row ∷ rows) (turn last free left (row ∷ rows)) ≡ tally (must_move last free) (row ∷ rows)
      go (Step.staying s e m) rest = rw (e, s, moves_not last free row s, rest left m sub)
      go (Step.taking c after s d e m) rest =
          rw (e, s, moves_anyway last free row c s (sub c (rw d (names_first c after))), rest after m (λ x h. sub x (rw d (names_rest c x after h))))

  -- No row that stays has one of these as its own core.
  abbrev pub NotOwn : List ℕ → List ℕ → Type 0
  NotOwn left rows = (row : ℕ) → names rows row ≡ true → stays last free row ≡ true → names left (own_core last free row) ≡ true → ⊥

  module _ (apart : Apart last) where
    -- the own core of a row is given to no other
    not_again : (left rows : List ℕ) (row : ℕ) → needed last free rows ≤ length left → stays last free row ≡ true → (names rows row ≡ true → ⊥) →
        (names left (own_core last free row) ≡ true → ⊥) → names (turn last free left rows) (own_core last free row) ≡ true → ⊥
    not_again left rows row n s new Free-of h =
        ⊎_elim
        Free-of
        (λ f.
        new
        (rw
        (of_one_row last apart row f.0 (own_core last free row) (own_is_ran_on last free row s) (rw f.3 (own_is_ran_on last free f.0 f.2)))
        f.1))
        (comes_from left rows n (own_core last free row) h)

    -- a core that is not among others differs from each
    one_more : (core : ℕ) (cores : List ℕ) → (names cores core ≡ true → ⊥) → AllApart cores → AllApart (core ∷ cores)
    one_more core cores new rest i zero a l e = absurd (omega arith)
    one_more core cores new rest zero (suc j) a l e = new (rw e (named_at cores j (omega arith)))
    one_more core cores new rest (suc i) (suc j) a l e = rest i j (omega arith) (omega arith) e

    -- and no two are the same.
    pub all_apart : (left rows : List ℕ) → needed last free rows ≤ length left → Rises left → Rises rows → NotOwn left rows → AllApart (turn last free left rows)
    all_apart left [] n r q own i j a l e = absurd (omega (arith, rw (no_turn left) at l))
    all_apart left (row ∷ rows) n r q own i j a l e = go (step left row rows n) (λ m. all_apart m rows) i j a l e
      where
        go : Step left row rows → ((m : List ℕ) → needed last free rows ≤ length m → Rises m → Rises rows → NotOwn m rows → AllApart (turn last free m rows)) →
            AllApart (turn last free left (row ∷ rows))
        go (Step.staying s e m) rest =
            rw e
            (one_more (own_core last free row) (turn last free left rows)
            (not_again left rows row m s (λ h. absurd (omega (arith, first_is_least q row h))) (own row (names_first row rows) s))
            (rest left m r (rest_rises q) (λ x h. own x (names_rest row x rows h))))
        go (Step.taking c after s d e m) rest =
            let risen : Rises (c ∷ after) = rw d at r in
            rw e
            (one_more c (turn last free after rows)
            (λ h. ⊎_elim
            (λ t. absurd (omega (arith, first_is_least risen c t)))
            (λ f. own f.0 (names_rest row f.0 rows f.1) f.2 (rw (← f.3, d) (names_first c after)))
            (comes_from after rows m c h))
            (rest after m (rest_rises risen) (rest_rises q)
            (λ x h y z. own x (names_rest row x rows h) y (rw d (names_rest c (own_core last free x) after z)))))
