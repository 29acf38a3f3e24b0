-- What stands past the count of a memory is not looked at. Assumes nothing.
use Prim.Native.Nat.{ℕ, zero, suc, ◌+◌, ◌≤◌, ◌<◌, min}
use mathlib.Core.Path.{◌≡◌, refl, ap, ap₂, ◌∙◌}
use mathlib.Core.List.{List, [], ◌∷◌}
use mathlib.Core.Bool.{Bool, cond, not, ◌&&◌, ◌||◌}
use native.Mathlib.Omega.{arith}
use lib.Dec.{ltb, leb, eqb}
use lib.ListN.{take}
use Rattle.facts.specs.Counting.{some}
use Rattle.facts.specs.First.{at_first}
use Rattle.facts.proofs.Counting.{same_count}
use Rattle.table.specs.Limits.{core_limit}
use Rattle.trace.specs.Records.{names}
use Rattle.cores.specs.declared.Placement.{Placement}
use Rattle.cores.specs.Placement.{row_in, core_in, places_of, placement, ran_before}
use Rattle.cores.specs.Cores.{lets_stay, stays, own_core, wanted, left_over, in_turn, cores_for, placed_for}
use Rattle.cores.specs.Fault.{bad_place, misremembers}

-- Two memories that differ in nothing else.
pub record AlikeIn (a b : Placement) : Type 0 where
  pub count : a.count ≡ b.count
  pub rows : (i : ℕ) → i < places_of a → row_in a i ≡ row_in b i
  pub cores : (i : ℕ) → i < places_of a → core_in a i ≡ core_in b i

-- what is so of some place, if it is so of the same places
same_some : (f g : ℕ → Bool) (n m : ℕ) → n ≡ m → ((i : ℕ) → i < n → f i ≡ g i) → some f n ≡ some g m
same_some f g n m long same = ap (ltb 0) (same_count f g n same) ∙ ap (some g) long

-- the first place is the same, and what it gives
same_first : (f g : ℕ → Bool) (x y : ℕ → ℕ) (i n : ℕ) → ((j : ℕ) → i ≤ j → j < i + n → f j ≡ g j) → ((j : ℕ) → i ≤ j → j < i + n → x j ≡ y j) → at_first f x i n ≡ at_first g y i n
unfolding at_first
same_first f g x y i zero fits gives = refl
same_first f g x y i (suc n) fits gives =
    rw (fits i (omega arith) (omega arith), gives i (omega arith) (omega arith))
    (ap (cond (g i) (y i)) (same_first f g x y (i + 1) n (λ j l m. fits j (omega arith) (omega arith)) (λ j l m. gives j (omega arith) (omega arith))))

-- The same rows ran if the memories have the same.
pub same_rows_ran : (a b : Placement) → a.count ≡ b.count → ((i : ℕ) → i < places_of a → row_in a i ≡ row_in b i) → (row : ℕ) → ran_before a row ≡ ran_before b row
same_rows_ran a b count rows row = same_some _ _ (places_of a) (places_of b) (ap (λ n. min n core_limit) count) (λ i l. ap (λ r. eqb r row) (rows i l))

module _ {a b : Placement} (alike : AlikeIn a b) where
  as_long : places_of a ≡ places_of b
  as_long = ap (λ n. min n core_limit) alike.count

  -- An earlier place has the same number in both, or in neither.
  twice : (f g : ℕ → ℕ) → ((i : ℕ) → i < places_of a → f i ≡ g i) → (i : ℕ) → i < places_of a → some (λ j. eqb (f j) (f i)) i ≡ some (λ j. eqb (g j) (g i)) i
  twice f g same i l = same_some _ _ i i refl (λ j m. ap₂ eqb (same j (omega arith)) (same i l))

  -- Both have a fault or neither has,
  pub faults_alike : (is_row : ℕ → Bool) (cores : ℕ) → misremembers a is_row cores ≡ misremembers b is_row cores
  unfolding misremembers
  faults_alike is_row cores = ap₂ ◌||◌ (ap (λ count. ltb core_limit count || ltb cores count) alike.count) (same_some _ _ (places_of a) (places_of b) as_long bad)
    where
      bad : (i : ℕ) → i < places_of a → bad_place a is_row cores i ≡ bad_place b is_row cores i
      bad i l =
          ap₂ ◌||◌
          (ap₂ ◌||◌
          (ap₂ ◌||◌ (ap₂ ◌||◌ (ap (leb cores) (alike.cores i l)) (twice (core_in a) (core_in b) alike.cores i l)) (ap (λ row. not (is_row row)) (alike.rows i l)))
          (twice (row_in a) (row_in b) alike.rows i l))
          (same_some _ _ i i refl (λ j m. ap₂ leb (alike.rows i l) (alike.rows j (omega arith))))

  -- the same rows ran,
  pub ran_alike : (row : ℕ) → ran_before a row ≡ ran_before b row
  ran_alike = same_rows_ran a b alike.count alike.rows

  lets_alike : (free : List ℕ) (row i : ℕ) → i < places_of a → lets_stay a free row i ≡ lets_stay b free row i
  lets_alike free row i l = ap₂ (λ r c. eqb r row && names free c) (alike.rows i l) (alike.cores i l)

  stays_alike : (free : List ℕ) (row : ℕ) → stays a free row ≡ stays b free row
  stays_alike free row = same_some _ _ (places_of a) (places_of b) as_long (lets_alike free row)

  own_alike : (free : List ℕ) (row : ℕ) → own_core a free row ≡ own_core b free row
  own_alike free row =
      same_first _ _ _ _ 0 (places_of a) (λ j _ m. lets_alike free row j (omega arith)) (λ j _ m. alike.cores j (omega arith))
      ∙ ap (at_first (lets_stay b free row) (core_in b) 0) as_long

  wanted_alike : (rows : List ℕ) (core : ℕ) → wanted a rows core ≡ wanted b rows core
  unfolding wanted
  wanted_alike [] core = refl
  wanted_alike (row ∷ rows) core =
      ap₂ ◌||◌ (same_some _ _ (places_of a) (places_of b) as_long (λ i l. ap₂ (λ r c. eqb r row && eqb c core) (alike.rows i l) (alike.cores i l))) (wanted_alike rows core)

  left_alike : (rows free : List ℕ) → left_over a rows free ≡ left_over b rows free
  unfolding left_over
  left_alike rows [] = refl
  left_alike rows (core ∷ free) = ap₂ (λ w others. cond w others (core ∷ others)) (wanted_alike rows core) (left_alike rows free)

  -- and rows get the same cores.
  pub places_alike : (free rows : List ℕ) → placed_for a free rows ≡ placed_for b free rows
  unfolding cores_for
  places_alike free rows =
      ap (λ cores. placement (take core_limit rows) (take core_limit cores))
      (ap₂ (λ stay own. in_turn stay own (left_over a rows free) rows) (λ k row. stays_alike free row k) (λ k row. own_alike free row k)
      ∙ ap (λ left. in_turn (stays b free) (own_core b free) left rows) (left_alike rows free))
