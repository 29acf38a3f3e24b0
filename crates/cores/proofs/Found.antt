-- For the code: the cores that rows get by what is kept are those that are asked for. Assumes nothing.
use Prim.Native.Nat.{ℕ, ◌<◌}
use mathlib.Core.Path.{◌≡◌, refl, sym, ap, ◌∙◌}
use mathlib.Core.List.{List, [], ◌∷◌}
use mathlib.Core.Bool.{Bool, true, false, cond}
use native.Mathlib.Omega.{arith}
use borrow.Author.Tests.{lt-ltb, ltb-true}
use lib.Dec.{ltb}
use lib.ListN.{length, get_or, take, drop}
use Rattle.facts.proofs.Tests.{both}
use Rattle.table.specs.Limits.{core_limit}
use Rattle.trace.specs.Record.{marked}
use Rattle.trace.specs.Records.{names}
use Rattle.trace.proofs.Names.{listed_are_named}
use Rattle.cores.specs.declared.Placement.{Placement}
use Rattle.cores.specs.Placement.{placement}
use Rattle.cores.specs.Cores.{stays, own_core, in_turn, cores_for, placed_for}
use Rattle.cores.specs.Turns.{Keeps, stays_by, in_turn_by}
use Rattle.cores.proofs.Naming.{names_first, names_rest}
use Rattle.cores.proofs.Memory.{own_is_free}

-- who stays, and where, is asked of the rows of the list alone
same_turns : (s t : ℕ → Bool) (f g : ℕ → ℕ) (left rows : List ℕ) → ((row : ℕ) → names rows row ≡ true → s row ≡ t row) →
    ((row : ℕ) → names rows row ≡ true → t row ≡ true → f row ≡ g row) → in_turn s f left rows ≡ in_turn t g left rows
unfolding in_turn
same_turns s t f g left [] same own = refl
same_turns s t f g left (row ∷ rows) same own =
    rw (same row (names_first row rows)) (go (t row) refl (λ l. same_turns s t f g l rows (λ r n. same r (names_rest row r rows n)) (λ r n. own r (names_rest row r rows n))))
  where
    go : (b : Bool) → t row ≡ b → ((l : List ℕ) → in_turn s f l rows ≡ in_turn t g l rows) →
        cond (t row) (f row) (get_or left 0 0) ∷ in_turn s f (cond (t row) left (drop 1 left)) rows
        ≡ cond (t row) (g row) (get_or left 0 0) ∷ in_turn t g (cond (t row) left (drop 1 left)) rows
    go true e rest = rw (e, own row (names_first row rows) e, rest left)
    go false e rest = rw (e, rest (drop 1 left))

module _ (rows : List ℕ) (free : List Bool) (last : Placement) (own : List ℕ) (left : List Bool) (long : length free ≡ 32) (kept : Keeps rows free last own left) where
  -- an own core is a number of a set
  own_is_small : (row : ℕ) → stays last (marked free) row ≡ true → own_core last (marked free) row < 32
  own_is_small row h =
      let core = own_core last (marked free) row in
      let named = sym (listed_are_named (λ c. get_or free c false) (length free) core) ∙ own_is_free last (marked free) row h in
      omega (arith, long, ltb-true core (length free) (both (ltb core (length free)) (get_or free core false) named).0)

  stays_same : (row : ℕ) → names rows row ≡ true → stays_by own row ≡ stays last (marked free) row
  stays_same row n = rw (kept.own_core_is row n) (go (stays last (marked free) row) refl)
    where
      go : (t : Bool) → stays last (marked free) row ≡ t → ltb (cond (stays last (marked free) row) (own_core last (marked free) row) 32) 32 ≡ stays last (marked free) row
      go true e = rw e (lt-ltb (own_core last (marked free) row) 32 (own_is_small row e))
      go false e = rw e

  own_same : (row : ℕ) → names rows row ≡ true → stays last (marked free) row ≡ true → get_or own row 0 ≡ own_core last (marked free) row
  own_same row n e = kept.own_core_is row n ∙ rw e

  -- What the turns give is the answer.
  pub turns_give : {p : Placement} → p ≡ placement (take core_limit rows) (take core_limit (in_turn_by own (marked left) rows)) →
      p ≡ placed_for last (marked free) rows
  unfolding cores_for
  turns_give e =
      e
      ∙ ap (λ cores. placement (take core_limit rows) (take core_limit cores))
      (ap (λ l. in_turn_by own l rows) kept.left_over_is
      ∙ same_turns (stays_by own) (stays last (marked free)) (λ row. get_or own row 0) (own_core last (marked free)) _ rows stays_same own_same)
