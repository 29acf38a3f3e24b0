-- A memory has a fault, or its rows rise and each core is in one place; and then it has no more places than there are cores. Assumes nothing.
use Prim.Native.Nat.{ℕ, zero, suc, ◌+◌, ◌≤◌, ◌<◌}
use mathlib.Core.Path.{◌≡◌, refl, sym, ap, ◌∙◌}
use mathlib.Core.Bool.{Bool, true, false, not, ◌||◌}
use mathlib.Core.Logic.{◌⊎◌, inl, inr}
use native.Mathlib.Decide.{dec_lt}
use native.Mathlib.Omega.{arith}
use borrow.Author.Tests.{le-ltb, lt-ltb, ltb-true, ltb-false, le-leb, lt-leb, leb-false, eq-eqb, ne_eqb, eqb-true, eqb-false, not-false}
use lib.Dec.{ltb, leb, eqb}
use Rattle.facts.specs.Counting.{some, how_many}
use Rattle.facts.proofs.Counting.{same_count, how_many_never, all_counted, counts_together, counts_one_at_most}
use Rattle.facts.proofs.Some.{some_if, none_if, each_fails}
use Rattle.facts.proofs.Tests.{neither_holds}
use Rattle.table.specs.Limits.{core_limit}
use Rattle.cores.specs.declared.Placement.{Placement}
use Rattle.cores.specs.Placement.{places_of, row_in, core_in}
use Rattle.cores.specs.Fault.{bad_place, misremembers, Remembers, MisremembersOrRemembers, NoMoreThanCores}

-- For callers: of numbers that all differ no more than m are below m.
pub no_more_than : (f : ℕ → ℕ) (c m : ℕ) → ((i j : ℕ) → i < j → j < c → f i ≡ f j → ⊥) → how_many (λ i. ltb (f i) m) c ≤ m
no_more_than f c zero differ =
    omega (arith, same_count (λ i. ltb (f i) 0) (λ i. false) c (λ i l. le-ltb (f i) 0 (omega arith)), how_many_never c)
no_more_than f c (suc m) differ =
    omega (
      arith,
      counts_together (λ i. ltb (f i) (suc m)) (λ i. ltb (f i) m) (λ i. eqb (f i) m) c (λ i l h. split (f i) (ltb-true (f i) (suc m) h) (dec_lt (f i) m)),
      counts_one_at_most (λ i. eqb (f i) m) c (λ i j l h p q. differ i j l h (eqb-true (f i) m p ∙ sym (eqb-true (f j) m q))),
      no_more_than f c m differ,
    )
  where
    split : (x : ℕ) → x < suc m → Dec (x < m) → (ltb x m ≡ true) ⊎ (eqb x m ≡ true)
    split x l (yes h) = inl (lt-ltb x m h)
    split x l (no h) = inr (eq-eqb x m (omega arith))

module _ (last : Placement) (is_row : ℕ → Bool) (cores : ℕ) where
  -- a place without fault
  record Good (i : ℕ) : Type 0 where
    core : core_in last i < cores
    new_core : (j : ℕ) → j < i → core_in last j ≡ core_in last i → ⊥
    row : is_row (row_in last i) ≡ true
    new_row : (j : ℕ) → j < i → row_in last j ≡ row_in last i → ⊥
    rising : (j : ℕ) → j < i → row_in last j < row_in last i

  good : (i : ℕ) → bad_place last is_row cores i ≡ false → Good i
  good i h =
      let fourth =
      neither_holds
      (leb cores (core_in last i) || some (λ j. eqb (core_in last j) (core_in last i)) i || not (is_row (row_in last i)) || some (λ j. eqb (row_in last j) (row_in last i)) i)
      (some (λ j. leb (row_in last i) (row_in last j)) i) h in
      let third =
      neither_holds (leb cores (core_in last i) || some (λ j. eqb (core_in last j) (core_in last i)) i || not (is_row (row_in last i)))
      (some (λ j. eqb (row_in last j) (row_in last i)) i) fourth.0 in
      let second = neither_holds (leb cores (core_in last i) || some (λ j. eqb (core_in last j) (core_in last i)) i) (not (is_row (row_in last i))) third.0 in
      let first = neither_holds (leb cores (core_in last i)) (some (λ j. eqb (core_in last j) (core_in last i)) i) second.0 in
      record {
        core = leb-false cores (core_in last i) first.0;
        new_core = λ j l. eqb-false (core_in last j) (core_in last i) (each_fails (λ j. eqb (core_in last j) (core_in last i)) i first.1 j l);
        row = not-false (is_row (row_in last i)) second.1;
        new_row = λ j l. eqb-false (row_in last j) (row_in last i) (each_fails (λ j. eqb (row_in last j) (row_in last i)) i third.1 j l);
        rising = λ j l. leb-false (row_in last i) (row_in last j) (each_fails (λ j. leb (row_in last i) (row_in last j)) i fourth.1 j l);
      }

  not_bad : (i : ℕ) → Good i → bad_place last is_row cores i ≡ false
  not_bad i g =
      simp (
        lt-leb cores (core_in last i) g.core,
        none_if (λ j. eqb (core_in last j) (core_in last i)) i (λ j l. ne_eqb (core_in last j) (core_in last i) (g.new_core j l)),
        g.row,
        none_if (λ j. eqb (row_in last j) (row_in last i)) i (λ j l. ne_eqb (row_in last j) (row_in last i) (g.new_row j l)),
        none_if (λ j. leb (row_in last i) (row_in last j)) i (λ j l. lt-leb (row_in last i) (row_in last j) (g.rising j l)),
      )

-- For callers: a memory in which each core is in one place and is there has no more places than there are cores.
pub no_more_than_cores : NoMoreThanCores
no_more_than_cores last is_row cores r =
    omega (
      arith,
      r.few,
      all_counted (λ i. ltb (core_in last i) cores) (places_of last) (λ i l. lt-ltb (core_in last i) cores (r.core i l)),
      no_more_than (core_in last) (places_of last) cores r.apart.cores,
    )

-- A memory has no fault exactly if the rows rise, each core is in one place, and all are there: a count above M has another fault besides.
pub misremembers_or_remembers : MisremembersOrRemembers
unfolding misremembers
misremembers_or_remembers last is_row cores = (to, from)
  where
    counts : Bool
    counts = ltb core_limit last.count || ltb cores last.count

    to : counts || some (bad_place last is_row cores) (places_of last) ≡ false → Remembers last is_row cores
    to all_fail =
        record {
          few = ltb-false core_limit last.count (neither_holds (ltb core_limit last.count) (ltb cores last.count) two.0).0;
          apart = record { rows = λ i j l m. (at j m).new_row i l; cores = λ i j l m. (at j m).new_core i l };
          rising = λ i j l m. (at j m).rising i l;
          core = λ i l. (at i l).core;
          row = λ i l. (at i l).row;
        }
      where
        two : (counts ≡ false) × (some (bad_place last is_row cores) (places_of last) ≡ false)
        two = neither_holds counts (some (bad_place last is_row cores) (places_of last)) all_fail

        at : (i : ℕ) → i < places_of last → Good last is_row cores i
        at i l = good last is_row cores i (each_fails (bad_place last is_row cores) (places_of last) two.1 i l)

    from : Remembers last is_row cores → counts || some (bad_place last is_row cores) (places_of last) ≡ false
    from r =
        rw (le-ltb core_limit last.count r.few, le-ltb cores last.count (no_more_than_cores last is_row cores r))
        (none_if (bad_place last is_row cores) (places_of last) (λ i l.
        not_bad last is_row cores i
        (record {
          core = r.core i l;
          new_core = λ j m. r.apart.cores j i m l;
          row = r.row i l;
          new_row = λ j m. r.apart.rows j i m l;
          rising = λ j m. r.rising j i m l;
        })))

-- for the code

-- The tests of place i, one after the other.
module _ (last : Placement) (n cores i : ℕ) where
  abbrev bad : Bool
  bad = bad_place last (λ row. ltb row n) cores i

  -- A row that an earlier place has too does not rise.
  twice_falls : some (λ j. eqb (row_in last j) (row_in last i)) i || some (λ j. leb (row_in last i) (row_in last j)) i ≡ some (λ j. leb (row_in last i) (row_in last j)) i
  twice_falls = go (some (λ j. leb (row_in last i) (row_in last j)) i) refl (some (λ j. eqb (row_in last j) (row_in last i)) i) refl
    where
      go : (falls : Bool) → some (λ j. leb (row_in last i) (row_in last j)) i ≡ falls → (twice : Bool) → some (λ j. eqb (row_in last j) (row_in last i)) i ≡ twice → twice || falls ≡ falls
      go true p true q = refl
      go true p false q = refl
      go false p true q =
          let each : (j : ℕ) → j < i → row_in last j < row_in last i = λ j l. leb-false (row_in last i) (row_in last j) (each_fails (λ j. leb (row_in last i) (row_in last j)) i p j l) in
          sym q ∙ none_if (λ j. eqb (row_in last j) (row_in last i)) i (λ j l. ne_eqb (row_in last j) (row_in last i) (λ e. omega (arith, each j l)))
      go false p false q = refl

  -- Its core is not there,
  pub no_such_core : cores ≤ core_in last i → bad ≡ true
  no_such_core h = simp (le-leb cores (core_in last i) h)

  module _ (a : core_in last i < cores) where
    -- or an earlier place has it too,
    pub core_twice : some (λ j. eqb (core_in last j) (core_in last i)) i ≡ true → bad ≡ true
    core_twice h = simp (lt-leb cores (core_in last i) a, h)

    module _ (b : some (λ j. eqb (core_in last j) (core_in last i)) i ≡ false) where
      -- or its row is not there,
      pub no_such_row : n ≤ row_in last i → bad ≡ true
      no_such_row h = simp (lt-leb cores (core_in last i) a, b, le-ltb (row_in last i) n h)

      -- or does not rise; else the place has no fault.
      pub falls_or_not : row_in last i < n → bad ≡ some (λ j. leb (row_in last i) (row_in last j)) i
      falls_or_not h = simp (lt-leb cores (core_in last i) a, b, lt-ltb (row_in last i) n h, twice_falls)

-- The least number that the next row may have: one more than the last, which is above all before it.
pub record Least (row : ℕ → ℕ) (i least : ℕ) : Type 0 where
  pub above : (j : ℕ) → j < i → row j < least
  pub falls : (x : ℕ) → x < least → some (λ j. leb x (row j)) i ≡ true

pub least_begins : (row : ℕ → ℕ) → Least row 0 0
least_begins row = record { above = λ j l. absurd (omega arith); falls = λ x l. absurd (omega arith) }

module _ {row : ℕ → ℕ} {i least : ℕ} (so : Least row i least) where
  -- A row that is not below it is above all before it,
  pub does_not_fall : least ≤ row i → some (λ j. leb (row i) (row j)) i ≡ false
  does_not_fall h = none_if (λ j. leb (row i) (row j)) i (λ j l. lt-leb (row i) (row j) (omega (arith, so.above j l)))

  -- and is the last then.
  pub least_goes_on : {next : ℕ} → least ≤ row i → next ≡ row i + 1 → Least row (i + 1) next
  least_goes_on {next} h e =
      record {
        above = λ j l. go j l (dec_lt j i);
        falls = λ x l. some_if (λ j. leb x (row j)) (i + 1) i (omega arith) (le-leb x (row i) (omega (arith, e)));
      }
    where
      go : (j : ℕ) → j < i + 1 → Dec (j < i) → row j < next
      go j l (yes m) = omega (arith, so.above j m, e)
      go j l (no m) = let same : row j ≡ row i = ap row {x = j} {y = i} (omega arith) in omega (arith, same, e)

-- And of the whole memory: more places than there are,
pub too_many_places : (last : Placement) (n cores : ℕ) → core_limit < last.count → true ≡ misremembers last (λ row. ltb row n) cores
unfolding misremembers
too_many_places last n cores h = simp (lt-ltb core_limit last.count h)

-- or than there are cores,
pub more_than_cores : (last : Placement) (n cores : ℕ) → cores < last.count → true ≡ misremembers last (λ row. ltb row n) cores
unfolding misremembers
more_than_cores last n cores h = go (ltb core_limit last.count)
  where
    go : (wild : Bool) → true ≡ wild || ltb cores last.count || some (bad_place last (λ row. ltb row n) cores) (places_of last)
    go true = refl
    go false = simp (lt-ltb cores last.count h)

-- or a place that has a fault.
pub bad_somewhere : (last : Placement) (n cores : ℕ) → last.count ≤ core_limit → last.count ≤ cores → {t : Bool} →
    some (bad_place last (λ row. ltb row n) cores) last.count ≡ t → t ≡ misremembers last (λ row. ltb row n) cores
unfolding misremembers
bad_somewhere last n cores few fewer {t} h =
    rw (le-ltb core_limit last.count few, le-ltb cores last.count fewer)
    (sym h ∙ ap (some (bad_place last (λ row. ltb row n) cores)) {x = last.count} {y = places_of last} (omega arith))
