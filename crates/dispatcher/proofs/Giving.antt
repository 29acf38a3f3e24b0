-- The laws of giving a quantum to each row of a list that rises. Assumes nothing.
use Prim.Native.Nat.{ℕ, ◌+◌, ◌≤◌, ◌<◌}
use mathlib.Core.Path.{◌≡◌, sym, ap, subst, ◌∙◌}
use mathlib.Core.List.{List}
use mathlib.Core.Bool.{true, false, cond, ◌||◌, or-true, or-false}
use native.Mathlib.Decide.{ℕ_discrete}
use native.Mathlib.Omega.{arith}
use borrow.Author.Tests.{eq-eqb, ne_eqb}
use lib.ListN.{length, get_or, take, set, length-set, length-take}
use lib.Seq.{take_all, get_or-take, get_or-set_same, get_or-set_other, ext_get_or}
use Rattle.facts.proofs.Listing.{listed_pass, listed_rise}
use Rattle.counts.specs.declared.Quanta.{Quanta}
use Rattle.counts.specs.Limits.{kept}
use Rattle.counts.specs.Numbers.{numbers_of, counted}
use Rattle.counts.proofs.Numbers.{as_many_numbers, number_at, number_there, counted_back}
use Rattle.table.specs.Limits.{row_limit}
use Rattle.pd2.specs.Choice.{quanta_at, given}
use Rattle.pd2.proofs.Choice.{how_many_given, given_at}
use Rattle.trace.specs.Records.{names}
use Rattle.trace.proofs.Names.{names_nothing, named_at, not_named, named_one_more}
use Rattle.dispatcher.specs.Looking.{GivesTo}

-- The first j rows have one quantum more, and no others.
pub record Gave (rows : List ℕ) (before after : List Quanta) (j : ℕ) : Type 0 where
  pub long : length after ≡ length before
  pub each : (i : ℕ) → i < length before → quanta_at (numbers_of after) i ≡ quanta_at (numbers_of before) i + cond (names (take j rows) i) 1 0

module _ (rows : List ℕ) (before : List Quanta) where
  -- Giving begins with the quanta as they are.
  pub giving_begins : Gave rows before before 0
  giving_begins =
      record {
        long = omega arith;
        each = λ i l. omega (arith, ap {B = ℕ} (λ b. cond b 1 0) (names_nothing i));
      }

  module _ (can : GivesTo rows before) {j : ℕ} (l : j < length rows) where
    -- Each row is one of the array,
    pub row_in_array : get_or rows j 0 < row_limit
    row_in_array =
        let listed = listed_pass (names rows) row_limit j 0 (omega (arith, ap length can.listed)) in
        omega (arith, ap (λ x. get_or x j 0) can.listed, listed.0)

    -- is not among those that stand before it, since they rise,
    not_yet : names (take j rows) (get_or rows j 0) ≡ false
    not_yet =
        not_named (take j rows) (get_or rows j 0)
        (λ k m e.
        let lower : k < j = omega (arith, length-take j rows) in
        let rise = listed_rise (names rows) row_limit k j 0 lower (omega (arith, ap length can.listed)) in
        omega (arith, e, get_or-take j rows k 0 lower, rise, ap (λ x. get_or x j 0) can.listed, ap (λ x. get_or x k 0) can.listed))

    -- and has one quantum more.
    pub gives_one : {after : List Quanta} (d : Quanta) {given : Quanta} → Gave rows before after j → given.0 ≡ kept ((get_or after (get_or rows j 0) d).0 + 1) →
        Gave rows before (set after (get_or rows j 0) given) (j + 1)
    gives_one {after} d {given} so one =
        record { long = length-set after row given ∙ so.long; each = λ i m. go i m (ℕ_discrete i row) }
      where
        row : ℕ
        row = get_or rows j 0

        zero_quanta : Quanta
        zero_quanta = record { 0 = 0 }

        there : row < length before
        there = omega (arith, row_in_array, can.long)

        next : List Quanta
        next = set after row given

        here : quanta_at (numbers_of next) row ≡ quanta_at (numbers_of before) row + cond (names (take (j + 1) rows) row) 1 0
        here =
            let reads = sym (number_at next row) ∙ ap (λ q. q.0) (get_or-set_same after row given zero_quanta (omega (arith, there, so.long))) in
            let had = number_there after row d (omega (arith, there, so.long)) in
            let was = so.each row there in
            let unnamed = ap {B = ℕ} (λ b. cond b 1 0) not_yet in
            let is_named : names (take (j + 1) rows) row ≡ true = named_one_more rows j row l ∙ (ap (λ b. names (take j rows) row || b) (eq-eqb row row (omega arith)) ∙ or-true (names (take j rows) row)) in
            let named = ap {B = ℕ} (λ b. cond b 1 0) is_named in
            let few = can.small row (named_at rows j l) in
            omega (arith, reads, one, had, was, unnamed, named, few)

        go : (i : ℕ) → i < length before → Dec (i ≡ row) → quanta_at (numbers_of next) i ≡ quanta_at (numbers_of before) i + cond (names (take (j + 1) rows) i) 1 0
        go i m (yes same) =
            subst (λ k. quanta_at (numbers_of next) k ≡ quanta_at (numbers_of before) k + cond (names (take (j + 1) rows) k) 1 0) (sym same) here
        go i m (no other) =
            sym (number_at next i)
            ∙ (ap (λ q. q.0) (get_or-set_other after row i given zero_quanta other)
            ∙ (number_at after i
            ∙ (so.each i m
            ∙ ap (λ b. quanta_at (numbers_of before) i + cond b 1 0)
            (sym (named_one_more rows j i l ∙ (ap (λ b. names (take j rows) i || b) (ne_eqb row i (λ e. other (sym e))) ∙ or-false (names (take j rows) i)))))))

  -- At the end every row of the list has it.
  pub all_given : {after : List Quanta} {j : ℕ} → Gave rows before after j → length rows ≤ j → after ≡ counted (given (names rows) 0 (numbers_of before))
  all_given {after} {j} so past =
      sym (counted_back after) ∙ ap counted (ext_get_or 0 (numbers_of after) (given (names rows) 0 numbers) same_long each)
    where
      numbers : List ℕ
      numbers = numbers_of before

      same_long : length (numbers_of after) ≡ length (given (names rows) 0 numbers)
      same_long = as_many_numbers after ∙ (so.long ∙ (sym (as_many_numbers before) ∙ sym (how_many_given (names rows) 0 numbers)))

      each : (i : ℕ) → i < length (numbers_of after) → quanta_at (numbers_of after) i ≡ quanta_at (given (names rows) 0 numbers) i
      each i l =
          let there : i < length before = omega (arith, as_many_numbers after, so.long) in
          so.each i there
          ∙ (ap (λ x. quanta_at numbers i + cond (names x i) 1 0) (take_all j rows past)
          ∙ sym (given_at (names rows) 0 numbers i (omega (arith, as_many_numbers before)) ∙ ap (λ k. quanta_at numbers i + cond (names rows k) 1 0) {x = 0 + i} {y = i} (omega arith)))
