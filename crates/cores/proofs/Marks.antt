-- For the code: marks of the numbers that have been met. Assumes nothing.
use Prim.Native.Nat.{ℕ, ◌+◌, ◌≤◌, ◌<◌}
use mathlib.Core.Path.{◌≡◌, sym, ap, ◌∙◌}
use mathlib.Core.List.{List}
use mathlib.Core.Bool.{Bool, true, false}
use native.Mathlib.Decide.{ℕ_discrete}
use native.Mathlib.Omega.{arith}
use borrow.Author.Tests.{eq-eqb, ne_eqb}
use lib.Dec.{ltb, eqb}
use lib.ListN.{length, get_or, set, replicate, length-set}
use lib.Seq.{get_or-set_same, get_or-set_other}
use Rattle.facts.specs.Counting.{some}
use Rattle.facts.proofs.Counting.{uncounted_if_failed}
use Rattle.facts.proofs.Some.{some_if, none_if}
use Rattle.facts.proofs.Filling.{filling_begins}

-- The numbers at the first i places are marked, and no others.
pub record Marked (at : ℕ → ℕ) (size i : ℕ) (marks : List Bool) : Type 0 where
  pub long : length marks ≡ size
  pub says : (x : ℕ) → x < size → get_or marks x false ≡ some (λ j. eqb (at j) x) i

module _ (at : ℕ → ℕ) (size : ℕ) where
  -- It begins with no mark,
  pub marking_begins : Marked at size 0 (replicate size false)
  marking_begins =
      let empty = filling_begins (λ _. false) false false size in
      record { long = empty.long; says = λ x l. empty.rest x (omega arith) l ∙ sym (none_if (λ j. eqb (at j) x) 0 (λ j h. absurd (omega arith))) }

  module _ {i x : ℕ} {marks : List Bool} (so : Marked at size i marks) (here : x ≡ at i) where
    -- one number more is marked,
    pub marks_one_more : x < size → Marked at size (i + 1) (set marks x true)
    marks_one_more l = record { long = length-set marks x true ∙ so.long; says = λ y h. go y h (ℕ_discrete x y) }
      where
        go : (y : ℕ) → y < size → Dec (x ≡ y) → get_or (set marks x true) y false ≡ some (λ j. eqb (at j) y) (i + 1)
        go y h (yes e) =
            rw (← e)
            (get_or-set_same marks x true false (omega (arith, so.long)) ∙ sym (some_if (λ j. eqb (at j) x) (i + 1) i (omega arith) (eq-eqb (at i) x (sym here))))
        go y h (no n) =
            get_or-set_other marks x y true false (λ e. n (sym e))
            ∙ so.says y h
            ∙ ap (ltb 0) (sym (uncounted_if_failed (λ j. eqb (at j) y) i (ne_eqb (at i) y (λ e. n (here ∙ e)))))

    -- and one that is too large is not.
    pub marks_no_more : size ≤ x → Marked at size (i + 1) marks
    marks_no_more l =
        record {
          long = so.long;
          says = λ y h. so.says y h ∙ ap (ltb 0) (sym (uncounted_if_failed (λ j. eqb (at j) y) i (ne_eqb (at i) y (λ e. omega arith))));
        }
