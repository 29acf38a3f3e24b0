-- For the code: counting the marks of a list from a number on. Assumes nothing.
use Prim.Native.Nat.{ℕ, zero, suc, ◌+◌, ◌-◌, ◌≤◌, ◌<◌}
use mathlib.Core.Path.{◌≡◌, refl, sym, ap, ◌∙◌}
use mathlib.Core.List.{List}
use mathlib.Core.Bool.{Bool, true, false, ◌&&◌, and-false}
use native.Mathlib.Nat.{add-zero}
use native.Mathlib.Numerals.{add-one}
use native.Mathlib.Omega.{arith}
use borrow.Author.Tests.{le-leb, lt-leb}
use lib.Dec.{leb}
use lib.ListN.{length, get_or, take, drop, length-drop}
use lib.Seq.{get_or-drop}
use Rattle.std.specs.List.{count_by}
use Rattle.std.proofs.lemmas.List.Sums.{count_by_more_yes, count_by_more_no}
use Rattle.facts.specs.Counting.{how_many}
use Rattle.facts.proofs.Counting.{counted_if_passed, uncounted_if_failed, same_count, how_many_never}
use Rattle.facts.proofs.Tests.{hold_both}

-- What is marked and not below the least.
abbrev pub from_least : List Bool → ℕ → ℕ → Bool
from_least marks least i = get_or marks i false && leb least i

module _ (marks : List Bool) (least : ℕ) where
  -- below the least there are none
  none_below : how_many (from_least marks least) least ≡ 0
  none_below =
      same_count (from_least marks least) (λ i. false) least (λ i h. ap (λ t. get_or marks i false && t) (lt-leb least i h) ∙ and-false (get_or marks i false))
      ∙ how_many_never least

  -- and each of the next is counted if it is marked,
  next_counted : (i : ℕ) → least + i ≤ length marks → count_by (λ mark. mark) (take i (drop least marks)) ≡ how_many (from_least marks least) (least + i)
  next_counted zero l = sym (ap (how_many (from_least marks least)) (add-zero least) ∙ none_below)
  next_counted (suc i) l = go (next_counted i (omega arith)) (get_or marks (least + i) false) refl
    where
      rest : List Bool
      rest = drop least marks

      there : i < length rest
      there = omega (arith, length-drop least marks)

      one_more : how_many (from_least marks least) (least + i + 1) ≡ how_many (from_least marks least) (least + suc i)
      one_more = ap (how_many (from_least marks least)) {x = least + i + 1} {y = least + suc i} (omega arith)

      go : count_by (λ mark. mark) (take i rest) ≡ how_many (from_least marks least) (least + i) → (t : Bool) → get_or marks (least + i) false ≡ t →
          count_by (λ mark. mark) (take (suc i) rest) ≡ how_many (from_least marks least) (least + suc i)
      go before true e =
          ap (λ k. count_by (λ mark. mark) (take k rest)) (sym (add-one i))
          ∙ count_by_more_yes (λ mark. mark) rest i false there (get_or-drop least marks i false ∙ e)
          ∙ ap (λ k. k + 1) before
          ∙ sym (counted_if_passed (from_least marks least) (least + i) (hold_both e (le-leb least (least + i) (omega arith))))
          ∙ one_more
      go before false e =
          ap (λ k. count_by (λ mark. mark) (take k rest)) (sym (add-one i))
          ∙ count_by_more_no (λ mark. mark) rest i false there (get_or-drop least marks i false ∙ e)
          ∙ before
          ∙ sym (uncounted_if_failed (from_least marks least) (least + i) (ap (λ t. t && leb least (least + i)) e))
          ∙ one_more

  -- so that all from the least on are counted.
  pub counted_from : least ≤ length marks → count_by (λ mark. mark) (take (length marks - least) (drop least marks)) ≡ how_many (from_least marks least) (length marks)
  counted_from l =
      next_counted (length marks - least) (omega arith)
      ∙ ap (how_many (from_least marks least)) {x = least + (length marks - least)} {y = length marks} (omega arith)
