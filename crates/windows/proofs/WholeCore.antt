-- Rows with e = p: windows of one slot, as p is 1·e. Assumes nothing.
use Prim.Native.Nat.{ℕ, ◌+◌, ◌-◌, ◌*◌, ◌≤◌, ◌<◌}
use mathlib.Core.Path.{◌≡◌, ◌∙◌}
use native.Mathlib.Omega.{arith}
use Rattle.windows.specs.Windows.{start, deadline, window_length}
use Rattle.windows.specs.Question.{last_subtask, window_reply}
use Rattle.windows.specs.WholeCore.{OneSlot, WholeCoreRows}
use Rattle.windows.proofs.Windows.{multiple_has_bit_0, start_of_multiple, deadline_of_multiple}
use Rattle.windows.proofs.Half.{bit_0_ends_at_once}
use Rattle.windows.proofs.Question.{is_fit, windows_are_answered}

one_slot : (p o i : ℕ) → 0 < p → 0 < i → OneSlot p o i
unfolding window_length
one_slot p o i period first =
    let whole : p ≡ 1 * p = omega arith in
    let starts : start p p o i ≡ o + (i - 1) = start_of_multiple p p o period 1 i whole ∙ omega arith in
    let ends : deadline p p o i ≡ o + i = deadline_of_multiple p p o period 1 i whole ∙ omega arith in
    let bit_is_0 = multiple_has_bit_0 p p 1 i whole in
    record {
      starts = starts;
      ends = ends;
      one_slot = omega arith;
      bit_is_0 = bit_is_0;
      group_is_d = bit_0_ends_at_once p p o i period (omega arith) bit_is_0;
    }

whole_is_answered : (p f i : ℕ) → 0 < p → 0 < i → i ≤ last_subtask → window_reply p p f i ≡ record { number = 0; r = f + (i - 1); d = f + i; b = 0; D = f + i }
whole_is_answered p f i period first last =
    let so = one_slot p f i period first in
    (windows_are_answered p p f i).if_fit (is_fit p p i period (omega arith) first last) ∙ rw (so.starts, so.bit_is_0, so.group_is_d, so.ends)

pub whole_core_rows : WholeCoreRows
whole_core_rows = record { windows = one_slot; answer = whole_is_answered }
