-- The loop over the slots. Assumes nothing.
use Prim.Native.Nat.{ℕ, ◌+◌}
use mathlib.Core.Path.{◌≡◌, refl, sym, ap, ap₂, ◌∙◌}
use mathlib.Core.List.{List}
use native.Mathlib.Numerals.{add-one}
use Rattle.cores.specs.Sets.{first_cores}
use Rattle.dispatcher.specs.declared.State.{State}
use Rattle.dispatcher.specs.Slot.{slot_of}
use Rattle.slots_run.specs.Slots.{slots_from}

module _ (start : State) (k : ℕ) (b₀ : List ℕ) where
  -- What is there after some of the slots.
  pub record SlotsSoFar (s : State) (b : List ℕ) (done : ℕ) : Type 0 where
    pub state : s ≡ (slots_from start k b₀ done).state
    pub bytes : b ≡ (slots_from start k b₀ done).bytes

  pub slots_begin : SlotsSoFar start b₀ 0
  unfolding slots_from
  slots_begin = record { state = refl; bytes = refl }

  -- one slot more
  one_more : (m : ℕ) → let left = slots_from start k b₀ m in let given = slot_of left.state (first_cores k) left.bytes 0 in
      ((slots_from start k b₀ (m + 1)).state ≡ given.state) × ((slots_from start k b₀ (m + 1)).bytes ≡ given.bytes)
  unfolding slots_from
  one_more m = rw (add-one m) (refl, refl)

  pub slots_go_on : {s after : State} {bytes written : List ℕ} {done : ℕ} → SlotsSoFar s bytes done →
      after ≡ (slot_of s (first_cores k) bytes 0).state → written ≡ (slot_of s (first_cores k) bytes 0).bytes → SlotsSoFar after written (done + 1)
  slots_go_on {done = done} so state bytes =
      let asked = ap₂ (λ s b. slot_of s (first_cores k) b 0) so.state so.bytes in
      record {
        state = state ∙ (ap (λ given. given.state) asked ∙ sym (one_more done).0);
        bytes = bytes ∙ (ap (λ given. given.bytes) asked ∙ sym (one_more done).1);
      }

  -- all slots
  pub slots_end : {s : State} {bytes : List ℕ} {done slots : ℕ} → SlotsSoFar s bytes done → done ≡ slots → SlotsSoFar s bytes slots
  slots_end so all = rw all at so
