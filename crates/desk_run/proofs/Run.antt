-- The loop over the slots, and the bytes behind a record. Assumes nothing.
use Prim.Native.Nat.{ℕ, ◌+◌, ◌*◌, ◌≤◌, ◌<◌}
use mathlib.Core.Path.{◌≡◌, refl, sym, ap, ap₂, ◌∙◌}
use mathlib.Core.List.{List, ◌++◌, flat_map}
use native.Mathlib.Nat.{div-mul-le_self}
use native.Mathlib.Numerals.{add-one}
use native.Mathlib.Omega.{arith}
use lib.ListN.{length, length-append}
use lib.Seq.{sets}
use Rattle.facts.proofs.Storing.{stored_behind}
use Rattle.facts.proofs.Joining.{joined_long}
use Rattle.fields.specs.Fields.{byte, bytes_of}
use Rattle.fields.proofs.Numbers.{bytes_long}
use Rattle.trace.specs.Said.{Said}
use Rattle.cores.specs.declared.Placement.{Placement}
use Rattle.cores.specs.Sets.{first_cores}
use Rattle.dispatcher.specs.declared.State.{State}
use Rattle.dispatcher.specs.Slot.{SlotReply, slot_of}
use Rattle.desk_run.specs.Run.{entry_length, entered, run_from, slots_run}

-- what stands behind a record: the cores, the number and the row
abbrev pub reply : List ℕ → ℕ → ℕ → List ℕ
reply cores number row = flat_map (bytes_of 1) cores ++ bytes_of 1 number ++ bytes_of 1 row

-- Eight cores, the number at the place behind them and the row behind that are a reply,
pub reply_is_there : (b cores : List ℕ) (at number row : ℕ) → length cores ≡ 8 → {w₁ w₂ w₃ : List ℕ} → w₁ ≡ sets b at (flat_map (bytes_of 1) cores) →
    w₂ ≡ sets w₁ (at + 8) (bytes_of 1 number) → w₃ ≡ sets w₂ (at + 9) (bytes_of 1 row) → w₃ ≡ sets b at (reply cores number row)
reply_is_there b cores at number row eight p₁ p₂ p₃ =
    let all = flat_map (bytes_of 1) cores in
    let long = joined_long (bytes_of 1) 1 (bytes_long 1) cores in
    let q₂ = stored_behind b all (bytes_of 1 number) at p₁ (omega (arith, long, eight)) p₂ in
    stored_behind b (all ++ bytes_of 1 number) (bytes_of 1 row) at q₂ (omega (arith, length-append all (bytes_of 1 number), bytes_long 1 number, long, eight)) p₃

-- and the reply of a slot at place 10 behind its record makes its entry.
pub entry_is_there : (given : SlotReply) (at : ℕ) {said : Said} {placed : Placement} {w₁ w₂ : List ℕ} → said ≡ given.said → placed ≡ given.placed → w₁ ≡ given.bytes →
    w₂ ≡ sets w₁ (at + 10) (reply placed.cores said.number said.row) → w₂ ≡ entered given at
unfolding entered
entry_is_there given at said placed bytes p = p ∙ (λ z. sets (bytes z) (at + 10) (reply (placed z).cores (said z).number (said z).row))

module _ (start : State) (list b₀ : List ℕ) where
  -- What is there after some of the slots.
  pub record RanSoFar (s : State) (b : List ℕ) (done : ℕ) : Type 0 where
    pub within : done ≤ slots_run list b₀
    pub state : s ≡ (run_from start list b₀ done).state
    pub bytes : b ≡ (run_from start list b₀ done).bytes
    pub long : length b ≡ length b₀

  -- Before the first slot it holds,
  pub run_begins : RanSoFar start b₀ 0
  unfolding run_from
  run_begins = record { within = omega arith; state = refl; bytes = refl; long = refl }

  -- what one slot more leaves
  one_more : (m : ℕ) →
      let left = run_from start list b₀ m in
      let at = entry_length * m in
      let given = slot_of left.state (first_cores (byte list m)) left.bytes at in
      ((run_from start list b₀ (m + 1)).state ≡ given.state) × ((run_from start list b₀ (m + 1)).bytes ≡ entered given at)
  unfolding run_from
  one_more m = rw (add-one m) (refl, refl)

  module _ {s : State} {b : List ℕ} {done : ℕ} (so : RanSoFar s b done) where
    -- in the buffer there is room for the next slot's entry,
    pub room_for_one : done < slots_run list b₀ → entry_length * done + entry_length ≤ length b
    room_for_one h = omega (arith, h, so.long, div-mul-le_self (length b₀) entry_length)

    -- with which it holds again,
    pub run_goes_on : {after : State} {written : List ℕ} → done < slots_run list b₀ →
        let given = slot_of s (first_cores (byte list done)) b (entry_length * done) in
        after ≡ given.state → written ≡ entered given (entry_length * done) → length written ≡ length b → RanSoFar after written (done + 1)
    run_goes_on h state bytes keeps =
        let asked = ap₂ (λ s b. slot_of s (first_cores (byte list done)) b (entry_length * done)) so.state so.bytes in
        record {
          within = omega (arith, h);
          state = state ∙ (ap (λ given. given.state) asked ∙ sym (one_more done).0);
          bytes = bytes ∙ (ap (λ given. entered given (entry_length * done)) asked ∙ sym (one_more done).1);
          long = keeps ∙ so.long;
        }

    -- and after the last slot all is there.
    pub run_ends : slots_run list b₀ ≤ done → (s ≡ (run_from start list b₀ (slots_run list b₀)).state) × (b ≡ (run_from start list b₀ (slots_run list b₀)).bytes)
    run_ends h =
        let all : done ≡ slots_run list b₀ = omega (arith, h, so.within) in
        (so.state ∙ ap (λ m. (run_from start list b₀ m).state) all, so.bytes ∙ ap (λ m. (run_from start list b₀ m).bytes) all)
