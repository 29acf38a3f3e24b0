-- What the tests of a slot tell one after the other, for the cause that refuses it. Assumes nothing.
use mathlib.Core.Path.{◌≡◌, refl, sym, ap, ◌∙◌}
use mathlib.Core.List.{List}
use mathlib.Core.Bool.{Bool, true, false}
use Prim.Native.Nat.{ℕ, ◌≤◌, min}
use native.Mathlib.Omega.{arith}
use lib.ListN.{length}
use Rattle.std.specs.Prelude.{Option, Some, None, is_some, Result, Ok, Err, ok_or}
use Rattle.counts.specs.Limits.{time_limit}
use Rattle.table.specs.declared.Fault.{Fault}
use Rattle.table.specs.declared.Table.{Table}
use Rattle.table.specs.Reply.{fault_said}
use Rattle.table.proofs.Numbers.{is_fault}
use Rattle.table.specs.Value.{fault_of}
use Rattle.choice.specs.Arrays.{InPlace}
use Rattle.choice.specs.Choice.{favours_marked}
use Rattle.cores.specs.Sets.{size}
use Rattle.cores.specs.Fault.{misremembers, below}
use Rattle.dispatcher.specs.declared.State.{State}
use Rattle.dispatcher.specs.State.{rows_in, quanta_in, time_of}
use Rattle.dispatcher.specs.declared.Refusal.{Refusal}
use Rattle.dispatcher.specs.declared.Refusal.TheVariants.{Broken, AtLimit}
use Rattle.dispatcher.specs.Broken.{broken}
use Rattle.dispatcher.specs.Slot.{picks_in}
use Rattle.dispatcher.specs.Favoured.{favoured_marks}
use Rattle.dispatcher.specs.Usable.{ArraysLong}
use Rattle.dispatcher.specs.Looking.{row_breaks, ReadyKeys}
use Rattle.dispatcher.specs.Tests.{KeysReady, ReadyOrBroken, RefusesAny, Refuses}
use Rattle.dispatcher.proofs.Refused.{first_30, first_32}
use Rattle.dispatcher.proofs.Whole.{is_whole}
use Rattle.dispatcher.proofs.Favoured.{keys_by_marks}
use Rattle.dispatcher.proofs.BrokenBy.{in_place, by_memory}
use Rattle.dispatcher.proofs.Picking.{picks_are_counted}

-- Whether a table has a fault, by what is answered of it.
module _ (t : Table) (fault : Option Fault) (said : fault_said fault ≡ fault_of t) {some : Bool} (asked : some ≡ is_some fault) where
  pub faultless : some ≡ false → fault_of t ≡ 0
  faultless none = sym said ∙ go fault (sym asked ∙ none)
    where
      go : (fault : Option Fault) → is_some fault ≡ false → fault_said fault ≡ 0
      go None e = refl
      go (Some fault) e = absurd (cc)

  pub faulty : some ≡ true → fault_of t ≡ 0 → ⊥
  faulty there none = go fault (sym asked ∙ there) (said ∙ none)
    where
      go : (fault : Option Fault) → is_some fault ≡ true → fault_said fault ≡ 0 → ⊥
      go None e = absurd (cc)
      go (Some fault) e = is_fault fault

-- What the first tests say where they pass, and the arrays,
pub record Sound (s : State) : Type 0 where
  pub no_fault : fault_of s.table ≡ 0
  pub in_time : time_of s ≤ time_limit
  pub arrays : InPlace s.table.rows s.quanta s.table.n

pub so_far : (s : State) {time : ℕ} → fault_of s.table ≡ 0 → time ≡ time_of s → time ≤ time_limit → ArraysLong s → Sound s
so_far s no_fault now early long =
    record { no_fault = no_fault; in_time = omega (arith, now, early); arrays = in_place s no_fault long.0 long.1 }

module _ {s : State} (sound : Sound s) where
  -- then the state is broken, where no row breaks it, exactly if its memory is,
  pub by_last : row_breaks (rows_in s) (quanta_in s) (time_of s) s.stopped ≡ false → {faulty : Bool} → faulty ≡ misremembers s.last (below s.table.n) s.table.cores → faulty ≡ broken s
  by_last none is =
      is ∙ (ap (λ n. misremembers s.last (below n) s.table.cores) (sym sound.arrays.all) ∙ by_memory s sound.no_fault sound.in_time none)

  -- and the keys that were found are those of its ready rows.
  pub keys_found : {keys : List ℕ} {found : ℕ} → ReadyKeys (rows_in s) (quanta_in s) (favours_marked (favoured_marks s)) (time_of s) keys found → KeysReady s keys found
  keys_found ready = keys_by_marks s (omega (arith, sound.arrays.few, sound.arrays.all)) refl ready

-- At the time limit a slot is refused with 32, whatever comes behind: said of all that the tests before have found, so that the test for the limit alone is asked for.
pub at_limit_then : (s : State) (free : List Bool) {now : ℕ} → broken s ≡ false → s.stopped ≡ false → now ≡ time_of s → time_limit ≤ now → RefusesAny s free AtLimit
at_limit_then s free whole runs is late =
    let at_limit : time_of s ≡ time_limit = omega (arith, is, late, (is_whole s whole).time) in
    record { met = λ buffer place. sym (first_32 s free buffer place whole runs at_limit) }

-- A state that is broken is refused, and else what its rows say is kept.
module _ (s : State) (keys : List ℕ) (answer : Option ℕ) (so : ReadyOrBroken s keys answer) {result : Result ℕ Refusal} (is : result ≡ ok_or answer Broken) where
  pub found_whole : {found : ℕ} → result ≡ Ok found → (broken s ≡ false) × (s.stopped ≡ false → KeysReady s keys found)
  found_whole {found} e = go answer so (sym e ∙ is)
    where
      go : (answer : Option ℕ) → ReadyOrBroken s keys answer → Ok found ≡ ok_or answer Broken → (broken s ≡ false) × (s.stopped ≡ false → KeysReady s keys found)
      go None so e = absurd (cc)
      go (Some x) so e = let same : x ≡ found = cc in rw (sym same) so

  pub refused_as_broken : {why : Refusal} → result ≡ Err why → (free : List Bool) (len place : ℕ) → Refuses s free len place why
  refused_as_broken {why} e free len place = go answer so (sym e ∙ is)
    where
      go : (answer : Option ℕ) → ReadyOrBroken s keys answer → Err why ≡ ok_or answer Broken → Refuses s free len place why
      go None so e = let same : why ≡ Broken = cc in λ buffer long. rw same (sym (first_30 s free buffer place so))
      go (Some x) so e = absurd (cc)

-- The picked rows are counted.
pub counted : (s : State) (free : List Bool) {keys : List ℕ} {found picked k : ℕ} → KeysReady s keys found → picked ≡ min k found → k ≡ size free → picked ≡ length (picks_in s (size free))
counted s free {found = found} ready is all = is ∙ (ap (λ k. min k found) all ∙ sym (picks_are_counted s (size free) ready))
