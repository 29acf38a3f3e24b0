-- A core for each picked row. Assumes nothing.
use Prim.Native.Nat.{ℕ, ◌<◌}
use mathlib.Core.Path.{◌≡◌, refl, sym, ◌∙◌}
use mathlib.Core.Bool.{false}
use mathlib.Core.Logic.{◌↔◌}
use borrow.Author.Tests.{ltb-true, lt-ltb}
use Rattle.counts.specs.Limits.{time_limit}
use Rattle.table.proofs.Taken.{sizes_are_within}
use Rattle.cores.specs.Sets.{first_cores, FirstAre}
use Rattle.cores.proofs.Best.{cores_are_best}
use Rattle.cores.proofs.Examples.{examples}
use Rattle.cores.proofs.Fault.{misremembers_or_remembers, no_more_than_cores}
use Rattle.cores.proofs.Sets.{first_cores_are_k}
use Rattle.cores.proofs.Past.{size_is_marks, past_exactly}
use Rattle.cores.proofs.Means.{placed_alone}
use Rattle.dispatcher.specs.declared.State.{State}
use Rattle.dispatcher.specs.State.{time_of}
use Rattle.dispatcher.proofs.RunKept.{memory_is_last_record}
use Rattle.dispatcher.proofs.Placed.{done_gets_best_cores, slot_is_remembered, done_as_with_its_size, cores_have_no_part}
use Rattle.printer.specs.Text.{record_buffer, asked_of}
use Rattle.demands.specs.One.{NotBroken}
use Rattle.demands.specs.Cores.{Cores}
use Rattle.demands.proofs.Refusals.{slot_exactly}

-- The first k cores name one that is not there exactly if k is above M.
printer_35 : (s : State) (k : ℕ) → NotBroken s → s.stopped ≡ false → time_of s < time_limit → ((asked_of s k).said.number ≡ 35) ↔ (s.table.cores < k)
printer_35 s k whole runs slot_left =
    let exactly = (slot_exactly s (first_cores k) record_buffer 0).is_35 in
    let past = past_exactly s.table.cores (first_cores k) in
    let first : FirstAre s.table.cores k = first_cores_are_k s.table.cores k (sizes_are_within s.table whole.table).1.1 in (
      λ e. ltb-true s.table.cores k (sym first.past ∙ past.1 (exactly.0 e).3),
      λ above. exactly.1 (whole, runs, slot_left, past.0 (first.past ∙ lt-ltb s.table.cores k above)),
    )

pub cores : Cores
cores =
    record {
      best = done_gets_best_cores;
      exactly = cores_are_best;
      alone = placed_alone;
      examples = examples;
      remembered = slot_is_remembered;
      fresh = λ t. refl;
      in_run = memory_is_last_record;
      size_is = size_is_marks;
      as_with = done_as_with_its_size;
      no_part = cores_have_no_part;
      printer = first_cores_are_k;
      printer_35 = printer_35;
      memory = misremembers_or_remembers;
      no_more = no_more_than_cores;
    }
