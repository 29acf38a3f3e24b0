use mathlib.Core.Path.{◌≡◌, refl, ap, ap₂, ◌∙◌}
use Prim.Native.Nat.{◌+◌}
use native.Mathlib.Omega.{arith}
use Rattle.std.specs.Prelude.{Ok}
use Rattle.counts.specs.Numbers.{counted}
use Rattle.pd2.specs.Choice.{given}
use Rattle.trace.specs.Records.{names}
use Rattle.dispatcher.specs.Answer.{said_of, ran_of}
use Rattle.dispatcher.specs.State.{quanta_in, time_of}
use Rattle.dispatcher.specs.Slot.{stepped}
use Rattle.dispatcher.proofs.Stepping.{gives_to_rows, by_lowest, lowest_then}
use Rattle.dispatcher.proofs.State.one_on.Goals as goal

pub give-self-requires : goal.give-self-requires
give-self-requires c = gives_to_rows c.args.self c.requires

pub returns : goal.returns
returns c =
    let a = c.args in
    let law = by_lowest (stepped a.self a.rows.now a.placed) a.late (lowest_then a.self c.requires a.placed) in
    let now : c.later-self.result.0 ≡ time_of a.self + 1 = omega (arith, c.requires.slot_left) in
    record {
      said = ap (λ ran. said_of (Ok ran)) c.ended.ensures ∙ (ap (λ t. said_of (Ok (ran_of a.late (record { 0 = t })))) now ∙ law.0);
      placed = refl;
      state =
          ap₂ (λ t q. record { table = a.self.table; time = record { 0 = t }; stopped = c.is_some.result; quanta = q; last = a.placed }) now c.give-self.ensures
          ∙ ap (λ stopped. record { table = a.self.table; time = record { 0 = time_of a.self + 1 }; stopped = stopped; quanta = counted (given (names a.rows.now) 0 (quanta_in a.self)); last = a.placed }) (c.is_some.ensures ∙ law.1);
    }
