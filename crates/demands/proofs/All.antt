-- All that this crate states is proved. Assumes nothing.
use Rattle.demands.specs.All.{All}
use Rattle.demands.proofs.Determined.{every_promise_determines}
use Rattle.demands.proofs.Cases.{cases}
use Rattle.demands.proofs.Meanings.{meanings}
use Rattle.demands.proofs.One.{demand_one}
use Rattle.demands.proofs.Two.{demand_two}
use Rattle.demands.proofs.Three.{demand_three}
use Rattle.demands.proofs.Bench.{bench_holds}
use Rattle.demands.proofs.Laws.{laws_hold}
use Rattle.demands.proofs.Confession.{confession}
use Rattle.demands.proofs.ShutOut.{shut_out}
use Rattle.demands.proofs.NeverLate.{never_late}
use Rattle.demands.proofs.Cores.{cores}
use Rattle.demands.proofs.Why.{why}
use Rattle.demands.proofs.HalfIsHeavy.{half_is_heavy}
use Rattle.demands.proofs.LongWalk.{long_walk}
use Rattle.demands.proofs.WritingTables.{writing_tables}
use Rattle.demands.proofs.WholeCore.{whole_core}
use Rattle.demands.proofs.ShorterSlots.{shorter_slots}
use Rattle.demands.proofs.KindTies.{kind_ties}
use Rattle.demands.proofs.HeldBack.{one_core_held_back}

pub all : All
all =
    record {
      determined = every_promise_determines;
      cases = cases;
      meanings = meanings;
      one = demand_one;
      two = demand_two;
      three = demand_three;
      bench = bench_holds;
      laws = laws_hold;
      confession = confession;
      shut_out = shut_out;
      never_late = never_late;
      cores = cores;
      why = why;
      half_is_heavy = half_is_heavy;
      long_walk = long_walk;
      writing_tables = writing_tables;
      whole_core = whole_core;
      shorter_slots = shorter_slots;
      kind_ties = kind_ties;
      held_back = one_core_held_back;
    }
