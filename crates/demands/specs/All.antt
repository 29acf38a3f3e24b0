-- All that is promised, in one record: whoever reads it has seen every statement, and its one theorem (proofs/All.antt) proves them all. The gate
-- asks for each of these fields by name and type. A statement in the specs of another crate that it does not lead to is a step of a proof, or of one crate alone.
use Rattle.demands.specs.Determined.{EveryPromiseDetermines}
use Rattle.demands.specs.Cases.{Cases}
use Rattle.demands.specs.Meanings.{Meanings}
use Rattle.demands.specs.One.{DemandOne}
use Rattle.demands.specs.Two.{DemandTwo}
use Rattle.demands.specs.Three.{DemandThree}
use Rattle.demands.specs.Bench.{BenchHolds}
use Rattle.demands.specs.Laws.{LawsHold}
use Rattle.demands.specs.Confession.{Confession}
use Rattle.demands.specs.ShutOut.{ShutOut}
use Rattle.demands.specs.NeverLate.{NeverLate}
use Rattle.demands.specs.Cores.{Cores}
use Rattle.demands.specs.Why.{Why}
use Rattle.demands.specs.HalfIsHeavy.{HalfIsHeavy}
use Rattle.demands.specs.LongWalk.{LongWalk}
use Rattle.demands.specs.WritingTables.{WritingTables}
use Rattle.demands.specs.WholeCore.{WholeCore}
use Rattle.demands.specs.ShorterSlots.{ShorterSlots}
use Rattle.demands.specs.KindTies.{KindTies}
use Rattle.demands.specs.HeldBack.{HeldBack}

pub record All : Type 0 where
  -- "any two results allowed are equal", of every public function
  pub determined : EveryPromiseDetermines
  -- 01's number and values for each case of an answer
  pub cases : Cases
  -- what the definitions mean that the demands speak of, in 01's numbers and bytes
  pub meanings : Meanings
  -- the three demands
  pub one : DemandOne
  pub two : DemandTwo
  pub three : DemandThree
  -- the bench values that 01 marks P, one as 02, Three mends it, and our own table of the numbers, orders and limits of 01 and 02
  pub bench : BenchHolds
  pub laws : LawsHold
  -- what the last version did wrong
  pub confession : Confession
  -- what "must be shut out"
  pub shut_out : ShutOut
  -- what a planner may count on
  pub never_late : NeverLate
  -- "a core for each picked row, with as few moves as can be"
  pub cores : Cores
  -- "The reason given must be the true one and the only true one in that list"
  pub why : Why
  -- "Show that no pick changes, since such a row's b is always 0"
  pub half_is_heavy : HalfIsHeavy
  -- "D is f + ceil(g·p/(p-e)) where g = ceil(d·(p-e)/p). What the answer promises stays"
  pub long_walk : LongWalk
  -- "write the table bytes into a lent buffer"
  pub writing_tables : WritingTables
  -- "Such a row has windows of one slot, b = 0, and D = d": until a row is late, one with e = p has a core in every slot
  pub whole_core : WholeCore
  -- "The time limit rises to 1,000,000,000,000", and a trace's slots do not
  pub shorter_slots : ShorterSlots
  -- "among full ties, a row picked in the previous slot goes first, then the lower row number"
  pub kind_ties : KindTies
  -- "Slots past the k list now use M - 1, and 1 if M is 1."
  pub held_back : HeldBack
