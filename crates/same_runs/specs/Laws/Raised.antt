-- Both runs raise the same exception, each by an operation of its own.
use Rattle.std.proofs.Common.{◌≡◌, List, []}
use Rattle.class_tree.specs.Headers.{Name}
use Rattle.machine_values.specs.declared.frame.RunFrame.{RunFrame}
use Rattle.member_link.specs.Machine.Performing.{raised}
use Rattle.member_link.specs.Machine.Programs.{Program}
use Rattle.member_link.specs.Machine.Runs.{Run, turn}
use Rattle.member_link.specs.Machine.Worlds.{going}
use Rattle.same_runs.specs.Renamings.{Names, NamesMore}
use Rattle.same_runs.specs.SameFrames.{Unwinds}
use Rattle.same_runs.specs.SameMemories.{SameMemories}
use Rattle.same_runs.specs.SamePrograms.{SamePrograms}
use Rattle.same_runs.specs.SameWorlds.{Comparison, Compares, SameSeen}
use Rattle.same_runs.specs.Simulations.{at_once}
use Rattle.same_runs.specs.Laws.BothBegin.{counted}
use Rattle.same_runs.specs.Laws.CaughtUp.{BothTurn}
use Rattle.same_runs.specs.Laws.Performed.{raised_same}

-- A turn of each that raises an exception of the class is a turn of both: the object is made in both, and ends at the same place.
pub raises_both :
    {P Q : Program} {c : Comparison} {names : Names} {one other : Run} (class : Name) (ones others : List RunFrame)
    → SamePrograms P Q
    → Compares c
    → SameMemories P c.allocated c.entered c.apart names [] one.world.memory other.world.memory
    → SameSeen c names one.world other.world
    → one.world.halt ≡ going
    → other.world.halt ≡ going
    → turn P one ≡ record one { world = raised P (counted one) class ones }
    → turn Q other ≡ record other { world = raised Q (counted other) class others }
    → ((more : Names) → NamesMore names more → Unwinds P Q c.frames c.lands more ones others)
    → BothTurn P Q c names one other
raises_both {P = P} {Q = Q} {one = one} {other = other} class ones others same compares memories seen goes goes_also turned turned_also unwinds =
    record {
      waits = other;
      quietly = at_once;
      first = raised P (counted one) class ones;
      second = raised Q (counted other) class others;
      turned = turned;
      turned_also = turned_also;
      after =
          raised_same same compares {first = counted one} {second = counted other} class memories
          (record { known = seen.known; events = seen.events }) goes goes_also unwinds;
    }
