-- A run as the code holds it: the world goes on, so many actions are used, and how it ends is told beside it.
use Rattle.std.specs.Prelude.{◌≡◌, ℕ, List, drop, Option, Some, None}
use Rattle.machine_values.specs.declared.action.Action.{Action}
use Rattle.machine_values.specs.declared.event.End.{End}
use Rattle.machine_values.specs.declared.event.End.TheVariants as ends
use Rattle.member_link.specs.Machine.Programs.{Program}
use Rattle.member_link.specs.Machine.Runs.{Run, begins_with, end_of, shown, turn, turns}
use Rattle.member_link.specs.Machine.Worlds.{World, Halt, going, stopped, faulted, init_threw, array_too_long, stuck}

-- a run of these actions, of which so many are used
abbrev pub run_at : World → List Action → ℕ → Run
run_at w actions used = record { world = w; actions = drop used actions; used = used }

-- how a run ends that is no fault, if it ends
abbrev pub end_behind : Halt → Option End
end_behind going = None
end_behind stopped = Some ends.Stopped
end_behind faulted = None
end_behind init_threw = Some ends.InitThrew
end_behind array_too_long = Some ends.ArrayTooLong
end_behind stuck = Some ends.Stuck

-- a run that ended or waits, with the events of a world
pub record HasEnded (P : Program) (r : Run) (w : World) (end : End) : Type 0 where
  pub stays : turn P r ≡ r
  pub events : r.world.events ≡ w.events
  pub ended : end_of r ≡ end

-- so many turns of a run: it goes on so, or ended
abbrev pub IsTurned :
    Program → List Action → ℕ → World → ℕ → World → ℕ → Option End → Type 0
IsTurned P actions count before used after more None =
    turns P count (run_at before actions used) ≡ run_at after actions more
IsTurned P actions count before used after more (Some end) =
    HasEnded P (turns P count (run_at before actions used)) after end

-- so many turns show the events of a world and an end
abbrev pub HasRun : Program → List Action → ℕ → World → End → Type 0
HasRun P actions count w end =
    shown (turns P count (begins_with actions)) ≡ record { events = w.events; end = end }
