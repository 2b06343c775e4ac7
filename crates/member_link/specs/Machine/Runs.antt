-- A run of a program with a list of actions, and what it shows: at the library's turn the next action is taken, else a step.
use Rattle.std.specs.Prelude.{ℕ, zero, suc, ◌+◌, List, [], ◌∷◌, if◌then◌else◌}
use Rattle.machine_values.specs.declared.action.Action.{Action}
use Rattle.machine_values.specs.declared.event.End.{End}
use Rattle.machine_values.specs.declared.event.End.TheVariants as ends
use Rattle.machine_values.specs.declared.event.Shown.{Shown}
use Rattle.member_link.specs.Machine.Acting.{act, is_fault}
use Rattle.member_link.specs.Machine.Programs.{Program}
use Rattle.member_link.specs.Machine.Stepping.{step, is_library_turn}
use Rattle.member_link.specs.Machine.Worlds.{World, Halt, start, going, stopped, faulted, init_threw, array_too_long, stuck}

-- a world, the actions that are left, and the number of the next one
pub record Run : Type 0 where
  pub world : World
  pub actions : List Action
  pub used : ℕ

abbrev pub begins_with : List Action → Run
begins_with actions = record { world = start; actions = actions; used = 0 }

-- an action that is a fault is not used
abbrev pub behind_action : Run → List Action → World → Run
behind_action r actions w =
    if is_fault w.halt
    then record r { world = w }
    else record { world = w; actions = actions; used = r.used + 1 }

abbrev pub at_library_turn : Program → Run → List Action → Run
at_library_turn P r [] = r
at_library_turn P r (action ∷ actions) = behind_action r actions (act P action r.world)

-- a run that goes on
abbrev pub going_turn : Program → Run → Run
going_turn P r =
    if is_library_turn r.world.frames
    then at_library_turn P r r.actions
    else record r { world = step P r.world }

abbrev pub turn_by : Program → Run → Halt → Run
turn_by P r going = going_turn P r
turn_by P r halt = r

-- One turn. A run that ended, or waits for an action, stays as it is.
abbrev pub turn : Program → Run → Run
turn P r = turn_by P r r.world.halt

-- so many turns
abbrev pub turns : Program → ℕ → Run → Run
turns P zero r = r
turns P (suc count) r = turns P count (turn P r)

-- ---- what is shown

-- a run that goes on waits where it is the library's turn and no action is left; else its steps are used up
abbrev pub end_of_going : Run → End
end_of_going r = if is_library_turn r.world.frames then of_actions r.actions else ends.Running where
  of_actions : List Action → End
  of_actions [] = ends.Waits
  of_actions (action ∷ actions) = ends.Running

abbrev pub end_of : Run → End
end_of r = of_halt r.world.halt where
  of_halt : Halt → End
  of_halt going = end_of_going r
  of_halt stopped = ends.Stopped
  of_halt faulted = ends.LibraryFault r.used
  of_halt init_threw = ends.InitThrew
  of_halt array_too_long = ends.ArrayTooLong
  of_halt stuck = ends.Stuck

abbrev pub shown : Run → Shown
shown r = record { events = r.world.events; end = end_of r }

-- what a program shows in at most so many steps
abbrev pub shown_after : Program → List Action → ℕ → Shown
shown_after P actions count = shown (turns P count (begins_with actions))
