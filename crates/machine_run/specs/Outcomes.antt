-- How a step or an action of the code is one of the definition: the code's state goes on, and says beside it how the run ends.
use Rattle.member_link.specs.Machine.Worlds.{Halt, World, going, stopped, faulted, init_threw, array_too_long, stuck}
use Rattle.machine_step.specs.declared.world.Acted.{Acted}
use Rattle.machine_step.specs.declared.world.Acted.TheVariants as acted
use Rattle.machine_step.specs.declared.world.Outcome.{Outcome}
use Rattle.machine_step.specs.declared.world.Outcome.TheVariants as outcomes

-- how a run goes on behind a step
abbrev pub halt_of : Outcome → Halt
halt_of outcomes.Running = going
halt_of outcomes.LibraryTurn = going
halt_of outcomes.ArrayTooLong = array_too_long
halt_of outcomes.InitThrew = init_threw
halt_of outcomes.Stuck = stuck

-- how a run goes on behind an action
abbrev pub halt_behind : Acted → Halt
halt_behind acted.Done = going
halt_behind acted.Stopped = stopped
halt_behind acted.InitThrew = init_threw
halt_behind acted.Fault = faulted
halt_behind acted.Stuck = stuck

-- a world that goes on so
abbrev pub ended : Halt → World → World
ended halt w = record w { halt = halt }

-- what a step comes to that is not the library's
abbrev pub Steps : Outcome → Type 0
Steps outcomes.LibraryTurn = ⊥
Steps outcome = Unit {0}

-- what throwing, the end of a method and the beginning of a class come to
abbrev pub Lands : Outcome → Type 0
Lands outcomes.LibraryTurn = ⊥
Lands outcomes.ArrayTooLong = ⊥
Lands outcome = Unit {0}
