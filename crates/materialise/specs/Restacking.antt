-- What make code saves of the operand stack, by the numbers of local units.
use Rattle.std.specs.Prelude.{ℕ, List, map}
use Rattle.flow_code.specs.FlatCode.{FlatCode}
use Rattle.making_code.specs.MakeCode.{SavedPlace, restack}
use Rattle.making_code.specs.Units.{unit_number}
use Rattle.materialise.specs.declared.stack.Restacked.{Restacked}
use Rattle.virtual_state.specs.States.{State}

abbrev pub restack_of : FlatCode → SavedPlace → Restacked
restack_of flat saved = record { place = saved.place; unit = unit_number flat saved.unit }

abbrev pub restacked : FlatCode → ℕ → State → List ℕ → List Restacked
restacked flat at state sites = map (restack_of flat) (restack flat at state sites)
