use Rattle.std.specs.Prelude.{◌≡◌, ◌+◌, Bool, true, false, slice_get, if◌then◌else◌}
use Rattle.machine_values.specs.declared.action.Action.{Action}
use Rattle.machine_values.specs.declared.action.Action.TheVariants as actions
use Rattle.member_link.specs.Machine.Acting.{fault, acted, is_fault, act, known_object, given_value}
use Rattle.member_link.specs.Machine.Programs.{Program}
use Rattle.member_link.specs.Machine.Stepping.{is_library_turn}
use Rattle.member_link.specs.Machine.Worlds.{World}
use Rattle.typed_runs.proofs.Here.{counted, uncounted}
use Rattle.typed_runs.proofs.LibraryAnswers.{return_stays, throw_stays}
use Rattle.typed_runs.proofs.LibraryCalls.{call_stays}
use Rattle.typed_runs.proofs.LibraryConstructions.{construct_stays}
use Rattle.typed_runs.proofs.LibraryFrames.{fault_stays}
use Rattle.typed_runs.proofs.LibraryObjects.{get_stays, set_stays, length_stays, new_array_stays, new_external_stays}
use Rattle.typed_runs.specs.TypedPrograms.{Typings}
use Rattle.typed_runs.specs.TypedWorlds.{TypedWorld, StaysTyped}

pub acted_stays : (P : Program) (T : Typings) (w : World) (action : Action) → TypedWorld P T w → is_library_turn w.frames ≡ true
    → StaysTyped P T w (acted P action w)
acted_stays P T w (actions.Call class name desc values) typed turn = call_stays P T w typed turn class name desc values
acted_stays P T w (actions.Construct class desc values) typed turn = construct_stays P T w typed turn class desc values
acted_stays P T w (actions.Return value) typed turn = return_stays P T w typed value
acted_stays P T w (actions.Throw number) typed turn = throw_stays P T w typed (slice_get w.known number)
acted_stays P T w (actions.ArrayGet number index) typed turn = get_stays P T w typed (slice_get w.known number) index
acted_stays P T w (actions.ArraySet number index value) typed turn = set_stays P T w typed (slice_get w.known number) index
    (given_value w.known value)
acted_stays P T w (actions.ArrayLength number) typed turn = length_stays P T w typed (known_object w (slice_get w.known number))
acted_stays P T w (actions.NewArray desc count) typed turn = new_array_stays P T w typed desc count
acted_stays P T w (actions.NewExternal class also) typed turn = new_external_stays P T w typed class also
acted_stays P T w actions.Stop typed turn = record {
  typed = record { program = typed.program; memory = typed.memory; frames = typed.frames; known = typed.known };
  not_stuck = λ before after. cc;
}

pub act_stays : (P : Program) (T : Typings) (w : World) (action : Action) → TypedWorld P T w → is_library_turn w.frames ≡ true
    → StaysTyped P T w (act P action w)
act_stays P T w action typed turn = by (is_fault (acted P action v).halt) where
  v : World
  v = record w { steps = w.steps + 1 }

  by : (b : Bool) → StaysTyped P T w (if b then fault w else acted P action v)
  by true = fault_stays P T w typed
  by false = uncounted P T w (acted P action v) (acted_stays P T v action (counted P T w typed) turn)
