-- What a method is called with.
use Rattle.std.specs.Prelude.{◌≡◌, ◌∷◌, ℕ, List, Option, Some, None, is_some, if◌then◌else◌}
use Rattle.class_model.specs.declared.class_file.MethodAt.{MethodAt}
use Rattle.machine_values.specs.Values.{units_of_values}
use Rattle.machine_values.specs.declared.frame.RunFrame.{RunFrame}
use Rattle.machine_values.specs.declared.frame.RunFrame.TheVariants.{Beginning}
use Rattle.machine_values.specs.declared.value.Value.{Value}
use Rattle.member_link.specs.Machine.Beginnings.{frame_with}
use Rattle.member_link.specs.Machine.Performing.{Locked, value_in}
use Rattle.member_link.specs.Machine.Programs.{Program, Code, code_at}
use Rattle.member_link.specs.Machine.Worlds.{Memory}
use Rattle.machine_run.specs.declared.calls.Arguments.{Arguments}

pub record AreArguments (P : Program) (at : MethodAt) (values : List Value) (arguments : Arguments)
    : Type 0 where
  pub locals : arguments.locals ≡ (frame_with P at (units_of_values values) None).locals
  pub first : arguments.first ≡ value_in values

-- the local units of a method's code; a method without code has none
abbrev pub units_of_code : Option Code → ℕ
units_of_code None = 0
units_of_code (Some code) = code.locals

-- a memory behind a call, and whose monitor was entered
abbrev pub locked_as : Memory → Option ℕ → Locked
locked_as memory held = record { memory = memory; held = held }

-- a method, if it has code
abbrev pub if_code : Program → MethodAt → Option MethodAt
if_code P at = if is_some (code_at P at) then Some at else None

-- the class whose beginning is on top
abbrev pub beginning_on_top : List RunFrame → Option ℕ
beginning_on_top (Beginning class ∷ rest) = Some class
beginning_on_top frames = None
