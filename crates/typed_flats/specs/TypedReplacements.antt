-- How a program is typed in which some methods run other code and flags of some fields are cleared.
use Rattle.std.specs.Prelude.{◌≡◌, Some}
use Rattle.class_model.specs.declared.class_file.MethodAt.{MethodAt}
use Rattle.member_link.specs.Machine.Programs.{Code, Program, RunMethod, code_run, headers_in, run_method}
use Rattle.member_link.specs.Machine.Replaced.{Replacement, with_body}
use Rattle.typed_runs.specs.TypedPoints.{Typing}
use Rattle.typed_runs.specs.TypedPrograms.{IsTypedMethod, Typings}

-- ---- typings

-- a typing of a code in another program: what its rows read are the classes of this one
abbrev pub typed_in : Program → Typing → Typing
typed_in P t = record t { scope = record t.scope { headers = headers_in P } }

abbrev pub all_typed_in : Program → Typings → Typings
all_typed_in P typings at = typed_in P (typings at)

-- Each code that a method runs there, its own or the one that takes its place, is typed among the program's classes, by what the method declares.
pub record TypesCodes (P : Program) (r : Replacement) (typings : Typings) : Type 0 where
  pub codes : (at : MethodAt) (method : RunMethod) (code : Code)
      → run_method P at ≡ Some method
      → code_run (with_body method (r.body at)) ≡ Some code
      → IsTypedMethod P at method.member code (typings at)
