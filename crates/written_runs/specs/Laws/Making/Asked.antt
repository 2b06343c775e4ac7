-- What make code asks of the setup.
use Rattle.std.specs.Prelude.{◌≡◌, ◌≢◌, ℕ, length, Some}
use Rattle.class_model.specs.declared.class_file.MethodAt.{MethodAt}
use Rattle.class_tree.specs.Headers.{Name, headers_of}
use Rattle.class_tree.specs.Layouts.{instance_fields}
use Rattle.class_tree.specs.Names.{object}
use Rattle.expanded_code.specs.Candidates.{IsCandidate}
use Rattle.member_link.specs.Machine.Programs.{code_at, folder_number, headers_in, name_of_class}
use Rattle.member_link.specs.Scope.{Scope, scope_at}
use Rattle.plan_flow.specs.Written.WrittenCode.{written_code}
use Rattle.plan_flow.specs.Written.WrittenPrograms.{WrittenMethod}
use Rattle.same_runs.specs.Laws.QuietBeginnings.{BeginAlike}
use Rattle.same_runs.specs.SamePrograms.{SamePrograms}
use Rattle.written_runs.specs.Inner.PlannedFrames.{blocks_in, scope_in}
use Rattle.written_runs.specs.Inner.Setup.{IsSetup, Setup, first, second}
use Rattle.written_runs.specs.Laws.Constructs.{Constructs}

-- what other parts of the proof give
pub record MakingLaws (u : Setup) : Type 0 where
  pub is_setup : IsSetup u
  pub same : SamePrograms (first u) (second u)
  pub alike : BeginAlike (first u) (second u)
  -- field constructors fill their objects
  pub constructs : Constructs u
  -- the second program runs written code
  pub code : (at : MethodAt) (w : WrittenMethod) (host : Scope)
      → u.written at ≡ Some w
      → scope_at u.classes at ≡ Some host
      → code_at (second u) at ≡ Some (written_code (scope_in u w) host u.constructor w.form (blocks_in u w))
  -- a candidate is no java/lang/Object, and an object of its class has the fields of its chain
  pub proper : (class : Name) → IsCandidate u.classes class → class ≢ object
  pub blanks : (class : Name) (number : ℕ)
      → folder_number (second u) class ≡ Some number
      → length (instance_fields (headers_in (second u)) (name_of_class (second u) number))
      ≡ length (instance_fields (headers_of u.classes) class)
