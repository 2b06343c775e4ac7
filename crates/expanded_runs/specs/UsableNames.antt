-- What the instructions of an expanded flat code name, and that the host's code may use it (JVM Specification SE 8, 4.10.1.8 and 5.4.4). It is this
-- project's profile.
use Rattle.std.specs.Prelude.{◌≡◌, ℕ, slice_get, Some}
use Rattle.class_model.specs.Checks.{AllHold}
use Rattle.class_model.specs.Header.{header_of, method_member}
use Rattle.class_model.specs.declared.frame.Frame.{Frame}
use Rattle.class_model.specs.declared.instr.Instr.{Instr}
use Rattle.class_tree.specs.Headers.{Classes, Name, headers_of}
use Rattle.expanded_code.specs.Callees.{NamesOpen}
use Rattle.flow_code.specs.FlatCode.{FlatCode, point_at}
use Rattle.flow_code.specs.declared.point.FlatInstr.TheVariants.{Of}
use Rattle.flow_code.specs.declared.handlers.FlatHandler.{FlatHandler}
use Rattle.flow_code.specs.declared.point.Point.{Point}
use Rattle.member_link.specs.Declarations.{site_of}
use Rattle.member_link.specs.LinkedPlaces.{ClassPasses}
use Rattle.member_link.specs.Rows.Table.{row_of}
use Rattle.member_link.specs.Scope.{Scope, row_scope}
use Rattle.member_link.specs.Uses.{UseScope, instr_use_checks}

-- where the references of a method stand
abbrev pub uses_of : Scope → UseScope
uses_of s = record {
  headers = s.headers;
  pool = s.class.pool;
  site = site_of (header_of s.class) (method_member s.class.pool s.method);
}

-- An instruction of the host's own code: what it names passes there as linking asks, and behind a stack as its point has it may use the protected
-- member that it names.
pub record IsOfHost (host : Scope) (flat : FlatCode) (point : Point) (class : ℕ) (instr : Instr)
    : Type 0 where
  pub own : class ≡ flat.host.class
  pub linked : AllHold (instr_use_checks (uses_of host) instr)
  pub access : (frame : Frame) (place : ℕ)
      → frame.stack ≡ point.typed.stack
      → (row_of (row_scope host) frame place instr).access

-- An instruction of a callee, in its class: what it names passes there as linking asks, and is open to the host's class.
pub record IsOfCallee (classes : Classes) (host : Scope) (class : ℕ) (instr : Instr) : Type 0 where
  pub scope : Scope
  pub headers : scope.headers ≡ headers_of classes
  pub file : slice_get classes.folder class ≡ Some scope.class
  pub linked : AllHold (instr_use_checks (uses_of scope) instr)
  pub open_to : NamesOpen scope (header_of host.class).name instr

pub data IsUsable (classes : Classes) (host : Scope) (flat : FlatCode) (point : Point) (class : ℕ) (instr : Instr)
    : Type 0 where
  of_host : IsOfHost host flat point class instr
      → IsUsable classes host flat point class instr
  of_callee : IsOfCallee classes host class instr
      → IsUsable classes host flat point class instr

-- each instruction of a flat code
abbrev pub IsUsableCode : Classes → Scope → FlatCode → Type 0
IsUsableCode classes host flat =
    (number : ℕ) (point : Point) (class : ℕ) (instr : Instr)
    → point_at flat number ≡ Some point
    → point.instr ≡ Of class instr
    → IsUsable classes host flat point class instr

-- each class that its handlers catch
abbrev pub AreUsableCatches : Scope → FlatCode → Type 0
AreUsableCatches host flat =
    (number : ℕ) (point : Point) (at : ℕ) (handler : FlatHandler) (name : Name)
    → point_at flat number ≡ Some point
    → slice_get point.handlers at ≡ Some handler
    → handler.catch_class ≡ Some name
    → ClassPasses (uses_of host) name
