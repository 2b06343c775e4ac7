-- What is asked of a flat code so that code can be written from it: its points type it, and each instruction, reached or not, is one of its
-- class that reading and linking accept. It is this project's profile.
use Rattle.std.specs.Prelude.{◌≡◌, ℕ, slice_get, Some}
use Rattle.std.specs.List.{AllByRecursion}
use Rattle.class_model.specs.Checks.{AllHold}
use Rattle.class_model.specs.Code.{OperandFits}
use Rattle.class_model.specs.Header.{header_of}
use Rattle.class_model.specs.declared.class_file.ClassFile.{ClassFile}
use Rattle.class_model.specs.declared.header.Member.{Member}
use Rattle.class_model.specs.declared.instr.Instr.{Instr}
use Rattle.class_tree.specs.Headers.{Classes, headers_of}
use Rattle.flow_code.specs.FlatCode.{FlatCode}
use Rattle.flow_code.specs.declared.point.FlatInstr.{FlatInstr}
use Rattle.flow_code.specs.declared.point.FlatInstr.TheVariants.{Of, NullTest}
use Rattle.member_link.specs.Declarations.{site_of}
use Rattle.member_link.specs.Scope.{Scope, scope_at}
use Rattle.member_link.specs.Targets.{HasForm}
use Rattle.member_link.specs.Uses.{instr_use_checks}
use Rattle.same_runs.specs.TypedFlats.{TypesFlat}

-- an instruction of a class of the folder: its constant is one that it may have, its opcode and numbers are of its form, and what it names
-- is linked, as seen from its class
pub record IsReadyInstr (classes : Classes) (locals class : ℕ) (instr : Instr) : Type 0 where
  pub file : ClassFile
  pub there : slice_get classes.folder class ≡ Some file
  pub operand : OperandFits file.pool file.major locals instr
  pub form : HasForm instr
  pub linked : (member : Member)
      → AllHold (instr_use_checks (record {
        headers = headers_of classes;
        pool = file.pool;
        site = site_of (header_of file) member;
      }) instr)

abbrev pub IsReadyItem : Classes → ℕ → FlatInstr → Type 0
IsReadyItem classes locals (Of class instr) = IsReadyInstr classes locals class instr
IsReadyItem classes locals (NullTest local) = Unit {0}

-- The flat code is that of the method of this scope.
pub record IsReadyCode (classes : Classes) (s : Scope) (flat : FlatCode) : Type 0 where
  pub host : scope_at classes flat.host ≡ Some s
  pub typed : TypesFlat classes s flat
  pub points : AllByRecursion (λ point. IsReadyItem classes flat.locals point.instr) flat.points
