-- What reading and linking say of an instruction of a class of the folder, in whatever code it stands.
use Rattle.std.specs.Prelude.{◌≡◌, ℕ, slice_get, Option, Some, None}
use Rattle.class_model.specs.Checks.{AllHold}
use Rattle.class_model.specs.Code.{OperandFits}
use Rattle.class_model.specs.Header.{header_of}
use Rattle.class_model.specs.Pool.{Constants}
use Rattle.class_model.specs.PoolChecks.{class_at}
use Rattle.class_model.specs.declared.class_file.ClassFile.{ClassFile}
use Rattle.class_model.specs.declared.frame.Frame.{Frame}
use Rattle.class_model.specs.declared.header.Member.{Member}
use Rattle.class_model.specs.declared.instr.Instr.{Instr}
use Rattle.class_model.specs.declared.instr.Instr.TheVariants.{Invoke, New}
use Rattle.class_tree.specs.Headers.{Name, Classes, class_named, headers_of}
use Rattle.member_link.specs.BodyTyping.{RowHolds}
use Rattle.member_link.specs.Declarations.{site_of}
use Rattle.member_link.specs.Machine.Codes.{instr_op}
use Rattle.member_link.specs.Machine.Ops.{Op}
use Rattle.member_link.specs.Machine.Programs.{Program}
use Rattle.member_link.specs.RowScope.{RowScope}
use Rattle.member_link.specs.Rows.Row.{access_aside}
use Rattle.member_link.specs.Rows.Table.{row_of}
use Rattle.member_link.specs.Targets.{HasForm}
use Rattle.member_link.specs.Uses.{instr_use_checks}
use Rattle.typed_runs.specs.LinkedCalls.{IsLinkedCall}
use Rattle.typed_runs.specs.TypedPoints.{IsLinkedOp}

-- what linking says of an operation, and of a call beyond
pub record IsLinkedAt (P : Program) (s : RowScope) (place : ℕ) (op : Op) : Type 0 where
  pub linked : IsLinkedOp P s place op
  pub call : IsLinkedCall P s op

-- the class of which an instruction makes an object, if it is a new
abbrev pub new_named : Constants → Instr → Option Name
new_named pool (New index) = class_at pool index
new_named pool instr = None

-- a new and a call may be read in another way; of another instruction the row holds
abbrev pub HoldsAsItIs : RowScope → Frame → ℕ → Instr → Type 0
HoldsAsItIs s frame place (New index) = Unit {0}
HoldsAsItIs s frame place (Invoke opcode index count) = Unit {0}
HoldsAsItIs s frame place instr = RowHolds s frame (access_aside (row_of s frame place instr))

-- An instruction of a class of the folder, in code of any class, whose operand, form and names reading and linking accept: what typing asks
-- of its operation holds.
pub record LinksInstrs (P : Program) (classes : Classes) : Type 0 where
  pub links : (class locals place : ℕ) (file : ClassFile) (member : Member) (instr : Instr)
      (s : RowScope) (frame : Frame) (numbered : ℕ → ℕ)
      → slice_get classes.folder class ≡ Some file
      → OperandFits file.pool file.major locals instr
      → HasForm instr
      → AllHold (instr_use_checks (record {
        headers = headers_of classes;
        pool = file.pool;
        site = site_of (header_of file) member;
      }) instr)
      → s.pool ≡ file.pool
      → class_named (headers_of classes) s.own.name ≡ Some s.own
      → s.new_class place ≡ new_named file.pool instr
      → HoldsAsItIs s frame place instr
      → IsLinkedAt P s place (instr_op P.links numbered s instr)
