-- The method that a call runs, as the code decides it.
use Rattle.std.specs.Prelude.{ℕ, Option, Some, None, option_map}
use Rattle.class_model.specs.Pool.{Constants, constant_at}
use Rattle.class_model.specs.declared.class_file.MethodAt.{MethodAt}
use Rattle.class_model.specs.declared.instr.Instr.{Instr}
use Rattle.class_model.specs.declared.instr.Instr.TheVariants.{Invoke}
use Rattle.class_tree.specs.Headers.{Name, Classes, headers_of}
use Rattle.expanded_code.specs.Callees.{Calls, Runs, StandsAt, instr_at}
use Rattle.inline_expand.specs.declared.calls.Call.{Call}
use Rattle.member_link.specs.DeclaredMembers.{Declared}
use Rattle.member_link.specs.MemberRefs.{reference_meant}
use Rattle.member_link.specs.References.{Reference}
use Rattle.member_link.specs.Scope.{Scope}
use Rattle.member_link.specs.Signatures.{reference_of}

-- the call at an offset runs this method of the folder, or none
abbrev pub DecidesCall : Classes → Scope → ℕ → Option MethodAt → Type 0
DecidesCall classes s at (Some callee) = Calls classes s at callee
DecidesCall classes s at None = (callee : MethodAt) → ¬ Calls classes s at callee

-- ---- calls

-- a call: its opcode, and the method that it names
pub record Called : Type 0 where
  pub opcode : ℕ
  pub reference : Reference

abbrev pub called_as : ℕ → Reference → Called
called_as opcode reference = record { opcode = opcode; reference = reference }

abbrev pub call_meant : Call → Called
call_meant call = called_as call.opcode (reference_meant call.reference)

-- the call that an instruction is
abbrev pub called_by : Constants → Option Instr → Option Called
called_by pool (Some (Invoke opcode index count)) =
    option_map (called_as opcode) (reference_of pool (constant_at pool index))
called_by pool instr = None

abbrev pub call_at : Scope → ℕ → Option Called
call_at s at = called_by s.class.pool (instr_at s at)

-- ---- what they run

-- these numbers are those of a method that runs
pub record RunsAt (classes : Classes) (IsRun : Declared → Type 0) (callee : MethodAt)
    : Type 0 where
  pub method : Declared
  pub runs : IsRun method
  pub stands : StandsAt classes callee method

-- the method of the folder that runs, or none
abbrev pub Decides : Classes → (Declared → Type 0) → Option MethodAt → Type 0
Decides classes IsRun (Some callee) = RunsAt classes IsRun callee
Decides classes IsRun None = (callee : MethodAt) → ¬ RunsAt classes IsRun callee

abbrev pub DecidesRun : Classes → Name → Reference → ℕ → Option MethodAt → Type 0
DecidesRun classes own reference opcode callee =
    Decides classes (Runs (headers_of classes) own reference opcode) callee
