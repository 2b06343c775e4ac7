-- Words of the preparation of a method's code.
use Rattle.std.specs.Prelude.{◌≡◌, ◌-◌, ◌<◌, ◌^◌, ℕ, List, [], length, map, slice_get, All, Option, None, option_map, option_and_then, if◌then◌else◌}
use Rattle.class_model.specs.Checks.{AllHold}
use Rattle.class_model.specs.Code.{OperandFits}
use Rattle.class_model.specs.Instructions.{decoded}
use Rattle.class_model.specs.Members.{has, NATIVE}
use Rattle.class_model.specs.MethodCode.{code_of}
use Rattle.class_model.specs.Pool.{Constants}
use Rattle.class_model.specs.declared.class_file.ClassFile.{ClassFile}
use Rattle.class_model.specs.declared.class_file.CodePart.{CodePart}
use Rattle.class_model.specs.declared.class_file.Handler.{Handler}
use Rattle.class_model.specs.declared.class_file.Method.{Method}
use Rattle.class_model.specs.declared.class_file.MethodAt.{MethodAt}
use Rattle.class_model.specs.declared.instr.Placed.{Placed}
use Rattle.class_tree.specs.Headers.{Classes}
use Rattle.code_bytes.specs.Codes.{HaveOperands}
use Rattle.code_bytes.specs.Decoding.{decoding_checks}
use Rattle.member_link.specs.Machine.Codes.{catch_in, catches_at, covers, instr_op, method_code}
use Rattle.member_link.specs.Machine.Ops as ops
use Rattle.member_link.specs.Machine.Programs.{Catch, Code, Links, Program}
use Rattle.machine_code.specs.Inner.Translating.{CodeIn, number_of, rows_in, scope_in}
use Rattle.machine_code.specs.Prepared.{catches_around, catches_at_point, op_at}
use Rattle.member_link.specs.TreePrograms.{IsProgram}
use Rattle.member_link.specs.RunOps.{IsResolved, op_of}
use Rattle.machine_code.specs.declared.prepared_method.PreparedHandler.{PreparedHandler}
use Rattle.machine_code.specs.declared.prepared_method.PreparedMethod.{PreparedMethod}
use Rattle.member_link.specs.declared.run_op.RunOp.{RunOp}

-- ---- the code of a method

abbrev pub code_in : Classes → ClassFile → Method → CodePart → CodeIn
code_in classes class method part =
    record { classes = classes; class = class; method = method; part = part }

-- that of a native method is not looked at
abbrev pub run_code_in : Classes → ClassFile → Method → Option CodeIn
run_code_in classes class method =
    if has method.flags NATIVE then None
    else option_map (code_in classes class method) (code_of method.attrs)

abbrev pub run_code_at : Classes → MethodAt → Option CodeIn
run_code_at classes at =
    option_and_then (λ class. option_and_then (run_code_in classes class)
    (slice_get class.methods at.method)) (slice_get classes.folder at.class)

-- what reading asked of it
pub record IsReadCode (code : CodeIn) : Type 0 where
  pub instrs : AllHold (decoding_checks code.part.code)
  pub operands :
      HaveOperands code.class.pool code.class.major code.part.max_locals (decoded code.part.code)

abbrev pub FitsIn : CodeIn → Placed → Type 0
FitsIn code placed =
    OperandFits code.class.pool code.class.major code.part.max_locals placed.instr

-- ---- operations

-- what an instruction means, its targets as numbers of the instructions at these offsets
abbrev pub placed_op : Links → List ℕ → CodeIn → Placed → ops.Op
placed_op links offsets code placed =
    instr_op links (number_of offsets) (rows_in code) placed.instr

-- instructions as operations
pub record AreOps (code : CodeIn) (offsets : List ℕ) (instrs : List Placed) (made : List RunOp)
    : Type 0 where
  pub same : (P : Program)
      → IsProgram code.classes P
      → map op_of made ≡ map (placed_op P.links offsets code) instrs
  pub resolved : (P : Program) → IsProgram code.classes P → All (IsResolved P) made

-- ---- handlers

-- with the number of the instruction at which the handler begins
abbrev pub numbered_catch : List ℕ → Catch → Catch
numbered_catch offsets catch = record catch { to = number_of offsets catch.to }

-- what a handler catches of what is thrown at an offset
abbrev pub caught_by : Constants → List ℕ → Handler → ℕ → List Catch
caught_by pool offsets handler at =
    map (numbered_catch offsets) (if covers handler at then catch_in pool handler else [])

-- handlers as they are prepared: those that catch nothing may be left out
pub record AreHandlers (pool : Constants) (offsets : List ℕ) (handlers : List Handler)
    (made : List PreparedHandler)
    : Type 0 where
  pub same : (at : ℕ)
      → catches_around made at ≡ map (numbered_catch offsets) (catches_at pool handlers at)

pub record IsHandler (pool : Constants) (offsets : List ℕ) (handler : Handler)
    (made : List PreparedHandler)
    : Type 0 where
  pub same : (at : ℕ) → catches_around made at ≡ caught_by pool offsets handler at

-- ---- all of it

pub record IsPreparedCode (P : Program) (code : Code) (prepared : PreparedMethod) : Type 0 where
  pub locals : prepared.locals ≡ code.locals
  pub few : length code.points < 2 ^ 32 - 1
  pub ops : map op_of prepared.ops.items ≡ map op_at code.points
  pub resolved : All (IsResolved P) prepared.ops.items
  pub catches :
      map (catches_around prepared.handlers.items) prepared.offsets.items
      ≡ map catches_at_point code.points

abbrev pub IsPreparedIn : CodeIn → PreparedMethod → Type 0
IsPreparedIn code prepared = (P : Program)
    → IsProgram code.classes P
    → IsPreparedCode P (method_code P.links (scope_in code)) prepared
