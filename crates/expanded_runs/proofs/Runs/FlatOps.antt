-- What stands in the flat code of a host for an instruction of a method in its place.
use Rattle.std.specs.Prelude.{◌≡◌, ◌+◌, ℕ, pos, List, [], ◌∷◌, length, map, reverse, slice_get, Option, Some, IsTrue}
use Rattle.class_model.specs.declared.class_file.MethodAt.{MethodAt}
use Rattle.class_model.specs.declared.descriptor.FieldType.{FieldType}
use Rattle.class_model.specs.declared.descriptor.FieldType.TheVariants.{Byte, Short, Char, Bool as Boolean}
use Rattle.class_model.specs.declared.descriptor.Kind.{Kind}
use Rattle.class_model.specs.declared.frame.Frame.{Frame}
use Rattle.class_model.specs.declared.instr.Instr.TheVariants.{Return}
use Rattle.class_model.specs.declared.instr.Placed.{Placed}
use Rattle.class_model.specs.declared.opcodes.TheConstants.{I2B, I2C, I2S, IAND}
use Rattle.expanded_code.specs.Expanded.{Argument, arguments, tests_receiver}
use Rattle.expanded_code.specs.Expansions.{Coded, Expansion}
use Rattle.expanded_code.specs.Sites.{HasFrames, IsReplaced}
use Rattle.expanded_runs.proofs.Runs.Positions.{IsReplacedAt, Standing, block_of, scope_of, start_of}
use Rattle.expanded_runs.proofs.Runs.Setup.{Setup, after, before}
use Rattle.machine_values.specs.declared.value.Value.{Value}
use Rattle.machine_values.specs.declared.value.Value.TheVariants.{Int}
use Rattle.member_link.specs.Machine.Codes.{return_op}
use Rattle.member_link.specs.Machine.Ops.{Op, jump_to, pure_arithmetic, push_value, return_nothing, return_value, store_local, test_local}
use Rattle.member_link.specs.Machine.Programs.{Catch, Point, point_at}
use Rattle.member_link.specs.Scope.{own_descriptor}
use Rattle.member_link.specs.Signatures.{result_of}
use Rattle.same_runs.specs.Flats.{flat_catch}
use Rattle.same_runs.specs.SameMoves.{LoadFits, moved}
use Rattle.same_runs.specs.SamePrograms.{SameOp}

-- the handlers around what stands for the instruction at an offset
abbrev pub catches_in : Standing → ℕ → List Catch
catches_in p at = map flat_catch (p.setting.handlers at)

-- an operation stands at a number in the host's flat code, for the instruction at an offset
abbrev pub OpAt : Setup → Coded → Standing → ℕ → ℕ → Op → Type 0
OpAt u host p at number op =
    point_at (after u) host.at number ≡ Some (record { op = op; catches = catches_in p at })

-- an instruction that stays as it is
pub record OpStands (u : Setup) (host : Coded) (p : Standing) (k : ℕ) (placed : Placed)
    (point : Point)
    : Type 0 where
  pub also : Op
  pub is_also : OpAt u host p placed.at (start_of p k) also
  pub next : start_of p (k + 1) ≡ start_of p k + 1
  pub same : SameOp (before u) (after u) (moved p.setting.unit (start_of p) point.op) also
  pub fits : (locals : List (Option Value)) → LoadFits (scope_of p).part.max_locals locals point.op

-- where a callee returns, no operation of its own stands
abbrev pub EndsHost : List MethodAt → Op → Type 0
EndsHost [] op = Unit {0}
EndsHost (callee ∷ chain) return_nothing = ⊥
EndsHost (callee ∷ chain) (return_value type) = ⊥
EndsHost (callee ∷ chain) op = Unit {0}

-- what narrows a result
abbrev pub narrowing_ops : Option FieldType → List Op
narrowing_ops (Some Byte) = pure_arithmetic I2B ∷ []
narrowing_ops (Some Short) = pure_arithmetic I2S ∷ []
narrowing_ops (Some Char) = pure_arithmetic I2C ∷ []
narrowing_ops (Some Boolean) = push_value (Int (pos 1)) ∷ pure_arithmetic IAND ∷ []
narrowing_ops result = []

abbrev pub own_result : Standing → Option FieldType
own_result p = result_of (own_descriptor (scope_of p))

-- the return of a callee
pub record ReturnStands (u : Setup) (host : Coded) (p : Standing) (k : ℕ) (placed : Placed)
    : Type 0 where
  pub behind : ℕ
  pub is_behind : p.setting.behind ≡ Some behind
  pub narrows : (i : ℕ) (op : Op)
      → slice_get (narrowing_ops (own_result p)) i ≡ Some op
      → OpAt u host p placed.at (start_of p k + i) op
  pub goes : OpAt u host p placed.at (start_of p k + length (narrowing_ops (own_result p))) (jump_to behind)

-- what stands before the instructions of a callee
pub record EntryStands (u : Setup) (host : Coded) (p : Standing) (k : ℕ) (placed : Placed)
    (g : Coded)
    : Type 0 where
  pub stores : (i : ℕ) (argument : Argument)
      → slice_get (reverse (arguments g.scope (block_of p k))) i ≡ Some argument
      → OpAt u host p placed.at (start_of p k + i) (store_local argument.kind argument.unit)
  pub tests : IsTrue (tests_receiver g.scope)
      → OpAt u host p placed.at (start_of p k + length (arguments g.scope (block_of p k)))
      (test_local (block_of p k))

-- What stands in flat code for the instruction of a number, at which the method's own code has a point.
pub data AtPlace (u : Setup) (host : Coded) (chain : List MethodAt) (p : Standing) (k : ℕ)
    (placed : Placed) (point : Point)
    : Type 0 where
  at_op : OpStands u host p k placed point
      → EndsHost chain point.op
      → AtPlace u host chain p k placed point
  at_return : {callee : MethodAt} {more : List MethodAt} (kind : Option Kind)
      → chain ≡ callee ∷ more
      → placed.instr ≡ Return kind
      → point.op ≡ return_op (own_result p) kind
      → ReturnStands u host p k placed
      → AtPlace u host chain p k placed point
  at_call : (frame : Frame) (g : Coded) (inner : Expansion)
      → IsReplacedAt p k placed frame g inner
      → IsReplaced u.classes u.typed host.at chain p.setting.coded.at placed.at g.at
      → HasFrames u.classes u.typed g.at g.scope g.frames
      → EntryStands u host p k placed g
      → AtPlace u host chain p k placed point
