-- What is true of the prepared code of a method.
use Rattle.std.specs.Global.{Box}
use Rattle.std.specs.Prelude.{◌≡◌, ◌&&◌, ◌<◌, ◌-◌, ◌^◌, nat_le, nat_lt, length, ℕ, Bool, List, [], ◌∷◌, map, All, Option, Some, None, if◌then◌else◌}
use Rattle.std.specs.List.{flat_map}
use Rattle.class_model.specs.Members.{has, STATIC}
use Rattle.class_model.specs.declared.class_file.MethodAt.{MethodAt}
use Rattle.member_link.specs.Machine.Ops as ops
use Rattle.member_link.specs.Machine.Performing.{Locking, no_lock, receiver_lock, class_lock, locking_of, is_initialiser}
use Rattle.member_link.specs.Machine.Programs.{Program, Catch, Code, Point, RunMethod, code_at, code_run, run_method}
use Rattle.member_link.specs.RunOps.{IsResolved, op_of}
use Rattle.machine_code.specs.declared.prepared_method.Locks.{Locks}
use Rattle.machine_code.specs.declared.prepared_method.Locks.TheVariants as locks
use Rattle.machine_code.specs.declared.prepared_method.MethodTraits.{MethodTraits}
use Rattle.machine_code.specs.declared.prepared_method.PreparedHandler.{PreparedHandler}
use Rattle.machine_code.specs.declared.prepared_method.PreparedMethod.{PreparedMethod}
use Rattle.member_link.specs.declared.run_op.RunOp.{RunOp}

-- ---- handlers

abbrev pub stands_around : PreparedHandler → ℕ → Bool
stands_around handler offset = nat_le handler.start offset && nat_lt offset handler.end

-- the handlers around an offset
abbrev pub catches_around : List PreparedHandler → ℕ → List Catch
catches_around handlers offset = flat_map catch handlers where
  catch : PreparedHandler → List Catch
  catch handler =
      if stands_around handler offset
      then record { to = handler.to; class = handler.class } ∷ []
      else []

-- ---- a method

abbrev pub locking : Locks → Locking
locking locks.None = no_lock
locking locks.Receiver = receiver_lock
locking locks.Class = class_lock

abbrev pub op_at : Point → ops.Op
op_at point = point.op

abbrev pub catches_at_point : Point → List Catch
catches_at_point point = point.catches

pub record IsPrepared (P : Program) (at : MethodAt) (prepared : PreparedMethod) : Type 0 where
  pub method : RunMethod
  pub code : Code
  pub there : run_method P at ≡ Some method
  pub has_code : code_run method ≡ Some code
  pub locals : prepared.locals ≡ code.locals
  pub few : length code.points < 2 ^ 32 - 1
  pub ops : map op_of prepared.ops.items ≡ map op_at code.points
  pub resolved : All (IsResolved P) prepared.ops.items
  pub catches :
      map (catches_around prepared.handlers.items) prepared.offsets.items
      ≡ map catches_at_point code.points

-- the prepared code of a method, if it has code that runs
abbrev pub IsPreparedIf : Program → MethodAt → Option (Box PreparedMethod) → Type 0
IsPreparedIf P at None = code_at P at ≡ None
IsPreparedIf P at (Some prepared) = IsPrepared P at prepared.value

-- ---- what the flags and the name of a method say

pub record HasTraits (method : RunMethod) (traits : MethodTraits) : Type 0 where
  pub locks : locking_of (Some method) ≡ locking traits.locks
  pub initialiser : is_initialiser method ≡ traits.is_initialiser
  pub static : has method.member.flags STATIC ≡ traits.is_static

abbrev pub IsTraitsOf : Program → MethodAt → Option MethodTraits → Type 0
IsTraitsOf P at None = run_method P at ≡ None
IsTraitsOf P at (Some traits) =
    (method : RunMethod) × (run_method P at ≡ Some method) × HasTraits method traits
