-- What flat code means to the machine: its points, with what each reads. An instruction reads the constants of the class that it is of;
-- in all else it stands in the host.
use Rattle.std.specs.Prelude.{ℕ, zero, List, [], map, slice_get, Option, Some, None, option_and_then}
use Rattle.class_model.specs.Pool.{Constants}
use Rattle.class_model.specs.PoolChecks.{class_at}
use Rattle.class_model.specs.declared.class_file.ClassFile.{ClassFile}
use Rattle.class_model.specs.declared.class_file.MethodAt.{MethodAt}
use Rattle.class_model.specs.declared.instr.Instr.TheVariants.{New}
use Rattle.class_tree.specs.Headers.{Name, Classes}
use Rattle.flow_code.specs.FlatCode.{FlatCode, point_at}
use Rattle.flow_code.specs.FlatRoom.{stack_room}
use Rattle.flow_code.specs.declared.handlers.FlatHandler.{FlatHandler}
use Rattle.flow_code.specs.declared.point.FlatInstr.{FlatInstr}
use Rattle.flow_code.specs.declared.point.FlatInstr.TheVariants.{Of, NullTest}
use Rattle.flow_code.specs.declared.point.Point.{Point}
use Rattle.member_link.specs.Bodies.{CodeItem, item_instr, item_null_test}
use Rattle.member_link.specs.Machine.Classes.{program_of}
use Rattle.member_link.specs.Machine.Codes.{CodePoint, run_code}
use Rattle.member_link.specs.Machine.Programs.{Catch, Code, Links, Program}
use Rattle.member_link.specs.Machine.Replaced.{Replacement, map_numbered, replaced}
use Rattle.member_link.specs.RowScope.{RowScope}
use Rattle.member_link.specs.Scope.{Scope, row_scope, scope_at}

-- ---- what an instruction reads

-- the constants of a class of the folder, by its number
abbrev pub pool_of : Classes → ℕ → Constants
pool_of classes class = of_file (slice_get classes.folder class) where
  of_file : Option ClassFile → Constants
  of_file None = []
  of_file (Some file) = file.pool

-- the class of the new at a point, if a new stands there
abbrev pub class_of_flat_new : Classes → FlatCode → ℕ → Option Name
class_of_flat_new classes flat at =
    option_and_then (λ point. new_in point.instr) (point_at flat at) where
      new_in : FlatInstr → Option Name
      new_in (Of class (New index)) = class_at (pool_of classes class) index
      new_in other = None

-- What the host's rows read: a flat code states no greatest depth of its stack, and a new stands at its point.
abbrev pub host_scope : Classes → Scope → FlatCode → RowScope
host_scope classes s flat = record (row_scope s) {
  max_stack = stack_room flat;
  new_class = class_of_flat_new classes flat;
}

abbrev pub instr_scope : Classes → Scope → FlatCode → FlatInstr → RowScope
instr_scope classes s flat (Of class instr) =
    record (host_scope classes s flat) { pool = pool_of classes class }
instr_scope classes s flat (NullTest local) = host_scope classes s flat

-- ---- its points

abbrev pub flat_item : FlatInstr → CodeItem
flat_item (Of class instr) = item_instr instr
flat_item (NullTest local) = item_null_test local

abbrev pub flat_catch : FlatHandler → Catch
flat_catch handler = record { to = handler.to; class = handler.catch_class }

-- a point stands at its number
abbrev pub flat_point : Classes → Scope → FlatCode → ℕ → Point → CodePoint
flat_point classes s flat number point = record {
  place = number;
  scope = instr_scope classes s flat point.instr;
  item = flat_item point.instr;
  catches = map flat_catch point.handlers;
}

abbrev pub flat_points : Classes → Scope → FlatCode → List CodePoint
flat_points classes s flat = map_numbered (flat_point classes s flat) zero flat.points

-- ---- its code

-- the code that a host runs in place of its own
abbrev pub flat_code : Classes → Links → Scope → FlatCode → Code
flat_code classes links s flat = run_code links flat.locals (flat_points classes s flat)

-- flat codes of some methods of a folder
abbrev pub Flats : Type 0
Flats = MethodAt → Option FlatCode

-- The code of a method that has a flat one. Where the method has no code, none.
abbrev pub flat_body : Classes → Links → Flats → MethodAt → Option Code
flat_body classes links flats at =
    option_and_then (λ flat. of_scope flat (scope_at classes at)) (flats at) where
      of_scope : FlatCode → Option Scope → Option Code
      of_scope flat None = None
      of_scope flat (Some s) = Some (flat_code classes links s flat)

-- flat codes in place of the codes of their methods, and nothing else
abbrev pub flats_for_codes : Classes → Links → Flats → Replacement
flats_for_codes classes links flats = record {
  body = flat_body classes links flats;
  cleared = λ class field. 0;
  added = λ class. [];
}

-- the program in which each of these methods runs its flat code
abbrev pub flat_program : Classes → Links → Flats → Program
flat_program classes links flats =
    replaced (program_of classes links) (flats_for_codes classes links flats)
