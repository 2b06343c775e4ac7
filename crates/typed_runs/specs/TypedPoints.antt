-- A code with fitting frames: what a run needs of the points of a code that was typed (JVM Specification SE 8, 4.10.1.6 and
-- 4.10.1.9), whether it is that of a method of a class file or none of a class file.
use Rattle.std.specs.Prelude.{◌≡◌, ◌≢◌, ◌⊎◌, ◌+◌, ◌≤◌, ℕ, List, slice_get, Option, Some, None, IfSome, IsSome, IsTrue, if◌then◌else◌}
use Rattle.std.specs.List.{AllByRecursion}
use Rattle.class_model.specs.Code.{HasDimensions}
use Rattle.class_model.specs.Names.{clinit, init}
use Rattle.class_model.specs.declared.frame.Frame.{Frame}
use Rattle.class_tree.specs.Headers.{Name, Headers, class_named}
use Rattle.class_tree.specs.Names.{throwable}
use Rattle.class_tree.specs.Subtype.{IsArray}
use Rattle.machine_values.specs.Heaps.{class_of_constant}
use Rattle.member_link.specs.Bodies.{CodeItem, item_row, item_targets, item_falls_through, catch_frame}
use Rattle.member_link.specs.BodyTyping.{RowHolds}
use Rattle.member_link.specs.DeclaredMembers.{Declared}
use Rattle.member_link.specs.Fields.{FindsField}
use Rattle.member_link.specs.Forms.{IsInstanceForm, IsInstantiable, IsStaticForm}
use Rattle.member_link.specs.Machine.CallSteps.{is_object_init}
use Rattle.member_link.specs.Machine.Codes.{item_op}
use Rattle.member_link.specs.Machine.Ops.{Op, meaningless, push_constant, return_nothing, return_value, get_static, put_static, get_field, put_field, call_static, call_virtual, call_interface, call_special, new_object, new_array, new_arrays}
use Rattle.member_link.specs.Machine.Programs.{Program, Catch, Point, headers_in, folder_number}
use Rattle.member_link.specs.Methods.{FindsMethod}
use Rattle.member_link.specs.References.{Reference, IsNamedThere}
use Rattle.member_link.specs.RowScope.{RowScope}
use Rattle.member_link.specs.Rows.Assigning.{IsFrameAssignableIn}
use Rattle.member_link.specs.Rows.MemberRows.{NoUninitThis, receiver}
use Rattle.member_link.specs.Rows.Operands.{IsInitialised}
use Rattle.member_link.specs.Rows.Readings.{Reading, reads_itself, reads_object, reads_pop, row_by}
use Rattle.member_link.specs.Rows.Row.{Row, row_frame}
use Rattle.typed_runs.specs.LinkedCalls.{IsLinkedCall}

-- How a code is typed: what the rows of its method read, and a frame for each of its points.
pub record Typing : Type 0 where
  pub scope : RowScope
  pub frames : List Frame

-- ---- where control goes

-- a frame stands at a point, and this one may stand for it
pub record LeadsTo (t : Typing) (number : ℕ) (from : Frame) : Type 0 where
  pub to : Frame
  pub is_frame : slice_get t.frames number ≡ Some to
  pub assignable : IsFrameAssignableIn t.scope.headers t.scope.major from to

-- what a handler catches: each throwable, where it names no class
abbrev pub caught_name : Option Name → Name
caught_name None = throwable
caught_name (Some name) = name

abbrev pub LeadsToHandler : Typing → Frame → Catch → Type 0
LeadsToHandler t before catch =
    LeadsTo t catch.to (catch_frame before (Some (caught_name catch.class)))

-- ---- what an operation names

-- a class of the library
pub record IsOfLibrary (P : Program) (name : Name) : Type 0 where
  pub is_there : IsSome (class_named (headers_in P) name)
  pub outside : folder_number P name ≡ None

-- a field that is found, and its form
pub record HasField (headers : Headers) (Form : Declared → Type 0) (r : Reference)
    : Type 0 where
  pub field : Declared
  pub finds : FindsField headers r.class r.name r.desc (Some field)
  pub form : Form field

-- a method that is found, and its form; a class initialiser is named by no instruction
pub record HasMethod (headers : Headers) (Form : Declared → Type 0) (r : Reference)
    : Type 0 where
  pub method : Declared
  pub finds : FindsMethod headers r.class r.name r.desc (Some method)
  pub form : Form method
  pub no_clinit : r.name ≢ clinit

-- What linking, reading and translating a code say of an operation, beyond its row. The place is that which an Uninit
-- of a new names.
abbrev pub IsLinkedOp : Program → RowScope → ℕ → Op → Type 0
IsLinkedOp P s place meaningless = ⊥
IsLinkedOp P s place (push_constant constant) = IsOfLibrary P (class_of_constant constant)
IsLinkedOp P s place return_nothing = s.result ≡ None
IsLinkedOp P s place (return_value type) = s.result ≡ Some type
IsLinkedOp P s place (get_static r) = HasField (headers_in P) IsStaticForm r
IsLinkedOp P s place (put_static r initialises) = HasField (headers_in P) IsStaticForm r
IsLinkedOp P s place (get_field r) = HasField (headers_in P) IsInstanceForm r
IsLinkedOp P s place (put_field r initialises) = HasField (headers_in P) IsInstanceForm r
IsLinkedOp P s place (call_static r) =
    HasMethod (headers_in P) IsStaticForm r × (r.name ≢ init)
IsLinkedOp P s place (call_virtual r) =
    HasMethod (headers_in P) IsInstanceForm r × (r.name ≢ init)
IsLinkedOp P s place (call_interface r) =
    HasMethod (headers_in P) IsInstanceForm r × (r.name ≢ init)
IsLinkedOp P s place (call_special r from) = HasMethod (headers_in P) IsInstanceForm r
IsLinkedOp P s place (new_object name) =
    IsInstantiable (headers_in P) name × (s.new_class place ≡ Some name)
IsLinkedOp P s place (new_array desc) = IsArray desc × IsNamedThere (headers_in P) desc
IsLinkedOp P s place (new_arrays desc dimensions) =
    HasDimensions desc dimensions × (1 ≤ dimensions) × IsNamedThere (headers_in P) desc
IsLinkedOp P s place op = Unit {0}

-- ---- how it is read

-- A call of java/lang/Object.<init>, with arguments of these types, on a reference that counts as initialised: on an object it does nothing.
pub record CallsObjectInit (frame : Frame) (desc : List ℕ) (op : Op) : Type 0 where
  pub reference : Reference
  pub from : Name
  pub calls : op ≡ call_special reference from
  pub of_object : IsTrue (is_object_init reference)
  pub same_desc : reference.desc ≡ desc
  pub initialised : IsInitialised (receiver frame desc)

-- An operation of a method of a class file is read as it is. Where the objects of some news count as initialised, such a new gives an object
-- of its class, and java/lang/Object.<init> takes one away.
abbrev pub MayBeRead : Reading → Frame → Op → Type 0
MayBeRead reads_itself frame op = Unit {0}
MayBeRead (reads_object class) frame op = op ≡ new_object class
MayBeRead (reads_pop desc) frame op = CallsObjectInit frame desc op

-- ---- a point

-- What the row of a point reads is what the rows of its method read, but for constants and, where no uninitialised this is around, the
-- current class.
pub record ReadsAs (s : RowScope) (of_method : RowScope) (frame : Frame) : Type 0 where
  pub headers : s.headers ≡ of_method.headers
  pub news : (at : ℕ) → s.new_class at ≡ of_method.new_class at
  pub own :
      (s.own.name ≡ of_method.own.name)
      ⊎ (NoUninitThis frame.locals × NoUninitThis frame.stack)

-- A point that its frame fits: its operation is that of an item whose row, as it is read, holds, and the frames along the edges from it lead to
-- those of the points there.
pub record TypedPoint (P : Program) (t : Typing) (number : ℕ) (point : Point) : Type 0 where
  pub frame : Frame
  pub is_frame : slice_get t.frames number ≡ Some frame
  -- the item at its place, and the numbers of the points to which it may jump
  pub scope : RowScope
  pub place : ℕ
  pub item : CodeItem
  pub numbered : ℕ → ℕ
  pub is_op : point.op ≡ item_op P.links numbered scope item
  pub reads : ReadsAs scope t.scope frame
  -- how its operation is read
  pub reading : Reading
  pub read : MayBeRead reading frame point.op
  pub row : RowHolds scope frame (row_by reading frame (item_row scope frame place item))
  pub linked : IsLinkedOp P t.scope place point.op
  pub call : IsLinkedCall P scope point.op
  pub next :
      IfSome
      (if item_falls_through item
      then row_frame frame (row_by reading frame (item_row scope frame place item)) else None)
      (LeadsTo t (number + 1))
  pub targets :
      AllByRecursion
      (λ target. IfSome (row_frame frame (row_by reading frame (item_row scope frame place item)))
      (LeadsTo t (numbered target))) (item_targets item)
  pub handlers : AllByRecursion (LeadsToHandler t frame) point.catches

-- the row of a typed point, as it is read
abbrev pub row_at :
    {P : Program} {t : Typing} {number : ℕ} {point : Point}
    → TypedPoint P t number point
    → Row
row_at p = row_by p.reading p.frame (item_row p.scope p.frame p.place p.item)
