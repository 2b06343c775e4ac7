-- A body: what the typing of code reads (JVM Specification SE 8, 4.10.1.6), whether the code is that of a method of a class
-- file or none of a class file.
use Rattle.std.specs.Prelude.{ℕ, Bool, true, false, List, [], ◌∷◌, Option, Some, None, if◌then◌else◌}
use Rattle.class_model.specs.Instructions.{targets}
use Rattle.class_model.specs.declared.frame.Frame.{Frame}
use Rattle.class_model.specs.declared.frame.VType.{VType}
use Rattle.class_model.specs.declared.frame.VType.TheVariants as types
use Rattle.class_model.specs.declared.instr.Instr.{Instr}
use Rattle.class_model.specs.declared.instr.Instr.TheVariants.{Goto, Table, Lookup, Return, Throw}
use Rattle.class_tree.specs.Headers.{Name}
use Rattle.member_link.specs.RowScope.{RowScope}
use Rattle.member_link.specs.Rows.LocalRows.{null_test_row}
use Rattle.member_link.specs.Rows.Row.{Row, access_aside, row_frame}
use Rattle.member_link.specs.Rows.Table.{row_of}

-- ---- the parts

-- what stands at a place: an instruction, or a test of a local for null, which no class file has
pub data CodeItem : Type 0 where
  item_instr : Instr → CodeItem
  item_null_test : ℕ → CodeItem

-- a handler: the place where it begins, and the class that it catches, if its constant names one
pub record BodyCatch : Type 0 where
  pub to : ℕ
  pub class : Option Name

pub record BodyPoint : Type 0 where
  -- its place, and the place behind it
  pub place : ℕ
  pub next : ℕ
  -- what its row reads
  pub scope : RowScope
  pub item : CodeItem
  -- whether access to a protected member that it names is checked
  pub asks_access : Bool
  -- the handlers whose range has it, in table order
  pub catches : List BodyCatch

-- an entry of the exception table: where its range begins, and the class that it catches
pub record BodyCaught : Type 0 where
  pub start : ℕ
  pub class : Option Name

pub record Body : Type 0 where
  -- what the rows of the method that is typed read
  pub scope : RowScope
  -- the frame that the code begins with
  pub entry : Frame
  pub points : List BodyPoint
  -- the place behind the last of them
  pub end : ℕ
  -- the frame that is stated for a place, if one is
  pub stated : ℕ → Option Frame
  -- the exception table
  pub table : List BodyCaught

-- ---- what a point does

abbrev pub item_row : RowScope → Frame → ℕ → CodeItem → Row
item_row s f at (item_instr instr) = row_of s f at instr
item_row s f at (item_null_test local) = null_test_row f local

-- a row, whose access is checked or not
abbrev pub asked_access : Bool → Row → Row
asked_access true row = row
asked_access false row = access_aside row

abbrev pub point_row : BodyPoint → Frame → Row
point_row point before =
    asked_access point.asks_access (item_row point.scope before point.place point.item)

-- the frame after a point, if control goes on
abbrev pub frame_behind : BodyPoint → Frame → Option Frame
frame_behind point before = row_frame before (point_row point before)

-- the places to which a point may jump
abbrev pub item_targets : CodeItem → List ℕ
item_targets (item_instr instr) = targets instr
item_targets (item_null_test local) = []

-- control may fall through to the next instruction
abbrev pub falls_through : Instr → Bool
falls_through (Goto target) = false
falls_through (Table low other targets) = false
falls_through (Lookup other pairs) = false
falls_through (Return kind) = false
falls_through Throw = false
falls_through other = true

abbrev pub item_falls_through : CodeItem → Bool
item_falls_through (item_instr instr) = falls_through instr
item_falls_through (item_null_test local) = true

-- the frame that flows into the next point, if one does
abbrev pub flows_on : BodyPoint → Frame → Option Frame
flows_on point before = if item_falls_through point.item then frame_behind point before else None

-- ---- handlers

abbrev pub caught_type : Option Name → VType
caught_type (Some class) = types.Object class
caught_type None = types.Top

-- what a handler begins with behind these locals: the caught class alone is on the stack
abbrev pub catch_frame : Frame → Option Name → Frame
catch_frame before class = record { locals = before.locals; stack = caught_type class ∷ [] }
