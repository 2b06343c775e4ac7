-- What it means that the typed points of flat code type it (JVM Specification SE 8, 4.10.1.6) where objects of candidate sites are read as
-- initialised. It is this project's profile.
--
-- An initialiser's own code stands in place of its call, so that no instruction of the flat code initialises the object of a candidate
-- site: at the points up to the end of the initialiser's code the object has the type Uninit of its new. That type is read as the class
-- of the site, the new gives an object of this class, and a call of java/lang/Object.<init> on the object is read as pop. Whether a call
-- is one on such an object is seen from its frame before it is read. Access is not asked, since it was checked where the instruction
-- stood before.
--
-- Every typed point counts as a stated frame. So what types a body is here said point by point, and it is the same where there is no site.
use Rattle.std.specs.Prelude.{◌≡◌, ◌==◌, ◌+◌, ◌&&◌, ℕ, Option, Some, None, option_map, IfSome, if◌then◌else◌}
use Rattle.std.specs.List.{AllByRecursion}
use Rattle.class_model.specs.Pool.{constant_at}
use Rattle.class_model.specs.declared.frame.Frame.{Frame}
use Rattle.class_model.specs.declared.instr.Instr.TheVariants.{Invoke, New}
use Rattle.class_model.specs.declared.opcodes.TheConstants.{INVOKESPECIAL}
use Rattle.class_tree.specs.Headers.{Name, Classes}
use Rattle.flow_code.specs.FlatCode.{FlatCode, point_at}
use Rattle.flow_code.specs.ReadTypes.{class_of_site, is_site_object, read_frame}
use Rattle.flow_code.specs.declared.point.FlatInstr.{FlatInstr}
use Rattle.flow_code.specs.declared.point.FlatInstr.TheVariants.{Of}
use Rattle.flow_code.specs.declared.point.Point.{Point}
use Rattle.member_link.specs.Bodies.{catch_frame, item_falls_through, item_row, item_targets}
use Rattle.member_link.specs.BodyTyping.{IsThrowable, MayGoTo, RowHolds}
use Rattle.member_link.specs.Machine.CallSteps.{is_object_init}
use Rattle.member_link.specs.References.{Reference}
use Rattle.member_link.specs.Rows.MemberRows.{receiver}
use Rattle.member_link.specs.Rows.Readings.{Reading, reads_itself, reads_object, reads_pop, row_by}
use Rattle.member_link.specs.Rows.Row.{Row, row_frame}
use Rattle.member_link.specs.Scope.{Scope}
use Rattle.member_link.specs.Signatures.{reference_of}
use Rattle.same_runs.specs.FlatBodies.{body_of_flat, caught_class, flat_entry}
use Rattle.same_runs.specs.Flats.{flat_item, host_scope, instr_scope, pool_of}

-- the frame of the point of a number, read
abbrev pub read_at : FlatCode → ℕ → Option Frame
read_at flat number = option_map (λ point. read_frame flat point.typed) (point_at flat number)

-- ---- instructions that are read

-- a call by a reference, behind a frame that is not read
abbrev pub reading_of_call : FlatCode → Frame → ℕ → Option Reference → Reading
reading_of_call flat frame opcode None = reads_itself
reading_of_call flat frame opcode (Some reference) =
    if opcode == INVOKESPECIAL && is_object_init reference
    && is_site_object flat (receiver frame reference.desc)
    then reads_pop reference.desc
    else reads_itself

abbrev pub reading_of_new : Option Name → Reading
reading_of_new None = reads_itself
reading_of_new (Some class) = reads_object class

abbrev pub reading_of : Classes → FlatCode → ℕ → Frame → FlatInstr → Reading
reading_of classes flat number frame (Of class (New index)) =
    reading_of_new (class_of_site flat.sites number)
reading_of classes flat number frame (Of class (Invoke opcode index count)) =
    reading_of_call flat frame opcode
    (reference_of (pool_of classes class) (constant_at (pool_of classes class) index))
reading_of classes flat number frame instr = reads_itself

abbrev pub read_row : Classes → Scope → FlatCode → ℕ → Point → Row
read_row classes s flat number point =
    row_by (reading_of classes flat number point.typed point.instr) (read_frame flat point.typed)
    (item_row (instr_scope classes s flat point.instr) (read_frame flat point.typed) number
    (flat_item point.instr))

-- ---- flat code that is typed

-- a frame goes to the point of a number
abbrev pub MayGoToPoint : Classes → Scope → FlatCode → Option Frame → ℕ → Type 0
MayGoToPoint classes s flat frame number =
    MayGoTo (host_scope classes s flat) frame (read_at flat number)

-- The frame of a point, read, types it: its row holds, and the frames along the edges from it may stand for those of the points there.
pub record TypesPoint (classes : Classes) (s : Scope) (flat : FlatCode) (number : ℕ) (point : Point)
    : Type 0 where
  pub row : RowHolds (instr_scope classes s flat point.instr) (read_frame flat point.typed)
      (read_row classes s flat number point)
  pub next : IfSome
      (if item_falls_through (flat_item point.instr)
      then row_frame (read_frame flat point.typed) (read_row classes s flat number point) else None)
      (λ frame. MayGoToPoint classes s flat (Some frame) (number + 1))
  pub targets : AllByRecursion
      (MayGoToPoint classes s flat
      (row_frame (read_frame flat point.typed) (read_row classes s flat number point)))
      (item_targets (flat_item point.instr))
  pub handlers : AllByRecursion
      (λ handler. MayGoToPoint classes s flat
      (Some
      (catch_frame (read_frame flat point.typed) (caught_class handler.catch_class)))
      handler.to) point.handlers

-- The typed points of the flat code of a host type it: its handlers catch throwables, the frame that it begins with may stand for that of
-- its first point, and each point is typed.
pub record TypesFlat (classes : Classes) (s : Scope) (flat : FlatCode) : Type 0 where
  pub catch_types : AllByRecursion
      (λ caught. IsThrowable (host_scope classes s flat).headers caught.class)
      (body_of_flat classes s flat).table
  pub entry : MayGoToPoint classes s flat (Some (flat_entry s flat)) 0
  pub points : (number : ℕ) (point : Point)
      → point_at flat number ≡ Some point
      → TypesPoint classes s flat number point
