-- What look-ups, links, assignability and rows are among classes that have grown.
use Rattle.std.specs.Prelude.{◌≡◌, ◌↔◌, ℕ, List, [], Some}
use Rattle.class_model.specs.declared.frame.Frame.{Frame}
use Rattle.class_tree.specs.Alike.{AreAlike}
use Rattle.class_tree.specs.Headers.{Name, Headers}
use Rattle.class_tree.specs.Hierarchy.{IsHierarchy}
use Rattle.member_link.specs.Bodies.{CodeItem, item_row}
use Rattle.member_link.specs.BodyTyping.{RowHolds}
use Rattle.member_link.specs.DeclaredMembers.{Declared}
use Rattle.member_link.specs.Fields.{FindsField}
use Rattle.member_link.specs.Machine.Links.{AreLinksOf}
use Rattle.member_link.specs.Machine.Programs.{Links, Program, headers_in}
use Rattle.member_link.specs.Machine.Replaced.{Replacement, replaced}
use Rattle.member_link.specs.Methods.{FindsMethod}
use Rattle.member_link.specs.RowScope.{RowScope}
use Rattle.member_link.specs.Rows.FrameAssignability.{IsFrameAssignable}
use Rattle.member_link.specs.Rows.Readings.{Reading, row_by}
use Rattle.member_link.specs.Rows.Row.{row_frame}
use Rattle.type_rules.specs.Grown.{AreGrownHeaders, IsGrownScope, IsSameFound}

pub record GrownLaws : Type 0 where
  pub grown : (P : Program) (r : Replacement) → ((class : ℕ) → r.added class ≡ []) → AreGrownHeaders (headers_in P) (headers_in (replaced P r))
  pub alike : (old new : Headers) → AreGrownHeaders old new → AreAlike old new
  pub hierarchy : (one other : Headers) → AreAlike one other → IsHierarchy one ↔ IsHierarchy other
  pub links : (old new : Headers) (links : Links) → AreGrownHeaders old new → AreLinksOf old links ↔ AreLinksOf new links
  pub fields : (old new : Headers) (class : Name) (name desc : List ℕ) (field : Declared) → AreGrownHeaders old new
      → FindsField old class name desc (Some field)
      → (found : Declared) × FindsField new class name desc (Some found) × IsSameFound field found
  pub methods : (old new : Headers) (class : Name) (name desc : List ℕ) (method : Declared) → AreGrownHeaders old new
      → FindsMethod old class name desc (Some method)
      → FindsMethod new class name desc (Some method)
  pub frames : (old new : Headers) (from to : Frame) → AreGrownHeaders old new → IsFrameAssignable old from to ↔ IsFrameAssignable new from to
  pub rows : (old new : RowScope) (before : Frame) (place : ℕ) (item : CodeItem) (reading : Reading) → IsGrownScope old new
      → RowHolds old before (row_by reading before (item_row old before place item))
      → RowHolds new before (row_by reading before (item_row new before place item))
  pub left : (old new : RowScope) (before : Frame) (place : ℕ) (item : CodeItem) (reading : Reading) → IsGrownScope old new
      → row_frame before (row_by reading before (item_row new before place item))
      ≡ row_frame before (row_by reading before (item_row old before place item))
