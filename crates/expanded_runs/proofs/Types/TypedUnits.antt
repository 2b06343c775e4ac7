-- Each frame of a typed method has its local units in pairs, and as many as the one that its code begins with.
use Rattle.std.proofs.Common.{◌≡◌, ℕ, List, length, slice_get, Some, subst, ◌∙◌}
use Rattle.class_model.specs.Methods.{home_of}
use Rattle.class_model.specs.declared.frame.Frame.{Frame}
use Rattle.class_model.specs.declared.instr.Placed.{Placed}
use Rattle.expanded_runs.proofs.Types.EachFrame.{each_frame, framed_is}
use Rattle.expanded_runs.proofs.Types.OwnPoints.{IsTyped}
use Rattle.expanded_code.specs.Laws.RowUnits.{ArePaired, filled_paired, row_keeps_units}
use Rattle.expanded_code.specs.Laws.StatedUnits.{stated_units}
use Rattle.member_link.specs.Bodies.{falls_through, flows_on}
use Rattle.member_link.specs.BodyTyping.{RowHolds}
use Rattle.member_link.specs.Rows.Table.{row_of}
use Rattle.member_link.specs.Scope.{Scope, instructions, row_scope}
use Rattle.type_rules.specs.MethodBodies.{point_of}
use Rattle.type_rules.specs.Stated.{entry, stated_at}

-- units in pairs, and as many as a method's code has, if the frame that it begins with has these
pub record HasTypedUnits (s : Scope) (frame : Frame) : Type 0 where
  pub paired : ArePaired frame.locals
  pub long : length (entry s).locals ≡ s.part.max_locals → length frame.locals ≡ s.part.max_locals

module _ (s : Scope) (frames : List Frame) (typed : IsTyped s frames) (one_each : length frames ≡ length (instructions s)) where
  entry_has : HasTypedUnits s (entry s)
  entry_has = record { paired = filled_paired s.part.max_locals _; long = λ same. same }

  -- a frame that is stated
  stated_has : (place : ℕ) (frame : Frame) → stated_at s place ≡ Some frame → HasTypedUnits s frame
  stated_has place frame is =
      let has = stated_units (home_of s.class) s.method s.part place frame s.part.attrs is in
      record { paired = has.paired; long = λ same. has.long }

  behind_has : (placed : Placed) (frame flows : Frame) → HasTypedUnits s frame
      → RowHolds (row_scope s) frame (row_of (row_scope s) frame placed.at placed.instr)
      → flows_on (point_of s placed) frame ≡ Some flows
      → HasTypedUnits s flows
  behind_has placed frame flows has row is =
      let keeps = row_keeps_units (row_scope s) frame placed.at placed.instr row.local row.operands in
      let same = framed_is (falls_through placed.instr) (row_of (row_scope s) frame placed.at placed.instr).goes_on _ flows is in
      subst (HasTypedUnits s) same (record { paired = keeps.paired has.paired; long = λ entered. keeps.long ∙ has.long entered })

  -- Each frame.
  pub typed_units : (k : ℕ) (frame : Frame) → slice_get frames k ≡ Some frame → HasTypedUnits s frame
  typed_units =
      each_frame s frames typed one_each (HasTypedUnits s) entry_has stated_has
      (λ k placed there frame flows has row is. behind_has placed frame flows has row is)
