-- The rows of instructions that stay hold in their place, under conditions on the place of each.
use Rattle.std.proofs.Common.{Option}
use Rattle.class_model.specs.declared.frame.Frame.{Frame}
use Rattle.class_model.specs.declared.instr.Placed.{Placed}
use Rattle.class_tree.specs.Headers.{Classes, Name}
use Rattle.expanded_code.specs.Expanded.{Setting}
use Rattle.expanded_runs.proofs.Types.FlatPlaces.{HasDepth, HasUnits, StandsInFlat, ThisIs}
use Rattle.expanded_runs.proofs.Types.FlatRows.{FlatRow, StaysInFlat, flat_row_holds, own_row}
use Rattle.flow_code.specs.FlatCode.{FlatCode}
use Rattle.member_link.specs.BodyTyping.{RowHolds}
use Rattle.member_link.specs.RowScope.{RowScope}
use Rattle.member_link.specs.Rows.Row.{Row, access_aside}
use Rattle.member_link.specs.Scope.{Scope, row_scope}

-- what is asked of the place of an instruction that stays
pub record RowConditions (classes : Classes) (s : Scope) (flat : FlatCode) (t : Setting) (placed : Placed) (frame : Frame) : Type 0 where
  pub stands : StandsInFlat classes s flat t
  pub this : Option Name
  pub this_is : ThisIs s flat t frame this
  pub units : HasUnits t frame
  pub stays : StaysInFlat s flat t frame placed.at placed.instr
  pub depth : HasDepth flat t frame (own_row t frame placed.at placed.instr)

-- a row whose access is not asked
aside : (sc : RowScope) (f : Frame) (row : Row) → RowHolds sc f row → RowHolds sc f (access_aside row)
aside sc f row holds = record {
  operands = holds.operands;
  local = holds.local;
  depth_fits = holds.depth_fits;
  further = holds.further;
  access = tt;
}

module _ (classes : Classes) (s : Scope) (flat : FlatCode) (t : Setting) (placed : Placed) (frame : Frame) where
  -- Under these conditions the row of an instruction that stays holds in flat code.
  pub flat_row_by : RowConditions classes s flat t placed frame
      → RowHolds (row_scope t.coded.scope) frame (own_row t frame placed.at placed.instr)
      → FlatRow classes s flat t frame placed.at placed.instr
  flat_row_by conditions holds =
      flat_row_holds classes s flat t conditions.stands frame placed.at conditions.this conditions.this_is conditions.units placed.instr
      conditions.stays (aside (row_scope t.coded.scope) frame (own_row t frame placed.at placed.instr) holds) conditions.depth
