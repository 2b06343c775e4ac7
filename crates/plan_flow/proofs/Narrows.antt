-- Points of flat code that is not too wide.
use Rattle.std.proofs.Common.{◌≡◌, ◌<◌, ◌≤◌, ◌^◌, ℕ, length, Option, Some, None, option_map, refl, subst, arith}
use Rattle.class_model.specs.Laws.Lists.{at_index}
use Rattle.class_model.specs.declared.frame.Frame.{Frame}
use Rattle.flow_code.specs.FlatCode.{FlatCode, point_at}
use Rattle.flow_code.specs.declared.point.FlatInstr.{FlatInstr}
use Rattle.flow_code.specs.declared.point.Point.{Point}
use Rattle.plan_flow.specs.Narrow.{HasFewLocals, IsNarrow, IsNarrowPoint}
use Rattle.plan_flow.specs.PlanScope.{local_types}
use Rattle.plan_flow.specs.PlanTable.{targets_at}
use Rattle.plan_flow.proofs.AskedSites.{found_point}
use Rattle.plan_flow.proofs.Opening.{got_inside}

pub narrow_types : (flat : FlatCode) (at : ℕ) (types : Frame) → IsNarrow flat → option_map (λ (point : Point). point.typed) (point_at flat at) ≡ Some types → HasFewLocals types
narrow_types flat at types narrow is =
    let found = found_point (λ (point : Point). point.typed) (point_at flat at) types is in
    subst HasFewLocals found.2 (at_index IsNarrowPoint flat.points at found.0 narrow.points found.1).locals

pub narrow_targets : (flat : FlatCode) (at : ℕ) (instr : FlatInstr) → IsNarrow flat → option_map (λ (point : Point). point.instr) (point_at flat at) ≡ Some instr → length (targets_at instr) < 2 ^ 32
narrow_targets flat at instr narrow is =
    let found = found_point (λ (point : Point). point.instr) (point_at flat at) instr is in
    subst (λ (one : FlatInstr). length (targets_at one) < 2 ^ 32) found.2 (at_index IsNarrowPoint flat.points at found.0 narrow.points found.1).targets

pub narrow_handlers : (flat : FlatCode) (at : ℕ) (handlers : _) → IsNarrow flat → option_map (λ (point : Point). point.handlers) (point_at flat at) ≡ Some handlers → length handlers < 2 ^ 32
narrow_handlers flat at handlers narrow is =
    let found = found_point (λ (point : Point). point.handlers) (point_at flat at) handlers is in
    subst (λ list. length list < 2 ^ 32) found.2 (at_index IsNarrowPoint flat.points at found.0 narrow.points found.1).handlers

pub point_inside : (flat : FlatCode) (at : ℕ) (instr : FlatInstr) → option_map (λ (point : Point). point.instr) (point_at flat at) ≡ Some instr → at < length flat.points
point_inside flat at instr is =
    let found = found_point (λ (point : Point). point.instr) (point_at flat at) instr is in
    got_inside flat.points at found.0 found.1

-- the local units of a point, or none where there is no such point
pub narrow_locals : (flat : FlatCode) (at : ℕ) → IsNarrow flat → length (local_types flat at) ≤ 65536
narrow_locals flat at narrow = by (point_at flat at) refl
  where
    by : (point : Option Point) → point_at flat at ≡ point → length (local_types flat at) ≤ 65536
    by None there = rw there (omega arith)
    by (Some point) there = rw there ((at_index IsNarrowPoint flat.points at point narrow.points there).locals)
