-- How wide flat code may be. It is this project's profile.
use Rattle.std.specs.Prelude.{◌≤◌, ◌<◌, ◌^◌, length}
use Rattle.std.specs.List.{AllByRecursion}
use Rattle.class_model.specs.declared.frame.Frame.{Frame}
use Rattle.flow_code.specs.FlatCode.{FlatCode}
use Rattle.flow_code.specs.declared.point.Point.{Point}
use Rattle.plan_flow.specs.PlanTable.{targets_at}

-- each local unit has a number of 16 bits
abbrev pub HasFewLocals : Frame → Type 0
HasFewLocals f = length f.locals ≤ 65536

-- each local unit of a point has a number of 16 bits, and each target and handler one of 32
pub record IsNarrowPoint (point : Point) : Type 0 where
  pub locals : HasFewLocals point.typed
  pub targets : length (targets_at point.instr) < 2 ^ 32
  pub handlers : length point.handlers < 2 ^ 32

-- The flat code of a method that is rewritten: each site has a number of 16 bits, and so on at each point.
pub record IsNarrow (flat : FlatCode) : Type 0 where
  pub sites : length flat.sites ≤ 65536
  pub points : AllByRecursion IsNarrowPoint flat.points
