-- How many units stand behind those of the sites' fields.
use Rattle.std.specs.Prelude.{◌≡◌, ◌≤◌, ◌+◌, ℕ, max, List, drop, length}
use Rattle.class_model.specs.Frames.{depth}
use Rattle.class_model.specs.declared.frame.VType.{VType}
use Rattle.flow_code.specs.FlatCode.{FlatCode}
use Rattle.flow_code.specs.WrittenUnits.{greatest_depth, written_units}
use Rattle.flow_code.specs.declared.point.Point.{Point}

-- Written code has at most 65,535 local units, of which so many hold objects and saved entries.
pub record IsRoom (flat : FlatCode) (behind : ℕ) : Type 0 where
  pub few : written_units flat ≤ 65535
  pub is : behind ≡ length flat.sites + greatest_depth flat.points

-- so many units are those of the entries before one
pub record SumsDepth (entries : List VType) (sum at : ℕ) : Type 0 where
  pub few : depth entries ≤ 65535
  pub all : sum + depth (drop at entries) ≡ depth entries

-- so many units are the most before the points before one
pub record IsDeepest (points : List Point) (greatest at : ℕ) : Type 0 where
  pub few : greatest_depth points ≤ 65535
  pub all : max greatest (greatest_depth (drop at points)) ≡ greatest_depth points
