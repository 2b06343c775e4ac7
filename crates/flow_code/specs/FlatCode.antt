-- Flat code: the instructions of a method, as points that know their types and their handlers. It is this project's profile.
use Rattle.std.specs.Prelude.{ℕ, ◌<◌, List, length, Option}
use Rattle.std.specs.List.{AllByRecursion, slice_get}
use Rattle.class_model.specs.Code.{FitsLocal}
use Rattle.class_model.specs.Instructions.{targets}
use Rattle.class_model.specs.declared.class_file.MethodAt.{MethodAt}
use Rattle.class_model.specs.declared.descriptor.Kind.TheVariants as kinds
use Rattle.class_model.specs.declared.instr.Instr.{Instr}
use Rattle.class_model.specs.declared.instr.Instr.TheVariants.{Load, Store, Iinc}
use Rattle.flow_code.specs.declared.point.FlatInstr.{FlatInstr}
use Rattle.flow_code.specs.declared.point.FlatInstr.TheVariants.{Of, NullTest}
use Rattle.flow_code.specs.declared.point.Point.{Point}
use Rattle.flow_code.specs.declared.point.Site.{Site}

-- The flat code of a method: how many local units it has, its points in order, and its sites.
pub record FlatCode : Type 0 where
  pub host : MethodAt
  pub locals : ℕ
  pub points : List Point
  pub sites : List Site

-- ---- what is well formed

-- a number names one of so many points
abbrev pub NamesPoint : ℕ → ℕ → Type 0
NamesPoint points to = to < points

-- the local that an instruction names, which for a long or double is followed by another, is one of so many units
abbrev pub HasLocal : ℕ → Instr → Type 0
HasLocal locals (Load kind local) = FitsLocal locals kind local
HasLocal locals (Store kind local) = FitsLocal locals kind local
HasLocal locals (Iinc local by) = FitsLocal locals kinds.Int local
HasLocal locals other = Unit {0}

-- the targets of an instruction are points, and its local is a unit
abbrev pub FitsFlat : ℕ → ℕ → FlatInstr → Type 0
FitsFlat points locals (Of class instr) =
    AllByRecursion (NamesPoint points) (targets instr) × HasLocal locals instr
FitsFlat points locals (NullTest local) = local < locals

-- a point among so many, in a code of so many local units: what it jumps to and its handlers are points
pub record IsPoint (points locals : ℕ) (point : Point) : Type 0 where
  pub instr : FitsFlat points locals point.instr
  pub handlers : AllByRecursion (λ handler. NamesPoint points handler.to) point.handlers

-- Every point is well formed, and every site stands at a point.
pub record IsFlat (flat : FlatCode) : Type 0 where
  pub points : AllByRecursion (IsPoint (length flat.points) flat.locals) flat.points
  pub sites : AllByRecursion (λ site. NamesPoint (length flat.points) site.at) flat.sites

-- ---- look-ups

-- the point of a number, if there is one
abbrev pub point_at : FlatCode → ℕ → Option Point
point_at flat at = slice_get flat.points at
