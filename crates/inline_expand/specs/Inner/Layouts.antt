-- Words of how methods stand in flat code.
use Rattle.std.specs.Prelude.{◌≡◌, ◌+◌, ◌≤◌, min, pos, ℕ, Bool, true, false, List, [], ◌∷◌, length, map, slice_get, Option, Some, None, if◌then◌else◌}
use Rattle.std.specs.List.{AllByRecursion}
use Rattle.class_model.specs.Descriptors.{parameter_units, units_of}
use Rattle.class_model.specs.declared.descriptor.FieldType.{FieldType}
use Rattle.class_model.specs.declared.descriptor.Kind.TheVariants as kinds
use Rattle.class_model.specs.declared.frame.VType.TheVariants.{Int}
use Rattle.class_model.specs.declared.instr.Imm.TheVariants as imms
use Rattle.class_model.specs.declared.instr.Instr.{Instr}
use Rattle.class_model.specs.declared.instr.Instr.TheVariants.{Const, Pure}
use Rattle.class_model.specs.declared.instr.Placed.{Placed}
use Rattle.class_model.specs.declared.opcodes.TheConstants.{I2B, I2C, I2S, IAND}
use Rattle.expanded_code.specs.Expanded.{Argument, Narrowing, arguments, arguments_from, narrows, own_narrowing, own_points, points_of_callee, tests_receiver, units_in}
use Rattle.expanded_code.specs.Expansions.{Expansion, replaced, site, stays}
use Rattle.inline_expand.specs.Inner.Steps.{Callee}
use Rattle.inline_expand.specs.declared.expanded.layouts.Layout.{Layout}
use Rattle.inline_expand.specs.declared.expanded.shapes.Narrowed.{Narrowed}
use Rattle.inline_expand.specs.declared.expanded.shapes.Narrowed.TheVariants.{Same, ToBool, ToByte, ToChar, ToShort}
use Rattle.inline_expand.specs.declared.expanded.shapes.Parameter.{Parameter}
use Rattle.inline_expand.specs.declared.expanded.shapes.Shape.{Shape}
use Rattle.inline_expand.specs.declared.expansions.Step.{Step}
use Rattle.inline_expand.specs.declared.expansions.Step.TheVariants.{Replaced}
use Rattle.member_link.specs.Scope.{Scope, instructions}

-- ---- arguments and results

-- an argument where the callee's units begin at one
abbrev pub argument_from : ℕ → Parameter → Argument
argument_from unit parameter = record {
  kind = parameter.kind;
  unit = unit + parameter.unit;
}

abbrev pub arguments_of : Shape → ℕ → List Argument
arguments_of shape unit = map (argument_from unit) shape.parameters.items

abbrev pub narrowing_of : Narrowed → List Narrowing
narrowing_of Same = []
narrowing_of ToByte = narrows (Pure I2B)
narrowing_of ToShort = narrows (Pure I2S)
narrowing_of ToChar = narrows (Pure I2C)
narrowing_of ToBool =
    record { instr = Const (imms.Int (pos 1)); above = [] }
    ∷ record { instr = Pure IAND; above = Int ∷ [] }
    ∷ []

-- a parameter's units end by one
abbrev pub EndsBy : ℕ → Parameter → Type 0
EndsBy end parameter = parameter.unit + units_of parameter.kind ≤ end

-- where the units of a callee begin at one, those of its parameters are numbers of two bytes
abbrev pub AreWithin : ℕ → List Parameter → Type 0
AreWithin unit parameters = AllByRecursion (λ parameter. unit + parameter.unit ≤ 65535) parameters

-- these stand for parameters of these types, behind a receiver or none
abbrev pub arguments_behind : Bool → ℕ → List FieldType → List Argument
arguments_behind false unit types = arguments_from unit types
arguments_behind true unit types =
    record { kind = kinds.Ref; unit = unit } ∷ arguments_from (unit + 1) types

pub record AreParameters (receiver : Bool) (types : List FieldType) (parameters : List Parameter)
    : Type 0 where
  pub each : (unit : ℕ)
      → map (argument_from unit) parameters ≡ arguments_behind receiver unit types
  pub inside : AllByRecursion
      (EndsBy (parameter_units types + (if receiver then 1 else 0))) parameters

-- how a method is called and returns
pub record IsShape (s : Scope) (shape : Shape) : Type 0 where
  pub arguments : (unit : ℕ) → arguments s unit ≡ arguments_of shape unit
  pub tests : shape.tests_receiver ≡ tests_receiver s
  pub narrowing : own_narrowing s ≡ narrowing_of shape.narrowed
  pub inside : AllByRecursion (EndsBy s.part.max_locals) shape.parameters.items

-- ---- numbers

-- the number of the first point of each instruction, and that of what is behind them
abbrev pub starts_from : Option Scope → ℕ → List Placed → Expansion → List ℕ
starts_from callee number (placed ∷ instrs) (stays more) =
    number ∷ starts_from callee (number + own_points callee placed.instr) instrs more
starts_from callee number (placed ∷ instrs) (site class more) =
    number ∷ starts_from callee (number + own_points callee placed.instr) instrs more
starts_from callee number (placed ∷ instrs) (replaced g inner more) =
    number ∷ starts_from callee (number + points_of_callee g inner) instrs more
starts_from callee number instrs expansion = number ∷ []

-- a count, up to the most that two bytes count
abbrev pub capped : ℕ → ℕ
capped count = min count 65535

-- the points of a return of a callee
abbrev pub return_width : Scope → ℕ
return_width s = length (own_narrowing s) + 1

-- the points in the place of an instruction, in whose place a callee may stand
abbrev pub points_by : Option Scope → Instr → Option Callee → ℕ
points_by method instr None = own_points method instr
points_by method instr (Some callee) = points_of_callee callee.coded callee.inner

-- what a step names of a list
abbrev pub replacing : {A : Type 0} → List A → Step → Option A
replacing items (Replaced number) = slice_get items number
replacing items step = None

abbrev pub step_points : List Callee → Option Scope → Instr → Step → ℕ
step_points callees method instr step = points_by method instr (replacing callees step)

-- the units of a callee and of those in it
abbrev pub units_of_callee : Callee → ℕ
units_of_callee callee = callee.coded.scope.part.max_locals + units_in callee.inner

-- a callee's shape, the numbers of its points from its first own, its points in place of a call, and its units
pub record IsLayout (callee : Callee) (layout : Layout) : Type 0 where
  pub shape : IsShape callee.coded.scope layout.shape
  pub starts : layout.starts.items
      ≡ map capped
      (starts_from (Some callee.coded.scope) 0 (instructions callee.coded.scope) callee.inner)
  pub points : layout.points ≡ capped (points_of_callee callee.coded callee.inner)
  pub units : layout.units ≡ capped (units_of_callee callee)

abbrev pub AreLayouts : List Callee → List Layout → Type 0
AreLayouts [] [] = Unit {0}
AreLayouts (callee ∷ callees) (layout ∷ layouts) =
    IsLayout callee layout × AreLayouts callees layouts
AreLayouts callees layouts = ⊥
