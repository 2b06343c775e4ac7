-- What the host of an expanded flat code may take over from the classes of its callees.
use Rattle.std.specs.Prelude.{◌≡◌, ◌≢◌, ℕ, slice_get, Some}
use Rattle.class_model.specs.Pool.{Constants, constant_at}
use Rattle.class_model.specs.declared.class_file.ClassFile.{ClassFile}
use Rattle.class_model.specs.declared.instr.Instr.{Instr}
use Rattle.class_model.specs.declared.instr.Instr.TheVariants.{Dynamic, Ldc}
use Rattle.class_tree.specs.Headers.{Classes}
use Rattle.expanded_code.specs.Callees.{IsNoHandle}
use Rattle.flow_code.specs.FlatCode.{FlatCode}
use Rattle.flow_code.specs.declared.point.FlatInstr.TheVariants.{Of}
use Rattle.flow_code.specs.declared.point.Point.{Point}

-- an instruction of another class may stand in the host's code: a call site, a method handle and a method type stay in their class
abbrev pub IsCarriable : Constants → Instr → Type 0
IsCarriable pool (Dynamic index) = ⊥
IsCarriable pool (Ldc index) = IsNoHandle (constant_at pool index)
IsCarriable pool instr = Unit {0}

-- the instructions of other classes in a flat code may
abbrev pub CarriesConstants : Classes → FlatCode → Type 0
CarriesConstants classes flat =
    (at : ℕ) (point : Point) (class : ℕ) (instr : Instr) (file : ClassFile)
    → slice_get flat.points at ≡ Some point
    → point.instr ≡ Of class instr
    → slice_get classes.folder class ≡ Some file
    → class ≢ flat.host.class
    → IsCarriable file.pool instr
