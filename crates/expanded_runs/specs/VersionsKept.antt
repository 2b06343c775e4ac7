-- The instructions of an expanded flat code come from classes of one version (JVM Specification SE 8, 4.1). It is this project's profile.
use Rattle.std.specs.Prelude.{◌≡◌, ◌≢◌, ℕ, slice_get, Some}
use Rattle.class_model.specs.declared.class_file.ClassFile.{ClassFile}
use Rattle.class_model.specs.declared.instr.Instr.{Instr}
use Rattle.class_tree.specs.Headers.{Classes}
use Rattle.flow_code.specs.FlatCode.{FlatCode}
use Rattle.flow_code.specs.declared.point.FlatInstr.TheVariants.{Of}
use Rattle.flow_code.specs.declared.point.Point.{Point}

-- each instruction of another class than the host's is of a class of this major version
abbrev pub AreOfVersion : Classes → ℕ → FlatCode → Type 0
AreOfVersion classes major flat =
    (at : ℕ) (point : Point) (class : ℕ) (instr : Instr) (file : ClassFile)
    → slice_get flat.points at ≡ Some point
    → point.instr ≡ Of class instr
    → slice_get classes.folder class ≡ Some file
    → class ≢ flat.host.class
    → file.major ≡ major
