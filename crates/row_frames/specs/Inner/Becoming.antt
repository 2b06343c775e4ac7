-- Types behind the call of an instance initialiser (JVM Specification SE 8, 4.10.1.9.invokespecial).
use Rattle.std.specs.Prelude.{◌==◌, Option, Some, None, if◌then◌else◌}
use Rattle.class_model.specs.declared.frame.VType.{VType}
use Rattle.class_model.specs.declared.frame.VType.TheVariants.{Object, Uninit, UninitThis}
use Rattle.class_tree.specs.Headers.{Name}

-- the class that an entry becomes an object of, if it is a copy of the receiver
abbrev pub class_after : Name → Name → VType → VType → Option Name
class_after own class (Uninit at) (Uninit other) = if other == at then Some class else None
class_after own class UninitThis UninitThis = Some own
class_after own class receiver type = None

-- an object of a class, or the type stays
abbrev pub object_or : Option Name → VType → VType
object_or (Some name) type = Object name
object_or None type = type

abbrev pub becomes : Name → Name → VType → VType → VType
becomes own class receiver type = object_or (class_after own class receiver type) type
