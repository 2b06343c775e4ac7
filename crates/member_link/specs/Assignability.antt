-- Assignability of verification types (JVM Specification SE 8, 4.10.1.2). A value of class type is assignable to each
-- interface, so the relation is not transitive: an int[] is assignable to java/lang/Object, that to an interface, and the
-- int[] not to the interface.
use Rattle.std.specs.Prelude.{◌≡◌, codes, Some, IsTrue}
use Rattle.class_model.specs.declared.frame.VType.{VType}
use Rattle.class_model.specs.declared.frame.VType.TheVariants.{Top, Null, Object}
use Rattle.class_model.specs.declared.header.Header.{Header}
use Rattle.class_tree.specs.Headers.{Name, Headers, class_named}
use Rattle.class_tree.specs.Names.{is_interface}
use Rattle.class_tree.specs.Subtype.{IsArray, IsReferenceComponent, IsAboveArrays, IsBelow}

-- the descriptor of an int[]
abbrev pub int_array : Name
int_array = codes "[I"

-- of classes by their names, and arrays by their descriptors
pub data IsNameAssignable (headers : Headers) : Name → Name → Type 0 where
  to_itself : (name : Name) → IsNameAssignable headers name name
  to_interface : (low high : Name) (header : Header)
      → ¬ IsArray low
      → class_named headers high ≡ Some header
      → IsTrue (is_interface header)
      → IsNameAssignable headers low high
  to_class_above : (low high : Name) → IsBelow headers low high → IsNameAssignable headers low high
  from_array : (low high : Name)
      → IsArray low
      → IsAboveArrays high
      → IsNameAssignable headers low high
  of_components : (low high low_component high_component : Name)
      → IsReferenceComponent low low_component
      → IsReferenceComponent high high_component
      → IsNameAssignable headers low_component high_component
      → IsNameAssignable headers low high

pub data IsAssignable (headers : Headers) : VType → VType → Type 0 where
  to_same : (type : VType) → IsAssignable headers type type
  to_top : (type : VType) → IsAssignable headers type Top
  from_null : (name : Name) → IsAssignable headers Null (Object name)
  of_names : (low high : Name)
      → IsNameAssignable headers low high
      → IsAssignable headers (Object low) (Object high)
