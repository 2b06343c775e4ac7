-- What a new object holds (JVM Specification SE 8, 2.3, 2.4 and 2.5.3).
use Rattle.std.specs.Prelude.{ℕ, ◌<◌, List, [], length, replicate, slice_get, Option, Some, None}
use Rattle.class_model.specs.Descriptors.{IsArrayType}
use Rattle.class_model.specs.declared.header.Header.{Header}
use Rattle.class_tree.specs.Headers.{Classes, Headers}
use Rattle.class_tree.specs.Layouts.{instance_fields}
use Rattle.machine_values.specs.Values.{blank_value, blank_values, component_text}
use Rattle.machine_values.specs.declared.object.Shape.{Shape}
use Rattle.machine_values.specs.declared.object.Shape.TheVariants.{Folder, Array, External}
use Rattle.machine_values.specs.declared.value.Value.{Value}

-- an object of this shape can be made: its class is one of the folder, or it is of an array type or of the library
abbrev pub IsAllocatable : Classes → Shape → Type 0
IsAllocatable classes (Folder class) = class < length classes.folder
IsAllocatable classes (Array desc len) = IsArrayType desc
IsAllocatable classes (External class also) = Unit {0}

-- zero or null by the types of the fields, for the class of the folder that has this number
abbrev pub blank_object : Headers → ℕ → List Value
blank_object headers class = of_header (slice_get headers.folder class) where
  of_header : Option Header → List Value
  of_header None = []
  of_header (Some header) = blank_values (instance_fields headers header.name)

-- zero or null by the types of the fields or elements; the fields of an object of the library are the library's
abbrev pub blank_for : Headers → Shape → List Value
blank_for headers (Folder class) = blank_object headers class
blank_for headers (Array desc len) = replicate len (blank_value (component_text desc))
blank_for headers (External class also) = []
