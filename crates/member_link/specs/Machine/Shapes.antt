-- What an object is below, and which values conform to a type (JVM Specification SE 8, 2.4, 4.10.1.2 and 6.5). Where a type is an
-- interface each reference conforms to it, as the type checker takes it.
use Rattle.std.specs.Prelude.{◌==◌, ◌-◌, ◌&&◌, ◌||◌, ℕ, Bool, true, false, List, [], ◌∷◌, length, take, bytes_eq, Option, Some, None, if◌then◌else◌}
use Rattle.std.specs.List.{list_any}
use Rattle.class_model.specs.Characters.{class_letter, left_bracket}
use Rattle.class_model.specs.Descriptors.{kind_of}
use Rattle.class_model.specs.declared.descriptor.FieldType.{FieldType}
use Rattle.class_model.specs.declared.descriptor.FieldType.TheVariants.{Named}
use Rattle.class_tree.specs.Headers.{Name}
use Rattle.class_tree.specs.Names.{object}
use Rattle.machine_values.specs.declared.object.Object.{Object}
use Rattle.machine_values.specs.declared.object.Shape.{Shape}
use Rattle.machine_values.specs.declared.object.Shape.TheVariants.{Folder, Array, External}
use Rattle.machine_values.specs.declared.value.Value.{Value}
use Rattle.machine_values.specs.declared.value.Value.TheVariants.{Null, Ref}
use Rattle.machine_values.specs.Heaps.{Heap, object_at}
use Rattle.member_link.specs.Machine.Programs.{Program, name_of_class, is_interface_named}
use Rattle.machine_values.specs.Values.{has_kind, component_text}

-- the class of an object, or the descriptor of an array
abbrev pub class_of_shape : Program → Shape → Name
class_of_shape P (Folder number) = name_of_class P number
class_of_shape P (Array desc len) = desc
class_of_shape P (External class also) = class

abbrev pub is_external : Shape → Bool
is_external (External class also) = true
is_external shape = false

-- it is an instance of a class or array type: an object of the library of what it also implements too
abbrev pub is_instance : Program → Shape → Name → Bool
is_instance P (External class also) name =
    P.links.below class name || list_any (λ interface. P.links.below interface name) also
is_instance P shape name = P.links.below (class_of_shape P shape) name

-- ---- conforming

-- the class that a descriptor between L and ; names
abbrev pub class_in : List ℕ → Option Name
class_in [] = None
class_in (first ∷ rest) = if first == class_letter then Some (take (length rest - 1) rest) else None

abbrev pub is_object : Name → Bool
is_object name = bytes_eq name object

-- a class conforms to each interface, to java/lang/Object, as a class that is nowhere does too, and to the classes above it;
-- components of arrays conform by the same rule
abbrev pub class_conforms : Program → Name → Name → Bool
class_conforms P low high =
    is_interface_named P high || (is_object high || P.links.below low high)

-- the component of an array of references as a class name or array type; of another array none
abbrev pub component_named : List ℕ → Option Name
component_named [] = None
component_named (first ∷ rest) =
    if first == left_bracket then Some (first ∷ rest) else class_in (first ∷ rest)

abbrev pub both_conform : Program → Option Name → Option Name → Bool
both_conform P (Some low) (Some high) = class_conforms P low high
both_conform P low high = false

-- Descriptors of what two arrays hold: both are of references, and the one conforms to the other or both are arrays again.
abbrev pub components_conform : Program → List ℕ → List ℕ → Bool
components_conform P (low ∷ lows) (high ∷ highs) =
    both_conform P (component_named (low ∷ lows)) (component_named (high ∷ highs))
    || (low == left_bracket && (high == left_bracket && components_conform P lows highs))
components_conform P lows highs = false

abbrev pub shape_conforms : Program → Shape → Name → Bool
shape_conforms P (Array desc len) name =
    is_interface_named P name
    || (P.links.below desc name || components_conform P (component_text desc) (component_text name))
shape_conforms P shape name = is_interface_named P name || is_instance P shape name

-- a reference that is in the heap and conforms
abbrev pub reference_conforms : Program → Heap → ℕ → Name → Bool
reference_conforms P heap reference name = of_object (object_at heap reference) where
  of_object : Option Object → Bool
  of_object None = false
  of_object (Some object) = shape_conforms P object.shape name

-- a value is of the kind of a type, and a reference conforms to it
abbrev pub value_conforms : Program → Heap → FieldType → Value → Bool
value_conforms P heap (Named name) Null = true
value_conforms P heap (Named name) (Ref reference) = reference_conforms P heap reference name
value_conforms P heap (Named name) value = false
value_conforms P heap type value = has_kind (kind_of type) value
