-- Which class is above which, and the subtype relation on classes and arrays (JVM Specification SE 8, 4.10 and
-- 4.10.1.2): each the least relation by its rules. Classes are names, and arrays descriptors.
use Rattle.std.specs.Prelude.{◌≡◌, ◌⊎◌, List, [], ◌∷◌, ◌++◌, bytes_eq, Some, None, IsTrue}
use Rattle.std.specs.List.{list_any}
use Rattle.class_model.specs.Characters.{semicolon, left_bracket, class_letter}
use Rattle.class_model.specs.declared.header.Header.{Header}
use Rattle.class_tree.specs.Headers.{Name, Headers, class_named}
use Rattle.class_tree.specs.Names.{object, cloneable, serializable}

-- a class names another as its superclass or as one of its interfaces
pub data IsDirectlyBelow (headers : Headers) : Name → Name → Type 0 where
  superclass : (low high : Name) (header : Header)
      → class_named headers low ≡ Some header
      → header.super_name ≡ Some high
      → IsDirectlyBelow headers low high
  interface : (low high : Name) (header : Header)
      → class_named headers low ≡ Some header
      → IsTrue (list_any (bytes_eq high) header.interfaces)
      → IsDirectlyBelow headers low high

-- a class is below its superclass and its interfaces, and below what these are below
pub data IsBelow (headers : Headers) : Name → Name → Type 0 where
  directly : (low high : Name) → IsDirectlyBelow headers low high → IsBelow headers low high
  onwards : (low middle high : Name)
      → IsDirectlyBelow headers low middle
      → IsBelow headers middle high
      → IsBelow headers low high

-- an array, as its descriptor
abbrev pub IsArray : Name → Type 0
IsArray name = (rest : Name) × (name ≡ left_bracket ∷ rest)

-- the component of an array of references: an array, or a class between L and ;
pub data IsReferenceComponent : Name → Name → Type 0 where
  array : (component : Name)
      → IsArray component
      → IsReferenceComponent (left_bracket ∷ component) component
  class : (component : Name)
      → IsReferenceComponent (left_bracket ∷ class_letter ∷ component ++ semicolon ∷ []) component

-- two names, and what they are where a component was taken of both, any number of times
pub data AreComponents (low high : Name) : Name → Name → Type 0 where
  none_taken : AreComponents low high low high
  both_taken : (one other one_component other_component : Name)
      → AreComponents low high one other
      → IsReferenceComponent one one_component
      → IsReferenceComponent other other_component
      → AreComponents low high one_component other_component

-- a class that each array is below
abbrev pub IsAboveArrays : Name → Type 0
IsAboveArrays name = (name ≡ object) ⊎ ((name ≡ cloneable) ⊎ (name ≡ serializable))

-- a type is below itself, a class below its superclass and interfaces and onwards, an array below three classes and
-- below an array whose component is above its own
pub data IsSubtype (headers : Headers) : Name → Name → Type 0 where
  itself : (name : Name) → IsSubtype headers name name
  below : (low middle high : Name)
      → IsDirectlyBelow headers low middle
      → IsSubtype headers middle high
      → IsSubtype headers low high
  of_arrays : (low high : Name) → IsArray low → IsAboveArrays high → IsSubtype headers low high
  components : (low high low_component high_component : Name)
      → IsReferenceComponent low low_component
      → IsReferenceComponent high high_component
      → IsSubtype headers low_component high_component
      → IsSubtype headers low high

-- a class and its superclasses, upwards
pub data IsChain (headers : Headers) : Name → List Name → Type 0 where
  root : (name : Name) (header : Header)
      → class_named headers name ≡ Some header
      → header.super_name ≡ None
      → IsChain headers name (name ∷ [])
  below : (name above : Name) (header : Header) (names : List Name)
      → class_named headers name ≡ Some header
      → header.super_name ≡ Some above
      → IsChain headers above names
      → IsChain headers name (name ∷ names)
