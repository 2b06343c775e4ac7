-- The superinterfaces of a class in depth-first order: each interface before its own superinterfaces, those of the
-- class before those of its superclass (JVM Specification SE 8, 5.4.3.2 and 5.4.3.3).
use Rattle.std.specs.Prelude.{◌≡◌, List, [], ◌∷◌, ◌++◌, not, filter, bytes_eq, Some, None}
use Rattle.class_model.specs.declared.header.Header.{Header}
use Rattle.class_tree.specs.Headers.{Name, Headers, class_named}

-- interfaces one after the other, each followed by its own, as often as they are met
pub data IsWalk (headers : Headers) : List Name → List Name → Type 0 where
  done : IsWalk headers [] []
  next : (name : Name) (header : Header) (names own rest : List Name)
      → class_named headers name ≡ Some header
      → IsWalk headers header.interfaces own
      → IsWalk headers names rest
      → IsWalk headers (name ∷ names) (name ∷ (own ++ rest))

-- those of a class, and then those of the classes above it
pub data IsInterfaceWalk (headers : Headers) : Name → List Name → Type 0 where
  of_root : (name : Name) (header : Header) (walk : List Name)
      → class_named headers name ≡ Some header
      → header.super_name ≡ None
      → IsWalk headers header.interfaces walk
      → IsInterfaceWalk headers name walk
  below : (name above : Name) (header : Header) (walk rest : List Name)
      → class_named headers name ≡ Some header
      → header.super_name ≡ Some above
      → IsWalk headers header.interfaces walk
      → IsInterfaceWalk headers above rest
      → IsInterfaceWalk headers name (walk ++ rest)

-- each name once, where it stands first
abbrev pub each_once : List Name → List Name
each_once [] = []
each_once (name ∷ names) = name ∷ filter (λ other. not (bytes_eq name other)) (each_once names)

-- the superinterfaces of a class, each once
pub record AreSuperinterfaces (headers : Headers) (class : Name) (names : List Name) : Type 0 where
  pub walk : List Name
  pub walked : IsInterfaceWalk headers class walk
  pub once : names ≡ each_once walk
