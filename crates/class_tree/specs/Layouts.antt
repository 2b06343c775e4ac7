-- The instance fields of an object of a class (JVM Specification SE 8, 2.4 and 2.7): those of the highest class first, each class's in the
-- order of their declaration. What is above a class is followed at most as many times as there are classes, which in a hierarchy is
-- to the end.
use Rattle.std.specs.Prelude.{ℕ, zero, suc, not, List, [], ◌∷◌, bytes_eq, filter, length, reverse, Option, Some, None}
use Rattle.std.specs.List.{flat_map}
use Rattle.class_model.specs.Members.{has, STATIC}
use Rattle.class_model.specs.declared.header.Header.{Header}
use Rattle.class_model.specs.declared.header.Member.{Member}
use Rattle.class_tree.specs.Headers.{Name, Headers, all_headers, named, class_named}
use Rattle.class_tree.specs.Names.{object}

abbrev pub classes_up : Headers → ℕ → Option Name → List Name
classes_up headers zero name = []
classes_up headers (suc left) None = []
classes_up headers (suc left) (Some name) =
    name ∷ classes_up headers left (super_of (class_named headers name)) where
      super_of : Option Header → Option Name
      super_of None = None
      super_of (Some header) = header.super_name

-- a class and its superclasses, upwards
abbrev pub superclasses : Headers → Name → List Name
superclasses headers name = classes_up headers (length (all_headers headers)) (Some name)

-- The chain of a class: itself and the classes above it but java/lang/Object, upwards.
abbrev pub chain : Headers → Name → List Name
chain headers class = filter (λ name. not (bytes_eq name object)) (superclasses headers class)

-- the instance fields that a class of the folder declares; those of a library's class are the library's
abbrev pub own_fields : Headers → Name → List Member
own_fields headers name = of_header (named name headers.folder) where
  of_header : Option Header → List Member
  of_header None = []
  of_header (Some header) = filter (λ field. not (has field.flags STATIC)) header.fields

-- the fields of an object of a class, in the order of its values
abbrev pub instance_fields : Headers → Name → List Member
instance_fields headers name = flat_map (own_fields headers) (reverse (superclasses headers name))
