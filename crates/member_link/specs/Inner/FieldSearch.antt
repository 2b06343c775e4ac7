-- How the search for a field goes: above an interface through the interfaces in depth-first order, where the first that
-- names no interfaces has java/lang/Object alone above it; then from a class to its superclass.
use Rattle.std.specs.Prelude.{ℕ, List, [], ◌∷◌, Option, Some, None, option_map, option_and_then, IfSome, IsTrue}
use Rattle.std.specs.Option.{option_or}
use Rattle.class_model.specs.declared.header.Header.{Header}
use Rattle.class_tree.specs.Headers.{Name, Headers, class_named}
use Rattle.class_tree.specs.Names.{is_interface}
use Rattle.class_tree.specs.Order.{header_at}
use Rattle.class_tree.specs.declared.place.Place.{Place}
use Rattle.member_link.specs.DeclaredMembers.{Declared, declared_by, declared}
use Rattle.member_link.specs.Fields.{FindsFirst}

-- the class of this name, if there is one, is an interface
abbrev pub IsInterfaceIfThere : Headers → Name → Type 0
IsInterfaceIfThere headers name =
    IfSome (class_named headers name) (λ header. IsTrue (is_interface header))

-- the field of java/lang/Object, where no other interfaces come before it
abbrev pub of_last : Option Declared → List Name → Option Declared
of_last top [] = top
of_last top (interface ∷ interfaces) = None

-- the field that is met in an interface: its own, or where it names no interfaces that of java/lang/Object
abbrev pub met : Option Declared → List ℕ → List ℕ → Header → Option Declared
met top name desc header =
    option_or (option_map (declared_by header.name) (declared name desc header.fields))
    (of_last top header.interfaces)

-- the first that is met in the interfaces at these places
abbrev pub first_met : Headers → Option Declared → List ℕ → List ℕ → List Place → Option Declared
first_met headers top name desc [] = None
first_met headers top name desc (place ∷ places) =
    option_or (option_and_then (met top name desc) (header_at headers place))
    (first_met headers top name desc places)

-- the superclass alone
abbrev pub super_list : Option Name → List Name
super_list None = []
super_list (Some name) = name ∷ []

-- The field is found in a class without its superclass; or there is none, and what is found in the superclass is found.
abbrev pub FindsOrLeaves : Headers → List ℕ → List ℕ → Header → Option Declared → Type 0
FindsOrLeaves headers name desc header (Some field) =
    FindsFirst headers name desc (header.name ∷ []) (Some field)
FindsOrLeaves headers name desc header None =
    (found : Option Declared)
    → FindsFirst headers name desc (super_list header.super_name) found
    → FindsFirst headers name desc (header.name ∷ []) found
