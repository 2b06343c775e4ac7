-- The fields of an object of a class by the members that they are: those of the highest class first, each class's in the order of
-- their declaration (JVM Specification SE 8, 2.4 and 2.7).
use Rattle.std.specs.Prelude.{ℕ, List, map, min, reverse, Option, option_map}
use Rattle.std.specs.List.{flat_map}
use Rattle.class_tree.specs.Headers.{Name, Headers}
use Rattle.class_tree.specs.Layouts.{superclasses, own_fields}
use Rattle.member_link.specs.Machine.Programs.{Program, headers_in, number_of_first, same_reference}
use Rattle.member_link.specs.References.{Reference}

-- the instance fields that a class of the folder declares
abbrev pub own_slots_in : Headers → Name → List Reference
own_slots_in headers name =
    map (λ field. record { class = name; name = field.name; desc = field.desc })
    (own_fields headers name)

-- the fields of an object of a class, in the order of its values
abbrev pub slots_in : Headers → Name → List Reference
slots_in headers name = flat_map (own_slots_in headers) (reverse (superclasses headers name))

-- the number of a field among them
abbrev pub slot_number_in : Headers → Name → Reference → Option ℕ
slot_number_in headers name field =
    number_of_first (same_reference field) (slots_in headers name)

-- a number that is as great as the greatest, or greater, is the greatest
abbrev pub capped : ℕ → Option ℕ → Option ℕ
capped most found = option_map (λ number. min number most) found

-- ---- in a program

abbrev pub own_slots : Program → Name → List Reference
own_slots P name = own_slots_in (headers_in P) name

abbrev pub slots_of : Program → Name → List Reference
slots_of P name = slots_in (headers_in P) name

abbrev pub slot_number : Program → Name → Reference → Option ℕ
slot_number P name field = slot_number_in (headers_in P) name field
