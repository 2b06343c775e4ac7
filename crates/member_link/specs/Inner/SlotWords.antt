-- Words of the search for the number of a field.
use Rattle.std.specs.Prelude.{not, ℕ, Bool, List, bytes_eq, filter, reverse, Option, None, if◌then◌else◌}
use Rattle.std.specs.List.{flat_map, position_from}
use Rattle.class_model.specs.Members.{has, STATIC}
use Rattle.class_model.specs.declared.header.Header.{Header}
use Rattle.class_model.specs.declared.header.Member.{Member}
use Rattle.class_tree.specs.Headers.{Name, Headers}
use Rattle.class_tree.specs.Names.{is_member}
use Rattle.member_link.specs.Machine.Layouts.{own_slots_in}
use Rattle.member_link.specs.Machine.Programs.{number_of_first, same_reference}
use Rattle.member_link.specs.References.{Reference}

-- a field of objects
abbrev pub is_of_object : Member → Bool
is_of_object field = not (has field.flags STATIC)

-- a field among those of objects of a class, by its superclasses upwards
abbrev pub slot_in : Headers → Reference → List Name → Option ℕ
slot_in headers field names =
    number_of_first (same_reference field) (flat_map (own_slots_in headers) (reverse names))

-- a field among those that a class declares for objects
abbrev pub own_number : Header → Reference → Option ℕ
own_number header field =
    if bytes_eq field.class header.name
    then position_from (is_member field.name field.desc) 0 (filter is_of_object header.fields)
    else None
