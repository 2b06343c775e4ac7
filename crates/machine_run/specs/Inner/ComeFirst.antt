-- The classes that come before a class that begins, one part after the other.
use Rattle.std.specs.Prelude.{◌&&◌, not, ℕ, Bool, false, List, [], ◌∷◌, filter, slice_get, Option, Some, None}
use Rattle.class_tree.specs.Headers.{Headers, Name}
use Rattle.class_tree.specs.declared.place.Place.{Place}
use Rattle.class_tree.specs.declared.place.Place.TheVariants.{Folder, Library}
use Rattle.member_link.specs.Machine.Beginnings.{first_unbegun, has_defaults, interfaces_up}
use Rattle.member_link.specs.Machine.Programs.{Program, header_named}
use Rattle.member_link.specs.Machine.Worlds.{Memory, is_begun}

-- the superclass, if there is one
abbrev pub super_names : Option Name → List Name
super_names None = []
super_names (Some name) = name ∷ []

-- the first class that is not begun among those of these names that have a default method
abbrev pub unbegun_default : Program → Memory → List Name → Option ℕ
unbegun_default P memory names =
    first_unbegun P memory (filter (λ name. has_defaults (header_named P name)) names)

-- among interfaces, each behind its own superinterfaces, which are followed so far up
abbrev pub unbegun_above : Program → Memory → ℕ → List Name → Option ℕ
unbegun_above P memory left names = unbegun_default P memory (interfaces_up P left names)

-- the class at a place is one of the folder that is not begun and has a default method
abbrev pub is_unbegun_at : Headers → Memory → Place → Bool
is_unbegun_at headers memory (Folder class) =
    not (is_begun memory class) && has_defaults (slice_get headers.folder class)
is_unbegun_at headers memory (Library class) = false
