-- A class and its superclasses by their places, and the fields of each.
use Rattle.std.specs.Prelude.{◌≡◌, List, [], ◌∷◌, ◌++◌, not, filter, slice_get, Option, Some, None}
use Rattle.class_model.specs.Members.{has, STATIC}
use Rattle.class_model.specs.declared.header.Header.{Header}
use Rattle.class_model.specs.declared.header.Member.{Member}
use Rattle.class_tree.specs.Headers.{Headers}
use Rattle.class_tree.specs.Hierarchy.{superclass_of}
use Rattle.class_tree.specs.declared.place.Place.{Place}
use Rattle.class_tree.specs.declared.place.Place.TheVariants.{Folder, Library}
use Rattle.machine_values.specs.Values.{blank_values}
use Rattle.machine_values.specs.declared.value.Value.{Value}

-- these places are those from one upwards, and then comes the next
abbrev pub Climbs : Headers → Option Place → List Place → Option Place → Type 0
Climbs headers from [] next = from ≡ next
Climbs headers from (place ∷ places) next =
    (from ≡ Some place) × Climbs headers (superclass_of headers place) places next

-- the fields of these that are not static
abbrev pub instance : List Member → List Member
instance fields = filter (λ field. not (has field.flags STATIC)) fields

-- the instance fields that the class at a place declares, if it is one of the folder
abbrev pub fields_at : Headers → Place → List Member
fields_at headers (Folder class) = of_header (slice_get headers.folder class) where
  of_header : Option Header → List Member
  of_header None = []
  of_header (Some header) = instance header.fields
fields_at headers (Library class) = []

-- what they hold before they are written
abbrev pub blanks_at : Headers → Place → List Value
blanks_at headers place = blank_values (fields_at headers place)

-- those of classes upwards, with the highest class first
abbrev pub blanks_up : Headers → List Place → List Value
blanks_up headers [] = []
blanks_up headers (place ∷ places) = blanks_up headers places ++ blanks_at headers place
