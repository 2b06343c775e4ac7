-- Words of the places of classes.
use Rattle.std.specs.Prelude.{Bool, true, false, Option, Some, None}
use Rattle.class_tree.specs.declared.place.Place.{Place}
use Rattle.class_tree.specs.declared.place.Place.TheVariants.{Folder, Library}

-- a class is one of the folder
abbrev pub is_in_folder : Option Place → Bool
is_in_folder None = false
is_in_folder (Some (Folder place)) = true
is_in_folder (Some (Library place)) = false
