-- Methods of the folder among those that are found.
use Rattle.std.specs.Prelude.{ℕ, Option, Some, None}
use Rattle.class_model.specs.declared.class_file.MethodAt.{MethodAt}
use Rattle.class_tree.specs.declared.place.Place.{Place}
use Rattle.class_tree.specs.declared.place.Place.TheVariants.{Folder, Library}
use Rattle.member_link.specs.declared.found.Found.{Found}

-- a place in the folder
abbrev pub IsFolderPlace : Place → Type 0
IsFolderPlace (Folder place) = Unit {0}
IsFolderPlace (Library place) = ⊥

-- the numbers of the method of this number in the class at a place, if that is one of the folder
abbrev pub method_numbers : Place → ℕ → Option MethodAt
method_numbers (Folder class) method = Some (record { class = class; method = method })
method_numbers (Library class) method = None

abbrev pub folder_method : Found → Option MethodAt
folder_method found = method_numbers found.place found.member
