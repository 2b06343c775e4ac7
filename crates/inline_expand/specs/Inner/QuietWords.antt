-- What is asked of each class of a quiet class's chain.
use Rattle.std.specs.Prelude.{◌≡◌, slice_get, Some, IsFalse, IsTrue}
use Rattle.std.specs.List.{AllByRecursion}
use Rattle.class_model.specs.declared.header.Header.{Header}
use Rattle.class_tree.specs.Headers.{Name, Headers, named, class_named}
use Rattle.class_tree.specs.Names.{is_interface}
use Rattle.class_tree.specs.declared.place.Place.{Place}
use Rattle.class_tree.specs.declared.place.Place.TheVariants.{Folder, Library}
use Rattle.expanded_code.specs.Quiet.{IsOfFolder, declares_initialiser}
use Rattle.member_link.specs.Access.{IsAtOrBelow}

-- where it is of the folder, it declares no class initialiser
pub record IsSilentItself (headers : Headers) (name : Name) : Type 0 where
  pub none : (header : Header)
      → named name headers.folder ≡ Some header
      → IsFalse (declares_initialiser header)

-- nor does a class or interface above it
pub record IsSilent (headers : Headers) (low : Name) : Type 0 where
  pub each : (high : Name) → IsAtOrBelow headers low high → IsSilentItself headers high

-- the class at a place declares no class initialiser, if it is of the folder
abbrev pub IsSilentAt : Headers → Place → Type 0
IsSilentAt headers (Folder number) =
    (header : Header)
    → slice_get headers.folder number ≡ Some header
    → IsFalse (declares_initialiser header)
IsSilentAt headers (Library number) = Unit {0}

-- It is of the folder and declares no class initialiser, and its interfaces are silent.
pub record IsQuietItself (headers : Headers) (name : Name) : Type 0 where
  pub of_folder : IsOfFolder headers name
  pub silent : IsSilentItself headers name
  pub interfaces : (header : Header)
      → named name headers.folder ≡ Some header
      → AllByRecursion (IsSilent headers) header.interfaces

-- an interface of the folder or its library
abbrev pub IsInterfaceThere : Headers → Name → Type 0
IsInterfaceThere headers name =
    (header : Header) × (class_named headers name ≡ Some header) × IsTrue (is_interface header)
