-- Classes of the folder whose beginning runs no class initialiser, and the classes above them. It is this project's profile.
use Rattle.std.specs.Prelude.{◌≡◌, Bool, bytes_eq, Some, IsSome, IsFalse}
use Rattle.std.specs.List.{AllByRecursion, list_any}
use Rattle.class_model.specs.Names.{clinit}
use Rattle.class_model.specs.declared.header.Header.{Header}
use Rattle.class_tree.specs.Headers.{Name, Headers, named}
use Rattle.class_tree.specs.Layouts.{chain}
use Rattle.member_link.specs.Access.{IsAtOrBelow}

-- a class of the folder
abbrev pub IsOfFolder : Headers → Name → Type 0
IsOfFolder headers name = IsSome (named name headers.folder)

-- it declares a class initialiser, with code or without
abbrev pub declares_initialiser : Header → Bool
declares_initialiser header = list_any (λ method. bytes_eq clinit method.name) header.methods

-- The classes of its chain are the folder's; and neither it nor a class or interface of the folder above it declares a class
-- initialiser.
pub record IsQuiet (headers : Headers) (class : Name) : Type 0 where
  pub itself : IsOfFolder headers class
  pub above : AllByRecursion (IsOfFolder headers) (chain headers class)
  pub no_initialiser : (high : Name) (header : Header)
      → IsAtOrBelow headers class high
      → named high headers.folder ≡ Some header
      → IsFalse (declares_initialiser header)
