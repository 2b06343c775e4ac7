-- Where classes and members stand in their lists.
use Rattle.std.specs.Prelude.{◌+◌, ℕ, Bool, List, [], ◌∷◌, bytes_eq, slice_get, Option, Some, None, option_map, if◌then◌else◌}
use Rattle.class_model.specs.declared.header.Header.{Header}
use Rattle.class_model.specs.declared.header.Member.{Member}
use Rattle.class_tree.specs.Headers.{Name, Headers}
use Rattle.class_tree.specs.Names.{is_member}
use Rattle.class_tree.specs.declared.members.MemberKind.{MemberKind}
use Rattle.class_tree.specs.declared.members.MemberKind.TheVariants.{Field, Method}
use Rattle.class_tree.specs.declared.place.Place.{Place}
use Rattle.class_tree.specs.declared.place.Place.TheVariants.{Folder, Library}

-- the first place in a list where the test is passed
abbrev pub first_place : {X : Type 0} → (X → Bool) → List X → Option ℕ
first_place test [] = None
first_place test (x ∷ xs) =
    if test x then Some 0
    else option_map (λ place. place + 1) (first_place test xs)

-- the class at a place
abbrev pub header_at : Headers → Place → Option Header
header_at headers (Folder place) = slice_get headers.folder place
header_at headers (Library place) = slice_get headers.library place

-- the place of the class of a name: in the folder, else in the library
abbrev pub place_of : Headers → Name → Option Place
place_of headers name =
    in_folder (first_place (λ header. bytes_eq name header.name) headers.folder) where
      in_folder : Option ℕ → Option Place
      in_folder (Some place) = Some (Folder place)
      in_folder None =
          option_map Library (first_place (λ header. bytes_eq name header.name) headers.library)

-- the fields or the methods of a class
abbrev pub members_of : MemberKind → Header → List Member
members_of Field header = header.fields
members_of Method header = header.methods

-- the first member of a name and descriptor
abbrev pub member_place : Name → List ℕ → List Member → Option ℕ
member_place name desc members = first_place (is_member name desc) members
