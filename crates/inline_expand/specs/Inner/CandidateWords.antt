-- What is asked of each class of a candidate's chain.
use Rattle.class_tree.specs.Layouts.{chain}
use Rattle.member_link.specs.FieldConstructors.{field_types}
use Rattle.std.specs.Prelude.{Bool, IfSome, IsFalse, IsTrue, List, None, Option, Some, [], false, filter, get_or, length, map, not, slice_get, ℕ, ◌++◌, ◌<◌, ◌↔◌, ◌∷◌, ◌≡◌, ◌≤◌}
use Rattle.std.specs.List.{AllByRecursion}
use Rattle.class_model.specs.Descriptors.{parameter_units, type_of}
use Rattle.class_model.specs.Header.{header_of}
use Rattle.class_model.specs.Members.{STATIC, has}
use Rattle.class_model.specs.declared.class_file.ClassFile.{ClassFile}
use Rattle.class_model.specs.declared.header.Header.{Header}
use Rattle.class_model.specs.declared.header.Member.{Member}
use Rattle.class_tree.specs.Headers.{Name, Classes, headers_of}
use Rattle.class_tree.specs.Order.{place_of}
use Rattle.class_tree.specs.Subtype.{IsChain}
use Rattle.class_tree.specs.declared.place.Place.{Place}
use Rattle.class_tree.specs.declared.place.Place.TheVariants.{Folder}
use Rattle.expanded_code.specs.Candidates.{HasNoFinalizer, HasRoom, declares_finalizer}
use Rattle.field_constructors.specs.Constructors.{field_descs}
use Rattle.inline_expand.specs.Inner.QuietWords.{IsQuietItself}
use Rattle.inline_expand.specs.Inner.StoreWords.{IsStored, StoredBefore}
use Rattle.inline_expand.specs.declared.candidates.Judged.{Judged}
use Rattle.inline_expand.specs.declared.candidates.Judged.TheVariants.{Unknown, Unsound, Sound}

-- a class by itself
pub record IsFit (classes : Classes) (name : Name) : Type 0 where
  pub quiet : IsQuietItself (headers_of classes) name
  pub no_finalizer : HasNoFinalizer (headers_of classes) name
  pub room : HasRoom classes name
  pub finals : ¬ IsStored classes name

-- the classes of its chain are, and its fields take at most 64 local units
pub record IsSound (classes : Classes) (name : Name) : Type 0 where
  pub fit : AllByRecursion (IsFit classes) (chain (headers_of classes) name)
  pub narrow : parameter_units (field_types (headers_of classes) name) ≤ 64

-- the descriptors of its fields where it is sound
abbrev pub IsJudged : Classes → Name → Option (List (List ℕ)) → Type 0
IsJudged classes name (Some fields) =
    IsSound classes name × (fields ≡ field_descs (headers_of classes) name)
IsJudged classes name None = ¬ IsSound classes name

-- what is found once of all classes
pub record AreFacts (classes : Classes) (marks : List Bool) : Type 0 where
  pub long : length marks ≡ length classes.folder
  pub stored : (number : ℕ)
      → number < length classes.folder
      → IsTrue (get_or marks number false)
      ↔ StoredBefore (headers_of classes) classes.folder (length classes.folder) number

-- the class file of a number by itself, but for its field constructor
pub record IsFitAt (classes : Classes) (name : Name) (number : ℕ) (file : ClassFile) : Type 0 where
  pub quiet : IsQuietItself (headers_of classes) name
  pub no_finalizer : IsFalse (declares_finalizer (header_of file))
  pub constants : length file.pool ≤ 64535
  pub methods : length file.methods ≤ 65534
  pub finals : ¬ StoredBefore (headers_of classes) classes.folder (length classes.folder) number

-- the descriptors of the instance fields that a class declares
abbrev pub own_descs : Header → List (List ℕ)
own_descs header =
    map (λ (field : Member). field.desc)
    (filter (λ (field : Member). not (has field.flags STATIC)) header.fields)

-- the local units of fields of these descriptors
abbrev pub units_of_all : List (List ℕ) → ℕ
units_of_all fields = parameter_units (map type_of fields)

-- the class file of a name in the folder
pub record IsFileOf (classes : Classes) (name : Name) (number : ℕ) (file : ClassFile) : Type 0 where
  pub placed : place_of (headers_of classes) name ≡ Some (Folder number)
  pub there : slice_get classes.folder number ≡ Some file

-- ---- what is judged already

-- what is judged of the first of these
abbrev pub IsFirstJudged : Classes → List Name → Option (List (List ℕ)) → Type 0
IsFirstJudged classes [] fields = Unit {0}
IsFirstJudged classes (name ∷ names) fields = IsJudged classes name fields

-- The classes of a chain at the back are judged, and these in front are left.
pub record IsLeft (classes : Classes) (class : Name) (left : List Name) (fields : Option (List (List ℕ))) : Type 0 where
  pub done : List Name
  pub chain : IsChain (headers_of classes) class (left ++ done)
  pub judged : IsFirstJudged classes done fields

-- what is kept of a class by its name
abbrev pub IsKept : Classes → Name → Judged → Type 0
IsKept classes name Unknown = Unit {0}
IsKept classes name Unsound = ¬ IsSound classes name
IsKept classes name (Sound fields) = IsJudged classes name (Some fields)

abbrev pub AreKept : Classes → List Judged → Type 0
AreKept classes judged =
    (name : Name) (number : ℕ)
    → place_of (headers_of classes) name ≡ Some (Folder number)
    → IfSome (slice_get judged number) (IsKept classes name)

-- what is known of the class at a place
abbrev pub IsKnown : Classes → Place → Option (Option (List (List ℕ))) → Type 0
IsKnown classes place known =
    IfSome known
    (λ fields. (name : Name)
    → place_of (headers_of classes) name ≡ Some place
    → IsJudged classes name fields)
