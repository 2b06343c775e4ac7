-- Marks of classes and of fields by their numbers.
use Rattle.std.specs.Prelude.{◌≡◌, ◌↔◌, ◌⊎◌, ◌+◌, ◌<◌, ℕ, Bool, false, List, [], bytes_eq, cond, filter, get_or, length, not, slice_get, Some, IsTrue}
use Rattle.class_model.specs.Members.{FINAL, PRIVATE}
use Rattle.class_model.specs.declared.class_file.ClassFile.{ClassFile}
use Rattle.class_model.specs.declared.header.Header.{Header}
use Rattle.class_rewrite.specs.declared.outcome.FieldAt.{FieldAt}
use Rattle.class_tree.specs.Headers.{Headers, Name}
use Rattle.class_tree.specs.Layouts.{chain}
use Rattle.class_tree.specs.Names.{object}
use Rattle.class_tree.specs.Order.{place_of}
use Rattle.class_tree.specs.declared.place.Place.TheVariants.{Folder}

-- a number is marked
abbrev pub IsMarked : List Bool → ℕ → Type 0
IsMarked marks number = IsTrue (get_or marks number false)

-- the numbers that are marked are those that were, and those of which something holds
pub record Marks (Holds : ℕ → Type 0) (before after : List Bool) : Type 0 where
  pub len : length after ≡ length before
  pub each : (number : ℕ)
      → number < length before
      → IsMarked after number ↔ (IsMarked before number ⊎ Holds number)

-- the numbers below a count that are marked are those of which something holds
pub record AreMarked (count : ℕ) (Holds : ℕ → Type 0) (marks : List Bool) : Type 0 where
  pub len : length marks ≡ count
  pub each : (number : ℕ) → number < count → IsMarked marks number ↔ Holds number

-- ---- classes

-- one of the names is that of the class of this number in the folder
pub record IsNamed (headers : Headers) (names : List Name) (number : ℕ) : Type 0 where
  pub place : ℕ
  pub name : Name
  pub there : slice_get names place ≡ Some name
  pub is_number : place_of headers name ≡ Some (Folder number)

-- names without java/lang/Object
abbrev pub but_object : List Name → List Name
but_object names = filter (λ name. not (bytes_eq name object)) names

-- the class of this number stands in the chain of that of another one
pub record StandsInChain (headers : Headers) (class number : ℕ) : Type 0 where
  pub header : Header
  pub is_header : slice_get headers.folder class ≡ Some header
  pub named : IsNamed headers (chain headers header.name) number

-- it stands in the chain of one of the first so many classes that are marked
pub record StandsInChains (headers : Headers) (classes : List Bool) (count number : ℕ)
    : Type 0 where
  pub class : ℕ
  pub before : class < count
  pub is_marked : IsMarked classes class
  pub stands : StandsInChain headers class number

-- it stands in the chain of the class of one of the names
pub record StandsInMade (headers : Headers) (names : List Name) (count number : ℕ) : Type 0 where
  pub class : ℕ
  pub before : class < count
  pub named : IsNamed headers names class
  pub stands : StandsInChain headers class number

-- ---- fields

-- the field of these numbers is one of these
pub record IsListed (fields : List FieldAt) (class number : ℕ) : Type 0 where
  pub place : ℕ
  pub there : slice_get fields place ≡ Some (record { class = class; field = number })

-- the row of a class
abbrev pub row_of : List (List Bool) → ℕ → List Bool
row_of rows class = get_or rows class []

-- rows with other marks, of the fields of which something holds
pub record MarksFields (Holds : ℕ → ℕ → Type 0) (before after : List (List Bool)) : Type 0 where
  pub len : length after ≡ length before
  pub each : (class : ℕ)
      → class < length before
      → Marks (Holds class) (row_of before class) (row_of after class)

-- a row for each class, with a mark for each of its fields
pub record AreFieldsMarked (folder : List ClassFile) (Holds : ℕ → ℕ → Type 0)
    (rows : List (List Bool))
    : Type 0 where
  pub len : length rows ≡ length folder
  pub each : (class : ℕ) (file : ClassFile)
      → slice_get folder class ≡ Some file
      → AreMarked (length file.fields) (Holds class) (row_of rows class)

-- rows of as many classes, where no field is marked
abbrev pub NoneMarked : List ClassFile → List (List Bool) → Type 0
NoneMarked folder rows = AreFieldsMarked folder (λ class number. ⊥) rows

-- the flags that are cleared of a field
abbrev pub cleared_flags : Bool → Bool → ℕ
cleared_flags is_final is_private = cond is_final FINAL 0 + cond is_private PRIVATE 0
