-- Descriptors of field constructors by the descriptors of the fields.
use Rattle.std.specs.Prelude.{◌≡◌, ◌≤◌, ◌<◌, ◌++◌, ◌&&◌, ◌||◌, slice_get, ℕ, Bool, List, [], ◌∷◌, bytes_eq, codes, length, replicate, Option, Some, None, IsTrue, IsFalse, if◌then◌else◌}
use Rattle.std.specs.List.{flat_map, list_any}
use Rattle.class_model.specs.Characters.{left_bracket, left_parenthesis}
use Rattle.class_model.specs.ModifiedUtf8.{IsModifiedUtf8}
use Rattle.class_model.specs.Names.{init}
use Rattle.class_model.specs.Pool.{Constants}
use Rattle.class_model.specs.declared.class_file.ClassFile.{ClassFile}
use Rattle.class_model.specs.declared.header.Header.{Header}
use Rattle.class_tree.specs.Headers.{Name, Headers}
use Rattle.class_tree.specs.Names.{is_member}
use Rattle.member_link.specs.FieldConstructors.{handled}
use Rattle.member_link.specs.References.{Reference}

-- the constructor's descriptor
abbrev pub descriptor_of : List (List ℕ) → ℕ → List ℕ
descriptor_of fields dimensions =
    left_parenthesis
    ∷ flat_map (λ field. field) fields
    ++ replicate dimensions left_bracket
    ++ codes "Z)V"

-- what a descriptor with these fields begins with
pub record IsOpened (fields : List (List ℕ)) (bytes : List ℕ) : Type 0 where
  pub same : bytes ≡ left_parenthesis ∷ flat_map (λ field. field) fields
  pub text : IsModifiedUtf8 bytes

-- a class declares it, or it is one of those that method handles refer to
abbrev pub is_taken : Header → List (List ℕ) → List ℕ → Bool
is_taken header handles desc =
    list_any (is_member init desc) header.methods || list_any (bytes_eq desc) handles

-- one of 1 to 8 dimensions is free, and the descriptor of the fewest fits
pub record HasFree (header : Header) (fields handles : List (List ℕ)) : Type 0 where
  pub dimensions : ℕ
  pub some : 1 ≤ dimensions
  pub few : dimensions ≤ 8
  pub free : IsFalse (is_taken header handles (descriptor_of fields dimensions))
  pub fewest : (fewer : ℕ)
      → 1 ≤ fewer
      → fewer < dimensions
      → IsTrue (is_taken header handles (descriptor_of fields fewer))
  pub fits : length (descriptor_of fields dimensions) ≤ 65535

-- what is found of the constructor of a class with these fields
abbrev pub IsFreeConstructor : Header → List (List ℕ) → List (List ℕ) → Option (List ℕ) → Type 0
IsFreeConstructor header fields handles (Some desc) =
    (free : HasFree header fields handles) × (desc ≡ descriptor_of fields free.dimensions)
IsFreeConstructor header fields handles None = ¬ HasFree header fields handles

-- a text of these bytes, if they fit one
abbrev pub IsFitting : List ℕ → Option (List ℕ) → Type 0
IsFitting bytes (Some text) = (text ≡ bytes) × (length bytes ≤ 65535)
IsFitting bytes None = 65535 < length bytes

-- ---- method handles

-- the descriptors of the instance initialisers of a class that method handles refer to
abbrev pub handled_in : Name → Option Reference → List (List ℕ)
handled_in class None = []
handled_in class (Some reference) =
    if bytes_eq class reference.class && bytes_eq init reference.name then reference.desc ∷ [] else []

abbrev pub handled_of_pool : Name → Constants → Constants → List (List ℕ)
handled_of_pool class pool constants = flat_map (λ constant. handled_in class (handled pool constant)) constants

abbrev pub handled_of : Name → List ClassFile → List (List ℕ)
handled_of class files = flat_map (λ (file : ClassFile). handled_of_pool class file.pool file.pool) files

-- lists that have for each class of the folder, by its number, what a function gives of its name
pub record AreHandled (headers : Headers) (lists : List (List (List ℕ)))
    (of : Name → List (List ℕ)) : Type 0 where
  pub len : length lists ≡ length headers.folder
  pub each : (number : ℕ) (header : Header)
      → slice_get headers.folder number ≡ Some header
      → slice_get lists number ≡ Some (of header.name)
