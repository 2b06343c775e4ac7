-- The program in which methods run flat code: which codes take the place of others, and which flags of fields are cleared. It is this
-- project's profile.
use Rattle.std.specs.Prelude.{◌≡◌, ◌≢◌, ◌↔◌, ℕ, [], bytes_eq, slice_get, Some, IsTrue, IsFalse}
use Rattle.std.specs.List.{list_any}
use Rattle.class_model.specs.Members.{has, FINAL, PRIVATE, STATIC}
use Rattle.class_model.specs.Pool.{constant_at}
use Rattle.class_model.specs.declared.class_file.MethodAt.{MethodAt}
use Rattle.class_model.specs.declared.header.Header.{Header}
use Rattle.class_model.specs.declared.instr.Instr.TheVariants.{GetField, PutField}
use Rattle.class_tree.specs.Headers.{Classes, Headers, headers_of}
use Rattle.class_tree.specs.Layouts.{chain}
use Rattle.flow_code.specs.FlatCode.{FlatCode, point_at}
use Rattle.flow_code.specs.declared.point.FlatInstr.TheVariants.{Of}
use Rattle.flow_code.specs.declared.point.Point.{Point}
use Rattle.flow_code.specs.declared.point.Site.{Site}
use Rattle.member_link.specs.DeclaredMembers.{Declared}
use Rattle.member_link.specs.Fields.{FindsField}
use Rattle.member_link.specs.Machine.Programs.{Links}
use Rattle.member_link.specs.Machine.Replaced.{Replacement}
use Rattle.member_link.specs.References.{Reference}
use Rattle.member_link.specs.Signatures.{reference_of}
use Rattle.same_runs.specs.Flats.{Flats, flat_body, pool_of}

-- ---- fields of flat code

-- a point reads or writes an instance field
pub data UsesField (point : Point) : ℕ → ℕ → Type 0 where
  reads_field : (class index : ℕ)
      → point.instr ≡ Of class (GetField index)
      → UsesField point class index
  writes_field : (class index : ℕ)
      → point.instr ≡ Of class (PutField index)
      → UsesField point class index

-- a constant of a class finds a field
pub record ConstantFinds (classes : Classes) (class index : ℕ) (field : Declared) : Type 0 where
  pub reference : Reference
  pub names : reference_of (pool_of classes class) (constant_at (pool_of classes class) index)
      ≡ Some reference
  pub finds : FindsField (headers_of classes) reference.class reference.name reference.desc
      (Some field)

-- a point of a flat code stores into a field; and one reads it or stores into it
pub record StoresInFlat (classes : Classes) (flat : FlatCode) (field : Declared) : Type 0 where
  pub number : ℕ
  pub point : Point
  pub is : point_at flat number ≡ Some point
  pub class : ℕ
  pub index : ℕ
  pub stores : point.instr ≡ Of class (PutField index)
  pub finds : ConstantFinds classes class index field

pub record UsesInFlat (classes : Classes) (flat : FlatCode) (field : Declared) : Type 0 where
  pub number : ℕ
  pub point : Point
  pub is : point_at flat number ≡ Some point
  pub class : ℕ
  pub index : ℕ
  pub uses : UsesField point class index
  pub finds : ConstantFinds classes class index field

-- ---- flags that are cleared

-- the instance field of these numbers, of a class of the folder
pub record IsInstanceField (headers : Headers) (class number : ℕ) (field : Declared)
    : Type 0 where
  pub header : Header
  pub of_folder : slice_get headers.folder class ≡ Some header
  pub declared : slice_get header.fields number ≡ Some field.member
  pub of_class : field.class ≡ header.name
  pub instance : IsFalse (has field.member.flags STATIC)

-- a final field of the chain of a candidate site's class: some flat code stores into it, outside of instance initialisers as all flat code is
pub record ClearsFinal (classes : Classes) (flats : Flats) (class number : ℕ) : Type 0 where
  pub field : Declared
  pub is_field : IsInstanceField (headers_of classes) class number field
  pub final : IsTrue (has field.member.flags FINAL)
  pub at : MethodAt
  pub flat : FlatCode
  pub is_flat : flats at ≡ Some flat
  pub of : ℕ
  pub site : Site
  pub is_site : slice_get flat.sites of ≡ Some site
  pub of_chain : IsTrue (list_any (bytes_eq field.class) (chain (headers_of classes) site.class))
  pub stored : StoresInFlat classes flat field

-- a private field that flat code of another class reads or stores into
pub record OpensPrivate (classes : Classes) (flats : Flats) (class number : ℕ) : Type 0 where
  pub field : Declared
  pub is_field : IsInstanceField (headers_of classes) class number field
  pub private : IsTrue (has field.member.flags PRIVATE)
  pub at : MethodAt
  pub flat : FlatCode
  pub is_flat : flats at ≡ Some flat
  pub other : at.class ≢ class
  pub used : UsesInFlat classes flat field

-- ---- the replacement

-- The flat codes take the place of their hosts' own codes, these flags are cleared and no others, and no method is added.
pub record ReplacesByFlats (classes : Classes) (links : Links) (flats : Flats) (r : Replacement)
    : Type 0 where
  pub bodies : (at : MethodAt) → r.body at ≡ flat_body classes links flats at
  pub finals : (class number : ℕ)
      → IsTrue (has (r.cleared class number) FINAL) ↔ ClearsFinal classes flats class number
  pub privates : (class number : ℕ)
      → IsTrue (has (r.cleared class number) PRIVATE) ↔ OpensPrivate classes flats class number
  pub none_added : (class : ℕ) → r.added class ≡ []
