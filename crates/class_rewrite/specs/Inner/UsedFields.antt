-- The fields that written code uses, by its instructions and the constants of a pool.
use Rattle.std.specs.Prelude.{◌≡◌, ◌≢◌, ◌⊎◌, ◌++◌, ℕ, bytes_eq, List, slice_get, Option, Some, None, IsTrue, if◌then◌else◌}
use Rattle.std.specs.List.{list_any}
use Rattle.class_model.specs.Members.{FINAL, PRIVATE, STATIC, has}
use Rattle.class_model.specs.Pool.{Constants, constant_at}
use Rattle.class_model.specs.declared.header.Header.{Header}
use Rattle.class_model.specs.declared.header.Member.{Member}
use Rattle.class_model.specs.declared.instr.Instr.{Instr}
use Rattle.class_model.specs.declared.instr.Instr.TheVariants.{GetField, PutField}
use Rattle.class_rewrite.specs.Inner.Meanings.{AreItemsOf, IsMeant, Meaning}
use Rattle.class_rewrite.specs.Inner.Outcomes.{AreFieldsOf}
use Rattle.class_rewrite.specs.Inner.WrittenCodes.{AreUsed}
use Rattle.class_rewrite.specs.declared.outcome.FieldAt.{FieldAt}
use Rattle.class_rewrite.specs.declared.used_fields.FolderField.{FolderField}
use Rattle.class_tree.specs.Headers.{Classes, headers_of}
use Rattle.class_tree.specs.Layouts.{chain}
use Rattle.code_drafts.specs.Emits.{Writing}
use Rattle.code_layout.specs.declared.emitted.EmitItem.{EmitItem}
use Rattle.flow_code.specs.FlatCode.{FlatCode}
use Rattle.flow_code.specs.declared.point.Site.{Site}
use Rattle.member_link.specs.DeclaredMembers.{Declared}
use Rattle.member_link.specs.Fields.{FindsField}
use Rattle.member_link.specs.Machine.Links.{reference_to}
use Rattle.member_link.specs.References.{Reference}
use Rattle.member_link.specs.Signatures.{reference_of}
use Rattle.member_link.specs.declared.found.Found.{Found}
use Rattle.plan_flow.specs.Written.Routes.{Routes}
use Rattle.plan_flow.specs.Written.WrittenPrograms.{IsFieldOf}

-- ---- the field of a constant

-- a constant names a field that look-up finds
pub record NamesField (classes : Classes) (pool : Constants) (index : ℕ) (field : Reference)
    : Type 0 where
  pub reference : Reference
  pub refers : reference_of pool (constant_at pool index) ≡ Some reference
  pub found : Declared
  pub finds : FindsField (headers_of classes) reference.class reference.name reference.desc
      (Some found)
  pub same : reference_to found ≡ field

-- an instance field of the folder, by its numbers
pub record NamesFieldAt (classes : Classes) (pool : Constants) (index class number : ℕ)
    (member : Member)
    : Type 0 where
  pub field : Reference
  pub named : NamesField classes pool index field
  pub is_field : IsFieldOf classes class number field member

-- what is found of it
pub record IsFieldThere (classes : Classes) (pool : Constants) (index : ℕ) (found : FolderField)
    : Type 0 where
  pub member : Member
  pub names : NamesFieldAt classes pool index found.at.class found.at.field member
  pub flags : found.flags ≡ member.flags
  pub only : (class number : ℕ) (other : Member)
      → NamesFieldAt classes pool index class number other
      → (class ≡ found.at.class) × (number ≡ found.at.field) × (other ≡ member)

-- a field that is found in a class of the folder, if it is one of its instances
abbrev pub instance_field_of : ℕ → Found → Option FolderField
instance_field_of class found =
    if has found.flags STATIC then None
    else Some (record {
      at = record { class = class; field = found.member };
      flags = found.flags;
    })

abbrev pub IsFolderField : Classes → Constants → ℕ → Option FolderField → Type 0
IsFolderField classes pool index (Some found) = IsFieldThere classes pool index found
IsFolderField classes pool index None =
    (class number : ℕ) (member : Member) → ¬ NamesFieldAt classes pool index class number member

-- ---- what an instruction does with it

-- a class of the folder is in the chain of the class of a site
pub record IsOfSite (classes : Classes) (flat : FlatCode) (class : ℕ) : Type 0 where
  pub header : Header
  pub of_folder : slice_get (headers_of classes).folder class ≡ Some header
  pub of : ℕ
  pub site : Site
  pub is_site : slice_get flat.sites of ≡ Some site
  pub of_chain : IsTrue (list_any (bytes_eq header.name) (chain (headers_of classes) site.class))

-- a field that a constant names is final, and one of a site's object
pub record NamesFinal (classes : Classes) (flat : FlatCode) (pool : Constants)
    (index class number : ℕ)
    : Type 0 where
  pub member : Member
  pub names : NamesFieldAt classes pool index class number member
  pub final : IsTrue (has member.flags FINAL)
  pub of_site : IsOfSite classes flat class

-- or it is private, and one of another class
pub record NamesPrivate (classes : Classes) (flat : FlatCode) (pool : Constants)
    (index class number : ℕ)
    : Type 0 where
  pub member : Member
  pub names : NamesFieldAt classes pool index class number member
  pub private : IsTrue (has member.flags PRIVATE)
  pub other : class ≢ flat.host.class

-- an instruction stores into such a final field
pub record StoresFinal (classes : Classes) (flat : FlatCode) (pool : Constants) (instr : Instr)
    (class number : ℕ)
    : Type 0 where
  pub index : ℕ
  pub is : instr ≡ PutField index
  pub final : NamesFinal classes flat pool index class number

-- and one reads such a private field, or stores into it
pub record UsesPrivate (classes : Classes) (flat : FlatCode) (pool : Constants) (instr : Instr)
    (class number : ℕ)
    : Type 0 where
  pub index : ℕ
  pub is : (instr ≡ PutField index) ⊎ (instr ≡ GetField index)
  pub private : NamesPrivate classes flat pool index class number

-- ---- lists of fields

-- something holds of an item's instruction and a field
pub record OfSome (Is : Instr → ℕ → ℕ → Type 0) (items : List EmitItem) (class number : ℕ)
    : Type 0 where
  pub place : ℕ
  pub item : EmitItem
  pub is_item : slice_get items place ≡ Some item
  pub holds : Is item.instr class number

-- the fields of which something holds are added to a list
pub record Adds (Is : ℕ → ℕ → Type 0) (before after : List FieldAt) : Type 0 where
  pub more : List FieldAt
  pub is : after ≡ before ++ more
  pub are : AreFieldsOf Is more

-- ---- written code

-- The fields that its items use are those that it uses.
abbrev pub AreUsedFields : Type 0
AreUsedFields =
    (of : Writing) (m : Meaning) (routes : Routes) (pool : Constants) (items : List EmitItem)
    (finals privates : List FieldAt)
    → IsMeant of m
    → AreItemsOf of m routes pool items
    → AreFieldsOf (OfSome (StoresFinal of.classes of.flat pool) items) finals
    → AreFieldsOf (OfSome (UsesPrivate of.classes of.flat pool) items) privates
    → AreUsed of m routes finals privates
