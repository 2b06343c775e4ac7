-- Class files whose lists fit the items that count them (JVM Specification SE 8, 4.1 and 4.5 to 4.7): two
-- bytes count members, attributes and handlers, and four bytes the content of an attribute.
use Rattle.std.specs.Prelude.{ℕ, ◌<◌, ◌≤◌, ◌^◌, List, length}
use Rattle.std.specs.List.{AllByRecursion}
use Rattle.class_model.specs.Spelling.{code_part_bytes}
use Rattle.class_model.specs.declared.class_file.ClassFile.{ClassFile}
use Rattle.class_model.specs.declared.class_file.Field.{Field}
use Rattle.class_model.specs.declared.class_file.Method.{Method}
use Rattle.class_model.specs.declared.class_file.Attr.{Attr}
use Rattle.class_model.specs.declared.class_file.Attr.TheVariants.{Raw, Code}
use Rattle.class_model.specs.declared.class_file.InnerAttr.{InnerAttr}
use Rattle.class_model.specs.declared.class_file.CodePart.{CodePart}

-- the content of an attribute
abbrev pub FitsContent : List ℕ → Type 0
FitsContent content = length content < 2 ^ 32

abbrev pub FitsInner : InnerAttr → Type 0
FitsInner attr = FitsContent attr.bytes

pub record FitsInners (attrs : List InnerAttr) : Type 0 where
  pub count : length attrs ≤ 65535
  pub each : AllByRecursion FitsInner attrs

-- the content of a Code attribute, and the lists in it
pub record FitsPart (part : CodePart) : Type 0 where
  pub content : FitsContent (code_part_bytes part)
  pub code : FitsContent part.code
  pub handlers : length part.handlers ≤ 65535
  pub attrs : FitsInners part.attrs

abbrev pub FitsAttr : Attr → Type 0
FitsAttr (Raw name bytes) = FitsContent bytes
FitsAttr (Code name part) = FitsPart part

pub record FitsAttrs (attrs : List Attr) : Type 0 where
  pub count : length attrs ≤ 65535
  pub each : AllByRecursion FitsAttr attrs

abbrev pub FitsField : Field → Type 0
FitsField field = FitsAttrs field.attrs

pub record FitsFields (fields : List Field) : Type 0 where
  pub count : length fields ≤ 65535
  pub each : AllByRecursion FitsField fields

abbrev pub FitsMethod : Method → Type 0
FitsMethod method = FitsAttrs method.attrs

pub record FitsMethods (methods : List Method) : Type 0 where
  pub count : length methods ≤ 65535
  pub each : AllByRecursion FitsMethod methods

pub record FitsCounts (class : ClassFile) : Type 0 where
  pub interfaces : length class.interfaces ≤ 65535
  pub fields : FitsFields class.fields
  pub methods : FitsMethods class.methods
  pub attrs : FitsAttrs class.attrs
