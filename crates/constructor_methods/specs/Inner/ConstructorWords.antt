-- The code of field constructors as the code writes it.
use Rattle.std.specs.Prelude.{◌≡◌, ◌+◌, ◌++◌, ◌≤◌, ℕ, List, [], ◌∷◌, codes, length, map, Some}
use Rattle.std.specs.List.{AllByRecursion, flat_map}
use Rattle.class_model.specs.Descriptors.{kind_of, type_of, units_of}
use Rattle.class_model.specs.Names.{init}
use Rattle.class_model.specs.Pool.{Constants}
use Rattle.class_model.specs.declared.class_file.CodePart.{CodePart}
use Rattle.class_model.specs.declared.class_file.Method.{Method}
use Rattle.class_model.specs.declared.descriptor.Kind.TheVariants as kinds
use Rattle.class_model.specs.declared.header.Member.{Member}
use Rattle.class_model.specs.declared.instr.Instr.{Instr}
use Rattle.class_model.specs.declared.instr.Instr.TheVariants.{Load}
use Rattle.class_model.specs.Instructions.{targets}
use Rattle.class_model.specs.declared.header.Header.{Header}
use Rattle.class_tree.specs.Headers.{Headers, IsThere, Name}
use Rattle.class_tree.specs.Layouts.{instance_fields, own_fields}
use Rattle.field_constructors.specs.Inner.FieldWords.{instance_fields_of}
use Rattle.code_bytes.specs.Encoding.{FitsForm, IsPlace}
use Rattle.code_bytes.specs.Forms.{instr_bytes}
use Rattle.making_code.specs.ConstructorCode.{IsConstructorMethod, IsConstructorPart, indexed_instr}
use Rattle.making_code.specs.Constants.{Need, needs_text}
use Rattle.making_code.specs.FieldConstructor.{CInstr, constructor_items, constructor_method_needs, fields_above, item_needs, puts_field, simple, superclass_of}
use Rattle.materialise.specs.Growing.{Grows}
use Rattle.materialise.specs.Indices.{IsIndex, need_of_text}
use Rattle.constructor_methods.specs.declared.constructor_method.Names.{Names}
use Rattle.pool_edit.specs.Edits.{Edit, grown}

-- ---- fields by their descriptors

abbrev pub units_of_desc : List ℕ → ℕ
units_of_desc desc = units_of (kind_of (type_of desc))

abbrev pub units_of_descs : List (List ℕ) → ℕ
units_of_descs [] = 0
units_of_descs (desc ∷ descs) = units_of_desc desc + units_of_descs descs

abbrev pub loads_of : ℕ → List (List ℕ) → List CInstr
loads_of unit [] = []
loads_of unit (desc ∷ descs) =
    simple (Load (kind_of (type_of desc)) unit) ∷ loads_of (unit + units_of_desc desc) descs

-- the store of a field from a unit
abbrev pub put_items : Name → ℕ → Member → List CInstr
put_items class unit field =
    simple (Load kinds.Ref 0)
    ∷ simple (Load (kind_of (type_of field.desc)) unit)
    ∷ puts_field class field.name field.desc
    ∷ []

-- what the headers say of a class is what its header says
pub record IsHeaderOf (headers : Headers) (header : Header) : Type 0 where
  pub own : own_fields headers header.name ≡ instance_fields_of header
  pub super_is : superclass_of headers header.name ≡ header.super_name
  pub all : instance_fields headers header.name
      ≡ fields_above headers header.super_name ++ instance_fields_of header
  pub there : (super : Name) → header.super_name ≡ Some super → IsThere headers super

-- the descriptors of the fields of the classes above
abbrev pub descs_above : Headers → Header → List (List ℕ)
descs_above headers header = map (λ field. field.desc) (fields_above headers header.super_name)

-- ---- instructions

-- instructions behind others, and what they need in the pool
pub record Constructs (constructor : Name → List ℕ) (old : Edit) (before : List Instr)
    (items : List CInstr) (new : Edit) (after : List Instr)
    : Type 0 where
  pub grows : Grows old (flat_map (item_needs constructor) items) new
  pub writes : (more : Constants)
      → after ≡ before ++ map (indexed_instr (grown new ++ more) constructor) items

-- it has a spelling of at most four bytes wherever it stands
pub record IsShortForm (instr : Instr) : Type 0 where
  pub no_targets : AllByRecursion IsPlace (targets instr)
  pub form : (at : ℕ) → FitsForm at instr
  pub short : (at : ℕ) → length (instr_bytes at instr) ≤ 4

-- ---- the method

-- the texts that it names
abbrev pub head_needs : List ℕ → List Need
head_needs desc = needs_text init ++ needs_text desc ++ needs_text (codes "Code")

pub record AreNames (edit : Edit) (desc : List ℕ) (names : Names) : Type 0 where
  pub name : IsIndex edit (need_of_text init) names.name
  pub desc_is : IsIndex edit (need_of_text desc) names.desc
  pub code : IsIndex edit (need_of_text (codes "Code")) names.code

-- its code, and what that needs in the pool
pub record IsPartOf (headers : Headers) (constructor : Name → List ℕ) (class : Name)
    (old new : Edit) (part : CodePart)
    : Type 0 where
  pub grows : Grows old (flat_map (item_needs constructor) (constructor_items headers class)) new
  pub part_is : (more : Constants)
      → IsConstructorPart headers constructor class (grown new ++ more) part

-- the method, and what it needs in the pool
pub record IsMethodOf (headers : Headers) (constructor : Name → List ℕ) (class : Name)
    (old new : Edit) (method : Method)
    : Type 0 where
  pub grows : Grows old (constructor_method_needs headers constructor class) new
  pub method_is : (more : Constants)
      → IsConstructorMethod headers constructor class (grown new ++ more) method
