-- The constructor that written code gives all fields of an object to, as instructions. It is this project's profile.
--
-- Its parameters are the fields of the class's chain, those of the highest class first, and an array that is always null, which makes its
-- descriptor another one than those of the class. It passes the fields of the classes above and null to the superclass's field constructor,
-- or calls java/lang/Object's, and stores the fields of its own class.
use Rattle.std.specs.Prelude.{ℕ, ◌+◌, List, [], ◌∷◌, ◌++◌, bytes_eq, codes, Option, Some, None, if◌then◌else◌}
use Rattle.std.specs.List.{flat_map}
use Rattle.class_model.specs.Descriptors.{kind_of, type_of, units_of}
use Rattle.class_model.specs.Names.{init}
use Rattle.class_model.specs.declared.descriptor.Kind.TheVariants as kinds
use Rattle.class_model.specs.declared.header.Header.{Header}
use Rattle.class_model.specs.declared.header.Member.{Member}
use Rattle.class_model.specs.declared.instr.Imm.TheVariants as imms
use Rattle.class_model.specs.declared.instr.Instr.{Instr}
use Rattle.class_model.specs.declared.instr.Instr.TheVariants.{Const, Load, Return}
use Rattle.class_tree.specs.Headers.{Name, Headers, class_named}
use Rattle.class_tree.specs.Layouts.{instance_fields, own_fields}
use Rattle.class_tree.specs.Names.{object}
use Rattle.making_code.specs.Constants.{Need, constructor_needs, member_needs, needs_text, of_field, of_method}

pub data CInstr : Type 0 where
  -- an instruction that names no constant
  simple : Instr → CInstr
  -- invokespecial of java/lang/Object's constructor, and of the field constructor of a class
  calls_object : CInstr
  calls_constructor : Name → CInstr
  -- putfield, by class, name and descriptor
  puts_field : Name → List ℕ → List ℕ → CInstr

abbrev units_of_field : Member → ℕ
units_of_field field = units_of (kind_of (type_of field.desc))

-- the superclass of a class
abbrev pub superclass_of : Headers → Name → Option Name
superclass_of headers class = of_header (class_named headers class) where
  of_header : Option Header → Option Name
  of_header None = None
  of_header (Some header) = header.super_name

-- the units of fields
abbrev pub units_of_fields : List Member → ℕ
units_of_fields [] = 0
units_of_fields (field ∷ fields) = units_of_field field + units_of_fields fields

-- parameters from a unit on are loaded
abbrev pub loads_from : ℕ → List Member → List CInstr
loads_from unit [] = []
loads_from unit (field ∷ fields) =
    simple (Load (kind_of (type_of field.desc)) unit)
    ∷ loads_from (unit + units_of_field field) fields

-- parameters from a unit on are stored to the fields of this class
abbrev pub puts_from : Name → ℕ → List Member → List CInstr
puts_from class unit [] = []
puts_from class unit (field ∷ fields) =
    simple (Load kinds.Ref 0)
    ∷ simple (Load (kind_of (type_of field.desc)) unit)
    ∷ puts_field class field.name field.desc
    ∷ puts_from class (unit + units_of_field field) fields

-- the call of the superclass's constructor
abbrev pub super_call : Headers → Name → List CInstr
super_call headers super =
    if bytes_eq super object then simple (Load kinds.Ref 0) ∷ calls_object ∷ []
    else (simple (Load kinds.Ref 0) ∷ [])
    ++ loads_from 1 (instance_fields headers super)
    ++ (simple (Const imms.Null) ∷ calls_constructor super ∷ [])

abbrev pub fields_above : Headers → Option Name → List Member
fields_above headers None = []
fields_above headers (Some super) = instance_fields headers super

abbrev pub call_above : Headers → Option Name → List CInstr
call_above headers None = []
call_above headers (Some super) = super_call headers super

-- the instructions of the field constructor of a class
abbrev pub constructor_items : Headers → Name → List CInstr
constructor_items headers class =
    call_above headers (superclass_of headers class)
    ++ puts_from class (1 + units_of_fields (fields_above headers (superclass_of headers class)))
    (own_fields headers class)
    ++ (simple (Return None) ∷ [])

-- ---- its constants

-- those of an instruction, by the descriptors of the classes' field constructors
abbrev pub item_needs : (Name → List ℕ) → CInstr → List Need
item_needs constructor (simple instr) = []
item_needs constructor calls_object = member_needs of_method object init (codes "()V")
item_needs constructor (calls_constructor class) = constructor_needs class (constructor class)
item_needs constructor (puts_field class name desc) = member_needs of_field class name desc

-- its name, its descriptor, the name Code, and then those of its instructions by place
abbrev pub constructor_method_needs : Headers → (Name → List ℕ) → Name → List Need
constructor_method_needs headers constructor class =
    needs_text init
    ++ needs_text (constructor class)
    ++ needs_text (codes "Code")
    ++ flat_map (item_needs constructor) (constructor_items headers class)
