-- The parts of a class file behind its pool, and of what it is asked, each from its place on.
use Rattle.std.specs.Prelude.{◌+◌, ◌*◌, ℕ, List, [], ◌∷◌, ◌++◌, length, IsTrue}
use Rattle.std.specs.List.{flat_map}
use Rattle.class_model.specs.Checks.{Check, check, Fault}
use Rattle.class_model.specs.ClassOf.{fields_checks, methods_checks}
use Rattle.class_model.specs.Members.{fits_class, class_name_checks, super_checks, interfaces_checks, attrs_checks}
use Rattle.class_model.specs.Methods.{class_attr_checks, home_of}
use Rattle.class_model.specs.Pool.{Constants}
use Rattle.class_model.specs.Spelling.{field_bytes, method_bytes, attr_bytes}
use Rattle.class_model.specs.declared.class_file.Attr.{Attr}
use Rattle.class_model.specs.declared.class_file.ClassFile.{ClassFile}
use Rattle.class_model.specs.declared.class_file.Field.{Field}
use Rattle.class_model.specs.declared.class_file.Method.{Method}
use Rattle.class_model.specs.declared.fault.FileRule.TheVariants as rules

-- the flags, the class, its superclass and its interfaces; the place is that of the flags
abbrev pub head_checks : Constants → ℕ → ClassFile → List (Check Fault)
head_checks pool at c =
    (check at rules.Flags (IsTrue (fits_class c.flags)) ∷ [])
    ++ class_name_checks pool (at + 2) c.this_class
    ++ super_checks pool (at + 4) c.super_class
    ++ interfaces_checks pool (at + 8) c.interfaces

-- how many bytes they take with the count of the interfaces, and how many fields, methods and attributes take
-- without theirs
abbrev pub head_len : ClassFile → ℕ
head_len c = 8 + 2 * length c.interfaces

abbrev pub fields_len : List Field → ℕ
fields_len fields = length (flat_map field_bytes fields)

abbrev pub methods_len : List Method → ℕ
methods_len methods = length (flat_map method_bytes methods)

abbrev pub attrs_len : List Attr → ℕ
attrs_len attrs = length (flat_map attr_bytes attrs)

-- what stands behind the pool: the head, the fields, the methods and the attributes, each list behind its count
abbrev pub behind_len : ClassFile → ℕ
behind_len c =
    head_len c + (2 + fields_len c.fields) + (2 + methods_len c.methods) + (2 + attrs_len c.attrs)

-- what that is asked, with the flags at this place
abbrev pub behind_checks : ℕ → ClassFile → List (Check Fault)
behind_checks at c =
    let fields = at + 8 + 2 * length c.interfaces in
    let methods = fields + 2 + fields_len c.fields in
    let attrs = methods + 2 + methods_len c.methods in
    head_checks c.pool at c
    ++ (fields_checks c.pool c.flags [] (fields + 2) c.fields
    ++ (methods_checks (home_of c) [] (methods + 2) c.methods
    ++ attrs_checks (class_attr_checks c.pool) [] (attrs + 2) c.attrs))
