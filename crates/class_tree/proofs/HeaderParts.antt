-- The header of a class file part by part.
use Rattle.std.proofs.Common.{◌≡◌, ℕ, List, [], ◌∷◌, map, Option, Some, None, unwrap_or, refl}
use Rattle.class_model.specs.Header.{header_of}
use Rattle.class_model.specs.PoolChecks.{utf8_at, class_at}
use Rattle.class_model.specs.declared.class_file.ClassFile.{ClassFile}
use Rattle.class_model.specs.declared.class_file.Field.{Field}
use Rattle.class_model.specs.declared.class_file.Method.{Method}
use Rattle.class_model.specs.declared.header.Member.{Member}
use Rattle.class_model.specs.Pool.{Constants}

-- the text, or the empty one
abbrev pub text_or_empty : Option (List ℕ) → List ℕ
text_or_empty text = unwrap_or text []

abbrev pub member : Constants → ℕ → ℕ → ℕ → Member
member pool flags name desc = record { flags = flags; name = text_or_empty (utf8_at pool name); desc = text_or_empty (utf8_at pool desc) }

pub name_is : (class : ClassFile) → (header_of class).name ≡ text_or_empty (class_at class.pool class.this_class)
name_is class = by (class_at class.pool class.this_class) refl
  where
    by : (text : Option (List ℕ)) → class_at class.pool class.this_class ≡ text → (header_of class).name ≡ text_or_empty (class_at class.pool class.this_class)
    by None e = rw e refl
    by (Some text) e = rw e refl

pub interfaces_are : (class : ClassFile) (indices : List ℕ) → (header_of (record class { interfaces = indices })).interfaces ≡ map (λ index. text_or_empty (class_at class.pool index)) indices
interfaces_are class [] = refl
interfaces_are class (index ∷ indices) = cc (name_is (record class { this_class = index }), interfaces_are class indices)

field_is : (class : ClassFile) (field : Field) (fields : List Field) → (header_of (record class { fields = field ∷ fields })).fields ≡ member class.pool field.flags field.name field.desc ∷ (header_of (record class { fields = fields })).fields
field_is class field fields = by (utf8_at class.pool field.name) refl (utf8_at class.pool field.desc) refl
  where
    by : (name : Option (List ℕ)) → utf8_at class.pool field.name ≡ name → (desc : Option (List ℕ)) → utf8_at class.pool field.desc ≡ desc → (header_of (record class { fields = field ∷ fields })).fields ≡ member class.pool field.flags field.name field.desc ∷ (header_of (record class { fields = fields })).fields
    by None e None f = rw (e, f) refl
    by None e (Some desc) f = rw (e, f) refl
    by (Some name) e None f = rw (e, f) refl
    by (Some name) e (Some desc) f = rw (e, f) refl

pub fields_are : (class : ClassFile) (fields : List Field) → (header_of (record class { fields = fields })).fields ≡ map (λ field. member class.pool field.flags field.name field.desc) fields
fields_are class [] = refl
fields_are class (field ∷ fields) = cc (field_is class field fields, fields_are class fields)

method_is : (class : ClassFile) (method : Method) (methods : List Method) → (header_of (record class { methods = method ∷ methods })).methods ≡ member class.pool method.flags method.name method.desc ∷ (header_of (record class { methods = methods })).methods
method_is class method methods = by (utf8_at class.pool method.name) refl (utf8_at class.pool method.desc) refl
  where
    by : (name : Option (List ℕ)) → utf8_at class.pool method.name ≡ name → (desc : Option (List ℕ)) → utf8_at class.pool method.desc ≡ desc → (header_of (record class { methods = method ∷ methods })).methods ≡ member class.pool method.flags method.name method.desc ∷ (header_of (record class { methods = methods })).methods
    by None e None f = rw (e, f) refl
    by None e (Some desc) f = rw (e, f) refl
    by (Some name) e None f = rw (e, f) refl
    by (Some name) e (Some desc) f = rw (e, f) refl

pub methods_are : (class : ClassFile) (methods : List Method) → (header_of (record class { methods = methods })).methods ≡ map (λ method. member class.pool method.flags method.name method.desc) methods
methods_are class [] = refl
methods_are class (method ∷ methods) = cc (method_is class method methods, methods_are class methods)
