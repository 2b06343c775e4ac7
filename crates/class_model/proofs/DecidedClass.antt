-- Bytes are a class file, or of a version that is not read, or have a first fault.
use Rattle.std.proofs.Common.{◌⊎◌, ℕ, ◌+◌, ◌*◌, List, [], ◌∷◌, ◌++◌, length, Some, None, refl}
use Rattle.std.specs.List.{flat_map}
use Rattle.std.proofs.lemmas.Bool.{cases_eq}
use Rattle.class_model.specs.Checks.{Fault}
use Rattle.class_model.specs.ClassOf.{fields_checks, methods_checks, bootstrap_index_checks, class_file_checks, entered, IsReadVersion, ClassOf, IsOtherVersion, FirstFault}
use Rattle.class_model.specs.ClassOf.FirstFault.{in_head, behind}
use Rattle.class_model.specs.Cutting.{Version}
use Rattle.class_model.specs.Members.{Signature, field_checks, field_signature}
use Rattle.class_model.specs.Methods.{Home, method_checks, class_attr_checks, bootstrap_count, method_signature, home_of}
use Rattle.class_model.specs.Pool.{Constants}
use Rattle.class_model.specs.Spelling.{constant_bytes, entry_bytes, field_bytes, method_bytes}
use Rattle.class_model.specs.declared.class_file.ClassFile.{ClassFile}
use Rattle.class_model.specs.declared.class_file.Field.{Field}
use Rattle.class_model.specs.declared.class_file.Method.{Method}
use Rattle.class_model.specs.declared.pool.Const.TheVariants.{InvokeDynamic}
use Rattle.class_model.specs.Laws.Decisions.{Decision, both, either, is_true}
use Rattle.class_model.proofs.Decisions.{less, AllDecided, decided-append}
use Rattle.class_model.proofs.DecidedFiles.{told_as}
use Rattle.class_model.proofs.DecidedMembers.{class_named_at, super, interfaces, attributes, one_field, one_method, class_attribute}
use Rattle.class_model.proofs.DecidedPool.{entries}

-- ---- members, and invokedynamic constants

fields : (pool : Constants) (flags : ℕ) (before : List Signature) (at : ℕ) (others : List Field) → AllDecided (fields_checks pool flags before at others)
fields pool flags before at [] = tt
fields pool flags before at (field ∷ others) =
    decided-append (field_checks pool flags before at field) _ (one_field pool flags before at field)
    (fields pool flags (before ++ field_signature field ∷ []) (at + length (field_bytes field)) others)

methods : (home : Home) (before : List Signature) (at : ℕ) (others : List Method) → AllDecided (methods_checks home before at others)
methods home before at [] = tt
methods home before at (method ∷ others) =
    decided-append (method_checks home before at method) _ (one_method home before at method)
    (methods home (before ++ method_signature method ∷ []) (at + length (method_bytes method)) others)

dynamics : (count at : ℕ) (pool : Constants) → AllDecided (bootstrap_index_checks count at pool)
dynamics count at [] = tt
dynamics count at (None ∷ others) = dynamics count at others
dynamics count at (Some (InvokeDynamic bootstrap member) ∷ others) = (less bootstrap count, dynamics count (at + length (constant_bytes (InvokeDynamic bootstrap member))) others)
dynamics count at (Some constant ∷ others) = dynamics count (at + length (constant_bytes constant)) others

-- ---- the whole

class : (c : ClassFile) → AllDecided (class_file_checks c)
class c =
    let pool = c.pool in
    let flags = 10 + length (flat_map entry_bytes pool) in
    let after_flags = flags + 8 + 2 * length c.interfaces in
    let after_fields = after_flags + 2 + length (flat_map field_bytes c.fields) in
    let attrs = after_fields + 2 + length (flat_map method_bytes c.methods) in
    decided-append _ _ (decided-append _ _ (decided-append _ _ (decided-append _ _ (decided-append _ _ (decided-append _ _ (decided-append _ _ (decided-append _ _
    (entries c.major pool 10 pool)
    (is_true _, tt))
    (class_named_at pool (flags + 2) c.this_class))
    (super pool (flags + 4) c.super_class))
    (interfaces pool (flags + 8) c.interfaces))
    (fields pool c.flags [] (after_flags + 2) c.fields))
    (methods (home_of c) [] (after_fields + 2) c.methods))
    (attributes (class_attr_checks pool) (class_attribute pool) [] (attrs + 2) c.attrs))
    (dynamics (bootstrap_count pool c.attrs) 10 pool)

-- ---- the law

abbrev Told : List ℕ → Type 0
Told bytes = ((class : ClassFile) × ClassOf bytes class) ⊎ (((version : Version) × IsOtherVersion bytes version) ⊎ ((f : Fault) × FirstFault bytes f))

read : (version : Version) → Decision (IsReadVersion version)
read version = either (cases_eq version.major 50) (either (cases_eq version.major 51) (both (cases_eq version.major 52) (cases_eq version.minor 0)))

pub told : (bytes : List ℕ) → Told bytes
told bytes =
    told_as bytes IsReadVersion read class_file_checks class ((class : ClassFile) × ClassOf bytes class) ((version : Version) × IsOtherVersion bytes version) (FirstFault bytes)
    (λ version rest cut head is_read is_cut holds. (entered cut, record { version = version; rest = rest; head = head; is_read = is_read; cut = cut; is_cut = is_cut; holds = holds; is = refl }))
    (λ version rest head other. (version, record { rest = rest; head = head; other = other }))
    (λ f e. in_head f e)
    (λ version rest f head is_read first. behind version rest f head is_read first)
