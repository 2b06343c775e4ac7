-- Bytes of a library have a header, or are of a version that is not read, or have a first fault; and the checks of a pool hold, or
-- one of them is the first that fails.
use Rattle.std.proofs.Common.{◌⊎◌, ℕ, ◌+◌, ◌*◌, List, [], ◌∷◌, length, Some, None, refl}
use Rattle.std.specs.List.{flat_map}
use Rattle.std.proofs.lemmas.Bool.{cases_eq}
use Rattle.class_model.specs.Checks.{Fault, AllHold, IsFirstFault}
use Rattle.class_model.specs.Cutting.{Version}
use Rattle.class_model.specs.Header.{HeaderOf, FirstHeaderFault, IsLibraryVersion, IsNoLibraryVersion, header_checks, header_of, texts_checks, field_name_checks, method_name_checks}
use Rattle.class_model.specs.Header.FirstHeaderFault.{in_head, behind}
use Rattle.class_model.specs.Pool.{Constants}
use Rattle.class_model.specs.PoolChecks.{utf8_at, entries_checks}
use Rattle.class_model.specs.Spelling.{constant_bytes, entry_bytes, field_bytes, method_bytes}
use Rattle.class_model.specs.declared.class_file.ClassFile.{ClassFile}
use Rattle.class_model.specs.declared.class_file.Field.{Field}
use Rattle.class_model.specs.declared.class_file.Method.{Method}
use Rattle.class_model.specs.declared.header.Header.{Header}
use Rattle.class_model.specs.declared.pool.Const.TheVariants.{Utf8}
use Rattle.class_model.specs.Laws.Decisions.{Decision, both, either}
use Rattle.class_model.proofs.Decisions.{at_most, if_some, is_some, AllDecided, decided-append, settled}
use Rattle.class_model.proofs.DecidedDescriptors.{descriptor_of}
use Rattle.class_model.proofs.DecidedFiles.{told_as}
use Rattle.class_model.proofs.DecidedMembers.{class_named_at, super, interfaces}
use Rattle.class_model.proofs.DecidedNames.{utf8, field_name}
use Rattle.class_model.proofs.DecidedPool.{plain_name, entries}
use Rattle.class_model.proofs.DecidedTypes.{field_descriptor}

-- ---- the checks of a header

texts : (at : ℕ) (pool : Constants) → AllDecided (texts_checks at pool)
texts at [] = tt
texts at (None ∷ others) = texts at others
texts at (Some (Utf8 text) ∷ others) = (utf8 text, texts (at + length (constant_bytes (Utf8 text))) others)
texts at (Some constant ∷ others) = texts (at + length (constant_bytes constant)) others

fields : (pool : Constants) (at : ℕ) (others : List Field) → AllDecided (field_name_checks pool at others)
fields pool at [] = tt
fields pool at (field ∷ others) = (
  is_some (utf8_at pool field.name),
  (
    if_some field_name (utf8_at pool field.name),
    (
      is_some (utf8_at pool field.desc),
      (if_some field_descriptor (utf8_at pool field.desc), fields pool (at + length (field_bytes field)) others),
    ),
  ),
)

methods : (pool : Constants) (at : ℕ) (others : List Method) → AllDecided (method_name_checks pool at others)
methods pool at [] = tt
methods pool at (method ∷ others) = (
  is_some (utf8_at pool method.name),
  (
    if_some (plain_name (utf8_at pool method.desc)) (utf8_at pool method.name),
    (
      is_some (utf8_at pool method.desc),
      (if_some (descriptor_of method.flags) (utf8_at pool method.desc), methods pool (at + length (method_bytes method)) others),
    ),
  ),
)

header : (c : ClassFile) → AllDecided (header_checks c)
header c =
    let pool = c.pool in
    let flags = 10 + length (flat_map entry_bytes pool) in
    let after_flags = flags + 8 + 2 * length c.interfaces in
    let after_fields = after_flags + 2 + length (flat_map field_bytes c.fields) in
    decided-append _ _ (decided-append _ _ (decided-append _ _ (decided-append _ _ (decided-append _ _
    (texts 10 pool)
    (class_named_at pool (flags + 2) c.this_class))
    (super pool (flags + 4) c.super_class))
    (interfaces pool (flags + 8) c.interfaces))
    (fields pool (after_flags + 2) c.fields))
    (methods pool (after_fields + 2) c.methods)

-- ---- the law

abbrev Told : List ℕ → Type 0
Told bytes = ((header : Header) × HeaderOf bytes header) ⊎ (((version : Version) × IsNoLibraryVersion bytes version) ⊎ ((f : Fault) × FirstHeaderFault bytes f))

read : (version : Version) → Decision (IsLibraryVersion version)
read version = either (both (at_most 45 version.major) (at_most version.major 51)) (both (cases_eq version.major 52) (cases_eq version.minor 0))

pub told : (bytes : List ℕ) → Told bytes
told bytes =
    told_as bytes IsLibraryVersion read header_checks header ((header : Header) × HeaderOf bytes header) ((version : Version) × IsNoLibraryVersion bytes version) (FirstHeaderFault bytes)
    (λ version rest cut head is_read is_cut holds. (header_of cut, record { version = version; rest = rest; head = head; is_read = is_read; cut = cut; is_cut = is_cut; holds = holds; is = refl }))
    (λ version rest head other. (version, record { rest = rest; head = head; other = other }))
    (λ f e. in_head f e)
    (λ version rest f head is_read first. behind version rest f head is_read first)

-- ---- pools

pub pool_settled : (major : ℕ) (pool : Constants) (at : ℕ) (others : Constants) → AllHold (entries_checks major pool at others) ⊎ ((f : Fault) × IsFirstFault (entries_checks major pool at others) f)
pool_settled major pool at others = settled (entries_checks major pool at others) (entries major pool at others)
