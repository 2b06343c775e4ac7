-- The checks of the constants of a pool are decided.
use Rattle.std.proofs.Common.{◌≡◌, ◌≢◌, inl, inr, ℕ, ◌+◌, List, [], ◌∷◌, length, Option, Some, None}
use Rattle.std.proofs.lemmas.Bool.{cases_eq}
use Rattle.class_model.specs.Names.{init, clinit, IsMethodName}
use Rattle.class_model.specs.Pool.{Constants, constant_at}
use Rattle.class_model.specs.PoolChecks.{utf8_at, name_at, descriptor_at, IsClassAt, IsNameAndTypeAt, InitIsVoid, FitsDescriptor, IsCalledName, fieldref_checks, methodref_checks, IsFieldConstant, IsMethodConstant, IsInterfaceConstant, IsMethodConstantOf, referred_name, RefersWell, constant_checks, entries_checks}
use Rattle.class_model.specs.Spelling.{constant_bytes}
use Rattle.class_model.specs.declared.pool.Const.{Const}
use Rattle.class_model.specs.declared.pool.Const.TheVariants.{Utf8, Integer, Float, Long, Double, Class, String, Fieldref, Methodref, InterfaceMethodref, NameAndType, MethodHandle, MethodType, InvokeDynamic}
use Rattle.class_model.specs.Laws.Decisions.{Decision, both, either, denied, implied}
use Rattle.class_model.proofs.Decisions.{three, four, at_most, equal_bytes, if_some, is_some, AllDecided, decided-append}
use Rattle.class_model.proofs.DecidedDescriptors.{method_descriptor, init_is_void}
use Rattle.class_model.proofs.DecidedNames.{utf8, unqualified_name, method_name, field_name}
use Rattle.class_model.proofs.DecidedTypes.{field_descriptor, reference_name}

-- ---- names

not_init : (name : List ℕ) → Decision (name ≢ init)
not_init name = denied (equal_bytes name init)

is_init : (name : List ℕ) → Decision (name ≡ init)
is_init name = equal_bytes name init

fits_descriptor : (descriptor : Option (List ℕ)) (name : List ℕ) → Decision (FitsDescriptor descriptor name)
fits_descriptor descriptor name = three (unqualified_name name) (if_some (λ text. implied (method_descriptor text) (method_name name)) descriptor) (init_is_void name descriptor)

called_name : (descriptor : Option (List ℕ)) (name : List ℕ) → Decision (IsCalledName descriptor name)
called_name descriptor name = three (method_name name) (denied (equal_bytes name clinit)) (init_is_void name descriptor)

pub plain_name : (descriptor : Option (List ℕ)) (name : List ℕ) → Decision (IsMethodName name × InitIsVoid name descriptor)
plain_name descriptor name = both (method_name name) (init_is_void name descriptor)

-- ---- references

pub class_named : (pool : Constants) (index : ℕ) → Decision (IsClassAt pool index)
class_named pool index = is_some _

name_and_type_named : (pool : Constants) (index : ℕ) → Decision (IsNameAndTypeAt pool index)
name_and_type_named pool index = is_some _

fieldref : (at : ℕ) (pool : Constants) (class member : ℕ) → AllDecided (fieldref_checks at pool class member)
fieldref at pool class member =
    (both (class_named pool class) (name_and_type_named pool member), (if_some field_name (name_at pool member), (if_some field_descriptor (descriptor_at pool member), tt)))

methodref : (at : ℕ) (pool : Constants) (class member : ℕ) → AllDecided (methodref_checks at pool class member)
methodref at pool class member = (
  both (class_named pool class) (name_and_type_named pool member),
  (
    if_some (called_name (descriptor_at pool member)) (name_at pool member),
    (if_some method_descriptor (descriptor_at pool member), tt),
  ),
)

-- ---- method handles

pub is_field : (constant : Option Const) → Decision (IsFieldConstant constant)
is_field (Some (Fieldref class member)) = inl tt
is_field other = inr (λ h. h)

pub is_method : (constant : Option Const) → Decision (IsMethodConstant constant)
is_method (Some (Methodref class member)) = inl tt
is_method other = inr (λ h. h)

pub is_interface_method : (constant : Option Const) → Decision (IsInterfaceConstant constant)
is_interface_method (Some (InterfaceMethodref class member)) = inl tt
is_interface_method other = inr (λ h. h)

method_of : (major : ℕ) (constant : Option Const) → Decision (IsMethodConstantOf major constant)
method_of major constant = either (is_method constant) (both (cases_eq major 52) (is_interface_method constant))

refers_well : (major : ℕ) (pool : Constants) (kind reference : ℕ) → Decision (RefersWell major pool kind reference)
refers_well major pool kind reference =
    let constant = constant_at pool reference in
    let name = referred_name pool reference in
    either (three (at_most 1 kind) (at_most kind 4) (is_field constant))
    (either (three (cases_eq kind 5) (is_method constant) (if_some not_init name))
    (either (four (at_most 6 kind) (at_most kind 7) (method_of major constant) (if_some not_init name))
    (either (three (cases_eq kind 8) (is_method constant) (if_some is_init name))
    (three (cases_eq kind 9) (is_interface_method constant) (if_some not_init name)))))

-- ---- constants

constant : (major : ℕ) (pool : Constants) (at : ℕ) (constant : Const) → AllDecided (constant_checks major pool at constant)
constant major pool at (Utf8 text) = (utf8 text, tt)
constant major pool at (Integer number) = tt
constant major pool at (Float bits) = tt
constant major pool at (Long number) = tt
constant major pool at (Double bits) = tt
constant major pool at (Class name) = (is_some (utf8_at pool name), (if_some reference_name (utf8_at pool name), tt))
constant major pool at (String text) = (is_some (utf8_at pool text), tt)
constant major pool at (Fieldref class member) = fieldref at pool class member
constant major pool at (Methodref class member) = methodref at pool class member
constant major pool at (InterfaceMethodref class member) = methodref at pool class member
constant major pool at (NameAndType name descriptor) = (
  both (is_some (utf8_at pool name)) (is_some (utf8_at pool descriptor)),
  (
    if_some (fits_descriptor (utf8_at pool descriptor)) (utf8_at pool name),
    (if_some (λ text. either (field_descriptor text) (method_descriptor text)) (utf8_at pool descriptor), tt),
  ),
)
constant major pool at (MethodHandle kind reference) = (refers_well major pool kind reference, tt)
constant major pool at (MethodType descriptor) = (is_some (utf8_at pool descriptor), (if_some method_descriptor (utf8_at pool descriptor), tt))
constant major pool at (InvokeDynamic bootstrap member) = (
  name_and_type_named pool member,
  (
    if_some (plain_name (descriptor_at pool member)) (name_at pool member),
    (if_some method_descriptor (descriptor_at pool member), tt),
  ),
)

pub entries : (major : ℕ) (pool : Constants) (at : ℕ) (entries : Constants) → AllDecided (entries_checks major pool at entries)
entries major pool at [] = tt
entries major pool at (None ∷ others) = entries major pool at others
entries major pool at (Some first ∷ others) =
    decided-append (constant_checks major pool at first) _ (constant major pool at first) (entries major pool (at + length (constant_bytes first)) others)
