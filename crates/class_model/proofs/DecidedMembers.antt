-- The checks of the head of a class file, of its members and of their attributes are decided.
use Rattle.std.proofs.Common.{inl, inr, ℕ, ◌+◌, ◌*◌, ◌==◌, ◌&&◌, not, List, [], ◌∷◌, ◌++◌, length, Option, Some, None}
use Rattle.std.specs.Prelude.{codes}
use Rattle.std.proofs.lemmas.Bool.{cases_eq}
use Rattle.class_model.specs.Checks.{Check, Fault}
use Rattle.class_model.specs.Instructions.{u2_in}
use Rattle.class_model.specs.Members.{Signature, has, STATIC, is_named, attrs_checks, attr_name, class_name_checks, super_checks, interfaces_checks, constant_value, IsConstantOf, IsConstantValue, field_attr_checks, field_checks, raw_content}
use Rattle.class_model.specs.Methods.{Home, code, code_content, method_attr_checks, method_checks, Bootstrap, IsHandle, IsArgument, arguments_checks, bootstraps_checks, bootstrap_table_checks, bootstrap_methods, bootstraps, class_attr_checks}
use Rattle.class_model.specs.Pool.{Constants, constant_at}
use Rattle.class_model.specs.PoolChecks.{utf8_at, class_at}
use Rattle.class_model.specs.Spelling.{attr_bytes}
use Rattle.class_model.specs.declared.class_file.Attr.{Attr}
use Rattle.class_model.specs.declared.class_file.Field.{Field}
use Rattle.class_model.specs.declared.class_file.Method.{Method}
use Rattle.class_model.specs.declared.pool.Const.{Const}
use Rattle.class_model.specs.declared.pool.Const.TheVariants as consts
use Rattle.class_model.specs.Laws.Decisions.{Decision, mapped, both, is_true, is_false}
use Rattle.class_model.proofs.Decisions.{equal_bytes, if_some, is_some, AllDecided, decided-append, decided_if}
use Rattle.class_model.proofs.DecidedCode.{content}
use Rattle.class_model.proofs.DecidedDescriptors.{descriptor_of}
use Rattle.class_model.proofs.DecidedNames.{class_name, field_name}
use Rattle.class_model.proofs.DecidedPool.{plain_name}
use Rattle.class_model.proofs.DecidedTypes.{field_descriptor}

-- ---- the head

pub class_named_at : (pool : Constants) (at index : ℕ) → AllDecided (class_name_checks pool at index)
class_named_at pool at index = (is_some (class_at pool index), (if_some class_name (class_at pool index), tt))

pub super : (pool : Constants) (at index : ℕ) → AllDecided (super_checks pool at index)
super pool at index = decided_if (not (index == 0)) (class_name_checks pool at index) (class_named_at pool at index)

pub interfaces : (pool : Constants) (at : ℕ) (indices : List ℕ) → AllDecided (interfaces_checks pool at indices)
interfaces pool at [] = tt
interfaces pool at (index ∷ indices) = decided-append (class_name_checks pool at index) _ (class_named_at pool at index) (interfaces pool (at + 2) indices)

-- ---- attributes

pub attributes : (asks : List Attr → ℕ → Attr → List (Check Fault)) → ((before : List Attr) (at : ℕ) (attr : Attr) → AllDecided (asks before at attr)) → (before : List Attr) (at : ℕ) (attrs : List Attr) → AllDecided (attrs_checks asks before at attrs)
attributes asks decides before at [] = tt
attributes asks decides before at (attr ∷ attrs) =
    decided-append (asks before at attr) _ (decides before at attr) (attributes asks decides (before ++ attr ∷ []) (at + length (attr_bytes attr)) attrs)

-- ---- fields

constant_of : (descriptor : List ℕ) (constant : Option Const) → Decision (IsConstantOf descriptor constant)
constant_of descriptor (Some (consts.Integer number)) = is_true _
constant_of descriptor (Some (consts.Long number)) = equal_bytes descriptor (codes "J")
constant_of descriptor (Some (consts.Float bits)) = equal_bytes descriptor (codes "F")
constant_of descriptor (Some (consts.Double bits)) = equal_bytes descriptor (codes "D")
constant_of descriptor (Some (consts.String text)) = equal_bytes descriptor (codes "Ljava/lang/String;")
constant_of descriptor other = inr (λ h. h)

value : (pool : Constants) (descriptor : Option (List ℕ)) (content : List ℕ) → Decision (IsConstantValue pool descriptor content)
value pool descriptor content = mapped
    (λ h. record { two_bytes = h.0; constant = h.1 })
    (λ v. (v.two_bytes, v.constant))
    (both (cases_eq (length content) 2) (if_some (λ text. constant_of text (constant_at pool (u2_in content 0))) descriptor))

field_attribute : (pool : Constants) (field : Field) (before : List Attr) (at : ℕ) (attr : Attr) → AllDecided (field_attr_checks pool field before at attr)
field_attribute pool field before at attr = (
  is_some (utf8_at pool (attr_name attr)),
  decided_if (has field.flags STATIC && is_named pool constant_value attr) _ (is_false _, (value pool (utf8_at pool field.desc) _, tt)),
)

pub one_field : (pool : Constants) (class_flags : ℕ) (before : List Signature) (at : ℕ) (field : Field) → AllDecided (field_checks pool class_flags before at field)
one_field pool class_flags before at field = (
  is_true _,
  (
    is_false _,
    (
      is_some (utf8_at pool field.name),
      (
        if_some field_name (utf8_at pool field.name),
        (
          is_some (utf8_at pool field.desc),
          (
            if_some field_descriptor (utf8_at pool field.desc),
            attributes (field_attr_checks pool field) (field_attribute pool field) [] (at + 8) field.attrs,
          ),
        ),
      ),
    ),
  ),
)

-- ---- methods

method_attribute : (home : Home) (method : Method) (before : List Attr) (at : ℕ) (attr : Attr) → AllDecided (method_attr_checks home method before at attr)
method_attribute home method before at attr = (
  is_some (utf8_at home.pool (attr_name attr)),
  decided_if (is_named home.pool code attr) _ (is_false _, content home method at (code_content attr)),
)

pub one_method : (home : Home) (before : List Signature) (at : ℕ) (method : Method) → AllDecided (method_checks home before at method)
one_method home before at method = (
  is_true _,
  (
    is_false _,
    (
      is_true _,
      (
        is_true _,
        (
          is_some (utf8_at home.pool method.name),
          (
            if_some (plain_name (utf8_at home.pool method.desc)) (utf8_at home.pool method.name),
            (
              is_some (utf8_at home.pool method.desc),
              (
                if_some (descriptor_of method.flags) (utf8_at home.pool method.desc),
                attributes (method_attr_checks home method) (method_attribute home method) [] (at + 8) method.attrs,
              ),
            ),
          ),
        ),
      ),
    ),
  ),
)

-- ---- the attributes of the class

handle : (constant : Option Const) → Decision (IsHandle constant)
handle (Some (consts.MethodHandle kind reference)) = inl tt
handle other = inr (λ h. h)

argument : (constant : Option Const) → Decision (IsArgument constant)
argument (Some (consts.String text)) = inl tt
argument (Some (consts.Class name)) = inl tt
argument (Some (consts.Integer number)) = inl tt
argument (Some (consts.Long number)) = inl tt
argument (Some (consts.Float bits)) = inl tt
argument (Some (consts.Double bits)) = inl tt
argument (Some (consts.MethodHandle kind reference)) = inl tt
argument (Some (consts.MethodType descriptor)) = inl tt
argument other = inr (λ h. h)

arguments : (pool : Constants) (at : ℕ) (indices : List ℕ) → AllDecided (arguments_checks pool at indices)
arguments pool at [] = tt
arguments pool at (index ∷ indices) = (argument (constant_at pool index), arguments pool (at + 2) indices)

bootstrap_list : (pool : Constants) (at : ℕ) (methods : List Bootstrap) → AllDecided (bootstraps_checks pool at methods)
bootstrap_list pool at [] = tt
bootstrap_list pool at (b ∷ others) = (
  handle (constant_at pool b.handle),
  decided-append (arguments_checks pool (at + 4) b.arguments) _ (arguments pool (at + 4) b.arguments) (bootstrap_list pool (at + 4 + 2 * length b.arguments) others),
)

table : (pool : Constants) (at : ℕ) (methods : Option (List Bootstrap)) → AllDecided (bootstrap_table_checks pool at methods)
table pool at None = (inr (λ h. h), tt)
table pool at (Some methods) = bootstrap_list pool (at + 8) methods

pub class_attribute : (pool : Constants) (before : List Attr) (at : ℕ) (attr : Attr) → AllDecided (class_attr_checks pool before at attr)
class_attribute pool before at attr = (
  is_some (utf8_at pool (attr_name attr)),
  decided_if (is_named pool bootstrap_methods attr) _ (is_false _, table pool at (bootstraps (raw_content attr))),
)
