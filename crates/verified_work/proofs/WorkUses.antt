-- The references of generated code, each to a member that is found, of the form that is needed, and accessible.
use Rattle.std.proofs.Common.{◌≡◌, ◌≢◌, ℕ, false, List, [], ◌∷◌, Option, Some, IfSome, Result, Ok, Err, bytes_eq, inl, inr, refl, sym, ap, subst, ◌∙◌, get_or, arith, codes}
use Rattle.std.specs.List.{AllByRecursion}
use Rattle.std.specs.Prelude.{IsFalse}
use Rattle.std.proofs.lemmas.Bool.{false≢true, true≢false}
use Rattle.std.proofs.lemmas.Option.{same_Some}
use Rattle.std.proofs.lemmas.Slice.Eq.{bytes_eq-Decides}
use Rattle.class_model.specs.Checks.{AllHold, Fault, asked_each}
use Rattle.class_model.specs.Descriptors as descriptors
use Rattle.class_model.specs.Descriptors.{SpellsDescriptor, SpellsFieldType, parameters_of}
use Rattle.class_model.specs.Laws.Checks.{◌▸◌, both_hold}
use Rattle.class_model.specs.Members.{STATIC, has}
use Rattle.class_model.specs.Names.{init}
use Rattle.class_model.specs.Pool.{Constants}
use Rattle.class_model.specs.declared.descriptor.Descriptor.{Descriptor}
use Rattle.class_model.specs.declared.descriptor.FieldType.{FieldType}
use Rattle.class_model.specs.declared.descriptor.FieldType.TheVariants.{Int}
use Rattle.class_model.specs.declared.header.Header.{Header}
use Rattle.class_model.specs.declared.header.Member.{Member}
use Rattle.class_model.specs.declared.instr.Placed.{Placed}
use Rattle.class_model.specs.declared.opcodes.TheConstants.{INVOKESPECIAL, INVOKESTATIC, INVOKEVIRTUAL}
use Rattle.class_model.specs.declared.pool.Const.{Const}
use Rattle.class_model.specs.declared.pool.Const.TheVariants.{Methodref}
use Rattle.class_tree.specs.Headers.{Headers, IsThere, Name, class_named}
use Rattle.class_tree.specs.Names.{is_interface, object}
use Rattle.member_link.specs.Access.{IsAccessible, IsClassAccessible, in_package, is_public}
use Rattle.member_link.specs.DeclaredMembers.{Declared, declared_by}
use Rattle.member_link.specs.Fields.{FindsField, in_class}
use Rattle.member_link.specs.Forms.{FitsCall, IsInstanceForm, IsInstantiable}
use Rattle.member_link.specs.Laws.ResultTexts.{result_spelled}
use Rattle.member_link.specs.Methods.{FindsMethod, IsPolymorphic, initialiser, of_class, upwards}
use Rattle.member_link.specs.References.{DescriptorNames, FieldTypeNames, IsNamedAccessible, IsNamedThere, Reference, TypeNames}
use Rattle.member_link.specs.Signatures.{result_of}
use Rattle.member_link.specs.Upwards.{in_itself}
use Rattle.member_link.specs.Uses.{UseScope, field_use_checks, instr_use_checks, member_checks, method_use_checks}
use Rattle.work_gen.specs.BaseLibrary.{no_parameters, takes_object}
use Rattle.verified_work.proofs.WorkHeaders.{constructor, headers, keeper_header, member, point_constructor, point_header, root_header, use_member, x_field, y_field, y_method}

-- ---- what lower crates say

pub record UseLaws : Type 0 where
  pub parameters : (text : List ℕ) (descriptor : Descriptor) → SpellsDescriptor text descriptor → parameters_of text ≡ descriptor.params
  pub one_type : (text : List ℕ) (one other : FieldType) → SpellsFieldType text one → SpellsFieldType text other → one ≡ other
  pub one_field : (headers : Headers) (class : Name) (name desc : List ℕ) (one other : Option Declared)
      → FindsField headers class name desc one → FindsField headers class name desc other → one ≡ other
  pub one_method : (headers : Headers) (class : Name) (name desc : List ℕ) (one other : Option Declared)
      → FindsMethod headers class name desc one → FindsMethod headers class name desc other → one ≡ other

-- ---- the classes of descriptors

module _ (laws : UseLaws) where
  described : (Holds : Name → Type 0) (text : List ℕ) → AllByRecursion (TypeNames Holds) (parameters_of text) → IfSome (result_of text) (TypeNames Holds) → DescriptorNames Holds text
  described Holds text params result descriptor spelled =
      let same = laws.parameters text descriptor spelled in (
        subst (AllByRecursion (TypeNames Holds)) same params,
        subst (λ (type : Option FieldType). IfSome type (TypeNames Holds)) (result_spelled text descriptor same spelled) result,
      )

  pub int_to_int : (Holds : Name → Type 0) → DescriptorNames Holds (codes "(I)I")
  unfolding descriptors.types_before
  int_to_int Holds = described Holds (codes "(I)I") (tt, tt) tt

  pub two_to_void : (Holds : Name → Type 0) → DescriptorNames Holds (codes "(II)V")
  unfolding descriptors.types_before
  two_to_void Holds = described Holds (codes "(II)V") (tt, (tt, tt)) tt

  pub gives_int : (Holds : Name → Type 0) → DescriptorNames Holds (codes "()I")
  unfolding descriptors.types_before
  gives_int Holds = described Holds (codes "()I") tt tt

  pub void : (Holds : Name → Type 0) → DescriptorNames Holds no_parameters
  unfolding descriptors.types_before
  void Holds = described Holds no_parameters tt tt

  pub takes : (methods : List Member) → DescriptorNames (IsThere (headers methods)) takes_object
  unfolding descriptors.types_before
  takes methods = described (IsThere (headers methods)) takes_object (refl, tt) tt

  pub is_int : (Holds : Name → Type 0) → FieldTypeNames Holds (codes "I")
  is_int Holds type spelled =
      subst (TypeNames Holds) (laws.one_type (codes "I") Int type (record { is_type = tt; spelled = refl }) spelled) tt

-- ---- what is found

pub x_found : (methods : List Member) → FindsField (headers methods) (codes "P") (codes "x") (codes "I") (Some (declared_by (codes "P") x_field))
x_found methods = in_class (codes "P") [] point_header x_field refl refl

pub y_found : (methods : List Member) → FindsField (headers methods) (codes "P") (codes "y") (codes "I") (Some (declared_by (codes "P") y_field))
y_found methods = in_class (codes "P") [] point_header y_field refl refl

pub init_found : (methods : List Member) → FindsMethod (headers methods) (codes "P") init (codes "(II)V") (Some (declared_by (codes "P") point_constructor))
init_found methods = initialiser refl

pub root_found : (methods : List Member) → FindsMethod (headers methods) object init no_parameters (Some (declared_by object constructor))
root_found methods = initialiser refl

differ : (one other : List ℕ) → bytes_eq one other ≡ false → one ≢ other
differ one other test equal = true≢false (sym ((bytes_eq-Decides one other).1 equal) ∙ test)

no_handle : (methods : List Member) (class name : Name) → bytes_eq class (codes "java/lang/invoke/MethodHandle") ≡ false → ¬ IsPolymorphic (headers methods) class name
no_handle methods class name test is = differ class (codes "java/lang/invoke/MethodHandle") test is.0

pub method_found : (methods : List Member) → FindsMethod (headers methods) (codes "P") (codes "y") (codes "()I") (Some (declared_by (codes "P") y_method))
method_found methods =
    of_class _ (differ (codes "y") init refl) (λ is. absurd (omega (arith, ap (λ (bytes : List ℕ). get_or bytes 0 0) is.1))) (no_handle methods (codes "P") (codes "y") refl)
    (upwards point_header _ refl (in_itself (codes "P") point_header y_method refl refl (λ is. absurd (false≢true is))))

pub use_found : (methods : List Member) → FindsMethod (headers methods) (codes "L") (codes "use") takes_object (Some (declared_by (codes "L") use_member))
use_found methods =
    of_class _ (differ (codes "use") init refl) (λ is. absurd (omega (arith, ap (λ (bytes : List ℕ). get_or bytes 0 0) is.1))) (no_handle methods (codes "L") (codes "use") refl)
    (upwards keeper_header _ refl (in_itself (codes "L") keeper_header use_member refl refl (λ is. absurd (false≢true is))))

-- ---- the checks of a reference

passes : (s : UseScope) (reference : Reference) (Others : Type 0) (Finds : Option Declared → Type 0) (HasForm : Declared → Type 0) (found : Declared)
    → IsNamedThere s.headers reference.class × Others
    → IsNamedAccessible s.headers s.site.class reference.class
    → Finds (Some found)
    → ((other : Declared) → Finds (Some other) → found ≡ other)
    → HasForm found
    → IsAccessible s.headers s.site.class reference.class found
    → AllHold (member_checks s reference Others Finds HasForm)
passes s reference Others Finds HasForm found there accessible finds once form access =
    there ▸ accessible ▸ (found, finds)
    ▸ (λ other also. subst HasForm (once other also) form)
    ▸ (λ other also. subst (IsAccessible s.headers s.site.class reference.class) (once other also) access)
    ▸ tt

abbrev reference : Name → List ℕ → List ℕ → Reference
reference class name desc = record { class = class; name = name; desc = desc }

-- a reference in a class of the folder
abbrev pub scope : List Member → Constants → Name → Member → UseScope
scope methods pool class member = record { headers = headers methods; pool = pool; site = record { class = class; member = member } }

module _ (laws : UseLaws) (methods : List Member) (pool : Constants) (site : Member) where
  field_passes : (class : Name) (field : Member) → IsNamedThere (headers methods) (codes "P") → IsNamedAccessible (headers methods) class (codes "P")
      → FindsField (headers methods) (codes "P") field.name field.desc (Some (declared_by (codes "P") field))
      → FieldTypeNames (IsThere (headers methods)) field.desc
      → IsFalse (has field.flags STATIC)
      → IsAccessible (headers methods) class (codes "P") (declared_by (codes "P") field)
      → AllHold (field_use_checks (scope methods pool class site) IsInstanceForm (reference (codes "P") field.name field.desc))
  field_passes class field there accessible finds types instance access =
      passes (scope methods pool class site) (reference (codes "P") field.name field.desc) (FieldTypeNames (IsThere (headers methods)) field.desc)
      (FindsField (headers methods) (codes "P") field.name field.desc) IsInstanceForm (declared_by (codes "P") field) (there, types) accessible finds
      (λ other also. same_Some _ _ (laws.one_field (headers methods) (codes "P") field.name field.desc (Some (declared_by (codes "P") field)) (Some other) finds also))
      instance access

  method_passes : (class owner : Name) (method : Member) (opcode : ℕ) (constant : Option Const)
      → IsNamedThere (headers methods) owner → IsNamedAccessible (headers methods) class owner
      → FindsMethod (headers methods) owner method.name method.desc (Some (declared_by owner method))
      → DescriptorNames (IsThere (headers methods)) method.desc
      → FitsCall (headers methods) opcode constant (reference owner method.name method.desc) (declared_by owner method)
      → IsAccessible (headers methods) class owner (declared_by owner method)
      → AllHold (method_use_checks (scope methods pool class site) (FitsCall (headers methods) opcode constant) (reference owner method.name method.desc))
  method_passes class owner method opcode constant there accessible finds types form access =
      passes (scope methods pool class site) (reference owner method.name method.desc) (DescriptorNames (IsThere (headers methods)) method.desc)
      (FindsMethod (headers methods) owner method.name method.desc) (FitsCall (headers methods) opcode constant (reference owner method.name method.desc)) (declared_by owner method) (there, types) accessible finds
      (λ other also. same_Some _ _ (laws.one_method (headers methods) owner method.name method.desc (Some (declared_by owner method)) (Some other) finds also))
      form access

  -- ---- the references of the code, from the class of the methods

  point_open : (class : Name) → IsClassAccessible (headers methods) class (codes "P") → IsNamedAccessible (headers methods) class (codes "P")
  point_open class accessible = accessible

  pub x_passes : AllHold (field_use_checks (scope methods pool (codes "G") site) IsInstanceForm (reference (codes "P") (codes "x") (codes "I")))
  x_passes =
      field_passes (codes "G") x_field refl (record { header = point_header; found = refl; is_open = inr refl }) (x_found methods)
      (is_int laws (IsThere (headers methods))) refl (in_package refl refl)

  pub own_x_passes : AllHold (field_use_checks (scope methods pool (codes "P") site) IsInstanceForm (reference (codes "P") (codes "x") (codes "I")))
  own_x_passes =
      field_passes (codes "P") x_field refl (record { header = point_header; found = refl; is_open = inr refl }) (x_found methods)
      (is_int laws (IsThere (headers methods))) refl (in_package refl refl)

  pub own_y_passes : AllHold (field_use_checks (scope methods pool (codes "P") site) IsInstanceForm (reference (codes "P") (codes "y") (codes "I")))
  own_y_passes =
      field_passes (codes "P") y_field refl (record { header = point_header; found = refl; is_open = inr refl }) (y_found methods)
      (is_int laws (IsThere (headers methods))) refl (in_package refl refl)

  is_class : (name : Name) (header : Header) → class_named (headers methods) name ≡ Some header → IsFalse (is_interface header) → (other : Header) → class_named (headers methods) name ≡ Some other → IsFalse (is_interface other)
  is_class name header is no_interface other also = subst (λ (h : Header). IsFalse (is_interface h)) (same_Some header other (sym is ∙ also)) no_interface

  pub init_passes : AllHold (method_use_checks (scope methods pool (codes "G") site) (FitsCall (headers methods) INVOKESPECIAL (Some (Methodref 8 11))) (reference (codes "P") init (codes "(II)V")))
  init_passes =
      method_passes (codes "G") (codes "P") point_constructor INVOKESPECIAL (Some (Methodref 8 11)) refl (record { header = point_header; found = refl; is_open = inr refl })
      (init_found methods) (two_to_void laws (IsThere (headers methods)))
      (record { of_static = λ is. absurd (omega (arith, is)); of_instance = λ is. refl; kind = is_class (codes "P") point_header refl refl; initialiser = λ is. refl; no_private = λ is. absurd (omega (arith, is)) })
      (in_package refl refl)

  pub root_passes : AllHold (method_use_checks (scope methods pool (codes "P") site) (FitsCall (headers methods) INVOKESPECIAL (Some (Methodref 4 9))) (reference object init no_parameters))
  root_passes =
      method_passes (codes "P") object constructor INVOKESPECIAL (Some (Methodref 4 9)) refl (record { header = root_header; found = refl; is_open = inl refl })
      (root_found methods) (void laws (IsThere (headers methods)))
      (record { of_static = λ is. absurd (omega (arith, is)); of_instance = λ is. refl; kind = is_class object root_header refl refl; initialiser = λ is. refl; no_private = λ is. absurd (omega (arith, is)) })
      (is_public refl)

  pub y_passes : AllHold (method_use_checks (scope methods pool (codes "G") site) (FitsCall (headers methods) INVOKEVIRTUAL (Some (Methodref 8 19))) (reference (codes "P") (codes "y") (codes "()I")))
  y_passes =
      method_passes (codes "G") (codes "P") y_method INVOKEVIRTUAL (Some (Methodref 8 19)) refl (record { header = point_header; found = refl; is_open = inr refl })
      (method_found methods) (gives_int laws (IsThere (headers methods)))
      (record { of_static = λ is. absurd (omega (arith, is)); of_instance = λ is. refl; kind = is_class (codes "P") point_header refl refl; initialiser = λ is. absurd (differ (codes "y") init refl is); no_private = λ is. absurd (omega (arith, is)) })
      (in_package refl refl)

  pub use_passes : AllHold (method_use_checks (scope methods pool (codes "G") site) (FitsCall (headers methods) INVOKESTATIC (Some (Methodref 22 25))) (reference (codes "L") (codes "use") takes_object))
  use_passes =
      method_passes (codes "G") (codes "L") use_member INVOKESTATIC (Some (Methodref 22 25)) refl (record { header = keeper_header; found = refl; is_open = inl refl })
      (use_found methods) (takes laws methods)
      (record { of_static = λ is. refl; of_instance = λ other. absurd (other refl); kind = is_class (codes "L") keeper_header refl refl; initialiser = λ is. absurd (differ (codes "use") init refl is); no_private = λ is. absurd (omega (arith, is)) })
      (is_public refl)

  pub new_passes : IsNamedThere (headers methods) (codes "P") × (IsNamedAccessible (headers methods) (codes "G") (codes "P") × (IsInstantiable (headers methods) (codes "P") × Unit {0}))
  new_passes =
      refl
      ▸ record { header = point_header; found = refl; is_open = inr refl }
      ▸ record { header = point_header; found = refl; concrete = refl; no_interface = refl }
      ▸ tt

-- ---- one instruction after the other

pub each_passes : (s : UseScope) (instrs : List Placed) → AllByRecursion (λ placed. AllHold (instr_use_checks s placed.instr)) instrs → AllHold (asked_each (λ placed. instr_use_checks s placed.instr) instrs)
each_passes s [] all = tt
each_passes s (placed ∷ instrs) all = both_hold (instr_use_checks s placed.instr) (asked_each (λ placed. instr_use_checks s placed.instr) instrs) all.0 (each_passes s instrs all.1)

abbrev pub placed_in : Result (List Placed) Fault → List Placed
placed_in (Ok instrs) = instrs
placed_in (Err fault) = []
