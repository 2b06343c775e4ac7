-- It is decided whether what an instruction names is accessible from a host's class.
use Rattle.std.proofs.Common.{◌≡◌, ◌||◌, ℕ, List, codes, Option, Some, None, IsTrue, IsFalse, is_some, ◌⊎◌, subst, inl, inr}
use Rattle.std.proofs.lemmas.Option.{none-some, same_Some}
use Rattle.class_model.specs.Laws.Decisions.{Decision, both, either, is_false, is_true, mapped}
use Rattle.class_model.specs.Members.{has, PRIVATE, PROTECTED, PUBLIC, STATIC}
use Rattle.class_model.specs.Pool.{constant_at}
use Rattle.class_model.specs.PoolChecks.{class_at}
use Rattle.class_model.specs.declared.instr.Instr.{Instr}
use Rattle.class_model.specs.declared.instr.Instr.TheVariants.{Ldc, GetStatic, PutStatic, GetField, PutField, Invoke, New, NewRefArray, NewMulti, Cast, InstanceOf}
use Rattle.class_model.specs.declared.pool.Const.{Const}
use Rattle.class_model.specs.declared.pool.Const.TheVariants as consts
use Rattle.class_tree.specs.Headers.{Headers, Name, class_named, named}
use Rattle.class_tree.specs.Laws.Decided.{array_decided, same_bytes}
use Rattle.class_tree.specs.Subtype.{IsArray}
use Rattle.expanded_code.specs.Callees.{Finds, IsOpenClass, IsOpenClassAt, IsOpenConstant, IsOpenField, IsOpenFieldAt, IsOpenFieldReference, IsOpenMethod, IsOpenMethodAt, IsOpenMethodReference, NamesOpen, clone_of_array, opened_field, package_field, package_method, public_field, public_method}
use Rattle.expanded_code.specs.Laws.Searches.{if_decided, if_some_decided, some_decided}
use Rattle.expanded_code.specs.Quiet.{IsOfFolder}
use Rattle.inline_expand.proofs.DecidedRuns.{LooksUpOnce}
use Rattle.inline_expand.proofs.DecidedWords.{HasAnswers}
use Rattle.member_link.specs.Access.{IsClassAccessible}
use Rattle.member_link.specs.DeclaredMembers.{Declared, is_package_access}
use Rattle.member_link.specs.Fields.{FindsField}
use Rattle.member_link.specs.Methods.{FindsMethod}
use Rattle.member_link.specs.Overriding.{package_of}
use Rattle.member_link.specs.References.{Reference, element_class}
use Rattle.member_link.specs.Scope.{Scope}
use Rattle.member_link.specs.Signatures.{reference_of}

-- what a look-up of a field finds at most
abbrev pub FindsOneField : Type 0
FindsOneField = (headers : Headers) (class : Name) (name desc : List ℕ) (one other : Option Declared) → FindsField headers class name desc one → FindsField headers class name desc other
    → one ≡ other

-- a class of the folder
pub of_folder_decided : (headers : Headers) (name : Name) → Decision (IsOfFolder headers name)
of_folder_decided headers name = is_true (is_some (named name headers.folder))

module _ (headers : Headers) (host : Name) where
  accessible_decided : (name : Name) → Decision (IsClassAccessible headers host name)
  accessible_decided name =
      mapped (λ some. record { header = some.item; found = some.is; is_open = some.holds }) (λ access. record { item = access.header; is = access.found; holds = access.is_open })
      (some_decided (class_named headers name) (λ header. IsTrue (has header.flags PUBLIC) ⊎ (package_of host ≡ package_of name))
      (λ header is. either (is_true (has header.flags PUBLIC)) (same_bytes (package_of host) (package_of name))))

  open_class : (name : Name) → Decision (IsOpenClass headers host name)
  open_class name = if_some_decided (IsClassAccessible headers host) accessible_decided (element_class name)

  -- ---- members

  abbrev IsPublic : Declared → Type 0
  IsPublic member = IsTrue (has member.member.flags PUBLIC) × IsFalse (has member.member.flags PROTECTED)

  abbrev IsInPackage : Declared → Type 0
  IsInPackage member = IsTrue (is_package_access member.member || has member.member.flags PROTECTED) × (package_of host ≡ package_of member.class)

  abbrev WillOpen : Declared → Type 0
  WillOpen field = (IsTrue (has field.member.flags PRIVATE) × IsFalse (has field.member.flags STATIC)) × (IsOfFolder headers field.class × (package_of host ≡ package_of field.class))

  is_public_decided : (member : Declared) → Decision (IsPublic member)
  is_public_decided member = both (is_true (has member.member.flags PUBLIC)) (is_false (has member.member.flags PROTECTED))

  in_package_decided : (member : Declared) → Decision (IsInPackage member)
  in_package_decided member =
      both (is_true (is_package_access member.member || has member.member.flags PROTECTED)) (same_bytes (package_of host) (package_of member.class))

  open_field : (field : Declared) → Decision (IsOpenField headers host field)
  open_field field =
      mapped to from (either (is_public_decided field) (either (in_package_decided field)
      (both (both (is_true (has field.member.flags PRIVATE)) (is_false (has field.member.flags STATIC)))
      (both (of_folder_decided headers field.class) (same_bytes (package_of host) (package_of field.class)))))) where
        to : IsPublic field ⊎ (IsInPackage field ⊎ WillOpen field) → IsOpenField headers host field
        to (inl h) = public_field h.0 h.1
        to (inr (inl h)) = package_field h.0 h.1
        to (inr (inr h)) = opened_field h.0.0 h.0.1 h.1.0 h.1.1

        from : IsOpenField headers host field → IsPublic field ⊎ (IsInPackage field ⊎ WillOpen field)
        from (public_field is_public unprotected) = inl (is_public, unprotected)
        from (package_field open_ same) = inr (inl (open_, same))
        from (opened_field is_private of_instance of_folder same) = inr (inr ((is_private, of_instance), (of_folder, same)))

  open_method : (class : Name) (method : Declared) → Decision (IsOpenMethod host class method)
  open_method class method =
      mapped to from (either (is_public_decided method) (either (in_package_decided method)
      (both (array_decided class) (same_bytes method.member.name (codes "clone"))))) where
        to : IsPublic method ⊎ (IsInPackage method ⊎ (IsArray class × (method.member.name ≡ codes "clone"))) → IsOpenMethod host class method
        to (inl h) = public_method h.0 h.1
        to (inr (inl h)) = package_method h.0 h.1
        to (inr (inr h)) = clone_of_array h.0 h.1

        from : IsOpenMethod host class method → IsPublic method ⊎ (IsInPackage method ⊎ (IsArray class × (method.member.name ≡ codes "clone")))
        from (public_method is_public unprotected) = inl (is_public, unprotected)
        from (package_method open_ same) = inr (inl (open_, same))
        from (clone_of_array deep is_clone) = inr (inr (deep, is_clone))

  -- ---- references

  module _ (answers : HasAnswers headers) (fields_once : FindsOneField) (methods_once : LooksUpOnce) where
    field_opens : (r : Reference) → Decision ((field : Declared) → FindsField headers r.class r.name r.desc (Some field) → IsOpenField headers host field)
    field_opens r = by (answers.field r) (answers.field_is r) where
      by : (found : Option Declared) → FindsField headers r.class r.name r.desc found
          → Decision ((field : Declared) → FindsField headers r.class r.name r.desc (Some field) → IsOpenField headers host field)
      by None none = inl (λ field finds. absurd (none-some field (fields_once headers r.class r.name r.desc None (Some field) none finds)))
      by (Some one) finds_it =
          mapped (λ is field finds. subst (IsOpenField headers host) (same_Some one field (fields_once headers r.class r.name r.desc (Some one) (Some field) finds_it finds)) is)
          (λ all. all one finds_it) (open_field one)

    method_opens : (r : Reference) → Decision ((method : Declared) → Finds headers r method → IsOpenMethod host r.class method)
    method_opens r = by (answers.method r) (answers.method_is r) where
      by : (found : Option Declared) → FindsMethod headers r.class r.name r.desc found
          → Decision ((method : Declared) → Finds headers r method → IsOpenMethod host r.class method)
      by None none = inl (λ method finds. absurd (none-some method (methods_once headers r.class r.name r.desc None (Some method) none finds)))
      by (Some one) finds_it =
          mapped (λ is method finds. subst (IsOpenMethod host r.class) (same_Some one method (methods_once headers r.class r.name r.desc (Some one) (Some method) finds_it finds)) is)
          (λ all. all one finds_it) (open_method r.class one)

    open_field_reference : (r : Reference) → Decision (IsOpenFieldReference headers host r)
    open_field_reference r = mapped (λ h. record { class = h.0; member = h.1 }) (λ o. (o.class, o.member)) (both (open_class r.class) (field_opens r))

    open_method_reference : (r : Reference) → Decision (IsOpenMethodReference headers host r)
    open_method_reference r = mapped (λ h. record { class = h.0; member = h.1 }) (λ o. (o.class, o.member)) (both (open_class r.class) (method_opens r))

-- ---- instructions

module _ (s : Scope) (host : Name) (answers : HasAnswers s.headers) (fields_once : FindsOneField) (methods_once : LooksUpOnce) where
  class_at_decided : (index : ℕ) → Decision (IsOpenClassAt s host index)
  class_at_decided index = if_decided (class_at s.class.pool index) (IsOpenClass s.headers host) (λ name is. open_class s.headers host name)

  field_at_decided : (index : ℕ) → Decision (IsOpenFieldAt s host index)
  field_at_decided index =
      if_decided (reference_of s.class.pool (constant_at s.class.pool index)) (IsOpenFieldReference s.headers host)
      (λ r is. open_field_reference s.headers host answers fields_once methods_once r)

  method_at_decided : (index : ℕ) → Decision (IsOpenMethodAt s host index)
  method_at_decided index =
      if_decided (reference_of s.class.pool (constant_at s.class.pool index)) (IsOpenMethodReference s.headers host)
      (λ r is. open_method_reference s.headers host answers fields_once methods_once r)

  constant_decided : (index : ℕ) (constant : Option Const) → Decision (IsOpenConstant s host index constant)
  constant_decided index (Some (consts.Class name)) = class_at_decided index
  constant_decided index constant = inl tt

  pub names_decided : (instr : Instr) → Decision (NamesOpen s host instr)
  names_decided (Ldc index) = constant_decided index (constant_at s.class.pool index)
  names_decided (GetStatic index) = field_at_decided index
  names_decided (PutStatic index) = field_at_decided index
  names_decided (GetField index) = field_at_decided index
  names_decided (PutField index) = field_at_decided index
  names_decided (Invoke opcode index count) = method_at_decided index
  names_decided (New index) = class_at_decided index
  names_decided (NewRefArray index) = class_at_decided index
  names_decided (NewMulti index dimensions) = class_at_decided index
  names_decided (Cast index) = class_at_decided index
  names_decided (InstanceOf index) = class_at_decided index
  names_decided other = inl tt
