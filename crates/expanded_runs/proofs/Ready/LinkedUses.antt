-- What linking asks of an instruction is the same for each method of a class, and where its targets and its local unit are others.
use Rattle.std.proofs.Common.{◌≡◌, ℕ, List, [], ◌∷◌, ◌++◌, Option, Some, None, refl}
use Rattle.class_model.specs.Checks.{AllHold, Check}
use Rattle.class_model.specs.Laws.Checks.{first_holds, others_hold}
use Rattle.class_model.specs.Pool.{Constants, constant_at}
use Rattle.class_model.specs.PoolChecks.{class_at, descriptor_at, utf8_at}
use Rattle.class_model.specs.declared.header.Header.{Header}
use Rattle.class_model.specs.declared.header.Member.{Member}
use Rattle.class_model.specs.declared.instr.Instr.{Instr}
use Rattle.class_model.specs.declared.instr.Instr.TheVariants.{Cast, Dynamic, GetField, GetStatic, Goto, If, If2, IfNull, IfSame, Iinc, InstanceOf, Invoke, Ldc, Load, Lookup, New, NewMulti, NewRefArray, PutField, PutStatic, Store, Table}
use Rattle.class_model.specs.declared.pool.Const.{Const as Constant}
use Rattle.class_model.specs.declared.pool.Const.TheVariants as consts
use Rattle.class_tree.specs.Headers.{Headers, Name}
use Rattle.class_tree.specs.Problems.{Problem}
use Rattle.expanded_code.specs.Expanded.{Setting, set_instr}
use Rattle.member_link.specs.Declarations.{site_of}
use Rattle.member_link.specs.DeclaredMembers.{Declared}
use Rattle.member_link.specs.Forms.{FitsCall, IsInstanceForm, IsStaticForm}
use Rattle.member_link.specs.References.{Reference, reference_at}
use Rattle.member_link.specs.Uses.{HasAnyForm, UseScope, asked_of_reference, class_use_checks, dynamic_use_checks, field_use_checks, fieldref_use_checks, instr_use_checks, loaded_checks, method_use_checks, methodref_use_checks, new_checks}

module _ (headers : Headers) (pool : Constants) (header : Header) (one other : Member) where
  abbrev us : Member → UseScope
  us member = record { headers = headers; pool = pool; site = site_of header member }

  class_same : (index : ℕ) → AllHold (class_use_checks (us one) index) → AllHold (class_use_checks (us other) index)
  class_same index hold = by (class_at pool index) refl where
    by : (name : Option Name) → class_at pool index ≡ name → AllHold (class_use_checks (us other) index)
    by None is = rw (is) tt
    by (Some name) is = rw (is) (rw (is) at hold)

  new_same : (index : ℕ) → AllHold (new_checks (us one) index) → AllHold (new_checks (us other) index)
  new_same index hold = by (class_at pool index) refl where
    by : (name : Option Name) → class_at pool index ≡ name → AllHold (new_checks (us other) index)
    by None is = rw (is) tt
    by (Some name) is = rw (is) (rw (is) at hold)

  field_same : (Form : Declared → Type 0) (constant : Option Constant) → AllHold (fieldref_use_checks (us one) Form constant)
      → AllHold (fieldref_use_checks (us other) Form constant)
  field_same Form None hold = tt
  field_same Form (Some (consts.Fieldref class member)) hold = by (reference_at pool class member) hold where
    by : (reference : Option Reference) → AllHold (asked_of_reference (field_use_checks (us one) Form) reference)
        → AllHold (asked_of_reference (field_use_checks (us other) Form) reference)
    by None hold = tt
    by (Some reference) hold = hold
  field_same Form (Some constant) hold = tt

  method_same : (Form : Reference → Declared → Type 0) (constant : Option Constant) → AllHold (methodref_use_checks (us one) Form constant)
      → AllHold (methodref_use_checks (us other) Form constant)
  method_same Form constant hold = of_constant constant hold where
    by : (reference : Option Reference) → AllHold (asked_of_reference (method_use_checks (us one) Form) reference)
        → AllHold (asked_of_reference (method_use_checks (us other) Form) reference)
    by None hold = tt
    by (Some reference) hold = hold

    of_constant : (constant : Option Constant) → AllHold (methodref_use_checks (us one) Form constant)
        → AllHold (methodref_use_checks (us other) Form constant)
    of_constant None hold = tt
    of_constant (Some (consts.Methodref class member)) hold = by (reference_at pool class member) hold
    of_constant (Some (consts.InterfaceMethodref class member)) hold = by (reference_at pool class member) hold
    of_constant (Some constant) hold = tt

  loaded_same : (index : ℕ) (constant : Option Constant) → AllHold (loaded_checks (us one) index constant)
      → AllHold (loaded_checks (us other) index constant)
  loaded_same index None hold = tt
  loaded_same index (Some (consts.Class name)) hold = class_same index hold
  loaded_same index (Some (consts.MethodHandle kind reference)) hold =
      let constant = constant_at pool reference in
      let fields = fieldref_use_checks (us one) HasAnyForm constant in
      let methods = methodref_use_checks (us one) (λ r. HasAnyForm) constant in
      joined (fieldref_use_checks (us other) HasAnyForm constant) (methodref_use_checks (us other) (λ r. HasAnyForm) constant)
      (field_same HasAnyForm constant (first_holds fields methods hold)) (method_same (λ r. HasAnyForm) constant (others_hold fields methods hold)) where
        joined : (ones others : List (Check Problem)) → AllHold ones → AllHold others → AllHold (ones ++ others)
        joined [] others first second = second
        joined (check ∷ ones) others first second = (first.0, joined ones others first.1 second)
  loaded_same index (Some (consts.MethodType desc)) hold = by (utf8_at pool desc) refl where
    by : (text : Option (List ℕ)) → utf8_at pool desc ≡ text → AllHold (loaded_checks (us other) index (Some (consts.MethodType desc)))
    by None is = rw (is) tt
    by (Some text) is = rw (is) (rw (is) at hold)
  loaded_same index (Some constant) hold = tt

  dynamic_same : (constant : Option Constant) → AllHold (dynamic_use_checks (us one) constant) → AllHold (dynamic_use_checks (us other) constant)
  dynamic_same None hold = tt
  dynamic_same (Some (consts.InvokeDynamic bootstrap member)) hold = by (descriptor_at pool member) refl where
    by : (desc : Option (List ℕ)) → descriptor_at pool member ≡ desc
        → AllHold (dynamic_use_checks (us other) (Some (consts.InvokeDynamic bootstrap member)))
    by None is = rw (is) tt
    by (Some desc) is = rw (is) (rw (is) at hold)
  dynamic_same (Some constant) hold = tt

  -- of another method of the class
  pub uses_same : (instr : Instr) → AllHold (instr_use_checks (us one) instr) → AllHold (instr_use_checks (us other) instr)
  uses_same (Ldc index) hold = loaded_same index (constant_at pool index) hold
  uses_same (GetStatic index) hold = field_same IsStaticForm (constant_at pool index) hold
  uses_same (PutStatic index) hold = field_same IsStaticForm (constant_at pool index) hold
  uses_same (GetField index) hold = field_same IsInstanceForm (constant_at pool index) hold
  uses_same (PutField index) hold = field_same IsInstanceForm (constant_at pool index) hold
  uses_same (Invoke opcode index count) hold = method_same (FitsCall headers opcode (constant_at pool index)) (constant_at pool index) hold
  uses_same (Dynamic index) hold = dynamic_same (constant_at pool index) hold
  uses_same (New index) hold = new_same index hold
  uses_same (NewRefArray index) hold = class_same index hold
  uses_same (NewMulti index dimensions) hold = class_same index hold
  uses_same (Cast index) hold = class_same index hold
  uses_same (InstanceOf index) hold = class_same index hold
  uses_same instr hold = tt

-- in its place in flat code
pub uses_set : (s : UseScope) (t : Setting) (instr : Instr) → AllHold (instr_use_checks s instr) → AllHold (instr_use_checks s (set_instr t instr))
uses_set s t (Load kind unit) hold = hold
uses_set s t (Store kind unit) hold = hold
uses_set s t (Iinc unit by) hold = hold
uses_set s t (If opcode to) hold = hold
uses_set s t (If2 opcode to) hold = hold
uses_set s t (IfSame opcode to) hold = hold
uses_set s t (IfNull opcode to) hold = hold
uses_set s t (Goto to) hold = hold
uses_set s t (Table low rest to) hold = hold
uses_set s t (Lookup rest pairs) hold = hold
uses_set s t instr hold = hold
