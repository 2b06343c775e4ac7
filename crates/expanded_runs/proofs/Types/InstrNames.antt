-- The constants of an instruction of a linked folder give types that name classes that are there.
use Rattle.std.proofs.Common.{◌≡◌, ◌+◌, ◌≤◌, ◌⊎◌, ℕ, zero, suc, List, [], ◌∷◌, length, slice_get, codes, Option, Some, None, IfSome, refl, ap, subst, ◌∙◌, inl, inr}
use Rattle.std.specs.Prelude.{option_and_then}
use Rattle.std.proofs.lemmas.Option.{none-some, same_Some}
use Rattle.class_model.specs.Characters.{left_bracket}
use Rattle.class_model.specs.Checks.{AllHold}
use Rattle.class_model.specs.Code.{IsCalled, OperandFits}
use Rattle.class_model.specs.Descriptors.{named_text}
use Rattle.class_model.specs.Laws.Checks.{first_holds, others_hold}
use Rattle.class_model.specs.ModifiedUtf8.{IsText}
use Rattle.class_model.specs.Pool.{Constants, constant_at}
use Rattle.class_model.specs.PoolChecks.{IsFieldConstant, IsFieldDescriptor, IsInterfaceConstant, IsMethodConstant, IsMethodDescriptor, class_at, constant_checks, descriptor_at, entries_checks, name_and_type_of, name_at, text_of, utf8_at}
use Rattle.class_model.specs.Spelling.{constant_bytes}
use Rattle.class_model.specs.declared.frame.Frame.{Frame}
use Rattle.class_model.specs.declared.instr.Instr.{Instr}
use Rattle.class_model.specs.declared.instr.Instr.TheVariants.{Nop, Const, Ldc, Ldc2, Load, Store, Iinc, ArrayLoad, ArrayStore, Shuffle, Pure, Divide, FloatAsk, If, If2, IfSame, IfNull, Goto, Table, Lookup, Return, GetStatic, PutStatic, GetField, PutField, Invoke, Dynamic, New, NewArray, NewRefArray, NewMulti, Length, Throw, Cast, InstanceOf, Enter, Leave}
use Rattle.class_model.specs.declared.pool.Const.{Const as Constant}
use Rattle.class_model.specs.declared.pool.Const.TheVariants as consts
use Rattle.class_tree.specs.Headers.{Headers, IsThere, Name, class_named}
use Rattle.class_tree.specs.Names.{method_handle, method_type}
use Rattle.class_tree.specs.Subtype.{IsArray}
use Rattle.expanded_runs.proofs.Types.NamedDescriptors.{DescriptorLaws, field_named, result_named}
use Rattle.expanded_runs.proofs.Types.NamedTypes.{AreNamedTypes, array_there, named_there}
use Rattle.expanded_runs.proofs.Types.RowNames.{PoolNamed}
use Rattle.member_link.specs.Declarations.{Site}
use Rattle.member_link.specs.DeclaredMembers.{Declared}
use Rattle.member_link.specs.Forms.{FitsCall, IsInstanceForm, IsStaticForm}
use Rattle.member_link.specs.References.{IsNamedThere, Reference, reference_at}
use Rattle.member_link.specs.Rows.ArrayRows.{array_of}
use Rattle.member_link.specs.Rows.LocalRows.{const_row}
use Rattle.member_link.specs.Rows.MemberRows.{dynamic_row, result_types}
use Rattle.member_link.specs.Scope.{Scope, row_scope}
use Rattle.member_link.specs.Signatures.{field_type, reference_of, result_of}
use Rattle.member_link.specs.Uses.{UseScope, asked_of_reference, class_use_checks, dynamic_use_checks, field_use_checks, fieldref_use_checks, instr_use_checks, method_use_checks, methodref_use_checks}

-- ---- what was asked of each constant of a pool

abbrev pub HoldsEach : ℕ → Constants → Type 0
HoldsEach major pool =
    (index : ℕ) (c : Constant) → constant_at pool index ≡ Some c → (place : ℕ) × AllHold (constant_checks major pool place c)

entry_holds : (major : ℕ) (pool : Constants) (at : ℕ) (entries : Constants) → AllHold (entries_checks major pool at entries)
    → (n : ℕ) (c : Constant) → slice_get entries n ≡ Some (Some c)
    → (place : ℕ) × AllHold (constant_checks major pool place c)
entry_holds major pool at [] all n c is = absurd cc
entry_holds major pool at (None ∷ entries) all zero c is = absurd cc
entry_holds major pool at (None ∷ entries) all (suc n) c is = entry_holds major pool at entries all n c is
entry_holds major pool at (Some d ∷ entries) all zero c is =
    let same : d ≡ c = same_Some d c (same_Some (Some d) (Some c) is) in (
      at,
      subst (λ (x : Constant). AllHold (constant_checks major pool at x)) same
          (first_holds (constant_checks major pool at d) (entries_checks major pool (at + length (constant_bytes d)) entries) all),
    )
entry_holds major pool at (Some d ∷ entries) all (suc n) c is =
    entry_holds major pool (at + length (constant_bytes d)) entries
    (others_hold (constant_checks major pool at d) (entries_checks major pool (at + length (constant_bytes d)) entries) all) n c is

pub constant_holds : (major : ℕ) (pool : Constants) → AllHold (entries_checks major pool 10 pool) → HoldsEach major pool
constant_holds major pool all index c is = by (slice_get pool index) refl where
  by : (o : Option (Option Constant)) → slice_get pool index ≡ o → (place : ℕ) × AllHold (constant_checks major pool place c)
  by None e = let no : None ≡ Some c = rw e at is in absurd (none-some c no)
  by (Some None) e = let no : None ≡ Some c = rw e at is in absurd (none-some c no)
  by (Some (Some d)) e =
      let same : d ≡ c = same_Some d c (rw e at is) in
      entry_holds major pool 10 pool all index c (e ∙ ap (λ (x : Constant). Some (Some x)) same)

-- ---- a part that is there

pub and_then_some : {A B : Type 0} (f : A → Option B) (o : Option A) (b : B) → option_and_then f o ≡ Some b → (a : A) × (o ≡ Some a) × (f a ≡ Some b)
and_then_some f None b is = absurd (none-some b is)
and_then_some f (Some a) b is = (a, refl, is)

pub record ReferenceParts (pool : Constants) (class member : ℕ) (r : Reference) : Type 0 where
  pub class_is : class_at pool class ≡ Some r.class
  pub desc_is : descriptor_at pool member ≡ Some r.desc

pub reference_parts : (pool : Constants) (class member : ℕ) (r : Reference) → reference_at pool class member ≡ Some r
    → ReferenceParts pool class member r
reference_parts pool class member r is = by (class_at pool class) refl (name_at pool member) refl (descriptor_at pool member) refl where
  by : (c : Option Name) → class_at pool class ≡ c → (n : Option (List ℕ)) → name_at pool member ≡ n
      → (d : Option (List ℕ)) → descriptor_at pool member ≡ d
      → ReferenceParts pool class member r
  by None a n b d e = let no : None ≡ Some r = rw a at is in absurd (none-some r no)
  by (Some c) a None b d e = let no : None ≡ Some r = rw (a, b) at is in absurd (none-some r no)
  by (Some c) a (Some n) b None e = let no : None ≡ Some r = rw (a, b, e) at is in absurd (none-some r no)
  by (Some c) a (Some n) b (Some d) e =
      let made : Reference = record { class = c; name = n; desc = d } in
      let one : Some made ≡ Some r = rw (a, b, e) at is in
      let same : made ≡ r = same_Some made r one in
      record {
        class_is = a ∙ ap (λ (x : Reference). Some x.class) same;
        desc_is = e ∙ ap (λ (x : Reference). Some x.desc) same;
      }

-- ---- of an instruction

-- what is known of a class file of a folder: its constants are as was asked, its texts are not too long, and the classes of its constants are there
pub record FileFacts (headers : Headers) (major : ℕ) (pool : Constants) : Type 0 where
  pub each : HoldsEach major pool
  pub short : (index : ℕ) (text : List ℕ) → constant_at pool index ≡ Some (consts.Utf8 text) → length text ≤ 65535
  pub no_array : (name : Name) → IsArray name → class_named headers name ≡ None
  pub strings : IsThere headers (codes "java/lang/String")
  pub classes : IsThere headers (codes "java/lang/Class")
  pub handles : (index kind reference : ℕ) → constant_at pool index ≡ Some (consts.MethodHandle kind reference) → IsThere headers method_handle
  pub types : (index desc : ℕ) → constant_at pool index ≡ Some (consts.MethodType desc) → IsThere headers method_type

module _ (laws : DescriptorLaws) (s : Scope) (site : Site) (facts : FileFacts s.headers s.class.major s.class.pool) where
  abbrev pool : Constants
  pool = s.class.pool

  abbrev hs : Headers
  hs = s.headers

  abbrev us : UseScope
  us = record { headers = s.headers; pool = s.class.pool; site = site }

  -- texts
  pub utf8_text : (index : ℕ) (text : List ℕ) → utf8_at pool index ≡ Some text → IsText text
  utf8_text index text is =
      let found = and_then_some text_of (constant_at pool index) text is in
      by found.0 (found.1) (found.2) where
        by : (c : Constant) → constant_at pool index ≡ Some c → text_of c ≡ Some text → IsText text
        by (consts.Utf8 own) there same =
            subst IsText (same_Some own text same)
            (record { spelling = (facts.each index (consts.Utf8 own) there).1.0; len = facts.short index own there })
        by other there same = absurd (none-some text same)

  pub descriptor_text : (member : ℕ) (text : List ℕ) → descriptor_at pool member ≡ Some text → IsText text
  descriptor_text member text is =
      let found = and_then_some (λ (n : ℕ × ℕ). utf8_at pool n.1) (option_and_then name_and_type_of (constant_at pool member)) text is in
      utf8_text found.0.1 text (found.2)

  -- a constant that is loaded
  constant_named : (index : ℕ) (f : Frame) → AreNamedTypes hs (const_row f (constant_at pool index)).gives
  constant_named index f = by (constant_at pool index) refl where
    by : (c : Option Constant) → constant_at pool index ≡ c → AreNamedTypes hs (const_row f c).gives
    by None is = tt
    by (Some (consts.Integer n)) is = (tt, tt)
    by (Some (consts.Float bits)) is = (tt, tt)
    by (Some (consts.Long n)) is = (tt, tt)
    by (Some (consts.Double bits)) is = (tt, tt)
    by (Some (consts.String text)) is = (named_there hs facts.no_array (codes "java/lang/String") facts.strings, tt)
    by (Some (consts.Class name)) is = (named_there hs facts.no_array (codes "java/lang/Class") facts.classes, tt)
    by (Some (consts.MethodHandle kind reference)) is =
        (named_there hs facts.no_array method_handle (facts.handles index kind reference is), tt)
    by (Some (consts.MethodType desc)) is = (named_there hs facts.no_array method_type (facts.types index desc is), tt)
    by (Some other) is = tt

  -- the type of a field
  field_there : (Form : Declared → Type 0) (index : ℕ) → IsFieldConstant (constant_at pool index)
      → AllHold (fieldref_use_checks us Form (constant_at pool index))
      → (r : Reference) → reference_of pool (constant_at pool index) ≡ Some r
      → AreNamedTypes hs (field_type r.desc ∷ [])
  field_there Form index is uses r names = by (constant_at pool index) refl is uses names where
    by : (c : Option Constant) → constant_at pool index ≡ c → IsFieldConstant c → AllHold (fieldref_use_checks us Form c)
        → reference_of pool c ≡ Some r
        → AreNamedTypes hs (field_type r.desc ∷ [])
    by (Some (consts.Fieldref class member)) e is uses names =
        let parts = reference_parts pool class member r names in
        let checked : AllHold (asked_of_reference (field_use_checks us Form) (Some r)) =
        subst (λ (o : Option Reference). AllHold (asked_of_reference (field_use_checks us Form) o)) names uses in
        let asked : IfSome (descriptor_at pool member) IsFieldDescriptor = (facts.each index (consts.Fieldref class member) e).1.1.1.0 in
        (field_named hs r.desc (descriptor_text member r.desc parts.desc_is) (rw (parts.desc_is) at asked) checked.0.1, tt)
    by other e is uses names = absurd is

  -- the class and the result of a method
  method_there : (Form : Reference → Declared → Type 0) (index : ℕ)
      → IsMethodConstant (constant_at pool index) ⊎ IsInterfaceConstant (constant_at pool index)
      → AllHold (methodref_use_checks us Form (constant_at pool index))
      → (r : Reference) → reference_of pool (constant_at pool index) ≡ Some r
      → IsNamedThere hs r.class × AreNamedTypes hs (result_types (result_of r.desc))
  method_there Form index is uses r names = by (constant_at pool index) refl is uses names where
    of_parts : (class member : ℕ) → IfSome (descriptor_at pool member) IsMethodDescriptor
        → AllHold (asked_of_reference (method_use_checks us Form) (reference_at pool class member))
        → reference_at pool class member ≡ Some r
        → IsNamedThere hs r.class × AreNamedTypes hs (result_types (result_of r.desc))
    of_parts class member asked uses names =
        let parts = reference_parts pool class member r names in
        let checked : AllHold (asked_of_reference (method_use_checks us Form) (Some r)) =
        subst (λ (o : Option Reference). AllHold (asked_of_reference (method_use_checks us Form) o)) names uses in (
          checked.0.0,
          result_named laws hs r.desc (descriptor_text member r.desc parts.desc_is) (rw (parts.desc_is) at asked) checked.0.1,
        )

    by : (c : Option Constant) → constant_at pool index ≡ c → IsMethodConstant c ⊎ IsInterfaceConstant c
        → AllHold (methodref_use_checks us Form c) → reference_of pool c ≡ Some r
        → IsNamedThere hs r.class × AreNamedTypes hs (result_types (result_of r.desc))
    by (Some (consts.Methodref class member)) e is uses names =
        of_parts class member (facts.each index (consts.Methodref class member) e).1.1.1.0 uses names
    by (Some (consts.InterfaceMethodref class member)) e is uses names =
        of_parts class member (facts.each index (consts.InterfaceMethodref class member) e).1.1.1.0 uses names
    by other e (inl is) uses names = absurd is
    by other e (inr is) uses names = absurd is

  pub called_constant : (opcode index count : ℕ) → IsCalled pool s.class.major opcode index count
      → IsMethodConstant (constant_at pool index) ⊎ IsInterfaceConstant (constant_at pool index)
  called_constant opcode index count (inl is) = inl is.1
  called_constant opcode index count (inr (inl is)) = inr is.1
  called_constant opcode index count (inr (inr is)) = by is.1 where
    by : IsMethodConstant (constant_at pool index) ⊎ ((s.class.major ≡ 52) × IsInterfaceConstant (constant_at pool index))
        → IsMethodConstant (constant_at pool index) ⊎ IsInterfaceConstant (constant_at pool index)
    by (inl is) = inl is
    by (inr is) = inr is.1

  -- the result of a dynamic call
  dynamic_there : (index : ℕ) → AllHold (dynamic_use_checks us (constant_at pool index)) → (f : Frame)
      → AreNamedTypes hs (dynamic_row (row_scope s) f (constant_at pool index)).gives
  dynamic_there index uses f = by (constant_at pool index) refl uses where
    of_descriptor : (bootstrap member : ℕ) → constant_at pool index ≡ Some (consts.InvokeDynamic bootstrap member)
        → (desc : Option (List ℕ)) → descriptor_at pool member ≡ desc
        → AllHold (dynamic_use_checks us (Some (consts.InvokeDynamic bootstrap member)))
        → AreNamedTypes hs (dynamic_row (row_scope s) f (Some (consts.InvokeDynamic bootstrap member))).gives
    of_descriptor bootstrap member e None is uses = rw is tt
    of_descriptor bootstrap member e (Some desc) is uses =
        let asked : IfSome (descriptor_at pool member) IsMethodDescriptor =
        (facts.each index (consts.InvokeDynamic bootstrap member) e).1.1.1.0 in
        rw is (result_named laws hs desc (descriptor_text member desc is) (rw is at asked) (rw is at uses).0)

    by : (c : Option Constant) → constant_at pool index ≡ c → AllHold (dynamic_use_checks us c)
        → AreNamedTypes hs (dynamic_row (row_scope s) f c).gives
    by None e uses = tt
    by (Some (consts.InvokeDynamic bootstrap member)) e uses =
        of_descriptor bootstrap member e (descriptor_at pool member) refl uses
    by (Some other) e uses = tt

  -- a class that is named
  class_there : (index : ℕ) → AllHold (class_use_checks us index) → (name : Name) → class_at pool index ≡ Some name → IsNamedThere hs name
  class_there index uses name is = (rw is at uses).0

  array_of_there : (index : ℕ) → AllHold (class_use_checks us index) → (name : Name) → array_of (class_at pool index) ≡ Some name
      → IsNamedThere hs name
  array_of_there index uses name is = by (class_at pool index) refl where
    by : (class : Option Name) → class_at pool index ≡ class → IsNamedThere hs name
    by None none = let no : None ≡ Some name = rw none at is in absurd (none-some name no)
    by (Some class) found =
        let same : left_bracket ∷ named_text class ≡ name = same_Some (left_bracket ∷ named_text class) name (rw found at is) in
        subst (IsNamedThere hs) same (array_there hs class (class_there index uses class found))

  pub instr_named : (instr : Instr) → OperandFits s.class.pool s.class.major s.part.max_locals instr
      → AllHold (instr_use_checks (record { headers = s.headers; pool = s.class.pool; site = site }) instr)
      → PoolNamed (row_scope s) instr
  instr_named (Ldc index) fits uses = constant_named index
  instr_named (Ldc2 index) fits uses = constant_named index
  instr_named (GetStatic index) fits uses = field_there IsStaticForm index fits uses
  instr_named (GetField index) fits uses = field_there IsInstanceForm index fits uses
  instr_named (Invoke opcode index count) fits uses =
      method_there (FitsCall hs opcode (constant_at pool index)) index (called_constant opcode index count fits) uses
  instr_named (Dynamic index) fits uses = dynamic_there index uses
  instr_named (NewRefArray index) fits uses = array_of_there index uses
  instr_named (NewMulti index dimensions) fits uses = class_there index uses
  instr_named (Cast index) fits uses = class_there index uses
  instr_named Nop fits uses = tt
  instr_named (Const imm) fits uses = tt
  instr_named (Load kind unit) fits uses = tt
  instr_named (Store kind unit) fits uses = tt
  instr_named (Iinc unit by) fits uses = tt
  instr_named (ArrayLoad opcode) fits uses = tt
  instr_named (ArrayStore opcode) fits uses = tt
  instr_named (Shuffle opcode) fits uses = tt
  instr_named (Pure opcode) fits uses = tt
  instr_named (Divide opcode) fits uses = tt
  instr_named (FloatAsk opcode) fits uses = tt
  instr_named (If opcode target) fits uses = tt
  instr_named (If2 opcode target) fits uses = tt
  instr_named (IfSame opcode target) fits uses = tt
  instr_named (IfNull opcode target) fits uses = tt
  instr_named (Goto target) fits uses = tt
  instr_named (Table low other targets) fits uses = tt
  instr_named (Lookup other pairs) fits uses = tt
  instr_named (Return kind) fits uses = tt
  instr_named (PutStatic index) fits uses = tt
  instr_named (PutField index) fits uses = tt
  instr_named (New index) fits uses = tt
  instr_named (NewArray code) fits uses = tt
  instr_named Length fits uses = tt
  instr_named Throw fits uses = tt
  instr_named (InstanceOf index) fits uses = tt
  instr_named Enter fits uses = tt
  instr_named Leave fits uses = tt
