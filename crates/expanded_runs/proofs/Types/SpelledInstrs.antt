-- The constants of an instruction of a class file name classes and arrays by texts that a Class constant may have.
use Rattle.std.proofs.Common.{◌≡◌, ◌⊎◌, ℕ, List, [], ◌∷◌, Option, Some, None, IfSome, refl, sym, ap, subst, ◌∙◌, inl, inr}
use Rattle.std.specs.Prelude.{option_and_then}
use Rattle.std.specs.List.{AllByRecursion}
use Rattle.std.proofs.lemmas.Option.{none-some, same_Some}
use Rattle.class_model.specs.Characters.{left_bracket}
use Rattle.class_model.specs.Code.{OperandFits, verification_type}
use Rattle.class_model.specs.Descriptors.{IsFieldType, IsReferenceName, named_text, type_of}
use Rattle.class_model.specs.ModifiedUtf8.{IsText}
use Rattle.class_model.specs.Pool.{Constants, constant_at}
use Rattle.class_model.specs.PoolChecks.{IsFieldConstant, IsFieldDescriptor, IsInterfaceConstant, IsMethodConstant, IsMethodDescriptor, class_at, class_name_of, descriptor_at, utf8_at}
use Rattle.class_model.specs.declared.descriptor.FieldType.{FieldType}
use Rattle.class_model.specs.declared.descriptor.FieldType.TheVariants as field_types
use Rattle.class_model.specs.declared.frame.Frame.{Frame}
use Rattle.class_model.specs.declared.instr.Instr.{Instr}
use Rattle.class_model.specs.declared.instr.Instr.TheVariants.{Nop, Const, Ldc, Ldc2, Load, Store, Iinc, ArrayLoad, ArrayStore, Shuffle, Pure, Divide, FloatAsk, If, If2, IfSame, IfNull, Goto, Table, Lookup, Return, GetStatic, PutStatic, GetField, PutField, Invoke, Dynamic, New, NewArray, NewRefArray, NewMulti, Length, Throw, Cast, InstanceOf, Enter, Leave}
use Rattle.class_model.specs.declared.pool.Const.{Const as Constant}
use Rattle.class_model.specs.declared.pool.Const.TheVariants as consts
use Rattle.class_tree.specs.Headers.{Name}
use Rattle.expanded_runs.proofs.Types.InstrNames.{FileFacts, and_then_some, called_constant, descriptor_text, reference_parts, utf8_text}
use Rattle.expanded_runs.proofs.Types.NamedDescriptors.{DescriptorLaws, type_of_text}
use Rattle.expanded_runs.specs.Laws.SpelledNames.{array_spelled, constants_spelled}
use Rattle.expanded_runs.specs.NamedFrames.{IsSpelledName, PoolHas, TypeHas, TypesHave}
use Rattle.member_link.specs.Declarations.{Site}
use Rattle.member_link.specs.Laws.ResultTexts.{result_spelled, type_of_spelled}
use Rattle.member_link.specs.References.{Reference, reference_at}
use Rattle.member_link.specs.Rows.ArrayRows.{array_of}
use Rattle.member_link.specs.Rows.MemberRows.{dynamic_row, result_types}
use Rattle.member_link.specs.Scope.{Scope, row_scope}
use Rattle.member_link.specs.Signatures.{field_type, reference_of, result_of}

-- ---- descriptors

pub value_spelled : (type : FieldType) → IsFieldType type → TypeHas IsSpelledName (verification_type type)
value_spelled (field_types.Named name) is = record { text = is.0; is_name = is.1 }
value_spelled field_types.Byte is = tt
value_spelled field_types.Char is = tt
value_spelled field_types.Short is = tt
value_spelled field_types.Bool is = tt
value_spelled field_types.Int is = tt
value_spelled field_types.Long is = tt
value_spelled field_types.Float is = tt
value_spelled field_types.Double is = tt

pub values_spelled : (all : List FieldType) → AllByRecursion IsFieldType all → AllByRecursion (λ type. TypeHas IsSpelledName (verification_type type)) all
values_spelled [] are = tt
values_spelled (type ∷ all) are = (value_spelled type are.0, values_spelled all are.1)

-- the type of a field
pub field_has : (desc : List ℕ) → IsText desc → IsFieldDescriptor desc → TypeHas IsSpelledName (field_type desc)
field_has desc text is =
    let same : type_of desc ≡ is.type = ap type_of is.spelled ∙ type_of_spelled is.type is.named in
    subst (λ (t : FieldType). TypeHas IsSpelledName (verification_type t)) (sym same)
    (value_spelled is.type (type_of_text is.type is.named (subst IsText is.spelled text)))

-- the result of a method
result_has : DescriptorLaws → (desc : List ℕ) → IsText desc → IsMethodDescriptor desc → TypesHave IsSpelledName (result_types (result_of desc))
result_has laws desc text is =
    let d = is.0 in
    let spells = laws.of_text desc d text is.1 in
    subst (λ (result : Option FieldType). TypesHave IsSpelledName (result_types result))
    (sym (result_spelled desc d (laws.parameters desc d spells) spells)) (by d.result spells.is_descriptor.result) where
      by : (result : Option FieldType) → IfSome result IsFieldType → TypesHave IsSpelledName (result_types result)
      by None is = tt
      by (Some type) is = (value_spelled type is, tt)

-- ---- constants

module _ (laws : DescriptorLaws) (s : Scope) (site : Site) (facts : FileFacts s.headers s.class.major s.class.pool) where
  abbrev pool : Constants
  pool = s.class.pool

  -- a Class constant
  pub class_has : (index : ℕ) (name : Name) → class_at pool index ≡ Some name → IsSpelledName name
  class_has index name is = by of.0 of.1 of.2 where
    found : (n : ℕ) × (option_and_then class_name_of (constant_at pool index) ≡ Some n) × (utf8_at pool n ≡ Some name)
    found = and_then_some (utf8_at pool) (option_and_then class_name_of (constant_at pool index)) name is

    of : (c : Constant) × (constant_at pool index ≡ Some c) × (class_name_of c ≡ Some found.0)
    of = and_then_some class_name_of (constant_at pool index) found.0 found.1

    by : (c : Constant) → constant_at pool index ≡ Some c → class_name_of c ≡ Some found.0 → IsSpelledName name
    by (consts.Class own) there same =
        let here : utf8_at pool own ≡ Some name = ap (utf8_at pool) (same_Some own found.0 same) ∙ found.2 in
        let asked : IfSome (utf8_at pool own) IsReferenceName = (facts.each index (consts.Class own) there).1.1.0 in
        record { text = utf8_text laws s site facts own name here; is_name = rw here at asked }
    by other there same = absurd (none-some found.0 same)

  field_constant : (index : ℕ) → IsFieldConstant (constant_at pool index)
      → (r : Reference) → reference_of pool (constant_at pool index) ≡ Some r
      → TypesHave IsSpelledName (field_type r.desc ∷ [])
  field_constant index is r names = by (constant_at pool index) refl is names where
    by : (c : Option Constant) → constant_at pool index ≡ c → IsFieldConstant c → reference_of pool c ≡ Some r
        → TypesHave IsSpelledName (field_type r.desc ∷ [])
    by (Some (consts.Fieldref owner member)) e is names =
        let parts = reference_parts pool owner member r names in
        let desc_is = parts.desc_is in
        let asked : IfSome (descriptor_at pool member) IsFieldDescriptor = (facts.each index (consts.Fieldref owner member) e).1.1.1.0 in
        (field_has r.desc (descriptor_text laws s site facts member r.desc desc_is) (rw desc_is at asked), tt)
    by other e is names = absurd is

  method_constant : (index : ℕ) → IsMethodConstant (constant_at pool index) ⊎ IsInterfaceConstant (constant_at pool index)
      → (r : Reference) → reference_of pool (constant_at pool index) ≡ Some r
      → IsSpelledName r.class × TypesHave IsSpelledName (result_types (result_of r.desc))
  method_constant index is r names = by (constant_at pool index) refl is names where
    of_parts : (owner member : ℕ) → IfSome (descriptor_at pool member) IsMethodDescriptor → reference_at pool owner member ≡ Some r
        → IsSpelledName r.class × TypesHave IsSpelledName (result_types (result_of r.desc))
    of_parts owner member asked names =
        let parts = reference_parts pool owner member r names in
        let desc_is = parts.desc_is in (
          class_has owner r.class parts.class_is,
          result_has laws r.desc (descriptor_text laws s site facts member r.desc desc_is) (rw desc_is at asked),
        )

    by : (c : Option Constant) → constant_at pool index ≡ c → IsMethodConstant c ⊎ IsInterfaceConstant c → reference_of pool c ≡ Some r
        → IsSpelledName r.class × TypesHave IsSpelledName (result_types (result_of r.desc))
    by (Some (consts.Methodref owner member)) e is names =
        of_parts owner member (facts.each index (consts.Methodref owner member) e).1.1.1.0 names
    by (Some (consts.InterfaceMethodref owner member)) e is names =
        of_parts owner member (facts.each index (consts.InterfaceMethodref owner member) e).1.1.1.0 names
    by other e (inl is) names = absurd is
    by other e (inr is) names = absurd is

  dynamic_has : (index : ℕ) (f : Frame) → TypesHave IsSpelledName (dynamic_row (row_scope s) f (constant_at pool index)).gives
  dynamic_has index f = by (constant_at pool index) refl where
    of_descriptor : (bootstrap member : ℕ) → constant_at pool index ≡ Some (consts.InvokeDynamic bootstrap member)
        → (desc : Option (List ℕ)) → descriptor_at pool member ≡ desc
        → TypesHave IsSpelledName (dynamic_row (row_scope s) f (Some (consts.InvokeDynamic bootstrap member))).gives
    of_descriptor bootstrap member e None is = rw is tt
    of_descriptor bootstrap member e (Some desc) is =
        let asked : IfSome (descriptor_at pool member) IsMethodDescriptor =
        (facts.each index (consts.InvokeDynamic bootstrap member) e).1.1.1.0 in
        rw is (result_has laws desc (descriptor_text laws s site facts member desc is) (rw is at asked))

    by : (c : Option Constant) → constant_at pool index ≡ c → TypesHave IsSpelledName (dynamic_row (row_scope s) f c).gives
    by None e = tt
    by (Some (consts.InvokeDynamic bootstrap member)) e = of_descriptor bootstrap member e (descriptor_at pool member) refl
    by (Some other) e = tt

  array_constant : (index : ℕ) → OperandFits pool s.class.major s.part.max_locals (NewRefArray index)
      → (name : Name) → array_of (class_at pool index) ≡ Some name
      → IsSpelledName name
  array_constant index fits name is = by (class_at pool index) refl where
    by : (named : Option Name) → class_at pool index ≡ named → IsSpelledName name
    by None none = let no : None ≡ Some name = rw none at is in absurd (none-some name no)
    by (Some own) found =
        let same : left_bracket ∷ named_text own ≡ name = same_Some (left_bracket ∷ named_text own) name (rw found at is) in
        let array_fits = fits.1 in
        subst IsSpelledName same (array_spelled own (class_has index own found) (rw found at array_fits))

  pub instr_spelled : (instr : Instr) → OperandFits s.class.pool s.class.major s.part.max_locals instr → PoolHas IsSpelledName (row_scope s) instr
  instr_spelled (Ldc index) fits = λ f. constants_spelled f (constant_at pool index)
  instr_spelled (Ldc2 index) fits = λ f. constants_spelled f (constant_at pool index)
  instr_spelled (GetStatic index) fits = field_constant index fits
  instr_spelled (GetField index) fits = field_constant index fits
  instr_spelled (Invoke opcode index count) fits = method_constant index (called_constant laws s site facts opcode index count fits)
  instr_spelled (Dynamic index) fits = dynamic_has index
  instr_spelled (NewRefArray index) fits = array_constant index fits
  instr_spelled (NewMulti index dimensions) fits = class_has index
  instr_spelled (Cast index) fits = class_has index
  instr_spelled Nop fits = tt
  instr_spelled (Const imm) fits = tt
  instr_spelled (Load kind unit) fits = tt
  instr_spelled (Store kind unit) fits = tt
  instr_spelled (Iinc unit by) fits = tt
  instr_spelled (ArrayLoad opcode) fits = tt
  instr_spelled (ArrayStore opcode) fits = tt
  instr_spelled (Shuffle opcode) fits = tt
  instr_spelled (Pure opcode) fits = tt
  instr_spelled (Divide opcode) fits = tt
  instr_spelled (FloatAsk opcode) fits = tt
  instr_spelled (If opcode target) fits = tt
  instr_spelled (If2 opcode target) fits = tt
  instr_spelled (IfSame opcode target) fits = tt
  instr_spelled (IfNull opcode target) fits = tt
  instr_spelled (Goto target) fits = tt
  instr_spelled (Table low other targets) fits = tt
  instr_spelled (Lookup other pairs) fits = tt
  instr_spelled (Return kind) fits = tt
  instr_spelled (PutStatic index) fits = tt
  instr_spelled (PutField index) fits = tt
  instr_spelled (New index) fits = tt
  instr_spelled (NewArray code) fits = tt
  instr_spelled Length fits = tt
  instr_spelled Throw fits = tt
  instr_spelled (InstanceOf index) fits = tt
  instr_spelled Enter fits = tt
  instr_spelled Leave fits = tt
