-- What an instruction of a class file names is there.
use Rattle.std.proofs.Common.{◌≡◌, ◌⊎◌, ℕ, List, Option, Some, None, IsSome, refl, inl, inr}
use Rattle.std.specs.Prelude.{option_and_then}
use Rattle.std.proofs.lemmas.Bool.{false≢true}
use Rattle.class_model.specs.Code.{IsCalled, IsDynamicConstant, OperandFits}
use Rattle.class_model.specs.Pool.{Constants, constant_at}
use Rattle.class_model.specs.PoolChecks.{IsClassAt, IsFieldConstant, IsInterfaceConstant, IsMethodConstant, IsNameAndTypeAt, class_at, class_name_of, descriptor_at, name_and_type_of, name_at, utf8_at}
use Rattle.class_model.specs.declared.instr.Instr.{Instr}
use Rattle.class_model.specs.declared.instr.Instr.TheVariants.{Nop, Const, Ldc, Ldc2, Load, Store, Iinc, ArrayLoad, ArrayStore, Shuffle, Pure, Divide, FloatAsk, If, If2, IfSame, IfNull, Goto, Table, Lookup, Return, GetStatic, PutStatic, GetField, PutField, Invoke, Dynamic, New, NewArray, NewRefArray, NewMulti, Length, Throw, Cast, InstanceOf, Enter, Leave}
use Rattle.class_model.specs.declared.pool.Const.{Const as Constant}
use Rattle.class_model.specs.declared.pool.Const.TheVariants as consts
use Rattle.class_tree.specs.Headers.{Name}
use Rattle.expanded_runs.proofs.Types.InstrNames.{HoldsEach}
use Rattle.expanded_runs.specs.NamedFrames.{FindsNames}
use Rattle.member_link.specs.References.{Reference, reference_at}
use Rattle.member_link.specs.Signatures.{reference_of}

some_of : {A : Type 0} (found : Option A) → IsSome found → (a : A) × (found ≡ Some a)
some_of None some = absurd (false≢true some)
some_of (Some a) some = (a, refl)

module _ (major : ℕ) (pool : Constants) (each : HoldsEach major pool) where
  class_found : (index : ℕ) → IsClassAt pool index → (name : Name) × (class_at pool index ≡ Some name)
  class_found index is = by (constant_at pool index) refl is where
    by : (c : Option Constant) → constant_at pool index ≡ c → IsSome (option_and_then class_name_of c) → (name : Name) × (class_at pool index ≡ Some name)
    by (Some (consts.Class text)) at some =
        let named = some_of (utf8_at pool text) (each index (consts.Class text) at).1.0 in
        (named.0, rw at (named.1))
    by None at some = absurd (false≢true some)
    by (Some (consts.Utf8 text)) at some = absurd (false≢true some)
    by (Some (consts.Integer number)) at some = absurd (false≢true some)
    by (Some (consts.Float bits)) at some = absurd (false≢true some)
    by (Some (consts.Long number)) at some = absurd (false≢true some)
    by (Some (consts.Double bits)) at some = absurd (false≢true some)
    by (Some (consts.String text)) at some = absurd (false≢true some)
    by (Some (consts.Fieldref owner member)) at some = absurd (false≢true some)
    by (Some (consts.Methodref owner member)) at some = absurd (false≢true some)
    by (Some (consts.InterfaceMethodref owner member)) at some = absurd (false≢true some)
    by (Some (consts.NameAndType name desc)) at some = absurd (false≢true some)
    by (Some (consts.MethodHandle kind reference)) at some = absurd (false≢true some)
    by (Some (consts.MethodType desc)) at some = absurd (false≢true some)
    by (Some (consts.InvokeDynamic bootstrap member)) at some = absurd (false≢true some)

  record BothFound (index : ℕ) : Type 0 where
    name : List ℕ
    desc : List ℕ
    is_name : name_at pool index ≡ Some name
    is_desc : descriptor_at pool index ≡ Some desc

  both_found : (index : ℕ) → IsNameAndTypeAt pool index → BothFound index
  both_found index is = by (constant_at pool index) refl is where
    by : (c : Option Constant) → constant_at pool index ≡ c → IsSome (option_and_then name_and_type_of c) → BothFound index
    by (Some (consts.NameAndType name desc)) at some =
        let checked = (each index (consts.NameAndType name desc) at).1.0 in
        let one = some_of (utf8_at pool name) checked.0 in
        let other = some_of (utf8_at pool desc) checked.1 in
        record { name = one.0; desc = other.0; is_name = rw at (one.1); is_desc = rw at (other.1) }
    by None at some = absurd (false≢true some)
    by (Some (consts.Class text)) at some = absurd (false≢true some)
    by (Some (consts.Utf8 text)) at some = absurd (false≢true some)
    by (Some (consts.Integer number)) at some = absurd (false≢true some)
    by (Some (consts.Float bits)) at some = absurd (false≢true some)
    by (Some (consts.Long number)) at some = absurd (false≢true some)
    by (Some (consts.Double bits)) at some = absurd (false≢true some)
    by (Some (consts.String text)) at some = absurd (false≢true some)
    by (Some (consts.Fieldref owner member)) at some = absurd (false≢true some)
    by (Some (consts.Methodref owner member)) at some = absurd (false≢true some)
    by (Some (consts.InterfaceMethodref owner member)) at some = absurd (false≢true some)
    by (Some (consts.MethodHandle kind reference)) at some = absurd (false≢true some)
    by (Some (consts.MethodType desc)) at some = absurd (false≢true some)
    by (Some (consts.InvokeDynamic bootstrap member)) at some = absurd (false≢true some)

  reference_found : (owner member : ℕ) → IsClassAt pool owner × IsNameAndTypeAt pool member → (r : Reference) × (reference_at pool owner member ≡ Some r)
  reference_found owner member is =
      let class = class_found owner is.0 in
      let both = both_found member is.1 in
      let class_is = class.1 in
      let name_is = both.is_name in
      let desc_is = both.is_desc in
      (record { class = class.0; name = both.name; desc = both.desc }, rw (class_is, name_is, desc_is) refl)

  field_found : (index : ℕ) → IsFieldConstant (constant_at pool index) → (r : Reference) × (reference_of pool (constant_at pool index) ≡ Some r)
  field_found index is = by (constant_at pool index) refl is where
    by : (c : Option Constant) → constant_at pool index ≡ c → IsFieldConstant c → (r : Reference) × (reference_of pool (constant_at pool index) ≡ Some r)
    by (Some (consts.Fieldref owner member)) at may =
        let found = reference_found owner member (each index (consts.Fieldref owner member) at).1.0 in
        (found.0, rw at (found.1))
    by other at may = absurd may

  method_found : (index : ℕ) → IsMethodConstant (constant_at pool index) ⊎ IsInterfaceConstant (constant_at pool index)
      → (r : Reference) × (reference_of pool (constant_at pool index) ≡ Some r)
  method_found index is = by (constant_at pool index) refl is where
    by : (c : Option Constant) → constant_at pool index ≡ c → IsMethodConstant c ⊎ IsInterfaceConstant c
        → (r : Reference) × (reference_of pool (constant_at pool index) ≡ Some r)
    by (Some (consts.Methodref owner member)) at may =
        let found = reference_found owner member (each index (consts.Methodref owner member) at).1.0 in
        (found.0, rw at (found.1))
    by (Some (consts.InterfaceMethodref owner member)) at may =
        let found = reference_found owner member (each index (consts.InterfaceMethodref owner member) at).1.0 in
        (found.0, rw at (found.1))
    by other at (inl may) = absurd may
    by other at (inr may) = absurd may

  called : (opcode index count : ℕ) → IsCalled pool major opcode index count
      → IsMethodConstant (constant_at pool index) ⊎ IsInterfaceConstant (constant_at pool index)
  called opcode index count (inl is) = inl is.1
  called opcode index count (inr (inl is)) = inr is.1
  called opcode index count (inr (inr is)) = by is.1 where
    by : IsMethodConstant (constant_at pool index) ⊎ ((major ≡ 52) × IsInterfaceConstant (constant_at pool index))
        → IsMethodConstant (constant_at pool index) ⊎ IsInterfaceConstant (constant_at pool index)
    by (inl is) = inl is
    by (inr is) = inr is.1

  dynamic_found : (index : ℕ) → IsDynamicConstant (constant_at pool index) → FindsNames pool (Dynamic index)
  dynamic_found index is = by (constant_at pool index) refl is where
    by : (c : Option Constant) → constant_at pool index ≡ c → IsDynamicConstant c → FindsNames pool (Dynamic index)
    by (Some (consts.InvokeDynamic bootstrap member)) at may =
        let both = both_found member (each index (consts.InvokeDynamic bootstrap member) at).1.0 in
        (bootstrap, member, both.desc, at, both.is_desc)
    by other at may = absurd may

  pub instr_finds : (locals : ℕ) (instr : Instr) → OperandFits pool major locals instr → FindsNames pool instr
  instr_finds locals (GetStatic index) fits = field_found index fits
  instr_finds locals (GetField index) fits = field_found index fits
  instr_finds locals (Invoke opcode index count) fits = method_found index (called opcode index count fits)
  instr_finds locals (Dynamic index) fits = dynamic_found index fits
  instr_finds locals (NewRefArray index) fits = class_found index fits.0
  instr_finds locals (NewMulti index dimensions) fits = class_found index fits.0
  instr_finds locals (Cast index) fits = class_found index fits
  instr_finds locals Nop fits = tt
  instr_finds locals (Const imm) fits = tt
  instr_finds locals (Ldc index) fits = tt
  instr_finds locals (Ldc2 index) fits = tt
  instr_finds locals (Load kind unit) fits = tt
  instr_finds locals (Store kind unit) fits = tt
  instr_finds locals (Iinc unit by) fits = tt
  instr_finds locals (ArrayLoad opcode) fits = tt
  instr_finds locals (ArrayStore opcode) fits = tt
  instr_finds locals (Shuffle opcode) fits = tt
  instr_finds locals (Pure opcode) fits = tt
  instr_finds locals (Divide opcode) fits = tt
  instr_finds locals (FloatAsk opcode) fits = tt
  instr_finds locals (If opcode target) fits = tt
  instr_finds locals (If2 opcode target) fits = tt
  instr_finds locals (IfSame opcode target) fits = tt
  instr_finds locals (IfNull opcode target) fits = tt
  instr_finds locals (Goto target) fits = tt
  instr_finds locals (Table low other targets) fits = tt
  instr_finds locals (Lookup other pairs) fits = tt
  instr_finds locals (Return kind) fits = tt
  instr_finds locals (PutStatic index) fits = tt
  instr_finds locals (PutField index) fits = tt
  instr_finds locals (New index) fits = tt
  instr_finds locals (NewArray code) fits = tt
  instr_finds locals Length fits = tt
  instr_finds locals Throw fits = tt
  instr_finds locals (InstanceOf index) fits = tt
  instr_finds locals Enter fits = tt
  instr_finds locals Leave fits = tt
