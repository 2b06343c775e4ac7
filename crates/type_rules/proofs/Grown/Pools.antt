-- What the indices of a constant pool name is the same where the pool has grown at its end.
use Rattle.std.proofs.Common.{◌≡◌, ◌++◌, ◌∙◌, ℕ, zero, suc, List, [], ◌∷◌, Option, Some, None, refl, sym, ap, subst, inl, inr}
use Rattle.std.specs.Prelude.{IsSome, option_and_then}
use Rattle.class_model.specs.Checks.{AllHold}
use Rattle.class_model.specs.Code.{IsCalled, IsDynamicConstant, IsLoadable, IsLoadable2, OperandFits}
use Rattle.class_model.specs.Pool.{Constants, constant_at}
use Rattle.class_model.specs.PoolChecks.{IsClassAt, IsFieldConstant, IsInterfaceConstant, IsMethodConstant, IsNameAndTypeAt, RefersWell, class_at, class_name_of, constant_checks, descriptor_at, entries_checks, name_and_type_of, name_at, text_of, utf8_at}
use Rattle.class_model.specs.declared.instr.Instr.{Instr}
use Rattle.class_model.specs.declared.instr.Instr.TheVariants.{Ldc, Ldc2, GetStatic, PutStatic, GetField, PutField, Invoke, Dynamic, NewRefArray, NewMulti, Cast}
use Rattle.class_model.specs.declared.pool.Const.{Const}
use Rattle.class_model.specs.declared.pool.Const.TheVariants as consts
use Rattle.member_link.specs.References.{reference_at}
use Rattle.member_link.specs.Signatures.{reference_of}
use Rattle.type_rules.proofs.Grown.Table.{IsSameReference, ReadsSame}
use Rattle.type_rules.proofs.PoolFacts.{asked}

grown_constant : (pool more : Constants) (index : ℕ) (c : Const) → constant_at pool index ≡ Some c → constant_at (pool ++ more) index ≡ Some c
grown_constant [] more index c e = absurd cc
grown_constant (entry ∷ pool) more zero c e = e
grown_constant (entry ∷ pool) more (suc index) c e = grown_constant pool more index c e

no_some : (X : Type 0) → IsSome {T = X} None → ⊥
no_some X h = absurd cc

-- A pool whose constants pass their checks, and more constants behind it.
module _ (major : ℕ) (pool more : Constants) (place : ℕ) (hold : AllHold (entries_checks major pool place pool)) where
  abbrev pub grown : Constants
  grown = pool ++ more

  own : (index : ℕ) (c : Const) → constant_at pool index ≡ Some c → (at : ℕ) × AllHold (constant_checks major pool at c)
  own index c e = asked major pool place pool index c hold e

  -- an index that names a constant of a sort
  pub constant_same : (P : Option Const → Type 0) (index : ℕ) → ¬ P None → P (constant_at pool index) → constant_at grown index ≡ constant_at pool index
  constant_same P index none h = by (constant_at pool index) refl where
    by : (o : Option Const) → constant_at pool index ≡ o → constant_at grown index ≡ constant_at pool index
    by (Some c) e = grown_constant pool more index c e ∙ sym e
    by None e = absurd (none (subst P e h))

  pub text_same : (index : ℕ) → IsSome (utf8_at pool index) → utf8_at grown index ≡ utf8_at pool index
  text_same index h = ap (option_and_then text_of) (constant_same (λ (o : Option Const). IsSome (option_and_then text_of o)) index (no_some (List ℕ)) h)

  -- the name and the descriptor of a NameAndType
  record IsSameType (index : ℕ) : Type 0 where
    name : name_at grown index ≡ name_at pool index
    desc : descriptor_at grown index ≡ descriptor_at pool index

  type_same : (index : ℕ) → IsNameAndTypeAt pool index → IsSameType index
  type_same index h = by (constant_at pool index) refl where
    by : (o : Option Const) → constant_at pool index ≡ o → IsSameType index
    by (Some (consts.NameAndType name desc)) e =
        let holds = (own index (consts.NameAndType name desc) e).1 in
        let same = grown_constant pool more index (consts.NameAndType name desc) e in
        let of : Constants → (ℕ × ℕ → ℕ) → Option Const → Option (List ℕ) = λ p part o. option_and_then (λ n. utf8_at p (part n)) (option_and_then name_and_type_of o) in
        record {
          name = ap (of grown (λ n. n.0)) same ∙ text_same name holds.0.0 ∙ sym (ap (of pool (λ n. n.0)) e);
          desc = ap (of grown (λ n. n.1)) same ∙ text_same desc holds.0.1 ∙ sym (ap (of pool (λ n. n.1)) e);
        }
    by (Some other) e = absurd (no_some (ℕ × ℕ) (subst (λ o. IsSome (option_and_then name_and_type_of o)) e h))
    by None e = absurd (no_some (ℕ × ℕ) (subst (λ o. IsSome (option_and_then name_and_type_of o)) e h))

  pub name_same : (index : ℕ) → IsNameAndTypeAt pool index → name_at grown index ≡ name_at pool index
  name_same index h = (type_same index h).name

  pub desc_same : (index : ℕ) → IsNameAndTypeAt pool index → descriptor_at grown index ≡ descriptor_at pool index
  desc_same index h = (type_same index h).desc

  pub class_same : (index : ℕ) → IsClassAt pool index → class_at grown index ≡ class_at pool index
  class_same index h = by (constant_at pool index) refl where
    by : (o : Option Const) → constant_at pool index ≡ o → class_at grown index ≡ class_at pool index
    by (Some (consts.Class name)) e =
        let of : Constants → Option Const → Option (List ℕ) = λ p o. option_and_then (utf8_at p) (option_and_then class_name_of o) in
        ap (of grown) (grown_constant pool more index (consts.Class name) e) ∙ text_same name (own index (consts.Class name) e).1.0 ∙ sym (ap (of pool) e)
    by (Some other) e = absurd (no_some ℕ (subst (λ o. IsSome (option_and_then class_name_of o)) e h))
    by None e = absurd (no_some ℕ (subst (λ o. IsSome (option_and_then class_name_of o)) e h))

  -- ---- references

  -- a constant that refers to a member
  abbrev pub IsReferring : Option Const → Type 0
  IsReferring (Some (consts.Fieldref class member)) = Unit {0}
  IsReferring (Some (consts.Methodref class member)) = Unit {0}
  IsReferring (Some (consts.InterfaceMethodref class member)) = Unit {0}
  IsReferring other = ⊥

  parts_same : (class member : ℕ) → IsClassAt pool class → IsNameAndTypeAt pool member → reference_at grown class member ≡ reference_at pool class member
  parts_same class member is also = rw (class_same class is, name_same member also, desc_same member also) refl

  pub reference_same : (index : ℕ) → IsReferring (constant_at pool index) → IsSameReference pool grown index
  reference_same index h = by (constant_at pool index) refl where
    by : (o : Option Const) → constant_at pool index ≡ o → IsSameReference pool grown index
    by (Some (consts.Fieldref class member)) e =
        let holds = (own index (consts.Fieldref class member) e).1 in
        ap (reference_of grown) (grown_constant pool more index (consts.Fieldref class member) e) ∙ parts_same class member holds.0.0 holds.0.1 ∙ sym (ap (reference_of pool) e)
    by (Some (consts.Methodref class member)) e =
        let holds = (own index (consts.Methodref class member) e).1 in
        ap (reference_of grown) (grown_constant pool more index (consts.Methodref class member) e) ∙ parts_same class member holds.0.0 holds.0.1 ∙ sym (ap (reference_of pool) e)
    by (Some (consts.InterfaceMethodref class member)) e =
        let holds = (own index (consts.InterfaceMethodref class member) e).1 in
        ap (reference_of grown) (grown_constant pool more index (consts.InterfaceMethodref class member) e) ∙ parts_same class member holds.0.0 holds.0.1 ∙ sym (ap (reference_of pool) e)
    by (Some other) e = absurd (subst IsReferring e h)
    by None e = absurd (subst IsReferring e h)

  pub of_field : (o : Option Const) → IsFieldConstant o → IsReferring o
  of_field (Some (consts.Fieldref class member)) h = tt
  of_field other h = absurd h

  of_method : (o : Option Const) → IsMethodConstant o → IsReferring o
  of_method (Some (consts.Methodref class member)) h = tt
  of_method other h = absurd h

  of_interface : (o : Option Const) → IsInterfaceConstant o → IsReferring o
  of_interface (Some (consts.InterfaceMethodref class member)) h = tt
  of_interface other h = absurd h

  pub of_called : (at opcode index count : ℕ) → IsCalled pool at opcode index count → IsReferring (constant_at pool index)
  of_called at opcode index count (inl h) = of_method (constant_at pool index) h.1
  of_called at opcode index count (inr (inl h)) = of_interface (constant_at pool index) h.1
  of_called at opcode index count (inr (inr (is, inl h))) = of_method (constant_at pool index) h
  of_called at opcode index count (inr (inr (is, inr h))) = of_interface (constant_at pool index) h.1

  -- ---- operands

  pub field_reads : (index : ℕ) → IsFieldConstant (constant_at pool index) → IsSameReference pool grown index
  field_reads index h = reference_same index (of_field (constant_at pool index) h)

  pub called_reads : (at opcode index count : ℕ) → IsCalled pool at opcode index count → IsSameReference pool grown index
  called_reads at opcode index count h = reference_same index (of_called at opcode index count h)

  refers_well : (version kind index : ℕ) → RefersWell version pool kind index → IsReferring (constant_at pool index)
  refers_well version kind index (inl h) = of_field (constant_at pool index) h.2
  refers_well version kind index (inr (inl h)) = of_method (constant_at pool index) h.1
  refers_well version kind index (inr (inr (inl h))) =
      elim h.2 [ inl method ↦ of_method (constant_at pool index) method | inr interface ↦ of_interface (constant_at pool index) interface.1 ]
  refers_well version kind index (inr (inr (inr (inl h)))) = of_method (constant_at pool index) h.1
  refers_well version kind index (inr (inr (inr (inr h)))) = of_interface (constant_at pool index) h.1

  -- such a constant is the same, and read by the old pool or the new
  pub referring_same : (index : ℕ) → IsReferring (constant_at pool index) → constant_at grown index ≡ constant_at pool index
  referring_same index h = constant_same IsReferring index (λ h. h) h

  pub referred_same : (index : ℕ) → IsReferring (constant_at pool index) → reference_of grown (constant_at pool index) ≡ reference_of pool (constant_at pool index)
  referred_same index h = ap (reference_of grown) (sym (referring_same index h)) ∙ reference_same index h

  pub refers_well_same : (version kind index : ℕ) → RefersWell version pool kind index → IsSameReference pool grown index
  refers_well_same version kind index h = reference_same index (refers_well version kind index h)

  -- what constants that are loaded name
  pub handle_refers : (index kind reference : ℕ) → constant_at pool index ≡ Some (consts.MethodHandle kind reference) → IsReferring (constant_at pool reference)
  handle_refers index kind reference e = refers_well major kind reference (own index (consts.MethodHandle kind reference) e).1.0

  pub handle_reads : (index kind reference : ℕ) → constant_at pool index ≡ Some (consts.MethodHandle kind reference) → IsSameReference pool grown reference
  handle_reads index kind reference e = reference_same reference (handle_refers index kind reference e)

  pub string_text : (index text : ℕ) → constant_at pool index ≡ Some (consts.String text) → utf8_at grown text ≡ utf8_at pool text
  string_text index text e = text_same text (own index (consts.String text) e).1.0

  pub class_text : (index text : ℕ) → constant_at pool index ≡ Some (consts.Class text) → utf8_at grown text ≡ utf8_at pool text
  class_text index text e = text_same text (own index (consts.Class text) e).1.0

  pub method_type_text : (index text : ℕ) → constant_at pool index ≡ Some (consts.MethodType text) → utf8_at grown text ≡ utf8_at pool text
  method_type_text index text e = text_same text (own index (consts.MethodType text) e).1.0

  pub called_member : (index class member : ℕ) → constant_at pool index ≡ Some (consts.InterfaceMethodref class member) → IsNameAndTypeAt pool member
  called_member index class member e = (own index (consts.InterfaceMethodref class member) e).1.0.1

  pub described_call : (index bootstrap member : ℕ) → constant_at pool index ≡ Some (consts.InvokeDynamic bootstrap member) → IsNameAndTypeAt pool member
  described_call index bootstrap member e = (own index (consts.InvokeDynamic bootstrap member) e).1.0

  pub operands_read : (at max_locals : ℕ) (instr : Instr) → OperandFits pool at max_locals instr → ReadsSame pool grown instr
  operands_read at max_locals (Ldc index) h = constant_same IsLoadable index (λ h. h) h
  operands_read at max_locals (Ldc2 index) h = constant_same IsLoadable2 index (λ h. h) h
  operands_read at max_locals (GetStatic index) h = field_reads index h
  operands_read at max_locals (PutStatic index) h = field_reads index h
  operands_read at max_locals (GetField index) h = field_reads index h
  operands_read at max_locals (PutField index) h = field_reads index h
  operands_read at max_locals (Invoke opcode index count) h = reference_same index (of_called at opcode index count h)
  operands_read at max_locals (Dynamic index) h = record {
    constant = constant_same IsDynamicConstant index (λ h. h) h;
    desc = λ bootstrap member e. desc_same member (described_call index bootstrap member e);
  }
  operands_read at max_locals (NewRefArray index) h = class_same index h.0
  operands_read at max_locals (NewMulti index dimensions) h = class_same index h.0
  operands_read at max_locals (Cast index) h = class_same index h
  operands_read at max_locals instr h = tt
