-- Stores to the unit of a field: the frame behind, by parts that suit what comes along.
use Rattle.std.proofs.Common.{◌≡◌, ◌+◌, ◌≤◌, ℕ, suc, true, List, [], ◌∷◌, ◌++◌, length, map, pos, Option, Some, refl, sym, ap, subst, ◌∙◌, arith}
use Rattle.std.proofs.lemmas.List.{append_assoc, length-append}
use Rattle.class_model.specs.Code.{verification_type}
use Rattle.class_model.specs.Descriptors.{kind_of}
use Rattle.class_model.specs.Frames.{units}
use Rattle.class_model.specs.declared.descriptor.FieldType.{FieldType}
use Rattle.class_model.specs.declared.descriptor.FieldType.TheVariants as field_types
use Rattle.class_model.specs.declared.descriptor.Kind.TheVariants as kinds
use Rattle.class_model.specs.declared.frame.Frame.{Frame}
use Rattle.class_model.specs.declared.frame.VType.{VType}
use Rattle.class_model.specs.declared.frame.VType.TheVariants as types
use Rattle.class_model.specs.declared.instr.Imm.TheVariants as imms
use Rattle.class_model.specs.declared.instr.Instr.TheVariants.{Const, Pure}
use Rattle.class_model.specs.declared.opcodes.TheConstants.{IADD, ISUB, IMUL, ISHL, ISHR, IUSHR, IOR, IXOR, INEG, I2B, I2C, I2S, IAND}
use Rattle.class_tree.specs.Headers.{Headers}
use Rattle.making_code.specs.Items.{WItem, item, plain}
use Rattle.member_link.specs.Rows.ArithmeticRows.{Operation, operation_in, pure_operations}
use Rattle.member_link.specs.Rows.FrameAssignability.{AreAssignable}
use Rattle.member_link.specs.Rows.LocalRows.{HasRoom, stored}
use Rattle.plan_flow.specs.Written.Templates.{narrowing}
use Rattle.written_types.proofs.FieldFits.{assigned_long}
use Rattle.written_types.proofs.FieldPlaces.{IsValue, is_number_type}
use Rattle.written_types.proofs.FieldUnits.{EndsNarrow, units_for}
use Rattle.written_types.proofs.ItemSteps.{const_carries, frame_of, pure_carries}
use Rattle.written_types.proofs.SlotFrames.{agree_long, agreeing_parts}
use Rattle.written_types.proofs.StoredUnits.{Suits, cut_end, stored_is, suits_cut}
use Rattle.written_types.proofs.UnitTemplates.{agree_assigned, assigned_both}
use Rattle.written_types.specs.Inner.CarriedFrames.{AgreeIn, Carries}
use Rattle.written_types.specs.Writing.{Writing}

-- ---- room for a value

pub room_for : (locals : List VType) (at many : ℕ) (type : FieldType) → many ≡ length (units_for type) → at + many ≤ length locals
    → HasRoom (kind_of type) locals at
room_for locals at many field_types.Byte is few = omega (arith, is, few)
room_for locals at many field_types.Char is few = omega (arith, is, few)
room_for locals at many field_types.Short is few = omega (arith, is, few)
room_for locals at many field_types.Bool is few = omega (arith, is, few)
room_for locals at many field_types.Int is few = omega (arith, is, few)
room_for locals at many field_types.Long is few = omega (arith, is, few)
room_for locals at many field_types.Float is few = omega (arith, is, few)
room_for locals at many field_types.Double is few = omega (arith, is, few)
room_for locals at many (field_types.Named name) is few = omega (arith, is, few)

-- ---- narrowing

abbrev to_small : Operation
to_small = record { opcodes = INEG ∷ I2B ∷ I2C ∷ I2S ∷ []; takes = kinds.Int ∷ []; gives = kinds.Int }

abbrev of_ints : Operation
of_ints = record {
  opcodes = IADD ∷ ISUB ∷ IMUL ∷ ISHL ∷ ISHR ∷ IUSHR ∷ IAND ∷ IOR ∷ IXOR ∷ [];
  takes = kinds.Int ∷ kinds.Int ∷ [];
  gives = kinds.Int;
}

module _ (w : Writing) (number : ℕ) (locals low : List VType) (value : VType) (others : List WItem) (last : Option Frame) where
  abbrev Behind : ℕ → VType → Type 0
  Behind next type = Carries w next others (frame_of locals (low ++ type ∷ [])) last

  made_small : (opcode : ℕ) → operation_in pure_operations opcode ≡ Some to_small → value ≡ types.Int → ((next : ℕ) → Behind next value)
      → Carries w number (item (plain (Pure opcode)) ∷ others) (frame_of locals (low ++ value ∷ [])) last
  made_small opcode found is rest =
      subst (λ (type : VType). Carries w number (item (plain (Pure opcode)) ∷ others) (frame_of locals (low ++ type ∷ [])) last) (sym is)
      (pure_carries w number (frame_of locals (low ++ types.Int ∷ [])) others last opcode to_small low (types.Int ∷ []) found refl (refl, tt)
      (subst (Behind (suc number)) is (rest (suc number))))

  made_bool : value ≡ types.Int → ((next : ℕ) → Behind next value)
      → Carries w number (item (plain (Const (imms.Int (pos 1)))) ∷ item (plain (Pure IAND)) ∷ others) (frame_of locals (low ++ value ∷ [])) last
  made_bool is rest =
      subst (λ (type : VType). Carries w number (item (plain (Const (imms.Int (pos 1)))) ∷ item (plain (Pure IAND)) ∷ others)
      (frame_of locals (low ++ type ∷ [])) last) (sym is)
      (const_carries w number (frame_of locals (low ++ types.Int ∷ [])) (item (plain (Pure IAND)) ∷ others) last (imms.Int (pos 1))
      (pure_carries w (suc number) (frame_of locals ((low ++ types.Int ∷ []) ++ types.Int ∷ [])) others last IAND of_ints low
      (types.Int ∷ types.Int ∷ []) refl (append_assoc low (types.Int ∷ []) (types.Int ∷ [])) (refl, (refl, tt))
      (subst (Behind (suc (suc number))) is (rest (suc (suc number))))))

  -- an int is narrowed to a field's type, and another value stays
  pub narrows : (type : FieldType)
      → (is_number_type (verification_type type) ≡ true → value ≡ verification_type type)
      → ((next : ℕ) → Behind next value)
      → Carries w number (map item (narrowing type) ++ others) (frame_of locals (low ++ value ∷ [])) last
  narrows field_types.Byte same rest = made_small I2B refl (same refl) rest
  narrows field_types.Short same rest = made_small I2S refl (same refl) rest
  narrows field_types.Char same rest = made_small I2C refl (same refl) rest
  narrows field_types.Bool same rest = made_bool (same refl) rest
  narrows other same rest = rest number

-- ---- a store among parts of local units

-- Local units as parts: those that suit what comes along, those of a field, and those behind.
pub record UnitParts (headers : Headers) (all own left right : List VType) (many : ℕ) : Type 0 where
  pub before : List VType
  pub middle : List VType
  pub behind : List VType
  pub is : all ≡ before ++ (middle ++ behind)
  pub suits : Suits headers before own left
  pub middle_long : length middle ≡ many
  pub behind_assigned : AreAssignable headers behind right

-- behind the store of a value that may stand for the declared type
pub record StoredParts (headers : Headers) (all own left right : List VType) (type : FieldType) (value : VType) : Type 0 where
  pub before : List VType
  pub behind : List VType
  pub is : all ≡ before ++ (units value ++ behind)
  pub suits : Suits headers before own left
  pub behind_assigned : AreAssignable headers behind right

pub stored_parts : (headers : Headers) (By : VType → VType) (all own left right : List VType) (at : ℕ) (type : FieldType) (value : VType)
    → (p : UnitParts headers all own left right (length (units_for type)))
    → IsValue headers By type value
    → EndsNarrow (own ++ left)
    → length own + length left ≡ at
    → StoredParts headers (stored at value all) own left right type value
stored_parts headers By all own left right at type value p is_value narrow long = record {
  before = cut_end p.before;
  behind = p.behind;
  is =
      ap (stored at value) p.is
      ∙ stored_is p.before at value p.middle p.behind before_long (p.middle_long ∙ sym is_value.long);
  suits = suits_cut headers p.before own left p.suits narrow;
  behind_assigned = p.behind_assigned;
} where
  before_long : length p.before ≡ at
  before_long =
      let all = ap length p.suits.is in
      let one = length-append p.suits.locals p.suits.units_of in
      let other = agree_long p.suits.locals own p.suits.agree in
      let more = assigned_long headers p.suits.units_of left p.suits.assigned in
      omega (arith, all, one, other, more, long)

-- where there is room
pub parts_room : (headers : Headers) (all own left right : List VType) (at : ℕ) (type : FieldType)
    → UnitParts headers all own left right (length (units_for type))
    → length own + length left ≡ at
    → HasRoom (kind_of type) all at
parts_room headers all own left right at type p long =
    room_for all at (length (units_for type)) type refl
    (let whole = ap length p.is in
    let one = length-append p.before (p.middle ++ p.behind) in
    let two = length-append p.middle p.behind in
    let many = p.middle_long in
    let before = ap length p.suits.is in
    let before_parts = length-append p.suits.locals p.suits.units_of in
    let other = agree_long p.suits.locals own p.suits.agree in
    let more = assigned_long headers p.suits.units_of left p.suits.assigned in
    omega (arith, whole, one, two, many, before, before_parts, other, more, long))

-- parts of units that agree with written ones
pub unit_parts : (headers : Headers) (all own fields left middle right : List VType) → AgreeIn all (own ++ fields)
    → fields ≡ left ++ (middle ++ right)
    → UnitParts headers all own left right (length middle)
unit_parts headers all own fields left middle right agree is =
    let first = agreeing_parts all own fields agree in
    let second = agreeing_parts first.top left (middle ++ right) (subst (AgreeIn first.top) is first.top_agree) in
    let third = agreeing_parts second.top middle right second.top_agree in
    record {
      before = first.low ++ second.low;
      middle = third.low;
      behind = third.top;
      is =
          first.is
          ∙ ap (λ (rest : List VType). first.low ++ rest) (second.is ∙ ap (λ (rest : List VType). second.low ++ rest) third.is)
          ∙ sym (append_assoc first.low second.low (third.low ++ third.top));
      suits = record {
        locals = first.low;
        units_of = second.low;
        is = refl;
        agree = first.low_agree;
        assigned = agree_assigned headers second.low left second.low_agree;
      };
      middle_long = agree_long third.low middle third.low_agree;
      behind_assigned = agree_assigned headers third.top right third.top_agree;
    }

-- the units of the method, and those of fields behind them
pub record BothParts (headers : Headers) (all own fields : List VType) : Type 0 where
  pub locals : List VType
  pub units_of : List VType
  pub is : all ≡ locals ++ units_of
  pub agree : AgreeIn locals own
  pub assigned : AreAssignable headers units_of fields

pub both_parts : (headers : Headers) (By : VType → VType) (all own left right : List VType) (type : FieldType) (value : VType)
    → (p : StoredParts headers all own left right type value)
    → IsValue headers By type value
    → BothParts headers all own (left ++ (units_for type ++ right))
both_parts headers By all own left right type value p is_value = record {
  locals = p.suits.locals;
  units_of = p.suits.units_of ++ (units value ++ p.behind);
  is =
      p.is
      ∙ ap (λ (before : List VType). before ++ (units value ++ p.behind)) p.suits.is
      ∙ append_assoc p.suits.locals p.suits.units_of (units value ++ p.behind);
  agree = p.suits.agree;
  assigned =
      assigned_both headers p.suits.units_of left _ _ p.suits.assigned
      (assigned_both headers (units value) (units_for type) p.behind right is_value.assigned p.behind_assigned);
}
