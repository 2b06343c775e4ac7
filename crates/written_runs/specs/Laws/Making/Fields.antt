-- The values of an object's fields are loaded for its field constructor.
use Rattle.std.proofs.Common.{◌≡◌, ◌+◌, ℕ, suc, Bool, true, false, List, [], ◌∷◌, ◌++◌, reverse, slice_get, Some, IsTrue, refl, sym, ap, subst, ◌∙◌, arith}
use Rattle.std.proofs.lemmas.Bool.{false≢true}
use Rattle.class_model.specs.Descriptors.{kind_of}
use Rattle.class_model.specs.declared.descriptor.FieldType.{FieldType}
use Rattle.class_model.specs.declared.descriptor.FieldType.TheVariants as types
use Rattle.class_model.specs.declared.descriptor.Kind.{Kind}
use Rattle.class_model.specs.declared.descriptor.Kind.TheVariants as kinds
use Rattle.machine_values.specs.Values.{has_kind, have_kinds, narrowed}
use Rattle.machine_values.specs.declared.value.Value.{Value}
use Rattle.machine_values.specs.declared.value.Value.TheVariants.{Ref}
use Rattle.making_code.specs.Items.{WInstr, load}
use Rattle.making_code.specs.MakeCode.{load_field, load_fields_from}
use Rattle.making_code.specs.Units.{WUnit, field_unit, object_unit}
use Rattle.member_link.specs.Machine.Worlds.{Memory}
use Rattle.plan_flow.specs.Written.WrittenPrograms.{WrittenMethod}
use Rattle.same_runs.specs.Laws.Moves.{same_kind}
use Rattle.same_runs.specs.Laws.Stored.{Units}
use Rattle.same_runs.specs.Renamings.{Names, SameValue, SameValues, and_value, no_values, same_double, same_float, same_int, same_long, same_null, same_reference}
use Rattle.virtual_state.specs.declared.slot.Slot.{Slot}
use Rattle.virtual_state.specs.declared.slot.Slot.TheVariants.{Plain, Virt, Unusable}
use Rattle.written_runs.specs.Inner.MadeObjects.{StandAt}
use Rattle.written_runs.specs.Inner.Setup.{Setup}
use Rattle.written_runs.specs.Laws.GivenValues.{FitTypes, push_one}
use Rattle.written_runs.specs.Laws.Making.Held.{HeldIn, HoldsMade, Scene, value_made}
use Rattle.written_runs.specs.Laws.Making.Steps.{Doing, Done, done_as, done_none, done_then, loads_unit, stand_behind}
use Rattle.written_runs.specs.VirtualObjects.{TellFields, TellsField, tells_plain, tells_virtual}

-- ---- kinds and narrow values

pub reference_narrowed : (type : FieldType) (reference : ℕ) → narrowed type (Ref reference) ≡ Ref reference
reference_narrowed types.Byte reference = refl
reference_narrowed types.Char reference = refl
reference_narrowed types.Short reference = refl
reference_narrowed types.Bool reference = refl
reference_narrowed types.Int reference = refl
reference_narrowed types.Long reference = refl
reference_narrowed types.Float reference = refl
reference_narrowed types.Double reference = refl
reference_narrowed (types.Named name) reference = refl

-- what stands for a narrow value is one
narrow_also : {names : Names} (type : FieldType) {value also : Value} → SameValue names value also → narrowed type value ≡ value
    → narrowed type also ≡ also
narrow_also type same_int is = is
narrow_also type same_long is = is
narrow_also type same_float is = is
narrow_also type same_double is = is
narrow_also type same_null is = is
narrow_also type (same_reference {named = named} has) is = reference_narrowed type named

-- a reference is of one kind
kind_is : (kind : Kind) (reference : ℕ) → IsTrue (has_kind kind (Ref reference)) → kind ≡ kinds.Ref
kind_is kinds.Int reference is = absurd (false≢true is)
kind_is kinds.Long reference is = absurd (false≢true is)
kind_is kinds.Float reference is = absurd (false≢true is)
kind_is kinds.Double reference is = absurd (false≢true is)
kind_is kinds.Ref reference is = refl

-- the kinds of values one by one
pub record FirstKind (type : FieldType) (types : List FieldType) (value : Value) (values : List Value) : Type 0 where
  pub first : IsTrue (has_kind (kind_of type) value)
  pub rest : IsTrue (have_kinds types values)

pub first_kind : (type : FieldType) (types : List FieldType) (value : Value) (values : List Value)
    → IsTrue (have_kinds (type ∷ types) (value ∷ values))
    → FirstKind type types value values
first_kind type types value values all = by (has_kind (kind_of type) value) refl where
  by : (b : Bool) → has_kind (kind_of type) value ≡ b → FirstKind type types value values
  by true is = record { first = is; rest = sym (rw (is) refl) ∙ all }
  by false is = absurd (false≢true (sym (rw (is) refl) ∙ all))

-- ---- loads

module _ {u : Setup} {w : WrittenMethod} (d : Doing u w) (s : Scene u w) (names : Names) (units : Units) (site : ℕ) where
  -- what the units hold of an object's fields, from one on: plain ones their values, and the objects that others are in are made
  pub record AreHeld (number : ℕ) (slots : List Slot) (values : List Value) : Type 0 where
    pub plain : (place : ℕ) (value : Value)
        → slice_get slots place ≡ Some Plain
        → slice_get values place ≡ Some value
        → HeldIn w.flat names units (field_unit site (number + place)) value
    pub virtual : (place named : ℕ)
        → slice_get slots place ≡ Some (Virt named)
        → HoldsMade w.flat s.virtuals s.frame names units (object_unit named) named

  held_behind : {number : ℕ} {slot : Slot} {slots : List Slot} {value : Value} {values : List Value}
      → AreHeld number (slot ∷ slots) (value ∷ values)
      → AreHeld (suc number) slots values
  held_behind {number = number} all = record {
    plain = λ place value slot is.
        let same : number + suc place ≡ suc number + place = omega arith in
        subst (λ (n : ℕ). HeldIn w.flat names units (field_unit site n) value) same (all.plain (suc place) value slot is);
    virtual = λ place named slot. all.virtual (suc place) named slot;
  }

  -- behind the loads
  pub record AreLoaded (instrs : List WInstr) (types : List FieldType) (values : List Value) (place steps : ℕ) (memory : Memory)
      (stack : List Value)
      : Type 0 where
    pub given : List Value
    pub done : Done d instrs place steps memory memory units units stack (reverse given ++ stack)
    pub same : SameValues names values given
    pub fits : FitTypes types given

  -- one is loaded, and then the others
  then_loaded : {type : FieldType} {types : List FieldType} {value : Value} {values : List Value} (slot : Slot) (slots : List Slot)
      (number place steps : ℕ) (memory : Memory) (stack : List Value) (unit : WUnit)
      → load_field site number type slot ≡ load (kind_of type) unit
      → HeldIn w.flat names units unit value
      → IsTrue (has_kind (kind_of type) value)
      → ((also : Value) → SameValue names value also → narrowed type also ≡ also)
      → StandAt u w place (load_field site number type slot ∷ load_fields_from site (suc number) types slots)
      → ((middle : ℕ) (more : List Value) → StandAt u w (place + 1) (load_fields_from site (suc number) types slots)
      → AreLoaded (load_fields_from site (suc number) types slots) types values (place + 1) middle memory more)
      → AreLoaded (load_field site number type slot ∷ load_fields_from site (suc number) types slots) (type ∷ types) (value ∷ values) place steps
      memory stack
  then_loaded {type = type} {types = types} {value = value} {values = values} slot slots number place steps memory stack unit
      code_is held fits narrow stand others = record {
        given = held.also ∷ rest.given;
        done = done_as d (ap (λ (i : WInstr). i ∷ behind) (sym code_is)) refl (push_one held.also rest.given stack) (done_then d first rest.done);
        same = and_value held.same rest.same;
        fits = (fits_also, narrow held.also held.same, rest.fits);
      } where
        behind : List WInstr
        behind = load_fields_from site (suc number) types slots

        stand_as : StandAt u w place (load (kind_of type) unit ∷ behind)
        stand_as = subst (λ (i : WInstr). StandAt u w place (i ∷ behind)) code_is stand

        fits_also : IsTrue (has_kind (kind_of type) held.also)
        fits_also = same_kind (kind_of type) held.same ∙ fits

        first : Done d (load (kind_of type) unit ∷ []) place steps memory memory units units stack (held.also ∷ stack)
        first = loads_unit d (kind_of type) unit steps memory units stack held.also stand_as held.is fits_also

        rest : AreLoaded behind types values (place + 1) first.then_steps memory (held.also ∷ stack)
        rest = others first.then_steps (held.also ∷ stack) (stand_behind (load (kind_of type) unit ∷ []) behind stand_as)

  pub loads_fields : (types : List FieldType) (slots : List Slot) (values stack : List Value) (number place steps : ℕ) (memory : Memory)
      → TellFields s.virtuals s.frame types values slots
      → IsTrue (have_kinds types values)
      → AreHeld number slots values
      → StandAt u w place (load_fields_from site number types slots)
      → AreLoaded (load_fields_from site number types slots) types values place steps memory stack
  loads_fields [] [] [] stack number place steps memory told all_kinds held stand =
      record { given = []; done = done_none d place steps memory units stack; same = no_values; fits = tt }
  loads_fields [] (slot ∷ slots) [] stack number place steps memory told all_kinds held stand = absurd told
  loads_fields [] [] (value ∷ values) stack number place steps memory told all_kinds held stand = absurd told
  loads_fields [] (slot ∷ slots) (value ∷ values) stack number place steps memory told all_kinds held stand = absurd told
  loads_fields (type ∷ types) [] [] stack number place steps memory told all_kinds held stand = absurd told
  loads_fields (type ∷ types) [] (value ∷ values) stack number place steps memory told all_kinds held stand = absurd told
  loads_fields (type ∷ types) (slot ∷ slots) [] stack number place steps memory told all_kinds held stand = absurd told
  loads_fields (type ∷ types) (slot ∷ slots) (value ∷ values) stack number place steps memory told all_kinds held stand =
      by slot told.0 held stand
      (λ middle more stand_more.
      loads_fields types slots values more (suc number) (place + 1) middle memory told.1 kind.rest (held_behind held) stand_more) where
        kind : FirstKind type types value values
        kind = first_kind type types value values all_kinds

        Others : Slot → Type 0
        Others one =
            (middle : ℕ) (more : List Value) → StandAt u w (place + 1) (load_fields_from site (suc number) types slots)
            → AreLoaded (load_fields_from site (suc number) types slots) types values (place + 1) middle memory more

        by : (one : Slot) → TellsField s.virtuals s.frame type value one → AreHeld number (one ∷ slots) (value ∷ values)
            → StandAt u w place (load_field site number type one ∷ load_fields_from site (suc number) types slots)
            → Others one
            → AreLoaded (load_field site number type one ∷ load_fields_from site (suc number) types slots) (type ∷ types) (value ∷ values) place
            steps memory stack
        by Plain (tells_plain fits narrow) here stand_here others =
            then_loaded Plain slots number place steps memory stack (field_unit site number) refl
            (let same : number + 0 ≡ number = omega arith in
            subst (λ (n : ℕ). HeldIn w.flat names units (field_unit site n) value) same (here.plain 0 value refl refl))
            fits (λ also is. narrow_also type is narrow) stand_here others
        by (Virt named) (tells_virtual refers) here stand_here others =
            then_loaded (Virt named) slots number place steps memory stack (object_unit named) (ap (λ (k : Kind). load k (object_unit named)) (sym ref_kind))
            (value_made s.are_apart refers (here.virtual 0 named refl)) kind.first
            (λ also is. narrow_also type is (ap (narrowed type) refers.is ∙ reference_narrowed type refers.virtual.reference ∙ sym refers.is))
            stand_here others where
              ref_kind : kind_of type ≡ kinds.Ref
              ref_kind =
                  kind_is (kind_of type) refers.virtual.reference (ap (has_kind (kind_of type)) (sym refers.is) ∙ kind.first)
        by Unusable told_here here stand_here others = elim told_here [ ]
