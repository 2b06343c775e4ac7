-- What a virtual object has in a field: in the first heap, in the state, and in the second frame's unit.
use Rattle.std.proofs.Common.{◌≡◌, ℕ, zero, suc, List, [], ◌∷◌, slice_get, slice_set, Some, refl, sym, subst}
use Rattle.std.proofs.lemmas.Option.{none-some, same_Some}
use Rattle.class_model.specs.declared.descriptor.FieldType.{FieldType}
use Rattle.machine_values.specs.declared.value.Value.{Value}
use Rattle.virtual_state.specs.declared.slot.Slot.{Slot}
use Rattle.written_runs.specs.VirtualObjects.{TellFields, TellsField, Virtuals}

-- a field of a number, of which a slot tells
pub record FieldTold (virtuals : Virtuals) (frame : ℕ) (types : List FieldType) (slots : List Slot) (number : ℕ) (value : Value) : Type 0 where
  pub type : FieldType
  pub slot : Slot
  pub is_type : slice_get types number ≡ Some type
  pub is_slot : slice_get slots number ≡ Some slot
  pub tells : TellsField virtuals frame type value slot

pub field_told : (virtuals : Virtuals) (frame : ℕ) (types : List FieldType) (values : List Value) (slots : List Slot) (number : ℕ) (value : Value)
    → TellFields virtuals frame types values slots
    → slice_get values number ≡ Some value
    → FieldTold virtuals frame types slots number value
field_told virtuals frame [] [] [] number value told is = absurd (none-some value is)
field_told virtuals frame [] [] (slot ∷ slots) number value told is = absurd told
field_told virtuals frame [] (first ∷ values) slots number value told is = absurd told
field_told virtuals frame (type ∷ types) [] slots number value told is = absurd told
field_told virtuals frame (type ∷ types) (first ∷ values) [] number value told is = absurd told
field_told virtuals frame (type ∷ types) (first ∷ values) (slot ∷ slots) zero value told is = record {
  type = type;
  slot = slot;
  is_type = refl;
  is_slot = refl;
  tells = subst (λ (v : Value). TellsField virtuals frame type v slot) (same_Some first value is) told.0;
}
field_told virtuals frame (type ∷ types) (first ∷ values) (slot ∷ slots) (suc number) value told is =
    let rest = field_told virtuals frame types values slots number value told.1 is in record {
      type = rest.type;
      slot = rest.slot;
      is_type = rest.is_type;
      is_slot = rest.is_slot;
      tells = rest.tells;
    }

-- a field that is set to what another slot tells
pub fields_set : (virtuals : Virtuals) (frame : ℕ) (types : List FieldType) (values : List Value) (slots : List Slot) (number : ℕ)
    (type : FieldType) (value : Value) (slot : Slot)
    → TellFields virtuals frame types values slots
    → slice_get types number ≡ Some type
    → TellsField virtuals frame type value slot
    → TellFields virtuals frame types (slice_set values number value) (slice_set slots number slot)
fields_set virtuals frame [] [] [] number type value slot told is tells = tt
fields_set virtuals frame [] [] (first_slot ∷ slots) number type value slot told is tells = absurd told
fields_set virtuals frame [] (first ∷ values) slots number type value slot told is tells = absurd told
fields_set virtuals frame (first_type ∷ types) [] slots number type value slot told is tells = absurd told
fields_set virtuals frame (first_type ∷ types) (first ∷ values) [] number type value slot told is tells = absurd told
fields_set virtuals frame (first_type ∷ types) (first ∷ values) (first_slot ∷ slots) zero type value slot told is tells =
    (subst (λ (t : FieldType). TellsField virtuals frame t value slot) (sym (same_Some first_type type is)) tells, told.1)
fields_set virtuals frame (first_type ∷ types) (first ∷ values) (first_slot ∷ slots) (suc number) type value slot told is tells =
    (told.0, fields_set virtuals frame types values slots number type value slot told.1 is tells)
