-- The unit of a field of a virtual object: its type there, and which values it may hold.
use Rattle.std.proofs.Common.{◌≡◌, ◌≢◌, ◌+◌, ◌≤◌, ℕ, zero, suc, Bool, true, false, List, [], ◌∷◌, ◌++◌, length, map, slice_get, take, Option, Some, None, option_map, refl, sym, ap, subst, ◌∙◌, arith}
use Rattle.std.specs.List.{list_any}
use Rattle.std.proofs.lemmas.Bool.{eq-eqb, false≢true}
use Rattle.std.proofs.lemmas.List.{length-map}
use Rattle.std.proofs.lemmas.Option.{none-some, same_Some, slice_get-map}
use Rattle.class_model.specs.Code.{verification_type}
use Rattle.class_model.specs.Descriptors.{kind_of, parameter_units, type_of}
use Rattle.class_model.specs.Frames.{is_top, units}
use Rattle.class_model.specs.declared.descriptor.FieldType.{FieldType}
use Rattle.class_model.specs.declared.descriptor.FieldType.TheVariants as field_types
use Rattle.class_model.specs.declared.frame.VType.{VType}
use Rattle.class_model.specs.declared.frame.VType.TheVariants as types
use Rattle.class_tree.specs.Headers.{Headers, headers_of}
use Rattle.flow_code.specs.ReadTypes.{read_type}
use Rattle.flow_code.specs.WrittenUnits.{field_units}
use Rattle.flow_code.specs.declared.point.Point.{Point}
use Rattle.flow_code.specs.declared.point.Site.{Site}
use Rattle.making_code.specs.Units.{field_unit, fields_at, unit_number}
use Rattle.member_link.specs.Assignability.{IsAssignable, from_null, of_names, to_same, to_top}
use Rattle.member_link.specs.References.{Reference}
use Rattle.member_link.specs.Rows.FrameAssignability.{AreAssignable}
use Rattle.member_link.specs.Rows.Operands.{IsOfKind}
use Rattle.plan_flow.specs.PlanScope.{PlanScope, field_number}
use Rattle.plan_flow.specs.PlanSlots.{held, readable}
use Rattle.plan_flow.specs.Written.Finish.{Finished}
use Rattle.plan_flow.specs.Written.FramedCode.{type_by_item}
use Rattle.plan_flow.specs.Written.WrittenCode.{Form}
use Rattle.virtual_state.specs.States.{is_present, is_virtual, names}
use Rattle.virtual_state.specs.declared.slot.Slot.{Slot}
use Rattle.virtual_state.specs.declared.slot.Slot.TheVariants.{Plain, Virt, Unusable}
use Rattle.written_types.proofs.EdgeTargets.{written_state}
use Rattle.written_types.proofs.FieldUnits.{UnitsAt, field_units_at, units_for}
use Rattle.written_types.proofs.Given.{Given, locals_in}
use Rattle.written_types.proofs.SiteFields.{SitesKnown, number_has_type}
use Rattle.written_types.proofs.SlotFrames.{agree_at, units_behind}
use Rattle.written_types.proofs.SlotTypes.{item_behind}
use Rattle.written_types.proofs.Standing.{all_at}
use Rattle.written_types.proofs.Templates.{Before, By, locals_agree, places, read, state}
use Rattle.written_types.specs.Writing.{Writing}

-- ---- values of declared types

abbrev pub is_number_type : VType → Bool
is_number_type types.Int = true
is_number_type types.Float = true
is_number_type types.Long = true
is_number_type types.Double = true
is_number_type other = false

-- a number has its type
exactly : (headers : Headers) (low high : VType) → IsAssignable headers low high → is_number_type high ≡ true → low ≡ high
exactly headers low high (to_same type) number = refl
exactly headers low high (to_top type) number = absurd (false≢true number)
exactly headers low high (from_null name) number = absurd (false≢true number)
exactly headers low high (of_names one other assigned) number = absurd (false≢true number)

-- What may stand for a declared type.
pub record IsValue (headers : Headers) (By : VType → VType) (type : FieldType) (value : VType) : Type 0 where
  pub not_top : is_top value ≡ false
  pub by_is : By value ≡ value
  pub not_this : value ≢ types.UninitThis
  pub of_kind : IsOfKind (kind_of type) value
  pub same_number : is_number_type (verification_type type) ≡ true → value ≡ verification_type type
  pub long : length (units value) ≡ length (units_for type)
  pub assigned : AreAssignable headers (units value) (units_for type)

module _ (headers : Headers) (form : Form) (blocks : List Finished) where
  abbrev Value : FieldType → VType → Type 0
  Value type value = IsValue headers (type_by_item form blocks) type value

  int_value : (type : FieldType) → verification_type type ≡ types.Int → IsOfKind (kind_of type) types.Int
      → AreAssignable headers (types.Int ∷ []) (units_for type)
      → length (types.Int ∷ []) ≡ length (units_for type)
      → Value type types.Int
  int_value type is of assigned long = record {
    not_top = refl;
    by_is = refl;
    not_this = λ same. absurd cc;
    of_kind = of;
    same_number = λ number. sym is;
    long = long;
    assigned = assigned;
  }

  own_value : (type : FieldType) → Value type (verification_type type)
  own_value field_types.Byte = int_value field_types.Byte refl refl (to_same _, tt) refl
  own_value field_types.Char = int_value field_types.Char refl refl (to_same _, tt) refl
  own_value field_types.Short = int_value field_types.Short refl refl (to_same _, tt) refl
  own_value field_types.Bool = int_value field_types.Bool refl refl (to_same _, tt) refl
  own_value field_types.Int = int_value field_types.Int refl refl (to_same _, tt) refl
  own_value field_types.Long = record {
    not_top = refl;
    by_is = refl;
    not_this = λ same. absurd cc;
    of_kind = refl;
    same_number = λ number. refl;
    long = refl;
    assigned = (to_same _, (to_same _, tt));
  }
  own_value field_types.Float = record {
    not_top = refl;
    by_is = refl;
    not_this = λ same. absurd cc;
    of_kind = refl;
    same_number = λ number. refl;
    long = refl;
    assigned = (to_same _, tt);
  }
  own_value field_types.Double = record {
    not_top = refl;
    by_is = refl;
    not_this = λ same. absurd cc;
    of_kind = refl;
    same_number = λ number. refl;
    long = refl;
    assigned = (to_same _, (to_same _, tt));
  }
  own_value (field_types.Named name) = record {
    not_top = refl;
    by_is = refl;
    not_this = λ same. absurd cc;
    of_kind = tt;
    same_number = λ number. absurd (false≢true number);
    long = refl;
    assigned = (to_same _, tt);
  }

  pub declared_value : (type : FieldType) → Value type (verification_type type)
  declared_value type = own_value type

  named_value : (name : List ℕ) (value high : VType) → IsAssignable headers value high → high ≡ types.Object name
      → Value (field_types.Named name) value
  named_value name value high (to_same type) same = subst (Value (field_types.Named name)) (sym same) (own_value (field_types.Named name))
  named_value name value high (to_top type) same = absurd cc
  named_value name value high (from_null other) same = record {
    not_top = refl;
    by_is = refl;
    not_this = λ is. absurd cc;
    of_kind = tt;
    same_number = λ number. absurd (false≢true number);
    long = refl;
    assigned = (from_null name, tt);
  }
  named_value name value high (of_names low other assigned) same = record {
    not_top = refl;
    by_is = refl;
    not_this = λ is. absurd cc;
    of_kind = tt;
    same_number = λ number. absurd (false≢true number);
    long = refl;
    assigned = (subst (IsAssignable headers (types.Object low)) same (of_names low other assigned), tt);
  }

  number_value : (type : FieldType) (value : VType) → IsAssignable headers value (verification_type type)
      → is_number_type (verification_type type) ≡ true
      → Value type value
  number_value type value is number =
      subst (Value type) (sym (exactly headers value (verification_type type) is number)) (own_value type)

  -- What is assignable to a declared type may stand for it.
  pub value_of : (type : FieldType) (value : VType) → IsAssignable headers value (verification_type type) → Value type value
  value_of field_types.Byte value is = number_value field_types.Byte value is refl
  value_of field_types.Char value is = number_value field_types.Char value is refl
  value_of field_types.Short value is = number_value field_types.Short value is refl
  value_of field_types.Bool value is = number_value field_types.Bool value is refl
  value_of field_types.Int value is = number_value field_types.Int value is refl
  value_of field_types.Long value is = number_value field_types.Long value is refl
  value_of field_types.Float value is = number_value field_types.Float value is refl
  value_of field_types.Double value is = number_value field_types.Double value is refl
  value_of (field_types.Named name) value is = named_value name value _ is refl

-- ---- the place of a field

pub record FieldPlace (s : PlanScope) (site number : ℕ) (type : FieldType) : Type 0 where
  pub one : Site
  pub there : slice_get s.flat.sites site ≡ Some one
  pub is_type : slice_get one.fields number ≡ Some type

-- a field that is found has the type of its descriptor
pub field_place : (s : PlanScope) (known : SitesKnown s) (site : ℕ) (one : Site) (field : Reference) (number : ℕ)
    → slice_get s.flat.sites site ≡ Some one
    → field_number s site field ≡ Some number
    → FieldPlace s site number (type_of field.desc)
field_place s known site one field number there is = record {
  one = one;
  there = there;
  is_type =
      ap (λ (all : List FieldType). slice_get all number) (known.fields site one there)
      ∙ number_has_type (headers_of s.classes) one.class field number (rw there at is);
}

pub field_unit_is : (s : PlanScope) (site number : ℕ) (type : FieldType) (p : FieldPlace s site number type)
    → unit_number s.flat (field_unit site number)
    ≡ s.flat.locals + (field_units (take site s.flat.sites) + parameter_units (take number p.one.fields))
field_unit_is s site number type p =
    let fields : fields_at s.flat site ≡ p.one.fields = rw (p.there) refl in
    ap (λ (all : List FieldType). s.flat.locals + field_units (take site s.flat.sites) + parameter_units (take number all)) fields ∙ omega arith

-- ---- objects that are present

names_at : (slots : List Slot) (place site : ℕ) → slice_get slots place ≡ Some (Virt site) → names slots site ≡ true
names_at [] place site is = absurd (none-some (Virt site) is)
names_at (slot ∷ slots) zero site is =
    ap (λ (found : Slot). list_any (is_virtual site) (found ∷ slots)) (same_Some slot (Virt site) is) ∙ rw (eq-eqb site site refl) refl
names_at (slot ∷ slots) (suc place) site is = by (is_virtual site slot) refl (names_at slots place site is) where
  by : (b : Bool) → is_virtual site slot ≡ b → names slots site ≡ true → names (slot ∷ slots) site ≡ true
  by true here rest = rw (here) refl
  by false here rest = rw (here) rest

held_there : (slots : List Slot) (place site : ℕ) → readable (slice_get slots place) ≡ Virt site → slice_get slots place ≡ Some (Virt site)
held_there slots place site is = by (slice_get slots place) refl is where
  by : (found : Option Slot) → slice_get slots place ≡ found → readable found ≡ Virt site → slice_get slots place ≡ Some (Virt site)
  by None none is = absurd cc
  by (Some Plain) some is = absurd cc
  by (Some Unusable) some is = absurd cc
  by (Some (Virt one)) some is = some ∙ ap Some is

first_unit : (left right : List VType) (type : VType) (place : ℕ) → length left ≡ place → slice_get (left ++ (units type ++ right)) place ≡ Some type
first_unit [] right types.Long place long = ap (slice_get (units types.Long ++ right)) (sym long)
first_unit [] right types.Double place long = ap (slice_get (units types.Double ++ right)) (sym long)
first_unit [] right type place long = ap (slice_get (units type ++ right)) (sym long)
first_unit (one ∷ left) right type zero long = absurd cc
first_unit (one ∷ left) right type (suc place) long = first_unit left right type place (let e : length left ≡ place = cc in e)

pub locals_long : (all : List VType) (slots : List Slot) → length all ≤ length slots → length (locals_in all slots) ≡ length all
locals_long [] slots few = refl
locals_long (type ∷ all) [] few = absurd (omega (arith, few))
locals_long (type ∷ all) (slot ∷ slots) few = ap suc (locals_long all slots (omega (arith, few)))

module _ (w : Writing) (given : Given w) (b : Before w given) where
  pub present_held : (place site : ℕ) → held (state w given b) place ≡ Virt site → is_present (state w given b).objects site ≡ true
  present_held place site is =
      (written_state w given b.at b.route b.here.is_route).places site
      (names_at (state w given b).slots place site (held_there (state w given b).slots place site is))

  pub own_long : length (locals_in (read w given b).locals (state w given b).slots) ≡ w.s.flat.locals
  own_long =
      let many = (places w given b).many in
      let mapped = length-map b.point.typed.locals (read_type w.s.flat) in
      locals_long (read w given b).locals (state w given b).slots (omega (arith, many, mapped)) ∙ mapped
      ∙ all_at (λ (p : Point). length p.typed.locals ≡ w.s.flat.locals) w.s.flat.points b.at b.point given.setting.for_plans.widths b.here.there

  -- the field of an object that is present has its type in its unit
  pub field_local : (site number : ℕ) (type : FieldType) → FieldPlace w.s site number type → is_present (state w given b).objects site ≡ true
      → slice_get b.frame.locals (unit_number w.s.flat (field_unit site number)) ≡ Some (verification_type type)
  field_local site number type p present =
      agree_at b.frame.locals _ (unit_number w.s.flat (field_unit site number)) (verification_type type) (locals_agree w given b) written value.not_top where
        value : IsValue (headers_of w.s.classes) (By w given b) type (verification_type type)
        value = declared_value (headers_of w.s.classes) w.form w.blocks type

        at : UnitsAt (units_behind w.s.flat (state w given b).objects) (units_for type)
            (field_units (take site w.s.flat.sites) + parameter_units (take number p.one.fields))
        at = field_units_at w.s.flat (state w given b).objects site p.one number type p.there present p.is_type

        place : ℕ
        place = field_units (take site w.s.flat.sites) + parameter_units (take number p.one.fields)

        unit_is : unit_number w.s.flat (field_unit site number) ≡ length (locals_in (read w given b).locals (state w given b).slots) + place
        unit_is = field_unit_is w.s site number type p ∙ ap (λ (n : ℕ). n + place) (sym own_long)

        written : slice_get (map (By w given b) (locals_in (read w given b).locals (state w given b).slots ++ units_behind w.s.flat (state w given b).objects))
            (unit_number w.s.flat (field_unit site number))
            ≡ Some (verification_type type)
        written =
            slice_get-map (By w given b) _ (unit_number w.s.flat (field_unit site number))
            ∙ ap (option_map (By w given b))
            (ap (slice_get (locals_in (read w given b).locals (state w given b).slots ++ units_behind w.s.flat (state w given b).objects)) unit_is
            ∙ item_behind (locals_in (read w given b).locals (state w given b).slots) (units_behind w.s.flat (state w given b).objects) place
            ∙ ap (λ (all : List VType). slice_get all place) at.is
            ∙ first_unit at.left at.right (verification_type type) place at.long)
            ∙ ap Some value.by_is
