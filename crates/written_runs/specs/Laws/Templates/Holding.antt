-- What the second frame's local units hold at a planned frame, and what they hold behind stores into the units of a site's fields.
use Rattle.std.proofs.Common.{◌≡◌, ◌≢◌, ◌≤◌, ◌+◌, ℕ, zero, suc, Bool, true, false, List, [], ◌∷◌, length, slice_get, Some, IsTrue, refl, sym, subst, ◌∙◌, arith}
use Rattle.std.proofs.lemmas.Option.{none-some, same_Some, slice_get_within}
use Rattle.class_model.specs.Descriptors.{kind_of, units_of}
use Rattle.class_model.specs.Laws.Lists.{at_index}
use Rattle.class_model.specs.declared.descriptor.FieldType.{FieldType}
use Rattle.class_model.specs.declared.descriptor.Kind.{Kind}
use Rattle.class_model.specs.declared.descriptor.Kind.TheVariants as kinds
use Rattle.class_model.specs.declared.frame.VType.{VType}
use Rattle.class_model.specs.declared.frame.VType.TheVariants.{Top}
use Rattle.flow_code.specs.FlatCode.{FlatCode}
use Rattle.flow_code.specs.WrittenUnits.{written_units}
use Rattle.flow_code.specs.declared.point.Point.{Point}
use Rattle.flow_code.specs.declared.point.Site.{Site}
use Rattle.machine_values.specs.Frames.{MethodState}
use Rattle.machine_values.specs.Values.{blank_of_kind, has_kind, is_wide_value}
use Rattle.machine_values.specs.declared.value.Value.{Value}
use Rattle.machine_values.specs.declared.value.Value.TheVariants.{Ref}
use Rattle.making_code.specs.Units.{WUnit, field_unit, own, unit_number}
use Rattle.member_link.specs.Machine.Locals.{stored, width_of}
use Rattle.member_link.specs.Machine.Ops.{Op, push_value, store_local}
use Rattle.member_link.specs.Machine.Runs.{Run}
use Rattle.member_link.specs.Machine.Stepping.{next_with}
use Rattle.plan_flow.specs.Written.Blocks.{state_written}
use Rattle.same_runs.specs.Laws.Moves.{same_kind, same_wide}
use Rattle.same_runs.specs.Laws.Stored.{IsStored, Units, stored_is, stores}
use Rattle.same_runs.specs.QuietMoves.{pushed}
use Rattle.same_runs.specs.Renamings.{Names, SameValue, same_double, same_float, same_int, same_long, same_null}
use Rattle.virtual_state.specs.Laws.Fields.{unusable_made}
use Rattle.virtual_state.specs.States.{object_of}
use Rattle.virtual_state.specs.Sites.{has}
use Rattle.virtual_state.specs.declared.slot.Slot.TheVariants.{Plain}
use Rattle.virtual_state.specs.declared.slot.VObject.{VObject}
use Rattle.written_runs.specs.Inner.PlannedFrames.{KeptIn}
use Rattle.written_runs.specs.Inner.Setup.{Setup}
use Rattle.written_runs.specs.Laws.Making.Held.{HeldIn, held_now, held_still, width_of_kind}
use Rattle.written_runs.specs.Laws.Making.Places.{AreOther, FieldBounds, FitsUnit, IsFieldAt, field_bounds, fits_field, fits_own}
use Rattle.written_runs.specs.Laws.PlannedTurns.{AtPlanned}
use Rattle.written_runs.specs.Laws.Templates.Fields.{FieldTold, field_told}
use Rattle.written_runs.specs.Laws.Templates.Items.{all_moved}
use Rattle.written_runs.specs.Laws.Templates.Known.{TemplateLaws, keeps, ready, reached, room_here, stands, state_at, written}
use Rattle.written_runs.specs.Laws.Templates.Operands.{fields_of}
use Rattle.written_runs.specs.Laws.TypedKept.{HasPlaces, local_type, places_of}
use Rattle.written_runs.specs.VirtualObjects.{HasVirtual, TellFields, TellsField, Virtual, local_slots, tells_plain}

-- ---- what they hold

module _ (u : Setup) (laws : TemplateLaws u) {measure : ℕ} {one other : Run} (a : AtPlanned u measure one other) where
  places : HasPlaces a.settled.point (state_written a.settled.route)
  places =
      places_of u a.in_planned.one a.f.place a.settled.point (state_written a.settled.route) (reached u laws a).is_point
      (unusable_made (has a.settled.route.made) a.settled.route.state.slots ∙ (state_at u laws a).places)

  width_here : length a.settled.point.typed.locals ≡ a.in_planned.one.flat.locals
  width_here =
      at_index (λ (q : Point). length q.typed.locals ≡ a.in_planned.one.flat.locals) a.in_planned.one.flat.points a.f.place a.settled.point
      (ready u laws a).for_plans.widths (reached u laws a).is_point

  pub own_held : (unit : ℕ) (value : Value)
      → slice_get (local_slots a.settled.point (state_written a.settled.route)) unit ≡ Some Plain
      → slice_get a.f.locals unit ≡ Some (Some value)
      → HeldIn a.in_planned.one.flat a.t.along.names a.g.locals (own unit) value
  own_held unit value plain there =
      record { also = kept.also; is = kept.is; same = kept.same; fits = fits_own (by (is_wide_value value) refl) } where
        kept : KeptIn a.t.along.names a.g unit value
        kept = (keeps u laws a).locals unit value plain there

        typed_here : (type : VType) × (slice_get a.settled.point.typed.locals unit ≡ Some type) × (type ≢ Top)
        typed_here = local_type places unit plain

        by : (wide : Bool) → is_wide_value value ≡ wide → unit + width_of kept.also ≤ a.in_planned.one.flat.locals
        by true is_wide =
            let two : width_of kept.also ≡ 2 = rw (same_wide kept.same ∙ is_wide) refl in
            let behind =
            laws.settle.types.wide one.world a.f a.ones a.in_planned.one a.settled.point a.t.along.typed (stands u laws a) (written u laws a)
            (reached u laws a).is_point (room_here u laws a) unit typed_here.0 value typed_here.1 typed_here.2 there is_wide in
            let low = slice_get_within a.settled.point.typed.locals (suc unit) Top behind in
            let many = width_here in
            omega (arith, two, low, many)
        by false narrow =
            let width : width_of kept.also ≡ 1 = rw (same_wide kept.same ∙ narrow) refl in
            let low = slice_get_within a.settled.point.typed.locals unit typed_here.0 typed_here.1 in
            let many = width_here in
            omega (arith, width, low, many)

  pub field_held : (site number : ℕ) (told : VObject) (virtual : Virtual) (value : Value)
      → object_of (state_written a.settled.route).objects site ≡ Some told
      → HasVirtual a.t.along.virtuals (length a.ones) site virtual
      → slice_get told.fields number ≡ Some Plain
      → slice_get virtual.object.values number ≡ Some value
      → HeldIn a.in_planned.one.flat a.t.along.names a.g.locals (field_unit site number) value
  field_held site number told virtual value is_told has_it plain is_value = record {
    also = kept.also;
    is = kept.is;
    same = kept.same;
    fits =
        fits_field at.type (record { one = fs.0; is_site = fs.1; is_type = at.is_type })
        (narrow (subst (TellsField a.t.along.virtuals (length a.ones) at.type value)
        (same_Some at.slot Plain (sym at.is_slot ∙ plain)) at.tells));
  } where
    kept : KeptIn a.t.along.names a.g (unit_number a.in_planned.one.flat (field_unit site number)) value
    kept = (keeps u laws a).fields site number told virtual value is_told has_it plain is_value

    fs : (one_site : Site)
        × (slice_get a.in_planned.one.flat.sites site ≡ Some one_site)
        × TellFields a.t.along.virtuals (length a.ones) one_site.fields virtual.object.values told.fields
    fs = fields_of u laws a site told (Ref virtual.reference) is_told (record { virtual = virtual; has = has_it; is = refl })

    at : FieldTold a.t.along.virtuals (length a.ones) fs.0.fields told.fields number value
    at = field_told a.t.along.virtuals (length a.ones) fs.0.fields virtual.object.values told.fields number value fs.2 is_value

    narrow : TellsField a.t.along.virtuals (length a.ones) at.type value Plain → width_of kept.also ≤ units_of (kind_of at.type)
    narrow (tells_plain kind stays) =
        let wide = width_of_kind (kind_of at.type) kept.also (same_kind (kind_of at.type) kept.same ∙ kind) in omega (arith, wide)

-- ---- stores into the units of fields

-- what a unit of a field holds behind a store
pub record StoredIn (flat : FlatCode) (site number : ℕ) (type : FieldType) (value : Value) (units after : Units) : Type 0 where
  pub is_stored : stored (unit_number flat (field_unit site number)) value units ≡ Some after
  pub is : IsStored (unit_number flat (field_unit site number)) value units after
  pub fits : FitsUnit flat value (field_unit site number)

pub field_stored : (flat : FlatCode) (site number : ℕ) (type : FieldType) (value : Value) (units : Units)
    → IsFieldAt flat site number type
    → IsTrue (has_kind (kind_of type) value)
    → written_units flat ≤ length units
    → (after : Units) × StoredIn flat site number type value units after
field_stored flat site number type value units is_field kind room = (
  put.0,
  record {
    is_stored = put.1;
    is = stored_is (unit_number flat (field_unit site number)) value units put.0 put.1;
    fits = fits_field type is_field (omega (arith, wide));
  },
) where
  wide : width_of value ≡ units_of (kind_of type)
  wide = width_of_kind (kind_of type) value kind

  b : FieldBounds flat site number (units_of (kind_of type))
  b = field_bounds flat site number type is_field

  put : (after : Units) × (stored (unit_number flat (field_unit site number)) value units ≡ Some after)
  put =
      stores (unit_number flat (field_unit site number)) value units
      (let s = b.starts in let h = b.high in let e = b.ends in let w = wide in omega (arith, s, h, e, w, room))

-- zero or null is of its kind, and the same in both runs
pub blank_kind : (kind : Kind) → has_kind kind (blank_of_kind kind) ≡ true
blank_kind kinds.Int = refl
blank_kind kinds.Long = refl
blank_kind kinds.Float = refl
blank_kind kinds.Double = refl
blank_kind kinds.Ref = refl

pub blank_same : (names : Names) (kind : Kind) → SameValue names (blank_of_kind kind) (blank_of_kind kind)
blank_same names kinds.Int = same_int
blank_same names kinds.Long = same_long
blank_same names kinds.Float = same_float
blank_same names kinds.Double = same_double
blank_same names kinds.Ref = same_null

-- the fields of a site are cleared one by one
abbrev pub clearing_ops : FlatCode → ℕ → ℕ → List FieldType → List Op
clearing_ops flat site number [] = []
clearing_ops flat site number (type ∷ types) =
    push_value (blank_of_kind (kind_of type))
    ∷ store_local (kind_of type) (unit_number flat (field_unit site number))
    ∷ clearing_ops flat site (suc number) types

-- What the second frame holds behind them.
pub record Cleared (flat : FlatCode) (names : Names) (site number : ℕ) (types : List FieldType) (g middle : MethodState) : Type 0 where
  pub moved : all_moved (clearing_ops flat site number types) g ≡ Some middle
  pub stack : middle.stack ≡ g.stack
  pub room : length middle.locals ≡ length g.locals
  pub still : (unit : WUnit) (value : Value)
      → ((also stored_value : Value) (other : ℕ) → number ≤ other → AreOther unit also (field_unit site other) stored_value)
      → HeldIn flat names g.locals unit value
      → HeldIn flat names middle.locals unit value
  pub blank : (place : ℕ) (type : FieldType)
      → slice_get types place ≡ Some type
      → HeldIn flat names middle.locals (field_unit site (number + place)) (blank_of_kind (kind_of type))

cleared_step : (flat : FlatCode) (names : Names) (site number : ℕ) (type : FieldType) (types : List FieldType) (g middle : MethodState) (after : Units)
    → StoredIn flat site number type (blank_of_kind (kind_of type)) g.locals after
    → Cleared flat names site (suc number) types
    (record (next_with (pushed g (blank_of_kind (kind_of type))) g.stack) { locals = after }) middle
    → Cleared flat names site number (type ∷ types) g middle
cleared_step flat names site number type types g middle after put rest = record {
  moved = rw (blank_kind (kind_of type), put.is_stored) rest.moved;
  stack = rest.stack;
  room = rest.room ∙ put.is.count;
  still = λ unit value differs held.
      rest.still unit value (λ also stored_value other low. differs also stored_value other (omega (arith, low)))
      (held_still held put.is put.fits (λ also same. differs also (blank_of_kind (kind_of type)) number (omega arith)));
  blank = of_field;
} where
  of_field : (place : ℕ) (other : FieldType)
      → slice_get (type ∷ types) place ≡ Some other
      → HeldIn flat names middle.locals (field_unit site (number + place)) (blank_of_kind (kind_of other))
  of_field zero other is =
      let zeroth : number ≡ number + 0 = omega arith in
      subst (λ (n : ℕ). HeldIn flat names middle.locals (field_unit site n) (blank_of_kind (kind_of other))) zeroth
      (subst (λ (t : FieldType). HeldIn flat names middle.locals (field_unit site number) (blank_of_kind (kind_of t))) (same_Some type other is)
      (rest.still (field_unit site number) (blank_of_kind (kind_of type))
      (λ also stored_value another low same_site same_number. absurd (omega (arith, low, same_number)))
      (held_now put.is put.fits (blank_same names (kind_of type)))))
  of_field (suc place) other is =
      let same : suc number + place ≡ number + suc place = omega arith in
      subst (λ (n : ℕ). HeldIn flat names middle.locals (field_unit site n) (blank_of_kind (kind_of other))) same (rest.blank place other is)

pub cleared_all : (flat : FlatCode) (names : Names) (site number : ℕ) (types : List FieldType) (g : MethodState)
    → ((place : ℕ) (type : FieldType) → slice_get types place ≡ Some type → IsFieldAt flat site (number + place) type)
    → written_units flat ≤ length g.locals
    → (middle : MethodState) × Cleared flat names site number types g middle
cleared_all flat names site number [] g fields room = (
  g,
  record {
    moved = refl;
    stack = refl;
    room = refl;
    still = λ unit value differs held. held;
    blank = λ place type is. absurd (none-some type is);
  },
)
cleared_all flat names site number (type ∷ types) g fields room =
    let zeroth : number + 0 ≡ number = omega arith in
    let here : IsFieldAt flat site number type = subst (λ (n : ℕ). IsFieldAt flat site n type) zeroth (fields 0 type refl) in
    let put = field_stored flat site number type (blank_of_kind (kind_of type)) g.locals here (blank_kind (kind_of type)) room in
    let many = put.1.is.count in
    let rest = cleared_all flat names site (suc number) types
    (record (next_with (pushed g (blank_of_kind (kind_of type))) g.stack) { locals = put.0 })
    (λ place other is. shifted number place other (fields (suc place) other is))
    (omega (arith, many, room)) in
    (rest.0, cleared_step flat names site number type types g rest.0 put.0 put.1 rest.1) where
      shifted : (n place : ℕ) (other : FieldType) → IsFieldAt flat site (n + suc place) other → IsFieldAt flat site (suc n + place) other
      shifted n place other is =
          let same : n + suc place ≡ suc n + place = omega arith in subst (λ (k : ℕ). IsFieldAt flat site k other) same is
