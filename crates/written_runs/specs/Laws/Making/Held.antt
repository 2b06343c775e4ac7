-- What the local units of the second frame hold while make code is done, and that stores into other units leave it.
use Rattle.std.proofs.Common.{◌≡◌, ◌≤◌, ℕ, List, [], ◌∷◌, length, slice_get, Some, IsTrue, IsFalse, refl, sym, ap, subst, ◌∙◌}
use Rattle.std.proofs.lemmas.Bool.{false≢true}
use Rattle.class_model.specs.Descriptors.{units_of}
use Rattle.class_model.specs.declared.descriptor.Kind.{Kind}
use Rattle.class_model.specs.declared.descriptor.Kind.TheVariants as kinds
use Rattle.flow_code.specs.FlatCode.{FlatCode}
use Rattle.flow_code.specs.WrittenUnits.{written_units}
use Rattle.flow_code.specs.declared.point.Point.{Point}
use Rattle.machine_values.specs.Frames.{MethodState}
use Rattle.machine_values.specs.Values.{has_kind}
use Rattle.machine_values.specs.declared.object.Shape.TheVariants.{Folder}
use Rattle.machine_values.specs.declared.value.Value.{Value}
use Rattle.machine_values.specs.declared.value.Value.TheVariants.{Int, Long, Float, Double, Null, Ref}
use Rattle.making_code.specs.MakeCode.{Entry}
use Rattle.making_code.specs.Units.{WUnit, field_unit, object_unit, own, scratch, unit_number}
use Rattle.member_link.specs.Machine.Locals.{width_of}
use Rattle.member_link.specs.Machine.Worlds.{Memory, is_begun}
use Rattle.plan_flow.specs.Plans.{IsMadeIn}
use Rattle.plan_flow.specs.Written.WrittenPrograms.{WrittenMethod}
use Rattle.same_runs.specs.Laws.Names.{value_more}
use Rattle.same_runs.specs.Laws.Stored.{Has, IsStored, Units}
use Rattle.same_runs.specs.Renamings.{Names, NamesMore, SameValue, same_reference}
use Rattle.virtual_state.specs.Sites.{has}
use Rattle.virtual_state.specs.States.{IsState, State, object_of}
use Rattle.virtual_state.specs.declared.slot.Slot.{Slot}
use Rattle.virtual_state.specs.declared.slot.Slot.TheVariants.{Plain, Virt, Unusable}
use Rattle.virtual_state.specs.declared.slot.VObject.{VObject}
use Rattle.written_runs.specs.Inner.MadeObjects.{CanBeKept, CanBeSaved}
use Rattle.written_runs.specs.Inner.PlannedFrames.{scope_in}
use Rattle.written_runs.specs.Inner.Setup.{Setup, first}
use Rattle.written_runs.specs.Laws.LessVirtual.{one_owner}
use Rattle.written_runs.specs.Laws.Making.Places.{AreOther, FitsUnit, clear}
use Rattle.written_runs.specs.VirtualObjects.{AreApart, HasVirtual, RefersTo, Tells, Virtual, Virtuals, local_slots}

-- ---- the first run

-- What make code does not change: the frame of the first run at a point, in a state, with its virtual objects; and the set that is made.
pub record Scene (u : Setup) (w : WrittenMethod) : Type 0 where
  pub virtuals : Virtuals
  pub frame : ℕ
  pub at : ℕ
  pub point : Point
  pub state : State
  pub made : List ℕ
  pub f : MethodState
  pub memory : Memory
  pub is_point : slice_get w.flat.points at ≡ Some point
  pub is_state : IsState state
  pub is_made : IsMadeIn state made
  pub are_apart : AreApart virtuals
  pub begun : (number class : ℕ) (virtual : Virtual)
      → slice_get virtuals number ≡ Some virtual
      → virtual.object.shape ≡ Folder class
      → IsTrue (is_begun memory class)
  pub savable : CanBeSaved w at point state made f
  pub kept : CanBeKept w virtuals frame point state f
  pub tells : Tells (first u) (scope_in u w) virtuals frame point state f
  -- each point has the local units of the flat code
  pub widths : length point.typed.locals ≡ w.flat.locals

-- ---- one unit

-- a unit has the same as a value of the first run
pub record HeldIn (flat : FlatCode) (names : Names) (units : Units) (unit : WUnit) (value : Value) : Type 0 where
  pub also : Value
  pub is : Has units (unit_number flat unit) also
  pub same : SameValue names value also
  pub fits : FitsUnit flat also unit

pub held_still : {flat : FlatCode} {names : Names} {units after : Units} {unit other : WUnit} {value stored : Value}
    → HeldIn flat names units unit value
    → IsStored (unit_number flat other) stored units after
    → FitsUnit flat stored other
    → ((also : Value) → SameValue names value also → AreOther unit also other stored)
    → HeldIn flat names after unit value
held_still {flat = flat} {unit = unit} {other = other} {stored = stored} held is fits differ = record {
  also = held.also;
  is = is.stays (unit_number flat unit) held.also (clear flat unit other held.also stored held.fits fits (differ held.also held.same)) held.is;
  same = held.same;
  fits = held.fits;
}

pub held_now : {flat : FlatCode} {names : Names} {units after : Units} {unit : WUnit} {value stored : Value}
    → IsStored (unit_number flat unit) stored units after
    → FitsUnit flat stored unit
    → SameValue names value stored
    → HeldIn flat names after unit value
held_now {stored = stored} is fits same = record { also = stored; is = is.here; same = same; fits = fits }

pub held_more : {flat : FlatCode} {names more : Names} {units : Units} {unit : WUnit} {value : Value}
    → NamesMore names more
    → HeldIn flat names units unit value
    → HeldIn flat more units unit value
held_more grows held = record { also = held.also; is = held.is; same = value_more grows held.same; fits = held.fits }

-- a unit has the object of a site, which is made
pub record HoldsMade (flat : FlatCode) (virtuals : Virtuals) (frame : ℕ) (names : Names) (units : Units) (unit : WUnit) (site : ℕ)
    : Type 0 where
  pub virtual : Virtual
  pub has_it : HasVirtual virtuals frame site virtual
  pub held : HeldIn flat names units unit (Ref virtual.reference)

-- what stands for a reference is one
pub record IsReference (names : Names) (reference : ℕ) (value : Value) : Type 0 where
  pub named : ℕ
  pub is : value ≡ Ref named
  pub names_it : names reference ≡ Some named

pub reference_is : {names : Names} {reference : ℕ} {value : Value} → SameValue names (Ref reference) value → IsReference names reference value
reference_is (same_reference {named = named} is) = record { named = named; is = refl; names_it = is }

-- a value that refers to the object is held so
pub value_made : {flat : FlatCode} {virtuals : Virtuals} {frame : ℕ} {names : Names} {units : Units} {unit : WUnit} {site : ℕ} {value : Value}
    → AreApart virtuals
    → RefersTo virtuals frame site value
    → HoldsMade flat virtuals frame names units unit site
    → HeldIn flat names units unit value
value_made {flat = flat} {virtuals = virtuals} {frame = frame} {names = names} {units = units} {unit = unit} {site = site} are_apart refers one =
    subst (HeldIn flat names units unit)
    (ap (λ (v : Virtual). Ref v.reference) (one_owner virtuals frame site one.virtual refers.virtual are_apart one.has_it refers.has)
    ∙ sym refers.is) one.held

-- a value of a kind is as wide as the kind
pub width_of_kind : (kind : Kind) (value : Value) → IsTrue (has_kind kind value) → width_of value ≡ units_of kind
width_of_kind kinds.Int (Int number) is = refl
width_of_kind kinds.Long (Long number) is = refl
width_of_kind kinds.Float (Float bits) is = refl
width_of_kind kinds.Double (Double bits) is = refl
width_of_kind kinds.Ref Null is = refl
width_of_kind kinds.Ref (Ref reference) is = refl
width_of_kind kinds.Int (Long number) is = absurd (false≢true is)
width_of_kind kinds.Int (Float bits) is = absurd (false≢true is)
width_of_kind kinds.Int (Double bits) is = absurd (false≢true is)
width_of_kind kinds.Int Null is = absurd (false≢true is)
width_of_kind kinds.Int (Ref reference) is = absurd (false≢true is)
width_of_kind kinds.Long (Int number) is = absurd (false≢true is)
width_of_kind kinds.Long (Float bits) is = absurd (false≢true is)
width_of_kind kinds.Long (Double bits) is = absurd (false≢true is)
width_of_kind kinds.Long Null is = absurd (false≢true is)
width_of_kind kinds.Long (Ref reference) is = absurd (false≢true is)
width_of_kind kinds.Float (Int number) is = absurd (false≢true is)
width_of_kind kinds.Float (Long number) is = absurd (false≢true is)
width_of_kind kinds.Float (Double bits) is = absurd (false≢true is)
width_of_kind kinds.Float Null is = absurd (false≢true is)
width_of_kind kinds.Float (Ref reference) is = absurd (false≢true is)
width_of_kind kinds.Double (Int number) is = absurd (false≢true is)
width_of_kind kinds.Double (Long number) is = absurd (false≢true is)
width_of_kind kinds.Double (Float bits) is = absurd (false≢true is)
width_of_kind kinds.Double Null is = absurd (false≢true is)
width_of_kind kinds.Double (Ref reference) is = absurd (false≢true is)
width_of_kind kinds.Ref (Int number) is = absurd (false≢true is)
width_of_kind kinds.Ref (Long number) is = absurd (false≢true is)
width_of_kind kinds.Ref (Float bits) is = absurd (false≢true is)
width_of_kind kinds.Ref (Double bits) is = absurd (false≢true is)

-- ---- all units

-- What holds while make code is done: plain local units and fields are as before; the objects of some sites are made, each is in its unit, and
-- in those local units and fields to which it was copied so far.
pub record Midway {u : Setup} {w : WrittenMethod} (s : Scene u w) (names : Names) (done : List ℕ) (copied : ℕ → Type 0) (copied_field : ℕ → ℕ → Type 0)
    (units : Units)
    : Type 0 where
  pub plain : (unit : ℕ) (value : Value)
      → slice_get (local_slots s.point s.state) unit ≡ Some Plain
      → slice_get s.f.locals unit ≡ Some (Some value)
      → HeldIn w.flat names units (own unit) value
  pub fields : (site number : ℕ) (told : VObject) (virtual : Virtual) (value : Value)
      → object_of s.state.objects site ≡ Some told
      → HasVirtual s.virtuals s.frame site virtual
      → slice_get told.fields number ≡ Some Plain
      → slice_get virtual.object.values number ≡ Some value
      → HeldIn w.flat names units (field_unit site number) value
  pub objects : (site : ℕ)
      → IsTrue (has done site)
      → HoldsMade w.flat s.virtuals s.frame names units (object_unit site) site
  pub copies : (unit site : ℕ)
      → copied unit
      → slice_get (local_slots s.point s.state) unit ≡ Some (Virt site)
      → IsTrue (has s.made site)
      → HoldsMade w.flat s.virtuals s.frame names units (own unit) site
  pub field_copies : (of number site : ℕ) (told : VObject)
      → copied_field of number
      → IsFalse (has s.made of)
      → object_of s.state.objects of ≡ Some told
      → slice_get told.fields number ≡ Some (Virt site)
      → IsTrue (has s.made site)
      → HoldsMade w.flat s.virtuals s.frame names units (field_unit of number) site
  pub room : written_units w.flat ≤ length units

made_more : {flat : FlatCode} {virtuals : Virtuals} {frame : ℕ} {names more : Names} {units : Units} {unit : WUnit} {site : ℕ}
    → NamesMore names more
    → HoldsMade flat virtuals frame names units unit site
    → HoldsMade flat virtuals frame more units unit site
made_more grows one = record { virtual = one.virtual; has_it = one.has_it; held = held_more grows one.held }

pub made_still : {flat : FlatCode} {virtuals : Virtuals} {frame : ℕ} {names : Names} {units after : Units} {unit other : WUnit} {site : ℕ}
    {stored : Value}
    → HoldsMade flat virtuals frame names units unit site
    → IsStored (unit_number flat other) stored units after
    → FitsUnit flat stored other
    → ((also : Value) → width_of also ≡ 1 → AreOther unit also other stored)
    → HoldsMade flat virtuals frame names after unit site
made_still {names = names} one is fits differ = record {
  virtual = one.virtual;
  has_it = one.has_it;
  held = held_still one.held is fits (λ also same. differ also (let r = reference_is same in ap width_of r.is));
}

-- under more names
pub midway_more : {u : Setup} {w : WrittenMethod} {s : Scene u w} {names more : Names} {done : List ℕ} {copied : ℕ → Type 0} {copied_field : ℕ → ℕ → Type 0}
    {units : Units}
    → NamesMore names more
    → Midway s names done copied copied_field units
    → Midway s more done copied copied_field units
midway_more grows m = record {
  plain = λ unit value plain is. held_more grows (m.plain unit value plain is);
  fields = λ site number told virtual value is there plain here. held_more grows (m.fields site number told virtual value is there plain here);
  objects = λ site is. made_more grows (m.objects site is);
  copies = λ unit site is slot among. made_more grows (m.copies unit site is slot among);
  field_copies = λ of number site told is stays found slot among. made_more grows (m.field_copies of number site told is stays found slot among);
  room = m.room;
}

-- ---- entries that are saved

-- the plain entries of a list have their values in their scratch units
abbrev pub SavedSlot : FlatCode → Names → Units → ℕ → Slot → Value → Type 0
SavedSlot flat names units below Plain value = HeldIn flat names units (scratch below) value
SavedSlot flat names units below slot value = Unit {0}

abbrev pub SavedEntries : FlatCode → Names → Units → List Entry → List Value → Type 0
SavedEntries flat names units [] [] = Unit {0}
SavedEntries flat names units (entry ∷ entries) (value ∷ values) =
    SavedSlot flat names units entry.below entry.slot value × SavedEntries flat names units entries values
SavedEntries flat names units entries values = ⊥

pub saved_more : {names more : Names} (flat : FlatCode) (units : Units) (entries : List Entry) (values : List Value)
    → NamesMore names more
    → SavedEntries flat names units entries values
    → SavedEntries flat more units entries values
saved_more flat units [] [] grows saved = tt
saved_more flat units [] (value ∷ values) grows saved = absurd saved
saved_more flat units (entry ∷ entries) [] grows saved = absurd saved
saved_more {names = names} {more = more} flat units (entry ∷ entries) (value ∷ values) grows saved =
    (by entry.slot saved.0, saved_more flat units entries values grows saved.1) where
      by : (slot : Slot) → SavedSlot flat names units entry.below slot value → SavedSlot flat more units entry.below slot value
      by Plain held = held_more grows held
      by (Virt site) held = tt
      by Unusable held = tt

-- a store into another unit leaves them
pub saved_still : (flat : FlatCode) (names : Names) {units after : Units} {other : WUnit} {stored : Value} (entries : List Entry)
    (values : List Value)
    → IsStored (unit_number flat other) stored units after
    → FitsUnit flat stored other
    → ((below : ℕ) (also : Value) → AreOther (scratch below) also other stored)
    → SavedEntries flat names units entries values
    → SavedEntries flat names after entries values
saved_still flat names [] [] is fits differ saved = tt
saved_still flat names [] (value ∷ values) is fits differ saved = absurd saved
saved_still flat names (entry ∷ entries) [] is fits differ saved = absurd saved
saved_still flat names {units = units} {after = after} (entry ∷ entries) (value ∷ values) is fits differ saved =
    (by entry.slot saved.0, saved_still flat names entries values is fits differ saved.1) where
      by : (slot : Slot) → SavedSlot flat names units entry.below slot value → SavedSlot flat names after entry.below slot value
      by Plain held = held_still held is fits (λ also same. differ entry.below also)
      by (Virt site) held = tt
      by Unusable held = tt
