-- The stack entries above the lowest virtual object that is made: they are saved in scratch units, and loaded again behind the objects that were
-- made.
use Rattle.std.proofs.Common.{◌≡◌, inr, ◌+◌, ◌≤◌, ℕ, suc, List, [], ◌∷◌, ◌++◌, filter, length, map, reverse, slice_get, Some, IsTrue, refl, sym, ap, subst, ◌∙◌, arith}
use Rattle.std.proofs.lemmas.List.{length-append, map-append, reverse-append}
use Rattle.class_model.specs.Frames.{depth, units, units_of_entries}
use Rattle.class_model.specs.declared.descriptor.Kind.TheVariants as kinds
use Rattle.class_model.specs.declared.frame.VType.{VType}
use Rattle.class_model.specs.declared.frame.VType.TheVariants as vtypes
use Rattle.machine_values.specs.Values.{has_kind}
use Rattle.machine_values.specs.declared.value.Value.{Value}
use Rattle.making_code.specs.Items.{WInstr}
use Rattle.making_code.specs.MakeCode.{Entry, entries_from, is_plain, kind_of_type, save}
use Rattle.making_code.specs.Units.{first_scratch_unit, scratch, unit_number}
use Rattle.member_link.specs.Machine.Locals.{stored, width_of}
use Rattle.member_link.specs.Machine.Worlds.{Memory}
use Rattle.plan_flow.specs.Written.WrittenPrograms.{WrittenMethod}
use Rattle.same_runs.specs.Laws.Moves.{same_kind}
use Rattle.same_runs.specs.Laws.Stored.{IsStored, Units, stored_is, stores}
use Rattle.same_runs.specs.Renamings.{Names, SameValue}
use Rattle.virtual_state.specs.declared.slot.Slot.{Slot}
use Rattle.virtual_state.specs.declared.slot.Slot.TheVariants.{Plain, Virt, Unusable}
use Rattle.written_runs.specs.Inner.MadeObjects.{StandAt}
use Rattle.written_runs.specs.Inner.PlannedFrames.{KeepStack}
use Rattle.written_runs.specs.Inner.Setup.{Setup}
use Rattle.written_runs.specs.Laws.GivenValues.{push_one}
use Rattle.written_runs.specs.Laws.Making.Held.{Midway, SavedEntries, Scene, held_now, held_still, width_of_kind}
use Rattle.written_runs.specs.Laws.Making.Places.{fits_scratch}
use Rattle.written_runs.specs.Laws.Making.Steps.{Doing, Done, done_as, done_none, done_then, stand_behind, stand_first, stores_unit}
use Rattle.written_runs.specs.Laws.Making.Stores.{midway_scratch}

-- ---- entries

-- a value of the kind of a type has its entry's width
pub width_of_type : (type : VType) (value : Value) → IsTrue (has_kind (kind_of_type type) value) → width_of value ≡ depth (type ∷ [])
width_of_type vtypes.Top value is = width_of_kind kinds.Ref value is
width_of_type vtypes.Int value is = width_of_kind kinds.Int value is
width_of_type vtypes.Float value is = width_of_kind kinds.Float value is
width_of_type vtypes.Long value is = width_of_kind kinds.Long value is
width_of_type vtypes.Double value is = width_of_kind kinds.Double value is
width_of_type vtypes.Null value is = width_of_kind kinds.Ref value is
width_of_type vtypes.UninitThis value is = width_of_kind kinds.Ref value is
width_of_type (vtypes.Object name) value is = width_of_kind kinds.Ref value is
width_of_type (vtypes.Uninit at) value is = width_of_kind kinds.Ref value is

-- plain values are of the kinds of their types
pub record HasKinds (types : List VType) (slots : List Slot) (values : List Value) : Type 0 where
  pub each : (place : ℕ) (type : VType) (value : Value)
      → slice_get types place ≡ Some type
      → slice_get slots place ≡ Some Plain
      → slice_get values place ≡ Some value
      → IsTrue (has_kind (kind_of_type type) value)

pub kinds_behind : {type : VType} {types : List VType} {slot : Slot} {slots : List Slot} {value : Value} {values : List Value}
    → HasKinds (type ∷ types) (slot ∷ slots) (value ∷ values)
    → HasKinds types slots values
kinds_behind all = record { each = λ place type value is slot here. all.each (suc place) type value is slot here }

-- no slot is unusable
pub record AllUsable (slots : List Slot) : Type 0 where
  pub each : (place : ℕ) → slice_get slots place ≡ Some Unusable → ⊥

pub usable_behind : {slot : Slot} {slots : List Slot} → AllUsable (slot ∷ slots) → AllUsable slots
usable_behind all = record { each = λ place is. all.each (suc place) is }

-- as many types as slots, and as many values
pub data AreMany : List VType → List Slot → List Value → Type 0 where
  no_entries : AreMany [] [] []
  one_entry : {type : VType} {types : List VType} {slot : Slot} {slots : List Slot} {value : Value} {values : List Value}
      → AreMany types slots values
      → AreMany (type ∷ types) (slot ∷ slots) (value ∷ values)

pub are_many : (types : List VType) (slots : List Slot) (values : List Value) → length slots ≡ length types → length values ≡ length types
    → AreMany types slots values
are_many [] [] [] one other = no_entries
are_many [] [] (value ∷ values) one other = absurd (omega (arith, other))
are_many [] (slot ∷ slots) values one other = absurd (omega (arith, one))
are_many (type ∷ types) [] values one other = absurd (omega (arith, one))
are_many (type ∷ types) (slot ∷ slots) [] one other = absurd (omega (arith, other))
are_many (type ∷ types) (slot ∷ slots) (value ∷ values) one other =
    one_entry (are_many types slots values (omega (arith, one)) (omega (arith, other)))

-- the value that the second run has of a plain one
pub record HasPlain (names : Names) (slots : List Slot) (value : Value) (values others : List Value) : Type 0 where
  pub other : Value
  pub rest : List Value
  pub are : others ≡ other ∷ rest
  pub same : SameValue names value other
  pub behind : KeepStack names slots values rest

pub has_plain : {names : Names} (slots : List Slot) (value : Value) (values others : List Value)
    → KeepStack names (Plain ∷ slots) (value ∷ values) others
    → HasPlain names slots value values others
has_plain slots value values [] kept = absurd kept
has_plain slots value values (other ∷ rest) kept = record { other = other; rest = rest; are = refl; same = kept.0; behind = kept.1 }

pub none_kept : {names : Names} (others : List Value) → KeepStack names [] [] others → others ≡ []
none_kept [] kept = refl
none_kept (other ∷ others) kept = elim kept [ ]

-- ---- saving

-- what is stored lower leaves entries that are saved
saved_above : (w : WrittenMethod) (names : Names) {units after : Units} {stored_value : Value} (stored_at : ℕ)
    (types : List VType) (slots : List Slot) (values : List Value) (place below : ℕ)
    → IsStored (unit_number w.flat (scratch stored_at)) stored_value units after
    → stored_at + width_of stored_value ≤ below
    → SavedEntries w.flat names units (entries_from place below types slots) values
    → SavedEntries w.flat names after (entries_from place below types slots) values
saved_above w names stored_at [] slots [] place below is low all = tt
saved_above w names stored_at [] slots (value ∷ values) place below is low all = absurd all
saved_above w names stored_at (type ∷ types) [] [] place below is low all = tt
saved_above w names stored_at (type ∷ types) [] (value ∷ values) place below is low all = absurd all
saved_above w names stored_at (type ∷ types) (slot ∷ slots) [] place below is low all = absurd all
saved_above w names stored_at (type ∷ types) (Plain ∷ slots) (value ∷ values) place below is low all = (
  held_still {other = scratch stored_at} all.0 is fits_scratch (λ also same. inr low),
  saved_above w names stored_at types slots values (suc place) (below + depth (type ∷ [])) is (omega (arith, low)) all.1,
)
saved_above w names stored_at (type ∷ types) (Virt site ∷ slots) (value ∷ values) place below is low all =
    (tt, saved_above w names stored_at types slots values (suc place) (below + depth (type ∷ [])) is (omega (arith, low)) all.1)
saved_above w names stored_at (type ∷ types) (Unusable ∷ slots) (value ∷ values) place below is low all =
    (tt, saved_above w names stored_at types slots values (suc place) (below + depth (type ∷ [])) is (omega (arith, low)) all.1)

-- plain entries, the topmost first
abbrev plain_down : List Entry → List Entry
plain_down entries = reverse (filter (λ entry. is_plain entry.slot) entries)

pub depth_cons : (type : VType) (types : List VType) → depth (type ∷ types) ≡ depth (type ∷ []) + depth types
depth_cons type types =
    let both = length-append (units type) (units_of_entries types) in
    let one = length-append (units type) [] in
    omega (arith, both, one)

module _ {u : Setup} {w : WrittenMethod} (d : Doing u w) (s : Scene u w) where
  -- behind the saves
  pub record AreSaved (names : Names) (instrs : List WInstr) (saved_list : List Entry) (values : List Value) (place steps : ℕ) (memory : Memory)
      (locals : Units) (stack after : List Value)
      : Type 0 where
    pub units : Units
    pub count : length units ≡ length locals
    pub done : Done d instrs place steps memory memory locals units stack after
    pub midway : Midway s names [] (λ unit. ⊥) (λ of number. ⊥) units
    pub entries : SavedEntries w.flat names units saved_list values

  -- a plain entry is saved behind those above it
  save_plain : {names : Names} (type : VType) (types : List VType) (slots : List Slot) (value : Value) (values others rest : List Value)
      (place number below steps : ℕ) (memory : Memory) (locals : Units) (plain : HasPlain names slots value values others)
      → IsTrue (has_kind (kind_of_type type) value)
      → first_scratch_unit w.flat + (below + depth (type ∷ types)) ≤ length locals
      → StandAt u w place (map save (plain_down (entries_from number below (type ∷ types) (Plain ∷ slots))))
      → (StandAt u w place (map save (plain_down (entries_from (suc number) (below + depth (type ∷ [])) types slots)))
      → AreSaved names (map save (plain_down (entries_from (suc number) (below + depth (type ∷ [])) types slots)))
      (entries_from (suc number) (below + depth (type ∷ [])) types slots) values place steps memory locals
      (reverse plain.rest ++ (plain.other ∷ rest)) (plain.other ∷ rest))
      → AreSaved names (map save (plain_down (entries_from number below (type ∷ types) (Plain ∷ slots))))
      (entries_from number below (type ∷ types) (Plain ∷ slots)) (value ∷ values) place steps memory locals (reverse others ++ rest) rest
  save_plain {names = names} type types slots value values others rest place number below steps memory locals plain kind room stand above = record {
    units = into.0;
    count = is.count ∙ tail.count;
    done = done_as d (sym code_is) stack_is refl (done_then d tail.done last);
    midway = midway_scratch s below plain.other tail.midway is;
    entries = (
      held_now is fits_scratch plain.same,
      saved_above w names below types slots values (suc number) (below + depth (type ∷ [])) is (omega (arith, wide)) tail.entries,
    );
  } where
    entry : Entry
    entry = record { place = number; below = below; kind = kind_of_type type; slot = Plain }

    others_entries : List Entry
    others_entries = entries_from (suc number) (below + depth (type ∷ [])) types slots

    before : List WInstr
    before = map save (plain_down others_entries)

    code_is : map save (plain_down (entry ∷ others_entries)) ≡ before ++ (save entry ∷ [])
    code_is =
        ap (map save) (reverse-append (entry ∷ []) (filter (λ (e : Entry). is_plain e.slot) others_entries))
        ∙ map-append save (plain_down others_entries) (entry ∷ [])

    stand_as : StandAt u w place (before ++ (save entry ∷ []))
    stand_as = subst (StandAt u w place) code_is stand

    tail : AreSaved names before others_entries values place steps memory locals (reverse plain.rest ++ (plain.other ∷ rest))
        (plain.other ∷ rest)
    tail = above (stand_first before (save entry ∷ []) stand_as)

    fits : IsTrue (has_kind (kind_of_type type) plain.other)
    fits = same_kind (kind_of_type type) plain.same ∙ kind

    wide : width_of plain.other ≡ depth (type ∷ [])
    wide = width_of_type type plain.other fits

    into : (units : Units) × (stored (unit_number w.flat (scratch below)) plain.other tail.units ≡ Some units)
    into =
        stores (unit_number w.flat (scratch below)) plain.other tail.units
        (let counted = depth_cons type types in let as_long = tail.count in omega (arith, room, counted, wide, as_long))

    is : IsStored (unit_number w.flat (scratch below)) plain.other tail.units into.0
    is = stored_is (unit_number w.flat (scratch below)) plain.other tail.units into.0 into.1

    last : Done d (save entry ∷ []) (place + length before) tail.done.then_steps memory memory tail.units into.0 (plain.other ∷ rest) rest
    last =
        stores_unit d (kind_of_type type) (scratch below) tail.done.then_steps memory tail.units into.0 rest plain.other
        (stand_behind before (save entry ∷ []) stand_as) into.1 fits

    stack_is : reverse plain.rest ++ (plain.other ∷ rest) ≡ reverse others ++ rest
    stack_is = push_one plain.other plain.rest rest ∙ ap (λ (os : List Value). reverse os ++ rest) (sym plain.are)

  pub saves : {names : Names} (types : List VType) (slots : List Slot) (values others rest : List Value) (place number below steps : ℕ)
      (memory : Memory) (locals : Units)
      → AreMany types slots values
      → AllUsable slots
      → HasKinds types slots values
      → KeepStack names slots values others
      → first_scratch_unit w.flat + (below + depth types) ≤ length locals
      → Midway s names [] (λ unit. ⊥) (λ of number. ⊥) locals
      → StandAt u w place (map save (plain_down (entries_from number below types slots)))
      → AreSaved names (map save (plain_down (entries_from number below types slots))) (entries_from number below types slots) values place steps
      memory locals (reverse others ++ rest) rest
  saves [] [] (value ∷ values) others rest place number below steps memory locals many usable kinds kept room midway stand = elim many [ ]
  saves [] (slot ∷ slots) values others rest place number below steps memory locals many usable kinds kept room midway stand = elim many [ ]
  saves (type ∷ types) [] values others rest place number below steps memory locals many usable kinds kept room midway stand = elim many [ ]
  saves (type ∷ types) (Plain ∷ slots) [] others rest place number below steps memory locals many usable kinds kept room midway stand = elim many [ ]
  saves (type ∷ types) (Virt site ∷ slots) [] others rest place number below steps memory locals many usable kinds kept room midway stand =
      elim many [ ]
  saves (type ∷ types) (Unusable ∷ slots) [] others rest place number below steps memory locals many usable kinds kept room midway stand =
      elim many [ ]
  saves {names = names} [] [] [] others rest place number below steps memory locals no_entries usable kinds kept room midway stand =
      subst (λ (os : List Value). AreSaved names [] [] [] place steps memory locals (reverse os ++ rest) rest) (sym (none_kept others kept)) (record {
        units = locals;
        count = refl;
        done = done_none d place steps memory locals rest;
        midway = midway;
        entries = tt;
      })
  saves (type ∷ types) (Virt site ∷ slots) (value ∷ values) others rest place number below steps memory locals (one_entry many) usable kinds
      kept room midway stand =
      let tail = saves types slots values others rest place (suc number) (below + depth (type ∷ [])) steps memory locals many
      (usable_behind usable) (kinds_behind kinds) kept (let counted = depth_cons type types in omega (arith, room, counted)) midway stand in
      record { units = tail.units; count = tail.count; done = tail.done; midway = tail.midway; entries = (tt, tail.entries) }
  saves (type ∷ types) (Unusable ∷ slots) (value ∷ values) others rest place number below steps memory locals (one_entry many) usable kinds
      kept room midway stand =
      absurd (usable.each 0 refl)
  saves (type ∷ types) (Plain ∷ slots) (value ∷ values) others rest place number below steps memory locals (one_entry many) usable kinds kept
      room midway stand =
      let plain = has_plain slots value values others kept in
      save_plain type types slots value values others rest place number below steps memory locals plain (kinds.each 0 type value refl refl refl)
      room stand (λ stand_above.
      saves types slots values plain.rest (plain.other ∷ rest) place (suc number) (below + depth (type ∷ [])) steps memory locals many
      (usable_behind usable) (kinds_behind kinds) plain.behind (let counted = depth_cons type types in omega (arith, room, counted)) midway
      stand_above)
