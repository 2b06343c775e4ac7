-- The stack cut at the lowest entry whose object is made: what is below stays as it is.
use Rattle.std.proofs.Common.{◌≡◌, ◌≢◌, ◌+◌, ℕ, zero, suc, Bool, true, false, List, [], ◌∷◌, ◌++◌, filter, length, map, reverse, slice_get, Some, IsTrue, refl, sym, ap, subst, ◌∙◌, arith}
use Rattle.std.proofs.lemmas.List.{reverse-append}
use Rattle.std.proofs.lemmas.Option.{none-some, same_Some}
use Rattle.plan_flow.specs.Laws.OpenEdges.{still_in}
use Rattle.class_model.specs.Frames.{depth}
use Rattle.class_model.specs.declared.frame.VType.{VType}
use Rattle.class_model.specs.declared.frame.VType.TheVariants.{Top}
use Rattle.machine_values.specs.Values.{has_kind}
use Rattle.machine_values.specs.declared.value.Value.{Value}
use Rattle.making_code.specs.MakeCode.{Entry, entries_at, entries_from, from_lowest, is_plain, kind_of_type, saved}
use Rattle.plan_flow.specs.Written.WrittenPrograms.{WrittenMethod}
use Rattle.same_runs.specs.Laws.Names.{value_more}
use Rattle.same_runs.specs.Laws.Objects.{get_new, get_old}
use Rattle.same_runs.specs.Renamings.{Names, NamesMore, no_values}
use Rattle.virtual_state.specs.Laws.Fields.{kept_slot}
use Rattle.virtual_state.specs.Sites.{has}
use Rattle.virtual_state.specs.Without.{made_plain}
use Rattle.virtual_state.specs.declared.slot.Slot.{Slot}
use Rattle.virtual_state.specs.declared.slot.Slot.TheVariants.{Plain, Virt, Unusable}
use Rattle.written_runs.specs.Inner.PlannedFrames.{KeepStack}
use Rattle.written_runs.specs.Inner.Setup.{Setup}
use Rattle.written_runs.specs.Laws.Making.Held.{Scene}
use Rattle.written_runs.specs.Laws.Making.Saved.{AllUsable, AreMany, HasKinds, HasPlain, depth_cons, has_plain, no_entries, none_kept, one_entry, usable_behind}
use Rattle.written_runs.specs.VirtualObjects.{stack_slots}

-- an entry of the upper part is one of all
pub record IsUpper (types upper_types : List VType) (slots upper_slots : List Slot) (values upper_values : List Value) (number upper_number place : ℕ)
    : Type 0 where
  pub all : ℕ
  pub counted : all + number ≡ upper_number + place
  pub type : slice_get upper_types place ≡ slice_get types all
  pub slot : slice_get upper_slots place ≡ slice_get slots all
  pub value : slice_get upper_values place ≡ slice_get values all

-- A stack of the first run with what the second has of it, cut below the lowest entry that names a site of a set.
pub record Cut (names : Names) (made : List ℕ) (types : List VType) (slots : List Slot) (values others : List Value) (number below : ℕ)
    : Type 0 where
  -- the upper part
  pub upper_types : List VType
  pub upper_slots : List Slot
  pub upper_values : List Value
  pub upper_others : List Value
  pub upper_number : ℕ
  pub upper_below : ℕ
  -- what the second has of the lower part
  pub lower_others : List Value
  pub entries : from_lowest made (entries_from number below types slots) ≡ entries_from upper_number upper_below upper_types upper_slots
  pub many : AreMany upper_types upper_slots upper_values
  pub are : others ≡ lower_others ++ upper_others
  pub kept : KeepStack names upper_slots upper_values upper_others
  pub deep : upper_below + depth upper_types ≡ below + depth types
  pub upper : (place : ℕ) → IsUpper types upper_types slots upper_slots values upper_values number upper_number place
  pub joins : (more : Names) (after : List Value)
      → NamesMore names more
      → KeepStack more (map (made_plain (has made)) upper_slots) upper_values after
      → KeepStack more (map (made_plain (has made)) slots) values (lower_others ++ after)

-- an entry of the upper part is one of all, where there is one more below
upper_behind : {type : VType} {types upper_types : List VType} {slot : Slot} {slots upper_slots : List Slot} {value : Value}
    {values upper_values : List Value} {number upper_number place : ℕ}
    → IsUpper types upper_types slots upper_slots values upper_values (suc number) upper_number place
    → IsUpper (type ∷ types) upper_types (slot ∷ slots) upper_slots (value ∷ values) upper_values number upper_number place
upper_behind there = record {
  all = suc there.all;
  counted = let c = there.counted in omega (arith, c);
  type = there.type;
  slot = there.slot;
  value = there.value;
}

cut_plain : {names : Names} (made : List ℕ) (type : VType) (types : List VType) (slots : List Slot) (value : Value) (values others : List Value)
    (number below : ℕ) (plain : HasPlain names slots value values others)
    → Cut names made types slots values plain.rest (suc number) (below + depth (type ∷ []))
    → Cut names made (type ∷ types) (Plain ∷ slots) (value ∷ values) others number below
cut_plain made type types slots value values others number below plain tail = record {
  upper_types = tail.upper_types;
  upper_slots = tail.upper_slots;
  upper_values = tail.upper_values;
  upper_others = tail.upper_others;
  upper_number = tail.upper_number;
  upper_below = tail.upper_below;
  lower_others = plain.other ∷ tail.lower_others;
  entries = tail.entries;
  many = tail.many;
  are = plain.are ∙ ap (λ (os : List Value). plain.other ∷ os) tail.are;
  kept = tail.kept;
  deep = let counted = depth_cons type types in let rest = tail.deep in omega (arith, counted, rest);
  upper = λ place. upper_behind (tail.upper place);
  joins = λ more after grows behind. (value_more grows plain.same, tail.joins more after grows behind);
}

cut_virtual : {names : Names} (made : List ℕ) (type : VType) (types : List VType) (site : ℕ) (slots : List Slot) (value : Value)
    (values others : List Value) (number below : ℕ)
    → AreMany types slots values
    → KeepStack names slots values others
    → Cut names made types slots values others (suc number) (below + depth (type ∷ []))
    → Cut names made (type ∷ types) (Virt site ∷ slots) (value ∷ values) others number below
cut_virtual {names = names} made type types site slots value values others number below many kept tail = by (has made site) refl where
  by : (b : Bool) → has made site ≡ b → Cut names made (type ∷ types) (Virt site ∷ slots) (value ∷ values) others number below
  by true is = record {
    upper_types = type ∷ types;
    upper_slots = Virt site ∷ slots;
    upper_values = value ∷ values;
    upper_others = others;
    upper_number = number;
    upper_below = below;
    lower_others = [];
    entries = rw (is) refl;
    many = one_entry many;
    are = refl;
    kept = kept;
    deep = refl;
    upper = λ place. record { all = place; counted = omega arith; type = refl; slot = refl; value = refl };
    joins = λ more after grows behind. behind;
  }
  by false is = record {
    upper_types = tail.upper_types;
    upper_slots = tail.upper_slots;
    upper_values = tail.upper_values;
    upper_others = tail.upper_others;
    upper_number = tail.upper_number;
    upper_below = tail.upper_below;
    lower_others = tail.lower_others;
    entries = rw (is) tail.entries;
    many = tail.many;
    are = tail.are;
    kept = tail.kept;
    deep = let counted = depth_cons type types in let rest = tail.deep in omega (arith, counted, rest);
    upper = λ place. upper_behind (tail.upper place);
    joins = λ more after grows behind.
        subst (λ (slot : Slot). KeepStack more (slot ∷ map (made_plain (has made)) slots) (value ∷ values) (tail.lower_others ++ after))
        (sym (kept_slot (has made) site is)) (tail.joins more after grows behind);
  }

pub cut : {names : Names} (made : List ℕ) (types : List VType) (slots : List Slot) (values others : List Value) (number below : ℕ)
    → AreMany types slots values
    → AllUsable slots
    → KeepStack names slots values others
    → Cut names made types slots values others number below
cut made [] [] (value ∷ values) others number below many usable kept = elim many [ ]
cut made [] (slot ∷ slots) values others number below many usable kept = elim many [ ]
cut made (type ∷ types) [] values others number below many usable kept = elim many [ ]
cut made (type ∷ types) (Plain ∷ slots) [] others number below many usable kept = elim many [ ]
cut made (type ∷ types) (Virt site ∷ slots) [] others number below many usable kept = elim many [ ]
cut made (type ∷ types) (Unusable ∷ slots) [] others number below many usable kept = elim many [ ]
cut made [] [] [] others number below no_entries usable kept = record {
  upper_types = [];
  upper_slots = [];
  upper_values = [];
  upper_others = [];
  upper_number = number;
  upper_below = below;
  lower_others = [];
  entries = refl;
  many = no_entries;
  are = none_kept others kept;
  kept = no_values;
  deep = refl;
  upper = λ place. record { all = place; counted = omega arith; type = refl; slot = refl; value = refl };
  joins = λ more after grows behind. behind;
}
cut made (type ∷ types) (Unusable ∷ slots) (value ∷ values) others number below (one_entry many) usable kept = absurd (usable.each 0 refl)
cut made (type ∷ types) (Plain ∷ slots) (value ∷ values) others number below (one_entry many) usable kept =
    let plain = has_plain slots value values others kept in
    cut_plain made type types slots value values others number below plain
    (cut made types slots values plain.rest (suc number) (below + depth (type ∷ [])) many (usable_behind usable) plain.behind)
cut made (type ∷ types) (Virt site ∷ slots) (value ∷ values) others number below (one_entry many) usable kept =
    cut_virtual made type types site slots value values others number below many kept
    (cut made types slots values others (suc number) (below + depth (type ∷ [])) many (usable_behind usable) kept)

-- ---- kinds of what is saved

-- the entry of a place
record HasEntry (entries : List Entry) (number place : ℕ) (slot : Slot) : Type 0 where
  pub entry : Entry
  pub is : slice_get entries place ≡ Some entry
  pub counted : entry.place ≡ number + place
  pub has_slot : entry.slot ≡ slot

entry_at : (types : List VType) (slots : List Slot) (number below place : ℕ) (type : VType) (slot : Slot)
    → slice_get types place ≡ Some type
    → slice_get slots place ≡ Some slot
    → HasEntry (entries_from number below types slots) number place slot
entry_at [] slots number below place type slot is is_slot = absurd (none-some type is)
entry_at (first ∷ types) [] number below place type slot is is_slot = absurd (none-some slot is_slot)
entry_at (first ∷ types) (one ∷ slots) number below zero type slot is is_slot = record {
  entry = record { place = number; below = below; kind = kind_of_type first; slot = one };
  is = refl;
  counted = omega arith;
  has_slot = same_Some one slot is_slot;
}
entry_at (first ∷ types) (one ∷ slots) number below (suc place) type slot is is_slot =
    let rest = entry_at types slots (suc number) (below + depth (first ∷ [])) place type slot is is_slot in
    record {
      entry = rest.entry;
      is = rest.is;
      counted = let c = rest.counted in omega (arith, c);
      has_slot = rest.has_slot;
    }

-- what stands in a list stands in its reverse
pub in_reverse : {A : Type 0} (xs : List A) (number : ℕ) (x : A) → slice_get xs number ≡ Some x → (other : ℕ) × (slice_get (reverse xs) other ≡ Some x)
in_reverse [] number x is = absurd (none-some x is)
in_reverse {A = A} (first ∷ xs) zero x is = (
  length (reverse xs),
  ap (λ (ys : List A). slice_get ys (length (reverse xs))) (reverse-append (first ∷ []) xs) ∙ get_new (reverse xs) first ∙ is,
)
in_reverse {A = A} (first ∷ xs) (suc number) x is =
    let rest = in_reverse xs number x is in
    (rest.0, ap (λ (ys : List A). slice_get ys rest.0) (reverse-append (first ∷ []) xs) ∙ get_old (reverse xs) first rest.0 x rest.1)

-- plain values of the upper part are of the kinds of their types
pub upper_kinds : {u : Setup} {w : WrittenMethod} (s : Scene u w) {names : Names} {others : List Value}
    → entries_at w.flat s.at s.state ≡ entries_from 0 0 s.point.typed.stack (stack_slots s.point s.state)
    → (c : Cut names s.made s.point.typed.stack (stack_slots s.point s.state) (reverse s.f.stack) others 0 0)
    → HasKinds c.upper_types c.upper_slots c.upper_values
upper_kinds {w = w} s entries_are c = record { each = each } where
  each : (place : ℕ) (type : VType) (value : Value)
      → slice_get c.upper_types place ≡ Some type
      → slice_get c.upper_slots place ≡ Some Plain
      → slice_get c.upper_values place ≡ Some value
      → IsTrue (has_kind (kind_of_type type) value)
  each place type value is slot here =
      subst (λ (t : VType). IsTrue (has_kind (kind_of_type t) value)) same_type
      (subst (λ (v : Value). IsTrue (has_kind (kind_of_type found.0) v)) same_value found.5) where
        entry : HasEntry (entries_from c.upper_number c.upper_below c.upper_types c.upper_slots) c.upper_number place Plain
        entry = entry_at c.upper_types c.upper_slots c.upper_number c.upper_below place type Plain is slot

        upper : IsUpper s.point.typed.stack c.upper_types (stack_slots s.point s.state) c.upper_slots (reverse s.f.stack) c.upper_values 0
            c.upper_number place
        upper = c.upper place

        stays : (n : ℕ) × (slice_get (filter (λ (e : Entry). is_plain e.slot) (entries_from c.upper_number c.upper_below c.upper_types c.upper_slots)) n
            ≡ Some entry.entry)
        stays =
            still_in (λ (e : Entry). is_plain e.slot) (entries_from c.upper_number c.upper_below c.upper_types c.upper_slots) place entry.entry
            entry.is (ap is_plain entry.has_slot)

        saved_are : saved s.made (entries_at w.flat s.at s.state)
            ≡ reverse (filter (λ (e : Entry). is_plain e.slot) (entries_from c.upper_number c.upper_below c.upper_types c.upper_slots))
        saved_are =
            ap (saved s.made) entries_are
            ∙ ap (λ (es : List Entry). reverse (filter (λ (e : Entry). is_plain e.slot) es)) c.entries

        back : (n : ℕ) × (slice_get (saved s.made (entries_at w.flat s.at s.state)) n ≡ Some entry.entry)
        back =
            let there = in_reverse (filter (λ (e : Entry). is_plain e.slot) (entries_from c.upper_number c.upper_below c.upper_types c.upper_slots))
            stays.0 entry.entry stays.1 in
            (there.0, ap (λ (es : List Entry). slice_get es there.0) saved_are ∙ there.1)

        found : (of : VType) × (it : Value)
            × (slice_get s.point.typed.stack entry.entry.place ≡ Some of)
            × (of ≢ Top)
            × (slice_get (reverse s.f.stack) entry.entry.place ≡ Some it)
            × IsTrue (has_kind (kind_of_type of) it)
        found = s.savable.each back.0 entry.entry back.1

        place_is : entry.entry.place ≡ upper.all
        place_is = let e = entry.counted in let k = upper.counted in omega (arith, e, k)

        same_type : found.0 ≡ type
        same_type =
            same_Some found.0 type (sym found.2 ∙ ap (slice_get s.point.typed.stack) place_is ∙ sym upper.type ∙ is)

        same_value : found.1 ≡ value
        same_value =
            same_Some found.1 value (sym found.4 ∙ ap (slice_get (reverse s.f.stack)) place_is ∙ sym upper.value ∙ here)
