-- No stack entry whose type is Top stands above one whose object is made: so what make code saves can be saved.
use Rattle.std.proofs.Common.{◌≡◌, ◌≢◌, ◌+◌, ℕ, zero, suc, Bool, true, false, List, [], ◌∷◌, filter, get_or, length, reverse, slice_get, Option, Some, IsTrue, refl, sym, ap, ◌∙◌, arith}
use Rattle.std.proofs.lemmas.Bool.{false≢true}
use Rattle.std.proofs.lemmas.List.{length-reverse, reverse-reverse}
use Rattle.std.proofs.lemmas.Option.{none-some, same_Some, slice_get-get_or, slice_get_within}
use Rattle.class_model.specs.Frames.{depth}
use Rattle.class_model.specs.declared.frame.VType.{VType}
use Rattle.class_model.specs.declared.frame.VType.TheVariants.{Top}
use Rattle.flow_code.specs.declared.point.Point.{Point}
use Rattle.machine_values.specs.Frames.{MethodState}
use Rattle.machine_values.specs.Values.{has_kind}
use Rattle.machine_values.specs.declared.value.Value.{Value}
use Rattle.machine_values.specs.declared.value.Value.TheVariants.{Null as NullValue}
use Rattle.making_code.specs.MakeCode.{Entry, entries_from, entries_in, from_lowest, is_plain, kind_of_type, names_in, saved}
use Rattle.plan_flow.specs.Written.WrittenPrograms.{WrittenMethod}
use Rattle.virtual_state.specs.Sites.{has}
use Rattle.virtual_state.specs.States.{State}
use Rattle.virtual_state.specs.declared.slot.Slot.{Slot}
use Rattle.virtual_state.specs.declared.slot.Slot.TheVariants.{Plain, Virt, Unusable}
use Rattle.written_runs.specs.Inner.MadeObjects.{CanBeSaved}
use Rattle.written_runs.specs.Laws.LessVirtual.{WasIn, was_in}
use Rattle.written_runs.specs.Laws.Making.Cuts.{in_reverse}
use Rattle.written_runs.specs.VirtualObjects.{stack_slots}

-- above an entry that names a site of a set, none is Top
pub record IsUncovered (types : List VType) (slots : List Slot) (made : List ℕ) : Type 0 where
  pub each : (place more site : ℕ)
      → slice_get slots place ≡ Some (Virt site)
      → IsTrue (has made site)
      → slice_get types (suc (place + more)) ≡ Some Top
      → ⊥

-- ---- entries

-- an entry by its number
record IsEntry (number : ℕ) (types : List VType) (slots : List Slot) (k : ℕ) (entry : Entry) : Type 0 where
  pub counted : entry.place ≡ number + k
  pub type : VType
  pub is_type : slice_get types k ≡ Some type
  pub is_slot : slice_get slots k ≡ Some entry.slot

is_entry : (number below : ℕ) (types : List VType) (slots : List Slot) (k : ℕ) (entry : Entry)
    → slice_get (entries_from number below types slots) k ≡ Some entry
    → IsEntry number types slots k entry
is_entry number below [] slots k entry is = absurd (none-some entry is)
is_entry number below (type ∷ types) [] k entry is = absurd (none-some entry is)
is_entry number below (type ∷ types) (slot ∷ slots) zero entry is =
    let one : Entry = record { place = number; below = below; kind = kind_of_type type; slot = slot } in
    let same : one ≡ entry = same_Some one entry is in
    record {
      counted = let place = ap (λ (e : Entry). e.place) same in omega (arith, place);
      type = type;
      is_type = refl;
      is_slot = ap (λ (e : Entry). Some e.slot) same;
    }
is_entry number below (type ∷ types) (slot ∷ slots) (suc k) entry is =
    let rest = is_entry (suc number) (below + depth (type ∷ [])) types slots k entry is in
    record {
      counted = let place = rest.counted in omega (arith, place);
      type = rest.type;
      is_type = rest.is_type;
      is_slot = rest.is_slot;
    }

-- an entry from the lowest on
record IsFromLowest (made : List ℕ) (entries : List Entry) (k : ℕ) (entry : Entry) : Type 0 where
  pub low : ℕ
  pub first : Entry
  pub is_first : slice_get entries low ≡ Some first
  pub names : names_in made first.slot ≡ true
  pub place : ℕ
  pub counted : place ≡ low + k
  pub is_there : slice_get entries place ≡ Some entry

is_from_lowest : (made : List ℕ) (entries : List Entry) (k : ℕ) (entry : Entry)
    → slice_get (from_lowest made entries) k ≡ Some entry
    → IsFromLowest made entries k entry
is_from_lowest made [] k entry is = absurd (none-some entry is)
is_from_lowest made (first ∷ entries) k entry is = by (names_in made first.slot) refl (is_from_lowest made entries k entry) where
  by : (named : Bool) → names_in made first.slot ≡ named
      → (slice_get (from_lowest made entries) k ≡ Some entry → IsFromLowest made entries k entry)
      → IsFromLowest made (first ∷ entries) k entry
  by true e later = record {
    low = 0;
    first = first;
    is_first = refl;
    names = e;
    place = k;
    counted = omega arith;
    is_there = sym (rw (e) refl) ∙ is;
  }
  by false e later =
      let rest = later (sym (rw (e) refl) ∙ is) in
      record {
        low = suc rest.low;
        first = rest.first;
        is_first = rest.is_first;
        names = rest.names;
        place = suc rest.place;
        counted = let place = rest.counted in omega (arith, place);
        is_there = rest.is_there;
      }

-- an entry that is saved has a type that is not Top
record IsSavedEntry (types : List VType) (entry : Entry) : Type 0 where
  pub type : VType
  pub is_type : slice_get types entry.place ≡ Some type
  pub not_top : type ≢ Top

names_site : (made : List ℕ) (slot : Slot) → names_in made slot ≡ true → (site : ℕ) × (slot ≡ Virt site) × IsTrue (has made site)
names_site made Plain is = absurd (false≢true is)
names_site made (Virt site) is = (site, refl, is)
names_site made Unusable is = absurd (false≢true is)

plain_is : (slot : Slot) → is_plain slot ≡ true → slot ≡ Plain
plain_is Plain is = refl
plain_is (Virt site) is = absurd (false≢true is)
plain_is Unusable is = absurd (false≢true is)

saved_entry : (types : List VType) (slots : List Slot) (made : List ℕ) (number : ℕ) (entry : Entry)
    → IsUncovered types slots made
    → slice_get (saved made (entries_from 0 0 types slots)) number ≡ Some entry
    → IsSavedEntry types entry
saved_entry types slots made number entry uncovered is = by was.number refl where
  passing : List Entry
  passing = filter (λ (e : Entry). is_plain e.slot) (from_lowest made (entries_from 0 0 types slots))

  forward : (n : ℕ) × (slice_get passing n ≡ Some entry)
  forward =
      let there = in_reverse (reverse passing) number entry is in
      (there.0, ap (λ (es : List Entry). slice_get es there.0) (sym (reverse-reverse passing)) ∙ there.1)

  was : WasIn (λ (e : Entry). is_plain e.slot) (from_lowest made (entries_from 0 0 types slots)) entry
  was = was_in (λ (e : Entry). is_plain e.slot) (from_lowest made (entries_from 0 0 types slots)) forward.0 entry forward.1

  lowest : IsFromLowest made (entries_from 0 0 types slots) was.number entry
  lowest = is_from_lowest made (entries_from 0 0 types slots) was.number entry was.is_there

  here : IsEntry 0 types slots lowest.place entry
  here = is_entry 0 0 types slots lowest.place entry lowest.is_there

  below : IsEntry 0 types slots lowest.low lowest.first
  below = is_entry 0 0 types slots lowest.low lowest.first lowest.is_first

  site : (site : ℕ) × (lowest.first.slot ≡ Virt site) × IsTrue (has made site)
  site = names_site made lowest.first.slot lowest.names

  by : (k : ℕ) → was.number ≡ k → IsSavedEntry types entry
  by zero e =
      let place : lowest.place ≡ lowest.low = let counted = lowest.counted in omega (arith, counted, e) in
      let one : entry ≡ lowest.first =
      same_Some entry lowest.first (sym lowest.is_there ∙ ap (slice_get (entries_from 0 0 types slots)) place ∙ lowest.is_first) in
      let plain : Plain ≡ Virt site.0 = sym (plain_is entry.slot was.passes) ∙ ap (λ (e : Entry). e.slot) one ∙ site.1 in
      absurd cc
  by (suc more) e = record {
    type = here.type;
    is_type = ap (slice_get types) (let counted = here.counted in omega (arith, counted)) ∙ here.is_type;
    not_top = λ top.
        uncovered.each lowest.low more site.0 (below.is_slot ∙ ap Some site.1) site.2
        (ap (slice_get types) (let counted = lowest.counted in omega (arith, counted, e)) ∙ here.is_type ∙ ap Some top);
  }

-- ---- what is saved

pub can_be_saved : (w : WrittenMethod) (at : ℕ) (point : Point) (state : State) (made : List ℕ) (f : MethodState)
    → slice_get w.flat.points at ≡ Some point
    → IsUncovered point.typed.stack (stack_slots point state) made
    → length f.stack ≡ length point.typed.stack
    → ((place : ℕ) (type : VType) (value : Value)
    → slice_get point.typed.stack place ≡ Some type
    → type ≢ Top
    → slice_get (reverse f.stack) place ≡ Some value
    → IsTrue (has_kind (kind_of_type type) value))
    → CanBeSaved w at point state made f
can_be_saved w at point state made f is_point uncovered as_long kinds = record {
  each = λ number entry is.
      let saved_one = saved_entry point.typed.stack (stack_slots point state) made number entry uncovered
      (ap (λ (p : Option Point). slice_get (saved made (entries_in p state)) number) (sym is_point) ∙ is) in
      let value = there entry.place saved_one.type saved_one.is_type in (
        saved_one.type,
        value.0,
        saved_one.is_type,
        saved_one.not_top,
        value.1,
        kinds entry.place saved_one.type value.0 saved_one.is_type saved_one.not_top value.1,
      );
} where
  there : (place : ℕ) (type : VType) → slice_get point.typed.stack place ≡ Some type → (value : Value) × (slice_get (reverse f.stack) place ≡ Some value)
  there place type is =
      let within = slice_get_within point.typed.stack place type is in
      let back = length-reverse f.stack in
      (get_or (reverse f.stack) place NullValue, slice_get-get_or (reverse f.stack) place NullValue (omega (arith, within, as_long, back)))
