-- What a state tells of the classes of objects, where the first run stands at a point with the objects that the state has.
use Rattle.std.proofs.Common.{◌≡◌, ℕ, zero, suc, Bool, true, false, List, [], ◌∷◌, ◌++◌, length, map, slice_get, take, drop, Some, IsTrue, refl, sym, ap, subst, ◌∙◌}
use Rattle.std.specs.List.{AllByRecursion}
use Rattle.std.proofs.lemmas.Bool.{eq-eqb}
use Rattle.std.proofs.lemmas.Option.{none-some, same_Some}
use Rattle.flow_code.specs.declared.point.Point.{Point}
use Rattle.machine_values.specs.Frames.{MethodState}
use Rattle.machine_values.specs.Heaps.{Heap, object_at}
use Rattle.machine_values.specs.declared.frame.RunFrame.{RunFrame}
use Rattle.machine_values.specs.declared.object.Object.{Object}
use Rattle.machine_values.specs.declared.object.Shape.{Shape}
use Rattle.machine_values.specs.declared.object.Shape.TheVariants.{Array, External, Folder}
use Rattle.machine_values.specs.declared.value.Value.{Value}
use Rattle.member_link.specs.Machine.Runs.{Run}
use Rattle.plan_flow.specs.Written.WrittenPrograms.{WrittenMethod}
use Rattle.same_runs.specs.Renamings.{Names}
use Rattle.same_runs.specs.Laws.Compared.{seen_as}
use Rattle.same_runs.specs.Laws.Names.{names_themselves}
use Rattle.same_runs.specs.SameMemories.{StaysApart}
use Rattle.same_runs.specs.SameWorlds.{SameEvents}
use Rattle.virtual_state.specs.Laws.Objects.{found_present, found_site}
use Rattle.virtual_state.specs.Without.{made_plain, without}
use Rattle.virtual_state.specs.States.{IsState, State, is_virtual, names as names_site, object_of}
use Rattle.virtual_state.specs.declared.slot.Slot.{Slot}
use Rattle.virtual_state.specs.declared.slot.Slot.TheVariants.{Plain, Virt, Unusable}
use Rattle.virtual_state.specs.declared.slot.VObject.{VObject}
use Rattle.written_runs.specs.Laws.Halfway.{Halfway}
use Rattle.written_runs.specs.Laws.LessVirtual.{one_owner}
use Rattle.written_runs.specs.Inner.PlannedFrames.{IsKnown, IsMet, IsOfSite, Known, scope_in}
use Rattle.written_runs.specs.Inner.Setup.{Setup, first}
use Rattle.written_runs.specs.Inner.Standing.{apart, comparison}
use Rattle.written_runs.specs.Laws.StandingMore.{KnowsMore, stands_more}
use Rattle.written_runs.specs.Inner.Together.{AreKnown}
use Rattle.written_runs.specs.VirtualObjects.{HasVirtual, RefersTo, TellsObject, Virtual, Virtuals}

-- ---- the classes of virtual objects

abbrev classes_of_shape : ℕ → Shape → Known
classes_of_shape reference (Folder class) = (reference, class) ∷ []
classes_of_shape reference (Array desc len) = []
classes_of_shape reference (External class also) = []

abbrev pub classes_in : Virtuals → Known
classes_in [] = []
classes_in (virtual ∷ virtuals) = classes_of_shape virtual.reference virtual.object.shape ++ classes_in virtuals

-- ---- an item of the left list, or of the right one

known_left : (left right : Known) (number : ℕ) (it : ℕ × ℕ) → slice_get left number ≡ Some it → slice_get (left ++ right) number ≡ Some it
known_left [] right number it is = absurd (none-some it is)
known_left (first ∷ left) right zero it is = is
known_left (first ∷ left) right (suc number) it is = known_left left right number it is

known_right : (left right : Known) (number : ℕ) (it : ℕ × ℕ) → slice_get right number ≡ Some it
    → (place : ℕ) × (slice_get (left ++ right) place ≡ Some it)
known_right [] right number it is = (number, is)
known_right (first ∷ left) right number it is = let rest = known_right left right number it is in (suc rest.0, rest.1)

-- where an item of both lists stands
data IsInEither (left right : Known) (it : ℕ × ℕ) : Type 0 where
  in_left : (place : ℕ) → slice_get left place ≡ Some it → IsInEither left right it
  in_right : (place : ℕ) → slice_get right place ≡ Some it → IsInEither left right it

known_either : (left right : Known) (number : ℕ) (it : ℕ × ℕ) → slice_get (left ++ right) number ≡ Some it → IsInEither left right it
known_either [] right number it is = in_right number is
known_either (first ∷ left) right zero it is = in_left 0 is
known_either (first ∷ left) right (suc number) it is = by (known_either left right number it is) where
  by : IsInEither left right it → IsInEither (first ∷ left) right it
  by (in_left place there) = in_left (suc place) there
  by (in_right place there) = in_right place there

-- ---- they are known

class_in : (virtuals : Virtuals) (number class : ℕ) (virtual : Virtual)
    → slice_get virtuals number ≡ Some virtual
    → virtual.object.shape ≡ Folder class
    → IsKnown (classes_in virtuals) virtual.reference class
class_in [] number class virtual is shape = absurd (none-some virtual is)
class_in (first ∷ virtuals) zero class virtual is shape =
    let same = same_Some first virtual is in
    let of_first : classes_of_shape first.reference first.object.shape ≡ (virtual.reference, class) ∷ [] =
    ap (λ (v : Virtual). classes_of_shape v.reference v.object.shape) same ∙ ap (classes_of_shape virtual.reference) shape in
    record { number = 0; is_there = ap (λ (list : Known). slice_get (list ++ classes_in virtuals) 0) of_first }
class_in (first ∷ virtuals) (suc number) class virtual is shape =
    let rest = class_in virtuals number class virtual is shape in
    let there = known_right (classes_of_shape first.reference first.object.shape) (classes_in virtuals) rest.number (virtual.reference, class) rest.is_there in
    record { number = there.0; is_there = there.1 }

-- the objects of these references are there
classes_are : (names : Names) (heap : Heap) (virtuals : Virtuals) → AllByRecursion (StaysApart names heap) (apart virtuals)
    → (number reference class : ℕ)
    → slice_get (classes_in virtuals) number ≡ Some (reference, class)
    → (object : Object) × (object_at heap reference ≡ Some object) × (object.shape ≡ Folder class)
classes_are names heap [] stays number reference class is = absurd (none-some (reference, class) is)
classes_are names heap (first ∷ virtuals) stays number reference class is =
    by (known_either (classes_of_shape first.reference first.object.shape) (classes_in virtuals) number (reference, class) is)
    (λ place. classes_are names heap virtuals stays.1 place reference class) where
      of_shape : (shape : Shape) → first.object.shape ≡ shape → (place : ℕ)
          → slice_get (classes_of_shape first.reference shape) place ≡ Some (reference, class)
          → (object : Object) × (object_at heap reference ≡ Some object) × (object.shape ≡ Folder class)
      of_shape (Folder found) told zero here =
          let same = same_Some (first.reference, found) (reference, class) here in (
            first.object,
            ap (object_at heap) (sym (ap (λ (it : ℕ × ℕ). it.0) same)) ∙ stays.0.there,
            told ∙ ap (λ (it : ℕ × ℕ). Folder it.1) same,
          )
      of_shape (Folder found) told (suc place) here = absurd (none-some (reference, class) here)
      of_shape (Array desc len) told place here = absurd (none-some (reference, class) here)
      of_shape (External name also) told place here = absurd (none-some (reference, class) here)

      by : IsInEither (classes_of_shape first.reference first.object.shape) (classes_in virtuals) (reference, class)
          → ((place : ℕ) → slice_get (classes_in virtuals) place ≡ Some (reference, class)
          → (object : Object) × (object_at heap reference ≡ Some object) × (object.shape ≡ Folder class))
          → (object : Object) × (object_at heap reference ≡ Some object) × (object.shape ≡ Folder class)
      by (in_left place there) rest = of_shape first.object.shape refl place there
      by (in_right place there) rest = rest place there

-- ---- what a state tells

-- a slot of a list names its site
pub slot_names : (slots : List Slot) (place site : ℕ) → slice_get slots place ≡ Some (Virt site) → IsTrue (names_site slots site)
slot_names [] place site is = absurd (none-some (Virt site) is)
slot_names (first ∷ slots) zero site is =
    rw (ap (is_virtual site) (same_Some first (Virt site) is) ∙ eq-eqb site site refl) refl
slot_names (first ∷ slots) (suc place) site is = by (is_virtual site first) refl (slot_names slots place site is) where
  by : (here : Bool) → is_virtual site first ≡ here → IsTrue (names_site slots site) → IsTrue (names_site (first ∷ slots) site)
  by true told rest = rw (told) refl
  by false told rest = rw (told) rest

slot_in_take : (count : ℕ) (slots : List Slot) (place : ℕ) (slot : Slot) → slice_get (take count slots) place ≡ Some slot
    → slice_get slots place ≡ Some slot
slot_in_take zero slots place slot is = absurd (none-some slot is)
slot_in_take (suc count) [] place slot is = absurd (none-some slot is)
slot_in_take (suc count) (first ∷ slots) zero slot is = is
slot_in_take (suc count) (first ∷ slots) (suc place) slot is = slot_in_take count slots place slot is

slot_in_drop : (count : ℕ) (slots : List Slot) (place : ℕ) (slot : Slot) → slice_get (drop count slots) place ≡ Some slot
    → (other : ℕ) × (slice_get slots other ≡ Some slot)
slot_in_drop zero slots place slot is = (place, is)
slot_in_drop (suc count) [] place slot is = absurd (none-some slot is)
slot_in_drop (suc count) (first ∷ slots) place slot is = let rest = slot_in_drop count slots place slot is in (suc rest.0, rest.1)

module _ {u : Setup} {one other : Run} {f : MethodState} {rest : List RunFrame} {w : WrittenMethod} {known : Known}
    {point : Point} {state : State} {place : ℕ} (h : Halfway u one other f rest w known point state place) (is_state : IsState state) where
  abbrev more : Known
  more = known ++ classes_in h.virtuals

  of_site : (slot site : ℕ) (value : Value)
      → slice_get state.slots slot ≡ Some (Virt site)
      → RefersTo h.virtuals (length rest) site value
      → IsOfSite u more w site value
  of_site slot site value is refers = record {
    site = told.site;
    is_site = subst (λ (n : ℕ). slice_get w.flat.sites n ≡ Some told.site) same_site told.is_site;
    class = told.class;
    of_folder = told.of_folder;
    reference = refers.virtual.reference;
    refers = refers.is;
    is_known =
        let there = class_in h.virtuals refers.has.number told.class refers.virtual refers.has.is_there
        (ap (λ (v : Virtual). v.object.shape) (sym same) ∙ told.shape) in
        let placed = known_right known (classes_in h.virtuals) there.number (refers.virtual.reference, told.class) there.is_there in
        record { number = placed.0; is_there = placed.1 };
  } where
    present : (object : VObject) × (object_of state.objects site ≡ Some object)
    present = found_present state.objects site (is_state.places site (slot_names state.slots slot site is))

    told : TellsObject (first u) (scope_in u w) h.virtuals (length rest) present.0
    told = h.tells.objects site present.0 present.1

    same_site : present.0.site ≡ site
    same_site = found_site state.objects site present.0 present.1

    same : told.virtual ≡ refers.virtual
    same =
        one_owner h.virtuals (length rest) site told.virtual refers.virtual h.are_apart
        (subst (λ (n : ℕ). HasVirtual h.virtuals (length rest) n told.virtual) same_site told.has) refers.has

  -- it is known of which classes the objects are
  pub met_here : IsMet u more w point state f
  met_here = record {
    locals = λ unit site is.
        let found = h.tells.locals unit site is in
        (found.0, found.1, of_site unit site found.0 (slot_in_take (length point.typed.locals) state.slots unit (Virt site) is) found.2);
    stack = λ entry site value is here.
        let slot = slot_in_drop (length point.typed.locals) state.slots entry (Virt site) is in
        of_site slot.0 site value slot.1 (h.tells.stack entry site value is here);
  }

  pub knows : KnowsMore known more
  knows = record {
    keeps = λ reference class is.
        record { number = is.number; is_there = known_left known (classes_in h.virtuals) is.number (reference, class) is.is_there };
  }

  are_known_more : AreKnown one.world.memory.heap more
  are_known_more = record {
    each = λ reference class is. by reference class (known_either known (classes_in h.virtuals) is.number (reference, class) is.is_there);
  } where
    by : (reference class : ℕ) → IsInEither known (classes_in h.virtuals) (reference, class)
        → (object : Object) × (object_at one.world.memory.heap reference ≡ Some object) × (object.shape ≡ Folder class)
    by reference class (in_left number there) = h.are_known.each reference class (record { number = number; is_there = there })
    by reference class (in_right number there) =
        classes_are h.names one.world.memory.heap h.virtuals h.memories.heaps.stays number reference class there

  -- the same, with these classes known
  pub halfway_knowing : Halfway u one other f rest w more point state place
  halfway_knowing = record {
    virtuals = h.virtuals;
    are_apart = h.are_apart;
    are_known = are_known_more;
    names = h.names;
    g = h.g;
    rest_also = h.rest_also;
    stands = h.stands;
    stands_also = h.stands_also;
    is_written = h.is_written;
    at = h.at;
    held = h.held;
    place_also = h.place_also;
    tells = h.tells;
    keeps = h.keeps;
    own = h.own;
    below =
        stands_more (λ frame low. record { forth = λ site virtual there. there; back = λ site virtual there. there }) knows
        (names_themselves h.names) h.below;
    owned = h.owned;
    memories = h.memories;
    seen = record { known = h.seen.known; events = seen_too };
    goes = h.goes;
    goes_also = h.goes_also;
    actions = h.actions;
    used = h.used;
    typed = h.typed;
  } where
    seen_too : SameEvents (comparison u h.virtuals more) one.world.events other.world.events
    seen_too =
        (seen_as {c = comparison u h.virtuals known} {d = comparison u h.virtuals more}
        (record { allocated = λ n m less. less; entered = λ n m less. less }) h.seen).events

-- ---- where objects are made

virtual_before : (away : ℕ → Bool) (slots : List Slot) (place site : ℕ)
    → slice_get (map (made_plain away) slots) place ≡ Some (Virt site)
    → slice_get slots place ≡ Some (Virt site)
virtual_before away [] place site is = absurd (none-some (Virt site) is)
virtual_before away (Plain ∷ slots) zero site is = is
virtual_before away (Unusable ∷ slots) zero site is = is
virtual_before away (Virt one ∷ slots) zero site is = by (away one) refl where
  by : (gone : Bool) → away one ≡ gone → Some (Virt one) ≡ Some (Virt site)
  by true told = absurd (plain_not (same_Some Plain (Virt site) (sym (rw (told) refl) ∙ is))) where
    plain_not : Plain ≡ Virt site → ⊥
    plain_not same = absurd cc
  by false told = sym (rw (told) refl) ∙ is
virtual_before away (slot ∷ slots) (suc place) site is = virtual_before away slots place site is

virtual_in_take : (away : ℕ → Bool) (count : ℕ) (slots : List Slot) (place site : ℕ)
    → slice_get (take count (map (made_plain away) slots)) place ≡ Some (Virt site)
    → slice_get (take count slots) place ≡ Some (Virt site)
virtual_in_take away zero slots place site is = is
virtual_in_take away (suc count) [] place site is = is
virtual_in_take away (suc count) (slot ∷ slots) zero site is = virtual_before away (slot ∷ []) zero site is
virtual_in_take away (suc count) (slot ∷ slots) (suc place) site is = virtual_in_take away count slots place site is

virtual_in_drop : (away : ℕ → Bool) (count : ℕ) (slots : List Slot) (place site : ℕ)
    → slice_get (drop count (map (made_plain away) slots)) place ≡ Some (Virt site)
    → slice_get (drop count slots) place ≡ Some (Virt site)
virtual_in_drop away zero slots place site is = virtual_before away slots place site is
virtual_in_drop away (suc count) [] place site is = is
virtual_in_drop away (suc count) (slot ∷ slots) place site is = virtual_in_drop away count slots place site is

-- the objects that are left are of the same classes
pub met_left : (u : Setup) (known : Known) (w : WrittenMethod) (point : Point) (state : State) (away : ℕ → Bool) (f : MethodState)
    → IsMet u known w point state f
    → IsMet u known w point (without state away) f
met_left u known w point state away f met = record {
  locals = λ unit site is. met.locals unit site (virtual_in_take away (length point.typed.locals) state.slots unit site is);
  stack = λ place site value is here.
      met.stack place site value (virtual_in_drop away (length point.typed.locals) state.slots place site is) here;
}
