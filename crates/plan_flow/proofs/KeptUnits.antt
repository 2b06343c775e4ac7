-- Local units that stay as they are.
use Rattle.std.proofs.Common.{◌≡◌, ◌≢◌, ◌+◌, ◌-◌, ◌<◌, ◌≤◌, ℕ, zero, suc, Bool, true, false, List, [], ◌∷◌, ◌++◌, map, length, take, drop, replicate, get_or, slice_get, Option, Some, None, if◌then◌else◌, refl, sym, ap, ◌∙◌, inl, inr, arith}
use Rattle.std.proofs.lemmas.Bool.{true≢false, false≢true}
use Rattle.std.proofs.lemmas.List.{get_or-map, get_or-take, get_or_append_left, length-append, length-map, length-take, length-take-le, take_all, take_more}
use Rattle.std.proofs.lemmas.Option.{same_Some, slice_get-get_or}
use Rattle.class_model.specs.Frames.{is_top}
use Rattle.class_model.specs.declared.frame.Frame.{Frame}
use Rattle.class_model.specs.declared.frame.VType.{VType}
use Rattle.plan_flow.specs.Inner.Fitting.{local_of}
use Rattle.plan_flow.specs.Inner.Fronts.{IsNextTop, KeepsSlot, locals_held, tops_before}
use Rattle.plan_flow.specs.PlanSlots.{fit_locals, held, readable}
use Rattle.plan_flow.specs.PlanTable.{operand}
use Rattle.plan_flow.proofs.LocalUnits.{fits_more, held_there, kept_front, other_there, stored_there}
use Rattle.virtual_state.specs.Gaps.{true_from}
use Rattle.virtual_state.specs.Laws.Gaps.{none_more, one_more}
use Rattle.virtual_state.specs.Laws.Objects.{same_or_not}
use Rattle.virtual_state.specs.States.{State, is_unusable}
use Rattle.virtual_state.specs.declared.slot.Slot.{Slot}
use Rattle.virtual_state.specs.declared.slot.Slot.TheVariants.{Plain, Virt, Unusable}

-- ---- tests that hold at the same indices

abbrev head_of : List ℕ → ℕ → ℕ
head_of [] other = other
head_of (number ∷ numbers) other = number

abbrev tail_of : List ℕ → List ℕ
tail_of [] = []
tail_of (number ∷ numbers) = numbers

-- the first index is no less than the first number
at_least : (first number : ℕ) (numbers : List ℕ) (tests : List Bool) → true_from first tests ≡ number ∷ numbers → first ≤ number
at_least first number numbers [] is = absurd cc
at_least first number numbers (true ∷ tests) is = let same : first ≡ number = ap (λ (list : List ℕ). head_of list 0) is in omega (arith, same)
at_least first number numbers (false ∷ tests) is = let more = at_least (suc first) number numbers tests is in omega (arith, more)

same_tests : (first : ℕ) (tests others : List Bool) → length tests ≡ length others → true_from first tests ≡ true_from first others → tests ≡ others
same_tests first [] [] len is = refl
same_tests first [] (other ∷ others) len is = absurd (omega (arith, len))
same_tests first (test ∷ tests) [] len is = absurd (omega (arith, len))
same_tests first (true ∷ tests) (true ∷ others) len is = ap (λ (list : List Bool). true ∷ list) (same_tests (suc first) tests others (omega (arith, len)) (ap tail_of is))
same_tests first (false ∷ tests) (false ∷ others) len is = ap (λ (list : List Bool). false ∷ list) (same_tests (suc first) tests others (omega (arith, len)) is)
same_tests first (true ∷ tests) (false ∷ others) len is = let low = at_least (suc first) first (true_from (suc first) tests) others (sym is) in absurd (omega (arith, low))
same_tests first (false ∷ tests) (true ∷ others) len is = let low = at_least (suc first) first (true_from (suc first) others) tests is in absurd (omega (arith, low))

-- ---- local units that are Top

pub none_there : (types : List VType) (at : ℕ) → slice_get types at ≡ None → get_or types at VType.Top ≡ VType.Top
none_there [] at is = refl
none_there (type ∷ types) zero is = absurd cc
none_there (type ∷ types) (suc at) is = none_there types at is

pub next_found :
    (types : List VType) (from end at : ℕ)
    → at < end
    → end ≤ length types
    → tops_before types at ≡ tops_before types from
    → is_top (get_or types at VType.Top) ≡ true
    → IsNextTop types from end (Some at)
next_found types from end at low inside so_far top = record {
  some = λ one is.
      let same : at ≡ one = same_Some at one is in (
        omega (arith, low, same),
        ap (λ (number : ℕ). tops_before types (number + 1)) (sym same) ∙ one_more is_top types at VType.Top (omega (arith, low, inside)) top ∙ (λ i. so_far i ++ same i ∷ []),
      );
  none = λ is. absurd cc;
}

pub next_later :
    (types : List VType) (from at : ℕ)
    → at < length types
    → tops_before types at ≡ tops_before types from
    → is_top (get_or types at VType.Top) ≡ false
    → tops_before types (at + 1) ≡ tops_before types from
next_later types from at low so_far usable = none_more is_top types at VType.Top low usable ∙ so_far

-- ---- one local unit

-- a slot that is unusable where the type is Top, and else is what is held
fits_unit : (slot also : Slot) (type : VType) → is_unusable slot ≡ is_top type → (is_unusable slot ≡ false → also ≡ slot) → slot ≡ local_of (Some type) (Some also)
fits_unit slot also type same is = by_test slot (is_top type) same is where
  by_test : (slot : Slot) (top : Bool) → is_unusable slot ≡ top → (is_unusable slot ≡ false → also ≡ slot) → slot ≡ (if top then Unusable else also)
  by_test Plain true same is = absurd (false≢true same)
  by_test (Virt site) true same is = absurd (false≢true same)
  by_test Unusable true same is = refl
  by_test Plain false same is = sym (is refl)
  by_test (Virt site) false same is = sym (is refl)
  by_test Unusable false same is = absurd (true≢false same)

read_as : (slot : Slot) → is_unusable slot ≡ false → readable (Some slot) ≡ slot
read_as Plain usable = refl
read_as (Virt site) usable = refl
read_as Unusable usable = absurd (true≢false usable)

-- what a local unit holds that keeps its slot
holds_same :
    (state : State) (f : Frame) (stored : Option ℕ) (front : List Slot) (at : ℕ) (slot : Slot)
    → at < length f.locals
    → slice_get front at ≡ Some slot
    → slice_get state.slots at ≡ Some slot
    → KeepsSlot front state f stored
    → (also : Slot) × (slice_get (locals_held state f stored) at ≡ Some also) × (is_unusable slot ≡ false → also ≡ slot)
holds_same state f None front at slot low here there keeps = (held state at, held_there state f at low, λ usable. ap readable there ∙ read_as slot usable)
holds_same state f (Some local) front at slot low here there keeps = elim (same_or_not local at) [
  | inl same ↦ (held state (operand f 0), stored_there state f local at low same, λ usable. sym (keeps.each local slot refl (ap (slice_get front) same ∙ here)))
  | inr differ ↦ (held state at, other_there state f local at low differ, λ usable. ap readable there ∙ read_as slot usable)
]

-- ---- all of them

-- the slots that are listed, up to one
kept_before :
    (state : State) (f : Frame) (stored : Option ℕ) (types : List VType) (front listed : List Slot) (count : ℕ)
    → count ≤ length listed
    → length listed ≤ length types
    → length types ≡ length f.locals
    → ((at : ℕ) → at < length listed → slice_get front at ≡ Some (get_or listed at Plain))
    → ((at : ℕ) → at < length listed → slice_get state.slots at ≡ Some (get_or listed at Plain))
    → ((at : ℕ) → at < length listed → is_unusable (get_or listed at Plain) ≡ is_top (get_or types at VType.Top))
    → KeepsSlot front state f stored
    → take count listed ≡ fit_locals (take count types) (locals_held state f stored)
kept_before state f stored types front listed zero low inside few here there tests keeps = refl
kept_before state f stored types front listed (suc count) low inside few here there tests keeps =
    let lower : count < length listed = omega (arith, low) in
    let within : count < length types = omega (arith, lower, inside) in
    let slot = get_or listed count Plain in
    let type = get_or types count VType.Top in
    let holds = holds_same state f stored front count slot (omega (arith, within, few)) (here count lower) (there count lower) keeps in
    let typed : slice_get types count ≡ Some type = slice_get-get_or types count VType.Top within in
    let is : slot ≡ local_of (slice_get types count) (slice_get (locals_held state f stored) count) =
    fits_unit slot holds.0 type (tests count lower) holds.2 ∙ (λ i. local_of (sym typed i) (sym holds.1 i)) in
    let next : count + 1 ≡ suc count = omega arith in
    fits_more types (locals_held state f stored) (take count listed) (take (suc count) listed) count (suc count) slot
    (kept_before state f stored types front listed count (omega (arith, low)) inside few here there tests keeps) within refl is
    (ap (λ (number : ℕ). take number listed) (sym next) ∙ take_more listed count Plain lower)

pub kept_units :
    (state : State) (f : Frame) (stored : Option ℕ) (types : List VType) (front listed : List Slot) (gaps : List ℕ) (count : ℕ)
    → front ≡ take (length front) state.slots
    → front ≡ listed ++ replicate (length front - length listed) Unusable
    → gaps ≡ true_from 0 (map is_unusable listed)
    → length front ≡ length types
    → length front ≡ length f.locals
    → length listed ≡ count
    → drop count types ≡ replicate (length types - count) VType.Top
    → tops_before types count ≡ gaps
    → KeepsSlot front state f stored
    → front ≡ fit_locals types (locals_held state f stored)
kept_units state f stored types front listed gaps count first is noted same_len few same_count tops same keeps =
    kept_front types (locals_held state f stored) front listed count is
    (sym (take_all (length listed) listed (omega arith)) ∙ kept_before state f stored types front listed (length listed) (omega arith) inside (sym same_len ∙ few) here there tests keeps)
    same_len same_count tops where
      long : length front ≡ length listed + length (replicate (length front - length listed) Unusable)
      long = ap {B = ℕ} (λ (slots : List Slot). length slots) is ∙ length-append listed (replicate (length front - length listed) Unusable)

      inside : length listed ≤ length types
      inside = omega (arith, long, same_len)

      got : (at : ℕ) → at < length listed → get_or front at Plain ≡ get_or listed at Plain
      got at low = ap (λ (slots : List Slot). get_or slots at Plain) is ∙ get_or_append_left listed (replicate (length front - length listed) Unusable) Plain at low

      here : (at : ℕ) → at < length listed → slice_get front at ≡ Some (get_or listed at Plain)
      here at low = slice_get-get_or front at Plain (omega (arith, low, long)) ∙ ap (λ (slot : Slot). Some slot) (got at low)

      took : length front ≡ length (take (length front) state.slots)
      took = ap {B = ℕ} (λ (slots : List Slot). length slots) first

      there : (at : ℕ) → at < length listed → slice_get state.slots at ≡ Some (get_or listed at Plain)
      there at low =
          let below : at < length front = omega (arith, low, long) in
          slice_get-get_or state.slots at Plain (before at below)
          ∙ ap (λ (slot : Slot). Some slot) (sym (ap (λ (slots : List Slot). get_or slots at Plain) first ∙ get_or-take (length front) state.slots at Plain below) ∙ got at low) where
            before : (at : ℕ) → at < length front → at < length state.slots
            before at below = let len = length-take (length front) state.slots in omega (arith, took, len, below)

      same_len_tests : length (map is_top (take count types)) ≡ length (map is_unusable listed)
      same_len_tests =
          length-map {A = VType} {B = Bool} (take count types) is_top
          ∙ length-take-le count types (omega (arith, same_count, inside))
          ∙ sym same_count
          ∙ sym (length-map {A = Slot} {B = Bool} listed is_unusable)

      alike : map is_top (take count types) ≡ map is_unusable listed
      alike = same_tests 0 (map is_top (take count types)) (map is_unusable listed) same_len_tests (same ∙ noted)

      tests : (at : ℕ) → at < length listed → is_unusable (get_or listed at Plain) ≡ is_top (get_or types at VType.Top)
      tests at low =
          let below : at < count = omega (arith, low, same_count) in
          let short : at < length (take count types) = let len = length-take-le count types (omega (arith, same_count, inside)) in omega (arith, len, below) in
          sym (get_or-map is_unusable listed at Plain false low)
          ∙ ap (λ (list : List Bool). get_or list at false) (sym alike)
          ∙ get_or-map is_top (take count types) at VType.Top false short
          ∙ ap is_top (get_or-take count types at VType.Top below)
