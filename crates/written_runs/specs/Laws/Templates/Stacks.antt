-- The stack of written code has the plain entries of that of flat code: part by part, and as rows of plans say what it has behind an instruction.
use Rattle.std.proofs.Common.{◌≡◌, ◌⊎◌, ◌≤◌, ◌<◌, ◌+◌, ◌++◌, ℕ, zero, suc, inl, inr, List, [], ◌∷◌, drop, length, map, slice_get, take, Some, Option, refl, sym, ap, ◌∙◌, arith}
use Rattle.std.proofs.lemmas.Option.{none-some, same_Some}
use Rattle.machine_values.specs.declared.value.Value.{Value}
use Rattle.plan_flow.specs.PlanRows.{Change, from_place}
use Rattle.plan_flow.specs.PlanScope.{PlanScope}
use Rattle.plan_flow.specs.PlanSlots.{readable, slots_from}
use Rattle.plan_flow.specs.PlanTable.{held_from}
use Rattle.same_runs.specs.Renamings.{Names, no_values}
use Rattle.virtual_state.specs.States.{State}
use Rattle.virtual_state.specs.declared.slot.Slot.{Slot}
use Rattle.virtual_state.specs.declared.slot.Slot.TheVariants.{Plain, Virt, Unusable}
use Rattle.written_runs.specs.Inner.PlannedFrames.{KeepStack}

-- ---- two parts

-- what a stack of the second run has of two parts of the first's
pub record KeptParts (names : Names) (slots more : List Slot) (values others also : List Value) : Type 0 where
  pub first : List Value
  pub second : List Value
  pub are : also ≡ first ++ second
  pub keep : KeepStack names slots values first
  pub keep_more : KeepStack names more others second

pub keep_split : (names : Names) (slots more : List Slot) (values others also : List Value)
    → length slots ≡ length values
    → KeepStack names (slots ++ more) (values ++ others) also
    → KeptParts names slots more values others also
keep_split names [] more [] others also many keep = record { first = []; second = also; are = refl; keep = no_values; keep_more = keep }
keep_split names [] more (value ∷ values) others also many keep = absurd (omega (arith, many))
keep_split names (slot ∷ slots) more [] others also many keep = absurd (omega (arith, many))
keep_split names (Virt site ∷ slots) more (value ∷ values) others also many keep =
    let rest = keep_split names slots more values others also (omega (arith, many)) keep in
    record { first = rest.first; second = rest.second; are = rest.are; keep = rest.keep; keep_more = rest.keep_more }
keep_split names (Plain ∷ slots) more (value ∷ values) others [] many keep = absurd keep
keep_split names (Plain ∷ slots) more (value ∷ values) others (one ∷ also) many keep =
    let rest = keep_split names slots more values others also (omega (arith, many)) keep.1 in
    record {
      first = one ∷ rest.first;
      second = rest.second;
      are = ap (λ (vs : List Value). one ∷ vs) rest.are;
      keep = (keep.0, rest.keep);
      keep_more = rest.keep_more;
    }
keep_split names (Unusable ∷ slots) more (value ∷ values) others [] many keep = absurd keep
keep_split names (Unusable ∷ slots) more (value ∷ values) others (one ∷ also) many keep =
    let rest = keep_split names slots more values others also (omega (arith, many)) keep.1 in
    record {
      first = one ∷ rest.first;
      second = rest.second;
      are = ap (λ (vs : List Value). one ∷ vs) rest.are;
      keep = (keep.0, rest.keep);
      keep_more = rest.keep_more;
    }

pub keep_join : (names : Names) (slots more : List Slot) (values others first second : List Value)
    → length slots ≡ length values
    → KeepStack names slots values first
    → KeepStack names more others second
    → KeepStack names (slots ++ more) (values ++ others) (first ++ second)
keep_join names [] more [] others [] second many keep rest = rest
keep_join names [] more [] others (one ∷ first) second many keep rest = elim keep [ ]
keep_join names [] more (value ∷ values) others first second many keep rest = absurd (omega (arith, many))
keep_join names (slot ∷ slots) more [] others first second many keep rest = absurd (omega (arith, many))
keep_join names (Virt site ∷ slots) more (value ∷ values) others first second many keep rest =
    keep_join names slots more values others first second (omega (arith, many)) keep rest
keep_join names (Plain ∷ slots) more (value ∷ values) others [] second many keep rest = absurd keep
keep_join names (Plain ∷ slots) more (value ∷ values) others (one ∷ first) second many keep rest =
    (keep.0, keep_join names slots more values others first second (omega (arith, many)) keep.1 rest)
keep_join names (Unusable ∷ slots) more (value ∷ values) others [] second many keep rest = absurd keep
keep_join names (Unusable ∷ slots) more (value ∷ values) others (one ∷ first) second many keep rest =
    (keep.0, keep_join names slots more values others first second (omega (arith, many)) keep.1 rest)

-- ---- what places hold

-- an unusable place is read as a plain one
abbrev pub as_read : Slot → Slot
as_read Plain = Plain
as_read (Virt site) = Virt site
as_read Unusable = Plain

pub keep_read : (names : Names) (slots : List Slot) (values also : List Value)
    → KeepStack names slots values also
    → KeepStack names (map as_read slots) values also
keep_read names [] values also keep = keep
keep_read names (Plain ∷ slots) [] also keep = keep
keep_read names (Virt site ∷ slots) [] also keep = keep
keep_read names (Unusable ∷ slots) [] also keep = keep
keep_read names (Virt site ∷ slots) (value ∷ values) also keep = keep_read names slots values also keep
keep_read names (Plain ∷ slots) (value ∷ values) [] keep = absurd keep
keep_read names (Plain ∷ slots) (value ∷ values) (one ∷ also) keep = (keep.0, keep_read names slots values also keep.1)
keep_read names (Unusable ∷ slots) (value ∷ values) [] keep = absurd keep
keep_read names (Unusable ∷ slots) (value ∷ values) (one ∷ also) keep = (keep.0, keep_read names slots values also keep.1)

pub read_virtual : (slots : List Slot) (place site : ℕ)
    → slice_get (map as_read slots) place ≡ Some (Virt site)
    → slice_get slots place ≡ Some (Virt site)
read_virtual [] place site is = absurd (none-some (Virt site) is)
read_virtual (Virt one ∷ slots) zero site is = is
read_virtual (Plain ∷ slots) zero site is = is
read_virtual (Unusable ∷ slots) zero site is = absurd (apart (same_Some Plain (Virt site) is)) where
  apart : Plain ≡ Virt site → ⊥
  apart same = absurd cc
read_virtual (slot ∷ slots) (suc place) site is = read_virtual slots place site is

-- the item at a place, and those behind it
pub drop_at : {A : Type 0} (place : ℕ) (items : List A)
    → place < length items
    → (item : A) × (slice_get items place ≡ Some item) × (drop place items ≡ item ∷ drop (suc place) items)
drop_at place [] low = absurd (omega (arith, low))
drop_at zero (item ∷ items) low = (item, refl, refl)
drop_at (suc place) (item ∷ items) low = let rest = drop_at place items (omega (arith, low)) in (rest.0, rest.1, rest.2)

pub read_slot : (slot : Slot) → readable (Some slot) ≡ as_read slot
read_slot Plain = refl
read_slot (Virt site) = refl
read_slot Unusable = refl

-- what so many places hold, from one on
pub held_slots : (s : PlanScope) (state : State) (moved : Change) (first count : ℕ)
    → first + count ≤ length state.slots
    → slots_from s state moved (held_from first count) ≡ map as_read (take count (drop first state.slots))
held_slots s state moved first zero few = refl
held_slots s state moved first (suc count) few =
    let here = drop_at first state.slots (omega (arith, few)) in
    ap (λ (slot : Option Slot). readable slot ∷ slots_from s state moved (held_from (first + 1) count)) here.1
    ∙ ap (λ (slot : Slot). slot ∷ slots_from s state moved (held_from (first + 1) count)) (read_slot here.0)
    ∙ ap (λ (slots : List Slot). as_read here.0 ∷ slots) (held_slots s state moved (first + 1) count (omega (arith, few)))
    ∙ ap (λ (n : ℕ). as_read here.0 ∷ map as_read (take count (drop n state.slots))) next
    ∙ ap (λ (slots : List Slot). map as_read (take (suc count) slots)) (sym here.2) where
      next : first + 1 ≡ suc first
      next = omega arith

pub held_length : (first count : ℕ) → length (held_from first count) ≡ count
held_length first zero = refl
held_length first (suc count) = ap suc (held_length (first + 1) count)

-- a place among them
pub held_at : (first count number : ℕ) → number < count → slice_get (held_from first count) number ≡ Some (from_place (first + number))
held_at first zero number low = absurd (omega (arith, low))
held_at first (suc count) zero low =
    let here : first ≡ first + 0 = omega arith in ap (λ (n : ℕ). Some (from_place n)) here
held_at first (suc count) (suc number) low =
    let here : first + 1 + number ≡ first + suc number = omega arith in
    held_at (first + 1) count number (omega (arith, low)) ∙ ap (λ (n : ℕ). Some (from_place n)) here

-- ---- lists

pub get_left : {A : Type 0} (left right : List A) (number : ℕ) → number < length left → slice_get (left ++ right) number ≡ slice_get left number
get_left [] right number low = absurd (omega (arith, low))
get_left (first ∷ left) right zero low = refl
get_left (first ∷ left) right (suc number) low = get_left left right number (omega (arith, low))

pub get_right : {A : Type 0} (left right : List A) (number : ℕ) → slice_get (left ++ right) (length left + number) ≡ slice_get right number
get_right {A = A} [] right number =
    let here : 0 + number ≡ number = omega arith in ap (λ (n : ℕ). slice_get right n) here
get_right {A = A} (first ∷ left) right number =
    let here : suc (length left) + number ≡ suc (length left + number) = omega arith in
    ap (λ (n : ℕ). slice_get (first ∷ (left ++ right)) n) here ∙ get_right left right number

pub get_taken : {A : Type 0} (count : ℕ) (items : List A) (number : ℕ) (item : A)
    → slice_get (take count items) number ≡ Some item
    → slice_get items number ≡ Some item
get_taken zero items number item is = absurd (none-some item is)
get_taken (suc count) [] number item is = absurd (none-some item is)
get_taken (suc count) (first ∷ items) zero item is = is
get_taken (suc count) (first ∷ items) (suc number) item is = get_taken count items number item is

pub get_dropped : {A : Type 0} (count : ℕ) (items : List A) (number : ℕ) → slice_get (drop count items) number ≡ slice_get items (count + number)
get_dropped zero items number =
    let here : number ≡ 0 + number = omega arith in ap (slice_get items) here
get_dropped (suc count) [] number = refl
get_dropped (suc count) (first ∷ items) number =
    let here : suc (count + number) ≡ suc count + number = omega arith in
    get_dropped count items number ∙ ap (λ (n : ℕ). slice_get (first ∷ items) n) here

pub length_dropped : {A : Type 0} (count : ℕ) (items : List A) → count ≤ length items → length (drop count items) + count ≡ length items
length_dropped zero items few = omega arith
length_dropped (suc count) [] few = absurd (omega (arith, few))
length_dropped (suc count) (first ∷ items) few = let rest = length_dropped count items (omega (arith, few)) in omega (arith, rest)

pub length_taken : {A : Type 0} (count : ℕ) (items : List A) → count ≤ length items → length (take count items) ≡ count
length_taken zero items few = refl
length_taken (suc count) [] few = absurd (omega (arith, few))
length_taken (suc count) (first ∷ items) few = ap suc (length_taken count items (omega (arith, few)))

pub drop_all : {A : Type 0} (items : List A) → drop (length items) items ≡ []
drop_all [] = refl
drop_all (first ∷ items) = drop_all items

-- a number is below another one, or so much above it
pub split_place : (number count : ℕ) → (number < count) ⊎ ((more : ℕ) × (number ≡ count + more))
split_place number zero = inr (number, omega arith)
split_place zero (suc count) = inl (omega arith)
split_place (suc number) (suc count) = by (split_place number count) where
  by : (number < count) ⊎ ((more : ℕ) × (number ≡ count + more)) → (suc number < suc count) ⊎ ((more : ℕ) × (suc number ≡ suc count + more))
  by (inl low) = inl (omega (arith, low))
  by (inr (more, is)) = inr (more, omega (arith, is))

-- a place that is read as a plain one is plain, or is not usable
pub data IsReadPlain (slots : List Slot) (place : ℕ) : Type 0 where
  is_plain_there : slice_get slots place ≡ Some Plain → IsReadPlain slots place
  is_unusable_there : slice_get slots place ≡ Some Unusable → IsReadPlain slots place

pub read_plain : (slots : List Slot) (place : ℕ) → slice_get (map as_read slots) place ≡ Some Plain → IsReadPlain slots place
read_plain [] place is = absurd (none-some Plain is)
read_plain (Virt one ∷ slots) zero is = absurd (apart (same_Some (Virt one) Plain is)) where
  apart : Virt one ≡ Plain → ⊥
  apart same = absurd cc
read_plain (Plain ∷ slots) zero is = is_plain_there refl
read_plain (Unusable ∷ slots) zero is = is_unusable_there refl
read_plain (slot ∷ slots) (suc place) is = by (read_plain slots place is) where
  by : IsReadPlain slots place → IsReadPlain (slot ∷ slots) (suc place)
  by (is_plain_there there) = is_plain_there there
  by (is_unusable_there there) = is_unusable_there there

pub get_in_take : {A : Type 0} (count : ℕ) (items : List A) (number : ℕ) (item : A)
    → number < count
    → slice_get items number ≡ Some item
    → slice_get (take count items) number ≡ Some item
get_in_take zero items number item low is = absurd (omega (arith, low))
get_in_take (suc count) [] number item low is = absurd (none-some item is)
get_in_take (suc count) (first ∷ items) zero item low is = is
get_in_take (suc count) (first ∷ items) (suc number) item low is = get_in_take count items number item (omega (arith, low)) is

pub take_all : {A : Type 0} (items : List A) → take (length items) items ≡ items
take_all [] = refl
take_all {A = A} (first ∷ items) = ap (λ (rest : List A). first ∷ rest) (take_all items)
