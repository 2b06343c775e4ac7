-- Written frames by types and slots: parts of stacks, slots that instructions keep, and types by the numbers of items.
use Rattle.std.proofs.Common.{◌≡◌, ◌⊎◌, ◌+◌, ◌-◌, ◌≤◌, ◌<◌, ℕ, zero, suc, Bool, false, List, [], ◌∷◌, ◌++◌, drop, length, map, replicate, slice_get, take, Option, Some, refl, sym, ap, ◌∙◌, inl, inr, arith}
use Rattle.std.specs.List.{AllByRecursion}
use Rattle.std.proofs.lemmas.Bool.{false≢true}
use Rattle.std.proofs.lemmas.List.{append_assoc, length-append, take-append-drop}
use Rattle.std.proofs.lemmas.Option.{none-some, same_Some}
use Rattle.class_model.specs.Frames.{is_top, is_wide}
use Rattle.class_model.specs.declared.frame.Frame.{Frame}
use Rattle.class_model.specs.declared.frame.VType.{VType}
use Rattle.class_model.specs.declared.frame.VType.TheVariants as types
use Rattle.flow_code.specs.FlatCode.{FlatCode, point_at}
use Rattle.flow_code.specs.ReadTypes.{read_frame, read_type}
use Rattle.flow_code.specs.WrittenUnits.{greatest_depth}
use Rattle.flow_code.specs.declared.point.Point.{Point}
use Rattle.flow_code.specs.declared.point.Site.{Site}
use Rattle.making_code.specs.StateFrames.{entry_types_from, field_types, frame_in, local_types_from, site_types_from, state_frame}
use Rattle.member_link.specs.Rows.Operands.{topmost, under}
use Rattle.plan_flow.specs.PlanRows.{Change}
use Rattle.plan_flow.specs.PlanScope.{PlanScope}
use Rattle.plan_flow.specs.PlanSlots.{readable, slots_from}
use Rattle.plan_flow.specs.PlanTable.{held_from}
use Rattle.plan_flow.specs.Written.Finish.{Finished}
use Rattle.plan_flow.specs.Written.FramedCode.{type_by_item}
use Rattle.plan_flow.specs.Written.WrittenCode.{Form}
use Rattle.virtual_state.specs.States.{State, is_present, is_unusable}
use Rattle.virtual_state.specs.declared.slot.Slot.{Slot}
use Rattle.virtual_state.specs.declared.slot.Slot.TheVariants.{Plain, Virt, Unusable}
use Rattle.virtual_state.specs.declared.slot.VObject.{VObject}
use Rattle.written_types.proofs.AgreeingFrames.{is_a_top}
use Rattle.written_types.proofs.Given.{entries_in, entries_with, frame_in_slots, locals_in, type_in}
use Rattle.written_types.specs.Inner.CarriedFrames.{AgreeIn}

-- ---- frames in slots, with all units behind those of the method together

-- the units of fields, of objects, and of scratch
abbrev pub units_behind : FlatCode → List VObject → List VType
units_behind flat objects =
    site_types_from (record { slots = []; objects = objects }) 0 flat.sites
    ++ replicate (length flat.sites) types.Top
    ++ replicate (greatest_depth flat.points) types.Top

abbrev pub slots_frame : FlatCode → Frame → List Slot → List Slot → List VObject → Frame
slots_frame flat read slots entries objects = record {
  locals = locals_in read.locals slots ++ units_behind flat objects;
  stack = entries_in read.stack entries;
}

pub together : (own fields objects scratch : List VType) → own ++ fields ++ objects ++ scratch ≡ own ++ (fields ++ objects ++ scratch)
together own fields objects scratch =
    append_assoc (own ++ fields) objects scratch
    ∙ append_assoc own fields (objects ++ scratch)
    ∙ ap (λ (rest : List VType). own ++ rest) (sym (append_assoc fields objects scratch))

pub grouped : (flat : FlatCode) (read : Frame) (slots entries : List Slot) (objects : List VObject)
    → frame_in_slots flat read slots entries objects ≡ slots_frame flat read slots entries objects
grouped flat read slots entries objects =
    ap (λ (locals : List VType). record { locals = locals; stack = entries_in read.stack entries })
    (together (locals_in read.locals slots) (site_types_from (record { slots = []; objects = objects }) 0 flat.sites)
    (replicate (length flat.sites) types.Top) (replicate (greatest_depth flat.points) types.Top))

-- ---- lists

pub drop_in_map : {A B : Type 0} (f : A → B) (count : ℕ) (items : List A) → drop count (map f items) ≡ map f (drop count items)
drop_in_map f zero items = refl
drop_in_map f (suc count) [] = refl
drop_in_map f (suc count) (item ∷ items) = drop_in_map f count items

pub take_in_map : {A B : Type 0} (f : A → B) (count : ℕ) (items : List A) → take count (map f items) ≡ map f (take count items)
take_in_map f zero items = refl
take_in_map f (suc count) [] = refl
take_in_map {B = B} f (suc count) (item ∷ items) = ap (λ (rest : List B). f item ∷ rest) (take_in_map f count items)

pub as_long_taken : {A B : Type 0} (count : ℕ) (ones : List A) (others : List B) → length ones ≡ length others
    → length (take count ones) ≡ length (take count others)
as_long_taken zero ones others long = refl
as_long_taken (suc count) [] [] long = refl
as_long_taken (suc count) [] (other ∷ others) long = absurd cc
as_long_taken (suc count) (one ∷ ones) [] long = absurd cc
as_long_taken (suc count) (one ∷ ones) (other ∷ others) long =
    ap suc (as_long_taken count ones others (let e : length ones ≡ length others = cc in e))

pub as_long_dropped : {A B : Type 0} (count : ℕ) (ones : List A) (others : List B) → length ones ≡ length others
    → length (drop count ones) ≡ length (drop count others)
as_long_dropped zero ones others long = long
as_long_dropped (suc count) [] [] long = refl
as_long_dropped (suc count) [] (other ∷ others) long = absurd cc
as_long_dropped (suc count) (one ∷ ones) [] long = absurd cc
as_long_dropped (suc count) (one ∷ ones) (other ∷ others) long =
    as_long_dropped count ones others (let e : length ones ≡ length others = cc in e)

pub drop_front : {A : Type 0} (low top : List A) → drop (length low) (low ++ top) ≡ top
drop_front [] top = refl
drop_front (one ∷ low) top = drop_front low top

pub take_front : {A : Type 0} (low top : List A) → take (length low) (low ++ top) ≡ low
take_front [] top = refl
take_front {A = A} (one ∷ low) top = ap (λ (rest : List A). one ∷ rest) (take_front low top)

-- the operands on a stack, and what is below them
pub topmost_is : (low top : List VType) (count : ℕ) → length top ≡ count → topmost count (low ++ top) ≡ top
topmost_is low top count long =
    let all = length-append low top in
    let here : length (low ++ top) - count ≡ length low = omega (arith, all, long) in
    ap (λ (n : ℕ). drop n (low ++ top)) here ∙ drop_front low top

pub under_is : (low top : List VType) (count : ℕ) → length top ≡ count → under count (low ++ top) ≡ low
under_is low top count long =
    let all = length-append low top in
    let here : length (low ++ top) - count ≡ length low = omega (arith, all, long) in
    ap (λ (n : ℕ). take n (low ++ top)) here ∙ take_front low top

pub stack_parts : (count : ℕ) (stack : List VType) → under count stack ++ topmost count stack ≡ stack
stack_parts count stack = take-append-drop (length stack - count) stack

-- ---- lists that agree

-- a list that agrees with two others, one behind the other
pub record AgreeingParts (ones left right : List VType) : Type 0 where
  pub low : List VType
  pub top : List VType
  pub is : ones ≡ low ++ top
  pub low_agree : AgreeIn low left
  pub top_agree : AgreeIn top right

pub agreeing_parts : (ones left right : List VType) → AgreeIn ones (left ++ right) → AgreeingParts ones left right
agreeing_parts ones [] right agree = record { low = []; top = ones; is = refl; low_agree = tt; top_agree = agree }
agreeing_parts [] (type ∷ left) right agree = absurd agree
agreeing_parts (one ∷ ones) (type ∷ left) right agree =
    let rest = agreeing_parts ones left right agree.1 in
    record {
      low = one ∷ rest.low;
      top = rest.top;
      is = ap (λ (xs : List VType). one ∷ xs) rest.is;
      low_agree = (agree.0, rest.low_agree);
      top_agree = rest.top_agree;
    }

pub agree_both : (low top left right : List VType) → AgreeIn low left → AgreeIn top right → AgreeIn (low ++ top) (left ++ right)
agree_both [] top [] right low_agree top_agree = top_agree
agree_both [] top (type ∷ left) right low_agree top_agree = absurd low_agree
agree_both (one ∷ low) top [] right low_agree top_agree = absurd low_agree
agree_both (one ∷ low) top (type ∷ left) right low_agree top_agree = (low_agree.0, agree_both low top left right low_agree.1 top_agree)

pub agree_long : (ones written : List VType) → AgreeIn ones written → length ones ≡ length written
agree_long [] [] agree = refl
agree_long [] (type ∷ written) agree = absurd agree
agree_long (one ∷ ones) [] agree = absurd agree
agree_long (one ∷ ones) (type ∷ written) agree = ap suc (agree_long ones written agree.1)

-- a type that is not Top is there in what agrees
pub agree_at : (ones written : List VType) (n : ℕ) (type : VType) → AgreeIn ones written → slice_get written n ≡ Some type → is_top type ≡ false
    → slice_get ones n ≡ Some type
agree_at [] [] n type agree is other = absurd (none-some type is)
agree_at [] (first ∷ written) n type agree is other = absurd agree
agree_at (one ∷ ones) [] n type agree is other = absurd agree
agree_at (one ∷ ones) (first ∷ written) zero type agree is other = elim agree.0 [
  | inl top ↦ absurd (false≢true (sym other ∙ ap is_top (sym (same_Some first type is) ∙ top)))
  | inr same ↦ ap Some same ∙ is
]
agree_at (one ∷ ones) (first ∷ written) (suc n) type agree is other = agree_at ones written n type agree.1 is other

-- written types that say less
abbrev pub SayLess : List VType → List VType → Type 0
SayLess [] [] = Unit {0}
SayLess (type ∷ all) (other ∷ others) = ((other ≡ types.Top) ⊎ (other ≡ type)) × SayLess all others
SayLess all others = ⊥

pub agree_less : (ones written others : List VType) → AgreeIn ones written → SayLess written others → AgreeIn ones others
agree_less [] [] [] agree less = tt
agree_less [] [] (other ∷ others) agree less = absurd less
agree_less [] (type ∷ written) others agree less = absurd agree
agree_less (one ∷ ones) [] others agree less = absurd agree
agree_less (one ∷ ones) (type ∷ written) [] agree less = absurd less
agree_less (one ∷ ones) (type ∷ written) (other ∷ others) agree less = (
  elim less.0 [
    | inl top ↦ inl top
    | inr same ↦ elim agree.0 [
      | inl top ↦ inl (same ∙ top)
      | inr is ↦ inr (is ∙ sym same)
    ]
  ],
  agree_less ones written others agree.1 less.1,
)

pub say_same : (all : List VType) → SayLess all all
say_same [] = tt
say_same (type ∷ all) = (inr refl, say_same all)

pub less_both : (ones others more also : List VType) → SayLess ones others → SayLess more also → SayLess (ones ++ more) (others ++ also)
less_both [] [] more also less rest = rest
less_both [] (other ∷ others) more also less rest = absurd less
less_both (one ∷ ones) [] more also less rest = absurd less
less_both (one ∷ ones) (other ∷ others) more also less rest = (less.0, less_both ones others more also less.1 rest)

-- ---- types by the numbers of items

module _ (form : Form) (blocks : List Finished) where
  abbrev By : VType → VType
  By = type_by_item form blocks

  pub by_top : (type : VType) → is_top (By type) ≡ is_top type
  by_top (types.Uninit at) = refl
  by_top type = refl

  pub by_wide : (type : VType) → is_wide (By type) ≡ is_wide type
  by_wide (types.Uninit at) = refl
  by_wide type = refl

  pub less_mapped : (ones others : List VType) → SayLess ones others → SayLess (map By ones) (map By others)
  less_mapped [] [] less = tt
  less_mapped [] (other ∷ others) less = absurd less
  less_mapped (one ∷ ones) [] less = absurd less
  less_mapped (one ∷ ones) (other ∷ others) less = (
    elim less.0 [
      | inl top ↦ inl (ap By top)
      | inr same ↦ inr (ap By same)
    ],
    less_mapped ones others less.1,
  )

-- ---- stacks by slots

pub entries_both : (ones more : List VType) (slots others : List Slot) → length ones ≡ length slots
    → entries_in (ones ++ more) (slots ++ others) ≡ entries_in ones slots ++ entries_in more others
entries_both [] more [] others long = refl
entries_both [] more (slot ∷ slots) others long = absurd cc
entries_both (one ∷ ones) more [] others long = absurd cc
entries_both (one ∷ ones) more (slot ∷ slots) others long =
    ap (entries_with slot one) (entries_both ones more slots others (let e : length ones ≡ length slots = cc in e))
    ∙ by_slot slot where
      by_slot : (slot : Slot) → entries_with slot one (entries_in ones slots ++ entries_in more others)
          ≡ entries_with slot one (entries_in ones slots) ++ entries_in more others
      by_slot Plain = refl
      by_slot (Virt site) = refl
      by_slot Unusable = refl

-- a place as it is read
abbrev pub as_read : Slot → Slot
as_read Plain = Plain
as_read (Virt site) = Virt site
as_read Unusable = Plain

pub read_slot : (slot : Slot) → readable (Some slot) ≡ as_read slot
read_slot Plain = refl
read_slot (Virt site) = refl
read_slot Unusable = refl

abbrev pub Usable : List Slot → Type 0
Usable slots = AllByRecursion (λ slot. is_unusable slot ≡ false) slots

pub usable_read : (slot : Slot) → is_unusable slot ≡ false → as_read slot ≡ slot
usable_read Plain usable = refl
usable_read (Virt site) usable = refl
usable_read Unusable usable = absurd (false≢true (sym usable))

pub all_usable_read : (slots : List Slot) → Usable slots → map as_read slots ≡ slots
all_usable_read [] usable = refl
all_usable_read (slot ∷ slots) usable = λ i. usable_read slot usable.0 i ∷ all_usable_read slots usable.1 i

pub get_is : (place : ℕ) (slots : List Slot) → place < length slots
    → (slot : Slot) × (slice_get slots place ≡ Some slot) × (drop place slots ≡ slot ∷ drop (suc place) slots)
get_is place [] low = absurd (omega (arith, low))
get_is zero (slot ∷ slots) low = (slot, refl, refl)
get_is (suc place) (slot ∷ slots) low = let rest = get_is place slots (omega (arith, low)) in (rest.0, rest.1, rest.2)

-- what so many places hold, from one on
pub held_slots : (s : PlanScope) (state : State) (does : Change) (first count : ℕ)
    → first + count ≤ length state.slots
    → slots_from s state does (held_from first count) ≡ map as_read (take count (drop first state.slots))
held_slots s state does first zero few = refl
held_slots s state does first (suc count) few =
    let here = get_is first state.slots (omega (arith, few)) in
    ap (λ (slot : Option Slot). readable slot ∷ slots_from s state does (held_from (first + 1) count)) here.1
    ∙ ap (λ (slot : Slot). slot ∷ slots_from s state does (held_from (first + 1) count)) (read_slot here.0)
    ∙ ap (λ (slots : List Slot). as_read here.0 ∷ slots) (held_slots s state does (first + 1) count (omega (arith, few)))
    ∙ ap (λ (n : ℕ). as_read here.0 ∷ map as_read (take count (drop n state.slots))) next
    ∙ ap (λ (slots : List Slot). map as_read (take (suc count) slots)) (sym here.2) where
      next : first + 1 ≡ suc first
      next = omega arith

-- ---- the slots of a state at a typed point

pub record UsablePlaces (flat : FlatCode) (locals stack : List VType) (slots : List Slot) : Type 0 where
  pub many : length slots ≡ length locals + length stack
  pub stack_many : length (drop (length locals) slots) ≡ length stack
  pub usable : Usable (drop (length locals) slots)
  pub locals_read : locals_in (map (read_type flat) locals) (map as_read (take (length locals) slots))
      ≡ locals_in (map (read_type flat) locals) slots

usable_stack : (stack : List VType) (slots : List Slot) → map is_unusable slots ≡ map (λ type. false) stack
    → (length slots ≡ length stack) × Usable slots
usable_stack [] [] is = (refl, tt)
usable_stack [] (slot ∷ slots) is = absurd cc
usable_stack (type ∷ stack) [] is = absurd cc
usable_stack (type ∷ stack) (slot ∷ slots) is =
    let rest = usable_stack stack slots (ap (drop 1) is) in (
      ap suc rest.0,
      (same_Some (is_unusable slot) false (ap (λ (all : List Bool). slice_get all 0) is), rest.1),
    )

local_read : (flat : FlatCode) (type : VType) (slot : Slot) → is_unusable slot ≡ is_top type
    → type_in (read_type flat type) (as_read slot) ≡ type_in (read_type flat type) slot
local_read flat type Plain is = refl
local_read flat type (Virt site) is = refl
local_read flat type Unusable is = ap (read_type flat) (is_a_top type (sym is))

pub usable_places : (flat : FlatCode) (locals stack : List VType) (slots : List Slot)
    → map is_unusable slots ≡ map is_top locals ++ map (λ type. false) stack
    → UsablePlaces flat locals stack slots
usable_places flat [] stack slots is =
    let rest = usable_stack stack slots is in
    record { many = let is_long = rest.0 in omega (arith, is_long); stack_many = rest.0; usable = rest.1; locals_read = refl }
usable_places flat (type ∷ locals) stack [] is = absurd cc
usable_places flat (type ∷ locals) stack (slot ∷ slots) is =
    let rest = usable_places flat locals stack slots (ap (drop 1) is) in
    let here = same_Some (is_unusable slot) (is_top type) (ap (λ (all : List Bool). slice_get all 0) is) in
    record {
      many = let is_long = rest.many in omega (arith, is_long);
      stack_many = rest.stack_many;
      usable = rest.usable;
      locals_read = λ i. local_read flat type slot here i ∷ rest.locals_read i;
    }

-- ---- the frame of a state in these words

pub locals_are : (flat : FlatCode) (all : List VType) (slots : List Slot) → local_types_from flat all slots ≡ locals_in (map (read_type flat) all) slots
locals_are flat [] slots = refl
locals_are flat (type ∷ all) [] = refl
locals_are flat (type ∷ all) (Plain ∷ slots) = ap (λ (rest : List VType). read_type flat type ∷ rest) (locals_are flat all slots)
locals_are flat (type ∷ all) (Virt site ∷ slots) = ap (λ (rest : List VType). types.Top ∷ rest) (locals_are flat all slots)
locals_are flat (type ∷ all) (Unusable ∷ slots) = ap (λ (rest : List VType). types.Top ∷ rest) (locals_are flat all slots)

entries_are : (flat : FlatCode) (all : List VType) (slots : List Slot) → entry_types_from flat all slots ≡ entries_in (map (read_type flat) all) slots
entries_are flat [] slots = refl
entries_are flat (type ∷ all) [] = refl
entries_are flat (type ∷ all) (Plain ∷ slots) = ap (λ (rest : List VType). read_type flat type ∷ rest) (entries_are flat all slots)
entries_are flat (type ∷ all) (Virt site ∷ slots) = entries_are flat all slots
entries_are flat (type ∷ all) (Unusable ∷ slots) = entries_are flat all slots

sites_are : (state : State) (number : ℕ) (sites : List Site)
    → site_types_from state number sites ≡ site_types_from (record { slots = []; objects = state.objects }) number sites
sites_are state number [] = refl
sites_are state number (site ∷ sites) =
    ap (λ (rest : List VType). field_types (is_present state.objects number) site.fields ++ rest) (sites_are state (suc number) sites)

pub state_is : (flat : FlatCode) (at : ℕ) (point : Point) (state : State) → point_at flat at ≡ Some point
    → state_frame flat at state
    ≡ slots_frame flat (read_frame flat point.typed) state.slots (drop (length point.typed.locals) state.slots) state.objects
state_is flat at point state there =
    ap (λ (found : Option Point). frame_in flat found state) there
    ∙ (λ i. record { locals = locals i; stack = entries_are flat point.typed.stack (drop (length point.typed.locals) state.slots) i }) where
      objects : List VType
      objects = replicate (length flat.sites) types.Top

      scratch : List VType
      scratch = replicate (greatest_depth flat.points) types.Top

      own : List VType
      own = locals_in (map (read_type flat) point.typed.locals) state.slots

      fields : List VType
      fields = site_types_from (record { slots = []; objects = state.objects }) 0 flat.sites

      locals : local_types_from flat point.typed.locals state.slots ++ site_types_from state 0 flat.sites ++ objects ++ scratch
          ≡ own ++ units_behind flat state.objects
      locals =
          (λ i. locals_are flat point.typed.locals state.slots i ++ sites_are state 0 flat.sites i ++ objects ++ scratch)
          ∙ together own fields objects scratch
