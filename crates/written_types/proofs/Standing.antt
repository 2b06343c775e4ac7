-- The state before an instruction and what the instruction leaves, with types, where it moves values and gives others.
use Rattle.std.proofs.Common.{◌≡◌, ◌+◌, ◌-◌, ◌≤◌, ◌<◌, ℕ, zero, suc, Bool, true, List, [], ◌∷◌, ◌++◌, length, map, take, drop, slice_get, Some, refl, sym, ap, subst, ◌∙◌, arith}
use Rattle.std.specs.List.{AllByRecursion}
use Rattle.std.proofs.lemmas.List.{length-drop, length-map, length-take-le, map-append}
use Rattle.std.proofs.lemmas.Option.{none-some, same_Some}
use Rattle.class_model.specs.declared.frame.Frame.{Frame}
use Rattle.class_model.specs.declared.frame.VType.{VType}
use Rattle.flow_code.specs.ReadTypes.{read_frame, read_type}
use Rattle.member_link.specs.RowScope.{RowScope}
use Rattle.member_link.specs.Rows.Operands.{AllFit, Need, topmost, under}
use Rattle.plan_flow.specs.PlanRows.{Change, PlanRow, Source}
use Rattle.plan_flow.specs.PlanScope.{PlanScope}
use Rattle.plan_flow.specs.PlanSlots.{changed, held, slot_from, slots_from}
use Rattle.plan_flow.specs.PlanTable.{held_from, held_locals, operand}
use Rattle.plan_flow.specs.ReadyForPlans.{place_types}
use Rattle.virtual_state.specs.States.{State, object_of}
use Rattle.virtual_state.specs.declared.slot.VObject.{VObject}
use Rattle.written_types.proofs.SlotTypes.{item_before, item_behind, joined, place_has, places_have}
use Rattle.written_types.specs.FitsTypes.{HasFieldTypes, HasItsNew, HasType, HavePairs, HaveTypes}

-- ---- lists

pub all_taken : {A : Type 0} (P : A → Type 0) (count : ℕ) (items : List A) → AllByRecursion P items → AllByRecursion P (take count items)
all_taken P zero items all = tt
all_taken P (suc count) [] all = tt
all_taken P (suc count) (item ∷ items) all = (all.0, all_taken P count items all.1)

pub all_dropped : {A : Type 0} (P : A → Type 0) (count : ℕ) (items : List A) → AllByRecursion P items → AllByRecursion P (drop count items)
all_dropped P zero items all = all
all_dropped P (suc count) [] all = tt
all_dropped P (suc count) (item ∷ items) all = all_dropped P count items all.1

pub all_joined : {A : Type 0} (P : A → Type 0) (ones others : List A) → AllByRecursion P ones → AllByRecursion P others
    → AllByRecursion P (ones ++ others)
all_joined P [] others all more = more
all_joined P (one ∷ ones) others all more = (all.0, all_joined P ones others all.1 more)

pub all_mapped : {A : Type 0} (P : A → Type 0) (change : A → A) → ((a : A) → P a → P (change a)) → (items : List A) → AllByRecursion P items
    → AllByRecursion P (map change items)
all_mapped P change kept [] all = tt
all_mapped P change kept (item ∷ items) all = (kept item all.0, all_mapped P change kept items all.1)

pub all_at : {A : Type 0} (P : A → Type 0) (items : List A) (n : ℕ) (item : A) → AllByRecursion P items → slice_get items n ≡ Some item → P item
all_at P [] n item all is = absurd (none-some item is)
all_at P (first ∷ items) zero item all is = subst P (same_Some first item is) all.0
all_at P (first ∷ items) (suc n) item all is = all_at P items n item all.1 is

pub item_at : {A : Type 0} (items : List A) (n : ℕ) → n < length items → (item : A) × (slice_get items n ≡ Some item)
item_at [] n within = absurd (omega (arith, within))
item_at (item ∷ items) zero within = (item, refl)
item_at (item ∷ items) (suc n) within = item_at items n (omega (arith, within))

item_of_taken : {A : Type 0} (count : ℕ) (items : List A) (n : ℕ) (item : A) → slice_get (take count items) n ≡ Some item → slice_get items n ≡ Some item
item_of_taken zero items n item is = absurd (none-some item is)
item_of_taken (suc count) [] n item is = absurd (none-some item is)
item_of_taken (suc count) (first ∷ items) zero item is = is
item_of_taken (suc count) (first ∷ items) (suc n) item is = item_of_taken count items n item is

pub item_of_dropped : {A : Type 0} (count : ℕ) (items : List A) (n : ℕ) → slice_get (drop count items) n ≡ slice_get items (count + n)
item_of_dropped zero items n = ap (slice_get items) (omega arith)
item_of_dropped (suc count) [] n = refl
item_of_dropped (suc count) (first ∷ items) n =
    let next : suc count + n ≡ suc (count + n) = omega arith in
    item_of_dropped count items n ∙ sym (ap (slice_get (first ∷ items)) next)

pub fit_long : (s : RowScope) (needs : List Need) (stack : List VType) → AllFit s needs stack → length stack ≡ length needs
fit_long s [] [] fit = refl
fit_long s [] (type ∷ stack) fit = absurd fit
fit_long s (need ∷ needs) [] fit = absurd fit
fit_long s (need ∷ needs) (type ∷ stack) fit = ap suc (fit_long s needs stack fit.1)

-- ---- before and behind an instruction

abbrev pub HaveFieldTypes : PlanScope → List VObject → Type 0
HaveFieldTypes s objects =
    (number : ℕ) (object : VObject) → object_of objects number ≡ Some object → HasFieldTypes s number object

pub record Standing (s : PlanScope) (reached : ℕ → Bool) (f : Frame) (before : State) : Type 0 where
  pub slots : HaveTypes s (map (read_type s.flat) (place_types f)) before.slots
  pub objects : HaveFieldTypes s before.objects
  pub locals : AllByRecursion (HasItsNew s reached) (map (read_type s.flat) f.locals)
  pub stack : AllByRecursion (HasItsNew s reached) (map (read_type s.flat) f.stack)
  pub pairs : HavePairs (map (read_type s.flat) f.locals)

-- The local units, the stack and the objects behind an instruction, by its row in a plan and by its types; control goes on.
pub record Left (s : PlanScope) (reached : ℕ → Bool) (before : State) (p : PlanRow) (locals stack : List VType) (goes_on : Bool) : Type 0 where
  pub have_locals : HaveTypes s locals (slots_from s before p.change p.locals)
  pub have_stack : HaveTypes s stack (slots_from s before p.change p.stack)
  pub objects : HaveFieldTypes s (changed s before p.change ++ before.objects)
  pub new_locals : AllByRecursion (HasItsNew s reached) locals
  pub new_stack : AllByRecursion (HasItsNew s reached) stack
  pub pairs : HavePairs locals
  pub goes : goes_on ≡ true

module _ (s : PlanScope) (reached : ℕ → Bool) (f : Frame) (before : State) (st : Standing s reached f before) where
  abbrev rf : Frame
  rf = read_frame s.flat f

  whole_is : map (read_type s.flat) (place_types f) ≡ rf.locals ++ rf.stack
  whole_is = map-append (read_type s.flat) f.locals f.stack

  whole : HaveTypes s (rf.locals ++ rf.stack) before.slots
  whole = subst (λ (all : List VType). HaveTypes s all before.slots) whole_is st.slots

  locals_long : length rf.locals ≡ length f.locals
  locals_long = length-map f.locals (read_type s.flat)

  stack_long : length rf.stack ≡ length f.stack
  stack_long = length-map f.stack (read_type s.flat)

  -- ---- what places hold

  pub local_has : (n : ℕ) (type : VType) → slice_get rf.locals n ≡ Some type → HasType s type (held before n)
  local_has n type is = place_has s (rf.locals ++ rf.stack) before.slots n type whole (item_before rf.locals rf.stack n type is)

  entry_has : (n : ℕ) (type : VType) → slice_get rf.stack n ≡ Some type → HasType s type (held before (length f.locals + n))
  entry_has n type is =
      place_has s (rf.locals ++ rf.stack) before.slots (length f.locals + n) type whole
      (subst (λ (m : ℕ). slice_get (rf.locals ++ rf.stack) (m + n) ≡ Some type) locals_long (item_behind rf.locals rf.stack n ∙ is))

  -- an operand, by its number among those that are taken, the lowest first
  pub operand_has : (count k from_top : ℕ) (type : VType) → length (topmost count rf.stack) ≡ count → k + (from_top + 1) ≡ count
      → slice_get (topmost count rf.stack) k ≡ Some type
      → HasType s type (held before (operand f from_top))
  operand_has count k from_top type long at is =
      subst (λ (n : ℕ). HasType s type (held before n)) place
      (entry_has (length rf.stack - count + k) type (sym (item_of_dropped (length rf.stack - count) rf.stack k) ∙ is)) where
        many : count ≤ length rf.stack
        many = omega (arith, long, length-drop (length rf.stack - count) rf.stack)

        place : length f.locals + (length rf.stack - count + k) ≡ operand f from_top
        place = omega (arith, many, at, stack_long)

  pub kept_locals : (does : Change) → HaveTypes s rf.locals (slots_from s before does (held_locals f))
  kept_locals does =
      subst (λ (n : ℕ). HaveTypes s rf.locals (slots_from s before does (held_from 0 n))) locals_long
      (places_have s before does (rf.locals ++ rf.stack) whole rf.locals 0
      (λ n type is. subst (λ (m : ℕ). slice_get (rf.locals ++ rf.stack) m ≡ Some type) (omega arith) (item_before rf.locals rf.stack n type is)))

  pub under_have : (does : Change) (count : ℕ)
      → HaveTypes s (under count rf.stack) (slots_from s before does (held_from (length f.locals) (length f.stack - count)))
  under_have does count =
      subst (λ (n : ℕ). HaveTypes s (under count rf.stack) (slots_from s before does (held_from (length f.locals) n))) many
      (places_have s before does (rf.locals ++ rf.stack) whole (under count rf.stack) (length f.locals) at) where
        many : length (under count rf.stack) ≡ length f.stack - count
        many = length-take-le (length rf.stack - count) rf.stack (omega arith) ∙ ap (λ (n : ℕ). n - count) stack_long

        at : (n : ℕ) (type : VType) → slice_get (under count rf.stack) n ≡ Some type
            → slice_get (rf.locals ++ rf.stack) (length f.locals + n) ≡ Some type
        at n type is =
            subst (λ (m : ℕ). slice_get (rf.locals ++ rf.stack) (m + n) ≡ Some type) locals_long
            (item_behind rf.locals rf.stack n ∙ item_of_taken (length rf.stack - count) rf.stack n type is)

  -- ---- what is left

  -- with other types under the operands
  pub left_by : (p : PlanRow) (count : ℕ) (sources : List Source) (locals lower gives : List VType)
      → p.stack ≡ held_from (length f.locals) (length f.stack - count) ++ sources
      → HaveTypes s locals (slots_from s before p.change p.locals)
      → (HaveTypes s (under count rf.stack) (slots_from s before p.change (held_from (length f.locals) (length f.stack - count)))
      → HaveTypes s lower (slots_from s before p.change (held_from (length f.locals) (length f.stack - count))))
      → HaveTypes s gives (slots_from s before p.change sources)
      → HaveFieldTypes s (changed s before p.change ++ before.objects)
      → AllByRecursion (HasItsNew s reached) locals
      → AllByRecursion (HasItsNew s reached) lower
      → AllByRecursion (HasItsNew s reached) gives
      → HavePairs locals
      → Left s reached before p locals (lower ++ gives) true
  left_by p count sources locals lower gives is have kept given objects new_locals new_lower new_gives pairs = record {
    have_locals = have;
    have_stack =
        subst (λ (all : List Source). HaveTypes s (lower ++ gives) (slots_from s before p.change all)) (sym is)
        (subst (HaveTypes s (lower ++ gives))
        (sym (map-append (slot_from s before p.change) (held_from (length f.locals) (length f.stack - count)) sources))
        (joined s lower gives _ _ (kept (under_have p.change count)) given));
    objects = objects;
    new_locals = new_locals;
    new_stack = all_joined (HasItsNew s reached) lower gives new_lower new_gives;
    pairs = pairs;
    goes = refl;
  }

  pub new_under : (count : ℕ) → AllByRecursion (HasItsNew s reached) (under count rf.stack)
  new_under count = all_taken (HasItsNew s reached) (length rf.stack - count) rf.stack st.stack

  -- with the same types
  pub moved : (p : PlanRow) (count : ℕ) (sources : List Source) (gives : List VType)
      → p.locals ≡ held_locals f
      → p.stack ≡ held_from (length f.locals) (length f.stack - count) ++ sources
      → HaveTypes s gives (slots_from s before p.change sources)
      → HaveFieldTypes s (changed s before p.change ++ before.objects)
      → AllByRecursion (HasItsNew s reached) gives
      → Left s reached before p rf.locals (under count rf.stack ++ gives) true
  moved p count sources gives locals_are is given objects new_gives =
      left_by p count sources rf.locals (under count rf.stack) gives is
      (subst (λ (all : List Source). HaveTypes s rf.locals (slots_from s before p.change all)) (sym locals_are) (kept_locals p.change))
      (λ have. have) given objects st.locals (new_under count) new_gives st.pairs
