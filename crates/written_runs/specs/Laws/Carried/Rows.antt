-- The rows of instructions that are written as they are: what they take and give, and that their operands are plain.
use Rattle.std.proofs.Common.{◌≡◌, ◌⊎◌, inl, inr, ◌≤◌, ◌<◌, ◌+◌, ◌-◌, ◌++◌, ℕ, zero, suc, false, true, List, [], ◌∷◌, drop, length, map, reverse, slice_get, Option, Some, None, IsTrue, refl, sym, ap, subst, ◌∙◌, arith}
use Rattle.std.proofs.lemmas.Bool.{false≢true}
use Rattle.std.proofs.lemmas.List.{length-reverse, reverse-append}
use Rattle.std.proofs.lemmas.Option.{none-some, same_Some, slice_get_within}
use Rattle.class_model.specs.declared.frame.VType.{VType}
use Rattle.flow_code.specs.ReadTypes.{is_site_object}
use Rattle.flow_code.specs.declared.point.Point.{Point}
use Rattle.machine_values.specs.Frames.{MethodState}
use Rattle.machine_values.specs.Heaps.{Heap, object_at}
use Rattle.machine_values.specs.declared.object.Object.{Object}
use Rattle.machine_values.specs.declared.object.Shape.TheVariants.{Folder}
use Rattle.machine_values.specs.declared.value.Value.{Value}
use Rattle.machine_values.specs.declared.value.Value.TheVariants.{Ref}
use Rattle.member_link.specs.Machine.Completions.{Completion}
use Rattle.member_link.specs.Machine.Ops.{Op}
use Rattle.member_link.specs.Machine.Work.{arity}
use Rattle.plan_flow.specs.Must.{IsAsked, IsMustOf, by_position, row_of_point}
use Rattle.plan_flow.specs.PlanRows.{Guard, PlanRow, Source, any_object, plain_value}
use Rattle.plan_flow.specs.PlanScope.{PlanScope}
use Rattle.plan_flow.specs.PlanSlots.{changed, edge_locals, edge_objects, edge_stack, held, is_open, readable, slots_from}
use Rattle.plan_flow.specs.PlanTable.{falls_on, held_from, operand, positions}
use Rattle.plan_flow.specs.ReadyForPlans.{KeepsType, place_types}
use Rattle.plan_flow.specs.Written.Blocks.{state_written}
use Rattle.plan_flow.specs.Written.Routes.{Route}
use Rattle.plan_flow.specs.Written.WrittenPrograms.{WrittenMethod}
use Rattle.plan_flow.specs.declared.edge.EdgeKind.TheVariants as edges
use Rattle.same_runs.specs.SameWorlds.{IsAwaiting, IsThrowing}
use Rattle.virtual_state.specs.Sites.{has}
use Rattle.virtual_state.specs.States.{State}
use Rattle.virtual_state.specs.declared.slot.Slot.{Slot}
use Rattle.virtual_state.specs.declared.slot.Slot.TheVariants.{Plain, Virt, Unusable}
use Rattle.virtual_state.specs.declared.slot.VObject.{VObject}
use Rattle.written_runs.specs.Inner.PlannedFrames.{IsMet, IsOfSite, Known}
use Rattle.written_runs.specs.Inner.Setup.{Setup}
use Rattle.written_runs.specs.Inner.Together.{AreKnown}
use Rattle.written_runs.specs.Inner.Waiting.{LeavesLocals, ThrowsThere, may_throw}
use Rattle.written_runs.specs.Laws.Carried.Operands.{AreReal}
use Rattle.written_runs.specs.Laws.Carried.Slots.{got_left, got_right}
use Rattle.written_runs.specs.Laws.Carried.Works.{GivesThere, OperationFits}
use Rattle.written_runs.specs.Laws.KnownClasses.{met_left}
use Rattle.written_runs.specs.Laws.Templates.Stacks.{get_dropped}
use Rattle.written_runs.specs.VirtualObjects.{stack_slots}

-- ---- places

pub virtual_there : (slot : Option Slot) (site : ℕ) → readable slot ≡ Virt site → slot ≡ Some (Virt site)
virtual_there (Some (Virt one)) site is = ap Some is
virtual_there (Some Plain) site is = absurd cc
virtual_there (Some Unusable) site is = absurd cc
virtual_there None site is = absurd cc

pub reverse_get : {A : Type 0} (items : List A) (number : ℕ) (item : A)
    → slice_get items number ≡ Some item
    → slice_get (reverse items) (length items - (number + 1)) ≡ Some item
reverse_get {A = A} [] number item is = absurd (none-some item is)
reverse_get {A = A} (first ∷ items) zero item is =
    let back = length-reverse items in
    let here : length (first ∷ items) - (0 + 1) ≡ length (reverse items) + 0 = omega (arith, back) in
    ap (λ (xs : List A). slice_get xs (length (first ∷ items) - (0 + 1))) (reverse-append (first ∷ []) items)
    ∙ ap (slice_get (reverse items ++ first ∷ [])) here
    ∙ got_right (reverse items) (first ∷ []) 0
    ∙ is
reverse_get {A = A} (first ∷ items) (suc number) item is =
    let back = length-reverse items in
    let within = slice_get_within items number item is in
    let here : length (first ∷ items) - (suc number + 1) ≡ length items - (number + 1) = omega arith in
    ap (λ (xs : List A). slice_get xs (length (first ∷ items) - (suc number + 1))) (reverse-append (first ∷ []) items)
    ∙ ap (slice_get (reverse items ++ first ∷ [])) here
    ∙ got_left (reverse items) (first ∷ []) (length items - (number + 1)) (omega (arith, back, within))
    ∙ reverse_get items number item is

-- slots of which none is virtual
real_slots : (slots : List Slot) → ((number site : ℕ) → slice_get slots number ≡ Some (Virt site) → ⊥) → AreReal slots
real_slots [] none = tt
real_slots (Plain ∷ slots) none = real_slots slots (λ number site is. none (suc number) site is)
real_slots (Unusable ∷ slots) none = real_slots slots (λ number site is. none (suc number) site is)
real_slots (Virt site ∷ slots) none = absurd (none 0 site refl)

-- so many operands are plain, where none of their places holds a virtual object
pub real_operands : (point : Point) (before : State) (count entries : ℕ)
    → entries ≡ length point.typed.stack
    → length before.slots ≡ length point.typed.locals + length point.typed.stack
    → count ≤ entries
    → ((number site : ℕ) → number < count → held before (operand point.typed number) ≡ Virt site → ⊥)
    → AreReal (drop (entries - count) (stack_slots point before))
real_operands point before count entries many all enough none =
    real_slots (drop (entries - count) (stack_slots point before)) (λ number site is. by number site is) where
      by : (number site : ℕ) → slice_get (drop (entries - count) (stack_slots point before)) number ≡ Some (Virt site) → ⊥
      by number site is = none (count - (number + 1)) site (omega (arith, low)) (ap readable at_place) where
        at : slice_get before.slots (length point.typed.locals + (entries - count + number)) ≡ Some (Virt site)
        at =
            sym (get_dropped (length point.typed.locals) before.slots (entries - count + number))
            ∙ sym (get_dropped (entries - count) (stack_slots point before) number)
            ∙ is

        low : number < count
        low =
            let within = slice_get_within before.slots (length point.typed.locals + (entries - count + number)) (Virt site) at in
            omega (arith, within, all, many, enough)

        at_place : slice_get before.slots (operand point.typed (count - (number + 1))) ≡ Some (Virt site)
        at_place =
            let below = low in
            let place : operand point.typed (count - (number + 1)) ≡ length point.typed.locals + (entries - count + number) =
            omega (arith, below, many, enough) in
            ap (slice_get before.slots) place ∙ at

-- ---- what is asked

pub not_asked : {s : PlanScope} {at : ℕ} {point : Point} {before : State} → IsMustOf s at point before [] → (site : ℕ) → IsAsked s at point before site → ⊥
not_asked must site asked = false≢true (must.asked site asked)

-- an operand for which the row asks is plain
pub asked_plain : {s : PlanScope} {at : ℕ} {point : Point} {before : State} (number place site : ℕ)
    → IsMustOf s at point before []
    → slice_get (positions (row_of_point s at point)) number ≡ Some (any_object place)
    → held before place ≡ Virt site
    → ⊥
asked_plain number place site must is virtual = not_asked must site (by_position number (any_object place) site is virtual)

-- ---- operands that are virtual

-- a value refers to an object of the folder
pub record IsFolderObject (heap : Heap) (value : Value) : Type 0 where
  pub reference : ℕ
  pub refers : value ≡ Ref reference
  pub object : Object
  pub there : object_at heap reference ≡ Some object
  pub class : ℕ
  pub shape : object.shape ≡ Folder class

pub virtual_operand : {u : Setup} {known : Known} {w : WrittenMethod} {heap : Heap} {point : Point} {f : MethodState}
    (route : Route) (number site : ℕ) (value : Value)
    → AreKnown heap known
    → IsMet u known w point route.state f
    → length f.stack ≡ length point.typed.stack
    → slice_get f.stack number ≡ Some value
    → held (state_written route) (operand point.typed number) ≡ Virt site
    → IsFolderObject heap value
virtual_operand {u = u} {known = known} {w = w} {heap = heap} {point = point} {f = f} route number site value are_known met many is virtual =
    record {
      reference = of_site.reference;
      refers = of_site.refers;
      object = found.0;
      there = found.1;
      class = of_site.class;
      shape = found.2;
    } where
      low : number < length f.stack
      low = slice_get_within f.stack number value is

      slot : slice_get (stack_slots point (state_written route)) (length f.stack - (number + 1)) ≡ Some (Virt site)
      slot =
          let within = low in
          let place : length point.typed.locals + (length f.stack - (number + 1)) ≡ operand point.typed number = omega (arith, within, many) in
          get_dropped (length point.typed.locals) (state_written route).slots (length f.stack - (number + 1))
          ∙ ap (slice_get (state_written route).slots) place
          ∙ virtual_there (slice_get (state_written route).slots (operand point.typed number)) site virtual

      of_site : IsOfSite u known w site value
      of_site =
          (met_left u known w point route.state (has route.made) f met).stack (length f.stack - (number + 1)) site value slot
          (reverse_get f.stack number value is)

      found : (object : Object) × (object_at heap of_site.reference ≡ Some object) × (object.shape ≡ Folder of_site.class)
      found = are_known.each of_site.reference of_site.class of_site.is_known

-- ---- rows that take operands and give plain values

pub record PlainRow (s : PlanScope) (at : ℕ) (point : Point) (before : State) (taken : ℕ) (given : List Source) : Type 0 where
  pub row : PlanRow
  pub is_row : row_of_point s at point ≡ row
  pub locals : row.locals ≡ held_from 0 (length point.typed.locals)
  pub stack : row.stack ≡ held_from (length point.typed.locals) (length point.typed.stack - taken) ++ given
  pub plain : slots_from s before row.change given ≡ map (λ source. Plain) given
  pub unchanged : changed s before row.change ≡ []
  pub opens : is_open before row.next ≡ true
  pub falls : falls_on point.instr ≡ true

module _ {s : PlanScope} {at : ℕ} {point : Point} {before : State} {taken : ℕ} {given : List Source} (r : PlainRow s at point before taken given) where
  pub leaves_of : taken ≤ length point.typed.stack
      → LeavesLocals s at point before (record { by = edges.Next; to = at + 1; guard = (row_of_point s at point).next }) taken given
  leaves_of enough = record {
    enough = enough;
    locals = ap (λ (row : PlanRow). edge_locals row (length point.typed.locals) edges.Next) r.is_row ∙ r.locals;
    stack = ap (λ (row : PlanRow). edge_stack row edges.Next) r.is_row ∙ r.stack;
    plain = ap (λ (row : PlanRow). slots_from s before row.change given) r.is_row ∙ r.plain;
    objects =
        ap (λ (row : PlanRow). edge_objects s before row edges.Next) r.is_row
        ∙ ap (λ (objects : List VObject). objects ++ before.objects) r.unchanged;
  }

  pub gives_of : (ones : List Value)
      → taken ≤ length point.typed.stack
      → ((number : ℕ) (type : VType) (source : Source) (value : Value)
      → slice_get given number ≡ Some source
      → KeepsType at (place_types point.typed) type source
      → IsTrue (is_site_object s.flat type)
      → slice_get ones number ≡ Some value
      → (reference : ℕ) × (value ≡ Ref reference))
      → GivesThere s at point before taken ones
  gives_of ones enough uninit = record {
    falls = r.falls;
    opens = ap (λ (row : PlanRow). is_open before row.next) r.is_row ∙ r.opens;
    given = given;
    leaves = leaves_of enough;
    uninit_given = uninit;
  }

  -- it throws, where its row says so in each state
  pub throws_of : (route : Route) (guard : Guard) → before ≡ state_written route → r.row.throws ≡ Some guard → is_open before guard ≡ true
      → ThrowsThere s at point route
  throws_of route guard same throws opens = record {
    guard = guard;
    throws = ap (λ (row : PlanRow). row.throws) r.is_row ∙ throws;
    opens = ap (λ (state : State). is_open state guard) (sym same) ∙ opens;
  }

-- no source of an uninitialised object is among plain values
pub none_plain : (at : ℕ) (types : List VType) (number : ℕ) (type : VType) (source : Source)
    → slice_get (plain_value ∷ []) number ≡ Some source
    → KeepsType at types type source
    → ⊥
none_plain at types zero type source is kept = of_plain (subst (KeepsType at types type) (sym (same_Some plain_value source is)) kept) where
  of_plain : KeepsType at types type plain_value → ⊥
  of_plain impossible = elim impossible [ ]
none_plain at types (suc number) type source is kept = none-some source is

-- an operation throws, or waits for what may throw
abbrev pub MayThrow : Op → Completion → Type 0
MayThrow op w = IsThrowing w ⊎ (IsAwaiting w × IsTrue (may_throw op))

-- one that throws nothing, and waits for nothing that may throw
pub never_throws : {A : Type 0} (op : Op) (w : Completion) → (IsThrowing w → ⊥) → may_throw op ≡ false → MayThrow op w → A
never_throws op w never quiet (inl throwing) = absurd (never throwing)
never_throws op w never quiet (inr waits) = absurd (false≢true (sym quiet ∙ waits.1))

-- An operation whose operands are plain, which gives a plain value or none, and throws only where its row says so.
pub fits_plainly : {s : PlanScope} {at : ℕ} {point : Point} {route : Route} {given : List Source} (op : Op) (stack : List Value) (w : Completion)
    (r : PlainRow s at point (state_written route) (arity op) given)
    → length stack ≡ length point.typed.stack
    → length (state_written route).slots ≡ length point.typed.locals + length point.typed.stack
    → arity op ≤ length stack
    → ((number site : ℕ) → number < arity op → held (state_written route) (operand point.typed number) ≡ Virt site → ⊥)
    → ((number : ℕ) (type : VType) (source : Source)
    → slice_get given number ≡ Some source
    → KeepsType at (place_types point.typed) type source
    → ⊥)
    → (MayThrow op w → ThrowsThere s at point route)
    → OperationFits s at point route op stack w
fits_plainly {point = point} {route = route} {given = given} op stack w r many all enough plain none throws = record {
  real = real_operands point (state_written route) (arity op) (length stack) many all enough plain;
  given = λ ones memory is.
      gives_of r ones (omega (arith, many, enough)) (λ number type source value there kept site got. absurd (none number type source there kept));
  throws = λ throwing. throws (inl throwing);
  waits = λ waits. record {
    falls = r.falls;
    opens = ap (λ (row : PlanRow). is_open (state_written route) row.next) r.is_row ∙ r.opens;
    taken = arity op;
    many = ap (λ (n : ℕ). n - arity op) many;
    given = given;
    leaves = leaves_of r (omega (arith, many, enough));
    none_given = none;
  };
  pends = λ waits may. throws (inr (waits, may));
}
