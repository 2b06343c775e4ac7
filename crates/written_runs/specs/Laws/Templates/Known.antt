-- What is known where a planned frame is on top and its instruction is next in both: what the first run's instruction does, how many local units
-- and stack entries there are, and what the operands are.
use Rattle.std.proofs.Common.{◌≡◌, ◌≤◌, ◌<◌, ◌+◌, ◌++◌, ℕ, zero, suc, Bool, true, false, List, [], ◌∷◌, drop, length, map, reverse, slice_get, take, Some, None, Option, option_and_then, option_map, IsTrue, refl, sym, ap, subst, ◌∙◌, arith}
use Rattle.std.proofs.lemmas.Bool.{false≢true}
use Rattle.std.proofs.lemmas.List.{length-reverse, reverse-append, take-append-drop}
use Rattle.std.proofs.lemmas.Option.{none-some, same_Some, slice_get-map, slice_get_within}
use Rattle.class_model.specs.declared.class_file.MethodAt.{MethodAt}
use Rattle.class_model.specs.Frames.{is_top}
use Rattle.class_model.specs.declared.frame.VType.{VType}
use Rattle.class_model.specs.declared.frame.VType.TheVariants.{Top}
use Rattle.flow_code.specs.ReadTypes.{read_frame, read_type}
use Rattle.flow_code.specs.declared.point.FlatInstr.TheVariants.{Of}
use Rattle.flow_code.specs.declared.point.Point.{Point}
use Rattle.machine_values.specs.Frames.{MethodState}
use Rattle.machine_values.specs.Heaps.{Heap, object_at}
use Rattle.machine_values.specs.declared.object.Object.{Object}
use Rattle.machine_values.specs.declared.object.Shape.TheVariants.{Folder}
use Rattle.machine_values.specs.declared.value.Value.TheVariants.{Ref}
use Rattle.machine_values.specs.declared.frame.RunFrame.{RunFrame}
use Rattle.machine_values.specs.declared.frame.RunFrame.TheVariants.{Beginning, Method}
use Rattle.machine_values.specs.declared.value.Value.{Value}
use Rattle.class_tree.specs.Headers.{Name, headers_of}
use Rattle.class_tree.specs.Layouts.{instance_fields}
use Rattle.class_model.specs.Descriptors.{kind_of, parameters_of}
use Rattle.class_model.specs.Members.{FINAL, STATIC}
use Rattle.class_model.specs.Pool.{constant_at}
use Rattle.class_model.specs.declared.instr.Instr.TheVariants.{Invoke, PutField, Shuffle}
use Rattle.member_link.specs.Machine.CallSteps.{is_object_init}
use Rattle.member_link.specs.Signatures.{reference_of}
use Rattle.class_model.specs.declared.descriptor.FieldType.{FieldType}
use Rattle.flow_code.specs.declared.point.Site.{Site}
use Rattle.machine_values.specs.Values.{blank_of_kind, blank_values}
use Rattle.member_link.specs.FieldConstructors.{field_types}
use Rattle.same_runs.specs.SameMemories.{IsInert}
use Rattle.member_link.specs.Machine.Layouts.{slot_number, slot_number_in}
use Rattle.member_link.specs.References.{Reference}
use Rattle.member_link.specs.Machine.Codes.{item_op, number_at, run_point}
use Rattle.member_link.specs.Machine.Locals.{form_for}
use Rattle.member_link.specs.Machine.Ops.{Op}
use Rattle.member_link.specs.Rows.ShuffleRows.{Form, form_in, forms_of}
use Rattle.member_link.specs.Machine.Programs.{Code, Point as RunPoint, Program, code_at, field_of, folder_number, has_flag, headers_in, point_at}
use Rattle.member_link.specs.Machine.Runs.{Run, turn}
use Rattle.member_link.specs.Machine.Stepping.{frames_step, is_library_turn, op_step, point_step, step}
use Rattle.member_link.specs.Machine.Worlds.{World, stuck}
use Rattle.member_link.specs.RowScope.{RowScope}
use Rattle.member_link.specs.Scope.{Scope, scope_at}
use Rattle.plan_flow.specs.Laws.WrittenBlocks.{item_behind}
use Rattle.plan_flow.specs.Must.{row_of_point}
use Rattle.plan_flow.specs.PlanRows.{RowEdge, from_place}
use Rattle.plan_flow.specs.PlanScope.{PlanScope, is_of_library, local_types}
use Rattle.plan_flow.specs.PlanSlots.{held, readable}
use Rattle.plan_flow.specs.PlanTable.{edges_of, operand}
use Rattle.plan_flow.specs.Laws.RoutedPlans.{IsRouteOf, route_of}
use Rattle.plan_flow.specs.Plans.{IsStateAt, IsValidAt, unusable_places}
use Rattle.plan_flow.specs.Written.Blocks.{Block, instruction_block, state_written}
use Rattle.plan_flow.specs.Written.Routes.{Route}
use Rattle.plan_flow.specs.Written.WrittenPrograms.{WrittenMethod}
use Rattle.same_runs.specs.Flats.{flat_code, flat_item, flat_point, flat_points, instr_scope, pool_of}
use Rattle.same_runs.specs.Laws.BothBegin.{counted}
use Rattle.same_runs.specs.Laws.CaughtUp.{turned_going}
use Rattle.typed_runs.specs.Conforming.{AllConform, UnitsConform, and_unit, and_value, no_units, no_values}
use Rattle.typed_runs.specs.TypedFrames.{ConformsTo}
use Rattle.typed_runs.specs.TypedWorlds.{StaysTyped, TypedWorld}
use Rattle.virtual_state.specs.Laws.Removals.{without_is_state}
use Rattle.virtual_state.specs.Sites.{has}
use Rattle.virtual_state.specs.States.{IsState, State, is_present, is_unusable}
use Rattle.virtual_state.specs.Without.{IsClosed, made_plain}
use Rattle.virtual_state.specs.declared.slot.Slot.{Slot}
use Rattle.virtual_state.specs.declared.slot.Slot.TheVariants.{Plain, Virt, Unusable}
use Rattle.same_runs.specs.Laws.Numbered.{slice_numbered}
use Rattle.written_runs.specs.Inner.PlannedFrames.{IsReached, KeepStack, Keeps, scope_in}
use Rattle.written_runs.specs.Inner.Setup.{Setup, first}
use Rattle.written_runs.specs.Laws.PlannedTurns.{AtPlanned}
use Rattle.written_runs.specs.Laws.Settling.{SettleLaws}
use Rattle.written_runs.specs.Laws.Templates.Stacks.{KeptParts, as_read, drop_all, drop_at, get_dropped, get_in_take, get_left, get_taken, keep_split, length_dropped, length_taken, read_slot, take_all}
use Rattle.written_runs.specs.Laws.WideFlats.{room_reached}
use Rattle.written_runs.specs.Laws.WideLocals.{HasWideRoom}
use Rattle.written_runs.specs.VirtualObjects.{RefersTo, Tells, Virtual, local_slots, stack_slots}
use Rattle.written_runs.specs.WrittenRuns.{IsReadyMethod}

-- what other parts of the proof give
pub record TemplateLaws (u : Setup) : Type 0 where
  pub settle : SettleLaws u
  -- the first program runs flat code
  pub flat_code : (at : MethodAt) (w : WrittenMethod) (host : Scope)
      → u.written at ≡ Some w
      → scope_at u.classes at ≡ Some host
      → code_at (first u) at ≡ Some (flat_code u.classes u.links host w.flat)
  -- a step of a typed world leaves one, and is not stuck
  pub steps_typed : (w : World) → TypedWorld (first u) u.typings w → StaysTyped (first u) u.typings w (step (first u) w)
  -- the values of the topmost frame conform to the types of its typed point, as they are read
  pub conforms : (world : World) (f : MethodState) (rest : List RunFrame) (w : WrittenMethod) (point : Point)
      → TypedWorld (first u) u.typings world
      → world.frames ≡ Method f ∷ rest
      → u.written f.at ≡ Some w
      → slice_get w.flat.points f.place ≡ Some point
      → ConformsTo (first u) u.typings world.memory.heap (read_frame w.flat point.typed) f
  -- a local unit that is Top, and that an instruction does not store into, is Top behind it
  pub stays_top : (at : MethodAt) (w : WrittenMethod) (place : ℕ) (point : Point) (number : ℕ) (edge : RowEdge) (unit : ℕ) (type : VType)
      → u.written at ≡ Some w
      → slice_get w.flat.points place ≡ Some point
      → slice_get (edges_of place point (row_of_point (scope_in u w) place point)) number ≡ Some edge
      → slice_get point.typed.locals unit ≡ Some Top
      → slice_get (row_of_point (scope_in u w) place point).locals unit ≡ Some (from_place unit)
      → slice_get (local_types w.flat edge.to) unit ≡ Some type
      → type ≡ Top
  -- clearing flags leaves the layout of objects as it is
  pub slots : (class : Name) (field : Reference) → slot_number (first u) class field ≡ slot_number_in (headers_of u.classes) class field
  -- a class that the folder has not is the library's
  pub of_library : (w : WrittenMethod) (field : Reference)
      → folder_number (first u) field.class ≡ None
      → is_of_library (scope_in u w) field ≡ true
  -- the class of a site is one of the folder, and where it begins nothing runs
  pub site_class : (at : MethodAt) (w : WrittenMethod) (number : ℕ) (site : Site)
      → u.written at ≡ Some w
      → slice_get w.flat.sites number ≡ Some site
      → (class : ℕ) × (folder_number (first u) site.class ≡ Some class) × IsInert (first u) class
  -- the form by which the topmost values are moved is that of their types
  pub same_forms : (world : World) (f : MethodState) (rest : List RunFrame) (w : WrittenMethod) (point : Point) (class opcode : ℕ) (form : Form)
      → TypedWorld (first u) u.typings world
      → world.frames ≡ Method f ∷ rest
      → u.written f.at ≡ Some w
      → slice_get w.flat.points f.place ≡ Some point
      → point.instr ≡ Of class (Shuffle opcode)
      → form_for (forms_of opcode) f.stack ≡ Some form
      → form_in (forms_of opcode) point.typed.stack ≡ Some form
  -- a field of the folder that flat code stores into is not final, where it stores into an object of one of its sites
  pub not_final : (world : World) (f : MethodState) (rest : List RunFrame) (w : WrittenMethod) (point : Point) (class index : ℕ)
      (r field : Reference) (number : ℕ) (value : Value) (reference : ℕ) (below : List Value) (object : Object) (of class_number : ℕ) (site : Site)
      → TypedWorld (first u) u.typings world
      → world.frames ≡ Method f ∷ rest
      → u.written f.at ≡ Some w
      → slice_get w.flat.points f.place ≡ Some point
      → point.instr ≡ Of class (PutField index)
      → reference_of (pool_of u.classes class) (constant_at (pool_of u.classes class) index) ≡ Some r
      → u.links.field r ≡ Some field
      → folder_number (first u) field.class ≡ Some number
      → has_flag (field_of (first u) field) STATIC ≡ false
      → f.stack ≡ value ∷ Ref reference ∷ below
      → object_at world.memory.heap reference ≡ Some object
      → object.shape ≡ Folder class_number
      → folder_number (first u) site.class ≡ Some class_number
      → slice_get w.flat.sites of ≡ Some site
      → has_flag (field_of (first u) field) FINAL ≡ false
  -- a linked call of the instance initialiser of java/lang/Object hands over its object alone
  pub object_inits : (at : MethodAt) (w : WrittenMethod) (place : ℕ) (point : Point) (class opcode index count : ℕ) (r : Reference)
      → u.written at ≡ Some w
      → slice_get w.flat.points place ≡ Some point
      → point.instr ≡ Of class (Invoke opcode index count)
      → reference_of (pool_of u.classes class) (constant_at (pool_of u.classes class) index) ≡ Some r
      → is_object_init r ≡ true
      → parameters_of r.desc ≡ []
  -- an object begins with zero or null in each field of its class
  pub blanks : (class : Name)
      → blank_values (instance_fields (headers_in (first u)) class)
      ≡ map (λ (type : FieldType). blank_of_kind (kind_of type)) (field_types (headers_of u.classes) class)

-- ---- lengths

pub units_many : {P : Program} {s : RowScope} {heap : Heap} {types : List VType} {units : List (Option Value)} → UnitsConform P s heap types units
    → length units ≡ length types
units_many no_units = refl
units_many (and_unit here rest) = ap suc (units_many rest)

pub values_many : {P : Program} {s : RowScope} {heap : Heap} {types : List VType} {values : List Value} → AllConform P s heap types values
    → length values ≡ length types
values_many no_values = refl
values_many (and_value here rest) = ap suc (values_many rest)

pub many_mapped : {A B : Type 0} (change : A → B) (items : List A) → length (map change items) ≡ length items
many_mapped change [] = refl
many_mapped change (item ∷ items) = ap suc (many_mapped change items)

pub many_both : {A : Type 0} (left right : List A) → length (left ++ right) ≡ length left + length right
many_both [] right = omega arith
many_both (item ∷ left) right = let rest = many_both left right in omega (arith, rest)

-- a place that is read as a virtual object holds one
pub held_virtual : (slot : Option Slot) (site : ℕ) → readable slot ≡ Virt site → slot ≡ Some (Virt site)
held_virtual (Some (Virt one)) site is = ap Some is
held_virtual (Some Plain) site is = absurd cc
held_virtual (Some Unusable) site is = absurd cc
held_virtual None site is = absurd cc

module _ (u : Setup) (laws : TemplateLaws u) {measure : ℕ} {one other : Run} (a : AtPlanned u measure one other) where
  abbrev pub w : WrittenMethod
  w = a.in_planned.one

  abbrev pub s : PlanScope
  s = scope_in u a.in_planned.one

  abbrev pub route : Route
  route = a.settled.route

  abbrev pub point : Point
  point = a.settled.point

  abbrev pub before : State
  before = state_written a.settled.route

  -- ---- where it stands

  pub stands : one.world.frames ≡ Method a.f ∷ a.ones
  stands =
      a.t.along.stands
      ∙ ap (λ (now : List ℕ). map Beginning now ++ a.t.along.ones) a.none_now
      ∙ a.stands

  pub stands_also : other.world.frames ≡ Method a.g ∷ a.others
  stands_also = a.t.along.stands_also ∙ a.stands_also

  pub written : u.written a.f.at ≡ Some w
  written = ap u.written a.in_planned.at ∙ a.in_planned.is_written

  pub reached : IsReached w a.f.place point route
  reached = a.settled.of_instruction.reached

  pub ready : IsReadyMethod u.classes u.links a.f.at w
  ready = laws.settle.is_setup.ready a.f.at w written

  is_own : a.in_planned.block ≡ instruction_block s a.f.place point route
  is_own = a.settled.of_instruction.is

  same_point : a.in_planned.point ≡ point
  same_point =
      same_Some a.in_planned.point point
      (sym a.in_planned.is_point ∙ ap (λ (b : Block). slice_get w.flat.points b.at) is_own ∙ reached.is_point)

  pub tells : Tells (first u) s a.t.along.virtuals (length a.ones) point before a.f
  tells =
      subst (λ (b : Block). Tells (first u) s a.t.along.virtuals (length a.ones) point b.state a.f) is_own
      (subst (λ (p : Point). Tells (first u) s a.t.along.virtuals (length a.ones) p a.in_planned.block.state a.f) same_point
      a.in_planned.tells)

  pub keeps : Keeps w.flat a.t.along.names a.t.along.virtuals (length a.ones) [] point before a.f a.g
  keeps =
      subst (λ (b : Block). Keeps w.flat a.t.along.names a.t.along.virtuals (length a.ones) [] point b.state a.f a.g) is_own
      (subst (λ (p : Point). Keeps w.flat a.t.along.names a.t.along.virtuals (length a.ones) [] p a.in_planned.block.state a.f a.g) same_point
      a.in_planned.keeps)

  pub own : (number : ℕ) (virtual : Virtual)
      → slice_get a.t.along.virtuals number ≡ Some virtual
      → virtual.frame ≡ length a.ones
      → IsTrue (is_present before.objects virtual.site)
  own number virtual is of_frame =
      subst (λ (b : Block). IsTrue (is_present b.state.objects virtual.site)) is_own (a.in_planned.own number virtual is of_frame)

  -- ---- what it does

  abbrev pub flat_number : ℕ → ℕ
  flat_number = number_at (flat_points u.classes ready.scope w.flat)

  abbrev pub first_op : Op
  first_op = item_op u.links flat_number (instr_scope u.classes ready.scope w.flat point.instr) (flat_item point.instr)

  is_first : point_at (first u) a.f.at a.f.place
      ≡ Some (run_point u.links flat_number (flat_point u.classes ready.scope w.flat (0 + a.f.place) point))
  is_first =
      ap (λ (code : Option Code). option_and_then (λ (c : Code). slice_get c.points a.f.place) code)
      (laws.flat_code a.f.at w ready.scope written ready.is_scope)
      ∙ slice_get-map (run_point u.links flat_number) (flat_points u.classes ready.scope w.flat) a.f.place
      ∙ ap (option_map (run_point u.links flat_number))
      (slice_numbered (flat_point u.classes ready.scope w.flat) 0 w.flat.points a.f.place
      ∙ ap (option_map (flat_point u.classes ready.scope w.flat (0 + a.f.place))) reached.is_point)

  -- its turn is the step of its operation
  pub step_is : step (first u) one.world ≡ op_step (first u) (counted one) a.f a.ones first_op
  step_is =
      by (Method a.f ∷ a.ones) stands refl
      ∙ ap (λ (found : Option RunPoint). point_step (first u) (counted one) a.f a.ones found) is_first where
        by : (frames : List RunFrame)
            → one.world.frames ≡ frames
            → is_library_turn frames ≡ false
            → step (first u) one.world ≡ frames_step (first u) (counted one) frames
        by frames is none = rw (ap is_library_turn is ∙ none) (ap (frames_step (first u) (counted one)) is)

  pub turn_is : turn (first u) one ≡ record one { world = op_step (first u) (counted one) a.f a.ones first_op }
  turn_is =
      turned_going (first u) one (Method a.f ∷ a.ones) a.t.along.goes stands refl
      ∙ ap (λ (found : Option RunPoint). record one { world = point_step (first u) (counted one) a.f a.ones found }) is_first

  stays : StaysTyped (first u) u.typings one.world (op_step (first u) (counted one) a.f a.ones first_op)
  stays = subst (StaysTyped (first u) u.typings one.world) step_is (laws.steps_typed one.world a.t.along.typed)

  pub typed_then : TypedWorld (first u) u.typings (op_step (first u) (counted one) a.f a.ones first_op)
  typed_then = stays.typed

  pub not_stuck : (op_step (first u) (counted one) a.f a.ones first_op).halt ≡ stuck → ⊥
  not_stuck = stays.not_stuck (λ is. absurd (cc (sym a.t.along.goes ∙ is)))

  -- ---- how many units and entries there are

  conforms_here : ConformsTo (first u) u.typings one.world.memory.heap (read_frame w.flat point.typed) a.f
  conforms_here = laws.conforms one.world a.f a.ones w point a.t.along.typed stands written reached.is_point

  pub many_locals : length a.f.locals ≡ length point.typed.locals
  many_locals = units_many conforms_here.locals ∙ many_mapped (read_type w.flat) point.typed.locals

  pub many_stack : length a.f.stack ≡ length point.typed.stack
  many_stack = sym (length-reverse a.f.stack) ∙ values_many conforms_here.stack ∙ many_mapped (read_type w.flat) point.typed.stack

  pub of_plan : IsRouteOf s ready.plan a.f.place (0 + a.f.place) route
  of_plan = route_of s 0 ready.plan w.routes a.f.place route ready.routed reached.is_route

  pub planned_here : IsValidAt s ready.plan a.f.place of_plan.point
  planned_here = ready.valid.each a.f.place of_plan.point of_plan.reached

  pub state_at : IsStateAt s a.f.place route.state
  state_at = subst (IsStateAt s a.f.place) (sym of_plan.is.state) planned_here.is_planned.state

  -- no long or double is typed in the last local unit
  pub room_here : HasWideRoom point.typed.locals
  room_here =
      room_reached s ready.plan ready.valid u.classes ready.scope ready.code.typed a.f.place point of_plan.point of_plan.reached reached.is_point

  pub is_state : IsState before
  is_state = without_is_state route.state (has route.made) state_at.is_state closed where
    closed : IsClosed (has route.made) route.state.objects
    closed =
        subst (λ (state : State). IsClosed (has route.made) state.objects) (sym of_plan.is.state)
        (subst (λ (made : List ℕ). IsClosed (has made) of_plan.point.state.objects) (sym of_plan.is.made)
        planned_here.is_planned.made.closed)

  pub many_slots : length before.slots ≡ length point.typed.locals + length point.typed.stack
  many_slots =
      many_mapped (made_plain (has route.made)) route.state.slots
      ∙ sym (many_mapped is_unusable route.state.slots)
      ∙ ap length state_at.places
      ∙ types where
        types : length (unusable_places s a.f.place) ≡ length point.typed.locals + length point.typed.stack
        types =
            rw (reached.is_point)
            (let both = many_both (map is_top point.typed.locals) (map (λ (type : VType). false) point.typed.stack) in
            let locals = many_mapped is_top point.typed.locals in
            let stack = many_mapped (λ (type : VType). false) point.typed.stack in
            omega (arith, both, locals, stack))

  -- ---- operands

  abbrev pub entries : List Slot
  entries = stack_slots a.settled.point (state_written a.settled.route)

  pub many_entries : length entries ≡ length point.typed.stack
  many_entries =
      let all = many_slots in
      let left = length_dropped (length point.typed.locals) before.slots (omega (arith, all)) in
      omega (arith, all, left)

  -- a local unit that is not usable is Top
  pub top_unit : (unit : ℕ) → slice_get (local_slots point before) unit ≡ Some Unusable → slice_get point.typed.locals unit ≡ Some Top
  top_unit unit is = by (slice_get point.typed.locals unit) refl where
    low : unit < length point.typed.locals
    low =
        let all = many_slots in
        let within = slice_get_within (take (length point.typed.locals) before.slots) unit Unusable is in
        let many = length_taken (length point.typed.locals) before.slots (omega (arith, all)) in
        omega (arith, within, many)

    unusable_before : (slots : List Slot) (number : ℕ)
        → slice_get (map (made_plain (has route.made)) slots) number ≡ Some Unusable
        → slice_get (map is_unusable slots) number ≡ Some true
    unusable_before [] number there = absurd (none-some Unusable there)
    unusable_before (Unusable ∷ slots) zero there = refl
    unusable_before (Plain ∷ slots) zero there = absurd (cc (same_Some Plain Unusable there))
    unusable_before (Virt site ∷ slots) zero there = gone (has route.made site) refl where
      gone : (away : Bool) → has route.made site ≡ away → Some false ≡ Some true
      gone true told = absurd (cc (same_Some Plain Unusable (sym (rw (told) refl) ∙ there)))
      gone false told = absurd (cc (same_Some (Virt site) Unusable (sym (rw (told) refl) ∙ there)))
    unusable_before (slot ∷ slots) (suc number) there = unusable_before slots number there

    marked : slice_get (map is_top point.typed.locals ++ map (λ (type : VType). false) point.typed.stack) unit ≡ Some true
    marked =
        sym places ∙ unusable_before route.state.slots unit (get_taken (length point.typed.locals) before.slots unit Unusable is) where
          places : slice_get (map is_unusable route.state.slots) unit
              ≡ slice_get (map is_top point.typed.locals ++ map (λ (type : VType). false) point.typed.stack) unit
          places = ap (λ (marks : List Bool). slice_get marks unit) (state_at.places ∙ types) where
            types : unusable_places s a.f.place ≡ map is_top point.typed.locals ++ map (λ (type : VType). false) point.typed.stack
            types = rw (reached.is_point) refl

    top : slice_get (map is_top point.typed.locals) unit ≡ Some true
    top =
        let many = many_mapped is_top point.typed.locals in
        let below = low in
        sym (get_left (map is_top point.typed.locals) (map (λ (type : VType). false) point.typed.stack) unit (omega (arith, many, below)))
        ∙ marked

    is_it : (type : VType) → is_top type ≡ true → type ≡ Top
    is_it Top told = refl
    is_it type told = absurd (false≢true told)

    by : (found : Option VType) → slice_get point.typed.locals unit ≡ found → slice_get point.typed.locals unit ≡ Some Top
    by None none = absurd (none-some true (ap (option_map is_top) (sym none) ∙ sym (slice_get-map is_top point.typed.locals unit) ∙ top))
    by (Some type) some =
        some ∙ ap Some (is_it type (same_Some (is_top type) true
        (ap (option_map is_top) (sym some) ∙ sym (slice_get-map is_top point.typed.locals unit) ∙ top)))

  -- the slot of a stack entry, counted from the lowest
  pub entry_slot : (number : ℕ) (slot : Slot)
      → slice_get entries number ≡ Some slot
      → held before (length point.typed.locals + number) ≡ as_read slot
  entry_slot number slot is =
      ap readable (sym (get_dropped (length point.typed.locals) before.slots number) ∙ is) ∙ read_slot slot

  -- an operand that is virtual refers to its object
  pub operand_refers : (top below : List Value) (value : Value) (site : ℕ)
      → a.f.stack ≡ top ++ (value ∷ below)
      → held before (operand point.typed (length top)) ≡ Virt site
      → RefersTo a.t.along.virtuals (length a.ones) site value
  operand_refers top below value site is virtual = tells.stack (length below) site value slot entry where
    many : length point.typed.stack ≡ length top + suc (length below)
    many = sym many_stack ∙ ap length is ∙ many_both top (value ∷ below)

    place : length point.typed.locals + length below ≡ operand point.typed (length top)
    place = let m = many in omega (arith, m)

    slot : slice_get entries (length below) ≡ Some (Virt site)
    slot =
        get_dropped (length point.typed.locals) before.slots (length below)
        ∙ ap (slice_get before.slots) place
        ∙ held_virtual (slice_get before.slots (operand point.typed (length top))) site virtual

    turned : reverse a.f.stack ≡ (reverse below ++ value ∷ []) ++ reverse top
    turned =
        ap reverse is
        ∙ reverse-append top (value ∷ below)
        ∙ ap (λ (vs : List Value). vs ++ reverse top) (reverse-append (value ∷ []) below)

    low : length below < length (reverse below ++ value ∷ [])
    low = let both = many_both (reverse below) (value ∷ []) in let back = length-reverse below in omega (arith, both, back)

    entry : slice_get (reverse a.f.stack) (length below) ≡ Some value
    entry =
        ap (λ (vs : List Value). slice_get vs (length below)) turned
        ∙ get_left (reverse below ++ value ∷ []) (reverse top) (length below) low
        ∙ ap (slice_get (reverse below ++ value ∷ [])) (sym (length-reverse below))
        ∙ item_behind (reverse below) [] value

  -- the second stack has the plain entries of both parts of the first
  pub split_stack : (top below : List Value)
      → a.f.stack ≡ top ++ below
      → KeptParts a.t.along.names (take (length below) entries) (drop (length below) entries) (reverse below) (reverse top) (reverse a.g.stack)
  split_stack top below is =
      keep_split a.t.along.names (take (length below) entries) (drop (length below) entries) (reverse below) (reverse top) (reverse a.g.stack) many
      (subst (λ (slots : List Slot). KeepStack a.t.along.names slots (reverse below ++ reverse top) (reverse a.g.stack))
      (sym (take-append-drop (length below) entries))
      (subst (λ (vs : List Value). KeepStack a.t.along.names entries vs (reverse a.g.stack)) (ap reverse is ∙ reverse-append top below)
      keeps.stack)) where
        few : length below ≤ length entries
        few =
            let all = many_entries in
            let stack = sym many_stack ∙ ap length is ∙ many_both top below in
            omega (arith, all, stack)

        many : length (take (length below) entries) ≡ length (reverse below)
        many = length_taken (length below) entries few ∙ sym (length-reverse below)

  -- the slots of the topmost entries
  pub one_slot : (value : Value) (below : List Value)
      → a.f.stack ≡ value ∷ below
      → (slot : Slot) × (drop (length below) entries ≡ slot ∷ []) × (held before (operand point.typed 0) ≡ as_read slot)
  one_slot value below is =
      let all = many_entries in
      let stack = sym many_stack ∙ ap length is in
      let here = drop_at (length below) entries (omega (arith, all, stack)) in
      let place : length point.typed.locals + length below ≡ operand point.typed 0 = omega (arith, stack) in
      let behind : suc (length below) ≡ length entries = omega (arith, all, stack) in (
        here.0,
        here.2 ∙ ap (λ (n : ℕ). here.0 ∷ drop n entries) behind ∙ ap (λ (slots : List Slot). here.0 ∷ slots) (drop_all entries),
        ap (held before) (sym place) ∙ entry_slot (length below) here.0 here.1,
      )

  pub two_slots : (value next : Value) (below : List Value)
      → a.f.stack ≡ value ∷ next ∷ below
      → (slot next_slot : Slot)
      × (drop (length below) entries ≡ next_slot ∷ slot ∷ [])
      × (held before (operand point.typed 0) ≡ as_read slot)
      × (held before (operand point.typed 1) ≡ as_read next_slot)
  two_slots value next below is =
      let all = many_entries in
      let stack = sym many_stack ∙ ap length is in
      let lower = drop_at (length below) entries (omega (arith, all, stack)) in
      let upper = drop_at (suc (length below)) entries (omega (arith, all, stack)) in
      let place : length point.typed.locals + suc (length below) ≡ operand point.typed 0 = omega (arith, stack) in
      let place_next : length point.typed.locals + length below ≡ operand point.typed 1 = omega (arith, stack) in
      let behind : suc (suc (length below)) ≡ length entries = omega (arith, all, stack) in (
        upper.0,
        lower.0,
        lower.2
            ∙ ap (λ (slots : List Slot). lower.0 ∷ slots) (upper.2
            ∙ ap (λ (n : ℕ). upper.0 ∷ drop n entries) behind ∙ ap (λ (slots : List Slot). upper.0 ∷ slots) (drop_all entries)),
        ap (held before) (sym place) ∙ entry_slot (suc (length below)) upper.0 upper.1,
        ap (held before) (sym place_next) ∙ entry_slot (length below) lower.0 lower.1,
      )

  -- the second stack has the plain entries of the whole
  pub keeps_whole : KeepStack a.t.along.names (take (length a.f.stack) entries) (reverse a.f.stack) (reverse a.g.stack)
  keeps_whole =
      let many : length entries ≡ length a.f.stack = many_entries ∙ sym many_stack in
      subst (λ (slots : List Slot). KeepStack a.t.along.names slots (reverse a.f.stack) (reverse a.g.stack))
      (sym (take_all entries) ∙ ap (λ (n : ℕ). take n entries) many) keeps.stack

  -- a value that is stored in a local unit
  pub unit_refers : (unit site : ℕ) (value : Value)
      → held before unit ≡ Virt site
      → slice_get a.f.locals unit ≡ Some (Some value)
      → RefersTo a.t.along.virtuals (length a.ones) site value
  unit_refers unit site value virtual is =
      let within = slice_get_within a.f.locals unit (Some value) is in
      let many = many_locals in
      let found = tells.locals unit site
      (get_in_take (length point.typed.locals) before.slots unit (Virt site) (omega (arith, within, many))
      (held_virtual (slice_get before.slots unit) site virtual)) in
      subst (RefersTo a.t.along.virtuals (length a.ones) site)
      (same_Some found.0 value (same_Some (Some found.0) (Some value) (sym found.1 ∙ is))) found.2
