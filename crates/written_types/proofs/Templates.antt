-- Where the items of a template begin: the parts of the stack and of the local units, and what their frame has to be behind them.
use Rattle.std.proofs.Common.{◌≡◌, ◌≢◌, ◌-◌, ℕ, zero, suc, true, false, List, [], ◌∷◌, ◌++◌, drop, length, map, replicate, slice_get, take, Option, Some, refl, sym, ap, subst, ◌∙◌, arith}
use Rattle.std.specs.List.{AllByRecursion}
use Rattle.std.proofs.lemmas.List.{length-map, map-append}
use Rattle.std.proofs.lemmas.Option.{same_Some}
use Rattle.class_model.specs.declared.frame.Frame.{Frame}
use Rattle.class_model.specs.declared.frame.VType.{VType}
use Rattle.class_model.specs.declared.frame.VType.TheVariants as types
use Rattle.flow_code.specs.FlatCode.{FlatCode}
use Rattle.flow_code.specs.ReadTypes.{read_frame, read_type}
use Rattle.flow_code.specs.WrittenUnits.{greatest_depth}
use Rattle.flow_code.specs.declared.point.Point.{Point}
use Rattle.flow_code.specs.declared.point.Site.{Site}
use Rattle.making_code.specs.StateFrames.{field_types, site_types_from}
use Rattle.member_link.specs.Rows.Operands.{topmost, under}
use Rattle.member_link.specs.Rows.Row.{Row, stack_behind}
use Rattle.plan_flow.specs.Effect.{IsEffectIn}
use Rattle.plan_flow.specs.Laws.OpenEdges.{jump_edge, next_edge}
use Rattle.plan_flow.specs.Laws.RoutedPlans.{IsRouteOf, route_of}
use Rattle.plan_flow.specs.Must.{row_of_point}
use Rattle.plan_flow.specs.PlanRows.{PlanRow, Source}
use Rattle.plan_flow.specs.PlanScope.{PlanScope}
use Rattle.plan_flow.specs.PlanSlots.{changed, is_open, slot_from, slots_from}
use Rattle.plan_flow.specs.PlanTable.{falls_on, held_from, held_locals, targets_at}
use Rattle.plan_flow.specs.Plans.{state_left}
use Rattle.plan_flow.specs.Written.Blocks.{Block, state_written}
use Rattle.plan_flow.specs.Written.Finish.{Finished}
use Rattle.plan_flow.specs.Written.FramedCode.{frame_by_item, type_by_item}
use Rattle.plan_flow.specs.Written.Routes.{IsRoute, Route, RouteEdge, edge_by}
use Rattle.plan_flow.specs.Written.WrittenCode.{written_items}
use Rattle.plan_flow.specs.Written.WrittenFrames.{written_frame}
use Rattle.plan_flow.specs.declared.edge.EdgeKind.TheVariants as edges
use Rattle.same_runs.specs.TypedFlats.{TypesPoint, read_row}
use Rattle.virtual_state.specs.States.{State, is_present, is_unusable}
use Rattle.virtual_state.specs.Sites.{has}
use Rattle.virtual_state.specs.Without.{without}
use Rattle.virtual_state.specs.declared.slot.Slot.{Slot}
use Rattle.virtual_state.specs.declared.slot.VObject.{VObject}
use Rattle.written_types.proofs.Arrivals.{FitsPoint, begins, fits_point}
use Rattle.written_types.proofs.Given.{AtInstruction, Given, entries_in, locals_in}
use Rattle.written_types.proofs.ItemSteps.{frame_of}
use Rattle.written_types.proofs.SlotFrames.{slots_frame, units_behind, AgreeingParts, UsablePlaces, agree_both, agreeing_parts, all_usable_read, as_long_taken, as_read, entries_both, held_slots, state_is, stack_parts, usable_places}
use Rattle.written_types.proofs.Standing.{Standing, all_taken}
use Rattle.written_types.specs.FitsTypes.{HaveTypes, is_reached}
use Rattle.written_types.specs.Inner.CarriedFrames.{AgreeIn, Agrees, IsFresh, frame_in}
use Rattle.written_types.specs.Writing.{Writing}

-- ---- units of fields by the sites that are present

sites_alike : (ones others : List VObject) → ((site : ℕ) → is_present ones site ≡ is_present others site) → (number : ℕ) (sites : List Site)
    → site_types_from (record { slots = []; objects = ones }) number sites
    ≡ site_types_from (record { slots = []; objects = others }) number sites
sites_alike ones others same number [] = refl
sites_alike ones others same number (site ∷ sites) =
    λ i. field_types (same number i) site.fields ++ sites_alike ones others same (suc number) sites i

pub units_alike : (flat : FlatCode) (ones others : List VObject) → ((site : ℕ) → is_present ones site ≡ is_present others site)
    → units_behind flat ones ≡ units_behind flat others
units_alike flat ones others same =
    ap (λ (fields : List VType). fields ++ replicate (length flat.sites) types.Top ++ replicate (greatest_depth flat.points) types.Top)
    (sites_alike ones others same 0 flat.sites)

-- ---- types of slots

have_behind : (s : PlanScope) (ones others : List VType) (slots : List Slot) → HaveTypes s (ones ++ others) slots
    → HaveTypes s others (drop (length ones) slots)
have_behind s [] others slots have = have
have_behind s (one ∷ ones) others [] have = absurd have
have_behind s (one ∷ ones) others (slot ∷ slots) have = have_behind s ones others slots have.1

pub have_dropped : (s : PlanScope) (count : ℕ) (all : List VType) (slots : List Slot) → HaveTypes s all slots
    → HaveTypes s (drop count all) (drop count slots)
have_dropped s zero all slots have = have
have_dropped s (suc count) [] [] have = tt
have_dropped s (suc count) [] (slot ∷ slots) have = absurd have
have_dropped s (suc count) (type ∷ all) [] have = absurd have
have_dropped s (suc count) (type ∷ all) (slot ∷ slots) have = have_dropped s count all slots have.1

-- ---- before a template

-- The block of an instruction of a reached point, and a frame that agrees with its own.
pub record Before (w : Writing) (given : Given w) : Type 0 where
  pub front : List Finished
  pub behind : List Finished
  pub one : Finished
  pub is : w.blocks ≡ front ++ (one ∷ behind)
  pub at : ℕ
  pub point : Point
  pub route : Route
  pub here : AtInstruction w given at point route one behind
  pub frame : Frame
  pub agrees : Agrees frame (frame_in w one)
  pub fresh : IsFresh w (length (written_items w.form front)) one frame

-- parts of its stack: so many operands, and what is below
pub record Taken (w : Writing) (frame : Frame) (read : List VType) (slots : List Slot) (count : ℕ) : Type 0 where
  pub low : List VType
  pub top : List VType
  pub is : frame.stack ≡ low ++ top
  pub low_agree : AgreeIn low (map (type_by_item w.form w.blocks) (entries_in (under count read) (take (length read - count) slots)))
  pub top_agree : AgreeIn top (map (type_by_item w.form w.blocks) (entries_in (topmost count read) (drop (length read - count) slots)))

module _ (w : Writing) (given : Given w) (b : Before w given) where
  abbrev pub number : ℕ
  number = length (written_items w.form b.front)

  abbrev pub state : State
  state = state_written b.route

  abbrev pub read : Frame
  read = read_frame w.s.flat b.point.typed

  abbrev pub row : Row
  row = read_row w.s.classes w.host w.s.flat b.at b.point

  abbrev pub plan_row : PlanRow
  plan_row = row_of_point w.s b.at b.point

  abbrev pub entries : List Slot
  entries = drop (length b.point.typed.locals) state.slots

  abbrev pub By : VType → VType
  By = type_by_item w.form w.blocks

  pub typed : TypesPoint w.s.classes w.host w.s.flat b.at b.point
  typed = given.setting.ready.typed.points b.at b.point b.here.there

  pub fits : FitsPoint w.s (is_reached given.setting.routes) b.at b.point state
  fits =
      let found = given.fits.written b.at b.route b.here.is_route in
      subst (λ (p : Point). FitsPoint w.s (is_reached given.setting.routes) b.at p state)
      (same_Some found.point b.point (sym found.there ∙ b.here.there)) (fits_point found)

  pub standing : Standing w.s (is_reached given.setting.routes) b.point.typed state
  standing = begins fits

  pub places : UsablePlaces w.s.flat b.point.typed.locals b.point.typed.stack state.slots
  places = usable_places w.s.flat b.point.typed.locals b.point.typed.stack state.slots fits.unusable

  -- what the stack holds has its types
  pub entries_have : HaveTypes w.s read.stack entries
  entries_have =
      subst (λ (n : ℕ). HaveTypes w.s read.stack (drop n state.slots)) (length-map b.point.typed.locals (read_type w.s.flat))
      (have_behind w.s read.locals read.stack state.slots
      (subst (λ (all : List VType). HaveTypes w.s all state.slots)
      (map-append (read_type w.s.flat) b.point.typed.locals b.point.typed.stack) fits.slots))

  frame_is : frame_in w b.one ≡ frame_by_item w.form w.blocks (slots_frame w.s.flat read state.slots entries state.objects)
  frame_is =
      ap (λ (block : Block). frame_by_item w.form w.blocks (written_frame w.s.flat block)) b.here.is_block
      ∙ ap (frame_by_item w.form w.blocks) (state_is w.s.flat b.at b.point state b.here.there)

  pub locals_agree : AgreeIn b.frame.locals (map By (locals_in read.locals state.slots ++ units_behind w.s.flat state.objects))
  locals_agree = subst (λ (f : Frame). AgreeIn b.frame.locals f.locals) frame_is b.agrees.locals

  pub stack_agree : AgreeIn b.frame.stack (map By (entries_in read.stack entries))
  stack_agree = subst (λ (f : Frame). AgreeIn b.frame.stack f.stack) frame_is b.agrees.stack

  pub read_long : length read.stack ≡ length b.point.typed.stack
  read_long = length-map b.point.typed.stack (read_type w.s.flat)

  pub entries_long : length read.stack ≡ length entries
  entries_long = read_long ∙ sym places.stack_many

  pub taken : (count : ℕ) → Taken w b.frame read.stack entries count
  taken count =
      record { low = parts.low; top = parts.top; is = parts.is; low_agree = parts.low_agree; top_agree = parts.top_agree } where
        low_types : List VType
        low_types = entries_in (under count read.stack) (take (length read.stack - count) entries)

        top_types : List VType
        top_types = entries_in (topmost count read.stack) (drop (length read.stack - count) entries)

        both : entries_in read.stack entries ≡ low_types ++ top_types
        both =
            (λ i. entries_in (sym (stack_parts count read.stack) i) (sym (take_and_drop (length read.stack - count) entries) i))
            ∙ entries_both (under count read.stack) (topmost count read.stack) (take (length read.stack - count) entries)
            (drop (length read.stack - count) entries) (as_long_taken (length read.stack - count) read.stack entries entries_long) where
              take_and_drop : (n : ℕ) (slots : List Slot) → take n slots ++ drop n slots ≡ slots
              take_and_drop zero slots = refl
              take_and_drop (suc n) [] = refl
              take_and_drop (suc n) (slot ∷ slots) = ap (λ (rest : List Slot). slot ∷ rest) (take_and_drop n slots)

        parts : AgreeingParts b.frame.stack (map By low_types) (map By top_types)
        parts =
            agreeing_parts b.frame.stack (map By low_types) (map By top_types)
            (subst (AgreeIn b.frame.stack) (ap (map By) both ∙ map-append By low_types top_types) stack_agree)

  -- ---- along an edge to the next point or to a target

  abbrev pub moved_slots : List Source → List Slot
  moved_slots sources = slots_from w.s state plan_row.change sources

  abbrev pub objects_behind : List VObject
  objects_behind = changed w.s state plan_row.change ++ state.objects

  abbrev pub along : Frame
  along = slots_frame w.s.flat (record { locals = row.locals; stack = stack_behind read row }) (moved_slots plan_row.locals)
      (moved_slots plan_row.stack) objects_behind

  -- the slots below operands stay
  low_slots : (count : ℕ)
      → moved_slots (held_from (length b.point.typed.locals) (length b.point.typed.stack - count)) ≡ take (length read.stack - count) entries
  low_slots count =
      held_slots w.s state plan_row.change (length b.point.typed.locals) (length b.point.typed.stack - count)
      (let many = places.many in omega (arith, many))
      ∙ all_usable_read (take (length b.point.typed.stack - count) entries)
      (all_taken (λ slot. is_unusable slot ≡ false) (length b.point.typed.stack - count) entries places.usable)
      ∙ ap (λ (n : ℕ). take (n - count) entries) (sym read_long)

  pub stack_along : (count : ℕ) (sources : List Source) (gives : List VType)
      → plan_row.stack ≡ held_from (length b.point.typed.locals) (length b.point.typed.stack - count) ++ sources
      → stack_behind read row ≡ under count read.stack ++ gives
      → along.stack
      ≡ entries_in (under count read.stack) (take (length read.stack - count) entries) ++ entries_in gives (moved_slots sources)
  stack_along count sources gives sources_are gives_are =
      (λ i. entries_in (gives_are i) (moved_slots (sources_are i)))
      ∙ ap (entries_in (under count read.stack ++ gives))
      (map-append (slot_from w.s state plan_row.change) (held_from (length b.point.typed.locals) (length b.point.typed.stack - count)) sources
      ∙ ap (λ (slots : List Slot). slots ++ moved_slots sources) (low_slots count))
      ∙ entries_both (under count read.stack) gives (take (length read.stack - count) entries) (moved_slots sources)
      (as_long_taken (length read.stack - count) read.stack entries entries_long)

  -- what is behind the items agrees with what comes along
  pub agrees_behind : (count : ℕ) (sources : List Source) (gives locals given_types : List VType)
      → (t : Taken w b.frame read.stack entries count)
      → plan_row.stack ≡ held_from (length b.point.typed.locals) (length b.point.typed.stack - count) ++ sources
      → stack_behind read row ≡ under count read.stack ++ gives
      → AgreeIn given_types (map By (entries_in gives (moved_slots sources)))
      → AgreeIn locals (map By along.locals)
      → AllByRecursion (λ type. type ≢ types.UninitThis) locals
      → Agrees (frame_of locals (t.low ++ given_types)) (frame_by_item w.form w.blocks along)
  agrees_behind count sources gives locals given_types t sources_are gives_are given_agree locals_agree no_this = record {
    locals = locals_agree;
    stack =
        subst (AgreeIn (t.low ++ given_types))
        (sym (ap (map By) (stack_along count sources gives sources_are gives_are)
        ∙ map-append By (entries_in (under count read.stack) (take (length read.stack - count) entries)) (entries_in gives (moved_slots sources))))
        (agree_both t.low given_types _ _ t.low_agree given_agree);
    no_this = no_this;
  }

  -- ---- local units that stay

  pub held_locals_are : moved_slots (held_locals b.point.typed) ≡ map as_read (take (length b.point.typed.locals) state.slots)
  held_locals_are =
      held_slots w.s state plan_row.change 0 (length b.point.typed.locals) (let many = places.many in omega (arith, many))

  pub own_stays : row.locals ≡ read.locals
      → plan_row.locals ≡ held_locals b.point.typed
      → locals_in row.locals (moved_slots plan_row.locals) ≡ locals_in read.locals state.slots
  own_stays types_are sources_are =
      (λ i. locals_in (types_are i) (moved_slots (sources_are i)))
      ∙ ap (locals_in read.locals) held_locals_are
      ∙ places.locals_read

  pub locals_stay : row.locals ≡ read.locals
      → plan_row.locals ≡ held_locals b.point.typed
      → ((site : ℕ) → is_present objects_behind site ≡ is_present state.objects site)
      → AgreeIn b.frame.locals (map By along.locals)
  locals_stay types_are sources_are alike =
      subst (λ (all : List VType). AgreeIn b.frame.locals (map By all)) (sym same) locals_agree where
        same : along.locals ≡ locals_in read.locals state.slots ++ units_behind w.s.flat state.objects
        same =
            (λ i. locals_in (types_are i) (moved_slots (sources_are i)) ++ units_alike w.s.flat objects_behind state.objects alike i)
            ∙ ap (λ (slots : List Slot). locals_in read.locals slots ++ units_behind w.s.flat state.objects) held_locals_are
            ∙ ap (λ (own : List VType). own ++ units_behind w.s.flat state.objects) places.locals_read

  -- ---- where the route goes on

  planned_here : IsRouteOf w.s given.setting.plan b.at b.at b.route
  planned_here =
      let all = route_of w.s 0 given.setting.plan given.setting.routes b.at b.route given.setting.routed b.here.is_route in
      record { point = all.point; reached = all.reached; is = subst (λ (n : ℕ). IsRoute w.s n all.point b.route) (omega arith) all.is }

  same_state : state_left planned_here.point ≡ state
  same_state = λ i. without (sym planned_here.is.state i) (has (sym planned_here.is.made i))

  effect_here : IsEffectIn w.s b.at (Some b.point) state planned_here.is.effect
  effect_here =
      subst (λ (s : State). IsEffectIn w.s b.at (Some b.point) s planned_here.is.effect) same_state
      (subst (λ (p : Option Point). IsEffectIn w.s b.at p (state_left planned_here.point) planned_here.is.effect) b.here.there planned_here.is.is_effect)

  pub next_there : falls_on b.point.instr ≡ true → is_open state plan_row.next ≡ true
      → (edge : RouteEdge) × (edge_by b.route edges.Next ≡ Some edge)
  next_there falls opens =
      let found =
      next_edge w.s b.point b.at state planned_here.is.effect planned_here.point.edges b.route effect_here planned_here.is.edges falls opens in
      (found.0, found.1)

  pub jump_there : (target to : ℕ) → slice_get (targets_at b.point.instr) target ≡ Some to → is_open state plan_row.jump ≡ true
      → (edge : RouteEdge) × (edge_by b.route (edges.Jump target) ≡ Some edge)
  jump_there target to is opens =
      let found =
      jump_edge w.s b.point b.at state planned_here.is.effect planned_here.point.edges b.route effect_here planned_here.is.edges target to is opens in
      (found.0, found.1)
