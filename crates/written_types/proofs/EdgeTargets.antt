-- Where each edge leads: to a reached point whose state is the one behind the edge, without the objects that are made on it; and these can be made.
use Rattle.std.proofs.Common.{◌≡◌, ◌||◌, ℕ, suc, Bool, true, false, List, [], ◌∷◌, drop, length, map, Option, Some, None, IsTrue, slice_get, refl, sym, ap, subst, ◌∙◌}
use Rattle.std.specs.List.{list_any}
use Rattle.std.proofs.lemmas.Bool.{eq-eqb, false≢true}
use Rattle.class_model.specs.Frames.{is_top}
use Rattle.class_model.specs.declared.frame.Frame.{Frame}
use Rattle.class_model.specs.declared.frame.VType.{VType}
use Rattle.class_tree.specs.Headers.{Headers}
use Rattle.flow_code.specs.FlatCode.{point_at}
use Rattle.flow_code.specs.ReadTypes.{read_frame, read_type}
use Rattle.flow_code.specs.declared.point.Point.{Point}
use Rattle.making_code.specs.MakeCode.{names_in}
use Rattle.making_code.specs.MakeOrder.{IsMakeOrder}
use Rattle.member_link.specs.Rows.FrameAssignability.{AreAssignable, IsFrameAssignable}
use Rattle.plan_flow.specs.Laws.RoutedPlans.{IsRouteOf, route_at}
use Rattle.plan_flow.specs.Must.{IsMust, IsMustIn, IsMustOf, beneath, row_of_point}
use Rattle.plan_flow.specs.PlanRows.{Change, Source, from_field, from_new, from_place, plain_value}
use Rattle.plan_flow.specs.PlanScope.{PlanScope, field_number, local_types, stack_types}
use Rattle.plan_flow.specs.PlanSlots.{beneath_top, edge_locals, edge_stack, field_held, field_in, field_of_slot, fit_stack, held, readable, slot_from, slots_from, stack_slots}
use Rattle.plan_flow.specs.Plans.{IsMadeIn}
use Rattle.plan_flow.specs.Written.Blocks.{state_written}
use Rattle.plan_flow.specs.Written.FramedCode.{frame_by_item}
use Rattle.plan_flow.specs.Written.Routes.{Route, RouteEdge, edge_by}
use Rattle.plan_flow.specs.declared.edge.EdgeKind.{EdgeKind}
use Rattle.plan_flow.specs.declared.edge.EdgeKind.TheVariants as edges
use Rattle.virtual_state.specs.Laws.Removals.{without_is_state}
use Rattle.virtual_state.specs.Sites.{has}
use Rattle.virtual_state.specs.States.{IsState, State, is_present, is_virtual, names, object_of}
use Rattle.virtual_state.specs.declared.slot.Slot.{Slot}
use Rattle.virtual_state.specs.declared.slot.Slot.TheVariants.{Plain, Virt, Unusable}
use Rattle.virtual_state.specs.declared.slot.VObject.{VObject}
use Rattle.written_types.proofs.Arrivals.{types_there}
use Rattle.written_types.proofs.EdgeFrames.{behind_locals, fits_behind}
use Rattle.written_types.proofs.Given.{CanMake, EdgeTarget, EdgesFit, FitsState, Given, NoTops, NoTopsAbove, read_by, written_along}
use Rattle.written_types.proofs.NewSources.{IsOld, NewIsLast, new_is_last}
use Rattle.written_types.proofs.RouteEdges.{EdgeComes, edge_comes, edge_leads, edge_number, planned_route, written_is}
use Rattle.written_types.specs.FitsTypes.{HaveTypes}
use Rattle.written_types.specs.Inner.CarriedFrames.{Agrees}
use Rattle.written_types.specs.Writing.{Writing}

-- ---- stack entries whose type is Top

-- each virtual object among these slots but the last is one of these
abbrev pub IsAmong : (ℕ → Bool) → Slot → Type 0
IsAmong old Plain = Unit {0}
IsAmong old (Virt site) = old site ≡ true
IsAmong old Unusable = Unit {0}

abbrev pub AreAmong : (ℕ → Bool) → List Slot → Type 0
AreAmong old [] = Unit {0}
AreAmong old (slot ∷ []) = Unit {0}
AreAmong old (slot ∷ other ∷ others) = IsAmong old slot × AreAmong old (other ∷ others)

no_tops : (types : List VType) (slots : List Slot) → list_any is_top types ≡ false → NoTops types slots
no_tops [] slots none = tt
no_tops (type ∷ types) [] none = tt
no_tops (type ∷ types) (slot ∷ slots) none = by (is_top type) refl (λ rest. no_tops types slots rest) where
  by : (b : Bool) → is_top type ≡ b → (list_any is_top types ≡ false → NoTops types slots) → NoTops (type ∷ types) (slot ∷ slots)
  by true is rest = absurd (false≢true (sym none ∙ rw (is) refl))
  by false is rest = (λ plain. is, rest (sym (rw (is) refl) ∙ none))

beneath_none : (types : List VType) (slots : List Slot) → list_any is_top types ≡ false → beneath_top types slots ≡ []
beneath_none [] slots none = refl
beneath_none (type ∷ types) [] none = refl
beneath_none (type ∷ types) (slot ∷ slots) none = rw (none) refl

pub tops_above : (old : ℕ → Bool) (made : List ℕ) (types : List VType) (slots : List Slot)
    → AreAmong old slots
    → ((site : ℕ) → old site ≡ true → names (beneath_top types slots) site ≡ false)
    → NoTopsAbove made types slots
tops_above old made [] slots among none = tt
tops_above old made (type ∷ types) [] among none = tt
tops_above old made (type ∷ []) (slot ∷ []) among none = (λ named. tt, tt)
tops_above old made (type ∷ other ∷ types) (slot ∷ []) among none = (λ named. tt, tt)
tops_above old made (type ∷ types) (slot ∷ next ∷ slots) among none =
    by (list_any is_top (type ∷ types)) refl (λ rest. tops_above old made types (next ∷ slots) among.1 rest) where
      without_first : list_any is_top (type ∷ types) ≡ false → list_any is_top types ≡ false
      without_first is = of (is_top type) refl where
        of : (b : Bool) → is_top type ≡ b → list_any is_top types ≡ false
        of true top = absurd (false≢true (sym is ∙ rw (top) refl))
        of false top = sym (rw (top) refl) ∙ is

      by : (b : Bool) → list_any is_top (type ∷ types) ≡ b
          → (((site : ℕ) → old site ≡ true → names (beneath_top types (next ∷ slots)) site ≡ false) → NoTopsAbove made types (next ∷ slots))
          → NoTopsAbove made (type ∷ types) (slot ∷ next ∷ slots)
      by false is rest = (
        λ named. no_tops types (next ∷ slots) (without_first is),
        rest (λ site is_old. ap (λ (found : List Slot). names found site) (beneath_none types (next ∷ slots) (without_first is))),
      )
      by true is rest = (of_slot slot among.0 refl, rest (λ site is_old. of_names slot site refl is_old)) where
        there : beneath_top (type ∷ types) (slot ∷ next ∷ slots) ≡ slot ∷ beneath_top types (next ∷ slots)
        there = rw (is) refl

        of_slot : (found : Slot) → IsAmong old found → slot ≡ found → IsTrue (names_in made slot) → NoTops types (next ∷ slots)
        of_slot Plain old_one same named = absurd (false≢true (sym (ap (names_in made) same) ∙ named))
        of_slot Unusable old_one same named = absurd (false≢true (sym (ap (names_in made) same) ∙ named))
        of_slot (Virt site) old_one same named =
            absurd (false≢true (sym (none site old_one) ∙ ap (λ (found : List Slot). names found site) there
            ∙ ap (λ (one : Slot). names (one ∷ beneath_top types (next ∷ slots)) site) same ∙ rw (eq-eqb site site refl) refl))

        of_names : (found : Slot) (site : ℕ) → slot ≡ found → old site ≡ true → names (beneath_top types (next ∷ slots)) site ≡ false
        of_names found site same is_old =
            second (is_virtual site slot) (names (beneath_top types (next ∷ slots)) site)
            (sym (ap (λ (found : List Slot). names found site) there) ∙ none site is_old) where
              second : (a b : Bool) → (a || b) ≡ false → b ≡ false
              second true b e = absurd (false≢true (sym e))
              second false b e = e

-- ---- what comes to the stack

module _ (s : PlanScope) (before : State) (is_state : IsState before) where
  abbrev present : ℕ → Bool
  present site = is_present before.objects site

  named_at : (slots : List Slot) (place site : ℕ) → readable (slice_get slots place) ≡ Virt site → IsTrue (names slots site)
  named_at [] place site is = absurd (not_virtual is) where
    not_virtual : Plain ≡ Virt site → ⊥
    not_virtual e = absurd cc
  named_at (slot ∷ slots) ℕ.zero site is = by slot is where
    by : (slot : Slot) → readable (Some slot) ≡ Virt site → IsTrue (names (slot ∷ slots) site)
    by Plain e = absurd cc
    by Unusable e = absurd cc
    by (Virt other) e = rw (eq-eqb other site (same other e)) refl where
      same : (other : ℕ) → Virt other ≡ Virt site → other ≡ site
      same other e = cc
  named_at (slot ∷ slots) (suc place) site is = second (is_virtual site slot) (names slots site) (named_at slots place site is) where
    second : (a b : Bool) → b ≡ true → (a || b) ≡ true
    second true b e = refl
    second false b e = e

  of_field : (object : Option VObject) (of : ℕ) (number : Option ℕ) (site : ℕ) → object_of before.objects of ≡ object
      → field_in object number ≡ Virt site
      → present site ≡ true
  of_field None of number site there is = absurd cc
  of_field (Some object) of None site there is = absurd cc
  of_field (Some object) of (Some number) site there is =
      is_state.fields of site (record { object = object; there = there; named = named_at object.fields number site is })

  of_source : (does : Change) (source : Source) → IsOld source → IsAmong present (slot_from s before does source)
  of_source does plain_value old = tt
  of_source does (from_place place) old = by (held before place) refl where
    by : (slot : Slot) → held before place ≡ slot → IsAmong present slot
    by Plain is = tt
    by Unusable is = tt
    by (Virt site) is = is_state.places site (named_at before.slots place site is)
  of_source does (from_field place field) old = by (held before place) where
    of_held : (from : ℕ) (slot : Slot) → field_held s before from field ≡ slot → IsAmong present slot
    of_held from Plain is = tt
    of_held from Unusable is = tt
    of_held from (Virt site) is = of_field (object_of before.objects from) from (field_number s from field) site refl is

    by : (slot : Slot) → IsAmong present (field_of_slot s before slot field)
    by Plain = tt
    by Unusable = tt
    by (Virt site) = of_held site (field_held s before site field) refl
  of_source does from_new old = absurd old

  of_sources : (does : Change) (sources : List Source) → NewIsLast sources → AreAmong present (slots_from s before does sources)
  of_sources does [] last = tt
  of_sources does (source ∷ []) last = tt
  of_sources does (source ∷ other ∷ others) last = (of_source does source last.0, of_sources does (other ∷ others) last.1)

-- ---- as many slots as types

fit_same : (types : List VType) (slots : List Slot) → length slots ≡ length types → fit_stack types slots ≡ slots
fit_same [] [] long = refl
fit_same [] (slot ∷ slots) long = absurd cc
fit_same (type ∷ types) [] long = absurd cc
fit_same (type ∷ types) (slot ∷ slots) long =
    let rest : length slots ≡ length types = cc in
    ap (λ (found : List Slot). slot ∷ found) (fit_same types slots rest)

have_long : (s : PlanScope) (types : List VType) (slots : List Slot) → HaveTypes s types slots → length slots ≡ length types
have_long s [] [] have = refl
have_long s [] (slot ∷ slots) have = absurd have
have_long s (type ∷ types) [] have = absurd have
have_long s (type ∷ types) (slot ∷ slots) have = ap suc (have_long s types slots have.1)

mapped_long : (change : VType → VType) (all : List VType) → length (map change all) ≡ length all
mapped_long change [] = refl
mapped_long change (type ∷ all) = ap suc (mapped_long change all)

assigned_long : (headers : Headers) (lows highs : List VType) → AreAssignable headers lows highs → length lows ≡ length highs
assigned_long headers [] [] are = refl
assigned_long headers [] (high ∷ highs) are = absurd are
assigned_long headers (low ∷ lows) [] are = absurd are
assigned_long headers (low ∷ lows) (high ∷ highs) are = ap suc (assigned_long headers lows highs are.1)

module _ (w : Writing) (given : Given w) where
  -- ---- what can be saved

  -- along an edge, none of the objects that were there comes to lie beneath a Top
  none_beneath : (at : ℕ) (point : Point) (route : Route) (edge : RouteEdge)
      → point_at w.s.flat at ≡ Some point
      → slice_get given.setting.routes at ≡ Some (Some route)
      → (c : EdgeComes w at point route edge)
      → (site : ℕ)
      → is_present (state_written route).objects site ≡ true
      → names (beneath_top (stack_types w.s.flat c.row.to) (stack_slots w.s (state_written route) (row_of_point w.s at point) c.row)) site ≡ false
  none_beneath at point route edge there is_route c site present =
      by (names (beneath_top (stack_types w.s.flat c.row.to) (stack_slots w.s (state_written route) (row_of_point w.s at point) c.row)) site) refl where
        found : IsRouteOf w.s given.setting.plan at at route
        found = planned_route w given at route is_route

        must : IsMustOf w.s at point (state_written route) []
        must =
            subst (λ (at_it : Option Point). IsMustIn w.s at at_it (state_written route) []) there
            (subst (λ (state : State). IsMust w.s at state []) (written_is w given at found.point route found.is)
            (given.setting.valid.each at found.point found.reached).asks_none)

        by : (b : Bool)
            → names (beneath_top (stack_types w.s.flat c.row.to) (stack_slots w.s (state_written route) (row_of_point w.s at point) c.row)) site ≡ b
            → names (beneath_top (stack_types w.s.flat c.row.to) (stack_slots w.s (state_written route) (row_of_point w.s at point) c.row)) site ≡ false
        by true is = absurd (false≢true (must.asked site (beneath c.place c.row site c.open_there is present)))
        by false is = is

  -- before an instruction, and before its objects are made
  pub state_there : (at : ℕ) (route : Route) → slice_get given.setting.routes at ≡ Some (Some route) → IsState route.state
  state_there at route is_route =
      let found = planned_route w given at route is_route in
      subst IsState (sym found.is.state) (given.setting.valid.each at found.point found.reached).is_planned.state.is_state

  pub before_can_make : (at : ℕ) (route : Route)
      → slice_get given.setting.routes at ≡ Some (Some route)
      → CanMake w given at route.state route.made route.order
  before_can_make at route is_route =
      let found = planned_route w given at route is_route in
      let planned = (given.setting.valid.each at found.point found.reached).is_planned in
      record {
        is_state = state_there at route is_route;
        is_made =
            subst (λ (state : State). IsMadeIn state route.made) (sym found.is.state)
            (subst (IsMadeIn found.point.state) (sym found.is.made) planned.made);
        is_order =
            subst (λ (state : State). IsMakeOrder state.objects route.made route.order) (sym found.is.state)
            (subst (λ (made : List ℕ). IsMakeOrder found.point.state.objects made route.order) (sym found.is.made) found.is.order);
        saves =
            subst (λ (state : State). NoTopsAbove route.made (stack_types w.s.flat at) (drop (length (local_types w.s.flat at)) state.slots))
            (sym found.is.state)
            (tops_above (λ site. true) route.made (stack_types w.s.flat at) (drop (length (local_types w.s.flat at)) found.point.state.slots)
            (all_among (drop (length (local_types w.s.flat at)) found.point.state.slots)) (λ site old. planned.beneath.each site));
        fits = given.fits.before at route is_route;
      }
    where
      one_among : (slot : Slot) → IsAmong (λ site. true) slot
      one_among Plain = tt
      one_among (Virt site) = refl
      one_among Unusable = tt

      all_among : (slots : List Slot) → AreAmong (λ site. true) slots
      all_among [] = tt
      all_among (slot ∷ []) = tt
      all_among (slot ∷ other ∷ others) = (one_among slot, all_among (other ∷ others))

  -- behind an edge
  old_but_last : (at : ℕ) (point : Point) (before : State) → IsState before → (by : EdgeKind)
      → AreAmong (λ site. is_present before.objects site)
      (slots_from w.s before (row_of_point w.s at point).change (edge_stack (row_of_point w.s at point) by))
  old_but_last at point before is_state edges.Next =
      of_sources w.s before is_state (row_of_point w.s at point).change (row_of_point w.s at point).stack
      (new_is_last w.s at point.typed point.instr)
  old_but_last at point before is_state (edges.Jump number) =
      of_sources w.s before is_state (row_of_point w.s at point).change (row_of_point w.s at point).stack
      (new_is_last w.s at point.typed point.instr)
  old_but_last at point before is_state (edges.Handler number) = tt

  pub written_state : (at : ℕ) (route : Route) → slice_get given.setting.routes at ≡ Some (Some route) → IsState (state_written route)
  written_state at route is_route =
      let can = before_can_make at route is_route in
      without_is_state route.state (has route.made) can.is_state can.is_made.closed

  edge_saves : (at : ℕ) (point : Point) (route : Route) (edge : RouteEdge)
      → point_at w.s.flat at ≡ Some point
      → slice_get given.setting.routes at ≡ Some (Some route)
      → (c : EdgeComes w at point route edge)
      → NoTopsAbove edge.made (stack_types w.s.flat c.row.to) (drop (length (local_types w.s.flat c.row.to)) edge.state.slots)
  edge_saves at point route edge there is_route c = by (point_at w.s.flat c.row.to) refl where
    before : State
    before = state_written route

    locals : List Slot
    locals = slots_from w.s before (row_of_point w.s at point).change (edge_locals (row_of_point w.s at point) (length point.typed.locals) c.row.by)

    stack : List Slot
    stack = slots_from w.s before (row_of_point w.s at point).change (edge_stack (row_of_point w.s at point) c.row.by)

    highs : List VType
    highs = stack_types w.s.flat c.row.to

    slots_are : drop (length (local_types w.s.flat c.row.to)) edge.state.slots ≡ fit_stack highs stack
    slots_are =
        ap (drop (length (local_types w.s.flat c.row.to))) c.is.state.is.same_slots
        ∙ behind_locals (local_types w.s.flat c.row.to) locals (fit_stack highs stack)

    by : (found : Option Point) → point_at w.s.flat c.row.to ≡ found
        → NoTopsAbove edge.made highs (drop (length (local_types w.s.flat c.row.to)) edge.state.slots)
    by None none = absurd (rw none at c.comes.may)
    by (Some target) is_target =
        let goes : IsFrameAssignable w.host.headers (read_by w.s w.host at point c.row.by) (read_frame w.s.flat target.typed) =
        rw is_target at c.comes.may in
        let highs_are : highs ≡ target.typed.stack = (types_there w.s c.row.to target is_target).1 in
        let long : length stack ≡ length highs =
        have_long w.s _ stack c.comes.have_stack
        ∙ assigned_long w.host.headers _ _ goes.stack
        ∙ mapped_long (read_type w.s.flat) target.typed.stack
        ∙ ap length (sym highs_are) in
        subst (NoTopsAbove edge.made highs) (sym slots_are)
        (tops_above (λ site. is_present before.objects site) edge.made highs (fit_stack highs stack)
        (subst (AreAmong (λ site. is_present before.objects site)) (sym (fit_same highs stack long))
        (old_but_last at point before (written_state at route is_route) c.row.by))
        (none_beneath at point route edge there is_route c))

  -- ---- all

  -- an edge of a route, by its number
  pub target_of : (at number : ℕ) (point : Point) (route : Route) (edge : RouteEdge)
      → point_at w.s.flat at ≡ Some point
      → slice_get given.setting.routes at ≡ Some (Some route)
      → slice_get route.edges number ≡ Some edge
      → EdgeTarget w given edge
  target_of at number point route edge there is_route is_edge =
      let leads = edge_leads w given at number point route edge there is_route is_edge in
      let c = edge_comes w given at number point route edge there is_route is_edge in
      let onwards = route_at w.s 0 given.setting.plan given.setting.routes edge.to leads.target given.setting.routed leads.reached in
      record {
        target = onwards.route;
        is_route = onwards.is_route;
        left = onwards.is.state ∙ leads.left;
        can_make = record {
          is_state = leads.is_state;
          is_made = leads.is_made;
          is_order = leads.is_order;
          saves = subst (λ (to : ℕ). NoTopsAbove edge.made (stack_types w.s.flat to) (drop (length (local_types w.s.flat to)) edge.state.slots))
              (sym c.is.to) (edge_saves at point route edge there is_route c);
          fits = given.fits.edges at number route edge is_route is_edge;
        };
      }

  along : (at : ℕ) (point : Point) (route : Route) (by : EdgeKind) (edge : RouteEdge) (frame : Frame)
      → point_at w.s.flat at ≡ Some point
      → slice_get given.setting.routes at ≡ Some (Some route)
      → edge_by route by ≡ Some edge
      → Agrees frame (frame_by_item w.form w.blocks (written_along w at point (state_written route) by))
      → FitsState w frame edge.to edge.state
  along at point route by edge frame there is_route found agrees =
      let n = edge_number w given route by edge found in
      let c = edge_comes w given at n.0 point route edge there is_route n.1 in
      subst (λ (to : ℕ). FitsState w frame to edge.state) (sym c.is.to)
      (fits_behind w at point route edge frame c
      (subst (λ (kind : EdgeKind). Agrees frame (frame_by_item w.form w.blocks (written_along w at point (state_written route) kind)))
      (sym n.2 ∙ c.is.by) agrees))

  pub edges_fit : EdgesFit w given
  edges_fit = record {
    along = along;
    target = λ at point route by edge there is_route found.
        let n = edge_number w given route by edge found in
        target_of at n.0 point route edge there is_route n.1;
  }
