-- The states behind the edges of an instruction that asks for no object.
use Rattle.std.proofs.Common.{◌≡◌, ℕ, zero, suc, List, [], ◌∷◌, ◌++◌, map, take, length, slice_get, Option, Some, None, option_map, refl, sym, ap, subst, ◌∙◌}
use Rattle.std.specs.Option.{option_map_or}
use Rattle.std.proofs.lemmas.List.{map-append}
use Rattle.class_model.specs.declared.frame.Frame.{Frame}
use Rattle.class_tree.specs.Headers.{Classes}
use Rattle.flow_code.specs.FlatCode.{FlatCode, point_at}
use Rattle.flow_code.specs.declared.point.FlatInstr.{FlatInstr}
use Rattle.flow_code.specs.declared.point.Point.{Point}
use Rattle.member_link.specs.Machine.Programs.{Links}
use Rattle.plan_flow.specs.Effect.{AreEdges, IsStateBehind}
use Rattle.plan_flow.specs.Inner.Doing.{front_objects, IsNotFull, IsRowOf, MayBeDone}
use Rattle.plan_flow.specs.Inner.EdgeViews.{row_edge}
use Rattle.plan_flow.specs.Inner.Fitting.{IsKept}
use Rattle.plan_flow.specs.Inner.RowViews.{change_of, plan_row}
use Rattle.plan_flow.specs.Must.{IsMustOf, row_of_point}
use Rattle.plan_flow.specs.PlanRows.{Change, no_change, new_object, put_field, enter_monitor, leave_monitor, object_at_depth, PlanRow, RowEdge}
use Rattle.plan_flow.specs.PlanScope.{PlanScope, local_types, stack_types, scope_of}
use Rattle.plan_flow.specs.PlanSlots.{edge_locals, edge_stack, edge_objects, fit_locals, fit_stack, slots_from}
use Rattle.plan_flow.specs.PlanTable.{change_asks, row_at}
use Rattle.plan_flow.specs.declared.edge.Edge.{Edge}
use Rattle.plan_flow.specs.declared.edge.EdgeKind.{EdgeKind}
use Rattle.plan_flow.specs.declared.edge.EdgeKind.TheVariants.{Next, Jump, Handler}
use Rattle.plan_flow.specs.declared.edges.GuardedEdge.{GuardedEdge}
use Rattle.plan_flow.specs.declared.rows.Row.{Row}
use Rattle.plan_flow.proofs.Behind.{can_be_behind, edge_slots}
use Rattle.plan_flow.proofs.EffectGrows.{asks_nothing, change_asked}
use Rattle.virtual_state.specs.Making.{CanBeState, IsStateOf}
use Rattle.virtual_state.specs.States.{State, IsState}
use Rattle.virtual_state.specs.declared.slot.Slot.{Slot}
use Rattle.virtual_state.specs.declared.slot.VObject.{VObject}

-- ---- the row of a point

pub row_is :
    (s : PlanScope) (at : ℕ) (point : Point) (types : Frame) (row : Row) (instr : FlatInstr)
    → plan_row types row ≡ row_at s at types instr
    → point.typed ≡ types
    → point.instr ≡ instr
    → IsRowOf s at point types row
row_is s at point types row instr is same_types same_instr = record {
  same_types = same_types;
  same_row = is ∙ (λ i. row_at s at (sym same_types i) (sym same_instr i));
}

pub not_full : (classes : Classes) (flat : FlatCode) (at : ℕ) (types : Frame) (row : Row) (state : State) → MayBeDone classes flat at types row state → IsNotFull state (change_of row.change)
not_full classes flat at types row state done =
    subst (IsNotFull state) (sym (ap (λ (r : PlanRow). r.change) done.row_of.same_row)) (go (row_of_point s at done.point).change refl)
  where
    s : PlanScope
    s = scope_of classes done.links flat

    go : (by : Change) → (row_of_point s at done.point).change ≡ by → IsNotFull state by
    go no_change is = tt
    go (new_object site) is = tt
    go (put_field place field value) is = tt
    go (leave_monitor place) is = tt
    go (enter_monitor place) is = λ site holds depth.
        asks_nothing s at done.point state done.asks_none site
        (change_asked s at done.point state (object_at_depth place 65535) site (ap change_asks is) (holds, depth))

-- ---- the types of a target

pub target_is :
    (flat : FlatCode) (to : ℕ) (types : Option Frame) (nothing target : Frame)
    → types ≡ option_map (λ (point : Point). point.typed) (point_at flat to)
    → nothing.locals ≡ []
    → nothing.stack ≡ []
    → target ≡ option_map_or (λ (t : Frame). t) types nothing
    → (target.locals ≡ local_types flat to) × (target.stack ≡ stack_types flat to)
target_is flat to types nothing target found locals stack is = by (point_at flat to) refl
  where
    by : (point : Option Point) → point_at flat to ≡ point → (target.locals ≡ local_types flat to) × (target.stack ≡ stack_types flat to)
    by None there =
        let none : types ≡ None = found ∙ ap (option_map (λ (point : Point). point.typed)) there in
        let same : target ≡ nothing = is ∙ ap (λ (o : Option Frame). option_map_or (λ (t : Frame). t) o nothing) none in (
          ap (λ (f : Frame). f.locals) same ∙ locals ∙ rw there refl,
          ap (λ (f : Frame). f.stack) same ∙ stack ∙ rw there refl,
        )
    by (Some point) there =
        let some : types ≡ Some point.typed = found ∙ ap (option_map (λ (point : Point). point.typed)) there in
        let same : target ≡ point.typed = is ∙ ap (λ (o : Option Frame). option_map_or (λ (t : Frame). t) o nothing) some in (
          ap (λ (f : Frame). f.locals) same ∙ rw there refl,
          ap (λ (f : Frame). f.stack) same ∙ rw there refl,
        )

-- ---- slots and objects behind an edge

front_is : (s : PlanScope) (state : State) (row : PlanRow) (by : EdgeKind) → front_objects s state row.change by ++ state.objects ≡ edge_objects s state row by
front_is s state row Next = refl
front_is s state row (Jump number) = refl
front_is s state row (Handler number) = refl

-- what the code has gathered for an edge
pub record HasGathered (s : PlanScope) (types : Frame) (row : Row) (state : State) (edge : GuardedEdge)
    (locals stack : List Slot) (front : List VObject) (target : Frame) : Type 0 where
  pub locals_are : locals ≡ slots_from s state (change_of row.change) (edge_locals (plan_row types row) (length types.locals) edge.by)
  pub stack_is : stack ≡ slots_from s state (change_of row.change) (edge_stack (plan_row types row) edge.by)
  pub front_is : front ≡ front_objects s state (change_of row.change) edge.by
  pub target_locals : target.locals ≡ local_types s.flat edge.to
  pub target_stack : target.stack ≡ stack_types s.flat edge.to

module _
    (s : PlanScope) (at : ℕ) (point : Point) (types : Frame) (row : Row) (state : State) (edge : GuardedEdge)
    (locals stack : List Slot) (front : List VObject) (target : Frame)
    (row_of : IsRowOf s at point types row)
    (has : HasGathered s types row state edge locals stack front target) where
  slots_are : fit_locals target.locals locals ++ fit_stack target.stack stack ≡ edge_slots s at point state (row_edge edge)
  slots_are =
      (λ i. fit_locals (has.target_locals i) (has.locals_are i) ++ fit_stack (has.target_stack i) (has.stack_is i))
      ∙ (λ i. fit_locals (local_types s.flat edge.to) (slots_from s state (row_of.same_row i).change (edge_locals (row_of.same_row i) (length (sym row_of.same_types i).locals) edge.by))
      ++ fit_stack (stack_types s.flat edge.to) (slots_from s state (row_of.same_row i).change (edge_stack (row_of.same_row i) edge.by)))

  objects_are : front ++ state.objects ≡ edge_objects s state (row_of_point s at point) edge.by
  objects_are =
      ap (λ (list : List VObject). list ++ state.objects) has.front_is
      ∙ ap (λ (r : PlanRow). front_objects s state r.change edge.by ++ state.objects) row_of.same_row
      ∙ front_is s state (row_of_point s at point) edge.by

  pub can_be : IsState state → IsMustOf s at point state [] → CanBeState (fit_locals target.locals locals ++ fit_stack target.stack stack) (front ++ state.objects)
  can_be is must =
      let can = (can_be_behind s at point state (row_edge edge) is must).can in
      subst (λ (slots : List Slot). CanBeState slots (front ++ state.objects)) (sym slots_are)
      (subst (λ (objects : List VObject). CanBeState (edge_slots s at point state (row_edge edge)) objects) (sym objects_are) can)

  pub is_behind : (behind : State) → IsKept (fit_locals target.locals locals ++ fit_stack target.stack stack) (front ++ state.objects) behind → IsStateBehind s point at state (row_edge edge) behind
  is_behind behind kept = record {
    is_state = kept.is_state;
    is =
        subst (λ (slots : List Slot). IsStateOf slots (edge_objects s state (row_of_point s at point) edge.by) behind) slots_are
        (subst (λ (objects : List VObject). IsStateOf (fit_locals target.locals locals ++ fit_stack target.stack stack) objects behind) objects_are kept.is);
  }

-- ---- the loop over edges

pub record EdgesDone (classes : Classes) (flat : FlatCode) (at : ℕ) (types : Frame) (row : Row) (state : State) (taken : List GuardedEdge) (edges : List Edge) (count : ℕ) : Type 0 where
  pub each : (links : Links) (point : Point) → IsRowOf (scope_of classes links flat) at point types row → AreEdges (scope_of classes links flat) point at state (map row_edge (take count taken)) edges

edges_more :
    (s : PlanScope) (point : Point) (at : ℕ) (state : State) (some : List RowEdge) (edges : List Edge) (row : RowEdge) (edge : Edge)
    → AreEdges s point at state some edges
    → edge.by ≡ row.by
    → edge.to ≡ row.to
    → IsStateBehind s point at state row edge.state
    → AreEdges s point at state (some ++ row ∷ []) (edges ++ edge ∷ [])
edges_more s point at state [] [] row edge are by to behind = (by, to, behind, tt)
edges_more s point at state [] (first ∷ edges) row edge are by to behind = absurd are
edges_more s point at state (one ∷ some) [] row edge are by to behind = absurd are
edges_more s point at state (one ∷ some) (first ∷ edges) row edge are by to behind =
    (are.0, are.1, are.2, edges_more s point at state some edges row edge are.3 by to behind)

pub done_none : (classes : Classes) (flat : FlatCode) (at : ℕ) (types : Frame) (row : Row) (state : State) (taken : List GuardedEdge) → EdgesDone classes flat at types row state taken [] 0
done_none classes flat at types row state taken = record { each = λ links point row_of. tt }

taken_more : (taken : List GuardedEdge) (count : ℕ) (edge : GuardedEdge) → slice_get taken count ≡ Some edge → take (suc count) taken ≡ take count taken ++ edge ∷ []
taken_more [] zero edge is = absurd cc
taken_more [] (suc count) edge is = absurd cc
taken_more (first ∷ taken) zero edge is = let same : first ≡ edge = cc in λ i. same i ∷ []
taken_more (first ∷ taken) (suc count) edge is = λ i. first ∷ taken_more taken count edge is i

pub done_more :
    {classes : Classes} {flat : FlatCode} {at : ℕ} {types : Frame} {row : Row} {state : State} (taken : List GuardedEdge) (edges : List Edge) (count next : ℕ) (edge : GuardedEdge) (made : Edge)
    → EdgesDone classes flat at types row state taken edges count
    → slice_get taken count ≡ Some edge
    → next ≡ suc count
    → made.by ≡ edge.by
    → made.to ≡ edge.to
    → ((links : Links) (point : Point) → IsRowOf (scope_of classes links flat) at point types row → IsStateBehind (scope_of classes links flat) point at state (row_edge edge) made.state)
    → EdgesDone classes flat at types row state taken (edges ++ made ∷ []) next
done_more {classes} {flat} {at} {types} {row} {state} taken edges count next edge made done is one by to behind = record {
  each = λ links point row_of.
      let s = scope_of classes links flat in
      let more = edges_more s point at state (map row_edge (take count taken)) edges (row_edge edge) made (done.each links point row_of) by to (behind links point row_of) in
      subst (λ (n : ℕ). AreEdges s point at state (map row_edge (take n taken)) (edges ++ made ∷ [])) (sym one)
      (subst (λ (list : List RowEdge). AreEdges s point at state list (edges ++ made ∷ []))
      (sym (ap (map row_edge) (taken_more taken count edge is) ∙ map-append row_edge (take count taken) (edge ∷ []))) more);
}

take_all : (taken : List GuardedEdge) (count : ℕ) → slice_get taken count ≡ None → take count taken ≡ taken
take_all [] zero none = refl
take_all [] (suc count) none = refl
take_all (first ∷ taken) zero none = absurd cc
take_all (first ∷ taken) (suc count) none = λ i. first ∷ take_all taken count none i

pub done_all :
    {classes : Classes} {flat : FlatCode} {at : ℕ} {types : Frame} {row : Row} {state : State} (taken : List GuardedEdge) {edges : List Edge} (count : ℕ)
    → EdgesDone classes flat at types row state taken edges count
    → slice_get taken count ≡ None
    → (links : Links) (point : Point)
    → IsRowOf (scope_of classes links flat) at point types row
    → AreEdges (scope_of classes links flat) point at state (map row_edge taken) edges
done_all {classes} {flat} {at} {types} {row} {state} taken {edges} count done none links point row_of =
    subst (λ (list : List GuardedEdge). AreEdges (scope_of classes links flat) point at state (map row_edge list) edges) (take_all taken count none) (done.each links point row_of)
