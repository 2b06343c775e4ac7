-- Make code on the edges of a point, and before its instruction.
use Rattle.std.proofs.Common.{◌≡◌, ◌==◌, ℕ, true, List, [], ◌∷◌, length, Option, Some, None, option_and_then, option_map, refl, sym, ap, subst, ◌∙◌, arith}
use Rattle.std.specs.List.{find}
use Rattle.std.proofs.lemmas.Bool.{eqb-true}
use Rattle.std.proofs.lemmas.Option.{none-some, same_Some}
use Rattle.class_tree.specs.Headers.{headers_of}
use Rattle.code_drafts.specs.Drafts.{all_items}
use Rattle.code_drafts.specs.Emits.{Emits, Kept, Writing}
use Rattle.code_drafts.specs.Laws.LedRoutes.{AreFound, none_found, one_found, route_by, route_edge_by}
use Rattle.code_drafts.specs.LedEdges.{IsStateOn, planned_edge}
use Rattle.code_drafts.specs.Writable.{IsRouteAt, IsWritable, making_on, scope}
use Rattle.code_emit.proofs.MadeLaws.{no_making}
use Rattle.code_emit.specs.Inner.DraftedBlocks.{Writes}
use Rattle.code_emit.specs.Inner.MadeBlocks.{IsFullBlock, WritesMade}
use Rattle.code_emit.specs.Inner.MadeItems.{EmitsMaking, IsFullMaking}
use Rattle.code_emit.specs.Inner.PointBlocks.{before_blocks, onward_blocks}
use Rattle.code_emit.specs.Inner.ReachedPoints.{AreBlocksFull, AreFullAt, EmitsAt, WritesAt}
use Rattle.code_emit.specs.declared.drafts.Drafts.{Drafts}
use Rattle.flow_code.specs.declared.reason.Reason.{Reason}
use Rattle.making_code.specs.Items.{WItem}
use Rattle.making_code.specs.MakeOrder.{IsMakeOrder}
use Rattle.materialise.specs.Growing.{IsFull}
use Rattle.member_link.specs.Machine.Links.{AreLinksOf}
use Rattle.member_link.specs.Machine.Programs.{Links}
use Rattle.plan_flow.specs.PlanEdges.{made_edge_meant}
use Rattle.plan_flow.specs.PlanScope.{PlanScope}
use Rattle.plan_flow.specs.Plans.{MadeEdge, Plan, PlannedPoint, planned}
use Rattle.plan_flow.specs.Written.Blocks.{Block, before_point, make_block, next_block, on_next_edge}
use Rattle.plan_flow.specs.Written.Routes.{Route, RouteEdge, edge_by, is_kind}
use Rattle.plan_flow.specs.Written.WrittenConstants.{code_needs}
use Rattle.plan_flow.specs.declared.edge.Edge.{Edge}
use Rattle.plan_flow.specs.declared.edge.EdgeKind.{EdgeKind}
use Rattle.plan_flow.specs.declared.edge.EdgeKind.TheVariants as edges
use Rattle.plan_flow.specs.declared.plan.PlanEdge.{PlanEdge}
use Rattle.pool_edit.specs.Edits.{Edit}
use Rattle.virtual_state.specs.States.{State}

-- ---- the edge of a kind, as the plan gives it

pub no_sites : (made : List ℕ) → (length made == 0) ≡ true → made ≡ []
no_sites [] is = refl
no_sites (site ∷ made) is = let none = eqb-true (length (site ∷ made)) 0 is in absurd (omega (arith, none))

-- by the plan of a setting
pub planned_by : (plan : Plan) (also : Plan) (at : ℕ) (by : EdgeKind) (found : Option PlanEdge)
    → option_map made_edge_meant found ≡ option_and_then (λ point. find (λ edge. is_kind edge.by by) point.edges) (planned plan at)
    → plan ≡ also
    → option_map made_edge_meant found ≡ planned_edge (planned also at) by
planned_by plan also at by found is same =
    is ∙ ap (λ (p : Plan). option_and_then (λ point. find (λ edge. is_kind edge.by by) point.edges) (planned p at)) same ∙ with (planned also at) where
      with : (point : Option PlannedPoint) → option_and_then (λ point. find (λ edge. is_kind edge.by by) point.edges) point ≡ planned_edge point by
      with None = refl
      with (Some point) = refl

-- the edge of a route that a plan's edge is
pub record IsMadeOn (found : Option RouteEdge) (to : ℕ) (made : List ℕ) : Type 0 where
  pub edge : RouteEdge
  pub is : found ≡ Some edge
  pub same_to : edge.to ≡ to
  pub same_made : edge.made ≡ made
  pub order : IsMakeOrder edge.state.objects edge.made edge.order

made_there : {w : Writing} {effect : Option Edge} {plan : Option MadeEdge} {route : Option RouteEdge} (made : MadeEdge)
    → AreFound w effect plan route
    → plan ≡ Some made
    → IsMadeOn route made.to made.made
made_there made none_found is = absurd (none-some made is)
made_there made (one_found edge own route led is_route) is =
    let same : own ≡ made = same_Some own made is in record {
      edge = route;
      is = refl;
      same_to = is_route.to ∙ sym led.to ∙ ap (λ (m : MadeEdge). m.to) same;
      same_made = is_route.made ∙ ap (λ (m : MadeEdge). m.made) same;
      order =
          subst (λ (list : List ℕ). IsMakeOrder route.state.objects list route.order) (sym is_route.made)
          (subst (λ (s : State). IsMakeOrder s.objects own.made route.order) (sym is_route.state) is_route.order);
    }

none_there : {w : Writing} {effect : Option Edge} {plan : Option MadeEdge} {route : Option RouteEdge}
    → AreFound w effect plan route
    → plan ≡ None
    → route ≡ None
none_there none_found is = refl
none_there (one_found edge own route led is_route) is = absurd (none-some own (sym is))

module _ (w : Writing) (can : IsWritable w) (at : ℕ) (by : EdgeKind) where
  pub edge_there : (found : Option PlanEdge) (edge : PlanEdge) (links : Links) (route : Route)
      → option_map made_edge_meant found ≡ planned_edge (planned w.plan at) by
      → found ≡ Some edge
      → AreLinksOf (headers_of w.classes) links
      → IsRouteAt w links at route
      → IsMadeOn (edge_by route by) edge.to edge.made.now
  edge_there found edge links route given is are here =
      made_there (made_edge_meant edge) (route_edge_by w can links are at by route here).found (sym given ∙ ap (option_map made_edge_meant) is)

  pub edge_nowhere : (found : Option PlanEdge) (links : Links) (route : Route)
      → option_map made_edge_meant found ≡ planned_edge (planned w.plan at) by
      → found ≡ None
      → AreLinksOf (headers_of w.classes) links
      → IsRouteAt w links at route
      → edge_by route by ≡ None
  edge_nowhere found links route given is are here =
      none_there (route_edge_by w can links are at by route here).found (sym given ∙ ap (option_map made_edge_meant) is)

-- ---- items

-- without an edge, or without a site on it
pub none_on : (s : PlanScope) (found : Option RouteEdge) → found ≡ None → making_on s found ≡ []
none_on s found none = rw none refl

pub none_made_on : (s : PlanScope) (found : Option RouteEdge) (to : ℕ) (made : List ℕ) → IsMadeOn found to made → made ≡ [] → making_on s found ≡ []
none_made_on s found to made is none =
    let empty : is.edge.made ≡ [] = is.same_made ∙ none in
    ap (making_on s) is.is
    ∙ ap (λ (list : List ℕ). making_on s (Some (record is.edge { made = list }))) empty
    ∙ no_making s is.edge.to is.edge.state is.edge.order (subst (λ (list : List ℕ). IsMakeOrder is.edge.state.objects list is.edge.order) empty is.order)

-- an edge whose state is known
module _ (w : Writing) (links : Links) (at : ℕ) (by : EdgeKind) (behind : State) (to : ℕ) (made : List ℕ) (route : Route)
    (on : IsMadeOn (edge_by route by) to made) (state : option_map (λ (edge : RouteEdge). edge.state) (edge_by route by) ≡ Some behind) where
  pub state_same : on.edge.state ≡ behind
  state_same = same_Some on.edge.state behind (sym (ap (option_map (λ (edge : RouteEdge). edge.state)) on.is) ∙ state)

  pub order_there : IsMakeOrder behind.objects made on.edge.order
  order_there =
      subst (λ (list : List ℕ). IsMakeOrder behind.objects list on.edge.order) on.same_made
      (subst (λ (s : State). IsMakeOrder s.objects on.edge.made on.edge.order) state_same on.order)

  edge_is : edge_by route by ≡ Some (record { by = on.edge.by; to = to; state = behind; made = made; order = on.edge.order })
  edge_is =
      on.is
      ∙ ap (λ (n : ℕ). Some (record on.edge { to = n })) on.same_to
      ∙ ap (λ (s : State). Some (record on.edge { to = to; state = s })) state_same
      ∙ ap (λ (list : List ℕ). Some (record on.edge { to = to; state = behind; made = list })) on.same_made

  pub making_there : (s : PlanScope) → making_on s (edge_by route by) ≡ making_on s (Some (record { by = on.edge.by; to = to; state = behind; made = made; order = on.edge.order }))
  making_there s = ap (making_on s) edge_is

  pub next_there : (s : PlanScope) → next_block s at (edge_by route by) ≡ make_block s (on_next_edge at) to behind made on.edge.order None
  next_there s = ap (next_block s at) edge_is

pub edge_emits : (w : Writing) (can : IsWritable w) (at : ℕ) (by : EdgeKind) (found : Option PlanEdge) (edge : PlanEdge) (behind : State)
    (old new : Edit) (before after : Kept)
    → option_map made_edge_meant found ≡ planned_edge (planned w.plan at) by
    → found ≡ Some edge
    → IsStateOn w at by (Some behind)
    → EmitsMaking w edge.to behind edge.made.now old new before after
    → EmitsAt w at (λ s at point route. making_on s (edge_by route by)) old new before after
edge_emits w can at by found edge behind old new before after given is state emits = record {
  each = λ links constructor point route reached.
      let on = edge_there w can at by found edge links route given is reached.meant.is_links reached.here in
      let known = state.of_route links route reached.meant.is_links reached.here in
      subst (λ (items : List WItem). Emits (scope w links) constructor old items new before after)
      (sym (making_there w links at by behind edge.to edge.made.now route on known (scope w links)))
      (emits.each links constructor on.edge.order reached.meant (order_there w links at by behind edge.to edge.made.now route on known));
}

pub edge_full : (w : Writing) (can : IsWritable w) (at : ℕ) (by : EdgeKind) (found : Option PlanEdge) (edge : PlanEdge) (behind : State)
    (edit : Edit) (reason : Reason)
    → option_map made_edge_meant found ≡ planned_edge (planned w.plan at) by
    → found ≡ Some edge
    → IsStateOn w at by (Some behind)
    → IsFullMaking w edge.to behind edge.made.now edit reason
    → AreFullAt w at (λ s at point route. making_on s (edge_by route by)) edit reason
edge_full w can at by found edge behind edit reason given is state full = record {
  each = λ links constructor point route reached.
      let on = edge_there w can at by found edge links route given is reached.meant.is_links reached.here in
      let known = state.of_route links route reached.meant.is_links reached.here in
      subst (λ (items : List WItem). IsFull edit (code_needs (scope w links) constructor items) reason)
      (sym (making_there w links at by behind edge.to edge.made.now route on known (scope w links)))
      (full.each links constructor on.edge.order reached.meant (order_there w links at by behind edge.to edge.made.now route on known));
}

-- an edge that has no state is none
pub no_state : (w : Writing) (can : IsWritable w) (at : ℕ) (by : EdgeKind) (links : Links) (route : Route)
    → IsStateOn w at by None
    → AreLinksOf (headers_of w.classes) links
    → IsRouteAt w links at route
    → edge_by route by ≡ None
no_state w can at by links route state are here = with (edge_by route by) (state.of_route links route are here) where
  with : (found : Option RouteEdge) → option_map (λ (edge : RouteEdge). edge.state) found ≡ None → found ≡ None
  with None none = refl
  with (Some edge) none = absurd (none-some edge.state (sym none))

-- ---- the block on the edge to the next point

pub onwards_written : (w : Writing) (can : IsWritable w) (at : ℕ) (found : Option PlanEdge) (edge : PlanEdge) (behind : State)
    (old new : Edit) (before after : Drafts)
    → option_map made_edge_meant found ≡ planned_edge (planned w.plan at) edges.Next
    → found ≡ Some edge
    → IsStateOn w at edges.Next (Some behind)
    → WritesMade w (on_next_edge at) edge.to behind edge.made.now None old new before after
    → WritesAt w at onward_blocks old new before after
onwards_written w can at found edge behind old new before after given is state writes = record {
  each = λ links constructor point route reached.
      let on = edge_there w can at edges.Next found edge links route given is reached.meant.is_links reached.here in
      let known = state.of_route links route reached.meant.is_links reached.here in
      subst (λ (blocks : List Block). Writes (scope w links) constructor old blocks new before after)
      (sym (next_there w links at edges.Next behind edge.to edge.made.now route on known (scope w links)))
      (writes.each links constructor on.edge.order reached.meant (order_there w links at edges.Next behind edge.to edge.made.now route on known));
}

pub onwards_full : (w : Writing) (can : IsWritable w) (at : ℕ) (found : Option PlanEdge) (edge : PlanEdge) (behind : State)
    (edit : Edit) (reason : Reason)
    → option_map made_edge_meant found ≡ planned_edge (planned w.plan at) edges.Next
    → found ≡ Some edge
    → IsStateOn w at edges.Next (Some behind)
    → IsFullBlock w (on_next_edge at) edge.to behind edge.made.now None edit reason
    → AreBlocksFull w at onward_blocks edit reason
onwards_full w can at found edge behind edit reason given is state full = record {
  each = λ links constructor point route reached.
      let on = edge_there w can at edges.Next found edge links route given is reached.meant.is_links reached.here in
      let known = state.of_route links route reached.meant.is_links reached.here in
      subst (λ (blocks : List Block). IsFull edit (code_needs (scope w links) constructor (all_items blocks)) reason)
      (sym (next_there w links at edges.Next behind edge.to edge.made.now route on known (scope w links)))
      (full.each links constructor on.edge.order reached.meant (order_there w links at edges.Next behind edge.to edge.made.now route on known));
}

pub no_next : (s : PlanScope) (at : ℕ) (found : Option RouteEdge) → found ≡ None → next_block s at found ≡ []
no_next s at found none = rw none refl

pub none_next : (s : PlanScope) (at : ℕ) (found : Option RouteEdge) (to : ℕ) (made : List ℕ) → IsMadeOn found to made → made ≡ [] → next_block s at found ≡ []
none_next s at found to made is none =
    ap (next_block s at) is.is
    ∙ ap (λ (list : List ℕ). next_block s at (Some (record is.edge { made = list }))) (is.same_made ∙ none)

-- ---- the block before the instruction

pub before_written : (w : Writing) (at : ℕ) (state : State) (made : List ℕ) (old new : Edit) (before after : Drafts)
    → option_map (λ (point : PlannedPoint). point.state) (planned w.plan at) ≡ Some state
    → option_map (λ (point : PlannedPoint). point.made) (planned w.plan at) ≡ Some made
    → WritesMade w (before_point at) at state made None old new before after
    → WritesAt w at before_blocks old new before after
before_written w at state made old new before after is_state is_made writes = record {
  each = λ links constructor point route reached.
      let is = route_by w links at state made route is_state is_made reached.here in
      subst (λ (blocks : List Block). Writes (scope w links) constructor old blocks new before after)
      (ap (λ (s : State). make_block (scope w links) (before_point at) at s made route.order None) (sym is.state_is)
      ∙ ap (λ (list : List ℕ). make_block (scope w links) (before_point at) at route.state list route.order None) (sym is.made_is))
      (writes.each links constructor route.order reached.meant is.order);
}

pub before_full : (w : Writing) (at : ℕ) (state : State) (made : List ℕ) (edit : Edit) (reason : Reason)
    → option_map (λ (point : PlannedPoint). point.state) (planned w.plan at) ≡ Some state
    → option_map (λ (point : PlannedPoint). point.made) (planned w.plan at) ≡ Some made
    → IsFullBlock w (before_point at) at state made None edit reason
    → AreBlocksFull w at before_blocks edit reason
before_full w at state made edit reason is_state is_made full = record {
  each = λ links constructor point route reached.
      let is = route_by w links at state made route is_state is_made reached.here in
      subst (λ (blocks : List Block). IsFull edit (code_needs (scope w links) constructor (all_items blocks)) reason)
      (ap (λ (s : State). make_block (scope w links) (before_point at) at s made route.order None) (sym is.state_is)
      ∙ ap (λ (list : List ℕ). make_block (scope w links) (before_point at) at route.state list route.order None) (sym is.made_is))
      (full.each links constructor route.order reached.meant is.order);
}
