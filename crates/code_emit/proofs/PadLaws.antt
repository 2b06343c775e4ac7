-- The pads of a point, edge by edge.
use Rattle.std.proofs.Common.{◌≡◌, ◌+◌, ◌<◌, ◌≤◌, ℕ, zero, suc, Bool, true, false, List, [], ◌∷◌, ◌++◌, drop, length, slice_get, Option, Some, None, option_and_then, option_map, refl, sym, ap, subst, ◌∙◌, arith, inl, inr}
use Rattle.std.specs.List.{AllByRecursion, flat_map}
use Rattle.std.proofs.lemmas.Bool.{cases_lt}
use Rattle.std.proofs.lemmas.List.{drop_all}
use Rattle.std.proofs.lemmas.Option.{none-some, same_Some, slice_get_within}
use Rattle.class_model.specs.Laws.Lists.{drop_item, none_behind}
use Rattle.class_tree.specs.Headers.{Name}
use Rattle.code_drafts.specs.Drafts.{all_items, kind_of}
use Rattle.code_drafts.specs.Emits.{Writing}
use Rattle.code_drafts.specs.Laws.LedRoutes.{AreBoth, AreFound, HasEdges, both_at, found_at, none_both, none_found, one_both, one_found, route_edges}
use Rattle.code_drafts.specs.LedEdges.{AreLed}
use Rattle.code_drafts.specs.Writable.{IsLeftAt, IsWritable, scope}
use Rattle.code_drafts.specs.declared.draft.BlockKind.{BlockKind}
use Rattle.code_emit.proofs.DecidedLaws.{IsDecidedTest, decided_is}
use Rattle.code_emit.proofs.DraftedLaws.{to_end, to_first, to_full, to_more, writes_none}
use Rattle.code_emit.specs.Inner.DraftedBlocks.{Writes, WritesTo}
use Rattle.code_emit.specs.Inner.MadeBlocks.{IsFullBlock, WritesMade}
use Rattle.code_emit.specs.Inner.PadBlocks.{MakesNone, block_for, edge_pads, pad_of, pads_at}
use Rattle.code_emit.specs.Inner.ReachedPoints.{AreBlocksFull, EdgeBlocks, IsBlockFull, IsReached, WritesAt, WritesEdge}
use Rattle.code_emit.specs.declared.drafts.Drafts.{Drafts}
use Rattle.code_emit.specs.declared.pads.Pads.{Pads}
use Rattle.code_emit.specs.declared.pads.Pads.TheVariants as sorts
use Rattle.flow_code.specs.FlatCode.{FlatCode}
use Rattle.flow_code.specs.declared.point.Point.{Point}
use Rattle.flow_code.specs.declared.reason.Reason.{Reason}
use Rattle.making_code.specs.MakeOrder.{IsMakeOrder}
use Rattle.materialise.specs.Growing.{IsFull}
use Rattle.materialise.specs.MadeCode.{CanMake}
use Rattle.member_link.specs.Machine.Programs.{Links}
use Rattle.plan_flow.specs.PlanEdges.{made_edge_meant}
use Rattle.plan_flow.specs.PlanScope.{PlanScope}
use Rattle.plan_flow.specs.Plans.{MadeEdge, Plan, PlannedPoint, planned}
use Rattle.plan_flow.specs.Written.Blocks.{Block, is_decided, jump_pad_of, make_block}
use Rattle.plan_flow.specs.Written.Routes.{AreEdgeRoutes, IsEdgeRoute, Route, RouteEdge}
use Rattle.plan_flow.specs.Written.WrittenConstants.{code_needs}
use Rattle.plan_flow.specs.declared.edge.Edge.{Edge}
use Rattle.plan_flow.specs.declared.edge.EdgeKind.{EdgeKind}
use Rattle.plan_flow.specs.declared.edge.EdgeKind.TheVariants as edges
use Rattle.plan_flow.specs.declared.plan.PlanEdge.{PlanEdge}
use Rattle.pool_edit.specs.Edits.{Edit}
use Rattle.virtual_state.specs.States.{State}

-- ---- edges by number

-- the edge of a plan of a number, as the code finds it
abbrev pub in_plan : Plan → ℕ → ℕ → Option MadeEdge
in_plan plan at number = option_and_then (λ point. slice_get point.edges number) (planned plan at)

pub given_edge : (plan also : Plan) (at number : ℕ) (found : Option PlanEdge)
    → option_map made_edge_meant found ≡ in_plan plan at number
    → plan ≡ also
    → option_map made_edge_meant found ≡ in_plan also at number
given_edge plan also at number found given same = given ∙ ap (λ (p : Plan). in_plan p at number) same

-- what an edge of the effect, of the plan and of the route have in common
pub record IsPadEdge (edge : Edge) (made : List ℕ) (route : RouteEdge) : Type 0 where
  pub by : route.by ≡ edge.by
  pub to : route.to ≡ edge.to
  pub state : route.state ≡ edge.state
  pub same_made : route.made ≡ made
  pub order : IsMakeOrder edge.state.objects made route.order

module _ (w : Writing) (at : ℕ) (edges : List Edge) (led : AreLed w at edges) (number : ℕ) where
  plan_edge : (found : Option PlanEdge) → option_map made_edge_meant found ≡ in_plan w.plan at number
      → option_map made_edge_meant found ≡ slice_get led.point.edges number
  plan_edge found given =
      given ∙ ap (option_and_then (λ (point : PlannedPoint). slice_get point.edges number)) led.reached

  -- objects can be made on the edge
  pub edge_can_make : (found : Option PlanEdge) (edge : Edge) (own : PlanEdge)
      → option_map made_edge_meant found ≡ in_plan w.plan at number
      → found ≡ Some own
      → slice_get edges number ≡ Some edge
      → CanMake w.flat edge.to edge.state own.made.now
  edge_can_make found edge own given is there =
      with (both_at w number edges led.point.edges led.led) there (sym (plan_edge found given) ∙ ap (option_map made_edge_meant) is) where
        with : {effect : Option Edge} {plan : Option MadeEdge} → AreBoth w effect plan → effect ≡ Some edge → plan ≡ Some (made_edge_meant own)
            → CanMake w.flat edge.to edge.state own.made.now
        with none_both none also = absurd (none-some edge none)
        with (one_both one made is_led) same also =
            subst (λ (e : Edge). CanMake w.flat e.to e.state own.made.now) (same_Some one edge same)
            (subst (λ (m : MadeEdge). CanMake w.flat one.to one.state m.made) (same_Some made (made_edge_meant own) also) is_led.can)

  module _ (links : Links) (constructor : Name → List ℕ) (point : Point) (route : Route) (reached : IsReached w links constructor at point route) where
    found : AreFound w (slice_get edges number) (slice_get led.point.edges number) (slice_get route.edges number)
    found = found_at w number edges led.point.edges route.edges led.led (led.routed links route reached.meant.is_links reached.here)

    pub pad_edge : (given_by : Option PlanEdge) (edge : Edge) (own : PlanEdge) (other : RouteEdge)
        → option_map made_edge_meant given_by ≡ in_plan w.plan at number
        → given_by ≡ Some own
        → slice_get edges number ≡ Some edge
        → slice_get route.edges number ≡ Some other
        → IsPadEdge edge own.made.now other
    pad_edge given_by edge own other given is there here =
        with found there (sym (plan_edge given_by given) ∙ ap (option_map made_edge_meant) is) here where
          with : {effect : Option Edge} {plan : Option MadeEdge} {routed : Option RouteEdge} → AreFound w effect plan routed
              → effect ≡ Some edge → plan ≡ Some (made_edge_meant own) → routed ≡ Some other
              → IsPadEdge edge own.made.now other
          with none_found none also routed = absurd (none-some edge none)
          with (one_found one made r is_led is_route) same also routed =
              let is_edge = same_Some one edge same in
              let is_made = same_Some made (made_edge_meant own) also in
              let is_other = same_Some r other routed in
              let whole : IsEdgeRoute edge (made_edge_meant own) other =
              subst (λ (e : Edge). IsEdgeRoute e (made_edge_meant own) other) is_edge
              (subst (λ (m : MadeEdge). IsEdgeRoute one m other) is_made
              (subst (λ (x : RouteEdge). IsEdgeRoute one made x) is_other is_route)) in
              record { by = whole.by; to = whole.to; state = whole.state; same_made = whole.made; order = whole.order }

    -- the edge of the effect, and that of the plan, are there where that of the route is
    pub edge_known : (other : RouteEdge) → slice_get route.edges number ≡ Some other → slice_get edges number ≡ None → ⊥
    edge_known other here none = with found none here where
      with : {effect : Option Edge} {plan : Option MadeEdge} {routed : Option RouteEdge} → AreFound w effect plan routed
          → effect ≡ None → routed ≡ Some other → ⊥
      with none_found same routed = none-some other routed
      with (one_found one made r is_led is_route) same routed = none-some one (sym same)

    pub plan_known : (given_by : Option PlanEdge) (other : RouteEdge)
        → option_map made_edge_meant given_by ≡ in_plan w.plan at number
        → given_by ≡ None
        → slice_get route.edges number ≡ Some other
        → ⊥
    plan_known given_by other given is here = with found (sym (plan_edge given_by given) ∙ ap (option_map made_edge_meant) is) here where
      with : {effect : Option Edge} {plan : Option MadeEdge} {routed : Option RouteEdge} → AreFound w effect plan routed
          → plan ≡ None → routed ≡ Some other → ⊥
      with none_found same routed = none-some other routed
      with (one_found one made r is_led is_route) same routed = none-some made (sym same)

    pub edge_by_is : (edge : Edge) (other : RouteEdge) → slice_get edges number ≡ Some edge → slice_get route.edges number ≡ Some other → other.by ≡ edge.by
    edge_by_is edge other there here = with found there here where
      with : {effect : Option Edge} {plan : Option MadeEdge} {routed : Option RouteEdge} → AreFound w effect plan routed
          → effect ≡ Some edge → routed ≡ Some other → other.by ≡ edge.by
      with none_found same routed = absurd (none-some edge same)
      with (one_found one made r is_led is_route) same routed =
          ap (λ (x : RouteEdge). x.by) (sym (same_Some r other routed)) ∙ is_route.by ∙ ap (λ (e : Edge). e.by) (same_Some one edge same)

-- ---- the pad of an edge

-- what the code finds the pad of an edge to be
abbrev pub IsPadKind : Pads → Bool → ℕ → EdgeKind → Option BlockKind → Type 0
IsPadKind of decided at by kind =
    (s : PlanScope) (edge : RouteEdge) → edge.by ≡ by → pad_of of decided s at edge ≡ block_for s kind edge

pad_blocks : (s : PlanScope) (of : BlockKind) (edge : Edge) (made : List ℕ) (route : RouteEdge) → IsPadEdge edge made route
    → make_block s (kind_of of) edge.to edge.state made route.order (Some edge.to) ≡ block_for s (Some of) route
pad_blocks s of edge made route is =
    ap (λ (list : List ℕ). make_block s (kind_of of) edge.to edge.state list route.order (Some edge.to)) (sym is.same_made)
    ∙ ap (λ (state : State). make_block s (kind_of of) edge.to state route.made route.order (Some edge.to)) (sym is.state)
    ∙ ap (λ (to : ℕ). make_block s (kind_of of) to route.state route.made route.order (Some to)) (sym is.to)

module _ (w : Writing) (of : Pads) (decided : Bool) (at : ℕ) (edges : List Edge) (number : ℕ) (led : AreLed w at edges) where
  pub no_edge_written : (edit : Edit) (drafts : Drafts) → slice_get edges number ≡ None → WritesEdge w at number (pad_of of decided) edit edit drafts drafts
  no_edge_written edit drafts none = record {
    each = λ links constructor point route edge reached here.
        absurd (edge_known w at edges led number links constructor point route reached edge here none);
  }

  pub no_plan_written : (found : Option PlanEdge) (edit : Edit) (drafts : Drafts)
      → option_map made_edge_meant found ≡ in_plan w.plan at number
      → found ≡ None
      → WritesEdge w at number (pad_of of decided) edit edit drafts drafts
  no_plan_written found edit drafts given none = record {
    each = λ links constructor point route edge reached here.
        absurd (plan_known w at edges led number links constructor point route reached found edge given none here);
  }

  pub no_pad_written : (edge : Edge) (edit : Edit) (drafts : Drafts)
      → slice_get edges number ≡ Some edge
      → IsPadKind of decided at edge.by None
      → WritesEdge w at number (pad_of of decided) edit edit drafts drafts
  no_pad_written edge edit drafts there kind = record {
    each = λ links constructor point route other reached here.
        subst (λ (blocks : List Block). Writes (scope w links) constructor edit blocks edit drafts drafts)
        (sym (kind (scope w links) other (edge_by_is w at edges led number links constructor point route reached edge other there here)))
        (writes_none (scope w links) constructor edit drafts);
  }

  module _ (edge : Edge) (pad : BlockKind) (found : Option PlanEdge) (own : PlanEdge)
      (there : slice_get edges number ≡ Some edge)
      (kind : IsPadKind of decided at edge.by (Some pad))
      (given : option_map made_edge_meant found ≡ in_plan w.plan at number)
      (is : found ≡ Some own) where
    blocks_are : (links : Links) (constructor : Name → List ℕ) (point : Point) (route : Route) (other : RouteEdge) (reached : IsReached w links constructor at point route)
        → slice_get route.edges number ≡ Some other
        → make_block (scope w links) (kind_of pad) edge.to edge.state own.made.now other.order (Some edge.to) ≡ pad_of of decided (scope w links) at other
    blocks_are links constructor point route other reached here =
        let same = pad_edge w at edges led number links constructor point route reached found edge own other given is there here in
        pad_blocks (scope w links) pad edge own.made.now other same ∙ sym (kind (scope w links) other same.by)

    pub pad_written : (old new : Edit) (before after : Drafts)
        → WritesMade w (kind_of pad) edge.to edge.state own.made.now (Some edge.to) old new before after
        → WritesEdge w at number (pad_of of decided) old new before after
    pad_written old new before after writes = record {
      each = λ links constructor point route other reached here.
          let same = pad_edge w at edges led number links constructor point route reached found edge own other given is there here in
          subst (λ (blocks : List Block). Writes (scope w links) constructor old blocks new before after)
          (blocks_are links constructor point route other reached here)
          (writes.each links constructor other.order reached.meant same.order);
    }

    pub pad_full : (edit : Edit) (reason : Reason)
        → IsFullBlock w (kind_of pad) edge.to edge.state own.made.now (Some edge.to) edit reason
        → IsBlockFull w at number (pad_of of decided) edit reason
    pad_full edit reason full = record {
      each = λ links constructor point route other reached here.
          let same = pad_edge w at edges led number links constructor point route reached found edge own other given is there here in
          subst (λ (blocks : List Block). IsFull edit (code_needs (scope w links) constructor (all_items blocks)) reason)
          (blocks_are links constructor point route other reached here)
          (full.each links constructor other.order reached.meant same.order);
    }

-- ---- all edges of a point

as_many_routes : (effect : List Edge) (plans : List MadeEdge) (routes : List RouteEdge) → AreEdgeRoutes effect plans routes → length effect ≡ length routes
as_many_routes [] [] [] are = refl
as_many_routes [] [] (route ∷ routes) are = absurd are
as_many_routes [] (made ∷ plans) routes are = absurd are
as_many_routes (edge ∷ effect) [] routes are = absurd are
as_many_routes (edge ∷ effect) (made ∷ plans) [] are = absurd are
as_many_routes (edge ∷ effect) (made ∷ plans) (route ∷ routes) are = ap suc (as_many_routes effect plans routes are.1)

some_there : {A : Type 0} (items : List A) (number : ℕ) → number < length items → (item : A) × (slice_get items number ≡ Some item)
some_there [] number low = absurd (omega (arith, low))
some_there (item ∷ items) zero low = (item, refl)
some_there (item ∷ items) (suc number) low = some_there items number (omega (arith, low))

-- the pads of the edges that are left
module _ (w : Writing) (at : ℕ) (blocks : EdgeBlocks) where
  abbrev blocks_from : PlanScope → ℕ → Route → List Block
  blocks_from s number route = flat_map (blocks s at) (drop number route.edges)

  pub record WritesEdgesTo (number : ℕ) (old now : Edit) (before between : Drafts) : Type 0 where
    pub each :
        (links : Links) (constructor : Name → List ℕ) (point : Point) (route : Route)
        → IsReached w links constructor at point route
        → WritesTo (scope w links) constructor old (blocks_from (scope w links) 0 route) (blocks_from (scope w links) number route) now before between

  pub edges_first : (edit : Edit) (drafts : Drafts) → WritesEdgesTo 0 edit edit drafts drafts
  edges_first edit drafts = record {
    each = λ links constructor point route reached. to_first (scope w links) constructor edit (blocks_from (scope w links) 0 route) drafts;
  }

  one_left : (s : PlanScope) (number : ℕ) (route : Route) (edge : RouteEdge) → slice_get route.edges number ≡ Some edge
      → blocks_from s number route ≡ blocks s at edge ++ blocks_from s (number + 1) route
  one_left s number route edge here = ap (flat_map (blocks s at)) (drop_item route.edges number edge here)

  module _ (edges : List Edge) (led : AreLed w at edges) (number : ℕ) where
    there : (links : Links) (constructor : Name → List ℕ) (point : Point) (route : Route) → IsReached w links constructor at point route
        → number < length edges
        → (edge : RouteEdge) × (slice_get route.edges number ≡ Some edge)
    there links constructor point route reached low =
        let same = as_many_routes edges led.point.edges route.edges (led.routed links route reached.meant.is_links reached.here) in
        some_there route.edges number (omega (arith, low, same))

    pub edges_more : (old now new : Edit) (before between after : Drafts)
        → number < length edges
        → WritesEdgesTo number old now before between
        → WritesEdge w at number blocks now new between after
        → WritesEdgesTo (number + 1) old new before after
    edges_more old now new before between after low so_far writes = record {
      each = λ links constructor point route reached.
          let s = scope w links in
          let edge = there links constructor point route reached low in
          to_more s constructor old now new (blocks_from s 0 route) (blocks_from s number route) (blocks s at edge.0) (blocks_from s (number + 1) route) before between after
          (so_far.each links constructor point route reached) (one_left s number route edge.0 edge.1)
          (writes.each links constructor point route edge.0 reached edge.1);
    }

    pub edges_full : (old now : Edit) (before between : Drafts) (reason : Reason)
        → number < length edges
        → WritesEdgesTo number old now before between
        → IsBlockFull w at number blocks now reason
        → AreBlocksFull w at (λ s n point route. flat_map (blocks s n) route.edges) old reason
    edges_full old now before between reason low so_far full = record {
      each = λ links constructor point route reached.
          let s = scope w links in
          let edge = there links constructor point route reached low in
          to_full s constructor old now (blocks_from s 0 route) (blocks_from s number route) (blocks s at edge.0) (blocks_from s (number + 1) route) before between reason
          (so_far.each links constructor point route reached) (one_left s number route edge.0 edge.1)
          (full.each links constructor point route edge.0 reached edge.1);
    }

    pub edges_end : (old now : Edit) (before between : Drafts)
        → length edges ≤ number
        → WritesEdgesTo number old now before between
        → WritesAt w at (λ s n point route. flat_map (blocks s n) route.edges) old now before between
    edges_end old now before between high so_far = record {
      each = λ links constructor point route reached.
          let s = scope w links in
          let same = as_many_routes edges led.point.edges route.edges (led.routed links route reached.meant.is_links reached.here) in
          to_end s constructor old now (blocks_from s 0 route) (blocks_from s number route) before between (so_far.each links constructor point route reached)
          (ap (flat_map (blocks s at)) (drop_all number route.edges (omega (arith, high, same))));
    }

-- ---- pads of a sort

pads_same : (of : Pads) (s : PlanScope) (at : ℕ) (point : Point) (route : Route) (decided : Bool) → decided ≡ is_decided point route
    → edge_pads of decided s at point route ≡ pads_at of s at point route
pads_same sorts.Jump s at point route decided same =
    ap (λ (d : Bool). flat_map (λ (edge : RouteEdge). jump_pad_of s at d edge edge.by) route.edges) same
pads_same sorts.Handler s at point route decided same = refl

module _ (w : Writing) (of : Pads) (at : ℕ) (state : State) (decided : Bool) (flat : FlatCode) (left : IsLeftAt w at state)
    (test : IsDecidedTest flat at state decided) (same : flat ≡ w.flat) where
  pads_are : (links : Links) (constructor : Name → List ℕ) (point : Point) (route : Route) → IsReached w links constructor at point route
      → edge_pads of decided (scope w links) at point route ≡ pads_at of (scope w links) at point route
  pads_are links constructor point route reached =
      pads_same of (scope w links) at point route decided
      (decided_is w at state flat decided left test same links point route reached.there reached.here)

  pub pads_written : (old new : Edit) (before after : Drafts) → WritesAt w at (edge_pads of decided) old new before after → WritesAt w at (pads_at of) old new before after
  pads_written old new before after writes = record {
    each = λ links constructor point route reached.
        subst (λ (blocks : List Block). Writes (scope w links) constructor old blocks new before after) (pads_are links constructor point route reached)
        (writes.each links constructor point route reached);
  }

  pub pads_full : (edit : Edit) (reason : Reason) → AreBlocksFull w at (edge_pads of decided) edit reason → AreBlocksFull w at (pads_at of) edit reason
  pads_full edit reason full = record {
    each = λ links constructor point route reached.
        subst (λ (blocks : List Block). IsFull edit (code_needs (scope w links) constructor (all_items blocks)) reason) (pads_are links constructor point route reached)
        (full.each links constructor point route reached);
  }

-- ---- no pad, where no object is made

all_made_none : (made : List MadeEdge) → ((number : ℕ) (edge : MadeEdge) → slice_get made number ≡ Some edge → edge.made ≡ [])
    → AllByRecursion (λ (edge : MadeEdge). edge.made ≡ []) made
all_made_none [] each = tt
all_made_none (edge ∷ made) each = (each 0 edge refl, all_made_none made (λ number one is. each (suc number) one is))

no_pad : (s : PlanScope) (of : Pads) (decided : Bool) (at : ℕ) (edge : RouteEdge) → edge.made ≡ [] → pad_of of decided s at edge ≡ []
no_pad s of decided at edge none = by of decided edge.by refl where
  by : (sort : Pads) (test : Bool) (kind : EdgeKind) → edge.by ≡ kind → pad_of sort test s at edge ≡ []
  by sorts.Jump false edges.Next is = rw (is) refl
  by sorts.Jump false (edges.Jump number) is = rw (is, none) refl
  by sorts.Jump false (edges.Handler number) is = rw (is) refl
  by sorts.Jump true edges.Next is = refl
  by sorts.Jump true (edges.Jump number) is = refl
  by sorts.Jump true (edges.Handler number) is = refl
  by sorts.Handler test edges.Next is = rw (is) refl
  by sorts.Handler test (edges.Jump number) is = rw (is) refl
  by sorts.Handler test (edges.Handler number) is = rw (is, none) refl

no_pads : (s : PlanScope) (of : Pads) (decided : Bool) (at : ℕ) (effect : List Edge) (plans : List MadeEdge) (routes : List RouteEdge)
    → AreEdgeRoutes effect plans routes
    → AllByRecursion (λ (edge : MadeEdge). edge.made ≡ []) plans
    → flat_map (pad_of of decided s at) routes ≡ []
no_pads s of decided at [] [] [] are none = refl
no_pads s of decided at [] [] (route ∷ routes) are none = absurd are
no_pads s of decided at [] (made ∷ plans) routes are none = absurd are
no_pads s of decided at (edge ∷ effect) [] routes are none = absurd are
no_pads s of decided at (edge ∷ effect) (made ∷ plans) [] are none = absurd are
no_pads s of decided at (edge ∷ effect) (made ∷ plans) (route ∷ routes) are none =
    ap (λ (blocks : List Block). blocks ++ flat_map (pad_of of decided s at) routes) (no_pad s of decided at route (are.0.made ∙ none.0))
    ∙ no_pads s of decided at effect plans routes are.1 none.1

pub none_padded : (w : Writing) (can : IsWritable w) (of : Pads) (at : ℕ) (plan : Plan) (links : Links) (constructor : Name → List ℕ) (point : Point) (route : Route)
    → MakesNone plan at
    → plan ≡ w.plan
    → IsReached w links constructor at point route
    → pads_at of (scope w links) at point route ≡ []
none_padded w can of at plan links constructor point route none same reached =
    sym (pads_same of (scope w links) at point route (is_decided point route) refl)
    ∙ no_pads (scope w links) of (is_decided point route) at has.edges reached.here.point.edges route.edges has.routed
    (all_made_none reached.here.point.edges
    (λ number edge is. none.each reached.here.point number edge (ap (λ (p : Plan). planned p at) same ∙ reached.here.reached) is)) where
      has : HasEdges w can links reached.meant.is_links at reached.here.point.edges route.edges
      has = route_edges w can links reached.meant.is_links at route reached.here

-- ---- looking for an object that is made

-- no object is made on the edges below a number
pub record MakesNoneBelow (plan : Plan) (at count : ℕ) : Type 0 where
  pub each :
      (point : PlannedPoint) (number : ℕ) (edge : MadeEdge)
      → planned plan at ≡ Some point
      → number < count
      → slice_get point.edges number ≡ Some edge
      → edge.made ≡ []

pub below_first : (plan : Plan) (at : ℕ) → MakesNoneBelow plan at 0
below_first plan at = record { each = λ point number edge reached low is. absurd (omega (arith, low)) }

found_in : (plan : Plan) (at number : ℕ) (point : PlannedPoint) (found : Option PlanEdge)
    → planned plan at ≡ Some point
    → option_map made_edge_meant found ≡ in_plan plan at number
    → slice_get point.edges number ≡ option_map made_edge_meant found
found_in plan at number point by_code reached given =
    sym (given ∙ ap (option_and_then (λ (p : PlannedPoint). slice_get p.edges number)) reached)

pub below_more : (plan : Plan) (at count : ℕ) (found : Option PlanEdge) (own : PlanEdge)
    → MakesNoneBelow plan at count
    → option_map made_edge_meant found ≡ in_plan plan at count
    → found ≡ Some own
    → own.made.now ≡ []
    → MakesNoneBelow plan at (count + 1)
below_more plan at count found own so_far given is none = record {
  each = λ point number edge reached low there. elim (cases_lt number count) [
    | inl less ↦ so_far.each point number edge reached less there
    | inr more ↦
        let same : number ≡ count = omega (arith, low, more) in
        let here : Some edge ≡ Some (made_edge_meant own) =
        sym there ∙ ap (slice_get point.edges) same ∙ found_in plan at count point found reached given ∙ ap (option_map made_edge_meant) is in
        ap (λ (one : MadeEdge). one.made) (same_Some edge (made_edge_meant own) here) ∙ none
  ];
}

pub below_all : (plan : Plan) (at count : ℕ) (found : Option PlanEdge)
    → MakesNoneBelow plan at count
    → option_map made_edge_meant found ≡ in_plan plan at count
    → found ≡ None
    → MakesNone plan at
below_all plan at count found so_far given is = record {
  each = λ point number edge reached there.
      let none = found_in plan at count point found reached given ∙ ap (option_map made_edge_meant) is in
      let few = none_behind point.edges count none in
      let within = slice_get_within point.edges number edge there in
      so_far.each point number edge reached (omega (arith, few, within)) there;
}
