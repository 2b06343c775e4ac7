-- Which blocks there are, and which one comes behind each.
use Rattle.std.proofs.Common.{◌≡◌, ◌⊎◌, ◌+◌, ℕ, suc, Bool, true, false, List, [], ◌∷◌, ◌++◌, drop, Option, Some, None, slice_get, refl, sym, ap, subst, ◌∙◌, inl, inr, arith}
use Rattle.std.specs.List.{flat_map}
use Rattle.std.proofs.lemmas.List.{append_assoc}
use Rattle.std.proofs.lemmas.Option.{none-some}
use Rattle.flow_code.specs.FlatCode.{FlatCode, point_at}
use Rattle.flow_code.specs.declared.point.Point.{Point}
use Rattle.plan_flow.specs.Laws.WrittenBlocks.{begins_with_first, first_block, holds_of_both, made_next, next_part, pads_of}
use Rattle.plan_flow.specs.Laws.WrittenPads.{AreNone, none_of_reached, pad_block}
use Rattle.plan_flow.specs.PlanScope.{PlanScope}
use Rattle.plan_flow.specs.Written.Blocks.{Block, BlockOf, before_point, blocks_of, handler_pad, handler_pad_of, handler_pads, instruction_block, is_decided, jump_pad, jump_pad_of, jump_pads, make_block, making, next_block, of_reached, on_next_edge, point_blocks, state_written}
use Rattle.plan_flow.specs.Written.Finish.{Finished, begins_point, end_of, finish}
use Rattle.plan_flow.specs.Written.Routes.{Route, RouteEdge, Routes, edge_by}
use Rattle.plan_flow.specs.declared.edge.EdgeKind.{EdgeKind}
use Rattle.plan_flow.specs.declared.edge.EdgeKind.TheVariants as edges
use Rattle.virtual_state.specs.Laws.Removals.{without_none}
use Rattle.virtual_state.specs.Sites.{has}
use Rattle.virtual_state.specs.States.{State}
use Rattle.virtual_state.specs.Without.{without}
use Rattle.written_types.proofs.FinishedBlocks.{Between, FinishedAt, InFirst, OfPoint, finished_at, in_none, in_one, in_two, of_some_point}
use Rattle.written_types.proofs.Given.{AtInstruction, ComesNext, EdgeTarget, EdgesFit, Given}
use Rattle.written_types.proofs.RouteEdges.{edge_comes, edge_number, next_to}
use Rattle.written_types.specs.Writing.{Writing}

-- ---- what comes next

pub comes_first : (flat : FlatCode) (behind : List Finished) (right more : List Block) (block : Block)
    → behind ≡ finish flat right
    → right ≡ block ∷ more
    → ComesNext behind block.at block.state
comes_first flat behind right more block is first = record {
  next = record { block = block; end = end_of flat block (finish flat more) };
  others = finish flat more;
  is = is ∙ ap (finish flat) first;
  begins = record { is_at = refl; is_state = refl };
}

-- the first block of a point begins in the state with which control comes there
pub first_at : (s : PlanScope) (at : ℕ) (point : Point) (route : Route) (made : List ℕ) → (first_block s at point route made).at ≡ at
first_at s at point route [] = refl
first_at s at point route (site ∷ sites) = refl

pub first_state : (s : PlanScope) (at : ℕ) (point : Point) (route : Route) (made : List ℕ) → route.made ≡ made
    → (first_block s at point route made).state ≡ route.state
first_state s at point route [] is =
    ap (λ (made : List ℕ). without route.state (has made)) is ∙ without_none route.state (has []) (λ site. refl)
first_state s at point route (site ∷ sites) is = refl

pub comes_to_point : (s : PlanScope) (behind : List Finished) (right more : List Block) (at : ℕ) (point : Point) (route : Route)
    → behind ≡ finish s.flat right
    → right ≡ first_block s at point route route.made ∷ more
    → ComesNext behind at route.state
comes_to_point s behind right more at point route is first =
    subst (λ (n : ℕ). ComesNext behind n route.state) (first_at s at point route route.made)
    (subst (λ (state : State). ComesNext behind (first_block s at point route route.made).at state)
    (first_state s at point route route.made refl)
    (comes_first s.flat behind right more (first_block s at point route route.made) is first))

-- ---- kinds of blocks

-- a pad
abbrev pub IsPad : BlockOf → Type 0
IsPad (jump_pad at number) = Unit {0}
IsPad (handler_pad at number) = Unit {0}
IsPad other = ⊥

-- the make code before the instruction of a point
abbrev pub made_before : PlanScope → ℕ → Route → Block
made_before s at route = record {
  of = before_point at;
  at = at;
  state = route.state;
  items = making s at route.state route.made route.order;
  leaves = None;
}

-- what is made of the points behind one
abbrev pub blocks_after : PlanScope → Routes → ℕ → List Block
blocks_after s routes at = of_reached (point_blocks s) (suc at) (drop (suc at) s.flat.points) (drop (suc at) routes)

-- no block behind begins a point
pub record PadsBehind (s : PlanScope) (behind : List Finished) : Type 0 where
  pub right : List Block
  pub is : behind ≡ finish s.flat right
  pub none : (to : ℕ) → AreNone (begins_point to) right

pub data BlockKind (w : Writing) (given : Given w) (one : Finished) (behind : List Finished) : Type 0 where
  makes_before_point : (at : ℕ) (point : Point) (route : Route)
      → point_at w.s.flat at ≡ Some point
      → slice_get given.setting.routes at ≡ Some (Some route)
      → one.block ≡ made_before w.s at route
      → ComesNext behind at (state_written route)
      → BlockKind w given one behind
  of_instruction : (at : ℕ) (point : Point) (route : Route)
      → AtInstruction w given at point route one behind
      → behind ≡ finish w.s.flat
      ((next_block w.s at (edge_by route edges.Next) ++ blocks_after w.s given.setting.routes at) ++ pads_of w.s given.setting.routes)
      → BlockKind w given one behind
  makes_on_next : (at number : ℕ) (point : Point) (route : Route) (edge : RouteEdge)
      → point_at w.s.flat at ≡ Some point
      → slice_get given.setting.routes at ≡ Some (Some route)
      → slice_get route.edges number ≡ Some edge
      → one.block ≡ made_next w.s at edge edge.made
      → ComesNext behind edge.to (without edge.state (has edge.made))
      → BlockKind w given one behind
  of_pad : (at number : ℕ) (point : Point) (route : Route) (edge : RouteEdge) (of : BlockOf)
      → point_at w.s.flat at ≡ Some point
      → slice_get given.setting.routes at ≡ Some (Some route)
      → slice_get route.edges number ≡ Some edge
      → IsPad of
      → one.block ≡ pad_block w.s of edge edge.made
      → PadsBehind w.s behind
      → BlockKind w given one behind

-- ---- pads

-- one of what is made of the items of a list is one of an item's
record OfItem {A B : Type 0} (of : A → List B) (items : List A) (block : B) : Type 0 where
  number : ℕ
  item : A
  there : slice_get items number ≡ Some item
  right : List B
  between : Between (of item) block right

of_some_item : {A B : Type 0} (of : A → List B) (items : List A) (block : B) (left right : List B) → flat_map of items ≡ left ++ (block ∷ right)
    → OfItem of items block
of_some_item of [] block left right is = absurd (in_none block left right is)
of_some_item {A} {B} of (item ∷ items) block left right is =
    by (in_two (of item) (flat_map of items) left right block is) (λ more same. of_some_item of items block more right same) where
      by : InFirst (of item) (flat_map of items) block right ⊎ Between (flat_map of items) block right
          → ((more : List B) → flat_map of items ≡ more ++ (block ∷ right) → OfItem of items block)
          → OfItem of (item ∷ items) block
      by (inl here) below = record { number = 0; item = item; there = refl; right = here.middle; between = here.between }
      by (inr later) below =
          let rest = below later.left later.is in
          record { number = suc rest.number; item = rest.item; there = rest.there; right = rest.right; between = rest.between }

-- a block of make code, if one is made
record MadeBlock (s : PlanScope) (of : BlockOf) (at : ℕ) (state : State) (made order : List ℕ) (leaves : Option ℕ) (block : Block) (right : List Block)
    : Type 0 where
  is : block ≡ record { of = of; at = at; state = state; items = making s at state made order; leaves = leaves }
  last : right ≡ []

made_block : (s : PlanScope) (of : BlockOf) (at : ℕ) (state : State) (made order : List ℕ) (leaves : Option ℕ) (block : Block) (right : List Block)
    → Between (make_block s of at state made order leaves) block right
    → MadeBlock s of at state made order leaves block right
made_block s of at state [] order leaves block right between = absurd (in_none block between.left right between.is)
made_block s of at state (site ∷ sites) order leaves block right between =
    let both = in_one _ block between.left right between.is in
    record { is = both.0; last = both.1 }

-- pads begin no point
none_made : (s : PlanScope) (to : ℕ) (of : BlockOf) (edge : RouteEdge) (made : List ℕ) (leaves : Option ℕ) → begins_point to of ≡ false
    → AreNone (begins_point to) (make_block s of edge.to edge.state made edge.order leaves)
none_made s to of edge [] leaves none = tt
none_made s to of edge (site ∷ sites) leaves none = (none, tt)

none_of_edges : (is_it : BlockOf → Bool) (pad_of : RouteEdge → List Block) (all : List RouteEdge)
    → ((edge : RouteEdge) → AreNone is_it (pad_of edge))
    → AreNone is_it (flat_map pad_of all)
none_of_edges is_it pad_of [] each = tt
none_of_edges is_it pad_of (edge ∷ others) each =
    holds_of_both (λ block. is_it block.of ≡ false) (pad_of edge) (flat_map pad_of others) (each edge) (none_of_edges is_it pad_of others each)

pub none_in_jumps : (s : PlanScope) (to : ℕ) (points : List Point) (routes : Routes)
    → AreNone (begins_point to) (of_reached (jump_pads s) 0 points routes)
none_in_jumps s to points routes =
    none_of_reached (begins_point to) (jump_pads s) 0 points routes (λ at point route low.
    none_of_edges (begins_point to) (λ edge. jump_pad_of s at (is_decided point route) edge edge.by) route.edges
    (λ edge. of_kind at edge (is_decided point route) edge.by)) where
      of_kind : (at : ℕ) (edge : RouteEdge) (decided : Bool) (by : EdgeKind) → AreNone (begins_point to) (jump_pad_of s at decided edge by)
      of_kind at edge false (edges.Jump one) = none_made s to (jump_pad at one) edge edge.made (Some edge.to) refl
      of_kind at edge true (edges.Jump one) = tt
      of_kind at edge false edges.Next = tt
      of_kind at edge true edges.Next = tt
      of_kind at edge false (edges.Handler one) = tt
      of_kind at edge true (edges.Handler one) = tt

pub none_in_handlers : (s : PlanScope) (to : ℕ) (points : List Point) (routes : Routes)
    → AreNone (begins_point to) (of_reached (handler_pads s) 0 points routes)
none_in_handlers s to points routes =
    none_of_reached (begins_point to) (handler_pads s) 0 points routes (λ at point route low.
    none_of_edges (begins_point to) (λ edge. handler_pad_of s at edge edge.by) route.edges (λ edge. of_kind at edge edge.by)) where
      of_kind : (at : ℕ) (edge : RouteEdge) (by : EdgeKind) → AreNone (begins_point to) (handler_pad_of s at edge by)
      of_kind at edge (edges.Handler one) = none_made s to (handler_pad at one) edge edge.made (Some edge.to) refl
      of_kind at edge edges.Next = tt
      of_kind at edge (edges.Jump one) = tt

none_behind : (is_it : BlockOf → Bool) (all left right : List Block) (block : Block) → all ≡ left ++ (block ∷ right) → AreNone is_it all
    → AreNone is_it right
none_behind is_it all left right block is none = of_left left (subst (AreNone is_it) is none) where
  of_left : (left : List Block) → AreNone is_it (left ++ (block ∷ right)) → AreNone is_it right
  of_left [] all = all.1
  of_left (first ∷ left) all = of_left left all.1

module _ (w : Writing) (given : Given w) (fit : EdgesFit w given) where
  abbrev routes : Routes
  routes = given.setting.routes

  -- ---- blocks of pads

  of_jump_pad : (one : Finished) (behind : List Finished) (right : List Block)
      → OfPoint (jump_pads w.s) 0 w.s.flat.points routes one.block right
      → PadsBehind w.s behind
      → BlockKind w given one behind
  of_jump_pad one behind right p rest =
      of_edge (of_some_item (λ (edge : RouteEdge). jump_pad_of w.s (0 + p.at) (is_decided p.point p.route) edge edge.by) p.route.edges one.block
      p.between.left p.middle p.between.is) where
        of_kind : (number : ℕ) (edge : RouteEdge) (right : List Block) (decided : Bool) (by : EdgeKind)
            → slice_get p.route.edges number ≡ Some edge
            → Between (jump_pad_of w.s (0 + p.at) decided edge by) one.block right
            → BlockKind w given one behind
        of_kind number edge right false (edges.Jump target) is between =
            of_pad p.at number p.point p.route edge (jump_pad (0 + p.at) target) p.there p.is_route is tt
            (made_block w.s (jump_pad (0 + p.at) target) edge.to edge.state edge.made edge.order (Some edge.to) one.block right between).is rest
        of_kind number edge right true (edges.Jump target) is between = absurd (in_none one.block between.left right between.is)
        of_kind number edge right false edges.Next is between = absurd (in_none one.block between.left right between.is)
        of_kind number edge right true edges.Next is between = absurd (in_none one.block between.left right between.is)
        of_kind number edge right false (edges.Handler handler) is between = absurd (in_none one.block between.left right between.is)
        of_kind number edge right true (edges.Handler handler) is between = absurd (in_none one.block between.left right between.is)

        of_edge : OfItem (λ (edge : RouteEdge). jump_pad_of w.s (0 + p.at) (is_decided p.point p.route) edge edge.by) p.route.edges one.block
            → BlockKind w given one behind
        of_edge e = of_kind e.number e.item e.right (is_decided p.point p.route) e.item.by e.there e.between

  of_handler_pad : (one : Finished) (behind : List Finished) (right : List Block)
      → OfPoint (handler_pads w.s) 0 w.s.flat.points routes one.block right
      → PadsBehind w.s behind
      → BlockKind w given one behind
  of_handler_pad one behind right p rest =
      of_edge (of_some_item (λ (edge : RouteEdge). handler_pad_of w.s (0 + p.at) edge edge.by) p.route.edges one.block p.between.left p.middle
      p.between.is) where
        of_kind : (number : ℕ) (edge : RouteEdge) (right : List Block) (by : EdgeKind)
            → slice_get p.route.edges number ≡ Some edge
            → Between (handler_pad_of w.s (0 + p.at) edge by) one.block right
            → BlockKind w given one behind
        of_kind number edge right (edges.Handler handler) is between =
            of_pad p.at number p.point p.route edge (handler_pad (0 + p.at) handler) p.there p.is_route is tt
            (made_block w.s (handler_pad (0 + p.at) handler) edge.to edge.state edge.made edge.order (Some edge.to) one.block right between).is rest
        of_kind number edge right edges.Next is between = absurd (in_none one.block between.left right between.is)
        of_kind number edge right (edges.Jump target) is between = absurd (in_none one.block between.left right between.is)

        of_edge : OfItem (λ (edge : RouteEdge). handler_pad_of w.s (0 + p.at) edge edge.by) p.route.edges one.block → BlockKind w given one behind
        of_edge e = of_kind e.number e.item e.right e.item.by e.there e.between

  -- ---- blocks of a point

  abbrev points_behind : ℕ → List Block
  points_behind at = blocks_after w.s routes at

  -- where control goes on to the next point, its first block comes first behind the blocks of a point
  next_point : (at : ℕ) (edge : RouteEdge) (behind : List Finished) (pads : List Block)
      → edge.to ≡ suc at
      → EdgeTarget w given edge
      → behind ≡ finish w.s.flat (points_behind at ++ pads)
      → ComesNext behind edge.to (without edge.state (has edge.made))
  next_point at edge behind pads to leads is = by (point_at w.s.flat (suc at)) refl where
    route : Route
    route = leads.target

    is_route : slice_get routes (suc at) ≡ Some (Some route)
    is_route = ap (slice_get routes) (sym to) ∙ leads.is_route

    by : (found : Option Point) → point_at w.s.flat (suc at) ≡ found → ComesNext behind edge.to (without edge.state (has edge.made))
    by None none = absurd (none-some _ (sym none ∙ ap (λ (n : ℕ). point_at w.s.flat n) (sym to) ∙ leads.can_make.fits.there))
    by (Some point) there =
        subst (ComesNext behind edge.to) leads.left
        (subst (λ (n : ℕ). ComesNext behind n route.state) (sym to)
        (comes_to_point w.s behind (points_behind at ++ pads) _ (suc at) point route is
        (ap (λ (blocks : List Block). blocks ++ pads)
        (next_part (point_blocks w.s) (suc at) (suc at) w.s.flat.points routes point route there is_route
        ∙ ap (λ (blocks : List Block). blocks ++ of_reached (point_blocks w.s) (suc (suc at)) (drop (suc (suc at)) w.s.flat.points)
        (drop (suc (suc at)) routes)) (begins_with_first w.s (suc at) point route)))))

  next_is_next : (at : ℕ) (point : Point) (route : Route) (edge : RouteEdge)
      → point_at w.s.flat at ≡ Some point
      → slice_get routes at ≡ Some (Some route)
      → edge_by route edges.Next ≡ Some edge
      → edge.to ≡ suc at
  next_is_next at point route edge there is_route found =
      let n = edge_number w given route edges.Next edge found in
      next_to w at point route edge (edge_comes w given at n.0 point route edge there is_route n.1) n.2

  -- behind the instruction, on the edge to the next point
  next_comes : (at : ℕ) (point : Point) (route : Route) (edge : RouteEdge) (behind : List Finished) (pads : List Block)
      → point_at w.s.flat at ≡ Some point
      → slice_get routes at ≡ Some (Some route)
      → edge_by route edges.Next ≡ Some edge
      → behind ≡ finish w.s.flat ((next_block w.s at (Some edge) ++ points_behind at) ++ pads)
      → ComesNext behind edge.to edge.state
  next_comes at point route edge behind pads there is_route found is = by edge.made refl where
    by : (made : List ℕ) → edge.made ≡ made → ComesNext behind edge.to edge.state
    by [] none =
        subst (ComesNext behind edge.to)
        (ap (λ (made : List ℕ). without edge.state (has made)) none ∙ without_none edge.state (has []) (λ site. refl))
        (next_point at edge behind pads (next_is_next at point route edge there is_route found)
        (fit.target at point route edges.Next edge there is_route found)
        (is ∙ ap (λ (made : List ℕ). finish w.s.flat ((make_block w.s (on_next_edge at) edge.to edge.state made edge.order None ++ points_behind at) ++ pads))
        none))
    by (site ∷ sites) some =
        comes_first w.s.flat behind _ (points_behind at ++ pads) (made_next w.s at edge (site ∷ sites)) is
        (ap (λ (made : List ℕ). (make_block w.s (on_next_edge at) edge.to edge.state made edge.order None ++ points_behind at) ++ pads) some)

  abbrev pads : List Block
  pads = pads_of w.s routes

  of_own : (one : Finished) (behind : List Finished) (right : List Block)
      → OfPoint (point_blocks w.s) 0 w.s.flat.points routes one.block right
      → behind ≡ finish w.s.flat (right ++ pads)
      → BlockKind w given one behind
  of_own one behind right p is =
      of_two (in_two (before ++ (own ∷ [])) next between.left p.middle one.block between.is) where
        number : 0 + p.at ≡ p.at
        number = omega arith

        before : List Block
        before = make_block w.s (before_point p.at) p.at p.route.state p.route.made p.route.order None

        own : Block
        own = instruction_block w.s p.at p.point p.route

        next : List Block
        next = next_block w.s p.at (edge_by p.route edges.Next)

        between : Between (point_blocks w.s p.at p.point p.route) one.block p.middle
        between = subst (λ (n : ℕ). Between (point_blocks w.s n p.point p.route) one.block p.middle) number p.between

        behind_is : behind ≡ finish w.s.flat ((p.middle ++ points_behind p.at) ++ pads)
        behind_is =
            is ∙ ap (λ (blocks : List Block). finish w.s.flat (blocks ++ pads))
            (p.is
            ∙ ap (λ (n : ℕ). p.middle ++ of_reached (point_blocks w.s) n (drop (suc p.at) w.s.flat.points) (drop (suc p.at) routes))
            (the_same (0 + suc p.at) (suc p.at) (omega arith)))
          where
            the_same : (a b : ℕ) → a ≡ b → a ≡ b
            the_same a b e = e

        with_middle : (middle : List Block) → p.middle ≡ middle → behind ≡ finish w.s.flat ((middle ++ points_behind p.at) ++ pads)
        with_middle middle same =
            behind_is ∙ ap (λ (blocks : List Block). finish w.s.flat ((blocks ++ points_behind p.at) ++ pads)) same

        of_before : (m : List Block) → p.middle ≡ m ++ next → InFirst before (own ∷ []) one.block m → BlockKind w given one behind
        of_before m middle here =
            let made = made_block w.s (before_point p.at) p.at p.route.state p.route.made p.route.order None one.block here.middle here.between in
            let all : p.middle ≡ own ∷ next =
            middle ∙ ap (λ (blocks : List Block). blocks ++ next) (here.is ∙ ap (λ (blocks : List Block). blocks ++ (own ∷ [])) made.last) in
            makes_before_point p.at p.point p.route p.there p.is_route made.is
            (comes_first w.s.flat behind _ ((next ++ points_behind p.at) ++ pads) own (with_middle (own ∷ next) all) refl)

        of_it : (m : List Block) → p.middle ≡ m ++ next → Between (own ∷ []) one.block m → BlockKind w given one behind
        of_it m middle here =
            let both = in_one own one.block here.left m here.is in
            let all : p.middle ≡ next = middle ∙ ap (λ (blocks : List Block). blocks ++ next) both.1 in
            of_instruction p.at p.point p.route (record {
              there = p.there;
              is_route = p.is_route;
              is_block = both.0;
              next = λ edge found.
                  next_comes p.at p.point p.route edge behind pads p.there p.is_route found
                  (with_middle (next_block w.s p.at (Some edge)) (all ∙ ap (next_block w.s p.at) found));
            }) (with_middle next all)

        of_next : (found : Option RouteEdge) → edge_by p.route edges.Next ≡ found → Between (next_block w.s p.at found) one.block p.middle
            → BlockKind w given one behind
        of_next None none here = absurd (in_none one.block here.left p.middle here.is)
        of_next (Some edge) found here =
            let made = made_block w.s (on_next_edge p.at) edge.to edge.state edge.made edge.order None one.block p.middle here in
            let n = edge_number w given p.route edges.Next edge found in
            makes_on_next p.at n.0 p.point p.route edge p.there p.is_route n.1 made.is
            (next_point p.at edge behind pads (next_is_next p.at p.point p.route edge p.there p.is_route found)
            (fit.target p.at p.point p.route edges.Next edge p.there p.is_route found) (with_middle [] made.last))

        of_first : (m : List Block) → p.middle ≡ m ++ next → InFirst before (own ∷ []) one.block m ⊎ Between (own ∷ []) one.block m
            → BlockKind w given one behind
        of_first m middle (inl here) = of_before m middle here
        of_first m middle (inr here) = of_it m middle here

        of_two : InFirst (before ++ (own ∷ [])) next one.block p.middle ⊎ Between next one.block p.middle → BlockKind w given one behind
        of_two (inl here) =
            of_first here.middle here.is (in_two before (own ∷ []) here.between.left here.middle one.block here.between.is)
        of_two (inr here) = of_next (edge_by p.route edges.Next) refl here

  -- ---- all

  pub finished : (front behind : List Finished) (one : Finished)
      → w.blocks ≡ front ++ (one ∷ behind)
      → FinishedAt w.s.flat (blocks_of w.s routes) one behind
  finished front behind one is = finished_at w.s.flat (blocks_of w.s routes) front behind one (sym given.setting.blocks ∙ is)

  -- Each block is of some kind.
  pub kind_of_block : (front behind : List Finished) (one : Finished)
      → w.blocks ≡ front ++ (one ∷ behind)
      → BlockKind w given one behind
  kind_of_block front behind one is =
      of_all (in_two (points ++ jumps) handlers f.between.left f.right one.block f.between.is) where
        f : FinishedAt w.s.flat (blocks_of w.s routes) one behind
        f = finished front behind one is

        points : List Block
        points = of_reached (point_blocks w.s) 0 w.s.flat.points routes

        jumps : List Block
        jumps = of_reached (jump_pads w.s) 0 w.s.flat.points routes

        handlers : List Block
        handlers = of_reached (handler_pads w.s) 0 w.s.flat.points routes

        of_two : (m : List Block) → f.right ≡ m ++ handlers → InFirst points jumps one.block m ⊎ Between jumps one.block m → BlockKind w given one behind
        of_two m right (inl here) =
            of_own one behind here.middle
            (of_some_point (point_blocks w.s) 0 w.s.flat.points routes one.block here.between.left here.middle here.between.is)
            (f.behind_is
            ∙ ap (finish w.s.flat)
            (right ∙ ap (λ (blocks : List Block). blocks ++ handlers) here.is ∙ append_assoc here.middle jumps handlers))
        of_two m right (inr here) =
            of_jump_pad one behind m (of_some_point (jump_pads w.s) 0 w.s.flat.points routes one.block here.left m here.is) (record {
              right = f.right;
              is = f.behind_is;
              none = λ to.
                  subst (AreNone (begins_point to)) (sym right)
                  (holds_of_both (λ block. begins_point to block.of ≡ false) m handlers
                  (none_behind (begins_point to) jumps here.left m one.block here.is (none_in_jumps w.s to w.s.flat.points routes))
                  (none_in_handlers w.s to w.s.flat.points routes));
            })

        of_all : InFirst (points ++ jumps) handlers one.block f.right ⊎ Between handlers one.block f.right → BlockKind w given one behind
        of_all (inl here) =
            of_two here.middle here.is (in_two points jumps here.between.left here.middle one.block here.between.is)
        of_all (inr here) =
            of_handler_pad one behind f.right (of_some_point (handler_pads w.s) 0 w.s.flat.points routes one.block here.left f.right here.is)
            (record {
              right = f.right;
              is = f.behind_is;
              none = λ to.
                  none_behind (begins_point to) handlers here.left f.right one.block here.is (none_in_handlers w.s to w.s.flat.points routes);
            })
