-- Make code on the edge to the next point begins at that point.
use Rattle.std.proofs.Common.{◌≡◌, ◌+◌, ℕ, zero, suc, Bool, true, false, List, [], ◌∷◌, ◌++◌, slice_get, Option, Some, None, refl, sym, ap, subst, ◌∙◌, arith}
use Rattle.std.specs.List.{AllByRecursion, flat_map}
use Rattle.flow_code.specs.FlatCode.{point_at}
use Rattle.flow_code.specs.declared.point.Point.{Point}
use Rattle.plan_flow.specs.Laws.WrittenBlocks.{before_blocks, finished_block}
use Rattle.plan_flow.specs.PlanScope.{PlanScope}
use Rattle.plan_flow.specs.Written.Blocks.{Block, BlockOf, before_point, blocks_of, handler_pad, handler_pad_of, handler_pads, instruction_block, is_decided, jump_pad, jump_pad_of, jump_pads, make_block, next_block, of_reached, on_next_edge, point_blocks}
use Rattle.plan_flow.specs.Written.Finish.{Finished}
use Rattle.plan_flow.specs.Written.Routes.{Route, RouteEdge, Routes, edge_by}
use Rattle.plan_flow.specs.declared.edge.EdgeKind.{EdgeKind}
use Rattle.plan_flow.specs.declared.edge.EdgeKind.TheVariants as edges
use Rattle.virtual_state.specs.States.{State}
use Rattle.written_types.proofs.Given.{Given}
use Rattle.written_types.proofs.RouteEdges.{edge_comes, edge_number, next_to}
use Rattle.written_types.proofs.Standing.{all_at, all_joined}
use Rattle.written_types.specs.Writing.{Writing}

-- what is made of each point that is there
each_there : (P : Block → Type 0) (blocks : ℕ → Point → Route → List Block) (from : ℕ) (points : List Point) (routes : Routes)
    → ((number : ℕ) (point : Point) (route : Route)
    → slice_get points number ≡ Some point
    → slice_get routes number ≡ Some (Some route)
    → AllByRecursion P (blocks (from + number) point route))
    → AllByRecursion P (of_reached blocks from points routes)
each_there P blocks from [] routes each = tt
each_there P blocks from (point ∷ points) [] each = tt
each_there P blocks from (point ∷ points) (None ∷ routes) each =
    each_there P blocks (suc from) points routes (λ number other route there is_route.
    subst (λ (n : ℕ). AllByRecursion P (blocks n other route)) (let same : from + suc number ≡ suc from + number = omega arith in same)
    (each (suc number) other route there is_route))
each_there P blocks from (point ∷ points) (Some first ∷ routes) each =
    all_joined P (blocks from point first) (of_reached blocks (suc from) points routes)
    (subst (λ (n : ℕ). AllByRecursion P (blocks n point first)) (let same : from + zero ≡ from = omega arith in same) (each zero point first refl refl))
    (each_there P blocks (suc from) points routes (λ number other route there is_route.
    subst (λ (n : ℕ). AllByRecursion P (blocks n other route)) (let same : from + suc number ≡ suc from + number = omega arith in same)
    (each (suc number) other route there is_route)))

each_edge : (P : Block → Type 0) (pad_of : RouteEdge → List Block) → ((edge : RouteEdge) → AllByRecursion P (pad_of edge)) → (all : List RouteEdge)
    → AllByRecursion P (flat_map pad_of all)
each_edge P pad_of each [] = tt
each_edge P pad_of each (edge ∷ others) = all_joined P (pad_of edge) (flat_map pad_of others) (each edge) (each_edge P pad_of each others)

-- a block of make code on the edge to the next point begins there
abbrev pub ToNext : BlockOf → ℕ → Type 0
ToNext (on_next_edge at) to = to ≡ suc at
ToNext other to = Unit {0}

abbrev Goes : Block → Type 0
Goes block = ToNext block.of block.at

made_goes : (s : PlanScope) (of : BlockOf) (at : ℕ) (state : State) (made order : List ℕ) (leaves : Option ℕ) → ToNext of at
    → AllByRecursion Goes (make_block s of at state made order leaves)
made_goes s of at state [] order leaves goes = tt
made_goes s of at state (site ∷ sites) order leaves goes = (goes, tt)

jump_goes : (s : PlanScope) (at : ℕ) (edge : RouteEdge) (decided : Bool) (by : EdgeKind) → AllByRecursion Goes (jump_pad_of s at decided edge by)
jump_goes s at edge false (edges.Jump number) = made_goes s (jump_pad at number) edge.to edge.state edge.made edge.order (Some edge.to) tt
jump_goes s at edge true (edges.Jump number) = tt
jump_goes s at edge false edges.Next = tt
jump_goes s at edge true edges.Next = tt
jump_goes s at edge false (edges.Handler number) = tt
jump_goes s at edge true (edges.Handler number) = tt

handler_goes : (s : PlanScope) (at : ℕ) (edge : RouteEdge) (by : EdgeKind) → AllByRecursion Goes (handler_pad_of s at edge by)
handler_goes s at edge (edges.Handler number) = made_goes s (handler_pad at number) edge.to edge.state edge.made edge.order (Some edge.to) tt
handler_goes s at edge edges.Next = tt
handler_goes s at edge (edges.Jump number) = tt

module _ (w : Writing) (given : Given w) where
  abbrev routes : Routes
  routes = given.setting.routes

  own_go : (at : ℕ) (point : Point) (route : Route) → point_at w.s.flat at ≡ Some point → slice_get routes at ≡ Some (Some route)
      → AllByRecursion Goes (point_blocks w.s at point route)
  own_go at point route there is_route =
      all_joined Goes (before_blocks w.s at route ++ (instruction_block w.s at point route ∷ [])) (next_block w.s at (edge_by route edges.Next))
      (all_joined Goes (before_blocks w.s at route) (instruction_block w.s at point route ∷ [])
      (made_goes w.s (before_point at) at route.state route.made route.order None tt) (tt, tt))
      (by (edge_by route edges.Next) refl) where
        by : (found : Option RouteEdge) → edge_by route edges.Next ≡ found → AllByRecursion Goes (next_block w.s at found)
        by None none = tt
        by (Some edge) found =
            let n = edge_number w given route edges.Next edge found in
            made_goes w.s (on_next_edge at) edge.to edge.state edge.made edge.order None
            (next_to w at point route edge (edge_comes w given at n.0 point route edge there is_route n.1) n.2)

  all_go : AllByRecursion Goes (blocks_of w.s routes)
  all_go =
      all_joined Goes (of_reached (point_blocks w.s) 0 w.s.flat.points routes ++ of_reached (jump_pads w.s) 0 w.s.flat.points routes)
      (of_reached (handler_pads w.s) 0 w.s.flat.points routes)
      (all_joined Goes (of_reached (point_blocks w.s) 0 w.s.flat.points routes) (of_reached (jump_pads w.s) 0 w.s.flat.points routes)
      (each_there Goes (point_blocks w.s) 0 w.s.flat.points routes (λ number point route there is_route.
      subst (λ (n : ℕ). AllByRecursion Goes (point_blocks w.s n point route)) (let same : number ≡ 0 + number = omega arith in same)
      (own_go number point route there is_route)))
      (each_there Goes (jump_pads w.s) 0 w.s.flat.points routes (λ number point route there is_route.
      each_edge Goes (λ edge. jump_pad_of w.s (0 + number) (is_decided point route) edge edge.by)
      (λ edge. jump_goes w.s (0 + number) edge (is_decided point route) edge.by) route.edges)))
      (each_there Goes (handler_pads w.s) 0 w.s.flat.points routes (λ number point route there is_route.
      each_edge Goes (λ edge. handler_pad_of w.s (0 + number) edge edge.by) (λ edge. handler_goes w.s (0 + number) edge edge.by) route.edges))

  pub begins_next : (number : ℕ) (one : Finished) → slice_get w.blocks number ≡ Some one → ToNext one.block.of one.block.at
  begins_next number one is =
      all_at Goes (blocks_of w.s routes) number one.block all_go
      (finished_block w.s.flat (blocks_of w.s routes) number one (ap (λ (all : List Finished). slice_get all number) (sym given.setting.blocks) ∙ is))
