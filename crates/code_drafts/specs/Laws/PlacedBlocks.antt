-- The blocks of a plan's code, in order, make the objects and enter the monitors of its routes.
use Rattle.std.proofs.Common.{if◌then◌else◌, ◌≡◌, ◌+◌, ℕ, zero, suc, Bool, true, false, List, [], ◌∷◌, ◌++◌, slice_get, flat_map, find, Option, Some, None, refl, sym, ap, subst, ◌∙◌, arith}
use Rattle.std.proofs.lemmas.Bool.{false≢true}
use Rattle.std.proofs.lemmas.Grind.{flat_map-append}
use Rattle.std.proofs.lemmas.List.{append-nil, append_assoc}
use Rattle.std.proofs.lemmas.Option.{none-some, same_Some}
use Rattle.code_drafts.specs.ItemPlaces.{Naming, own_places, places_by, point_places_by}
use Rattle.code_drafts.specs.Laws.ReachedStarts.{finished}
use Rattle.code_drafts.specs.Laws.WrittenPlaces.{instruction_places, making_places, named_by, own_said, witem_places}
use Rattle.flow_code.specs.declared.point.Point.{Point}
use Rattle.making_code.specs.Items.{WItem}
use Rattle.making_code.specs.MakeOrder.{IsMakeOrder, all_made, one_next}
use Rattle.plan_flow.specs.Laws.RoutedPlans.{route_of}
use Rattle.plan_flow.specs.PlanScope.{PlanScope}
use Rattle.plan_flow.specs.Plans.{MadeEdge, Plan}
use Rattle.plan_flow.specs.Written.Blocks.{Block, BlockOf, before_point, blocks_of, handler_pad, handler_pad_of, handler_pads, instruction_block, is_decided, jump_pad, jump_pad_of, jump_pads, make_block, making, next_block, of_reached, on_next_edge, point_blocks, state_written}
use Rattle.plan_flow.specs.Written.Finish.{End, end_items, end_of, finish, goto_end, no_end, nop_end}
use Rattle.plan_flow.specs.Written.Places.{Place, edge_places, handler_pad_places, handler_places, instr_places, jump_pad_places, jump_places, made_places, places_of, point_places}
use Rattle.plan_flow.specs.Written.Places as places
use Rattle.plan_flow.specs.Written.Routes.{AreEdgeRoutes, IsRouted, Route, RouteEdge, Routes, edge_by, is_kind}
use Rattle.plan_flow.specs.Written.WrittenCode.{short, written_items}
use Rattle.plan_flow.specs.declared.edge.Edge.{Edge}
use Rattle.plan_flow.specs.declared.edge.EdgeKind.{EdgeKind}
use Rattle.plan_flow.specs.declared.edge.EdgeKind.TheVariants as edges
use Rattle.virtual_state.specs.States.{State}
use Rattle.virtual_state.specs.declared.slot.VObject.{VObject}

-- ---- orders

-- where nothing is made, there is no order
abbrev IsOrdered : List ℕ → List ℕ → Type 0
IsOrdered made order = made ≡ [] → order ≡ []

ordered : (objects : List VObject) (made order : List ℕ) → IsMakeOrder objects made order → IsOrdered made order
ordered objects made order is none = by made order none is where
  by : (left order : List ℕ) → left ≡ [] → IsMakeOrder objects left order → order ≡ []
  by [] [] none all_made = refl
  by [] (site ∷ order) none (one_next _ _ _ next more) = absurd (false≢true next.left_over)
  by (one ∷ left) order none made_also = absurd (cc none)

record IsOrderedRoute (route : Route) : Type 0 where
  own : IsOrdered route.made route.order
  each : (number : ℕ) (edge : RouteEdge) → slice_get route.edges number ≡ Some edge → IsOrdered edge.made edge.order

edges_ordered : (effect : List Edge) (plans : List MadeEdge) (all : List RouteEdge) → AreEdgeRoutes effect plans all
    → (number : ℕ) (edge : RouteEdge)
    → slice_get all number ≡ Some edge
    → IsOrdered edge.made edge.order
edges_ordered [] [] [] are number edge is = absurd (none-some edge is)
edges_ordered [] [] (one ∷ all) are number edge is = absurd are
edges_ordered [] (planned ∷ plans) all are number edge is = absurd are
edges_ordered (first ∷ effect) [] all are number edge is = absurd are
edges_ordered (first ∷ effect) (planned ∷ plans) [] are number edge is = absurd are
edges_ordered (first ∷ effect) (planned ∷ plans) (one ∷ all) are zero edge is =
    subst (λ (found : RouteEdge). IsOrdered found.made found.order) (same_Some one edge is)
    (λ none. ordered first.state.objects planned.made one.order are.0.order (sym are.0.made ∙ none))
edges_ordered (first ∷ effect) (planned ∷ plans) (one ∷ all) are (suc number) edge is = edges_ordered effect plans all are.1 number edge is

route_ordered : (s : PlanScope) (plan : Plan) (routes : Routes) (at : ℕ) (route : Route) → IsRouted s plan routes
    → slice_get routes at ≡ Some (Some route)
    → IsOrderedRoute route
route_ordered s plan routes at route routed is =
    let there = route_of s 0 plan routes at route routed is in record {
      own = λ none. ordered there.point.state.objects there.point.made route.order there.is.order (sym there.is.made ∙ none);
      each = edges_ordered there.is.effect there.point.edges route.edges there.is.edges;
    }

-- ---- blocks

abbrev block_places : Naming → List Block → List Place
block_places news blocks = flat_map (λ block. witem_places news block.items) blocks

blocks_both : (news : Naming) (left right : List Block) → block_places news (left ++ right) ≡ block_places news left ++ block_places news right
blocks_both news left right = flat_map-append (λ block. witem_places news block.items) left right

end_silent : (news : Naming) (end : End) → witem_places news (end_items end) ≡ []
end_silent news no_end = refl
end_silent news nop_end = refl
end_silent news (goto_end to) = refl

items_append : (news : Naming) (left right : List WItem) → witem_places news (left ++ right) ≡ witem_places news left ++ witem_places news right
items_append news left right = flat_map-append _ left right

-- finished, they make and enter the same
finished_places : (news : Naming) (s : PlanScope) (blocks : List Block)
    → witem_places news (written_items short (finish s.flat blocks)) ≡ block_places news blocks
finished_places news s [] = refl
finished_places news s (block ∷ blocks) =
    items_append news (block.items ++ end_items (end_of s.flat block (finish s.flat blocks))) (written_items short (finish s.flat blocks))
    ∙ ap (λ (first : List Place). first ++ witem_places news (written_items short (finish s.flat blocks)))
    (items_append news block.items (end_items (end_of s.flat block (finish s.flat blocks)))
    ∙ ap (λ (end : List Place). witem_places news block.items ++ end) (end_silent news (end_of s.flat block (finish s.flat blocks)))
    ∙ append-nil (witem_places news block.items))
    ∙ ap (λ (rest : List Place). witem_places news block.items ++ rest) (finished_places news s blocks)

made_block : (news : Naming) (s : PlanScope) (of : BlockOf) (at : ℕ) (state : State) (made order : List ℕ) (leaves : Option ℕ) → IsOrdered made order
    → block_places news (make_block s of at state made order leaves) ≡ made_places s state order
made_block news s of at state [] order leaves none = sym (ap (made_places s state) (none refl))
made_block news s of at state (site ∷ sites) order leaves none =
    append-nil (witem_places news (making s at state (site ∷ sites) order)) ∙ making_places news s at state (site ∷ sites) order

flat_same : {A : Type 0} (news : Naming) (of : A → List Block) (to : A → List Place) (items : List A)
    → ((number : ℕ) (one : A) → slice_get items number ≡ Some one → block_places news (of one) ≡ to one)
    → block_places news (flat_map of items) ≡ flat_map to items
flat_same news of to [] each = refl
flat_same news of to (one ∷ items) each =
    blocks_both news (of one) (flat_map of items)
    ∙ ap (λ (first : List Place). first ++ block_places news (flat_map of items)) (each 0 one refl)
    ∙ ap (λ (rest : List Place). to one ++ rest) (flat_same news of to items (λ number other is. each (suc number) other is))

reached_same : (news : Naming) (blocks : ℕ → Point → Route → List Block) (to : ℕ → Point → Route → List Place) (from : ℕ) (points : List Point)
    (routes : Routes)
    → ((number : ℕ) (point : Point) (route : Route) → slice_get routes number ≡ Some (Some route)
    → block_places news (blocks (from + number) point route) ≡ to (from + number) point route)
    → block_places news (of_reached blocks from points routes) ≡ places.of_reached to from points routes
reached_same news blocks to from [] routes each = refl
reached_same news blocks to from (point ∷ points) [] each = refl
reached_same news blocks to from (point ∷ points) (None ∷ routes) each =
    reached_same news blocks to (suc from) points routes (λ number one route is.
    subst (λ (n : ℕ). block_places news (blocks n one route) ≡ to n one route) (further number) (each (suc number) one route is)) where
      further : (n : ℕ) → from + suc n ≡ suc from + n
      further n = omega arith
reached_same news blocks to from (point ∷ points) (Some route ∷ routes) each =
    blocks_both news (blocks from point route) (of_reached blocks (suc from) points routes)
    ∙ ap (λ (first : List Place). first ++ block_places news (of_reached blocks (suc from) points routes))
    (subst (λ (n : ℕ). block_places news (blocks n point route) ≡ to n point route) (zeroth from) (each 0 point route refl))
    ∙ ap (λ (rest : List Place). to from point route ++ rest)
    (reached_same news blocks to (suc from) points routes (λ number one onwards is.
    subst (λ (n : ℕ). block_places news (blocks n one onwards) ≡ to n one onwards) (further number) (each (suc number) one onwards is))) where
      zeroth : (n : ℕ) → n + 0 ≡ n
      zeroth n = omega arith

      further : (n : ℕ) → from + suc n ≡ suc from + n
      further n = omega arith

-- ---- the blocks of a point

module _ (news : Naming) (s : PlanScope) (at : ℕ) (point : Point) (route : Route) (is : IsOrderedRoute route) where
  found_number : (wanted : RouteEdge → Bool) (all : List RouteEdge) (edge : RouteEdge) → find wanted all ≡ Some edge
      → (number : ℕ) × (slice_get all number ≡ Some edge)
  found_number wanted [] edge found = absurd (none-some edge found)
  found_number wanted (first ∷ all) edge found = by (wanted first) refl (found_number wanted all edge) where
    by : (here : Bool) → wanted first ≡ here
        → (find wanted all ≡ Some edge → (number : ℕ) × (slice_get all number ≡ Some edge))
        → (number : ℕ) × (slice_get (first ∷ all) number ≡ Some edge)
    by true told rest = (0, sym (rw (told) refl) ∙ found)
    by false told rest = let there = rest (sym (rw (told) refl) ∙ found) in (suc there.0, there.1)

  next_places : block_places news (next_block s at (edge_by route edges.Next)) ≡ edge_places s (edge_by route edges.Next)
  next_places = by (edge_by route edges.Next) refl where
    by : (edge : Option RouteEdge) → edge_by route edges.Next ≡ edge → block_places news (next_block s at edge) ≡ edge_places s edge
    by None none = refl
    by (Some edge) some =
        let there = found_number (λ one. is_kind one.by edges.Next) route.edges edge some in
        made_block news s (on_next_edge at) edge.to edge.state edge.made edge.order None (is.each there.0 edge there.1)

  point_same : block_places news (point_blocks s at point route) ≡ point_places_by news s at point route
  point_same =
      blocks_both news (make_block s (before_point at) at route.state route.made route.order None ++ (instruction_block s at point route ∷ []))
      (next_block s at (edge_by route edges.Next))
      ∙ ap (λ (first : List Place). first ++ block_places news (next_block s at (edge_by route edges.Next)))
      (blocks_both news (make_block s (before_point at) at route.state route.made route.order None) (instruction_block s at point route ∷ [])
      ∙ ap (λ (first : List Place). first ++ block_places news (instruction_block s at point route ∷ []))
      (made_block news s (before_point at) at route.state route.made route.order None is.own)
      ∙ ap (λ (own : List Place). made_places s route.state route.order ++ own)
      (append-nil (witem_places news (instruction_block s at point route).items) ∙ instruction_places news s at point route)
      ∙ sym (append_assoc (made_places s route.state route.order) (own_places news s at point (state_written route) point.instr)
      (if is_decided point route then edge_places s (edge_by route (edges.Jump 0)) else [])))
      ∙ ap (λ (last : List Place). (made_places s route.state route.order ++ own_places news s at point (state_written route) point.instr
      ++ (if is_decided point route then edge_places s (edge_by route (edges.Jump 0)) else [])) ++ last) next_places

  jumps_same : block_places news (jump_pads s at point route) ≡ jump_places s at point route
  jumps_same =
      flat_same news (λ edge. jump_pad_of s at (is_decided point route) edge edge.by)
      (λ edge. jump_pad_places s (is_decided point route) edge edge.by)
      route.edges (λ number edge found. by (is_decided point route) edge edge.by (is.each number edge found)) where
        by : (told : Bool) (edge : RouteEdge) (kind : EdgeKind) → IsOrdered edge.made edge.order
            → block_places news (jump_pad_of s at told edge kind) ≡ jump_pad_places s told edge kind
        by false edge (edges.Jump number) order = made_block news s (jump_pad at number) edge.to edge.state edge.made edge.order (Some edge.to) order
        by true edge (edges.Jump number) order = refl
        by false edge edges.Next order = refl
        by true edge edges.Next order = refl
        by false edge (edges.Handler number) order = refl
        by true edge (edges.Handler number) order = refl

  handlers_same : block_places news (handler_pads s at point route) ≡ handler_places s at point route
  handlers_same =
      flat_same news (λ edge. handler_pad_of s at edge edge.by) (λ edge. handler_pad_places s edge edge.by) route.edges
      (λ number edge found. by edge edge.by (is.each number edge found)) where
        by : (edge : RouteEdge) (kind : EdgeKind) → IsOrdered edge.made edge.order
            → block_places news (handler_pad_of s at edge kind) ≡ handler_pad_places s edge kind
        by edge (edges.Handler number) order = made_block news s (handler_pad at number) edge.to edge.state edge.made edge.order (Some edge.to) order
        by edge edges.Next order = refl
        by edge (edges.Jump number) order = refl

-- What written code makes and enters, in order, is what its routes say, whatever a new of the flat code names.
pub placed_by : (news : Naming) (s : PlanScope) (plan : Plan) (routes : Routes) → IsRouted s plan routes
    → witem_places news (written_items short (finished s routes)) ≡ places_by news s routes
placed_by news s plan routes routed =
    finished_places news s (blocks_of s routes)
    ∙ blocks_both news (of_reached (point_blocks s) 0 s.flat.points routes ++ of_reached (jump_pads s) 0 s.flat.points routes)
    (of_reached (handler_pads s) 0 s.flat.points routes)
    ∙ ap (λ (first : List Place). first ++ block_places news (of_reached (handler_pads s) 0 s.flat.points routes))
    (blocks_both news (of_reached (point_blocks s) 0 s.flat.points routes) (of_reached (jump_pads s) 0 s.flat.points routes)
    ∙ ap (λ (first : List Place). first ++ block_places news (of_reached (jump_pads s) 0 s.flat.points routes))
    (reached_same news (point_blocks s) (point_places_by news s) 0 s.flat.points routes
    (λ number point route is. point_same news s (0 + number) point route (there number route is)))
    ∙ ap (λ (last : List Place). places.of_reached (point_places_by news s) 0 s.flat.points routes ++ last)
    (reached_same news (jump_pads s) (jump_places s) 0 s.flat.points routes
    (λ number point route is. jumps_same news s (0 + number) point route (there number route is))))
    ∙ ap (λ (last : List Place). (places.of_reached (point_places_by news s) 0 s.flat.points routes ++ places.of_reached
    (jump_places s) 0 s.flat.points routes) ++ last)
    (reached_same news (handler_pads s) (handler_places s) 0 s.flat.points routes (λ number point route is.
    handlers_same news s (0 + number) point route (there number route is))) where
      there : (number : ℕ) (route : Route) → slice_get routes number ≡ Some (Some route) → IsOrderedRoute route
      there number route is = route_ordered s plan routes number route routed is

reached_alike : (one other : ℕ → Point → Route → List Place) → ((at : ℕ) (point : Point) (route : Route) → one at point route ≡ other at point route)
    → (from : ℕ) (points : List Point) (routes : Routes)
    → places.of_reached one from points routes ≡ places.of_reached other from points routes
reached_alike one other same from [] routes = refl
reached_alike one other same from (point ∷ points) [] = refl
reached_alike one other same from (point ∷ points) (None ∷ routes) = reached_alike one other same (suc from) points routes
reached_alike one other same from (point ∷ points) (Some route ∷ routes) =
    ap (λ (first : List Place). first ++ places.of_reached one (suc from) points routes) (same from point route)
    ∙ ap (λ (rest : List Place). other from point route ++ rest) (reached_alike one other same (suc from) points routes)

-- By what the constants of classes mean, these are the places of the plan.
pub written_places : (s : PlanScope) (plan : Plan) (routes : Routes) → IsRouted s plan routes
    → witem_places (named_by s) (written_items short (finished s routes)) ≡ places_of s routes
written_places s plan routes routed =
    placed_by (named_by s) s plan routes routed
    ∙ ap (λ (first : List Place). first ++ places.of_reached (jump_places s) 0 s.flat.points routes
    ++ places.of_reached (handler_places s) 0 s.flat.points routes)
    (reached_alike (point_places_by (named_by s) s) (point_places s) (λ at point route.
    ap (λ (own : List Place). made_places s route.state route.order ++ own
    ++ (if is_decided point route then edge_places s (edge_by route (edges.Jump 0)) else []) ++ edge_places s (edge_by route edges.Next))
    (own_said s at point (state_written route) point.instr)) 0 s.flat.points routes)
