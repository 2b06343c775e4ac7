-- Where an edge leads in written code: to the make code on it, or to the first block of its point.
use Rattle.std.proofs.Common.{◌≡◌, ◌+◌, ◌++◌, ℕ, suc, Bool, true, false, List, [], ◌∷◌, length, slice_get, Option, Some, refl, sym, ap, ◌∙◌, arith}
use Rattle.std.proofs.lemmas.Bool.{eq-eqb}
use Rattle.std.proofs.lemmas.List.{append_assoc, append_cancel_right, length-append}
use Rattle.flow_code.specs.declared.point.Point.{Point}
use Rattle.machine_values.specs.Frames.{MethodState}
use Rattle.making_code.specs.Items.{to_handler_pad, to_jump_pad, to_point}
use Rattle.plan_flow.specs.Laws.WrittenBlocks.{before_blocks, block_finished, blocks_left, blocks_right, first_begins, first_block, first_item, first_of, from_point, made_next, next_part, own_number, pads_of, points_from, starts_at}
use Rattle.plan_flow.specs.Laws.WrittenPads.{StandsFirst, handler_pad_stands, jump_pad_stands, none_finished, pad_block}
use Rattle.plan_flow.specs.PlanScope.{PlanScope}
use Rattle.plan_flow.specs.Written.Blocks.{Block, BlockOf, blocks_of, handler_pad, instruction_block, is_decided, jump_pad, next_block, point_blocks}
use Rattle.plan_flow.specs.Written.Finish.{begins_point}
use Rattle.plan_flow.specs.Written.Routes.{Route, RouteEdge, edge_by}
use Rattle.plan_flow.specs.Written.Templates.{to_or_pad}
use Rattle.plan_flow.specs.Written.WrittenCode.{is_handler_pad, is_jump_pad, start_of, target_number}
use Rattle.plan_flow.specs.Written.WrittenPrograms.{WrittenMethod}
use Rattle.plan_flow.specs.declared.edge.EdgeKind.{EdgeKind}
use Rattle.plan_flow.specs.declared.edge.EdgeKind.TheVariants as edges
use Rattle.virtual_state.specs.Laws.Removals.{without_none}
use Rattle.virtual_state.specs.Sites.{has}
use Rattle.written_runs.specs.Inner.PlannedFrames.{IsBlock, IsReached, IsTold, blocks_in, of_first, of_handler, of_jump, of_next, scope_in}
use Rattle.written_runs.specs.Inner.Setup.{Setup}
use Rattle.plan_flow.specs.Laws.NextEdges.{next_follows}
use Rattle.written_runs.specs.Laws.Settling.{Onwards, SettleLaws, onwards}
use Rattle.written_runs.specs.WrittenRuns.{IsReadyMethod}

-- ---- the first block of the next point, where nothing is made on the way

pub next_unmade : (s : PlanScope) (routes : List (Option Route)) (at : ℕ) (point next : Point) (route then : Route) (edge : RouteEdge)
    → slice_get s.flat.points at ≡ Some point
    → slice_get routes at ≡ Some (Some route)
    → slice_get s.flat.points (suc at) ≡ Some next
    → slice_get routes (suc at) ≡ Some (Some then)
    → edge_by route edges.Next ≡ Some edge
    → edge.made ≡ []
    → suc (own_number s routes at route) ≡ length (blocks_left s routes (suc at))
next_unmade s routes at point next route then edge is is_route is_next is_then is_edge none = omega (arith, own, all, parts, before, last) where
  right : blocks_right s routes (suc at) ≡ point_blocks s (suc at) next then ++ blocks_right s routes (suc (suc at))
  right =
      ap (λ (found : List Block). found ++ pads_of s routes)
      (next_part (point_blocks s) (suc at) (suc at) s.flat.points routes next then is_next is_then)
      ∙ append_assoc (point_blocks s (suc at) next then) (points_from s routes (suc (suc at))) (pads_of s routes)

  both : blocks_left s routes (suc at) ++ (point_blocks s (suc at) next then ++ blocks_right s routes (suc (suc at)))
      ≡ (blocks_left s routes at ++ point_blocks s at point route) ++ (point_blocks s (suc at) next then ++ blocks_right s routes (suc (suc at)))
  both =
      sym (from_point s routes (suc at) next then is_next is_then)
      ∙ from_point s routes at point route is is_route
      ∙ ap (λ (found : List Block). blocks_left s routes at ++ (point_blocks s at point route ++ found)) right
      ∙ sym (append_assoc (blocks_left s routes at) (point_blocks s at point route)
      (point_blocks s (suc at) next then ++ blocks_right s routes (suc (suc at))))

  all : length (blocks_left s routes (suc at)) ≡ length (blocks_left s routes at) + length (point_blocks s at point route)
  all =
      ap length (append_cancel_right (blocks_left s routes (suc at)) (blocks_left s routes at ++ point_blocks s at point route)
      (point_blocks s (suc at) next then ++ blocks_right s routes (suc (suc at))) both)
      ∙ length-append (blocks_left s routes at) (point_blocks s at point route)

  own : own_number s routes at route ≡ length (blocks_left s routes at) + length (before_blocks s at route)
  own = length-append (blocks_left s routes at) (before_blocks s at route)

  parts : length (point_blocks s at point route)
      ≡ length (before_blocks s at route ++ instruction_block s at point route ∷ []) + length (next_block s at (edge_by route edges.Next))
  parts = length-append (before_blocks s at route ++ instruction_block s at point route ∷ []) (next_block s at (edge_by route edges.Next))

  before : length (before_blocks s at route ++ instruction_block s at point route ∷ []) ≡ length (before_blocks s at route) + 1
  before = length-append (before_blocks s at route) (instruction_block s at point route ∷ [])

  last : length (next_block s at (edge_by route edges.Next)) ≡ 0
  last = rw (is_edge, none) refl

-- ---- where targets are

module _ (u : Setup) (w : WrittenMethod) where
  -- a point's first block
  pub point_place : (to : ℕ) (point : Point) (route : Route)
      → IsReached w to point route
      → start_of w.form (blocks_in u w) (begins_point to) ≡ first_item w.form (blocks_in u w) (length (blocks_left (scope_in u w) w.routes to))
  point_place to point route reached =
      let first = first_of (scope_in u w) w.routes to point route reached.is_point reached.is_route in
      let there =
      block_finished w.flat (blocks_of (scope_in u w) w.routes) (length (blocks_left (scope_in u w) w.routes to)) (first_block
      (scope_in u w) to point route route.made) first.is_there in
      let zeroth : 0 + first_item w.form (blocks_in u w) (length (blocks_left (scope_in u w) w.routes to))
      ≡ first_item w.form (blocks_in u w) (length (blocks_left (scope_in u w) w.routes to)) = omega arith in
      starts_at w.form (begins_point to) (blocks_in u w) 0 (length (blocks_left (scope_in u w) w.routes to)) _ there (first_begins
      (scope_in u w) to point route route.made)
      (none_finished w.flat (begins_point to) (blocks_of (scope_in u w) w.routes) (length (blocks_left (scope_in u w) w.routes to)) first.none_before)
      ∙ zeroth

  -- a pad
  pub pad_place : (is_it : BlockOf → Bool) (block : Block) (number : ℕ)
      → StandsFirst (scope_in u w) w.routes is_it block number
      → is_it block.of ≡ true
      → start_of w.form (blocks_in u w) is_it ≡ first_item w.form (blocks_in u w) number
  pad_place is_it block number stands is =
      let there = block_finished w.flat (blocks_of (scope_in u w) w.routes) number block stands.is_there in
      let zeroth : 0 + first_item w.form (blocks_in u w) number ≡ first_item w.form (blocks_in u w) number = omega arith in
      starts_at w.form is_it (blocks_in u w) 0 number _ there is (none_finished w.flat is_it (blocks_of (scope_in u w) w.routes) number stands.none_before)
      ∙ zeroth

-- ---- the block of an edge

-- The block to which an edge leads that ends at the first frame's point: it begins with the edge's state.
pub record EdgeBlock (u : Setup) (w : WrittenMethod) (place : ℕ) (edge : RouteEdge) : Type 0 where
  pub number : ℕ
  pub block : Block
  pub is_block : IsBlock u w number block
  pub told : IsTold is_block
  pub at : block.at ≡ place
  pub state : block.state ≡ edge.state

module _ (u : Setup) (laws : SettleLaws u) {w : WrittenMethod} (then : MethodState) (written : u.written then.at ≡ Some w) {at : ℕ} {point target : Point}
    {route : Route} {edge : RouteEdge} (kind : EdgeKind) (reached : IsReached w at point route) (found : edge_by route kind ≡ Some edge)
    (to : edge.to ≡ then.place) (is_target : slice_get w.flat.points then.place ≡ Some target) where
  abbrev s : PlanScope
  s = scope_in u w

  abbrev firsts : ℕ → ℕ
  firsts number = first_item w.form (blocks_in u w) number

  pub on : Onwards w then.place target edge
  on = onwards u laws then w target at point route kind edge written reached found to is_target

  abbrev first_number : ℕ
  first_number = length (blocks_left s w.routes then.place)

  -- with nothing made on the edge, the point's first block begins with its state
  pub first_of_edge : edge.made ≡ [] → EdgeBlock u w then.place edge
  first_of_edge none = record {
    number = first_number;
    block = first_block s then.place target on.route on.route.made;
    is_block = of_first then.place target on.route on.reached;
    told = tt;
    at = at_place on.route.made;
    state = by on.route.made refl;
  } where
    at_place : (made : List ℕ) → (first_block s then.place target on.route made).at ≡ then.place
    at_place [] = refl
    at_place (site ∷ sites) = refl

    same : on.route.state ≡ edge.state
    same = sym on.left ∙ without_none edge.state (has edge.made) (λ site. ap (λ (made : List ℕ). has made site) none)

    by : (made : List ℕ) → on.route.made ≡ made → (first_block s then.place target on.route made).state ≡ edge.state
    by [] told = without_none on.route.state (has on.route.made) (λ site. ap (λ (made : List ℕ). has made site) told) ∙ same
    by (site ∷ sites) told = same

  -- ---- by the kind of the edge

  -- the block of the edge, and where it starts
  abbrev pub BlockAt : ℕ → Type 0
  BlockAt place = (block : EdgeBlock u w then.place edge) × (place ≡ firsts block.number)

  -- behind the block of the instruction
  pub next_block_at : kind ≡ edges.Next → edge.by ≡ kind → BlockAt (firsts (suc (own_number s w.routes at route)))
  unfolding first_of_edge
  next_block_at is by = of_made edge.made refl where
    is_next : edge_by route edges.Next ≡ Some edge
    is_next = ap (edge_by route) (sym is) ∙ found

    ready : IsReadyMethod u.classes u.links then.at w
    ready = laws.is_setup.ready then.at w written

    follows : suc at ≡ then.place
    follows = sym (next_follows s ready.plan w.routes at point route edge ready.routed reached.is_point reached.is_route is_next) ∙ to

    of_made : (made : List ℕ) → edge.made ≡ made → BlockAt (firsts (suc (own_number s w.routes at route)))
    of_made [] none = (
      first_of_edge none,
      ap firsts
          (next_unmade s w.routes at point target route on.route edge reached.is_point reached.is_route (ap (slice_get w.flat.points) follows ∙ is_target)
          (ap (slice_get w.routes) follows ∙ on.reached.is_route) is_next none
          ∙ ap (λ (n : ℕ). length (blocks_left s w.routes n)) follows),
    )
    of_made (site ∷ sites) some = (
      record {
        number = suc (own_number s w.routes at route);
        block = made_next s at edge (site ∷ sites);
        is_block =
            of_next at point route edge site sites reached (record { found = is_next; by = by ∙ is; made = some });
        told = tt;
        at = to;
        state = refl;
      },
      refl,
    )

  -- at the target of a jump
  pub jump_block_at : (number place : ℕ)
      → kind ≡ edges.Jump number
      → edge.by ≡ kind
      → is_decided point route ≡ false
      → BlockAt (target_number w.form (blocks_in u w) place (to_or_pad edge.made (to_point edge.to) (to_jump_pad at number)))
  unfolding first_of_edge
  jump_block_at number place is by undecided = of_made edge.made refl where
    is_jump : edge_by route (edges.Jump number) ≡ Some edge
    is_jump = ap (edge_by route) (sym is) ∙ found

    of_made : (made : List ℕ) → edge.made ≡ made
        → BlockAt (target_number w.form (blocks_in u w) place (to_or_pad made (to_point edge.to) (to_jump_pad at number)))
    of_made [] none = (
      first_of_edge none,
      ap (λ (n : ℕ). start_of w.form (blocks_in u w) (begins_point n)) to ∙ point_place u w then.place target on.route on.reached,
    )
    of_made (site ∷ sites) some =
        let stands = jump_pad_stands s w.routes at number point route edge site sites reached.is_point reached.is_route undecided is_jump (by ∙ is) some in (
          record {
            number = stands.0;
            block = pad_block s (jump_pad at number) edge (site ∷ sites);
            is_block =
                of_jump at number point route edge site sites stands.0 reached (record { found = is_jump; by = by ∙ is; made = some }) stands.1;
            told = tt;
            at = to;
            state = refl;
          },
          pad_place u w (is_jump_pad at number) (pad_block s (jump_pad at number) edge (site ∷ sites)) stands.0 stands.1
              (both_same at number),
        ) where
          both_same : (one other : ℕ) → is_jump_pad one other (jump_pad one other) ≡ true
          both_same one other = rw (eq-eqb one one refl, eq-eqb other other refl) refl

  -- at a handler
  pub handler_block_at : (number place : ℕ)
      → kind ≡ edges.Handler number
      → edge.by ≡ kind
      → BlockAt (target_number w.form (blocks_in u w) place (to_or_pad edge.made (to_point edge.to) (to_handler_pad at number)))
  unfolding first_of_edge
  handler_block_at number place is by = of_made edge.made refl where
    is_handler : edge_by route (edges.Handler number) ≡ Some edge
    is_handler = ap (edge_by route) (sym is) ∙ found

    of_made : (made : List ℕ) → edge.made ≡ made
        → BlockAt (target_number w.form (blocks_in u w) place (to_or_pad made (to_point edge.to) (to_handler_pad at number)))
    of_made [] none = (
      first_of_edge none,
      ap (λ (n : ℕ). start_of w.form (blocks_in u w) (begins_point n)) to ∙ point_place u w then.place target on.route on.reached,
    )
    of_made (site ∷ sites) some =
        let stands = handler_pad_stands s w.routes at number point route edge site sites reached.is_point reached.is_route is_handler (by ∙ is) some in (
          record {
            number = stands.0;
            block = pad_block s (handler_pad at number) edge (site ∷ sites);
            is_block =
                of_handler at number point route edge site sites stands.0 reached (record { found = is_handler; by = by ∙ is; made = some }) stands.1;
            told = tt;
            at = to;
            state = refl;
          },
          pad_place u w (is_handler_pad at number) (pad_block s (handler_pad at number) edge (site ∷ sites)) stands.0 stands.1
              (both_same at number),
        ) where
          both_same : (one other : ℕ) → is_handler_pad one other (handler_pad one other) ≡ true
          both_same one other = rw (eq-eqb one one refl, eq-eqb other other refl) refl
