-- Where targets and handlers lead: the first block of a point stands at the item that a goto there names, and so does each pad; and what a block ends
-- with leads on.
use Rattle.std.proofs.Common.{◌≡◌, ◌+◌, ◌==◌, ◌&&◌, ℕ, suc, Bool, true, false, List, [], ◌∷◌, drop, length, take, Some, slice_get, refl, sym, ap, subst, ◌∙◌, arith}
use Rattle.std.specs.List.{AllByRecursion}
use Rattle.std.proofs.lemmas.Bool.{eq-eqb}
use Rattle.flow_code.specs.FlatCode.{point_at}
use Rattle.flow_code.specs.declared.point.Point.{Point}
use Rattle.making_code.specs.Items.{WTarget, to_handler_pad, to_jump_pad, to_point}
use Rattle.plan_flow.specs.Laws.WrittenBlocks.{block_finished, first_block, first_of, first_begins, split_at, starts_at}
use Rattle.plan_flow.specs.Laws.WrittenPads.{AreNone, StandsFirst, handler_pad_stands, jump_pad_stands, none_finished, pad_block}
use Rattle.plan_flow.specs.Written.Blocks.{Block, BlockOf, blocks_of, handler_pad, is_decided, jump_pad}
use Rattle.plan_flow.specs.Written.Finish.{Finished, begins_point, end_of, finish}
use Rattle.plan_flow.specs.Written.Routes.{Route, RouteEdge, Routes, edge_by}
use Rattle.plan_flow.specs.Written.Templates.{jump_target, to_or_pad}
use Rattle.plan_flow.specs.Written.WrittenCode.{is_handler_pad, is_jump_pad, start_of, target_number, written_items}
use Rattle.plan_flow.specs.declared.edge.EdgeKind.TheVariants as edges
use Rattle.virtual_state.specs.Laws.Removals.{without_none}
use Rattle.virtual_state.specs.Sites.{has}
use Rattle.virtual_state.specs.States.{State}
use Rattle.virtual_state.specs.Without.{without}
use Rattle.written_types.proofs.BlockKinds.{first_at, first_state}
use Rattle.written_types.proofs.Given.{EdgeTarget, EdgesFit, Given, StandsFor, TargetsStand}
use Rattle.written_types.proofs.RouteEdges.{edge_number}
use Rattle.written_types.specs.Writing.{Writing}

module _ (w : Writing) (given : Given w) (fit : EdgesFit w given) where
  abbrev routes : Routes
  routes = given.setting.routes

  abbrev blocks : List Block
  blocks = blocks_of w.s routes

  -- the first block of a kind stands where targets that name the kind lead
  placed_first : (is_it : BlockOf → Bool) (block : Block) (number at : ℕ) (state : State)
      → slice_get blocks number ≡ Some block
      → is_it block.of ≡ true
      → AreNone is_it (take number blocks)
      → block.at ≡ at
      → block.state ≡ state
      → StandsFor w (start_of w.form w.blocks is_it) at state
  placed_first is_it block number at state there is none is_at is_state = record {
    block = one;
    placed = record {
      front = take number w.blocks;
      behind = drop (suc number) w.blocks;
      is = split_at w.blocks number one found;
      starts =
          starts_at w.form is_it w.blocks 0 number one found is
          (subst (λ (all : List Finished). AllByRecursion (λ (other : Finished). is_it other.block.of ≡ false) (take number all))
          (sym given.setting.blocks) (none_finished w.s.flat is_it blocks number none))
          ∙ zero_and (length (written_items w.form (take number w.blocks)));
    };
    begins = record { is_at = is_at; is_state = is_state };
  } where
    one : Finished
    one = record { block = block; end = end_of w.s.flat block (finish w.s.flat (drop (suc number) blocks)) }

    found : slice_get w.blocks number ≡ Some one
    found = ap (λ (all : List Finished). slice_get all number) given.setting.blocks ∙ block_finished w.s.flat blocks number block there

    zero_and : (n : ℕ) → 0 + n ≡ n
    zero_and n = omega arith

  point_stands : (at : ℕ) (route : Route)
      → slice_get routes at ≡ Some (Some route)
      → StandsFor w (start_of w.form w.blocks (begins_point at)) at route.state
  point_stands at route is_route =
      let fits = given.fits.before at route is_route in
      let first = first_of w.s routes at fits.point route fits.there is_route in
      placed_first (begins_point at) (first_block w.s at fits.point route route.made) _ at route.state first.is_there
      (first_begins w.s at fits.point route route.made) first.none_before (first_at w.s at fits.point route route.made)
      (first_state w.s at fits.point route route.made refl)

  same_number : (one other : ℕ) → (one == one && other == other) ≡ true
  same_number one other = rw (eq-eqb one one refl, eq-eqb other other refl) refl

  pad_stands : (is_it : BlockOf → Bool) (of : BlockOf) (edge : RouteEdge) (site : ℕ) (sites : List ℕ)
      → is_it of ≡ true
      → (place : ℕ) × StandsFirst w.s routes is_it (pad_block w.s of edge (site ∷ sites)) place
      → StandsFor w (start_of w.form w.blocks is_it) edge.to edge.state
  pad_stands is_it of edge site sites is (place, stands) =
      placed_first is_it (pad_block w.s of edge (site ∷ sites)) place edge.to edge.state stands.is_there is stands.none_before refl refl

  -- an edge on which nothing is made leads to its point
  to_its_point : (edge : RouteEdge)
      → EdgeTarget w given edge
      → edge.made ≡ []
      → StandsFor w (start_of w.form w.blocks (begins_point edge.to)) edge.to edge.state
  to_its_point edge leads none =
      subst (StandsFor w (start_of w.form w.blocks (begins_point edge.to)) edge.to)
      (leads.left ∙ ap (λ (made : List ℕ). without edge.state (has made)) none ∙ without_none edge.state (has []) (λ site. refl))
      (point_stands edge.to leads.target leads.is_route)

  jump_stands : (at : ℕ) (point : Point) (route : Route) (edge : RouteEdge) (target to : ℕ)
      → point_at w.s.flat at ≡ Some point
      → slice_get routes at ≡ Some (Some route)
      → is_decided point route ≡ false
      → edge_by route (edges.Jump target) ≡ Some edge
      → (number : ℕ)
      → StandsFor w (target_number w.form w.blocks number (jump_target at route target to)) edge.to edge.state
  jump_stands at point route edge target to there is_route undecided found number =
      subst (λ (t : WTarget). StandsFor w (target_number w.form w.blocks number t) edge.to edge.state) (sym target_is) (by edge.made refl) where
        target_is : jump_target at route target to ≡ to_or_pad edge.made (to_point edge.to) (to_jump_pad at target)
        target_is = rw (found) refl

        by : (made : List ℕ) → edge.made ≡ made
            → StandsFor w (target_number w.form w.blocks number (to_or_pad edge.made (to_point edge.to) (to_jump_pad at target))) edge.to edge.state
        by [] none =
            subst (λ (made : List ℕ). StandsFor w (target_number w.form w.blocks number (to_or_pad made (to_point edge.to) (to_jump_pad at target)))
            edge.to edge.state) (sym none)
            (to_its_point edge (fit.target at point route (edges.Jump target) edge there is_route found) none)
        by (site ∷ sites) some =
            subst (λ (made : List ℕ). StandsFor w (target_number w.form w.blocks number (to_or_pad made (to_point edge.to) (to_jump_pad at target)))
            edge.to edge.state) (sym some)
            (pad_stands (is_jump_pad at target) (jump_pad at target) edge site sites (same_number at target)
            (jump_pad_stands w.s routes at target point route edge site sites there is_route undecided found (edge_number w given route (edges.Jump target)
            edge found).2 some))

  handler_stands : (at : ℕ) (point : Point) (route : Route) (edge : RouteEdge) (handler : ℕ)
      → point_at w.s.flat at ≡ Some point
      → slice_get routes at ≡ Some (Some route)
      → edge_by route (edges.Handler handler) ≡ Some edge
      → (number : ℕ)
      → StandsFor w (target_number w.form w.blocks number (to_or_pad edge.made (to_point edge.to) (to_handler_pad at handler))) edge.to edge.state
  handler_stands at point route edge handler there is_route found number = by edge.made refl where
    by : (made : List ℕ) → edge.made ≡ made
        → StandsFor w (target_number w.form w.blocks number (to_or_pad edge.made (to_point edge.to) (to_handler_pad at handler))) edge.to edge.state
    by [] none =
        subst (λ (made : List ℕ). StandsFor w (target_number w.form w.blocks number (to_or_pad made (to_point edge.to) (to_handler_pad at handler)))
        edge.to edge.state) (sym none)
        (to_its_point edge (fit.target at point route (edges.Handler handler) edge there is_route found) none)
    by (site ∷ sites) some =
        subst (λ (made : List ℕ). StandsFor w (target_number w.form w.blocks number (to_or_pad made (to_point edge.to) (to_handler_pad at handler)))
        edge.to edge.state) (sym some)
        (pad_stands (is_handler_pad at handler) (handler_pad at handler) edge site sites (same_number at handler)
        (handler_pad_stands w.s routes at handler point route edge site sites there is_route found (edge_number w given route (edges.Handler handler)
        edge found).2 some))

  pub targets_stand : TargetsStand w given
  targets_stand = record { first = point_stands; jump = jump_stands; handler = handler_stands }
