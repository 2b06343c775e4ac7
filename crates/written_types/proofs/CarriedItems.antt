-- Where the item of an instruction that is written as it is leads: to its targets and to its handlers.
use Rattle.std.proofs.Common.{◌≡◌, ◌+◌, ℕ, suc, List, [], ◌∷◌, length, map, slice_get, Option, Some, None, refl, sym, ap, subst, ◌∙◌, arith}
use Rattle.std.specs.List.{AllByRecursion}
use Rattle.class_model.specs.declared.frame.Frame.{Frame}
use Rattle.class_tree.specs.Headers.{Name}
use Rattle.flow_code.specs.FlatCode.{point_at}
use Rattle.flow_code.specs.declared.handlers.FlatHandler.{FlatHandler}
use Rattle.flow_code.specs.declared.point.Point.{Point}
use Rattle.making_code.specs.Items.{WCatch, to_handler_pad, to_point}
use Rattle.member_link.specs.Bodies.{BodyCatch, catch_frame, caught_type}
use Rattle.plan_flow.specs.Written.Blocks.{state_written}
use Rattle.plan_flow.specs.Written.FramedCode.{body_catch, caught_name, frame_by_item}
use Rattle.plan_flow.specs.Written.Routes.{Route, RouteEdge, edge_by}
use Rattle.plan_flow.specs.Written.Templates.{catches_from, jump_targets, to_or_pad}
use Rattle.plan_flow.specs.Written.WrittenCode.{target_number}
use Rattle.plan_flow.specs.Written.WrittenConstants.{catch_index}
use Rattle.plan_flow.specs.declared.edge.EdgeKind.TheVariants as edges
use Rattle.same_runs.specs.FlatBodies.{caught_class}
use Rattle.written_types.proofs.Given.{EdgesFit, Given, TargetsStand, written_along}
use Rattle.written_types.proofs.Placing.{leads_in}
use Rattle.written_types.proofs.WrittenTypes.{IsSteady}
use Rattle.written_types.specs.Inner.CarriedFrames.{Agrees, LeadsIn}
use Rattle.written_types.specs.Writing.{Writing}

pub caught_steady : (class : Option Name) → IsSteady (caught_type class)
caught_steady None = tt
caught_steady (Some class) = tt

pub targets_many : (at : ℕ) (route : Route) (from : ℕ) (all : List ℕ) → length (jump_targets at route from all) ≡ length all
targets_many at route from [] = refl
targets_many at route from (to ∷ others) = ap suc (targets_many at route (suc from) others)

-- ---- handlers

-- a frame at the handlers of a point, by which classes they catch
module _ (w : Writing) (given : Given w) (fit : EdgesFit w given) (stand : TargetsStand w given) (at : ℕ) (point : Point) (route : Route)
    (there : point_at w.s.flat at ≡ Some point) (is_route : slice_get given.setting.routes at ≡ Some (Some route)) (number : ℕ) (frame : Frame)
    (caught : (from : ℕ) (handler : FlatHandler) → slice_get point.handlers from ≡ Some handler
    → Agrees (record { locals = frame.locals; stack = caught_type (caught_class handler.catch_class) ∷ [] })
    (frame_by_item w.form w.blocks (written_along w at point (state_written route) (edges.Handler from)))) where
  -- what the items of handlers from a number on are
  abbrev Lead : List WCatch → Type 0
  Lead catches =
      AllByRecursion (λ (catch : BodyCatch). LeadsIn w (Some (catch_frame frame catch.class)) catch.to)
      (map (body_catch w.pool) (map (λ (catch : WCatch). (target_number w.form w.blocks number catch.to, catch_index w.pool catch.class)) catches))

  handler_leads : (from : ℕ) (handler : FlatHandler) (edge : RouteEdge) → slice_get point.handlers from ≡ Some handler
      → edge_by route (edges.Handler from) ≡ Some edge
      → caught_name w.pool (catch_index w.pool handler.catch_class) ≡ caught_class handler.catch_class
      → LeadsIn w (Some (catch_frame frame (caught_name w.pool (catch_index w.pool handler.catch_class))))
      (target_number w.form w.blocks number (to_or_pad edge.made (to_point edge.to) (to_handler_pad at from)))
  handler_leads from handler edge is found same =
      subst (λ (class : Option Name). LeadsIn w (Some (catch_frame frame class))
      (target_number w.form w.blocks number (to_or_pad edge.made (to_point edge.to) (to_handler_pad at from)))) (sym same)
      (leads_in w (catch_frame frame (caught_class handler.catch_class))
      (target_number w.form w.blocks number (to_or_pad edge.made (to_point edge.to) (to_handler_pad at from))) edge.to edge.state
      (fit.along at point route (edges.Handler from) edge (catch_frame frame (caught_class handler.catch_class)) there is_route found
      (caught from handler is))
      (stand.handler at point route edge from there is_route found number))

  pub handlers_lead : (from : ℕ) (handlers : List FlatHandler)
      → ((n : ℕ) → slice_get handlers n ≡ slice_get point.handlers (from + n))
      → AllByRecursion (λ (catch : WCatch). caught_name w.pool (catch_index w.pool catch.class) ≡ caught_class catch.class)
      (catches_from at route from handlers)
      → Lead (catches_from at route from handlers)
  handlers_lead from [] part same = tt
  handlers_lead from (handler ∷ handlers) part same =
      by (edge_by route (edges.Handler from)) refl same (handlers_lead (suc from) handlers next) where
        here : slice_get point.handlers from ≡ Some handler
        here = let first : from ≡ from + 0 = omega arith in ap (slice_get point.handlers) first ∙ sym (part 0)

        next : (n : ℕ) → slice_get handlers n ≡ slice_get point.handlers (suc from + n)
        next n = let later : from + suc n ≡ suc from + n = omega arith in part (suc n) ∙ ap (slice_get point.handlers) later

        by : (found : Option RouteEdge) → edge_by route (edges.Handler from) ≡ found
            → AllByRecursion (λ (catch : WCatch). caught_name w.pool (catch_index w.pool catch.class) ≡ caught_class catch.class)
            (catches_from at route from (handler ∷ handlers))
            → (AllByRecursion (λ (catch : WCatch). caught_name w.pool (catch_index w.pool catch.class) ≡ caught_class catch.class)
            (catches_from at route (suc from) handlers)
            → Lead (catches_from at route (suc from) handlers))
            → Lead (catches_from at route from (handler ∷ handlers))
        by None is all rest = rw is (rest (rw is at all))
        by (Some edge) is all rest =
            let both = rw is at all in
            rw is (handler_leads from handler edge here is both.0, rest both.1)
