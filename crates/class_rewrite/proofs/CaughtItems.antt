-- Each class that handlers of written items catch is one that a handler of the flat code catches.
use Rattle.std.proofs.Common.{◌≡◌, ◌+◌, ℕ, zero, suc, Bool, true, false, List, [], ◌∷◌, ◌++◌, map, slice_get, flat_map, Option, Some, None, refl, sym, subst}
use Rattle.std.specs.List.{AllByRecursion}
use Rattle.class_model.specs.declared.instr.Instr.{Instr}
use Rattle.class_tree.specs.Headers.{Name}
use Rattle.code_drafts.specs.Laws.GoodBlocks.{all_flat, all_reached}
use Rattle.flow_code.specs.FlatCode.{FlatCode, point_at}
use Rattle.flow_code.specs.declared.handlers.FlatHandler.{FlatHandler}
use Rattle.flow_code.specs.declared.point.FlatInstr.{FlatInstr}
use Rattle.flow_code.specs.declared.point.FlatInstr.TheVariants.{Of, NullTest}
use Rattle.flow_code.specs.declared.point.Point.{Point}
use Rattle.making_code.specs.Items.{WCatch, WInstr, WItem, carried, constructs, item, load, makes, plain, store}
use Rattle.making_code.specs.Opposites.{opposite_instr}
use Rattle.plan_flow.specs.Laws.WrittenBlocks.{holds_of_both}
use Rattle.plan_flow.specs.PlanScope.{PlanScope}
use Rattle.plan_flow.specs.PlanSlots.{held}
use Rattle.plan_flow.specs.Written.Blocks.{Block, BlockOf, before_point, blocks_of, handler_pad, handler_pad_of, handler_pads, instruction_block, is_decided, jump_pad, jump_pad_of, jump_pads, make_block, next_block, on_next_edge, point_blocks, state_written}
use Rattle.plan_flow.specs.Written.Finish.{End, Finished, end_items, end_of, finish, finished_items, goto_end, no_end, nop_end}
use Rattle.plan_flow.specs.Written.Routes.{Route, RouteEdge, Routes, edge_by}
use Rattle.plan_flow.specs.Written.Templates.{catches_at, catches_from, items_at, template}
use Rattle.plan_flow.specs.Written.WrittenCode.{Form, block_items, in_form, short, wide, widened, written_items}
use Rattle.plan_flow.specs.declared.edge.EdgeKind.{EdgeKind}
use Rattle.plan_flow.specs.declared.edge.EdgeKind.TheVariants as edges
use Rattle.virtual_state.specs.declared.slot.Slot.{Slot}
use Rattle.virtual_state.specs.declared.slot.Slot.TheVariants.{Plain, Virt, Unusable}

-- a handler of a point catches the class
pub record IsCaught (flat : FlatCode) (name : Name) : Type 0 where
  pub number : ℕ
  pub point : Point
  pub there : point_at flat number ≡ Some point
  pub at : ℕ
  pub handler : FlatHandler
  pub is_handler : slice_get point.handlers at ≡ Some handler
  pub catches : handler.catch_class ≡ Some name

abbrev pub CatchIsOf : FlatCode → Option Name → Type 0
CatchIsOf flat None = Unit {0}
CatchIsOf flat (Some name) = IsCaught flat name

abbrev pub CatchesAreOf : FlatCode → WItem → Type 0
CatchesAreOf flat one = AllByRecursion (λ (catch : WCatch). CatchIsOf flat catch.class) one.catches

module _ (s : PlanScope) where
  abbrev AreItems : List WItem → Type 0
  AreItems items = AllByRecursion (CatchesAreOf s.flat) items

  -- ---- the handlers of a point

  module _ (number : ℕ) (point : Point) (there : point_at s.flat number ≡ Some point) (route : Route) where
    of_handler : (at : ℕ) (handler : FlatHandler) → slice_get point.handlers at ≡ Some handler → CatchIsOf s.flat handler.catch_class
    of_handler at handler is = by handler.catch_class refl where
      by : (class : Option Name) → handler.catch_class ≡ class → CatchIsOf s.flat class
      by None none = tt
      by (Some name) some =
          record { number = number; point = point; there = there; at = at; handler = handler; is_handler = is; catches = some }

    from_here : (from start : ℕ) (handlers : List FlatHandler)
        → ((at : ℕ) (handler : FlatHandler) → slice_get handlers at ≡ Some handler → CatchIsOf s.flat handler.catch_class)
        → AllByRecursion (λ (catch : WCatch). CatchIsOf s.flat catch.class) (catches_from from route start handlers)
    from_here from start [] each = tt
    from_here from start (handler ∷ handlers) each =
        by (edge_by route (edges.Handler start)) refl (from_here from (suc start) handlers (λ at one is. each (suc at) one is)) where
          by : (edge : Option RouteEdge) → edge_by route (edges.Handler start) ≡ edge
              → AllByRecursion (λ (catch : WCatch). CatchIsOf s.flat catch.class) (catches_from from route (suc start) handlers)
              → AllByRecursion (λ (catch : WCatch). CatchIsOf s.flat catch.class) (catches_from from route start (handler ∷ handlers))
          by None none rest = rw (none) rest
          by (Some edge) some rest = rw (some) (each zero handler refl, rest)

    catches_hold : (from : ℕ) → AllByRecursion (λ (catch : WCatch). CatchIsOf s.flat catch.class) (catches_at from point route)
    catches_hold from = from_here from 0 point.handlers of_handler

  -- ---- blocks

  items_hold : (instrs : List WInstr) → AreItems (map item instrs)
  items_hold [] = tt
  items_hold (instr ∷ instrs) = (tt, items_hold instrs)

  instruction_holds : (at number : ℕ) (point : Point) (route : Route) → point_at s.flat number ≡ Some point
      → AreItems (items_at s at point (state_written route) route)
  instruction_holds at number point route there = by point.instr refl where
    tested : (local : ℕ) (slot : Slot) → point.instr ≡ NullTest local → held (state_written route) local ≡ slot
        → AreItems (items_at s at point (state_written route) route)
    tested local Plain is told = rw (is, told) (tt, (tt, (tt, (catches_hold number point there route at, tt))))
    tested local (Virt site) is told = rw (is, told) tt
    tested local Unusable is told = rw (is, told) (tt, (tt, (tt, (catches_hold number point there route at, tt))))

    of_template : (class : ℕ) (instr : Instr) (found : Option (List WInstr)) → point.instr ≡ Of class instr
        → template s at point.typed (state_written route) route class instr ≡ found
        → AreItems (items_at s at point (state_written route) route)
    of_template class instr None is told = rw (is, told) (catches_hold number point there route at, tt)
    of_template class instr (Some instrs) is told = rw (is, told) (items_hold instrs)

    by : (instr : FlatInstr) → point.instr ≡ instr → AreItems (items_at s at point (state_written route) route)
    by (NullTest local) is = tested local (held (state_written route) local) is refl
    by (Of class instr) is = of_template class instr (template s at point.typed (state_written route) route class instr) is refl

  abbrev BlockHolds : Block → Type 0
  BlockHolds block = AreItems block.items

  block_holds : (of : BlockOf) (at : ℕ) (edge : RouteEdge) (leaves : Option ℕ)
      → AllByRecursion BlockHolds (make_block s of at edge.state edge.made edge.order leaves)
  block_holds of at edge leaves = by edge.made where
    by : (made : List ℕ) → AllByRecursion BlockHolds (make_block s of at edge.state made edge.order leaves)
    by [] = tt
    by (site ∷ sites) = (items_hold _, tt)

  before_holds : (at : ℕ) (route : Route) → AllByRecursion BlockHolds (make_block s (before_point at) at route.state route.made route.order None)
  before_holds at route = by route.made where
    by : (made : List ℕ) → AllByRecursion BlockHolds (make_block s (before_point at) at route.state made route.order None)
    by [] = tt
    by (site ∷ sites) = (items_hold _, tt)

  next_holds : (at : ℕ) (edge : Option RouteEdge) → AllByRecursion BlockHolds (next_block s at edge)
  next_holds at None = tt
  next_holds at (Some edge) = block_holds (on_next_edge at) edge.to edge None

  point_holds : (at number : ℕ) (point : Point) (route : Route) → point_at s.flat number ≡ Some point
      → AllByRecursion BlockHolds (point_blocks s at point route)
  point_holds at number point route there =
      holds_of_both BlockHolds (make_block s (before_point at) at route.state route.made route.order None ++ (instruction_block s at point route ∷ []))
      (next_block s at (edge_by route edges.Next))
      (holds_of_both BlockHolds (make_block s (before_point at) at route.state route.made route.order None) (instruction_block s at point route ∷ [])
      (before_holds at route) (instruction_holds at number point route there, tt))
      (next_holds at (edge_by route edges.Next))

  jump_pads_hold : (at : ℕ) (point : Point) (route : Route) → AllByRecursion BlockHolds (jump_pads s at point route)
  jump_pads_hold at point route =
      all_flat BlockHolds (λ edge. jump_pad_of s at (is_decided point route) edge edge.by) route.edges
      (λ number edge is. of_kind edge (is_decided point route) edge.by) where
        of_kind : (edge : RouteEdge) (told : Bool) (by : EdgeKind) → AllByRecursion BlockHolds (jump_pad_of s at told edge by)
        of_kind edge false (edges.Jump number) = block_holds (jump_pad at number) edge.to edge (Some edge.to)
        of_kind edge true (edges.Jump number) = tt
        of_kind edge false edges.Next = tt
        of_kind edge true edges.Next = tt
        of_kind edge false (edges.Handler number) = tt
        of_kind edge true (edges.Handler number) = tt

  handler_pads_hold : (at : ℕ) (point : Point) (route : Route) → AllByRecursion BlockHolds (handler_pads s at point route)
  handler_pads_hold at point route =
      all_flat BlockHolds (λ edge. handler_pad_of s at edge edge.by) route.edges (λ number edge is. of_kind edge edge.by) where
        of_kind : (edge : RouteEdge) (by : EdgeKind) → AllByRecursion BlockHolds (handler_pad_of s at edge by)
        of_kind edge (edges.Handler number) = block_holds (handler_pad at number) edge.to edge (Some edge.to)
        of_kind edge edges.Next = tt
        of_kind edge (edges.Jump number) = tt

  blocks_hold : (routes : Routes) → AllByRecursion BlockHolds (blocks_of s routes)
  blocks_hold routes =
      holds_of_both BlockHolds _ _
      (holds_of_both BlockHolds _ _
      (all_reached BlockHolds (point_blocks s) 0 s.flat.points routes (λ n point route is is_route. point_holds (0 + n) n point route is))
      (all_reached BlockHolds (jump_pads s) 0 s.flat.points routes (λ n point route is is_route. jump_pads_hold (0 + n) point route)))
      (all_reached BlockHolds (handler_pads s) 0 s.flat.points routes (λ n point route is is_route. handler_pads_hold (0 + n) point route))

  -- ---- ends, and the wide form

  ends_hold : (end : End) → AreItems (end_items end)
  ends_hold no_end = tt
  ends_hold (goto_end to) = (tt, tt)
  ends_hold nop_end = (tt, tt)

  widened_holds : (one : WItem) → CatchesAreOf s.flat one → AreItems (widened one)
  widened_holds one holds = by one.instr refl where
    alone : widened one ≡ one ∷ [] → AreItems (widened one)
    alone is = subst AreItems (sym is) (holds, tt)

    by : (instr : WInstr) → one.instr ≡ instr → AreItems (widened one)
    by (carried class instr) is = over (opposite_instr instr) refl where
      over : (other : Option Instr) → opposite_instr instr ≡ other → AreItems (widened one)
      over None none = alone (rw (is, none) refl)
      over (Some other) some = rw (is, some) (tt, (tt, tt))
    by (plain instr) is = alone (rw (is) refl)
    by (load kind unit) is = alone (rw (is) refl)
    by (store kind unit) is = alone (rw (is) refl)
    by (makes class) is = alone (rw (is) refl)
    by (constructs class) is = alone (rw (is) refl)

  form_holds : (form : Form) (items : List WItem) → AreItems items → AreItems (in_form form items)
  form_holds short items holds = holds
  form_holds wide [] holds = tt
  form_holds wide (one ∷ items) holds =
      holds_of_both (CatchesAreOf s.flat) (widened one) (flat_map widened items) (widened_holds one holds.0) (form_holds wide items holds.1)

  finished_holds : (form : Form) (blocks : List Block) → AllByRecursion BlockHolds blocks → AreItems (written_items form (finish s.flat blocks))
  finished_holds form [] all = tt
  finished_holds form (block ∷ blocks) all =
      let behind : List Finished = finish s.flat blocks in
      let one : Finished = record { block = block; end = end_of s.flat block behind } in
      holds_of_both (CatchesAreOf s.flat) (block_items form one) (written_items form behind)
      (form_holds form (finished_items one) (holds_of_both (CatchesAreOf s.flat) block.items (end_items one.end) all.0 (ends_hold one.end)))
      (finished_holds form blocks all.1)

  -- What written items catch, handlers of the flat code catch.
  pub catches_are_of : (form : Form) (routes : Routes) → AreItems (written_items form (finish s.flat (blocks_of s routes)))
  catches_are_of form routes = finished_holds form (blocks_of s routes) (blocks_hold routes)
