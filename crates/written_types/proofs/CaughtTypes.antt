-- The handlers of written items catch throwables: they are those of points of the flat code.
use Rattle.std.proofs.Common.{◌≡◌, ◌++◌, ℕ, zero, suc, List, [], ◌∷◌, map, slice_get, Option, Some, None, refl, sym, subst}
use Rattle.std.specs.List.{AllByRecursion, flat_map}
use Rattle.std.proofs.lemmas.Option.{none-some, same_Some}
use Rattle.class_model.specs.declared.instr.Instr.{Instr}
use Rattle.class_tree.specs.Headers.{Headers}
use Rattle.flow_code.specs.FlatCode.{point_at}
use Rattle.flow_code.specs.declared.handlers.FlatHandler.{FlatHandler}
use Rattle.flow_code.specs.declared.point.FlatInstr.{FlatInstr}
use Rattle.flow_code.specs.declared.point.FlatInstr.TheVariants.{Of, NullTest}
use Rattle.flow_code.specs.declared.point.Point.{Point}
use Rattle.making_code.specs.Items.{WCatch, WInstr, WItem, carried, constructs, item, load, makes, plain, store}
use Rattle.making_code.specs.MakeCode.{make_code}
use Rattle.making_code.specs.Opposites.{opposite_instr}
use Rattle.member_link.specs.Bodies.{BodyCaught}
use Rattle.member_link.specs.BodyTyping.{IsThrowable}
use Rattle.member_link.specs.Machine.Replaced.{map_numbered}
use Rattle.plan_flow.specs.PlanScope.{PlanScope}
use Rattle.plan_flow.specs.PlanSlots.{held}
use Rattle.plan_flow.specs.Written.Blocks.{Block, making, state_written}
use Rattle.plan_flow.specs.Written.Finish.{End, Finished, end_items, goto_end, no_end, nop_end}
use Rattle.plan_flow.specs.Written.FramedCode.{caught_name, item_table}
use Rattle.plan_flow.specs.Written.Routes.{Route, RouteEdge, edge_by}
use Rattle.plan_flow.specs.Written.Templates.{catches_at, catches_from, items_at, template}
use Rattle.plan_flow.specs.Written.WrittenCode.{Form, block_items, in_form, short, target_number, wide, widened, written_items}
use Rattle.plan_flow.specs.Written.WrittenConstants.{catch_index, indexed_item}
use Rattle.plan_flow.specs.declared.edge.EdgeKind.TheVariants as edges
use Rattle.same_runs.specs.FlatBodies.{caught_class, handlers_from}
use Rattle.virtual_state.specs.States.{State}
use Rattle.virtual_state.specs.declared.slot.Slot.{Slot}
use Rattle.virtual_state.specs.declared.slot.Slot.TheVariants.{Plain, Virt, Unusable}
use Rattle.written_types.proofs.BlockKinds.{BlockKind, kind_of_block, makes_before_point, makes_on_next, of_instruction, of_pad}
use Rattle.written_types.proofs.CaughtNames.{all_split, caught_same}
use Rattle.written_types.proofs.Given.{EdgesFit, Given}
use Rattle.written_types.proofs.Standing.{all_joined}
use Rattle.written_types.proofs.WrittenPool.{PoolLaws}
use Rattle.written_types.specs.Writing.{Writing, items_in, scope_in}

-- ---- handlers of points

-- each handler of a point catches throwables
abbrev CatchThrowables : Headers → List FlatHandler → Type 0
CatchThrowables headers handlers = AllByRecursion (λ (handler : FlatHandler). IsThrowable headers (caught_class handler.catch_class)) handlers

front_holds : {A : Type 0} (P : A → Type 0) (ones others : List A) → AllByRecursion P (ones ++ others) → AllByRecursion P ones
front_holds P [] others all = tt
front_holds P (one ∷ ones) others all = (all.0, front_holds P ones others all.1)

back_holds : {A : Type 0} (P : A → Type 0) (ones others : List A) → AllByRecursion P (ones ++ others) → AllByRecursion P others
back_holds P [] others all = all
back_holds P (one ∷ ones) others all = back_holds P ones others all.1

listed : (headers : Headers) (number : ℕ) (handlers : List FlatHandler)
    → AllByRecursion (λ (caught : BodyCaught). IsThrowable headers caught.class)
    (map (λ handler. record { start = number; class = caught_class handler.catch_class }) handlers)
    → CatchThrowables headers handlers
listed headers number [] all = tt
listed headers number (handler ∷ handlers) all = (all.0, listed headers number handlers all.1)

point_catches : (headers : Headers) (from : ℕ) (points : List Point) (at : ℕ) (point : Point)
    → AllByRecursion (λ (caught : BodyCaught). IsThrowable headers caught.class) (handlers_from from points)
    → slice_get points at ≡ Some point
    → CatchThrowables headers point.handlers
point_catches headers from [] at point all is = absurd (none-some point is)
point_catches headers from (first ∷ points) zero point all is =
    subst (λ (p : Point). CatchThrowables headers p.handlers) (same_Some first point is)
    (listed headers from first.handlers (front_holds (λ (caught : BodyCaught). IsThrowable headers caught.class)
    (map (λ handler. record { start = from; class = caught_class handler.catch_class }) first.handlers) (handlers_from (suc from) points) all))
point_catches headers from (first ∷ points) (suc at) point all is =
    point_catches headers (suc from) points at point
    (back_holds (λ (caught : BodyCaught). IsThrowable headers caught.class)
    (map (λ handler. record { start = from; class = caught_class handler.catch_class }) first.handlers) (handlers_from (suc from) points) all) is

-- ---- items

abbrev Catches : Headers → WItem → Type 0
Catches headers one = AllByRecursion (λ (catch : WCatch). IsThrowable headers (caught_class catch.class)) one.catches

from_handlers : (headers : Headers) (at : ℕ) (route : Route) (from : ℕ) (handlers : List FlatHandler) → CatchThrowables headers handlers
    → AllByRecursion (λ (catch : WCatch). IsThrowable headers (caught_class catch.class)) (catches_from at route from handlers)
from_handlers headers at route from [] all = tt
from_handlers headers at route from (handler ∷ handlers) all =
    by (edge_by route (edges.Handler from)) refl (from_handlers headers at route (suc from) handlers all.1) where
      by : (found : Option RouteEdge) → edge_by route (edges.Handler from) ≡ found
          → AllByRecursion (λ (catch : WCatch). IsThrowable headers (caught_class catch.class)) (catches_from at route (suc from) handlers)
          → AllByRecursion (λ (catch : WCatch). IsThrowable headers (caught_class catch.class)) (catches_from at route from (handler ∷ handlers))
      by None is rest = rw is rest
      by (Some edge) is rest = rw is (all.0, rest)

plain_items : (headers : Headers) (instrs : List WInstr) → AllByRecursion (Catches headers) (map item instrs)
plain_items headers [] = tt
plain_items headers (instr ∷ instrs) = (tt, plain_items headers instrs)

end_catches : (headers : Headers) (end : End) → AllByRecursion (Catches headers) (end_items end)
end_catches headers no_end = tt
end_catches headers (goto_end to) = (tt, tt)
end_catches headers nop_end = (tt, tt)

instruction_catches : (headers : Headers) (s : PlanScope) (at : ℕ) (point : Point) (state : State) (route : Route) → CatchThrowables headers point.handlers
    → AllByRecursion (Catches headers) (items_at s at point state route)
instruction_catches headers s at point state route all = of_instr point.instr refl where
  own : AllByRecursion (λ (catch : WCatch). IsThrowable headers (caught_class catch.class)) (catches_at at point route)
  own = from_handlers headers at route 0 point.handlers all

  of_template : (class : ℕ) (instr : Instr) → point.instr ≡ Of class instr → (found : Option (List WInstr))
      → template s at point.typed state route class instr ≡ found
      → AllByRecursion (Catches headers) (items_at s at point state route)
  of_template class instr is None none = rw (is, none) (own, tt)
  of_template class instr is (Some instrs) some = rw (is, some) (plain_items headers instrs)

  of_slot : (local : ℕ) → point.instr ≡ NullTest local → (slot : Slot) → held state local ≡ slot
      → AllByRecursion (Catches headers) (items_at s at point state route)
  of_slot local is Plain slot = rw (is, slot) (tt, (tt, (tt, (own, tt))))
  of_slot local is (Virt site) slot = rw (is, slot) tt
  of_slot local is Unusable slot = rw (is, slot) (tt, (tt, (tt, (own, tt))))

  of_instr : (i : FlatInstr) → point.instr ≡ i → AllByRecursion (Catches headers) (items_at s at point state route)
  of_instr (Of class instr) is = of_template class instr is (template s at point.typed state route class instr) refl
  of_instr (NullTest local) is = of_slot local is (held state local) refl

-- ---- all items

module _ (w : Writing) (given : Given w) (laws : PoolLaws) (fit : EdgesFit w given) where
  abbrev headers : Headers
  headers = (scope_in w).headers

  point_of : (at : ℕ) (point : Point) → point_at w.s.flat at ≡ Some point → CatchThrowables headers point.handlers
  point_of at point there = point_catches headers 0 w.s.flat.points at point given.setting.ready.typed.catch_types there

  made_catches : (at : ℕ) (state : State) (made order : List ℕ) → AllByRecursion (Catches headers) (making w.s at state made order)
  made_catches at state made order = plain_items headers (make_code w.s.flat at state made order)

  abbrev ItemsCatch : Block → Type 0
  ItemsCatch block = AllByRecursion (Catches headers) block.items

  block_catches : (one : Finished) (behind : List Finished) → BlockKind w given one behind → ItemsCatch one.block
  block_catches one behind (makes_before_point at point route there is_route is next) =
      subst ItemsCatch (sym is) (made_catches at route.state route.made route.order)
  block_catches one behind (of_instruction at point route here last) =
      subst ItemsCatch (sym here.is_block) (instruction_catches headers w.s at point (state_written route) route (point_of at point here.there))
  block_catches one behind (makes_on_next at number point route edge there is_route is_edge is next) =
      subst ItemsCatch (sym is) (made_catches edge.to edge.state edge.made edge.order)
  block_catches one behind (of_pad at number point route edge of there is_route is_edge is_pad is pads) =
      subst ItemsCatch (sym is) (made_catches edge.to edge.state edge.made edge.order)

  blocks_catch : (front back : List Finished) → w.blocks ≡ front ++ back → AllByRecursion (λ (one : Finished). ItemsCatch one.block) back
  blocks_catch front back is =
      all_split (λ (one : Finished). ItemsCatch one.block) w.blocks front back is
      (λ before behind one there. block_catches one behind (kind_of_block w given fit before behind one there))

  short_items : (blocks : List Finished) → AllByRecursion (λ (one : Finished). ItemsCatch one.block) blocks
      → AllByRecursion (Catches headers) (written_items short blocks)
  short_items [] all = tt
  short_items (one ∷ blocks) all =
      all_joined (Catches headers) (block_items short one) (written_items short blocks)
      (all_joined (Catches headers) one.block.items (end_items one.end) all.0 (end_catches headers one.end)) (short_items blocks all.1)

  -- by what their handlers name
  abbrev Named : WItem → Type 0
  Named one = AllByRecursion (λ (catch : WCatch). IsThrowable headers (caught_name w.pool (catch_index w.pool catch.class))) one.catches

  both_named : (catches : List WCatch) → AllByRecursion (λ (catch : WCatch). IsThrowable headers (caught_class catch.class)) catches
      → AllByRecursion (λ (catch : WCatch). caught_name w.pool (catch_index w.pool catch.class) ≡ caught_class catch.class) catches
      → AllByRecursion (λ (catch : WCatch). IsThrowable headers (caught_name w.pool (catch_index w.pool catch.class))) catches
  both_named [] all same = tt
  both_named (catch ∷ catches) all same = (subst (IsThrowable headers) (sym same.0) all.0, both_named catches all.1 same.1)

  all_same : AllByRecursion (λ (one : WItem). AllByRecursion (λ (catch : WCatch). caught_name w.pool (catch_index w.pool catch.class) ≡ caught_class catch.class)
      one.catches) (written_items short w.blocks)
  all_same =
      all_split (λ (one : WItem). AllByRecursion (λ (catch : WCatch). caught_name w.pool (catch_index w.pool catch.class) ≡ caught_class catch.class)
      one.catches) (written_items short w.blocks) [] (written_items short w.blocks) refl
      (λ before behind one is. caught_same w given laws before behind one is)

  all_named : (items : List WItem) → AllByRecursion (Catches headers) items
      → AllByRecursion (λ (one : WItem). AllByRecursion (λ (catch : WCatch). caught_name w.pool (catch_index w.pool catch.class) ≡ caught_class catch.class)
      one.catches) items
      → AllByRecursion Named items
  all_named [] all same = tt
  all_named (one ∷ items) all same = (both_named one.catches all.0 same.0, all_named items all.1 same.1)

  -- ---- in both forms

  widened_named : (one : WItem) → Named one → AllByRecursion Named (widened one)
  widened_named one named = by one.instr refl where
    by : (instr : WInstr) → one.instr ≡ instr → AllByRecursion Named (widened one)
    by (carried class instr) is = of_opposite (opposite_instr instr) refl where
      of_opposite : (found : Option Instr) → opposite_instr instr ≡ found → AllByRecursion Named (widened one)
      of_opposite None none = rw (is, none) (named, tt)
      of_opposite (Some other) some = rw (is, some) (tt, (tt, tt))
    by (plain instr) is = rw is (named, tt)
    by (load kind unit) is = rw is (named, tt)
    by (store kind unit) is = rw is (named, tt)
    by (makes class) is = rw is (named, tt)
    by (constructs class) is = rw is (named, tt)

  wide_named : (items : List WItem) → AllByRecursion Named items → AllByRecursion Named (flat_map widened items)
  wide_named [] all = tt
  wide_named (one ∷ items) all = all_joined Named (widened one) (flat_map widened items) (widened_named one all.0) (wide_named items all.1)

  form_named : (form : Form) (items : List WItem) → AllByRecursion Named items → AllByRecursion Named (in_form form items)
  form_named short items all = all
  form_named wide items all = wide_named items all

  written_named : (form : Form) (blocks : List Finished) → AllByRecursion Named (written_items short blocks)
      → AllByRecursion Named (written_items form blocks)
  written_named form [] all = tt
  written_named form (one ∷ blocks) all =
      all_joined Named (block_items form one) (written_items form blocks)
      (form_named form (block_items short one) (front_holds Named (block_items short one) (written_items short blocks) all))
      (written_named form blocks (back_holds Named (block_items short one) (written_items short blocks) all))

  -- ---- the table

  row_of_catches : (number n : ℕ) (catches : List WCatch)
      → AllByRecursion (λ (catch : WCatch). IsThrowable headers (caught_name w.pool (catch_index w.pool catch.class))) catches
      → AllByRecursion (λ (caught : BodyCaught). IsThrowable headers caught.class)
      (map (λ (catch : ℕ × ℕ). record { start = n; class = caught_name w.pool catch.1 })
      (map (λ (catch : WCatch). (target_number w.form w.blocks number catch.to, catch_index w.pool catch.class)) catches))
  row_of_catches number n [] all = tt
  row_of_catches number n (catch ∷ catches) all = (all.0, row_of_catches number n catches all.1)

  table_of : (n : ℕ) (items : List WItem) → AllByRecursion Named items
      → AllByRecursion (λ (caught : BodyCaught). IsThrowable headers caught.class)
      (item_table w.pool n (map_numbered (indexed_item w.s w.constructor w.pool w.form w.blocks) n items))
  table_of n [] all = tt
  table_of n (one ∷ items) all =
      all_joined (λ (caught : BodyCaught). IsThrowable headers caught.class) _
      (item_table w.pool (suc n) (map_numbered (indexed_item w.s w.constructor w.pool w.form w.blocks) (suc n) items))
      (row_of_catches n n one.catches all.0) (table_of (suc n) items all.1)

  -- Each entry of the exception table catches throwables.
  pub catch_types : AllByRecursion (λ (caught : BodyCaught). IsThrowable (scope_in w).headers caught.class) (item_table w.pool 0 (items_in w))
  catch_types =
      table_of 0 (written_items w.form w.blocks)
      (written_named w.form w.blocks (all_named (written_items short w.blocks) (short_items w.blocks (blocks_catch [] w.blocks refl)) all_same))
