-- The items of written code that are of a class are instructions of the flat code; those that are of none name no constant.
use Rattle.std.proofs.Common.{◌≡◌, ◌+◌, ℕ, zero, suc, Bool, true, false, List, [], ◌∷◌, ◌++◌, map, slice_get, flat_map, Option, Some, None, refl, sym, ap, subst, ◌∙◌, arith}
use Rattle.std.specs.List.{AllByRecursion}
use Rattle.class_model.specs.Pool.{Constants}
use Rattle.class_model.specs.declared.descriptor.Kind.TheVariants as kinds
use Rattle.class_model.specs.declared.instr.Imm.TheVariants as imms
use Rattle.class_model.specs.declared.instr.Instr.{Instr}
use Rattle.class_model.specs.declared.instr.Instr.TheVariants.{Const}
use Rattle.code_drafts.specs.ItemPlaces.{places_in}
use Rattle.code_drafts.specs.Laws.GoodBlocks.{all_flat, all_reached}
use Rattle.code_drafts.specs.Laws.ReachedStarts.{finished}
use Rattle.code_drafts.specs.Laws.SimpleParts.{HoldsOfSimple, OptionHolds, copied_locals_hold, copied_object_holds, each_holds, loaded_entry_holds, loaded_fields_hold, saves_hold, template_holds}
use Rattle.code_drafts.specs.Laws.WrittenPlaces.{plain_places}
use Rattle.flow_code.specs.FlatCode.{point_at}
use Rattle.flow_code.specs.declared.point.FlatInstr.{FlatInstr}
use Rattle.flow_code.specs.declared.point.FlatInstr.TheVariants.{Of, NullTest}
use Rattle.flow_code.specs.declared.point.Point.{Point}
use Rattle.flow_code.specs.declared.point.Site.{Site}
use Rattle.making_code.specs.Items.{WInstr, WItem, carried, constructs, item, plain, store}
use Rattle.making_code.specs.MakeCode.{copy_locals_from, copy_object, enters, entries_at, from_lowest, load_entry, load_fields_from, local_slots_in, make_code, make_one, save, saved}
use Rattle.making_code.specs.Units.{object_unit}
use Rattle.plan_flow.specs.Laws.WrittenBlocks.{holds_of_both}
use Rattle.plan_flow.specs.PlanScope.{PlanScope}
use Rattle.plan_flow.specs.PlanSlots.{held}
use Rattle.plan_flow.specs.Written.Blocks.{Block, BlockOf, before_point, blocks_of, handler_pad, handler_pad_of, handler_pads, instruction_block, is_decided, jump_pad, jump_pad_of, jump_pads, make_block, next_block, of_reached, on_next_edge, point_blocks, state_written}
use Rattle.plan_flow.specs.Written.Finish.{End, end_items, end_of, finish, goto_end, no_end, nop_end}
use Rattle.plan_flow.specs.Written.Routes.{Route, RouteEdge, Routes, edge_by}
use Rattle.plan_flow.specs.Written.Templates.{as_it_is, items_at, made_on_jump, template}
use Rattle.plan_flow.specs.Written.WrittenCode.{short, written_items}
use Rattle.plan_flow.specs.declared.edge.EdgeKind.{EdgeKind}
use Rattle.plan_flow.specs.declared.edge.EdgeKind.TheVariants as edges
use Rattle.virtual_state.specs.States.{State, object_of}
use Rattle.virtual_state.specs.declared.slot.Slot.{Slot}
use Rattle.virtual_state.specs.declared.slot.Slot.TheVariants.{Plain, Virt, Unusable}
use Rattle.virtual_state.specs.declared.slot.VObject.{VObject}

-- it is the instruction of a point
pub record IsOfPoint (s : PlanScope) (class : ℕ) (instr : Instr) : Type 0 where
  pub number : ℕ
  pub point : Point
  pub is_point : slice_get s.flat.points number ≡ Some point
  pub is : point.instr ≡ Of class instr

abbrev pub IsOfFlat : PlanScope → WInstr → Type 0
IsOfFlat s (carried class instr) = IsOfPoint s class instr
IsOfFlat s (plain instr) = (pool : Constants) → places_in pool instr ≡ plain_places instr
IsOfFlat s instr = Unit {0}

simple_of_flat : (s : PlanScope) → HoldsOfSimple (IsOfFlat s)
simple_of_flat s = record {
  loads = λ kind unit. tt;
  stores = λ kind unit. tt;
  consts = λ value form pool. refl;
  pures = λ opcode form pool. refl;
  shuffles = λ opcode form pool. refl;
}

module _ (s : PlanScope) where
  abbrev AreOfFlat : List WInstr → Type 0
  AreOfFlat instrs = AllByRecursion (IsOfFlat s) instrs

  abbrev pub ItemsOfFlat : List WItem → Type 0
  ItemsOfFlat items = AllByRecursion (λ (one : WItem). IsOfFlat s one.instr) items

  as_items : (instrs : List WInstr) → AreOfFlat instrs → ItemsOfFlat (map item instrs)
  as_items [] all = tt
  as_items (instr ∷ instrs) all = (all.0, as_items instrs all.1)

  both_of_flat : (left right : List WInstr) → AreOfFlat left → AreOfFlat right → AreOfFlat (left ++ right)
  both_of_flat left right one other = holds_of_both (IsOfFlat s) left right one other

  -- ---- make code

  enters_of_flat : (site depth : ℕ) → AreOfFlat (enters site depth)
  enters_of_flat site zero = tt
  enters_of_flat site (suc depth) = (tt, ((λ pool. refl), enters_of_flat site depth))

  object_of_flat : (state : State) (site : ℕ) → AreOfFlat (make_one s.flat state site)
  object_of_flat state site = by (object_of state.objects site) refl (slice_get s.flat.sites site) refl where
    by : (object : Option VObject) → object_of state.objects site ≡ object → (one : Option Site) → slice_get s.flat.sites site ≡ one
        → AreOfFlat (make_one s.flat state site)
    by None none one is = rw (none) tt
    by (Some object) some None none = rw (some, none) tt
    by (Some object) some (Some one) is =
        rw (some, is) (
          tt,
          (
            λ pool. refl,
            both_of_flat (load_fields_from object.site 0 one.fields object.fields)
                (plain (Const imms.Null) ∷ constructs one.class ∷ store kinds.Ref (object_unit object.site) ∷ enters object.site object.depth)
                (loaded_fields_hold (IsOfFlat s) (simple_of_flat s) object.site 0 one.fields object.fields)
                ((λ pool. refl), (tt, (tt, enters_of_flat object.site object.depth))),
          ),
        )

  code_of_flat : (at : ℕ) (state : State) (sites order : List ℕ) → AreOfFlat (make_code s.flat at state sites order)
  code_of_flat at state sites order =
      both_of_flat (((map save (saved sites (entries_at s.flat at state)) ++ flat_map (make_one s.flat state) order)
      ++ copy_locals_from sites 0 (local_slots_in (point_at s.flat at) state)) ++ flat_map (copy_object sites) state.objects)
      (flat_map (load_entry sites) (from_lowest sites (entries_at s.flat at state)))
      (both_of_flat ((map save (saved sites (entries_at s.flat at state)) ++ flat_map (make_one s.flat state) order)
      ++ copy_locals_from sites 0 (local_slots_in (point_at s.flat at) state)) (flat_map (copy_object sites) state.objects)
      (both_of_flat (map save (saved sites (entries_at s.flat at state)) ++ flat_map (make_one s.flat state) order)
      (copy_locals_from sites 0 (local_slots_in (point_at s.flat at) state))
      (both_of_flat (map save (saved sites (entries_at s.flat at state))) (flat_map (make_one s.flat state) order)
      (saves_hold (IsOfFlat s) (simple_of_flat s) (saved sites (entries_at s.flat at state)))
      (each_holds (IsOfFlat s) (simple_of_flat s) (make_one s.flat state) order (object_of_flat state)))
      (copied_locals_hold (IsOfFlat s) (simple_of_flat s) sites 0 (local_slots_in (point_at s.flat at) state)))
      (each_holds (IsOfFlat s) (simple_of_flat s) (copy_object sites) state.objects (copied_object_holds (IsOfFlat s) (simple_of_flat s) sites)))
      (each_holds (IsOfFlat s) (simple_of_flat s) (load_entry sites) (from_lowest sites (entries_at s.flat at state))
      (loaded_entry_holds (IsOfFlat s) (simple_of_flat s) sites))

  abbrev BlockOfFlat : Block → Type 0
  BlockOfFlat block = ItemsOfFlat block.items

  made_of_flat : (of : BlockOf) (at : ℕ) (state : State) (made order : List ℕ) (leaves : Option ℕ)
      → AllByRecursion BlockOfFlat (make_block s of at state made order leaves)
  made_of_flat of at state [] order leaves = tt
  made_of_flat of at state (site ∷ sites) order leaves =
      (as_items (make_code s.flat at state (site ∷ sites) order) (code_of_flat at state (site ∷ sites) order), tt)

  -- ---- a point

  module _ (at : ℕ) (point : Point) (route : Route) (is_point : slice_get s.flat.points at ≡ Some point) where
    jump_of_flat : AreOfFlat (made_on_jump s route)
    jump_of_flat = by (edge_by route (edges.Jump 0)) refl where
      by : (edge : Option RouteEdge) → edge_by route (edges.Jump 0) ≡ edge → AreOfFlat (made_on_jump s route)
      by None is = rw (is) tt
      by (Some edge) is = rw (is) (code_of_flat edge.to edge.state edge.made edge.order)

    instruction_of_flat : (instr : FlatInstr) → point.instr ≡ instr → ItemsOfFlat (items_at s at point (state_written route) route)
    instruction_of_flat (NullTest local) is = by (held (state_written route) local) refl where
      by : (slot : Slot) → held (state_written route) local ≡ slot → ItemsOfFlat (items_at s at point (state_written route) route)
      by Plain told = rw (is, told) (tt, ((λ pool. refl), ((λ pool. refl), ((λ pool. refl), tt))))
      by Unusable told = rw (is, told) (tt, ((λ pool. refl), ((λ pool. refl), ((λ pool. refl), tt))))
      by (Virt site) told = rw (is, told) tt
    instruction_of_flat (Of class instr) is = by (template s at point.typed (state_written route) route class instr) refl where
      by : (found : Option (List WInstr)) → template s at point.typed (state_written route) route class instr ≡ found
          → ItemsOfFlat (items_at s at point (state_written route) route)
      by None none = subst ItemsOfFlat (sym written) (record { number = at; point = point; is_point = is_point; is = is }, tt) where
        written : items_at s at point (state_written route) route ≡ as_it_is at point route class instr
        written = rw (is, none) refl
      by (Some instrs) some =
          subst ItemsOfFlat (sym written) (as_items instrs (subst (OptionHolds (IsOfFlat s) (simple_of_flat s)) some
          (template_holds (IsOfFlat s) (simple_of_flat s) s at point.typed (state_written route) route class instr (λ told. jump_of_flat)))) where
            written : items_at s at point (state_written route) route ≡ map item instrs
            written = rw (is, some) refl

    point_of_flat : AllByRecursion BlockOfFlat (point_blocks s at point route)
    point_of_flat =
        holds_of_both BlockOfFlat (make_block s (before_point at) at route.state route.made route.order None ++
        (instruction_block s at point route ∷ []))
        (next_block s at (edge_by route edges.Next))
        (holds_of_both BlockOfFlat (make_block s (before_point at) at route.state route.made route.order None)
        (instruction_block s at point route ∷ [])
        (made_of_flat (before_point at) at route.state route.made route.order None) (instruction_of_flat point.instr refl, tt))
        (of_next (edge_by route edges.Next)) where
          of_next : (edge : Option RouteEdge) → AllByRecursion BlockOfFlat (next_block s at edge)
          of_next None = tt
          of_next (Some edge) = made_of_flat (on_next_edge at) edge.to edge.state edge.made edge.order None

    jump_pads_of_flat : AllByRecursion BlockOfFlat (jump_pads s at point route)
    jump_pads_of_flat =
        all_flat BlockOfFlat (λ edge. jump_pad_of s at (is_decided point route) edge edge.by) route.edges (λ number edge is.
        of_kind edge (is_decided point route) edge.by) where
          of_kind : (edge : RouteEdge) (told : Bool) (by : EdgeKind) → AllByRecursion BlockOfFlat (jump_pad_of s at told edge by)
          of_kind edge false (edges.Jump number) = made_of_flat (jump_pad at number) edge.to edge.state edge.made edge.order (Some edge.to)
          of_kind edge true (edges.Jump number) = tt
          of_kind edge false edges.Next = tt
          of_kind edge true edges.Next = tt
          of_kind edge false (edges.Handler number) = tt
          of_kind edge true (edges.Handler number) = tt

    handler_pads_of_flat : AllByRecursion BlockOfFlat (handler_pads s at point route)
    handler_pads_of_flat =
        all_flat BlockOfFlat (λ edge. handler_pad_of s at edge edge.by) route.edges (λ number edge is. of_kind edge edge.by) where
          of_kind : (edge : RouteEdge) (by : EdgeKind) → AllByRecursion BlockOfFlat (handler_pad_of s at edge by)
          of_kind edge (edges.Handler number) = made_of_flat (handler_pad at number) edge.to edge.state edge.made edge.order (Some edge.to)
          of_kind edge edges.Next = tt
          of_kind edge (edges.Jump number) = tt

  -- ---- all

  blocks_of_flat : (routes : Routes) → AllByRecursion BlockOfFlat (blocks_of s routes)
  blocks_of_flat routes =
      holds_of_both BlockOfFlat (of_reached (point_blocks s) 0 s.flat.points routes ++ of_reached (jump_pads s) 0 s.flat.points routes)
      (of_reached (handler_pads s) 0 s.flat.points routes)
      (holds_of_both BlockOfFlat (of_reached (point_blocks s) 0 s.flat.points routes) (of_reached (jump_pads s) 0 s.flat.points routes)
      (all_reached BlockOfFlat (point_blocks s) 0 s.flat.points routes (λ number point route is is_route.
      point_of_flat (0 + number) point route (there number is)))
      (all_reached BlockOfFlat (jump_pads s) 0 s.flat.points routes (λ number point route is is_route.
      jump_pads_of_flat (0 + number) point route (there number is))))
      (all_reached BlockOfFlat (handler_pads s) 0 s.flat.points routes (λ number point route is is_route.
      handler_pads_of_flat (0 + number) point route (there number is))) where
        there : {point : Point} (number : ℕ) → slice_get s.flat.points number ≡ Some point → slice_get s.flat.points (0 + number) ≡ Some point
        there number is = let zeroth : 0 + number ≡ number = omega arith in ap (slice_get s.flat.points) zeroth ∙ is

  finished_of_flat : (blocks : List Block) → AllByRecursion BlockOfFlat blocks → ItemsOfFlat (written_items short (finish s.flat blocks))
  finished_of_flat [] all = tt
  finished_of_flat (block ∷ blocks) all =
      holds_of_both Good (block.items ++ end_items (end_of s.flat block (finish s.flat blocks))) (written_items short (finish s.flat blocks))
      (holds_of_both Good block.items (end_items (end_of s.flat block (finish s.flat blocks))) all.0
      (of_end (end_of s.flat block (finish s.flat blocks))))
      (finished_of_flat blocks all.1) where
        Good : WItem → Type 0
        Good one = IsOfFlat s one.instr

        of_end : (end : End) → AllByRecursion (λ (one : WItem). IsOfFlat s one.instr) (end_items end)
        of_end no_end = tt
        of_end nop_end = ((λ pool. refl), tt)
        of_end (goto_end to) = ((λ pool. refl), tt)

  -- Each written item is so.
  pub written_of_flat : (routes : Routes) → ItemsOfFlat (written_items short (finished s routes))
  written_of_flat routes = finished_of_flat (blocks_of s routes) (blocks_of_flat routes)
