-- Written items in the wide form: a conditional jump of the flat code, which has no handler, is over a goto there, and no other item is more than itself.
use Rattle.std.proofs.Common.{is_some, arith, ◌≡◌, ◌+◌, ℕ, zero, suc, Bool, true, false, List, [], ◌∷◌, ◌++◌, length, map, slice_get, flat_map, Option, Some, None, refl, sym, subst, if◌then◌else◌, ap, ◌∙◌}
use Rattle.std.specs.List.{AllByRecursion}
use Rattle.std.proofs.lemmas.Bool.{false≢true}
use Rattle.class_model.specs.declared.descriptor.Kind.TheVariants as kinds
use Rattle.class_model.specs.declared.instr.Imm.TheVariants as imms
use Rattle.class_model.specs.declared.instr.Instr.{Instr}
use Rattle.class_model.specs.declared.instr.Instr.TheVariants.{Const}
use Rattle.code_drafts.specs.Laws.QuietJumps.{jumps_quietly}
use Rattle.code_drafts.specs.Laws.ReachedStarts.{finished}
use Rattle.code_drafts.specs.Laws.GoodBlocks.{all_flat, all_reached}
use Rattle.code_drafts.specs.Laws.SimpleParts.{HoldsOfSimple, OptionHolds, copied_locals_hold, copied_object_holds, each_holds, loaded_entry_holds, loaded_fields_hold, saves_hold, template_holds}
use Rattle.flow_code.specs.FlatCode.{point_at}
use Rattle.flow_code.specs.declared.point.FlatInstr.{FlatInstr}
use Rattle.flow_code.specs.declared.point.FlatInstr.TheVariants.{Of, NullTest}
use Rattle.flow_code.specs.declared.point.Point.{Point}
use Rattle.flow_code.specs.declared.point.Site.{Site}
use Rattle.making_code.specs.Items.{WInstr, WItem, WTarget, ahead, carried, constructs, item, load, makes, plain, store, to_handler_pad, to_jump_pad, to_point}
use Rattle.making_code.specs.MakeCode.{copy_locals_from, copy_object, enters, entries_at, from_lowest, load_entry, load_fields_from, local_slots_in, make_code, make_one, save, saved}
use Rattle.making_code.specs.Opposites.{opposite_instr}
use Rattle.making_code.specs.Units.{object_unit}
use Rattle.plan_flow.specs.Laws.WrittenBlocks.{holds_of_both}
use Rattle.plan_flow.specs.PlanScope.{PlanScope}
use Rattle.plan_flow.specs.PlanSlots.{held}
use Rattle.plan_flow.specs.PlanTable.{targets_at}
use Rattle.plan_flow.specs.Plans.{Plan}
use Rattle.plan_flow.specs.Written.Blocks.{Block, BlockOf, before_point, blocks_of, handler_pad, handler_pad_of, handler_pads, instruction_block, is_decided, jump_pad, jump_pad_of, jump_pads, make_block, next_block, of_reached, on_next_edge, point_blocks, state_written}
use Rattle.plan_flow.specs.Written.Finish.{End, end_items, end_of, finish, goto_end, no_end, nop_end}
use Rattle.plan_flow.specs.Written.Routes.{IsRouted, Route, RouteEdge, Routes, edge_by}
use Rattle.plan_flow.specs.Written.Templates.{as_it_is, catches_at, items_at, jump_target, jump_targets, made_on_jump, null_test, template, to_or_pad}
use Rattle.plan_flow.specs.Written.WrittenCode.{over_goto, short, written_items}
use Rattle.plan_flow.specs.Written.WrittenConstants.{is_near}
use Rattle.plan_flow.specs.declared.edge.EdgeKind.{EdgeKind}
use Rattle.plan_flow.specs.declared.edge.EdgeKind.TheVariants as edges
use Rattle.virtual_state.specs.States.{State, object_of}
use Rattle.virtual_state.specs.declared.slot.Slot.{Slot}
use Rattle.virtual_state.specs.declared.slot.Slot.TheVariants.{Plain, Virt, Unusable}
use Rattle.virtual_state.specs.declared.slot.VObject.{VObject}
use Rattle.written_frames.specs.WideItems.{KeepsWidth, jump_of}

-- ---- one item

-- what is none of a class is no conditional jump
abbrev IsSteady : WInstr → Type 0
IsSteady (plain instr) = opposite_instr instr ≡ None
IsSteady other = Unit {0}

over_width : (one : WItem) (class : ℕ) (jump : Option Instr) → (if is_some jump then 2 else 1) ≡ length (over_goto one class jump)
over_width one class None = refl
over_width one class (Some instr) = refl

-- and it has no handler where it is a conditional jump
pub record Keeps (one : WItem) : Type 0 where
  pub width : KeepsWidth one
  pub none_caught : is_some (jump_of one) ≡ true → one.catches ≡ []

-- an item without handlers, and one that is no conditional jump
alone : (one : WItem) → one.catches ≡ [] → KeepsWidth one → Keeps one
alone one none keeps = record { width = keeps; none_caught = λ jumps. none }

no_jump : (one : WItem) → jump_of one ≡ None → KeepsWidth one → Keeps one
no_jump one none keeps = record { width = keeps; none_caught = λ jumps. absurd (false≢true (sym (ap is_some none) ∙ jumps)) }

steady_width : (instr : WInstr) → IsSteady instr → KeepsWidth (item instr)
steady_width (carried class instr) steady = over_width (item (carried class instr)) class (opposite_instr instr)
steady_width (plain instr) steady = rw steady refl
steady_width (load kind unit) steady = refl
steady_width (store kind unit) steady = refl
steady_width (makes class) steady = refl
steady_width (constructs class) steady = refl

steady_keeps : (instr : WInstr) → IsSteady instr → Keeps (item instr)
steady_keeps instr steady = alone (item instr) refl (steady_width instr steady)

steady_simple : HoldsOfSimple IsSteady
steady_simple = record {
  loads = λ kind unit. tt;
  stores = λ kind unit. tt;
  consts = λ value form. refl;
  pures = λ opcode form. refl;
  shuffles = λ opcode form. refl;
}

-- a jump of the flat code leads to a point or a pad
far_pad : (made : List ℕ) (to at number : ℕ) → is_near (to_or_pad made (to_point to) (to_jump_pad at number) ∷ []) ≡ false
far_pad [] to at number = refl
far_pad (site ∷ sites) to at number = refl

far_one : (at : ℕ) (route : Route) (number to : ℕ) → is_near (jump_target at route number to ∷ []) ≡ false
far_one at route number to = by (edge_by route (edges.Jump number)) refl where
  by : (edge : Option RouteEdge) → edge_by route (edges.Jump number) ≡ edge → is_near (jump_target at route number to ∷ []) ≡ false
  by None is = rw is refl
  by (Some edge) is = rw is (far_pad edge.made edge.to at number)

far_more : (one other : WTarget) (others : List WTarget) → is_near (one ∷ other ∷ others) ≡ false
far_more (to_point to) other others = refl
far_more (to_jump_pad at number) other others = refl
far_more (to_handler_pad at number) other others = refl
far_more (ahead count) other others = refl

far_all : (at : ℕ) (route : Route) (number : ℕ) (tos : List ℕ) → is_near (jump_targets at route number tos) ≡ false
far_all at route number [] = refl
far_all at route number (to ∷ []) = far_one at route number to
far_all at route number (to ∷ other ∷ others) = far_more (jump_target at route number to) _ _

module _ (s : PlanScope) where
  abbrev AreSteady : List WInstr → Type 0
  AreSteady instrs = AllByRecursion IsSteady instrs

  abbrev AllKeep : List WItem → Type 0
  AllKeep items = AllByRecursion Keeps items

  as_items : (instrs : List WInstr) → AreSteady instrs → AllKeep (map item instrs)
  as_items [] all = tt
  as_items (instr ∷ instrs) all = (steady_keeps instr all.0, as_items instrs all.1)

  both_steady : (left right : List WInstr) → AreSteady left → AreSteady right → AreSteady (left ++ right)
  both_steady left right one other = holds_of_both IsSteady left right one other

  -- ---- make code

  enters_steady : (site depth : ℕ) → AreSteady (enters site depth)
  enters_steady site zero = tt
  enters_steady site (suc depth) = (tt, (refl, enters_steady site depth))

  object_steady : (state : State) (site : ℕ) → AreSteady (make_one s.flat state site)
  object_steady state site = by (object_of state.objects site) refl (slice_get s.flat.sites site) refl where
    by : (object : Option VObject) → object_of state.objects site ≡ object → (one : Option Site) → slice_get s.flat.sites site ≡ one
        → AreSteady (make_one s.flat state site)
    by None none one is = rw (none) tt
    by (Some object) some None none = rw (some, none) tt
    by (Some object) some (Some one) is =
        rw (some, is) (
          tt,
          (
            refl,
            both_steady (load_fields_from object.site 0 one.fields object.fields)
                (plain (Const imms.Null) ∷ constructs one.class ∷ store kinds.Ref (object_unit object.site) ∷ enters object.site object.depth)
                (loaded_fields_hold IsSteady steady_simple object.site 0 one.fields object.fields)
                (refl, (tt, (tt, enters_steady object.site object.depth))),
          ),
        )

  code_steady : (at : ℕ) (state : State) (sites order : List ℕ) → AreSteady (make_code s.flat at state sites order)
  code_steady at state sites order =
      both_steady (((map save (saved sites (entries_at s.flat at state)) ++ flat_map (make_one s.flat state) order)
      ++ copy_locals_from sites 0 (local_slots_in (point_at s.flat at) state)) ++ flat_map (copy_object sites) state.objects)
      (flat_map (load_entry sites) (from_lowest sites (entries_at s.flat at state)))
      (both_steady ((map save (saved sites (entries_at s.flat at state)) ++ flat_map (make_one s.flat state) order)
      ++ copy_locals_from sites 0 (local_slots_in (point_at s.flat at) state)) (flat_map (copy_object sites) state.objects)
      (both_steady (map save (saved sites (entries_at s.flat at state)) ++ flat_map (make_one s.flat state) order)
      (copy_locals_from sites 0 (local_slots_in (point_at s.flat at) state))
      (both_steady (map save (saved sites (entries_at s.flat at state))) (flat_map (make_one s.flat state) order)
      (saves_hold IsSteady steady_simple (saved sites (entries_at s.flat at state)))
      (each_holds IsSteady steady_simple (make_one s.flat state) order (object_steady state)))
      (copied_locals_hold IsSteady steady_simple sites 0 (local_slots_in (point_at s.flat at) state)))
      (each_holds IsSteady steady_simple (copy_object sites) state.objects (copied_object_holds IsSteady steady_simple sites)))
      (each_holds IsSteady steady_simple (load_entry sites) (from_lowest sites (entries_at s.flat at state))
      (loaded_entry_holds IsSteady steady_simple sites))

  abbrev BlockKeeps : Block → Type 0
  BlockKeeps block = AllKeep block.items

  made_keeps : (of : BlockOf) (at : ℕ) (state : State) (made order : List ℕ) (leaves : Option ℕ)
      → AllByRecursion BlockKeeps (make_block s of at state made order leaves)
  made_keeps of at state [] order leaves = tt
  made_keeps of at state (site ∷ sites) order leaves =
      (as_items (make_code s.flat at state (site ∷ sites) order) (code_steady at state (site ∷ sites) order), tt)

  -- ---- a point

  module _ (at : ℕ) (point : Point) (route : Route)
      (quiet : (class : ℕ) (instr : Instr) → point.instr ≡ Of class instr → is_some (opposite_instr instr) ≡ true → catches_at at point route ≡ []) where
    jump_steady : AreSteady (made_on_jump s route)
    jump_steady = by (edge_by route (edges.Jump 0)) refl where
      by : (edge : Option RouteEdge) → edge_by route (edges.Jump 0) ≡ edge → AreSteady (made_on_jump s route)
      by None is = rw (is) tt
      by (Some edge) is = rw (is) (code_steady edge.to edge.state edge.made edge.order)

    carried_keeps : (class : ℕ) (instr : Instr) → point.instr ≡ Of class instr → AllKeep (as_it_is at point route class instr)
    carried_keeps class instr is = (
      record {
        width = rw (far_all at route 0 (targets_at point.instr)) (over_width _ class (opposite_instr instr));
        none_caught = λ jumps.
            quiet class instr is
            (sym (ap (λ (b : Bool). is_some (if b then None else opposite_instr instr)) (far_all at route 0 (targets_at point.instr))) ∙ jumps);
      },
      tt,
    )

    test_keeps : (local : ℕ) → AllKeep (null_test at point route local)
    test_keeps local =
        (alone _ refl refl, (alone _ refl refl, (alone _ refl refl, (no_jump _ refl refl, tt))))

    instruction_keeps : (instr : FlatInstr) → point.instr ≡ instr → AllKeep (items_at s at point (state_written route) route)
    instruction_keeps (NullTest local) is = by (held (state_written route) local) refl where
      by : (slot : Slot) → held (state_written route) local ≡ slot → AllKeep (items_at s at point (state_written route) route)
      by Plain told = rw (is, told) (test_keeps local)
      by Unusable told = rw (is, told) (test_keeps local)
      by (Virt site) told = rw (is, told) tt
    instruction_keeps (Of class instr) is = by (template s at point.typed (state_written route) route class instr) refl where
      by : (found : Option (List WInstr)) → template s at point.typed (state_written route) route class instr ≡ found
          → AllKeep (items_at s at point (state_written route) route)
      by None none = subst AllKeep (sym written) (carried_keeps class instr is) where
        written : items_at s at point (state_written route) route ≡ as_it_is at point route class instr
        written = rw (is, none) refl
      by (Some instrs) some =
          subst AllKeep (sym written) (as_items instrs (subst (OptionHolds IsSteady steady_simple) some
          (template_holds IsSteady steady_simple s at point.typed (state_written route) route class instr (λ told. jump_steady)))) where
            written : items_at s at point (state_written route) route ≡ map item instrs
            written = rw (is, some) refl

    point_keeps : AllByRecursion BlockKeeps (point_blocks s at point route)
    point_keeps =
        holds_of_both BlockKeeps (make_block s (before_point at) at route.state route.made route.order None ++
        (instruction_block s at point route ∷ []))
        (next_block s at (edge_by route edges.Next))
        (holds_of_both BlockKeeps (make_block s (before_point at) at route.state route.made route.order None)
        (instruction_block s at point route ∷ [])
        (made_keeps (before_point at) at route.state route.made route.order None) (instruction_keeps point.instr refl, tt))
        (of_next (edge_by route edges.Next)) where
          of_next : (edge : Option RouteEdge) → AllByRecursion BlockKeeps (next_block s at edge)
          of_next None = tt
          of_next (Some edge) = made_keeps (on_next_edge at) edge.to edge.state edge.made edge.order None

    jump_pads_keep : AllByRecursion BlockKeeps (jump_pads s at point route)
    jump_pads_keep =
        all_flat BlockKeeps (λ edge. jump_pad_of s at (is_decided point route) edge edge.by) route.edges (λ number edge is.
        of_kind edge (is_decided point route) edge.by) where
          of_kind : (edge : RouteEdge) (told : Bool) (by : EdgeKind) → AllByRecursion BlockKeeps (jump_pad_of s at told edge by)
          of_kind edge false (edges.Jump number) = made_keeps (jump_pad at number) edge.to edge.state edge.made edge.order (Some edge.to)
          of_kind edge true (edges.Jump number) = tt
          of_kind edge false edges.Next = tt
          of_kind edge true edges.Next = tt
          of_kind edge false (edges.Handler number) = tt
          of_kind edge true (edges.Handler number) = tt

    handler_pads_keep : AllByRecursion BlockKeeps (handler_pads s at point route)
    handler_pads_keep =
        all_flat BlockKeeps (λ edge. handler_pad_of s at edge edge.by) route.edges (λ number edge is. of_kind edge edge.by) where
          of_kind : (edge : RouteEdge) (by : EdgeKind) → AllByRecursion BlockKeeps (handler_pad_of s at edge by)
          of_kind edge (edges.Handler number) = made_keeps (handler_pad at number) edge.to edge.state edge.made edge.order (Some edge.to)
          of_kind edge edges.Next = tt
          of_kind edge (edges.Jump number) = tt

  -- ---- all

  module _ (plan : Plan) (routes : Routes) (routed : IsRouted s plan routes) where
    quiet_at : (number : ℕ) (point : Point) (route : Route)
        → slice_get s.flat.points number ≡ Some point
        → slice_get routes number ≡ Some (Some route)
        → (class : ℕ) (instr : Instr)
        → point.instr ≡ Of class instr
        → is_some (opposite_instr instr) ≡ true
        → catches_at (0 + number) point route ≡ []
    quiet_at number point route is is_route class instr told jumps =
        let here : number ≡ 0 + number = omega arith in
        subst (λ (n : ℕ). catches_at n point route ≡ []) here (jumps_quietly s plan routes number point route class instr routed is is_route told jumps)

    blocks_keep : AllByRecursion BlockKeeps (blocks_of s routes)
    blocks_keep =
        holds_of_both BlockKeeps (of_reached (point_blocks s) 0 s.flat.points routes ++ of_reached (jump_pads s) 0 s.flat.points routes)
        (of_reached (handler_pads s) 0 s.flat.points routes)
        (holds_of_both BlockKeeps (of_reached (point_blocks s) 0 s.flat.points routes) (of_reached (jump_pads s) 0 s.flat.points routes)
        (all_reached BlockKeeps (point_blocks s) 0 s.flat.points routes (λ number point route is is_route.
        point_keeps (0 + number) point route (quiet_at number point route is is_route)))
        (all_reached BlockKeeps (jump_pads s) 0 s.flat.points routes (λ number point route is is_route.
        jump_pads_keep (0 + number) point route (quiet_at number point route is is_route))))
        (all_reached BlockKeeps (handler_pads s) 0 s.flat.points routes (λ number point route is is_route.
        handler_pads_keep (0 + number) point route (quiet_at number point route is is_route)))

  finished_keep : (blocks : List Block) → AllByRecursion BlockKeeps blocks → AllKeep (written_items short (finish s.flat blocks))
  finished_keep [] all = tt
  finished_keep (block ∷ blocks) all =
      holds_of_both Keeps (block.items ++ end_items (end_of s.flat block (finish s.flat blocks))) (written_items short (finish s.flat blocks))
      (holds_of_both Keeps block.items (end_items (end_of s.flat block (finish s.flat blocks))) all.0
      (of_end (end_of s.flat block (finish s.flat blocks))))
      (finished_keep blocks all.1) where
        of_end : (end : End) → AllKeep (end_items end)
        of_end no_end = tt
        of_end nop_end = (alone _ refl refl, tt)
        of_end (goto_end to) = (alone _ refl refl, tt)

  -- Each written item is so.
  pub written_keep : (plan : Plan) (routes : Routes) → IsRouted s plan routes → AllKeep (written_items short (finished s routes))
  written_keep plan routes routed = finished_keep (blocks_of s routes) (blocks_keep plan routes routed)
