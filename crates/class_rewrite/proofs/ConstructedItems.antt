-- Written code that calls the field constructor of a class makes an object of it: make code has both.
use Rattle.std.proofs.Common.{◌≡◌, ◌⊎◌, inl, inr, ◌||◌, ◌+◌, ℕ, zero, suc, Bool, true, false, List, [], ◌∷◌, ◌++◌, map, slice_get, flat_map, if◌then◌else◌, Option, Some, None, refl, sym, subst, ap, ◌∙◌}
use Rattle.std.specs.List.{AllByRecursion}
use Rattle.std.proofs.lemmas.Bool.{false≢true}
use Rattle.std.proofs.lemmas.List.{map-append}
use Rattle.std.proofs.lemmas.Option.{none-some, same_Some}
use Rattle.class_model.specs.declared.descriptor.Kind.TheVariants as kinds
use Rattle.class_model.specs.declared.frame.Frame.{Frame}
use Rattle.class_model.specs.declared.instr.Imm.TheVariants as imms
use Rattle.class_model.specs.declared.instr.Instr.{Instr}
use Rattle.class_model.specs.declared.instr.Instr.TheVariants.{Const, Enter, Goto, IfNull, IfSame, Nop, Shuffle, Throw}
use Rattle.class_model.specs.declared.opcodes.TheConstants.{DUP, IFNONNULL}
use Rattle.class_tree.specs.Headers.{Name}
use Rattle.code_drafts.specs.Laws.GoodBlocks.{all_flat, all_reached}
use Rattle.code_drafts.specs.Laws.SimpleParts.{HoldsOfSimple, OptionHolds, copied_locals_hold, copied_object_holds, each_holds, loaded_entry_holds, loaded_fields_hold, popped_holds, saves_hold, template_holds}
use Rattle.flow_code.specs.FlatCode.{point_at}
use Rattle.flow_code.specs.declared.point.FlatInstr.{FlatInstr}
use Rattle.flow_code.specs.declared.point.FlatInstr.TheVariants.{Of, NullTest}
use Rattle.flow_code.specs.declared.point.Point.{Point}
use Rattle.flow_code.specs.declared.point.Site.{Site}
use Rattle.making_code.specs.Items.{WInstr, WItem, carried, constructs, item, load, makes, plain, store}
use Rattle.making_code.specs.MakeCode.{copy_locals_from, copy_object, enters, entries_at, from_lowest, load_entry, load_fields_from, local_slots_in, make_code, make_one, save, saved}
use Rattle.making_code.specs.Opposites.{opposite_instr}
use Rattle.making_code.specs.Units.{object_unit, own}
use Rattle.plan_flow.specs.Laws.WrittenBlocks.{holds_of_both}
use Rattle.plan_flow.specs.PlanScope.{PlanScope}
use Rattle.plan_flow.specs.PlanSlots.{held}
use Rattle.plan_flow.specs.PlanTable.{operand}
use Rattle.plan_flow.specs.Written.Blocks.{Block, BlockOf, before_point, blocks_of, handler_pad, handler_pad_of, handler_pads, instruction_block, is_decided, jump_pad, jump_pad_of, jump_pads, make_block, making, next_block, on_next_edge, point_blocks, state_written}
use Rattle.plan_flow.specs.Written.Finish.{End, Finished, end_items, end_of, finish, finished_items, goto_end, no_end, nop_end}
use Rattle.plan_flow.specs.Written.Routes.{Route, RouteEdge, Routes, edge_by}
use Rattle.plan_flow.specs.Written.Templates.{is_virtual, items_at, made_on_jump, null_template, null_test, pop_if_plain, same_template, template}
use Rattle.plan_flow.specs.Written.WrittenCode.{Form, block_items, in_form, short, wide, widened, written_items}
use Rattle.plan_flow.specs.declared.edge.EdgeKind.{EdgeKind}
use Rattle.plan_flow.specs.declared.edge.EdgeKind.TheVariants as edges
use Rattle.virtual_state.specs.States.{State, object_of}
use Rattle.virtual_state.specs.declared.slot.Slot.{Slot}
use Rattle.virtual_state.specs.declared.slot.Slot.TheVariants.{Plain, Virt, Unusable}
use Rattle.virtual_state.specs.declared.slot.VObject.{VObject}

-- ---- instructions of a list

abbrev pub Among : WInstr → List WInstr → Type 0
Among one [] = ⊥
Among one (instr ∷ instrs) = (instr ≡ one) ⊎ Among one instrs

among_left : (one : WInstr) (left right : List WInstr) → Among one left → Among one (left ++ right)
among_left one [] right is = absurd is
among_left one (first ∷ left) right (inl here) = inl here
among_left one (first ∷ left) right (inr later) = inr (among_left one left right later)

among_right : (one : WInstr) (left right : List WInstr) → Among one right → Among one (left ++ right)
among_right one [] right is = is
among_right one (first ∷ left) right is = inr (among_right one left right is)

among_both : (one : WInstr) (left right : List WInstr) → Among one (left ++ right) → Among one left ⊎ Among one right
among_both one [] right is = inr is
among_both one (first ∷ left) right (inl here) = inl (inl here)
among_both one (first ∷ left) right (inr later) = elim (among_both one left right later) [ inl is ↦ inl (inr is) | inr is ↦ inr is ]

-- each class that is constructed is made
abbrev pub IsPaired : List WInstr → Type 0
IsPaired instrs = (class : Name) → Among (constructs class) instrs → Among (makes class) instrs

both_paired : (left right : List WInstr) → IsPaired left → IsPaired right → IsPaired (left ++ right)
both_paired left right one other class is = elim (among_both (constructs class) left right is) [
  | inl here ↦ among_left (makes class) left right (one class here)
  | inr there ↦ among_right (makes class) left right (other class there)
]

each_paired : {A : Type 0} (of : A → List WInstr) (items : List A) → ((one : A) → IsPaired (of one)) → IsPaired (flat_map of items)
each_paired of [] each = λ class is. absurd is
each_paired of (one ∷ items) each = both_paired (of one) (flat_map of items) (each one) (each_paired of items each)

-- ---- instructions that construct nothing

abbrev ConstructsNone : WInstr → Type 0
ConstructsNone instr = (class : Name) → instr ≡ constructs class → ⊥

never_among : (class : Name) (list : List WInstr) → AllByRecursion ConstructsNone list → Among (constructs class) list → ⊥
never_among class [] none is = is
never_among class (first ∷ list) none (inl here) = none.0 class here
never_among class (first ∷ list) none (inr later) = never_among class list none.1 later

none_paired : (instrs : List WInstr) → AllByRecursion ConstructsNone instrs → IsPaired instrs
none_paired instrs all class is = absurd (never_among class instrs all is)

is_plain : (instr : Instr) → ConstructsNone (plain instr)
is_plain instr class e = cc e

simple : HoldsOfSimple ConstructsNone
simple = record {
  loads = λ kind unit class e. cc e;
  stores = λ kind unit class e. cc e;
  consts = λ value form. is_plain (Const value);
  pures = λ opcode form. is_plain _;
  shuffles = λ opcode form. is_plain _;
}

-- ---- items

abbrev instrs_of : List WItem → List WInstr
instrs_of items = map (λ (one : WItem). one.instr) items

abbrev pub ArePaired : List WItem → Type 0
ArePaired items = IsPaired (instrs_of items)

items_paired : (left right : List WItem) → ArePaired left → ArePaired right → ArePaired (left ++ right)
items_paired left right one other =
    subst IsPaired (sym (map-append (λ (one : WItem). one.instr) left right)) (both_paired (instrs_of left) (instrs_of right) one other)

same_instrs : (instrs : List WInstr) → instrs_of (map item instrs) ≡ instrs
same_instrs [] = refl
same_instrs (instr ∷ instrs) = ap (λ (rest : List WInstr). instr ∷ rest) (same_instrs instrs)

as_items : (instrs : List WInstr) → IsPaired instrs → ArePaired (map item instrs)
as_items instrs paired = subst IsPaired (sym (same_instrs instrs)) paired

module _ (s : PlanScope) where
  -- ---- make code

  enters_paired : (site depth : ℕ) → AllByRecursion ConstructsNone (enters site depth)
  enters_paired site zero = tt
  enters_paired site (suc depth) = (simple.loads _ _, (is_plain Enter, enters_paired site depth))

  module _ (object : VObject) (one : Site) where
    abbrev loads : List WInstr
    loads = load_fields_from object.site 0 one.fields object.fields

    abbrev ends : List WInstr
    ends = store kinds.Ref (object_unit object.site) ∷ enters object.site object.depth

    abbrev calls : List WInstr
    calls = plain (Const imms.Null) ∷ constructs one.class ∷ ends

    not_ends : (class : Name) → Among (constructs class) ends → ⊥
    not_ends class among = never_among class ends (simple.stores _ _, enters_paired object.site object.depth) among

    not_loads : (class : Name) → Among (constructs class) loads → ⊥
    not_loads class among = never_among class loads (loaded_fields_hold ConstructsNone simple object.site 0 one.fields object.fields) among

    same_class : (a b : Name) → constructs a ≡ constructs b → a ≡ b
    same_class a b e = cc e

    calls_made : (class : Name) → Among (constructs class) calls → one.class ≡ class
    calls_made class (inl here) = absurd (is_plain (Const imms.Null) class here)
    calls_made class (inr (inl here)) = same_class one.class class here
    calls_made class (inr (inr later)) = absurd (not_ends class later)

    made_none : ConstructsNone (makes one.class)
    made_none class e = cc e

    made : IsPaired (makes one.class ∷ plain (Shuffle DUP) ∷ loads ++ calls)
    made class (inl here) = absurd (made_none class here)
    made class (inr (inl here)) = absurd (is_plain (Shuffle DUP) class here)
    made class (inr (inr later)) = elim (among_both (constructs class) loads calls later) [
      | inl among ↦ absurd (not_loads class among)
      | inr among ↦ inl (ap makes (calls_made class among))
    ]

  object_paired : (state : State) (site : ℕ) → IsPaired (make_one s.flat state site)
  object_paired state site = by (object_of state.objects site) refl (slice_get s.flat.sites site) refl where
    by : (object : Option VObject) → object_of state.objects site ≡ object → (one : Option Site) → slice_get s.flat.sites site ≡ one
        → IsPaired (make_one s.flat state site)
    by None none one is = rw (none) (λ class among. absurd among)
    by (Some object) some None none = rw (some, none) (λ class among. absurd among)
    by (Some object) some (Some one) is = rw (some, is) (made object one)

  code_paired : (at : ℕ) (state : State) (sites order : List ℕ) → IsPaired (make_code s.flat at state sites order)
  code_paired at state sites order =
      both_paired (((map save (saved sites (entries_at s.flat at state)) ++ flat_map (make_one s.flat state) order)
      ++ copy_locals_from sites 0 (local_slots_in (point_at s.flat at) state)) ++ flat_map (copy_object sites) state.objects)
      (flat_map (load_entry sites) (from_lowest sites (entries_at s.flat at state)))
      (both_paired ((map save (saved sites (entries_at s.flat at state)) ++ flat_map (make_one s.flat state) order)
      ++ copy_locals_from sites 0 (local_slots_in (point_at s.flat at) state)) (flat_map (copy_object sites) state.objects)
      (both_paired (map save (saved sites (entries_at s.flat at state)) ++ flat_map (make_one s.flat state) order)
      (copy_locals_from sites 0 (local_slots_in (point_at s.flat at) state))
      (both_paired (map save (saved sites (entries_at s.flat at state))) (flat_map (make_one s.flat state) order)
      (none_paired (map save (saved sites (entries_at s.flat at state))) (saves_hold ConstructsNone simple (saved sites (entries_at s.flat at state))))
      (each_paired (make_one s.flat state) order (object_paired state)))
      (none_paired (copy_locals_from sites 0 (local_slots_in (point_at s.flat at) state))
      (copied_locals_hold ConstructsNone simple sites 0 (local_slots_in (point_at s.flat at) state))))
      (none_paired (flat_map (copy_object sites) state.objects)
      (each_holds ConstructsNone simple (copy_object sites) state.objects (copied_object_holds ConstructsNone simple sites))))
      (none_paired (flat_map (load_entry sites) (from_lowest sites (entries_at s.flat at state)))
      (each_holds ConstructsNone simple (load_entry sites) (from_lowest sites (entries_at s.flat at state)) (loaded_entry_holds ConstructsNone simple sites)))

  making_paired : (at : ℕ) (state : State) (made order : List ℕ) → ArePaired (making s at state made order)
  making_paired at state made order = as_items (make_code s.flat at state made order) (code_paired at state made order)

  -- ---- templates

  jump_paired : (route : Route) → IsPaired (made_on_jump s route)
  jump_paired route = by (edge_by route (edges.Jump 0)) refl where
    by : (edge : Option RouteEdge) → edge_by route (edges.Jump 0) ≡ edge → IsPaired (made_on_jump s route)
    by None is = rw (is) (λ class is. absurd is)
    by (Some edge) is = rw (is) (code_paired edge.to edge.state edge.made edge.order)

  abbrev OptionPaired : Option (List WInstr) → Type 0
  OptionPaired None = Unit {0}
  OptionPaired (Some instrs) = IsPaired instrs

  option_paired : (found : Option (List WInstr)) → OptionHolds ConstructsNone simple found → OptionPaired found
  option_paired None all = tt
  option_paired (Some instrs) all = none_paired instrs all

  template_paired : (at : ℕ) (f : Frame) (state : State) (route : Route) (class : ℕ) (instr : Instr)
      → OptionPaired (template s at f state route class instr)
  template_paired at f state route class (Goto to) = jump_paired route
  template_paired at f state route class (IfNull opcode to) = by (held state (operand f 0)) where
    by : (slot : Slot) → OptionPaired (null_template s route slot)
    by Plain = tt
    by Unusable = tt
    by (Virt site) = jump_paired route
  template_paired at f state route class (IfSame opcode to) = by (held state (operand f 1)) (held state (operand f 0)) where
    folded : (one other : Slot) → IsPaired (pop_if_plain other ++ pop_if_plain one ++ made_on_jump s route)
    folded one other =
        both_paired (pop_if_plain other ++ pop_if_plain one) (made_on_jump s route)
        (both_paired (pop_if_plain other) (pop_if_plain one) (none_paired (pop_if_plain other) (popped_holds ConstructsNone simple other))
        (none_paired (pop_if_plain one) (popped_holds ConstructsNone simple one))) (jump_paired route)

    by : (one other : Slot) → OptionPaired (same_template s route one other)
    by one other = of (is_virtual one || is_virtual other) where
      of : (b : Bool) → OptionPaired (if b then Some (pop_if_plain other ++ pop_if_plain one ++ made_on_jump s route) else None)
      of true = folded one other
      of false = tt
  template_paired at f state route class instr =
      option_paired (template s at f state route class instr)
      (template_holds ConstructsNone simple s at f state route class instr (λ told. absurd (false≢true told)))

  test_paired : (at : ℕ) (point : Point) (route : Route) (local : ℕ) → ArePaired (null_test at point route local)
  test_paired at point route local =
      none_paired (instrs_of (null_test at point route local))
      (simple.loads kinds.Ref (own local), (is_plain (IfNull IFNONNULL 0), (is_plain (Const imms.Null), (is_plain Throw, tt))))

  instruction_paired : (at : ℕ) (point : Point) (route : Route) → ArePaired (items_at s at point (state_written route) route)
  instruction_paired at point route = by point.instr refl where
    before : State
    before = state_written route

    tested : (local : ℕ) (slot : Slot) → point.instr ≡ NullTest local → held before local ≡ slot → ArePaired (items_at s at point before route)
    tested local Plain is told = rw (is, told) (test_paired at (record point { instr = NullTest local }) route local)
    tested local (Virt site) is told = rw (is, told) (λ class is. absurd is)
    tested local Unusable is told = rw (is, told) (test_paired at (record point { instr = NullTest local }) route local)

    carries : (class : ℕ) (instr : Instr) → ConstructsNone (carried class instr)
    carries class instr name e = cc e

    of_template : (class : ℕ) (instr : Instr) (found : Option (List WInstr)) → point.instr ≡ Of class instr
        → template s at point.typed before route class instr ≡ found
        → OptionPaired found
        → ArePaired (items_at s at point before route)
    of_template class instr None is told all = rw (is, told) (none_paired (carried class instr ∷ []) (carries class instr, tt))
    of_template class instr (Some instrs) is told all = rw (is, told) (as_items instrs all)

    by : (instr : FlatInstr) → point.instr ≡ instr → ArePaired (items_at s at point before route)
    by (NullTest local) is = tested local (held before local) is refl
    by (Of class instr) is =
        of_template class instr (template s at point.typed before route class instr) is refl
        (template_paired at point.typed before route class instr)

  -- ---- blocks

  abbrev BlockPaired : Block → Type 0
  BlockPaired block = ArePaired block.items

  block_paired : (of : BlockOf) (at : ℕ) (state : State) (made order : List ℕ) (leaves : Option ℕ)
      → AllByRecursion BlockPaired (make_block s of at state made order leaves)
  block_paired of at state [] order leaves = tt
  block_paired of at state (site ∷ sites) order leaves = (making_paired at state (site ∷ sites) order, tt)

  next_paired : (at : ℕ) (edge : Option RouteEdge) → AllByRecursion BlockPaired (next_block s at edge)
  next_paired at None = tt
  next_paired at (Some edge) = block_paired (on_next_edge at) edge.to edge.state edge.made edge.order None

  point_paired : (at : ℕ) (point : Point) (route : Route) → AllByRecursion BlockPaired (point_blocks s at point route)
  point_paired at point route =
      holds_of_both BlockPaired (make_block s (before_point at) at route.state route.made route.order None ++ (instruction_block s at point route ∷ []))
      (next_block s at (edge_by route edges.Next))
      (holds_of_both BlockPaired (make_block s (before_point at) at route.state route.made route.order None) (instruction_block s at point route ∷ [])
      (block_paired (before_point at) at route.state route.made route.order None) (instruction_paired at point route, tt))
      (next_paired at (edge_by route edges.Next))

  jump_pads_paired : (at : ℕ) (point : Point) (route : Route) → AllByRecursion BlockPaired (jump_pads s at point route)
  jump_pads_paired at point route =
      all_flat BlockPaired (λ edge. jump_pad_of s at (is_decided point route) edge edge.by) route.edges
      (λ number edge is. of_kind edge (is_decided point route) edge.by) where
        of_kind : (edge : RouteEdge) (told : Bool) (by : EdgeKind) → AllByRecursion BlockPaired (jump_pad_of s at told edge by)
        of_kind edge false (edges.Jump number) = block_paired (jump_pad at number) edge.to edge.state edge.made edge.order (Some edge.to)
        of_kind edge true (edges.Jump number) = tt
        of_kind edge false edges.Next = tt
        of_kind edge true edges.Next = tt
        of_kind edge false (edges.Handler number) = tt
        of_kind edge true (edges.Handler number) = tt

  handler_pads_paired : (at : ℕ) (point : Point) (route : Route) → AllByRecursion BlockPaired (handler_pads s at point route)
  handler_pads_paired at point route =
      all_flat BlockPaired (λ edge. handler_pad_of s at edge edge.by) route.edges (λ number edge is. of_kind edge edge.by) where
        of_kind : (edge : RouteEdge) (by : EdgeKind) → AllByRecursion BlockPaired (handler_pad_of s at edge by)
        of_kind edge (edges.Handler number) = block_paired (handler_pad at number) edge.to edge.state edge.made edge.order (Some edge.to)
        of_kind edge edges.Next = tt
        of_kind edge (edges.Jump number) = tt

  blocks_paired : (routes : Routes) → AllByRecursion BlockPaired (blocks_of s routes)
  blocks_paired routes =
      holds_of_both BlockPaired _ _
      (holds_of_both BlockPaired _ _
      (all_reached BlockPaired (point_blocks s) 0 s.flat.points routes (λ n point route is is_route. point_paired (0 + n) point route))
      (all_reached BlockPaired (jump_pads s) 0 s.flat.points routes (λ n point route is is_route. jump_pads_paired (0 + n) point route)))
      (all_reached BlockPaired (handler_pads s) 0 s.flat.points routes (λ n point route is is_route. handler_pads_paired (0 + n) point route))

  -- ---- ends, and the wide form

  ends_paired : (end : End) → ArePaired (end_items end)
  ends_paired no_end = λ class is. absurd is
  ends_paired (goto_end to) = none_paired (plain (Goto 0) ∷ []) (is_plain (Goto 0), tt)
  ends_paired nop_end = none_paired (plain Nop ∷ []) (is_plain Nop, tt)

  widened_paired : (items : List WItem) → ArePaired items → ArePaired (flat_map widened items)
  widened_paired items paired class is = forth items (paired class (back items is)) where
    back_one : (one : WItem) → Among (constructs class) (instrs_of (widened one)) → one.instr ≡ constructs class
    back_one one among = by one.instr refl where
      alone : widened one ≡ one ∷ [] → one.instr ≡ constructs class
      alone same = elim (subst (λ (list : List WItem). Among (constructs class) (instrs_of list)) same among) [ inl here ↦ here | inr later ↦ absurd later ]

      by : (instr : WInstr) → one.instr ≡ instr → one.instr ≡ constructs class
      by (carried number instr) same = over (opposite_instr instr) refl where
        over : (other : Option Instr) → opposite_instr instr ≡ other → one.instr ≡ constructs class
        over None none = alone (rw (same, none) refl)
        over (Some other) some = two (rw (same, some) at among) where
          two : (carried number other ≡ constructs class) ⊎ ((plain (Goto 0) ≡ constructs class) ⊎ ⊥) → one.instr ≡ constructs class
          two (inl e) = absurd (cc e)
          two (inr (inl e)) = absurd (cc e)
          two (inr (inr never)) = absurd never
      by (plain instr) same = alone (rw (same) refl)
      by (load kind unit) same = alone (rw (same) refl)
      by (store kind unit) same = alone (rw (same) refl)
      by (makes name) same = alone (rw (same) refl)
      by (constructs name) same = alone (rw (same) refl)

    back : (list : List WItem) → Among (constructs class) (instrs_of (flat_map widened list)) → Among (constructs class) (instrs_of list)
    back [] among = among
    back (one ∷ list) among =
        elim (among_both (constructs class) (instrs_of (widened one)) (instrs_of (flat_map widened list))
        (subst (Among (constructs class)) (map-append (λ (one : WItem). one.instr) (widened one) (flat_map widened list)) among)) [
          | inl here ↦ inl (back_one one here)
          | inr later ↦ inr (back list later)
        ]

    forth_one : (one : WItem) → one.instr ≡ makes class → Among (makes class) (instrs_of (widened one))
    forth_one one same =
        let alone : widened one ≡ one ∷ [] = rw (same) refl in
        subst (λ (list : List WItem). Among (makes class) (instrs_of list)) (sym alone) (inl same)

    forth : (list : List WItem) → Among (makes class) (instrs_of list) → Among (makes class) (instrs_of (flat_map widened list))
    forth [] among = among
    forth (one ∷ list) among =
        subst (Among (makes class)) (sym (map-append (λ (one : WItem). one.instr) (widened one) (flat_map widened list)))
        (by among (forth list)) where
          by : (one.instr ≡ makes class) ⊎ Among (makes class) (instrs_of list)
              → (Among (makes class) (instrs_of list) → Among (makes class) (instrs_of (flat_map widened list)))
              → Among (makes class) (instrs_of (widened one) ++ instrs_of (flat_map widened list))
          by (inl here) rest = among_left (makes class) (instrs_of (widened one)) (instrs_of (flat_map widened list)) (forth_one one here)
          by (inr later) rest = among_right (makes class) (instrs_of (widened one)) (instrs_of (flat_map widened list)) (rest later)

  form_paired : (form : Form) (items : List WItem) → ArePaired items → ArePaired (in_form form items)
  form_paired short items paired = paired
  form_paired wide items paired = widened_paired items paired

  finished_paired : (form : Form) (blocks : List Block) → AllByRecursion BlockPaired blocks → ArePaired (written_items form (finish s.flat blocks))
  finished_paired form [] all = λ class is. absurd is
  finished_paired form (block ∷ blocks) all =
      let behind : List Finished = finish s.flat blocks in
      let one : Finished = record { block = block; end = end_of s.flat block behind } in
      items_paired (block_items form one) (written_items form behind)
      (form_paired form (finished_items one) (items_paired block.items (end_items one.end) all.0 (ends_paired one.end)))
      (finished_paired form blocks all.1)

  -- ---- the whole

  -- the item of an instruction
  pub record StandsAmong (one : WInstr) (items : List WItem) : Type 0 where
    pub number : ℕ
    pub item : WItem
    pub is_item : slice_get items number ≡ Some item
    pub is : item.instr ≡ one

  stands : (one : WInstr) (items : List WItem) → Among one (instrs_of items) → StandsAmong one items
  stands one [] among = absurd among
  stands one (first ∷ items) (inl here) = record { number = zero; item = first; is_item = refl; is = here }
  stands one (first ∷ items) (inr later) =
      let rest = stands one items later in
      record { number = suc rest.number; item = rest.item; is_item = rest.is_item; is = rest.is }

  among_items : (one : WInstr) (items : List WItem) (number : ℕ) (x : WItem) → slice_get items number ≡ Some x → x.instr ≡ one → Among one (instrs_of items)
  among_items one [] number x is same = absurd (none-some x is)
  among_items one (first ∷ items) zero x is same = inl (ap (λ (i : WItem). i.instr) (same_Some first x is) ∙ same)
  among_items one (first ∷ items) (suc number) x is same = inr (among_items one items number x is same)

  -- Where written code calls the field constructor of a class, it makes an object of that class.
  pub constructed_is_made : (form : Form) (routes : Routes) (number : ℕ) (one : WItem) (class : Name)
      → slice_get (written_items form (finish s.flat (blocks_of s routes))) number ≡ Some one
      → one.instr ≡ constructs class
      → StandsAmong (makes class) (written_items form (finish s.flat (blocks_of s routes)))
  constructed_is_made form routes number one class is same =
      stands (makes class) (written_items form (finish s.flat (blocks_of s routes)))
      (finished_paired form (blocks_of s routes) (blocks_paired routes) class
      (among_items (constructs class) (written_items form (finish s.flat (blocks_of s routes))) number one is same))
