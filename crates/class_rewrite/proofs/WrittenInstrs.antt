-- What holds of each instruction of written code: of those of templates and make code, of those that are carried, and of ends.
use Rattle.std.proofs.Common.{◌≡◌, ◌+◌, ℕ, zero, suc, Bool, true, false, List, [], ◌∷◌, ◌++◌, map, slice_get, flat_map, Option, Some, None, refl, sym, subst, ap, ◌∙◌, zero-add}
use Rattle.std.specs.List.{AllByRecursion}
use Rattle.std.proofs.lemmas.Option.{none-some, same_Some}
use Rattle.class_model.specs.declared.instr.Instr.{Instr}
use Rattle.class_model.specs.declared.instr.Imm.TheVariants as imms
use Rattle.class_model.specs.declared.instr.Instr.TheVariants.{Enter, Goto, IfNull, Nop, Throw}
use Rattle.class_model.specs.declared.opcodes.TheConstants.{DUP, IFNONNULL}
use Rattle.class_tree.specs.Headers.{Name}
use Rattle.code_drafts.specs.Laws.GoodBlocks.{all_flat, all_reached}
use Rattle.code_drafts.specs.Laws.SimpleParts.{AllHold, HoldsOfSimple, OptionHolds, copied_locals_hold, copied_object_holds, each_holds, loaded_entry_holds, loaded_fields_hold, saves_hold, template_holds}
use Rattle.flow_code.specs.FlatCode.{FlatCode, point_at}
use Rattle.flow_code.specs.declared.point.FlatInstr.{FlatInstr}
use Rattle.flow_code.specs.declared.point.FlatInstr.TheVariants.{Of, NullTest}
use Rattle.flow_code.specs.declared.point.Point.{Point}
use Rattle.flow_code.specs.declared.point.Site.{Site}
use Rattle.making_code.specs.Items.{WInstr, WItem, carried, constructs, item, load, makes, plain, store}
use Rattle.making_code.specs.MakeCode.{copy_locals_from, copy_object, enters, entries_at, from_lowest, load_entry, load_fields_from, local_slots_in, make_code, make_object, make_one, save, saved}
use Rattle.making_code.specs.Opposites.{opposite_instr}
use Rattle.plan_flow.specs.Laws.WrittenBlocks.{holds_of_both}
use Rattle.plan_flow.specs.PlanScope.{PlanScope}
use Rattle.plan_flow.specs.PlanSlots.{held}
use Rattle.plan_flow.specs.Written.Blocks.{Block, BlockOf, before_point, blocks_of, handler_pad, handler_pad_of, handler_pads, instruction_block, is_decided, jump_pad, jump_pad_of, jump_pads, make_block, making, next_block, on_next_edge, point_blocks, state_written}
use Rattle.plan_flow.specs.Written.Finish.{End, Finished, end_items, end_of, finish, finished_items, goto_end, no_end, nop_end}
use Rattle.plan_flow.specs.Written.Routes.{Route, RouteEdge, Routes, edge_by}
use Rattle.plan_flow.specs.Written.Templates.{as_it_is, items_at, made_on_jump, null_test, template}
use Rattle.plan_flow.specs.Written.WrittenCode.{Form, block_items, in_form, short, wide, widened, written_items}
use Rattle.plan_flow.specs.declared.edge.EdgeKind.{EdgeKind}
use Rattle.plan_flow.specs.declared.edge.EdgeKind.TheVariants as edges
use Rattle.virtual_state.specs.States.{State, object_of}
use Rattle.virtual_state.specs.declared.slot.Slot.{Slot}
use Rattle.virtual_state.specs.declared.slot.Slot.TheVariants.{Plain, Virt, Unusable}
use Rattle.virtual_state.specs.declared.slot.VObject.{VObject}

-- what is to be shown of each sort of instruction
pub record HoldsOfWritten (s : PlanScope) (Q : WInstr → Type 0) : Type 0 where
  pub simple : HoldsOfSimple Q
  pub enter : Q (plain Enter)
  pub made : (number : ℕ) (site : Site) → slice_get s.flat.sites number ≡ Some site → Q (makes site.class)
  pub constructed : (number : ℕ) (site : Site) → slice_get s.flat.sites number ≡ Some site → Q (constructs site.class)
  pub carries : (at : ℕ) (point : Point) (class : ℕ) (instr : Instr)
      → slice_get s.flat.points at ≡ Some point
      → point.instr ≡ Of class instr
      → Q (carried class instr)
  pub opposite : (class : ℕ) (instr other : Instr) → Q (carried class instr) → opposite_instr instr ≡ Some other → Q (carried class other)
  pub goto : Q (plain (Goto 0))
  pub nop : Q (plain Nop)
  pub null_jump : Q (plain (IfNull IFNONNULL 0))
  pub throw : Q (plain Throw)

module _ (s : PlanScope) (P : WInstr → Type 0) (holds : HoldsOfWritten s P) where
  abbrev AreSites : List WInstr → Type 0
  AreSites instrs = AllByRecursion P instrs

  abbrev AreItems : List WItem → Type 0
  AreItems items = AllByRecursion (λ (one : WItem). P one.instr) items

  simple : HoldsOfSimple P
  simple = holds.simple

  -- ---- make code

  enters_made : (site depth : ℕ) → AreSites (enters site depth)
  enters_made site zero = tt
  enters_made site (suc depth) = (simple.loads _ _, (holds.enter, enters_made site depth))

  object_made : (state : State) (site : ℕ) → AreSites (make_one s.flat state site)
  object_made state site = by (object_of state.objects site) refl (slice_get s.flat.sites site) refl where
    by : (object : Option VObject) → object_of state.objects site ≡ object → (one : Option Site) → slice_get s.flat.sites site ≡ one
        → AreSites (make_one s.flat state site)
    by None none one is = rw (none) tt
    by (Some object) some None none = rw (some, none) tt
    by (Some object) some (Some one) is =
        rw (some, is) (
          holds.made site one is,
          (
            simple.shuffles DUP refl,
            holds_of_both P (load_fields_from object.site 0 one.fields object.fields) _
                (loaded_fields_hold P simple object.site 0 one.fields object.fields)
                (simple.consts imms.Null tt, (holds.constructed site one is, (simple.stores _ _, enters_made object.site object.depth))),
          ),
        )

  code_made : (at : ℕ) (state : State) (sites order : List ℕ) → AreSites (make_code s.flat at state sites order)
  code_made at state sites order =
      holds_of_both P (((map save (saved sites (entries_at s.flat at state)) ++ flat_map (make_one s.flat state) order)
      ++ copy_locals_from sites 0 (local_slots_in (point_at s.flat at) state)) ++ flat_map (copy_object sites) state.objects)
      (flat_map (load_entry sites) (from_lowest sites (entries_at s.flat at state)))
      (holds_of_both P ((map save (saved sites (entries_at s.flat at state)) ++ flat_map (make_one s.flat state) order)
      ++ copy_locals_from sites 0 (local_slots_in (point_at s.flat at) state)) (flat_map (copy_object sites) state.objects)
      (holds_of_both P (map save (saved sites (entries_at s.flat at state)) ++ flat_map (make_one s.flat state) order)
      (copy_locals_from sites 0 (local_slots_in (point_at s.flat at) state))
      (holds_of_both P (map save (saved sites (entries_at s.flat at state))) (flat_map (make_one s.flat state) order)
      (saves_hold P simple (saved sites (entries_at s.flat at state))) (each_holds P simple (make_one s.flat state) order (object_made state)))
      (copied_locals_hold P simple sites 0 (local_slots_in (point_at s.flat at) state)))
      (each_holds P simple (copy_object sites) state.objects (copied_object_holds P simple sites)))
      (each_holds P simple (load_entry sites) (from_lowest sites (entries_at s.flat at state)) (loaded_entry_holds P simple sites))

  as_items : (instrs : List WInstr) → AreSites instrs → AreItems (map item instrs)
  as_items [] all = tt
  as_items (instr ∷ instrs) all = (all.0, as_items instrs all.1)

  making_made : (at : ℕ) (state : State) (made order : List ℕ) → AreItems (making s at state made order)
  making_made at state made order = as_items (make_code s.flat at state made order) (code_made at state made order)

  -- ---- blocks

  abbrev BlockMade : Block → Type 0
  BlockMade block = AreItems block.items

  block_made : (of : BlockOf) (at : ℕ) (state : State) (made order : List ℕ) (leaves : Option ℕ)
      → AllByRecursion BlockMade (make_block s of at state made order leaves)
  block_made of at state [] order leaves = tt
  block_made of at state (site ∷ sites) order leaves = (making_made at state (site ∷ sites) order, tt)

  jump_made : (route : Route) → AreSites (made_on_jump s route)
  jump_made route = by (edge_by route (edges.Jump 0)) refl where
    by : (edge : Option RouteEdge) → edge_by route (edges.Jump 0) ≡ edge → AreSites (made_on_jump s route)
    by None is = rw (is) tt
    by (Some edge) is = rw (is) (code_made edge.to edge.state edge.made edge.order)

  instruction_made : (at : ℕ) (point : Point) (route : Route) → slice_get s.flat.points at ≡ Some point
      → AreItems (items_at s at point (state_written route) route)
  instruction_made at point route there = by point.instr refl where
    before : State
    before = state_written route

    tested : (local : ℕ) (slot : Slot) → point.instr ≡ NullTest local → held before local ≡ slot → AreItems (items_at s at point before route)
    tested local Plain is told = rw (is, told) (simple.loads _ _, (holds.null_jump, (simple.consts imms.Null tt, (holds.throw, tt))))
    tested local (Virt site) is told = rw (is, told) tt
    tested local Unusable is told = rw (is, told) (simple.loads _ _, (holds.null_jump, (simple.consts imms.Null tt, (holds.throw, tt))))

    of_template : (class : ℕ) (instr : Instr) (found : Option (List WInstr)) → point.instr ≡ Of class instr
        → template s at point.typed before route class instr ≡ found
        → OptionHolds P simple found
        → AreItems (items_at s at point before route)
    of_template class instr None is told all = rw (is, told) (holds.carries at point class instr there is, tt)
    of_template class instr (Some instrs) is told all = rw (is, told) (as_items instrs all)

    by : (instr : FlatInstr) → point.instr ≡ instr → AreItems (items_at s at point before route)
    by (NullTest local) is = tested local (held before local) is refl
    by (Of class instr) is =
        of_template class instr (template s at point.typed before route class instr) is refl
        (template_holds P simple s at point.typed before route class instr (λ told. jump_made route))

  next_made : (at : ℕ) (edge : Option RouteEdge) → AllByRecursion BlockMade (next_block s at edge)
  next_made at None = tt
  next_made at (Some edge) = block_made (on_next_edge at) edge.to edge.state edge.made edge.order None

  point_made : (at : ℕ) (point : Point) (route : Route) → slice_get s.flat.points at ≡ Some point
      → AllByRecursion BlockMade (point_blocks s at point route)
  point_made at point route there =
      holds_of_both BlockMade (make_block s (before_point at) at route.state route.made route.order None ++ (instruction_block s at point route ∷ []))
      (next_block s at (edge_by route edges.Next))
      (holds_of_both BlockMade (make_block s (before_point at) at route.state route.made route.order None) (instruction_block s at point route ∷ [])
      (block_made (before_point at) at route.state route.made route.order None) (instruction_made at point route there, tt))
      (next_made at (edge_by route edges.Next))

  jump_pads_made : (at : ℕ) (point : Point) (route : Route) → AllByRecursion BlockMade (jump_pads s at point route)
  jump_pads_made at point route =
      all_flat BlockMade (λ edge. jump_pad_of s at (is_decided point route) edge edge.by) route.edges
      (λ number edge is. of_kind edge (is_decided point route) edge.by) where
        of_kind : (edge : RouteEdge) (told : Bool) (by : EdgeKind) → AllByRecursion BlockMade (jump_pad_of s at told edge by)
        of_kind edge false (edges.Jump number) = block_made (jump_pad at number) edge.to edge.state edge.made edge.order (Some edge.to)
        of_kind edge true (edges.Jump number) = tt
        of_kind edge false edges.Next = tt
        of_kind edge true edges.Next = tt
        of_kind edge false (edges.Handler number) = tt
        of_kind edge true (edges.Handler number) = tt

  handler_pads_made : (at : ℕ) (point : Point) (route : Route) → AllByRecursion BlockMade (handler_pads s at point route)
  handler_pads_made at point route =
      all_flat BlockMade (λ edge. handler_pad_of s at edge edge.by) route.edges (λ number edge is. of_kind edge edge.by) where
        of_kind : (edge : RouteEdge) (by : EdgeKind) → AllByRecursion BlockMade (handler_pad_of s at edge by)
        of_kind edge (edges.Handler number) = block_made (handler_pad at number) edge.to edge.state edge.made edge.order (Some edge.to)
        of_kind edge edges.Next = tt
        of_kind edge (edges.Jump number) = tt

  -- numbers count from nothing
  counted : (made : ℕ → Point → Route → List Block) (n : ℕ) (point : Point) (route : Route)
      → AllByRecursion BlockMade (made n point route) → AllByRecursion BlockMade (made (0 + n) point route)
  counted made n point route holds_here =
      subst (λ (at : ℕ). AllByRecursion BlockMade (made at point route)) (sym (zero-add n)) holds_here

  blocks_made : (routes : Routes) → AllByRecursion BlockMade (blocks_of s routes)
  blocks_made routes =
      holds_of_both BlockMade _ _
      (holds_of_both BlockMade _ _
      (all_reached BlockMade (point_blocks s) 0 s.flat.points routes (λ n point route is is_route. counted (point_blocks s) n point route (point_made n point route is)))
      (all_reached BlockMade (jump_pads s) 0 s.flat.points routes (λ n point route is is_route. counted (jump_pads s) n point route (jump_pads_made n point route))))
      (all_reached BlockMade (handler_pads s) 0 s.flat.points routes (λ n point route is is_route. counted (handler_pads s) n point route (handler_pads_made n point route)))

  -- ---- ends, and the wide form

  ends_made : (end : End) → AreItems (end_items end)
  ends_made no_end = tt
  ends_made (goto_end to) = (holds.goto, tt)
  ends_made nop_end = (holds.nop, tt)

  widened_made : (one : WItem) → P one.instr → AreItems (widened one)
  widened_made one made = by one.instr refl where
    alone : widened one ≡ one ∷ [] → AreItems (widened one)
    alone is = subst AreItems (sym is) (made, tt)

    by : (instr : WInstr) → one.instr ≡ instr → AreItems (widened one)
    by (carried class instr) is = over (opposite_instr instr) refl where
      over : (other : Option Instr) → opposite_instr instr ≡ other → AreItems (widened one)
      over None none = alone (rw (is, none) refl)
      over (Some other) some = rw (is, some) (holds.opposite class instr other (subst P is made) some, (holds.goto, tt))
    by (plain instr) is = alone (rw (is) refl)
    by (load kind unit) is = alone (rw (is) refl)
    by (store kind unit) is = alone (rw (is) refl)
    by (makes class) is = alone (rw (is) refl)
    by (constructs class) is = alone (rw (is) refl)

  form_made : (form : Form) (items : List WItem) → AreItems items → AreItems (in_form form items)
  form_made short items made = made
  form_made wide [] made = tt
  form_made wide (one ∷ items) made =
      holds_of_both (λ (one : WItem). P one.instr) (widened one) (flat_map widened items) (widened_made one made.0) (form_made wide items made.1)

  finished_made : (form : Form) (blocks : List Block) → AllByRecursion BlockMade blocks → AreItems (written_items form (finish s.flat blocks))
  finished_made form [] made = tt
  finished_made form (block ∷ blocks) made =
      let behind : List Finished = finish s.flat blocks in
      let one : Finished = record { block = block; end = end_of s.flat block behind } in
      holds_of_both (λ (one : WItem). P one.instr) (block_items form one) (written_items form behind)
      (form_made form (finished_items one) (holds_of_both (λ (one : WItem). P one.instr) block.items (end_items one.end) made.0 (ends_made one.end)))
      (finished_made form blocks made.1)

  -- It holds of each item of written code.
  pub each_written : (form : Form) (routes : Routes) → AreItems (written_items form (finish s.flat (blocks_of s routes)))
  each_written form routes = finished_made form (blocks_of s routes) (blocks_made routes)

  pub item_written : (form : Form) (routes : Routes) (number : ℕ) (one : WItem)
      → slice_get (written_items form (finish s.flat (blocks_of s routes))) number ≡ Some one
      → P one.instr
  item_written form routes number one is = among (written_items form (finish s.flat (blocks_of s routes))) number (each_written form routes) is where
    among : (items : List WItem) (place : ℕ) → AreItems items → slice_get items place ≡ Some one → P one.instr
    among [] place all got = absurd (none-some one got)
    among (first ∷ items) zero all got = subst (λ (found : WItem). P found.instr) (same_Some first one got) all.0
    among (first ∷ items) (suc place) all got = among items place all.1 got

-- ---- what is made

-- a site of the flat code has this class
pub record IsSiteClass (flat : FlatCode) (class : Name) : Type 0 where
  pub number : ℕ
  pub site : Site
  pub is_site : slice_get flat.sites number ≡ Some site
  pub named : site.class ≡ class

-- what is made is an object of a site
abbrev pub MakesSite : FlatCode → WInstr → Type 0
MakesSite flat (carried number instr) = Unit {0}
MakesSite flat (plain instr) = Unit {0}
MakesSite flat (load kind unit) = Unit {0}
MakesSite flat (store kind unit) = Unit {0}
MakesSite flat (makes class) = IsSiteClass flat class
MakesSite flat (constructs class) = Unit {0}

-- What an item of written code makes is an object of a site.
pub made_of_sites : (s : PlanScope) (form : Form) (routes : Routes) (number : ℕ) (one : WItem)
    → slice_get (written_items form (finish s.flat (blocks_of s routes))) number ≡ Some one
    → MakesSite s.flat one.instr
made_of_sites s = item_written s (MakesSite s.flat) (record {
  simple = record {
    loads = λ kind unit. tt;
    stores = λ kind unit. tt;
    consts = λ value form. tt;
    pures = λ opcode form. tt;
    shuffles = λ opcode form. tt;
  };
  enter = tt;
  made = λ number site is. record { number = number; site = site; is_site = is; named = refl };
  constructed = λ number site is. tt;
  carries = λ at point class instr there is. tt;
  opposite = λ class instr other holds is. tt;
  goto = tt;
  nop = tt;
  null_jump = tt;
  throw = tt;
})
