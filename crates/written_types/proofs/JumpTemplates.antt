-- Gotos and comparisons that virtual objects decide: plain operands are popped, and where the jump is taken its objects are made and a goto follows.
use Rattle.std.proofs.Common.{◌≡◌, ◌+◌, ℕ, suc, Bool, true, false, List, [], ◌∷◌, ◌++◌, length, map, slice_get, Option, Some, None, refl, sym, ap, subst, ◌∙◌}
use Rattle.std.specs.Prelude.{if◌then◌else◌}
use Rattle.std.specs.List.{AllByRecursion, flat_map}
use Rattle.std.proofs.lemmas.List.{append-nil, append_assoc, map-append}
use Rattle.class_model.specs.declared.descriptor.FieldType.{FieldType}
use Rattle.class_model.specs.declared.frame.Frame.{Frame}
use Rattle.class_model.specs.declared.instr.Instr.TheVariants.{Const}
use Rattle.class_model.specs.declared.descriptor.Kind.TheVariants as kinds
use Rattle.class_model.specs.declared.instr.Imm.TheVariants as imms
use Rattle.flow_code.specs.FlatCode.{FlatCode, point_at}
use Rattle.flow_code.specs.declared.point.Site.{Site}
use Rattle.making_code.specs.Items.{WInstr, WItem, constructs, item, plain, store}
use Rattle.making_code.specs.Units.{object_unit}
use Rattle.making_code.specs.MakeCode.{Entry, copy_field, copy_fields_from, copy_local, copy_locals_from, copy_object, enters, entries_at, from_lowest, load_entry, load_field, load_fields_from, local_slots_in, make_code, make_object, make_one, save, saved}
use Rattle.member_link.specs.Rows.Row.{stack_behind}
use Rattle.plan_flow.specs.PlanSlots.{is_open}
use Rattle.plan_flow.specs.PlanTable.{falls_on}
use Rattle.plan_flow.specs.Written.Blocks.{Block, is_decided, leaves_to, making}
use Rattle.plan_flow.specs.Written.Finish.{end_items}
use Rattle.plan_flow.specs.Written.FramedCode.{frame_by_item}
use Rattle.plan_flow.specs.Written.Routes.{RouteEdge, edge_by}
use Rattle.plan_flow.specs.Written.Templates.{items_at, made_on_jump}
use Rattle.plan_flow.specs.Written.WrittenCode.{block_items, in_form}
use Rattle.plan_flow.specs.declared.edge.EdgeKind.TheVariants as edges
use Rattle.virtual_state.specs.Sites.{has}
use Rattle.virtual_state.specs.States.{State, object_of}
use Rattle.virtual_state.specs.Without.{without}
use Rattle.virtual_state.specs.declared.slot.Slot.{Slot}
use Rattle.virtual_state.specs.declared.slot.Slot.TheVariants.{Plain, Virt, Unusable}
use Rattle.virtual_state.specs.declared.slot.VObject.{VObject}
use Rattle.written_types.proofs.Given.{EdgeTarget, EdgesFit, EndsCarry, FitsState, Given, IsOfNoNew, MakeCarries, MakesCarry, written_along}
use Rattle.written_types.proofs.Placing.{IsMade, block_carries, carries_both, items_and_end, same_form}
use Rattle.written_types.proofs.SlotFrames.{grouped}
use Rattle.written_types.proofs.Standing.{all_joined}
use Rattle.written_types.proofs.TemplateEnds.{made_items, template_carries}
use Rattle.written_types.proofs.Templates.{Before, along, moved_slots, number, objects_behind, plan_row, read, row, state}
use Rattle.written_types.specs.Inner.CarriedFrames.{Agrees, BlockCarries, Carries, IsFresh}
use Rattle.written_types.specs.Writing.{Writing}

-- ---- make code has no instruction of a class file

abbrev AreMade : List WInstr → Type 0
AreMade instrs = AllByRecursion IsMade instrs

made_each : {A : Type 0} (of : A → List WInstr) (items : List A) → ((one : A) → AreMade (of one)) → AreMade (flat_map of items)
made_each of [] each = tt
made_each of (one ∷ items) each = all_joined IsMade (of one) (flat_map of items) (each one) (made_each of items each)

made_saves : (all : List Entry) → AreMade (map save all)
made_saves [] = tt
made_saves (entry ∷ all) = (tt, made_saves all)

made_enters : (site depth : ℕ) → AreMade (enters site depth)
made_enters site ℕ.zero = tt
made_enters site (suc depth) = (tt, (tt, made_enters site depth))

made_field : (site place : ℕ) (type : FieldType) (slot : Slot) → IsMade (load_field site place type slot)
made_field site place type Plain = tt
made_field site place type (Virt other) = tt
made_field site place type Unusable = tt

made_fields : (site place : ℕ) (all : List FieldType) (slots : List Slot) → AreMade (load_fields_from site place all slots)
made_fields site place [] slots = tt
made_fields site place (type ∷ all) [] = tt
made_fields site place (type ∷ all) (slot ∷ slots) = (made_field site place type slot, made_fields site (suc place) all slots)

made_object : (flat : FlatCode) (object : VObject) (site : Site) → AreMade (make_object flat object site)
made_object flat object site = (
  tt,
  (
    tt,
    all_joined IsMade (load_fields_from object.site 0 site.fields object.fields)
        (plain (Const imms.Null) ∷ constructs site.class ∷ store kinds.Ref (object_unit object.site) ∷ enters object.site object.depth)
        (made_fields object.site 0 site.fields object.fields) (tt, (tt, (tt, made_enters object.site object.depth))),
  ),
)

made_one : (flat : FlatCode) (state : State) (site : ℕ) → AreMade (make_one flat state site)
made_one flat state site = by (object_of state.objects site) refl (slice_get flat.sites site) refl where
  by : (object : Option VObject) → object_of state.objects site ≡ object → (one : Option Site) → slice_get flat.sites site ≡ one
      → AreMade (make_one flat state site)
  by None none one is = rw (none) tt
  by (Some object) some None is = rw (some, is) tt
  by (Some object) some (Some one) is = rw (some, is) (made_object flat object one)

made_if : (test : Bool) (one other : WInstr) → IsMade one → IsMade other → AreMade (if test then one ∷ other ∷ [] else [])
made_if true one other first second = (first, (second, tt))
made_if false one other first second = tt

made_copy : (sites : List ℕ) (unit : ℕ) (slot : Slot) → AreMade (copy_local sites unit slot)
made_copy sites unit Plain = tt
made_copy sites unit (Virt site) = made_if (has sites site) _ _ tt tt
made_copy sites unit Unusable = tt

made_copies : (sites : List ℕ) (unit : ℕ) (slots : List Slot) → AreMade (copy_locals_from sites unit slots)
made_copies sites unit [] = tt
made_copies sites unit (slot ∷ slots) = all_joined IsMade (copy_local sites unit slot) _ (made_copy sites unit slot) (made_copies sites (suc unit) slots)

made_copy_field : (sites : List ℕ) (of place : ℕ) (slot : Slot) → AreMade (copy_field sites of place slot)
made_copy_field sites of place Plain = tt
made_copy_field sites of place (Virt site) = made_if (has sites site) _ _ tt tt
made_copy_field sites of place Unusable = tt

made_copy_fields : (sites : List ℕ) (of place : ℕ) (slots : List Slot) → AreMade (copy_fields_from sites of place slots)
made_copy_fields sites of place [] = tt
made_copy_fields sites of place (slot ∷ slots) =
    all_joined IsMade (copy_field sites of place slot) _ (made_copy_field sites of place slot) (made_copy_fields sites of (suc place) slots)

made_copy_object : (sites : List ℕ) (object : VObject) → AreMade (copy_object sites object)
made_copy_object sites object = by (has sites object.site) where
  by : (b : Bool) → AreMade (if b then [] else copy_fields_from sites object.site 0 object.fields)
  by true = tt
  by false = made_copy_fields sites object.site 0 object.fields

made_load : (sites : List ℕ) (entry : Entry) → AreMade (load_entry sites entry)
made_load sites entry = by entry.slot refl where
  of_site : (test : Bool) (one : WInstr) → IsMade one → AreMade (if test then one ∷ [] else [])
  of_site true one made = (made, tt)
  of_site false one made = tt

  by : (slot : Slot) → entry.slot ≡ slot → AreMade (load_entry sites entry)
  by Plain is = rw (is) (tt, tt)
  by (Virt site) is = rw (is) (of_site (has sites site) _ tt)
  by Unusable is = rw (is) tt

pub made_code : (flat : FlatCode) (at : ℕ) (state : State) (sites order : List ℕ) → AreMade (make_code flat at state sites order)
made_code flat at state sites order =
    all_joined IsMade _ (flat_map (load_entry sites) (from_lowest sites (entries_at flat at state)))
    (all_joined IsMade _ (flat_map (copy_object sites) state.objects)
    (all_joined IsMade _ (copy_locals_from sites 0 (local_slots_in (point_at flat at) state))
    (all_joined IsMade (map save (saved sites (entries_at flat at state))) (flat_map (make_one flat state) order)
    (made_saves (saved sites (entries_at flat at state))) (made_each (make_one flat state) order (made_one flat state)))
    (made_copies sites 0 (local_slots_in (point_at flat at) state))) (made_each (copy_object sites) state.objects (made_copy_object sites)))
    (made_each (load_entry sites) (from_lowest sites (entries_at flat at state)) (made_load sites))

-- ---- where the jump is taken, and where it is not

module _ (w : Writing) (given : Given w) (b : Before w given) (fit : EdgesFit w given) (ends : EndsCarry w given) (makes : MakesCarry w given) where
  along_jump : (target : ℕ) → written_along w b.at b.point (state w given b) (edges.Jump target) ≡ along w given b
  along_jump target =
      grouped w.s.flat (record { locals = (row w given b).locals; stack = stack_behind (read w given b) (row w given b) })
      (moved_slots w given b (plan_row w given b).locals) (moved_slots w given b (plan_row w given b).stack) (objects_behind w given b)

  module _ (pops : List WInstr) (last : Frame)
      (items_are : items_at w.s b.at b.point (state w given b) b.route ≡ map item (pops ++ made_on_jump w.s b.route)) (made : AreMade pops)
      (decided : is_decided b.point b.route ≡ true) (so : Carries w (number w given b) (map item pops) b.frame (Some last))
      (agrees : Agrees last (frame_by_item w.form w.blocks (along w given b))) (fresh : IsFresh w (number w given b) b.one last) where
    -- no jump is taken
    goes_on : edge_by b.route (edges.Jump 0) ≡ None
        → falls_on b.point.instr ≡ true
        → is_open (state w given b) (plan_row w given b).next ≡ true
        → BlockCarries w (number w given b) b.one b.behind b.frame
    goes_on none falls opens =
        template_carries w given b fit ends pops last (items_are ∙ ap (map item) (pops_alone none)) made (rw (decided, none) refl) falls opens so agrees where
          pops_alone : edge_by b.route (edges.Jump 0) ≡ None → pops ++ made_on_jump w.s b.route ≡ pops
          pops_alone none = ap (λ (rest : List WInstr). pops ++ rest) (rw (none) refl) ∙ append-nil pops

    -- the jump is taken
    module _ (edge : RouteEdge) (found : edge_by b.route (edges.Jump 0) ≡ Some edge) (no_new : IsOfNoNew w b.one) where
      jumps : made_on_jump w.s b.route ≡ make_code w.s.flat edge.to edge.state edge.made edge.order
      jumps = rw (found) refl

      abbrev made_here : List WItem
      made_here = making w.s edge.to edge.state edge.made edge.order

      block_is : in_form w.form b.one.block.items ≡ map item pops ++ made_here
      block_is =
          ap (in_form w.form)
          (ap (λ (block : Block). block.items) b.here.is_block ∙ items_are ∙ ap (λ (rest : List WInstr). map item (pops ++ rest)) jumps)
          ∙ same_form w.form (map item (pops ++ make_code w.s.flat edge.to edge.state edge.made edge.order))
          (made_items w given b fit ends (pops ++ make_code w.s.flat edge.to edge.state edge.made edge.order)
          (all_joined IsMade pops (make_code w.s.flat edge.to edge.state edge.made edge.order) made
          (made_code w.s.flat edge.to edge.state edge.made edge.order)))
          ∙ map-append item pops (make_code w.s.flat edge.to edge.state edge.made edge.order)

      fits : FitsState w last edge.to edge.state
      fits =
          fit.along b.at b.point b.route (edges.Jump 0) edge last b.here.there b.here.is_route found
          (subst (λ (f : Frame). Agrees last (frame_by_item w.form w.blocks f)) (sym (along_jump 0)) agrees)

      target : EdgeTarget w given edge
      target = fit.target b.at b.point b.route (edges.Jump 0) edge b.here.there b.here.is_route found

      abbrev start : ℕ
      start = number w given b + length (map item pops)

      whole : block_items w.form b.one ≡ map item pops ++ (made_here ++ end_items b.one.end)
      whole =
          items_and_end w.form b.one
          ∙ ap (λ (all : List WItem). all ++ end_items b.one.end) block_is
          ∙ append_assoc (map item pops) made_here (end_items b.one.end)

      making_it : MakeCarries w start made_here last edge.to (without edge.state (has edge.made))
      making_it =
          makes.make b.front b.behind b.one (map item pops) (end_items b.one.end) start edge.to edge.state edge.made edge.order last b.is whole refl
          no_new target.can_make fits fresh

      both : Carries w (number w given b) (map item pops ++ made_here) b.frame (Some making_it.last)
      both =
          carries_both w (number w given b) (map item pops) made_here b.frame last (Some last) (Some making_it.last) so refl making_it.carries

      jumps_away : BlockCarries w (number w given b) b.one b.behind b.frame
      jumps_away =
          block_carries w (number w given b) b.one b.behind b.frame making_it.last
          (subst (λ (items : List WItem). Carries w (number w given b) items b.frame (Some making_it.last)) (sym block_is) both)
          (ends.leaving b.front b.behind b.one (number w given b + length (in_form w.form b.one.block.items)) edge.to target.target making_it.last b.is
          (ap (λ (block : Block). block.leaves) b.here.is_block ∙ leaves) target.is_route
          (subst (FitsState w making_it.last edge.to) (sym target.left) making_it.fits)) where
            leaves : leaves_to b.point b.route ≡ Some edge.to
            leaves = rw (decided, found) refl

    -- A goto, or a comparison that is decided.
    pub decided_carries : IsOfNoNew w b.one
        → (edge_by b.route (edges.Jump 0) ≡ None
        → (falls_on b.point.instr ≡ true) × (is_open (state w given b) (plan_row w given b).next ≡ true))
        → BlockCarries w (number w given b) b.one b.behind b.frame
    decided_carries no_new falls = by (edge_by b.route (edges.Jump 0)) refl where
      by : (found : Option RouteEdge) → edge_by b.route (edges.Jump 0) ≡ found → BlockCarries w (number w given b) b.one b.behind b.frame
      by None none = let both = falls none in goes_on none both.0 both.1
      by (Some edge) some = jumps_away edge some no_new
