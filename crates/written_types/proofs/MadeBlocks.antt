-- The blocks of make code carry each frame.
use Rattle.std.proofs.Common.{◌≡◌, ◌≢◌, ◌+◌, ℕ, zero, suc, Bool, true, false, List, [], ◌∷◌, ◌++◌, length, map, slice_get, Option, Some, None, refl, sym, ap, subst, ◌∙◌, if◌then◌else◌, arith}
use Rattle.std.specs.List.{AllByRecursion, flat_map}
use Rattle.class_model.specs.declared.descriptor.FieldType.{FieldType}
use Rattle.class_model.specs.declared.frame.Frame.{Frame}
use Rattle.flow_code.specs.FlatCode.{FlatCode, point_at}
use Rattle.flow_code.specs.declared.point.Point.{Point}
use Rattle.flow_code.specs.declared.point.Site.{Site}
use Rattle.making_code.specs.Items.{WInstr, WItem, item}
use Rattle.making_code.specs.MakeCode.{Entry, copy_field, copy_fields_from, copy_local, copy_locals_from, copy_object, enters, entries_at, from_lowest, load_entry, load_field, load_fields_from, local_slots_in, make_code, make_object, make_one, save, saved}
use Rattle.plan_flow.specs.Written.Blocks.{Block, BlockOf, before_point, handler_pad, jump_pad, making, of_point, on_next_edge, state_written}
use Rattle.plan_flow.specs.Written.Finish.{Finished, end_items}
use Rattle.plan_flow.specs.Written.FramedCode.{frame_by_item}
use Rattle.plan_flow.specs.Written.Routes.{Route}
use Rattle.plan_flow.specs.Written.WrittenCode.{in_form, written_items}
use Rattle.plan_flow.specs.Written.WrittenFrames.{written_frame}
use Rattle.virtual_state.specs.Sites.{has}
use Rattle.virtual_state.specs.States.{State, object_of}
use Rattle.virtual_state.specs.Without.{without}
use Rattle.virtual_state.specs.declared.slot.Slot.{Slot}
use Rattle.virtual_state.specs.declared.slot.Slot.TheVariants.{Plain, Virt, Unusable}
use Rattle.virtual_state.specs.declared.slot.VObject.{VObject}
use Rattle.written_types.proofs.AgreeingFrames.{agreeing_assignable, assignable_to_itself, keeps_no_this}
use Rattle.written_types.proofs.BlockKinds.{BlockKind, IsPad, makes_before_point, makes_on_next, of_instruction, of_pad}
use Rattle.written_types.proofs.CarriedPoints.{Behind}
use Rattle.written_types.proofs.EdgeTargets.{before_can_make, target_of}
use Rattle.written_types.proofs.Given.{AtInstruction, CanMake, EndCarries, EndsCarry, FitsState, Given, IsOfNoNew, MakeCarries, MakesCarry, frame_at_state}
use Rattle.written_types.proofs.Placing.{IsMade, block_carries, goes_behind, items_and_end, same_form}
use Rattle.written_types.specs.Inner.CarriedFrames.{Agrees, BlockCarries, Carries, IsFresh, frame_in}
use Rattle.written_types.specs.Writing.{Writing}

-- ---- make code has no instruction of a class file

abbrev AllMade : List WInstr → Type 0
AllMade instrs = AllByRecursion IsMade instrs

both_made : (ones others : List WInstr) → AllMade ones → AllMade others → AllMade (ones ++ others)
both_made [] others made also = also
both_made (one ∷ ones) others made also = (made.0, both_made ones others made.1 also)

each_made : {A : Type 0} (of : A → List WInstr) (all : List A) → ((one : A) → AllMade (of one)) → AllMade (flat_map of all)
each_made of [] each = tt
each_made of (one ∷ all) each = both_made (of one) (flat_map of all) (each one) (each_made of all each)

saves_made : (entries : List Entry) → AllMade (map save entries)
saves_made [] = tt
saves_made (entry ∷ entries) = (tt, saves_made entries)

field_made : (site number : ℕ) (type : FieldType) (slot : Slot) → IsMade (load_field site number type slot)
field_made site number type Plain = tt
field_made site number type (Virt named) = tt
field_made site number type Unusable = tt

fields_made : (site number : ℕ) (all : List FieldType) (slots : List Slot) → AllMade (load_fields_from site number all slots)
fields_made site number [] slots = tt
fields_made site number (type ∷ all) [] = tt
fields_made site number (type ∷ all) (slot ∷ slots) = (field_made site number type slot, fields_made site (suc number) all slots)

enters_made : (site depth : ℕ) → AllMade (enters site depth)
enters_made site zero = tt
enters_made site (suc depth) = (tt, (tt, enters_made site depth))

object_made : (flat : FlatCode) (object : VObject) (site : Site) → AllMade (make_object flat object site)
object_made flat object site = (
  tt,
  (
    tt,
    both_made (load_fields_from object.site 0 site.fields object.fields) _ (fields_made object.site 0 site.fields object.fields)
        (tt, (tt, (tt, enters_made object.site object.depth))),
  ),
)

one_made : (flat : FlatCode) (state : State) (site : ℕ) → AllMade (make_one flat state site)
one_made flat state site = by (object_of state.objects site) refl (slice_get flat.sites site) refl where
  by : (object : Option VObject) → object_of state.objects site ≡ object → (one : Option Site) → slice_get flat.sites site ≡ one
      → AllMade (make_one flat state site)
  by (Some object) is (Some one) there = rw (is, there) (object_made flat object one)
  by (Some object) is None there = rw (is, there) tt
  by None is found there = rw (is) tt

taken_made : (taken : Bool) (instrs : List WInstr) → AllMade instrs → AllMade (if taken then instrs else [])
taken_made true instrs made = made
taken_made false instrs made = tt

locals_made : (sites : List ℕ) (unit : ℕ) (slots : List Slot) → AllMade (copy_locals_from sites unit slots)
locals_made sites unit [] = tt
locals_made sites unit (slot ∷ slots) =
    both_made (copy_local sites unit slot) (copy_locals_from sites (suc unit) slots) (by slot) (locals_made sites (suc unit) slots) where
      by : (slot : Slot) → AllMade (copy_local sites unit slot)
      by Plain = tt
      by (Virt site) = taken_made (has sites site) _ (tt, (tt, tt))
      by Unusable = tt

copies_made : (sites : List ℕ) (of number : ℕ) (slots : List Slot) → AllMade (copy_fields_from sites of number slots)
copies_made sites of number [] = tt
copies_made sites of number (slot ∷ slots) =
    both_made (copy_field sites of number slot) (copy_fields_from sites of (suc number) slots) (by slot) (copies_made sites of (suc number) slots) where
      by : (slot : Slot) → AllMade (copy_field sites of number slot)
      by Plain = tt
      by (Virt site) = taken_made (has sites site) _ (tt, (tt, tt))
      by Unusable = tt

copied_made : (sites : List ℕ) (object : VObject) → AllMade (copy_object sites object)
copied_made sites object = by (has sites object.site) refl where
  by : (b : Bool) → has sites object.site ≡ b → AllMade (copy_object sites object)
  by true is = rw (is) tt
  by false is = rw (is) (copies_made sites object.site 0 object.fields)

entry_made : (sites : List ℕ) (entry : Entry) → AllMade (load_entry sites entry)
entry_made sites entry = by entry.slot refl where
  by : (slot : Slot) → entry.slot ≡ slot → AllMade (load_entry sites entry)
  by Plain is = rw (is) (tt, tt)
  by Unusable is = rw (is) tt
  by (Virt site) is = rw (is) (taken_made (has sites site) _ (tt, tt))

code_made : (flat : FlatCode) (at : ℕ) (state : State) (made order : List ℕ) → AllMade (make_code flat at state made order)
code_made flat at state made order =
    both_made _ _
    (both_made _ _
    (both_made _ _
    (both_made _ _ (saves_made (saved made (entries_at flat at state))) (each_made (make_one flat state) order (one_made flat state)))
    (locals_made made 0 (local_slots_in (point_at flat at) state)))
    (each_made (copy_object made) state.objects (copied_made made)))
    (each_made (load_entry made) (from_lowest made (entries_at flat at state)) (entry_made made))

items_made : (instrs : List WInstr) → AllMade instrs → AllByRecursion (λ (one : WItem). IsMade one.instr) (map item instrs)
items_made [] made = tt
items_made (instr ∷ instrs) made = (made.0, items_made instrs made.1)

-- ---- blocks

-- what agrees with a frame may stand for it
pub agrees_fits : (w : Writing) (frame : Frame) (at : ℕ) (state : State) → Agrees frame (frame_at_state w at state) → FitsState w frame at state
agrees_fits w frame at state agrees = record {
  assignable = record {
    locals = agreeing_assignable w.host.headers frame.locals _ _ agrees.locals (assignable_to_itself w.host.headers _);
    stack = agreeing_assignable w.host.headers frame.stack _ _ agrees.stack (assignable_to_itself w.host.headers _);
    keeps_this = keeps_no_this frame.locals _ agrees.no_this;
  };
  no_this = agrees.no_this;
}

module _ (w : Writing) (given : Given w) (ends : EndsCarry w given) (makes : MakesCarry w given) where
  -- of a block of make code
  made_block_carries : (front behind : List Finished) (one : Finished) (of : BlockOf) (at : ℕ) (state : State) (made order : List ℕ)
      (leaves : Option ℕ) (frame : Frame)
      → w.blocks ≡ front ++ (one ∷ behind)
      → one.block ≡ record { of = of; at = at; state = state; items = making w.s at state made order; leaves = leaves }
      → ((number : ℕ) → of ≢ of_point number)
      → CanMake w given at state made order
      → Agrees frame (frame_in w one)
      → IsFresh w (length (written_items w.form front)) one frame
      → ((number : ℕ) (last : Frame) → FitsState w last at (without state (has made)) → EndCarries w number one behind last)
      → BlockCarries w (length (written_items w.form front)) one behind frame
  made_block_carries front behind one of at state made order leaves frame is block no_point can agrees fresh goes =
      block_carries w (length (written_items w.form front)) one behind frame made_it.last
      (subst (λ (items : List WItem). Carries w (length (written_items w.form front)) items frame (Some made_it.last)) (sym items_are) made_it.carries)
      (goes (length (written_items w.form front) + length (in_form w.form one.block.items)) made_it.last made_it.fits) where
        items_are : in_form w.form one.block.items ≡ making w.s at state made order
        items_are =
            ap (λ (b : Block). in_form w.form b.items) block
            ∙ same_form w.form (making w.s at state made order)
            (items_made (make_code w.s.flat at state made order) (code_made w.s.flat at state made order))

        fits : FitsState w frame at state
        fits =
            agrees_fits w frame at state
            (subst (λ (b : Block). Agrees frame (frame_by_item w.form w.blocks (written_frame w.s.flat b))) block agrees)

        no_new : IsOfNoNew w one
        no_new number class index point is_of there is_new = absurd (no_point number (sym (ap (λ (b : Block). b.of) block) ∙ is_of))

        made_it : MakeCarries w (length (written_items w.form front)) (making w.s at state made order) frame at (without state (has made))
        made_it =
            makes.make front behind one [] (end_items one.end) (length (written_items w.form front)) at state made order frame is
            (items_and_end w.form one ∙ ap (λ (items : List WItem). items ++ end_items one.end) items_are) (omega arith) no_new can fits fresh

  -- Each block, where those of instructions do.
  pub kind_carries : (front behind : List Finished) (one : Finished) (frame : Frame)
      → w.blocks ≡ front ++ (one ∷ behind)
      → BlockKind w given one behind
      → Agrees frame (frame_in w one)
      → IsFresh w (length (written_items w.form front)) one frame
      → ((at : ℕ) (point : Point) (route : Route)
      → AtInstruction w given at point route one behind
      → Behind w given at route behind
      → BlockCarries w (length (written_items w.form front)) one behind frame)
      → BlockCarries w (length (written_items w.form front)) one behind frame
  kind_carries front behind one frame is (of_instruction at point route here behind_is) agrees fresh instruction = instruction at point route here behind_is
  kind_carries front behind one frame is (makes_before_point at point route there is_route block next) agrees fresh instruction =
      made_block_carries front behind one (before_point at) at route.state route.made route.order None frame is block (λ number e. absurd cc)
      (before_can_make w given at route is_route) agrees fresh
      (λ number last fits. ends.staying front behind one number last is (ap (λ (b : Block). b.leaves) block)
      (goes_behind w last behind at (state_written route) fits next))
  kind_carries front behind one frame is (makes_on_next at n point route edge there is_route is_edge block next) agrees fresh instruction =
      let target = target_of w given at n point route edge there is_route is_edge in
      made_block_carries front behind one (on_next_edge at) edge.to edge.state edge.made edge.order None frame is block (λ number e. absurd cc)
      target.can_make agrees fresh
      (λ number last fits. ends.staying front behind one number last is (ap (λ (b : Block). b.leaves) block)
      (goes_behind w last behind edge.to (without edge.state (has edge.made)) fits next))
  kind_carries front behind one frame is (of_pad at n point route edge of there is_route is_edge pad block rest) agrees fresh instruction =
      let target = target_of w given at n point route edge there is_route is_edge in
      made_block_carries front behind one of edge.to edge.state edge.made edge.order (Some edge.to) frame is block (no_point of pad) target.can_make
      agrees fresh
      (λ number last fits. ends.leaving front behind one number edge.to target.target last is (ap (λ (b : Block). b.leaves) block) target.is_route
      (subst (FitsState w last edge.to) (sym target.left) fits)) where
        no_point : (of : BlockOf) → IsPad of → (number : ℕ) → of ≢ of_point number
        no_point (jump_pad from m) pad number e = absurd cc
        no_point (handler_pad from m) pad number e = absurd cc
        no_point (before_point m) pad number e = absurd pad
        no_point (of_point m) pad number e = absurd pad
        no_point (on_next_edge m) pad number e = absurd pad
