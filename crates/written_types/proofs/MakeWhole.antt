-- Make code as a whole: entries are saved, objects are made, copied, and the stack is loaded again.
use Rattle.std.proofs.Common.{◌≡◌, ◌≢◌, ◌+◌, ◌<◌, ◌≤◌, ℕ, suc, false, List, [], ◌∷◌, ◌++◌, length, map, take, slice_get, Option, Some, refl, sym, ap, subst, ◌∙◌, inl, arith}
use Rattle.std.specs.List.{AllByRecursion, flat_map}
use Rattle.std.proofs.lemmas.List.{append_assoc, length-append, map-append}
use Rattle.class_model.specs.declared.frame.Frame.{Frame}
use Rattle.class_model.specs.declared.frame.VType.{VType}
use Rattle.class_model.specs.declared.frame.VType.TheVariants as types
use Rattle.flow_code.specs.declared.point.Point.{Point}
use Rattle.making_code.specs.Items.{WInstr, WItem, item}
use Rattle.making_code.specs.MakeCode.{Entry, copy_locals_from, copy_object, entries_at, entries_from, entries_in, from_lowest, load_entry, local_slots_in, make_code, make_one}
use Rattle.plan_flow.specs.Written.Blocks.{making}
use Rattle.plan_flow.specs.Written.Finish.{Finished}
use Rattle.plan_flow.specs.Written.WrittenCode.{block_items, written_items}
use Rattle.virtual_state.specs.Sites.{has}
use Rattle.virtual_state.specs.States.{State}
use Rattle.virtual_state.specs.Without.{without}
use Rattle.virtual_state.specs.declared.slot.Slot.{Slot}
use Rattle.written_types.proofs.CarriedBlocks.{stands_inside}
use Rattle.written_types.proofs.Given.{CanMake, FitsState, Given, IsOfNoNew, MakeCarries, MakesCarry}
use Rattle.written_types.proofs.MadeStates.{all_of_both, region_apart}
use Rattle.written_types.proofs.MakeCodes.{Low, all_found, depth_within, fits_after, headers_same, kept_first, low_of, point, reached, saved_not_this, slot_at, slots_long, taken_at, taken_long, unusable_at, ut, widths}
use Rattle.written_types.proofs.MakingCopies.{Copied, copy_all, copy_objects}
use Rattle.written_types.proofs.MakingLocals.{Kept}
use Rattle.written_types.proofs.MakingObjects.{MadeAll, make_all, then_carries}
use Rattle.written_types.proofs.MakingPlaces.{MakeConstants, NoneOf, PlacedFrom, first_placed, rest_placed}
use Rattle.written_types.proofs.MakingReload.{Reloaded, load_again}
use Rattle.written_types.proofs.MakingStack.{SavedAll, save_all, saves_of, saves_types, saving}
use Rattle.written_types.proofs.UnitTypes.{field_region, own_region}
use Rattle.written_types.specs.Inner.CarriedFrames.{Carries, IsFresh}
use Rattle.written_types.specs.Writing.{Writing}

module _ (w : Writing) (given : Given w) (constants : MakeConstants w) (at : ℕ) (state : State) (made order : List ℕ)
    (can : CanMake w given at state made order) (front behind : List Finished) (one : Finished) (left right : List WItem) (number : ℕ) (frame : Frame)
    (is : w.blocks ≡ front ++ (one ∷ behind))
    (items : block_items w.form one ≡ left ++ (making w.s at state made order ++ right))
    (number_is : number ≡ length (written_items w.form front) + length left)
    (no_new : IsOfNoNew w one)
    (fits : FitsState w frame at state)
    (fresh : IsFresh w (length (written_items w.form front)) one frame) where
  abbrev low : ℕ
  low = length (written_items w.form front)

  abbrev high : ℕ
  high = low + length (block_items w.form one)

  abbrev code : List WInstr
  code = make_code w.s.flat at state made order

  pub lowest_of_it : Low w given constants at state made order can frame
  lowest_of_it = low_of w given constants at state made order can frame fits

  abbrev low_entries : List Entry
  low_entries = entries_from lowest_of_it.low_place lowest_of_it.low_below lowest_of_it.low_types lowest_of_it.low_slots

  abbrev saves : List (ℕ × VType)
  saves = saves_of lowest_of_it.low_below lowest_of_it.low_types lowest_of_it.low_slots lowest_of_it.tops

  abbrev slots : List Slot
  slots = take (length can.fits.point.typed.locals) state.slots

  -- the parts
  abbrev part_a : List WInstr
  part_a = saving low_entries

  abbrev part_b : List WInstr
  part_b = flat_map (make_one w.s.flat state) order

  abbrev part_c : List WInstr
  part_c = copy_locals_from made 0 slots

  abbrev part_d : List WInstr
  part_d = flat_map (copy_object made) state.objects

  abbrev part_e : List WInstr
  part_e = flat_map (load_entry made) low_entries

  entries_are : from_lowest made (entries_at w.s.flat at state) ≡ low_entries
  entries_are =
      ap (λ (found : Option Point). from_lowest made (entries_in found state)) can.fits.there ∙ lowest_of_it.entries

  code_is : code ≡ part_a ++ part_b ++ part_c ++ part_d ++ part_e
  code_is =
      (λ i. saving (entries_are i) ++ part_b ++ copy_locals_from made 0 (local_slots_in (can.fits.there i) state) ++ part_d
      ++ flat_map (load_entry made) (entries_are i))

  -- ---- places

  mapped_long : {A B : Type 0} (change : A → B) (all : List A) → length (map change all) ≡ length all
  mapped_long change [] = refl
  mapped_long change (first ∷ all) = ap suc (mapped_long change all)

  placed : PlacedFrom w low high number code
  placed = record {
    each = λ before after instr code_apart.
        stands_inside w front behind one (number + length before) (left ++ map item before) (map item after ++ right) (item instr) (record {
          is = is;
          items =
              items
              ∙ ap (λ (all : List WItem). left ++ (all ++ right)) (ap (map item) code_apart ∙ map-append item before (instr ∷ after))
              ∙ ap (λ (all : List WItem). left ++ all) (append_assoc (map item before) (item instr ∷ map item after) right)
              ∙ sym (append_assoc left (map item before) (item instr ∷ (map item after ++ right)));
          number_is =
              let long = length-append left (map item before) in
              let mapped = mapped_long item before in
              omega (arith, number_is, long, mapped);
        });
    from = omega (arith, number_is);
    to =
        let whole = ap length items in
        let one_long = length-append left (map item code ++ right) in
        let two_long = length-append (map item code) right in
        let mapped = mapped_long item code in
        omega (arith, number_is, whole, one_long, two_long, mapped);
  }

  placed_parts : PlacedFrom w low high number (part_a ++ part_b ++ part_c ++ part_d ++ part_e)
  placed_parts = subst (PlacedFrom w low high number) code_is placed

  placed_b : PlacedFrom w low high (number + length part_a) part_b
  placed_b =
      rest_placed w low high number part_a part_b
      (first_placed w low high number (part_a ++ part_b) part_c
      (first_placed w low high number (part_a ++ part_b ++ part_c) part_d
      (first_placed w low high number (part_a ++ part_b ++ part_c ++ part_d) part_e placed_parts)))

  -- ---- what is fresh

  parts_fresh : NoneOf low high lowest_of_it.base × NoneOf low high lowest_of_it.tops
  parts_fresh = (
    λ at_item from to. (both at_item from to).0,
    λ at_item from to. (both at_item from to).1,
  ) where
    both : (at_item : ℕ) → low ≤ at_item → at_item < high
        → AllByRecursion (λ type. type ≢ types.Uninit at_item) lowest_of_it.base
        × AllByRecursion (λ type. type ≢ types.Uninit at_item) lowest_of_it.tops
    both at_item from to =
        all_of_both (λ type. type ≢ types.Uninit at_item) lowest_of_it.base lowest_of_it.tops
        (subst (AllByRecursion (λ type. type ≢ types.Uninit at_item)) lowest_of_it.is (fresh at_item from to))

  -- ---- step by step

  step_a : SavedAll w at (point w given constants at state made order can) state made (ut w given constants at state made order can)
      (headers_same w given constants at state made order can) number lowest_of_it.low_place lowest_of_it.low_below lowest_of_it.low_types
      lowest_of_it.low_slots frame.locals lowest_of_it.base lowest_of_it.tops
  step_a =
      save_all w at (point w given constants at state made order can) state made (ut w given constants at state made order can)
      (headers_same w given constants at state made order can) number lowest_of_it.low_place lowest_of_it.low_below lowest_of_it.low_types
      lowest_of_it.low_slots frame.locals lowest_of_it.base lowest_of_it.tops (kept_first w given constants at state made order can frame fits)
      lowest_of_it.no_tops lowest_of_it.fits
      (saved_not_this w given constants at state made order can lowest_of_it.low_types lowest_of_it.low_slots lowest_of_it.tops lowest_of_it.fits
      lowest_of_it.no_tops lowest_of_it.not_this)
      (let room = lowest_of_it.room in
      let deep = depth_within w.s.flat.points at can.fits.point can.fits.there in
      omega (arith, room, deep))

  apart : (at_item : ℕ) → low ≤ at_item → at_item < high → (unit : ℕ) (type : VType)
      → slice_get (own_region w can.fits.point state ++ field_region w state) unit ≡ Some type
      → type ≢ types.Uninit at_item
  apart at_item from to unit type there =
      region_apart w given (reached w given constants at state made order can) front behind one is no_new at_item from to can.fits.point state
      can.fits.locals unit type there

  step_b : MadeAll w given at can.fits.point state made order (ut w given constants at state made order can) can constants
      (headers_same w given constants at state made order can) low high apart (number + length part_a) part_b step_a.after lowest_of_it.base saves
  step_b =
      make_all w given at can.fits.point state made order (ut w given constants at state made order can) can constants
      (headers_same w given constants at state made order can) low high apart made order (number + length part_a) step_a.after lowest_of_it.base
      (λ site. false) saves can.is_order step_a.kept (λ site taken. taken) (λ site taken. inl taken) parts_fresh.0
      (λ at_item from to. saves_types (λ type. type ≢ types.Uninit at_item) lowest_of_it.low_below lowest_of_it.low_types lowest_of_it.low_slots
      lowest_of_it.tops (parts_fresh.1 at_item from to)) placed_b

  slots_count : 0 + length slots ≡ w.s.flat.locals
  slots_count =
      let long = taken_long (length can.fits.point.typed.locals) state.slots (slots_long w given constants at state made order can) in
      let same = widths w given constants at state made order can in
      omega (arith, long, same)

  step_c : Copied w at can.fits.point state made (ut w given constants at state made order can) (headers_same w given constants at state made order can)
      (widths w given constants at state made order can) can.fits.pairs (unusable_at w given constants at state made order can)
      (slot_at w given constants at state made order can) step_b.done step_b.all saves (number + length (part_a ++ part_b)) part_c step_b.after
      lowest_of_it.base (0 + length slots)
  step_c =
      copy_all w at can.fits.point state made (ut w given constants at state made order can) (headers_same w given constants at state made order can)
      (widths w given constants at state made order can) can.fits.pairs (unusable_at w given constants at state made order can)
      (slot_at w given constants at state made order can) step_b.done step_b.all saves (number + length (part_a ++ part_b)) 0 slots step_b.after
      lowest_of_it.base (omega (arith, slots_count))
      (λ n slot there. ap (slice_get state.slots) (the_same (0 + n) n (omega arith)) ∙ taken_at (length can.fits.point.typed.locals) state.slots n slot there)
      step_b.kept where
        the_same : (a b : ℕ) → a ≡ b → a ≡ b
        the_same a b e = e

  step_d : Copied w at can.fits.point state made (ut w given constants at state made order can) (headers_same w given constants at state made order can)
      (widths w given constants at state made order can) can.fits.pairs (unusable_at w given constants at state made order can)
      (slot_at w given constants at state made order can) step_b.done step_b.all saves (number + length (part_a ++ part_b ++ part_c)) part_d
      step_c.after lowest_of_it.base w.s.flat.locals
  step_d =
      copy_objects w at can.fits.point state made (ut w given constants at state made order can)
      (headers_same w given constants at state made order can) (widths w given constants at state made order can) can.fits.pairs
      (unusable_at w given constants at state made order can) (slot_at w given constants at state made order can) step_b.done step_b.all saves
      (number + length (part_a ++ part_b ++ part_c)) state.objects step_c.after lowest_of_it.base (all_found state.objects can.is_state.order)
      can.fits.objects
      (subst (λ (n : ℕ). Kept w at can.fits.point state made (ut w given constants at state made order can) step_c.after step_b.done saves n) slots_count
      step_c.kept)

  step_e : Reloaded w made (headers_same w given constants at state made order can) (number + length (part_a ++ part_b ++ part_c ++ part_d))
      lowest_of_it.low_place lowest_of_it.low_below lowest_of_it.low_types lowest_of_it.low_slots step_d.after lowest_of_it.base
  step_e =
      load_again w made (headers_same w given constants at state made order can) (number + length (part_a ++ part_b ++ part_c ++ part_d))
      lowest_of_it.low_place lowest_of_it.low_below lowest_of_it.low_types lowest_of_it.low_slots step_d.after lowest_of_it.base lowest_of_it.tops
      lowest_of_it.no_tops lowest_of_it.fits lowest_of_it.typed step_d.kept.saved
      (λ site one_site taken is_site. step_d.kept.made site one_site (step_b.all site taken) is_site)

  -- ---- all steps

  abbrev at_base : List VType → Frame
  at_base locals = record { locals = locals; stack = lowest_of_it.base }

  pub make_carries : MakeCarries w number (making w.s at state made order) frame at (without state (has made))
  make_carries = record {
    last = last;
    carries = subst (λ (instrs : List WInstr). Carries w number (map item instrs) frame (Some last)) (sym code_is)
        (subst (λ (stack : List VType). Carries w number (map item (part_a ++ part_b ++ part_c ++ part_d ++ part_e))
        (record { locals = frame.locals; stack = stack }) (Some last)) (sym lowest_of_it.is)
        (then_carries w number (part_a ++ part_b ++ part_c ++ part_d) part_e first (at_base step_d.after) last
        (then_carries w number (part_a ++ part_b ++ part_c) part_d first (at_base step_c.after) (at_base step_d.after)
        (then_carries w number (part_a ++ part_b) part_c first (at_base step_b.after) (at_base step_c.after)
        (then_carries w number part_a part_b first (at_base step_a.after) (at_base step_b.after) step_a.carries step_b.carries) step_c.carries)
        step_d.carries) step_e.carries));
    fits =
        fits_after w given constants at state made order can frame fits step_d.after step_b.done step_b.all saves step_d.kept lowest_of_it.base step_e.new
        (lowest_of_it.back step_e.new step_e.fits);
  } where
    first : Frame
    first = record { locals = frame.locals; stack = lowest_of_it.base ++ lowest_of_it.tops }

    last : Frame
    last = record { locals = step_d.after; stack = lowest_of_it.base ++ step_e.new }

pub makes_carry : (w : Writing) (given : Given w) → MakeConstants w → MakesCarry w given
makes_carry w given constants = record {
  make = λ front behind one left right number at state made order frame is items number_is no_new can fits fresh.
      make_carries w given constants at state made order can front behind one left right number frame is items number_is no_new fits fresh;
}
