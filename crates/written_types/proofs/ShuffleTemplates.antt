-- Pop, dup, swap and the like: their template carries each frame to the next point.
use Rattle.std.proofs.Common.{◌≡◌, ◌+◌, ◌-◌, ◌≤◌, ◌<◌, if◌then◌else◌, ℕ, suc, Bool, true, false, List, [], ◌∷◌, ◌++◌, drop, length, map, reverse, slice_get, take, Option, Some, None, refl, sym, ap, subst, ◌∙◌, arith}
use Rattle.std.specs.List.{AllByRecursion}
use Rattle.std.proofs.lemmas.List.{length-drop, length-map, reverse-append, take-append-drop}
use Rattle.class_model.specs.declared.frame.Frame.{Frame}
use Rattle.class_model.specs.declared.frame.VType.{VType}
use Rattle.class_model.specs.declared.instr.Instr.TheVariants.{Shuffle}
use Rattle.flow_code.specs.declared.point.FlatInstr.{FlatInstr}
use Rattle.flow_code.specs.declared.point.FlatInstr.TheVariants.{Of}
use Rattle.making_code.specs.Items.{WInstr, item, plain}
use Rattle.member_link.specs.Bodies.{item_row}
use Rattle.member_link.specs.BodyTyping.{RowHolds}
use Rattle.member_link.specs.Rows.Operands.{topmost, under}
use Rattle.member_link.specs.Rows.Readings.{row_by}
use Rattle.member_link.specs.Rows.Row.{Row, stack_behind}
use Rattle.member_link.specs.Rows.ShuffleRows.{Form, form_in, form_row, forms_of, have_widths, need_of, picked}
use Rattle.plan_flow.specs.PlanRows.{PlanRow, Source}
use Rattle.plan_flow.specs.PlanSlots.{changed, held, is_open, readable}
use Rattle.plan_flow.specs.PlanTable.{falls_on, operand, picked_operands, row_at, shuffle_row}
use Rattle.plan_flow.specs.Written.Templates.{Cell, cells, cells_from, shuffles}
use Rattle.same_runs.specs.Flats.{flat_item, instr_scope}
use Rattle.same_runs.specs.TypedFlats.{reading_of}
use Rattle.virtual_state.specs.States.{is_present, is_unusable}
use Rattle.virtual_state.specs.declared.slot.Slot.{Slot}
use Rattle.plan_flow.specs.Written.FramedCode.{frame_by_item}
use Rattle.written_types.proofs.AgreeingFrames.{agrees_with_itself}
use Rattle.written_types.proofs.Placing.{IsMade}
use Rattle.written_types.proofs.Given.{EdgesFit, EndsCarry, Given, entries_in}
use Rattle.written_types.proofs.ItemSteps.{frame_of, shuffle_carries}
use Rattle.written_types.proofs.OperandRows.{Fit, no_operand}
use Rattle.written_types.proofs.ShuffleForms.{IsChecked, MovesTo, all_checked, cells_of, chosen_lists, joined, moves, stays}
use Rattle.written_types.proofs.ShuffleOperands.{agree_same, all_fit, cells_are, cells_both, chosen_slots, given_are, lists_joined, lists_of, none_top}
use Rattle.written_types.proofs.SlotFrames.{Usable, as_long_dropped, as_long_taken, by_top, by_wide}
use Rattle.written_types.proofs.StackRows.{read_form}
use Rattle.written_types.proofs.Standing.{all_dropped, item_of_dropped}
use Rattle.written_types.proofs.TemplateEnds.{template_carries}
use Rattle.written_types.proofs.Templates.{Before, Taken, agrees_behind, entries, entries_have, entries_long, have_dropped, locals_stay, number, places, plan_row, read, read_long, row, state, taken, typed, By, along, moved_slots}
use Rattle.written_types.proofs.TopForms.{FormMoves, form_fits, form_moves, long_widths, moved}
use Rattle.written_types.specs.FitsTypes.{HaveTypes}
use Rattle.written_types.specs.Inner.CarriedFrames.{AgreeIn, Agrees, BlockCarries, Carries, carries_none}
use Rattle.written_types.specs.Writing.{Writing}

-- a form that is found is one of the forms
found_checked : (P : Form → Type 0) (forms : List Form) (stack : List VType) (form : Form) → AllByRecursion P forms → form_in forms stack ≡ Some form
    → P form
found_checked P [] stack form all is = absurd cc
found_checked P (first ∷ forms) stack form all is =
    by (have_widths first.takes (topmost (length first.takes) stack)) is (found_checked P forms stack form all.1) where
      by : (b : Bool) → (if b then Some first else form_in forms stack) ≡ Some form → (form_in forms stack ≡ Some form → P form) → P form
      by true found rest = let same : first ≡ form = cc in subst P same all.0
      by false found rest = rest found

module _ (w : Writing) (given : Given w) (fit : EdgesFit w given) (ends : EndsCarry w given) (b : Before w given) (class opcode : ℕ)
    (is : b.point.instr ≡ Of class (Shuffle opcode)) where
  abbrev i : FlatInstr
  i = Of class (Shuffle opcode)

  abbrev typed_stack : List VType
  typed_stack = b.point.typed.stack

  abbrev read_stack : List VType
  read_stack = (read w given b).stack

  abbrev slots : List Slot
  slots = entries w given b

  -- ---- rows

  abbrev own_row : FlatInstr → Row
  own_row one =
      row_by (reading_of w.s.classes w.s.flat b.at b.point.typed one) (read w given b)
      (item_row (instr_scope w.s.classes w.host w.s.flat one) (read w given b) b.at (flat_item one))

  held_row : RowHolds (instr_scope w.s.classes w.host w.s.flat i) (read w given b) (own_row i)
  held_row = subst (λ (one : FlatInstr). RowHolds (instr_scope w.s.classes w.host w.s.flat one) (read w given b) (own_row one)) is (typed w given b).row

  abbrev plan_of : FlatInstr → PlanRow
  plan_of one = row_at w.s b.at b.point.typed one

  module _ (form : Form) (found : form_in (forms_of opcode) read_stack ≡ Some form) where
    abbrev count : ℕ
    count = length form.takes

    abbrev low_count : ℕ
    low_count = length read_stack - count

    abbrev tops : List VType
    tops = topmost count read_stack

    abbrev top_slots : List Slot
    top_slots = drop low_count slots

    fits_tops : have_widths form.takes tops ≡ true
    fits_tops = form_fits (forms_of opcode) read_stack form found

    form_is : form_in (forms_of opcode) typed_stack ≡ Some form
    form_is = sym (read_form w.s.flat (forms_of opcode) typed_stack) ∙ found

    checked : IsChecked opcode form
    checked = found_checked (IsChecked opcode) (forms_of opcode) read_stack form (all_checked opcode) found

    usable : Usable top_slots
    usable = all_dropped (λ (slot : Slot). is_unusable slot ≡ false) low_count slots (places w given b).usable

    have_tops : HaveTypes w.s tops top_slots
    have_tops = have_dropped w.s low_count read_stack slots (entries_have w given b)

    tops_long : length tops ≡ count
    tops_long = sym (long_widths form.takes tops fits_tops)

    slots_long : length tops ≡ length top_slots
    slots_long = as_long_dropped low_count read_stack slots (entries_long w given b)

    few : count ≤ length read_stack
    few = let all = length-drop low_count read_stack in let long = tops_long in omega (arith, all, long)

    -- ---- what is written

    abbrev all : List (List VType)
    all = lists_of (By w given b) (by_wide w.form w.blocks) (by_top w.form w.blocks) tops top_slots

    moved_to : MovesTo (λ (others : List Cell). shuffles opcode (reverse (cells_of form.takes top_slots) ++ others)) (joined all)
        (chosen_lists all form.gives)
    moved_to =
        checked.checks top_slots all
        (all_fit (By w given b) (by_wide w.form w.blocks) (by_top w.form w.blocks) w.s form.takes tops top_slots fits_tops have_tops usable)

    abbrev low_cells : List Cell
    low_cells = cells_from (take low_count typed_stack) (take low_count slots)

    typed_fits : have_widths form.takes (drop low_count typed_stack) ≡ true
    typed_fits =
        ap (λ (n : ℕ). have_widths form.takes (drop (n - count) typed_stack)) (read_long w given b)
        ∙ form_fits (forms_of opcode) typed_stack form form_is

    cells_is : cells b.point.typed (state w given b) ≡ reverse (cells_of form.takes top_slots) ++ reverse low_cells
    cells_is =
        ap reverse
        ((λ j. cells_from (sym (take-append-drop low_count typed_stack) j) (sym (take-append-drop low_count slots) j))
        ∙ cells_both (take low_count typed_stack) (drop low_count typed_stack) (take low_count slots) top_slots
        (as_long_taken low_count typed_stack slots (sym (read_long w given b) ∙ entries_long w given b))
        ∙ ap (λ (rest : List Cell). low_cells ++ rest) (cells_are form.takes (drop low_count typed_stack) top_slots typed_fits))
        ∙ reverse-append low_cells (cells_of form.takes top_slots)

    abbrev instrs : List WInstr
    instrs = shuffles opcode (cells b.point.typed (state w given b))

    -- ---- what it leaves

    parts : Taken w b.frame read_stack slots count
    parts = taken w given b count

    top_is : parts.top ≡ joined all
    top_is =
        agree_same parts.top _ parts.top_agree
        (none_top (By w given b) (by_wide w.form w.blocks) (by_top w.form w.blocks) form.takes tops top_slots fits_tops)
        ∙ lists_joined (By w given b) (by_wide w.form w.blocks) (by_top w.form w.blocks) tops top_slots

    stack_is : b.frame.stack ≡ parts.low ++ joined all
    stack_is = parts.is ∙ ap (λ (top : List VType). parts.low ++ top) top_is

    abbrev last : Frame
    last = frame_of b.frame.locals (parts.low ++ chosen_lists all form.gives)

    -- by the instructions that are written
    stays_carries : (written : List WInstr) → written ≡ [] → joined all ≡ chosen_lists all form.gives
        → Carries w (number w given b) (map item written) b.frame (Some last)
    stays_carries written none same =
        subst (λ (code : List WInstr). Carries w (number w given b) (map item code) b.frame (Some last)) (sym none)
        (subst (λ (stack : List VType). Carries w (number w given b) [] b.frame (Some (frame_of b.frame.locals stack)))
        (stack_is ∙ ap (λ (top : List VType). parts.low ++ top) same) (carries_none (number w given b) b.frame))

    moves_carries : (written : List WInstr) (code : ℕ) → written ≡ plain (Shuffle code) ∷ []
        → FormMoves code parts.low (joined all) (chosen_lists all form.gives)
        → Carries w (number w given b) (map item written) b.frame (Some last)
    moves_carries written code one m =
        subst (λ (instrs : List WInstr). Carries w (number w given b) (map item instrs) b.frame (Some last)) (sym one)
        (shuffle_carries w (number w given b) b.frame [] (Some last) code m.form parts.low (joined all)
        (ap (form_in (forms_of code)) stack_is ∙ m.found) stack_is m.fits
        (subst (λ (top : List VType). Carries w (suc (number w given b)) [] (frame_of b.frame.locals (parts.low ++ top)) (Some last)) (sym m.gives)
        (carries_none (suc (number w given b)) last)))

    record Written (written : List WInstr) : Type 0 where
      made : AllByRecursion IsMade written
      so : Carries w (number w given b) (map item written) b.frame (Some last)

    written_by : (others : List Cell) → Written (shuffles opcode (reverse (cells_of form.takes top_slots) ++ others))
    written_by others = by moved_to others where
      by_one : (written : List WInstr) (code : ℕ) → written ≡ plain (Shuffle code) ∷ []
          → ((below : List VType) → moved code (reverse (joined all) ++ below) ≡ Some (length (joined all), chosen_lists all form.gives))
          → Written written
      by_one written code one m = record {
        made = subst (AllByRecursion IsMade) (sym one) (tt, tt);
        so = moves_carries written code one
            (form_moves code parts.low (joined all) (chosen_lists all form.gives) (m (reverse parts.low)));
      }

      by_none : (written : List WInstr) → written ≡ [] → joined all ≡ chosen_lists all form.gives → Written written
      by_none written none same = record { made = subst (AllByRecursion IsMade) (sym none) tt; so = stays_carries written none same }

      by : MovesTo (λ (others : List Cell). shuffles opcode (reverse (cells_of form.takes top_slots) ++ others)) (joined all)
          (chosen_lists all form.gives)
          → (others : List Cell)
          → Written (shuffles opcode (reverse (cells_of form.takes top_slots) ++ others))
      by (stays none some same) [] = by_none _ none same
      by (stays none some same) (cell ∷ others) = by_none _ (some cell others) same
      by (moves code one more m) [] = by_one _ code one m
      by (moves code one more m) (cell ∷ others) = by_one _ code (more cell others) m

    written : Written instrs
    written = subst (λ (found : List Cell). Written (shuffles opcode found)) (sym cells_is) (written_by (reverse low_cells))

    -- ---- along the edge

    abbrev sources : List Source
    sources = picked_operands b.point.typed count form.gives

    plan_is : plan_row w given b ≡ shuffle_row b.point.typed (Some form)
    plan_is = ap plan_of is ∙ ap (shuffle_row b.point.typed) form_is

    row_is : stack_behind (read w given b) (row w given b) ≡ under count read_stack ++ picked tops form.gives
    row_is =
        ap (λ (one : FlatInstr). stack_behind (read w given b) (own_row one)) is
        ∙ ap (λ (one : Option Form). stack_behind (read w given b) (form_row (read w given b) one)) found
        ∙ ap (λ (n : ℕ). under n read_stack ++ picked tops form.gives) (length-map form.takes need_of)

    operand_is : (number : ℕ) → number < count
        → held (state w given b) (operand b.point.typed (count - (number + 1))) ≡ readable (slice_get top_slots number)
    operand_is number low =
        let some = few in
        let long = read_long w given b in
        let place : operand b.point.typed (count - (number + 1)) ≡ length b.point.typed.locals + (low_count + number) =
        omega (arith, some, long, low) in
        ap (held (state w given b)) place
        ∙ ap readable (sym (item_of_dropped (length b.point.typed.locals) (state w given b).slots (low_count + number))
        ∙ sym (item_of_dropped low_count slots number))

    sources_are : (numbers : List ℕ) → AllByRecursion (λ (number : ℕ). number < count) numbers
        → moved_slots w given b (picked_operands b.point.typed count numbers)
        ≡ chosen_slots (By w given b) (by_wide w.form w.blocks) (by_top w.form w.blocks) top_slots numbers
    sources_are [] low = refl
    sources_are (number ∷ numbers) low = λ j. operand_is number low.0 j ∷ sources_are numbers low.1 j

    given_is : chosen_lists all form.gives ≡ map (By w given b) (entries_in (picked tops form.gives) (moved_slots w given b sources))
    given_is =
        sym (given_are (By w given b) (by_wide w.form w.blocks) (by_top w.form w.blocks) tops top_slots form.gives slots_long usable
        (subst (λ (n : ℕ). AllByRecursion (λ (number : ℕ). number < n) form.gives) (sym tops_long) checked.low))
        ∙ ap (λ (found : List Slot). map (By w given b) (entries_in (picked tops form.gives) found)) (sym (sources_are form.gives checked.low))

    agrees : Agrees last (frame_by_item w.form w.blocks (along w given b))
    agrees =
        agrees_behind w given b count sources (picked tops form.gives) b.frame.locals (chosen_lists all form.gives) parts
        (ap (λ (p : PlanRow). p.stack) plan_is) row_is
        (subst (AgreeIn (chosen_lists all form.gives)) given_is (agrees_with_itself (chosen_lists all form.gives)))
        (locals_stay w given b (ap (λ (one : FlatInstr). (own_row one).locals) is ∙ ap (λ (one : Option Form). (form_row (read w given b) one).locals) found)
        (ap (λ (p : PlanRow). p.locals) plan_is)
        (λ site. ap (λ (p : PlanRow). is_present (changed w.s (state w given b) p.change ++ (state w given b).objects) site) plan_is))
        b.agrees.no_this

    form_carries : BlockCarries w (number w given b) b.one b.behind b.frame
    form_carries =
        template_carries w given b fit ends instrs last (rw (is) refl) written.made (rw (is) refl) (ap falls_on is)
        (ap (λ (p : PlanRow). is_open (state w given b) p.next) plan_is) written.so agrees

  -- The template of pop, dup, swap and the like.
  pub shuffle_template : BlockCarries w (number w given b) b.one b.behind b.frame
  shuffle_template = by (form_in (forms_of opcode) read_stack) refl where
    by : (found : Option Form) → form_in (forms_of opcode) read_stack ≡ found → BlockCarries w (number w given b) b.one b.behind b.frame
    by None none =
        absurd (no_operand (instr_scope w.s.classes w.host w.s.flat i) (read w given b)
        (subst (λ (one : Option Form). Fit (instr_scope w.s.classes w.host w.s.flat i) (read w given b) (form_row (read w given b) one)) none
        held_row.operands))
    by (Some form) some = form_carries form some
