-- Turns at pop, dup, swap and the like: the second stack moves the plain ones of the operands.
use Rattle.std.proofs.Common.{◌≡◌, ◌<◌, ◌+◌, ◌-◌, ◌++◌, ℕ, zero, suc, not, Bool, true, false, List, [], ◌∷◌, drop, length, map, reverse, slice_get, take, Some, None, Option, option_map, if◌then◌else◌, IsTrue, refl, sym, ap, subst, ◌∙◌, arith}
use Rattle.std.specs.List.{AllByRecursion}
use Rattle.std.proofs.lemmas.Bool.{and_parts, false≢true}
use Rattle.std.proofs.lemmas.List.{length-reverse, reverse-append, reverse-reverse, take-append-drop}
use Rattle.std.proofs.lemmas.Option.{none-some, same_Some}
use Rattle.class_model.specs.Frames.{depth}
use Rattle.class_model.specs.declared.frame.VType.{VType}
use Rattle.class_model.specs.declared.frame.VType.TheVariants as vtypes
use Rattle.class_model.specs.declared.instr.Instr.TheVariants.{Shuffle}
use Rattle.flow_code.specs.ReadTypes.{is_site_object}
use Rattle.flow_code.specs.declared.point.FlatInstr.TheVariants.{Of}
use Rattle.machine_values.specs.Frames.{MethodState}
use Rattle.machine_values.specs.Values.{is_wide_value}
use Rattle.machine_values.specs.declared.value.Value.{Value}
use Rattle.machine_values.specs.declared.value.Value.TheVariants.{Ref}
use Rattle.making_code.specs.Items.{WInstr, plain}
use Rattle.member_link.specs.Machine.Locals.{chosen_values, fit_widths, fits_width, form_for, shuffled, topmost}
use Rattle.member_link.specs.Machine.Ops.{Op, shuffle_stack}
use Rattle.member_link.specs.Machine.Runs.{Run}
use Rattle.member_link.specs.Machine.Stepping.{next_with, shuffle_step}
use Rattle.member_link.specs.Rows.Operands as operands
use Rattle.member_link.specs.Rows.ShuffleRows.{Form, Width, form_in, forms_of, has_width, have_widths, one, two}
use Rattle.plan_flow.specs.PlanRows.{PlanRow, Source, from_place, no_change}
use Rattle.plan_flow.specs.PlanSlots.{held, is_open, readable, slots_from}
use Rattle.plan_flow.specs.PlanTable.{operand, picked_operands, shuffle_row}
use Rattle.plan_flow.specs.ReadyForPlans.{KeepsType, from_its_new, from_its_type, place_types}
use Rattle.plan_flow.specs.Written.Blocks.{state_written}
use Rattle.plan_flow.specs.Written.Templates.{Cell, cells, cells_from, shuffles}
use Rattle.same_runs.specs.Laws.BothBegin.{counted}
use Rattle.same_runs.specs.Laws.LongerStacks.{shuffled_over}
use Rattle.same_runs.specs.Laws.Moves.{same_wide, shuffled_by}
use Rattle.same_runs.specs.Renamings.{Names, SameValue, no_values}
use Rattle.virtual_state.specs.declared.slot.Slot.{Slot}
use Rattle.virtual_state.specs.declared.slot.Slot.TheVariants.{Plain, Virt, Unusable}
use Rattle.written_runs.specs.Inner.PlannedFrames.{KeepStack, scope_in}
use Rattle.written_runs.specs.Inner.Setup.{Setup}
use Rattle.written_runs.specs.Laws.MadeItems.{AreOwn}
use Rattle.written_runs.specs.Laws.PlannedTurns.{AtPlanned, written_at}
use Rattle.written_runs.specs.Laws.Simulation.{KeepsTurn}
use Rattle.written_runs.specs.Laws.Templates.Inits.{stack_usable}
use Rattle.written_runs.specs.Laws.Templates.Instrs.{here_not_stuck, items_are, row_here}
use Rattle.written_runs.specs.Laws.Templates.Items.{IsStraight, all_moved, op_of, shuffle_is_straight}
use Rattle.written_runs.specs.Laws.Templates.Known.{TemplateLaws, entries, held_virtual, many_both, many_entries, many_stack, reached, split_stack, stands, tells, written}
use Rattle.written_runs.specs.Laws.Templates.Operands.{none_same}
use Rattle.written_runs.specs.Laws.Templates.ShuffleForms.{FitAll, Fits, IsChecked, MovesTo, all_checked, and_fit, cells_of, chosen_lists, gone, joined, list_or_none, moves, narrow, no_fits, stays, wide}
use Rattle.written_runs.specs.Laws.Templates.Stacks.{KeptParts, get_dropped, get_right, length_dropped, length_taken}
use Rattle.written_runs.specs.Laws.Templates.Still.{still_goes_next}
use Rattle.written_runs.specs.VirtualObjects.{RefersTo}

-- ---- forms

fit_length : (widths : List Width) (values : List Value) → fit_widths widths values ≡ true → length widths ≡ length values
fit_length [] [] fits = refl
fit_length [] (value ∷ values) fits = absurd (false≢true fits)
fit_length (width ∷ widths) [] fits = absurd (false≢true fits)
fit_length (width ∷ widths) (value ∷ values) fits =
    ap suc (fit_length widths values (and_parts (fits_width width value) (fit_widths widths values) fits).1)

-- a form that is found is one of the forms, and fits
form_is : (P : Form → Type 0) (forms : List Form) (stack : List Value) (form : Form) → AllByRecursion P forms → form_for forms stack ≡ Some form
    → P form × (fit_widths form.takes (topmost (length form.takes) stack) ≡ true)
form_is P [] stack form all is = absurd (none-some form is)
form_is P (first_form ∷ forms) stack form all is =
    by (fit_widths first_form.takes (topmost (length first_form.takes) stack)) refl is (λ same. form_is P forms stack form all.1 same) where
      by : (fits : Bool) → fit_widths first_form.takes (topmost (length first_form.takes) stack) ≡ fits
          → (if fits then Some first_form else form_for forms stack) ≡ Some form
          → (form_for forms stack ≡ Some form → P form × (fit_widths form.takes (topmost (length form.takes) stack) ≡ true))
          → P form × (fit_widths form.takes (topmost (length form.takes) stack) ≡ true)
      by true fits same behind =
          subst (λ (f : Form). P f × (fit_widths f.takes (topmost (length f.takes) stack) ≡ true)) (same_Some first_form form same) (all.0, fits)
      by false fits same behind = behind same

typed_fits : (forms : List Form) (types : List VType) (form : Form) → form_in forms types ≡ Some form
    → have_widths form.takes (operands.topmost (length form.takes) types) ≡ true
typed_fits [] types form is = absurd (none-some form is)
typed_fits (first_form ∷ forms) types form is =
    by (have_widths first_form.takes (operands.topmost (length first_form.takes) types)) refl is (λ same. typed_fits forms types form same) where
      by : (fits : Bool) → have_widths first_form.takes (operands.topmost (length first_form.takes) types) ≡ fits
          → (if fits then Some first_form else form_in forms types) ≡ Some form
          → (form_in forms types ≡ Some form → have_widths form.takes (operands.topmost (length form.takes) types) ≡ true)
          → have_widths form.takes (operands.topmost (length form.takes) types) ≡ true
      by true fits same behind =
          subst (λ (f : Form). have_widths f.takes (operands.topmost (length f.takes) types) ≡ true) (same_Some first_form form same) fits
      by false fits same behind = behind same

-- ---- cells

wide_units : (width : Width) (type : VType) (slot : Slot) (types : List VType) (slots : List Slot) → has_width width type ≡ true
    → cells_from (type ∷ types) (slot ∷ slots) ≡ cells_of (width ∷ []) (slot ∷ []) ++ cells_from types slots
wide_units one vtypes.Long slot types slots told = absurd (false≢true told)
wide_units one vtypes.Double slot types slots told = absurd (false≢true told)
wide_units one type slot types slots told = refl
wide_units two vtypes.Long slot types slots told = refl
wide_units two vtypes.Double slot types slots told = refl
wide_units two type slot types slots told = absurd (false≢true told)

cells_are : (widths : List Width) (types : List VType) (slots : List Slot) → have_widths widths types ≡ true → cells_from types slots ≡ cells_of widths slots
cells_are [] [] slots fits = refl
cells_are [] (type ∷ types) slots fits = absurd (false≢true fits)
cells_are (width ∷ widths) [] slots fits = absurd (false≢true fits)
cells_are (width ∷ widths) (type ∷ types) [] fits = refl
cells_are (width ∷ widths) (type ∷ types) (slot ∷ slots) fits =
    let both = and_parts (has_width width type) (have_widths widths types) fits in
    wide_units width type slot types slots both.0
    ∙ ap (λ (all : List Cell). cells_of (width ∷ []) (slot ∷ []) ++ all) (cells_are widths types slots both.1)

cells_both : (types more_types : List VType) (slots more_slots : List Slot) → length types ≡ length slots
    → cells_from (types ++ more_types) (slots ++ more_slots) ≡ cells_from types slots ++ cells_from more_types more_slots
cells_both [] more_types [] more_slots many = refl
cells_both [] more_types (slot ∷ slots) more_slots many = absurd (omega (arith, many))
cells_both (type ∷ types) more_types [] more_slots many = absurd (omega (arith, many))
cells_both (type ∷ types) more_types (slot ∷ slots) more_slots many =
    ap (λ (all : List Cell). record { units = depth (type ∷ []); slot = slot } ∷ all)
    (cells_both types more_types slots more_slots (omega (arith, many)))

-- ---- what the second stack has of operands

data AllKept (names : Names) : List Slot → List Value → List (List Value) → Type 0 where
  none_kept : AllKept names [] [] []
  virtual_kept : {site : ℕ} {value : Value} {slots : List Slot} {values : List Value} {all : List (List Value)}
      → AllKept names slots values all
      → AllKept names (Virt site ∷ slots) (value ∷ values) ([] ∷ all)
  plain_kept : {value also : Value} {slots : List Slot} {values : List Value} {all : List (List Value)}
      → SameValue names value also
      → AllKept names slots values all
      → AllKept names (Plain ∷ slots) (value ∷ values) ((also ∷ []) ∷ all)

record HasKept (names : Names) (widths : List Width) (slots : List Slot) (values second : List Value) : Type 0 where
  pub all : List (List Value)
  pub fits : FitAll widths slots all
  pub kept : AllKept names slots values all
  pub are : second ≡ joined all

plain_fits : (width : Width) (value also : Value) → fits_width width value ≡ true → is_wide_value also ≡ is_wide_value value → Fits width Plain (also ∷ [])
plain_fits one value also fits same = narrow (same ∙ by (is_wide_value value) refl fits) where
  by : (is_wide : Bool) → is_wide_value value ≡ is_wide → not is_wide ≡ true → is_wide_value value ≡ false
  by true is told = absurd (false≢true told)
  by false is told = is
plain_fits two value also fits same = wide (same ∙ fits)

virtual_fits : (width : Width) (value : Value) (site reference : ℕ) → fits_width width value ≡ true → value ≡ Ref reference → Fits width (Virt site) []
virtual_fits one value site reference fits is = gone
virtual_fits two value site reference fits is = absurd (false≢true (sym (ap is_wide_value is) ∙ fits))

has_kept : (names : Names) (widths : List Width) (slots : List Slot) (values second : List Value)
    → fit_widths widths values ≡ true
    → length slots ≡ length values
    → ((number : ℕ) → slice_get slots number ≡ Some Unusable → ⊥)
    → ((number site : ℕ) (value : Value) → slice_get slots number ≡ Some (Virt site) → slice_get values number ≡ Some value
    → (reference : ℕ) × (value ≡ Ref reference))
    → KeepStack names slots values second
    → HasKept names widths slots values second
has_kept names [] [] [] second fits many usable refers keep =
    record { all = []; fits = no_fits; kept = none_kept; are = none_same keep }
has_kept names [] slots (value ∷ values) second fits many usable refers keep = absurd (false≢true fits)
has_kept names (width ∷ widths) slots [] second fits many usable refers keep = absurd (false≢true fits)
has_kept names [] (slot ∷ slots) [] second fits many usable refers keep = absurd (omega (arith, many))
has_kept names (width ∷ widths) [] (value ∷ values) second fits many usable refers keep = absurd (omega (arith, many))
has_kept names (width ∷ widths) (Unusable ∷ slots) (value ∷ values) second fits many usable refers keep = absurd (usable 0 refl)
has_kept names (width ∷ widths) (Virt site ∷ slots) (value ∷ values) second fits many usable refers keep =
    let both = and_parts (fits_width width value) (fit_widths widths values) fits in
    let rest = has_kept names widths slots values second both.1 (omega (arith, many)) (λ number is. usable (suc number) is)
    (λ number site v is there. refers (suc number) site v is there) keep in
    let found = refers 0 site value refl refl in
    record {
      all = [] ∷ rest.all;
      fits = and_fit (virtual_fits width value site found.0 both.0 found.1) rest.fits;
      kept = virtual_kept rest.kept;
      are = rest.are;
    }
has_kept names (width ∷ widths) (Plain ∷ slots) (value ∷ values) [] fits many usable refers keep = absurd keep
has_kept names (width ∷ widths) (Plain ∷ slots) (value ∷ values) (also ∷ second) fits many usable refers keep =
    let both = and_parts (fits_width width value) (fit_widths widths values) fits in
    let rest = has_kept names widths slots values second both.1 (omega (arith, many)) (λ number is. usable (suc number) is)
    (λ number site v is there. refers (suc number) site v is there) keep.1 in
    record {
      all = (also ∷ []) ∷ rest.all;
      fits = and_fit (plain_fits width value also both.0 (same_wide keep.0)) rest.fits;
      kept = plain_kept keep.0 rest.kept;
      are = ap (λ (vs : List Value). also ∷ vs) rest.are;
    }

-- the operand of a number
record KeptAt (names : Names) (slots : List Slot) (values : List Value) (all : List (List Value)) (number : ℕ) : Type 0 where
  pub value : Value
  pub has : List Value
  pub is_value : slice_get values number ≡ Some value
  pub is_has : slice_get all number ≡ Some has
  pub onto : (more : List Slot) (others also : List Value)
      → KeepStack names more others also
      → KeepStack names (readable (slice_get slots number) ∷ more) (value ∷ others) (has ++ also)

kept_at : {names : Names} {slots : List Slot} {values : List Value} {all : List (List Value)} → AllKept names slots values all
    → (number : ℕ)
    → number < length values
    → KeptAt names slots values all number
kept_at none_kept number low = absurd (omega (arith, low))
kept_at (virtual_kept {value = value} rest) zero low =
    record { value = value; has = []; is_value = refl; is_has = refl; onto = λ more others also keep. keep }
kept_at (plain_kept {value = value} {also = also} same rest) zero low =
    record { value = value; has = also ∷ []; is_value = refl; is_has = refl; onto = λ more others later keep. (same, keep) }
kept_at (virtual_kept rest) (suc number) low =
    let found = kept_at rest number (omega (arith, low)) in
    record { value = found.value; has = found.has; is_value = found.is_value; is_has = found.is_has; onto = found.onto }
kept_at (plain_kept same rest) (suc number) low =
    let found = kept_at rest number (omega (arith, low)) in
    record { value = found.value; has = found.has; is_value = found.is_value; is_has = found.is_has; onto = found.onto }

chosen_next : (values : List Value) (number : ℕ) (numbers : List ℕ) (value : Value) → slice_get values number ≡ Some value
    → chosen_values values (number ∷ numbers) ≡ value ∷ chosen_values values numbers
chosen_next values number numbers value is = rw (is) refl

abbrev chosen_slots : List Slot → List ℕ → List Slot
chosen_slots slots numbers = map (λ (number : ℕ). readable (slice_get slots number)) numbers

keep_chosen : (names : Names) (slots : List Slot) (values : List Value) (all : List (List Value)) → AllKept names slots values all
    → (numbers : List ℕ)
    → AllByRecursion (λ (number : ℕ). number < length values) numbers
    → KeepStack names (chosen_slots slots numbers) (chosen_values values numbers) (chosen_lists all numbers)
keep_chosen names slots values all kept [] low = no_values
keep_chosen names slots values all kept (number ∷ numbers) low =
    let here = kept_at kept number low.0 in
    subst (λ (found : Option (List Value)). KeepStack names (chosen_slots slots (number ∷ numbers)) (chosen_values values (number ∷ numbers))
    (list_or_none found ++ chosen_lists all numbers)) (sym here.is_has)
    (subst (λ (vs : List Value). KeepStack names (chosen_slots slots (number ∷ numbers)) vs (here.has ++ chosen_lists all numbers))
    (sym (chosen_next values number numbers here.value here.is_value))
    (here.onto (chosen_slots slots numbers) (chosen_values values numbers) (chosen_lists all numbers)
    (keep_chosen names slots values all kept numbers low.1)))

chosen_many : (names : Names) (slots : List Slot) (values : List Value) (all : List (List Value)) → AllKept names slots values all
    → (numbers : List ℕ)
    → AllByRecursion (λ (number : ℕ). number < length values) numbers
    → length (chosen_values values numbers) ≡ length numbers
chosen_many names slots values all kept [] low = refl
chosen_many names slots values all kept (number ∷ numbers) low =
    let here = kept_at kept number low.0 in
    ap length (chosen_next values number numbers here.value here.is_value)
    ∙ ap suc (chosen_many names slots values all kept numbers low.1)

many_picked : (source : ℕ → Source) (numbers : List ℕ) → length (map source numbers) ≡ length numbers
many_picked source [] = refl
many_picked source (number ∷ numbers) = ap suc (many_picked source numbers)

-- ---- a turn, by its form

module _ (u : Setup) (laws : TemplateLaws u) {measure : ℕ} {one_run other : Run} (a : AtPlanned u measure one_run other) (class opcode : ℕ)
    (is : a.settled.point.instr ≡ Of class (Shuffle opcode)) where
  module _ (form : Form) (found : form_for (forms_of opcode) a.f.stack ≡ Some form) (checked : IsChecked opcode form)
      (fits : fit_widths form.takes (topmost (length form.takes) a.f.stack) ≡ true) where
    abbrev takes : ℕ
    takes = length form.takes

    abbrev top : List Value
    top = take takes a.f.stack

    abbrev below : List Value
    below = drop takes a.f.stack

    -- the lowest first
    abbrev values : List Value
    values = reverse top

    many_values : length values ≡ takes
    many_values = sym (fit_length form.takes values fits)

    many_top : length top ≡ takes
    many_top = sym (length-reverse top) ∙ many_values

    is_stack : a.f.stack ≡ top ++ below
    is_stack = sym (take-append-drop takes a.f.stack)

    many_here : length a.settled.point.typed.stack ≡ takes + length below
    many_here =
        let all = sym (many_stack u laws a) ∙ ap length is_stack ∙ many_both top below in
        let some = many_top in
        omega (arith, all, some)

    -- ---- its row

    typed_form : form_in (forms_of opcode) a.settled.point.typed.stack ≡ Some form
    typed_form =
        laws.same_forms one_run.world a.f a.ones a.in_planned.one a.settled.point class opcode form a.t.along.typed (stands u laws a)
        (written u laws a) (reached u laws a).is_point is found

    row_is_form : row_here u laws a class (Shuffle opcode) ≡ shuffle_row a.settled.point.typed (Some form)
    row_is_form = ap (shuffle_row a.settled.point.typed) typed_form

    abbrev gives : List Source
    gives = picked_operands a.settled.point.typed takes form.gives

    -- ---- the operands

    abbrev slots : List Slot
    slots = drop (length below) (entries u laws a)

    abbrev types : List VType
    types = drop (length below) a.settled.point.typed.stack

    many_slots : length slots ≡ length values
    many_slots =
        let all = many_entries u laws a in
        let here = many_here in
        let some = many_values in
        let left = length_dropped (length below) (entries u laws a) (omega (arith, all, here)) in
        omega (arith, all, here, some, left)

    type_fits : have_widths form.takes types ≡ true
    type_fits =
        let here = many_here in
        let under : length below ≡ length a.settled.point.typed.stack - takes = omega (arith, here) in
        ap (λ (n : ℕ). have_widths form.takes (drop n a.settled.point.typed.stack)) under
        ∙ typed_fits (forms_of opcode) a.settled.point.typed.stack form typed_form

    slot_there : (number : ℕ) → slice_get slots number ≡ slice_get (entries u laws a) (length below + number)
    slot_there number = get_dropped (length below) (entries u laws a) number

    value_there : (number : ℕ) → slice_get (reverse a.f.stack) (length below + number) ≡ slice_get values number
    value_there number =
        ap (λ (vs : List Value). slice_get vs (length below + number)) (ap reverse is_stack ∙ reverse-append top below)
        ∙ ap (λ (n : ℕ). slice_get (reverse below ++ values) (n + number)) (sym (length-reverse below))
        ∙ get_right (reverse below) values number

    refers : (number site : ℕ) (value : Value) → slice_get slots number ≡ Some (Virt site) → slice_get values number ≡ Some value
        → RefersTo a.t.along.virtuals (length a.ones) site value
    refers number site value virtual there =
        (tells u laws a).stack (length below + number) site value (sym (slot_there number) ∙ virtual) (value_there number ∙ there)

    place_of : (number : ℕ) → number < takes
        → operand a.settled.point.typed (takes - (number + 1)) ≡ length a.settled.point.typed.locals + (length below + number)
    place_of number low = let here = many_here in omega (arith, here, low)

    held_there : (number : ℕ) → number < takes
        → held (state_written a.settled.route) (operand a.settled.point.typed (takes - (number + 1))) ≡ readable (slice_get slots number)
    held_there number low =
        ap (held (state_written a.settled.route)) (place_of number low)
        ∙ ap readable (sym (get_dropped (length a.settled.point.typed.locals) (state_written a.settled.route).slots (length below + number))
        ∙ sym (slot_there number))

    parts : KeptParts a.t.along.names (take (length below) (entries u laws a)) slots (reverse below) values (reverse a.g.stack)
    parts = split_stack u laws a top below is_stack

    has : HasKept a.t.along.names form.takes slots values parts.second
    has =
        has_kept a.t.along.names form.takes slots values parts.second fits many_slots
        (λ number unusable. stack_usable u laws a (length below + number) (sym (slot_there number) ∙ unusable))
        (λ number site value virtual there. let found_it = refers number site value virtual there in (found_it.virtual.reference, found_it.is))
        parts.keep_more

    all_low : (numbers : List ℕ) → AllByRecursion (λ (number : ℕ). number < takes) numbers
        → AllByRecursion (λ (number : ℕ). number < length values) numbers
    all_low [] low = tt
    all_low (number ∷ numbers) low = (subst (λ (n : ℕ). number < n) (sym many_values) low.0, all_low numbers low.1)

    -- ---- what is given

    abbrev given : List Value
    given = chosen_values values form.gives

    slots_given : (numbers : List ℕ) → AllByRecursion (λ (number : ℕ). number < takes) numbers
        → slots_from (scope_in u a.in_planned.one) (state_written a.settled.route) no_change
        (picked_operands a.settled.point.typed takes numbers)
        ≡ chosen_slots slots numbers
    slots_given [] low = refl
    slots_given (number ∷ numbers) low =
        ap (λ (slot : Slot). slot ∷ slots_from (scope_in u a.in_planned.one) (state_written a.settled.route) no_change
        (picked_operands a.settled.point.typed takes numbers)) (held_there number low.0)
        ∙ ap (λ (more : List Slot). readable (slice_get slots number) ∷ more) (slots_given numbers low.1)

    given_refers : (numbers : List ℕ) → AllByRecursion (λ (number : ℕ). number < takes) numbers
        → (place site : ℕ) (value : Value)
        → slice_get (chosen_slots slots numbers) place ≡ Some (Virt site)
        → slice_get (chosen_values values numbers) place ≡ Some value
        → RefersTo a.t.along.virtuals (length a.ones) site value
    given_refers [] low place site value slot there = absurd (none-some value there)
    given_refers (number ∷ numbers) low zero site value slot there =
        let here = kept_at has.kept number (all_low (number ∷ numbers) low).0 in
        refers number site value (held_virtual (slice_get slots number) site (same_Some (readable (slice_get slots number)) (Virt site) slot))
        (here.is_value ∙ sym (ap (λ (vs : List Value). slice_get vs 0) (chosen_next values number numbers here.value here.is_value)) ∙ there)
    given_refers (number ∷ numbers) low (suc place) site value slot there =
        let here = kept_at has.kept number (all_low (number ∷ numbers) low).0 in
        given_refers numbers low.1 place site value slot
        (sym (ap (λ (vs : List Value). slice_get vs (suc place)) (chosen_next values number numbers here.value here.is_value)) ∙ there)

    type_refers : (number : ℕ) (type : VType) (value : Value) → number < takes
        → slice_get (place_types a.settled.point.typed) (operand a.settled.point.typed (takes - (number + 1))) ≡ Some type
        → slice_get values number ≡ Some value
        → IsTrue (is_site_object a.in_planned.one.flat type)
        → (reference : ℕ) × (value ≡ Ref reference)
    type_refers number type value low is_type there site_object =
        (tells u laws a).uninit_stack (length below + number) type value
        (sym (get_right a.settled.point.typed.locals a.settled.point.typed.stack (length below + number))
        ∙ ap (slice_get (place_types a.settled.point.typed)) (sym (place_of number low)) ∙ is_type)
        (value_there number ∙ there) site_object

    given_uninit : (numbers : List ℕ) → AllByRecursion (λ (number : ℕ). number < takes) numbers
        → (place : ℕ) (source : Source) (type : VType) (value : Value)
        → slice_get (picked_operands a.settled.point.typed takes numbers) place ≡ Some source
        → slice_get (chosen_values values numbers) place ≡ Some value
        → KeepsType a.f.place (place_types a.settled.point.typed) type source
        → IsTrue (is_site_object a.in_planned.one.flat type)
        → (reference : ℕ) × (value ≡ Ref reference)
    given_uninit [] low place source type value from there kept site_object = absurd (none-some value there)
    given_uninit (number ∷ numbers) low (suc place) source type value from there kept site_object =
        let here = kept_at has.kept number (all_low (number ∷ numbers) low).0 in
        given_uninit numbers low.1 place source type value from
        (sym (ap (λ (vs : List Value). slice_get vs (suc place)) (chosen_next values number numbers here.value here.is_value)) ∙ there)
        kept site_object
    given_uninit (number ∷ numbers) low zero source type value from there kept site_object =
        let here = kept_at has.kept number (all_low (number ∷ numbers) low).0 in
        by source (same_Some (from_place (operand a.settled.point.typed (takes - (number + 1)))) source from)
        (here.is_value ∙ sym (ap (λ (vs : List Value). slice_get vs 0) (chosen_next values number numbers here.value here.is_value)) ∙ there)
        kept where
          by : (some : Source) → from_place (operand a.settled.point.typed (takes - (number + 1))) ≡ some
              → slice_get values number ≡ Some value
              → KeepsType a.f.place (place_types a.settled.point.typed) type some
              → (reference : ℕ) × (value ≡ Ref reference)
          by some same is_value (from_its_type at is_type) =
              let at_place : operand a.settled.point.typed (takes - (number + 1)) ≡ at = cc same in
              type_refers number type value low.0 (ap (slice_get (place_types a.settled.point.typed)) at_place ∙ is_type) is_value site_object
          by some same is_value (from_its_new of_new) = absurd (cc same)

    -- ---- what is written

    abbrev others : List Cell
    others = reverse (cells_from (take (length below) a.settled.point.typed.stack) (take (length below) (entries u laws a)))

    cells_here : cells a.settled.point.typed (state_written a.settled.route) ≡ reverse (cells_of form.takes slots) ++ others
    cells_here =
        ap (λ (found_types : List VType). reverse (cells_from found_types (entries u laws a)))
        (sym (take-append-drop (length below) a.settled.point.typed.stack))
        ∙ ap (λ (found_slots : List Slot). reverse (cells_from (take (length below) a.settled.point.typed.stack ++ types) found_slots))
        (sym (take-append-drop (length below) (entries u laws a)))
        ∙ ap reverse (cells_both (take (length below) a.settled.point.typed.stack) types (take (length below) (entries u laws a)) slots same_many)
        ∙ reverse-append (cells_from (take (length below) a.settled.point.typed.stack) (take (length below) (entries u laws a)))
        (cells_from types slots)
        ∙ ap (λ (front : List Cell). reverse front ++ others) (cells_are form.takes types slots type_fits) where
          same_many : length (take (length below) a.settled.point.typed.stack) ≡ length (take (length below) (entries u laws a))
          same_many =
              let here = many_here in
              let all = many_entries u laws a in
              length_taken (length below) a.settled.point.typed.stack (omega (arith, here))
              ∙ sym (length_taken (length below) (entries u laws a) (omega (arith, here, all)))

    abbrev code : List Cell → List WInstr
    code more = shuffles opcode (reverse (cells_of form.takes slots) ++ more)

    told_code : written_at a class (Shuffle opcode) ≡ Some (code others)
    told_code = ap (λ (all : List Cell). Some (shuffles opcode all)) cells_here

    code_is : (instrs : List WInstr) → code [] ≡ instrs → ((cell : Cell) (more : List Cell) → code (cell ∷ more) ≡ instrs) → (all : List Cell)
        → code all ≡ instrs
    code_is instrs none some [] = none
    code_is instrs none some (cell ∷ more) = some cell more

    -- the second stack under the operands
    abbrev rest : List Value
    rest = reverse parts.first

    also_stack : a.g.stack ≡ reverse (joined has.all) ++ rest
    also_stack =
        sym (reverse-reverse a.g.stack)
        ∙ ap reverse (parts.are ∙ ap (λ (vs : List Value). parts.first ++ vs) has.are)
        ∙ reverse-append parts.first (joined has.all)

    abbrev given_also : List Value
    given_also = chosen_lists has.all form.gives

    goes : (instrs : List WInstr) (own : AreOwn instrs) (middle : MethodState)
        → written_at a class (Shuffle opcode) ≡ Some instrs
        → ((op : WInstr → Op) → ((number : ℕ) → op (plain (Shuffle number)) ≡ shuffle_stack number) → AllByRecursion IsStraight (map op instrs))
        → ((op : WInstr → Op) → ((number : ℕ) → op (plain (Shuffle number)) ≡ shuffle_stack number)
        → all_moved (map op instrs) a.g ≡ Some middle)
        → middle.locals ≡ a.g.locals
        → middle.stack ≡ reverse given_also ++ rest
        → KeepsTurn u measure one_run other
    goes instrs own middle told straight moved units then_also =
        still_goes_next u laws a class (Shuffle opcode) (record {
          is = is;
          instrs = instrs;
          told = told;
          own = own;
          gives = gives;
          row_locals = ap (λ (r : PlanRow). r.locals) row_is_form;
          takes = takes;
          row_stack = ap (λ (r : PlanRow). r.stack) row_is_form;
          row_change = ap (λ (r : PlanRow). r.change) row_is_form;
          opens = ap (λ (r : PlanRow). is_open (state_written a.settled.route) r.next) row_is_form;
          falls = refl;
          leaves = rw (is) refl;
          top = top;
          below = below;
          is_stack = is_stack;
          many_top = many_top;
          given = given;
          many_given =
              chosen_many a.t.along.names slots values has.all has.kept form.gives (all_low form.gives checked.low)
              ∙ sym (many_picked (λ (number : ℕ). from_place (operand a.settled.point.typed (takes - (number + 1)))) form.gives);
          turned =
              ap (λ (some : Option Form). shuffle_step (counted one_run) a.f a.ones (option_map (shuffled_by a.f.stack) some)) found;
          given_refers = λ place site value slot there.
              given_refers form.gives checked.low place site value
              (ap (λ (found_slots : List Slot). slice_get found_slots place) (sym (slots_given form.gives checked.low)) ∙ slot) there;
          given_uninit = λ place source type value from there kept site_object.
              given_uninit form.gives checked.low place source type value from there kept site_object;
          middle = middle;
          straight = λ there. straight (op_of there (reached u laws a) instrs (items_are u laws a class (Shuffle opcode) instrs is told) own)
              (λ number. refl);
          moved = λ there. moved (op_of there (reached u laws a) instrs (items_are u laws a class (Shuffle opcode) instrs is told) own)
              (λ number. refl);
          units = units;
          below_also = rest;
          given_also = given_also;
          then_also = then_also;
          keep_below =
              subst (KeepStack a.t.along.names (take (length below) (entries u laws a)) (reverse below)) (sym (reverse-reverse parts.first))
              parts.keep;
          keep_given =
              subst (λ (found_slots : List Slot). KeepStack a.t.along.names found_slots given given_also)
              (sym (slots_given form.gives checked.low))
              (keep_chosen a.t.along.names slots values has.all has.kept form.gives (all_low form.gives checked.low));
        })

    by_moves : MovesTo code (reverse (joined has.all)) (reverse given_also) → KeepsTurn u measure one_run other
    by_moves (stays none some same) =
        goes [] tt a.g (told_code ∙ ap Some (code_is [] none some others)) (λ op is_op. tt) (λ op is_op. refl) refl
        (also_stack ∙ ap (λ (vs : List Value). vs ++ rest) same)
    by_moves (moves number none some shuffles_it) =
        goes (plain (Shuffle number) ∷ []) (tt, tt) (next_with a.g (reverse given_also ++ rest))
        (told_code ∙ ap Some (code_is (plain (Shuffle number) ∷ []) none some others))
        (λ op is_op. (subst IsStraight (sym (is_op number)) (shuffle_is_straight number), tt))
        (λ op is_op.
        ap (λ (first_op : Op). all_moved (first_op ∷ []) a.g) (is_op number)
        ∙ ap (λ (after : Option (List Value)). all_from (option_map (next_with a.g) after))
        (ap (shuffled number) also_stack ∙ shuffled_over number (reverse (joined has.all)) rest (reverse given_also) shuffles_it)) refl refl where
          all_from : Option MethodState → Option MethodState
          all_from None = None
          all_from (Some g) = Some g

    turns_by_form : KeepsTurn u measure one_run other
    turns_by_form = by_moves (checked.checks slots has.all has.fits)

  -- ---- each

  pub shuffle_turns : KeepsTurn u measure one_run other
  shuffle_turns = by_form (form_for (forms_of opcode) a.f.stack) refl where
    by_form : (found : Option Form) → form_for (forms_of opcode) a.f.stack ≡ found → KeepsTurn u measure one_run other
    by_form None none =
        absurd (here_not_stuck u laws a class (Shuffle opcode) is
        (ap (λ (found : Option Form). (shuffle_step (counted one_run) a.f a.ones (option_map (shuffled_by a.f.stack) found)).halt) none))
    by_form (Some form) some =
        let fit = form_is (IsChecked opcode) (forms_of opcode) a.f.stack form (all_checked opcode) some in
        turns_by_form form some fit.0 fit.1
