-- The rows of an instruction that has a template, its operands, and templates of which nothing is written.
use Rattle.std.proofs.Common.{◌≡◌, ◌==◌, ◌+◌, ◌-◌, ◌≤◌, ℕ, zero, suc, Bool, true, false, List, [], ◌∷◌, ◌++◌, drop, length, map, slice_get, Option, Some, None, is_some, refl, sym, ap, subst, ◌∙◌, inl, inr, arith}
use Rattle.std.specs.Prelude.{slice_set}
use Rattle.std.proofs.lemmas.Bool.{eqb-true}
use Rattle.std.proofs.lemmas.List.{length-drop}
use Rattle.class_model.specs.declared.frame.VType.{VType}
use Rattle.class_model.specs.declared.frame.VType.TheVariants as types
use Rattle.flow_code.specs.declared.point.FlatInstr.{FlatInstr}
use Rattle.member_link.specs.Bodies.{item_row}
use Rattle.member_link.specs.BodyTyping.{RowHolds}
use Rattle.member_link.specs.RowScope.{RowScope}
use Rattle.member_link.specs.Rows.LocalRows.{cut_before}
use Rattle.member_link.specs.Rows.Operands.{AllFit, Fits, Need, topmost, under}
use Rattle.member_link.specs.Rows.Readings.{row_by}
use Rattle.member_link.specs.Rows.Row.{Row, stack_behind}
use Rattle.plan_flow.specs.PlanRows.{PlanRow, Source}
use Rattle.plan_flow.specs.PlanSlots.{held, is_open, readable, with_depth_of, with_field}
use Rattle.plan_flow.specs.PlanTable.{falls_on, held_from, operand, row_at}
use Rattle.plan_flow.specs.Written.Blocks.{leaves_to}
use Rattle.plan_flow.specs.Written.FramedCode.{frame_by_item}
use Rattle.plan_flow.specs.Written.Templates.{items_at}
use Rattle.same_runs.specs.Flats.{flat_item, instr_scope}
use Rattle.same_runs.specs.TypedFlats.{reading_of}
use Rattle.virtual_state.specs.Laws.Objects.{found_site}
use Rattle.virtual_state.specs.States.{is_present, is_unusable, object_of}
use Rattle.virtual_state.specs.declared.slot.Slot.{Slot}
use Rattle.virtual_state.specs.declared.slot.Slot.TheVariants.{Plain, Virt, Unusable}
use Rattle.virtual_state.specs.declared.slot.VObject.{VObject}
use Rattle.written_types.proofs.Given.{EdgesFit, EndsCarry, Given, entries_in, locals_in, type_in}
use Rattle.written_types.proofs.ItemSteps.{frame_of}
use Rattle.written_types.proofs.OperandRows.{Cut, cut_of, no_cut, one_cut}
use Rattle.written_types.proofs.SlotFrames.{SayLess, get_is, read_slot, say_same, usable_read}
use Rattle.written_types.proofs.Standing.{all_at, item_of_dropped}
use Rattle.written_types.proofs.TemplateEnds.{template_carries}
use Rattle.written_types.proofs.Templates.{Before, By, Taken, agrees_behind, along, entries, entries_long, moved_slots, number, places, plan_row, read, read_long, row, state, taken, typed}
use Rattle.written_types.specs.Inner.CarriedFrames.{AgreeIn, Agrees, BlockCarries, carries_none}
use Rattle.written_types.specs.Writing.{Writing}

-- ---- operands that fit

pub record OneType (sc : RowScope) (need : Need) (stack : List VType) : Type 0 where
  pub type : VType
  pub is : stack ≡ type ∷ []
  pub fits : Fits sc need type

pub one_type : (sc : RowScope) (need : Need) (stack : List VType) → AllFit sc (need ∷ []) stack → OneType sc need stack
one_type sc need [] fit = absurd fit
one_type sc need (type ∷ []) fit = record { type = type; is = refl; fits = fit.0 }
one_type sc need (type ∷ other ∷ stack) fit = absurd fit.1

pub record TwoTypes (sc : RowScope) (need more : Need) (stack : List VType) : Type 0 where
  pub type : VType
  pub other : VType
  pub is : stack ≡ type ∷ other ∷ []
  pub fits : Fits sc need type
  pub other_fits : Fits sc more other

pub two_types : (sc : RowScope) (need more : Need) (stack : List VType) → AllFit sc (need ∷ more ∷ []) stack → TwoTypes sc need more stack
two_types sc need more [] fit = absurd fit
two_types sc need more (type ∷ []) fit = absurd fit.1
two_types sc need more (type ∷ other ∷ []) fit = record { type = type; other = other; is = refl; fits = fit.0; other_fits = fit.1.0 }
two_types sc need more (type ∷ other ∷ third ∷ stack) fit = absurd fit.1.1

-- ---- local units that say less

pub less_set : (all : List VType) (slots : List Slot) (n site : ℕ) (type : VType)
    → SayLess (locals_in all slots) (locals_in (slice_set all n type) (slice_set slots n (Virt site)))
less_set [] slots n site type = tt
less_set (one ∷ all) [] zero site type = tt
less_set (one ∷ all) [] (suc n) site type = tt
less_set (one ∷ all) (slot ∷ slots) zero site type = (inl refl, say_same (locals_in all slots))
less_set (one ∷ all) (slot ∷ slots) (suc n) site type = (inr refl, less_set all slots n site type)

top_in : (slot : Slot) → type_in types.Top slot ≡ types.Top
top_in Plain = refl
top_in (Virt site) = refl
top_in Unusable = refl

less_top : (all : List VType) (slots : List Slot) (n : ℕ) → SayLess (locals_in all slots) (locals_in (slice_set all n types.Top) slots)
less_top [] slots n = tt
less_top (one ∷ all) [] zero = tt
less_top (one ∷ all) [] (suc n) = tt
less_top (one ∷ all) (slot ∷ slots) zero = (inl (top_in slot), say_same (locals_in all slots))
less_top (one ∷ all) (slot ∷ slots) (suc n) = (inr refl, less_top all slots n)

pub less_cut : (all : List VType) (slots : List Slot) (n : ℕ) → SayLess (locals_in all slots) (locals_in (cut_before n all) slots)
less_cut all slots n = by (cut_of n all) where
  by : {cut : List VType} → Cut all cut → SayLess (locals_in all slots) (locals_in cut slots)
  by no_cut = say_same (locals_in all slots)
  by (one_cut at) = less_top all slots at

-- ---- objects that stay present

present_beside : (first : VObject) (objects : List VObject) (site : ℕ) → is_present objects first.site ≡ true
    → is_present (first ∷ objects) site ≡ is_present objects site
present_beside first objects site there = by (first.site == site) refl where
  by : (b : Bool) → (first.site == site) ≡ b → is_present (first ∷ objects) site ≡ is_present objects site
  by true same = rw (same) (sym (ap (is_present objects) (sym (eqb-true first.site site same)) ∙ there))
  by false other = rw (other) refl

pub depth_present : (objects : List VObject) (of : ℕ) (change : ℕ → ℕ) (site : ℕ)
    → is_present (with_depth_of (object_of objects of) change ++ objects) site ≡ is_present objects site
depth_present objects of change site = by (object_of objects of) refl where
  by : (found : Option VObject) → object_of objects of ≡ found
      → is_present (with_depth_of (object_of objects of) change ++ objects) site ≡ is_present objects site
  by None none = rw (none) refl
  by (Some object) some =
      ap (λ (o : Option VObject). is_present (with_depth_of o change ++ objects) site) some
      ∙ present_beside (record object { depth = change object.depth }) objects site
      (ap (is_present objects) (found_site objects of object some) ∙ ap is_some some)

pub field_present : (objects : List VObject) (of : ℕ) (number : Option ℕ) (slot : Slot) (site : ℕ)
    → is_present (with_field (object_of objects of) number slot ++ objects) site ≡ is_present objects site
field_present objects of number slot site = by (object_of objects of) refl number where
  by : (found : Option VObject) → object_of objects of ≡ found → (number : Option ℕ)
      → is_present (with_field (object_of objects of) number slot ++ objects) site ≡ is_present objects site
  by None none number = rw (none) refl
  by (Some object) some None = rw (some) refl
  by (Some object) some (Some number) =
      ap (λ (o : Option VObject). is_present (with_field o (Some number) slot ++ objects) site) some
      ∙ present_beside (record object { fields = slice_set object.fields number slot }) objects site
      (ap (is_present objects) (found_site objects of object some) ∙ ap is_some some)

-- ---- the rows of an instruction

module _ (w : Writing) (given : Given w) (b : Before w given) where
  abbrev pub row_for : FlatInstr → Row
  row_for one =
      row_by (reading_of w.s.classes w.s.flat b.at b.point.typed one) (read w given b)
      (item_row (instr_scope w.s.classes w.host w.s.flat one) (read w given b) b.at (flat_item one))

  abbrev pub plan_for : FlatInstr → PlanRow
  plan_for one = row_at w.s b.at b.point.typed one

  abbrev pub scope_for : FlatInstr → RowScope
  scope_for one = instr_scope w.s.classes w.host w.s.flat one

  pub holds_for : (one : FlatInstr) → b.point.instr ≡ one → RowHolds (scope_for one) (read w given b) (row_for one)
  holds_for one is = subst (λ (i : FlatInstr). RowHolds (scope_for i) (read w given b) (row_for i)) is (typed w given b).row

  -- ---- the slots of operands, the lowest first

  abbrev pub operand_slots : ℕ → List Slot
  operand_slots zero = []
  operand_slots (suc count) = held (state w given b) (operand b.point.typed count) ∷ operand_slots count

  pub operands_are : (count : ℕ) → count ≤ length (read w given b).stack
      → drop (length (read w given b).stack - count) (entries w given b) ≡ operand_slots count
  operands_are zero few = all_gone (entries w given b) (length (read w given b).stack - 0) (let long = entries_long w given b in omega (arith, long)) where
    all_gone : (slots : List Slot) (n : ℕ) → n ≡ length slots → drop n slots ≡ []
    all_gone [] zero is = refl
    all_gone [] (suc n) is = refl
    all_gone (slot ∷ slots) zero is = absurd cc
    all_gone (slot ∷ slots) (suc n) is = all_gone slots n (let e : n ≡ length slots = cc in e)
  operands_are (suc count) few = by (operands_are count (omega (arith, few))) where
    place : ℕ
    place = length (read w given b).stack - suc count

    here : (slot : Slot) × (slice_get (entries w given b) place ≡ Some slot)
        × (drop place (entries w given b) ≡ slot ∷ drop (suc place) (entries w given b))
    here = get_is place (entries w given b) (let long = entries_long w given b in omega (arith, few, long))

    next : suc place ≡ length (read w given b).stack - count
    next = omega (arith, few)

    at_place : operand b.point.typed count ≡ length b.point.typed.locals + place
    at_place = let long = read_long w given b in omega (arith, few, long)

    slot_is : here.0 ≡ held (state w given b) (operand b.point.typed count)
    slot_is =
        sym (read_slot here.0 ∙ usable_read here.0 (all_at (λ (slot : Slot). is_unusable slot ≡ false) (entries w given b) place here.0 (places w given b).usable here.1))
        ∙ ap readable (sym here.1 ∙ item_of_dropped (length b.point.typed.locals) (state w given b).slots place)
        ∙ ap (held (state w given b)) (sym at_place)

    by : drop (length (read w given b).stack - count) (entries w given b) ≡ operand_slots count
        → drop place (entries w given b) ≡ operand_slots (suc count)
    by rest =
        here.2
        ∙ ap (λ (slot : Slot). slot ∷ drop (suc place) (entries w given b)) slot_is
        ∙ ap (λ (n : ℕ). held (state w given b) (operand b.point.typed count) ∷ drop n (entries w given b)) next
        ∙ ap (λ (slots : List Slot). held (state w given b) (operand b.point.typed count) ∷ slots) rest

  -- of as many operands as there are
  pub as_many : (count : ℕ) → length (topmost count (read w given b).stack) ≡ count → count ≤ length (read w given b).stack
  as_many count long =
      let all = length-drop (length (read w given b).stack - count) (read w given b).stack in omega (arith, all, long)

  -- ---- templates of which nothing is written

  module _ (fit : EdgesFit w given) (ends : EndsCarry w given) where
    -- What is on the written stack of the operands is all that is given.
    pub nothing_template : (count : ℕ) (sources : List Source) (gives : List VType)
        → (plan_row w given b).stack ≡ held_from (length b.point.typed.locals) (length b.point.typed.stack - count) ++ sources
        → stack_behind (read w given b) (row w given b) ≡ under count (read w given b).stack ++ gives
        → entries_in (topmost count (read w given b).stack) (drop (length (read w given b).stack - count) (entries w given b))
        ≡ entries_in gives (moved_slots w given b sources)
        → AgreeIn b.frame.locals (map (By w given b) (along w given b).locals)
        → items_at w.s b.at b.point (state w given b) b.route ≡ []
        → leaves_to b.point b.route ≡ None
        → falls_on b.point.instr ≡ true
        → is_open (state w given b) (plan_row w given b).next ≡ true
        → BlockCarries w (number w given b) b.one b.behind b.frame
    nothing_template count sources gives sources_are gives_are same locals_agree items_are leaves falls opens =
        template_carries w given b fit ends [] b.frame items_are tt leaves falls opens (carries_none (number w given b) b.frame)
        (subst (λ (stack : List VType). Agrees (frame_of b.frame.locals stack) (frame_by_item w.form w.blocks (along w given b))) (sym parts.is)
        (agrees_behind w given b count sources gives b.frame.locals parts.top parts sources_are gives_are
        (subst (λ (all : List VType). AgreeIn parts.top (map (By w given b) all)) same parts.top_agree) locals_agree b.agrees.no_this)) where
          parts : Taken w b.frame (read w given b).stack (entries w given b) count
          parts = taken w given b count
