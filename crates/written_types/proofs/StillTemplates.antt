-- Instructions that only move virtual objects, or change them: nothing is written, and each frame stays.
use Rattle.std.proofs.Common.{◌≡◌, ◌+◌, ◌-◌, ◌≤◌, ℕ, Bool, true, false, List, [], ◌∷◌, ◌++◌, drop, length, map, take, Option, Some, None, refl, sym, ap, subst, ◌∙◌}
use Rattle.std.specs.Prelude.{slice_set}
use Rattle.class_model.specs.Frames.{is_wide, units}
use Rattle.class_model.specs.Pool.{Constants}
use Rattle.class_model.specs.PoolChecks.{class_at}
use Rattle.class_model.specs.declared.descriptor.Kind.{Kind}
use Rattle.class_model.specs.declared.descriptor.Kind.TheVariants as kinds
use Rattle.class_model.specs.declared.frame.VType.{VType}
use Rattle.class_model.specs.declared.frame.VType.TheVariants as types
use Rattle.class_model.specs.declared.instr.Instr.TheVariants.{Load, Store, Cast, Enter, Leave}
use Rattle.class_tree.specs.Headers.{Name}
use Rattle.flow_code.specs.declared.point.FlatInstr.{FlatInstr}
use Rattle.flow_code.specs.declared.point.FlatInstr.TheVariants.{Of}
use Rattle.member_link.specs.RowScope.{RowScope}
use Rattle.member_link.specs.Rows.LocalRows.{cut_before, local_entry, stored, with_units}
use Rattle.member_link.specs.Rows.Operands.{Need, initialised, lowest_of, of_kind, topmost}
use Rattle.member_link.specs.Rows.Row.{stack_behind}
use Rattle.member_link.specs.Rows.Table.{cast_row}
use Rattle.plan_flow.specs.PlanRows.{from_place}
use Rattle.plan_flow.specs.PlanScope.{pool_of}
use Rattle.plan_flow.specs.PlanSlots.{at_depth, changed, held, is_open, slot_from}
use Rattle.plan_flow.specs.PlanTable.{cast_row as plan_cast, falls_on, held_locals, operand}
use Rattle.same_runs.specs.Flats.{pool_of as flat_pool}
use Rattle.virtual_state.specs.States.{State, is_present}
use Rattle.virtual_state.specs.declared.slot.Slot.{Slot}
use Rattle.virtual_state.specs.declared.slot.Slot.TheVariants.{Virt}
use Rattle.written_types.proofs.BlockEnds.{topmost_none}
use Rattle.written_types.proofs.Given.{EdgesFit, EndsCarry, Given, entries_in, locals_in}
use Rattle.written_types.proofs.OperandRows.{Fit, map_set, no_operand}
use Rattle.written_types.proofs.RowTable.{same_pool}
use Rattle.written_types.proofs.SlotFrames.{units_behind, SayLess, agree_less, as_read, less_both, less_mapped, say_same}
use Rattle.written_types.proofs.SlotTypes.{not_wide}
use Rattle.written_types.proofs.TemplateRows.{OneType, as_many, depth_present, holds_for, less_cut, less_set, nothing_template, one_type, operand_slots, operands_are, plan_for, row_for, scope_for}
use Rattle.written_types.proofs.Templates.{Before, By, along, entries, entries_have, have_dropped, held_locals_are, locals_agree, locals_stay, moved_slots, number, objects_behind, places, plan_row, read, state, units_alike}
use Rattle.written_types.specs.FitsTypes.{HaveTypes, IsOfType}
use Rattle.written_types.specs.Inner.CarriedFrames.{AgreeIn, BlockCarries}
use Rattle.written_types.specs.Writing.{Writing}

pub one_unit : (type : VType) → is_wide type ≡ false → units type ≡ type ∷ []
one_unit types.Long narrow = absurd cc
one_unit types.Double narrow = absurd cc
one_unit type narrow = refl

pub lowest_is : (count : ℕ) (stack : List VType) (type : VType) (rest : List VType) → topmost count stack ≡ type ∷ rest → lowest_of count stack ≡ type
lowest_is count stack type rest is = rw (is) refl

module _ (w : Writing) (given : Given w) (b : Before w given) where
  abbrev now : State
  now = state w given b

  abbrev read_stack : List VType
  read_stack = (read w given b).stack

  -- the operands, with their types
  pub operands_have : (count : ℕ) → count ≤ length read_stack → HaveTypes w.s (topmost count read_stack) (operand_slots w given b count)
  operands_have count few =
      subst (HaveTypes w.s (topmost count read_stack)) (operands_are w given b count few)
      (have_dropped w.s (length read_stack - count) read_stack (entries w given b) (entries_have w given b))

  -- the one operand, which is virtual
  pub record OneVirtual (need : Need) (sc : RowScope) (site : ℕ) : Type 0 where
    pub type : VType
    pub is : topmost 1 read_stack ≡ type ∷ []
    pub of_type : IsOfType w.s site type
    pub entry : entries_in (topmost 1 read_stack) (drop (length read_stack - 1) (entries w given b)) ≡ []

  pub one_virtual : (need : Need) (sc : RowScope) (site : ℕ) → OneType sc need (topmost 1 read_stack) → held now (operand b.point.typed 0) ≡ Virt site
      → OneVirtual need sc site
  one_virtual need sc site one virtual = record {
    type = one.type;
    is = one.is;
    of_type = (subst (λ (slot : Slot). HaveTypes w.s (one.type ∷ []) (slot ∷ [])) virtual
        (subst (λ (all : List VType). HaveTypes w.s all (operand_slots w given b 1)) one.is (operands_have 1 few))).0;
    entry = λ i. entries_in (one.is i) ((operands_are w given b 1 few ∙ (λ j. virtual j ∷ [])) i);
  } where
    few : 1 ≤ length read_stack
    few = as_many w given b 1 (ap length one.is)

  module _ (fit : EdgesFit w given) (ends : EndsCarry w given) (class : ℕ) where
    -- ---- local units

    pub load_template : (kind : Kind) (local site : ℕ) → b.point.instr ≡ Of class (Load kind local) → held now local ≡ Virt site
        → BlockCarries w (number w given b) b.one b.behind b.frame
    load_template kind local site is virtual =
        nothing_template w given b fit ends 0 (from_place local ∷ []) (local_entry (read w given b).locals local)
        (ap (λ (i : FlatInstr). (plan_for w given b i).stack) is) (ap (λ (i : FlatInstr). stack_behind (read w given b) (row_for w given b i)) is)
        (ap (λ (all : List VType). entries_in all (drop (length read_stack - 0) (entries w given b))) (topmost_none read_stack)
        ∙ sym (λ i. entries_in (entry i) (virtual i ∷ [])))
        (locals_stay w given b (ap (λ (i : FlatInstr). (row_for w given b i).locals) is) (ap (λ (i : FlatInstr). (plan_for w given b i).locals) is)
        (λ one. ap (λ (i : FlatInstr). is_present (changed w.s now (plan_for w given b i).change ++ now.objects) one) is))
        (rw (is, virtual) refl) (rw (is) refl) (ap falls_on is) (ap (λ (i : FlatInstr). is_open now (plan_for w given b i).next) is) where
          entry : local_entry (read w given b).locals local ≡ (holds_for w given b (Of class (Load kind local)) is).local.0 ∷ []
          entry = rw ((holds_for w given b (Of class (Load kind local)) is).local.1) refl

    pub store_template : (kind : Kind) (local site : ℕ) → b.point.instr ≡ Of class (Store kind local) → held now (operand b.point.typed 0) ≡ Virt site
        → BlockCarries w (number w given b) b.one b.behind b.frame
    store_template kind local site is virtual =
        nothing_template w given b fit ends 1 [] [] (ap (λ (i : FlatInstr). (plan_for w given b i).stack) is)
        (ap (λ (i : FlatInstr). stack_behind (read w given b) (row_for w given b i)) is) one.entry
        (subst (λ (all : List VType). AgreeIn b.frame.locals (map (By w given b) all)) (sym locals_are)
        (agree_less b.frame.locals _ _ (agree_less b.frame.locals _ _ (locals_agree w given b)
        (less_mapped w.form w.blocks _ _ (less_both _ _ behind behind cut (say_same behind))))
        (less_mapped w.form w.blocks _ _ (less_both _ _ behind behind put (say_same behind)))))
        (rw (is, virtual) refl) (rw (is) refl) (ap falls_on is) (ap (λ (i : FlatInstr). is_open now (plan_for w given b i).next) is) where
          i : FlatInstr
          i = Of class (Store kind local)

          one : OneVirtual (of_kind kind) (scope_for w given b i) site
          one = one_virtual (of_kind kind) (scope_for w given b i) site (one_type (scope_for w given b i) (of_kind kind) (topmost 1 read_stack) (holds_for w given b i is).operands) virtual

          behind : List VType
          behind = units_behind w.s.flat now.objects

          own : List VType
          own = (read w given b).locals

          slots : List Slot
          slots = map as_read (take (length b.point.typed.locals) now.slots)

          narrow : is_wide one.type ≡ false
          narrow = by (is_wide one.type) refl where
            by : (wide : Bool) → is_wide one.type ≡ wide → is_wide one.type ≡ false
            by true wide = absurd (not_wide w.s one.of_type wide)
            by false other = other

          lowest : lowest_of 1 read_stack ≡ one.type
          lowest = lowest_is 1 read_stack one.type [] one.is

          stored_is : stored local (lowest_of 1 read_stack) own ≡ slice_set (cut_before local own) local one.type
          stored_is =
              ap (λ (type : VType). stored local type own) lowest
              ∙ (λ j. unit_put (one_unit one.type narrow j)) where
                unit_put : List VType → List VType
                unit_put own_units = with_units local own_units (cut_before local own)

          locals_are : (along w given b).locals
              ≡ locals_in (slice_set (cut_before local own) local one.type) (slice_set slots local (Virt site)) ++ behind
          locals_are =
              (λ j. locals_in ((ap (λ (found : FlatInstr). (row_for w given b found).locals) is ∙ stored_is) j)
              (moved_slots w given b ((ap (λ (found : FlatInstr). (plan_for w given b found).locals) is) j))
              ++ units_alike w.s.flat (objects_behind w given b) now.objects
              (λ one. ap (λ (found : FlatInstr). is_present (changed w.s now (plan_for w given b found).change ++ now.objects) one) is) j)
              ∙ ap (λ (all : List Slot). locals_in (slice_set (cut_before local own) local one.type) all ++ behind)
              (map_set (slot_from w.s now (plan_row w given b).change) (held_locals b.point.typed) local (from_place (operand b.point.typed 0))
              ∙ (λ j. slice_set (held_locals_are w given b j) local (virtual j)))

          cut : SayLess (locals_in own now.slots) (locals_in (cut_before local own) slots)
          cut =
              subst (λ (all : List VType). SayLess all (locals_in (cut_before local own) slots)) (places w given b).locals_read
              (less_cut own slots local)

          put : SayLess (locals_in (cut_before local own) slots)
              (locals_in (slice_set (cut_before local own) local one.type) (slice_set slots local (Virt site)))
          put = less_set (cut_before local own) slots local site one.type

    -- ---- casts and monitors

    pub cast_template : (index site : ℕ) → b.point.instr ≡ Of class (Cast index) → held now (operand b.point.typed 0) ≡ Virt site
        → BlockCarries w (number w given b) b.one b.behind b.frame
    cast_template index site is virtual = by (class_at (flat_pool w.s.classes class) index) refl where
      i : FlatInstr
      i = Of class (Cast index)

      named : (found : Option Name) → class_at (flat_pool w.s.classes class) index ≡ found → class_at (pool_of w.s class) index ≡ found
      named found some = ap (λ (pool : Constants). class_at pool index) (same_pool w.s class) ∙ some

      by : (found : Option Name) → class_at (flat_pool w.s.classes class) index ≡ found
          → BlockCarries w (number w given b) b.one b.behind b.frame
      by None none =
          absurd (no_operand (scope_for w given b i) (read w given b)
          (subst (λ (found : Option Name). Fit (scope_for w given b i) (read w given b) (cast_row (read w given b) found)) none
          (holds_for w given b i is).operands))
      by (Some name) some =
          let one = one_virtual initialised (scope_for w given b i) site
          (one_type (scope_for w given b i) initialised (topmost 1 read_stack)
          (subst (λ (found : Option Name). Fit (scope_for w given b i) (read w given b) (cast_row (read w given b) found)) some
          (holds_for w given b i is).operands)) virtual in
          nothing_template w given b fit ends 1 (from_place (operand b.point.typed 0) ∷ []) (types.Object name ∷ [])
          (ap (λ (found : FlatInstr). (plan_for w given b found).stack) is
          ∙ ap (λ (found : Option Name). (plan_cast b.point.typed found).stack) (named (Some name) some))
          (ap (λ (found : FlatInstr). stack_behind (read w given b) (row_for w given b found)) is
          ∙ ap (λ (found : Option Name). stack_behind (read w given b) (cast_row (read w given b) found)) some)
          (one.entry ∙ sym (λ j. entries_in (types.Object name ∷ []) (virtual j ∷ [])))
          (locals_stay w given b
          (ap (λ (found : FlatInstr). (row_for w given b found).locals) is ∙ ap (λ (found : Option Name). (cast_row (read w given b) found).locals) some)
          (ap (λ (found : FlatInstr). (plan_for w given b found).locals) is
          ∙ ap (λ (found : Option Name). (plan_cast b.point.typed found).locals) (named (Some name) some))
          (λ one. ap (λ (found : FlatInstr). is_present (changed w.s now (plan_for w given b found).change ++ now.objects) one) is
          ∙ ap (λ (found : Option Name). is_present (changed w.s now (plan_cast b.point.typed found).change ++ now.objects) one) (named (Some name) some)))
          (rw (is, virtual) refl) (rw (is) refl) (ap falls_on is)
          (ap (λ (found : FlatInstr). is_open now (plan_for w given b found).next) is
          ∙ ap (λ (found : Option Name). is_open now (plan_cast b.point.typed found).next) (named (Some name) some))

    monitor_stays : (i : FlatInstr) (site : ℕ) (change : ℕ → ℕ) → b.point.instr ≡ i
        → ((one : ℕ) → is_present (changed w.s now (plan_for w given b i).change ++ now.objects) one
        ≡ is_present (at_depth now (held now (operand b.point.typed 0)) change ++ now.objects) one)
        → held now (operand b.point.typed 0) ≡ Virt site
        → (one : ℕ)
        → is_present (objects_behind w given b) one ≡ is_present now.objects one
    monitor_stays i site change is does virtual one =
        ap (λ (found : FlatInstr). is_present (changed w.s now (plan_for w given b found).change ++ now.objects) one) is
        ∙ does one
        ∙ ap (λ (slot : Slot). is_present (at_depth now slot change ++ now.objects) one) virtual
        ∙ depth_present now.objects site change one

    pub enter_template : (site : ℕ) → b.point.instr ≡ Of class Enter → held now (operand b.point.typed 0) ≡ Virt site
        → BlockCarries w (number w given b) b.one b.behind b.frame
    enter_template site is virtual =
        let i = Of class Enter in
        let one = one_virtual (of_kind kinds.Ref) (scope_for w given b i) site
        (one_type (scope_for w given b i) (of_kind kinds.Ref) (topmost 1 read_stack) (holds_for w given b i is).operands) virtual in
        nothing_template w given b fit ends 1 [] [] (ap (λ (found : FlatInstr). (plan_for w given b found).stack) is)
        (ap (λ (found : FlatInstr). stack_behind (read w given b) (row_for w given b found)) is) one.entry
        (locals_stay w given b (ap (λ (found : FlatInstr). (row_for w given b found).locals) is)
        (ap (λ (found : FlatInstr). (plan_for w given b found).locals) is)
        (monitor_stays i site (λ depth. depth + 1) is (λ one. refl) virtual)) (rw (is, virtual) refl) (rw (is) refl) (ap falls_on is)
        (ap (λ (found : FlatInstr). is_open now (plan_for w given b found).next) is)

    pub leave_template : (site : ℕ) → b.point.instr ≡ Of class Leave → held now (operand b.point.typed 0) ≡ Virt site
        → BlockCarries w (number w given b) b.one b.behind b.frame
    leave_template site is virtual =
        let i = Of class Leave in
        let one = one_virtual (of_kind kinds.Ref) (scope_for w given b i) site
        (one_type (scope_for w given b i) (of_kind kinds.Ref) (topmost 1 read_stack) (holds_for w given b i is).operands) virtual in
        nothing_template w given b fit ends 1 [] [] (ap (λ (found : FlatInstr). (plan_for w given b found).stack) is)
        (ap (λ (found : FlatInstr). stack_behind (read w given b) (row_for w given b found)) is) one.entry
        (locals_stay w given b (ap (λ (found : FlatInstr). (row_for w given b found).locals) is)
        (ap (λ (found : FlatInstr). (plan_for w given b found).locals) is)
        (monitor_stays i site (λ depth. depth - 1) is (λ one. refl) virtual)) (rw (is, virtual) refl) (rw (is) refl) (ap falls_on is)
        (ap (λ (found : FlatInstr). is_open now (plan_for w given b found).next) is)
