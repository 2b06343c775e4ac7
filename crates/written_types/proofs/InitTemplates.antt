-- A call of java/lang/Object's constructor on an object of a candidate site: a plain object is popped, and nothing is written of a virtual one.
use Rattle.std.proofs.Common.{◌≡◌, ◌+◌, ◌-◌, ◌≤◌, ℕ, suc, Bool, true, false, List, [], ◌∷◌, ◌++◌, drop, length, map, take, Option, Some, refl, sym, ap, subst, ◌∙◌}
use Rattle.std.specs.Prelude.{◌==◌, ◌&&◌, ◌||◌, bytes_eq, not, if◌then◌else◌}
use Rattle.std.specs.List.{flat_map}
use Rattle.std.proofs.lemmas.Bool.{and_parts, false≢true}
use Rattle.std.proofs.lemmas.List.{append-nil}
use Rattle.class_model.specs.Descriptors.{parameters_of}
use Rattle.class_model.specs.Code.{verification_type}
use Rattle.class_model.specs.declared.descriptor.FieldType.{FieldType}
use Rattle.class_model.specs.Frames.{is_top, is_wide}
use Rattle.class_model.specs.Names.{init}
use Rattle.class_model.specs.Pool.{Constants, constant_at}
use Rattle.class_model.specs.declared.frame.Frame.{Frame}
use Rattle.class_model.specs.declared.frame.VType.{VType}
use Rattle.class_model.specs.declared.instr.Instr.TheVariants.{Invoke, Shuffle}
use Rattle.class_model.specs.declared.opcodes.TheConstants.{INVOKESPECIAL, INVOKESTATIC, POP}
use Rattle.class_tree.specs.Names.{object as object_name}
use Rattle.flow_code.specs.ReadTypes.{is_site_object, read_type}
use Rattle.flow_code.specs.declared.point.FlatInstr.{FlatInstr}
use Rattle.flow_code.specs.declared.point.FlatInstr.TheVariants.{Of}
use Rattle.flow_code.specs.declared.point.Point.{Point}
use Rattle.making_code.specs.Items.{item, plain}
use Rattle.member_link.specs.Machine.CallSteps.{is_object_init}
use Rattle.member_link.specs.References.{Reference}
use Rattle.member_link.specs.Rows.MemberRows.{argument_needs, call_row, receiver}
use Rattle.member_link.specs.Rows.Operands.{AllFit, Need, IsUninitialised, assignable_to, single, topmost, under, uninitialised}
use Rattle.member_link.specs.Rows.Readings.{reads_itself, reads_pop, row_by}
use Rattle.member_link.specs.Rows.Row.{Row, stack_behind}
use Rattle.member_link.specs.Rows.ShuffleRows.{has_width, one as narrow}
use Rattle.member_link.specs.Signatures.{reference_of}
use Rattle.plan_flow.specs.PlanRows.{PlanRow}
use Rattle.plan_flow.specs.PlanScope.{PlanScope, member_of}
use Rattle.plan_flow.specs.PlanSlots.{changed, held, is_open}
use Rattle.plan_flow.specs.PlanTable.{call_row as plan_call, calling, falls_on, held_from, moving, operand, receivers}
use Rattle.plan_flow.specs.Written.Routes.{Route}
use Rattle.plan_flow.specs.Written.Templates.{Cell, cells, is_virtual, items_at, plain_units, pops}
use Rattle.same_runs.specs.TypedFlats.{reading_of_call}
use Rattle.virtual_state.specs.States.{State, is_present}
use Rattle.virtual_state.specs.declared.slot.Slot.{Slot}
use Rattle.virtual_state.specs.declared.slot.Slot.TheVariants.{Plain, Virt}
use Rattle.written_types.proofs.CallRows.{IsObjectInit}
use Rattle.written_types.proofs.FieldReads.{named_in}
use Rattle.written_types.proofs.Given.{EdgesFit, EndsCarry, Given, entries_in}
use Rattle.written_types.proofs.ItemSteps.{frame_of, pop_carries}
use Rattle.written_types.proofs.MadeTemplates.{top_cell}
use Rattle.written_types.proofs.RowTable.{same_pool}
use Rattle.written_types.proofs.ShuffleForms.{cells_of}
use Rattle.written_types.proofs.ShuffleOperands.{agree_same}
use Rattle.written_types.proofs.SlotFrames.{by_top, by_wide}
use Rattle.written_types.proofs.SlotTypes.{IsOpen, is_open_type, open_object, open_top}
use Rattle.written_types.proofs.StackRows.{read_topmost, read_width}
use Rattle.written_types.proofs.StillTemplates.{operands_have}
use Rattle.written_types.proofs.TemplateEnds.{template_carries}
use Rattle.written_types.proofs.TemplateRows.{OneType, as_many, holds_for, nothing_template, one_type, operand_slots, operands_are, plan_for, row_for, scope_for}
use Rattle.written_types.proofs.Templates.{Before, By, Taken, agrees_behind, along, entries, locals_stay, number, plan_row, read, read_long, row, state, taken}
use Rattle.written_types.specs.FitsTypes.{HaveTypes, IsOfType}
use Rattle.written_types.specs.Inner.CarriedFrames.{AgreeIn, BlockCarries, Carries, carries_none}
use Rattle.written_types.specs.Writing.{Writing}

-- what is popped
init_items : (s : PlanScope) (at : ℕ) (point : Point) (state : State) (route : Route) (class opcode index count : ℕ) (r : Reference) (slot : Slot)
    → point.instr ≡ Of class (Invoke opcode index count)
    → member_of s class index ≡ Some r
    → (opcode == INVOKESPECIAL) ≡ true
    → is_object_init r ≡ true
    → parameters_of r.desc ≡ []
    → (is_virtual (held state (operand point.typed (length (parameters_of r.desc)))) || is_site_object s.flat (receiver point.typed r.desc)) ≡ true
    → take 1 (cells point.typed state) ≡ cells_of (narrow ∷ []) (slot ∷ [])
    → items_at s at point state route ≡ map item (flat_map (λ cell. pops (plain_units cell)) (cells_of (narrow ∷ []) (slot ∷ [])))
init_items s at point state route class opcode index count r slot is named special init none test top =
    rw (is, named, special, init, test)
    (ap (λ (many : ℕ). map item (flat_map (λ cell. pops (plain_units cell)) (take (suc many) (cells point.typed state)))) (ap length none)
    ∙ ap (λ (found : List Cell). map item (flat_map (λ cell. pops (plain_units cell)) found)) top)

record OneRead (flat_read : VType → VType) (all : List VType) (type : VType) : Type 0 where
  own : VType
  is : all ≡ own ∷ []
  reads : flat_read own ≡ type

one_read : (flat_read : VType → VType) (all : List VType) (type : VType) → map flat_read all ≡ type ∷ [] → OneRead flat_read all type
one_read flat_read [] type is = absurd cc
one_read flat_read (own ∷ []) type is = record { own = own; is = refl; reads = let same : flat_read own ≡ type = cc in same }
one_read flat_read (own ∷ other ∷ all) type is = absurd cc

module _ (w : Writing) (given : Given w) (b : Before w given) (fit : EdgesFit w given) (ends : EndsCarry w given) (class opcode index count : ℕ)
    (is : b.point.instr ≡ Of class (Invoke opcode index count)) (r : Reference) (named : named_in w class index ≡ Some r)
    (object : is_object_init r ≡ true) (calls : IsObjectInit opcode r) where
  abbrev i : FlatInstr
  i = Of class (Invoke opcode index count)

  abbrev now : State
  now = state w given b

  abbrev read_stack : List VType
  read_stack = (read w given b).stack

  special : (opcode == INVOKESPECIAL) ≡ true
  special = ap (λ (n : ℕ). n == INVOKESPECIAL) calls.special

  member_is : member_of w.s class index ≡ Some r
  member_is = ap (λ (pool : Constants). reference_of pool (constant_at pool index)) (same_pool w.s class) ∙ named

  no_needs : argument_needs r.desc ≡ []
  no_needs = ap (λ (all : List FieldType). map (λ param. assignable_to (verification_type param)) all) calls.no_parameters

  -- ---- rows

  abbrev row_read : Bool → Row
  row_read pops_it =
      row_by (if pops_it then reads_pop r.desc else reads_itself) (read w given b) (call_row (scope_for w given b i) (read w given b) opcode (Some r))

  abbrev row_found : Option Reference → Row
  row_found found =
      row_by (reading_of_call w.s.flat b.point.typed opcode found) (read w given b) (call_row (scope_for w given b i) (read w given b) opcode found)

  abbrev pops_test : Bool
  pops_test = opcode == INVOKESPECIAL && is_object_init r && is_site_object w.s.flat (receiver b.point.typed r.desc)

  abbrev Holds : Row → Type 0
  Holds found = AllFit (scope_for w given b i) found.takes (topmost (length found.takes) read_stack)

  holds : Holds (row_read pops_test)
  holds = subst (λ (found : Option Reference). Holds (row_found found)) named (holds_for w given b i is).operands

  plan_is : plan_row w given b ≡ plan_call b.point.typed opcode (Some r)
  plan_is = ap (plan_for w given b) is ∙ ap (plan_call b.point.typed opcode) member_is

  plan_moves : plan_call b.point.typed opcode (Some r) ≡ moving b.point.typed 1 []
  plan_moves =
      ap (λ (init : Bool). if init then moving b.point.typed 1 []
      else calling b.point.typed (length (parameters_of r.desc) + receivers opcode) r.desc) object

  -- ---- an object of a candidate site

  module _ (of_site : is_site_object w.s.flat (receiver b.point.typed r.desc) ≡ true) where
    pops_it : pops_test ≡ true
    pops_it = rw (special, object, of_site) refl

    one : OneType (scope_for w given b i) single (topmost 1 read_stack)
    one =
        one_type (scope_for w given b i) single (topmost 1 read_stack)
        (subst (λ (needs : List Need). AllFit (scope_for w given b i) (single ∷ needs) (topmost (suc (length needs)) read_stack)) no_needs
        (subst (λ (p : Bool). Holds (row_read p)) pops_it holds))

    few : 1 ≤ length read_stack
    few = as_many w given b 1 (ap length one.is)

    flat_top : OneRead (read_type w.s.flat) (topmost 1 b.point.typed.stack) one.type
    flat_top =
        one_read (read_type w.s.flat) (topmost 1 b.point.typed.stack) one.type (sym (read_topmost w.s.flat 1 b.point.typed.stack) ∙ one.is)

    cell_is : take 1 (cells b.point.typed now) ≡ cells_of (narrow ∷ []) (held now (operand b.point.typed 0) ∷ [])
    cell_is =
        top_cell w given b fit ends flat_top.own
        (ap (λ (n : ℕ). drop (n - 1) b.point.typed.stack) (read_long w given b) ∙ flat_top.is)
        (sym (read_width w.s.flat narrow flat_top.own) ∙ ap (has_width narrow) flat_top.reads ∙ one.fits)

    sources_are : (plan_row w given b).stack ≡ held_from (length b.point.typed.locals) (length b.point.typed.stack - 1) ++ []
    sources_are = ap (λ (p : PlanRow). p.stack) (plan_is ∙ plan_moves)

    gives_are : stack_behind (read w given b) (row w given b) ≡ under 1 read_stack ++ []
    gives_are =
        ap (λ (found : FlatInstr). stack_behind (read w given b) (row_for w given b found)) is
        ∙ ap (λ (found : Option Reference). stack_behind (read w given b) (row_found found)) named
        ∙ ap (λ (p : Bool). stack_behind (read w given b) (row_read p)) pops_it
        ∙ ap (λ (needs : List Need). under (suc (length needs)) read_stack ++ []) no_needs

    locals_are : AgreeIn b.frame.locals (map (By w given b) (along w given b).locals)
    locals_are =
        locals_stay w given b
        (ap (λ (found : FlatInstr). (row_for w given b found).locals) is ∙ ap (λ (found : Option Reference). (row_found found).locals) named
        ∙ ap (λ (p : Bool). (row_read p).locals) pops_it)
        (ap (λ (p : PlanRow). p.locals) (plan_is ∙ plan_moves))
        (λ site. ap (λ (p : PlanRow). is_present (changed w.s now p.change ++ now.objects) site) (plan_is ∙ plan_moves))

    opens : is_open now (plan_row w given b).next ≡ true
    opens = ap (λ (p : PlanRow). is_open now p.next) (plan_is ∙ plan_moves)

    written : (slot : Slot) → held now (operand b.point.typed 0) ≡ slot
        → items_at w.s b.at b.point now b.route ≡ map item (flat_map (λ cell. pops (plain_units cell)) (cells_of (narrow ∷ []) (slot ∷ [])))
    written slot is_slot =
        init_items w.s b.at b.point now b.route class opcode index count r slot is member_is special object calls.no_parameters
        (or_right (is_virtual (held now (operand b.point.typed (length (parameters_of r.desc))))) of_site)
        (cell_is ∙ ap (λ (found : Slot). cells_of (narrow ∷ []) (found ∷ [])) is_slot) where
          or_right : (a : Bool) → is_site_object w.s.flat (receiver b.point.typed r.desc) ≡ true
              → (a || is_site_object w.s.flat (receiver b.point.typed r.desc)) ≡ true
          or_right true told = refl
          or_right false told = told

    parts : Taken w b.frame read_stack (entries w given b) 1
    parts = taken w given b 1

    slots_are : (slot : Slot) → held now (operand b.point.typed 0) ≡ slot
        → entries_in (topmost 1 read_stack) (drop (length read_stack - 1) (entries w given b)) ≡ entries_in (one.type ∷ []) (slot ∷ [])
    slots_are slot is_slot = λ j. entries_in (one.is j) ((operands_are w given b 1 few ∙ (λ k. is_slot k ∷ [])) j)

    module _ (is_plain : held now (operand b.point.typed 0) ≡ Plain) where
      not_top : is_top (By w given b one.type) ≡ false
      not_top = by_top w.form w.blocks one.type ∙ opposite (is_top one.type) (and_parts (not (is_wide one.type)) (not (is_top one.type)) one.fits).1 where
        opposite : (x : Bool) → not x ≡ true → x ≡ false
        opposite true told = absurd (false≢true told)
        opposite false told = refl

      is_single_by : has_width narrow (By w given b one.type) ≡ true
      is_single_by =
          (λ j. not (by_wide w.form w.blocks one.type j) && not (by_top w.form w.blocks one.type j)) ∙ one.fits

      top_is : parts.top ≡ By w given b one.type ∷ []
      top_is =
          agree_same parts.top (By w given b one.type ∷ [])
          (subst (λ (all : List VType). AgreeIn parts.top (map (By w given b) all)) (slots_are Plain is_plain) parts.top_agree) (not_top, tt)

      abbrev last : Frame
      last = frame_of b.frame.locals (parts.low ++ [])

      pub pops_plain : BlockCarries w (number w given b) b.one b.behind b.frame
      pops_plain =
          template_carries w given b fit ends (plain (Shuffle POP) ∷ []) last (written Plain is_plain) (tt, tt) (rw (is) refl) (ap falls_on is) opens
          (pop_carries w (number w given b) b.frame [] (Some last) parts.low (By w given b one.type)
          (parts.is ∙ ap (λ (top : List VType). parts.low ++ top) top_is) is_single_by
          (subst (λ (stack : List VType). Carries w (suc (number w given b)) [] (frame_of b.frame.locals stack) (Some last)) (append-nil parts.low)
          (carries_none (suc (number w given b)) last)))
          (agrees_behind w given b 1 [] [] b.frame.locals [] parts sources_are gives_are tt locals_are b.agrees.no_this)

    pub takes_virtual : (site : ℕ) → held now (operand b.point.typed 0) ≡ Virt site → BlockCarries w (number w given b) b.one b.behind b.frame
    takes_virtual site is_slot =
        nothing_template w given b fit ends 1 [] [] sources_are gives_are (slots_are (Virt site) is_slot) locals_are (written (Virt site) is_slot)
        (rw (is) refl) (ap falls_on is) opens

  -- ---- no other object is virtual here

  pub none_virtual : (site : ℕ) → held now (operand b.point.typed 0) ≡ Virt site → is_site_object w.s.flat (receiver b.point.typed r.desc) ≡ false → ⊥
  none_virtual site virtual other = closed one.type one.fits (is_open_type w.s of_type) where
    stays : pops_test ≡ false
    stays = rw (special, object, other) refl

    initialises : bytes_eq r.name init ≡ true
    initialises = (and_parts (bytes_eq r.class object_name) (bytes_eq r.name init) object).1

    no_static : (opcode == INVOKESTATIC) ≡ false
    no_static = ap (λ (n : ℕ). n == INVOKESTATIC) calls.special

    init_operands : Holds (row_read false)
        → AllFit (scope_for w given b i) (uninitialised ∷ argument_needs r.desc) (topmost (suc (length (argument_needs r.desc))) read_stack)
    init_operands held_all = rw (no_static, special, initialises) at held_all

    one : OneType (scope_for w given b i) uninitialised (topmost 1 read_stack)
    one =
        one_type (scope_for w given b i) uninitialised (topmost 1 read_stack)
        (subst (λ (needs : List Need). AllFit (scope_for w given b i) (uninitialised ∷ needs) (topmost (suc (length needs)) read_stack)) no_needs
        (init_operands (subst (λ (p : Bool). Holds (row_read p)) stays holds)))

    of_type : IsOfType w.s site one.type
    of_type =
        (subst (λ (slot : Slot). HaveTypes w.s (one.type ∷ []) (slot ∷ [])) virtual
        (subst (λ (all : List VType). HaveTypes w.s all (operand_slots w given b 1)) one.is
        (operands_have w given b 1 (as_many w given b 1 (ap length one.is))))).0

    closed : (type : VType) → IsUninitialised type → IsOpen w.s type → ⊥
    closed type un open_top = un
    closed type un (open_object name) = un
