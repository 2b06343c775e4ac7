-- Gotos, and comparisons of virtual objects, which are decided: their templates carry each frame.
use Rattle.std.proofs.Common.{◌≡◌, ◌≢◌, ◌-◌, ℕ, suc, Bool, true, false, List, [], ◌∷◌, ◌++◌, drop, length, map, slice_get, Some, None, refl, sym, ap, subst, ◌∙◌}
use Rattle.std.specs.Prelude.{◌==◌, ◌&&◌, ◌||◌, nat_le, not}
use Rattle.std.specs.List.{AllByRecursion}
use Rattle.std.proofs.lemmas.Bool.{false≢true}
use Rattle.std.proofs.lemmas.List.{append-nil}
use Rattle.std.proofs.lemmas.Option.{none-some, same_Some}
use Rattle.class_model.specs.Frames.{is_top}
use Rattle.class_model.specs.declared.descriptor.Kind.TheVariants as kinds
use Rattle.class_model.specs.declared.frame.Frame.{Frame}
use Rattle.class_model.specs.declared.frame.VType.{VType}
use Rattle.class_model.specs.declared.frame.VType.TheVariants as types
use Rattle.class_model.specs.declared.instr.Instr.{Instr}
use Rattle.class_model.specs.declared.instr.Instr.TheVariants.{Goto, IfNull, IfSame, New, Shuffle}
use Rattle.class_model.specs.declared.opcodes.TheConstants.{IFNONNULL, IFNULL, IF_ACMPEQ, IF_ACMPNE, POP}
use Rattle.flow_code.specs.declared.point.FlatInstr.{FlatInstr}
use Rattle.flow_code.specs.declared.point.FlatInstr.TheVariants.{Of}
use Rattle.flow_code.specs.declared.point.Point.{Point}
use Rattle.flow_code.specs.FlatCode.{point_at}
use Rattle.making_code.specs.Items.{WInstr, item, plain}
use Rattle.member_link.specs.Rows.Operands.{IsOfKind, of_kind, topmost}
use Rattle.member_link.specs.Rows.Row.{stack_behind}
use Rattle.member_link.specs.Rows.ShuffleRows.{has_width, one as narrow}
use Rattle.member_link.specs.Rows.Table.{jump_row}
use Rattle.plan_flow.specs.PlanRows.{Change, PlanRow, no_change}
use Rattle.plan_flow.specs.PlanSlots.{changed, held, is_open, may_be_same, may_differ}
use Rattle.plan_flow.specs.PlanTable.{falls_on, held_locals, moving, null_row, operand, same_row, targets_at}
use Rattle.plan_flow.specs.Written.Blocks.{of_point}
use Rattle.plan_flow.specs.Written.FramedCode.{frame_by_item}
use Rattle.plan_flow.specs.Written.Routes.{edge_by}
use Rattle.plan_flow.specs.Written.Templates.{is_virtual, pop_if_plain}
use Rattle.plan_flow.specs.declared.edge.EdgeKind.TheVariants as edges
use Rattle.virtual_state.specs.States.{State, is_present}
use Rattle.virtual_state.specs.declared.slot.Slot.{Slot}
use Rattle.virtual_state.specs.declared.slot.Slot.TheVariants.{Plain, Virt, Unusable}
use Rattle.written_types.proofs.BlockEnds.{topmost_none}
use Rattle.written_types.proofs.FieldFits.{all_left}
use Rattle.written_types.proofs.Standing.{all_joined}
use Rattle.written_types.proofs.Given.{EdgesFit, EndsCarry, Given, IsOfNoNew, MakesCarry, entries_in}
use Rattle.written_types.proofs.ItemSteps.{frame_of, pop_carries}
use Rattle.written_types.proofs.JumpTemplates.{decided_carries}
use Rattle.written_types.proofs.MadeTemplates.{agree_none}
use Rattle.written_types.proofs.OperandRows.{Fit, no_operand}
use Rattle.written_types.proofs.Placing.{IsMade}
use Rattle.written_types.proofs.ShuffleOperands.{agree_same}
use Rattle.written_types.proofs.SlotFrames.{by_top, by_wide}
use Rattle.written_types.proofs.TemplateRows.{OneType, TwoTypes, as_many, holds_for, one_type, operands_are, plan_for, row_for, scope_for, two_types}
use Rattle.written_types.proofs.Templates.{Before, By, Taken, agrees_behind, along, entries, jump_there, locals_stay, number, plan_row, read, state, taken}
use Rattle.written_types.specs.Inner.CarriedFrames.{AgreeIn, Agrees, BlockCarries, Carries, carries_none}
use Rattle.written_types.specs.Writing.{Writing}

-- ---- rows of comparisons

-- whichever jump it is
record IsMoving (f : Frame) (row : PlanRow) (takes : ℕ) : Type 0 where
  stack : row.stack ≡ (moving f takes []).stack
  locals : row.locals ≡ held_locals f
  change : row.change ≡ no_change

one_null_row : (f : Frame) (opcode : ℕ) → IsMoving f (null_row f opcode) 1
one_null_row f opcode = by (opcode == IFNULL) refl where
  by : (k : Bool) → (opcode == IFNULL) ≡ k → IsMoving f (null_row f opcode) 1
  by true told = rw (told) (record { stack = refl; locals = refl; change = refl })
  by false told = rw (told) (record { stack = refl; locals = refl; change = refl })

one_same_row : (f : Frame) (opcode : ℕ) → IsMoving f (same_row f opcode) 2
one_same_row f opcode = by (opcode == IF_ACMPEQ) refl where
  by : (k : Bool) → (opcode == IF_ACMPEQ) ≡ k → IsMoving f (same_row f opcode) 2
  by true told = rw (told) (record { stack = refl; locals = refl; change = refl })
  by false told = rw (told) (record { stack = refl; locals = refl; change = refl })

-- a reference has one unit
pub reference_single : (type : VType) → IsOfKind kinds.Ref type → (is_top type ≡ false) × (has_width narrow type ≡ true)
reference_single types.Null of = (refl, refl)
reference_single (types.Object name) of = (refl, refl)
reference_single types.UninitThis of = (refl, refl)
reference_single (types.Uninit at) of = (refl, refl)
reference_single types.Top of = absurd of
reference_single types.Int of = absurd of
reference_single types.Float of = absurd of
reference_single types.Long of = absurd of
reference_single types.Double of = absurd of

module _ (w : Writing) (given : Given w) (b : Before w given) (fit : EdgesFit w given) (ends : EndsCarry w given) (makes : MakesCarry w given)
    (class : ℕ) where
  abbrev now : State
  now = state w given b

  abbrev read_stack : List VType
  read_stack = (read w given b).stack

  -- the block of a jump is none of a new
  no_new_here : (instr : Instr) → b.point.instr ≡ Of class instr → ((index : ℕ) → instr ≢ New index) → IsOfNoNew w b.one
  no_new_here instr is other at of index point block_is there is_new =
      other index (same_instr (sym is ∙ ap (λ (p : Point). p.instr) (same_Some b.point point (sym b.here.there ∙ same_at)) ∙ is_new)) where
        same_at : point_at w.s.flat b.at ≡ Some point
        same_at = ap (point_at w.s.flat) (of_same (sym (ap (λ block. block.of) b.here.is_block) ∙ block_is)) ∙ there where
          of_same : of_point b.at ≡ of_point at → b.at ≡ at
          of_same same = cc

        same_instr : Of class instr ≡ Of of (New index) → instr ≡ New index
        same_instr same = cc

  -- ---- goto

  module _ (to : ℕ) (is : b.point.instr ≡ Of class (Goto to)) where
    none_taken : Taken w b.frame read_stack (entries w given b) 0
    none_taken = taken w given b 0

    goto_agrees : Agrees b.frame (frame_by_item w.form w.blocks (along w given b))
    goto_agrees =
        subst (λ (stack : List VType). Agrees (frame_of b.frame.locals stack) (frame_by_item w.form w.blocks (along w given b))) (sym none_taken.is)
        (agrees_behind w given b 0 [] [] b.frame.locals none_taken.top none_taken (ap (λ (i : FlatInstr). (plan_for w given b i).stack) is)
        (ap (λ (i : FlatInstr). stack_behind (read w given b) (row_for w given b i)) is)
        (subst (λ (all : List VType). AgreeIn none_taken.top (map (By w given b) (entries_in all (drop (length read_stack - 0) (entries w given b)))))
        (topmost_none read_stack) none_taken.top_agree)
        (locals_stay w given b (ap (λ (i : FlatInstr). (row_for w given b i).locals) is) (ap (λ (i : FlatInstr). (plan_for w given b i).locals) is)
        (λ one. ap (λ (i : FlatInstr). is_present (changed w.s now (plan_for w given b i).change ++ now.objects) one) is)) b.agrees.no_this)

    pub goto_template : BlockCarries w (number w given b) b.one b.behind b.frame
    goto_template =
        decided_carries w given b fit ends makes [] b.frame (rw (is) refl) tt (rw (is) refl) (carries_none (number w given b) b.frame) goto_agrees b.fresh
        (no_new_here (Goto to) is (λ index same. absurd cc))
        (λ none.
        let found = jump_there w given b 0 to (ap (λ (i : FlatInstr). slice_get (targets_at i) 0) is)
        (ap (λ (i : FlatInstr). is_open now (plan_for w given b i).jump) is) in
        absurd (none-some found.0 (sym none ∙ found.1)))

  -- ---- a virtual object compared with null

  module _ (opcode to site : ℕ) (is : b.point.instr ≡ Of class (IfNull opcode to)) (virtual : held now (operand b.point.typed 0) ≡ Virt site) where
    abbrev null_instr : FlatInstr
    null_instr = Of class (IfNull opcode to)

    abbrev known : Bool
    known = nat_le IFNULL opcode && nat_le opcode IFNONNULL

    known_null : known ≡ true
    known_null = by known refl where
      by : (k : Bool) → known ≡ k → known ≡ true
      by true told = told
      by false told =
          absurd (no_operand (scope_for w given b null_instr) (read w given b)
          (subst (λ (k : Bool). Fit (scope_for w given b null_instr) (read w given b) (jump_row (read w given b) k (of_kind kinds.Ref ∷ []))) told
          (holds_for w given b null_instr is).operands))

    null_one : OneType (scope_for w given b null_instr) (of_kind kinds.Ref) (topmost 1 read_stack)
    null_one =
        one_type (scope_for w given b null_instr) (of_kind kinds.Ref) (topmost 1 read_stack)
        (subst (λ (k : Bool). Fit (scope_for w given b null_instr) (read w given b) (jump_row (read w given b) k (of_kind kinds.Ref ∷ []))) known_null
        (holds_for w given b null_instr is).operands)

    null_parts : Taken w b.frame read_stack (entries w given b) 1
    null_parts = taken w given b 1

    null_top : null_parts.top ≡ []
    null_top =
        agree_none null_parts.top (subst (λ (all : List VType). AgreeIn null_parts.top (map (By w given b) all))
        (λ j. entries_in (null_one.is j)
        ((operands_are w given b 1 (as_many w given b 1 (ap length null_one.is)) ∙ (λ k. virtual k ∷ [])) j)) null_parts.top_agree)

    null_plan : plan_row w given b ≡ null_row b.point.typed opcode
    null_plan = ap (plan_for w given b) is

    null_stack : b.frame.stack ≡ null_parts.low ++ []
    null_stack = null_parts.is ∙ ap (λ (top : List VType). null_parts.low ++ top) null_top

    abbrev null_last : Frame
    null_last = frame_of b.frame.locals (null_parts.low ++ [])

    null_agrees : Agrees null_last (frame_by_item w.form w.blocks (along w given b))
    null_agrees =
        agrees_behind w given b 1 [] [] b.frame.locals [] null_parts (ap (λ (p : PlanRow). p.stack) null_plan ∙ (one_null_row b.point.typed opcode).stack)
        (ap (λ (i : FlatInstr). stack_behind (read w given b) (row_for w given b i)) is
        ∙ ap (λ (k : Bool). stack_behind (read w given b) (jump_row (read w given b) k (of_kind kinds.Ref ∷ []))) known_null) tt
        (locals_stay w given b
        (ap (λ (i : FlatInstr). (row_for w given b i).locals) is
        ∙ ap (λ (k : Bool). (jump_row (read w given b) k (of_kind kinds.Ref ∷ [])).locals) known_null)
        (ap (λ (p : PlanRow). p.locals) null_plan ∙ (one_null_row b.point.typed opcode).locals)
        (λ one. ap (λ (p : PlanRow). is_present (changed w.s now p.change ++ now.objects) one) null_plan
        ∙ ap (λ (change : Change). is_present (changed w.s now change ++ now.objects) one) (one_null_row b.point.typed opcode).change)) b.agrees.no_this

    null_falls : edge_by b.route (edges.Jump 0) ≡ None → (falls_on b.point.instr ≡ true) × (is_open now (plan_row w given b).next ≡ true)
    null_falls none = (ap falls_on is, ap (λ (p : PlanRow). is_open now p.next) null_plan ∙ by (opcode == IFNULL) refl) where
      by : (k : Bool) → (opcode == IFNULL) ≡ k → is_open now (null_row b.point.typed opcode).next ≡ true
      by true told = rw (told) refl
      by false told =
          let found = jump_there w given b 0 to (ap (λ (i : FlatInstr). slice_get (targets_at i) 0) is)
          (ap (λ (p : PlanRow). is_open now p.jump) null_plan ∙ null_jumps told) in
          absurd (none-some found.0 (sym none ∙ found.1)) where
            null_jumps : (opcode == IFNULL) ≡ false → is_open now (null_row b.point.typed opcode).jump ≡ true
            null_jumps told = rw (told) refl

    pub null_template_carries : BlockCarries w (number w given b) b.one b.behind b.frame
    null_template_carries =
        decided_carries w given b fit ends makes [] null_last (rw (is, virtual) refl) tt (rw (is, virtual) refl)
        (subst (λ (stack : List VType). Carries w (number w given b) [] b.frame (Some (frame_of b.frame.locals stack))) null_stack
        (carries_none (number w given b) b.frame)) null_agrees
        (λ at above below. subst (AllByRecursion (λ type. type ≢ types.Uninit at)) null_stack (b.fresh at above below)) (no_new_here (IfNull opcode to) is (λ index same. absurd cc)) null_falls

  -- ---- two references of which one is to a virtual object

  module _ (opcode to : ℕ) (is : b.point.instr ≡ Of class (IfSame opcode to))
      (folded : (is_virtual (held now (operand b.point.typed 1)) || is_virtual (held now (operand b.point.typed 0))) ≡ true) where
    abbrev same_instr : FlatInstr
    same_instr = Of class (IfSame opcode to)

    abbrev same_known : Bool
    same_known = nat_le IF_ACMPEQ opcode && nat_le opcode IF_ACMPNE

    abbrev first : Slot
    first = held now (operand b.point.typed 1)

    abbrev second : Slot
    second = held now (operand b.point.typed 0)

    known_same : same_known ≡ true
    known_same = by same_known refl where
      by : (k : Bool) → same_known ≡ k → same_known ≡ true
      by true told = told
      by false told =
          absurd (no_operand (scope_for w given b same_instr) (read w given b)
          (subst (λ (k : Bool). Fit (scope_for w given b same_instr) (read w given b) (jump_row (read w given b) k (of_kind kinds.Ref ∷ of_kind kinds.Ref ∷ [])))
          told (holds_for w given b same_instr is).operands))

    two : TwoTypes (scope_for w given b same_instr) (of_kind kinds.Ref) (of_kind kinds.Ref) (topmost 2 read_stack)
    two =
        two_types (scope_for w given b same_instr) (of_kind kinds.Ref) (of_kind kinds.Ref) (topmost 2 read_stack)
        (subst (λ (k : Bool). Fit (scope_for w given b same_instr) (read w given b) (jump_row (read w given b) k (of_kind kinds.Ref ∷ of_kind kinds.Ref ∷ [])))
        known_same (holds_for w given b same_instr is).operands)

    parts : Taken w b.frame read_stack (entries w given b) 2
    parts = taken w given b 2

    top_agrees : AgreeIn parts.top (map (By w given b) (entries_in (two.type ∷ two.other ∷ []) (first ∷ second ∷ [])))
    top_agrees =
        subst (λ (all : List VType). AgreeIn parts.top (map (By w given b) all))
        (λ j. entries_in (two.is j) (operands_are w given b 2 (as_many w given b 2 (ap length two.is)) j)) parts.top_agree

    abbrev last : Frame
    last = frame_of b.frame.locals (parts.low ++ [])

    record Popped (pops : List WInstr) : Type 0 where
      made : AllByRecursion IsMade pops
      so : Carries w (number w given b) (map item pops) b.frame (Some last)

    none_popped : parts.top ≡ [] → Popped []
    none_popped none = record {
      made = tt;
      so = subst (λ (stack : List VType). Carries w (number w given b) [] b.frame (Some (frame_of b.frame.locals stack)))
          (parts.is ∙ ap (λ (top : List VType). parts.low ++ top) none) (carries_none (number w given b) b.frame);
    }

    one_popped : (type : VType) → IsOfKind kinds.Ref type → AgreeIn parts.top (By w given b type ∷ []) → Popped (plain (Shuffle POP) ∷ [])
    one_popped type of agree = record {
      made = (tt, tt);
      so = pop_carries w (number w given b) b.frame [] (Some last) parts.low (By w given b type)
          (parts.is ∙ ap (λ (top : List VType). parts.low ++ top)
          (agree_same parts.top (By w given b type ∷ []) agree (by_top w.form w.blocks type ∙ (reference_single type of).0, tt)))
          ((λ j. not (by_wide w.form w.blocks type j) && not (by_top w.form w.blocks type j)) ∙ (reference_single type of).1)
          (subst (λ (stack : List VType). Carries w (suc (number w given b)) [] (frame_of b.frame.locals stack) (Some last)) (append-nil parts.low)
          (carries_none (suc (number w given b)) last));
    }

    popped_by : (one other : Slot) → (is_virtual one || is_virtual other) ≡ true
        → AgreeIn parts.top (map (By w given b) (entries_in (two.type ∷ two.other ∷ []) (one ∷ other ∷ [])))
        → Popped (pop_if_plain other ++ pop_if_plain one)
    popped_by (Virt site) (Virt more) test agree = none_popped (agree_none parts.top agree)
    popped_by (Virt site) Unusable test agree = none_popped (agree_none parts.top agree)
    popped_by (Virt site) Plain test agree = one_popped two.other two.other_fits agree
    popped_by Unusable (Virt more) test agree = none_popped (agree_none parts.top agree)
    popped_by Plain (Virt more) test agree = one_popped two.type two.fits agree
    popped_by Plain Plain test agree = absurd (false≢true test)
    popped_by Plain Unusable test agree = absurd (false≢true test)
    popped_by Unusable Plain test agree = absurd (false≢true test)
    popped_by Unusable Unusable test agree = absurd (false≢true test)

    popped : Popped (pop_if_plain second ++ pop_if_plain first)
    popped = popped_by first second folded top_agrees

    same_plan : plan_row w given b ≡ same_row b.point.typed opcode
    same_plan = ap (plan_for w given b) is

    same_agrees : Agrees last (frame_by_item w.form w.blocks (along w given b))
    same_agrees =
        agrees_behind w given b 2 [] [] b.frame.locals [] parts (ap (λ (p : PlanRow). p.stack) same_plan ∙ (one_same_row b.point.typed opcode).stack)
        (ap (λ (i : FlatInstr). stack_behind (read w given b) (row_for w given b i)) is
        ∙ ap (λ (k : Bool). stack_behind (read w given b) (jump_row (read w given b) k (of_kind kinds.Ref ∷ of_kind kinds.Ref ∷ []))) known_same) tt
        (locals_stay w given b
        (ap (λ (i : FlatInstr). (row_for w given b i).locals) is
        ∙ ap (λ (k : Bool). (jump_row (read w given b) k (of_kind kinds.Ref ∷ of_kind kinds.Ref ∷ [])).locals) known_same)
        (ap (λ (p : PlanRow). p.locals) same_plan ∙ (one_same_row b.point.typed opcode).locals)
        (λ one. ap (λ (p : PlanRow). is_present (changed w.s now p.change ++ now.objects) one) same_plan
        ∙ ap (λ (change : Change). is_present (changed w.s now change ++ now.objects) one) (one_same_row b.point.typed opcode).change)) b.agrees.no_this

    -- exactly one edge is open
    other_opens : (one other : Slot) → (is_virtual one || is_virtual other) ≡ true
        → (may_be_same one other ≡ false → may_differ one other ≡ true) × (may_differ one other ≡ false → may_be_same one other ≡ true)
    other_opens (Virt site) (Virt more) test = by (site == more) where
      by : (k : Bool) → (k ≡ false → not k ≡ true) × (not k ≡ false → k ≡ true)
      by true = (λ told. absurd (false≢true (sym told)), λ told. refl)
      by false = (λ told. refl, λ told. absurd (false≢true (sym told)))
    other_opens (Virt site) Plain test = (λ told. refl, λ told. absurd (false≢true (sym told)))
    other_opens (Virt site) Unusable test = (λ told. refl, λ told. absurd (false≢true (sym told)))
    other_opens Plain (Virt more) test = (λ told. refl, λ told. absurd (false≢true (sym told)))
    other_opens Unusable (Virt more) test = (λ told. refl, λ told. absurd (false≢true (sym told)))
    other_opens Plain Plain test = absurd (false≢true test)
    other_opens Plain Unusable test = absurd (false≢true test)
    other_opens Unusable Plain test = absurd (false≢true test)
    other_opens Unusable Unusable test = absurd (false≢true test)

    not_open : edge_by b.route (edges.Jump 0) ≡ None → is_open now (same_row b.point.typed opcode).jump ≡ false
    not_open none = by (is_open now (same_row b.point.typed opcode).jump) refl where
      by : (k : Bool) → is_open now (same_row b.point.typed opcode).jump ≡ k → is_open now (same_row b.point.typed opcode).jump ≡ false
      by true told =
          let found = jump_there w given b 0 to (ap (λ (i : FlatInstr). slice_get (targets_at i) 0) is) (ap (λ (p : PlanRow). is_open now p.jump) same_plan ∙ told) in
          absurd (none-some found.0 (sym none ∙ found.1))
      by false told = told

    same_falls : edge_by b.route (edges.Jump 0) ≡ None → (falls_on b.point.instr ≡ true) × (is_open now (plan_row w given b).next ≡ true)
    same_falls none = (ap falls_on is, ap (λ (p : PlanRow). is_open now p.next) same_plan ∙ by (opcode == IF_ACMPEQ) refl (not_open none)) where
      by : (k : Bool) → (opcode == IF_ACMPEQ) ≡ k → is_open now (same_row b.point.typed opcode).jump ≡ false
          → is_open now (same_row b.point.typed opcode).next ≡ true
      by true told closed = rw (told) ((other_opens first second folded).0 (rw (told) at closed))
      by false told closed = rw (told) ((other_opens first second folded).1 (rw (told) at closed))

    other_way : (is_virtual second || is_virtual first) ≡ true
    other_way = by (is_virtual first) (is_virtual second) folded where
      by : (x y : Bool) → (x || y) ≡ true → (y || x) ≡ true
      by true true told = refl
      by true false told = refl
      by false true told = refl
      by false false told = told

    pub same_template_carries : BlockCarries w (number w given b) b.one b.behind b.frame
    same_template_carries =
        decided_carries w given b fit ends makes (pop_if_plain second ++ pop_if_plain first) last (rw (is, folded) refl) popped.made (rw (is) other_way)
        popped.so same_agrees
        (λ at above below. all_joined (λ type. type ≢ types.Uninit at) parts.low []
        (all_left (λ type. type ≢ types.Uninit at) parts.low parts.top (subst (AllByRecursion (λ type. type ≢ types.Uninit at)) parts.is (b.fresh at above below))) tt)
        (no_new_here (IfSame opcode to) is (λ index same. absurd cc)) same_falls
