-- An instanceof of a virtual object: its answer is a constant; and a call of java/lang/Object's constructor, which takes its object away.
use Rattle.std.proofs.Common.{◌≡◌, ◌-◌, ◌≤◌, ℕ, suc, Bool, true, List, [], ◌∷◌, ◌++◌, drop, length, map, pos, reverse, take, Some, refl, sym, ap, subst, ◌∙◌, arith}
use Rattle.std.specs.Prelude.{◌&&◌, if◌then◌else◌}
use Rattle.std.proofs.lemmas.List.{append-nil, length-drop, reverse-append, take-append-drop}
use Rattle.class_model.specs.PoolChecks.{class_at}
use Rattle.class_model.specs.declared.frame.Frame.{Frame}
use Rattle.class_model.specs.declared.frame.VType.{VType}
use Rattle.class_model.specs.declared.frame.VType.TheVariants as types
use Rattle.class_model.specs.declared.instr.Imm.{Imm}
use Rattle.class_model.specs.declared.instr.Imm.TheVariants as imms
use Rattle.class_model.specs.declared.instr.Instr.TheVariants.{Const, InstanceOf}
use Rattle.class_tree.specs.Headers.{Name}
use Rattle.flow_code.specs.declared.point.FlatInstr.{FlatInstr}
use Rattle.flow_code.specs.declared.point.FlatInstr.TheVariants.{Of}
use Rattle.making_code.specs.Items.{item, plain}
use Rattle.member_link.specs.Rows.Operands.{initialised, topmost}
use Rattle.member_link.specs.Rows.Row.{stack_behind}
use Rattle.member_link.specs.Rows.ShuffleRows.{has_width, one as narrow}
use Rattle.plan_flow.specs.PlanRows.{plain_value}
use Rattle.plan_flow.specs.PlanScope.{is_site_below, pool_of}
use Rattle.plan_flow.specs.PlanSlots.{changed, held, is_open}
use Rattle.plan_flow.specs.PlanTable.{falls_on, operand}
use Rattle.plan_flow.specs.Written.Templates.{Cell, cells, cells_from, items_at}
use Rattle.virtual_state.specs.States.{State, is_present}
use Rattle.virtual_state.specs.declared.slot.Slot.{Slot}
use Rattle.virtual_state.specs.declared.slot.Slot.TheVariants.{Virt}
use Rattle.written_types.proofs.AgreeingFrames.{agrees_with_itself}
use Rattle.written_types.proofs.Given.{EdgesFit, EndsCarry, Given}
use Rattle.written_types.proofs.ItemSteps.{const_carries, frame_of}
use Rattle.written_types.proofs.ShuffleForms.{cells_of}
use Rattle.written_types.proofs.ShuffleOperands.{cells_are, cells_both}
use Rattle.written_types.proofs.SlotFrames.{as_long_taken}
use Rattle.written_types.proofs.StillTemplates.{OneVirtual, one_virtual}
use Rattle.written_types.proofs.TemplateEnds.{template_carries}
use Rattle.written_types.proofs.TemplateRows.{holds_for, one_type, operands_are, plan_for, row_for, scope_for}
use Rattle.written_types.proofs.Templates.{Before, By, Taken, agrees_behind, entries, entries_long, locals_stay, number, read, read_long, state, taken}
use Rattle.written_types.specs.Inner.CarriedFrames.{AgreeIn, BlockCarries, Carries, carries_none}
use Rattle.written_types.specs.Writing.{Writing}

-- what agrees with nothing is nothing
pub agree_none : (top : List VType) → AgreeIn top [] → top ≡ []
agree_none [] agree = refl
agree_none (first ∷ top) agree = absurd agree

module _ (w : Writing) (given : Given w) (b : Before w given) (fit : EdgesFit w given) (ends : EndsCarry w given) where
  abbrev now : State
  now = state w given b

  abbrev read_stack : List VType
  read_stack = (read w given b).stack

  -- ---- instanceof

  instance_items : (class index site : ℕ) (name : Name) → b.point.instr ≡ Of class (InstanceOf index)
      → held now (operand b.point.typed 0) ≡ Virt site
      → class_at (pool_of w.s class) index ≡ Some name
      → items_at w.s b.at b.point now b.route
      ≡ map item (plain (Const (imms.Int (pos (if is_site_below w.s site name then 1 else 0)))) ∷ [])
  instance_items class index site name is virtual named = rw (is, virtual, named) refl

  module _ (class index site : ℕ) (name : Name) (is : b.point.instr ≡ Of class (InstanceOf index))
      (virtual : held now (operand b.point.typed 0) ≡ Virt site) (named : class_at (pool_of w.s class) index ≡ Some name) where
    abbrev answer : Imm
    answer = imms.Int (pos (if is_site_below w.s site name then 1 else 0))

    one : OneVirtual w given b initialised (scope_for w given b (Of class (InstanceOf index))) site
    one =
        one_virtual w given b initialised (scope_for w given b (Of class (InstanceOf index))) site
        (one_type (scope_for w given b (Of class (InstanceOf index))) initialised (topmost 1 read_stack)
        (holds_for w given b (Of class (InstanceOf index)) is).operands) virtual

    parts : Taken w b.frame read_stack (entries w given b) 1
    parts = taken w given b 1

    stack_is : b.frame.stack ≡ parts.low
    stack_is =
        parts.is
        ∙ ap (λ (top : List VType). parts.low ++ top)
        (agree_none parts.top (subst (λ (all : List VType). AgreeIn parts.top (map (By w given b) all)) one.entry parts.top_agree))
        ∙ append-nil parts.low

    abbrev last : Frame
    last = frame_of b.frame.locals (parts.low ++ types.Int ∷ [])

    so : Carries w (number w given b) (item (plain (Const answer)) ∷ []) b.frame (Some last)
    so =
        const_carries w (number w given b) b.frame [] (Some last) answer
        (subst (λ (stack : List VType). Carries w (suc (number w given b)) [] (frame_of b.frame.locals (stack ++ types.Int ∷ [])) (Some last))
        (sym stack_is) (carries_none (suc (number w given b)) last))

    pub instance_carries : BlockCarries w (number w given b) b.one b.behind b.frame
    instance_carries =
        template_carries w given b fit ends (plain (Const answer) ∷ []) last (instance_items class index site name is virtual named) (tt, tt)
        (rw (is) refl) (ap falls_on is) (ap (λ (i : FlatInstr). is_open now (plan_for w given b i).next) is) so
        (agrees_behind w given b 1 (plain_value ∷ []) (types.Int ∷ []) b.frame.locals (types.Int ∷ []) parts
        (ap (λ (i : FlatInstr). (plan_for w given b i).stack) is) (ap (λ (i : FlatInstr). stack_behind (read w given b) (row_for w given b i)) is)
        (agrees_with_itself (types.Int ∷ []))
        (locals_stay w given b (ap (λ (i : FlatInstr). (row_for w given b i).locals) is) (ap (λ (i : FlatInstr). (plan_for w given b i).locals) is)
        (λ one. ap (λ (i : FlatInstr). is_present (changed w.s now (plan_for w given b i).change ++ now.objects) one) is)) b.agrees.no_this)

  -- ---- one operand that is a single

  -- the cell of the topmost entry
  pub top_cell : (type : VType) → drop (length read_stack - 1) b.point.typed.stack ≡ type ∷ [] → has_width narrow type ≡ true
      → take 1 (cells b.point.typed now) ≡ cells_of (narrow ∷ []) (held now (operand b.point.typed 0) ∷ [])
  top_cell type is told =
      ap (take 1)
      (ap reverse
      ((λ j. cells_from (sym (take-append-drop low b.point.typed.stack) j) (sym (take-append-drop low slots) j))
      ∙ cells_both (take low b.point.typed.stack) (drop low b.point.typed.stack) (take low slots) (drop low slots)
      (as_long_taken low b.point.typed.stack slots (sym (read_long w given b) ∙ entries_long w given b))
      ∙ (λ j. low_cells ++ cells_from (is j) (operands_are w given b 1 few j))
      ∙ ap (λ (rest : List Cell). low_cells ++ rest)
      (cells_are (narrow ∷ []) (type ∷ []) (held now (operand b.point.typed 0) ∷ []) (ap (λ (b : Bool). b && true) told)))
      ∙ reverse-append low_cells (cells_of (narrow ∷ []) (held now (operand b.point.typed 0) ∷ []))) where
        low : ℕ
        low = length read_stack - 1

        slots : List Slot
        slots = entries w given b

        low_cells : List Cell
        low_cells = cells_from (take low b.point.typed.stack) (take low slots)

        few : 1 ≤ length read_stack
        few =
            let dropped = length-drop low b.point.typed.stack in
            let long = ap length is in
            let same = read_long w given b in
            omega (arith, dropped, long, same)
