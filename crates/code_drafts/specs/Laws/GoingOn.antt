-- Where control goes on from an instruction: by a template to the next point or to the target of a decided jump, and where it is written as it is,
-- to each of its targets.
use Rattle.std.proofs.Common.{◌≡◌, ◌==◌, ◌||◌, not, if◌then◌else◌, ℕ, Bool, true, false, List, Option, Some, None, slice_get, refl, sym, ap, ◌∙◌}
use Rattle.std.proofs.lemmas.Option.{none-some}
use Rattle.class_model.specs.Instructions.{targets}
use Rattle.class_model.specs.PoolChecks.{class_at}
use Rattle.class_model.specs.declared.frame.Frame.{Frame}
use Rattle.class_model.specs.declared.instr.Instr.{Instr}
use Rattle.class_model.specs.declared.instr.Instr.TheVariants.{Nop, Const, Ldc, Ldc2, Load, Store, Iinc, ArrayLoad, ArrayStore, Shuffle, Pure, Divide, FloatAsk, If, If2, IfSame, IfNull, Goto, Table, Lookup, Return, GetStatic, PutStatic, GetField, PutField, Invoke, Dynamic, New, NewArray, NewRefArray, NewMulti, Length, Throw, Cast, InstanceOf, Enter, Leave}
use Rattle.class_model.specs.declared.opcodes.TheConstants.{IF_ACMPEQ, IFNULL}
use Rattle.class_tree.specs.Headers.{Name}
use Rattle.flow_code.specs.declared.point.FlatInstr.TheVariants.{Of}
use Rattle.flow_code.specs.declared.point.Point.{Point}
use Rattle.making_code.specs.Items.{WInstr}
use Rattle.member_link.specs.Bodies.{falls_through}
use Rattle.member_link.specs.Machine.CallSteps.{is_object_init}
use Rattle.member_link.specs.References.{Reference}
use Rattle.member_link.specs.Rows.ShuffleRows.{Form, form_in, forms_of}
use Rattle.plan_flow.specs.PlanScope.{PlanScope, field_of, member_of, pool_of, site_at}
use Rattle.plan_flow.specs.PlanSlots.{held, is_open, may_be_same, may_differ}
use Rattle.plan_flow.specs.PlanTable.{call_row, cast_row, get_field_row, instr_row, new_row, operand, put_field_row, shuffle_row}
use Rattle.plan_flow.specs.Written.Blocks.{is_decided, state_written}
use Rattle.plan_flow.specs.Written.Routes.{Route}
use Rattle.plan_flow.specs.Written.Templates.{is_folded, is_virtual, null_template, same_template, template}
use Rattle.virtual_state.specs.States.{State}
use Rattle.virtual_state.specs.declared.slot.Slot.{Slot}
use Rattle.virtual_state.specs.declared.slot.Slot.TheVariants.{Plain, Virt, Unusable}

-- ---- decided jumps

-- a goto, or a comparison that a virtual object decides
abbrev pub decided : Frame → State → Instr → Bool
decided f state (Goto to) = true
decided f state instr = is_folded f state instr

pub decided_is : (point : Point) (route : Route) (class : ℕ) (instr : Instr)
    → point.instr ≡ Of class instr
    → is_decided point route ≡ decided point.typed (state_written route) instr
decided_is point route class Nop is = rw (is) refl
decided_is point route class (Const imm) is = rw (is) refl
decided_is point route class (Ldc index) is = rw (is) refl
decided_is point route class (Ldc2 index) is = rw (is) refl
decided_is point route class (Load kind local) is = rw (is) refl
decided_is point route class (Store kind local) is = rw (is) refl
decided_is point route class (Iinc local by) is = rw (is) refl
decided_is point route class (ArrayLoad opcode) is = rw (is) refl
decided_is point route class (ArrayStore opcode) is = rw (is) refl
decided_is point route class (Shuffle opcode) is = rw (is) refl
decided_is point route class (Pure opcode) is = rw (is) refl
decided_is point route class (Divide opcode) is = rw (is) refl
decided_is point route class (FloatAsk opcode) is = rw (is) refl
decided_is point route class (If opcode to) is = rw (is) refl
decided_is point route class (If2 opcode to) is = rw (is) refl
decided_is point route class (IfSame opcode to) is = rw (is) refl
decided_is point route class (IfNull opcode to) is = rw (is) refl
decided_is point route class (Goto to) is = rw (is) refl
decided_is point route class (Table low other to) is = rw (is) refl
decided_is point route class (Lookup other pairs) is = rw (is) refl
decided_is point route class (Return kind) is = rw (is) refl
decided_is point route class (GetStatic index) is = rw (is) refl
decided_is point route class (PutStatic index) is = rw (is) refl
decided_is point route class (GetField index) is = rw (is) refl
decided_is point route class (PutField index) is = rw (is) refl
decided_is point route class (Invoke opcode index count) is = rw (is) refl
decided_is point route class (Dynamic index) is = rw (is) refl
decided_is point route class (New index) is = rw (is) refl
decided_is point route class (NewArray code) is = rw (is) refl
decided_is point route class (NewRefArray index) is = rw (is) refl
decided_is point route class (NewMulti index dimensions) is = rw (is) refl
decided_is point route class Length is = rw (is) refl
decided_is point route class Throw is = rw (is) refl
decided_is point route class (Cast index) is = rw (is) refl
decided_is point route class (InstanceOf index) is = rw (is) refl
decided_is point route class Enter is = rw (is) refl
decided_is point route class Leave is = rw (is) refl

-- ---- templates go on

-- Control goes on to the next point, or to the target of a decided jump.
pub data GoesOn (s : PlanScope) (at : ℕ) (f : Frame) (state : State) (class : ℕ) (instr : Instr) : Type 0 where
  falls_on : falls_through instr ≡ true
      → is_open state (instr_row s at f class instr).next ≡ true
      → GoesOn s at f state class instr
  jumps_to : (to : ℕ)
      → decided f state instr ≡ true
      → slice_get (targets instr) 0 ≡ Some to
      → is_open state (instr_row s at f class instr).jump ≡ true
      → GoesOn s at f state class instr

module _ (s : PlanScope) (at : ℕ) (f : Frame) (state : State) where
  abbrev pub OptionGoesOn : ℕ → Instr → Option (List WInstr) → Type 0
  OptionGoesOn class instr None = Unit {0}
  OptionGoesOn class instr (Some instrs) = GoesOn s at f state class instr

  any_goes : (class : ℕ) (instr : Instr) (found : Option (List WInstr)) → GoesOn s at f state class instr → OptionGoesOn class instr found
  any_goes class instr None goes = tt
  any_goes class instr (Some instrs) goes = goes

  get_open : (field : Option Reference) → is_open state (get_field_row s f field).next ≡ true
  get_open None = refl
  get_open (Some field) = refl

  put_open : (field : Option Reference) → is_open state (put_field_row s f field).next ≡ true
  put_open None = refl
  put_open (Some field) = refl

  new_open : (site : Option ℕ) → is_open state (new_row f site).next ≡ true
  new_open None = refl
  new_open (Some site) = refl

  cast_open : (name : Option Name) → is_open state (cast_row f name).next ≡ true
  cast_open None = refl
  cast_open (Some name) = refl

  shuffle_open : (form : Option Form) → is_open state (shuffle_row f form).next ≡ true
  shuffle_open None = refl
  shuffle_open (Some form) = refl

  call_open : (opcode : ℕ) (method : Option Reference) → is_open state (call_row f opcode method).next ≡ true
  call_open opcode None = refl
  call_open opcode (Some method) = by (is_object_init method) refl where
    by : (init : Bool) → is_object_init method ≡ init → is_open state (call_row f opcode (Some method)).next ≡ true
    by true is = rw (is) refl
    by false is = rw (is) refl

  -- a test for null goes on where its operand is virtual
  null_goes : (route : Route) (class opcode to : ℕ) (slot : Slot) → held state (operand f 0) ≡ slot
      → OptionGoesOn class (IfNull opcode to) (null_template s route slot)
  null_goes route class opcode to Plain is = tt
  null_goes route class opcode to Unusable is = tt
  null_goes route class opcode to (Virt site) is = by (opcode == IFNULL) refl where
    by : (null : Bool) → (opcode == IFNULL) ≡ null → GoesOn s at f state class (IfNull opcode to)
    by true told = falls_on refl (rw (told) refl)
    by false told = jumps_to to (rw (is) refl) refl (rw (told) refl)

  -- how a comparison of two references goes on, by what they are
  jump_open_is : (class opcode to : ℕ) (equal : Bool) → (opcode == IF_ACMPEQ) ≡ equal → (one other : Slot)
      → held state (operand f 1) ≡ one
      → held state (operand f 0) ≡ other
      → is_open state (instr_row s at f class (IfSame opcode to)).jump ≡ (if equal then may_be_same one other else may_differ one other)
  jump_open_is class opcode to true told one other is also =
      rw (told) (ap (λ (x : Slot). may_be_same x (held state (operand f 0))) is ∙ ap (λ (x : Slot). may_be_same one x) also)
  jump_open_is class opcode to false told one other is also =
      rw (told) (ap (λ (x : Slot). may_differ x (held state (operand f 0))) is ∙ ap (λ (x : Slot). may_differ one x) also)

  next_open_is : (class opcode to : ℕ) (equal : Bool) → (opcode == IF_ACMPEQ) ≡ equal → (one other : Slot)
      → held state (operand f 1) ≡ one
      → held state (operand f 0) ≡ other
      → is_open state (instr_row s at f class (IfSame opcode to)).next ≡ (if equal then may_differ one other else may_be_same one other)
  next_open_is class opcode to true told one other is also =
      rw (told) (ap (λ (x : Slot). may_differ x (held state (operand f 0))) is ∙ ap (λ (x : Slot). may_differ one x) also)
  next_open_is class opcode to false told one other is also =
      rw (told) (ap (λ (x : Slot). may_be_same x (held state (operand f 0))) is ∙ ap (λ (x : Slot). may_be_same one x) also)

  folded_is : (opcode to : ℕ) (one other : Slot) → held state (operand f 1) ≡ one → held state (operand f 0) ≡ other
      → is_folded f state (IfSame opcode to) ≡ (is_virtual other || is_virtual one)
  folded_is opcode to one other is also =
      ap (λ (x : Slot). is_virtual x || is_virtual (held state (operand f 1))) also ∙ ap (λ (x : Slot). is_virtual other || is_virtual x) is

  same_goes : (route : Route) (class opcode to : ℕ) (one other : Slot) → held state (operand f 1) ≡ one → held state (operand f 0) ≡ other
      → OptionGoesOn class (IfSame opcode to) (same_template s route one other)
  same_goes route class opcode to Plain Plain is also = tt
  same_goes route class opcode to Plain Unusable is also = tt
  same_goes route class opcode to Unusable Plain is also = tt
  same_goes route class opcode to Unusable Unusable is also = tt
  same_goes route class opcode to (Virt site) Plain is also = by (opcode == IF_ACMPEQ) refl where
    by : (equal : Bool) → (opcode == IF_ACMPEQ) ≡ equal → GoesOn s at f state class (IfSame opcode to)
    by true told = falls_on refl (next_open_is class opcode to true told (Virt site) Plain is also)
    by false told =
        jumps_to to (folded_is opcode to (Virt site) Plain is also) refl (jump_open_is class opcode to false told (Virt site) Plain is also)
  same_goes route class opcode to (Virt site) Unusable is also = by (opcode == IF_ACMPEQ) refl where
    by : (equal : Bool) → (opcode == IF_ACMPEQ) ≡ equal → GoesOn s at f state class (IfSame opcode to)
    by true told = falls_on refl (next_open_is class opcode to true told (Virt site) Unusable is also)
    by false told =
        jumps_to to (folded_is opcode to (Virt site) Unusable is also) refl (jump_open_is class opcode to false told (Virt site) Unusable is also)
  same_goes route class opcode to Plain (Virt site) is also = by (opcode == IF_ACMPEQ) refl where
    by : (equal : Bool) → (opcode == IF_ACMPEQ) ≡ equal → GoesOn s at f state class (IfSame opcode to)
    by true told = falls_on refl (next_open_is class opcode to true told Plain (Virt site) is also)
    by false told =
        jumps_to to (folded_is opcode to Plain (Virt site) is also) refl (jump_open_is class opcode to false told Plain (Virt site) is also)
  same_goes route class opcode to Unusable (Virt site) is also = by (opcode == IF_ACMPEQ) refl where
    by : (equal : Bool) → (opcode == IF_ACMPEQ) ≡ equal → GoesOn s at f state class (IfSame opcode to)
    by true told = falls_on refl (next_open_is class opcode to true told Unusable (Virt site) is also)
    by false told =
        jumps_to to (folded_is opcode to Unusable (Virt site) is also) refl (jump_open_is class opcode to false told Unusable (Virt site) is also)
  same_goes route class opcode to (Virt site) (Virt second) is also = by (opcode == IF_ACMPEQ) refl (site == second) refl where
    by : (equal : Bool) → (opcode == IF_ACMPEQ) ≡ equal → (same : Bool) → (site == second) ≡ same → GoesOn s at f state class (IfSame opcode to)
    by true told true same =
        jumps_to to (folded_is opcode to (Virt site) (Virt second) is also) refl
        (jump_open_is class opcode to true told (Virt site) (Virt second) is also ∙ same)
    by true told false same = falls_on refl (next_open_is class opcode to true told (Virt site) (Virt second) is also ∙ ap not same)
    by false told true same = falls_on refl (next_open_is class opcode to false told (Virt site) (Virt second) is also ∙ same)
    by false told false same =
        jumps_to to (folded_is opcode to (Virt site) (Virt second) is also) refl
        (jump_open_is class opcode to false told (Virt site) (Virt second) is also ∙ ap not same)

  pub template_goes : (route : Route) (class : ℕ) (instr : Instr) → OptionGoesOn class instr (template s at f state route class instr)
  template_goes route class Nop = tt
  template_goes route class (Const imm) = tt
  template_goes route class (Ldc index) = tt
  template_goes route class (Ldc2 index) = tt
  template_goes route class (Load kind local) =
      any_goes class (Load kind local) (template s at f state route class (Load kind local)) (falls_on refl refl)
  template_goes route class (Store kind local) =
      any_goes class (Store kind local) (template s at f state route class (Store kind local)) (falls_on refl refl)
  template_goes route class (Iinc local by) = tt
  template_goes route class (ArrayLoad opcode) = tt
  template_goes route class (ArrayStore opcode) = tt
  template_goes route class (Shuffle opcode) =
      any_goes class (Shuffle opcode) (template s at f state route class (Shuffle opcode))
      (falls_on refl (shuffle_open (form_in (forms_of opcode) f.stack)))
  template_goes route class (Pure opcode) = tt
  template_goes route class (Divide opcode) = tt
  template_goes route class (FloatAsk opcode) = tt
  template_goes route class (If opcode to) = tt
  template_goes route class (If2 opcode to) = tt
  template_goes route class (IfSame opcode to) =
      same_goes route class opcode to (held state (operand f 1)) (held state (operand f 0)) refl refl
  template_goes route class (IfNull opcode to) = null_goes route class opcode to (held state (operand f 0)) refl
  template_goes route class (Goto to) = jumps_to to refl refl refl
  template_goes route class (Table low other to) = tt
  template_goes route class (Lookup other pairs) = tt
  template_goes route class (Return kind) = tt
  template_goes route class (GetStatic index) = tt
  template_goes route class (PutStatic index) = tt
  template_goes route class (GetField index) =
      any_goes class (GetField index) (template s at f state route class (GetField index)) (falls_on refl (get_open (field_of s class index)))
  template_goes route class (PutField index) =
      any_goes class (PutField index) (template s at f state route class (PutField index)) (falls_on refl (put_open (field_of s class index)))
  template_goes route class (Invoke opcode index count) =
      any_goes class (Invoke opcode index count) (template s at f state route class (Invoke opcode index count))
      (falls_on refl (call_open opcode (member_of s class index)))
  template_goes route class (Dynamic index) = tt
  template_goes route class (New index) =
      any_goes class (New index) (template s at f state route class (New index)) (falls_on refl (new_open (site_at s.flat at)))
  template_goes route class (NewArray code) = tt
  template_goes route class (NewRefArray index) = tt
  template_goes route class (NewMulti index dimensions) = tt
  template_goes route class Length = tt
  template_goes route class Throw = tt
  template_goes route class (Cast index) =
      any_goes class (Cast index) (template s at f state route class (Cast index)) (falls_on refl (cast_open (class_at (pool_of s class) index)))
  template_goes route class (InstanceOf index) =
      any_goes class (InstanceOf index) (template s at f state route class (InstanceOf index)) (falls_on refl refl)
  template_goes route class Enter =
      any_goes class Enter (template s at f state route class Enter) (falls_on refl refl)
  template_goes route class Leave =
      any_goes class Leave (template s at f state route class Leave) (falls_on refl refl)

  -- ---- jumps that are written as they are

  -- control may take each, and none is decided
  pub record IsUndecided (class : ℕ) (instr : Instr) : Type 0 where
    pub opens : is_open state (instr_row s at f class instr).jump ≡ true
    pub undecided : decided f state instr ≡ false

  null_undecided : (route : Route) (class opcode to : ℕ) (slot : Slot) → held state (operand f 0) ≡ slot
      → null_template s route slot ≡ None
      → IsUndecided class (IfNull opcode to)
  null_undecided route class opcode to (Virt site) is none = absurd (none-some _ (sym none))
  null_undecided route class opcode to Plain is none = by (opcode == IFNULL) refl where
    by : (null : Bool) → (opcode == IFNULL) ≡ null → IsUndecided class (IfNull opcode to)
    by true told = record { opens = rw (told, is) refl; undecided = rw (is) refl }
    by false told = record { opens = rw (told) refl; undecided = rw (is) refl }
  null_undecided route class opcode to Unusable is none = by (opcode == IFNULL) refl where
    by : (null : Bool) → (opcode == IFNULL) ≡ null → IsUndecided class (IfNull opcode to)
    by true told = record { opens = rw (told, is) refl; undecided = rw (is) refl }
    by false told = record { opens = rw (told) refl; undecided = rw (is) refl }

  same_undecided : (route : Route) (class opcode to : ℕ) (one other : Slot) → held state (operand f 1) ≡ one → held state (operand f 0) ≡ other
      → same_template s route one other ≡ None
      → IsUndecided class (IfSame opcode to)
  same_undecided route class opcode to (Virt site) other is also none = absurd (none-some _ (sym none))
  same_undecided route class opcode to Plain (Virt site) is also none = absurd (none-some _ (sym none))
  same_undecided route class opcode to Unusable (Virt site) is also none = absurd (none-some _ (sym none))
  same_undecided route class opcode to Plain Plain is also none = by (opcode == IF_ACMPEQ) refl where
    by : (equal : Bool) → (opcode == IF_ACMPEQ) ≡ equal → IsUndecided class (IfSame opcode to)
    by true told = record {
      opens = jump_open_is class opcode to true told Plain Plain is also;
      undecided = folded_is opcode to Plain Plain is also;
    }
    by false told = record {
      opens = jump_open_is class opcode to false told Plain Plain is also;
      undecided = folded_is opcode to Plain Plain is also;
    }
  same_undecided route class opcode to Plain Unusable is also none = by (opcode == IF_ACMPEQ) refl where
    by : (equal : Bool) → (opcode == IF_ACMPEQ) ≡ equal → IsUndecided class (IfSame opcode to)
    by true told = record {
      opens = jump_open_is class opcode to true told Plain Unusable is also;
      undecided = folded_is opcode to Plain Unusable is also;
    }
    by false told = record {
      opens = jump_open_is class opcode to false told Plain Unusable is also;
      undecided = folded_is opcode to Plain Unusable is also;
    }
  same_undecided route class opcode to Unusable Plain is also none = by (opcode == IF_ACMPEQ) refl where
    by : (equal : Bool) → (opcode == IF_ACMPEQ) ≡ equal → IsUndecided class (IfSame opcode to)
    by true told = record {
      opens = jump_open_is class opcode to true told Unusable Plain is also;
      undecided = folded_is opcode to Unusable Plain is also;
    }
    by false told = record {
      opens = jump_open_is class opcode to false told Unusable Plain is also;
      undecided = folded_is opcode to Unusable Plain is also;
    }
  same_undecided route class opcode to Unusable Unusable is also none = by (opcode == IF_ACMPEQ) refl where
    by : (equal : Bool) → (opcode == IF_ACMPEQ) ≡ equal → IsUndecided class (IfSame opcode to)
    by true told = record {
      opens = jump_open_is class opcode to true told Unusable Unusable is also;
      undecided = folded_is opcode to Unusable Unusable is also;
    }
    by false told = record {
      opens = jump_open_is class opcode to false told Unusable Unusable is also;
      undecided = folded_is opcode to Unusable Unusable is also;
    }

  pub carried_jumps : (route : Route) (class : ℕ) (instr : Instr) (number to : ℕ)
      → template s at f state route class instr ≡ None
      → slice_get (targets instr) number ≡ Some to
      → IsUndecided class instr
  carried_jumps route class Nop number to none is = absurd (none-some to is)
  carried_jumps route class (Const imm) number to none is = absurd (none-some to is)
  carried_jumps route class (Ldc index) number to none is = absurd (none-some to is)
  carried_jumps route class (Ldc2 index) number to none is = absurd (none-some to is)
  carried_jumps route class (Load kind local) number to none is = absurd (none-some to is)
  carried_jumps route class (Store kind local) number to none is = absurd (none-some to is)
  carried_jumps route class (Iinc local by) number to none is = absurd (none-some to is)
  carried_jumps route class (ArrayLoad opcode) number to none is = absurd (none-some to is)
  carried_jumps route class (ArrayStore opcode) number to none is = absurd (none-some to is)
  carried_jumps route class (Shuffle opcode) number to none is = absurd (none-some to is)
  carried_jumps route class (Pure opcode) number to none is = absurd (none-some to is)
  carried_jumps route class (Divide opcode) number to none is = absurd (none-some to is)
  carried_jumps route class (FloatAsk opcode) number to none is = absurd (none-some to is)
  carried_jumps route class (If opcode target) number to none is = record { opens = refl; undecided = refl }
  carried_jumps route class (If2 opcode target) number to none is = record { opens = refl; undecided = refl }
  carried_jumps route class (IfSame opcode target) number to none is =
      same_undecided route class opcode target (held state (operand f 1)) (held state (operand f 0)) refl refl none
  carried_jumps route class (IfNull opcode target) number to none is = null_undecided route class opcode target (held state (operand f 0)) refl none
  carried_jumps route class (Goto target) number to none is = absurd (none-some _ (sym none))
  carried_jumps route class (Table low other others) number to none is = record { opens = refl; undecided = refl }
  carried_jumps route class (Lookup other pairs) number to none is = record { opens = refl; undecided = refl }
  carried_jumps route class (Return kind) number to none is = absurd (none-some to is)
  carried_jumps route class (GetStatic index) number to none is = absurd (none-some to is)
  carried_jumps route class (PutStatic index) number to none is = absurd (none-some to is)
  carried_jumps route class (GetField index) number to none is = absurd (none-some to is)
  carried_jumps route class (PutField index) number to none is = absurd (none-some to is)
  carried_jumps route class (Invoke opcode index count) number to none is = absurd (none-some to is)
  carried_jumps route class (Dynamic index) number to none is = absurd (none-some to is)
  carried_jumps route class (New index) number to none is = absurd (none-some to is)
  carried_jumps route class (NewArray code) number to none is = absurd (none-some to is)
  carried_jumps route class (NewRefArray index) number to none is = absurd (none-some to is)
  carried_jumps route class (NewMulti index dimensions) number to none is = absurd (none-some to is)
  carried_jumps route class Length number to none is = absurd (none-some to is)
  carried_jumps route class Throw number to none is = absurd (none-some to is)
  carried_jumps route class (Cast index) number to none is = absurd (none-some to is)
  carried_jumps route class (InstanceOf index) number to none is = absurd (none-some to is)
  carried_jumps route class Enter number to none is = absurd (none-some to is)
  carried_jumps route class Leave number to none is = absurd (none-some to is)
