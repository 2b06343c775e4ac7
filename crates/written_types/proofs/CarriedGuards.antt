-- The rows of instructions that are written as they are: no virtual object decides them, so that control may go on and jump.
use Rattle.std.proofs.Common.{◌≡◌, ℕ, Bool, true, false, List, slice_get, Option, Some, None, refl, sym, ap, ◌∙◌}
use Rattle.std.specs.Prelude.{◌==◌, ◌||◌}
use Rattle.std.proofs.lemmas.Option.{none-some}
use Rattle.class_model.specs.Instructions.{targets}
use Rattle.class_model.specs.Pool.{Constants, constant_at}
use Rattle.class_model.specs.PoolChecks.{class_at, descriptor_at}
use Rattle.class_model.specs.declared.frame.Frame.{Frame}
use Rattle.class_model.specs.declared.instr.Instr.{Instr}
use Rattle.class_model.specs.declared.instr.Instr.TheVariants.{Nop, Const, Ldc, Ldc2, Load, Store, Iinc, ArrayLoad, ArrayStore, Shuffle, Pure, Divide, FloatAsk, If, If2, IfSame, IfNull, Goto, Table, Lookup, Return, GetStatic, PutStatic, GetField, PutField, Invoke, Dynamic, New, NewArray, NewRefArray, NewMulti, Length, Throw, Cast, InstanceOf, Enter, Leave}
use Rattle.class_model.specs.declared.opcodes.TheConstants.{IFNULL, IF_ACMPEQ}
use Rattle.class_model.specs.declared.pool.Const.{Const as Constant}
use Rattle.class_model.specs.declared.pool.Const.TheVariants as consts
use Rattle.class_tree.specs.Headers.{Name}
use Rattle.flow_code.specs.declared.point.FlatInstr.TheVariants.{Of}
use Rattle.member_link.specs.Machine.CallSteps.{is_object_init}
use Rattle.member_link.specs.References.{Reference}
use Rattle.plan_flow.specs.PlanScope.{PlanScope, field_of, member_of, pool_of, site_at}
use Rattle.plan_flow.specs.PlanSlots.{held, is_open}
use Rattle.plan_flow.specs.PlanTable.{call_row, cast_row, dynamic_row, get_field_row, new_row, null_row, operand, put_field_row, row_at, same_row}
use Rattle.plan_flow.specs.Written.Routes.{Route}
use Rattle.plan_flow.specs.Written.Templates.{is_folded, is_virtual, template}
use Rattle.virtual_state.specs.States.{State}
use Rattle.virtual_state.specs.declared.slot.Slot.{Slot}
use Rattle.virtual_state.specs.declared.slot.Slot.TheVariants.{Plain}
use Rattle.written_types.proofs.KeptTable.{null_none, same_first, same_second}
use Rattle.written_types.proofs.StandingFrames.{held_plain}

-- ---- rows that are open

call_open : (before : State) (f : Frame) (opcode : ℕ) (found : Option Reference) → is_open before (call_row f opcode found).next ≡ true
call_open before f opcode None = refl
call_open before f opcode (Some r) = by (is_object_init r) refl where
  by : (b : Bool) → is_object_init r ≡ b → is_open before (call_row f opcode (Some r)).next ≡ true
  by true is = rw is refl
  by false is = rw is refl

dynamic_open : (before : State) (pool : Constants) (f : Frame) (found : Option Constant) → is_open before (dynamic_row pool f found).next ≡ true
dynamic_open before pool f (Some (consts.InvokeDynamic bootstrap member)) = by (descriptor_at pool member) refl where
  by : (d : Option (List ℕ)) → descriptor_at pool member ≡ d
      → is_open before (dynamic_row pool f (Some (consts.InvokeDynamic bootstrap member))).next ≡ true
  by None is = rw is refl
  by (Some desc) is = rw is refl
dynamic_open before pool f None = refl
dynamic_open before pool f (Some other) = refl

get_open : (s : PlanScope) (before : State) (f : Frame) (found : Option Reference) → is_open before (get_field_row s f found).next ≡ true
get_open s before f None = refl
get_open s before f (Some field) = refl

put_open : (s : PlanScope) (before : State) (f : Frame) (found : Option Reference) → is_open before (put_field_row s f found).next ≡ true
put_open s before f None = refl
put_open s before f (Some field) = refl

new_open : (before : State) (f : Frame) (site : Option ℕ) → is_open before (new_row f site).next ≡ true
new_open before f None = refl
new_open before f (Some site) = refl

cast_open : (before : State) (f : Frame) (name : Option Name) → is_open before (cast_row f name).next ≡ true
cast_open before f None = refl
cast_open before f (Some name) = refl

module _ (s : PlanScope) (at : ℕ) (f : Frame) (before : State) (route : Route) (class : ℕ) where
  abbrev HasNone : Instr → Type 0
  HasNone instr = template s at f before route class instr ≡ None

  -- the operands of a comparison are plain
  null_plain : (opcode to : ℕ) → HasNone (IfNull opcode to) → held before (operand f 0) ≡ Plain
  null_plain opcode to none = held_plain before (operand f 0) (null_none s route (held before (operand f 0)) none)

  first_plain : (opcode to : ℕ) → HasNone (IfSame opcode to) → held before (operand f 1) ≡ Plain
  first_plain opcode to none = held_plain before (operand f 1) (same_first s route (held before (operand f 1)) (held before (operand f 0)) none)

  second_plain : (opcode to : ℕ) → HasNone (IfSame opcode to) → held before (operand f 0) ≡ Plain
  second_plain opcode to none = held_plain before (operand f 0) (same_second s route (held before (operand f 1)) (held before (operand f 0)) none)

  null_opens : (opcode to : ℕ) → HasNone (IfNull opcode to)
      → (is_open before (null_row f opcode).next ≡ true) × (is_open before (null_row f opcode).jump ≡ true)
  null_opens opcode to none = by (opcode == IFNULL) refl where
    plain : held before (operand f 0) ≡ Plain
    plain = null_plain opcode to none

    by : (b : Bool) → (opcode == IFNULL) ≡ b
        → (is_open before (null_row f opcode).next ≡ true) × (is_open before (null_row f opcode).jump ≡ true)
    by true is = rw (is, plain) (refl, refl)
    by false is = rw (is, plain) (refl, refl)

  same_opens : (opcode to : ℕ) → HasNone (IfSame opcode to)
      → (is_open before (same_row f opcode).next ≡ true) × (is_open before (same_row f opcode).jump ≡ true)
  same_opens opcode to none = by (opcode == IF_ACMPEQ) refl where
    first : held before (operand f 1) ≡ Plain
    first = first_plain opcode to none

    second : held before (operand f 0) ≡ Plain
    second = second_plain opcode to none

    by : (b : Bool) → (opcode == IF_ACMPEQ) ≡ b
        → (is_open before (same_row f opcode).next ≡ true) × (is_open before (same_row f opcode).jump ≡ true)
    by true is = rw (is, first, second) (refl, refl)
    by false is = rw (is, first, second) (refl, refl)

  -- control may go on
  pub opens_next : (instr : Instr) → HasNone instr → is_open before (row_at s at f (Of class instr)).next ≡ true
  opens_next Nop none = refl
  opens_next (Const imm) none = refl
  opens_next (Ldc index) none = refl
  opens_next (Ldc2 index) none = refl
  opens_next (Load kind local) none = refl
  opens_next (Store kind local) none = refl
  opens_next (Iinc local by) none = refl
  opens_next (ArrayLoad opcode) none = refl
  opens_next (ArrayStore opcode) none = refl
  opens_next (Shuffle opcode) none = absurd (none-some _ (sym none))
  opens_next (Pure opcode) none = refl
  opens_next (Divide opcode) none = refl
  opens_next (FloatAsk opcode) none = refl
  opens_next (If opcode to) none = refl
  opens_next (If2 opcode to) none = refl
  opens_next (IfSame opcode to) none = (same_opens opcode to none).0
  opens_next (IfNull opcode to) none = (null_opens opcode to none).0
  opens_next (Goto to) none = absurd (none-some _ (sym none))
  opens_next (Table low other to) none = refl
  opens_next (Lookup other pairs) none = refl
  opens_next (Return None) none = refl
  opens_next (Return (Some kind)) none = refl
  opens_next (GetStatic index) none = refl
  opens_next (PutStatic index) none = refl
  opens_next (GetField index) none = get_open s before f (field_of s class index)
  opens_next (PutField index) none = put_open s before f (field_of s class index)
  opens_next (Invoke opcode index count) none = call_open before f opcode (member_of s class index)
  opens_next (Dynamic index) none = dynamic_open before (pool_of s class) f (constant_at (pool_of s class) index)
  opens_next (New index) none = new_open before f (site_at s.flat at)
  opens_next (NewArray code) none = refl
  opens_next (NewRefArray index) none = refl
  opens_next (NewMulti index dimensions) none = refl
  opens_next Length none = refl
  opens_next Throw none = refl
  opens_next (Cast index) none = cast_open before f (class_at (pool_of s class) index)
  opens_next (InstanceOf index) none = refl
  opens_next Enter none = refl
  opens_next Leave none = refl

  -- and jump
  pub opens_jump : (instr : Instr) → HasNone instr → (number to : ℕ) → slice_get (targets instr) number ≡ Some to
      → is_open before (row_at s at f (Of class instr)).jump ≡ true
  opens_jump Nop none number to is = absurd (none-some to is)
  opens_jump (Const imm) none number to is = absurd (none-some to is)
  opens_jump (Ldc index) none number to is = absurd (none-some to is)
  opens_jump (Ldc2 index) none number to is = absurd (none-some to is)
  opens_jump (Load kind local) none number to is = absurd (none-some to is)
  opens_jump (Store kind local) none number to is = absurd (none-some to is)
  opens_jump (Iinc local by) none number to is = absurd (none-some to is)
  opens_jump (ArrayLoad opcode) none number to is = absurd (none-some to is)
  opens_jump (ArrayStore opcode) none number to is = absurd (none-some to is)
  opens_jump (Shuffle opcode) none number to is = absurd (none-some to is)
  opens_jump (Pure opcode) none number to is = absurd (none-some to is)
  opens_jump (Divide opcode) none number to is = absurd (none-some to is)
  opens_jump (FloatAsk opcode) none number to is = absurd (none-some to is)
  opens_jump (If opcode target) none number to is = refl
  opens_jump (If2 opcode target) none number to is = refl
  opens_jump (IfSame opcode target) none number to is = (same_opens opcode target none).1
  opens_jump (IfNull opcode target) none number to is = (null_opens opcode target none).1
  opens_jump (Goto target) none number to is = absurd (none-some _ (sym none))
  opens_jump (Table low other others) none number to is = refl
  opens_jump (Lookup other pairs) none number to is = refl
  opens_jump (Return kind) none number to is = absurd (none-some to is)
  opens_jump (GetStatic index) none number to is = absurd (none-some to is)
  opens_jump (PutStatic index) none number to is = absurd (none-some to is)
  opens_jump (GetField index) none number to is = absurd (none-some to is)
  opens_jump (PutField index) none number to is = absurd (none-some to is)
  opens_jump (Invoke opcode index count) none number to is = absurd (none-some to is)
  opens_jump (Dynamic index) none number to is = absurd (none-some to is)
  opens_jump (New index) none number to is = absurd (none-some to is)
  opens_jump (NewArray code) none number to is = absurd (none-some to is)
  opens_jump (NewRefArray index) none number to is = absurd (none-some to is)
  opens_jump (NewMulti index dimensions) none number to is = absurd (none-some to is)
  opens_jump Length none number to is = absurd (none-some to is)
  opens_jump Throw none number to is = absurd (none-some to is)
  opens_jump (Cast index) none number to is = absurd (none-some to is)
  opens_jump (InstanceOf index) none number to is = absurd (none-some to is)
  opens_jump Enter none number to is = absurd (none-some to is)
  opens_jump Leave none number to is = absurd (none-some to is)

  -- it is not decided
  pub folds_nothing : (instr : Instr) → HasNone instr → is_folded f before instr ≡ false
  folds_nothing Nop none = refl
  folds_nothing (Const imm) none = refl
  folds_nothing (Ldc index) none = refl
  folds_nothing (Ldc2 index) none = refl
  folds_nothing (Load kind local) none = refl
  folds_nothing (Store kind local) none = refl
  folds_nothing (Iinc local by) none = refl
  folds_nothing (ArrayLoad opcode) none = refl
  folds_nothing (ArrayStore opcode) none = refl
  folds_nothing (Shuffle opcode) none = refl
  folds_nothing (Pure opcode) none = refl
  folds_nothing (Divide opcode) none = refl
  folds_nothing (FloatAsk opcode) none = refl
  folds_nothing (If opcode to) none = refl
  folds_nothing (If2 opcode to) none = refl
  folds_nothing (IfSame opcode to) none =
      ap (λ (slot : Slot). is_virtual slot || is_virtual (held before (operand f 1))) (second_plain opcode to none)
      ∙ ap is_virtual (first_plain opcode to none)
  folds_nothing (IfNull opcode to) none = ap is_virtual (null_plain opcode to none)
  folds_nothing (Goto to) none = refl
  folds_nothing (Table low other to) none = refl
  folds_nothing (Lookup other pairs) none = refl
  folds_nothing (Return kind) none = refl
  folds_nothing (GetStatic index) none = refl
  folds_nothing (PutStatic index) none = refl
  folds_nothing (GetField index) none = refl
  folds_nothing (PutField index) none = refl
  folds_nothing (Invoke opcode index count) none = refl
  folds_nothing (Dynamic index) none = refl
  folds_nothing (New index) none = refl
  folds_nothing (NewArray code) none = refl
  folds_nothing (NewRefArray index) none = refl
  folds_nothing (NewMulti index dimensions) none = refl
  folds_nothing Length none = refl
  folds_nothing Throw none = refl
  folds_nothing (Cast index) none = refl
  folds_nothing (InstanceOf index) none = refl
  folds_nothing Enter none = refl
  folds_nothing Leave none = refl
