-- A new object comes to lie on top of the stack alone.
use Rattle.std.proofs.Common.{◌≡◌, ◌+◌, ◌-◌, ◌==◌, ℕ, zero, suc, Bool, true, false, List, [], ◌∷◌, ◌++◌, length, Option, Some, None, refl}
use Rattle.class_model.specs.Descriptors.{parameters_of}
use Rattle.class_model.specs.Pool.{Constants, constant_at}
use Rattle.class_model.specs.PoolChecks.{class_at, descriptor_at}
use Rattle.class_model.specs.declared.descriptor.FieldType.{FieldType}
use Rattle.class_model.specs.declared.descriptor.Kind.{Kind}
use Rattle.class_model.specs.declared.frame.Frame.{Frame}
use Rattle.class_model.specs.declared.instr.Instr.TheVariants.{ArrayLoad, ArrayStore, Cast, Const, Divide, Dynamic, Enter, FloatAsk, GetField, GetStatic, Goto, If, If2, IfNull, IfSame, Iinc, InstanceOf, Invoke, Ldc, Ldc2, Leave, Length, Load, Lookup, New, NewArray, NewMulti, NewRefArray, Nop, Pure, PutField, PutStatic, Return, Shuffle, Store, Table, Throw}
use Rattle.class_model.specs.declared.opcodes.TheConstants.{IF_ACMPEQ, IFNULL}
use Rattle.class_model.specs.declared.pool.Const.{Const as PoolConst}
use Rattle.class_model.specs.declared.pool.Const.TheVariants as consts
use Rattle.class_tree.specs.Headers.{Name}
use Rattle.flow_code.specs.declared.point.FlatInstr.{FlatInstr}
use Rattle.flow_code.specs.declared.point.FlatInstr.TheVariants.{Of, NullTest}
use Rattle.member_link.specs.Machine.CallSteps.{is_object_init}
use Rattle.member_link.specs.References.{Reference}
use Rattle.member_link.specs.Rows.ArithmeticRows.{divide_operations, float_operations, operation_in, pure_operations}
use Rattle.member_link.specs.Rows.ShuffleRows.{Form, form_in, forms_of}
use Rattle.member_link.specs.Signatures.{result_of}
use Rattle.plan_flow.specs.PlanRows.{Source, from_field, from_new, from_place, plain_value}
use Rattle.plan_flow.specs.PlanScope.{PlanScope, field_of, member_of, pool_of, site_at}
use Rattle.plan_flow.specs.PlanTable.{call_row, cast_row, dynamic_row, get_field_row, held_from, new_row, null_row, operand, operands_of, picked_operands, put_field_row, receivers, result_given, return_row, row_at, same_row, shuffle_row}

abbrev pub IsOld : Source → Type 0
IsOld from_new = ⊥
IsOld other = Unit {0}

-- none but the last is new
abbrev pub NewIsLast : List Source → Type 0
NewIsLast [] = Unit {0}
NewIsLast (source ∷ []) = Unit {0}
NewIsLast (source ∷ other ∷ others) = IsOld source × NewIsLast (other ∷ others)

behind_held : (first count : ℕ) (gives : List Source) → NewIsLast gives → NewIsLast (held_from first count ++ gives)
behind_held first zero gives last = last
behind_held first (suc count) gives last = by (held_from (first + 1) count ++ gives) (behind_held (first + 1) count gives last) where
  by : (rest : List Source) → NewIsLast rest → NewIsLast (from_place first ∷ rest)
  by [] below = tt
  by (other ∷ others) below = (tt, below)

picked_old : (f : Frame) (takes : ℕ) (numbers : List ℕ) → NewIsLast (picked_operands f takes numbers)
picked_old f takes [] = tt
picked_old f takes (number ∷ []) = tt
picked_old f takes (number ∷ other ∷ numbers) = (tt, picked_old f takes (other ∷ numbers))

result_old : (result : Option FieldType) → NewIsLast (result_given result)
result_old None = tt
result_old (Some type) = tt

call_old : (f : Frame) (opcode : ℕ) (found : Option Reference) → NewIsLast (call_row f opcode found).stack
call_old f opcode None = behind_held (length f.locals) (length f.stack - 0) [] tt
call_old f opcode (Some method) = by (is_object_init method) refl where
  by : (b : Bool) → is_object_init method ≡ b → NewIsLast (call_row f opcode (Some method)).stack
  by true is = rw (is) (behind_held (length f.locals) (length f.stack - 1) [] tt)
  by false is = rw (is) (behind_held (length f.locals) (length f.stack - (length (parameters_of method.desc) + receivers opcode))
      (result_given (result_of method.desc)) (result_old (result_of method.desc)))

dynamic_old : (pool : Constants) (f : Frame) (found : Option PoolConst) → NewIsLast (dynamic_row pool f found).stack
dynamic_old pool f (Some (consts.InvokeDynamic bootstrap member)) = by (descriptor_at pool member) refl where
  by : (found : Option (List ℕ)) → descriptor_at pool member ≡ found
      → NewIsLast (dynamic_row pool f (Some (consts.InvokeDynamic bootstrap member))).stack
  by None is = rw (is) (behind_held (length f.locals) (length f.stack - 0) [] tt)
  by (Some desc) is = rw (is) (behind_held (length f.locals) (length f.stack - length (parameters_of desc)) (result_given (result_of desc))
      (result_old (result_of desc)))
dynamic_old pool f found = behind_held (length f.locals) (length f.stack - 0) [] tt

shuffle_old : (f : Frame) (found : Option Form) → NewIsLast (shuffle_row f found).stack
shuffle_old f None = behind_held (length f.locals) (length f.stack - 0) [] tt
shuffle_old f (Some form) =
    behind_held (length f.locals) (length f.stack - length form.takes) (picked_operands f (length form.takes) form.gives)
    (picked_old f (length form.takes) form.gives)

get_old : (s : PlanScope) (f : Frame) (found : Option Reference) → NewIsLast (get_field_row s f found).stack
get_old s f None = behind_held (length f.locals) (length f.stack - 1) (plain_value ∷ []) tt
get_old s f (Some field) = behind_held (length f.locals) (length f.stack - 1) (from_field (operand f 0) field ∷ []) tt

put_old : (s : PlanScope) (f : Frame) (found : Option Reference) → NewIsLast (put_field_row s f found).stack
put_old s f None = behind_held (length f.locals) (length f.stack - 2) [] tt
put_old s f (Some field) = behind_held (length f.locals) (length f.stack - 2) [] tt

new_old : (f : Frame) (found : Option ℕ) → NewIsLast (new_row f found).stack
new_old f None = behind_held (length f.locals) (length f.stack - 0) (plain_value ∷ []) tt
new_old f (Some site) = behind_held (length f.locals) (length f.stack - 0) (from_new ∷ []) tt

cast_old : (f : Frame) (found : Option Name) → NewIsLast (cast_row f found).stack
cast_old f None = behind_held (length f.locals) (length f.stack - 1) (plain_value ∷ []) tt
cast_old f (Some name) = behind_held (length f.locals) (length f.stack - 1) (from_place (operand f 0) ∷ []) tt

null_old : (f : Frame) (opcode : ℕ) → NewIsLast (null_row f opcode).stack
null_old f opcode = by (opcode == IFNULL) refl where
  by : (b : Bool) → (opcode == IFNULL) ≡ b → NewIsLast (null_row f opcode).stack
  by true is = rw (is) (behind_held (length f.locals) (length f.stack - 1) [] tt)
  by false is = rw (is) (behind_held (length f.locals) (length f.stack - 1) [] tt)

same_old : (f : Frame) (opcode : ℕ) → NewIsLast (same_row f opcode).stack
same_old f opcode = by (opcode == IF_ACMPEQ) refl where
  by : (b : Bool) → (opcode == IF_ACMPEQ) ≡ b → NewIsLast (same_row f opcode).stack
  by true is = rw (is) (behind_held (length f.locals) (length f.stack - 2) [] tt)
  by false is = rw (is) (behind_held (length f.locals) (length f.stack - 2) [] tt)

return_old : (f : Frame) (found : Option Kind) → NewIsLast (return_row f found).stack
return_old f None = behind_held (length f.locals) (length f.stack - 0) [] tt
return_old f (Some kind) = behind_held (length f.locals) (length f.stack - 1) [] tt

-- in each row
pub new_is_last : (s : PlanScope) (at : ℕ) (f : Frame) (i : FlatInstr) → NewIsLast (row_at s at f i).stack
new_is_last s at f (NullTest local) = behind_held (length f.locals) (length f.stack - 0) [] tt
new_is_last s at f (Of class (IfSame opcode to)) = same_old f opcode
new_is_last s at f (Of class (IfNull opcode to)) = null_old f opcode
new_is_last s at f (Of class (Return kind)) = return_old f kind
new_is_last s at f (Of class (GetField index)) = get_old s f (field_of s class index)
new_is_last s at f (Of class (PutField index)) = put_old s f (field_of s class index)
new_is_last s at f (Of class (Invoke opcode index count)) = call_old f opcode (member_of s class index)
new_is_last s at f (Of class (Dynamic index)) = dynamic_old (pool_of s class) f (constant_at (pool_of s class) index)
new_is_last s at f (Of class (New index)) = new_old f (site_at s.flat at)
new_is_last s at f (Of class (Cast index)) = cast_old f (class_at (pool_of s class) index)
new_is_last s at f (Of class (Shuffle opcode)) = shuffle_old f (form_in (forms_of opcode) f.stack)
new_is_last s at f (Of class Nop) = behind_held (length f.locals) (length f.stack - 0) [] tt
new_is_last s at f (Of class (Const imm)) = behind_held (length f.locals) (length f.stack - 0) (plain_value ∷ []) tt
new_is_last s at f (Of class (Ldc index)) = behind_held (length f.locals) (length f.stack - 0) (plain_value ∷ []) tt
new_is_last s at f (Of class (Ldc2 index)) = behind_held (length f.locals) (length f.stack - 0) (plain_value ∷ []) tt
new_is_last s at f (Of class (Load kind local)) = behind_held (length f.locals) (length f.stack - 0) (from_place local ∷ []) tt
new_is_last s at f (Of class (Store kind local)) = behind_held (length f.locals) (length f.stack - 1) [] tt
new_is_last s at f (Of class (Iinc local by)) = behind_held (length f.locals) (length f.stack - 0) [] tt
new_is_last s at f (Of class (ArrayLoad opcode)) = behind_held (length f.locals) (length f.stack - 2) (plain_value ∷ []) tt
new_is_last s at f (Of class (ArrayStore opcode)) = behind_held (length f.locals) (length f.stack - 3) [] tt
new_is_last s at f (Of class (Pure opcode)) = behind_held (length f.locals) (length f.stack - (operands_of (operation_in pure_operations opcode))) (plain_value ∷ []) tt
new_is_last s at f (Of class (Divide opcode)) = behind_held (length f.locals) (length f.stack - (operands_of (operation_in divide_operations opcode))) (plain_value ∷ []) tt
new_is_last s at f (Of class (FloatAsk opcode)) = behind_held (length f.locals) (length f.stack - (operands_of (operation_in float_operations opcode))) (plain_value ∷ []) tt
new_is_last s at f (Of class (If opcode to)) = behind_held (length f.locals) (length f.stack - 1) [] tt
new_is_last s at f (Of class (If2 opcode to)) = behind_held (length f.locals) (length f.stack - 2) [] tt
new_is_last s at f (Of class (Goto to)) = behind_held (length f.locals) (length f.stack - 0) [] tt
new_is_last s at f (Of class (Table low default targets)) = behind_held (length f.locals) (length f.stack - 1) [] tt
new_is_last s at f (Of class (Lookup default pairs)) = behind_held (length f.locals) (length f.stack - 1) [] tt
new_is_last s at f (Of class (GetStatic index)) = behind_held (length f.locals) (length f.stack - 0) (plain_value ∷ []) tt
new_is_last s at f (Of class (PutStatic index)) = behind_held (length f.locals) (length f.stack - 1) [] tt
new_is_last s at f (Of class (NewArray code)) = behind_held (length f.locals) (length f.stack - 1) (plain_value ∷ []) tt
new_is_last s at f (Of class (NewRefArray index)) = behind_held (length f.locals) (length f.stack - 1) (plain_value ∷ []) tt
new_is_last s at f (Of class (NewMulti index dimensions)) = behind_held (length f.locals) (length f.stack - dimensions) (plain_value ∷ []) tt
new_is_last s at f (Of class Length) = behind_held (length f.locals) (length f.stack - 1) (plain_value ∷ []) tt
new_is_last s at f (Of class Throw) = behind_held (length f.locals) (length f.stack - 1) [] tt
new_is_last s at f (Of class (InstanceOf index)) = behind_held (length f.locals) (length f.stack - 1) (plain_value ∷ []) tt
new_is_last s at f (Of class Enter) = behind_held (length f.locals) (length f.stack - 1) [] tt
new_is_last s at f (Of class Leave) = behind_held (length f.locals) (length f.stack - 1) [] tt
