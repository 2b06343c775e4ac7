-- Rows that leave the locals as they are.
use Rattle.std.proofs.Common.{◌≡◌, ℕ, Bool, true, false, List, Option, Some, None, refl, arith}
use Rattle.std.specs.Prelude.{◌==◌, ◌&&◌, not, bytes_eq, nat_le, IsTrue}
use Rattle.class_model.specs.declared.descriptor.Kind.{Kind}
use Rattle.class_model.specs.declared.frame.Frame.{Frame}
use Rattle.class_model.specs.declared.instr.Instr.{Instr}
use Rattle.class_model.specs.declared.instr.Instr.TheVariants.{Nop, Const, Ldc, Ldc2, Load, Store, Iinc, ArrayLoad, ArrayStore, Shuffle, Pure, Divide, FloatAsk, If, If2, IfSame, IfNull, Goto, Table, Lookup, Return, GetStatic, PutStatic, GetField, PutField, Invoke, Dynamic, New, NewArray, NewRefArray, NewMulti, Length, Throw, Cast, InstanceOf, Enter, Leave}
use Rattle.class_model.specs.declared.opcodes.TheConstants.{AALOAD, AASTORE, IALOAD, IASTORE, IFEQ, IFLE, IF_ICMPEQ, IF_ICMPLE, IF_ACMPEQ, IF_ACMPNE, IFNULL, IFNONNULL, INVOKESPECIAL, INVOKESTATIC}
use Rattle.class_model.specs.declared.pool.Const.{Const as Constant}
use Rattle.class_model.specs.Names.{init}
use Rattle.class_model.specs.Pool.{constant_at}
use Rattle.class_model.specs.PoolChecks.{class_at}
use Rattle.class_tree.specs.Headers.{Name}
use Rattle.member_link.specs.RowScope.{RowScope}
use Rattle.member_link.specs.References.{Reference}
use Rattle.member_link.specs.Rows.ArithmeticRows.{Operation, divide_operations, float_operations, operation_in, operation_row, pure_operations}
use Rattle.member_link.specs.Rows.ArrayRows.{Elements, array_of, elements_from, elements_load_row, elements_store_row, made_row, primitive_array}
use Rattle.member_link.specs.Rows.LocalRows.{const_row}
use Rattle.member_link.specs.Rows.MemberRows.{PassesMethod, call_row, dynamic_row, get_field_row, get_static_row, init_row, instance_row, put_field_row, put_static_row, receiver, return_row, special_row, static_row}
use Rattle.member_link.specs.Rows.Operands.{Need}
use Rattle.member_link.specs.Rows.Row.{Row, either}
use Rattle.member_link.specs.Rows.ShuffleRows.{Form, form_in, form_row, forms_of}
use Rattle.member_link.specs.Rows.Table.{cast_row, jump_row, row_of}
use Rattle.member_link.specs.Signatures.{reference_of}
use Rattle.type_rules.specs.Inner.Keeping.{is_known_to_leave}

module _ (f : Frame) where
  -- the locals behind a row are those before it
  abbrev Left : Row → Type 0
  Left row = row.locals ≡ f.locals

  both_leave : (test : Bool) (row other : Row) → Left row → Left other → Left (either test row other)
  both_leave true row other one two = one
  both_leave false row other one two = two

  const_leaves : (constant : Option Constant) → Left (const_row f constant)
  const_leaves constant = grind (arith)

  operation_leaves : (o : Option Operation) → Left (operation_row f o)
  operation_leaves None = refl
  operation_leaves (Some o) = refl

  form_leaves : (form : Option Form) → Left (form_row f form)
  form_leaves None = refl
  form_leaves (Some form) = refl

  load_leaves : (e : Option Elements) → Left (elements_load_row f e)
  load_leaves None = refl
  load_leaves (Some e) = refl

  store_leaves : (e : Option Elements) → Left (elements_store_row f e)
  store_leaves None = refl
  store_leaves (Some e) = refl

  jump_leaves : (is_known : Bool) (takes : List Need) → Left (jump_row f is_known takes)
  jump_leaves true takes = refl
  jump_leaves false takes = refl

  made_leaves : (counts : ℕ) (name : Option Name) → Left (made_row f counts name)
  made_leaves counts None = refl
  made_leaves counts (Some name) = refl

  cast_leaves : (name : Option Name) → Left (cast_row f name)
  cast_leaves None = refl
  cast_leaves (Some name) = refl

  get_static_leaves : (reference : Option Reference) → Left (get_static_row f reference)
  get_static_leaves None = refl
  get_static_leaves (Some reference) = refl

  put_static_leaves : (reference : Option Reference) → Left (put_static_row f reference)
  put_static_leaves None = refl
  put_static_leaves (Some reference) = refl

  module _ (s : RowScope) where
    get_field_leaves : (reference : Option Reference) → Left (get_field_row s f reference)
    get_field_leaves None = refl
    get_field_leaves (Some reference) = refl

    put_field_leaves : (reference : Option Reference) → Left (put_field_row s f reference)
    put_field_leaves None = refl
    put_field_leaves (Some reference) = refl

    return_leaves : (kind : Option Kind) → Left (return_row s f kind)
    return_leaves None = refl
    return_leaves (Some kind) = refl

    dynamic_leaves : (constant : Option Constant) → Left (dynamic_row s f constant)
    dynamic_leaves constant = grind (arith)

    -- a call that is no invokespecial
    not_special : (special : Bool) (row other : Row) → IsTrue (not special) → Left other → Left (either special row other)
    not_special true row other is left = absurd cc
    not_special false row other is left = left

    call_leaves : (opcode : ℕ) (reference : Option Reference) → IsTrue (not (opcode == INVOKESPECIAL)) → Left (call_row s f opcode reference)
    call_leaves opcode None is = refl
    call_leaves opcode (Some reference) is =
        both_leave (opcode == INVOKESTATIC) (static_row f reference) _ refl
        (not_special (opcode == INVOKESPECIAL) (either (bytes_eq reference.name init) (init_row s f reference) (special_row s f reference)) (instance_row f reference (Unit {0}) (PassesMethod s reference (receiver f reference.desc))) is refl)

-- each instruction that is known to do so
pub locals_left : (instr : Instr) → IsTrue (is_known_to_leave instr) → (s : RowScope) (f : Frame) (at : ℕ) → (row_of s f at instr).locals ≡ f.locals
locals_left Nop is s f at = refl
locals_left (Const imm) is s f at = refl
locals_left (Ldc index) is s f at = const_leaves f (constant_at s.pool index)
locals_left (Ldc2 index) is s f at = const_leaves f (constant_at s.pool index)
locals_left (Load kind local) is s f at = refl
locals_left (Store kind local) is s f at = absurd cc
locals_left (Iinc local by) is s f at = refl
locals_left (ArrayLoad opcode) is s f at = both_leave f (opcode == AALOAD) _ _ refl (load_leaves f (elements_from IALOAD opcode))
locals_left (ArrayStore opcode) is s f at = both_leave f (opcode == AASTORE) _ _ refl (store_leaves f (elements_from IASTORE opcode))
locals_left (Shuffle opcode) is s f at = form_leaves f (form_in (forms_of opcode) f.stack)
locals_left (Pure opcode) is s f at = operation_leaves f (operation_in pure_operations opcode)
locals_left (Divide opcode) is s f at = operation_leaves f (operation_in divide_operations opcode)
locals_left (FloatAsk opcode) is s f at = operation_leaves f (operation_in float_operations opcode)
locals_left (If opcode target) is s f at = jump_leaves f (nat_le IFEQ opcode && nat_le opcode IFLE) _
locals_left (If2 opcode target) is s f at = jump_leaves f (nat_le IF_ICMPEQ opcode && nat_le opcode IF_ICMPLE) _
locals_left (IfSame opcode target) is s f at = jump_leaves f (nat_le IF_ACMPEQ opcode && nat_le opcode IF_ACMPNE) _
locals_left (IfNull opcode target) is s f at = jump_leaves f (nat_le IFNULL opcode && nat_le opcode IFNONNULL) _
locals_left (Goto target) is s f at = refl
locals_left (Table low other targets) is s f at = refl
locals_left (Lookup other pairs) is s f at = refl
locals_left (Return kind) is s f at = return_leaves f s kind
locals_left (GetStatic index) is s f at = get_static_leaves f (reference_of s.pool (constant_at s.pool index))
locals_left (PutStatic index) is s f at = put_static_leaves f (reference_of s.pool (constant_at s.pool index))
locals_left (GetField index) is s f at = get_field_leaves f s (reference_of s.pool (constant_at s.pool index))
locals_left (PutField index) is s f at = put_field_leaves f s (reference_of s.pool (constant_at s.pool index))
locals_left (Invoke opcode index count) is s f at = call_leaves f s opcode (reference_of s.pool (constant_at s.pool index)) is
locals_left (Dynamic index) is s f at = dynamic_leaves f s (constant_at s.pool index)
locals_left (New index) is s f at = absurd cc
locals_left (NewArray code) is s f at = made_leaves f 1 (primitive_array code)
locals_left (NewRefArray index) is s f at = made_leaves f 1 (array_of (class_at s.pool index))
locals_left (NewMulti index dimensions) is s f at = made_leaves f dimensions (class_at s.pool index)
locals_left Length is s f at = refl
locals_left Throw is s f at = refl
locals_left (Cast index) is s f at = cast_leaves f (class_at s.pool index)
locals_left (InstanceOf index) is s f at = refl
locals_left Enter is s f at = refl
locals_left Leave is s f at = refl
