-- Behind an instruction through which control may fall there is a frame.
use Rattle.std.proofs.Common.{◌≡◌, ℕ, Bool, true, false, List, Option, Some, None, refl}
use Rattle.std.specs.Prelude.{◌==◌, ◌&&◌, bytes_eq, nat_le}
use Rattle.std.proofs.lemmas.Bool.{false≢true}
use Rattle.class_model.specs.Names.{init}
use Rattle.class_model.specs.Pool.{constant_at}
use Rattle.class_model.specs.PoolChecks.{class_at, descriptor_at}
use Rattle.class_model.specs.declared.frame.Frame.{Frame}
use Rattle.class_model.specs.declared.frame.VType.{VType}
use Rattle.class_model.specs.declared.instr.Instr.{Instr}
use Rattle.class_model.specs.declared.instr.Instr.TheVariants as instrs
use Rattle.class_model.specs.declared.instr.Instr.TheVariants.{Nop, Ldc, Ldc2, Load, Store, Iinc, ArrayLoad, ArrayStore, Shuffle, Pure, Divide, FloatAsk, If, If2, IfSame, IfNull, Goto, Table, Lookup, Return, GetStatic, PutStatic, GetField, PutField, Invoke, Dynamic, New, NewArray, NewRefArray, NewMulti, Length, Throw, Cast, InstanceOf, Enter, Leave}
use Rattle.class_model.specs.declared.opcodes.TheConstants.{AALOAD, AASTORE, IALOAD, IASTORE, IFEQ, IFLE, IFNONNULL, IFNULL, IF_ACMPEQ, IF_ACMPNE, IF_ICMPEQ, IF_ICMPLE, INVOKESPECIAL, INVOKESTATIC}
use Rattle.class_model.specs.declared.pool.Const.{Const}
use Rattle.class_model.specs.declared.pool.Const.TheVariants as consts
use Rattle.class_tree.specs.Headers.{Name}
use Rattle.member_link.specs.Bodies.{falls_through}
use Rattle.member_link.specs.References.{Reference}
use Rattle.member_link.specs.RowScope.{RowScope}
use Rattle.member_link.specs.Rows.ArithmeticRows.{Operation, divide_operations, float_operations, operation_in, operation_row, pure_operations}
use Rattle.member_link.specs.Rows.ArrayRows.{Elements, array_of, elements_from, elements_load_row, elements_store_row, made_row, primitive_array}
use Rattle.member_link.specs.Rows.LocalRows.{const_row, type_of_const}
use Rattle.member_link.specs.Rows.MemberRows.{call_row, dynamic_row, get_field_row, get_static_row, put_field_row, put_static_row}
use Rattle.member_link.specs.Rows.Row.{Row, either}
use Rattle.member_link.specs.Rows.ShuffleRows.{Form, form_in, form_row, forms_of}
use Rattle.member_link.specs.Rows.Table.{cast_row, row_of}
use Rattle.member_link.specs.Signatures.{reference_of}

either_goes : (b : Bool) (row other : Row) → row.goes_on ≡ true → other.goes_on ≡ true → (either b row other).goes_on ≡ true
either_goes true row other goes also = goes
either_goes false row other goes also = also

module _ (f : Frame) where
  const_goes : (constant : Option Const) → (const_row f constant).goes_on ≡ true
  const_goes None = refl
  const_goes (Some constant) = by (type_of_const constant) refl where
    by : (type : Option VType) → type_of_const constant ≡ type → (const_row f (Some constant)).goes_on ≡ true
    by None is = rw (is) refl
    by (Some type) is = rw (is) refl

  load_goes : (elements : Option Elements) → (elements_load_row f elements).goes_on ≡ true
  load_goes None = refl
  load_goes (Some elements) = refl

  store_goes : (elements : Option Elements) → (elements_store_row f elements).goes_on ≡ true
  store_goes None = refl
  store_goes (Some elements) = refl

  made_goes : (counts : ℕ) (name : Option Name) → (made_row f counts name).goes_on ≡ true
  made_goes counts None = refl
  made_goes counts (Some name) = refl

  form_goes : (form : Option Form) → (form_row f form).goes_on ≡ true
  form_goes None = refl
  form_goes (Some form) = refl

  operation_goes : (operation : Option Operation) → (operation_row f operation).goes_on ≡ true
  operation_goes None = refl
  operation_goes (Some operation) = refl

  cast_goes : (name : Option Name) → (cast_row f name).goes_on ≡ true
  cast_goes None = refl
  cast_goes (Some name) = refl

  get_static_goes : (reference : Option Reference) → (get_static_row f reference).goes_on ≡ true
  get_static_goes None = refl
  get_static_goes (Some reference) = refl

  put_static_goes : (reference : Option Reference) → (put_static_row f reference).goes_on ≡ true
  put_static_goes None = refl
  put_static_goes (Some reference) = refl

  module _ (s : RowScope) where
    get_field_goes : (reference : Option Reference) → (get_field_row s f reference).goes_on ≡ true
    get_field_goes None = refl
    get_field_goes (Some reference) = refl

    put_field_goes : (reference : Option Reference) → (put_field_row s f reference).goes_on ≡ true
    put_field_goes None = refl
    put_field_goes (Some reference) = refl

    call_goes : (opcode : ℕ) (reference : Option Reference) → (call_row s f opcode reference).goes_on ≡ true
    call_goes opcode None = refl
    call_goes opcode (Some reference) =
        either_goes (opcode == INVOKESTATIC) _ _ refl
        (either_goes (opcode == INVOKESPECIAL) _ _ (either_goes (bytes_eq reference.name init) _ _ refl refl) refl)

    dynamic_goes : (constant : Option Const) → (dynamic_row s f constant).goes_on ≡ true
    dynamic_goes (Some (consts.InvokeDynamic bootstrap member)) = by (descriptor_at s.pool member) refl where
      by : (desc : Option (List ℕ)) → descriptor_at s.pool member ≡ desc
          → (dynamic_row s f (Some (consts.InvokeDynamic bootstrap member))).goes_on ≡ true
      by None is = rw (is) refl
      by (Some desc) is = rw (is) refl
    dynamic_goes constant = refl

pub goes_on : (s : RowScope) (f : Frame) (at : ℕ) (instr : Instr) → falls_through instr ≡ true → (row_of s f at instr).goes_on ≡ true
goes_on s f at Nop falls = refl
goes_on s f at (instrs.Const imm) falls = refl
goes_on s f at (Ldc index) falls = const_goes f (constant_at s.pool index)
goes_on s f at (Ldc2 index) falls = const_goes f (constant_at s.pool index)
goes_on s f at (Load kind local) falls = refl
goes_on s f at (Store kind local) falls = refl
goes_on s f at (Iinc local by) falls = refl
goes_on s f at (ArrayLoad opcode) falls = either_goes (opcode == AALOAD) _ _ refl (load_goes f (elements_from IALOAD opcode))
goes_on s f at (ArrayStore opcode) falls = either_goes (opcode == AASTORE) _ _ refl (store_goes f (elements_from IASTORE opcode))
goes_on s f at (Shuffle opcode) falls = form_goes f (form_in (forms_of opcode) f.stack)
goes_on s f at (Pure opcode) falls = operation_goes f (operation_in pure_operations opcode)
goes_on s f at (Divide opcode) falls = operation_goes f (operation_in divide_operations opcode)
goes_on s f at (FloatAsk opcode) falls = operation_goes f (operation_in float_operations opcode)
goes_on s f at (If opcode target) falls = either_goes (nat_le IFEQ opcode && nat_le opcode IFLE) _ _ refl refl
goes_on s f at (If2 opcode target) falls = either_goes (nat_le IF_ICMPEQ opcode && nat_le opcode IF_ICMPLE) _ _ refl refl
goes_on s f at (IfSame opcode target) falls = either_goes (nat_le IF_ACMPEQ opcode && nat_le opcode IF_ACMPNE) _ _ refl refl
goes_on s f at (IfNull opcode target) falls = either_goes (nat_le IFNULL opcode && nat_le opcode IFNONNULL) _ _ refl refl
goes_on s f at (Goto to) falls = refl
goes_on s f at (Table low other to) falls = refl
goes_on s f at (Lookup other pairs) falls = refl
goes_on s f at (Return kind) falls = absurd (false≢true falls)
goes_on s f at (GetStatic index) falls = get_static_goes f (reference_of s.pool (constant_at s.pool index))
goes_on s f at (PutStatic index) falls = put_static_goes f (reference_of s.pool (constant_at s.pool index))
goes_on s f at (GetField index) falls = get_field_goes f s (reference_of s.pool (constant_at s.pool index))
goes_on s f at (PutField index) falls = put_field_goes f s (reference_of s.pool (constant_at s.pool index))
goes_on s f at (Invoke opcode index count) falls = call_goes f s opcode (reference_of s.pool (constant_at s.pool index))
goes_on s f at (Dynamic index) falls = dynamic_goes f s (constant_at s.pool index)
goes_on s f at (New index) falls = refl
goes_on s f at (NewArray code) falls = made_goes f 1 (primitive_array code)
goes_on s f at (NewRefArray index) falls = made_goes f 1 (array_of (class_at s.pool index))
goes_on s f at (NewMulti index dimensions) falls = made_goes f dimensions (class_at s.pool index)
goes_on s f at Length falls = refl
goes_on s f at Throw falls = absurd (false≢true falls)
goes_on s f at (Cast index) falls = cast_goes f (class_at s.pool index)
goes_on s f at (InstanceOf index) falls = refl
goes_on s f at Enter falls = refl
goes_on s f at Leave falls = refl
