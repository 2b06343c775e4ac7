-- Where control falls through, the row of an instruction goes on.
use Rattle.std.proofs.Common.{◌≡◌, ◌==◌, ℕ, Bool, true, false, List, bytes_eq, Option, Some, None, refl}
use Rattle.std.proofs.lemmas.Bool.{false≢true}
use Rattle.class_model.specs.Names.{init}
use Rattle.class_model.specs.Pool.{constant_at}
use Rattle.class_model.specs.PoolChecks.{class_at, descriptor_at}
use Rattle.class_model.specs.declared.frame.Frame.{Frame}
use Rattle.class_model.specs.declared.frame.VType.{VType}
use Rattle.class_model.specs.declared.instr.Instr.{Instr}
use Rattle.class_model.specs.declared.instr.Instr.TheVariants.{Nop, Const, Ldc, Ldc2, Load, Store, Iinc, ArrayLoad, ArrayStore, Shuffle, Pure, Divide, FloatAsk, If, If2, IfSame, IfNull, Goto, Table, Lookup, Return, GetStatic, PutStatic, GetField, PutField, Invoke, Dynamic, New, NewArray, NewRefArray, NewMulti, Length, Throw, Cast, InstanceOf, Enter, Leave}
use Rattle.class_model.specs.declared.opcodes.TheConstants.{AALOAD, AASTORE, IALOAD, IASTORE, INVOKESPECIAL, INVOKESTATIC}
use Rattle.class_model.specs.declared.pool.Const.{Const as PoolConst}
use Rattle.class_model.specs.declared.pool.Const.TheVariants as consts
use Rattle.class_tree.specs.Headers.{Name}
use Rattle.member_link.specs.Bodies.{CodeItem, falls_through, item_falls_through, item_instr, item_null_test, item_row}
use Rattle.member_link.specs.References.{Reference}
use Rattle.member_link.specs.RowScope.{RowScope}
use Rattle.member_link.specs.Rows.ArithmeticRows.{Operation, divide_operations, float_operations, operation_in, operation_row, pure_operations}
use Rattle.member_link.specs.Rows.ArrayRows.{Elements, array_load_row, array_of, array_store_row, elements_from, elements_load_row, elements_store_row, made_row, primitive_array}
use Rattle.member_link.specs.Rows.LocalRows.{const_row, type_of_const}
use Rattle.member_link.specs.Rows.MemberRows.{call_row, dynamic_row, get_field_row, get_static_row, init_row, put_field_row, put_static_row, special_row}
use Rattle.member_link.specs.Rows.Operands.{Need}
use Rattle.member_link.specs.Rows.Readings.{Reading, reads_itself, reads_object, reads_pop, row_by}
use Rattle.member_link.specs.Rows.Row.{Row, either}
use Rattle.member_link.specs.Rows.ShuffleRows.{Form, form_in, form_row, forms_of}
use Rattle.member_link.specs.Rows.Table.{cast_row, jump_row, row_of}
use Rattle.member_link.specs.Signatures.{reference_of}

either_goes : (b : Bool) (row other : Row) → row.goes_on ≡ true → other.goes_on ≡ true → (either b row other).goes_on ≡ true
either_goes true row other is also = is
either_goes false row other is also = also

module _ (s : RowScope) (f : Frame) where
  const_goes : (constant : Option PoolConst) → (const_row f constant).goes_on ≡ true
  const_goes None = refl
  const_goes (Some constant) = by (type_of_const constant) refl where
    by : (type : Option VType) → type_of_const constant ≡ type → (const_row f (Some constant)).goes_on ≡ true
    by None is = rw (is) refl
    by (Some type) is = rw (is) refl

  form_goes : (form : Option Form) → (form_row f form).goes_on ≡ true
  form_goes None = refl
  form_goes (Some form) = refl

  operation_goes : (operation : Option Operation) → (operation_row f operation).goes_on ≡ true
  operation_goes None = refl
  operation_goes (Some operation) = refl

  jump_goes : (known : Bool) (takes : List Need) → (jump_row f known takes).goes_on ≡ true
  jump_goes true takes = refl
  jump_goes false takes = refl

  field_goes : (field : Option Reference)
      → ((get_static_row f field).goes_on ≡ true)
      × ((put_static_row f field).goes_on ≡ true)
      × ((get_field_row s f field).goes_on ≡ true)
      × ((put_field_row s f field).goes_on ≡ true)
  field_goes None = (refl, refl, refl, refl)
  field_goes (Some field) = (refl, refl, refl, refl)

  made_goes : (counts : ℕ) (name : Option Name) → (made_row f counts name).goes_on ≡ true
  made_goes counts None = refl
  made_goes counts (Some name) = refl

  cast_goes : (name : Option Name) → (cast_row f name).goes_on ≡ true
  cast_goes None = refl
  cast_goes (Some name) = refl

  load_elements_goes : (e : Option Elements) → (elements_load_row f e).goes_on ≡ true
  load_elements_goes None = refl
  load_elements_goes (Some e) = refl

  store_elements_goes : (e : Option Elements) → (elements_store_row f e).goes_on ≡ true
  store_elements_goes None = refl
  store_elements_goes (Some e) = refl

  array_load_goes : (opcode : ℕ) → (array_load_row f opcode).goes_on ≡ true
  array_load_goes opcode = either_goes (opcode == AALOAD) _ _ refl (load_elements_goes (elements_from IALOAD opcode))

  array_store_goes : (opcode : ℕ) → (array_store_row f opcode).goes_on ≡ true
  array_store_goes opcode = either_goes (opcode == AASTORE) _ _ refl (store_elements_goes (elements_from IASTORE opcode))

  dynamic_goes : (constant : Option PoolConst) → (dynamic_row s f constant).goes_on ≡ true
  dynamic_goes None = refl
  dynamic_goes (Some (consts.InvokeDynamic bootstrap member)) = by (descriptor_at s.pool member) refl where
    by : (desc : Option (List ℕ)) → descriptor_at s.pool member ≡ desc
        → (dynamic_row s f (Some (consts.InvokeDynamic bootstrap member))).goes_on ≡ true
    by None is = rw (is) refl
    by (Some desc) is = rw (is) refl
  dynamic_goes (Some (consts.Utf8 text)) = refl
  dynamic_goes (Some (consts.Integer number)) = refl
  dynamic_goes (Some (consts.Float bits)) = refl
  dynamic_goes (Some (consts.Long number)) = refl
  dynamic_goes (Some (consts.Double bits)) = refl
  dynamic_goes (Some (consts.Class name)) = refl
  dynamic_goes (Some (consts.String text)) = refl
  dynamic_goes (Some (consts.Fieldref class member)) = refl
  dynamic_goes (Some (consts.Methodref class member)) = refl
  dynamic_goes (Some (consts.InterfaceMethodref class member)) = refl
  dynamic_goes (Some (consts.NameAndType name desc)) = refl
  dynamic_goes (Some (consts.MethodHandle kind index)) = refl
  dynamic_goes (Some (consts.MethodType desc)) = refl

  call_goes : (opcode : ℕ) (method : Option Reference) → (call_row s f opcode method).goes_on ≡ true
  call_goes opcode None = refl
  call_goes opcode (Some reference) =
      either_goes (opcode == INVOKESTATIC) _ _ refl
      (either_goes (opcode == INVOKESPECIAL) _ _
      (either_goes (bytes_eq reference.name init) (init_row s f reference) (special_row s f reference) refl refl) refl)

  instr_goes : (at : ℕ) (instr : Instr) → falls_through instr ≡ true → (row_of s f at instr).goes_on ≡ true
  instr_goes at Nop falls = refl
  instr_goes at (Const imm) falls = refl
  instr_goes at (Ldc index) falls = const_goes (constant_at s.pool index)
  instr_goes at (Ldc2 index) falls = const_goes (constant_at s.pool index)
  instr_goes at (Load kind local) falls = refl
  instr_goes at (Iinc local by) falls = refl
  instr_goes at (ArrayLoad opcode) falls = array_load_goes opcode
  instr_goes at (ArrayStore opcode) falls = array_store_goes opcode
  instr_goes at (Shuffle opcode) falls = form_goes (form_in (forms_of opcode) f.stack)
  instr_goes at (Pure opcode) falls = operation_goes (operation_in pure_operations opcode)
  instr_goes at (Divide opcode) falls = operation_goes (operation_in divide_operations opcode)
  instr_goes at (FloatAsk opcode) falls = operation_goes (operation_in float_operations opcode)
  instr_goes at (If opcode target) falls = jump_goes _ _
  instr_goes at (If2 opcode target) falls = jump_goes _ _
  instr_goes at (IfSame opcode target) falls = jump_goes _ _
  instr_goes at (IfNull opcode target) falls = jump_goes _ _
  instr_goes at (Goto target) falls = absurd (false≢true falls)
  instr_goes at (Table low other targets) falls = absurd (false≢true falls)
  instr_goes at (Lookup other pairs) falls = absurd (false≢true falls)
  instr_goes at (Return kind) falls = absurd (false≢true falls)
  instr_goes at (GetStatic index) falls = (field_goes (reference_of s.pool (constant_at s.pool index))).0
  instr_goes at (PutStatic index) falls = (field_goes (reference_of s.pool (constant_at s.pool index))).1
  instr_goes at (GetField index) falls = (field_goes (reference_of s.pool (constant_at s.pool index))).2
  instr_goes at (PutField index) falls = (field_goes (reference_of s.pool (constant_at s.pool index))).3
  instr_goes at (Dynamic index) falls = dynamic_goes (constant_at s.pool index)
  instr_goes at (NewArray code) falls = made_goes 1 (primitive_array code)
  instr_goes at (NewRefArray index) falls = made_goes 1 (array_of (class_at s.pool index))
  instr_goes at (NewMulti index dimensions) falls = made_goes dimensions (class_at s.pool index)
  instr_goes at Length falls = refl
  instr_goes at Throw falls = absurd (false≢true falls)
  instr_goes at (Cast index) falls = cast_goes (class_at s.pool index)
  instr_goes at (InstanceOf index) falls = refl
  instr_goes at Enter falls = refl
  instr_goes at Leave falls = refl
  instr_goes at (Invoke opcode index count) falls = call_goes opcode (reference_of s.pool (constant_at s.pool index))
  instr_goes at (New index) falls = refl
  instr_goes at (Store kind local) falls = refl

  item_goes : (at : ℕ) (item : CodeItem) → item_falls_through item ≡ true → (item_row s f at item).goes_on ≡ true
  item_goes at (item_instr instr) falls = instr_goes at instr falls
  item_goes at (item_null_test local) falls = refl

-- as it is read, too
pub read_goes : (s : RowScope) (f : Frame) (at : ℕ) (item : CodeItem) (reading : Reading) → item_falls_through item ≡ true
    → (row_by reading f (item_row s f at item)).goes_on ≡ true
read_goes s f at item reads_itself falls = item_goes s f at item falls
read_goes s f at item (reads_object class) falls = refl
read_goes s f at item (reads_pop desc) falls = refl
