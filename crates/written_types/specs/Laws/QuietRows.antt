-- What rows ask for access: an instruction that names no member asks for none, and a call what its opcode and its name tell.
use Rattle.std.proofs.Common.{◌≡◌, ℕ, Bool, true, false, List, bytes_eq, Option, Some, None, refl}
use Rattle.std.specs.Prelude.{◌==◌, ◌&&◌, nat_le}
use Rattle.class_model.specs.Names.{init}
use Rattle.class_model.specs.Pool.{constant_at}
use Rattle.class_model.specs.PoolChecks.{class_at, descriptor_at}
use Rattle.class_model.specs.declared.descriptor.Kind.{Kind}
use Rattle.class_model.specs.declared.frame.Frame.{Frame}
use Rattle.class_model.specs.declared.frame.VType.{VType}
use Rattle.class_model.specs.declared.instr.Instr.{Instr}
use Rattle.class_model.specs.declared.instr.Instr.TheVariants.{Nop, Const, Ldc, Ldc2, Load, Store, Iinc, ArrayLoad, ArrayStore, Shuffle, Pure, Divide, FloatAsk, If, If2, IfSame, IfNull, Goto, Table, Lookup, Return, GetStatic, PutStatic, GetField, PutField, Invoke, Dynamic, New, NewArray, NewRefArray, NewMulti, Length, Throw, Cast, InstanceOf, Enter, Leave}
use Rattle.class_model.specs.declared.opcodes.TheConstants.{AALOAD, AASTORE, IALOAD, IASTORE, IFEQ, IFLE, IFNONNULL, IFNULL, IF_ACMPEQ, IF_ACMPNE, IF_ICMPEQ, IF_ICMPLE, INVOKESPECIAL, INVOKESTATIC}
use Rattle.class_model.specs.declared.pool.Const.{Const as Constant}
use Rattle.class_model.specs.declared.pool.Const.TheVariants as consts
use Rattle.class_tree.specs.Headers.{Name}
use Rattle.member_link.specs.References.{Reference}
use Rattle.member_link.specs.RowScope.{RowScope}
use Rattle.member_link.specs.Rows.ArithmeticRows.{Operation, divide_operations, float_operations, operation_in, operation_row, pure_operations}
use Rattle.member_link.specs.Rows.ArrayRows.{Elements, array_of, elements_from, elements_load_row, elements_store_row, made_row, primitive_array}
use Rattle.member_link.specs.Rows.LocalRows.{const_row, type_of_const}
use Rattle.member_link.specs.Rows.MemberRows.{PassesInitialiser, PassesMethod, call_row, dynamic_row, get_static_row, put_static_row, receiver, return_row}
use Rattle.member_link.specs.Rows.Row.{Row, either}
use Rattle.member_link.specs.Rows.ShuffleRows.{Form, form_in, form_row, forms_of}
use Rattle.member_link.specs.Rows.Table.{cast_row, row_of}
use Rattle.member_link.specs.Signatures.{reference_of}

abbrev pub NamesNoMember : Instr → Type 0
NamesNoMember (GetField index) = ⊥
NamesNoMember (PutField index) = ⊥
NamesNoMember (Invoke opcode index count) = ⊥
NamesNoMember instr = Unit {0}

-- a row asks for none
abbrev Asks : Row → Type 0
Asks row = row.access

either_quiet : (b : Bool) (one other : Row) → Asks one → Asks other → Asks (either b one other)
either_quiet true one other is also = is
either_quiet false one other is also = also

module _ (s : RowScope) (f : Frame) where
  const_quiet : (constant : Option Constant) → Asks (const_row f constant)
  const_quiet None = tt
  const_quiet (Some constant) = by (type_of_const constant) refl where
    by : (found : Option VType) → type_of_const constant ≡ found → Asks (const_row f (Some constant))
    by None is = rw is tt
    by (Some type) is = rw is tt

  operation_quiet : (found : Option Operation) → Asks (operation_row f found)
  operation_quiet None = tt
  operation_quiet (Some o) = tt

  form_quiet : (found : Option Form) → Asks (form_row f found)
  form_quiet None = tt
  form_quiet (Some form) = tt

  load_quiet : (found : Option Elements) → Asks (elements_load_row f found)
  load_quiet None = tt
  load_quiet (Some e) = tt

  store_quiet : (found : Option Elements) → Asks (elements_store_row f found)
  store_quiet None = tt
  store_quiet (Some e) = tt

  made_quiet : (counts : ℕ) (name : Option Name) → Asks (made_row f counts name)
  made_quiet counts None = tt
  made_quiet counts (Some name) = tt

  return_quiet : (kind : Option Kind) → Asks (return_row s f kind)
  return_quiet None = tt
  return_quiet (Some kind) = tt

  get_quiet : (reference : Option Reference) → Asks (get_static_row f reference)
  get_quiet None = tt
  get_quiet (Some reference) = tt

  put_quiet : (reference : Option Reference) → Asks (put_static_row f reference)
  put_quiet None = tt
  put_quiet (Some reference) = tt

  cast_quiet : (name : Option Name) → Asks (cast_row f name)
  cast_quiet None = tt
  cast_quiet (Some name) = tt

  dynamic_quiet : (constant : Option Constant) → Asks (dynamic_row s f constant)
  dynamic_quiet None = tt
  dynamic_quiet (Some (consts.InvokeDynamic bootstrap member)) = by (descriptor_at s.pool member) refl where
    by : (found : Option (List ℕ)) → descriptor_at s.pool member ≡ found → Asks (dynamic_row s f (Some (consts.InvokeDynamic bootstrap member)))
    by None is = rw is tt
    by (Some desc) is = rw is tt
  dynamic_quiet (Some other) = tt

  pub row_quiet : (at : ℕ) (instr : Instr) → NamesNoMember instr → (row_of s f at instr).access
  row_quiet at Nop none = tt
  row_quiet at (Const imm) none = tt
  row_quiet at (Ldc index) none = const_quiet (constant_at s.pool index)
  row_quiet at (Ldc2 index) none = const_quiet (constant_at s.pool index)
  row_quiet at (Load kind local) none = tt
  row_quiet at (Store kind local) none = tt
  row_quiet at (Iinc local by) none = tt
  row_quiet at (ArrayLoad opcode) none = either_quiet (opcode == AALOAD) _ _ tt (load_quiet (elements_from IALOAD opcode))
  row_quiet at (ArrayStore opcode) none = either_quiet (opcode == AASTORE) _ _ tt (store_quiet (elements_from IASTORE opcode))
  row_quiet at (Shuffle opcode) none = form_quiet (form_in (forms_of opcode) f.stack)
  row_quiet at (Pure opcode) none = operation_quiet (operation_in pure_operations opcode)
  row_quiet at (Divide opcode) none = operation_quiet (operation_in divide_operations opcode)
  row_quiet at (FloatAsk opcode) none = operation_quiet (operation_in float_operations opcode)
  row_quiet at (If opcode target) none = either_quiet (nat_le IFEQ opcode && nat_le opcode IFLE) _ _ tt tt
  row_quiet at (If2 opcode target) none = either_quiet (nat_le IF_ICMPEQ opcode && nat_le opcode IF_ICMPLE) _ _ tt tt
  row_quiet at (IfSame opcode target) none = either_quiet (nat_le IF_ACMPEQ opcode && nat_le opcode IF_ACMPNE) _ _ tt tt
  row_quiet at (IfNull opcode target) none = either_quiet (nat_le IFNULL opcode && nat_le opcode IFNONNULL) _ _ tt tt
  row_quiet at (Goto target) none = tt
  row_quiet at (Table low other targets) none = tt
  row_quiet at (Lookup other pairs) none = tt
  row_quiet at (Return kind) none = return_quiet kind
  row_quiet at (GetStatic index) none = get_quiet (reference_of s.pool (constant_at s.pool index))
  row_quiet at (PutStatic index) none = put_quiet (reference_of s.pool (constant_at s.pool index))
  row_quiet at (GetField index) none = absurd none
  row_quiet at (PutField index) none = absurd none
  row_quiet at (Invoke opcode index count) none = absurd none
  row_quiet at (Dynamic index) none = dynamic_quiet (constant_at s.pool index)
  row_quiet at (New index) none = tt
  row_quiet at (NewArray code) none = made_quiet 1 (primitive_array code)
  row_quiet at (NewRefArray index) none = made_quiet 1 (array_of (class_at s.pool index))
  row_quiet at (NewMulti index dimensions) none = made_quiet dimensions (class_at s.pool index)
  row_quiet at Length none = tt
  row_quiet at Throw none = tt
  row_quiet at (Cast index) none = cast_quiet (class_at s.pool index)
  row_quiet at (InstanceOf index) none = tt
  row_quiet at Enter none = tt
  row_quiet at Leave none = tt

-- ---- rows of calls by their tests

module _ (s : RowScope) (f : Frame) (opcode : ℕ) (r : Reference) (one : (opcode == INVOKESTATIC) ≡ false) where
  pub initialiser_asks : (opcode == INVOKESPECIAL) ≡ true → bytes_eq r.name init ≡ true → (call_row s f opcode (Some r)).access
      → PassesInitialiser s r (receiver f r.desc)
  initialiser_asks two three passes = rw (one, two, three) at passes

  pub initialiser_gives : (opcode == INVOKESPECIAL) ≡ true → bytes_eq r.name init ≡ true → PassesInitialiser s r (receiver f r.desc)
      → (call_row s f opcode (Some r)).access
  initialiser_gives two three passes = rw (one, two, three) passes

  pub special_gives : (opcode == INVOKESPECIAL) ≡ true → bytes_eq r.name init ≡ false → (call_row s f opcode (Some r)).access
  special_gives two three = rw (one, two, three) tt

  pub instance_asks : (opcode == INVOKESPECIAL) ≡ false → (call_row s f opcode (Some r)).access → PassesMethod s r (receiver f r.desc)
  instance_asks two passes = rw (one, two) at passes

  pub instance_gives : (opcode == INVOKESPECIAL) ≡ false → PassesMethod s r (receiver f r.desc) → (call_row s f opcode (Some r)).access
  instance_gives two passes = rw (one, two) passes

pub static_gives : (s : RowScope) (f : Frame) (opcode : ℕ) (r : Reference) → (opcode == INVOKESTATIC) ≡ true → (call_row s f opcode (Some r)).access
static_gives s f opcode r one = rw one tt
