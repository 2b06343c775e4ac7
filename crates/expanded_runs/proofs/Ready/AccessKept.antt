-- Access to protected members in flat code: it is checked alike behind a stack whose uninitialised objects have other numbers, and where targets and
-- local units are others.
use Rattle.std.proofs.Common.{◌≡◌, ℕ, Bool, true, false, List, map, length, bytes_eq, ◌==◌, ◌+◌, Option, Some, None, refl, ap, subst, sym, ◌∙◌, inl, inr}
use Rattle.std.specs.Prelude.{◌&&◌, ◌⊎◌, nat_le}
use Rattle.class_model.specs.Descriptors.{parameters_of}
use Rattle.class_model.specs.Names.{init}
use Rattle.class_model.specs.Pool.{constant_at}
use Rattle.class_model.specs.PoolChecks.{class_at, descriptor_at}
use Rattle.class_model.specs.declared.descriptor.Kind.{Kind}
use Rattle.class_model.specs.declared.frame.Frame.{Frame}
use Rattle.class_model.specs.declared.frame.VType.{VType}
use Rattle.class_model.specs.declared.frame.VType.TheVariants as types
use Rattle.class_model.specs.declared.instr.Instr.{Instr}
use Rattle.class_model.specs.declared.instr.Instr.TheVariants.{Nop, Const, Ldc, Ldc2, Load, Store, Iinc, ArrayLoad, ArrayStore, Shuffle, Pure, Divide, FloatAsk, If, If2, IfSame, IfNull, Goto, Table, Lookup, Return, GetStatic, PutStatic, GetField, PutField, Invoke, Dynamic, New, NewArray, NewRefArray, NewMulti, Length, Throw, Cast, InstanceOf, Enter, Leave}
use Rattle.class_model.specs.declared.opcodes.TheConstants.{AALOAD, AASTORE, IALOAD, IASTORE, IFEQ, IFLE, IF_ICMPEQ, IF_ICMPLE, IF_ACMPEQ, IF_ACMPNE, IFNULL, IFNONNULL, INVOKESTATIC, INVOKESPECIAL}
use Rattle.class_model.specs.declared.pool.Const.{Const as Constant}
use Rattle.class_model.specs.declared.pool.Const.TheVariants as consts
use Rattle.class_tree.specs.Headers.{Name}
use Rattle.expanded_code.specs.Expanded.{Setting, set_instr}
use Rattle.member_link.specs.DeclaredMembers.{Declared}
use Rattle.member_link.specs.Fields.{FindsField}
use Rattle.member_link.specs.Methods.{FindsMethod}
use Rattle.member_link.specs.References.{Reference}
use Rattle.member_link.specs.RowScope.{RowScope}
use Rattle.member_link.specs.Rows.ArithmeticRows.{Operation, divide_operations, float_operations, operation_in, operation_row, pure_operations}
use Rattle.member_link.specs.Rows.ArrayRows.{Elements, array_of, elements_from, elements_load_row, elements_store_row, made_row, primitive_array}
use Rattle.member_link.specs.Rows.Assigning.{IsAssignableIn}
use Rattle.member_link.specs.Rows.LocalRows.{const_row}
use Rattle.member_link.specs.Rows.MemberRows.{PassesField, PassesInitialiser, PassesMethod, PassesProtected, PassesPut, call_row, dynamic_row, get_field_row, get_static_row, init_row, instance_row, put_field_row, put_static_row, receiver, return_row, special_row, static_row}
use Rattle.member_link.specs.Rows.Operands.{lowest_of}
use Rattle.member_link.specs.Rows.Row.{Row, either}
use Rattle.member_link.specs.Rows.ShuffleRows.{Form, form_in, form_row, forms_of}
use Rattle.member_link.specs.Rows.Table.{cast_row, row_of}
use Rattle.member_link.specs.Signatures.{reference_of}
use Rattle.row_frames.specs.Laws.NumberedFrames.{numbered_type}
use Rattle.row_frames.specs.Laws.RenumberedTypes.{assignable_kept, lowest_same}

-- ---- rows without a condition of access

either_free : (b : Bool) (row other : Row) → row.access → other.access → (either b row other).access
either_free true row other one two = one
either_free false row other one two = two

const_free : (f : Frame) (constant : Option Constant) → (const_row f constant).access
const_free f None = tt
const_free f (Some (consts.Integer number)) = tt
const_free f (Some constant) = tt

pub operation_free : (f : Frame) (operation : Option Operation) → (operation_row f operation).access
operation_free f None = tt
operation_free f (Some operation) = tt

load_free : (f : Frame) (elements : Option Elements) → (elements_load_row f elements).access
load_free f None = tt
load_free f (Some elements) = tt

store_free : (f : Frame) (elements : Option Elements) → (elements_store_row f elements).access
store_free f None = tt
store_free f (Some elements) = tt

made_free : (f : Frame) (counts : ℕ) (name : Option Name) → (made_row f counts name).access
made_free f counts None = tt
made_free f counts (Some name) = tt

form_free : (f : Frame) (form : Option Form) → (form_row f form).access
form_free f None = tt
form_free f (Some form) = tt

cast_free : (f : Frame) (name : Option Name) → (cast_row f name).access
cast_free f None = tt
cast_free f (Some name) = tt

return_free : (s : RowScope) (f : Frame) (kind : Option Kind) → (return_row s f kind).access
return_free s f None = tt
return_free s f (Some kind) = tt

get_static_free : (f : Frame) (reference : Option Reference) → (get_static_row f reference).access
get_static_free f None = tt
get_static_free f (Some reference) = tt

put_static_free : (f : Frame) (reference : Option Reference) → (put_static_row f reference).access
put_static_free f None = tt
put_static_free f (Some reference) = tt

dynamic_free : (s : RowScope) (f : Frame) (constant : Option Constant) → (dynamic_row s f constant).access
dynamic_free s f None = tt
dynamic_free s f (Some (consts.InvokeDynamic bootstrap member)) = by (descriptor_at s.pool member) refl where
  by : (desc : Option (List ℕ)) → descriptor_at s.pool member ≡ desc → (dynamic_row s f (Some (consts.InvokeDynamic bootstrap member))).access
  by None is = rw (is) tt
  by (Some desc) is = rw (is) tt
dynamic_free s f (Some constant) = tt

-- ---- behind another stack

module _ (number : ℕ → ℕ) (s : RowScope) (f g : Frame) (same : g.stack ≡ map (numbered_type number) f.stack) where
  lowest_is : (count : ℕ) → numbered_type number (lowest_of count f.stack) ≡ lowest_of count g.stack
  lowest_is count = sym (ap (lowest_of count) same ∙ lowest_same number count f.stack)

  protected_kept : (r : Reference) (Finds : Option Declared → Type 0) (object : VType) → PassesProtected s r Finds object
      → PassesProtected s r Finds (numbered_type number object)
  protected_kept r Finds (types.Uninit at) passes =
      λ member found is_protected apart below. by (passes member found is_protected apart below) where
        by : IsAssignableIn s.headers s.major (types.Uninit at) (types.Object s.own.name) ⊎ ⊥
            → IsAssignableIn s.headers s.major (types.Uninit (number at)) (types.Object s.own.name) ⊎ ⊥
        by (inl may) = inl (assignable_kept number s.headers may)
        by (inr never) = absurd never
  protected_kept r Finds other passes = passes

  put_kept : (r : Reference) (object : VType) → PassesPut s r object → PassesPut s r (numbered_type number object)
  put_kept r (types.Uninit at) passes = protected_kept r (FindsField s.headers r.class r.name r.desc) (types.Uninit at) passes
  put_kept r other passes = passes

  initialiser_kept : (r : Reference) (object : VType) → PassesInitialiser s r object → PassesInitialiser s r (numbered_type number object)
  initialiser_kept r (types.Uninit at) passes = passes
  initialiser_kept r other passes = passes

  get_field_kept : (reference : Option Reference) → (get_field_row s f reference).access → (get_field_row s g reference).access
  get_field_kept None passes = tt
  get_field_kept (Some r) passes =
      subst (PassesField s r) (lowest_is 1) (protected_kept r (FindsField s.headers r.class r.name r.desc) (lowest_of 1 f.stack) passes)

  put_field_kept : (reference : Option Reference) → (put_field_row s f reference).access → (put_field_row s g reference).access
  put_field_kept None passes = tt
  put_field_kept (Some r) passes = subst (PassesPut s r) (lowest_is 2) (put_kept r (lowest_of 2 f.stack) passes)

  abbrev call_by : Frame → Reference → Bool → Bool → Bool → Row
  call_by frame r is_static is_special is_init =
      either is_static (static_row frame r)
      (either is_special (either is_init (init_row s frame r) (special_row s frame r))
      (instance_row frame r (Unit {0}) (PassesMethod s r (receiver frame r.desc))))

  call_by_kept : (r : Reference) (is_static is_special is_init : Bool) → (call_by f r is_static is_special is_init).access
      → (call_by g r is_static is_special is_init).access
  call_by_kept r true is_special is_init passes = tt
  call_by_kept r false true true passes =
      subst (PassesInitialiser s r) (lowest_is (length (parameters_of r.desc) + 1)) (initialiser_kept r (receiver f r.desc) passes)
  call_by_kept r false true false passes = tt
  call_by_kept r false false is_init passes =
      subst (PassesMethod s r) (lowest_is (length (parameters_of r.desc) + 1))
      (protected_kept r (FindsMethod s.headers r.class r.name r.desc) (receiver f r.desc) passes)

  call_kept : (opcode : ℕ) (reference : Option Reference) → (call_row s f opcode reference).access → (call_row s g opcode reference).access
  call_kept opcode None passes = tt
  call_kept opcode (Some r) passes = call_by_kept r (opcode == INVOKESTATIC) (opcode == INVOKESPECIAL) (bytes_eq r.name init) passes

  -- The access of an instruction in its place.
  pub access_kept : (t : Setting) (from place : ℕ) (instr : Instr) → (row_of s f from instr).access → (row_of s g place (set_instr t instr)).access
  access_kept t from place Nop passes = tt
  access_kept t from place (Const imm) passes = tt
  access_kept t from place (Ldc index) passes = const_free g (constant_at s.pool index)
  access_kept t from place (Ldc2 index) passes = const_free g (constant_at s.pool index)
  access_kept t from place (Load kind local) passes = tt
  access_kept t from place (Store kind local) passes = tt
  access_kept t from place (Iinc local by) passes = tt
  access_kept t from place (ArrayLoad opcode) passes =
      either_free (opcode == AALOAD) _ (elements_load_row g (elements_from IALOAD opcode)) tt (load_free g (elements_from IALOAD opcode))
  access_kept t from place (ArrayStore opcode) passes =
      either_free (opcode == AASTORE) _ (elements_store_row g (elements_from IASTORE opcode)) tt (store_free g (elements_from IASTORE opcode))
  access_kept t from place (Shuffle opcode) passes = form_free g (form_in (forms_of opcode) g.stack)
  access_kept t from place (Pure opcode) passes = operation_free g (operation_in pure_operations opcode)
  access_kept t from place (Divide opcode) passes = operation_free g (operation_in divide_operations opcode)
  access_kept t from place (FloatAsk opcode) passes = operation_free g (operation_in float_operations opcode)
  access_kept t from place (If opcode to) passes = either_free (nat_le IFEQ opcode && nat_le opcode IFLE) _ _ tt tt
  access_kept t from place (If2 opcode to) passes = either_free (nat_le IF_ICMPEQ opcode && nat_le opcode IF_ICMPLE) _ _ tt tt
  access_kept t from place (IfSame opcode to) passes = either_free (nat_le IF_ACMPEQ opcode && nat_le opcode IF_ACMPNE) _ _ tt tt
  access_kept t from place (IfNull opcode to) passes = either_free (nat_le IFNULL opcode && nat_le opcode IFNONNULL) _ _ tt tt
  access_kept t from place (Goto to) passes = tt
  access_kept t from place (Table low other to) passes = tt
  access_kept t from place (Lookup other pairs) passes = tt
  access_kept t from place (Return kind) passes = return_free s g kind
  access_kept t from place (GetStatic index) passes = get_static_free g (reference_of s.pool (constant_at s.pool index))
  access_kept t from place (PutStatic index) passes = put_static_free g (reference_of s.pool (constant_at s.pool index))
  access_kept t from place (GetField index) passes = get_field_kept (reference_of s.pool (constant_at s.pool index)) passes
  access_kept t from place (PutField index) passes = put_field_kept (reference_of s.pool (constant_at s.pool index)) passes
  access_kept t from place (Invoke opcode index count) passes = call_kept opcode (reference_of s.pool (constant_at s.pool index)) passes
  access_kept t from place (Dynamic index) passes = dynamic_free s g (constant_at s.pool index)
  access_kept t from place (New index) passes = tt
  access_kept t from place (NewArray code) passes = made_free g 1 (primitive_array code)
  access_kept t from place (NewRefArray index) passes = made_free g 1 (array_of (class_at s.pool index))
  access_kept t from place (NewMulti index dimensions) passes = made_free g dimensions (class_at s.pool index)
  access_kept t from place Length passes = tt
  access_kept t from place Throw passes = tt
  access_kept t from place (Cast index) passes = cast_free g (class_at s.pool index)
  access_kept t from place (InstanceOf index) passes = tt
  access_kept t from place Enter passes = tt
  access_kept t from place Leave passes = tt
