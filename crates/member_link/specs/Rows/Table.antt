-- The table of instructions (JVM Specification SE 8, 4.10.1.9 and 6.5): a row for each form, in a scope and behind a frame.
use Rattle.std.specs.Prelude.{◌≢◌, ◌==◌, ◌&&◌, nat_le, ℕ, Bool, List, [], ◌∷◌, map, Option, Some, None, if◌then◌else◌}
use Rattle.std.specs.List.{AllByRecursion}
use Rattle.class_model.specs.Pool.{constant_at}
use Rattle.class_model.specs.PoolChecks.{class_at}
use Rattle.class_model.specs.declared.descriptor.Kind.TheVariants.{Int, Ref}
use Rattle.class_model.specs.declared.frame.Frame.{Frame}
use Rattle.class_model.specs.declared.frame.VType.{VType}
use Rattle.class_model.specs.declared.frame.VType.TheVariants as types
use Rattle.class_model.specs.declared.instr.Instr.{Instr}
use Rattle.class_model.specs.declared.instr.Instr.TheVariants.{Nop, Const, Ldc, Ldc2, Load, Store, Iinc, ArrayLoad, ArrayStore, Shuffle, Pure, Divide, FloatAsk, If, If2, IfSame, IfNull, Goto, Table, Lookup, Return, GetStatic, PutStatic, GetField, PutField, Invoke, Dynamic, New, NewArray, NewRefArray, NewMulti, Length, Throw, Cast, InstanceOf, Enter, Leave}
use Rattle.class_model.specs.declared.opcodes.TheConstants.{IFEQ, IFLE, IF_ICMPEQ, IF_ICMPLE, IF_ACMPEQ, IF_ACMPNE, IFNULL, IFNONNULL}
use Rattle.class_tree.specs.Headers.{Name}
use Rattle.class_tree.specs.Names.{throwable}
use Rattle.member_link.specs.RowScope.{RowScope}
use Rattle.member_link.specs.Rows.ArithmeticRows.{pure_operations, divide_operations, float_operations, operation_in, operation_row}
use Rattle.member_link.specs.Rows.ArrayRows.{array_load_row, array_store_row, new_array_row, new_ref_array_row, new_multi_row, length_row}
use Rattle.member_link.specs.Rows.LocalRows.{imm_row, const_row, load_row, store_row, iinc_row}
use Rattle.member_link.specs.Rows.MemberRows.{get_static_row, put_static_row, get_field_row, put_field_row, call_row, dynamic_row, return_row}
use Rattle.member_link.specs.Rows.Operands.{Need, of_kind, initialised, assignable_to}
use Rattle.member_link.specs.Rows.Row.{Row, plain, ending, no_row, either}
use Rattle.member_link.specs.Rows.ShuffleRows.{shuffle_row}
use Rattle.member_link.specs.Signatures.{reference_of}

-- ---- objects

-- A new leaves no local with an older object of its own, and there is none on the stack.
abbrev pub without_older : ℕ → VType → VType
without_older at (types.Uninit other) = if other == at then types.Top else types.Uninit other
without_older at type = type

abbrev pub new_row : Frame → ℕ → Row
new_row f at =
    record (plain f [] (types.Uninit at ∷ [])) {
      further = AllByRecursion (λ type. type ≢ types.Uninit at) f.stack;
      locals = map (without_older at) f.locals;
    }

-- a reference becomes one of a class
abbrev pub cast_row : Frame → Option Name → Row
cast_row f None = no_row f
cast_row f (Some name) = plain f (initialised ∷ []) (types.Object name ∷ [])

abbrev pub throw_row : Frame → Row
throw_row f = ending f (assignable_to (types.Object throwable) ∷ []) (Unit {0})

-- a jump that compares, if its opcode is one
abbrev pub jump_row : Frame → Bool → List Need → Row
jump_row f is_known takes = either is_known (plain f takes []) (no_row f)

-- ---- the table

-- of an instruction at a place
abbrev pub row_of : RowScope → Frame → ℕ → Instr → Row
row_of s f at Nop = plain f [] []
row_of s f at (Const imm) = imm_row f imm
row_of s f at (Ldc index) = const_row f (constant_at s.pool index)
row_of s f at (Ldc2 index) = const_row f (constant_at s.pool index)
row_of s f at (Load kind local) = load_row f kind local
row_of s f at (Store kind local) = store_row f kind local
row_of s f at (Iinc local by) = iinc_row f local
row_of s f at (ArrayLoad opcode) = array_load_row f opcode
row_of s f at (ArrayStore opcode) = array_store_row f opcode
row_of s f at (Shuffle opcode) = shuffle_row f opcode
row_of s f at (Pure opcode) = operation_row f (operation_in pure_operations opcode)
row_of s f at (Divide opcode) = operation_row f (operation_in divide_operations opcode)
row_of s f at (FloatAsk opcode) = operation_row f (operation_in float_operations opcode)
row_of s f at (If opcode target) =
    jump_row f (nat_le IFEQ opcode && nat_le opcode IFLE) (of_kind Int ∷ [])
row_of s f at (If2 opcode target) =
    jump_row f (nat_le IF_ICMPEQ opcode && nat_le opcode IF_ICMPLE) (of_kind Int ∷ of_kind Int ∷ [])
row_of s f at (IfSame opcode target) =
    jump_row f (nat_le IF_ACMPEQ opcode && nat_le opcode IF_ACMPNE) (of_kind Ref ∷ of_kind Ref ∷ [])
row_of s f at (IfNull opcode target) =
    jump_row f (nat_le IFNULL opcode && nat_le opcode IFNONNULL) (of_kind Ref ∷ [])
row_of s f at (Goto target) = plain f [] []
row_of s f at (Table low other targets) = plain f (of_kind Int ∷ []) []
row_of s f at (Lookup other pairs) = plain f (of_kind Int ∷ []) []
row_of s f at (Return kind) = return_row s f kind
row_of s f at (GetStatic index) = get_static_row f (reference_of s.pool (constant_at s.pool index))
row_of s f at (PutStatic index) = put_static_row f (reference_of s.pool (constant_at s.pool index))
row_of s f at (GetField index) = get_field_row s f (reference_of s.pool (constant_at s.pool index))
row_of s f at (PutField index) = put_field_row s f (reference_of s.pool (constant_at s.pool index))
row_of s f at (Invoke opcode index count) =
    call_row s f opcode (reference_of s.pool (constant_at s.pool index))
row_of s f at (Dynamic index) = dynamic_row s f (constant_at s.pool index)
row_of s f at (New index) = new_row f at
row_of s f at (NewArray code) = new_array_row f code
row_of s f at (NewRefArray index) = new_ref_array_row s f index
row_of s f at (NewMulti index dimensions) = new_multi_row s f index dimensions
row_of s f at Length = length_row f
row_of s f at Throw = throw_row f
row_of s f at (Cast index) = cast_row f (class_at s.pool index)
row_of s f at (InstanceOf index) = plain f (initialised ∷ []) (types.Int ∷ [])
row_of s f at Enter = plain f (of_kind Ref ∷ []) []
row_of s f at Leave = plain f (of_kind Ref ∷ []) []
