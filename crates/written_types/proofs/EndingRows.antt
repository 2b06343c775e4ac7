-- The rows behind which control does not go on give nothing: those of returns and of athrow.
use Rattle.std.proofs.Common.{◌≡◌, ◌≤◌, inl, inr, ℕ, Bool, true, false, List, Option, Some, None, refl, sym, subst}
use Rattle.std.specs.Prelude.{◌==◌, ◌&&◌, bytes_eq, nat_le}
use Rattle.class_model.specs.Names.{init}
use Rattle.class_model.specs.Pool.{constant_at}
use Rattle.class_model.specs.PoolChecks.{class_at, descriptor_at}
use Rattle.class_model.specs.declared.frame.Frame.{Frame}
use Rattle.class_model.specs.declared.frame.VType.{VType}
use Rattle.class_model.specs.declared.instr.Instr.{Instr}
use Rattle.class_model.specs.declared.instr.Instr.TheVariants.{Ldc, Ldc2, ArrayLoad, ArrayStore, Shuffle, Pure, Divide, FloatAsk, If, If2, IfSame, IfNull, Return, GetStatic, PutStatic, GetField, PutField, Invoke, Dynamic, NewArray, NewRefArray, NewMulti, Throw, Cast}
use Rattle.class_model.specs.declared.opcodes.TheConstants.{AALOAD, AASTORE, IALOAD, IASTORE, IFEQ, IFLE, IFNONNULL, IFNULL, IF_ACMPEQ, IF_ACMPNE, IF_ICMPEQ, IF_ICMPLE, INVOKESPECIAL, INVOKESTATIC}
use Rattle.class_model.specs.declared.pool.Const.{Const as Constant}
use Rattle.class_model.specs.declared.pool.Const.TheVariants as consts
use Rattle.class_tree.specs.Headers.{Name}
use Rattle.making_code.specs.Items.{WItem}
use Rattle.member_link.specs.Bodies.{point_row}
use Rattle.member_link.specs.References.{Reference}
use Rattle.member_link.specs.RowScope.{RowScope}
use Rattle.member_link.specs.Rows.ArithmeticRows.{Operation, divide_operations, float_operations, operation_in, operation_row, pure_operations}
use Rattle.member_link.specs.Rows.ArrayRows.{Elements, array_of, elements_from, elements_load_row, elements_store_row, made_row, primitive_array}
use Rattle.member_link.specs.Rows.LocalRows.{const_row, type_of_const}
use Rattle.member_link.specs.Rows.MemberRows.{call_row, dynamic_row, get_field_row, get_static_row, init_row, put_field_row, put_static_row, special_row}
use Rattle.member_link.specs.Rows.Operands.{Need}
use Rattle.member_link.specs.Rows.Row.{Row, access_aside, either}
use Rattle.member_link.specs.Rows.ShuffleRows.{Form, form_in, form_row, forms_of}
use Rattle.member_link.specs.Rows.Table.{cast_row, jump_row, row_of}
use Rattle.member_link.specs.Signatures.{reference_of}
use Rattle.plan_flow.specs.Written.FramedCode.{greatest_of}
use Rattle.plan_flow.specs.Written.WrittenConstants.{indexed_item}
use Rattle.written_types.proofs.DeepStacks.{GoesOrEnds, deep_enough}
use Rattle.written_types.proofs.FramedBodies.{AreHad}
use Rattle.written_types.specs.Inner.CarriedFrames.{IsDeepEnough}
use Rattle.written_types.specs.Writing.{Writing, point_in, points_in, scope_in}

abbrev Goes : Row → Type 0
Goes row = row.goes_on ≡ true

either_goes : (b : Bool) (one other : Row) → Goes one → Goes other → Goes (either b one other)
either_goes true one other first second = first
either_goes false one other first second = second

const_goes : (f : Frame) (constant : Option Constant) → Goes (const_row f constant)
const_goes f None = refl
const_goes f (Some constant) = by (type_of_const constant) refl where
  by : (found : Option VType) → type_of_const constant ≡ found → Goes (const_row f (Some constant))
  by None is = subst (λ (b : Bool). b ≡ true) (sym (rw is refl)) refl
  by (Some type) is = subst (λ (b : Bool). b ≡ true) (sym (rw is refl)) refl

load_goes : (f : Frame) (found : Option Elements) → Goes (elements_load_row f found)
load_goes f None = refl
load_goes f (Some e) = refl

store_goes : (f : Frame) (found : Option Elements) → Goes (elements_store_row f found)
store_goes f None = refl
store_goes f (Some e) = refl

form_goes : (f : Frame) (found : Option Form) → Goes (form_row f found)
form_goes f None = refl
form_goes f (Some form) = refl

operation_goes : (f : Frame) (found : Option Operation) → Goes (operation_row f found)
operation_goes f None = refl
operation_goes f (Some o) = refl

jump_goes : (f : Frame) (known : Bool) (takes : List Need) → Goes (jump_row f known takes)
jump_goes f true takes = refl
jump_goes f false takes = refl

made_goes : (f : Frame) (count : ℕ) (name : Option Name) → Goes (made_row f count name)
made_goes f count None = refl
made_goes f count (Some name) = refl

cast_goes : (f : Frame) (name : Option Name) → Goes (cast_row f name)
cast_goes f None = refl
cast_goes f (Some name) = refl

get_static_goes : (f : Frame) (r : Option Reference) → Goes (get_static_row f r)
get_static_goes f None = refl
get_static_goes f (Some r) = refl

put_static_goes : (f : Frame) (r : Option Reference) → Goes (put_static_row f r)
put_static_goes f None = refl
put_static_goes f (Some r) = refl

get_goes : (s : RowScope) (f : Frame) (r : Option Reference) → Goes (get_field_row s f r)
get_goes s f None = refl
get_goes s f (Some r) = refl

put_goes : (s : RowScope) (f : Frame) (r : Option Reference) → Goes (put_field_row s f r)
put_goes s f None = refl
put_goes s f (Some r) = refl

call_goes : (s : RowScope) (f : Frame) (opcode : ℕ) (r : Option Reference) → Goes (call_row s f opcode r)
call_goes s f opcode None = refl
call_goes s f opcode (Some r) =
    either_goes (opcode == INVOKESTATIC) _ _ refl
    (either_goes (opcode == INVOKESPECIAL) _ _ (either_goes (bytes_eq r.name init) (init_row s f r) (special_row s f r) refl refl) refl)

dynamic_goes : (s : RowScope) (f : Frame) (constant : Option Constant) → Goes (dynamic_row s f constant)
dynamic_goes s f (Some (consts.InvokeDynamic bootstrap member)) = by (descriptor_at s.pool member) refl where
  by : (found : Option (List ℕ)) → descriptor_at s.pool member ≡ found → Goes (dynamic_row s f (Some (consts.InvokeDynamic bootstrap member)))
  by None is = rw is refl
  by (Some desc) is = rw is refl
dynamic_goes s f None = refl
dynamic_goes s f (Some other) = refl

aside : (row : Row) → GoesOrEnds row → GoesOrEnds (access_aside row)
aside row (inl goes) = inl goes
aside row (inr ends) = inr (record { gives = ends.gives; becomes = ends.becomes })

-- Control goes on behind each row, or it ends.
pub row_goes : (s : RowScope) (f : Frame) (at : ℕ) (instr : Instr) → GoesOrEnds (row_of s f at instr)
row_goes s f at (Ldc index) = inl (const_goes f (constant_at s.pool index))
row_goes s f at (Ldc2 index) = inl (const_goes f (constant_at s.pool index))
row_goes s f at (ArrayLoad opcode) = inl (either_goes (opcode == AALOAD) _ _ refl (load_goes f (elements_from IALOAD opcode)))
row_goes s f at (ArrayStore opcode) = inl (either_goes (opcode == AASTORE) _ _ refl (store_goes f (elements_from IASTORE opcode)))
row_goes s f at (Shuffle opcode) = inl (form_goes f (form_in (forms_of opcode) f.stack))
row_goes s f at (Pure opcode) = inl (operation_goes f (operation_in pure_operations opcode))
row_goes s f at (Divide opcode) = inl (operation_goes f (operation_in divide_operations opcode))
row_goes s f at (FloatAsk opcode) = inl (operation_goes f (operation_in float_operations opcode))
row_goes s f at (If opcode target) = inl (jump_goes f (nat_le IFEQ opcode && nat_le opcode IFLE) _)
row_goes s f at (If2 opcode target) = inl (jump_goes f (nat_le IF_ICMPEQ opcode && nat_le opcode IF_ICMPLE) _)
row_goes s f at (IfSame opcode target) = inl (jump_goes f (nat_le IF_ACMPEQ opcode && nat_le opcode IF_ACMPNE) _)
row_goes s f at (IfNull opcode target) = inl (jump_goes f (nat_le IFNULL opcode && nat_le opcode IFNONNULL) _)
row_goes s f at (Return None) = inr (record { gives = refl; becomes = λ entries. refl })
row_goes s f at (Return (Some kind)) = inr (record { gives = refl; becomes = λ entries. refl })
row_goes s f at (GetStatic index) = inl (get_static_goes f (reference_of s.pool (constant_at s.pool index)))
row_goes s f at (PutStatic index) = inl (put_static_goes f (reference_of s.pool (constant_at s.pool index)))
row_goes s f at (GetField index) = inl (get_goes s f (reference_of s.pool (constant_at s.pool index)))
row_goes s f at (PutField index) = inl (put_goes s f (reference_of s.pool (constant_at s.pool index)))
row_goes s f at (Invoke opcode index count) = inl (call_goes s f opcode (reference_of s.pool (constant_at s.pool index)))
row_goes s f at (Dynamic index) = inl (dynamic_goes s f (constant_at s.pool index))
row_goes s f at (NewArray code) = inl (made_goes f 1 (primitive_array code))
row_goes s f at (NewRefArray index) = inl (made_goes f 1 (array_of (class_at s.pool index)))
row_goes s f at (NewMulti index dimensions) = inl (made_goes f dimensions (class_at s.pool index))
row_goes s f at Throw = inr (record { gives = refl; becomes = λ entries. refl })
row_goes s f at (Cast index) = inl (cast_goes f (class_at s.pool index))
row_goes s f at instr = inl refl

point_goes : (w : Writing) (number : ℕ) (one : WItem) (frame : Frame) → GoesOrEnds (point_row (point_in w number one) frame)
point_goes w number one frame = aside (row_of (scope_in w) frame number instr) (row_goes (scope_in w) frame number instr) where
  instr : Instr
  instr = (indexed_item w.s w.constructor w.pool w.form w.blocks number one).instr

-- The greatest depth of the frames that are there is enough.
pub is_deep_enough : (w : Writing) (frames : List Frame) → AreHad w frames → greatest_of (points_in w) frames ≤ w.max_stack → IsDeepEnough w
is_deep_enough w frames had most = deep_enough w frames (point_goes w) had most
