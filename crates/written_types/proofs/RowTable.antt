-- What each instruction of a flat code leaves, with types.
use Rattle.std.proofs.Common.{◌≡◌, ℕ, Bool, true, [], ◌∷◌, Option, Some, None, refl, sym, subst, slice_get}
use Rattle.std.specs.Prelude.{◌==◌, ◌&&◌, nat_le, option_and_then}
use Rattle.class_model.specs.Pool.{Constants, constant_at}
use Rattle.class_model.specs.PoolChecks.{class_at}
use Rattle.class_model.specs.declared.class_file.ClassFile.{ClassFile}
use Rattle.class_model.specs.declared.descriptor.Kind.TheVariants as kinds
use Rattle.class_model.specs.declared.frame.Frame.{Frame}
use Rattle.class_model.specs.declared.frame.VType.TheVariants as types
use Rattle.class_model.specs.declared.instr.Instr.{Instr}
use Rattle.class_model.specs.declared.instr.Instr.TheVariants.{Nop, Const, Ldc, Ldc2, Load, Store, Iinc, ArrayLoad, ArrayStore, Shuffle, Pure, Divide, FloatAsk, If, If2, IfSame, IfNull, Goto, Table, Lookup, Return, GetStatic, PutStatic, GetField, PutField, Invoke, Dynamic, New, NewArray, NewRefArray, NewMulti, Length, Throw, Cast, InstanceOf, Enter, Leave}
use Rattle.class_model.specs.declared.opcodes.TheConstants.{AALOAD, AASTORE, IALOAD, IASTORE, IFEQ, IFLE, IFNONNULL, IFNULL, IF_ACMPEQ, IF_ACMPNE, IF_ICMPEQ, IF_ICMPLE}
use Rattle.class_tree.specs.Headers.{headers_of}
use Rattle.flow_code.specs.ReadTypes.{read_frame}
use Rattle.flow_code.specs.declared.point.FlatInstr.{FlatInstr}
use Rattle.flow_code.specs.declared.point.FlatInstr.TheVariants.{Of, NullTest}
use Rattle.member_link.specs.Bodies.{item_row}
use Rattle.member_link.specs.BodyTyping.{RowHolds}
use Rattle.member_link.specs.Machine.CallSteps.{is_object_init}
use Rattle.member_link.specs.References.{Reference}
use Rattle.member_link.specs.RowScope.{RowScope}
use Rattle.member_link.specs.Rows.ArithmeticRows.{divide_operations, float_operations, operation_in, pure_operations}
use Rattle.member_link.specs.Rows.ArrayRows.{array_of, elements_from, primitive_array}
use Rattle.member_link.specs.Rows.Operands.{of_kind}
use Rattle.member_link.specs.Rows.Readings.{row_by}
use Rattle.member_link.specs.Rows.Row.{Row}
use Rattle.member_link.specs.Scope.{Scope}
use Rattle.member_link.specs.Signatures.{reference_of}
use Rattle.plan_flow.specs.Must.{AsksFor}
use Rattle.plan_flow.specs.PlanRows.{PlanRow, Position, plain_value}
use Rattle.plan_flow.specs.PlanScope.{PlanScope, pool_of}
use Rattle.plan_flow.specs.PlanTable.{call_row, cast_row, dynamic_row, get_field_row, moving, positions, put_field_row, row_at, throwing, value_stored}
use Rattle.same_runs.specs.Flats.{flat_item, host_scope, instr_scope, pool_of as flat_pool}
use Rattle.same_runs.specs.TypedFlats.{reading_of}
use Rattle.virtual_state.specs.States.{State}
use Rattle.written_types.proofs.CallRows.{IsObjectInit, call_leaves, dynamic_leaves}
use Rattle.written_types.proofs.MemberRows.{cast_leaves, enter_leaves, get_field_leaves, get_static_leaves, leave_leaves, new_leaves, put_field_leaves, put_static_leaves}
use Rattle.written_types.proofs.OperandRows.{Leaves, array_load_leaves, array_store_leaves, const_leaves, gives_none, gives_plain, imm_leaves, jump_leaves, load_leaves, made_leaves, new_of_loaded, null_leaves, operation_leaves, same_leaves, store_leaves}
use Rattle.written_types.proofs.SiteFields.{SitesKnown}
use Rattle.written_types.proofs.StackRows.{shuffle_leaves}
use Rattle.written_types.proofs.Standing.{Standing}
use Rattle.written_types.specs.FitsTypes.{IsReachedNew}

-- control goes on behind an instruction, or at a target
abbrev pub IsGoing : Instr → Type 0
IsGoing (Return kind) = ⊥
IsGoing Throw = ⊥
IsGoing instr = Unit {0}

abbrev pub GoesOn : FlatInstr → Type 0
GoesOn (Of class instr) = IsGoing instr
GoesOn (NullTest local) = Unit {0}

-- the initialiser of java/lang/Object is called as it may be
abbrev pub CallsObjectInit : PlanScope → FlatInstr → Type 0
CallsObjectInit s (Of class (Invoke opcode index count)) =
    (r : Reference)
    → reference_of (flat_pool s.classes class) (constant_at (flat_pool s.classes class) index) ≡ Some r
    → is_object_init r ≡ true
    → IsObjectInit opcode r
CallsObjectInit s instr = Unit {0}

-- a plan and the typing of code read the same constants
pub same_pool : (s : PlanScope) (class : ℕ) → pool_of s class ≡ flat_pool s.classes class
same_pool s class = by (slice_get s.classes.folder class) refl where
  by : (found : Option ClassFile) → slice_get s.classes.folder class ≡ found → pool_of s class ≡ flat_pool s.classes class
  by None none = rw none refl
  by (Some file) some = rw some refl

module _ (s : PlanScope) (reached : ℕ → Bool) (f : Frame) (before : State) (st : Standing s reached f before) (scope : Scope)
    (known : SitesKnown s) (headers_are : scope.headers ≡ headers_of s.classes) (number : ℕ) where
  abbrev rf : Frame
  rf = read_frame s.flat f

  abbrev pub own_row : FlatInstr → Row
  own_row i = row_by (reading_of s.classes s.flat number f i) rf (item_row (instr_scope s.classes scope s.flat i) rf number (flat_item i))

  abbrev sc : ℕ → RowScope
  sc class = record (host_scope s.classes scope s.flat) { pool = flat_pool s.classes class }

  abbrev NoneAsked : PlanRow → Type 0
  NoneAsked p =
      (at : ℕ) (position : Position) (site : ℕ) → slice_get (positions p) at ≡ Some position → AsksFor s before position site → ⊥

  pub instr_leaves : (i : FlatInstr) → GoesOn i → ((class index : ℕ) → i ≡ Of class (New index) → IsReachedNew s reached number)
      → CallsObjectInit s i
      → NoneAsked (row_at s number f i)
      → RowHolds (instr_scope s.classes scope s.flat i) rf (own_row i)
      → Leaves s reached f before st (instr_scope s.classes scope s.flat i) (row_at s number f i) (own_row i)
  instr_leaves (NullTest local) goes here inits asks held = gives_none s reached f before st (host_scope s.classes scope s.flat) _ 0 refl refl refl
  instr_leaves (Of class Nop) goes here inits asks held = gives_none s reached f before st (sc class) _ 0 refl refl refl
  instr_leaves (Of class (Const imm)) goes here inits asks held = imm_leaves s reached f before st (sc class) imm
  instr_leaves (Of class (Ldc index)) goes here inits asks held =
      const_leaves s reached f before st (sc class) (constant_at (flat_pool s.classes class) index) held.operands
  instr_leaves (Of class (Ldc2 index)) goes here inits asks held =
      const_leaves s reached f before st (sc class) (constant_at (flat_pool s.classes class) index) held.operands
  instr_leaves (Of class (Load kind local)) goes here inits asks held = load_leaves s reached f before st (sc class) kind local held.local
  instr_leaves (Of class (Store kind local)) goes here inits asks held =
      store_leaves s reached f before st (sc class) kind local held.local held.operands
  instr_leaves (Of class (Iinc local by)) goes here inits asks held = gives_none s reached f before st (sc class) _ 0 refl refl refl
  instr_leaves (Of class (ArrayLoad opcode)) goes here inits asks held =
      array_load_leaves s reached f before st (sc class) (opcode == AALOAD) (elements_from IALOAD opcode) (new_of_loaded s reached IALOAD opcode)
      held.operands
  instr_leaves (Of class (ArrayStore opcode)) goes here inits asks held =
      array_store_leaves s reached f before st (sc class) (record (throwing f 3 []) { asks = value_stored f }) refl refl refl (opcode == AASTORE)
      (elements_from IASTORE opcode) held.operands
  instr_leaves (Of class (Shuffle opcode)) goes here inits asks held = shuffle_leaves s reached f before st (sc class) opcode held.operands
  instr_leaves (Of class (Pure opcode)) goes here inits asks held =
      operation_leaves s reached f before st (sc class) (λ count. moving f count (plain_value ∷ [])) (λ count. refl) (λ count. refl) (λ count. refl)
      (operation_in pure_operations opcode) held.operands
  instr_leaves (Of class (Divide opcode)) goes here inits asks held =
      operation_leaves s reached f before st (sc class) (λ count. throwing f count (plain_value ∷ [])) (λ count. refl) (λ count. refl) (λ count. refl)
      (operation_in divide_operations opcode) held.operands
  instr_leaves (Of class (FloatAsk opcode)) goes here inits asks held =
      operation_leaves s reached f before st (sc class) (λ count. moving f count (plain_value ∷ [])) (λ count. refl) (λ count. refl) (λ count. refl)
      (operation_in float_operations opcode) held.operands
  instr_leaves (Of class (If opcode target)) goes here inits asks held =
      jump_leaves s reached f before st (sc class) (moving f 1 []) (of_kind kinds.Int ∷ []) refl refl refl
      (nat_le IFEQ opcode && nat_le opcode IFLE) held.operands
  instr_leaves (Of class (If2 opcode target)) goes here inits asks held =
      jump_leaves s reached f before st (sc class) (moving f 2 []) (of_kind kinds.Int ∷ of_kind kinds.Int ∷ []) refl refl refl
      (nat_le IF_ICMPEQ opcode && nat_le opcode IF_ICMPLE) held.operands
  instr_leaves (Of class (IfSame opcode target)) goes here inits asks held =
      same_leaves s reached f before st (sc class) opcode (of_kind kinds.Ref ∷ of_kind kinds.Ref ∷ []) refl
      (nat_le IF_ACMPEQ opcode && nat_le opcode IF_ACMPNE) held.operands
  instr_leaves (Of class (IfNull opcode target)) goes here inits asks held =
      null_leaves s reached f before st (sc class) opcode (of_kind kinds.Ref ∷ []) refl (nat_le IFNULL opcode && nat_le opcode IFNONNULL)
      held.operands
  instr_leaves (Of class (Goto target)) goes here inits asks held = gives_none s reached f before st (sc class) _ 0 refl refl refl
  instr_leaves (Of class (Table low other targets)) goes here inits asks held = gives_none s reached f before st (sc class) _ 1 refl refl refl
  instr_leaves (Of class (Lookup other pairs)) goes here inits asks held = gives_none s reached f before st (sc class) _ 1 refl refl refl
  instr_leaves (Of class (Return kind)) goes here inits asks held = absurd goes
  instr_leaves (Of class (GetStatic index)) goes here inits asks held =
      get_static_leaves s reached f before st (sc class) known headers_are
      (reference_of (flat_pool s.classes class) (constant_at (flat_pool s.classes class) index)) held.operands
  instr_leaves (Of class (PutStatic index)) goes here inits asks held =
      put_static_leaves s reached f before st (sc class) known headers_are
      (reference_of (flat_pool s.classes class) (constant_at (flat_pool s.classes class) index)) held.operands
  instr_leaves (Of class (GetField index)) goes here inits asks held =
      subst (λ (pool : Constants). Leaves s reached f before st (sc class)
      (get_field_row s f (option_and_then s.links.field (reference_of pool (constant_at pool index)))) (own_row (Of class (GetField index))))
      (sym (same_pool s class))
      (get_field_leaves s reached f before st (sc class) known headers_are
      (reference_of (flat_pool s.classes class) (constant_at (flat_pool s.classes class) index)) held.operands)
  instr_leaves (Of class (PutField index)) goes here inits asks held =
      subst (λ (pool : Constants). Leaves s reached f before st (sc class)
      (put_field_row s f (option_and_then s.links.field (reference_of pool (constant_at pool index)))) (own_row (Of class (PutField index))))
      (sym (same_pool s class))
      (put_field_leaves s reached f before st (sc class) known headers_are
      (reference_of (flat_pool s.classes class) (constant_at (flat_pool s.classes class) index)) held.operands)
  instr_leaves (Of class (Invoke opcode index count)) goes here inits asks held =
      subst (λ (pool : Constants). Leaves s reached f before st (sc class)
      (call_row f opcode (reference_of pool (constant_at pool index))) (own_row (Of class (Invoke opcode index count))))
      (sym (same_pool s class))
      (call_leaves s reached f before st (sc class) opcode
      (reference_of (flat_pool s.classes class) (constant_at (flat_pool s.classes class) index)) inits held.operands)
  instr_leaves (Of class (Dynamic index)) goes here inits asks held =
      subst (λ (pool : Constants). Leaves s reached f before st (sc class)
      (dynamic_row pool f (constant_at pool index)) (own_row (Of class (Dynamic index))))
      (sym (same_pool s class))
      (dynamic_leaves s reached f before st (sc class) (constant_at (flat_pool s.classes class) index) held.operands)
  instr_leaves (Of class (New index)) goes here inits asks held =
      new_leaves s reached f before st (sc class) known headers_are number index (here class index refl)
  instr_leaves (Of class (NewArray code)) goes here inits asks held =
      made_leaves s reached f before st (sc class) 1 (primitive_array code) held.operands
  instr_leaves (Of class (NewRefArray index)) goes here inits asks held =
      made_leaves s reached f before st (sc class) 1 (array_of (class_at (flat_pool s.classes class) index)) held.operands
  instr_leaves (Of class (NewMulti index dimensions)) goes here inits asks held =
      made_leaves s reached f before st (sc class) dimensions (class_at (flat_pool s.classes class) index) held.operands
  instr_leaves (Of class Length) goes here inits asks held = gives_plain s reached f before st (sc class) _ 1 types.Int refl refl refl tt
  instr_leaves (Of class Throw) goes here inits asks held = absurd goes
  instr_leaves (Of class (Cast index)) goes here inits asks held =
      subst (λ (pool : Constants). Leaves s reached f before st (sc class) (cast_row f (class_at pool index)) (own_row (Of class (Cast index))))
      (sym (same_pool s class))
      (cast_leaves s reached f before st (sc class) known headers_are (class_at (flat_pool s.classes class) index) held.operands
      (subst (λ (pool : Constants). NoneAsked (cast_row f (class_at pool index))) (same_pool s class) asks))
  instr_leaves (Of class (InstanceOf index)) goes here inits asks held = gives_plain s reached f before st (sc class) _ 1 types.Int refl refl refl tt
  instr_leaves (Of class Enter) goes here inits asks held =
      enter_leaves s reached f before st (sc class) known headers_are (of_kind kinds.Ref ∷ []) refl
  instr_leaves (Of class Leave) goes here inits asks held =
      leave_leaves s reached f before st (sc class) known headers_are (of_kind kinds.Ref ∷ []) refl
