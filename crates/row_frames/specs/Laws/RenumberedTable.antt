-- The row of each instruction at another number, behind frames whose uninitialised objects have other numbers.
use Rattle.std.proofs.Common.{◌≡◌, inl, ◌≢◌, ℕ, Bool, true, false, List, [], ◌∷◌, map, Option, Some, None, if◌then◌else◌, refl, sym, ap, ◌∙◌, eq-eqb}
use Rattle.std.specs.Prelude.{◌==◌, ◌&&◌, nat_le}
use Rattle.std.specs.List.{AllByRecursion}
use Rattle.std.proofs.lemmas.Bool.{eqb-true}
use Rattle.class_model.specs.Pool.{constant_at}
use Rattle.class_model.specs.PoolChecks.{class_at}
use Rattle.class_model.specs.declared.frame.Frame.{Frame}
use Rattle.class_model.specs.declared.frame.VType.{VType}
use Rattle.class_model.specs.declared.frame.VType.TheVariants as types
use Rattle.class_model.specs.declared.instr.Instr.{Instr}
use Rattle.class_model.specs.declared.instr.Instr.TheVariants.{Nop, Const, Ldc, Ldc2, Load, Store, Iinc, ArrayLoad, ArrayStore, Shuffle, Pure, Divide, FloatAsk, If, If2, IfSame, IfNull, Goto, Table, Lookup, Return, GetStatic, PutStatic, GetField, PutField, Invoke, Dynamic, New, NewArray, NewRefArray, NewMulti, Length, Throw, Cast, InstanceOf, Enter, Leave}
use Rattle.class_model.specs.declared.opcodes.TheConstants.{IFEQ, IFLE, IF_ICMPEQ, IF_ICMPLE, IF_ACMPEQ, IF_ACMPNE, IFNULL, IFNONNULL}
use Rattle.class_tree.specs.Headers.{Name}
use Rattle.row_frames.specs.Laws.NumberedFrames.{numbered_type, numbered_frame}
use Rattle.row_frames.specs.Laws.RenumberedArithmetic.{operation_moves}
use Rattle.row_frames.specs.Laws.RenumberedArrays.{array_load_moves, array_store_moves, length_moves, made_moves}
use Rattle.row_frames.specs.Laws.RenumberedLocals.{const_moves, iinc_moves, imm_moves, load_moves, store_moves}
use Rattle.row_frames.specs.Laws.RenumberedMembers.{KeepsNews, call_moves, dynamic_moves, get_field_moves, get_static_moves, put_field_moves, put_static_moves, return_moves}
use Rattle.row_frames.specs.Laws.RenumberedRows.{Moves, either_moves, ending_moves, no_row_moves, plain_moves}
use Rattle.row_frames.specs.Laws.RenumberedShuffles.{shuffle_moves}
use Rattle.row_frames.specs.Laws.RenumberedTypes.{numbered_need, renumbered}
use Rattle.member_link.specs.RowScope.{RowScope}
use Rattle.member_link.specs.Rows.ArithmeticRows.{pure_operations, divide_operations, float_operations, operation_in}
use Rattle.member_link.specs.Rows.ArrayRows.{array_of, primitive_array}
use Rattle.member_link.specs.Rows.Operands.{Need}
use Rattle.member_link.specs.Rows.Table.{cast_row, jump_row, new_row, row_of, throw_row, without_older}
use Rattle.member_link.specs.Signatures.{reference_of}
use Rattle.member_link.specs.Targets.{with_targets}

module _ (number : ℕ → ℕ) where
  -- ---- objects

  module _ (at : ℕ) (apart : (other : ℕ) → (number other == number at) ≡ (other == at)) where
    older_same : (type : VType) → without_older (number at) (numbered_type number type) ≡ numbered_type number (without_older at type)
    older_same (types.Uninit other) =
        ap (λ (same : Bool). if same then types.Top else types.Uninit (number other)) (apart other) ∙ chosen (other == at) where
          chosen : (same : Bool)
              → (if same then types.Top else types.Uninit (number other)) ≡ numbered_type number
              (if same then types.Top else types.Uninit other)
          chosen true = refl
          chosen false = refl
    older_same type = refl

    all_older_same : (locals : List VType)
        → map (without_older (number at)) (map (numbered_type number) locals) ≡ map (numbered_type number) (map (without_older at) locals)
    all_older_same [] = refl
    all_older_same (type ∷ locals) = rw (older_same type, all_older_same locals) refl

    none_kept : (entries : List VType) → AllByRecursion (λ type. type ≢ types.Uninit at) entries
        → AllByRecursion (λ type. type ≢ types.Uninit (number at)) (map (numbered_type number) entries)
    none_kept [] none = tt
    none_kept (entry ∷ entries) none = (other_kept entry none.0, none_kept entries none.1) where
      other_kept : (type : VType) → type ≢ types.Uninit at → numbered_type number type ≢ types.Uninit (number at)
      other_kept (types.Uninit other) not = λ e.
          let same : number other ≡ number at = cc e in
          not (ap types.Uninit (eqb-true other at (sym (apart other) ∙ eq-eqb (number other) (number at) same)))
      other_kept type not = λ e. absurd cc

    pub new_moves : (f : Frame) → Moves number (new_row f at) (new_row (numbered_frame number f) (number at))
    new_moves f = record {
      takes = refl;
      local = λ held. held;
      gives = refl;
      further = none_kept f.stack;
      access = λ held. held;
      locals = all_older_same f.locals;
      becomes = λ entries. refl;
      goes_on = refl;
      ends = inl refl;
    }

  cast_moves : (f : Frame) (name : Option Name) → Moves number (cast_row f name) (cast_row (numbered_frame number f) name)
  cast_moves f None = no_row_moves number f
  cast_moves f (Some name) = plain_moves number f _ _ _ _ refl refl

  throw_moves : (f : Frame) → Moves number (throw_row f) (throw_row (numbered_frame number f))
  throw_moves f = ending_moves number f _ _ _ _ refl (λ held. held)

  jump_moves : (f : Frame) (is_known : Bool) (takes : List Need) → takes ≡ map (numbered_need number) takes
      → Moves number (jump_row f is_known takes) (jump_row (numbered_frame number f) is_known takes)
  jump_moves f is_known takes same = either_moves number is_known _ _ _ _ (plain_moves number f _ _ _ _ same refl) (no_row_moves number f)

  -- ---- the table

  module _ (s : RowScope) (room : ℕ) (news : ℕ → Option Name) (keeps : KeepsNews number s room news) where
    pub row_moves : (f : Frame) (at : ℕ) → ((other : ℕ) → (number other == number at) ≡ (other == at)) → (instr : Instr)
        → (row_of s f at instr).further
        → Moves number (row_of s f at instr)
        (row_of (renumbered s room news) (numbered_frame number f) (number at) (with_targets number instr))
    row_moves f at apart Nop held = plain_moves number f _ _ _ _ refl refl
    row_moves f at apart (Const imm) held = imm_moves number f imm
    row_moves f at apart (Ldc index) held = const_moves number f (constant_at s.pool index)
    row_moves f at apart (Ldc2 index) held = const_moves number f (constant_at s.pool index)
    row_moves f at apart (Load kind local) held = load_moves number f kind local
    row_moves f at apart (Store kind local) held = store_moves number f kind local
    row_moves f at apart (Iinc local by) held = iinc_moves number f local
    row_moves f at apart (ArrayLoad opcode) held = array_load_moves number f opcode
    row_moves f at apart (ArrayStore opcode) held = array_store_moves number f opcode
    row_moves f at apart (Shuffle opcode) held = shuffle_moves number f opcode
    row_moves f at apart (Pure opcode) held = operation_moves number f (operation_in pure_operations opcode)
    row_moves f at apart (Divide opcode) held = operation_moves number f (operation_in divide_operations opcode)
    row_moves f at apart (FloatAsk opcode) held = operation_moves number f (operation_in float_operations opcode)
    row_moves f at apart (If opcode target) held = jump_moves f (nat_le IFEQ opcode && nat_le opcode IFLE) _ refl
    row_moves f at apart (If2 opcode target) held = jump_moves f (nat_le IF_ICMPEQ opcode && nat_le opcode IF_ICMPLE) _ refl
    row_moves f at apart (IfSame opcode target) held = jump_moves f (nat_le IF_ACMPEQ opcode && nat_le opcode IF_ACMPNE) _ refl
    row_moves f at apart (IfNull opcode target) held = jump_moves f (nat_le IFNULL opcode && nat_le opcode IFNONNULL) _ refl
    row_moves f at apart (Goto target) held = plain_moves number f _ _ _ _ refl refl
    row_moves f at apart (Table low other targets) held = plain_moves number f _ _ _ _ refl refl
    row_moves f at apart (Lookup other pairs) held = plain_moves number f _ _ _ _ refl refl
    row_moves f at apart (Return kind) held = return_moves number s room news f kind
    row_moves f at apart (GetStatic index) held = get_static_moves number f (reference_of s.pool (constant_at s.pool index))
    row_moves f at apart (PutStatic index) held = put_static_moves number f (reference_of s.pool (constant_at s.pool index))
    row_moves f at apart (GetField index) held = get_field_moves number s room news f (reference_of s.pool (constant_at s.pool index))
    row_moves f at apart (PutField index) held = put_field_moves number s room news f (reference_of s.pool (constant_at s.pool index))
    row_moves f at apart (Invoke opcode index count) held =
        call_moves number s room news keeps f opcode (reference_of s.pool (constant_at s.pool index)) held
    row_moves f at apart (Dynamic index) held = dynamic_moves number s room news f (constant_at s.pool index)
    row_moves f at apart (New index) held = new_moves at apart f
    row_moves f at apart (NewArray code) held = made_moves number f 1 (primitive_array code)
    row_moves f at apart (NewRefArray index) held = made_moves number f 1 (array_of (class_at s.pool index))
    row_moves f at apart (NewMulti index dimensions) held = made_moves number f dimensions (class_at s.pool index)
    row_moves f at apart Length held = length_moves number f
    row_moves f at apart Throw held = throw_moves f
    row_moves f at apart (Cast index) held = cast_moves f (class_at s.pool index)
    row_moves f at apart (InstanceOf index) held = plain_moves number f _ _ _ _ refl refl
    row_moves f at apart Enter held = plain_moves number f _ _ _ _ refl refl
    row_moves f at apart Leave held = plain_moves number f _ _ _ _ refl refl
