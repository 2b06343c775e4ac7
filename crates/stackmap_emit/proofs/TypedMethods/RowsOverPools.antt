-- What a row asks holds, and what it leaves is the same, where the pool has more constants at its end and the news of the code are as before.
use Rattle.std.proofs.Common.{◌≡◌, ◌++◌, ◌∙◌, ℕ, Bool, true, false, List, [], ◌∷◌, bytes_eq, length, map, Option, Some, None, refl, sym, ap, subst}
use Rattle.std.specs.Prelude.{◌==◌}
use Rattle.class_model.specs.Names.{init}
use Rattle.class_model.specs.Pool.{Constants, constant_at}
use Rattle.class_model.specs.PoolChecks.{class_at, descriptor_at}
use Rattle.class_model.specs.declared.descriptor.Kind.{Kind}
use Rattle.class_model.specs.declared.frame.Frame.{Frame}
use Rattle.class_model.specs.declared.frame.VType.{VType}
use Rattle.class_model.specs.declared.frame.VType.TheVariants as types
use Rattle.class_model.specs.declared.instr.Instr.{Instr}
use Rattle.class_model.specs.declared.instr.Instr.TheVariants.{Nop, Const, Ldc, Ldc2, Load, Store, Iinc, ArrayLoad, ArrayStore, Shuffle, Pure, Divide, FloatAsk, If, If2, IfSame, IfNull, Goto, Table, Lookup, Return, GetStatic, PutStatic, GetField, PutField, Invoke, Dynamic, New, NewArray, NewRefArray, NewMulti, Length, Throw, Cast, InstanceOf, Enter, Leave}
use Rattle.class_model.specs.declared.opcodes.TheConstants.{INVOKESPECIAL, INVOKESTATIC}
use Rattle.class_model.specs.declared.pool.Const.{Const as Constant}
use Rattle.class_model.specs.declared.pool.Const.TheVariants as consts
use Rattle.class_tree.specs.Headers.{Name}
use Rattle.member_link.specs.BodyTyping.{RowHolds}
use Rattle.member_link.specs.References.{Reference}
use Rattle.member_link.specs.RowScope.{RowScope}
use Rattle.member_link.specs.Rows.ArrayRows.{array_of, made_row}
use Rattle.member_link.specs.Rows.LocalRows.{const_row}
use Rattle.member_link.specs.Rows.MemberRows.{MayInitialise, MayPut, MayReturn, MayReturnValue, argument_needs, call_row, dynamic_row, get_field_row, get_static_row, init_row, initialised_type, instance_row, PassesMethod, put_field_row, put_static_row, receiver, result_types, return_row, special_row, static_row}
use Rattle.member_link.specs.Rows.Operands.{AllFit, Fits, Need, array_among, array_of_references, assignable_or_this, assignable_to, double, initialised, lowest_of, nothing, of_kind, single, some_array, topmost, under, uninitialised}
use Rattle.member_link.specs.Rows.Row.{Row, access_aside, either, no_row, plain, row_frame, stack_behind}
use Rattle.member_link.specs.Rows.Table.{cast_row, row_of}
use Rattle.member_link.specs.Signatures.{reference_of, result_of}
use Rattle.row_frames.specs.Laws.MorePools.{class_more, constant_more, descriptor_more, reference_more}

module _ (s : RowScope) (more : Constants) (news : ℕ → Option Name)
    (kept : (at : ℕ) (class : Name) → s.new_class at ≡ Some class → news at ≡ Some class) where
  abbrev pub over : RowScope
  over = record s { pool = s.pool ++ more; new_class = news }

  -- ---- operands

  fits_over : (need : Need) (type : VType) → Fits s need type → Fits over need type
  fits_over (of_kind kind) type fits = fits
  fits_over initialised type fits = fits
  fits_over uninitialised type fits = fits
  fits_over (assignable_to wanted) type fits = fits
  fits_over (assignable_or_this wanted) type fits = fits
  fits_over (array_among names) type fits = fits
  fits_over array_of_references type fits = fits
  fits_over some_array type fits = fits
  fits_over single type fits = fits
  fits_over double type fits = fits
  fits_over nothing type fits = fits

  all_fit_over : (needs : List Need) (entries : List VType) → AllFit s needs entries → AllFit over needs entries
  all_fit_over [] [] fit = tt
  all_fit_over [] (entry ∷ entries) fit = absurd fit
  all_fit_over (need ∷ needs) [] fit = absurd fit
  all_fit_over (need ∷ needs) (entry ∷ entries) fit = (fits_over need entry fit.0, all_fit_over needs entries fit.1)

  -- ---- rows

  -- The other row holds where the first one does, and leaves the same.
  abbrev pub Stays : Frame → Row → Row → Type 0
  Stays f row also =
      RowHolds s f (access_aside row) → RowHolds over f (access_aside also) × (row_frame f also ≡ row_frame f row)

  itself : (f : Frame) (row : Row) → Stays f row row
  itself f row holds = (
    record {
      operands = all_fit_over row.takes (topmost (length row.takes) f.stack) holds.operands;
      local = holds.local;
      depth_fits = holds.depth_fits;
      further = holds.further;
      access = tt;
    },
    refl,
  )

  -- the same but for the further condition
  conditioned : (f : Frame) (row : Row) (Also : Type 0) → (row.further → Also) → Stays f row (record row { further = Also })
  conditioned f row Also also holds = (
    record {
      operands = all_fit_over row.takes (topmost (length row.takes) f.stack) holds.operands;
      local = holds.local;
      depth_fits = holds.depth_fits;
      further = also holds.further;
      access = tt;
    },
    refl,
  )

  no_entries : (f : Frame) (entries : List VType) → AllFit s (nothing ∷ []) entries → ⊥
  no_entries f [] fit = fit
  no_entries f (entry ∷ entries) fit = fit.0

  no_row_holds : (f : Frame) → RowHolds s f (access_aside (no_row f)) → ⊥
  no_row_holds f holds = no_entries f (topmost 1 f.stack) holds.operands

  none_stays : (f : Frame) (also : Row) → Stays f (no_row f) also
  none_stays f also holds = absurd (no_row_holds f holds)

  -- a row by what an index names
  named_stays : {X : Type 0} (f : Frame) (row also : Option X → Row) (found there : Option X)
      → ((x : X) → found ≡ Some x → there ≡ Some x)
      → ((x : X) → Stays f (row (Some x)) (also (Some x)))
      → Stays f (row None) (also there)
      → Stays f (row found) (also there)
  named_stays {X} f row also found there same some none = by found refl where
    by : (o : Option X) → found ≡ o → Stays f (row found) (also there)
    by None e = subst (λ (o : Option X). Stays f (row o) (also there)) (sym e) none
    by (Some x) e =
        subst (λ (o : Option X). Stays f (row o) (also there)) (sym e)
        (subst (λ (o : Option X). Stays f (row (Some x)) (also o)) (sym (same x e)) (some x))

  constant_stays : (f : Frame) (index : ℕ) (row : Option Constant → Row) → ((also : Row) → Stays f (row None) also)
      → Stays f (row (constant_at s.pool index)) (row (constant_at over.pool index))
  constant_stays f index row none =
      named_stays f row row (constant_at s.pool index) (constant_at over.pool index) (constant_more s.pool more index)
      (λ c. itself f (row (Some c))) (none (row (constant_at over.pool index)))

  class_stays : (f : Frame) (index : ℕ) (row : Option Name → Row) → ((also : Row) → Stays f (row None) also)
      → Stays f (row (class_at s.pool index)) (row (class_at over.pool index))
  class_stays f index row none =
      named_stays f row row (class_at s.pool index) (class_at over.pool index) (class_more s.pool more index)
      (λ c. itself f (row (Some c))) (none (row (class_at over.pool index)))

  reference_stays : (f : Frame) (index : ℕ) (row also : Option Reference → Row) → ((r : Reference) → Stays f (row (Some r)) (also (Some r)))
      → ((other : Row) → Stays f (row None) other)
      → Stays f (row (reference_of s.pool (constant_at s.pool index))) (also (reference_of over.pool (constant_at over.pool index)))
  reference_stays f index row also some none =
      named_stays f row also (reference_of s.pool (constant_at s.pool index)) (reference_of over.pool (constant_at over.pool index))
      (reference_more s.pool more index) some (none (also (reference_of over.pool (constant_at over.pool index))))

  -- ---- members

  may_put : (r : Reference) (type : VType) → MayPut s r type → MayPut over r type
  may_put r types.UninitThis may = may
  may_put r other may = may

  put_stays : (f : Frame) (r : Reference) → Stays f (put_field_row s f (Some r)) (put_field_row over f (Some r))
  put_stays f r = conditioned f (put_field_row s f (Some r)) (MayPut over r (lowest_of 2 f.stack)) (may_put r (lowest_of 2 f.stack))

  may_initialise : (r : Reference) (object : VType) → MayInitialise s r object → MayInitialise over r object
  may_initialise r (types.Uninit at) may = kept at r.class may
  may_initialise r types.UninitThis may = may
  may_initialise r other may = absurd may

  type_same : (r : Reference) (object type : VType) → initialised_type over r object type ≡ initialised_type s r object type
  type_same r (types.Uninit at) type = refl
  type_same r types.UninitThis type = refl
  type_same r other type = refl

  types_same : (r : Reference) (object : VType) (entries : List VType)
      → map (initialised_type over r object) entries ≡ map (initialised_type s r object) entries
  types_same r object [] = refl
  types_same r object (entry ∷ entries) = rw (type_same r object entry, types_same r object entries) refl

  init_stays : (f : Frame) (r : Reference) → Stays f (init_row s f r) (init_row over f r)
  init_stays f r holds =
      let object = receiver f r.desc in
      let row = init_row s f r in
      let behind : stack_behind f (init_row over f r) ≡ stack_behind f row =
      ap (λ (entries : List VType). entries ++ row.gives) (types_same r object (under (length row.takes) f.stack)) in (
        record {
          operands = all_fit_over row.takes (topmost (length row.takes) f.stack) holds.operands;
          local = holds.local;
          depth_fits = rw (behind) holds.depth_fits;
          further = may_initialise r object holds.further;
          access = tt;
        },
        ap (λ (locals : List VType). Some (record { locals = locals; stack = stack_behind f (init_row over f r) }))
            (types_same r object f.locals)
            ∙ ap (λ (stack : List VType). Some (record { locals = row.locals; stack = stack })) behind,
      )

  abbrev call_by : RowScope → Frame → Reference → Bool → Bool → Bool → Row
  call_by t f r is_static is_special is_init =
      either is_static (static_row f r)
      (either is_special (either is_init (init_row t f r) (special_row t f r))
      (instance_row f r (Unit {0}) (PassesMethod t r (receiver f r.desc))))

  call_stays : (f : Frame) (opcode : ℕ) (r : Reference) → Stays f (call_row s f opcode (Some r)) (call_row over f opcode (Some r))
  call_stays f opcode r = by (opcode == INVOKESTATIC) (opcode == INVOKESPECIAL) (bytes_eq r.name init) where
    by : (is_static is_special is_init : Bool) → Stays f (call_by s f r is_static is_special is_init) (call_by over f r is_static is_special is_init)
    by true is_special is_init = itself f (static_row f r)
    by false true true = init_stays f r
    by false true false = itself f (special_row s f r)
    by false false is_init = itself f (instance_row f r (Unit {0}) (PassesMethod s r (receiver f r.desc)))

  dynamic_stays : (f : Frame) (constant : Option Constant) → Stays f (dynamic_row s f constant) (dynamic_row over f constant)
  dynamic_stays f None = itself f (no_row f)
  dynamic_stays f (Some (consts.InvokeDynamic bootstrap member)) = by (descriptor_at s.pool member) refl where
    by : (desc : Option (List ℕ)) → descriptor_at s.pool member ≡ desc
        → Stays f (dynamic_row s f (Some (consts.InvokeDynamic bootstrap member)))
        (dynamic_row over f (Some (consts.InvokeDynamic bootstrap member)))
    by None e = rw (e) (none_stays f (dynamic_row over f (Some (consts.InvokeDynamic bootstrap member))))
    by (Some desc) e =
        rw (e, descriptor_more s.pool more member desc e) (itself f (plain f (argument_needs desc) (result_types (result_of desc))))
  dynamic_stays f (Some other) = itself f (no_row f)

  -- ---- returns

  may_return : (f : Frame) → MayReturn s f → MayReturn over f
  may_return f may = record { no_result = may.no_result; initialised = may.initialised }

  may_return_value : (kind : Kind) (value : VType) → MayReturnValue s kind value → MayReturnValue over kind value
  may_return_value kind value may = record {
    type = may.type;
    is_result = may.is_result;
    same_kind = may.same_kind;
    assignable = may.assignable;
  }

  return_stays : (f : Frame) (kind : Option Kind) → Stays f (return_row s f kind) (return_row over f kind)
  return_stays f None = conditioned f (return_row s f None) (MayReturn over f) (may_return f)
  return_stays f (Some kind) =
      conditioned f (return_row s f (Some kind)) (MayReturnValue over kind (lowest_of 1 f.stack)) (may_return_value kind (lowest_of 1 f.stack))

  -- ---- the table

  pub row_stays : (f : Frame) (at : ℕ) (instr : Instr) → Stays f (row_of s f at instr) (row_of over f at instr)
  row_stays f at (Ldc index) = constant_stays f index (const_row f) (none_stays f)
  row_stays f at (Ldc2 index) = constant_stays f index (const_row f) (none_stays f)
  row_stays f at (Return kind) = return_stays f kind
  row_stays f at (GetStatic index) = reference_stays f index (get_static_row f) (get_static_row f) (λ r. itself f (get_static_row f (Some r))) (none_stays f)
  row_stays f at (PutStatic index) = reference_stays f index (put_static_row f) (put_static_row f) (λ r. itself f (put_static_row f (Some r))) (none_stays f)
  row_stays f at (GetField index) =
      reference_stays f index (get_field_row s f) (get_field_row over f) (λ r. itself f (get_field_row s f (Some r))) (none_stays f)
  row_stays f at (PutField index) = reference_stays f index (put_field_row s f) (put_field_row over f) (put_stays f) (none_stays f)
  row_stays f at (Invoke opcode index count) =
      reference_stays f index (call_row s f opcode) (call_row over f opcode) (call_stays f opcode) (none_stays f)
  row_stays f at (Dynamic index) = by (constant_at s.pool index) refl where
    by : (o : Option Constant) → constant_at s.pool index ≡ o → Stays f (row_of s f at (Dynamic index)) (row_of over f at (Dynamic index))
    by None e = rw (e) (none_stays f (row_of over f at (Dynamic index)))
    by (Some c) e = rw (e, constant_more s.pool more index c e) (dynamic_stays f (Some c))
  row_stays f at (NewRefArray index) = class_stays f index (λ name. made_row f 1 (array_of name)) (none_stays f)
  row_stays f at (NewMulti index dimensions) = class_stays f index (made_row f dimensions) (none_stays f)
  row_stays f at (Cast index) = class_stays f index (cast_row f) (none_stays f)
  row_stays f at Nop = itself f (row_of s f at Nop)
  row_stays f at (Const imm) = itself f (row_of s f at (Const imm))
  row_stays f at (Load kind local) = itself f (row_of s f at (Load kind local))
  row_stays f at (Store kind local) = itself f (row_of s f at (Store kind local))
  row_stays f at (Iinc local by) = itself f (row_of s f at (Iinc local by))
  row_stays f at (ArrayLoad opcode) = itself f (row_of s f at (ArrayLoad opcode))
  row_stays f at (ArrayStore opcode) = itself f (row_of s f at (ArrayStore opcode))
  row_stays f at (Shuffle opcode) = itself f (row_of s f at (Shuffle opcode))
  row_stays f at (Pure opcode) = itself f (row_of s f at (Pure opcode))
  row_stays f at (Divide opcode) = itself f (row_of s f at (Divide opcode))
  row_stays f at (FloatAsk opcode) = itself f (row_of s f at (FloatAsk opcode))
  row_stays f at (If opcode target) = itself f (row_of s f at (If opcode target))
  row_stays f at (If2 opcode target) = itself f (row_of s f at (If2 opcode target))
  row_stays f at (IfSame opcode target) = itself f (row_of s f at (IfSame opcode target))
  row_stays f at (IfNull opcode target) = itself f (row_of s f at (IfNull opcode target))
  row_stays f at (Goto target) = itself f (row_of s f at (Goto target))
  row_stays f at (Table low other targets) = itself f (row_of s f at (Table low other targets))
  row_stays f at (Lookup other pairs) = itself f (row_of s f at (Lookup other pairs))
  row_stays f at (New index) = itself f (row_of s f at (New index))
  row_stays f at (NewArray code) = itself f (row_of s f at (NewArray code))
  row_stays f at Length = itself f (row_of s f at Length)
  row_stays f at Throw = itself f (row_of s f at Throw)
  row_stays f at (InstanceOf index) = itself f (row_of s f at (InstanceOf index))
  row_stays f at Enter = itself f (row_of s f at Enter)
  row_stays f at Leave = itself f (row_of s f at Leave)
