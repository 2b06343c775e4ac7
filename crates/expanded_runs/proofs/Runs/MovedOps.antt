-- An instruction in another place: its operation is the same one, moved.
use Rattle.std.proofs.Common.{◌≡◌, ◌==◌, ◌+◌, ◌≤◌, ◌&&◌, nat_le, ℕ, Bool, true, false, List, [], ◌∷◌, map, slice_get, Option, Some, None, option_map, refl, sym, ap, subst, if◌then◌else◌}
use Rattle.std.proofs.lemmas.Bool.{eqb-true}
use Rattle.std.proofs.lemmas.Option.{same_Some}
use Rattle.class_model.specs.Code.{FitsLocal, OperandFits}
use Rattle.class_model.specs.Pool.{Constants, constant_at}
use Rattle.class_model.specs.PoolChecks.{class_at, utf8_at}
use Rattle.class_model.specs.declared.descriptor.FieldType.{FieldType}
use Rattle.class_model.specs.declared.descriptor.Kind.{Kind}
use Rattle.class_model.specs.declared.descriptor.Kind.TheVariants as kinds
use Rattle.class_model.specs.declared.instr.Imm.{Imm}
use Rattle.class_model.specs.declared.instr.Imm.TheVariants as imms
use Rattle.class_model.specs.declared.instr.Instr.{Instr}
use Rattle.class_model.specs.declared.instr.Instr.TheVariants.{ArrayLoad, ArrayStore, Cast, Const, Dynamic, GetField, GetStatic, If, If2, IfNull, IfSame, InstanceOf, Invoke, Ldc, Ldc2, Load, Lookup, New, NewArray, NewMulti, NewRefArray, PutField, PutStatic, Return, Table}
use Rattle.class_model.specs.declared.instr.Pair.{Pair}
use Rattle.class_model.specs.declared.opcodes.TheConstants.{IALOAD, IASTORE, IFEQ, IFLE, IFNONNULL, IFNULL, IF_ACMPEQ, IF_ACMPNE, IF_ICMPEQ, IF_ICMPLE, INVOKEINTERFACE, INVOKESPECIAL, INVOKESTATIC, INVOKEVIRTUAL, SALOAD, SASTORE}
use Rattle.class_model.specs.declared.pool.Const.{Const as PoolConst}
use Rattle.class_model.specs.declared.pool.Const.TheVariants as consts
use Rattle.class_tree.specs.Headers.{Name}
use Rattle.expanded_code.specs.Expanded.{with_unit}
use Rattle.machine_values.specs.Values.{has_kind}
use Rattle.machine_values.specs.declared.object.Constant.{Constant}
use Rattle.machine_values.specs.declared.value.Value.{Value}
use Rattle.machine_values.specs.declared.value.Value.TheVariants as values
use Rattle.member_link.specs.Machine.Codes.{call_op, constant_op, dynamic_op, handle_of, if_between, initialises, instr_op, naming, or_meaningless, return_op, special_start}
use Rattle.member_link.specs.Machine.Locals.{local_value, width_of}
use Rattle.member_link.specs.Machine.Ops.{Op, call_interface, call_special, call_static, call_virtual, check_cast, get_field, get_static, instance_of, jump_by_int, jump_by_ints, jump_by_null, jump_by_references, load_element, load_local, lookup_switch, meaningless, new_array, new_arrays, new_object, push_constant, put_field, put_static, return_nothing, return_value, store_element, table_switch}
use Rattle.member_link.specs.Machine.Programs.{Links, Program}
use Rattle.member_link.specs.References.{Reference}
use Rattle.member_link.specs.RowScope.{RowScope}
use Rattle.member_link.specs.Rows.ArrayRows.{array_of, primitive_array}
use Rattle.member_link.specs.Signatures.{reference_of}
use Rattle.same_runs.specs.SameMoves.{LoadFits, moved}
use Rattle.same_runs.specs.SamePrograms.{SameOp, same_op}

-- it loads no local and returns nothing
abbrev pub IsPlainOp : Op → Type 0
IsPlainOp (load_local kind at) = ⊥
IsPlainOp return_nothing = ⊥
IsPlainOp (return_value type) = ⊥
IsPlainOp op = Unit {0}

maps_on : (f g : ℕ → ℕ) (xs : List ℕ) → map (λ (x : ℕ). g (f x)) xs ≡ map g (map f xs)
maps_on f g [] = refl
maps_on f g (x ∷ xs) = ap (λ (rest : List ℕ). g (f x) ∷ rest) (maps_on f g xs)

abbrev pair_by : (ℕ → ℕ) → Pair → Pair
pair_by f pair = record { key = pair.key; to = f pair.to }

pairs_on : (f g : ℕ → ℕ) (xs : List Pair) → map (pair_by (λ (x : ℕ). g (f x))) xs ≡ map (pair_by g) (map (pair_by f) xs)
pairs_on f g [] = refl
pairs_on f g (x ∷ xs) = ap (λ (rest : List Pair). pair_by (λ (x : ℕ). g (f x)) x ∷ rest) (pairs_on f g xs)

-- Two scopes of one instruction: that of its method, and that of the host in which it stands, with the constants of the first. Locals are
-- units from one on, and points are renumbered.
module _ (P Q : Program) (links : Links) (unit : ℕ) (number start : ℕ → ℕ) (one other : RowScope) where
  abbrev set : RowScope
  set = record other { pool = one.pool }

  abbrev pub Same : Op → Op → Type 0
  Same op also = SameOp P Q (moved unit start op) also

  abbrev pub Keeps : Op → Op → Type 0
  Keeps op also = Same op also × IsPlainOp op

  -- what is asked of an instruction that reads its method or class
  abbrev pub Needs : Instr → Type 0
  Needs (PutStatic index) =
      (r : Reference)
      → reference_of one.pool (constant_at one.pool index) ≡ Some r
      → SameOp P Q (put_static r (initialises one.is_clinit one.own)) (put_static r (initialises other.is_clinit other.own))
  Needs (PutField index) =
      (r : Reference)
      → reference_of one.pool (constant_at one.pool index) ≡ Some r
      → SameOp P Q (put_field r (initialises one.is_init one.own)) (put_field r (initialises other.is_init other.own))
  Needs (Invoke opcode index count) =
      opcode ≡ INVOKESPECIAL
      → (r : Reference)
      → reference_of one.pool (constant_at one.pool index) ≡ Some r
      → SameOp P Q (call_special r (special_start links one r.class)) (call_special r (special_start links other r.class))
  Needs (Dynamic index) = Keeps (dynamic_op one (constant_at one.pool index)) (dynamic_op (record other { pool = one.pool }) (constant_at one.pool index))
  Needs (Return kind) = Same (return_op one.result kind) (return_op other.result kind)
  Needs instr = Unit {0}

  abbrev pub Kept : Instr → Op → Op → Type 0
  Kept (Load kind local) op also = Same op also
  Kept (Return kind) op also = Same op also
  Kept instr op also = Keeps op also

  -- ---- parts

  if_chosen : (b : Bool) (op also : Op) → Keeps op also → Keeps (if b then op else meaningless) (if b then also else meaningless)
  if_chosen true op also keeps = keeps
  if_chosen false op also keeps = (same_op tt, tt)

  between : (low high opcode : ℕ) (op also : Op) → Keeps op also → Keeps (if_between low high opcode op) (if_between low high opcode also)
  between low high opcode op also keeps = if_chosen (nat_le low opcode && nat_le opcode high) op also keeps

  named : (name : Option Name) (f : Name → Op) → ((n : Name) → Keeps (f n) (f n)) → Keeps (naming name f) (naming name f)
  named None f keeps = (same_op tt, tt)
  named (Some n) f keeps = keeps n

  referred : (found : Option Reference) (f g : Reference → Op) → ((r : Reference) → found ≡ Some r → Keeps (f r) (g r))
      → Keeps (or_meaningless (option_map f found)) (or_meaningless (option_map g found))
  referred None f g keeps = (same_op tt, tt)
  referred (Some r) f g keeps = keeps r refl

  text_constant : (text : Option (List ℕ)) (f : List ℕ → Constant)
      → Keeps (or_meaningless (option_map (λ (t : List ℕ). push_constant (f t)) text)) (or_meaningless (option_map (λ (t : List ℕ). push_constant (f t)) text))
  text_constant None f = (same_op tt, tt)
  text_constant (Some t) f = (same_op tt, tt)

  some_constant : (c : Option Constant) → Keeps (or_meaningless (option_map push_constant c)) (or_meaningless (option_map push_constant c))
  some_constant None = (same_op tt, tt)
  some_constant (Some c) = (same_op tt, tt)

  constant : (pool : Constants) (c : Option PoolConst) → Keeps (constant_op pool c) (constant_op pool c)
  constant pool None = (same_op tt, tt)
  constant pool (Some (consts.String text)) = text_constant (utf8_at pool text) _
  constant pool (Some (consts.Class name)) = text_constant (utf8_at pool name) _
  constant pool (Some (consts.MethodType desc)) = text_constant (utf8_at pool desc) _
  constant pool (Some (consts.MethodHandle kind reference)) = some_constant (handle_of pool kind reference)
  constant pool (Some other) = (same_op tt, tt)

  pushed : (imm : Imm) → Keeps (instr_op links number one (Const imm)) (instr_op links number one (Const imm))
  pushed imms.Null = (same_op tt, tt)
  pushed (imms.Int n) = (same_op tt, tt)
  pushed (imms.Long n) = (same_op tt, tt)
  pushed (imms.Float n) = (same_op tt, tt)
  pushed (imms.Double n) = (same_op tt, tt)

  called : (opcode : ℕ) (r : Reference)
      → (opcode ≡ INVOKESPECIAL
      → SameOp P Q (call_special r (special_start links one r.class)) (call_special r (special_start links other r.class)))
      → Keeps (call_op links one opcode r) (call_op links set opcode r)
  called opcode r special = by (opcode == INVOKEVIRTUAL) (opcode == INVOKESPECIAL) refl (opcode == INVOKESTATIC) (opcode == INVOKEINTERFACE) where
    by : (a b : Bool) → (opcode == INVOKESPECIAL) ≡ b → (c d : Bool)
        → Keeps (if a then call_virtual r else (if b then call_special r (special_start links one r.class)
        else (if c then call_static r else (if d then call_interface r else meaningless))))
        (if a then call_virtual r else (if b then call_special r (special_start links other r.class)
        else (if c then call_static r else (if d then call_interface r else meaningless))))
    by true b is c d = (same_op tt, tt)
    by false true is c d = (special (eqb-true opcode INVOKESPECIAL is), tt)
    by false false is true d = (same_op tt, tt)
    by false false is false true = (same_op tt, tt)
    by false false is false false = (same_op tt, tt)

  -- ---- an instruction

  pub op_moved : (instr : Instr) → Needs instr
      → Kept instr (instr_op links number one instr) (instr_op links (λ (to : ℕ). start (number to)) (record other { pool = one.pool }) (with_unit unit instr))
  op_moved (Const imm) needs = pushed imm
  op_moved (Ldc index) needs = constant one.pool (constant_at one.pool index)
  op_moved (Ldc2 index) needs = constant one.pool (constant_at one.pool index)
  op_moved (Load kind local) needs = same_op tt
  op_moved (ArrayLoad opcode) needs = between IALOAD SALOAD opcode (load_element opcode) (load_element opcode) (same_op tt, tt)
  op_moved (ArrayStore opcode) needs = between IASTORE SASTORE opcode (store_element opcode) (store_element opcode) (same_op tt, tt)
  op_moved (If opcode to) needs =
      between IFEQ IFLE opcode (jump_by_int opcode (number to)) (jump_by_int opcode (start (number to))) (same_op tt, tt)
  op_moved (If2 opcode to) needs =
      between IF_ICMPEQ IF_ICMPLE opcode (jump_by_ints opcode (number to)) (jump_by_ints opcode (start (number to))) (same_op tt, tt)
  op_moved (IfSame opcode to) needs =
      between IF_ACMPEQ IF_ACMPNE opcode (jump_by_references opcode (number to)) (jump_by_references opcode (start (number to))) (same_op tt, tt)
  op_moved (IfNull opcode to) needs =
      between IFNULL IFNONNULL opcode (jump_by_null opcode (number to)) (jump_by_null opcode (start (number to))) (same_op tt, tt)
  op_moved (Table low default targets) needs = (
    subst (λ (all : List ℕ). SameOp P Q (table_switch low (start (number default)) (map start (map number targets)))
        (table_switch low (start (number default)) all)) (sym (maps_on number start targets)) (same_op tt),
    tt,
  )
  op_moved (Lookup default pairs) needs = (
    subst (λ (all : List Pair). SameOp P Q (lookup_switch (start (number default)) (map (pair_by start) (map (pair_by number) pairs)))
        (lookup_switch (start (number default)) all)) (sym (pairs_on number start pairs)) (same_op tt),
    tt,
  )
  op_moved (Return kind) needs = needs
  op_moved (GetStatic index) needs = referred (reference_of one.pool (constant_at one.pool index)) get_static get_static (λ r is. (same_op tt, tt))
  op_moved (PutStatic index) needs = referred (reference_of one.pool (constant_at one.pool index)) _ _ (λ r is. (needs r is, tt))
  op_moved (GetField index) needs = referred (reference_of one.pool (constant_at one.pool index)) get_field get_field (λ r is. (same_op tt, tt))
  op_moved (PutField index) needs = referred (reference_of one.pool (constant_at one.pool index)) _ _ (λ r is. (needs r is, tt))
  op_moved (Invoke opcode index count) needs =
      referred (reference_of one.pool (constant_at one.pool index)) (call_op links one opcode) (call_op links set opcode)
      (λ r is. called opcode r (λ special. needs special r is))
  op_moved (Dynamic index) needs = needs
  op_moved (New index) needs = named (class_at one.pool index) new_object (λ n. (same_op tt, tt))
  op_moved (NewArray code) needs = named (primitive_array code) new_array (λ n. (same_op tt, tt))
  op_moved (NewRefArray index) needs = named (array_of (class_at one.pool index)) new_array (λ n. (same_op tt, tt))
  op_moved (NewMulti index dimensions) needs = named (class_at one.pool index) (λ (name : Name). new_arrays name dimensions) (λ n. (same_op tt, tt))
  op_moved (Cast index) needs = named (class_at one.pool index) check_cast (λ n. (same_op tt, tt))
  op_moved (InstanceOf index) needs = named (class_at one.pool index) instance_of (λ n. (same_op tt, tt))
  op_moved instr needs = (same_op tt, tt)

  -- ---- what is kept

  pub kept_same : (instr : Instr) (op also : Op) → Kept instr op also → Same op also
  kept_same (Load kind local) op also kept = kept
  kept_same (Return kind) op also kept = kept
  kept_same instr op also kept = kept.0

  -- ---- loads

  load_within : (size : ℕ) (kind : Kind) (local : ℕ) (value : Value) → FitsLocal size kind local → has_kind kind value ≡ true
      → local + width_of value ≤ size
  load_within size kinds.Int local (values.Int n) fits has = fits
  load_within size kinds.Long local (values.Long n) fits has = fits
  load_within size kinds.Float local (values.Float n) fits has = fits
  load_within size kinds.Double local (values.Double n) fits has = fits
  load_within size kinds.Ref local values.Null fits has = fits
  load_within size kinds.Ref local (values.Ref n) fits has = fits
  load_within size kind local value fits has = absurd cc

  loaded_kind : (kind : Kind) (locals : List (Option Value)) (local : ℕ) (value : Value) → local_value kind locals local ≡ Some value
      → has_kind kind value ≡ true
  loaded_kind kind locals local value is = by (slice_get locals local) refl where
    by : (found : Option (Option Value)) → slice_get locals local ≡ found → has_kind kind value ≡ true
    by None e = let no : None ≡ Some value = rw (e) at is in cc
    by (Some None) e = let no : None ≡ Some value = rw (e) at is in cc
    by (Some (Some own)) e = of_kind (has_kind kind own) refl where
      of_kind : (has : Bool) → has_kind kind own ≡ has → has_kind kind value ≡ true
      of_kind false h = let no : None ≡ Some value = rw (h) at (rw (e) at is) in cc
      of_kind true h =
          let same : own ≡ value = same_Some own value (rw (h) at (rw (e) at is)) in
          subst (λ (v : Value). has_kind kind v ≡ true) same h

  plain_loads : (size : ℕ) (locals : List (Option Value)) (op : Op) → IsPlainOp op → LoadFits size locals op
  plain_loads size locals (load_local kind at) plain = absurd plain
  plain_loads size locals op plain = tt

  return_loads : (size : ℕ) (locals : List (Option Value)) (result : Option FieldType) (kind : Option Kind)
      → LoadFits size locals (return_op result kind)
  return_loads size locals None None = tt
  return_loads size locals None (Some kind) = tt
  return_loads size locals (Some type) None = tt
  return_loads size locals (Some type) (Some kind) = by _ where
    by : (b : Bool) → LoadFits size locals (if b then return_value type else meaningless)
    by true = tt
    by false = tt

  -- the values that it loads are among the units that there are
  pub loads_fit : (instr : Instr) (also : Op) → Kept instr (instr_op links number one instr) also
      → (pool : Constants) (major size : ℕ) → OperandFits pool major size instr
      → (locals : List (Option Value)) → LoadFits size locals (instr_op links number one instr)
  loads_fit (Load kind local) also kept pool major size fits locals =
      λ value is. load_within size kind local value fits (loaded_kind kind locals local value is)
  loads_fit (Return kind) also kept pool major size fits locals = return_loads size locals one.result kind
  loads_fit instr also kept pool major size fits locals = plain_loads size locals (instr_op links number one instr) kept.1
