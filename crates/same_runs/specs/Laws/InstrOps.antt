-- The operations of a method's own instructions are in both of two programs: what it stores is barred in both or in none, and instance initialisers that
-- it calls are declared.
use Rattle.std.proofs.Common.{◌≡◌, ◌==◌, ◌&&◌, nat_le, ℕ, Bool, true, false, List, slice_get, Option, Some, None, option_map, IsSome, refl, sym, ap, subst, ◌∙◌, if◌then◌else◌}
use Rattle.std.proofs.lemmas.Bool.{eqb-true}
use Rattle.std.proofs.lemmas.Option.{none-some, same_Some, slice_get-map}
use Rattle.class_model.specs.Header.{header_of}
use Rattle.class_model.specs.Names.{init}
use Rattle.class_model.specs.Pool.{Constants, constant_at}
use Rattle.class_model.specs.PoolChecks.{class_at, descriptor_at, name_at, utf8_at}
use Rattle.class_model.specs.declared.class_file.MethodAt.{MethodAt}
use Rattle.class_model.specs.declared.descriptor.FieldType.{FieldType}
use Rattle.class_model.specs.declared.descriptor.Kind.{Kind}
use Rattle.class_model.specs.declared.instr.Imm.{Imm}
use Rattle.class_model.specs.declared.instr.Imm.TheVariants as imms
use Rattle.class_model.specs.declared.instr.Instr.{Instr}
use Rattle.class_model.specs.declared.instr.Instr.TheVariants.{ArrayLoad, ArrayStore, Cast, Const, Dynamic, GetField, GetStatic, If, If2, IfNull, IfSame, InstanceOf, Invoke, Ldc, Ldc2, New, NewArray, NewMulti, NewRefArray, PutField, PutStatic, Return}
use Rattle.class_model.specs.declared.instr.Placed.{Placed}
use Rattle.class_model.specs.declared.opcodes.TheConstants.{IALOAD, IASTORE, IFEQ, IFLE, IFNONNULL, IFNULL, IF_ACMPEQ, IF_ACMPNE, IF_ICMPEQ, IF_ICMPLE, INVOKEINTERFACE, INVOKESPECIAL, INVOKESTATIC, INVOKEVIRTUAL, SALOAD, SASTORE}
use Rattle.class_model.specs.declared.pool.Const.{Const as PoolConst}
use Rattle.class_model.specs.declared.pool.Const.TheVariants as consts
use Rattle.class_tree.specs.Headers.{Classes, Name}
use Rattle.machine_values.specs.declared.object.Constant.{Constant}
use Rattle.member_link.specs.Machine.Classes.{program_of}
use Rattle.member_link.specs.Machine.Codes.{call_op, code_point, code_points, constant_op, dynamic_op, handle_of, if_between, initialises, instr_op, method_code, naming, number_at, or_meaningless, return_op, run_point, special_start}
use Rattle.member_link.specs.Machine.Ops.{Op, call_interface, call_special, call_static, call_virtual, check_cast, get_field, get_static, instance_of, jump_by_int, jump_by_ints, jump_by_null, jump_by_references, load_element, meaningless, new_array, new_arrays, new_object, push_constant, return_value, store_element}
use Rattle.member_link.specs.Machine.Programs.{Code, Links, Point, Program, method_of, point_at}
use Rattle.member_link.specs.References.{Reference}
use Rattle.member_link.specs.RowScope.{RowScope}
use Rattle.member_link.specs.Rows.ArrayRows.{array_of, primitive_array}
use Rattle.member_link.specs.Scope.{Scope, instructions, is_clinit, is_init, row_scope, scope_at}
use Rattle.member_link.specs.Signatures.{reference_of}
use Rattle.same_runs.specs.SamePrograms.{IsInBoth, SameBar}
use Rattle.same_runs.specs.Laws.MethodPoints.{code_of_point}
use Rattle.member_link.specs.Laws.Scopes.{scope_is_at}
use Rattle.same_runs.specs.Laws.Scopes.{code_is_own, scope_there}

-- ---- what is asked of methods' own instructions

-- what a method's own code stores is barred in both programs, or in none
pub record OwnBars (classes : Classes) (P Q : Program) (at : MethodAt) : Type 0 where
  pub fields : (s : Scope) (number : ℕ) (placed : Placed) (index : ℕ) (r : Reference)
      → scope_at classes at ≡ Some s
      → slice_get (instructions s) number ≡ Some placed
      → placed.instr ≡ PutField index
      → reference_of s.class.pool (constant_at s.class.pool index) ≡ Some r
      → SameBar P Q r (initialises (is_init s) (header_of s.class)) (initialises (is_init s) (header_of s.class))
  pub statics : (s : Scope) (number : ℕ) (placed : Placed) (index : ℕ) (r : Reference)
      → scope_at classes at ≡ Some s
      → slice_get (instructions s) number ≡ Some placed
      → placed.instr ≡ PutStatic index
      → reference_of s.class.pool (constant_at s.class.pool index) ≡ Some r
      → SameBar P Q r (initialises (is_clinit s) (header_of s.class)) (initialises (is_clinit s) (header_of s.class))

-- instance initialisers that a method calls are declared
pub record DeclaresInitialisers (classes : Classes) (P : Program) (at : MethodAt) : Type 0 where
  pub each : (s : Scope) (number : ℕ) (placed : Placed) (opcode index count : ℕ) (r : Reference)
      → scope_at classes at ≡ Some s
      → slice_get (instructions s) number ≡ Some placed
      → placed.instr ≡ Invoke opcode index count
      → opcode ≡ INVOKESPECIAL
      → reference_of s.class.pool (constant_at s.class.pool index) ≡ Some r
      → r.name ≡ init
      → IsSome (method_of P r)

-- ---- instructions

module _ (P Q : Program) (links : Links) (number : ℕ → ℕ) (s : RowScope) where
  abbrev InBoth : Op → Type 0
  InBoth op = IsInBoth P Q op

  -- what is asked of an instruction that stores or calls
  abbrev pub Asks : Instr → Type 0
  Asks (PutStatic index) =
      (r : Reference)
      → reference_of s.pool (constant_at s.pool index) ≡ Some r
      → SameBar P Q r (initialises s.is_clinit s.own) (initialises s.is_clinit s.own)
  Asks (PutField index) =
      (r : Reference)
      → reference_of s.pool (constant_at s.pool index) ≡ Some r
      → SameBar P Q r (initialises s.is_init s.own) (initialises s.is_init s.own)
  Asks (Invoke opcode index count) =
      opcode ≡ INVOKESPECIAL
      → (r : Reference)
      → reference_of s.pool (constant_at s.pool index) ≡ Some r
      → r.name ≡ init
      → IsSome (method_of P r)
  Asks instr = Unit {0}

  between : (low high opcode : ℕ) (op : Op) → InBoth op → InBoth (if_between low high opcode op)
  between low high opcode op both = by (nat_le low opcode && nat_le opcode high) where
    by : (b : Bool) → InBoth (if b then op else meaningless)
    by true = both
    by false = tt

  named : (name : Option Name) (f : Name → Op) → ((n : Name) → InBoth (f n)) → InBoth (naming name f)
  named None f both = tt
  named (Some n) f both = both n

  referred : (found : Option Reference) (f : Reference → Op) → ((r : Reference) → found ≡ Some r → InBoth (f r))
      → InBoth (or_meaningless (option_map f found))
  referred None f both = tt
  referred (Some r) f both = both r refl

  text_constant : (text : Option (List ℕ)) (f : List ℕ → Constant)
      → InBoth (or_meaningless (option_map (λ (t : List ℕ). push_constant (f t)) text))
  text_constant None f = tt
  text_constant (Some t) f = tt

  some_constant : (c : Option Constant) → InBoth (or_meaningless (option_map push_constant c))
  some_constant None = tt
  some_constant (Some c) = tt

  constant : (pool : Constants) (c : Option PoolConst) → InBoth (constant_op pool c)
  constant pool None = tt
  constant pool (Some (consts.String text)) = text_constant (utf8_at pool text) _
  constant pool (Some (consts.Class name)) = text_constant (utf8_at pool name) _
  constant pool (Some (consts.MethodType desc)) = text_constant (utf8_at pool desc) _
  constant pool (Some (consts.MethodHandle kind reference)) = some_constant (handle_of pool kind reference)
  constant pool (Some other) = tt

  pushed : (imm : Imm) → InBoth (instr_op links number s (Const imm))
  pushed imms.Null = tt
  pushed (imms.Int n) = tt
  pushed (imms.Long n) = tt
  pushed (imms.Float n) = tt
  pushed (imms.Double n) = tt

  called : (opcode : ℕ) (r : Reference) → (opcode ≡ INVOKESPECIAL → r.name ≡ init → IsSome (method_of P r))
      → InBoth (call_op links s opcode r)
  called opcode r special = by (opcode == INVOKEVIRTUAL) (opcode == INVOKESPECIAL) refl (opcode == INVOKESTATIC) (opcode == INVOKEINTERFACE) where
    by : (a b : Bool) → (opcode == INVOKESPECIAL) ≡ b → (c d : Bool)
        → InBoth (if a then call_virtual r else (if b then call_special r (special_start links s r.class)
        else (if c then call_static r else (if d then call_interface r else meaningless))))
    by true b is c d = tt
    by false true is c d = special (eqb-true opcode INVOKESPECIAL is)
    by false false is true d = tt
    by false false is false true = tt
    by false false is false false = tt

  returned : (result : Option FieldType) (kind : Option Kind) → InBoth (return_op result kind)
  returned None None = tt
  returned None (Some kind) = tt
  returned (Some type) None = tt
  returned (Some type) (Some kind) = by _ where
    by : (b : Bool) → InBoth (if b then return_value type else meaningless)
    by true = tt
    by false = tt

  dynamic : (c : Option PoolConst) → InBoth (dynamic_op s c)
  dynamic (Some (consts.InvokeDynamic bootstrap member)) = by (name_at s.pool member) refl (descriptor_at s.pool member) refl where
    by : (name : Option (List ℕ)) → name_at s.pool member ≡ name → (desc : Option (List ℕ)) → descriptor_at s.pool member ≡ desc
        → InBoth (dynamic_op s (Some (consts.InvokeDynamic bootstrap member)))
    by None n desc d = rw (n) tt
    by (Some name) n None d = rw (n, d) tt
    by (Some name) n (Some desc) d = rw (n, d) tt
  dynamic c = tt

  pub op_in_both : (instr : Instr) → Asks instr → InBoth (instr_op links number s instr)
  op_in_both (Const imm) asks = pushed imm
  op_in_both (Ldc index) asks = constant s.pool (constant_at s.pool index)
  op_in_both (Ldc2 index) asks = constant s.pool (constant_at s.pool index)
  op_in_both (ArrayLoad opcode) asks = between IALOAD SALOAD opcode (load_element opcode) tt
  op_in_both (ArrayStore opcode) asks = between IASTORE SASTORE opcode (store_element opcode) tt
  op_in_both (If opcode to) asks = between IFEQ IFLE opcode (jump_by_int opcode (number to)) tt
  op_in_both (If2 opcode to) asks = between IF_ICMPEQ IF_ICMPLE opcode (jump_by_ints opcode (number to)) tt
  op_in_both (IfSame opcode to) asks = between IF_ACMPEQ IF_ACMPNE opcode (jump_by_references opcode (number to)) tt
  op_in_both (IfNull opcode to) asks = between IFNULL IFNONNULL opcode (jump_by_null opcode (number to)) tt
  op_in_both (Return kind) asks = returned s.result kind
  op_in_both (GetStatic index) asks = referred (reference_of s.pool (constant_at s.pool index)) get_static (λ r is. tt)
  op_in_both (PutStatic index) asks = referred (reference_of s.pool (constant_at s.pool index)) _ asks
  op_in_both (GetField index) asks = referred (reference_of s.pool (constant_at s.pool index)) get_field (λ r is. tt)
  op_in_both (PutField index) asks = referred (reference_of s.pool (constant_at s.pool index)) _ asks
  op_in_both (Invoke opcode index count) asks =
      referred (reference_of s.pool (constant_at s.pool index)) (call_op links s opcode)
      (λ r is. called opcode r (λ special name. asks special r is name))
  op_in_both (Dynamic index) asks = dynamic (constant_at s.pool index)
  op_in_both (New index) asks = named (class_at s.pool index) new_object (λ n. tt)
  op_in_both (NewArray code) asks = named (primitive_array code) new_array (λ n. tt)
  op_in_both (NewRefArray index) asks = named (array_of (class_at s.pool index)) new_array (λ n. tt)
  op_in_both (NewMulti index dimensions) asks = named (class_at s.pool index) (λ (name : Name). new_arrays name dimensions) (λ n. tt)
  op_in_both (Cast index) asks = named (class_at s.pool index) check_cast (λ n. tt)
  op_in_both (InstanceOf index) asks = named (class_at s.pool index) instance_of (λ n. tt)
  op_in_both instr asks = tt

-- ---- the points of a method's own code

-- the point of an instruction
abbrev pub own_point : Links → Scope → Placed → Point
own_point links s placed = run_point links (number_at (code_points s)) (code_point s placed)

pub own_points_are : (links : Links) (s : Scope) (k : ℕ)
    → slice_get (method_code links s).points k ≡ option_map (own_point links s) (slice_get (instructions s) k)
own_points_are links s k =
    slice_get-map (run_point links (number_at (code_points s))) (code_points s) k
    ∙ ap (option_map (run_point links (number_at (code_points s)))) (slice_get-map (code_point s) (instructions s) k)
    ∙ by (slice_get (instructions s) k) where
      by : (placed : Option Placed)
          → option_map (run_point links (number_at (code_points s))) (option_map (code_point s) placed) ≡ option_map (own_point links s) placed
      by None = refl
      by (Some placed) = refl

-- a point is that of an instruction
pub record IsPointOf (links : Links) (s : Scope) (k : ℕ) (point : Point) : Type 0 where
  pub placed : Placed
  pub there : slice_get (instructions s) k ≡ Some placed
  pub is : point ≡ own_point links s placed

pub instr_of_point : (links : Links) (s : Scope) (k : ℕ) (point : Point) → slice_get (method_code links s).points k ≡ Some point
    → IsPointOf links s k point
instr_of_point links s k point is = by (slice_get (instructions s) k) refl (sym (own_points_are links s k) ∙ is) where
  by : (found : Option Placed) → slice_get (instructions s) k ≡ found → option_map (own_point links s) found ≡ Some point → IsPointOf links s k point
  by None e none = absurd (none-some point none)
  by (Some placed) e same = record { placed = placed; there = e; is = sym (same_Some (own_point links s placed) point same) }

module _ {classes : Classes} {P Q : Program} (links : Links) (at : MethodAt) (bars : OwnBars classes P Q at)
    (declares : DeclaresInitialisers classes P at) where
  asks_of : (s : Scope) → scope_at classes at ≡ Some s
      → (k : ℕ) (placed : Placed) → slice_get (instructions s) k ≡ Some placed → (instr : Instr) → placed.instr ≡ instr
      → Asks P Q links (number_at (code_points s)) (row_scope s) instr
  asks_of s is k placed there (PutStatic index) i = λ r found. bars.statics s k placed index r is there i found
  asks_of s is k placed there (PutField index) i = λ r found. bars.fields s k placed index r is there i found
  asks_of s is k placed there (Invoke opcode index count) i =
      λ special r found name. declares.each s k placed opcode index count r is there i special found name
  asks_of s is k placed there instr i = tt

  -- An operation of a method's own code is in both programs.
  pub own_in_both : (s : Scope) → scope_at classes at ≡ Some s
      → (k : ℕ) (point : Point)
      → slice_get (method_code links s).points k ≡ Some point
      → IsInBoth P Q point.op
  own_in_both s is k point there =
      let here = instr_of_point links s k point there in
      subst (λ (q : Point). IsInBoth P Q q.op) (sym here.is)
      (op_in_both P Q links (number_at (code_points s)) (row_scope s) here.placed.instr (asks_of s is k here.placed here.there here.placed.instr refl))

  -- So is each operation that the method runs in the folder's program.
  pub folder_op_in_both : (k : ℕ) (point : Point) → point_at (program_of classes links) at k ≡ Some point → IsInBoth P Q point.op
  folder_op_in_both k point is =
      let code = code_of_point (program_of classes links) at k point is in
      let s = scope_there classes links at code.0 code.1 in
      let own = code_is_own classes links at s.0 (scope_is_at classes at s.0 s.1) code.0 code.1 in
      own_in_both s.0 s.1 k point (ap (λ (c : Code). slice_get c.points k) (sym own) ∙ code.2)
