use Rattle.std.specs.Prelude.{◌≡◌, ◌&&◌, ◌==◌, refl, ℕ, Bool, true, false, List, [], ◌∷◌, nat_le, bytes_eq, Option, Some, None, option_map, if◌then◌else◌}
use Rattle.std.specs.List.{AllByRecursion, list_any}
use Rattle.std.proofs.Common.{ap, sym, ◌∙◌, subst}
use Rattle.class_model.specs.Code.{verification_type}
use Rattle.class_model.specs.Descriptors.{kind_of}
use Rattle.class_model.specs.Names.{init}
use Rattle.class_model.specs.Pool.{Constants, constant_at}
use Rattle.class_model.specs.PoolChecks.{utf8_at, class_at, name_at, descriptor_at}
use Rattle.class_model.specs.declared.descriptor.FieldType.{FieldType}
use Rattle.class_model.specs.declared.descriptor.Kind.{Kind}
use Rattle.class_model.specs.declared.frame.Frame.{Frame}
use Rattle.class_model.specs.declared.instr.Instr.TheVariants as instrs
use Rattle.class_model.specs.declared.opcodes.TheConstants.{IALOAD, SALOAD, IASTORE, SASTORE, IFEQ, IFLE, IF_ICMPEQ, IF_ICMPLE, IF_ACMPEQ, IF_ACMPNE, IFNULL, IFNONNULL, INVOKEVIRTUAL, INVOKESPECIAL, INVOKESTATIC, INVOKEINTERFACE}
use Rattle.class_model.specs.declared.pool.Const.{Const}
use Rattle.class_model.specs.declared.pool.Const.TheVariants as consts
use Rattle.machine_values.specs.declared.object.Constant.TheVariants as objects
use Rattle.member_link.specs.Bodies.{CodeItem, item_instr, item_null_test, item_row, item_falls_through}
use Rattle.member_link.specs.Machine.Acting.{Pending, pending_of, type_of_kind}
use Rattle.member_link.specs.Machine.Codes.{item_op, constant_op, handle_of, or_meaningless, return_op, same_kind, call_op, dynamic_op, special_start, initialises}
use Rattle.member_link.specs.Machine.Ops.{Op, meaningless, return_value, push_constant, float_arithmetic, jump_by_int, jump_by_ints, jump_by_references, jump_by_null, get_static, put_static, get_field, put_field, call_static, call_virtual, call_interface, call_special, call_dynamic, new_object, new_array, new_arrays, load_element, store_element, check_cast, instance_of}
use Rattle.member_link.specs.Machine.Programs.{Links, Program}
use Rattle.member_link.specs.References.{Reference}
use Rattle.member_link.specs.RowScope.{RowScope}
use Rattle.member_link.specs.Rows.ArithmeticRows as arithmetic
use Rattle.member_link.specs.Rows.ArithmeticRows.{Operation, float_operations, operation_in, operation_row}
use Rattle.member_link.specs.Rows.ArrayRows.{primitive_array, array_of}
use Rattle.member_link.specs.Rows.MemberRows.{argument_needs, result_types, get_static_row, put_static_row, get_field_row, put_field_row, call_row, dynamic_row, static_row, special_row, init_row}
use Rattle.member_link.specs.Rows.Readings.{Reading, reads_itself, reads_object, reads_pop, row_by}
use Rattle.member_link.specs.Rows.Row.{Row, plain, no_row, either}
use Rattle.member_link.specs.Signatures.{reference_of, result_of}
use Rattle.typed_runs.proofs.Basics.{some_of}
use Rattle.typed_runs.proofs.ReadOps.{object_init_void}
use Rattle.typed_runs.specs.LinkedCalls.{IsLinkedCall}
use Rattle.typed_runs.specs.TypedPoints.{MayBeRead}

-- An instruction that shows an event: control goes on after it, with the answer on top.
pub record AnsweredBy (falls : Bool) (row : Row) (answer : Option FieldType) : Type 0 where
  pub falls_through : falls ≡ true
  pub goes_on : row.goes_on ≡ true
  pub gives : row.gives ≡ result_types answer

-- ---- operations that show none

pub never : {A : Type 0} {o : Option Pending} (p : Pending) → o ≡ None → o ≡ Some p → A
never p none is = let no : None ≡ Some p = sym none ∙ is in cc

pub tested_none : (b : Bool) (op : Op) → pending_of op ≡ None → pending_of (if b then op else meaningless) ≡ None
tested_none true op none = none
tested_none false op none = refl

pub found_none : {A : Type 0} (o : Option A) (op : A → Op) → ((a : A) → pending_of (op a) ≡ None)
    → pending_of (or_meaningless (option_map op o)) ≡ None
found_none None op none = refl
found_none (Some a) op none = none a

pub constant_none : (pool : Constants) (c : Option Const) → pending_of (constant_op pool c) ≡ None
constant_none pool (Some (consts.Integer n)) = refl
constant_none pool (Some (consts.Long n)) = refl
constant_none pool (Some (consts.Float n)) = refl
constant_none pool (Some (consts.Double n)) = refl
constant_none pool (Some (consts.String t)) = found_none (utf8_at pool t) (λ x. push_constant (objects.Str x)) (λ x. refl)
constant_none pool (Some (consts.Class t)) = found_none (utf8_at pool t) (λ x. push_constant (objects.Class x)) (λ x. refl)
constant_none pool (Some (consts.MethodType t)) = found_none (utf8_at pool t) (λ x. push_constant (objects.MethodType x)) (λ x. refl)
constant_none pool (Some (consts.MethodHandle kind reference)) = found_none (handle_of pool kind reference) push_constant (λ x. refl)
constant_none pool c = refl

pub return_none : (result : Option FieldType) (kind : Option Kind) → pending_of (return_op result kind) ≡ None
return_none None None = refl
return_none None (Some k) = refl
return_none (Some t) None = refl
return_none (Some t) (Some k) = tested_none (same_kind (kind_of t) k) (return_value t) refl

-- ---- float operations

pub float_given : (ops : List Operation) (opcode : ℕ) (o : Operation)
    → AllByRecursion (λ (x : Operation). arithmetic.type_of_kind x.gives ≡ verification_type (type_of_kind x.gives)) ops
    → operation_in ops opcode ≡ Some o → arithmetic.type_of_kind o.gives ≡ verification_type (type_of_kind o.gives)
float_given [] opcode o all is = cc
float_given (first ∷ others) opcode o all is = by (list_any (λ x. x == opcode) first.opcodes) refl
    (λ e. float_given others opcode o all.1 e) where
      by : (b : Bool) → list_any (λ x. x == opcode) first.opcodes ≡ b
          → (operation_in others opcode ≡ Some o → arithmetic.type_of_kind o.gives ≡ verification_type (type_of_kind o.gives))
          → arithmetic.type_of_kind o.gives ≡ verification_type (type_of_kind o.gives)
      by true e next = let same : first ≡ o = some_of (rw e at is) in subst
          (λ (x : Operation). arithmetic.type_of_kind x.gives ≡ verification_type (type_of_kind x.gives)) same all.0
      by false e next = next (rw e at is)

pub floats_given : AllByRecursion (λ (x : Operation). arithmetic.type_of_kind x.gives ≡ verification_type (type_of_kind x.gives))
    float_operations
floats_given = (
  refl,
  (
    refl,
    (
      refl,
      (
        refl,
        (
          refl,
          (
            refl,
            (
              refl,
              (refl, (refl, (refl, (refl, (refl, (refl, (refl, (refl, (refl, tt))))))))),
            ),
          ),
        ),
      ),
    ),
  ),
)

abbrev pub float_pending : Option Operation → Option Pending
float_pending None = None
float_pending (Some o) = Some (record { answer = Some (type_of_kind o.gives); may_throw = false })

-- ---- operations that show one

module _ (links : Links) (s : RowScope) (frame : Frame) (p : Pending) where
  pub float_answers : (opcode : ℕ) → pending_of (float_arithmetic opcode) ≡ Some p
      → AnsweredBy true (operation_row frame (operation_in float_operations opcode)) p.answer
  float_answers opcode is = by (operation_in float_operations opcode) refl is where
    by : (o : Option Operation) → operation_in float_operations opcode ≡ o → float_pending o ≡ Some p
        → AnsweredBy true (operation_row frame o) p.answer
    by None e is = cc
    by (Some o) e is =
        subst (λ (q : Pending). AnsweredBy true (operation_row frame (Some o)) q.answer) (some_of is)
        (record { falls_through = refl; goes_on = refl; gives = ap (λ t. t ∷ []) (float_given float_operations opcode o floats_given e) })

  pub get_static_answers : (r : Option Reference) → pending_of (or_meaningless (option_map get_static r)) ≡ Some p
      → AnsweredBy true (get_static_row frame r) p.answer
  get_static_answers None is = cc
  get_static_answers (Some r) is =
      subst (λ (q : Pending). AnsweredBy true (get_static_row frame (Some r)) q.answer) (some_of is)
      (record { falls_through = refl; goes_on = refl; gives = refl })

  pub put_static_answers : (r : Option Reference) → pending_of (or_meaningless
      (option_map (λ x. put_static x (initialises s.is_clinit s.own)) r)) ≡ Some p → AnsweredBy true (put_static_row frame r) p.answer
  put_static_answers None is = cc
  put_static_answers (Some r) is =
      subst (λ (q : Pending). AnsweredBy true (put_static_row frame (Some r)) q.answer) (some_of is)
      (record { falls_through = refl; goes_on = refl; gives = refl })

  pub get_field_answers : (r : Option Reference) → pending_of (or_meaningless (option_map get_field r)) ≡ Some p
      → AnsweredBy true (get_field_row s frame r) p.answer
  get_field_answers None is = cc
  get_field_answers (Some r) is =
      subst (λ (q : Pending). AnsweredBy true (get_field_row s frame (Some r)) q.answer) (some_of is)
      (record { falls_through = refl; goes_on = refl; gives = refl })

  pub put_field_answers : (r : Option Reference) → pending_of (or_meaningless
      (option_map (λ x. put_field x (initialises s.is_init s.own)) r)) ≡ Some p → AnsweredBy true (put_field_row s frame r) p.answer
  put_field_answers None is = cc
  put_field_answers (Some r) is =
      subst (λ (q : Pending). AnsweredBy true (put_field_row s frame (Some r)) q.answer) (some_of is)
      (record { falls_through = refl; goes_on = refl; gives = refl })

  -- whichever a call is, it gives its result
  pub call_gives : (r : Reference) (opcode : ℕ) → AnsweredBy true (call_row s frame opcode (Some r)) (result_of r.desc)
  call_gives r opcode = by (opcode == INVOKESTATIC) (opcode == INVOKESPECIAL) (bytes_eq r.name init) where
    by : (a b c : Bool) → AnsweredBy true (either a (static_row frame r) (either b (either c (init_row s frame r) (special_row s frame r))
        (call_row s frame INVOKEVIRTUAL (Some r)))) (result_of r.desc)
    by true b c = record { falls_through = refl; goes_on = refl; gives = refl }
    by false true true = record { falls_through = refl; goes_on = refl; gives = refl }
    by false true false = record { falls_through = refl; goes_on = refl; gives = refl }
    by false false c = record { falls_through = refl; goes_on = refl; gives = refl }

  pub call_awaits : (r : Reference) (opcode : ℕ) → pending_of (call_op links s opcode r) ≡ Some p → result_of r.desc ≡ p.answer
  call_awaits r opcode is = by (opcode == INVOKEVIRTUAL) (opcode == INVOKESPECIAL) (opcode == INVOKESTATIC) (opcode == INVOKEINTERFACE) is
    where
      by : (a b c d : Bool) → pending_of (if a then call_virtual r else
          (if b then call_special r (special_start links s r.class) else
          (if c then call_static r else (if d then call_interface r else meaningless)))) ≡ Some p
          → result_of r.desc ≡ p.answer
      by true b c d is = ap (λ (q : Pending). q.answer) (some_of is)
      by false true c d is = ap (λ (q : Pending). q.answer) (some_of is)
      by false false true d is = ap (λ (q : Pending). q.answer) (some_of is)
      by false false false true is = ap (λ (q : Pending). q.answer) (some_of is)
      by false false false false is = cc

  pub call_answers : (opcode : ℕ) (r : Option Reference) → pending_of (or_meaningless (option_map (call_op links s opcode) r)) ≡ Some p
      → AnsweredBy true (call_row s frame opcode r) p.answer
  call_answers opcode None is = cc
  call_answers opcode (Some r) is = subst (λ a. AnsweredBy true (call_row s frame opcode (Some r)) a) (call_awaits r opcode is)
      (call_gives r opcode)

  abbrev pub dynamic_parts : ℕ → Option (List ℕ) → Option (List ℕ) → Op
  dynamic_parts bootstrap (Some name) (Some desc) = call_dynamic s.own.name bootstrap name desc
  dynamic_parts bootstrap name desc = meaningless

  abbrev pub dynamic_parts_row : Option (List ℕ) → Row
  dynamic_parts_row None = no_row frame
  dynamic_parts_row (Some desc) = plain frame (argument_needs desc) (result_types (result_of desc))

  pub dynamic_answers : (c : Option Const) → pending_of (dynamic_op s c) ≡ Some p → AnsweredBy true (dynamic_row s frame c) p.answer
  dynamic_answers (Some (consts.InvokeDynamic bootstrap member)) is = by (name_at s.pool member) (descriptor_at s.pool member) is where
    by : (n d : Option (List ℕ)) → pending_of (dynamic_parts bootstrap n d) ≡ Some p → AnsweredBy true (dynamic_parts_row d) p.answer
    by None d is = cc
    by (Some n) None is = cc
    by (Some n) (Some d) is =
        subst (λ (q : Pending). AnsweredBy true (dynamic_parts_row (Some d)) q.answer) (some_of is)
        (record { falls_through = refl; goes_on = refl; gives = refl })
  dynamic_answers c is = cc

  pub item_answers : (numbered : ℕ → ℕ) (place : ℕ) (item : CodeItem) → pending_of (item_op links numbered s item) ≡ Some p
      → AnsweredBy (item_falls_through item) (item_row s frame place item) p.answer
  item_answers numbered place (item_null_test local) is = cc
  item_answers numbered place (item_instr instrs.Nop) is = cc
  item_answers numbered place (item_instr (instrs.Const imm)) is = cc
  item_answers numbered place (item_instr (instrs.Ldc index)) is = never p (constant_none s.pool (constant_at s.pool index)) is
  item_answers numbered place (item_instr (instrs.Ldc2 index)) is = never p (constant_none s.pool (constant_at s.pool index)) is
  item_answers numbered place (item_instr (instrs.Load kind at)) is = cc
  item_answers numbered place (item_instr (instrs.Store kind at)) is = cc
  item_answers numbered place (item_instr (instrs.Iinc at by)) is = cc
  item_answers numbered place (item_instr (instrs.ArrayLoad opcode)) is =
      never p (tested_none (nat_le IALOAD opcode && nat_le opcode SALOAD) (load_element opcode) refl) is
  item_answers numbered place (item_instr (instrs.ArrayStore opcode)) is =
      never p (tested_none (nat_le IASTORE opcode && nat_le opcode SASTORE) (store_element opcode) refl) is
  item_answers numbered place (item_instr (instrs.Shuffle opcode)) is = cc
  item_answers numbered place (item_instr (instrs.Pure opcode)) is = cc
  item_answers numbered place (item_instr (instrs.Divide opcode)) is = cc
  item_answers numbered place (item_instr (instrs.FloatAsk opcode)) is = float_answers opcode is
  item_answers numbered place (item_instr (instrs.If opcode target)) is =
      never p (tested_none (nat_le IFEQ opcode && nat_le opcode IFLE) (jump_by_int opcode (numbered target)) refl) is
  item_answers numbered place (item_instr (instrs.If2 opcode target)) is =
      never p (tested_none (nat_le IF_ICMPEQ opcode && nat_le opcode IF_ICMPLE) (jump_by_ints opcode (numbered target)) refl) is
  item_answers numbered place (item_instr (instrs.IfSame opcode target)) is =
      never p (tested_none (nat_le IF_ACMPEQ opcode && nat_le opcode IF_ACMPNE) (jump_by_references opcode (numbered target)) refl) is
  item_answers numbered place (item_instr (instrs.IfNull opcode target)) is =
      never p (tested_none (nat_le IFNULL opcode && nat_le opcode IFNONNULL) (jump_by_null opcode (numbered target)) refl) is
  item_answers numbered place (item_instr (instrs.Goto target)) is = cc
  item_answers numbered place (item_instr (instrs.Table low other targets)) is = cc
  item_answers numbered place (item_instr (instrs.Lookup other pairs)) is = cc
  item_answers numbered place (item_instr (instrs.Return kind)) is = never p (return_none s.result kind) is
  item_answers numbered place (item_instr (instrs.GetStatic index)) is = get_static_answers
      (reference_of s.pool (constant_at s.pool index)) is
  item_answers numbered place (item_instr (instrs.PutStatic index)) is = put_static_answers
      (reference_of s.pool (constant_at s.pool index)) is
  item_answers numbered place (item_instr (instrs.GetField index)) is = get_field_answers (reference_of s.pool (constant_at s.pool index))
      is
  item_answers numbered place (item_instr (instrs.PutField index)) is = put_field_answers (reference_of s.pool (constant_at s.pool index))
      is
  item_answers numbered place (item_instr (instrs.Invoke opcode index count)) is = call_answers opcode
      (reference_of s.pool (constant_at s.pool index)) is
  item_answers numbered place (item_instr (instrs.Dynamic index)) is = dynamic_answers (constant_at s.pool index) is
  item_answers numbered place (item_instr (instrs.New index)) is = never p (found_none (class_at s.pool index) new_object (λ x. refl)) is
  item_answers numbered place (item_instr (instrs.NewArray code)) is = never p (found_none (primitive_array code) new_array (λ x. refl))
      is
  item_answers numbered place (item_instr (instrs.NewRefArray index)) is =
      never p (found_none (array_of (class_at s.pool index)) new_array (λ x. refl)) is
  item_answers numbered place (item_instr (instrs.NewMulti index dimensions)) is =
      never p (found_none (class_at s.pool index) (λ name. new_arrays name dimensions) (λ x. refl)) is
  item_answers numbered place (item_instr instrs.Length) is = cc
  item_answers numbered place (item_instr instrs.Throw) is = cc
  item_answers numbered place (item_instr (instrs.Cast index)) is = never p (found_none (class_at s.pool index) check_cast (λ x. refl)) is
  item_answers numbered place (item_instr (instrs.InstanceOf index)) is =
      never p (found_none (class_at s.pool index) instance_of (λ x. refl)) is
  item_answers numbered place (item_instr instrs.Enter) is = cc
  item_answers numbered place (item_instr instrs.Leave) is = cc

-- an item whose operation shows an event, however it is read
pub read_answers : (P : Program) (s : RowScope) (frame : Frame) (p : Pending) (numbered : ℕ → ℕ) (place : ℕ) (item : CodeItem) (reading : Reading)
    → MayBeRead reading frame (item_op P.links numbered s item) → IsLinkedCall P s (item_op P.links numbered s item)
    → pending_of (item_op P.links numbered s item) ≡ Some p
    → AnsweredBy (item_falls_through item) (row_by reading frame (item_row s frame place item)) p.answer
read_answers P s frame p numbered place item reads_itself read linked is =
    let own = item_answers P.links s frame p numbered place item is in
    record { falls_through = own.falls_through; goes_on = own.goes_on; gives = own.gives }
read_answers P s frame p numbered place item (reads_object class) read linked is = never p (ap pending_of read) is
read_answers P s frame p numbered place item (reads_pop desc) read linked is =
    let answer : result_of read.reference.desc ≡ p.answer = ap (λ (q : Pending). q.answer) (some_of (sym (ap pending_of read.calls) ∙ is)) in
    record {
      falls_through = (item_answers P.links s frame p numbered place item is).falls_through;
      goes_on = refl;
      gives = ap result_types (sym (object_init_void P s read linked) ∙ answer);
    }
