-- The rows of instructions that give no uninitialised object: their plans hold what they don't take.
use Rattle.std.proofs.Common.{◌≡◌, ◌+◌, ◌-◌, ◌≤◌, ℕ, Bool, true, false, List, [], ◌∷◌, length, map, replicate, bytes_eq, slice_get, Option, Some, None, if◌then◌else◌, refl, ap, subst, arith}
use Rattle.std.specs.Prelude.{◌==◌, nat_lt}
use Rattle.std.specs.List.{AllByRecursion}
use Rattle.std.proofs.lemmas.List.{length-map, length-replicate}
use Rattle.class_model.specs.Code.{verification_type}
use Rattle.class_model.specs.Descriptors.{parameters_of}
use Rattle.class_model.specs.Names.{init}
use Rattle.class_model.specs.PoolChecks.{descriptor_at}
use Rattle.class_model.specs.declared.descriptor.FieldType.{FieldType}
use Rattle.class_model.specs.declared.descriptor.FieldType.TheVariants as field_types
use Rattle.class_model.specs.declared.descriptor.Kind.{Kind}
use Rattle.class_model.specs.declared.descriptor.Kind.TheVariants as kinds
use Rattle.class_model.specs.declared.frame.Frame.{Frame}
use Rattle.class_model.specs.declared.frame.VType.{VType}
use Rattle.class_model.specs.declared.frame.VType.TheVariants as types
use Rattle.class_model.specs.declared.instr.Imm.{Imm}
use Rattle.class_model.specs.declared.instr.Imm.TheVariants as imms
use Rattle.class_model.specs.declared.opcodes.TheConstants.{AALOAD, AASTORE, IALOAD, IASTORE, IFNULL, IF_ACMPEQ, INVOKESPECIAL, INVOKESTATIC}
use Rattle.class_model.specs.declared.pool.Const.{Const as Constant}
use Rattle.class_model.specs.declared.pool.Const.TheVariants as consts
use Rattle.class_tree.specs.Headers.{Name}
use Rattle.expanded_code.specs.Expanded.{Setting, set_frame}
use Rattle.expanded_runs.proofs.Ready.RowKeeps.{LeavesEntries, Moving, NotNew, RowKeeps, keeps_plain}
use Rattle.expanded_runs.proofs.Ready.StoredBack.{initialised_back, mapped_back}
use Rattle.expanded_runs.proofs.Types.PlacedRows.{has_enough}
use Rattle.flow_code.specs.FlatCode.{FlatCode}
use Rattle.member_link.specs.Machine.CallSteps.{is_object_init}
use Rattle.member_link.specs.References.{Reference}
use Rattle.member_link.specs.RowScope.{RowScope}
use Rattle.member_link.specs.Rows.ArithmeticRows.{Operation, operation_row, type_of_kind}
use Rattle.member_link.specs.Rows.ArrayRows.{Elements, array_load_row, array_store_row, component_type, elements_from, elements_load_row, elements_of, elements_store_row, made_row}
use Rattle.member_link.specs.Rows.LocalRows.{const_row, type_of_imm}
use Rattle.member_link.specs.Rows.MemberRows.{argument_needs, get_field_row, get_static_row, init_row, initialised_type, instance_row, put_field_row, put_static_row, receiver, result_types, special_row, static_row, call_row as own_call_row, dynamic_row as own_dynamic_row}
use Rattle.member_link.specs.Rows.Operands.{AllFit, IsUninitialised, Need, assignable_to, lowest_of, nothing, of_kind, topmost}
use Rattle.member_link.specs.Rows.Row.{Row, either, no_row, plain}
use Rattle.member_link.specs.Rows.Table.{cast_row, jump_row}
use Rattle.member_link.specs.Signatures.{result_of}
use Rattle.plan_flow.specs.PlanRows.{PlanRow}
use Rattle.plan_flow.specs.PlanTable.{call_row, calling, dynamic_row, held_locals, moving, null_row, operands_of, receivers, same_row}

-- ---- types that are none of an uninitialised object

pub imm_known : (imm : Imm) → NotNew (type_of_imm imm)
imm_known imms.Null is = is
imm_known (imms.Int number) is = is
imm_known (imms.Long number) is = is
imm_known (imms.Float bits) is = is
imm_known (imms.Double bits) is = is

pub declared_known : (type : FieldType) → NotNew (verification_type type)
declared_known (field_types.Named name) is = is
declared_known field_types.Byte is = is
declared_known field_types.Char is = is
declared_known field_types.Short is = is
declared_known field_types.Bool is = is
declared_known field_types.Int is = is
declared_known field_types.Long is = is
declared_known field_types.Float is = is
declared_known field_types.Double is = is

pub results_known : (result : Option FieldType) → AllByRecursion NotNew (result_types result)
results_known None = tt
results_known (Some type) = (declared_known type, tt)

kind_known : (kind : Kind) → NotNew (type_of_kind kind)
kind_known kinds.Int is = is
kind_known kinds.Long is = is
kind_known kinds.Float is = is
kind_known kinds.Double is = is
kind_known kinds.Ref is = is

component_known : (type : VType) → NotNew (component_type type)
component_known (types.Object name) is = is
component_known types.Top is = is
component_known types.Int is = is
component_known types.Float is = is
component_known types.Long is = is
component_known types.Double is = is
component_known types.Null is = is
component_known types.UninitThis is = is
component_known (types.Uninit at) is = is

abbrev ElementsKnown : Option Elements → Type 0
ElementsKnown None = Unit {0}
ElementsKnown (Some e) = NotNew e.type

if_known : (test : Bool) (one other : Option Elements) → ElementsKnown one → ElementsKnown other → ElementsKnown (if test then one else other)
if_known true one other known also = known
if_known false one other known also = also

elements_known : (n : ℕ) → ElementsKnown (elements_of n)
elements_known n =
    if_known (n == 0) _ _ (λ is. is) (if_known (n == 1) _ _ (λ is. is) (if_known (n == 2) _ _ (λ is. is) (if_known (n == 3) _ _ (λ is. is)
    (if_known (n == 5) _ _ (λ is. is) (if_known (n == 6) _ _ (λ is. is) (if_known (n == 7) _ _ (λ is. is) tt))))))

from_known : (first opcode : ℕ) → ElementsKnown (elements_from first opcode)
from_known first opcode = if_known (nat_lt opcode first) None (elements_of (opcode - first)) tt (elements_known (opcode - first))

-- ---- rows

module _ (flat : FlatCode) (t : Setting) (number : ℕ) (f : Frame) (fits : t.unit + length f.locals ≤ length t.below.locals) (s : RowScope) where
  abbrev pub HasFit : Row → Type 0
  HasFit row = AllFit s row.takes (topmost (length row.takes) f.stack)

  abbrev pub Keeps : Row → PlanRow → Type 0
  Keeps row plan = HasFit row → RowKeeps flat t number f row plan

  -- a plan that holds the locals and what it doesn't take
  pub record Plan (plan : PlanRow) (takes : ℕ) : Type 0 where
    pub moving : Moving flat t number f fits plan takes
    pub locals : plan.locals ≡ held_locals (set_frame t f)

  -- and a row that does
  pub record HoldsRow (row : Row) : Type 0 where
    pub locals : (m : ℕ) (type : VType) → IsUninitialised type → slice_get row.locals m ≡ Some type → slice_get f.locals m ≡ Some type
    pub leaves : LeavesEntries flat t number f fits row
    pub gives : AllByRecursion NotNew row.gives

  pub keeps_of : (row : Row) (plan : PlanRow) (takes : ℕ) → Plan plan takes → takes ≤ length row.takes → HoldsRow row → Keeps row plan
  keeps_of row plan takes p fewer holds fit =
      keeps_plain flat t number f fits row plan takes p.moving fewer (has_enough s row.takes f.stack fit) holds.leaves
      (record { plan_locals = p.locals; back = holds.locals }) holds.gives

  pub all_left : (row : Row) → ((entries : List VType) → row.becomes entries ≡ entries) → LeavesEntries flat t number f fits row
  all_left row same = record {
    back = λ entries m type new is. subst (λ (l : List VType). slice_get l m ≡ Some type) (same entries) is;
    long = λ entries. ap (λ (l : List VType). length l) (same entries);
  }

  pub plain_holds : (takes : List Need) (gives : List VType) → AllByRecursion NotNew gives → HoldsRow (plain f takes gives)
  plain_holds takes gives known = record {
    locals = λ m type new is. is;
    leaves = record { back = λ entries m type new is. is; long = λ entries. refl };
    gives = known;
  }

  pub plan_of : (takes : ℕ) (gives : List _) → Plan (moving (set_frame t f) takes gives) takes
  plan_of takes gives = record { moving = record { more = gives; stack = refl }; locals = refl }

  never : HasFit (no_row f) → ⊥
  never fit = by (topmost 1 f.stack) fit where
    by : (entries : List VType) → AllFit s (nothing ∷ []) entries → ⊥
    by [] none = none
    by (entry ∷ entries) none = none.0

  pub no_row_keeps : (plan : PlanRow) → Keeps (no_row f) plan
  no_row_keeps plan fit = absurd (never fit)

  either_keeps : (test : Bool) (row other : Row) (plan : PlanRow) → Keeps row plan → Keeps other plan → Keeps (either test row other) plan
  either_keeps true row other plan keeps also = keeps
  either_keeps false row other plan keeps also = also

  plain_keeps : (takes : List Need) (gives : List VType) (plan : PlanRow) (count : ℕ) → Plan plan count → count ≤ length takes
      → AllByRecursion NotNew gives
      → Keeps (plain f takes gives) plan
  plain_keeps takes gives plan count p fewer known = keeps_of (plain f takes gives) plan count p fewer (plain_holds takes gives known)

  -- ---- families

  pub const_keeps : (plan : PlanRow) → Plan plan 0 → (constant : Option Constant) → Keeps (const_row f constant) plan
  const_keeps plan p None = no_row_keeps plan
  const_keeps plan p (Some (consts.Integer n)) = plain_keeps _ _ plan 0 p (omega arith) (λ is. is, tt)
  const_keeps plan p (Some (consts.Float bits)) = plain_keeps _ _ plan 0 p (omega arith) (λ is. is, tt)
  const_keeps plan p (Some (consts.Long n)) = plain_keeps _ _ plan 0 p (omega arith) (λ is. is, tt)
  const_keeps plan p (Some (consts.Double bits)) = plain_keeps _ _ plan 0 p (omega arith) (λ is. is, tt)
  const_keeps plan p (Some (consts.String text)) = plain_keeps _ _ plan 0 p (omega arith) (λ is. is, tt)
  const_keeps plan p (Some (consts.Class name)) = plain_keeps _ _ plan 0 p (omega arith) (λ is. is, tt)
  const_keeps plan p (Some (consts.MethodHandle kind reference)) = plain_keeps _ _ plan 0 p (omega arith) (λ is. is, tt)
  const_keeps plan p (Some (consts.MethodType descriptor)) = plain_keeps _ _ plan 0 p (omega arith) (λ is. is, tt)
  const_keeps plan p (Some other) = no_row_keeps plan

  elements_load_keeps : (plan : PlanRow) → Plan plan 2 → (found : Option Elements) → ElementsKnown found → Keeps (elements_load_row f found) plan
  elements_load_keeps plan p None known = no_row_keeps plan
  elements_load_keeps plan p (Some e) known = plain_keeps _ _ plan 2 p (omega arith) (known, tt)

  pub array_load_keeps : (plan : PlanRow) → Plan plan 2 → (opcode : ℕ) → Keeps (array_load_row f opcode) plan
  array_load_keeps plan p opcode =
      either_keeps (opcode == AALOAD) _ _ plan (plain_keeps _ _ plan 2 p (omega arith) (component_known (lowest_of 2 f.stack), tt))
      (elements_load_keeps plan p (elements_from IALOAD opcode) (from_known IALOAD opcode))

  elements_store_keeps : (plan : PlanRow) → Plan plan 3 → (found : Option Elements) → Keeps (elements_store_row f found) plan
  elements_store_keeps plan p None = no_row_keeps plan
  elements_store_keeps plan p (Some e) = plain_keeps _ _ plan 3 p (omega arith) tt

  pub array_store_keeps : (plan : PlanRow) → Plan plan 3 → (opcode : ℕ) → Keeps (array_store_row f opcode) plan
  array_store_keeps plan p opcode =
      either_keeps (opcode == AASTORE) _ _ plan (plain_keeps _ _ plan 3 p (omega arith) tt) (elements_store_keeps plan p (elements_from IASTORE opcode))

  pub operation_keeps : (plan : PlanRow) (found : Option Operation) → Plan plan (operands_of found) → Keeps (operation_row f found) plan
  operation_keeps plan None p = no_row_keeps plan
  operation_keeps plan (Some o) p =
      plain_keeps (map of_kind o.takes) _ plan (length o.takes) p (omega (arith, length-map o.takes of_kind)) (kind_known o.gives, tt)

  pub jump_keeps : (plan : PlanRow) (count : ℕ) → Plan plan count → (is_known : Bool) (takes : List Need) → count ≤ length takes
      → Keeps (jump_row f is_known takes) plan
  jump_keeps plan count p is_known takes fewer = either_keeps is_known _ _ plan (plain_keeps takes [] plan count p fewer tt) (no_row_keeps plan)

  pub get_static_keeps : (plan : PlanRow) → Plan plan 0 → (r : Option Reference) → Keeps (get_static_row f r) plan
  get_static_keeps plan p None = no_row_keeps plan
  get_static_keeps plan p (Some r) = plain_keeps _ _ plan 0 p (omega arith) (declared_known _, tt)

  pub put_static_keeps : (plan : PlanRow) → Plan plan 1 → (r : Option Reference) → Keeps (put_static_row f r) plan
  put_static_keeps plan p None = no_row_keeps plan
  put_static_keeps plan p (Some r) = plain_keeps _ _ plan 1 p (omega arith) tt

  pub made_keeps : (plan : PlanRow) (counts : ℕ) → Plan plan counts → (name : Option Name) → Keeps (made_row f counts name) plan
  made_keeps plan counts p None = no_row_keeps plan
  made_keeps plan counts p (Some name) =
      plain_keeps (replicate counts (of_kind kinds.Int)) _ plan counts p (omega (arith, length-replicate counts (of_kind kinds.Int))) (λ is. is, tt)

  pub cast_keeps : (plan : PlanRow) → Plan plan 1 → (name : Option Name) → Keeps (cast_row f name) plan
  cast_keeps plan p None = no_row_keeps plan
  cast_keeps plan p (Some name) = plain_keeps _ _ plan 1 p (omega arith) (λ is. is, tt)

  -- the same locals and entries under what is taken, whatever else is asked
  like_holds : (row : Row) → row.locals ≡ f.locals → ((entries : List VType) → row.becomes entries ≡ entries) → AllByRecursion NotNew row.gives
      → HoldsRow row
  like_holds row locals becomes known = record {
    locals = λ m type new is. subst (λ (l : List VType). slice_get l m ≡ Some type) locals is;
    leaves = all_left row becomes;
    gives = known;
  }

  pub like_plain : (row : Row) (plan : PlanRow) (count : ℕ) → Plan plan count → count ≤ length row.takes → row.locals ≡ f.locals
      → ((entries : List VType) → row.becomes entries ≡ entries)
      → AllByRecursion NotNew row.gives
      → Keeps row plan
  like_plain row plan count p fewer locals becomes known = keeps_of row plan count p fewer (like_holds row locals becomes known)

  pub get_field_keeps : (plan : PlanRow) → Plan plan 1 → (r : Option Reference) → Keeps (get_field_row s f r) plan
  get_field_keeps plan p None = no_row_keeps plan
  get_field_keeps plan p (Some r) = like_plain (get_field_row s f (Some r)) plan 1 p (omega arith) refl (λ entries. refl) (declared_known _, tt)

  pub put_field_keeps : (plan : PlanRow) → Plan plan 2 → (r : Option Reference) → Keeps (put_field_row s f r) plan
  put_field_keeps plan p None = no_row_keeps plan
  put_field_keeps plan p (Some r) = like_plain (put_field_row s f (Some r)) plan 2 p (omega arith) refl (λ entries. refl) tt

  -- ---- calls

  if_plan : (test : Bool) (one other : PlanRow) (count also : ℕ) → Plan one count → Plan other also
      → Plan (if test then one else other) (if test then count else also)
  if_plan true one other count also p q = p
  if_plan false one other count also p q = q

  needs_many : (desc : List ℕ) → length (argument_needs desc) ≡ length (parameters_of desc)
  needs_many desc = length-map (parameters_of desc) (λ (param : FieldType). assignable_to (verification_type param))

  needs_long : (r : Reference) → length (argument_needs r.desc) ≡ length (parameters_of r.desc)
  needs_long r = needs_many r.desc

  -- how many operands a call's plan takes
  abbrev taken : Bool → Bool → ℕ → ℕ
  taken of_object static arguments = if of_object then 1 else (arguments + (if static then 0 else 1))

  few_static : (of_object : Bool) (arguments : ℕ) → of_object ≡ false → taken of_object true arguments ≤ arguments
  few_static true arguments is = absurd cc
  few_static false arguments is = omega arith

  few_other : (of_object : Bool) (arguments : ℕ) → taken of_object false arguments ≤ 1 + arguments
  few_other true arguments = omega arith
  few_other false arguments = omega arith

  init_holds : (r : Reference) → HoldsRow (init_row s f r)
  init_holds r = record {
    locals = mapped_back (initialised_type s r (receiver f r.desc)) (initialised_back s r (receiver f r.desc)) f.locals;
    leaves = record {
      back = mapped_back (initialised_type s r (receiver f r.desc)) (initialised_back s r (receiver f r.desc));
      long = λ entries. length-map entries (initialised_type s r (receiver f r.desc));
    };
    gives = results_known (result_of r.desc);
  }

  static_holds : (r : Reference) → HoldsRow (static_row f r)
  static_holds r = like_holds (static_row f r) refl (λ entries. refl) (results_known (result_of r.desc))

  special_holds : (r : Reference) → HoldsRow (special_row s f r)
  special_holds r = like_holds (special_row s f r) refl (λ entries. refl) (results_known (result_of r.desc))

  instance_holds : (r : Reference) (Further Access : Type 0) → HoldsRow (instance_row f r Further Access)
  instance_holds r Further Access = like_holds (instance_row f r Further Access) refl (λ entries. refl) (results_known (result_of r.desc))

  either_holds : (test : Bool) (row other : Row) → HoldsRow row → HoldsRow other → HoldsRow (either test row other)
  either_holds true row other holds also = holds
  either_holds false row other holds also = also

  pub call_holds : (opcode : ℕ) (r : Option Reference) → HoldsRow (own_call_row s f opcode r)
  call_holds opcode None = plain_holds _ [] tt
  call_holds opcode (Some r) =
      either_holds (opcode == INVOKESTATIC) _ _ (static_holds r)
      (either_holds (opcode == INVOKESPECIAL) _ _ (either_holds (bytes_eq r.name init) _ _ (init_holds r) (special_holds r)) (instance_holds r _ _))

  call_by : (plan : PlanRow) (r : Reference) (of_object static : Bool) → Plan plan (taken of_object static (length (parameters_of r.desc)))
      → (static ≡ true → of_object ≡ false)
      → (special constructs : Bool) (Further Access : Type 0)
      → Keeps (either static (static_row f r) (either special (either constructs (init_row s f r) (special_row s f r)) (instance_row f r Further Access))) plan
  call_by plan r of_object true p none special constructs Further Access =
      keeps_of (static_row f r) plan _ p (omega (arith, few_static of_object (length (parameters_of r.desc)) (none refl), needs_long r)) (static_holds r)
  call_by plan r of_object false p none true true Further Access =
      keeps_of (init_row s f r) plan _ p (omega (arith, few_other of_object (length (parameters_of r.desc)), needs_long r)) (init_holds r)
  call_by plan r of_object false p none true false Further Access =
      keeps_of (special_row s f r) plan _ p (omega (arith, few_other of_object (length (parameters_of r.desc)), needs_long r)) (special_holds r)
  call_by plan r of_object false p none false constructs Further Access =
      keeps_of (instance_row f r Further Access) plan _ p (omega (arith, few_other of_object (length (parameters_of r.desc)), needs_long r))
      (instance_holds r Further Access)

  pub call_keeps : (opcode : ℕ) (r : Option Reference)
      → ((one : Reference) → r ≡ Some one → (opcode == INVOKESTATIC) ≡ true → is_object_init one ≡ false)
      → Keeps (own_call_row s f opcode r) (call_row (set_frame t f) opcode r)
  call_keeps opcode None none = no_row_keeps _
  call_keeps opcode (Some r) none =
      call_by (call_row (set_frame t f) opcode (Some r)) r (is_object_init r) (opcode == INVOKESTATIC)
      (if_plan (is_object_init r) (moving (set_frame t f) 1 [])
      (calling (set_frame t f) (length (parameters_of r.desc) + receivers opcode) r.desc) 1 (length (parameters_of r.desc) + receivers opcode)
      (plan_of 1 []) (record { moving = record { more = _; stack = refl }; locals = refl }))
      (none r refl) (opcode == INVOKESPECIAL) (bytes_eq r.name init) _ _

  pub dynamic_keeps : (constant : Option Constant) → Keeps (own_dynamic_row s f constant) (dynamic_row s.pool (set_frame t f) constant)
  dynamic_keeps (Some (consts.InvokeDynamic bootstrap member)) = by (descriptor_at s.pool member) refl where
    by : (desc : Option (List ℕ)) → descriptor_at s.pool member ≡ desc
        → Keeps (own_dynamic_row s f (Some (consts.InvokeDynamic bootstrap member)))
        (dynamic_row s.pool (set_frame t f) (Some (consts.InvokeDynamic bootstrap member)))
    by None is = rw (is) (no_row_keeps _)
    by (Some desc) is = rw (is)
        (plain_keeps (argument_needs desc) (result_types (result_of desc)) _ (length (parameters_of desc))
        (record { moving = record { more = _; stack = refl }; locals = refl })
        (omega (arith, needs_many desc)) (results_known (result_of desc)))
  dynamic_keeps constant = no_row_keeps _

  -- ---- jumps that compare references

  pub same_plan : (opcode : ℕ) → Plan (same_row (set_frame t f) opcode) 2
  same_plan opcode = by (opcode == IF_ACMPEQ) refl where
    by : (b : Bool) → (opcode == IF_ACMPEQ) ≡ b → Plan (same_row (set_frame t f) opcode) 2
    by true is = rw (is) (record { moving = record { more = []; stack = refl }; locals = refl })
    by false is = rw (is) (record { moving = record { more = []; stack = refl }; locals = refl })

  pub null_plan : (opcode : ℕ) → Plan (null_row (set_frame t f) opcode) 1
  null_plan opcode = by (opcode == IFNULL) refl where
    by : (b : Bool) → (opcode == IFNULL) ≡ b → Plan (null_row (set_frame t f) opcode) 1
    by true is = rw (is) (record { moving = record { more = []; stack = refl }; locals = refl })
    by false is = rw (is) (record { moving = record { more = []; stack = refl }; locals = refl })
