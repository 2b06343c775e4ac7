-- Operations without operands, and those for whose operands their row asks: what the row says of them.
use Rattle.std.proofs.Common.{◌≡◌, ◌⊎◌, ◌≤◌, ◌<◌, ◌+◌, ◌-◌, ◌==◌, ℕ, zero, suc, Bool, true, false, List, [], ◌∷◌, length, map, reverse, slice_get, take, Option, Some, None, IsTrue, option_map, if◌then◌else◌, refl, sym, ap, subst, ◌∙◌, arith, inl, inr}
use Rattle.std.proofs.lemmas.Bool.{cases_lt, eqb-true}
use Rattle.std.proofs.lemmas.List.{append-nil}
use Rattle.std.proofs.lemmas.Option.{none-some}
use Rattle.class_model.specs.Descriptors.{parameters_of}
use Rattle.class_model.specs.Pool.{Constants, constant_at}
use Rattle.class_model.specs.PoolChecks.{class_at, descriptor_at, name_at, utf8_at}
use Rattle.class_model.specs.declared.descriptor.FieldType.{FieldType}
use Rattle.class_model.specs.declared.frame.Frame.{Frame}
use Rattle.class_model.specs.declared.frame.VType.{VType}
use Rattle.class_model.specs.declared.instr.Imm.{Imm}
use Rattle.class_model.specs.declared.instr.Instr.{Instr}
use Rattle.class_model.specs.declared.instr.Instr.TheVariants.{Const, Ldc, Ldc2, GetStatic, PutStatic, Invoke, Dynamic, New, Throw}
use Rattle.class_model.specs.declared.opcodes.TheConstants.{INVOKEINTERFACE, INVOKESPECIAL, INVOKESTATIC, INVOKEVIRTUAL}
use Rattle.class_model.specs.declared.pool.Const.{Const as PoolConst}
use Rattle.class_model.specs.declared.pool.Const.TheVariants as consts
use Rattle.class_tree.specs.Headers.{Name}
use Rattle.flow_code.specs.ReadTypes.{is_site_object}
use Rattle.flow_code.specs.declared.point.FlatInstr.TheVariants.{Of}
use Rattle.flow_code.specs.declared.point.Point.{Point}
use Rattle.machine_values.specs.declared.object.Constant.{Constant}
use Rattle.machine_values.specs.Heaps.{object_at}
use Rattle.machine_values.specs.declared.object.Object.{Object}
use Rattle.machine_values.specs.declared.value.Value.{Value}
use Rattle.machine_values.specs.declared.value.Value.TheVariants.{Int, Long, Float, Double, Null, Ref}
use Rattle.member_link.specs.Bodies.{falls_through}
use Rattle.member_link.specs.Machine.CallSteps.{is_object_init}
use Rattle.member_link.specs.Machine.Codes.{call_op, constant_op, dynamic_op, handle_of, initialises, instr_op, naming, or_meaningless, referring, special_start, value_of_imm}
use Rattle.member_link.specs.Machine.Completions.{Completion, ends, gives, throws}
use Rattle.member_link.specs.Machine.FieldSteps.{get_static_work, static_number}
use Rattle.member_link.specs.Machine.ObjectSteps.{new_object_work, throw_work}
use Rattle.member_link.specs.Machine.Ops.{Op, call_dynamic, call_interface, call_special, call_static, call_virtual, get_static, meaningless, new_object, push_constant, push_value, put_static}
use Rattle.member_link.specs.Machine.Programs.{Program, field_of as field_in, folder_number, has_flag}
use Rattle.class_model.specs.Members.{STATIC}
use Rattle.class_tree.specs.Names.{throwable}
use Rattle.member_link.specs.Machine.Shapes.{shape_conforms}
use Rattle.member_link.specs.Machine.Work.{arity, work}
use Rattle.member_link.specs.Machine.Worlds.{Memory, is_begun, stuck}
use Rattle.member_link.specs.References.{Reference}
use Rattle.member_link.specs.RowScope.{RowScope}
use Rattle.member_link.specs.Signatures.{reference_of, result_of}
use Rattle.member_link.specs.Rows.MemberRows.{receiver}
use Rattle.plan_flow.specs.Must.{IsMustOf, row_of_point}
use Rattle.plan_flow.specs.PlanRows.{PlanRow, Position, Source, any_object, in_each_state, no_change, plain_value}
use Rattle.plan_flow.specs.PlanScope.{PlanScope, member_of, pool_of, site_at}
use Rattle.plan_flow.specs.PlanSlots.{held, slots_from}
use Rattle.plan_flow.specs.PlanTable.{call_row, calling, dynamic_row, falls_on, handed_over, instr_row, moving, new_row, operand, operands_asked, positions, receivers, result_given, row_at, throwing, value_stored}
use Rattle.plan_flow.specs.ReadyForPlans.{KeepsType, place_types}
use Rattle.plan_flow.specs.Written.Blocks.{state_written}
use Rattle.plan_flow.specs.Written.Routes.{Route}
use Rattle.plan_flow.specs.Written.Templates.{new_template, template}
use Rattle.same_runs.specs.Laws.Operations.{WorksOnOperands}
use Rattle.same_runs.specs.SameWorlds.{IsAwaiting, IsThrowing}
use Rattle.virtual_state.specs.States.{State}
use Rattle.virtual_state.specs.declared.slot.Slot.TheVariants.{Plain, Virt}
use Rattle.written_runs.specs.Inner.Waiting.{ThrowsThere, may_throw}
use Rattle.written_runs.specs.Laws.Carried.Rows.{IsFolderObject, PlainRow, asked_plain, fits_plainly, never_throws, none_plain, real_operands}
use Rattle.written_runs.specs.Laws.Carried.Works.{OperationFits}

-- ---- what these come to

-- a static field that is read raises nothing
static_never : (P : Program) (memory : Memory) (found : Option Reference) → IsThrowing (get_static_work P memory found) → ⊥
static_never P memory None throwing = throwing
static_never P memory (Some field) throwing = by (has_flag (field_in P field) STATIC) refl where
  of_place : (number : Option ℕ) → folder_number P field.class ≡ number
      → has_flag (field_in P field) STATIC ≡ true
      → IsThrowing (get_static_work P memory (Some field))
      → ⊥
  of_place None none static told = let no : ⊥ = rw (static, none) at told in no
  of_place (Some class) some static told = of_begun (is_begun memory class) refl where
    of_number : (number : Option ℕ) → static_number P class field ≡ number → is_begun memory class ≡ true → ⊥
    of_number None is begun = let no : ⊥ = rw (static, some, begun, is) at told in no
    of_number (Some number) is begun = let no : ⊥ = rw (static, some, begun, is) at told in no

    of_begun : (begun : Bool) → is_begun memory class ≡ begun → ⊥
    of_begun false not_begun = let no : ⊥ = rw (static, some, not_begun) at told in no
    of_begun true begun = of_number (static_number P class field) refl begun

  by : (static : Bool) → has_flag (field_in P field) STATIC ≡ static → ⊥
  by false not_static = let no : ⊥ = rw (not_static) at throwing in no
  by true static = of_place (folder_number P field.class) refl static throwing

-- nor does an object that is made
new_never : (P : Program) (memory : Memory) (class : Name) → IsThrowing (new_object_work P memory class) → ⊥
new_never P memory class throwing = of_place (folder_number P class) refl where
  of_begun : (number : ℕ) → folder_number P class ≡ Some number → (begun : Bool) → is_begun memory number ≡ begun → ⊥
  of_begun number some false not_begun = let no : ⊥ = rw (some, not_begun) at throwing in no
  of_begun number some true begun = let no : ⊥ = rw (some, begun) at throwing in no

  of_place : (number : Option ℕ) → folder_number P class ≡ number → ⊥
  of_place None none = let no : ⊥ = rw (none) at throwing in no
  of_place (Some number) some = of_begun number some (is_begun memory number) refl

-- each of so many operands is asked for
asked_operands : (f : Frame) (count number : ℕ) → number < count
    → (place : ℕ) × (slice_get (operands_asked f count) place ≡ Some (any_object (operand f number)))
asked_operands f zero number low = absurd (omega (arith, low))
asked_operands f (suc count) number low = by (cases_lt number count) (asked_operands f count number) where
  by : (number < count) ⊎ (count ≤ number)
      → (number < count → (place : ℕ) × (slice_get (operands_asked f count) place ≡ Some (any_object (operand f number))))
      → (place : ℕ) × (slice_get (operands_asked f (suc count)) place ≡ Some (any_object (operand f number)))
  by (inl below) rest = let found = rest below in (suc found.0, found.1)
  by (inr high) rest = let equal : count ≡ number = omega (arith, low, high) in (0, ap (λ (n : ℕ). Some (any_object (operand f n))) equal)

-- ---- at an instruction

-- what is known of a call of java/lang/Object's constructor
pub record InitHere (s : PlanScope) (point : Point) (opcode : ℕ) (r : Reference) (stack : List Value) : Type 0 where
  pub special : opcode ≡ INVOKESPECIAL
  pub no_parameters : parameters_of r.desc ≡ []
  pub refers : (value : Value)
      → slice_get stack 0 ≡ Some value
      → is_site_object s.flat (receiver point.typed r.desc) ≡ false
      → (reference : ℕ) × (value ≡ Ref reference)

-- what is known of a point whose instruction is written as it is
pub record FitsHere (P : Program) (s : PlanScope) (at : ℕ) (point : Point) (route : Route) (class : ℕ) (instr : Instr) (scope : RowScope) (memory : Memory)
    (stack : List Value)
    : Type 0 where
  pub is_instr : point.instr ≡ Of class instr
  pub none : template s at point.typed (state_written route) route class instr ≡ None
  pub must : IsMustOf s at point (state_written route) []
  pub many : length stack ≡ length point.typed.stack
  pub slots : length (state_written route).slots ≡ length point.typed.locals + length point.typed.stack
  pub pool : scope.pool ≡ pool_of s class
  pub folder : (number site : ℕ) (value : Value)
      → slice_get stack number ≡ Some value
      → held (state_written route) (operand point.typed number) ≡ Virt site
      → IsFolderObject memory.heap value
  pub links : P.links ≡ s.links
  pub uninit : (number : ℕ) (type : VType) (value : Value)
      → slice_get point.typed.stack (length point.typed.stack - (number + 1)) ≡ Some type
      → slice_get stack number ≡ Some value
      → IsTrue (is_site_object s.flat type)
      → (reference : ℕ) × (value ≡ Ref reference)
  -- java/lang/Object's constructor is called by invokespecial, without arguments, of an object that is there
  pub inits : (opcode index count : ℕ) (r : Reference)
      → instr ≡ Invoke opcode index count
      → member_of s class index ≡ Some r
      → is_object_init r ≡ true
      → InitHere s point opcode r stack

-- what an operation comes to there
abbrev pub works_to : Program → Memory → List Value → Op → Completion
works_to P memory stack op = work P memory op (reverse (take (arity op) stack))

-- an operation fits, where it has its operands and is not stuck
abbrev pub OpFits : Program → PlanScope → ℕ → Point → Route → Memory → List Value → Op → Type 0
OpFits P s at point route memory stack op =
    WorksOnOperands op
    → arity op ≤ length stack
    → (works_to P memory stack op ≡ ends stuck → ⊥)
    → OperationFits s at point route op stack (works_to P memory stack op)

module _ {P : Program} {s : PlanScope} {at : ℕ} {point : Point} {route : Route} {class : ℕ} {instr : Instr} {scope : RowScope} {memory : Memory}
    {stack : List Value} (here : FitsHere P s at point route class instr scope memory stack) where
  abbrev before : State
  before = state_written route

  abbrev Fits : Op → Type 0
  Fits op = OpFits P s at point route memory stack op

  pub row_is : row_of_point s at point ≡ instr_row s at point.typed class instr
  row_is = ap (row_at s at point.typed) here.is_instr

  pub falls_is : falls_on point.instr ≡ falls_through instr
  falls_is = ap falls_on here.is_instr

  -- a row that takes and giving
  pub moving_row : (takes : ℕ) (giving : List Source)
      → instr_row s at point.typed class instr ≡ moving point.typed takes giving
      → slots_from s before no_change giving ≡ map (λ source. Plain) giving
      → falls_through instr ≡ true
      → PlainRow s at point before takes giving
  moving_row takes giving is plain falls = record {
    row = moving point.typed takes giving;
    is_row = row_is ∙ is;
    locals = refl;
    stack = refl;
    plain = plain;
    unchanged = refl;
    opens = refl;
    falls = falls_is ∙ falls;
  }

  -- and one that asks for objects and throws
  pub asking_row : (takes : ℕ) (giving : List Source) (asks : List Position)
      → instr_row s at point.typed class instr ≡ record (throwing point.typed takes giving) { asks = asks }
      → slots_from s before no_change giving ≡ map (λ source. Plain) giving
      → falls_through instr ≡ true
      → PlainRow s at point before takes giving
  asking_row takes giving asks is plain falls = record {
    row = record (throwing point.typed takes giving) { asks = asks };
    is_row = row_is ∙ is;
    locals = refl;
    stack = refl;
    plain = plain;
    unchanged = refl;
    opens = refl;
    falls = falls_is ∙ falls;
  }

  -- where it is asked for each operand, and where it throws in each state
  asks_each : (takes : ℕ) (giving : List Source)
      → instr_row s at point.typed class instr ≡ record (throwing point.typed takes giving) { asks = handed_over point.typed takes }
      → (number site : ℕ)
      → number < takes
      → held before (operand point.typed number) ≡ Virt site
      → ⊥
  asks_each takes giving is number site low virtual =
      let asked = asked_operands point.typed takes number low in
      asked_plain asked.0 (operand point.typed number) site here.must
      (ap (λ (row : PlanRow). slice_get (positions row) asked.0) (row_is ∙ is)
      ∙ ap (λ (all : List Position). slice_get all asked.0) (append-nil (operands_asked point.typed takes)) ∙ asked.1) virtual

  pub throws_each : (takes : ℕ) (giving : List Source) (asks : List Position)
      → instr_row s at point.typed class instr ≡ record (throwing point.typed takes giving) { asks = asks }
      → ThrowsThere s at point route
  throws_each takes giving asks is =
      record { guard = in_each_state; throws = ap (λ (row : PlanRow). row.throws) (row_is ∙ is); opens = refl }

  -- ---- without operands

  alone : (op : Op)
      → arity op ≡ 0
      → instr_row s at point.typed class instr ≡ moving point.typed 0 (plain_value ∷ [])
      → falls_through instr ≡ true
      → (IsThrowing (works_to P memory stack op) → ⊥)
      → may_throw op ≡ false
      → Fits op
  alone op none is falls never quiet works enough not_stuck =
      fits_plainly op stack (works_to P memory stack op)
      (subst (λ (n : ℕ). PlainRow s at point before n (plain_value ∷ [])) (sym none) (moving_row 0 (plain_value ∷ []) is refl falls))
      here.many here.slots enough
      (λ number site low virtual. absurd (omega (arith, low, none)))
      (none_plain at (place_types point.typed)) (never_throws op _ never quiet)

  pub none_meant : Fits meaningless
  none_meant works enough not_stuck = absurd works

  fits_text : (text : Option (List ℕ)) (f : List ℕ → Constant)
      → ((constant : Constant) → Fits (push_constant constant))
      → Fits (or_meaningless (option_map (λ (t : List ℕ). push_constant (f t)) text))
  fits_text None f each = none_meant
  fits_text (Some t) f each = each (f t)

  fits_handle : (constant : Option Constant)
      → ((one : Constant) → Fits (push_constant one))
      → Fits (or_meaningless (option_map push_constant constant))
  fits_handle None each = none_meant
  fits_handle (Some constant) each = each constant

  fits_constant : instr_row s at point.typed class instr ≡ moving point.typed 0 (plain_value ∷ [])
      → falls_through instr ≡ true
      → (pool : Constants) (constant : Option PoolConst)
      → Fits (constant_op pool constant)
  fits_constant is falls pool None = none_meant
  fits_constant is falls pool (Some (consts.Integer number)) = alone _ refl is falls (λ throwing. throwing) refl
  fits_constant is falls pool (Some (consts.Long number)) = alone _ refl is falls (λ throwing. throwing) refl
  fits_constant is falls pool (Some (consts.Float bits)) = alone _ refl is falls (λ throwing. throwing) refl
  fits_constant is falls pool (Some (consts.Double bits)) = alone _ refl is falls (λ throwing. throwing) refl
  fits_constant is falls pool (Some (consts.String text)) =
      fits_text (utf8_at pool text) _ (λ constant. alone (push_constant constant) refl is falls (λ throwing. throwing) refl)
  fits_constant is falls pool (Some (consts.Class name)) =
      fits_text (utf8_at pool name) _ (λ constant. alone (push_constant constant) refl is falls (λ throwing. throwing) refl)
  fits_constant is falls pool (Some (consts.MethodType desc)) =
      fits_text (utf8_at pool desc) _ (λ constant. alone (push_constant constant) refl is falls (λ throwing. throwing) refl)
  fits_constant is falls pool (Some (consts.MethodHandle kind reference)) =
      fits_handle (handle_of pool kind reference) (λ constant. alone (push_constant constant) refl is falls (λ throwing. throwing) refl)
  fits_constant is falls pool (Some (consts.Utf8 text)) = none_meant
  fits_constant is falls pool (Some (consts.Fieldref owner member)) = none_meant
  fits_constant is falls pool (Some (consts.Methodref owner member)) = none_meant
  fits_constant is falls pool (Some (consts.InterfaceMethodref owner member)) = none_meant
  fits_constant is falls pool (Some (consts.NameAndType name desc)) = none_meant
  fits_constant is falls pool (Some (consts.InvokeDynamic bootstrap member)) = none_meant

  -- ---- those that name a member

  -- the reference that an index means is that which the row reads
  reference_is : (index : ℕ) → reference_of scope.pool (constant_at scope.pool index) ≡ member_of s class index
  reference_is index = ap (λ (pool : Constants). reference_of pool (constant_at pool index)) here.pool

  pub fits_reference : (index : ℕ) (f : Reference → Op)
      → ((r : Reference) → member_of s class index ≡ Some r → Fits (f r))
      → Fits (referring scope index f)
  fits_reference index f each = by (reference_of scope.pool (constant_at scope.pool index)) refl where
    by : (found : Option Reference) → reference_of scope.pool (constant_at scope.pool index) ≡ found → Fits (or_meaningless (option_map f found))
    by None is = none_meant
    by (Some r) is = each r (sym (reference_is index) ∙ is)

  -- ---- calls

  -- its operands are all asked for, and it throws in each state
  calls_with : (op : Op) (desc : List ℕ) (takes : ℕ)
      → arity op ≡ takes
      → instr_row s at point.typed class instr ≡ calling point.typed takes desc
      → falls_through instr ≡ true
      → Fits op
  calls_with op desc takes as_many is falls works enough not_stuck =
      fits_plainly op stack (works_to P memory stack op)
      (subst (λ (n : ℕ). PlainRow s at point before n (result_given (result_of desc))) (sym as_many)
      (asking_row takes (result_given (result_of desc)) (handed_over point.typed takes) is (plain_result (result_of desc)) falls))
      here.many here.slots enough
      (λ number site low virtual. asks_each takes (result_given (result_of desc)) is number site (omega (arith, low, as_many)) virtual)
      (none_result (result_of desc)) (λ throwing. throws_each takes (result_given (result_of desc)) (handed_over point.typed takes) is) where
        plain_result : (result : Option FieldType) → slots_from s before no_change (result_given result) ≡ map (λ source. Plain) (result_given result)
        plain_result None = refl
        plain_result (Some type) = refl

        none_result : (result : Option FieldType) (number : ℕ) (type : VType) (source : Source)
            → slice_get (result_given result) number ≡ Some source
            → KeepsType at (place_types point.typed) type source
            → ⊥
        none_result None number type source is_source kept = none-some source is_source
        none_result (Some result) number type source is_source kept = none_plain at (place_types point.typed) number type source is_source kept

-- ---- by the instruction

module _ (P : Program) (s : PlanScope) (at : ℕ) (point : Point) (route : Route) (class : ℕ) (scope : RowScope) (memory : Memory) (stack : List Value)
    (number : ℕ → ℕ) where
  abbrev FitsInstr : Instr → Type 0
  FitsInstr instr =
      FitsHere P s at point route class instr scope memory stack
      → OpFits P s at point route memory stack (instr_op P.links number scope instr)

  pub fits_const : (imm : Imm) → FitsInstr (Const imm)
  fits_const imm here = alone here (push_value (value_of_imm imm)) refl refl refl (λ throwing. throwing) refl

  pub fits_ldc : (index : ℕ) → FitsInstr (Ldc index)
  fits_ldc index here = fits_constant here refl refl scope.pool (constant_at scope.pool index)

  pub fits_ldc2 : (index : ℕ) → FitsInstr (Ldc2 index)
  fits_ldc2 index here = fits_constant here refl refl scope.pool (constant_at scope.pool index)

  pub fits_get_static : (index : ℕ) → FitsInstr (GetStatic index)
  fits_get_static index here =
      fits_reference here index get_static (λ r is. alone here (get_static r) refl refl refl (static_never P memory (P.links.field r)) refl)

  pub fits_put_static : (index : ℕ) → FitsInstr (PutStatic index)
  fits_put_static index here =
      fits_reference here index (λ r. put_static r (initialises scope.is_clinit scope.own)) (λ r is works enough not_stuck.
      fits_plainly (put_static r (initialises scope.is_clinit scope.own)) stack _
      (asking_row here 1 [] (value_stored point.typed) refl refl refl) here.many here.slots enough
      (λ place site low virtual. asks_each here 1 [] refl place site low virtual)
      (λ place type source is_source kept. none-some source is_source) (λ throwing. throws_each here 1 [] (value_stored point.typed) refl))

  pub fits_throw : FitsInstr Throw
  fits_throw here works enough not_stuck = record {
    real =
        real_operands point (state_written route) 1 (length stack) here.many here.slots enough
        (λ place site low virtual. asks_each here 1 [] refl place site low virtual);
    given = λ ones after is. absurd (throw_gives _ ones after is);
    throws = λ throwing. throws_each here 1 [] (handed_over point.typed 1) refl;
    waits = λ waits. absurd (throw_waits _ waits);
    pends = λ waits may. throws_each here 1 [] (handed_over point.typed 1) refl;
  } where
    of_object : (reference : ℕ) (ones : List Value) (after : Memory) (object : Option Object) → object_at memory.heap reference ≡ object
        → throw_work P memory (Ref reference ∷ []) ≡ gives after ones
        → ⊥
    of_object reference ones after None none is = let no : ends stuck ≡ gives after ones = rw (none) at is in cc
    of_object reference ones after (Some object) some is = by (shape_conforms P object.shape throwable) refl where
      by : (fits : Bool) → shape_conforms P object.shape throwable ≡ fits → ⊥
      by true told = let no : throws reference ≡ gives after ones = rw (some, told) at is in cc
      by false told = let no : ends stuck ≡ gives after ones = rw (some, told) at is in cc

    throw_gives : (operands : List Value) (ones : List Value) (after : Memory) → throw_work P memory operands ≡ gives after ones → ⊥
    throw_gives (Null ∷ []) ones after is = cc is
    throw_gives (Ref reference ∷ []) ones after is = of_object reference ones after (object_at memory.heap reference) refl is
    throw_gives [] ones after is = cc is
    throw_gives (Int n ∷ operands) ones after is = cc is
    throw_gives (Long n ∷ operands) ones after is = cc is
    throw_gives (Float n ∷ operands) ones after is = cc is
    throw_gives (Double n ∷ operands) ones after is = cc is
    throw_gives (Null ∷ other ∷ operands) ones after is = cc is
    throw_gives (Ref reference ∷ other ∷ operands) ones after is = cc is

    throw_waits : (operands : List Value) → IsAwaiting (throw_work P memory operands) → ⊥
    throw_waits (Null ∷ []) waits = waits
    throw_waits (Ref reference ∷ []) waits = of_thrown (object_at memory.heap reference) refl where
      of_thrown : (object : Option Object) → object_at memory.heap reference ≡ object → ⊥
      of_thrown None none = let no : ⊥ = rw (none) at waits in no
      of_thrown (Some object) some = by (shape_conforms P object.shape throwable) refl where
        by : (fits : Bool) → shape_conforms P object.shape throwable ≡ fits → ⊥
        by true told = let no : ⊥ = rw (some, told) at waits in no
        by false told = let no : ⊥ = rw (some, told) at waits in no
    throw_waits [] waits = waits
    throw_waits (Int n ∷ operands) waits = waits
    throw_waits (Long n ∷ operands) waits = waits
    throw_waits (Float n ∷ operands) waits = waits
    throw_waits (Double n ∷ operands) waits = waits
    throw_waits (Null ∷ other ∷ operands) waits = waits
    throw_waits (Ref reference ∷ other ∷ operands) waits = waits

  pub fits_new : (index : ℕ) → FitsInstr (New index)
  fits_new index here = by (class_at scope.pool index) where
    no_site : (site : Option ℕ) → new_template s site ≡ None → site ≡ None
    no_site None none = refl
    no_site (Some site) none = absurd (none-some _ (sym none))

    row : instr_row s at point.typed class (New index) ≡ moving point.typed 0 (plain_value ∷ [])
    row = ap (new_row point.typed) (no_site (site_at s.flat at) here.none)

    by : (name : Option Name) → OpFits P s at point route memory stack (naming name new_object)
    by None = none_meant here
    by (Some name) = alone here (new_object name) refl row refl (new_never P memory name) refl

  pub fits_dynamic : (index : ℕ) → FitsInstr (Dynamic index)
  fits_dynamic index here = of_constant (constant_at scope.pool index) refl where
    same : constant_at scope.pool index ≡ constant_at (pool_of s class) index
    same = ap (λ (pool : Constants). constant_at pool index) here.pool

    of_constant : (constant : Option PoolConst) → constant_at scope.pool index ≡ constant → OpFits P s at point route memory stack (dynamic_op scope constant)
    of_constant None is = none_meant here
    of_constant (Some (consts.InvokeDynamic bootstrap member)) is =
        of_parts (name_at scope.pool member) refl (descriptor_at scope.pool member) refl where
          of_parts : (name : Option (List ℕ)) → name_at scope.pool member ≡ name
              → (desc : Option (List ℕ)) → descriptor_at scope.pool member ≡ desc
              → OpFits P s at point route memory stack (dynamic_op scope (Some (consts.InvokeDynamic bootstrap member)))
          of_parts None is_name desc is_desc = rw (is_name) (none_meant here)
          of_parts (Some name) is_name None is_desc = rw (is_name, is_desc) (none_meant here)
          of_parts (Some name) is_name (Some desc) is_desc =
              rw (is_name, is_desc) (calls_with here (call_dynamic scope.own.name bootstrap name desc) desc (length (parameters_of desc)) refl row refl) where
                row : instr_row s at point.typed class (Dynamic index) ≡ calling point.typed (length (parameters_of desc)) desc
                row =
                    ap (dynamic_row (pool_of s class) point.typed) (sym same ∙ is)
                    ∙ rw (ap (λ (pool : Constants). descriptor_at pool member) (sym here.pool) ∙ is_desc) refl
    of_constant (Some (consts.Integer n)) is = none_meant here
    of_constant (Some (consts.Long n)) is = none_meant here
    of_constant (Some (consts.Float n)) is = none_meant here
    of_constant (Some (consts.Double n)) is = none_meant here
    of_constant (Some (consts.String n)) is = none_meant here
    of_constant (Some (consts.Class n)) is = none_meant here
    of_constant (Some (consts.MethodType n)) is = none_meant here
    of_constant (Some (consts.MethodHandle kind n)) is = none_meant here
    of_constant (Some (consts.Utf8 n)) is = none_meant here
    of_constant (Some (consts.Fieldref owner n)) is = none_meant here
    of_constant (Some (consts.Methodref owner n)) is = none_meant here
    of_constant (Some (consts.InterfaceMethodref owner n)) is = none_meant here
    of_constant (Some (consts.NameAndType n desc)) is = none_meant here

  -- a call of any method but java/lang/Object's constructor
  pub fits_invoke : (opcode index count : ℕ)
      → ((r : Reference) → member_of s class index ≡ Some r → is_object_init r ≡ false)
      → FitsInstr (Invoke opcode index count)
  fits_invoke opcode index count plain here =
      fits_reference here index (call_op P.links scope opcode) (λ r is.
      of_opcode r is (opcode == INVOKEVIRTUAL) refl (opcode == INVOKESPECIAL) refl (opcode == INVOKESTATIC) refl (opcode == INVOKEINTERFACE) refl) where
        row : (r : Reference) → member_of s class index ≡ Some r
            → instr_row s at point.typed class (Invoke opcode index count)
            ≡ calling point.typed (length (parameters_of r.desc) + receivers opcode) r.desc
        row r is = ap (call_row point.typed opcode) is ∙ rw (plain r is) refl

        with_receiver : (r : Reference) (op : Op) (receives : ℕ) → receivers opcode ≡ 1 → arity op ≡ length (parameters_of r.desc) + 1
            → member_of s class index ≡ Some r
            → OpFits P s at point route memory stack op
        with_receiver r op receives one as_many is =
            calls_with here op r.desc (length (parameters_of r.desc) + receivers opcode)
            (as_many ∙ ap (λ (n : ℕ). length (parameters_of r.desc) + n) (sym one)) (row r is) refl

        of_opcode : (r : Reference) → member_of s class index ≡ Some r
            → (v : Bool) → (opcode == INVOKEVIRTUAL) ≡ v
            → (p : Bool) → (opcode == INVOKESPECIAL) ≡ p
            → (t : Bool) → (opcode == INVOKESTATIC) ≡ t
            → (i : Bool) → (opcode == INVOKEINTERFACE) ≡ i
            → OpFits P s at point route memory stack (if v then call_virtual r else (if p then call_special r (special_start P.links scope r.class)
            else (if t then call_static r else (if i then call_interface r else meaningless))))
        of_opcode r is true is_v p is_p t is_t i is_i =
            with_receiver r (call_virtual r) 1 (ap receivers (eqb-true opcode INVOKEVIRTUAL is_v)) refl is
        of_opcode r is false is_v true is_p t is_t i is_i =
            with_receiver r (call_special r (special_start P.links scope r.class)) 1 (ap receivers (eqb-true opcode INVOKESPECIAL is_p)) refl is
        of_opcode r is false is_v false is_p true is_t i is_i =
            calls_with here (call_static r) r.desc (length (parameters_of r.desc) + receivers opcode)
            (let none : receivers opcode ≡ 0 = ap receivers (eqb-true opcode INVOKESTATIC is_t) in omega (arith, none)) (row r is) refl
        of_opcode r is false is_v false is_p false is_t true is_i =
            with_receiver r (call_interface r) 1 (ap receivers (eqb-true opcode INVOKEINTERFACE is_i)) refl is
        of_opcode r is false is_v false is_p false is_t false is_i = none_meant here
