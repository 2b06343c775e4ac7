-- Operations on objects, fields and arrays, whose row does not ask for each operand: their operands are plain all the same, since a template is
-- written where one is virtual, or they are stuck on an object of the folder.
use Rattle.std.proofs.Common.{◌≡◌, ◌≤◌, ◌<◌, ℕ, zero, suc, true, List, [], ◌∷◌, length, map, reverse, slice_get, take, Option, Some, None, refl, sym, ap, subst, ◌∙◌, arith}
use Rattle.std.proofs.lemmas.Option.{none-some}
use Rattle.class_model.specs.PoolChecks.{class_at}
use Rattle.class_model.specs.Pool.{Constants}
use Rattle.class_model.specs.declared.instr.Instr.{Instr}
use Rattle.class_model.specs.declared.instr.Instr.TheVariants.{Enter, InstanceOf, Leave, Length, NewArray, NewRefArray}
use Rattle.class_tree.specs.Headers.{Name}
use Rattle.flow_code.specs.declared.point.Point.{Point}
use Rattle.machine_values.specs.Heaps.{object_at}
use Rattle.machine_values.specs.declared.object.Object.{Object}
use Rattle.machine_values.specs.declared.value.Value.{Value}
use Rattle.machine_values.specs.declared.value.Value.TheVariants.{Int, Long, Float, Double, Null, Ref}
use Rattle.member_link.specs.Machine.ArraySteps.{array_length_work, length_of, new_array_work}
use Rattle.member_link.specs.Machine.Codes.{instr_op, naming}
use Rattle.member_link.specs.Machine.Completions.{ends}
use Rattle.member_link.specs.Machine.ObjectSteps.{instance_of_work}
use Rattle.member_link.specs.Machine.Ops.{Op, array_length, enter_monitor, instance_of, leave_monitor, new_array}
use Rattle.member_link.specs.Machine.Programs.{Program}
use Rattle.member_link.specs.Machine.Work.{arity, work}
use Rattle.member_link.specs.Machine.Worlds.{Memory, stuck}
use Rattle.member_link.specs.RowScope.{RowScope}
use Rattle.member_link.specs.Rows.ArrayRows.{array_of, primitive_array}
use Rattle.plan_flow.specs.PlanRows.{Change, Guard, PlanRow, Position, Source, from_field, in_each_state, no_change, object_put_into, plain_value, where_plain}
use Rattle.plan_flow.specs.PlanRows as rows
use Rattle.plan_flow.specs.PlanScope.{PlanScope, pool_of}
use Rattle.plan_flow.specs.PlanSlots.{changed, held, is_open, is_plain, readable, slots_from}
use Rattle.plan_flow.specs.PlanTable.{falls_on, instr_row, monitor_row, moving, operand, throwing}
use Rattle.plan_flow.specs.ReadyForPlans.{place_types}
use Rattle.plan_flow.specs.Written.Blocks.{state_written}
use Rattle.plan_flow.specs.Written.Routes.{Route}
use Rattle.plan_flow.specs.Written.Templates.{instance_template, nothing_of}
use Rattle.same_runs.specs.SameWorlds.{IsThrowing}
use Rattle.virtual_state.specs.States.{State}
use Rattle.virtual_state.specs.declared.slot.Slot.{Slot}
use Rattle.virtual_state.specs.declared.slot.Slot.TheVariants.{Plain, Virt, Unusable}
use Rattle.written_runs.specs.Inner.Waiting.{ThrowsThere}
use Rattle.written_runs.specs.Laws.Carried.Rows.{IsFolderObject, PlainRow, fits_plainly, never_throws, none_plain}
use Rattle.written_runs.specs.Laws.Carried.SimpleFits.{FitsHere, OpFits, falls_is, moving_row, none_meant, row_is, works_to}

-- a place that holds no virtual object is read as a plain one
pub plain_read : (slot : Option Slot) → ((site : ℕ) → readable slot ≡ Virt site → ⊥) → readable slot ≡ Plain
plain_read None none = refl
plain_read (Some Plain) none = refl
plain_read (Some Unusable) none = refl
plain_read (Some (Virt site)) none = absurd (none site refl)

-- the number of an operand of one, of two, of three
pub only_first : (number : ℕ) → number < 1 → number ≡ 0
only_first zero low = refl
only_first (suc number) low = absurd (omega (arith, low))

pub data IsOfTwo : ℕ → Type 0 where
  is_first : IsOfTwo 0
  is_second : IsOfTwo 1

pub of_two : (number : ℕ) → number < 2 → IsOfTwo number
of_two zero low = is_first
of_two (suc zero) low = is_second
of_two (suc (suc number)) low = absurd (omega (arith, low))

pub data IsOfThree : ℕ → Type 0 where
  is_first_of_three : IsOfThree 0
  is_second_of_three : IsOfThree 1
  is_third_of_three : IsOfThree 2

pub of_three : (number : ℕ) → number < 3 → IsOfThree number
of_three zero low = is_first_of_three
of_three (suc zero) low = is_second_of_three
of_three (suc (suc zero)) low = is_third_of_three
of_three (suc (suc (suc number))) low = absurd (omega (arith, low))

pub nothing_plain : (slot : Slot) (site : ℕ) → nothing_of slot ≡ None → slot ≡ Virt site → ⊥
nothing_plain slot site none virtual = none-some [] (sym (ap nothing_of (sym virtual) ∙ none))

-- ---- at an instruction

module _ {P : Program} {s : PlanScope} {at : ℕ} {point : Point} {route : Route} {class : ℕ} {instr : Instr} {scope : RowScope} {memory : Memory}
    {stack : List Value} (here : FitsHere P s at point route class instr scope memory stack) where
  abbrev before : State
  before = state_written route

  abbrev Fits : Op → Type 0
  Fits op = OpFits P s at point route memory stack op

  -- an operation whose row takes operands, gives plain values, changes nothing and throws where an operand is plain
  pub guarded_row : (taken : ℕ) (given : List Source) (row : PlanRow)
      → instr_row s at point.typed class instr ≡ row
      → (falls_on point.instr ≡ true)
      → row.locals ≡ (moving point.typed taken given).locals
      → row.stack ≡ (moving point.typed taken given).stack
      → row.next ≡ in_each_state
      → slots_from s before row.change given ≡ map (λ source. Plain) given
      → changed s before row.change ≡ []
      → PlainRow s at point before taken given
  guarded_row taken given row is falls locals on_stack next plain unchanged = record {
    row = row;
    is_row = row_is here ∙ is;
    locals = locals;
    stack = on_stack;
    plain = plain;
    unchanged = unchanged;
    opens = ap (is_open before) next;
    falls = falls;
  }

  pub throws_where_plain : (row : PlanRow) (place : ℕ)
      → instr_row s at point.typed class instr ≡ row
      → row.throws ≡ Some (where_plain place)
      → held before place ≡ Plain
      → ThrowsThere s at point route
  throws_where_plain row place is throws plain =
      record { guard = where_plain place; throws = ap (λ (r : PlanRow). r.throws) (row_is here ∙ is) ∙ throws; opens = ap is_plain plain }

  -- the values on top of the stack
  pub one_on_top : 1 ≤ length stack → (value : Value) × (below : List Value) × (stack ≡ value ∷ below)
  one_on_top enough = by stack refl enough where
    by : (all : List Value) → stack ≡ all → 1 ≤ length all → (value : Value) × (below : List Value) × (stack ≡ value ∷ below)
    by [] is few = absurd (omega (arith, few))
    by (value ∷ below) is few = (value, below, is)

  pub two_on_top : 2 ≤ length stack → (value other : Value) × (below : List Value) × (stack ≡ value ∷ other ∷ below)
  two_on_top enough = by stack refl enough where
    by : (all : List Value) → stack ≡ all → 2 ≤ length all → (value other : Value) × (below : List Value) × (stack ≡ value ∷ other ∷ below)
    by [] is few = absurd (omega (arith, few))
    by (value ∷ []) is few = absurd (omega (arith, few))
    by (value ∷ other ∷ below) is few = (value, other, below, is)

  pub three_on_top : 3 ≤ length stack → (value other third : Value) × (below : List Value) × (stack ≡ value ∷ other ∷ third ∷ below)
  three_on_top enough = by stack refl enough where
    by : (all : List Value) → stack ≡ all → 3 ≤ length all
        → (value other third : Value) × (below : List Value) × (stack ≡ value ∷ other ∷ third ∷ below)
    by [] is few = absurd (omega (arith, few))
    by (value ∷ []) is few = absurd (omega (arith, few))
    by (value ∷ other ∷ []) is few = absurd (omega (arith, few))
    by (value ∷ other ∷ third ∷ below) is few = (value, other, third, below, is)

  -- ---- monitors

  pub monitors : (op : Op) (change : Change)
      → arity op ≡ 1
      → instr_row s at point.typed class instr ≡ monitor_row point.typed change
      → falls_on point.instr ≡ true
      → nothing_of (held before (operand point.typed 0)) ≡ None
      → (held before (operand point.typed 0) ≡ Plain → changed s before change ≡ [])
      → Fits op
  monitors op change one is falls none unchanged works enough not_stuck =
      fits_plainly op stack (works_to P memory stack op)
      (subst (λ (n : ℕ). PlainRow s at point before n []) (sym one)
      (guarded_row 1 [] (monitor_row point.typed change) is falls refl refl refl refl (unchanged plain))) here.many here.slots enough
      (λ number site low virtual.
      nothing_plain _ site none (ap (λ (n : ℕ). held before (operand point.typed n)) (sym (only_first number (omega (arith, low, one)))) ∙ virtual))
      (λ number type source there kept. none-some source there)
      (λ throwing. throws_where_plain (monitor_row point.typed change) (operand point.typed 0) is refl plain) where
        plain : held before (operand point.typed 0) ≡ Plain
        plain = plain_read _ (λ site virtual. nothing_plain _ site none virtual)

  -- ---- operands that a stuck operation cannot have

  -- an operand that is virtual is an object of the folder
  pub folder_first : (value : Value) (below : List Value) (site : ℕ)
      → stack ≡ value ∷ below
      → held before (operand point.typed 0) ≡ Virt site
      → IsFolderObject memory.heap value
  folder_first value below site is virtual = here.folder 0 site value (ap (λ (all : List Value). slice_get all 0) is) virtual

  pub folder_second : (value other : Value) (below : List Value) (site : ℕ)
      → stack ≡ value ∷ other ∷ below
      → held before (operand point.typed 1) ≡ Virt site
      → IsFolderObject memory.heap other
  folder_second value other below site is virtual = here.folder 1 site other (ap (λ (all : List Value). slice_get all 1) is) virtual

  pub folder_third : (value other third : Value) (below : List Value) (site : ℕ)
      → stack ≡ value ∷ other ∷ third ∷ below
      → held before (operand point.typed 2) ≡ Virt site
      → IsFolderObject memory.heap third
  folder_third value other third below site is virtual = here.folder 2 site third (ap (λ (all : List Value). slice_get all 2) is) virtual

  -- an operation on one operand that throws in each state
  unary : (op : Op)
      → arity op ≡ 1
      → instr_row s at point.typed class instr ≡ throwing point.typed 1 (plain_value ∷ [])
      → falls_on point.instr ≡ true
      → ((value : Value) → IsFolderObject memory.heap value → work P memory op (value ∷ []) ≡ ends stuck)
      → Fits op
  unary op one is falls gets_stuck works enough not_stuck =
      fits_plainly op stack (works_to P memory stack op)
      (subst (λ (n : ℕ). PlainRow s at point before n (plain_value ∷ [])) (sym one)
      (guarded_row 1 (plain_value ∷ []) (throwing point.typed 1 (plain_value ∷ [])) is falls refl refl refl refl refl)) here.many here.slots enough
      (λ number site low virtual.
      let top = one_on_top (omega (arith, enough, one)) in
      let folder = folder_first top.0 top.1 site top.2
      (ap (λ (n : ℕ). held before (operand point.typed n)) (sym (only_first number (omega (arith, low, one)))) ∙ virtual) in
      not_stuck (ap (λ (n : ℕ). work P memory op (reverse (take n stack))) one ∙ ap (λ (all : List Value). work P memory op (reverse (take 1 all))) top.2
      ∙ gets_stuck top.0 folder)) (none_plain at (place_types point.typed))
      (λ throwing_so.
      record { guard = in_each_state; throws = ap (λ (r : PlanRow). r.throws) (row_is here ∙ is); opens = refl })

-- ---- by the instruction

length_stuck : (P : Program) (memory : Memory) (value : Value) → IsFolderObject memory.heap value → work P memory array_length (value ∷ []) ≡ ends stuck
length_stuck P memory value folder =
    ap (λ (v : Value). array_length_work memory (v ∷ [])) folder.refers
    ∙ ap (length_of memory) folder.there
    ∙ rw (folder.shape) refl

new_array_stuck : (P : Program) (memory : Memory) (desc : Name) (value : Value) → IsFolderObject memory.heap value
    → work P memory (new_array desc) (value ∷ []) ≡ ends stuck
new_array_stuck P memory desc value folder = ap (λ (v : Value). new_array_work memory desc (v ∷ [])) folder.refers

instance_never : (P : Program) (memory : Memory) (name : Name) (operands : List Value) → IsThrowing (instance_of_work P memory name operands) → ⊥
instance_never P memory name (Null ∷ []) throwing_so = throwing_so
instance_never P memory name (Ref reference ∷ []) throwing_so = by (object_at memory.heap reference) refl where
  by : (object : Option Object) → object_at memory.heap reference ≡ object → ⊥
  by None none = let no : ⊥ = rw (none) at throwing_so in no
  by (Some object) some = let no : ⊥ = rw (some) at throwing_so in no
instance_never P memory name [] throwing_so = throwing_so
instance_never P memory name (Int n ∷ operands) throwing_so = throwing_so
instance_never P memory name (Long n ∷ operands) throwing_so = throwing_so
instance_never P memory name (Float n ∷ operands) throwing_so = throwing_so
instance_never P memory name (Double n ∷ operands) throwing_so = throwing_so
instance_never P memory name (Null ∷ other ∷ operands) throwing_so = throwing_so
instance_never P memory name (Ref reference ∷ other ∷ operands) throwing_so = throwing_so

module _ (P : Program) (s : PlanScope) (at : ℕ) (point : Point) (route : Route) (class : ℕ) (scope : RowScope) (memory : Memory) (stack : List Value)
    (number : ℕ → ℕ) where
  abbrev FitsInstr : Instr → Type 0
  FitsInstr instr =
      FitsHere P s at point route class instr scope memory stack
      → OpFits P s at point route memory stack (instr_op P.links number scope instr)

  pub fits_enter : FitsInstr Enter
  fits_enter here =
      monitors here enter_monitor (rows.enter_monitor (operand point.typed 0)) refl refl (falls_is here) here.none
      (λ plain. rw (plain) refl)

  pub fits_leave : FitsInstr Leave
  fits_leave here =
      monitors here leave_monitor (rows.leave_monitor (operand point.typed 0)) refl refl (falls_is here) here.none
      (λ plain. rw (plain) refl)

  pub fits_length : FitsInstr Length
  fits_length here = unary here array_length refl refl (falls_is here) (length_stuck P memory)

  pub fits_new_array : (code : ℕ) → FitsInstr (NewArray code)
  fits_new_array code here = by (primitive_array code) where
    by : (desc : Option Name) → OpFits P s at point route memory stack (naming desc new_array)
    by None = none_meant here
    by (Some desc) = unary here (new_array desc) refl refl (falls_is here) (new_array_stuck P memory desc)

  pub fits_new_ref_array : (index : ℕ) → FitsInstr (NewRefArray index)
  fits_new_ref_array index here = by (array_of (class_at scope.pool index)) where
    by : (desc : Option Name) → OpFits P s at point route memory stack (naming desc new_array)
    by None = none_meant here
    by (Some desc) = unary here (new_array desc) refl refl (falls_is here) (new_array_stuck P memory desc)

  pub fits_instance_of : (index : ℕ) → FitsInstr (InstanceOf index)
  fits_instance_of index here = by (class_at scope.pool index) refl where
    same : class_at scope.pool index ≡ class_at (pool_of s class) index
    same = ap (λ (pool : Constants). class_at pool index) here.pool

    by : (name : Option Name) → class_at scope.pool index ≡ name → OpFits P s at point route memory stack (naming name instance_of)
    by None is = none_meant here
    by (Some name) is = λ works enough not_stuck.
        fits_plainly (instance_of name) stack (works_to P memory stack (instance_of name))
        (moving_row here 1 (plain_value ∷ []) refl refl refl) here.many here.slots enough
        (λ place site low virtual. no_virtual (held (state_written route) (operand point.typed 0)) site
        (ap (λ (n : ℕ). held (state_written route) (operand point.typed n)) (sym (only_first place low)) ∙ virtual)
        (ap (instance_template s (held (state_written route) (operand point.typed 0))) (sym is ∙ same) ∙ here.none))
        (none_plain at (place_types point.typed))
        (never_throws (instance_of name) _ (instance_never P memory name (reverse (take 1 stack))) refl) where
          no_virtual : (slot : Slot) (site : ℕ) → slot ≡ Virt site → instance_template s slot (Some name) ≡ None → ⊥
          no_virtual slot site virtual none = none-some _ (sym (ap (λ (one : Slot). instance_template s one (Some name)) (sym virtual) ∙ none))
