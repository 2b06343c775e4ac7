-- A cast: its operand is plain, since nothing is written where it is virtual, and it gives what it takes.
use Rattle.std.proofs.Common.{◌≡◌, ◌≤◌, ◌+◌, ◌-◌, ℕ, zero, suc, Bool, true, false, List, [], ◌∷◌, length, reverse, slice_get, take, Option, Some, None, IsTrue, refl, sym, ap, subst, ◌∙◌, arith}
use Rattle.std.proofs.lemmas.Option.{none-some, same_Some}
use Rattle.class_model.specs.Pool.{Constants}
use Rattle.class_model.specs.PoolChecks.{class_at}
use Rattle.class_model.specs.declared.frame.VType.{VType}
use Rattle.class_model.specs.declared.instr.Instr.TheVariants.{Cast}
use Rattle.class_tree.specs.Headers.{Name}
use Rattle.flow_code.specs.ReadTypes.{is_site_object}
use Rattle.flow_code.specs.declared.point.Point.{Point}
use Rattle.machine_values.specs.Heaps.{object_at}
use Rattle.machine_values.specs.declared.object.Object.{Object}
use Rattle.machine_values.specs.declared.value.Value.{Value}
use Rattle.machine_values.specs.declared.value.Value.TheVariants.{Int, Long, Float, Double, Null, Ref}
use Rattle.member_link.specs.Machine.Codes.{instr_op, naming}
use Rattle.member_link.specs.Machine.Completions.{ends, gives, raises}
use Rattle.member_link.specs.Machine.ObjectSteps.{check_cast_work}
use Rattle.member_link.specs.Machine.Ops.{check_cast}
use Rattle.member_link.specs.Machine.Programs.{Program}
use Rattle.member_link.specs.Machine.Shapes.{is_instance}
use Rattle.member_link.specs.Machine.Throwables.{class_cast}
use Rattle.member_link.specs.Machine.Worlds.{Memory, stuck}
use Rattle.member_link.specs.RowScope.{RowScope}
use Rattle.plan_flow.specs.PlanRows.{Source, from_place}
use Rattle.plan_flow.specs.PlanScope.{PlanScope, pool_of}
use Rattle.plan_flow.specs.PlanSlots.{held}
use Rattle.plan_flow.specs.PlanTable.{cast_row, instr_row, operand}
use Rattle.plan_flow.specs.ReadyForPlans.{KeepsType, from_its_type, place_types}
use Rattle.plan_flow.specs.Written.Blocks.{state_written}
use Rattle.plan_flow.specs.Written.Routes.{Route}
use Rattle.same_runs.specs.SameWorlds.{IsAwaiting}
use Rattle.virtual_state.specs.States.{State}
use Rattle.virtual_state.specs.declared.slot.Slot.{Slot}
use Rattle.virtual_state.specs.declared.slot.Slot.TheVariants.{Plain}
use Rattle.written_runs.specs.Laws.Carried.OperandFits.{guarded_row, nothing_plain, one_on_top, only_first, plain_read, throws_where_plain}
use Rattle.written_runs.specs.Laws.Carried.Rows.{PlainRow, gives_of, real_operands}
use Rattle.written_runs.specs.Laws.Carried.SimpleFits.{FitsHere, OpFits, falls_is, none_meant, works_to}
use Rattle.written_runs.specs.Laws.Carried.Slots.{got_right}

-- what a cast gives
cast_gives : (P : Program) (memory after : Memory) (name : Name) (value : Value) (ones : List Value)
    → check_cast_work P memory name (value ∷ []) ≡ gives after ones
    → ones ≡ value ∷ []
cast_gives P memory after name Null ones is = cc (sym is)
cast_gives P memory after name (Int n) ones is = absurd (cc is)
cast_gives P memory after name (Long n) ones is = absurd (cc is)
cast_gives P memory after name (Float n) ones is = absurd (cc is)
cast_gives P memory after name (Double n) ones is = absurd (cc is)
cast_gives P memory after name (Ref reference) ones is = of_object (object_at memory.heap reference) refl where
  of_instance : (object : Object) → object_at memory.heap reference ≡ Some object → (instance : Bool) → is_instance P object.shape name ≡ instance
      → ones ≡ Ref reference ∷ []
  of_instance object there true told = let same : gives memory (Ref reference ∷ []) ≡ gives after ones = rw (there, told) at is in cc (sym same)
  of_instance object there false told = let no : raises class_cast ≡ gives after ones = rw (there, told) at is in absurd (cc no)

  of_object : (object : Option Object) → object_at memory.heap reference ≡ object → ones ≡ Ref reference ∷ []
  of_object None none = let no : ends stuck ≡ gives after ones = rw (none) at is in absurd (cc no)
  of_object (Some object) there = of_instance object there (is_instance P object.shape name) refl

-- a cast waits for nothing
cast_waits : (P : Program) (memory : Memory) (name : Name) (operands : List Value) → IsAwaiting (check_cast_work P memory name operands) → ⊥
cast_waits P memory name (Null ∷ []) waits = waits
cast_waits P memory name (Ref reference ∷ []) waits = of_object (object_at memory.heap reference) refl where
  of_instance : (object : Object) → object_at memory.heap reference ≡ Some object → (instance : Bool) → is_instance P object.shape name ≡ instance → ⊥
  of_instance object there true told = let no : ⊥ = rw (there, told) at waits in no
  of_instance object there false told = let no : ⊥ = rw (there, told) at waits in no

  of_object : (object : Option Object) → object_at memory.heap reference ≡ object → ⊥
  of_object None none = let no : ⊥ = rw (none) at waits in no
  of_object (Some object) there = of_instance object there (is_instance P object.shape name) refl
cast_waits P memory name [] waits = waits
cast_waits P memory name (Int n ∷ operands) waits = waits
cast_waits P memory name (Long n ∷ operands) waits = waits
cast_waits P memory name (Float n ∷ operands) waits = waits
cast_waits P memory name (Double n ∷ operands) waits = waits
cast_waits P memory name (Null ∷ other ∷ operands) waits = waits
cast_waits P memory name (Ref reference ∷ other ∷ operands) waits = waits

module _ (P : Program) (s : PlanScope) (at : ℕ) (point : Point) (route : Route) (class : ℕ) (scope : RowScope) (memory : Memory) (stack : List Value)
    (number : ℕ → ℕ) where
  abbrev before : State
  before = state_written route

  pub fits_cast : (index : ℕ)
      → FitsHere P s at point route class (Cast index) scope memory stack
      → OpFits P s at point route memory stack (instr_op P.links number scope (Cast index))
  fits_cast index here = by (class_at scope.pool index) refl where
    same : class_at scope.pool index ≡ class_at (pool_of s class) index
    same = ap (λ (pool : Constants). class_at pool index) here.pool

    plain : held before (operand point.typed 0) ≡ Plain
    plain = plain_read _ (λ site virtual. nothing_plain _ site here.none virtual)

    row : (name : Name) → class_at scope.pool index ≡ Some name → instr_row s at point.typed class (Cast index) ≡ cast_row point.typed (Some name)
    row name is = ap (cast_row point.typed) (sym same ∙ is)

    plain_row : (name : Name) → class_at scope.pool index ≡ Some name → PlainRow s at point before 1 (from_place (operand point.typed 0) ∷ [])
    plain_row name is =
        guarded_row here 1 (from_place (operand point.typed 0) ∷ []) (cast_row point.typed (Some name)) (row name is) (falls_is here) refl refl refl
        (ap (λ (slot : Slot). slot ∷ []) plain) refl

    given_type : 1 ≤ length stack → (type : VType) (source : Source)
        → from_place (operand point.typed 0) ≡ source
        → KeepsType at (place_types point.typed) type source
        → slice_get point.typed.stack (length point.typed.stack - (0 + 1)) ≡ Some type
    given_type enough type source is kept = of_kept (subst (KeepsType at (place_types point.typed) type) (sym is) kept) where
      of_kept : KeepsType at (place_types point.typed) type (from_place (operand point.typed 0))
          → slice_get point.typed.stack (length point.typed.stack - (0 + 1)) ≡ Some type
      of_kept (from_its_type _ there) =
          let many = here.many in
          let few = enough in
          let place : length point.typed.locals + (length point.typed.stack - (0 + 1)) ≡ operand point.typed 0 = omega (arith, many, few) in
          sym (got_right point.typed.locals point.typed.stack (length point.typed.stack - (0 + 1)))
          ∙ ap (slice_get (place_types point.typed)) place
          ∙ there

    uninit : (name : Name) (top : Value) (below : List Value) → stack ≡ top ∷ below → (ones : List Value) (after : Memory)
        → works_to P memory stack (check_cast name) ≡ gives after ones
        → (place : ℕ) (type : VType) (source : Source) (value : Value)
        → slice_get (from_place (operand point.typed 0) ∷ []) place ≡ Some source
        → KeepsType at (place_types point.typed) type source
        → IsTrue (is_site_object s.flat type)
        → slice_get ones place ≡ Some value
        → (reference : ℕ) × (value ≡ Ref reference)
    uninit name top below on_top ones after is zero type source value is_source kept is_site got =
        here.uninit 0 type value
        (given_type (let many = ap length on_top in omega (arith, many)) type source (same_Some (from_place (operand point.typed 0)) source is_source) kept)
        (ap (λ (all : List Value). slice_get all 0) on_top ∙ ap Some (same_Some top value
        (sym (ap (λ (all : List Value). slice_get all 0)
        (cast_gives P memory after name top ones
        (sym (ap (λ (all : List Value). check_cast_work P memory name (reverse (take 1 all))) on_top) ∙ is))) ∙ got))) is_site
    uninit name top below on_top ones after is (suc place) type source value is_source kept is_site got = absurd (none-some source is_source)

    by : (name : Option Name) → class_at scope.pool index ≡ name → OpFits P s at point route memory stack (naming name check_cast)
    by None is = none_meant here
    by (Some name) is = λ works enough not_stuck. record {
      real =
          real_operands point before 1 (length stack) here.many here.slots enough
          (λ place site low virtual. nothing_plain _ site here.none
          (ap (λ (n : ℕ). held before (operand point.typed n)) (sym (only_first place low)) ∙ virtual));
      given = λ ones after came.
          let top = one_on_top here enough in
          gives_of (plain_row name is) ones (let many = here.many in let few = enough in omega (arith, many, few))
          (uninit name top.0 top.1 top.2 ones after came);
      throws = λ throwing. throws_where_plain here (cast_row point.typed (Some name)) (operand point.typed 0) (row name is) refl plain;
      waits = λ waits. absurd (cast_waits P memory name _ waits);
      pends = λ waits may. throws_where_plain here (cast_row point.typed (Some name)) (operand point.typed 0) (row name is) refl plain;
    }
