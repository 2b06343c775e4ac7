-- A call of java/lang/Object's constructor of an object that is not virtual: it does nothing.
use Rattle.std.proofs.Common.{◌≡◌, inl, inr, ◌≤◌, ◌<◌, ◌+◌, ◌==◌, ◌&&◌, ◌||◌, ℕ, Bool, true, false, List, [], ◌∷◌, length, reverse, slice_get, take, Option, Some, None, is_some, bytes_eq, if◌then◌else◌, refl, sym, ap, subst, ◌∙◌, arith}
use Rattle.std.proofs.lemmas.Bool.{eq-eqb, false≢true}
use Rattle.std.proofs.lemmas.Option.{none-some, same_Some}
use Rattle.class_model.specs.Descriptors.{parameters_of}
use Rattle.class_model.specs.Members.{STATIC}
use Rattle.class_model.specs.Names.{init}
use Rattle.class_model.specs.declared.descriptor.FieldType.{FieldType}
use Rattle.class_model.specs.declared.instr.Instr.TheVariants.{Invoke}
use Rattle.class_model.specs.declared.opcodes.TheConstants.{INVOKESPECIAL}
use Rattle.class_tree.specs.Headers.{Name}
use Rattle.class_tree.specs.Names.{object}
use Rattle.flow_code.specs.ReadTypes.{is_site_object}
use Rattle.flow_code.specs.declared.point.Point.{Point}
use Rattle.machine_values.specs.Heaps.{object_at}
use Rattle.machine_values.specs.declared.object.Object.{Object}
use Rattle.machine_values.specs.declared.value.Value.{Value}
use Rattle.machine_values.specs.declared.value.Value.TheVariants.{Ref}
use Rattle.member_link.specs.Machine.CallSteps.{call_special_work, is_object_init}
use Rattle.member_link.specs.Machine.Codes.{call_op, instr_op, special_start}
use Rattle.member_link.specs.Machine.Completions.{Completion, ends, gives}
use Rattle.member_link.specs.Machine.Ops.{Op, call_special}
use Rattle.member_link.specs.Machine.Programs.{Program, has_flag, method_of}
use Rattle.member_link.specs.Machine.Shapes.{shape_conforms}
use Rattle.member_link.specs.Machine.Work.{arity}
use Rattle.member_link.specs.Machine.Worlds.{Memory, stuck}
use Rattle.member_link.specs.References.{Reference}
use Rattle.member_link.specs.RowScope.{RowScope}
use Rattle.member_link.specs.Rows.MemberRows.{receiver}
use Rattle.plan_flow.specs.PlanScope.{PlanScope, member_of}
use Rattle.plan_flow.specs.PlanSlots.{held}
use Rattle.plan_flow.specs.PlanTable.{call_row, instr_row, moving, operand}
use Rattle.plan_flow.specs.Written.Blocks.{state_written}
use Rattle.plan_flow.specs.Written.Routes.{Route}
use Rattle.plan_flow.specs.Written.Templates.{init_template, is_virtual}
use Rattle.same_runs.specs.SameWorlds.{IsAwaiting, IsThrowing}
use Rattle.virtual_state.specs.States.{State}
use Rattle.virtual_state.specs.declared.slot.Slot.TheVariants.{Virt}
use Rattle.written_runs.specs.Laws.Carried.OperandFits.{one_on_top}
use Rattle.written_runs.specs.Laws.Carried.Rows.{MayThrow, PlainRow, fits_plainly}
use Rattle.written_runs.specs.Laws.Carried.SimpleFits.{FitsHere, InitHere, OpFits, fits_reference, moving_row, works_to}

both_parts : (one other : Bool) → (one && other) ≡ true → (one ≡ true) × (other ≡ true)
both_parts true other is = (refl, is)
both_parts false other is = absurd (false≢true is)

if_none : {A : Type 0} (b : Bool) (one : A) → (if b then Some one else None) ≡ None → b ≡ false
if_none true one is = absurd (none-some one (sym is))
if_none false one is = refl

neither : (one other : Bool) → (one || other) ≡ false → (one ≡ false) × (other ≡ false)
neither false other is = (refl, is)
neither true other is = absurd (false≢true (sym is))

-- The call of an object that is there gives nothing back: it throws nothing, and waits for nothing.
init_never : (P : Program) (memory : Memory) (r : Reference) (from : Name) (reference : ℕ)
    → parameters_of r.desc ≡ []
    → is_object_init r ≡ true
    → (Is : Completion → Type 0)
    → ((after : Memory) → Is (gives after []) → ⊥)
    → (Is (ends stuck) → ⊥)
    → Is (call_special_work P memory r from (Ref reference ∷ []))
    → ⊥
init_never P memory r from reference none is Is no_values no_stuck so = by (is_some (method_of P r)) refl where
  named : bytes_eq r.name init ≡ true
  named = (both_parts (bytes_eq r.class object) (bytes_eq r.name init) is).1

  of_conforming : (o : Object) → object_at memory.heap reference ≡ Some o → (conforms : Bool) → shape_conforms P o.shape r.class ≡ conforms
      → is_some (method_of P r) ≡ true
      → has_flag (method_of P r) STATIC ≡ false
      → ⊥
  of_conforming o there true conforms found not_static =
      let given : Is (gives memory []) = rw (named, found, not_static, none, there, conforms, is) at so in no_values memory given
  of_conforming o there false conforms found not_static =
      let over : Is (ends stuck) = rw (named, found, not_static, none, there, conforms) at so in no_stuck over

  of_object : (o : Option Object) → object_at memory.heap reference ≡ o → is_some (method_of P r) ≡ true → has_flag (method_of P r) STATIC ≡ false → ⊥
  of_object None there found not_static = let over : Is (ends stuck) = rw (named, found, not_static, none, there) at so in no_stuck over
  of_object (Some o) there found not_static = of_conforming o there (shape_conforms P o.shape r.class) refl found not_static

  of_static : (static : Bool) → has_flag (method_of P r) STATIC ≡ static → is_some (method_of P r) ≡ true → ⊥
  of_static true told found = let over : Is (ends stuck) = rw (named, found, told) at so in no_stuck over
  of_static false told found = of_object (object_at memory.heap reference) refl found told

  by : (found : Bool) → is_some (method_of P r) ≡ found → ⊥
  by false told = let over : Is (ends stuck) = rw (named, told) at so in no_stuck over
  by true told = of_static (has_flag (method_of P r) STATIC) refl told

module _ (P : Program) (s : PlanScope) (at : ℕ) (point : Point) (route : Route) (class : ℕ) (scope : RowScope) (memory : Memory) (stack : List Value)
    (number : ℕ → ℕ) where
  abbrev before : State
  before = state_written route

  -- nothing is written of it where it is virtual, or read as an object from its new on
  not_written : (opcode : ℕ) (r : Reference) → opcode ≡ INVOKESPECIAL → is_object_init r ≡ true
      → init_template s point.typed before (opcode == INVOKESPECIAL) (Some r) ≡ None
      → (is_virtual (held before (operand point.typed (length (parameters_of r.desc)))) ≡ false)
      × (is_site_object s.flat (receiver point.typed r.desc) ≡ false)
  not_written opcode r special is none =
      neither (is_virtual (held before (operand point.typed (length (parameters_of r.desc))))) (is_site_object s.flat (receiver point.typed r.desc)) both where
        is_special : (opcode == INVOKESPECIAL) ≡ true
        is_special = eq-eqb opcode INVOKESPECIAL special

        test : ((opcode == INVOKESPECIAL) && is_object_init r
            && (is_virtual (held before (operand point.typed (length (parameters_of r.desc)))) || is_site_object s.flat (receiver point.typed r.desc))) ≡ false
        test = if_none _ _ none

        both : (is_virtual (held before (operand point.typed (length (parameters_of r.desc)))) || is_site_object s.flat (receiver point.typed r.desc)) ≡ false
        both =
            let told : (is_virtual (held before (operand point.typed (length (parameters_of r.desc)))) || is_site_object s.flat (receiver point.typed r.desc))
            ≡ false = rw (is_special, is) at test in
            told

  pub fits_object_init : (opcode index count : ℕ) (r : Reference)
      → member_of s class index ≡ Some r
      → is_object_init r ≡ true
      → FitsHere P s at point route class (Invoke opcode index count) scope memory stack
      → OpFits P s at point route memory stack (instr_op P.links number scope (Invoke opcode index count))
  fits_object_init opcode index count r member is here =
      fits_reference here index (call_op P.links scope opcode) (λ found is_found. of_found found is_found) where
        of_found : (found : Reference) → member_of s class index ≡ Some found → OpFits P s at point route memory stack (call_op P.links scope opcode found)
        of_found found is_found =
            subst (λ (op : Op). OpFits P s at point route memory stack op)
            (ap (λ (o : ℕ). call_op P.links scope o found) (sym inits.special))
            (λ works enough not_stuck.
            fits_plainly (call_special found from) stack (works_to P memory stack (call_special found from))
            (subst (λ (n : ℕ). PlainRow s at point before n []) (sym one) (moving_row here 1 [] row refl refl)) here.many here.slots enough
            (λ place site low virtual. never_virtual place site (omega (arith, low, one)) virtual)
            (λ place type source there kept. none-some source there)
            (λ may. absurd (never (omega (arith, enough, one)) may))) where
              from : Name
              from = special_start P.links scope found.class

              is_init : is_object_init found ≡ true
              is_init = ap is_object_init (same_Some found r (sym is_found ∙ member)) ∙ is

              inits : InitHere s point opcode found stack
              inits = here.inits opcode index count found refl is_found is_init

              one : arity (call_special found from) ≡ 1
              one = ap (λ (all : List FieldType). length all + 1) inits.no_parameters

              row : instr_row s at point.typed class (Invoke opcode index count) ≡ moving point.typed 1 []
              row = ap (call_row point.typed opcode) is_found ∙ rw (is_init) refl

              unwritten : (is_virtual (held before (operand point.typed (length (parameters_of found.desc)))) ≡ false)
                  × (is_site_object s.flat (receiver point.typed found.desc) ≡ false)
              unwritten =
                  not_written opcode found inits.special is_init
                  (ap (init_template s point.typed before (opcode == INVOKESPECIAL)) (sym is_found) ∙ here.none)

              never_virtual : (place site : ℕ) → place < 1 → held before (operand point.typed place) ≡ Virt site → ⊥
              never_virtual place site low virtual =
                  let counted = ap length inits.no_parameters in
                  let top : place ≡ length (parameters_of found.desc) = omega (arith, low, counted) in
                  false≢true (sym unwritten.0 ∙ ap is_virtual (ap (λ (n : ℕ). held before (operand point.typed n)) (sym top) ∙ virtual))

              on_object : 1 ≤ length stack → (reference : ℕ)
                  × (works_to P memory stack (call_special found from) ≡ call_special_work P memory found from (Ref reference ∷ []))
              on_object enough =
                  let top = one_on_top here enough in
                  let refers = inits.refers top.0 (ap (λ (all : List Value). slice_get all 0) top.2) unwritten.1 in (
                    refers.0,
                    ap (call_special_work P memory found from)
                        (ap (λ (n : ℕ). reverse (take n stack)) one ∙ ap (λ (all : List Value). reverse (take 1 all)) top.2
                        ∙ ap (λ (v : Value). v ∷ []) refers.1),
                  )

              never : 1 ≤ length stack → MayThrow (call_special found from) (works_to P memory stack (call_special found from)) → ⊥
              never enough (inl throwing) =
                  let on = on_object enough in
                  init_never P memory found from on.0 inits.no_parameters is_init IsThrowing (λ after given. given) (λ over. over)
                  (subst IsThrowing on.1 throwing)
              never enough (inr may) =
                  let on = on_object enough in
                  init_never P memory found from on.0 inits.no_parameters is_init IsAwaiting (λ after given. given) (λ over. over)
                  (subst IsAwaiting on.1 may.0)
