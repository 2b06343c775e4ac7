-- What calls leave, with types. A call of java/lang/Object.<init> takes its object, and nothing else.
use Rattle.std.proofs.Common.{◌≡◌, ◌+◌, ◌-◌, ℕ, suc, Bool, true, false, List, [], ◌++◌, length, map, Option, Some, None, if◌then◌else◌, refl, sym, ap, subst, ◌∙◌, arith}
use Rattle.std.specs.Prelude.{◌==◌, ◌&&◌, bytes_eq}
use Rattle.std.specs.List.{AllByRecursion}
use Rattle.std.proofs.lemmas.Bool.{and_parts}
use Rattle.std.proofs.lemmas.List.{length-map}
use Rattle.class_model.specs.Code.{verification_type}
use Rattle.class_model.specs.Descriptors.{parameters_of}
use Rattle.class_model.specs.Names.{init}
use Rattle.class_model.specs.PoolChecks.{descriptor_at}
use Rattle.class_model.specs.declared.descriptor.FieldType.{FieldType}
use Rattle.class_model.specs.declared.frame.Frame.{Frame}
use Rattle.class_model.specs.declared.frame.VType.{VType}
use Rattle.class_model.specs.declared.opcodes.TheConstants.{INVOKESPECIAL, INVOKESTATIC}
use Rattle.class_model.specs.declared.pool.Const.{Const as Constant}
use Rattle.class_model.specs.declared.pool.Const.TheVariants as consts
use Rattle.class_tree.specs.Names.{object}
use Rattle.flow_code.specs.ReadTypes.{is_site_object, read_frame}
use Rattle.member_link.specs.Machine.CallSteps.{is_object_init}
use Rattle.member_link.specs.References.{Reference}
use Rattle.member_link.specs.RowScope.{RowScope}
use Rattle.member_link.specs.Rows.MemberRows.{argument_needs, call_row, dynamic_row, init_row, initialised_type, receiver, result_types, static_row}
use Rattle.member_link.specs.Rows.Operands.{assignable_to, under}
use Rattle.member_link.specs.Rows.Readings.{reads_itself, reads_pop, row_by}
use Rattle.member_link.specs.Rows.Row.{Row}
use Rattle.member_link.specs.Signatures.{result_of}
use Rattle.plan_flow.specs.PlanRows.{Change, PlanRow, Source, no_change}
use Rattle.plan_flow.specs.PlanScope.{PlanScope}
use Rattle.plan_flow.specs.PlanSlots.{changed, slots_from}
use Rattle.plan_flow.specs.PlanTable.{call_row as plan_call, calling, dynamic_row as plan_dynamic, held_from, held_locals, moving, receivers, result_given}
use Rattle.same_runs.specs.TypedFlats.{reading_of_call}
use Rattle.virtual_state.specs.States.{State}
use Rattle.written_types.proofs.MemberRows.{initialised_new, initialised_top, initialised_wide, open_initialised}
use Rattle.written_types.proofs.OperandRows.{Fit, Leaves, gives_none, new_of_type, no_operand}
use Rattle.written_types.proofs.SlotTypes.{changed_types, is_open_type}
use Rattle.written_types.proofs.Standing.{HaveFieldTypes, Left, Standing, all_mapped, kept_locals, left_by, moved, new_under}
use Rattle.written_types.proofs.TwoUnits.{mapped_pairs}
use Rattle.written_types.specs.FitsTypes.{HasItsNew, HaveTypes, IsOfType}

-- the initialiser of java/lang/Object is called by invokespecial, and has neither parameters nor a result
pub record IsObjectInit (opcode : ℕ) (r : Reference) : Type 0 where
  pub special : opcode ≡ INVOKESPECIAL
  pub no_parameters : parameters_of r.desc ≡ []
  pub no_result : result_of r.desc ≡ None

module _ (s : PlanScope) (reached : ℕ → Bool) (f : Frame) (before : State) (st : Standing s reached f before) (sc : RowScope) where
  abbrev rf : Frame
  rf = read_frame s.flat f

  abbrev Goes : PlanRow → Row → Type 0
  Goes p row = Leaves s reached f before st sc p row

  result_have : (found : Option FieldType) → HaveTypes s (result_types found) (slots_from s before no_change (result_given found))
  result_have None = tt
  result_have (Some type) = (tt, tt)

  result_new : (found : Option FieldType) → AllByRecursion (HasItsNew s reached) (result_types found)
  result_new None = tt
  result_new (Some type) = (new_of_type s reached type, tt)

  called : (count : ℕ) (desc : List ℕ)
      → Left s reached before (calling f count desc) rf.locals (under count rf.stack ++ result_types (result_of desc)) true
  called count desc =
      moved s reached f before st (calling f count desc) count (result_given (result_of desc)) (result_types (result_of desc)) refl refl
      (result_have (result_of desc)) st.objects (result_new (result_of desc))

  needs_long : (desc : List ℕ) → length (argument_needs desc) ≡ length (parameters_of desc)
  needs_long desc = length-map (parameters_of desc) (λ param. assignable_to (verification_type param))

  static_leaves : (r : Reference) (count : ℕ) → count ≡ length (parameters_of r.desc) → Goes (calling f count r.desc) (static_row rf r)
  static_leaves r count is =
      subst (λ (n : ℕ). Left s reached before (calling f count r.desc) rf.locals (under n rf.stack ++ result_types (result_of r.desc)) true)
      (is ∙ sym (needs_long r.desc)) (called count r.desc)

  -- whatever else is asked of it
  instance_leaves : (r : Reference) (count : ℕ) → count ≡ suc (length (parameters_of r.desc))
      → Left s reached before (calling f count r.desc) rf.locals
      (under (suc (length (argument_needs r.desc))) rf.stack ++ result_types (result_of r.desc)) true
  instance_leaves r count is =
      subst (λ (n : ℕ). Left s reached before (calling f count r.desc) rf.locals (under n rf.stack ++ result_types (result_of r.desc)) true)
      (is ∙ ap suc (sym (needs_long r.desc))) (called count r.desc)

  -- ---- initialisers

  module _ (r : Reference) (object : VType) where
    abbrev own_type : VType → VType
    own_type type = initialised_type sc r object type

    own_of_type : (number : ℕ) (type : VType) → IsOfType s number type → IsOfType s number (own_type type)
    own_of_type number type is = subst (IsOfType s number) (sym (open_initialised s sc r object type (is_open_type s is))) is

    -- by a row that takes so many operands, with what it gives
    initialised_by : (p : PlanRow) (count : ℕ) (sources : List Source) (gives : List VType) → p.locals ≡ held_locals f
        → p.stack ≡ held_from (length f.locals) (length f.stack - count) ++ sources
        → p.change ≡ no_change
        → HaveTypes s gives (slots_from s before no_change sources)
        → AllByRecursion (HasItsNew s reached) gives
        → Left s reached before p (map own_type rf.locals) (map own_type (under count rf.stack) ++ gives) true
    initialised_by p count sources gives locals_are stack_is still have new =
        left_by s reached f before st p count sources (map own_type rf.locals) (map own_type (under count rf.stack)) gives stack_is
        (subst (λ (all : List Source). HaveTypes s (map own_type rf.locals) (slots_from s before p.change all)) (sym locals_are)
        (changed_types s own_type own_of_type rf.locals _ (kept_locals s reached f before st p.change)))
        (λ lower. changed_types s own_type own_of_type (under count rf.stack) _ lower)
        (subst (λ (does : Change). HaveTypes s gives (slots_from s before does sources)) (sym still) have)
        (subst (λ (does : Change). HaveFieldTypes s (changed s before does ++ before.objects)) (sym still) st.objects)
        (all_mapped (HasItsNew s reached) own_type (initialised_new s reached sc r object) rf.locals st.locals)
        (all_mapped (HasItsNew s reached) own_type (initialised_new s reached sc r object) (under count rf.stack) (new_under s reached f before st count))
        new (mapped_pairs own_type (initialised_wide s reached sc r object) (initialised_top s reached sc r object) rf.locals st.pairs)

  init_leaves : (r : Reference) (count : ℕ) → count ≡ suc (length (parameters_of r.desc)) → Goes (calling f count r.desc) (init_row sc rf r)
  init_leaves r count is =
      subst (λ (n : ℕ). Left s reached before (calling f count r.desc) (map (initialised_type sc r (receiver rf r.desc)) rf.locals)
      (map (initialised_type sc r (receiver rf r.desc)) (under n rf.stack) ++ result_types (result_of r.desc)) true)
      (is ∙ ap suc (sym (needs_long r.desc)))
      (initialised_by r (receiver rf r.desc) (calling f count r.desc) count (result_given (result_of r.desc)) (result_types (result_of r.desc)) refl refl
      refl (result_have (result_of r.desc)) (result_new (result_of r.desc)))

  no_needs : (r : Reference) → parameters_of r.desc ≡ [] → length (argument_needs r.desc) ≡ 0
  no_needs r none = needs_long r.desc ∙ ap length none

  object_leaves : (opcode : ℕ) (r : Reference) → IsObjectInit opcode r → bytes_eq r.name init ≡ true → (pops : Bool)
      → Goes (moving f 1 []) (row_by (if pops then reads_pop r.desc else reads_itself) rf (call_row sc rf opcode (Some r)))
  object_leaves opcode r is named true =
      subst (λ (n : ℕ). Left s reached before (moving f 1 []) rf.locals (under (suc n) rf.stack ++ []) true) (sym (no_needs r is.no_parameters))
      (gives_none s reached f before st sc (moving f 1 []) 1 refl refl refl)
  object_leaves opcode r is named false =
      let no_static : (opcode == INVOKESTATIC) ≡ false = ap (λ (n : ℕ). n == INVOKESTATIC) is.special in
      let special : (opcode == INVOKESPECIAL) ≡ true = ap (λ (n : ℕ). n == INVOKESPECIAL) is.special in
      rw (no_static, special, named) (
      subst (λ (gives : List VType). Left s reached before (moving f 1 []) (map (initialised_type sc r (receiver rf r.desc)) rf.locals)
      (map (initialised_type sc r (receiver rf r.desc)) (under (suc (length (argument_needs r.desc))) rf.stack) ++ gives) true)
      (sym (ap result_types is.no_result))
      (subst (λ (n : ℕ). Left s reached before (moving f 1 []) (map (initialised_type sc r (receiver rf r.desc)) rf.locals)
      (map (initialised_type sc r (receiver rf r.desc)) (under (suc n) rf.stack) ++ []) true)
      (sym (no_needs r is.no_parameters))
      (initialised_by r (receiver rf r.desc) (moving f 1 []) 1 [] [] refl refl refl tt tt)))

  -- ---- the other calls

  other_leaves : (opcode : ℕ) (r : Reference)
      → Goes (calling f (length (parameters_of r.desc) + receivers opcode) r.desc) (call_row sc rf opcode (Some r))
  other_leaves opcode r = by (opcode == INVOKESTATIC) (opcode == INVOKESPECIAL) (bytes_eq r.name init) refl refl refl where
    by : (static special initialises : Bool) → (opcode == INVOKESTATIC) ≡ static → (opcode == INVOKESPECIAL) ≡ special
        → bytes_eq r.name init ≡ initialises
        → Goes (calling f (length (parameters_of r.desc) + receivers opcode) r.desc) (call_row sc rf opcode (Some r))
    by true special initialises one two three = rw one (static_leaves r (length (parameters_of r.desc) + 0) (omega arith))
    by false true true one two three = rw (one, two, three) (init_leaves r (length (parameters_of r.desc) + 1) (omega arith))
    by false true false one two three = rw (one, two, three) (instance_leaves r (length (parameters_of r.desc) + 1) (omega arith))
    by false false initialises one two three = rw (one, two) (instance_leaves r (length (parameters_of r.desc) + 1) (omega arith))

  never : (a b c : Bool) → b ≡ false → (a && b && c) ≡ false
  never true b c is = rw is refl
  never false b c is = refl

  pub call_leaves : (opcode : ℕ) (found : Option Reference)
      → ((r : Reference) → found ≡ Some r → is_object_init r ≡ true → IsObjectInit opcode r)
      → Fit sc rf (row_by (reading_of_call s.flat f opcode found) rf (call_row sc rf opcode found))
      → Goes (plan_call f opcode found) (row_by (reading_of_call s.flat f opcode found) rf (call_row sc rf opcode found))
  call_leaves opcode None init_is fit = absurd (no_operand sc rf fit)
  call_leaves opcode (Some r) init_is fit = by (is_object_init r) refl where
    by : (b : Bool) → is_object_init r ≡ b
        → Goes (plan_call f opcode (Some r)) (row_by (reading_of_call s.flat f opcode (Some r)) rf (call_row sc rf opcode (Some r)))
    by true is =
        let named = and_parts (bytes_eq r.class object) (bytes_eq r.name init) is in
        subst (λ (p : PlanRow). Goes p (row_by (reading_of_call s.flat f opcode (Some r)) rf (call_row sc rf opcode (Some r))))
        (sym (ap (λ (b : Bool). if b then moving f 1 [] else calling f (length (parameters_of r.desc) + receivers opcode) r.desc) is))
        (object_leaves opcode r (init_is r refl is) named.1
        (opcode == INVOKESPECIAL && is_object_init r && is_site_object s.flat (receiver f r.desc)))
    by false is =
        subst (λ (p : PlanRow). Goes p (row_by (reading_of_call s.flat f opcode (Some r)) rf (call_row sc rf opcode (Some r))))
        (sym (ap (λ (b : Bool). if b then moving f 1 [] else calling f (length (parameters_of r.desc) + receivers opcode) r.desc) is))
        (subst (λ (b : Bool). Goes (calling f (length (parameters_of r.desc) + receivers opcode) r.desc)
        (row_by (if b then reads_pop r.desc else reads_itself) rf (call_row sc rf opcode (Some r))))
        (sym (never (opcode == INVOKESPECIAL) (is_object_init r) (is_site_object s.flat (receiver f r.desc)) is)) (other_leaves opcode r))

  pub dynamic_leaves : (constant : Option Constant) → Fit sc rf (dynamic_row sc rf constant)
      → Goes (plan_dynamic sc.pool f constant) (dynamic_row sc rf constant)
  dynamic_leaves None fit = absurd (no_operand sc rf fit)
  dynamic_leaves (Some (consts.InvokeDynamic bootstrap member)) fit = by (descriptor_at sc.pool member) refl where
    by : (desc : Option (List ℕ)) → descriptor_at sc.pool member ≡ desc
        → Goes (plan_dynamic sc.pool f (Some (consts.InvokeDynamic bootstrap member))) (dynamic_row sc rf (Some (consts.InvokeDynamic bootstrap member)))
    by None none = absurd (no_operand sc rf (rw none at fit))
    by (Some desc) some =
        rw some
        (subst (λ (n : ℕ). Left s reached before (calling f (length (parameters_of desc)) desc) rf.locals
        (under n rf.stack ++ result_types (result_of desc)) true)
        (sym (needs_long desc)) (called (length (parameters_of desc)) desc))
  dynamic_leaves (Some other) fit = absurd (no_operand sc rf fit)
