-- Which instructions are written as they are: those with a jump edge that are not decided, and those whose handlers may be reached.
use Rattle.std.proofs.Common.{◌≡◌, ◌+◌, ◌==◌, ◌||◌, ℕ, zero, suc, Bool, true, false, List, [], ◌∷◌, ◌++◌, slice_get, Option, Some, None, refl, sym, ap, ◌∙◌, arith}
use Rattle.std.specs.List.{AllByRecursion, filter}
use Rattle.std.proofs.lemmas.Bool.{false≢true}
use Rattle.std.proofs.lemmas.Option.{none-some, same_Some}
use Rattle.class_model.specs.Instructions.{targets}
use Rattle.class_model.specs.PoolChecks.{class_at}
use Rattle.class_model.specs.declared.descriptor.Kind.{Kind}
use Rattle.class_model.specs.declared.frame.Frame.{Frame}
use Rattle.class_model.specs.declared.instr.Instr.{Instr}
use Rattle.class_model.specs.declared.instr.Instr.TheVariants.{ArrayLoad, ArrayStore, Cast, Divide, Dynamic, Enter, GetField, Goto, If, If2, IfNull, IfSame, Invoke, Leave, Length, Lookup, New, NewArray, NewMulti, NewRefArray, PutField, PutStatic, Return, Shuffle, Table, Throw}
use Rattle.class_model.specs.declared.opcodes.TheConstants.{IFNULL, IF_ACMPEQ, INVOKESPECIAL}
use Rattle.class_tree.specs.Headers.{Name}
use Rattle.flow_code.specs.declared.handlers.FlatHandler.{FlatHandler}
use Rattle.flow_code.specs.declared.point.FlatInstr.{FlatInstr}
use Rattle.flow_code.specs.declared.point.FlatInstr.TheVariants.{Of, NullTest}
use Rattle.flow_code.specs.declared.point.Point.{Point}
use Rattle.making_code.specs.Opposites.{opposite_instr}
use Rattle.member_link.specs.Machine.CallSteps.{is_object_init}
use Rattle.member_link.specs.References.{Reference}
use Rattle.member_link.specs.Rows.ShuffleRows.{Form, form_in, forms_of}
use Rattle.plan_flow.specs.Must.{row_of_point}
use Rattle.plan_flow.specs.PlanRows.{Guard, PlanRow, RowEdge, where_plain}
use Rattle.plan_flow.specs.PlanScope.{PlanScope, field_of, member_of, pool_of, site_at}
use Rattle.plan_flow.specs.PlanSlots.{held, is_open, is_plain}
use Rattle.plan_flow.specs.PlanTable.{call_row, cast_row, edges_of, falls_on, get_field_row, handler_edges, jump_edges, new_row, next_edges, null_row, operand, put_field_row, return_row, row_at, same_row, shuffle_row, targets_at, thrown_edges}
use Rattle.plan_flow.specs.Written.Blocks.{is_decided, state_written}
use Rattle.plan_flow.specs.Written.Routes.{Route}
use Rattle.plan_flow.specs.Written.Templates.{get_template, init_template, is_virtual, nothing_of, null_template, put_template, template}
use Rattle.plan_flow.specs.declared.edge.EdgeKind.TheVariants as edges
use Rattle.virtual_state.specs.States.{State}
use Rattle.virtual_state.specs.declared.slot.Slot.{Slot}
use Rattle.virtual_state.specs.declared.slot.Slot.TheVariants.{Plain, Virt, Unusable}
use Rattle.written_types.proofs.Standing.{all_joined}

-- ---- rows of edges

pub passes_filtered : {A : Type 0} (test : A → Bool) (items : List A) (n : ℕ) (item : A) → slice_get (filter test items) n ≡ Some item → test item ≡ true
passes_filtered test [] n item is = absurd (none-some item is)
passes_filtered test (first ∷ items) n item is = by (test first) refl n is (λ m there. passes_filtered test items m item there) where
  by : (b : Bool) → test first ≡ b → (n : ℕ) → slice_get (filter test (first ∷ items)) n ≡ Some item
      → ((m : ℕ) → slice_get (filter test items) m ≡ Some item → test item ≡ true)
      → test item ≡ true
  by true told zero there rest =
      let here : slice_get (filter test (first ∷ items)) zero ≡ Some first = rw (told) refl in
      ap test (sym (same_Some first item (sym here ∙ there))) ∙ told
  by true told (suc m) there rest =
      let here : slice_get (filter test (first ∷ items)) (suc m) ≡ slice_get (filter test items) m = rw (told) refl in rest m (sym here ∙ there)
  by false told m there rest =
      let here : slice_get (filter test (first ∷ items)) m ≡ slice_get (filter test items) m = rw (told) refl in rest m (sym here ∙ there)

-- what a row of a point is: its target, or its handler
pub record RowIs (point : Point) (r : PlanRow) (row : RowEdge) : Type 0 where
  pub jump : (k : ℕ) → row.by ≡ edges.Jump k → slice_get (targets_at point.instr) k ≡ Some row.to
  pub handler : (k : ℕ) → row.by ≡ edges.Handler k → (h : FlatHandler) × (slice_get point.handlers k ≡ Some h) × (row.to ≡ h.to)
  pub throws : (k : ℕ) → row.by ≡ edges.Handler k → r.throws ≡ Some row.guard

module _ (s : PlanScope) (at : ℕ) (point : Point) where
  abbrev r : PlanRow
  r = row_of_point s at point

  abbrev Is : RowEdge → Type 0
  Is row = RowIs point r row

  nexts_are : (falls : Bool) → AllByRecursion Is (next_edges at r falls)
  nexts_are true = (record { jump = λ k e. absurd cc; handler = λ k e. absurd cc; throws = λ k e. absurd cc }, tt)
  nexts_are false = tt

  jumps_are : (number : ℕ) (all : List ℕ) → ((n : ℕ) → slice_get (targets_at point.instr) (number + n) ≡ slice_get all n)
      → AllByRecursion Is (jump_edges r number all)
  jumps_are number [] same = tt
  jumps_are number (to ∷ all) same = (
    record {
      jump = λ k e.
          let numbers : number ≡ k = cc in
          ap (slice_get (targets_at point.instr)) (the_same k (number + 0) (omega (arith, numbers))) ∙ same 0;
      handler = λ k e. absurd cc;
      throws = λ k e. absurd cc;
    },
    jumps_are (number + 1) all (λ n. ap (slice_get (targets_at point.instr)) (the_same (number + 1 + n) (number + suc n) (omega arith)) ∙ same (suc n)),
  ) where
    the_same : (a b : ℕ) → a ≡ b → a ≡ b
    the_same a b e = e

  handlers_are : (guard : Guard) → r.throws ≡ Some guard → (number : ℕ) (all : List FlatHandler)
      → ((n : ℕ) → slice_get point.handlers (number + n) ≡ slice_get all n)
      → AllByRecursion Is (handler_edges guard number all)
  handlers_are guard throws number [] same = tt
  handlers_are guard throws number (h ∷ all) same = (
    record {
      jump = λ k e. absurd cc;
      handler = λ k e.
          let numbers : number ≡ k = cc in
          (h, ap (slice_get point.handlers) (the_same k (number + 0) (omega (arith, numbers))) ∙ same 0, refl);
      throws = λ k e. throws;
    },
    handlers_are guard throws (number + 1) all (λ n. ap (slice_get point.handlers) (the_same (number + 1 + n) (number + suc n) (omega arith)) ∙ same (suc n)),
  ) where
    the_same : (a b : ℕ) → a ≡ b → a ≡ b
    the_same a b e = e

  pub rows_are : AllByRecursion Is (edges_of at point r)
  rows_are =
      all_joined Is (next_edges at r (falls_on point.instr) ++ jump_edges r 0 (targets_at point.instr)) (thrown_edges r.throws point.handlers)
      (all_joined Is (next_edges at r (falls_on point.instr)) (jump_edges r 0 (targets_at point.instr)) (nexts_are (falls_on point.instr))
      (jumps_are 0 (targets_at point.instr) (λ n. ap (slice_get (targets_at point.instr)) (the_same (0 + n) n (omega arith)))))
      (thrown r.throws refl) where
        the_same : (a b : ℕ) → a ≡ b → a ≡ b
        the_same a b e = e

        thrown : (throws : Option Guard) → r.throws ≡ throws → AllByRecursion Is (thrown_edges throws point.handlers)
        thrown None e = tt
        thrown (Some guard) e =
            handlers_are guard e 0 point.handlers (λ n. ap (slice_get point.handlers) (the_same (0 + n) n (omega arith)))

-- ---- jumps

module _ (s : PlanScope) (at : ℕ) (point : Point) (route : Route) (class : ℕ) where
  abbrev now : State
  now = state_written route

  abbrev f : Frame
  f = point.typed

  neither : (a b : Bool) → (a || b) ≡ false → (a ≡ false) × (b ≡ false)
  neither true b e = absurd (false≢true (sym e))
  neither false b e = (refl, e)

  -- an instruction with a target that is not decided has no template
  pub undecided_none : (instr : Instr) (k to : ℕ) → point.instr ≡ Of class instr → slice_get (targets instr) k ≡ Some to
      → is_decided point route ≡ false
      → template s at f now route class instr ≡ None
  undecided_none (If opcode target) k to is there undecided = refl
  undecided_none (If2 opcode target) k to is there undecided = refl
  undecided_none (Table low other all) k to is there undecided = refl
  undecided_none (Lookup other pairs) k to is there undecided = refl
  undecided_none (Goto target) k to is there undecided =
      let decided : is_decided point route ≡ true = rw (is) refl in absurd (false≢true (sym undecided ∙ decided))
  undecided_none (IfNull opcode target) k to is there undecided = by (held now (operand f 0)) refl where
    folded : is_decided point route ≡ is_virtual (held now (operand f 0))
    folded = rw (is) refl

    by : (slot : Slot) → held now (operand f 0) ≡ slot → null_template s route (held now (operand f 0)) ≡ None
    by Plain e = rw (e) refl
    by Unusable e = rw (e) refl
    by (Virt site) e = absurd (false≢true (sym undecided ∙ folded ∙ ap is_virtual e))
  undecided_none (IfSame opcode target) k to is there undecided =
      let folded : is_decided point route ≡ (is_virtual (held now (operand f 0)) || is_virtual (held now (operand f 1))) = rw (is) refl in
      let both = neither (is_virtual (held now (operand f 0))) (is_virtual (held now (operand f 1))) (sym folded ∙ undecided) in
      rw (both.1, both.0) refl
  undecided_none instr k to is there undecided = absurd (none-some to there)

  -- a decided one has one target
  pub decided_first : (i : FlatInstr) (k to : ℕ) → point.instr ≡ i → slice_get (targets_at i) k ≡ Some to → is_decided point route ≡ true → k ≡ 0
  decided_first (Of of_class (Goto target)) k to is there decided = by k there where
    by : (k : ℕ) → slice_get (target ∷ []) k ≡ Some to → k ≡ 0
    by zero e = refl
    by (suc k) e = absurd (none-some to e)
  decided_first (Of of_class (IfNull opcode target)) k to is there decided = by k there where
    by : (k : ℕ) → slice_get (target ∷ []) k ≡ Some to → k ≡ 0
    by zero e = refl
    by (suc k) e = absurd (none-some to e)
  decided_first (Of of_class (IfSame opcode target)) k to is there decided = by k there where
    by : (k : ℕ) → slice_get (target ∷ []) k ≡ Some to → k ≡ 0
    by zero e = refl
    by (suc k) e = absurd (none-some to e)
  decided_first (Of of_class instr) k to is there decided =
      let open_one : is_decided point route ≡ false = rw (is) refl in absurd (false≢true (sym open_one ∙ decided))
  decided_first (NullTest local) k to is there decided =
      let open_one : is_decided point route ≡ false = rw (is) refl in absurd (false≢true (sym open_one ∙ decided))

  -- ---- throws

  abbrev Kept : Instr → Type 0
  Kept instr = (template s at f now route class instr ≡ None) × (opposite_instr instr ≡ None)

  none_of_plain : (slot : Slot) → is_plain slot ≡ true → nothing_of slot ≡ None
  none_of_plain Plain e = refl
  none_of_plain Unusable e = refl
  none_of_plain (Virt site) e = absurd (false≢true e)

  opened : (guard : Guard) (place : ℕ) → Some (where_plain place) ≡ Some guard → is_open now guard ≡ true → is_plain (held now place) ≡ true
  opened guard place is open_here = ap (is_open now) (same_Some (where_plain place) guard is) ∙ open_here

  get_none : (slot : Slot) (found : Option Reference) → is_plain slot ≡ true → get_template s now slot found ≡ None
  get_none Plain found e = refl
  get_none Unusable found e = refl
  get_none (Virt site) found e = absurd (false≢true e)

  put_none : (object value : Slot) (found : Option Reference) → is_plain object ≡ true → put_template s object value found ≡ None
  put_none Plain value found e = refl
  put_none Unusable value found e = refl
  put_none (Virt site) value found e = absurd (false≢true e)

  get_kept : (guard : Guard) (found : Option Reference) → (get_field_row s f found).throws ≡ Some guard → is_open now guard ≡ true
      → get_template s now (held now (operand f 0)) found ≡ None
  get_kept guard None is open_here = absurd (none-some guard is)
  get_kept guard (Some field) is open_here = get_none (held now (operand f 0)) (Some field) (opened guard (operand f 0) is open_here)

  put_kept : (guard : Guard) (found : Option Reference) → (put_field_row s f found).throws ≡ Some guard → is_open now guard ≡ true
      → put_template s (held now (operand f 1)) (held now (operand f 0)) found ≡ None
  put_kept guard None is open_here = absurd (none-some guard is)
  put_kept guard (Some field) is open_here =
      put_none (held now (operand f 1)) (held now (operand f 0)) (Some field) (opened guard (operand f 1) is open_here)

  cast_kept : (guard : Guard) (found : Option Name) → (cast_row f found).throws ≡ Some guard → is_open now guard ≡ true
      → nothing_of (held now (operand f 0)) ≡ None
  cast_kept guard None is open_here = absurd (none-some guard is)
  cast_kept guard (Some name) is open_here = none_of_plain (held now (operand f 0)) (opened guard (operand f 0) is open_here)

  call_kept : (guard : Guard) (opcode : ℕ) (found : Option Reference) → (call_row f opcode found).throws ≡ Some guard
      → init_template s f now (opcode == INVOKESPECIAL) found ≡ None
  call_kept guard opcode None is = refl
  call_kept guard opcode (Some method) is = by (is_object_init method) refl (opcode == INVOKESPECIAL) refl where
    by : (init : Bool) → is_object_init method ≡ init → (special : Bool) → (opcode == INVOKESPECIAL) ≡ special
        → init_template s f now (opcode == INVOKESPECIAL) (Some method) ≡ None
    by true e special e_special =
        let none : (call_row f opcode (Some method)).throws ≡ None = rw (e) refl in absurd (none-some guard (sym none ∙ is))
    by false e true e_special = rw (e_special, e) refl
    by false e false e_special = rw (e_special) refl

  new_none : (found : Option ℕ) → (new_row f found).throws ≡ None
  new_none None = refl
  new_none (Some site) = refl

  shuffle_none : (found : Option Form) → (shuffle_row f found).throws ≡ None
  shuffle_none None = refl
  shuffle_none (Some form) = refl

  return_none : (found : Option Kind) → (return_row f found).throws ≡ None
  return_none None = refl
  return_none (Some kind) = refl

  null_none : (opcode : ℕ) → (null_row f opcode).throws ≡ None
  null_none opcode = by (opcode == IFNULL) refl where
    by : (b : Bool) → (opcode == IFNULL) ≡ b → (null_row f opcode).throws ≡ None
    by true e = rw (e) refl
    by false e = rw (e) refl

  same_none : (opcode : ℕ) → (same_row f opcode).throws ≡ None
  same_none opcode = by (opcode == IF_ACMPEQ) refl where
    by : (b : Bool) → (opcode == IF_ACMPEQ) ≡ b → (same_row f opcode).throws ≡ None
    by true e = rw (e) refl
    by false e = rw (e) refl

  -- an instruction from which a handler may be reached is written as it is
  pub thrown_kept : (instr : Instr) (guard : Guard) → (row_at s at f (Of class instr)).throws ≡ Some guard → is_open now guard ≡ true → Kept instr
  thrown_kept (ArrayLoad opcode) guard is open_here = (refl, refl)
  thrown_kept (ArrayStore opcode) guard is open_here = (refl, refl)
  thrown_kept (Divide opcode) guard is open_here = (refl, refl)
  thrown_kept (PutStatic index) guard is open_here = (refl, refl)
  thrown_kept (Dynamic index) guard is open_here = (refl, refl)
  thrown_kept (NewArray code) guard is open_here = (refl, refl)
  thrown_kept (NewRefArray index) guard is open_here = (refl, refl)
  thrown_kept (NewMulti index dimensions) guard is open_here = (refl, refl)
  thrown_kept Length guard is open_here = (refl, refl)
  thrown_kept Throw guard is open_here = (refl, refl)
  thrown_kept (Cast index) guard is open_here = (cast_kept guard (class_at (pool_of s class) index) is open_here, refl)
  thrown_kept Enter guard is open_here = (none_of_plain (held now (operand f 0)) (opened guard (operand f 0) is open_here), refl)
  thrown_kept Leave guard is open_here = (none_of_plain (held now (operand f 0)) (opened guard (operand f 0) is open_here), refl)
  thrown_kept (GetField index) guard is open_here = (get_kept guard (field_of s class index) is open_here, refl)
  thrown_kept (PutField index) guard is open_here = (put_kept guard (field_of s class index) is open_here, refl)
  thrown_kept (Invoke opcode index count) guard is open_here = (call_kept guard opcode (member_of s class index) is, refl)
  thrown_kept (New index) guard is open_here = absurd (none-some guard (sym (new_none (site_at s.flat at)) ∙ is))
  thrown_kept (Shuffle opcode) guard is open_here = absurd (none-some guard (sym (shuffle_none (form_in (forms_of opcode) f.stack)) ∙ is))
  thrown_kept (Return kind) guard is open_here = absurd (none-some guard (sym (return_none kind) ∙ is))
  thrown_kept (IfNull opcode to) guard is open_here = absurd (none-some guard (sym (null_none opcode) ∙ is))
  thrown_kept (IfSame opcode to) guard is open_here = absurd (none-some guard (sym (same_none opcode) ∙ is))
  thrown_kept instr guard is open_here = absurd (none-some guard is)
