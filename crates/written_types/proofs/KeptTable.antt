-- The row of each instruction that is written as it is.
use Rattle.std.proofs.Common.{◌≡◌, ◌≢◌, ℕ, Bool, true, false, List, [], ◌∷◌, ◌++◌, length, slice_get, Option, Some, None, if◌then◌else◌, refl, sym, ap, subst, ◌∙◌, inl, inr, arith}
use Rattle.std.specs.Prelude.{◌==◌, ◌&&◌, nat_le, option_and_then}
use Rattle.std.specs.List.{AllByRecursion, list_any}
use Rattle.std.proofs.lemmas.Option.{none-some, same_Some}
use Rattle.class_model.specs.Pool.{Constants, constant_at}
use Rattle.class_model.specs.PoolChecks.{class_at}
use Rattle.class_model.specs.declared.descriptor.Kind.TheVariants as kinds
use Rattle.class_model.specs.declared.frame.Frame.{Frame}
use Rattle.class_model.specs.declared.frame.VType.{VType}
use Rattle.class_model.specs.declared.frame.VType.TheVariants as types
use Rattle.class_model.specs.declared.instr.Instr.{Instr}
use Rattle.class_model.specs.declared.instr.Instr.TheVariants.{Nop, Const, Ldc, Ldc2, Load, Store, Iinc, ArrayLoad, ArrayStore, Shuffle, Pure, Divide, FloatAsk, If, If2, IfSame, IfNull, Goto, Table, Lookup, Return, GetStatic, PutStatic, GetField, PutField, Invoke, Dynamic, New, NewArray, NewRefArray, NewMulti, Length, Throw, Cast, InstanceOf, Enter, Leave}
use Rattle.class_model.specs.declared.opcodes.TheConstants.{AALOAD, AASTORE, IALOAD, IASTORE, IFEQ, IFLE, IFNONNULL, IFNULL, IF_ACMPEQ, IF_ACMPNE, IF_ICMPEQ, IF_ICMPLE, INVOKESPECIAL}
use Rattle.class_tree.specs.Headers.{Name}
use Rattle.flow_code.specs.ReadTypes.{read_frame}
use Rattle.flow_code.specs.declared.point.FlatInstr.TheVariants.{Of}
use Rattle.member_link.specs.BodyTyping.{RowHolds}
use Rattle.member_link.specs.Machine.CallSteps.{is_object_init}
use Rattle.member_link.specs.References.{Reference}
use Rattle.member_link.specs.RowScope.{RowScope}
use Rattle.member_link.specs.Rows.ArithmeticRows.{Operation, divide_operations, float_operations, operation_in, pure_operations}
use Rattle.member_link.specs.Rows.ArrayRows.{array_of, elements_from, primitive_array}
use Rattle.member_link.specs.Rows.Operands.{AllFit, initialised, of_kind, some_array, topmost}
use Rattle.member_link.specs.Rows.Readings.{row_by}
use Rattle.member_link.specs.Rows.Row.{Row}
use Rattle.member_link.specs.Rows.Table.{row_of}
use Rattle.member_link.specs.Signatures.{reference_of}
use Rattle.plan_flow.specs.Must.{CannotBePut}
use Rattle.plan_flow.specs.PlanRows.{PlanRow, Position, enter_monitor, leave_monitor, object_put_into, plain_value}
use Rattle.plan_flow.specs.PlanScope.{PlanScope, field_of, site_at}
use Rattle.plan_flow.specs.PlanSlots.{changed, held, readable}
use Rattle.plan_flow.specs.PlanTable.{call_row, cast_row, dynamic_row, held_locals, moving, null_row, operand, operands_asked, put_field_row, row_at, same_row, throwing, value_stored}
use Rattle.plan_flow.specs.Written.Routes.{Route}
use Rattle.plan_flow.specs.Written.Templates.{get_template, init_template, instance_template, new_template, nothing_of, null_template, put_template, same_template, template}
use Rattle.plan_flow.specs.Written.WrittenConstants.{with_index}
use Rattle.same_runs.specs.Flats.{pool_of as flat_pool}
use Rattle.same_runs.specs.TypedFlats.{reading_of}
use Rattle.virtual_state.specs.States.{State}
use Rattle.virtual_state.specs.declared.slot.Slot.{Slot}
use Rattle.virtual_state.specs.declared.slot.Slot.TheVariants.{Plain, Virt, Unusable}
use Rattle.written_types.proofs.BlockEnds.{topmost_none}
use Rattle.written_types.proofs.CallRows.{IsObjectInit}
use Rattle.written_types.proofs.ChangedTypes.{NewsStand, new_item}
use Rattle.written_types.proofs.KeptCalls.{flat_scope, new_kept}
use Rattle.written_types.proofs.KeptInvokes.{call_kept, dynamic_kept, without_access}
use Rattle.written_types.proofs.KeptLocals.{iinc_kept, load_kept, store_kept}
use Rattle.written_types.proofs.KeptMembers.{cast_kept, get_field_kept, get_static_kept, put_field_kept, put_static_kept, return_kept, throw_kept}
use Rattle.written_types.proofs.KeptRows.{array_load_kept, array_store_kept, const_kept, gives_none, gives_one, imm_kept, jump_kept, made_kept, operation_kept, sure_elements}
use Rattle.written_types.proofs.MemberRows.{no_site_of_point}
use Rattle.written_types.proofs.NamedConstants.{SameDynamic, SameLoaded, SameNamed}
use Rattle.written_types.proofs.OperandRows.{no_operand}
use Rattle.written_types.proofs.PlainOperands.{IsNone, IsNumber, NoneAsked, handed_none}
use Rattle.written_types.proofs.RowTable.{same_pool}
use Rattle.written_types.proofs.SiteFields.{SitesKnown}
use Rattle.written_types.proofs.StandingFrames.{RowFollows, Stands, held_plain}
use Rattle.written_types.specs.FitsTypes.{IsReachedNew}
use Rattle.written_types.specs.Writing.{Writing, scope_in}

-- ---- what has no template

nothing_none : (slot : Slot) → nothing_of slot ≡ None → (site : ℕ) → slot ≡ Virt site → ⊥
nothing_none slot is site same = none-some _ (sym is ∙ ap nothing_of same)

get_none : (s : PlanScope) (before : State) (slot : Slot) (field : Reference) → get_template s before slot (Some field) ≡ None → (site : ℕ)
    → slot ≡ Virt site
    → ⊥
get_none s before slot field is site same = none-some _ (sym is ∙ ap (λ (x : Slot). get_template s before x (Some field)) same)

pub null_none : (s : PlanScope) (route : Route) (slot : Slot) → null_template s route slot ≡ None → (site : ℕ) → slot ≡ Virt site → ⊥
null_none s route slot is site same = none-some _ (sym is ∙ ap (null_template s route) same)

instance_none : (s : PlanScope) (slot : Slot) (name : Name) → instance_template s slot (Some name) ≡ None → (site : ℕ) → slot ≡ Virt site → ⊥
instance_none s slot name is site same = none-some _ (sym is ∙ ap (λ (x : Slot). instance_template s x (Some name)) same)

-- a virtual object on either side has one
pub same_first : (s : PlanScope) (route : Route) (one other : Slot) → same_template s route one other ≡ None → (site : ℕ) → one ≡ Virt site → ⊥
same_first s route one other is site same = none-some _ (sym is ∙ ap (λ (x : Slot). same_template s route x other) same)

pub same_second : (s : PlanScope) (route : Route) (one other : Slot) → same_template s route one other ≡ None → (site : ℕ) → other ≡ Virt site → ⊥
same_second s route Plain other is site same = none-some _ (sym is ∙ ap (same_template s route Plain) same)
same_second s route (Virt of) other is site same = none-some _ (sym is)
same_second s route Unusable other is site same = none-some _ (sym is ∙ ap (same_template s route Unusable) same)

put_filled : (s : PlanScope) (site : ℕ) (found : Option Slot) (field : Reference) → put_template s (Virt site) (readable found) (Some field) ≡ None → ⊥
put_filled s site None field is = none-some _ (sym is)
put_filled s site (Some Plain) field is = none-some _ (sym is)
put_filled s site (Some (Virt of)) field is = none-some _ (sym is)
put_filled s site (Some Unusable) field is = none-some _ (sym is)

-- a field of a virtual object that is put has one, whatever is plain or virtual
put_object : (s : PlanScope) (before : State) (object value : ℕ) (field : Reference)
    → put_template s (held before object) (held before value) (Some field) ≡ None
    → IsNone before object
put_object s before object value field is site same = put_filled s site (slice_get before.slots value) field virtual where
  virtual : put_template s (Virt site) (held before value) (Some field) ≡ None
  virtual = ap (λ (x : Slot). put_template s x (held before value) (Some field)) (sym same) ∙ is

-- a value that is put into an object that is none is asked for
last_there : (ones : List Position) (last : Position) → slice_get (ones ++ last ∷ []) (length ones) ≡ Some last
last_there [] last = refl
last_there (one ∷ ones) last = last_there ones last

put_value : (s : PlanScope) (f : Frame) (before : State) (field : Reference) → IsNone before (operand f 1)
    → NoneAsked s before (put_field_row s f (Some field))
    → IsNone before (operand f 0)
put_value s f before field object none site virtual =
    none (length (put_field_row s f (Some field)).asks) (object_put_into (operand f 0) (operand f 1)) site
    (last_there (put_field_row s f (Some field)).asks (object_put_into (operand f 0) (operand f 1)))
    (virtual, subst (CannotBePut before site) (sym (held_plain before (operand f 1) object)) tt)

-- ---- operations on numbers

abbrev OfNumbers : List Operation → Type 0
OfNumbers all = AllByRecursion (λ o. AllByRecursion IsNumber o.takes) all

found_numbers : (all : List Operation) (opcode : ℕ) (o : Operation) → OfNumbers all → operation_in all opcode ≡ Some o → AllByRecursion IsNumber o.takes
found_numbers [] opcode o numbers is = absurd (none-some o is)
found_numbers (first ∷ all) opcode o numbers is =
    by (list_any (λ one. one == opcode) first.opcodes) is (found_numbers all opcode o numbers.1) where
      by : (b : Bool) → (if b then Some first else operation_in all opcode) ≡ Some o
          → (operation_in all opcode ≡ Some o → AllByRecursion IsNumber o.takes)
          → AllByRecursion IsNumber o.takes
      by true found rest = subst (λ (x : Operation). AllByRecursion IsNumber x.takes) (same_Some first o found) numbers.0
      by false found rest = rest found

one_number : Unit {0} × Unit {0}
one_number = (tt, tt)

two_numbers : Unit {0} × (Unit {0} × Unit {0})
two_numbers = (tt, (tt, tt))

pure_numbers : OfNumbers pure_operations
pure_numbers = (two_numbers, (two_numbers, (two_numbers, (one_number, (one_number, (one_number, (one_number, (two_numbers, tt))))))))

divide_numbers : OfNumbers divide_operations
divide_numbers = (two_numbers, (two_numbers, tt))

float_numbers : OfNumbers float_operations
float_numbers = (
  two_numbers,
  (
    two_numbers,
    (
      one_number,
      (
        one_number,
        (
          one_number,
          (
            one_number,
            (
              one_number,
              (
                one_number,
                (
                  one_number,
                  (
                    one_number,
                    (
                      one_number,
                      (one_number, (one_number, (one_number, (two_numbers, (two_numbers, tt))))),
                    ),
                  ),
                ),
              ),
            ),
          ),
        ),
      ),
    ),
  ),
)

-- ---- what is known of an instruction

-- its constant means the same by another index of another pool
abbrev pub Meant : Constants → Constants → ℕ → Instr → Type 0
Meant old pool new (Ldc index) = SameLoaded old index pool new
Meant old pool new (Ldc2 index) = SameLoaded old index pool new
Meant old pool new (GetStatic index) = SameNamed old index pool new
Meant old pool new (PutStatic index) = SameNamed old index pool new
Meant old pool new (GetField index) = SameNamed old index pool new
Meant old pool new (PutField index) = SameNamed old index pool new
Meant old pool new (Invoke opcode index count) = SameNamed old index pool new
Meant old pool new (Dynamic index) = SameDynamic old index pool new
Meant old pool new (New index) = SameNamed old index pool new
Meant old pool new (NewRefArray index) = SameNamed old index pool new
Meant old pool new (NewMulti index dimensions) = SameNamed old index pool new
Meant old pool new (Cast index) = SameNamed old index pool new
Meant old pool new instr = Unit {0}

abbrev pub FindsField : PlanScope → Constants → ℕ → Type 0
FindsField s old index = (r : Reference) → reference_of old (constant_at old index) ≡ Some r → (field : Reference) × (s.links.field r ≡ Some field)

-- what it names is found
abbrev pub IsFound : PlanScope → Constants → Instr → Type 0
IsFound s old (GetField index) = FindsField s old index
IsFound s old (PutField index) = FindsField s old index
IsFound s old (InstanceOf index) = (name : Name) × (class_at old index ≡ Some name)
IsFound s old (Invoke opcode index count) =
    (r : Reference) → reference_of old (constant_at old index) ≡ Some r → is_object_init r ≡ true → IsObjectInit opcode r
IsFound s old instr = Unit {0}

-- a new stands at its item, and no object of it is on the stack
pub record NewHere (w : Writing) (reached : ℕ → Bool) (at number : ℕ) (g : Frame) : Type 0 where
  pub is_reached : IsReachedNew w.s reached at
  pub here : new_item w at ≡ number
  pub fresh : AllByRecursion (λ type. type ≢ types.Uninit number) g.stack

abbrev pub StandsNew : Writing → (ℕ → Bool) → ℕ → ℕ → Frame → Instr → Type 0
StandsNew w reached at number g (New index) = NewHere w reached at number g
StandsNew w reached at number g instr = Unit {0}

-- ---- the table

module _ (w : Writing) (reached : ℕ → Bool) (f : Frame) (before : State) (rest : List VType) (g : Frame) (st : Stands w reached f before rest g)
    (known : SitesKnown w.s) (news : NewsStand w reached) (no_init : (scope_in w).is_init ≡ false) (at number : ℕ) (route : Route) (class new : ℕ) where
  abbrev rf : Frame
  rf = read_frame w.s.flat f

  abbrev sc : RowScope
  sc = flat_scope w class

  abbrev old : Constants
  old = flat_pool w.s.classes class

  -- the row in the flat code, and as it is written
  abbrev pub flat_row : Instr → Row
  flat_row instr = row_by (reading_of w.s.classes w.s.flat at f (Of class instr)) rf (row_of sc rf at instr)

  abbrev pub Follow : Instr → Type 0
  Follow instr = RowFollows w before rest f g (row_at w.s at f (Of class instr)) (flat_row instr) (row_of (scope_in w) g number (with_index new instr))

  handed_first : (p : PlanRow) → p.asks ≡ operands_asked f 1 → NoneAsked w.s before p → IsNone before (operand f 0)
  handed_first p asks none = handed_none w.s before f p 1 asks none 0 (omega arith)

  no_operands : AllFit sc [] (topmost 0 rf.stack)
  no_operands = subst (AllFit sc []) (sym (topmost_none rf.stack)) tt

  pub instr_kept : (instr : Instr) → template w.s at f before route class instr ≡ None → NoneAsked w.s before (row_at w.s at f (Of class instr))
      → Meant old w.pool new instr
      → IsFound w.s old instr
      → StandsNew w reached at number g instr
      → RowHolds sc rf (flat_row instr)
      → Follow instr
  instr_kept Nop none asks meant found stands holds =
      gives_none w reached f before rest g st known sc refl (moving f 0 []) [] 0 refl refl refl refl tt tt no_operands
  instr_kept (Const imm) none asks meant found stands holds = imm_kept w reached f before rest g st known sc refl imm
  instr_kept (Ldc index) none asks meant found stands holds =
      without_access (const_kept w reached f before rest g st known sc refl (constant_at old index) (constant_at w.pool new) meant holds.operands)
  instr_kept (Ldc2 index) none asks meant found stands holds =
      without_access (const_kept w reached f before rest g st known sc refl (constant_at old index) (constant_at w.pool new) meant holds.operands)
  instr_kept (Load kind local) none asks meant found stands holds =
      load_kept w reached f before rest g st known sc refl kind local (nothing_none (held before local) none) holds.local
  instr_kept (Store kind local) none asks meant found stands holds =
      store_kept w reached f before rest g st known sc refl kind local (nothing_none (held before (operand f 0)) none) holds.local holds.operands
  instr_kept (Iinc local by) none asks meant found stands holds = iinc_kept w reached f before rest g st known sc refl local holds.local
  instr_kept (ArrayLoad opcode) none asks meant found stands holds =
      without_access (array_load_kept w reached f before rest g st known sc refl (opcode == AALOAD) (elements_from IALOAD opcode) (sure_elements IALOAD opcode)
      holds.operands)
  instr_kept (ArrayStore opcode) none asks meant found stands holds =
      without_access (array_store_kept w reached f before rest g st known sc refl (record (throwing f 3 []) { asks = value_stored f }) refl refl refl
      (handed_first (record (throwing f 3 []) { asks = value_stored f }) refl asks) (opcode == AASTORE) (elements_from IASTORE opcode)
      (sure_elements IASTORE opcode) holds.operands)
  instr_kept (Shuffle opcode) none asks meant found stands holds = absurd (none-some _ (sym none))
  instr_kept (Pure opcode) none asks meant found stands holds =
      without_access (operation_kept w reached f before rest g st known sc refl (λ count. moving f count (plain_value ∷ [])) (λ count. refl) (λ count. refl) (λ count. refl)
      (operation_in pure_operations opcode) (λ o is. found_numbers pure_operations opcode o pure_numbers is) holds.operands)
  instr_kept (Divide opcode) none asks meant found stands holds =
      without_access (operation_kept w reached f before rest g st known sc refl (λ count. throwing f count (plain_value ∷ [])) (λ count. refl) (λ count. refl)
      (λ count. refl) (operation_in divide_operations opcode) (λ o is. found_numbers divide_operations opcode o divide_numbers is) holds.operands)
  instr_kept (FloatAsk opcode) none asks meant found stands holds =
      without_access (operation_kept w reached f before rest g st known sc refl (λ count. moving f count (plain_value ∷ [])) (λ count. refl) (λ count. refl) (λ count. refl)
      (operation_in float_operations opcode) (λ o is. found_numbers float_operations opcode o float_numbers is) holds.operands)
  instr_kept (If opcode target) none asks meant found stands holds =
      without_access (jump_kept w reached f before rest g st known sc refl (moving f 1 []) (of_kind kinds.Int ∷ []) refl refl refl (tt, tt) (inl tt, tt)
      (nat_le IFEQ opcode && nat_le opcode IFLE) holds.operands)
  instr_kept (If2 opcode target) none asks meant found stands holds =
      without_access (jump_kept w reached f before rest g st known sc refl (moving f 2 []) (of_kind kinds.Int ∷ of_kind kinds.Int ∷ []) refl refl refl (tt, (tt, tt))
      (inl tt, (inl tt, tt)) (nat_le IF_ICMPEQ opcode && nat_le opcode IF_ICMPLE) holds.operands)
  instr_kept (IfSame opcode target) none asks meant found stands holds = by (opcode == IF_ACMPEQ) refl where
    row : (p : PlanRow) → changed w.s before p.change ≡ [] → p.locals ≡ held_locals f → p.stack ≡ (moving f 2 []).stack
        → RowFollows w before rest f g p (flat_row (IfSame opcode target)) (row_of (scope_in w) g number (IfSame opcode target))
    row p still locals_are is =
        without_access (jump_kept w reached f before rest g st known sc refl p (of_kind kinds.Ref ∷ of_kind kinds.Ref ∷ []) still locals_are is (tt, (tt, tt)) (
          inr (same_first w.s route (held before (operand f 1)) (held before (operand f 0)) none),
          (inr (same_second w.s route (held before (operand f 1)) (held before (operand f 0)) none), tt),
        )
        (nat_le IF_ACMPEQ opcode && nat_le opcode IF_ACMPNE) holds.operands)

    by : (b : Bool) → (opcode == IF_ACMPEQ) ≡ b → Follow (IfSame opcode target)
    by true is = row (same_row f opcode) (rw is refl) (rw is refl) (rw is refl)
    by false is = row (same_row f opcode) (rw is refl) (rw is refl) (rw is refl)
  instr_kept (IfNull opcode target) none asks meant found stands holds = by (opcode == IFNULL) refl where
    row : (p : PlanRow) → changed w.s before p.change ≡ [] → p.locals ≡ held_locals f → p.stack ≡ (moving f 1 []).stack
        → RowFollows w before rest f g p (flat_row (IfNull opcode target)) (row_of (scope_in w) g number (IfNull opcode target))
    row p still locals_are is =
        without_access (jump_kept w reached f before rest g st known sc refl p (of_kind kinds.Ref ∷ []) still locals_are is (tt, tt)
        (inr (null_none w.s route (held before (operand f 0)) none), tt) (nat_le IFNULL opcode && nat_le opcode IFNONNULL) holds.operands)

    by : (b : Bool) → (opcode == IFNULL) ≡ b → Follow (IfNull opcode target)
    by true is = row (null_row f opcode) (rw is refl) (rw is refl) (rw is refl)
    by false is = row (null_row f opcode) (rw is refl) (rw is refl) (rw is refl)
  instr_kept (Goto target) none asks meant found stands holds = absurd (none-some _ (sym none))
  instr_kept (Table low other targets) none asks meant found stands holds =
      gives_none w reached f before rest g st known sc refl (moving f 1 []) (of_kind kinds.Int ∷ []) 1 refl refl refl refl (tt, tt) (inl tt, tt)
      holds.operands
  instr_kept (Lookup other pairs) none asks meant found stands holds =
      gives_none w reached f before rest g st known sc refl (moving f 1 []) (of_kind kinds.Int ∷ []) 1 refl refl refl refl (tt, tt) (inl tt, tt)
      holds.operands
  instr_kept (Return None) none asks meant found stands holds =
      without_access (return_kept w reached f before rest g st known sc refl (moving f 0 []) refl refl no_init None (λ one is. absurd (none-some one is))
      holds.operands holds.further)
  instr_kept (Return (Some kind)) none asks meant found stands holds =
      without_access (return_kept w reached f before rest g st known sc refl (row_at w.s at f (Of class (Return (Some kind)))) refl refl no_init (Some kind)
      (λ one is. handed_first (row_at w.s at f (Of class (Return (Some kind)))) refl asks) holds.operands holds.further)
  instr_kept (GetStatic index) none asks meant found stands holds =
      without_access (get_static_kept w reached f before rest g st known sc refl (reference_of old (constant_at old index)) (reference_of w.pool (constant_at w.pool new))
      meant.member holds.operands)
  instr_kept (PutStatic index) none asks meant found stands holds =
      without_access (put_static_kept w reached f before rest g st known sc refl (reference_of old (constant_at old index)) (reference_of w.pool (constant_at w.pool new))
      meant.member (handed_first (record (throwing f 1 []) { asks = value_stored f }) refl asks) holds.operands)
  instr_kept (GetField index) none asks meant found stands holds = by (reference_of old (constant_at old index)) refl where
    field_is : field_of w.s class index ≡ option_and_then w.s.links.field (reference_of old (constant_at old index))
    field_is = ap (λ (pool : Constants). option_and_then w.s.links.field (reference_of pool (constant_at pool index))) (same_pool w.s class)

    by : (reference : Option Reference) → reference_of old (constant_at old index) ≡ reference → Follow (GetField index)
    by None is = absurd (no_operand sc rf (rw is at holds.operands))
    by (Some r) is =
        without_access (get_field_kept w reached f before rest g st known sc refl (reference_of old (constant_at old index))
        (reference_of w.pool (constant_at w.pool new)) (field_of w.s class index) meant.member
        (get_none w.s before (held before (operand f 0)) (found r is).0
        (subst (λ (x : Option Reference). get_template w.s before (held before (operand f 0)) x ≡ None) some none)) holds.operands) where
          some : field_of w.s class index ≡ Some (found r is).0
          some = field_is ∙ ap (option_and_then w.s.links.field) is ∙ (found r is).1
  instr_kept (PutField index) none asks meant found stands holds = by (reference_of old (constant_at old index)) refl where
    field_is : field_of w.s class index ≡ option_and_then w.s.links.field (reference_of old (constant_at old index))
    field_is = ap (λ (pool : Constants). option_and_then w.s.links.field (reference_of pool (constant_at pool index))) (same_pool w.s class)

    by : (reference : Option Reference) → reference_of old (constant_at old index) ≡ reference → Follow (PutField index)
    by None is = absurd (no_operand sc rf (rw is at holds.operands))
    by (Some r) is =
        without_access (put_field_kept w reached f before rest g st known sc refl (reference_of old (constant_at old index))
        (reference_of w.pool (constant_at w.pool new)) (field_of w.s class index) meant.member value object holds.operands) where
          some : field_of w.s class index ≡ Some (found r is).0
          some = field_is ∙ ap (option_and_then w.s.links.field) is ∙ (found r is).1

          object : IsNone before (operand f 1)
          object =
              put_object w.s before (operand f 1) (operand f 0) (found r is).0
              (subst (λ (x : Option Reference). put_template w.s (held before (operand f 1)) (held before (operand f 0)) x ≡ None) some none)

          asks_put : NoneAsked w.s before (put_field_row w.s f (Some (found r is).0))
          asks_put = subst (λ (x : Option Reference). NoneAsked w.s before (put_field_row w.s f x)) some asks

          value : IsNone before (operand f 0)
          value = put_value w.s f before (found r is).0 object asks_put
  instr_kept (Invoke opcode index count) none asks meant found stands holds =
      subst (λ (pool : Constants). RowFollows w before rest f g (call_row f opcode (reference_of pool (constant_at pool index)))
      (flat_row (Invoke opcode index count)) (row_of (scope_in w) g number (Invoke opcode new count))) (sym (same_pool w.s class))
      (call_kept w reached f before rest g st known class news opcode (reference_of old (constant_at old index)) (reference_of w.pool (constant_at w.pool new))
      meant.member found
      (subst (λ (pool : Constants). init_template w.s f before (opcode == INVOKESPECIAL)
      (reference_of pool (constant_at pool index)) ≡ None) (same_pool w.s class) none)
      (subst (λ (pool : Constants). NoneAsked w.s before (call_row f opcode (reference_of pool (constant_at pool index)))) (same_pool w.s class) asks)
      holds.operands holds.further)
  instr_kept (Dynamic index) none asks meant found stands holds =
      subst (λ (pool : Constants). RowFollows w before rest f g (dynamic_row pool f (constant_at pool index)) (flat_row (Dynamic index))
      (row_of (scope_in w) g number (Dynamic new))) (sym (same_pool w.s class))
      (without_access (dynamic_kept w reached f before rest g st known class (constant_at old index) (constant_at w.pool new) meant
      (subst (λ (pool : Constants). NoneAsked w.s before (dynamic_row pool f (constant_at pool index))) (same_pool w.s class) asks) holds.operands))
  instr_kept (New index) none asks meant found stands holds = by (site_at w.s.flat at) refl none where
    by : (site : Option ℕ) → site_at w.s.flat at ≡ site → new_template w.s site ≡ None → Follow (New index)
    by (Some site) is there = absurd (none-some _ (sym there))
    by None is there =
        let no_site = no_site_of_point w.s.flat.sites at is in
        rw (is, no_site)
        (new_kept w reached f before rest g st known class news at number (record { new = stands.is_reached; no_site = no_site }) stands.here stands.fresh)
  instr_kept (NewArray code) none asks meant found stands holds =
      without_access (made_kept w reached f before rest g st known sc refl 1 (primitive_array code) (primitive_array code) (λ name is. is) holds.operands)
  instr_kept (NewRefArray index) none asks meant found stands holds =
      without_access (made_kept w reached f before rest g st known sc refl 1 (array_of (class_at old index)) (array_of (class_at w.pool new))
      (arrays_same (class_at old index) (class_at w.pool new) meant.class) holds.operands) where
        arrays_same : (one other : Option Name) → ((name : Name) → one ≡ Some name → other ≡ Some name) → (name : Name) → array_of one ≡ Some name
            → array_of other ≡ Some name
        arrays_same None other keeps name is = absurd (none-some name is)
        arrays_same (Some element) other keeps name is = ap array_of (keeps element refl) ∙ is
  instr_kept (NewMulti index dimensions) none asks meant found stands holds =
      without_access (made_kept w reached f before rest g st known sc refl dimensions (class_at old index) (class_at w.pool new) meant.class holds.operands)
  instr_kept Length none asks meant found stands holds =
      gives_one w reached f before rest g st known sc refl (throwing f 1 (plain_value ∷ [])) (some_array ∷ []) 1 types.Int refl refl refl refl tt (tt, tt)
      (inl tt, tt) holds.operands
  instr_kept Throw none asks meant found stands holds =
      throw_kept w reached f before rest g st known sc refl (row_at w.s at f (Of class Throw)) refl
      (handed_first (row_at w.s at f (Of class Throw)) refl asks) holds.operands
  instr_kept (Cast index) none asks meant found stands holds =
      subst (λ (pool : Constants). RowFollows w before rest f g (cast_row f (class_at pool index)) (flat_row (Cast index))
      (row_of (scope_in w) g number (Cast new))) (sym (same_pool w.s class))
      (without_access (cast_kept w reached f before rest g st known sc refl (class_at old index) (class_at w.pool new) meant.class
      (nothing_none (held before (operand f 0)) none) holds.operands))
  instr_kept (InstanceOf index) none asks meant found stands holds =
      gives_one w reached f before rest g st known sc refl (moving f 1 (plain_value ∷ [])) (initialised ∷ []) 1 types.Int refl refl refl refl tt (tt, tt) (
        inr (instance_none w.s (held before (operand f 0)) found.0
            (subst (λ (x : Option Name). instance_template w.s (held before (operand f 0)) x ≡ None)
            (ap (λ (pool : Constants). class_at pool index) (same_pool w.s class) ∙ found.1) none)),
        tt,
      ) holds.operands
  instr_kept Enter none asks meant found stands holds =
      gives_none w reached f before rest g st known sc refl (row_at w.s at f (Of class Enter)) (of_kind kinds.Ref ∷ []) 1 refl
      (monitor_still (nothing_none (held before (operand f 0)) none)) refl refl (tt, tt)
      (inr (nothing_none (held before (operand f 0)) none), tt) holds.operands where
        monitor_still : IsNone before (operand f 0) → changed w.s before (enter_monitor (operand f 0)) ≡ []
        monitor_still plain = rw (held_plain before (operand f 0) plain) refl
  instr_kept Leave none asks meant found stands holds =
      gives_none w reached f before rest g st known sc refl (row_at w.s at f (Of class Leave)) (of_kind kinds.Ref ∷ []) 1 refl
      (monitor_still (nothing_none (held before (operand f 0)) none)) refl refl (tt, tt)
      (inr (nothing_none (held before (operand f 0)) none), tt) holds.operands where
        monitor_still : IsNone before (operand f 0) → changed w.s before (leave_monitor (operand f 0)) ≡ []
        monitor_still plain = rw (held_plain before (operand f 0) plain) refl
