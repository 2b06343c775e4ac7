-- The rows of plans fit the typed rows of instructions: they leave as many stack entries, and what they keep in a local unit comes from a usable place.
use Rattle.std.proofs.Common.{◌≡◌, ◌≢◌, ◌⊎◌, inl, inr, ◌+◌, ◌-◌, ◌<◌, ℕ, zero, suc, Bool, true, false, List, [], ◌∷◌, ◌++◌, length, map, drop, slice_get, Option, Some, None, option_map, if◌then◌else◌, refl, sym, ap, subst, ◌∙◌, arith}
use Rattle.std.specs.Prelude.{◌==◌, ◌&&◌, bytes_eq, nat_le, not, slice_set}
use Rattle.std.specs.List.{AllByRecursion}
use Rattle.std.proofs.lemmas.Bool.{and_parts, false≢true}
use Rattle.std.proofs.lemmas.List.{drop-map, length-append, length-map, length-replicate, length-take-le}
use Rattle.std.proofs.lemmas.Option.{none-some, same_Some, slice_get-map, slice_get_within}
use Rattle.class_model.specs.Code.{verification_type}
use Rattle.class_model.specs.Descriptors.{parameters_of}
use Rattle.class_model.specs.Frames.{is_top, is_wide}
use Rattle.class_model.specs.Names.{init}
use Rattle.class_model.specs.Pool.{Constants, constant_at}
use Rattle.class_model.specs.PoolChecks.{class_at, descriptor_at}
use Rattle.class_model.specs.declared.class_file.ClassFile.{ClassFile}
use Rattle.class_model.specs.declared.descriptor.FieldType.{FieldType}
use Rattle.class_model.specs.declared.descriptor.Kind.{Kind}
use Rattle.class_model.specs.declared.descriptor.Kind.TheVariants as kinds
use Rattle.class_model.specs.declared.frame.Frame.{Frame}
use Rattle.class_model.specs.declared.frame.VType.{VType}
use Rattle.class_model.specs.declared.frame.VType.TheVariants as types
use Rattle.class_model.specs.declared.instr.Instr.TheVariants.{Nop, Const, Ldc, Ldc2, Load, Store, Iinc, ArrayLoad, ArrayStore, Shuffle, Pure, Divide, FloatAsk, If, If2, IfSame, IfNull, Goto, Table, Lookup, Return, GetStatic, PutStatic, GetField, PutField, Invoke, Dynamic, New, NewArray, NewRefArray, NewMulti, Length, Throw, Cast, InstanceOf, Enter, Leave}
use Rattle.class_model.specs.declared.opcodes.TheConstants.{POP, POP2, DUP, DUP_X1, DUP_X2, DUP2, DUP2_X1, DUP2_X2, SWAP, AALOAD, AASTORE, IALOAD, IASTORE, IFEQ, IFLE, IFNONNULL, IFNULL, IF_ACMPEQ, IF_ACMPNE, IF_ICMPEQ, IF_ICMPLE, INVOKESPECIAL, INVOKESTATIC}
use Rattle.class_model.specs.declared.pool.Const.{Const as Constant}
use Rattle.class_model.specs.declared.pool.Const.TheVariants as consts
use Rattle.class_tree.specs.Headers.{Name}
use Rattle.class_tree.specs.Names.{object}
use Rattle.flow_code.specs.FlatCode.{FlatCode}
use Rattle.flow_code.specs.ReadTypes.{class_of_site, is_site_object, read_frame, read_type}
use Rattle.flow_code.specs.declared.point.FlatInstr.{FlatInstr}
use Rattle.flow_code.specs.declared.point.FlatInstr.TheVariants.{NullTest, Of}
use Rattle.member_link.specs.Bodies.{item_row}
use Rattle.member_link.specs.BodyTyping.{RowHolds}
use Rattle.member_link.specs.Machine.CallSteps.{is_object_init}
use Rattle.member_link.specs.References.{Reference}
use Rattle.member_link.specs.RowScope.{RowScope}
use Rattle.member_link.specs.Rows.ArithmeticRows.{Operation, divide_operations, float_operations, operation_in, operation_row, pure_operations, type_of_kind}
use Rattle.member_link.specs.Rows.ArrayRows.{Elements, array_of, component_type, elements_from, elements_load_row, elements_store_row, made_row, primitive_array}
use Rattle.member_link.specs.Rows.LocalRows.{HoldsKind, const_row, cut_before, load_row, local_entry, store_row, stored}
use Rattle.member_link.specs.Rows.MemberRows.{argument_needs, call_row, dynamic_row, get_field_row, get_static_row, init_row, initialised_type, put_field_row, put_static_row, receiver, result_types, return_row, static_row}
use Rattle.member_link.specs.Rows.Operands.{AllFit, IsOfKind, Need, array_of_references, assignable_to, initialised, lowest_of, nothing, of_kind, topmost, under}
use Rattle.member_link.specs.Rows.Readings.{reads_itself, reads_pop, row_by}
use Rattle.member_link.specs.Rows.Row.{Row, either, no_row, plain, stack_behind}
use Rattle.member_link.specs.Rows.ShuffleRows.{Form, Width, form_in, form_row, forms_of, has_width, have_widths, need_of, picked, one as one_unit, two as two_units}
use Rattle.member_link.specs.Rows.Table.{cast_row, jump_row, new_row, without_older}
use Rattle.member_link.specs.Scope.{Scope}
use Rattle.member_link.specs.Signatures.{reference_of, result_of}
use Rattle.plan_flow.specs.PlanRows.{PlanRow, Source, enter_monitor, from_field, from_new, from_place, leave_monitor, plain_value}
use Rattle.plan_flow.specs.PlanScope.{PlanScope, field_of, pool_of, site_at}
use Rattle.plan_flow.specs.PlanTable.{calling, held_from, held_locals, monitor_row, moving, null_row, operand, operands_of, picked_operands, receivers, result_given, row_at, same_row, shuffle_row, throwing, value_stored}
use Rattle.plan_flow.specs.PlanTable.{call_row as plan_call, cast_row as plan_cast, dynamic_row as plan_dynamic, get_field_row as plan_get, new_row as plan_new, put_field_row as plan_put, return_row as plan_return, store_row as plan_store}
use Rattle.plan_flow.specs.ReadyForPlans.{place_types}
use Rattle.same_runs.specs.Flats.{flat_item, host_scope, instr_scope, pool_of as flat_pool}
use Rattle.same_runs.specs.TypedFlats.{reading_of, reading_of_call, reading_of_new}
use Rattle.written_runs.specs.Laws.Carried.Slots.{got_left, got_right}

-- ---- lists

held_count : (first count : ℕ) → length (held_from first count) ≡ count
held_count first zero = refl
held_count first (suc count) = ap suc (held_count (first + 1) count)

same_place : (one other : ℕ) → from_place one ≡ from_place other → one ≡ other
same_place one other is = cc

held_source : (first count number place : ℕ) → slice_get (held_from first count) number ≡ Some (from_place place) → place ≡ first + number
held_source first zero number place is = absurd (none-some (from_place place) is)
held_source first (suc count) zero place is =
    let same = same_place first place (same_Some (from_place first) (from_place place) is) in omega (arith, same)
held_source first (suc count) (suc number) place is =
    let rest = held_source (first + 1) count number place is in omega (arith, rest)

pub set_split : {A : Type 0} (items : List A) (at unit : ℕ) (item found : A) → slice_get (slice_set items at item) unit ≡ Some found
    → ((unit ≡ at) × (found ≡ item)) ⊎ ((unit ≢ at) × (slice_get items unit ≡ Some found))
set_split [] at unit item found is = absurd (none-some found is)
set_split (first ∷ items) zero zero item found is = inl (refl, sym (same_Some item found is))
set_split (first ∷ items) zero (suc unit) item found is = inr (λ same. absurd (omega (arith, same)), is)
set_split (first ∷ items) (suc at) zero item found is = inr (λ same. absurd (omega (arith, same)), is)
set_split (first ∷ items) (suc at) (suc unit) item found is = elim (set_split items at unit item found is) [
  | inl here ↦ inl (ap suc here.0, here.1)
  | inr there ↦ inr (λ same. there.0 (omega (arith, same)), there.1)
]

item_at : {A : Type 0} (items : List A) (number : ℕ) → number < length items → (item : A) × (slice_get items number ≡ Some item)
item_at [] number low = absurd (omega (arith, low))
item_at (item ∷ items) zero low = (item, refl)
item_at (first ∷ items) (suc number) low = item_at items number (omega (arith, low))

got_dropped : {A : Type 0} (count : ℕ) (items : List A) (number : ℕ) → slice_get (drop count items) number ≡ slice_get items (count + number)
got_dropped zero items number = let same : number ≡ 0 + number = omega arith in ap (slice_get items) same
got_dropped (suc count) [] number = refl
got_dropped (suc count) (item ∷ items) number =
    let same : suc (count + number) ≡ suc count + number = omega arith in
    got_dropped count items number ∙ ap (slice_get (item ∷ items)) same

-- ---- types that are read

pub read_no_top : (flat : FlatCode) (type : VType) → is_top (read_type flat type) ≡ is_top type
read_no_top flat (types.Uninit at) = by (class_of_site flat.sites at) refl where
  by : (found : Option (List ℕ)) → class_of_site flat.sites at ≡ found → is_top (read_type flat (types.Uninit at)) ≡ false
  by None none = rw none refl
  by (Some class) some = rw some refl
read_no_top flat type = refl

read_wide : (flat : FlatCode) (type : VType) → is_wide (read_type flat type) ≡ is_wide type
read_wide flat (types.Uninit at) = by (class_of_site flat.sites at) refl where
  by : (found : Option (List ℕ)) → class_of_site flat.sites at ≡ found → is_wide (read_type flat (types.Uninit at)) ≡ false
  by None none = rw none refl
  by (Some class) some = rw some refl
read_wide flat type = refl

pub unread : (flat : FlatCode) (all : List VType) (number : ℕ) (low : VType) → slice_get (map (read_type flat) all) number ≡ Some low
    → is_top low ≡ false
    → (type : VType) × (slice_get all number ≡ Some type) × (is_top type ≡ false)
unread flat all number low is high = by (slice_get all number) refl where
  by : (found : Option VType) → slice_get all number ≡ found → (type : VType) × (slice_get all number ≡ Some type) × (is_top type ≡ false)
  by None none = absurd (none-some low (sym (slice_get-map (read_type flat) all number ∙ ap (option_map (read_type flat)) none) ∙ is))
  by (Some type) some =
      let same = same_Some (read_type flat type) low (sym (slice_get-map (read_type flat) all number ∙ ap (option_map (read_type flat)) some) ∙ is) in
      (type, some, sym (read_no_top flat type) ∙ ap is_top same ∙ high)

-- ---- forms

-- what is given are operands
abbrev GivesOperands : Form → Type 0
GivesOperands form = AllByRecursion (λ number. number < length form.takes) form.gives

abbrev GiveOperands : List Form → Type 0
GiveOperands forms = AllByRecursion GivesOperands forms

forms_if : (b : Bool) (ones others : List Form) → GiveOperands ones → GiveOperands others → GiveOperands (if b then ones else others)
forms_if true ones others first second = first
forms_if false ones others first second = second

below_one : (0 < 1)
below_one = omega arith

zero_two : (0 < 2)
zero_two = omega arith

one_two : (1 < 2)
one_two = omega arith

zero_three : (0 < 3)
zero_three = omega arith

one_three : (1 < 3)
one_three = omega arith

two_three : (2 < 3)
two_three = omega arith

zero_four : (0 < 4)
zero_four = omega arith

one_four : (1 < 4)
one_four = omega arith

two_four : (2 < 4)
two_four = omega arith

three_four : (3 < 4)
three_four = omega arith

pair : (1 < 2) × ((0 < 2) × ((1 < 2) × Unit {0}))
pair = (one_two, (zero_two, (one_two, tt)))

triple : (2 < 3) × ((0 < 3) × ((1 < 3) × ((2 < 3) × Unit {0})))
triple = (two_three, (zero_three, (one_three, (two_three, tt))))

twice : (1 < 3) × ((2 < 3) × ((0 < 3) × ((1 < 3) × ((2 < 3) × Unit {0}))))
twice = (one_three, triple)

forms_give : (opcode : ℕ) → GiveOperands (forms_of opcode)
forms_give opcode =
    forms_if (opcode == POP) _ _ (tt, tt) (forms_if (opcode == POP2) _ _ (tt, (tt, tt))
    (forms_if (opcode == DUP) _ _ ((below_one, (below_one, tt)), tt) (forms_if (opcode == DUP_X1) _ _ (pair, tt)
    (forms_if (opcode == DUP_X2) _ _ (triple, (pair, tt))
    (forms_if (opcode == DUP2) _ _ ((zero_two, (one_two, (zero_two, (one_two, tt)))), ((below_one, (below_one, tt)), tt))
    (forms_if (opcode == DUP2_X1) _ _ (twice, (pair, tt))
    (forms_if (opcode == DUP2_X2) _ _
    ((two_four, (three_four, (zero_four, (one_four, (two_four, (three_four, tt)))))), (triple, (twice, (pair, tt))))
    (forms_if (opcode == SWAP) _ [] ((one_two, (zero_two, tt)), tt) tt))))))))

form_gives : (forms : List Form) (stack : List VType) (form : Form) → GiveOperands forms → form_in forms stack ≡ Some form → GivesOperands form
form_gives [] stack form all is = absurd (none-some form is)
form_gives (first ∷ forms) stack form all is =
    by (have_widths first.takes (topmost (length first.takes) stack)) is (form_gives forms stack form all.1) where
      by : (b : Bool) → (if b then Some first else form_in forms stack) ≡ Some form → (form_in forms stack ≡ Some form → GivesOperands form)
          → GivesOperands form
      by true found rest = subst GivesOperands (same_Some first form found) all.0
      by false found rest = rest found

-- ---- forms of stacks that are read

read_width : (flat : FlatCode) (width : Width) (type : VType) → has_width width (read_type flat type) ≡ has_width width type
read_width flat one_unit type = λ i. not (read_wide flat type i) && not (read_no_top flat type i)
read_width flat two_units type = read_wide flat type

read_widths : (flat : FlatCode) (widths : List Width) (stack : List VType) → have_widths widths (map (read_type flat) stack) ≡ have_widths widths stack
read_widths flat [] [] = refl
read_widths flat [] (type ∷ stack) = refl
read_widths flat (width ∷ widths) [] = refl
read_widths flat (width ∷ widths) (type ∷ stack) = λ i. read_width flat width type i && read_widths flat widths stack i

read_topmost : (flat : FlatCode) (count : ℕ) (stack : List VType) → topmost count (map (read_type flat) stack) ≡ map (read_type flat) (topmost count stack)
read_topmost flat count stack =
    ap (λ (n : ℕ). drop (n - count) (map (read_type flat) stack)) (length-map stack (read_type flat))
    ∙ drop-map (read_type flat) (length stack - count) stack

read_form : (flat : FlatCode) (forms : List Form) (stack : List VType) → form_in forms (map (read_type flat) stack) ≡ form_in forms stack
read_form flat [] stack = refl
read_form flat (first ∷ forms) stack =
    λ i. if (ap (have_widths first.takes) (read_topmost flat (length first.takes) stack)
    ∙ read_widths flat first.takes (topmost (length first.takes) stack)) i then Some first else read_form flat forms stack i

-- ---- what is asked of operands

abbrev Fit : RowScope → Frame → Row → Type 0
Fit sc g row = AllFit sc row.takes (topmost (length row.takes) g.stack)

no_value : (sc : RowScope) (stack : List VType) → AllFit sc (nothing ∷ []) stack → ⊥
no_value sc [] fit = fit
no_value sc (type ∷ stack) fit = fit.0

no_operand : (sc : RowScope) (g : Frame) → Fit sc g (no_row g) → ⊥
no_operand sc g fit = no_value sc (topmost 1 g.stack) fit

fit_long : (sc : RowScope) (needs : List Need) (stack : List VType) → AllFit sc needs stack → length stack ≡ length needs
fit_long sc [] [] fit = refl
fit_long sc [] (type ∷ stack) fit = absurd fit
fit_long sc (need ∷ needs) [] fit = absurd fit
fit_long sc (need ∷ needs) (type ∷ stack) fit = ap suc (fit_long sc needs stack fit.1)

no_top_of_kind : (kind : Kind) (type : VType) → IsOfKind kind type → is_top type ≡ false
no_top_of_kind kinds.Int type is = ap is_top is
no_top_of_kind kinds.Long type is = ap is_top is
no_top_of_kind kinds.Float type is = ap is_top is
no_top_of_kind kinds.Double type is = ap is_top is
no_top_of_kind kinds.Ref types.Top is = absurd is
no_top_of_kind kinds.Ref other is = refl

-- the initialiser of java/lang/Object is called by invokespecial, and has neither parameters nor a result
pub record CallsObject (opcode : ℕ) (r : Reference) : Type 0 where
  pub special : opcode ≡ INVOKESPECIAL
  pub no_parameters : parameters_of r.desc ≡ []
  pub no_result : result_of r.desc ≡ None

-- ---- a store

not_both : (type : VType) → type ≡ types.Top → is_top type ≡ false → ⊥
not_both type is high = false≢true (sym high ∙ ap is_top is)

kept_cut : (at unit : ℕ) (locals : List VType) (low : VType) → slice_get (cut_before at locals) unit ≡ Some low → is_top low ≡ false
    → slice_get locals unit ≡ Some low
kept_cut zero unit locals low is high = is
kept_cut (suc at) unit locals low is high = by (slice_get locals at) refl where
  cut : slice_get (slice_set locals at types.Top) unit ≡ Some low → slice_get locals unit ≡ Some low
  cut there = elim (set_split locals at unit types.Top low there) [
    | inl here ↦ absurd (not_both low here.1 high)
    | inr other ↦ other.1
  ]

  wide : (b : Bool) → slice_get (if b then slice_set locals at types.Top else locals) unit ≡ Some low → slice_get locals unit ≡ Some low
  wide true there = cut there
  wide false there = there

  by : (found : Option VType) → slice_get locals at ≡ found → slice_get locals unit ≡ Some low
  by None none = rw none at is
  by (Some type) some = wide (is_wide type) (rw some at is)

kept_stored : (at unit : ℕ) (value : VType) (locals : List VType) (low : VType) → unit ≢ at → slice_get (stored at value locals) unit ≡ Some low
    → is_top low ≡ false
    → slice_get locals unit ≡ Some low
kept_stored at unit value locals low apart is high = by value is where
  narrow : (type : VType) → slice_get (slice_set (cut_before at locals) at type) unit ≡ Some low → slice_get locals unit ≡ Some low
  narrow type there = elim (set_split (cut_before at locals) at unit type low there) [
    | inl here ↦ absurd (apart here.0)
    | inr other ↦ kept_cut at unit locals low other.1 high
  ]

  wide : (type : VType) → slice_get (slice_set (slice_set (cut_before at locals) at type) (at + 1) types.Top) unit ≡ Some low
      → slice_get locals unit ≡ Some low
  wide type there = elim (set_split (slice_set (cut_before at locals) at type) (at + 1) unit types.Top low there) [
    | inl here ↦ absurd (not_both low here.1 high)
    | inr other ↦ narrow type other.1
  ]

  by : (type : VType) → slice_get (stored at type locals) unit ≡ Some low → slice_get locals unit ≡ Some low
  by types.Long there = wide types.Long there
  by types.Double there = wide types.Double there
  by types.Top there = narrow types.Top there
  by types.Int there = narrow types.Int there
  by types.Float there = narrow types.Float there
  by types.Null there = narrow types.Null there
  by types.UninitThis there = narrow types.UninitThis there
  by (types.Object name) there = narrow (types.Object name) there
  by (types.Uninit new) there = narrow (types.Uninit new) there

-- the second unit of what is wide
pub second_top : (at : ℕ) (value : VType) (locals : List VType) (low : VType) → is_wide value ≡ true
    → slice_get (stored at value locals) (at + 1) ≡ Some low
    → low ≡ types.Top
second_top at value locals low wide is = by value wide is where
  both : (type : VType) → slice_get (slice_set (slice_set (cut_before at locals) at type) (at + 1) types.Top) (at + 1) ≡ Some low → low ≡ types.Top
  both type there = elim (set_split (slice_set (cut_before at locals) at type) (at + 1) (at + 1) types.Top low there) [
    | inl here ↦ here.1
    | inr other ↦ absurd (other.0 refl)
  ]

  by : (type : VType) → is_wide type ≡ true → slice_get (stored at type locals) (at + 1) ≡ Some low → low ≡ types.Top
  by types.Long w there = both types.Long there
  by types.Double w there = both types.Double there
  by types.Top w there = absurd (false≢true w)
  by types.Int w there = absurd (false≢true w)
  by types.Float w there = absurd (false≢true w)
  by types.Null w there = absurd (false≢true w)
  by types.UninitThis w there = absurd (false≢true w)
  by (types.Object name) w there = absurd (false≢true w)
  by (types.Uninit new) w there = absurd (false≢true w)

-- ---- types that change

older_top : (at : ℕ) (type : VType) → is_top (without_older at type) ≡ false → is_top type ≡ false
older_top at types.Top high = high
older_top at other high = refl

initialised_top : (sc : RowScope) (r : Reference) (object type : VType) → is_top (initialised_type sc r object type) ≡ false → is_top type ≡ false
initialised_top sc r (types.Uninit at) types.Top high = high
initialised_top sc r types.UninitThis types.Top high = high
initialised_top sc r from types.Top high = high
initialised_top sc r from other high = refl

-- ---- rows

-- a usable place before the instruction
abbrev pub IsUsable : Frame → ℕ → Type 0
IsUsable f place = (before : VType) × (slice_get (place_types f) place ≡ Some before) × (is_top before ≡ false)

pub record FitsRow (f : Frame) (p : PlanRow) (locals stack : List VType) : Type 0 where
  pub entries : length stack ≡ length p.stack
  pub usable : (unit place : ℕ) (low : VType)
      → slice_get locals unit ≡ Some low
      → is_top low ≡ false
      → slice_get p.locals unit ≡ Some (from_place place)
      → IsUsable f place

module _ (flat : FlatCode) (f : Frame) where
  abbrev rf : Frame
  rf = read_frame flat f

  usable_local : (unit : ℕ) (low : VType) → slice_get rf.locals unit ≡ Some low → is_top low ≡ false → IsUsable f unit
  usable_local unit low is high =
      let was = unread flat f.locals unit low is high in
      (was.0, got_left f.locals f.stack unit (slice_get_within f.locals unit was.0 was.1) ∙ was.1, was.2)

  -- what is usable in these local units was so before
  abbrev Keeps : List VType → Type 0
  Keeps locals =
      (unit : ℕ) (low : VType)
      → slice_get locals unit ≡ Some low
      → is_top low ≡ false
      → (was : VType) × (slice_get rf.locals unit ≡ Some was) × (is_top was ≡ false)

  keeps_same : Keeps rf.locals
  keeps_same unit low is high = (low, is, high)

  keeps_map : (change : VType → VType) → ((type : VType) → is_top (change type) ≡ false → is_top type ≡ false) → Keeps (map change rf.locals)
  keeps_map change uncut unit low is high = by (slice_get rf.locals unit) refl where
    by : (found : Option VType) → slice_get rf.locals unit ≡ found
        → (was : VType) × (slice_get rf.locals unit ≡ Some was) × (is_top was ≡ false)
    by None none = absurd (none-some low (sym (slice_get-map change rf.locals unit ∙ ap (option_map change) none) ∙ is))
    by (Some type) some =
        let same = same_Some (change type) low (sym (slice_get-map change rf.locals unit ∙ ap (option_map change) some) ∙ is) in
        (type, some, uncut type (ap is_top same ∙ high))

  pub held_usable : (locals : List VType) → Keeps locals → (unit place : ℕ) (low : VType)
      → slice_get locals unit ≡ Some low
      → is_top low ≡ false
      → slice_get (held_locals f) unit ≡ Some (from_place place)
      → IsUsable f place
  held_usable locals keeps unit place low is high source =
      let was = keeps unit low is high in
      let from = held_source 0 (length f.locals) unit place source in
      let same : unit ≡ place = omega (arith, from) in
      subst (IsUsable f) same (usable_local unit was.0 was.1 was.2)

  pub handler_usable : (unit place : ℕ) (low : VType)
      → slice_get rf.locals unit ≡ Some low
      → is_top low ≡ false
      → slice_get (held_locals f) unit ≡ Some (from_place place)
      → IsUsable f place
  handler_usable = held_usable rf.locals keeps_same

  under_count : (count : ℕ) → length (under count rf.stack) ≡ length f.stack - count
  under_count count =
      length-take-le (length rf.stack - count) rf.stack (omega arith) ∙ ap (λ (n : ℕ). n - count) (length-map f.stack (read_type flat))

  -- so many entries are taken, and others given
  moved_by : (p : PlanRow) (count : ℕ) (sources : List Source) (locals lower gives : List VType)
      → p.locals ≡ held_locals f
      → p.stack ≡ held_from (length f.locals) (length f.stack - count) ++ sources
      → Keeps locals
      → length lower ≡ length (under count rf.stack)
      → length gives ≡ length sources
      → FitsRow f p locals (lower ++ gives)
  moved_by p count sources locals lower gives locals_are stack_is keeps as_many same = record {
    entries =
        let one = length-append lower gives in
        let other = length-append (held_from (length f.locals) (length f.stack - count)) sources in
        let low = under_count count in
        let held = held_count (length f.locals) (length f.stack - count) in
        let all = ap length stack_is in
        omega (arith, one, other, low, held, all, as_many, same);
    usable = λ unit place low is high source.
        held_usable locals keeps unit place low is high (sym (ap (λ (sources : List Source). slice_get sources unit) locals_are) ∙ source);
  }

  moved : (p : PlanRow) (count : ℕ) (sources : List Source) (gives : List VType)
      → p.locals ≡ held_locals f
      → p.stack ≡ held_from (length f.locals) (length f.stack - count) ++ sources
      → length gives ≡ length sources
      → FitsRow f p rf.locals (under count rf.stack ++ gives)
  moved p count sources gives locals_are stack_is same =
      moved_by p count sources rf.locals (under count rf.stack) gives locals_are stack_is keeps_same refl same

  gives_none : (p : PlanRow) (count : ℕ) → p.locals ≡ held_locals f → p.stack ≡ (moving f count []).stack
      → FitsRow f p rf.locals (under count rf.stack ++ [])
  gives_none p count locals_are is = moved p count [] [] locals_are is refl

  gives_plain : (p : PlanRow) (count : ℕ) (type : VType) → p.locals ≡ held_locals f → p.stack ≡ (moving f count (plain_value ∷ [])).stack
      → FitsRow f p rf.locals (under count rf.stack ++ type ∷ [])
  gives_plain p count type locals_are is = moved p count (plain_value ∷ []) (type ∷ []) locals_are is refl

  module _ (sc : RowScope) where
    abbrev pub Fits : PlanRow → Row → Type 0
    Fits p row = FitsRow f p row.locals (stack_behind rf row)

    const_fits : (constant : Option Constant) → Fit sc rf (const_row rf constant) → Fits (moving f 0 (plain_value ∷ [])) (const_row rf constant)
    const_fits None fit = absurd (no_operand sc rf fit)
    const_fits (Some (consts.Integer n)) fit = gives_plain _ 0 _ refl refl
    const_fits (Some (consts.Float bits)) fit = gives_plain _ 0 _ refl refl
    const_fits (Some (consts.Long n)) fit = gives_plain _ 0 _ refl refl
    const_fits (Some (consts.Double bits)) fit = gives_plain _ 0 _ refl refl
    const_fits (Some (consts.String text)) fit = gives_plain _ 0 _ refl refl
    const_fits (Some (consts.Class name)) fit = gives_plain _ 0 _ refl refl
    const_fits (Some (consts.MethodHandle kind reference)) fit = gives_plain _ 0 _ refl refl
    const_fits (Some (consts.MethodType descriptor)) fit = gives_plain _ 0 _ refl refl
    const_fits (Some other) fit = absurd (no_operand sc rf fit)

    -- ---- locals

    load_fits : (kind : Kind) (at : ℕ) → HoldsKind kind rf.locals at → Fits (moving f 0 (from_place at ∷ [])) (load_row rf kind at)
    load_fits kind at holds =
        let entry : local_entry rf.locals at ≡ holds.0 ∷ [] = rw (holds.1) refl in
        subst (λ (gives : List VType). FitsRow f (moving f 0 (from_place at ∷ [])) rf.locals (under 0 rf.stack ++ gives)) (sym entry)
        (moved _ 0 (from_place at ∷ []) (holds.0 ∷ []) refl refl refl)

    -- the value that is stored
    value_stored_at : (kind : Kind) (value : VType) (rest : List VType) → topmost 1 rf.stack ≡ value ∷ rest → is_top value ≡ false → IsUsable f (operand f 0)
    value_stored_at kind value rest are high =
        let there : slice_get rf.stack ((length rf.stack - 1) + 0) ≡ Some value =
        sym (got_dropped (length rf.stack - 1) rf.stack 0) ∙ ap (λ (l : List VType). slice_get l 0) are in
        let was = unread flat f.stack ((length rf.stack - 1) + 0) value there high in
        let low = slice_get_within f.stack ((length rf.stack - 1) + 0) was.0 was.1 in
        let long = length-map f.stack (read_type flat) in
        let same : length f.locals + ((length rf.stack - 1) + 0) ≡ operand f 0 = omega (arith, low, long) in
        (was.0, sym (ap (slice_get (f.locals ++ f.stack)) same) ∙ got_right f.locals f.stack ((length rf.stack - 1) + 0) ∙ was.1, was.2)

    store_of : (kind : Kind) (at : ℕ) (entries : List VType) → topmost 1 rf.stack ≡ entries
        → AllFit sc (of_kind kind ∷ []) entries
        → Fits (plan_store f at) (store_row rf kind at)
    store_of kind at [] are fit = absurd fit
    store_of kind at (value ∷ rest) are fit = record {
      entries =
          let one = length-append (under 1 rf.stack) [] in
          let other = length-append (held_from (length f.locals) (length f.stack - 1)) [] in
          let low = under_count 1 in
          let held = held_count (length f.locals) (length f.stack - 1) in
          omega (arith, one, other, low, held);
      usable = usable;
    } where
      usable : (unit place : ℕ) (low : VType)
          → slice_get (stored at (lowest_of 1 rf.stack) rf.locals) unit ≡ Some low
          → is_top low ≡ false
          → slice_get (slice_set (held_locals f) at (from_place (operand f 0))) unit ≡ Some (from_place place)
          → IsUsable f place
      usable unit place low is high source = elim (set_split (held_locals f) at unit (from_place (operand f 0)) (from_place place) source) [
        | inl here ↦
            subst (IsUsable f) (same_place (operand f 0) place (sym here.1)) (value_stored_at kind value rest are (no_top_of_kind kind value fit.0))
        | inr other ↦
            handler_usable unit place low (kept_stored at unit (lowest_of 1 rf.stack) rf.locals low other.0 is high) high other.1
      ]

    store_fits : (kind : Kind) (at : ℕ) → Fit sc rf (store_row rf kind at) → Fits (plan_store f at) (store_row rf kind at)
    store_fits kind at fit = store_of kind at (topmost 1 rf.stack) refl fit

    -- ---- arrays

    array_load_fits : (references : Bool) (found : Option Elements)
        → Fit sc rf (either references (plain rf (array_of_references ∷ of_kind kinds.Int ∷ []) (component_type (lowest_of 2 rf.stack) ∷ []))
        (elements_load_row rf found))
        → Fits (throwing f 2 (plain_value ∷ []))
        (either references (plain rf (array_of_references ∷ of_kind kinds.Int ∷ []) (component_type (lowest_of 2 rf.stack) ∷ []))
        (elements_load_row rf found))
    array_load_fits true found fit = gives_plain _ 2 _ refl refl
    array_load_fits false None fit = absurd (no_operand sc rf fit)
    array_load_fits false (Some e) fit = gives_plain _ 2 _ refl refl

    array_store_fits : (p : PlanRow) → p.locals ≡ held_locals f → p.stack ≡ (moving f 3 []).stack
        → (references : Bool) (found : Option Elements)
        → Fit sc rf (either references (plain rf (array_of_references ∷ of_kind kinds.Int ∷ initialised ∷ []) []) (elements_store_row rf found))
        → Fits p (either references (plain rf (array_of_references ∷ of_kind kinds.Int ∷ initialised ∷ []) []) (elements_store_row rf found))
    array_store_fits p locals_are is true found fit = gives_none p 3 locals_are is
    array_store_fits p locals_are is false None fit = absurd (no_operand sc rf fit)
    array_store_fits p locals_are is false (Some e) fit = gives_none p 3 locals_are is

    made_fits : (counts : ℕ) (name : Option Name) → Fit sc rf (made_row rf counts name)
        → Fits (throwing f counts (plain_value ∷ [])) (made_row rf counts name)
    made_fits counts None fit = absurd (no_operand sc rf fit)
    made_fits counts (Some name) fit =
        subst (λ (n : ℕ). FitsRow f (throwing f counts (plain_value ∷ [])) rf.locals (under n rf.stack ++ types.Object name ∷ []))
        (sym (length-replicate counts (of_kind kinds.Int))) (gives_plain _ counts _ refl refl)

    -- ---- numbers, the stack and jumps

    operation_fits : (p : ℕ → PlanRow) → ((count : ℕ) → (p count).locals ≡ held_locals f)
        → ((count : ℕ) → (p count).stack ≡ (moving f count (plain_value ∷ [])).stack)
        → (found : Option Operation)
        → Fit sc rf (operation_row rf found)
        → Fits (p (operands_of found)) (operation_row rf found)
    operation_fits p locals_are is None fit = absurd (no_operand sc rf fit)
    operation_fits p locals_are is (Some o) fit =
        subst (λ (n : ℕ). FitsRow f (p (length o.takes)) rf.locals (under n rf.stack ++ type_of_kind o.gives ∷ []))
        (sym (length-map o.takes of_kind))
        (gives_plain (p (length o.takes)) (length o.takes) _ (locals_are (length o.takes)) (is (length o.takes)))

    jump_fits : (p : PlanRow) (takes : List Need) → p.locals ≡ held_locals f → p.stack ≡ (moving f (length takes) []).stack
        → (known : Bool)
        → Fit sc rf (jump_row rf known takes)
        → Fits p (jump_row rf known takes)
    jump_fits p takes locals_are is true fit = gives_none p (length takes) locals_are is
    jump_fits p takes locals_are is false fit = absurd (no_operand sc rf fit)

    same_fits : (opcode : ℕ) (takes : List Need) → length takes ≡ 2 → (known : Bool)
        → Fit sc rf (jump_row rf known takes)
        → Fits (same_row f opcode) (jump_row rf known takes)
    same_fits opcode takes long known fit = by (opcode == IF_ACMPEQ) refl where
      is : (moving f 2 []).stack ≡ (moving f (length takes) []).stack
      is = ap (λ (n : ℕ). (moving f n []).stack) (sym long)

      by : (b : Bool) → (opcode == IF_ACMPEQ) ≡ b → Fits (same_row f opcode) (jump_row rf known takes)
      by true test = rw test (jump_fits _ takes refl is known fit)
      by false test = rw test (jump_fits _ takes refl is known fit)

    null_fits : (opcode : ℕ) (takes : List Need) → length takes ≡ 1 → (known : Bool)
        → Fit sc rf (jump_row rf known takes)
        → Fits (null_row f opcode) (jump_row rf known takes)
    null_fits opcode takes long known fit = by (opcode == IFNULL) refl where
      is : (moving f 1 []).stack ≡ (moving f (length takes) []).stack
      is = ap (λ (n : ℕ). (moving f n []).stack) (sym long)

      by : (b : Bool) → (opcode == IFNULL) ≡ b → Fits (null_row f opcode) (jump_row rf known takes)
      by true test = rw test (jump_fits _ takes refl is known fit)
      by false test = rw test (jump_fits _ takes refl is known fit)

    picks_long : (count : ℕ) (gives : List ℕ) → AllByRecursion (λ number. number < count) gives → length (topmost count rf.stack) ≡ count
        → length (picked (topmost count rf.stack) gives) ≡ length (picked_operands f count gives)
    picks_long count [] all long = refl
    picks_long count (number ∷ gives) all long =
        let there = item_at (topmost count rf.stack) number (omega (arith, long, all.0)) in
        rw (there.1) (ap suc (picks_long count gives all.1 long))

    form_fits : (found : Option Form) → ((form : Form) → found ≡ Some form → GivesOperands form) → Fit sc rf (form_row rf found)
        → Fits (shuffle_row f found) (form_row rf found)
    form_fits None give fit = absurd (no_operand sc rf fit)
    form_fits (Some form) give fit =
        let many = length-map form.takes need_of in
        let long : length (topmost (length form.takes) rf.stack) ≡ length form.takes =
        subst (λ (n : ℕ). length (topmost n rf.stack) ≡ n) many (fit_long sc (map need_of form.takes) _ fit) in
        subst (λ (n : ℕ). FitsRow f (shuffle_row f (Some form)) rf.locals
        (under n rf.stack ++ picked (topmost (length form.takes) rf.stack) form.gives)) (sym many)
        (moved (shuffle_row f (Some form)) (length form.takes) (picked_operands f (length form.takes) form.gives) _ refl refl
        (picks_long (length form.takes) form.gives (give form refl) long))

    shuffle_fits : (opcode : ℕ) → Fit sc rf (form_row rf (form_in (forms_of opcode) rf.stack))
        → Fits (shuffle_row f (form_in (forms_of opcode) f.stack)) (form_row rf (form_in (forms_of opcode) rf.stack))
    shuffle_fits opcode fit =
        let same = read_form flat (forms_of opcode) f.stack in
        subst (λ (found : Option Form). Fits (shuffle_row f found) (form_row rf (form_in (forms_of opcode) rf.stack))) same
        (form_fits (form_in (forms_of opcode) rf.stack)
        (λ form is. form_gives (forms_of opcode) rf.stack form (forms_give opcode) is) fit)

    return_fits : (kind : Option Kind) → Fits (plan_return f kind) (return_row sc rf kind)
    return_fits None = gives_none _ 0 refl refl
    return_fits (Some kind) = gives_none _ 1 refl refl

    -- ---- fields and objects

    get_static_fits : (r : Option Reference) → Fit sc rf (get_static_row rf r) → Fits (moving f 0 (plain_value ∷ [])) (get_static_row rf r)
    get_static_fits None fit = absurd (no_operand sc rf fit)
    get_static_fits (Some r) fit = gives_plain _ 0 _ refl refl

    put_static_fits : (r : Option Reference) → Fit sc rf (put_static_row rf r)
        → Fits (record (throwing f 1 []) { asks = value_stored f }) (put_static_row rf r)
    put_static_fits None fit = absurd (no_operand sc rf fit)
    put_static_fits (Some r) fit = gives_none _ 1 refl refl

    get_field_fits : (s : PlanScope) (found r : Option Reference) → Fit sc rf (get_field_row sc rf r) → Fits (plan_get s f found) (get_field_row sc rf r)
    get_field_fits s found None fit = absurd (no_operand sc rf fit)
    get_field_fits s None (Some r) fit = gives_plain _ 1 _ refl refl
    get_field_fits s (Some field) (Some r) fit = moved _ 1 (from_field (operand f 0) field ∷ []) (_ ∷ []) refl refl refl

    put_field_fits : (s : PlanScope) (found r : Option Reference) → Fit sc rf (put_field_row sc rf r) → Fits (plan_put s f found) (put_field_row sc rf r)
    put_field_fits s found None fit = absurd (no_operand sc rf fit)
    put_field_fits s None (Some r) fit = gives_none _ 2 refl refl
    put_field_fits s (Some field) (Some r) fit = gives_none _ 2 refl refl

    new_fits : (site : Option ℕ) (class : Option Name) (at : ℕ) → Fits (plan_new f site) (row_by (reading_of_new class) rf (new_row rf at))
    new_fits None None at =
        moved_by _ 0 (plain_value ∷ []) (map (without_older at) rf.locals) (under 0 rf.stack) (types.Uninit at ∷ []) refl refl
        (keeps_map (without_older at) (older_top at)) refl refl
    new_fits (Some number) None at =
        moved_by _ 0 (from_new ∷ []) (map (without_older at) rf.locals) (under 0 rf.stack) (types.Uninit at ∷ []) refl refl
        (keeps_map (without_older at) (older_top at)) refl refl
    new_fits None (Some name) at = gives_plain _ 0 _ refl refl
    new_fits (Some number) (Some name) at = moved _ 0 (from_new ∷ []) (types.Object name ∷ []) refl refl refl

    cast_fits : (known name : Option Name) → Fit sc rf (cast_row rf name) → Fits (plan_cast f known) (cast_row rf name)
    cast_fits known None fit = absurd (no_operand sc rf fit)
    cast_fits None (Some name) fit = gives_plain _ 1 _ refl refl
    cast_fits (Some one) (Some name) fit = moved _ 1 (from_place (operand f 0) ∷ []) (types.Object name ∷ []) refl refl refl

    -- ---- calls

    result_long : (found : Option FieldType) → length (result_types found) ≡ length (result_given found)
    result_long None = refl
    result_long (Some type) = refl

    needs_long : (desc : List ℕ) → length (argument_needs desc) ≡ length (parameters_of desc)
    needs_long desc = length-map (parameters_of desc) (λ param. assignable_to (verification_type param))

    called : (count : ℕ) (desc : List ℕ) → FitsRow f (calling f count desc) rf.locals (under count rf.stack ++ result_types (result_of desc))
    called count desc =
        moved (calling f count desc) count (result_given (result_of desc)) (result_types (result_of desc)) refl refl (result_long (result_of desc))

    static_fits : (r : Reference) (count : ℕ) → count ≡ length (parameters_of r.desc) → Fits (calling f count r.desc) (static_row rf r)
    static_fits r count is =
        subst (λ (n : ℕ). FitsRow f (calling f count r.desc) rf.locals (under n rf.stack ++ result_types (result_of r.desc)))
        (is ∙ sym (needs_long r.desc)) (called count r.desc)

    instance_fits : (r : Reference) (count : ℕ) → count ≡ suc (length (parameters_of r.desc))
        → FitsRow f (calling f count r.desc) rf.locals (under (suc (length (argument_needs r.desc))) rf.stack ++ result_types (result_of r.desc))
    instance_fits r count is =
        subst (λ (n : ℕ). FitsRow f (calling f count r.desc) rf.locals (under n rf.stack ++ result_types (result_of r.desc)))
        (is ∙ ap suc (sym (needs_long r.desc))) (called count r.desc)

    init_by : (r : Reference) (p : PlanRow) (count : ℕ) (sources : List Source) (gives : List VType)
        → p.locals ≡ held_locals f
        → p.stack ≡ held_from (length f.locals) (length f.stack - count) ++ sources
        → length gives ≡ length sources
        → FitsRow f p (map (initialised_type sc r (receiver rf r.desc)) rf.locals)
        (map (initialised_type sc r (receiver rf r.desc)) (under count rf.stack) ++ gives)
    init_by r p count sources gives locals_are is same =
        moved_by p count sources (map (initialised_type sc r (receiver rf r.desc)) rf.locals)
        (map (initialised_type sc r (receiver rf r.desc)) (under count rf.stack)) gives locals_are is
        (keeps_map (initialised_type sc r (receiver rf r.desc)) (initialised_top sc r (receiver rf r.desc)))
        (length-map (under count rf.stack) (initialised_type sc r (receiver rf r.desc))) same

    init_fits : (r : Reference) (count : ℕ) → count ≡ suc (length (parameters_of r.desc)) → Fits (calling f count r.desc) (init_row sc rf r)
    init_fits r count is =
        subst (λ (n : ℕ). FitsRow f (calling f count r.desc) (map (initialised_type sc r (receiver rf r.desc)) rf.locals)
        (map (initialised_type sc r (receiver rf r.desc)) (under n rf.stack) ++ result_types (result_of r.desc)))
        (is ∙ ap suc (sym (needs_long r.desc)))
        (init_by r (calling f count r.desc) count (result_given (result_of r.desc)) (result_types (result_of r.desc)) refl refl
        (result_long (result_of r.desc)))

    no_needs : (r : Reference) → parameters_of r.desc ≡ [] → length (argument_needs r.desc) ≡ 0
    no_needs r none = needs_long r.desc ∙ ap length none

    object_fits : (opcode : ℕ) (r : Reference) → CallsObject opcode r → bytes_eq r.name init ≡ true → (pops : Bool)
        → Fits (moving f 1 []) (row_by (if pops then reads_pop r.desc else reads_itself) rf (call_row sc rf opcode (Some r)))
    object_fits opcode r is named true =
        subst (λ (n : ℕ). FitsRow f (moving f 1 []) rf.locals (under (suc n) rf.stack ++ [])) (sym (no_needs r is.no_parameters))
        (gives_none (moving f 1 []) 1 refl refl)
    object_fits opcode r is named false =
        let no_static : (opcode == INVOKESTATIC) ≡ false = ap (λ (n : ℕ). n == INVOKESTATIC) is.special in
        let special : (opcode == INVOKESPECIAL) ≡ true = ap (λ (n : ℕ). n == INVOKESPECIAL) is.special in
        rw (no_static, special, named) (
        subst (λ (gives : List VType). FitsRow f (moving f 1 []) (map (initialised_type sc r (receiver rf r.desc)) rf.locals)
        (map (initialised_type sc r (receiver rf r.desc)) (under (suc (length (argument_needs r.desc))) rf.stack) ++ gives))
        (sym (ap result_types is.no_result))
        (subst (λ (n : ℕ). FitsRow f (moving f 1 []) (map (initialised_type sc r (receiver rf r.desc)) rf.locals)
        (map (initialised_type sc r (receiver rf r.desc)) (under (suc n) rf.stack) ++ []))
        (sym (no_needs r is.no_parameters))
        (init_by r (moving f 1 []) 1 [] [] refl refl refl)))

    other_fits : (opcode : ℕ) (r : Reference)
        → Fits (calling f (length (parameters_of r.desc) + receivers opcode) r.desc) (call_row sc rf opcode (Some r))
    other_fits opcode r = by (opcode == INVOKESTATIC) (opcode == INVOKESPECIAL) (bytes_eq r.name init) refl refl refl where
      by : (static special initialises : Bool) → (opcode == INVOKESTATIC) ≡ static → (opcode == INVOKESPECIAL) ≡ special
          → bytes_eq r.name init ≡ initialises
          → Fits (calling f (length (parameters_of r.desc) + receivers opcode) r.desc) (call_row sc rf opcode (Some r))
      by true special initialises one two three = rw one (static_fits r (length (parameters_of r.desc) + 0) (omega arith))
      by false true true one two three = rw (one, two, three) (init_fits r (length (parameters_of r.desc) + 1) (omega arith))
      by false true false one two three = rw (one, two, three) (instance_fits r (length (parameters_of r.desc) + 1) (omega arith))
      by false false initialises one two three = rw (one, two) (instance_fits r (length (parameters_of r.desc) + 1) (omega arith))

    never : (a b c : Bool) → b ≡ false → (a && b && c) ≡ false
    never true b c is = rw is refl
    never false b c is = refl

    call_fits : (opcode : ℕ) (found : Option Reference)
        → ((r : Reference) → found ≡ Some r → is_object_init r ≡ true → CallsObject opcode r)
        → Fit sc rf (row_by (reading_of_call flat f opcode found) rf (call_row sc rf opcode found))
        → Fits (plan_call f opcode found) (row_by (reading_of_call flat f opcode found) rf (call_row sc rf opcode found))
    call_fits opcode None init_is fit = absurd (no_operand sc rf fit)
    call_fits opcode (Some r) init_is fit = by (is_object_init r) refl where
      by : (b : Bool) → is_object_init r ≡ b
          → Fits (plan_call f opcode (Some r)) (row_by (reading_of_call flat f opcode (Some r)) rf (call_row sc rf opcode (Some r)))
      by true is =
          let named = and_parts (bytes_eq r.class object) (bytes_eq r.name init) is in
          subst (λ (p : PlanRow). Fits p (row_by (reading_of_call flat f opcode (Some r)) rf (call_row sc rf opcode (Some r))))
          (sym (ap (λ (b : Bool). if b then moving f 1 [] else calling f (length (parameters_of r.desc) + receivers opcode) r.desc) is))
          (object_fits opcode r (init_is r refl is) named.1
          (opcode == INVOKESPECIAL && is_object_init r && is_site_object flat (receiver f r.desc)))
      by false is =
          subst (λ (p : PlanRow). Fits p (row_by (reading_of_call flat f opcode (Some r)) rf (call_row sc rf opcode (Some r))))
          (sym (ap (λ (b : Bool). if b then moving f 1 [] else calling f (length (parameters_of r.desc) + receivers opcode) r.desc) is))
          (subst (λ (b : Bool). Fits (calling f (length (parameters_of r.desc) + receivers opcode) r.desc)
          (row_by (if b then reads_pop r.desc else reads_itself) rf (call_row sc rf opcode (Some r))))
          (sym (never (opcode == INVOKESPECIAL) (is_object_init r) (is_site_object flat (receiver f r.desc)) is)) (other_fits opcode r))

    dynamic_fits : (constant : Option Constant) → Fit sc rf (dynamic_row sc rf constant)
        → Fits (plan_dynamic sc.pool f constant) (dynamic_row sc rf constant)
    dynamic_fits None fit = absurd (no_operand sc rf fit)
    dynamic_fits (Some (consts.InvokeDynamic bootstrap member)) fit = by (descriptor_at sc.pool member) refl where
      by : (desc : Option (List ℕ)) → descriptor_at sc.pool member ≡ desc
          → Fits (plan_dynamic sc.pool f (Some (consts.InvokeDynamic bootstrap member))) (dynamic_row sc rf (Some (consts.InvokeDynamic bootstrap member)))
      by None none = absurd (no_operand sc rf (rw none at fit))
      by (Some desc) some =
          rw some
          (subst (λ (n : ℕ). FitsRow f (calling f (length (parameters_of desc)) desc) rf.locals
          (under n rf.stack ++ result_types (result_of desc)))
          (sym (needs_long desc)) (called (length (parameters_of desc)) desc))
    dynamic_fits (Some other) fit = absurd (no_operand sc rf fit)

-- ---- the table

-- a plan and the typing of code read the same constants
pub same_pool : (s : PlanScope) (class : ℕ) → pool_of s class ≡ flat_pool s.classes class
same_pool s class = by (slice_get s.classes.folder class) refl where
  by : (found : Option ClassFile) → slice_get s.classes.folder class ≡ found → pool_of s class ≡ flat_pool s.classes class
  by None none = rw none refl
  by (Some file) some = rw some refl

-- the initialiser of java/lang/Object is called as it may be
abbrev pub CallsInit : PlanScope → FlatInstr → Type 0
CallsInit s instr =
    (class opcode index count : ℕ) (r : Reference)
    → instr ≡ Of class (Invoke opcode index count)
    → reference_of (flat_pool s.classes class) (constant_at (flat_pool s.classes class) index) ≡ Some r
    → is_object_init r ≡ true
    → CallsObject opcode r

module _ (s : PlanScope) (f : Frame) (scope : Scope) (number : ℕ) where
  abbrev pub own_row : FlatInstr → Row
  own_row i =
      row_by (reading_of s.classes s.flat number f i) (read_frame s.flat f)
      (item_row (instr_scope s.classes scope s.flat i) (read_frame s.flat f) number (flat_item i))

  abbrev sc : ℕ → RowScope
  sc class = record (host_scope s.classes scope s.flat) { pool = flat_pool s.classes class }

  pub row_fits : (i : FlatInstr) → CallsInit s i → RowHolds (instr_scope s.classes scope s.flat i) (read_frame s.flat f) (own_row i)
      → FitsRow f (row_at s number f i) (own_row i).locals (stack_behind (read_frame s.flat f) (own_row i))
  row_fits (NullTest local) inits held = gives_none s.flat f _ 0 refl refl
  row_fits (Of class Nop) inits held = gives_none s.flat f _ 0 refl refl
  row_fits (Of class (Const imm)) inits held = gives_plain s.flat f _ 0 _ refl refl
  row_fits (Of class (Ldc index)) inits held = const_fits s.flat f (sc class) (constant_at (flat_pool s.classes class) index) held.operands
  row_fits (Of class (Ldc2 index)) inits held = const_fits s.flat f (sc class) (constant_at (flat_pool s.classes class) index) held.operands
  row_fits (Of class (Load kind local)) inits held = load_fits s.flat f (sc class) kind local held.local
  row_fits (Of class (Store kind local)) inits held = store_fits s.flat f (sc class) kind local held.operands
  row_fits (Of class (Iinc local by)) inits held = gives_none s.flat f _ 0 refl refl
  row_fits (Of class (ArrayLoad opcode)) inits held =
      array_load_fits s.flat f (sc class) (opcode == AALOAD) (elements_from IALOAD opcode) held.operands
  row_fits (Of class (ArrayStore opcode)) inits held =
      array_store_fits s.flat f (sc class) (record (throwing f 3 []) { asks = value_stored f }) refl refl (opcode == AASTORE)
      (elements_from IASTORE opcode) held.operands
  row_fits (Of class (Shuffle opcode)) inits held = shuffle_fits s.flat f (sc class) opcode held.operands
  row_fits (Of class (Pure opcode)) inits held =
      operation_fits s.flat f (sc class) (λ count. moving f count (plain_value ∷ [])) (λ count. refl) (λ count. refl)
      (operation_in pure_operations opcode) held.operands
  row_fits (Of class (Divide opcode)) inits held =
      operation_fits s.flat f (sc class) (λ count. throwing f count (plain_value ∷ [])) (λ count. refl) (λ count. refl)
      (operation_in divide_operations opcode) held.operands
  row_fits (Of class (FloatAsk opcode)) inits held =
      operation_fits s.flat f (sc class) (λ count. moving f count (plain_value ∷ [])) (λ count. refl) (λ count. refl)
      (operation_in float_operations opcode) held.operands
  row_fits (Of class (If opcode target)) inits held =
      jump_fits s.flat f (sc class) (moving f 1 []) (of_kind kinds.Int ∷ []) refl refl (nat_le IFEQ opcode && nat_le opcode IFLE) held.operands
  row_fits (Of class (If2 opcode target)) inits held =
      jump_fits s.flat f (sc class) (moving f 2 []) (of_kind kinds.Int ∷ of_kind kinds.Int ∷ []) refl refl
      (nat_le IF_ICMPEQ opcode && nat_le opcode IF_ICMPLE) held.operands
  row_fits (Of class (IfSame opcode target)) inits held =
      same_fits s.flat f (sc class) opcode (of_kind kinds.Ref ∷ of_kind kinds.Ref ∷ []) refl
      (nat_le IF_ACMPEQ opcode && nat_le opcode IF_ACMPNE) held.operands
  row_fits (Of class (IfNull opcode target)) inits held =
      null_fits s.flat f (sc class) opcode (of_kind kinds.Ref ∷ []) refl (nat_le IFNULL opcode && nat_le opcode IFNONNULL) held.operands
  row_fits (Of class (Goto target)) inits held = gives_none s.flat f _ 0 refl refl
  row_fits (Of class (Table low other targets)) inits held = gives_none s.flat f _ 1 refl refl
  row_fits (Of class (Lookup other pairs)) inits held = gives_none s.flat f _ 1 refl refl
  row_fits (Of class (Return kind)) inits held = return_fits s.flat f (sc class) kind
  row_fits (Of class (GetStatic index)) inits held =
      get_static_fits s.flat f (sc class) (reference_of (flat_pool s.classes class) (constant_at (flat_pool s.classes class) index)) held.operands
  row_fits (Of class (PutStatic index)) inits held =
      put_static_fits s.flat f (sc class) (reference_of (flat_pool s.classes class) (constant_at (flat_pool s.classes class) index)) held.operands
  row_fits (Of class (GetField index)) inits held =
      get_field_fits s.flat f (sc class) s (field_of s class index)
      (reference_of (flat_pool s.classes class) (constant_at (flat_pool s.classes class) index)) held.operands
  row_fits (Of class (PutField index)) inits held =
      put_field_fits s.flat f (sc class) s (field_of s class index)
      (reference_of (flat_pool s.classes class) (constant_at (flat_pool s.classes class) index)) held.operands
  row_fits (Of class (Invoke opcode index count)) inits held =
      subst (λ (pool : Constants). Fits s.flat f (sc class) (plan_call f opcode (reference_of pool (constant_at pool index)))
      (own_row (Of class (Invoke opcode index count)))) (sym (same_pool s class))
      (call_fits s.flat f (sc class) opcode (reference_of (flat_pool s.classes class) (constant_at (flat_pool s.classes class) index))
      (λ r found init. inits class opcode index count r refl found init) held.operands)
  row_fits (Of class (Dynamic index)) inits held =
      subst (λ (pool : Constants). Fits s.flat f (sc class) (plan_dynamic pool f (constant_at pool index)) (own_row (Of class (Dynamic index))))
      (sym (same_pool s class))
      (dynamic_fits s.flat f (sc class) (constant_at (flat_pool s.classes class) index) held.operands)
  row_fits (Of class (New index)) inits held =
      new_fits s.flat f (sc class) (site_at s.flat number) (class_of_site s.flat.sites number) number
  row_fits (Of class (NewArray code)) inits held = made_fits s.flat f (sc class) 1 (primitive_array code) held.operands
  row_fits (Of class (NewRefArray index)) inits held =
      made_fits s.flat f (sc class) 1 (array_of (class_at (flat_pool s.classes class) index)) held.operands
  row_fits (Of class (NewMulti index dimensions)) inits held =
      made_fits s.flat f (sc class) dimensions (class_at (flat_pool s.classes class) index) held.operands
  row_fits (Of class Length) inits held = gives_plain s.flat f _ 1 _ refl refl
  row_fits (Of class Throw) inits held = gives_none s.flat f _ 1 refl refl
  row_fits (Of class (Cast index)) inits held =
      cast_fits s.flat f (sc class) (class_at (pool_of s class) index) (class_at (flat_pool s.classes class) index) held.operands
  row_fits (Of class (InstanceOf index)) inits held = gives_plain s.flat f _ 1 _ refl refl
  row_fits (Of class Enter) inits held = gives_none s.flat f (monitor_row f (enter_monitor (operand f 0))) 1 refl refl
  row_fits (Of class Leave) inits held = gives_none s.flat f (monitor_row f (leave_monitor (operand f 0))) 1 refl refl
