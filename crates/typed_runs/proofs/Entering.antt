use Rattle.std.specs.Prelude.{◌≡◌, ◌≢◌, ◌-◌, refl, ℕ, true, false, List, [], ◌∷◌, ◌++◌, length, map, replicate, bytes_eq, Option, Some, None, IfSome, option_and_then}
use Rattle.std.specs.List.{AllByRecursion}
use Rattle.std.proofs.Common.{ap, sym, ◌∙◌, subst}
use Rattle.class_model.specs.Code.{entry_frame, verification_type}
use Rattle.class_model.specs.Frames.{filled, units_of_entries}
use Rattle.class_model.specs.Members.{has, STATIC}
use Rattle.class_model.specs.Names.{init}
use Rattle.class_model.specs.declared.class_file.MethodAt.{MethodAt}
use Rattle.class_model.specs.declared.descriptor.FieldType.{FieldType}
use Rattle.class_model.specs.declared.descriptor.FieldType.TheVariants as field_types
use Rattle.class_model.specs.declared.frame.VType.{VType}
use Rattle.class_model.specs.declared.frame.VType.TheVariants as types
use Rattle.class_tree.specs.Headers.{Name}
use Rattle.machine_values.specs.Frames.{MethodState}
use Rattle.machine_values.specs.Heaps.{Heap}
use Rattle.machine_values.specs.Values.{units_of_values}
use Rattle.machine_values.specs.declared.value.Value.{Value}
use Rattle.machine_values.specs.declared.value.Value.TheVariants as values
use Rattle.member_link.specs.Machine.Beginnings.{frame_with}
use Rattle.member_link.specs.Machine.Programs.{Program, Code, RunMethod, run_method, code_run, code_at}
use Rattle.member_link.specs.Machine.Worlds.{Memory}
use Rattle.member_link.specs.RowScope.{RowScope}
use Rattle.typed_runs.proofs.BeginningSteps.{blank_units, blank_paired}
use Rattle.typed_runs.proofs.Points.{does_first}
use Rattle.typed_runs.proofs.Units.{as_many_units}
use Rattle.typed_runs.specs.Conforming.{IsInHeap, to_top, an_int, a_long, a_float, a_double, only_null, null_object, an_object, of_new, of_this, AllConform, no_values, and_value, UnitsConform, no_units, and_unit, no_value, has_value}
use Rattle.typed_runs.specs.TypedFrames.{ArePaired, Does}
use Rattle.typed_runs.specs.TypedPrograms.{Typings, IsTypedProgram, IsTypedMethod, entry}

-- ---- types of arguments

abbrev pub NoTop : List VType → Type 0
NoTop ts = AllByRecursion (λ t. t ≢ types.Top) ts

pub field_is_no_top : (t : FieldType) → verification_type t ≢ types.Top
field_is_no_top field_types.Byte = λ e. cc
field_is_no_top field_types.Char = λ e. cc
field_is_no_top field_types.Short = λ e. cc
field_is_no_top field_types.Bool = λ e. cc
field_is_no_top field_types.Int = λ e. cc
field_is_no_top field_types.Long = λ e. cc
field_is_no_top field_types.Float = λ e. cc
field_is_no_top field_types.Double = λ e. cc
field_is_no_top (field_types.Named name) = λ e. cc

pub fields_are_no_top : (ts : List FieldType) → NoTop (map verification_type ts)
fields_are_no_top [] = tt
fields_are_no_top (t ∷ ts) = (field_is_no_top t, fields_are_no_top ts)

-- ---- local units

pub units_append : {P : Program} {s : RowScope} {h : Heap} {ts us : List VType} {vs ws : List (Option Value)} → UnitsConform P s h ts vs
    → UnitsConform P s h us ws → UnitsConform P s h (ts ++ us) (vs ++ ws)
units_append no_units more = more
units_append (and_unit one others) more = and_unit one (units_append others more)

-- values in local units
pub value_units : {P : Program} {s : RowScope} {h : Heap} {ts : List VType} {vs : List Value} → NoTop ts → AllConform P s h ts vs
    → UnitsConform P s h (units_of_entries ts) (units_of_values vs)
value_units apart no_values = no_units
value_units apart (and_value (to_top is) others) = absurd (apart.0 refl)
value_units apart (and_value an_int others) = and_unit (has_value an_int) (value_units apart.1 others)
value_units apart (and_value a_long others) = and_unit (has_value a_long) (and_unit no_value (value_units apart.1 others))
value_units apart (and_value a_float others) = and_unit (has_value a_float) (value_units apart.1 others)
value_units apart (and_value a_double others) = and_unit (has_value a_double) (and_unit no_value (value_units apart.1 others))
value_units apart (and_value only_null others) = and_unit (has_value only_null) (value_units apart.1 others)
value_units apart (and_value null_object others) = and_unit (has_value null_object) (value_units apart.1 others)
value_units apart (and_value (an_object shape is) others) = and_unit (has_value (an_object shape is)) (value_units apart.1 others)
value_units apart (and_value (of_new new shape class) others) = and_unit (has_value (of_new new shape class)) (value_units apart.1 others)
value_units apart (and_value (of_this shape below) others) = and_unit (has_value (of_this shape below)) (value_units apart.1 others)

pub values_paired : (vs : List Value) (rest : List (Option Value)) → ArePaired rest → ArePaired (units_of_values vs ++ rest)
values_paired [] rest is = is
values_paired (values.Int n ∷ vs) rest is = (λ wide. cc, values_paired vs rest is)
values_paired (values.Long n ∷ vs) rest is = (λ wide. tt, values_paired vs rest is)
values_paired (values.Float n ∷ vs) rest is = (λ wide. cc, values_paired vs rest is)
values_paired (values.Double n ∷ vs) rest is = (λ wide. tt, values_paired vs rest is)
values_paired (values.Null ∷ vs) rest is = (λ wide. cc, values_paired vs rest is)
values_paired (values.Ref r ∷ vs) rest is = (λ wide. cc, values_paired vs rest is)

-- values in the first units, and nothing in the others
abbrev pub begun_units : ℕ → List Value → List (Option Value)
begun_units max vs = units_of_values vs ++ replicate (max - length (units_of_values vs)) None

pub begun_conform : {P : Program} {s : RowScope} {h : Heap} (max : ℕ) {ts : List VType} {vs : List Value} → NoTop ts
    → AllConform P s h ts vs → UnitsConform P s h (filled max ts) (begun_units max vs)
begun_conform {P = P} {s = s} {h = h} max {ts = ts} {vs = vs} apart all =
    let units : UnitsConform P s h (units_of_entries ts) (units_of_values vs) = value_units apart all in
    subst (λ n. UnitsConform P s h (filled max ts) (units_of_values vs ++ replicate (max - n) None)) (as_many_units units)
    (units_append units (blank_units (max - length (units_of_entries ts))))

-- ---- the frame that a method begins with

pub static_entry : (flags : ℕ) (name : List ℕ) (class : Name) (params : List FieldType) (max : ℕ) → has flags STATIC ≡ true
    → (entry_frame flags name (Some class) params max).locals ≡ filled max (map verification_type params)
static_entry flags name class params max is = rw is refl

pub instance_entry : (flags : ℕ) (name : List ℕ) (class : Name) (params : List FieldType) (max : ℕ) → has flags STATIC ≡ false
    → bytes_eq init name ≡ false
    → (entry_frame flags name (Some class) params max).locals ≡ filled max (types.Object class ∷ map verification_type params)
instance_entry flags name class params max is other = rw is (rw other refl)

pub initialiser_entry : (flags : ℕ) (class : Name) (params : List FieldType) (max : ℕ) → has flags STATIC ≡ false
    → (entry_frame flags init (Some class) params max).locals ≡ filled max (types.UninitThis ∷ map verification_type params)
initialiser_entry flags class params max is = rw is refl

-- A new frame of a method does the first instruction, if these values conform to the types that its locals begin with.
pub enters : (P : Program) (T : Typings) (m : Memory) → IsTypedProgram P T → (at : MethodAt) (method : RunMethod) (code : Code)
    → run_method P at ≡ Some method → code_run method ≡ Some code
    → (held : Option ℕ) → IfSome held (IsInHeap m.heap) → (ts : List VType) (vs : List Value)
    → (entry P at method.member code).locals ≡ filled code.locals ts → NoTop ts
    → AllConform P (T at).scope m.heap ts vs → Does P T m.heap (frame_with P at (units_of_values vs) held)
enters P T m program at method code run is held held_there ts vs begins apart all =
    let is_code : code_at P at ≡ Some code = ap (λ o. option_and_then code_run o) run ∙ is in
    let typed : IsTypedMethod P at method.member code (T at) = program.methods at method code run is in
    let new : MethodState = record { at = at; place = 0; locals = begun_units code.locals vs; stack = []; held = held } in
    let same : frame_with P at (units_of_values vs) held ≡ new = rw is_code refl in
    let does : Does P T m.heap new =
    does_first P T m program new code is_code held_there (entry P at method.member code) typed.entry_leads
    (values_paired vs (replicate (code.locals - length (units_of_values vs)) None)
    (blank_paired (code.locals - length (units_of_values vs))))
    (subst (λ us. UnitsConform P (T at).scope m.heap us (begun_units code.locals vs)) (sym begins) (begun_conform code.locals apart all))
    no_values in
    subst (λ (g : MethodState). Does P T m.heap g) (sym same) does
