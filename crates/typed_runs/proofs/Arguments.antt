use Rattle.std.specs.Prelude.{◌≡◌, ◌≢◌, ◌-◌, refl, ℕ, Bool, true, false, List, [], ◌∷◌, ◌++◌, map, length, replicate, Option, Some, None}
use Rattle.std.specs.List.{AllByRecursion}
use Rattle.std.proofs.Common.{sym, subst}
use Rattle.std.proofs.lemmas.Slice.Eq.{bytes_eq-Decides}
use Rattle.class_model.specs.Code.{entry_frame, verification_type}
use Rattle.class_model.specs.Descriptors.{kind_of, parameters_of}
use Rattle.class_model.specs.Frames.{units_of_entries, filled}
use Rattle.class_model.specs.Members.{has, STATIC, is_text}
use Rattle.class_model.specs.Names.{init}
use Rattle.class_model.specs.declared.descriptor.FieldType.{FieldType}
use Rattle.class_model.specs.declared.descriptor.FieldType.TheVariants as field_types
use Rattle.class_model.specs.declared.frame.VType.{VType}
use Rattle.class_model.specs.declared.frame.VType.TheVariants as types
use Rattle.machine_values.specs.Heaps.{Heap}
use Rattle.machine_values.specs.Values.{has_kind, have_kinds, units_of_values}
use Rattle.machine_values.specs.declared.object.Shape.{Shape}
use Rattle.machine_values.specs.declared.object.Shape.TheVariants as shapes
use Rattle.machine_values.specs.declared.value.Value.{Value}
use Rattle.machine_values.specs.declared.value.Value.TheVariants as values
use Rattle.member_link.specs.Assignability.{IsAssignable}
use Rattle.member_link.specs.DeclaredMembers.{Declared}
use Rattle.member_link.specs.Machine.Programs.{Program, headers_in, name_of_class}
use Rattle.member_link.specs.RowScope.{RowScope}
use Rattle.member_link.specs.Rows.MemberRows.{argument_needs}
use Rattle.member_link.specs.Rows.Operands.{AllFit, assignable_to}
use Rattle.typed_runs.proofs.Assigned.{assigned}
use Rattle.typed_runs.proofs.BeginningSteps.{blank_units, blank_paired}
use Rattle.typed_runs.proofs.Units.{as_many_units}
use Rattle.typed_runs.specs.Conforming.{HasShape, Conforms, to_top, an_int, a_long, a_float, a_double, only_null, null_object, an_object, of_new, of_this, AllConform, no_values, and_value, no_value, has_value, UnitsConform, no_units, and_unit, ShapeConforms}
use Rattle.typed_runs.specs.TypedFrames.{ArePaired}
use Rattle.typed_runs.specs.TypedPrograms.{Typings, IsTypedProgram}

-- ---- arguments that a call takes

-- values of the types that a descriptor names, whatever the code around them
abbrev pub AreArguments : Program → Heap → List ℕ → List Value → Type 0
AreArguments P h desc vs = (s : RowScope) → AllConform P s h (map verification_type (parameters_of desc)) vs

pub parameters_assigned : (P : Program) (T : Typings) → IsTypedProgram P T → {s : RowScope} {h : Heap} (r : RowScope)
    → r.headers ≡ headers_in P → (ps : List FieldType) (ts : List VType) {vs : List Value}
    → AllFit r (map (λ param. assignable_to (verification_type param)) ps) ts → AllConform P s h ts vs
    → AllConform P s h (map verification_type ps) vs
parameters_assigned P T program r same [] [] fit no_values = no_values
parameters_assigned P T program r same (p ∷ ps) (t ∷ ts) fit (and_value c others) =
    and_value (assigned P T program (subst (λ hs. IsAssignable hs t (verification_type p)) same fit.0) c)
    (parameters_assigned P T program r same ps ts fit.1 others)
parameters_assigned P T program r same [] (t ∷ ts) fit all = absurd fit
parameters_assigned P T program r same (p ∷ ps) [] fit all = absurd fit

-- an argument conforms to its type in any code
pub argument_anywhere : {P : Program} {s : RowScope} {h : Heap} {v : Value} (p : FieldType) → Conforms P s h (verification_type p) v
    → (r : RowScope) → Conforms P r h (verification_type p) v
argument_anywhere (field_types.Named name) null_object r = null_object
argument_anywhere (field_types.Named name) (an_object shape is) r = an_object shape is
argument_anywhere field_types.Byte an_int r = an_int
argument_anywhere field_types.Char an_int r = an_int
argument_anywhere field_types.Short an_int r = an_int
argument_anywhere field_types.Bool an_int r = an_int
argument_anywhere field_types.Int an_int r = an_int
argument_anywhere field_types.Long a_long r = a_long
argument_anywhere field_types.Float a_float r = a_float
argument_anywhere field_types.Double a_double r = a_double

pub arguments_anywhere : {P : Program} {s : RowScope} {h : Heap} (ps : List FieldType) {vs : List Value}
    → AllConform P s h (map verification_type ps) vs → (r : RowScope) → AllConform P r h (map verification_type ps) vs
arguments_anywhere [] no_values r = no_values
arguments_anywhere (p ∷ ps) (and_value c others) r = and_value (argument_anywhere p c r) (arguments_anywhere ps others r)

pub arguments : (P : Program) (T : Typings) → IsTypedProgram P T → {s : RowScope} {h : Heap} (r : RowScope) → r.headers ≡ headers_in P
    → (desc : List ℕ) (ts : List VType) {vs : List Value}
    → AllFit r (argument_needs desc) ts → AllConform P s h ts vs → AreArguments P h desc vs
arguments P T program r same desc ts fit all other =
    arguments_anywhere (parameters_of desc) (parameters_assigned P T program r same (parameters_of desc) ts fit all) other

-- an argument is of the kind of its type
pub argument_kind : {P : Program} {s : RowScope} {h : Heap} {v : Value} (p : FieldType) → Conforms P s h (verification_type p) v
    → has_kind (kind_of p) v ≡ true
argument_kind (field_types.Named name) null_object = refl
argument_kind (field_types.Named name) (an_object shape is) = refl
argument_kind field_types.Byte an_int = refl
argument_kind field_types.Char an_int = refl
argument_kind field_types.Short an_int = refl
argument_kind field_types.Bool an_int = refl
argument_kind field_types.Int an_int = refl
argument_kind field_types.Long a_long = refl
argument_kind field_types.Float a_float = refl
argument_kind field_types.Double a_double = refl

pub arguments_kinds : {P : Program} {s : RowScope} {h : Heap} (ps : List FieldType) {vs : List Value}
    → AllConform P s h (map verification_type ps) vs → have_kinds ps vs ≡ true
arguments_kinds [] no_values = refl
arguments_kinds (p ∷ ps) (and_value c others) = rw (argument_kind p c) (arguments_kinds ps others)

-- ---- locals that a method begins with

-- of such a type a value takes as many local units as it
abbrev pub IsArgumentType : VType → Type 0
IsArgumentType types.Top = ⊥
IsArgumentType type = Unit {0}

pub parameter_type : (p : FieldType) → IsArgumentType (verification_type p)
parameter_type (field_types.Named name) = tt
parameter_type field_types.Byte = tt
parameter_type field_types.Char = tt
parameter_type field_types.Short = tt
parameter_type field_types.Bool = tt
parameter_type field_types.Int = tt
parameter_type field_types.Long = tt
parameter_type field_types.Float = tt
parameter_type field_types.Double = tt

pub parameter_types : (ps : List FieldType) → AllByRecursion IsArgumentType (map verification_type ps)
parameter_types [] = tt
parameter_types (p ∷ ps) = (parameter_type p, parameter_types ps)

pub argument_units : {P : Program} {s : RowScope} {h : Heap} {ts : List VType} {vs : List Value} → AllByRecursion IsArgumentType ts
    → AllConform P s h ts vs → UnitsConform P s h (units_of_entries ts) (units_of_values vs)
argument_units all no_values = no_units
argument_units all (and_value (to_top is) others) = absurd all.0
argument_units all (and_value an_int others) = and_unit (has_value an_int) (argument_units all.1 others)
argument_units all (and_value a_float others) = and_unit (has_value a_float) (argument_units all.1 others)
argument_units all (and_value a_long others) = and_unit (has_value a_long) (and_unit no_value (argument_units all.1 others))
argument_units all (and_value a_double others) = and_unit (has_value a_double) (and_unit no_value (argument_units all.1 others))
argument_units all (and_value only_null others) = and_unit (has_value only_null) (argument_units all.1 others)
argument_units all (and_value null_object others) = and_unit (has_value null_object) (argument_units all.1 others)
argument_units all (and_value (an_object shape is) others) = and_unit (has_value (an_object shape is)) (argument_units all.1 others)
argument_units all (and_value (of_new new shape class) others) =
    and_unit (has_value (of_new new shape class)) (argument_units all.1 others)
argument_units all (and_value (of_this shape below) others) = and_unit (has_value (of_this shape below)) (argument_units all.1 others)

pub units_append : {P : Program} {s : RowScope} {h : Heap} {ts us : List VType} {vs ws : List (Option Value)} → UnitsConform P s h ts vs
    → UnitsConform P s h us ws → UnitsConform P s h (ts ++ us) (vs ++ ws)
units_append no_units more = more
units_append (and_unit one others) more = and_unit one (units_append others more)

pub filled_units : {P : Program} {s : RowScope} {h : Heap} {ts : List VType} {vs : List Value} (locals : ℕ)
    → AllByRecursion IsArgumentType ts → AllConform P s h ts vs
    → UnitsConform P s h (filled locals ts) (units_of_values vs ++ replicate (locals - length (units_of_values vs)) None)
filled_units {P = P} {s = s} {h = h} {ts = ts} {vs = vs} locals all conform =
    let units = argument_units all conform in
    let many : length (units_of_entries ts) ≡ length (units_of_values vs) = as_many_units units in
    subst (λ n. UnitsConform P s h (filled locals ts) (units_of_values vs ++ replicate (locals - n) None)) many
    (units_append units (blank_units (locals - length (units_of_entries ts))))

pub argument_pairs : (vs : List Value) (n : ℕ) → ArePaired (units_of_values vs ++ replicate n None)
argument_pairs [] n = blank_paired n
argument_pairs (values.Int i ∷ vs) n = (λ wide. cc, argument_pairs vs n)
argument_pairs (values.Float b ∷ vs) n = (λ wide. cc, argument_pairs vs n)
argument_pairs (values.Null ∷ vs) n = (λ wide. cc, argument_pairs vs n)
argument_pairs (values.Ref r ∷ vs) n = (λ wide. cc, argument_pairs vs n)
argument_pairs (values.Long i ∷ vs) n = (λ wide. tt, argument_pairs vs n)
argument_pairs (values.Double b ∷ vs) n = (λ wide. tt, argument_pairs vs n)

-- ---- what a method is called with

-- The arguments of a call of a declared method, its receiver first if it has one: they conform to what its code begins with.
pub record BeginsWith (P : Program) (h : Heap) (m : Declared) (vs : List Value) : Type 0 where
  pub types : List VType
  pub of_arguments : AllByRecursion IsArgumentType types
  pub locals : (n : ℕ) → (entry_frame m.member.flags m.member.name (Some m.class) (parameters_of m.member.desc) n).locals ≡ filled n types
  pub conform : (s : RowScope) → s.own.name ≡ m.class → AllConform P s h types vs

pub begins_static : (P : Program) (h : Heap) (m : Declared) (vs : List Value) → has m.member.flags STATIC ≡ true
    → AreArguments P h m.member.desc vs → BeginsWith P h m vs
begins_static P h m vs static are = record {
  types = map verification_type (parameters_of m.member.desc);
  of_arguments = parameter_types (parameters_of m.member.desc);
  locals = λ n. rw static refl;
  conform = λ s own. are s;
}

pub not_init : (name : List ℕ) → name ≢ init → is_text init (Some name) ≡ false
not_init name other = by (is_text init (Some name)) refl where
  by : (b : Bool) → is_text init (Some name) ≡ b → is_text init (Some name) ≡ false
  by true e = absurd (other (sym ((bytes_eq-Decides init name).0 e)))
  by false e = e

pub begins_instance : (P : Program) (h : Heap) (m : Declared) (r : ℕ) (shape : Shape) (vs : List Value)
    → has m.member.flags STATIC ≡ false → m.member.name ≢ init → HasShape h r shape → ShapeConforms P shape m.class
    → AreArguments P h m.member.desc vs → BeginsWith P h m (values.Ref r ∷ vs)
begins_instance P h m r shape vs of_object other has_shape conforms are = record {
  types = types.Object m.class ∷ map verification_type (parameters_of m.member.desc);
  of_arguments = (tt, parameter_types (parameters_of m.member.desc));
  locals = λ n. rw of_object (rw (not_init m.member.name other) refl);
  conform = λ s own. and_value (an_object has_shape conforms) (are s);
}

-- an instance initialiser begins with an object that is not initialised
pub begins_initialiser : (P : Program) (h : Heap) (m : Declared) (r class : ℕ) (vs : List Value) → has m.member.flags STATIC ≡ false
    → m.member.name ≡ init → HasShape h r (shapes.Folder class) → P.links.below (name_of_class P class) m.class ≡ true
    → AreArguments P h m.member.desc vs → BeginsWith P h m (values.Ref r ∷ vs)
begins_initialiser P h m r class vs of_object is has_shape below are = record {
  types = types.UninitThis ∷ map verification_type (parameters_of m.member.desc);
  of_arguments = (tt, parameter_types (parameters_of m.member.desc));
  locals = λ n. rw of_object (rw ((bytes_eq-Decides init m.member.name).1 (sym is)) refl);
  conform = λ s own. and_value (of_this has_shape (subst (λ name. P.links.below (name_of_class P class) name ≡ true) (sym own) below))
      (are s);
}
