-- Quiet turns of flat code around a callee: the arguments are stored, the last one first, and the result is narrowed.
use Rattle.std.proofs.Common.{◌≡◌, ◌⊎◌, inl, inr, ◌+◌, ◌-◌, ◌≤◌, ◌%◌, ◌^◌, ℕ, zero, suc, ℤ, pos, Bool, true, false, List, [], ◌∷◌, ◌++◌, bit_and, drop, length, nat_le, replicate, reverse, slice_get, take, Option, Some, None, if◌then◌else◌, IsTrue, refl, sym, ap, subst, ◌∙◌, arith}
use Rattle.std.specs.Int.{cast_signed, cast_unsigned, int_bit_and, w8, w16, w32}
use Rattle.std.proofs.lemmas.Bool.{false≢true, le-leb}
use Rattle.std.proofs.lemmas.List.{append_assoc, length-append, length-replicate, length-reverse, reverse-append}
use Rattle.std.proofs.lemmas.List.Sums.{sum_by-cons}
use Rattle.std.proofs.lemmas.Nat.{and_mask}
use Rattle.std.proofs.lemmas.Option.{none-some}
use Rattle.class_model.specs.Descriptors.{kind_of, parameter_units, parameters_of, units_of}
use Rattle.class_model.specs.Members.{has, STATIC}
use Rattle.class_model.specs.declared.descriptor.FieldType.{FieldType}
use Rattle.class_model.specs.declared.descriptor.FieldType.TheVariants as types
use Rattle.class_model.specs.declared.descriptor.Kind.{Kind}
use Rattle.class_model.specs.declared.descriptor.Kind.TheVariants as kinds
use Rattle.class_model.specs.declared.opcodes.TheConstants.{I2B, I2C, I2S, IAND}
use Rattle.expanded_code.specs.Expanded.{Argument, arguments, arguments_from}
use Rattle.expanded_runs.proofs.Runs.Entries.{GoesTo, Stores}
use Rattle.expanded_runs.proofs.Runs.FlatOps.{narrowing_ops}
use Rattle.expanded_runs.proofs.Runs.ReplacedCalls.{FitArguments}
use Rattle.machine_values.specs.Frames.{MethodState}
use Rattle.machine_values.specs.Values.{has_kind, narrowed, units_of_values}
use Rattle.machine_values.specs.declared.frame.RunFrame.{RunFrame}
use Rattle.machine_values.specs.declared.frame.RunFrame.TheVariants.{Method}
use Rattle.machine_values.specs.declared.value.Value.{Value}
use Rattle.machine_values.specs.declared.value.Value.TheVariants.{Int, Long, Float, Double, Null, Ref}
use Rattle.member_link.specs.Machine.Completions.{gives}
use Rattle.member_link.specs.Machine.Locals.{stored, width_of}
use Rattle.member_link.specs.Machine.Ops.{Op, pure_arithmetic, push_value, store_local}
use Rattle.member_link.specs.Machine.Performing.{resumed}
use Rattle.member_link.specs.Machine.Programs.{Catch, Point, Program, point_at}
use Rattle.member_link.specs.Machine.Runs.{Run}
use Rattle.member_link.specs.Machine.Stepping.{op_step, with_top, work_step}
use Rattle.member_link.specs.Machine.Work.{arity, work}
use Rattle.member_link.specs.Machine.Worlds.{World, going}
use Rattle.member_link.specs.Scope.{Scope, own_descriptor}
use Rattle.same_runs.specs.Laws.Objects.{get_new, get_old}
use Rattle.same_runs.specs.Laws.QuietBeginnings.{quietly_then, standing}
use Rattle.same_runs.specs.Laws.QuietMoves.{turns_quietly}
use Rattle.same_runs.specs.Laws.Stored.{Has, IsStored, Units, stored_is, stores}
use Rattle.same_runs.specs.Laws.Units.{same_arguments, same_size}
use Rattle.same_runs.specs.Renamings.{Names, SameUnits, SameValue, and_unit, has_value, no_units, no_value}
use Rattle.same_runs.specs.SameMoves.{KeepsOutside, ShiftedUnits}
use Rattle.same_runs.specs.Simulations.{Quietly, at_once}

-- ---- units of values

-- a value of a kind takes the units of the kind
pub width_of_kind : (kind : Kind) (value : Value) → IsTrue (has_kind kind value) → width_of value ≡ units_of kind
width_of_kind kind value is = grind (arith, is)

-- a unit of values is the first of the first value's, or one of the others'
abbrev IsUnitOf : ℕ → Value → Units → ℕ → Value → Type 0
IsUnitOf width value units n v = ((n ≡ 0) × (v ≡ value)) ⊎ ((m : ℕ) × (n ≡ width + m) × Has units m v)

narrow_first : (value : Value) (units : Units) (n : ℕ) (v : Value) → Has (Some value ∷ units) n v → IsUnitOf 1 value units n v
narrow_first value units zero v is = inl (let found : Some (Some value) ≡ Some (Some v) = is in (refl, cc found))
narrow_first value units (suc m) v is = inr (m, omega arith, is)

wide_first : (value : Value) (units : Units) (n : ℕ) (v : Value) → Has (Some value ∷ None ∷ units) n v → IsUnitOf 2 value units n v
wide_first value units zero v is = inl (let found : Some (Some value) ≡ Some (Some v) = is in (refl, cc found))
wide_first value units (suc zero) v is = absurd (let wrong : Some None ≡ Some (Some v) = is in cc wrong)
wide_first value units (suc (suc m)) v is = inr (m, omega arith, is)

first_of_units : (value : Value) (values : List Value) (n : ℕ) (v : Value) → Has (units_of_values (value ∷ values)) n v
    → IsUnitOf (width_of value) value (units_of_values values) n v
first_of_units (Int number) values n v is = narrow_first (Int number) (units_of_values values) n v is
first_of_units (Long number) values n v is = wide_first (Long number) (units_of_values values) n v is
first_of_units (Float bits) values n v is = narrow_first (Float bits) (units_of_values values) n v is
first_of_units (Double bits) values n v is = wide_first (Double bits) (units_of_values values) n v is
first_of_units Null values n v is = narrow_first Null (units_of_values values) n v is
first_of_units (Ref reference) values n v is = narrow_first (Ref reference) (units_of_values values) n v is

units_and_more : (value : Value) (values : List Value)
    → length (units_of_values (value ∷ values)) ≡ width_of value + length (units_of_values values)
units_and_more (Int number) values = omega arith
units_and_more (Long number) values = omega arith
units_and_more (Float bits) values = omega arith
units_and_more (Double bits) values = omega arith
units_and_more Null values = omega arith
units_and_more (Ref reference) values = omega arith

-- ---- arguments

-- arguments lie in units one behind the other, from a unit on
abbrev pub AreLaid : ℕ → List Argument → Type 0
AreLaid unit [] = Unit {0}
AreLaid unit (argument ∷ others) = (argument.unit ≡ unit) × AreLaid (unit + units_of argument.kind) others

laid_from : (unit : ℕ) (all : List FieldType) → AreLaid unit (arguments_from unit all)
laid_from unit [] = tt
laid_from unit (type ∷ all) = (refl, laid_from (unit + units_of (kind_of type)) all)

pub arguments_laid : (s : Scope) (unit : ℕ) → AreLaid unit (arguments s unit)
arguments_laid s unit = by (has s.method.flags STATIC) where
  by : (static : Bool)
      → AreLaid unit (if static then arguments_from unit (parameters_of (own_descriptor s))
      else (record { kind = kinds.Ref; unit = unit } ∷ arguments_from (unit + 1) (parameters_of (own_descriptor s))))
  by true = laid_from unit (parameters_of (own_descriptor s))
  by false = (refl, laid_from (unit + 1) (parameters_of (own_descriptor s)))

-- how many units arguments take
abbrev pub units_of_arguments : List Argument → ℕ
units_of_arguments [] = 0
units_of_arguments (argument ∷ others) = units_of argument.kind + units_of_arguments others

-- values of the kinds of arguments take as many
pub fit_units : (args : List Argument) (values : List Value) → FitArguments args values
    → length (units_of_values values) ≡ units_of_arguments args
fit_units [] [] fit = refl
fit_units [] (value ∷ values) fit = absurd fit
fit_units (argument ∷ args) [] fit = absurd fit
fit_units (argument ∷ args) (value ∷ values) fit =
    let first = units_and_more value values in
    let width = width_of_kind argument.kind value fit.0 in
    let rest = fit_units args values fit.1 in
    omega (arith, first, width, rest)

-- and are as many
pub fit_count : (args : List Argument) (values : List Value) → FitArguments args values → length values ≡ length args
fit_count [] [] fit = refl
fit_count [] (value ∷ values) fit = absurd fit
fit_count (argument ∷ args) [] fit = absurd fit
fit_count (argument ∷ args) (value ∷ values) fit = ap suc (fit_count args values fit.1)

units_from : (unit : ℕ) (all : List FieldType) → units_of_arguments (arguments_from unit all) ≡ parameter_units all
units_from unit [] = refl
units_from unit (type ∷ all) =
    ap (λ (more : ℕ). units_of (kind_of type) + more) (units_from (unit + units_of (kind_of type)) all)
    ∙ sym (sum_by-cons (λ (t : FieldType). units_of (kind_of t)) type all)

-- those of a method: its parameters', and one for its receiver
pub arguments_units : (s : Scope) (unit : ℕ)
    → units_of_arguments (arguments s unit)
    ≡ (if has s.method.flags STATIC then 0 else 1) + parameter_units (parameters_of (own_descriptor s))
arguments_units s unit = by (has s.method.flags STATIC) where
  by : (static : Bool)
      → units_of_arguments (if static then arguments_from unit (parameters_of (own_descriptor s))
      else (record { kind = kinds.Ref; unit = unit } ∷ arguments_from (unit + 1) (parameters_of (own_descriptor s))))
      ≡ (if static then 0 else 1) + parameter_units (parameters_of (own_descriptor s))
  by true = let all = units_from unit (parameters_of (own_descriptor s)) in omega (arith, all)
  by false = let all = units_from (unit + 1) (parameters_of (own_descriptor s)) in omega (arith, all)

-- ---- stores

-- What is behind the stores of all arguments: each value has its unit.
record StoresAll (Q : Program) (r : Run) (others : List RunFrame) (g : MethodState) (unit count : ℕ) (values below : List Value)
    : Type 0 where
  pub locals : Units
  pub goes : GoesTo Q r others (record g { place = g.place + count; stack = below; locals = locals })
  pub holds : (n : ℕ) (v : Value) → Has (units_of_values values) n v → Has locals (unit + n) v
  pub outside : KeepsOutside unit (length (units_of_values values)) g.locals locals

-- stores of arguments stand in a frame's code
abbrev pub StoresStand : Program → MethodState → (ℕ → List Catch) → List Argument → Type 0
StoresStand Q g catches args =
    (i : ℕ) (argument : Argument)
    → slice_get (reverse args) i ≡ Some argument
    → point_at Q g.at (g.place + i) ≡ Some (record { op = store_local argument.kind argument.unit; catches = catches i })

-- a run stands where it stands
goes_nowhere : {Q : Program} {r : Run} {others : List RunFrame} {g : MethodState} (place : ℕ) (stack : List Value)
    → r.world.frames ≡ Method g ∷ others
    → place ≡ g.place
    → g.stack ≡ stack
    → GoesTo Q r others (record g { place = place; stack = stack })
goes_nowhere {Q = Q} {r = r} {others = others} {g = g} place stack stands same is = record {
  steps = r.world.steps;
  quietly =
      subst (λ (p : ℕ). Quietly Q r (there p stack)) (sym same)
      (subst (λ (s : List Value). Quietly Q r (there g.place s)) is
      (subst (λ (frames : List RunFrame). Quietly Q r (standing r frames r.world.memory r.world.steps)) stands at_once));
} where
  there : ℕ → List Value → Run
  there p s = standing r (Method (record g { place = p; stack = s }) ∷ others) r.world.memory r.world.steps

-- a turn more
goes_further : {Q : Program} {r : Run} {others : List RunFrame} (f after : MethodState) (point : Point)
    → r.world.halt ≡ going
    → GoesTo Q r others f
    → point_at Q f.at f.place ≡ Some point
    → ((w : World) → w.memory ≡ r.world.memory → op_step Q w f others point.op ≡ with_top w others after)
    → GoesTo Q r others after
goes_further {r = r} f after point goes before is worked = record {
  steps = before.steps + 1;
  quietly = quietly_then before.quietly (turns_quietly r f after before.steps point goes is worked);
}

-- the first of values is the lowest on a stack
lowest : (value : Value) (values below : List Value) → reverse (value ∷ values) ++ below ≡ reverse values ++ (value ∷ below)
lowest value values below =
    ap (λ (all : List Value). all ++ below) (reverse-append (value ∷ []) values) ∙ append_assoc (reverse values) (value ∷ []) below

module _ {Q : Program} {r : Run} {others : List RunFrame} {g : MethodState} (catches : ℕ → List Catch) (goes : r.world.halt ≡ going)
    (stands : r.world.frames ≡ Method g ∷ others) where
  -- the store of the first argument, behind those of the others
  stores_first : (argument : Argument) (args : List Argument) (value : Value) (values below : List Value) (unit : ℕ)
      → argument.unit ≡ unit
      → IsTrue (has_kind argument.kind value)
      → point_at Q g.at (g.place + length args)
      ≡ Some (record { op = store_local argument.kind argument.unit; catches = catches (length args) })
      → unit + length (units_of_values (value ∷ values)) ≤ length g.locals
      → StoresAll Q r others g (unit + units_of argument.kind) (length args) values (value ∷ below)
      → StoresAll Q r others g unit (length (argument ∷ args)) (value ∷ values) below
  stores_first argument args value values below unit at is point room rest = record {
    locals = made.0;
    goes = subst (λ (p : ℕ). GoesTo Q r others (record g { place = p; stack = below; locals = made.0 })) next behind;
    holds = λ n v has. holds n v (first_of_units value values n v has);
    outside = record {
      count = other.count ∙ rest.outside.count;
      stays = λ n v clear there. stays n v clear there;
    };
  } where
    width : width_of value ≡ units_of argument.kind
    width = width_of_kind argument.kind value is

    many : length (units_of_values (value ∷ values)) ≡ width_of value + length (units_of_values values)
    many = units_and_more value values

    made : (units : Units) × (stored argument.unit value rest.locals ≡ Some units)
    made =
        stores argument.unit value rest.locals
        (let count = rest.outside.count in
        let all = many in omega (arith, room, at, count, all))

    other : IsStored argument.unit value rest.locals made.0
    other = stored_is argument.unit value rest.locals made.0 made.1

    waits : MethodState
    waits = record g { place = g.place + length args; stack = value ∷ below; locals = rest.locals }

    behind : GoesTo Q r others (record g { place = g.place + length args + 1; stack = below; locals = made.0 })
    behind =
        goes_further waits (record g { place = g.place + length args + 1; stack = below; locals = made.0 })
        (record { op = store_local argument.kind argument.unit; catches = catches (length args) }) goes rest.goes point
        (λ w same. rw (is, made.1) refl)

    next : g.place + length args + 1 ≡ g.place + length (argument ∷ args)
    next = omega arith

    holds : (n : ℕ) (v : Value) → IsUnitOf (width_of value) value (units_of_values values) n v → Has made.0 (unit + n) v
    holds n v (inl (first, same)) =
        let here : unit + n ≡ argument.unit = omega (arith, at, first) in
        ap (slice_get made.0) here ∙ other.here ∙ ap (λ (x : Value). Some (Some x)) (sym same)
    holds n v (inr (m, later, has)) =
        let there : unit + n ≡ unit + units_of argument.kind + m = let wide = width in omega (arith, later, wide) in
        let high : argument.unit + width_of value ≤ unit + units_of argument.kind + m = let wide = width in omega (arith, at, wide) in
        ap (slice_get made.0) there ∙ other.stays (unit + units_of argument.kind + m) v (inr high) (rest.holds m v has)

    stays : (n : ℕ) (v : Value) → (n + width_of v ≤ unit) ⊎ (unit + length (units_of_values (value ∷ values)) ≤ n) → Has g.locals n v
        → Has made.0 n v
    stays n v (inl low) there =
        let still : n + width_of v ≤ unit + units_of argument.kind = omega (arith, low) in
        let before : n + width_of v ≤ argument.unit = omega (arith, low, at) in
        other.stays n v (inl before) (rest.outside.stays n v (inl still) there)
    stays n v (inr high) there =
        let still : unit + units_of argument.kind + length (units_of_values values) ≤ n =
        let wide = width in
        let all = many in omega (arith, high, wide, all) in
        let past : argument.unit + width_of value ≤ n = let all = many in omega (arith, high, at, all) in
        other.stays n v (inr past) (rest.outside.stays n v (inr still) there)

  stores_all : (args : List Argument) (values below : List Value) (unit : ℕ) → AreLaid unit args → FitArguments args values
      → StoresStand Q g catches args
      → g.stack ≡ reverse values ++ below
      → unit + length (units_of_values values) ≤ length g.locals
      → StoresAll Q r others g unit (length args) values below
  stores_all [] [] below unit laid fit points stack room = record {
    locals = g.locals;
    goes = goes_nowhere (g.place + 0) below stands (omega arith) stack;
    holds = λ n v has. absurd (none-some (Some v) has);
    outside = record { count = refl; stays = λ n v clear there. there };
  }
  stores_all [] (value ∷ values) below unit laid fit points stack room = absurd fit
  stores_all (argument ∷ args) [] below unit laid fit points stack room = absurd fit
  stores_all (argument ∷ args) (value ∷ values) below unit laid fit points stack room =
      stores_first argument args value values below unit laid.0 fit.0 point room
      (stores_all args values (value ∷ below) (unit + units_of argument.kind) laid.1 fit.1 others_stand
      (stack ∙ lowest value values below) rest_room) where
        reversed : reverse (argument ∷ args) ≡ reverse args ++ argument ∷ []
        reversed = reverse-append (argument ∷ []) args

        others_stand : StoresStand Q g catches args
        others_stand i one is =
            points i one (ap (λ (all : List Argument). slice_get all i) reversed ∙ get_old (reverse args) argument i one is)

        last : slice_get (reverse (argument ∷ args)) (length args) ≡ Some argument
        last =
            ap (λ (all : List Argument). slice_get all (length args)) reversed
            ∙ ap (slice_get (reverse args ++ argument ∷ [])) (sym (length-reverse args)) ∙ get_new (reverse args) argument

        point : point_at Q g.at (g.place + length args)
            ≡ Some (record { op = store_local argument.kind argument.unit; catches = catches (length args) })
        point = points (length args) argument last

        rest_room : unit + units_of argument.kind + length (units_of_values values) ≤ length g.locals
        rest_room =
            let many = units_and_more value values in
            let width = width_of_kind argument.kind value fit.0 in
            omega (arith, room, many, width)

-- ---- units of the callee

none_replicated : (count at : ℕ) (value : Value) → Has (replicate count None) at value → ⊥
none_replicated zero at value is = none-some (Some value) is
none_replicated (suc count) zero value is = cc is
none_replicated (suc count) (suc at) value is = none_replicated count at value is

module _ {names : Names} where
  same_in : {ones others : Units} (less : ℕ) → SameUnits names ones others → (at : ℕ) (value : Value)
      → Has (ones ++ replicate less None) at value
      → (also : Value) × (Has others at also) × SameValue names value also
  same_in less no_units at value is = absurd (none_replicated less at value is)
  same_in less (and_unit no_value rest) zero value is = (let wrong : Some None ≡ Some (Some value) = is in cc wrong)
  same_in less (and_unit (has_value {one = one} {other = other} same) rest) zero value is =
      let found : Some (Some one) ≡ Some (Some value) = is in
      let value_is : value ≡ one = cc found in
      (other, refl, rw value_is same)
  same_in less (and_unit one rest) (suc at) value is = same_in less rest at value is

-- The arguments of a callee are stored: from the block's first unit on stand what its frame begins with, and no other unit is changed.
pub stores_quietly :
    {Q : Program} {r : Run} {others : List RunFrame} {g : MethodState}
    (catches : ℕ → List Catch) (s : Scope) (unit size : ℕ) (values below : List Value)
    → r.world.halt ≡ going
    → r.world.frames ≡ Method g ∷ others
    → StoresStand Q g catches (arguments s unit)
    → FitArguments (arguments s unit) values
    → g.stack ≡ reverse values ++ below
    → length (units_of_values values) ≤ size
    → unit + size ≤ length g.locals
    → Stores Q r others g unit size (length (arguments s unit)) values below
stores_quietly {Q = Q} {r = r} {others = others} {g = g} catches s unit size values below goes stands points fit stack few room = record {
  locals = all.locals;
  goes = all.goes;
  units = λ names ones same. shifted names ones (same_arguments same);
  outside = record { count = all.outside.count; stays = λ n v clear there. all.outside.stays n v (clears n v clear) there };
} where
  many : ℕ
  many = length (units_of_values values)

  all : StoresAll Q r others g unit (length (arguments s unit)) values below
  all = stores_all catches goes stands (arguments s unit) values below unit (arguments_laid s unit) fit points stack (omega (arith, few, room))

  clears : (n : ℕ) (v : Value) → (n + width_of v ≤ unit) ⊎ (unit + size ≤ n)
      → (n + width_of v ≤ unit) ⊎ (unit + length (units_of_values values) ≤ n)
  clears n v (inl low) = inl low
  clears n v (inr high) = inr (omega (arith, high, few))

  shifted : (names : Names) (ones : List Value) → SameUnits names (units_of_values ones) (units_of_values values)
      → ShiftedUnits names unit size (units_of_values ones ++ replicate (size - length (units_of_values ones)) None) all.locals
  shifted names ones same = record {
    holds = λ at value has fits. (
        let found = same_in (size - length (units_of_values ones)) same at value has in
        (found.0, all.holds at found.0 found.1, found.2));
    count =
        let sum = length-append (units_of_values ones) (replicate (size - length (units_of_values ones)) None) in
        let count = length-replicate {A = Option Value} (size - length (units_of_values ones)) None in
        let as_many = same_size same in
        omega (arith, sum, count, as_many, few);
    room = let as_before = all.outside.count in omega (arith, room, as_before);
  }

-- ---- the result

-- the lowest bit of an int is what a boolean keeps
pub lowest_bit : (number : ℤ) → int_bit_and w32 number (pos 1) ≡ pos (cast_unsigned w32 number % 2)
lowest_bit number = ap (cast_signed w32) masked ∙ small where
  masked : bit_and (cast_unsigned w32 number) 1 ≡ cast_unsigned w32 number % 2
  masked = and_mask (cast_unsigned w32 number) 1

  small : cast_signed w32 (cast_unsigned w32 number % 2) ≡ pos (cast_unsigned w32 number % 2)
  small = by (cast_unsigned w32 number % 2) (omega arith) where
    by : (bit : ℕ) → bit ≤ 1 → cast_signed w32 bit ≡ pos bit
    by zero low = refl
    by (suc zero) low = refl
    by (suc (suc more)) low = absurd (omega (arith, low))

-- a value of the kind int is an int
int_is : (value : Value) → IsTrue (has_kind kinds.Int value) → (number : ℤ) × (value ≡ Int number)
int_is (Int number) is = (number, refl)
int_is (Long number) is = absurd (false≢true is)
int_is (Float bits) is = absurd (false≢true is)
int_is (Double bits) is = absurd (false≢true is)
int_is Null is = absurd (false≢true is)
int_is (Ref reference) is = absurd (false≢true is)

-- an operation that gives values of its operands, and leaves the memory as it is
work_gives : (Q : Program) (w : World) (f : MethodState) (rest : List RunFrame) (op : Op) (values : List Value)
    → op_step Q w f rest op ≡ work_step Q w f rest op
    → nat_le (arity op) (length f.stack) ≡ true
    → work Q w.memory op (reverse (take (arity op) f.stack)) ≡ gives w.memory values
    → op_step Q w f rest op ≡ with_top w rest (resumed (record f { stack = drop (arity op) f.stack }) values)
work_gives Q w f rest op values worked enough given = worked ∙ rw (enough, given) refl

-- there is one entry, and there are two
one_entry : (value : Value) (below : List Value) → nat_le 1 (length (value ∷ below)) ≡ true
one_entry value below = le-leb 1 (length (value ∷ below)) (let low : 1 ≤ length (value ∷ below) = omega arith in low)

two_entries : (value other : Value) (below : List Value) → nat_le 2 (length (value ∷ other ∷ below)) ≡ true
two_entries value other below =
    le-leb 2 (length (value ∷ other ∷ below)) (let low : 2 ≤ length (value ∷ other ∷ below) = omega arith in low)

-- the result is narrowed
abbrev Narrowed : Program → Run → List RunFrame → MethodState → FieldType → Value → List Value → Type 0
Narrowed Q r others g type value below =
    GoesTo Q r others (record g { place = g.place + length (narrowing_ops (Some type)); stack = narrowed type value ∷ below })

-- the operations of a narrowing stand in a frame's code
abbrev pub NarrowingStands : Program → MethodState → (ℕ → List Catch) → Option FieldType → Type 0
NarrowingStands Q g catches type =
    (i : ℕ) (op : Op)
    → slice_get (narrowing_ops type) i ≡ Some op
    → point_at Q g.at (g.place + i) ≡ Some (record { op = op; catches = catches i })

module _ {Q : Program} {r : Run} {others : List RunFrame} {g : MethodState} (catches : ℕ → List Catch) (goes : r.world.halt ≡ going)
    (stands : r.world.frames ≡ Method g ∷ others) where
  -- one operation, with an int on top of the stack
  narrows_int : (op : Op) (number low : ℤ) (below : List Value)
      → g.stack ≡ Int number ∷ below
      → point_at Q g.at (g.place + 0) ≡ Some (record { op = op; catches = catches 0 })
      → ((w : World) → op_step Q w (record g { place = g.place + 0; stack = Int number ∷ below }) others op
      ≡ with_top w others (record g { place = g.place + 0 + 1; stack = Int low ∷ below }))
      → GoesTo Q r others (record g { place = g.place + 1; stack = Int low ∷ below })
  narrows_int op number low below stack point worked =
      subst (λ (p : ℕ). GoesTo Q r others (record g { place = p; stack = Int low ∷ below })) next
      (goes_further (record g { place = g.place + 0; stack = Int number ∷ below })
      (record g { place = g.place + 0 + 1; stack = Int low ∷ below }) (record { op = op; catches = catches 0 }) goes
      (goes_nowhere (g.place + 0) (Int number ∷ below) stands (omega arith) stack) point (λ w same. worked w)) where
        next : g.place + 0 + 1 ≡ g.place + 1
        next = omega arith

  narrows_byte : (number : ℤ) (below : List Value) → NarrowingStands Q g catches (Some types.Byte) → g.stack ≡ Int number ∷ below
      → Narrowed Q r others g types.Byte (Int number) below
  narrows_byte number below points stack =
      narrows_int (pure_arithmetic I2B) number (cast_signed w8 (cast_unsigned w32 number % 2 ^ 8)) below stack (points 0 _ refl)
      (λ w. work_gives Q w (record g { place = g.place + 0; stack = Int number ∷ below }) others (pure_arithmetic I2B)
      (Int (cast_signed w8 (cast_unsigned w32 number % 2 ^ 8)) ∷ []) refl (one_entry (Int number) below) refl)

  narrows_short : (number : ℤ) (below : List Value) → NarrowingStands Q g catches (Some types.Short) → g.stack ≡ Int number ∷ below
      → Narrowed Q r others g types.Short (Int number) below
  narrows_short number below points stack =
      narrows_int (pure_arithmetic I2S) number (cast_signed w16 (cast_unsigned w32 number % 2 ^ 16)) below stack (points 0 _ refl)
      (λ w. work_gives Q w (record g { place = g.place + 0; stack = Int number ∷ below }) others (pure_arithmetic I2S)
      (Int (cast_signed w16 (cast_unsigned w32 number % 2 ^ 16)) ∷ []) refl (one_entry (Int number) below) refl)

  narrows_char : (number : ℤ) (below : List Value) → NarrowingStands Q g catches (Some types.Char) → g.stack ≡ Int number ∷ below
      → Narrowed Q r others g types.Char (Int number) below
  narrows_char number below points stack =
      narrows_int (pure_arithmetic I2C) number (pos (cast_unsigned w32 number % 2 ^ 16)) below stack (points 0 _ refl)
      (λ w. work_gives Q w (record g { place = g.place + 0; stack = Int number ∷ below }) others (pure_arithmetic I2C)
      (Int (pos (cast_unsigned w32 number % 2 ^ 16)) ∷ []) refl (one_entry (Int number) below) refl)

  -- a boolean by two: 1 is pushed, and the lowest bit is left
  narrows_bool : (number : ℤ) (below : List Value) → NarrowingStands Q g catches (Some types.Bool) → g.stack ≡ Int number ∷ below
      → Narrowed Q r others g types.Bool (Int number) below
  narrows_bool number below points stack =
      subst (λ (p : ℕ). GoesTo Q r others (record g { place = p; stack = narrowed types.Bool (Int number) ∷ below })) all
      (subst (λ (low : ℤ). GoesTo Q r others (record g { place = g.place + 1 + 1; stack = Int low ∷ below })) (lowest_bit number)
      (goes_further pushed (record g { place = g.place + 1 + 1; stack = Int (int_bit_and w32 number (pos 1)) ∷ below })
      (record { op = pure_arithmetic IAND; catches = catches 1 }) goes first (points 1 _ refl)
      (λ w same. work_gives Q w pushed others (pure_arithmetic IAND) (Int (int_bit_and w32 number (pos 1)) ∷ []) refl
      (two_entries (Int (pos 1)) (Int number) below) refl))) where
        pushed : MethodState
        pushed = record g { place = g.place + 1; stack = Int (pos 1) ∷ Int number ∷ below }

        all : g.place + 1 + 1 ≡ g.place + length (narrowing_ops (Some types.Bool))
        all = omega arith

        next : g.place + 0 + 1 ≡ g.place + 1
        next = omega arith

        none_needed : nat_le 0 (length (Int number ∷ below)) ≡ true
        none_needed = le-leb 0 (length (Int number ∷ below)) (omega arith)

        first : GoesTo Q r others pushed
        first =
            subst (λ (p : ℕ). GoesTo Q r others (record g { place = p; stack = Int (pos 1) ∷ Int number ∷ below })) next
            (goes_further (record g { place = g.place + 0; stack = Int number ∷ below })
            (record g { place = g.place + 0 + 1; stack = Int (pos 1) ∷ Int number ∷ below })
            (record { op = push_value (Int (pos 1)); catches = catches 0 }) goes
            (goes_nowhere (g.place + 0) (Int number ∷ below) stands (omega arith) stack) (points 0 _ refl)
            (λ w same. work_gives Q w (record g { place = g.place + 0; stack = Int number ∷ below }) others (push_value (Int (pos 1)))
            (Int (pos 1) ∷ []) refl none_needed refl))

  -- a result of another type stays
  narrows_no_more : (value : Value) (below : List Value) → g.stack ≡ value ∷ below
      → GoesTo Q r others (record g { place = g.place + 0; stack = value ∷ below })
  narrows_no_more value below stack = goes_nowhere (g.place + 0) (value ∷ below) stands (omega arith) stack

  of_int : (type : FieldType) (value : Value) (below : List Value) → IsTrue (has_kind kinds.Int value) → g.stack ≡ value ∷ below
      → ((number : ℤ) → g.stack ≡ Int number ∷ below → Narrowed Q r others g type (Int number) below)
      → Narrowed Q r others g type value below
  of_int type value below is stack each =
      let found = int_is value is in
      subst (λ (v : Value). Narrowed Q r others g type v below) (sym found.1)
      (each found.0 (stack ∙ ap (λ (v : Value). v ∷ below) found.1))

  -- A result is narrowed to its declared type.
  pub narrows_quietly :
      (type : FieldType) (value : Value) (below : List Value)
      → NarrowingStands Q g catches (Some type)
      → g.stack ≡ value ∷ below
      → IsTrue (has_kind (kind_of type) value)
      → GoesTo Q r others
      (record g { place = g.place + length (narrowing_ops (Some type)); stack = narrowed type value ∷ below })
  narrows_quietly types.Byte value below points stack is = of_int types.Byte value below is stack (λ n s. narrows_byte n below points s)
  narrows_quietly types.Short value below points stack is = of_int types.Short value below is stack (λ n s. narrows_short n below points s)
  narrows_quietly types.Char value below points stack is = of_int types.Char value below is stack (λ n s. narrows_char n below points s)
  narrows_quietly types.Bool value below points stack is = of_int types.Bool value below is stack (λ n s. narrows_bool n below points s)
  narrows_quietly types.Int value below points stack is = narrows_no_more value below stack
  narrows_quietly types.Long value below points stack is = narrows_no_more value below stack
  narrows_quietly types.Float value below points stack is = narrows_no_more value below stack
  narrows_quietly types.Double value below points stack is = narrows_no_more value below stack
  narrows_quietly (types.Named name) value below points stack is = narrows_no_more value below stack

-- A method without a result has nothing to be narrowed.
pub narrows_nothing : {Q : Program} {r : Run} {others : List RunFrame} {g : MethodState}
    → r.world.frames ≡ Method g ∷ others
    → GoesTo Q r others (record g { place = g.place + length (narrowing_ops None) })
narrows_nothing {g = g} stands = goes_nowhere (g.place + 0) g.stack stands (omega arith) refl
