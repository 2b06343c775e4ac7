-- The values that a field constructor is given: as the operands of its call, and in its local units.
use Rattle.std.proofs.Common.{◌≡◌, ◌+◌, nat_le, ℕ, zero, suc, true, List, [], ◌∷◌, ◌++◌, drop, length, map, reverse, slice_get, slice_set, take, Option, Some, None, IsTrue, refl, sym, ap, ◌∙◌, arith}
use Rattle.std.proofs.lemmas.Bool.{false≢true, le-leb}
use Rattle.std.proofs.lemmas.List.{append_assoc, drop-drop, length-append, length-reverse, reverse-append, reverse-reverse}
use Rattle.std.proofs.lemmas.Option.{none-some, same_Some}
use Rattle.class_model.specs.Descriptors.{kind_of, type_of, units_of}
use Rattle.class_model.specs.declared.descriptor.FieldType.{FieldType}
use Rattle.class_model.specs.declared.descriptor.Kind.{Kind}
use Rattle.class_model.specs.declared.descriptor.Kind.TheVariants as kinds
use Rattle.class_model.specs.declared.header.Member.{Member}
use Rattle.machine_values.specs.Values.{has_kind, have_kinds, narrowed, units_of_values}
use Rattle.machine_values.specs.declared.value.Value.{Value}
use Rattle.machine_values.specs.declared.value.Value.TheVariants.{Int, Long, Float, Double, Null, Ref}
use Rattle.making_code.specs.FieldConstructor.{units_of_fields}
use Rattle.member_link.specs.Machine.Locals.{local_value}

-- ---- values of fields

-- each value is of its type's kind, and as a store leaves it
abbrev pub FitTypes : List FieldType → List Value → Type 0
FitTypes [] [] = Unit {0}
FitTypes (type ∷ types) (value ∷ values) =
    IsTrue (has_kind (kind_of type) value) × (narrowed type value ≡ value) × FitTypes types values
FitTypes types values = ⊥

abbrev pub types_of : List Member → List FieldType
types_of fields = map (λ field. type_of field.desc) fields

-- values of the fields of two lists, one behind the other
pub record FitBoth (fields more : List Member) (values : List Value) : Type 0 where
  pub first : List Value
  pub second : List Value
  pub are : values ≡ first ++ second
  pub fit : FitTypes (types_of fields) first
  pub fit_also : FitTypes (types_of more) second

pub fit_both : (fields more : List Member) (values : List Value) → FitTypes (types_of (fields ++ more)) values → FitBoth fields more values
fit_both [] more values fit = record { first = []; second = values; are = refl; fit = tt; fit_also = fit }
fit_both (field ∷ fields) more [] fit = absurd fit
fit_both (field ∷ fields) more (value ∷ values) fit =
    let rest = fit_both fields more values fit.2 in
    record {
      first = value ∷ rest.first;
      second = rest.second;
      are = ap (λ (vs : List Value). value ∷ vs) rest.are;
      fit = (fit.0, fit.1, rest.fit);
      fit_also = rest.fit_also;
    }

pub fit_length : (fields : List Member) (values : List Value) → FitTypes (types_of fields) values → length values ≡ length fields
fit_length [] [] fit = refl
fit_length [] (value ∷ values) fit = absurd fit
fit_length (field ∷ fields) [] fit = absurd fit
fit_length (field ∷ fields) (value ∷ values) fit = ap suc (fit_length fields values fit.2)

-- they are the arguments of a call whose last parameter is a reference
pub fit_kinds : (fields : List Member) (last : FieldType) (values : List Value) → kind_of last ≡ kinds.Ref
    → FitTypes (types_of fields) values
    → have_kinds (types_of fields ++ last ∷ []) (values ++ Null ∷ []) ≡ true
fit_kinds [] last [] reference fit = rw (reference) refl
fit_kinds [] last (value ∷ values) reference fit = absurd fit
fit_kinds (field ∷ fields) last [] reference fit = absurd fit
fit_kinds (field ∷ fields) last (value ∷ values) reference fit = rw (fit.0) (fit_kinds fields last values reference fit.2)

-- ---- lists

-- what stands at a place, and what is behind it
pub get_here : {A : Type 0} (place : ℕ) (xs : List A) (item : A) (rest : List A) → drop place xs ≡ item ∷ rest → slice_get xs place ≡ Some item
get_here {A = A} zero xs item rest is = ap (λ (ys : List A). slice_get ys 0) is
get_here {A = A} (suc place) [] item rest is = ap (λ (ys : List A). slice_get ys 0) is
get_here {A = A} (suc place) (x ∷ xs) item rest is = get_here place xs item rest is

pub get_behind : {A : Type 0} (place : ℕ) (xs : List A) (item : A) (rest : List A) → drop place xs ≡ item ∷ rest → drop (place + 1) xs ≡ rest
get_behind place xs item rest is = sym (drop-drop 1 place xs) ∙ ap (drop 1) is

pub set_twice : {A : Type 0} (xs : List A) (at : ℕ) (x y : A) → slice_set (slice_set xs at x) at y ≡ slice_set xs at y
set_twice {A = A} [] at x y = refl
set_twice {A = A} (z ∷ xs) zero x y = refl
set_twice {A = A} (z ∷ xs) (suc at) x y = ap (λ (ys : List A). z ∷ ys) (set_twice xs at x y)

pub set_itself : {A : Type 0} (xs : List A) (at : ℕ) (x : A) → slice_get xs at ≡ Some x → slice_set xs at x ≡ xs
set_itself {A = A} [] at x is = absurd (none-some x is)
set_itself {A = A} (z ∷ xs) zero x is = ap (λ (y : A). y ∷ xs) (sym (same_Some z x is))
set_itself {A = A} (z ∷ xs) (suc at) x is = ap (λ (ys : List A). z ∷ ys) (set_itself xs at x is)

pub set_middle : {A : Type 0} (before : List A) (old new : A) (behind : List A)
    → slice_set (before ++ (old ∷ behind)) (length before) new ≡ before ++ (new ∷ behind)
set_middle {A = A} [] old new behind = refl
set_middle {A = A} (x ∷ before) old new behind = ap (λ (ys : List A). x ∷ ys) (set_middle before old new behind)

-- ---- operands

-- the topmost operands of a stack, in their order
module _ (values rest : List Value) (count : ℕ) (as_many : count ≡ length values) where
  take_front : (xs ys : List Value) → take (length xs) (xs ++ ys) ≡ xs
  take_front [] ys = refl
  take_front (x ∷ xs) ys = ap (λ (zs : List Value). x ∷ zs) (take_front xs ys)

  drop_front : (xs ys : List Value) → drop (length xs) (xs ++ ys) ≡ ys
  drop_front [] ys = refl
  drop_front (x ∷ xs) ys = drop_front xs ys

  counted : count ≡ length (reverse values)
  counted = as_many ∙ sym (length-reverse values)

  pub operands_back : reverse (take count (reverse values ++ rest)) ≡ values
  operands_back =
      ap (λ (n : ℕ). reverse (take n (reverse values ++ rest))) counted
      ∙ ap reverse (take_front (reverse values) rest)
      ∙ reverse-reverse values

  pub operands_gone : drop count (reverse values ++ rest) ≡ rest
  operands_gone = ap (λ (n : ℕ). drop n (reverse values ++ rest)) counted ∙ drop_front (reverse values) rest

  pub operands_enough : nat_le count (length (reverse values ++ rest)) ≡ true
  operands_enough =
      le-leb count (length (reverse values ++ rest)) (omega (arith, counted, length-append (reverse values) rest))

-- values that are pushed one by one on a reference, and null
pub pushed_all : (object : Value) (values rest : List Value)
    → Null ∷ (reverse values ++ (object ∷ rest)) ≡ reverse (object ∷ values ++ Null ∷ []) ++ rest
pushed_all object values rest =
    ap (λ (vs : List Value). Null ∷ vs) (sym (append_assoc (reverse values) (object ∷ []) rest)
    ∙ ap (λ (vs : List Value). vs ++ rest) (sym (reverse-append (object ∷ []) values)))
    ∙ ap (λ (vs : List Value). vs ++ rest) (sym (reverse-append (object ∷ values) (Null ∷ [])))

pub push_one : (value : Value) (values stack : List Value) → reverse values ++ (value ∷ stack) ≡ reverse (value ∷ values) ++ stack
push_one value values stack =
    sym (append_assoc (reverse values) (value ∷ []) stack)
    ∙ ap (λ (vs : List Value). vs ++ stack) (sym (reverse-append (value ∷ []) values))

-- ---- local units

abbrev Units : Type 0
Units = List (Option Value)

pub units_append : (values more : List Value) → units_of_values (values ++ more) ≡ units_of_values values ++ units_of_values more
units_append [] more = refl
units_append (Int number ∷ values) more = ap (λ (us : Units). Some (Int number) ∷ us) (units_append values more)
units_append (Long number ∷ values) more = ap (λ (us : Units). Some (Long number) ∷ None ∷ us) (units_append values more)
units_append (Float bits ∷ values) more = ap (λ (us : Units). Some (Float bits) ∷ us) (units_append values more)
units_append (Double bits ∷ values) more = ap (λ (us : Units). Some (Double bits) ∷ None ∷ us) (units_append values more)
units_append (Null ∷ values) more = ap (λ (us : Units). Some Null ∷ us) (units_append values more)
units_append (Ref reference ∷ values) more = ap (λ (us : Units). Some (Ref reference) ∷ us) (units_append values more)

-- the units of a value of a kind, and what is behind them
pub record HasUnits (kind : Kind) (value : Value) (values : List Value) (tail : Units) : Type 0 where
  pub more : Units
  pub here : units_of_values (value ∷ values) ++ tail ≡ Some value ∷ more
  pub behind : drop (units_of kind) (units_of_values (value ∷ values) ++ tail) ≡ units_of_values values ++ tail

pub has_units : (kind : Kind) (value : Value) (values : List Value) (tail : Units) → IsTrue (has_kind kind value) → HasUnits kind value values tail
has_units kinds.Int (Int number) values tail is = record { more = units_of_values values ++ tail; here = refl; behind = refl }
has_units kinds.Long (Long number) values tail is = record { more = None ∷ (units_of_values values ++ tail); here = refl; behind = refl }
has_units kinds.Float (Float bits) values tail is = record { more = units_of_values values ++ tail; here = refl; behind = refl }
has_units kinds.Double (Double bits) values tail is = record { more = None ∷ (units_of_values values ++ tail); here = refl; behind = refl }
has_units kinds.Ref Null values tail is = record { more = units_of_values values ++ tail; here = refl; behind = refl }
has_units kinds.Ref (Ref reference) values tail is = record { more = units_of_values values ++ tail; here = refl; behind = refl }
has_units kinds.Int (Long number) values tail is = absurd (false≢true is)
has_units kinds.Int (Float bits) values tail is = absurd (false≢true is)
has_units kinds.Int (Double bits) values tail is = absurd (false≢true is)
has_units kinds.Int Null values tail is = absurd (false≢true is)
has_units kinds.Int (Ref reference) values tail is = absurd (false≢true is)
has_units kinds.Long (Int number) values tail is = absurd (false≢true is)
has_units kinds.Long (Float bits) values tail is = absurd (false≢true is)
has_units kinds.Long (Double bits) values tail is = absurd (false≢true is)
has_units kinds.Long Null values tail is = absurd (false≢true is)
has_units kinds.Long (Ref reference) values tail is = absurd (false≢true is)
has_units kinds.Float (Int number) values tail is = absurd (false≢true is)
has_units kinds.Float (Long number) values tail is = absurd (false≢true is)
has_units kinds.Float (Double bits) values tail is = absurd (false≢true is)
has_units kinds.Float Null values tail is = absurd (false≢true is)
has_units kinds.Float (Ref reference) values tail is = absurd (false≢true is)
has_units kinds.Double (Int number) values tail is = absurd (false≢true is)
has_units kinds.Double (Long number) values tail is = absurd (false≢true is)
has_units kinds.Double (Float bits) values tail is = absurd (false≢true is)
has_units kinds.Double Null values tail is = absurd (false≢true is)
has_units kinds.Double (Ref reference) values tail is = absurd (false≢true is)
has_units kinds.Ref (Int number) values tail is = absurd (false≢true is)
has_units kinds.Ref (Long number) values tail is = absurd (false≢true is)
has_units kinds.Ref (Float bits) values tail is = absurd (false≢true is)
has_units kinds.Ref (Double bits) values tail is = absurd (false≢true is)

-- a local unit has the value of its kind
pub local_is : (kind : Kind) (locals : Units) (at : ℕ) (value : Value) → slice_get locals at ≡ Some (Some value)
    → IsTrue (has_kind kind value)
    → local_value kind locals at ≡ Some value
local_is kind locals at value is fits = rw (is, fits) refl

-- the units of values of fields are as many as those of the fields
pub units_behind : (fields : List Member) (values : List Value) (tail : Units) → FitTypes (types_of fields) values
    → drop (units_of_fields fields) (units_of_values values ++ tail) ≡ tail
units_behind [] [] tail fit = refl
units_behind [] (value ∷ values) tail fit = absurd fit
units_behind (field ∷ fields) [] tail fit = absurd fit
units_behind (field ∷ fields) (value ∷ values) tail fit =
    let kind = kind_of (type_of field.desc) in
    sym (drop-drop (units_of_fields fields) (units_of kind) (units_of_values (value ∷ values) ++ tail))
    ∙ ap (drop (units_of_fields fields)) (has_units kind value values tail fit.0).behind
    ∙ units_behind fields values tail fit.2

-- ---- two lists of values

-- a list cut in two
pub record CutInTwo (count more : ℕ) (values : List Value) : Type 0 where
  pub first : List Value
  pub second : List Value
  pub are : values ≡ first ++ second
  pub as_many : length first ≡ count
  pub as_many_also : length second ≡ more

pub cut_in_two : (count more : ℕ) (values : List Value) → length values ≡ count + more → CutInTwo count more values
cut_in_two zero more values many =
    record { first = []; second = values; are = refl; as_many = refl; as_many_also = omega (arith, many) }
cut_in_two (suc count) more [] many = absurd (omega (arith, many))
cut_in_two (suc count) more (value ∷ values) many =
    let rest = cut_in_two count more values (omega (arith, many)) in
    record {
      first = value ∷ rest.first;
      second = rest.second;
      are = ap (λ (vs : List Value). value ∷ vs) rest.are;
      as_many = ap suc rest.as_many;
      as_many_also = rest.as_many_also;
    }

pub none_left : (values : List Value) → length values ≡ 0 → values ≡ []
none_left [] none = refl
none_left (value ∷ values) none = absurd (omega (arith, none))
