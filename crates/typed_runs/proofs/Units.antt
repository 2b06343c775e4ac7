use Rattle.std.specs.Prelude.{◌≡◌, ◌+◌, ◌≤◌, nat_le, refl, ℕ, zero, suc, Bool, true, false, List, [], ◌∷◌, length, slice_get, slice_set, Option, Some, None, IsTrue, if◌then◌else◌}
use Rattle.std.proofs.Common.{arith, ap, subst}
use Rattle.std.proofs.lemmas.Bool.{le-leb}
use Rattle.class_model.specs.Frames.{is_wide, units}
use Rattle.class_model.specs.declared.descriptor.Kind.{Kind}
use Rattle.class_model.specs.declared.descriptor.Kind.TheVariants as kinds
use Rattle.class_model.specs.declared.frame.VType.{VType}
use Rattle.class_model.specs.declared.frame.VType.TheVariants as types
use Rattle.machine_values.specs.Heaps.{Heap}
use Rattle.machine_values.specs.Values.{has_kind, is_wide_value}
use Rattle.machine_values.specs.declared.value.Value.{Value}
use Rattle.member_link.specs.Machine.Locals as machine
use Rattle.member_link.specs.Machine.Locals.{local_value, width_of}
use Rattle.member_link.specs.Machine.Programs.{Program}
use Rattle.member_link.specs.RowScope.{RowScope}
use Rattle.member_link.specs.Rows.LocalRows.{HasRoom, stored, cut_before}
use Rattle.member_link.specs.Rows.Operands.{IsOfKind}
use Rattle.typed_runs.specs.Conforming.{Conforms, to_top, an_int, a_long, a_float, a_double, only_null, null_object, an_object, of_new, of_this, UnitConforms, no_value, has_value, UnitsConform, no_units, and_unit}

-- ---- a value of a kind

pub kind_conforms : {P : Program} {s : RowScope} {h : Heap} (k : Kind) {t : VType} {v : Value} → IsOfKind k t → Conforms P s h t v → IsTrue (has_kind k v)
kind_conforms kinds.Int is an_int = refl
kind_conforms kinds.Long is a_long = refl
kind_conforms kinds.Float is a_float = refl
kind_conforms kinds.Double is a_double = refl
kind_conforms kinds.Ref is only_null = refl
kind_conforms kinds.Ref is null_object = refl
kind_conforms kinds.Ref is (an_object sh c) = refl
kind_conforms kinds.Ref is (of_new n sh c) = refl
kind_conforms kinds.Ref is (of_this sh b) = refl
kind_conforms kinds.Ref is (to_top v) = absurd is
kind_conforms kinds.Ref is an_int = absurd is
kind_conforms kinds.Ref is a_long = absurd is
kind_conforms kinds.Ref is a_float = absurd is
kind_conforms kinds.Ref is a_double = absurd is
kind_conforms k is c = cc

-- a value is as wide as its type, where that is no Top
pub wide_conforms : {P : Program} {s : RowScope} {h : Heap} (k : Kind) {t : VType} {v : Value} → IsOfKind k t → Conforms P s h t v → is_wide_value v ≡ is_wide t
wide_conforms k is an_int = refl
wide_conforms k is a_long = refl
wide_conforms k is a_float = refl
wide_conforms k is a_double = refl
wide_conforms k is only_null = refl
wide_conforms k is null_object = refl
wide_conforms k is (an_object sh c) = refl
wide_conforms k is (of_new n sh c) = refl
wide_conforms k is (of_this sh b) = refl
wide_conforms kinds.Int is (to_top v) = cc
wide_conforms kinds.Long is (to_top v) = cc
wide_conforms kinds.Float is (to_top v) = cc
wide_conforms kinds.Double is (to_top v) = cc
wide_conforms kinds.Ref is (to_top v) = absurd is

-- ---- units

pub as_many_units : {P : Program} {s : RowScope} {h : Heap} {ts : List VType} {us : List (Option Value)} → UnitsConform P s h ts us → length ts ≡ length us
as_many_units no_units = refl
as_many_units (and_unit one others) = ap suc (as_many_units others)

pub record UnitAt (P : Program) (s : RowScope) (h : Heap) (t : VType) (us : List (Option Value)) (at : ℕ) : Type 0 where
  pub unit : Option Value
  pub is_there : slice_get us at ≡ Some unit
  pub conforms : UnitConforms P s h t unit

pub unit_at : {P : Program} {s : RowScope} {h : Heap} {ts : List VType} {us : List (Option Value)} → UnitsConform P s h ts us → (at : ℕ) (t : VType) → slice_get ts at ≡ Some t → UnitAt P s h t us at
unit_at no_units at t is = cc
unit_at {P = P} {s = s} {h = h} (and_unit {type = type} {unit = unit} one others) zero t is =
    record { unit = unit; is_there = refl; conforms = subst (λ x. UnitConforms P s h x unit) (let e : type ≡ t = cc in e) one }
unit_at (and_unit one others) (suc at) t is = let u = unit_at others at t is in record { unit = u.unit; is_there = u.is_there; conforms = u.conforms }

-- a local that holds a value of a kind
pub record LocalAt (P : Program) (s : RowScope) (h : Heap) (k : Kind) (t : VType) (us : List (Option Value)) (at : ℕ) : Type 0 where
  pub value : Value
  pub is_there : slice_get us at ≡ Some (Some value)
  pub conforms : Conforms P s h t value
  pub loaded : local_value k us at ≡ Some value

pub of_unit : {P : Program} {s : RowScope} {h : Heap} (k : Kind) {t : VType} {us : List (Option Value)} {at : ℕ} (u : Option Value) → IsOfKind k t → slice_get us at ≡ Some u → UnitConforms P s h t u → LocalAt P s h k t us at
of_unit kinds.Ref u is there no_value = absurd is
of_unit k u is there no_value = cc
of_unit k u is there (has_value {value = v} c) =
    let yes : has_kind k v ≡ true = kind_conforms k is c in
    record { value = v; is_there = there; conforms = c; loaded = rw there (rw yes refl) }

pub local_at : {P : Program} {s : RowScope} {h : Heap} {ts : List VType} {us : List (Option Value)} (k : Kind) → UnitsConform P s h ts us → (at : ℕ) (t : VType) → slice_get ts at ≡ Some t → IsOfKind k t → LocalAt P s h k t us at
local_at k units at t there is = let u = unit_at units at t there in of_unit k u.unit is u.is_there u.conforms

-- ---- stores

pub set_conforms : {P : Program} {s : RowScope} {h : Heap} {ts : List VType} {us : List (Option Value)} → UnitsConform P s h ts us → (at : ℕ) {t : VType} {u : Option Value} → UnitConforms P s h t u → UnitsConform P s h (slice_set ts at t) (slice_set us at u)
set_conforms no_units zero new = no_units
set_conforms no_units (suc at) new = no_units
set_conforms (and_unit one others) zero new = and_unit new others
set_conforms (and_unit one others) (suc at) new = and_unit one (set_conforms others at new)

-- what holds a value may hold none where its type is Top
pub unset : {P : Program} {s : RowScope} {h : Heap} {ts : List VType} {us : List (Option Value)} → UnitsConform P s h ts us → (at : ℕ) → slice_get ts at ≡ Some types.Top → UnitsConform P s h ts (slice_set us at None)
unset no_units at is = cc
unset {P = P} {s = s} {h = h} (and_unit {type = type} one others) zero is = and_unit (subst (λ t. UnitConforms P s h t None) (let e : types.Top ≡ type = cc in e) no_value) others
unset (and_unit one others) (suc at) is = and_unit one (unset others at is)

pub types_cut : (ts : List VType) (at : ℕ) (t : VType) → slice_get ts at ≡ Some t → cut_before (suc at) ts ≡ (if is_wide t then slice_set ts at types.Top else ts)
types_cut ts at t is = rw is refl

pub units_cut : (us : List (Option Value)) (at : ℕ) (v : Value) → slice_get us at ≡ Some (Some v) → machine.cut_before (suc at) us ≡ (if is_wide_value v then slice_set us at None else us)
units_cut us at v is = rw is refl

pub cut_unit : {P : Program} {s : RowScope} {h : Heap} {ts : List VType} {us : List (Option Value)} (at : ℕ) (t : VType) (u : Option Value) → UnitsConform P s h ts us
    → slice_get ts at ≡ Some t → slice_get us at ≡ Some u → UnitConforms P s h t u → UnitsConform P s h (cut_before (suc at) ts) (machine.cut_before (suc at) us)
cut_unit at t u units type unit no_value = rw type (rw unit units)
cut_unit {P = P} {s = s} {h = h} {ts = ts} {us = us} at t u units type unit (has_value (to_top {value = v} is)) =
    rw type (rw (units_cut us at v unit) (by (is_wide_value v))) where
      by : (b : Bool) → UnitsConform P s h ts (if b then slice_set us at None else us)
      by true = unset units at type
      by false = units
cut_unit at t u units type unit (has_value an_int) = rw type (rw unit units)
cut_unit at t u units type unit (has_value a_long) = rw type (rw unit (set_conforms units at no_value))
cut_unit at t u units type unit (has_value a_float) = rw type (rw unit units)
cut_unit at t u units type unit (has_value a_double) = rw type (rw unit (set_conforms units at no_value))
cut_unit at t u units type unit (has_value only_null) = rw type (rw unit units)
cut_unit at t u units type unit (has_value null_object) = rw type (rw unit units)
cut_unit at t u units type unit (has_value (an_object sh c)) = rw type (rw unit units)
cut_unit at t u units type unit (has_value (of_new n sh c)) = rw type (rw unit units)
cut_unit at t u units type unit (has_value (of_this sh b)) = rw type (rw unit units)

pub no_unit_at : {P : Program} {s : RowScope} {h : Heap} {ts : List VType} {us : List (Option Value)} → UnitsConform P s h ts us → (at : ℕ) → slice_get ts at ≡ None → slice_get us at ≡ None
no_unit_at no_units at is = refl
no_unit_at (and_unit one others) zero is = cc
no_unit_at (and_unit one others) (suc at) is = no_unit_at others at is

pub cut_conforms : {P : Program} {s : RowScope} {h : Heap} {ts : List VType} {us : List (Option Value)} → UnitsConform P s h ts us → (at : ℕ) → UnitsConform P s h (cut_before at ts) (machine.cut_before at us)
cut_conforms units zero = units
cut_conforms {P = P} {s = s} {h = h} {ts = ts} {us = us} units (suc at) = by (slice_get ts at) refl where
  by : (t : Option VType) → slice_get ts at ≡ t → UnitsConform P s h (cut_before (suc at) ts) (machine.cut_before (suc at) us)
  by None none = rw none (rw (no_unit_at units at none) units)
  by (Some t) some = let u = unit_at units at t some in cut_unit at t u.unit units some u.is_there u.conforms

pub record Stored (P : Program) (s : RowScope) (h : Heap) (t : VType) (ts : List VType) (at : ℕ) (v : Value) (us : List (Option Value)) : Type 0 where
  pub units : List (Option Value)
  pub is_stored : machine.stored at v us ≡ Some units
  pub conform : UnitsConform P s h (stored at t ts) units

module _ {P : Program} {s : RowScope} {h : Heap} {t : VType} {ts : List VType} {v : Value} {us : List (Option Value)} (at : ℕ) (units : UnitsConform P s h ts us) where
  -- a value of one unit, and of two
  pub store_one : is_wide_value v ≡ false → stored at t ts ≡ slice_set (cut_before at ts) at t → at + 1 ≤ length ts → Conforms P s h t v → Stored P s h t ts at v us
  store_one narrow types room c =
      let many : length ts ≡ length us = as_many_units units in
      let fits : nat_le (at + 1) (length us) ≡ true = le-leb (at + 1) (length us) (omega (arith, room, many)) in
      record {
        units = slice_set (machine.cut_before at us) at (Some v);
        is_stored = rw narrow (rw fits refl);
        conform = rw types (set_conforms (cut_conforms units at) at (has_value c));
      }

  pub store_two : is_wide_value v ≡ true → stored at t ts ≡ slice_set (slice_set (cut_before at ts) at t) (at + 1) types.Top → at + 2 ≤ length ts → Conforms P s h t v → Stored P s h t ts at v us
  store_two wide types room c =
      let many : length ts ≡ length us = as_many_units units in
      let fits : nat_le (at + 2) (length us) ≡ true = le-leb (at + 2) (length us) (omega (arith, room, many)) in
      record {
        units = slice_set (slice_set (machine.cut_before at us) at (Some v)) (at + 1) None;
        is_stored = rw wide (rw fits refl);
        conform = rw types (set_conforms (set_conforms (cut_conforms units at) at (has_value c)) (at + 1) no_value);
      }

pub store_conforms : {P : Program} {s : RowScope} {h : Heap} {ts : List VType} {us : List (Option Value)} (at : ℕ) → UnitsConform P s h ts us → (k : Kind) {t : VType} {v : Value} → IsOfKind k t → HasRoom k ts at → Conforms P s h t v → Stored P s h t ts at v us
store_conforms at units kinds.Int is room an_int = store_one at units refl refl room an_int
store_conforms at units kinds.Float is room a_float = store_one at units refl refl room a_float
store_conforms at units kinds.Long is room a_long = store_two at units refl refl room a_long
store_conforms at units kinds.Double is room a_double = store_two at units refl refl room a_double
store_conforms at units kinds.Ref is room only_null = store_one at units refl refl room only_null
store_conforms at units kinds.Ref is room null_object = store_one at units refl refl room null_object
store_conforms at units kinds.Ref is room (an_object sh c) = store_one at units refl refl room (an_object sh c)
store_conforms at units kinds.Ref is room (of_new n sh c) = store_one at units refl refl room (of_new n sh c)
store_conforms at units kinds.Ref is room (of_this sh b) = store_one at units refl refl room (of_this sh b)
store_conforms at units kinds.Ref is room c = absurd is
store_conforms at units k is room c = cc

pub set_same : {A : Type 0} (xs : List A) (at : ℕ) (x : A) → slice_get xs at ≡ Some x → slice_set xs at x ≡ xs
set_same [] at x is = cc
set_same (y ∷ xs) zero x is = cc
set_same (y ∷ xs) (suc at) x is = ap (λ ys. y ∷ ys) (set_same xs at x is)
