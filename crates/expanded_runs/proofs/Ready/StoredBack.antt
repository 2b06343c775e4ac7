-- What types of uninitialised objects there are behind a store, and behind an initialiser, were there before.
use Rattle.std.proofs.Common.{◌≡◌, ◌≢◌, ◌+◌, ◌<◌, ◌⊎◌, ℕ, zero, suc, Bool, true, false, List, [], ◌∷◌, length, map, slice_get, Option, Some, None, option_map, if◌then◌else◌, refl, sym, ap, subst, ◌∙◌, arith, inl, inr}
use Rattle.std.specs.Prelude.{◌==◌, slice_set}
use Rattle.std.proofs.lemmas.Option.{none-some, same_Some, slice_get-map}
use Rattle.class_model.specs.Frames.{is_wide}
use Rattle.class_model.specs.declared.descriptor.Kind.{Kind}
use Rattle.class_model.specs.declared.descriptor.Kind.TheVariants as kinds
use Rattle.class_model.specs.declared.frame.VType.{VType}
use Rattle.class_model.specs.declared.frame.VType.TheVariants as types
use Rattle.member_link.specs.References.{Reference}
use Rattle.member_link.specs.RowScope.{RowScope}
use Rattle.member_link.specs.Rows.LocalRows.{HasRoom, cut_before, stored, with_units}
use Rattle.member_link.specs.Rows.MemberRows.{initialised_type}
use Rattle.member_link.specs.Rows.Operands.{IsUninitialised}
use Rattle.member_link.specs.Rows.Table.{without_older}

-- ---- items that are set

pub set_back : {A : Type 0} (items : List A) (at : ℕ) (y : A) (m : ℕ) (item : A) → slice_get (slice_set items at y) m ≡ Some item
    → ((m ≡ at) × (y ≡ item)) ⊎ ((m ≢ at) × (slice_get items m ≡ Some item))
set_back [] at y m item is = absurd (none-some item is)
set_back (first ∷ items) zero y zero item is = inl (refl, same_Some y item is)
set_back (first ∷ items) zero y (suc m) item is = inr (λ same. cc, is)
set_back (first ∷ items) (suc at) y zero item is = inr (λ same. cc, is)
set_back (first ∷ items) (suc at) y (suc m) item is = elim (set_back items at y m item is) [
  | inl here ↦ inl (ap suc here.0, here.1)
  | inr other ↦ inr (λ same. other.0 (let one : m ≡ at = cc in one), other.1)
]

-- ---- a store

no_top : {type : VType} → IsUninitialised type → types.Top ≡ type → ⊥
no_top new same = subst IsUninitialised (sym same) new

cut_back : (at : ℕ) (locals : List VType) (m : ℕ) (type : VType) → IsUninitialised type → slice_get (cut_before at locals) m ≡ Some type
    → slice_get locals m ≡ Some type
cut_back zero locals m type new is = is
cut_back (suc at) locals m type new is = by (slice_get locals at) refl where
  wide : (w : Bool) → slice_get (if w then slice_set locals at types.Top else locals) m ≡ Some type → slice_get locals m ≡ Some type
  wide true set = elim (set_back locals at types.Top m type set) [
    | inl here ↦ absurd (no_top new here.1)
    | inr other ↦ other.1
  ]
  wide false same = same

  by : (found : Option VType) → slice_get locals at ≡ found → slice_get locals m ≡ Some type
  by None none = rw (none) at is
  by (Some before) some = wide (is_wide before) (rw (some) at is)

abbrev pub StoredBack : ℕ → VType → List VType → ℕ → VType → Type 0
StoredBack at value locals m type =
    ((m ≡ at) × (value ≡ type)) ⊎ ((m ≢ at) × (slice_get locals m ≡ Some type))

one_back : (at : ℕ) (value : VType) (locals : List VType) (m : ℕ) (type : VType) → IsUninitialised type
    → slice_get (with_units at (value ∷ []) (cut_before at locals)) m ≡ Some type
    → StoredBack at value locals m type
one_back at value locals m type new is = elim (set_back (cut_before at locals) at value m type is) [
  | inl here ↦ inl here
  | inr other ↦ inr (other.0, cut_back at locals m type new other.1)
]

two_back : (at : ℕ) (value : VType) (locals : List VType) (m : ℕ) (type : VType) → IsUninitialised type
    → slice_get (with_units at (value ∷ types.Top ∷ []) (cut_before at locals)) m ≡ Some type
    → StoredBack at value locals m type
two_back at value locals m type new is = elim (set_back (slice_set (cut_before at locals) at value) (at + 1) types.Top m type is) [
  | inl here ↦ absurd (no_top new here.1)
  | inr other ↦ one_back at value locals m type new other.1
]

pub stored_back : (at : ℕ) (value : VType) (locals : List VType) (m : ℕ) (type : VType) → IsUninitialised type
    → slice_get (stored at value locals) m ≡ Some type
    → StoredBack at value locals m type
stored_back at types.Long locals m type new is = two_back at types.Long locals m type new is
stored_back at types.Double locals m type new is = two_back at types.Double locals m type new is
stored_back at value locals m type new is = one_back at value locals m type new is

-- a unit that is stored is there
pub room_within : (kind : Kind) (locals : List VType) (unit : ℕ) → HasRoom kind locals unit → unit < length locals
room_within kinds.Int locals unit room = omega (arith, room)
room_within kinds.Long locals unit room = omega (arith, room)
room_within kinds.Float locals unit room = omega (arith, room)
room_within kinds.Double locals unit room = omega (arith, room)
room_within kinds.Ref locals unit room = omega (arith, room)

-- ---- each type changed

-- what is behind a change of types that gives no uninitialised object another type's place
pub mapped_back : (change : VType → VType)
    → ((before type : VType) → IsUninitialised type → change before ≡ type → before ≡ type)
    → (entries : List VType) (m : ℕ) (type : VType) → IsUninitialised type → slice_get (map change entries) m ≡ Some type
    → slice_get entries m ≡ Some type
mapped_back change back entries m type new is = by (slice_get entries m) refl (sym (slice_get-map change entries m) ∙ is) where
  by : (found : Option VType) → slice_get entries m ≡ found → option_map change found ≡ Some type → slice_get entries m ≡ Some type
  by None found none = absurd (none-some type none)
  by (Some before) found some = found ∙ ap Some (back before type new (same_Some (change before) type some))

pub older_back : (at : ℕ) (before type : VType) → IsUninitialised type → without_older at before ≡ type → before ≡ type
older_back at (types.Uninit other) type new is = by (other == at) is where
  by : (b : Bool) → (if b then types.Top else types.Uninit other) ≡ type → types.Uninit other ≡ type
  by true top = absurd (no_top new top)
  by false same = same
older_back at before type new is = is

no_object : {name : List ℕ} {type : VType} → IsUninitialised type → types.Object name ≡ type → ⊥
no_object new same = subst IsUninitialised (sym same) new

pub initialised_back : (s : RowScope) (r : Reference) (object before type : VType) → IsUninitialised type
    → initialised_type s r object before ≡ type
    → before ≡ type
initialised_back s r (types.Uninit at) (types.Uninit other) type new is = by (other == at) is where
  by : (b : Bool) → (if b then types.Object r.class else types.Uninit other) ≡ type → types.Uninit other ≡ type
  by true named = absurd (no_object new named)
  by false same = same
initialised_back s r (types.Uninit at) before type new is = is
initialised_back s r types.UninitThis types.UninitThis type new is = absurd (no_object new is)
initialised_back s r types.UninitThis before type new is = is
initialised_back s r object before type new is = is
