-- What a row asks of operands holds of what agrees with them as they are written.
use Rattle.std.proofs.Common.{◌≡◌, List, [], ◌∷◌, map, refl, sym, ap, subst, ◌∙◌, inl, inr}
use Rattle.std.specs.List.{AllByRecursion}
use Rattle.std.proofs.lemmas.Bool.{false≢true}
use Rattle.class_model.specs.Frames.{is_wide}
use Rattle.class_model.specs.declared.descriptor.Kind.{Kind}
use Rattle.class_model.specs.declared.descriptor.Kind.TheVariants as kinds
use Rattle.class_model.specs.declared.frame.VType.{VType}
use Rattle.class_model.specs.declared.frame.VType.TheVariants as types
use Rattle.class_tree.specs.Headers.{Headers, Name}
use Rattle.class_tree.specs.Subtype.{IsArray, IsReferenceComponent}
use Rattle.member_link.specs.Assignability.{IsAssignable, from_null, of_names, to_same, to_top}
use Rattle.member_link.specs.RowScope.{RowScope}
use Rattle.member_link.specs.Rows.Operands.{AllFit, Fits, IsAmong, IsInitialised, IsNullOr, IsOfKind, IsUninitialised, Need, array_among, array_of_references, assignable_or_this, assignable_to, double, initialised, is_single, nothing, of_kind, single, some_array, uninitialised}
use Rattle.written_types.proofs.AgreeLists.{AgreeAt}
use Rattle.written_types.proofs.WrittenTypes.{IsSteady, by_item, item_assignable, item_top, steady_item}
use Rattle.written_types.specs.Inner.CarriedFrames.{AgreeIn}
use Rattle.written_types.specs.Writing.{Writing}

-- what is asked names no uninitialised object
abbrev pub IsSteadyNeed : Need → Type 0
IsSteadyNeed (assignable_to wanted) = IsSteady wanted
IsSteadyNeed (assignable_or_this wanted) = IsSteady wanted
IsSteadyNeed need = Unit {0}

abbrev pub AreSteady : List Need → Type 0
AreSteady needs = AllByRecursion IsSteadyNeed needs

-- ---- one operand

module _ (w : Writing) where
  assignable_item : (headers : Headers) (type wanted : VType) → IsSteady wanted → IsAssignable headers type wanted
      → IsAssignable headers (by_item w type) wanted
  assignable_item headers type wanted steady is =
      subst (IsAssignable headers (by_item w type)) (steady_item w wanted steady) (item_assignable w is)

  this_item : (type : VType) → type ≡ types.UninitThis → by_item w type ≡ types.UninitThis
  this_item type is = ap (by_item w) is

  kind_item : (kind : Kind) (type : VType) → IsOfKind kind type → IsOfKind kind (by_item w type)
  kind_item kinds.Int type is = ap (by_item w) is
  kind_item kinds.Long type is = ap (by_item w) is
  kind_item kinds.Float type is = ap (by_item w) is
  kind_item kinds.Double type is = ap (by_item w) is
  kind_item kinds.Ref (types.Uninit at) is = tt
  kind_item kinds.Ref types.UninitThis is = tt
  kind_item kinds.Ref types.Null is = tt
  kind_item kinds.Ref (types.Object name) is = tt
  kind_item kinds.Ref types.Top is = is
  kind_item kinds.Ref types.Int is = is
  kind_item kinds.Ref types.Float is = is
  kind_item kinds.Ref types.Long is = is
  kind_item kinds.Ref types.Double is = is

  null_or_item : (Named : Name → Type 0) (type : VType) → IsNullOr Named type → IsNullOr Named (by_item w type)
  null_or_item Named (types.Uninit at) is = is
  null_or_item Named types.UninitThis is = is
  null_or_item Named types.Null is = is
  null_or_item Named (types.Object name) is = is
  null_or_item Named types.Top is = is
  null_or_item Named types.Int is = is
  null_or_item Named types.Float is = is
  null_or_item Named types.Long is = is
  null_or_item Named types.Double is = is

  initialised_item : (type : VType) → IsInitialised type → IsInitialised (by_item w type)
  initialised_item (types.Uninit at) is = is
  initialised_item types.UninitThis is = is
  initialised_item types.Null is = is
  initialised_item (types.Object name) is = is
  initialised_item types.Top is = is
  initialised_item types.Int is = is
  initialised_item types.Float is = is
  initialised_item types.Long is = is
  initialised_item types.Double is = is

  uninitialised_item : (type : VType) → IsUninitialised type → IsUninitialised (by_item w type)
  uninitialised_item (types.Uninit at) is = is
  uninitialised_item types.UninitThis is = is
  uninitialised_item types.Null is = is
  uninitialised_item (types.Object name) is = is
  uninitialised_item types.Top is = is
  uninitialised_item types.Int is = is
  uninitialised_item types.Float is = is
  uninitialised_item types.Long is = is
  uninitialised_item types.Double is = is

  single_item : (type : VType) → is_single (by_item w type) ≡ is_single type
  single_item (types.Uninit at) = refl
  single_item types.UninitThis = refl
  single_item types.Null = refl
  single_item (types.Object name) = refl
  single_item types.Top = refl
  single_item types.Int = refl
  single_item types.Float = refl
  single_item types.Long = refl
  single_item types.Double = refl

  pub wide_item : (type : VType) → is_wide (by_item w type) ≡ is_wide type
  wide_item (types.Uninit at) = refl
  wide_item types.UninitThis = refl
  wide_item types.Null = refl
  wide_item (types.Object name) = refl
  wide_item types.Top = refl
  wide_item types.Int = refl
  wide_item types.Float = refl
  wide_item types.Long = refl
  wide_item types.Double = refl

  -- what is asked of a type is so of it by its item
  fits_item : (sc : RowScope) (need : Need) (type : VType) → IsSteadyNeed need → Fits sc need type → Fits sc need (by_item w type)
  fits_item sc (of_kind kind) type steady fits = kind_item kind type fits
  fits_item sc initialised type steady fits = initialised_item type fits
  fits_item sc uninitialised type steady fits = uninitialised_item type fits
  fits_item sc (assignable_to wanted) type steady fits = assignable_item sc.headers type wanted steady fits
  fits_item sc (assignable_or_this wanted) type steady (inl fits) = inl (assignable_item sc.headers type wanted steady fits)
  fits_item sc (assignable_or_this wanted) type steady (inr is) = inr (this_item type is)
  fits_item sc (array_among names) type steady fits = null_or_item (IsAmong names) type fits
  fits_item sc array_of_references type steady fits =
      null_or_item (λ name. (component : Name) × IsReferenceComponent name component) type fits
  fits_item sc some_array type steady fits = null_or_item IsArray type fits
  fits_item sc single type steady fits = single_item type ∙ fits
  fits_item sc double type steady fits = wide_item type ∙ fits
  fits_item sc nothing type steady fits = fits

from_top : (headers : Headers) (one low high : VType) → low ≡ types.Top → IsAssignable headers low high → IsAssignable headers one high
from_top headers one low high top (to_same type) = subst (IsAssignable headers one) (sym top) (to_top one)
from_top headers one low high top (to_top type) = to_top one
from_top headers one low high top (from_null name) = absurd cc
from_top headers one low high top (of_names low_name high_name named) = absurd cc

-- what is asked of Top is asked of nothing
fits_top : (sc : RowScope) (need : Need) (type : VType) → Fits sc need types.Top → Fits sc need type
fits_top sc (of_kind kinds.Int) type fits = absurd cc
fits_top sc (of_kind kinds.Long) type fits = absurd cc
fits_top sc (of_kind kinds.Float) type fits = absurd cc
fits_top sc (of_kind kinds.Double) type fits = absurd cc
fits_top sc (of_kind kinds.Ref) type fits = absurd fits
fits_top sc initialised type fits = absurd fits
fits_top sc uninitialised type fits = absurd fits
fits_top sc (assignable_to wanted) type fits = from_top sc.headers type types.Top wanted refl fits
fits_top sc (assignable_or_this wanted) type (inl fits) = inl (from_top sc.headers type types.Top wanted refl fits)
fits_top sc (assignable_or_this wanted) type (inr is) = absurd cc
fits_top sc (array_among names) type fits = absurd fits
fits_top sc array_of_references type fits = absurd fits
fits_top sc some_array type fits = absurd fits
fits_top sc single type fits = absurd (false≢true fits)
fits_top sc double type fits = absurd (false≢true fits)
fits_top sc nothing type fits = absurd fits

pub fits_agreeing : (w : Writing) (sc : RowScope) (need : Need) (type one : VType) → IsSteadyNeed need → Fits sc need type
    → AgreeAt one (by_item w type)
    → Fits sc need one
fits_agreeing w sc need type one steady fits (inl top) =
    fits_top sc need one (subst (Fits sc need) (item_top w type top) fits)
fits_agreeing w sc need type one steady fits (inr same) = subst (Fits sc need) (sym same) (fits_item w sc need type steady fits)

-- of another scope among the same classes
fits_scope : (sc other : RowScope) → other.headers ≡ sc.headers → (need : Need) (type : VType) → Fits sc need type → Fits other need type
fits_scope sc other same (of_kind kind) type fits = fits
fits_scope sc other same initialised type fits = fits
fits_scope sc other same uninitialised type fits = fits
fits_scope sc other same (assignable_to wanted) type fits = subst (λ (headers : Headers). IsAssignable headers type wanted) (sym same) fits
fits_scope sc other same (assignable_or_this wanted) type (inl fits) =
    inl (subst (λ (headers : Headers). IsAssignable headers type wanted) (sym same) fits)
fits_scope sc other same (assignable_or_this wanted) type (inr is) = inr is
fits_scope sc other same (array_among names) type fits = fits
fits_scope sc other same array_of_references type fits = fits
fits_scope sc other same some_array type fits = fits
fits_scope sc other same single type fits = fits
fits_scope sc other same double type fits = fits
fits_scope sc other same nothing type fits = fits

-- ---- operands

pub all_agreeing : (w : Writing) (sc other : RowScope) → other.headers ≡ sc.headers
    → (needs : List Need) (all ones : List VType)
    → AreSteady needs
    → AllFit sc needs all
    → AgreeIn ones (map (by_item w) all)
    → AllFit other needs ones
all_agreeing w sc other same [] [] [] steady fit agree = tt
all_agreeing w sc other same [] [] (one ∷ ones) steady fit agree = absurd agree
all_agreeing w sc other same [] (type ∷ all) ones steady fit agree = absurd fit
all_agreeing w sc other same (need ∷ needs) [] ones steady fit agree = absurd fit
all_agreeing w sc other same (need ∷ needs) (type ∷ all) [] steady fit agree = absurd agree
all_agreeing w sc other same (need ∷ needs) (type ∷ all) (one ∷ ones) steady fit agree = (
  fits_scope sc other same need one (fits_agreeing w sc need type one steady.0 fit.0 agree.0),
  all_agreeing w sc other same needs all ones steady.1 fit.1 agree.1,
)
