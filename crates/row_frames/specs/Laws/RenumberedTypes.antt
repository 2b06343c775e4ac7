-- Types whose uninitialised objects have other numbers: what a row asks of them, and what they are assignable to, is the same.
use Rattle.std.proofs.Common.{◌≡◌, ◌-◌, ℕ, Bool, List, [], ◌∷◌, length, map, Option, IsTrue, refl, sym, ap, subst, inl, inr}
use Rattle.std.specs.List.{list_any}
use Rattle.std.proofs.lemmas.List.{drop-map, take-map, length-map}
use Rattle.class_model.specs.Code.{verification_type}
use Rattle.class_model.specs.Frames.{is_wide, units}
use Rattle.class_model.specs.declared.descriptor.FieldType.{FieldType}
use Rattle.class_model.specs.declared.descriptor.FieldType.TheVariants.{Named}
use Rattle.class_model.specs.declared.descriptor.Kind.{Kind}
use Rattle.class_model.specs.declared.descriptor.Kind.TheVariants as kinds
use Rattle.class_model.specs.declared.frame.Frame.{Frame}
use Rattle.class_model.specs.declared.frame.VType.{VType}
use Rattle.class_model.specs.declared.frame.VType.TheVariants as types
use Rattle.class_tree.specs.Headers.{Name, Headers}
use Rattle.row_frames.specs.Laws.NumberedFrames.{numbered_type, numbered_frame}
use Rattle.member_link.specs.Assignability.{IsAssignable, to_same, to_top, from_null, of_names}
use Rattle.member_link.specs.RowScope.{RowScope}
use Rattle.member_link.specs.Rows.FrameAssignability.{AreAssignable, IsFrameAssignable, is_uninit_this}
use Rattle.member_link.specs.Rows.Operands.{AllFit, Fits, IsInitialised, IsNullOr, IsOfKind, IsReference, IsUninitialised, Need, array_among, array_of_references, assignable_or_this, assignable_to, double, initialised, is_single, lowest_of, nothing, of_kind, single, some_array, topmost, under, uninitialised}

-- the scope of rows in a code where a new stands at another place
abbrev pub renumbered : RowScope → ℕ → (ℕ → Option Name) → RowScope
renumbered s room news = record s { max_stack = room; new_class = news }

module _ (number : ℕ → ℕ) where
  -- ---- sorts of types

  pub wide_same : (type : VType) → is_wide (numbered_type number type) ≡ is_wide type
  wide_same (types.Uninit at) = refl
  wide_same other = refl

  pub single_same : (type : VType) → is_single (numbered_type number type) ≡ is_single type
  single_same (types.Uninit at) = refl
  single_same other = refl

  pub this_same : (type : VType) → is_uninit_this (numbered_type number type) ≡ is_uninit_this type
  this_same (types.Uninit at) = refl
  this_same other = refl

  pub units_same : (type : VType) → units (numbered_type number type) ≡ map (numbered_type number) (units type)
  units_same (types.Uninit at) = refl
  units_same other = refl

  reference_kept : (type : VType) → IsReference type → IsReference (numbered_type number type)
  reference_kept (types.Uninit at) is = is
  reference_kept other is = is

  initialised_kept : (type : VType) → IsInitialised type → IsInitialised (numbered_type number type)
  initialised_kept (types.Uninit at) is = is
  initialised_kept other is = is

  uninitialised_kept : (type : VType) → IsUninitialised type → IsUninitialised (numbered_type number type)
  uninitialised_kept (types.Uninit at) is = is
  uninitialised_kept other is = is

  null_or_kept : (IsKnown : Name → Type 0) (type : VType) → IsNullOr IsKnown type → IsNullOr IsKnown (numbered_type number type)
  null_or_kept IsKnown (types.Uninit at) is = is
  null_or_kept IsKnown other is = is

  pub kind_kept : (kind : Kind) (type : VType) → IsOfKind kind type → IsOfKind kind (numbered_type number type)
  kind_kept kinds.Int type is = ap (numbered_type number) is
  kind_kept kinds.Long type is = ap (numbered_type number) is
  kind_kept kinds.Float type is = ap (numbered_type number) is
  kind_kept kinds.Double type is = ap (numbered_type number) is
  kind_kept kinds.Ref type is = reference_kept type is

  -- types that name no object
  pub verification_same : (type : FieldType) → numbered_type number (verification_type type) ≡ verification_type type
  verification_same (Named name) = refl
  verification_same other = refl

  -- ---- assignability

  pub assignable_kept : (headers : Headers) {from to : VType} → IsAssignable headers from to
      → IsAssignable headers (numbered_type number from) (numbered_type number to)
  assignable_kept headers (to_same type) = to_same (numbered_type number type)
  assignable_kept headers (to_top type) = to_top (numbered_type number type)
  assignable_kept headers (from_null name) = from_null name
  assignable_kept headers (of_names low high is) = of_names low high is

  are_assignable_kept : (headers : Headers) (from to : List VType) → AreAssignable headers from to
      → AreAssignable headers (map (numbered_type number) from) (map (numbered_type number) to)
  are_assignable_kept headers [] [] are = tt
  are_assignable_kept headers [] (high ∷ highs) are = absurd are
  are_assignable_kept headers (low ∷ lows) [] are = absurd are
  are_assignable_kept headers (low ∷ lows) (high ∷ highs) are =
      (assignable_kept headers are.0, are_assignable_kept headers lows highs are.1)

  any_this_same : (entries : List VType) → list_any is_uninit_this (map (numbered_type number) entries) ≡ list_any is_uninit_this entries
  any_this_same [] = refl
  any_this_same (entry ∷ entries) = rw (this_same entry, any_this_same entries) refl

  pub frame_assignable_kept : (headers : Headers) (from to : Frame) → IsFrameAssignable headers from to
      → IsFrameAssignable headers (numbered_frame number from) (numbered_frame number to)
  frame_assignable_kept headers from to is = record {
    locals = are_assignable_kept headers from.locals to.locals is.locals;
    stack = are_assignable_kept headers from.stack to.stack is.stack;
    keeps_this =
        λ has. subst (λ (b : Bool). IsTrue b) (sym (any_this_same to.locals))
        (is.keeps_this (subst (λ (b : Bool). IsTrue b) (any_this_same from.locals) has));
  }

  -- ---- the stack

  pub topmost_same : (count : ℕ) (stack : List VType)
      → topmost count (map (numbered_type number) stack) ≡ map (numbered_type number) (topmost count stack)
  topmost_same count stack = rw (length-map stack (numbered_type number)) (drop-map (numbered_type number) (length stack - count) stack)

  pub under_same : (count : ℕ) (stack : List VType)
      → under count (map (numbered_type number) stack) ≡ map (numbered_type number) (under count stack)
  under_same count stack = rw (length-map stack (numbered_type number)) (take-map (numbered_type number) (length stack - count) stack)

  pub lowest_same : (count : ℕ) (stack : List VType)
      → lowest_of count (map (numbered_type number) stack) ≡ numbered_type number (lowest_of count stack)
  lowest_same count stack = by (topmost count stack) refl where
    by : (entries : List VType) → topmost count stack ≡ entries
        → lowest_of count (map (numbered_type number) stack) ≡ numbered_type number (lowest_of count stack)
    by [] are = rw (topmost_same count stack, are) refl
    by (entry ∷ entries) are = rw (topmost_same count stack, are) refl

  -- ---- what is asked of operands

  abbrev pub numbered_need : Need → Need
  numbered_need (assignable_to wanted) = assignable_to (numbered_type number wanted)
  numbered_need (assignable_or_this wanted) = assignable_or_this (numbered_type number wanted)
  numbered_need need = need

  fits_kept : (s : RowScope) (room : ℕ) (news : ℕ → Option Name) (need : Need) (type : VType) → Fits s need type
      → Fits (renumbered s room news) (numbered_need need) (numbered_type number type)
  fits_kept s room news (of_kind kind) type fits = kind_kept kind type fits
  fits_kept s room news initialised type fits = initialised_kept type fits
  fits_kept s room news uninitialised type fits = uninitialised_kept type fits
  fits_kept s room news (assignable_to wanted) type fits = assignable_kept s.headers fits
  fits_kept s room news (assignable_or_this wanted) type (inl fits) = inl (assignable_kept s.headers fits)
  fits_kept s room news (assignable_or_this wanted) type (inr this) = inr (ap (numbered_type number) this)
  fits_kept s room news (array_among names) type fits = null_or_kept _ type fits
  fits_kept s room news array_of_references type fits = null_or_kept _ type fits
  fits_kept s room news some_array type fits = null_or_kept _ type fits
  fits_kept s room news single type fits = subst (λ (b : Bool). IsTrue b) (sym (single_same type)) fits
  fits_kept s room news double type fits = subst (λ (b : Bool). IsTrue b) (sym (wide_same type)) fits
  fits_kept s room news nothing type fits = fits

  pub all_fit_kept : (s : RowScope) (room : ℕ) (news : ℕ → Option Name) (needs : List Need) (entries : List VType) → AllFit s needs entries
      → AllFit (renumbered s room news) (map numbered_need needs) (map (numbered_type number) entries)
  all_fit_kept s room news [] [] fit = tt
  all_fit_kept s room news [] (entry ∷ entries) fit = absurd fit
  all_fit_kept s room news (need ∷ needs) [] fit = absurd fit
  all_fit_kept s room news (need ∷ needs) (entry ∷ entries) fit =
      (fits_kept s room news need entry fit.0, all_fit_kept s room news needs entries fit.1)
