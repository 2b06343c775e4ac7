-- Types of a method that stands in flat code, as they are read: what a row asks of them, and what they are assignable to, is the same
-- where they are initialised or of an object that is no candidate site's.
use Rattle.std.proofs.Common.{◌≡◌, ◌+◌, ◌-◌, ◌≤◌, ℕ, suc, Bool, true, false, List, [], ◌∷◌, ◌++◌, length, map, take, drop, Option, Some, None, IsTrue, refl, sym, ap, subst, ◌∙◌, arith}
use Rattle.std.proofs.lemmas.List.{drop-map, take-map, length-map, length-append}
use Rattle.std.proofs.Math.Seq.{drop-append-add, take-append-add}
use Rattle.std.specs.List.{AllByRecursion}
use Rattle.class_model.specs.Code.{verification_type}
use Rattle.class_model.specs.Frames.{is_wide, units}
use Rattle.class_model.specs.declared.descriptor.FieldType.{FieldType}
use Rattle.class_model.specs.declared.descriptor.FieldType.TheVariants.{Named}
use Rattle.class_model.specs.declared.descriptor.Kind.{Kind}
use Rattle.class_model.specs.declared.descriptor.Kind.TheVariants as kinds
use Rattle.class_model.specs.declared.frame.Frame.{Frame}
use Rattle.class_model.specs.declared.frame.VType.{VType}
use Rattle.class_model.specs.declared.frame.VType.TheVariants as types
use Rattle.class_model.specs.declared.header.Header.{Header}
use Rattle.class_tree.specs.Headers.{Name, Headers}
use Rattle.expanded_code.specs.Expanded.{overlaid}
use Rattle.member_link.specs.Assignability.{IsAssignable, to_same, to_top, from_null, of_names}
use Rattle.member_link.specs.RowScope.{RowScope}
use Rattle.member_link.specs.Rows.Operands.{AllFit, Fits, IsInitialised, IsNullOr, IsOfKind, IsReference, Need, array_among, array_of_references, assignable_or_this, assignable_to, double, initialised, is_single, lowest_of, nothing, of_kind, single, some_array, topmost, under, uninitialised}

-- ---- a place

-- What the rows of a flat code read that those of a method in it read of its own: the current class and the method, the room of the
-- stack, and the class of each new.
pub record Around : Type 0 where
  pub own : Header
  pub is_init : Bool
  pub is_clinit : Bool
  pub result : Option FieldType
  pub room : ℕ
  pub news : ℕ → Option Name

-- A method in its place, as its types see it: the number of each point by its offset; the class of the candidate site at a point; the class
-- of its uninitialised object, if that is a site's; its first unit; and what its callers have, read.
pub record Place : Type 0 where
  pub number : ℕ → ℕ
  pub site : ℕ → Option Name
  pub this : Option Name
  pub unit : ℕ
  pub below : Frame
  -- what its own rows read, and those of the flat code
  pub scope : RowScope
  pub around : Around

-- what the rows of the flat code read, with the constants of the method's class
abbrev pub flat_scope : Place → RowScope
flat_scope p = record p.scope {
  own = p.around.own;
  is_init = p.around.is_init;
  is_clinit = p.around.is_clinit;
  result = p.around.result;
  max_stack = p.around.room;
  new_class = p.around.news;
}

-- ---- types

-- an object that the new at a point makes, by the class of the site there
abbrev pub new_type : Option Name → ℕ → VType
new_type None at = types.Uninit at
new_type (Some class) at = types.Object class

abbrev pub this_type : Option Name → VType
this_type None = types.UninitThis
this_type (Some class) = types.Object class

abbrev pub placed_type : Place → VType → VType
placed_type p (types.Uninit at) = new_type (p.site (p.number at)) (p.number at)
placed_type p types.UninitThis = this_type p.this
placed_type p type = type

-- locals as a block of the flat code's
abbrev pub placed_locals : Place → List VType → List VType
placed_locals p own = overlaid p.unit (map (placed_type p) own) p.below.locals

-- entries on the stack of its callers
abbrev pub placed_stack : Place → List VType → List VType
placed_stack p own = p.below.stack ++ map (placed_type p) own

abbrev pub placed_frame : Place → Frame → Frame
placed_frame p frame = record {
  locals = placed_locals p frame.locals;
  stack = placed_stack p frame.stack;
}

module _ (p : Place) where
  -- ---- sorts of types

  new_by : (Holds : VType → Type 0) → ((at : ℕ) → Holds (types.Uninit at)) → ((class : Name) → Holds (types.Object class))
      → (site : Option Name) (at : ℕ) → Holds (new_type site at)
  new_by Holds new object None at = new at
  new_by Holds new object (Some class) at = object class

  this_by : (Holds : VType → Type 0) → Holds types.UninitThis → ((class : Name) → Holds (types.Object class)) → (this : Option Name)
      → Holds (this_type this)
  this_by Holds this object None = this
  this_by Holds this object (Some class) = object class

  pub wide_same : (type : VType) → is_wide (placed_type p type) ≡ is_wide type
  wide_same (types.Uninit at) = new_by (λ type. is_wide type ≡ false) (λ n. refl) (λ class. refl) (p.site (p.number at)) (p.number at)
  wide_same types.UninitThis = this_by (λ type. is_wide type ≡ false) refl (λ class. refl) p.this
  wide_same other = refl

  pub single_same : (type : VType) → is_single (placed_type p type) ≡ is_single type
  single_same (types.Uninit at) = new_by (λ type. is_single type ≡ true) (λ n. refl) (λ class. refl) (p.site (p.number at)) (p.number at)
  single_same types.UninitThis = this_by (λ type. is_single type ≡ true) refl (λ class. refl) p.this
  single_same other = refl

  pub units_same : (type : VType) → units (placed_type p type) ≡ map (placed_type p) (units type)
  units_same (types.Uninit at) = new_by (λ type. units type ≡ type ∷ []) (λ n. refl) (λ class. refl) (p.site (p.number at)) (p.number at)
  units_same types.UninitThis = this_by (λ type. units type ≡ type ∷ []) refl (λ class. refl) p.this
  units_same other = refl

  reference_kept : (type : VType) → IsReference type → IsReference (placed_type p type)
  reference_kept (types.Uninit at) is = new_by IsReference (λ n. tt) (λ class. tt) (p.site (p.number at)) (p.number at)
  reference_kept types.UninitThis is = this_by IsReference tt (λ class. tt) p.this
  reference_kept other is = is

  initialised_kept : (type : VType) → IsInitialised type → IsInitialised (placed_type p type)
  initialised_kept (types.Uninit at) is = absurd is
  initialised_kept types.UninitThis is = absurd is
  initialised_kept other is = is

  null_or_kept : (IsKnown : Name → Type 0) (type : VType) → IsNullOr IsKnown type → IsNullOr IsKnown (placed_type p type)
  null_or_kept IsKnown (types.Uninit at) is = absurd is
  null_or_kept IsKnown types.UninitThis is = absurd is
  null_or_kept IsKnown other is = is

  pub kind_kept : (kind : Kind) (type : VType) → IsOfKind kind type → IsOfKind kind (placed_type p type)
  kind_kept kinds.Int type is = ap (placed_type p) is
  kind_kept kinds.Long type is = ap (placed_type p) is
  kind_kept kinds.Float type is = ap (placed_type p) is
  kind_kept kinds.Double type is = ap (placed_type p) is
  kind_kept kinds.Ref type is = reference_kept type is

  -- types that name no object
  pub verification_same : (type : FieldType) → placed_type p (verification_type type) ≡ verification_type type
  verification_same (Named name) = refl
  verification_same other = refl

  -- ---- assignability

  pub assignable_kept : (headers : Headers) {from to : VType} → IsAssignable headers from to
      → IsAssignable headers (placed_type p from) (placed_type p to)
  assignable_kept headers (to_same type) = to_same (placed_type p type)
  assignable_kept headers (to_top type) = to_top (placed_type p type)
  assignable_kept headers (from_null name) = from_null name
  assignable_kept headers (of_names low high is) = of_names low high is

  -- ---- the stack

  -- behind the callers' entries
  behind_below : (count : ℕ) (stack : List VType) → count ≤ length stack
      → length (placed_stack p stack) - count ≡ length p.below.stack + (length stack - count)
  behind_below count stack enough =
      omega (arith, enough, length-append p.below.stack (map (placed_type p) stack), length-map stack (placed_type p))

  pub topmost_same : (count : ℕ) (stack : List VType) → count ≤ length stack
      → topmost count (placed_stack p stack) ≡ map (placed_type p) (topmost count stack)
  topmost_same count stack enough =
      ap (λ (n : ℕ). drop n (placed_stack p stack)) (behind_below count stack enough)
      ∙ drop-append-add p.below.stack (map (placed_type p) stack) (length stack - count)
      ∙ drop-map (placed_type p) (length stack - count) stack

  pub under_same : (count : ℕ) (stack : List VType) → count ≤ length stack
      → under count (placed_stack p stack) ≡ placed_stack p (under count stack)
  under_same count stack enough =
      ap (λ (n : ℕ). take n (placed_stack p stack)) (behind_below count stack enough)
      ∙ take-append-add p.below.stack (map (placed_type p) stack) (length stack - count)
      ∙ ap (λ (entries : List VType). p.below.stack ++ entries) (take-map (placed_type p) (length stack - count) stack)

  pub lowest_same : (count : ℕ) (stack : List VType) → count ≤ length stack
      → lowest_of count (placed_stack p stack) ≡ placed_type p (lowest_of count stack)
  lowest_same count stack enough = by (topmost count stack) refl where
    by : (entries : List VType) → topmost count stack ≡ entries
        → lowest_of count (placed_stack p stack) ≡ placed_type p (lowest_of count stack)
    by [] are = rw (topmost_same count stack enough, are) refl
    by (entry ∷ entries) are = rw (topmost_same count stack enough, are) refl

  -- ---- what is asked of operands

  -- a need that is met by what is read, too
  abbrev pub IsKept : Need → Type 0
  IsKept uninitialised = ⊥
  IsKept (assignable_to wanted) = placed_type p wanted ≡ wanted
  IsKept (assignable_or_this wanted) = ⊥
  IsKept need = Unit {0}

  fits_kept : (need : Need) (type : VType) → IsKept need → Fits p.scope need type → Fits (flat_scope p) need (placed_type p type)
  fits_kept (of_kind kind) type kept fits = kind_kept kind type fits
  fits_kept initialised type kept fits = initialised_kept type fits
  fits_kept uninitialised type kept fits = absurd kept
  fits_kept (assignable_to wanted) type kept fits =
      subst (λ (to : VType). IsAssignable p.scope.headers (placed_type p type) to) kept (assignable_kept p.scope.headers fits)
  fits_kept (assignable_or_this wanted) type kept fits = absurd kept
  fits_kept (array_among names) type kept fits = null_or_kept _ type fits
  fits_kept array_of_references type kept fits = null_or_kept _ type fits
  fits_kept some_array type kept fits = null_or_kept _ type fits
  fits_kept single type kept fits = subst (λ (b : Bool). IsTrue b) (sym (single_same type)) fits
  fits_kept double type kept fits = subst (λ (b : Bool). IsTrue b) (sym (wide_same type)) fits
  fits_kept nothing type kept fits = fits

  pub all_fit_kept : (needs : List Need) (entries : List VType) → AllByRecursion IsKept needs → AllFit p.scope needs entries
      → AllFit (flat_scope p) needs (map (placed_type p) entries)
  all_fit_kept [] [] kept fit = tt
  all_fit_kept [] (entry ∷ entries) kept fit = absurd fit
  all_fit_kept (need ∷ needs) [] kept fit = absurd fit
  all_fit_kept (need ∷ needs) (entry ∷ entries) kept fit =
      (fits_kept need entry kept.0 fit.0, all_fit_kept needs entries kept.1 fit.1)

-- as many operands as fit
pub fit_as_many : (s : RowScope) (needs : List Need) (entries : List VType) → AllFit s needs entries → length entries ≡ length needs
fit_as_many s [] [] fit = refl
fit_as_many s [] (entry ∷ entries) fit = absurd fit
fit_as_many s (need ∷ needs) [] fit = absurd fit
fit_as_many s (need ∷ needs) (entry ∷ entries) fit = ap suc (fit_as_many s needs entries fit.1)
