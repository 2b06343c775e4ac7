-- Fields, calls and returns in their place in flat code.
use Rattle.std.proofs.Common.{◌≡◌, ◌≢◌, ◌+◌, ◌-◌, ℕ, suc, Bool, true, false, List, [], ◌∷◌, length, map, drop, zero, Option, Some, None, IsTrue, refl, sym, ap, subst, ◌∙◌, inl, inr, arith}
use Rattle.std.specs.Prelude.{◌==◌, ◌⊎◌}
use Rattle.std.specs.List.{AllByRecursion}
use Rattle.std.proofs.lemmas.List.{length-map}
use Rattle.class_model.specs.Code.{verification_type}
use Rattle.class_model.specs.Descriptors.{parameters_of, type_of}
use Rattle.class_model.specs.PoolChecks.{descriptor_at}
use Rattle.class_model.specs.declared.descriptor.FieldType.{FieldType}
use Rattle.class_model.specs.declared.descriptor.Kind.{Kind}
use Rattle.class_model.specs.declared.frame.Frame.{Frame}
use Rattle.class_model.specs.declared.frame.VType.{VType}
use Rattle.class_model.specs.declared.frame.VType.TheVariants as types
use Rattle.class_model.specs.declared.header.Header.{Header}
use Rattle.class_model.specs.declared.pool.Const.{Const}
use Rattle.class_model.specs.declared.pool.Const.TheVariants as consts
use Rattle.class_tree.specs.Headers.{Name}
use Rattle.expanded_runs.proofs.Types.PlacedRows.{HasOperands, Moves, conditional_moves, ending_moves, has_enough, no_row_moves, plain_moves}
use Rattle.expanded_runs.proofs.Types.PlacedTypes.{IsKept, Place, all_fit_kept, assignable_kept, flat_scope, lowest_same, placed_frame, placed_type, this_type, new_type, verification_same}
use Rattle.member_link.specs.Assignability.{IsAssignable}
use Rattle.member_link.specs.References.{Reference}
use Rattle.member_link.specs.Rows.MemberRows.{IsOwnField, IsSpecialTarget, MayPut, MayReturn, MayReturnValue, NoUninitThis, argument_needs, dynamic_row, get_field_row, get_static_row, instance_row, put_field_row, put_static_row, receiver, result_types, return_row, special_row, static_row}
use Rattle.member_link.specs.Rows.Operands.{AllFit, Fits, Need, assignable_to, assignable_or_this, lowest_of, of_kind, topmost}
use Rattle.member_link.specs.Signatures.{field_type, result_of}

-- ---- what holds of a place

abbrev pub IsWithout : VType → List VType → Type 0
IsWithout object entries = AllByRecursion (λ type. type ≢ object) entries

-- the method is the host, which is no instance initialiser
pub record SameMethod (p : Place) : Type 0 where
  pub own : p.around.own ≡ p.scope.own
  pub no_init : p.around.is_init ≡ false
  pub result : p.around.result ≡ p.scope.result
  pub below : IsWithout types.UninitThis p.below.locals × IsWithout types.UninitThis p.below.stack

-- The uninitialised object of the method is a site's, of a class at or below the method's; or it stays what it is in the same method; or
-- the frame has none.
pub data HasThis (p : Place) (f : Frame) : Type 0 where
  of_method : SameMethod p → p.this ≡ None → HasThis p f
  of_site : (class : Name) → p.this ≡ Some class
      → IsAssignable p.scope.headers (types.Object class) (types.Object p.scope.own.name)
      → HasThis p f
  of_none : NoUninitThis f.locals → NoUninitThis f.stack → p.this ≡ None → HasThis p f

-- No other object has the number of one that a new of the method makes. What is no site's keeps its class, and its callers have none.
pub record KeepsNews (p : Place) : Type 0 where
  pub apart : (at : ℕ) (class : Name) → p.scope.new_class at ≡ Some class → (other : ℕ)
      → (p.number other == p.number at) ≡ (other == at)
  pub class_kept : (at : ℕ) (class : Name) → p.scope.new_class at ≡ Some class → p.site (p.number at) ≡ None
      → p.around.news (p.number at) ≡ Some class
  pub below : (at : ℕ) (class : Name) → p.scope.new_class at ≡ Some class → p.site (p.number at) ≡ None
      → IsWithout (types.Uninit (p.number at)) p.below.locals × IsWithout (types.Uninit (p.number at)) p.below.stack

-- it is no object of a site
abbrev pub IsNoSite : Place → VType → Type 0
IsNoSite p (types.Uninit at) = p.site (p.number at) ≡ None
IsNoSite p types.UninitThis = p.this ≡ None
IsNoSite p type = Unit {0}

module _ (p : Place) (f : Frame) where
  -- ---- arguments and results

  params_kept : (params : List FieldType)
      → AllByRecursion (IsKept p) (map (λ param. assignable_to (verification_type param)) params)
  params_kept [] = tt
  params_kept (param ∷ params) = (verification_same p param, params_kept params)

  pub arguments_kept : (desc : List ℕ) → AllByRecursion (IsKept p) (argument_needs desc)
  arguments_kept desc = params_kept (parameters_of desc)

  pub results_same : (result : Option FieldType) → result_types result ≡ map (placed_type p) (result_types result)
  results_same None = refl
  results_same (Some type) = ap (λ (t : VType). t ∷ []) (sym (verification_same p type))

  field_same : (desc : List ℕ) → field_type desc ≡ placed_type p (field_type desc)
  field_same desc = sym (verification_same p (type_of desc))

  -- the receiver is the lowest of what is taken
  pub with_receiver : (desc : List ℕ) → suc (length (argument_needs desc)) ≡ length (parameters_of desc) + 1
  with_receiver desc =
      omega (arith, length-map (parameters_of desc) (λ param. assignable_to (verification_type param)))

  pub receiver_same : (need : Need) (desc : List ℕ)
      → AllFit p.scope (need ∷ argument_needs desc) (topmost (suc (length (argument_needs desc))) f.stack)
      → receiver (placed_frame p f) desc ≡ placed_type p (receiver f desc)
  receiver_same need desc fit = lowest_same p (length (parameters_of desc) + 1) f.stack
      (omega (arith, has_enough p.scope (need ∷ argument_needs desc) f.stack fit, with_receiver desc))

  -- ---- fields

  pub get_static_moves : (reference : Option Reference) → HasOperands p f (get_static_row f reference)
      → Moves p f (get_static_row f reference) (get_static_row (placed_frame p f) reference)
  get_static_moves None fit = no_row_moves p f fit
  get_static_moves (Some r) fit = plain_moves p f _ _ _ tt (ap (λ (type : VType). type ∷ []) (field_same r.desc)) fit

  pub put_static_moves : (reference : Option Reference) → HasOperands p f (put_static_row f reference)
      → Moves p f (put_static_row f reference) (put_static_row (placed_frame p f) reference)
  put_static_moves None fit = no_row_moves p f fit
  put_static_moves (Some r) fit = plain_moves p f _ _ _ (sym (field_same r.desc), tt) refl fit

  pub get_field_moves : (reference : Option Reference) → HasOperands p f (get_field_row p.scope f reference)
      → Moves p f (get_field_row p.scope f reference) (get_field_row (flat_scope p) (placed_frame p f) reference)
  get_field_moves None fit = no_row_moves p f fit
  get_field_moves (Some r) fit =
      conditional_moves p f _ _ _ _ _ _ _ (refl, tt) (ap (λ (type : VType). type ∷ []) (field_same r.desc)) (λ held. held) fit

  -- an entry of the stack
  any_of : (count : ℕ) (stack : List VType) → NoUninitThis stack → NoUninitThis (drop count stack)
  any_of zero stack none = none
  any_of (suc count) [] none = none
  any_of (suc count) (entry ∷ stack) none = any_of count stack none.1

  pub no_this : (count : ℕ) → NoUninitThis f.stack → lowest_of count f.stack ≢ types.UninitThis
  no_this count none = by (topmost count f.stack) refl (any_of (length f.stack - count) f.stack none) where
    by : (entries : List VType) → topmost count f.stack ≡ entries → NoUninitThis entries
        → lowest_of count f.stack ≢ types.UninitThis
    by [] are not = rw are (λ e. absurd cc)
    by (entry ∷ entries) are not = rw are not.0

  module _ (this : HasThis p f) where
    own_field : (r : Reference) → SameMethod p → IsOwnField p.scope r → IsOwnField (flat_scope p) r
    own_field r same is =
        subst (λ (own : Header). IsOwnField (record (flat_scope p) { own = own }) r) (sym same.own) is

    may_put_this : HasThis p f → (r : Reference) → lowest_of 2 f.stack ≡ types.UninitThis → IsOwnField p.scope r
        → MayPut (flat_scope p) r (this_type p.this)
    may_put_this (of_method same none) r is own = rw none (own_field r same own)
    may_put_this (of_site class site below) r is own = rw site tt
    may_put_this (of_none locals stack none) r is own = absurd (no_this 2 stack is)

    may_put_new : (r : Reference) (site : Option Name) (at : ℕ) → MayPut (flat_scope p) r (new_type site at)
    may_put_new r None at = tt
    may_put_new r (Some class) at = tt

    may_put : (r : Reference) (type : VType) → lowest_of 2 f.stack ≡ type → MayPut p.scope r type
        → MayPut (flat_scope p) r (placed_type p type)
    may_put r (types.Uninit at) is may = may_put_new r (p.site (p.number at)) (p.number at)
    may_put r types.UninitThis is may = may_put_this this r is may
    may_put r other is may = may

    put_this : HasThis p f → (r : Reference) → lowest_of 2 f.stack ≡ types.UninitThis → IsOwnField p.scope r
        → IsAssignable p.scope.headers (this_type p.this) (types.Object r.class) ⊎ (this_type p.this ≡ types.UninitThis)
    put_this (of_method same none) r is own = inr (ap this_type none)
    put_this (of_site class site below) r is own =
        inl (subst (λ (name : Name). IsAssignable p.scope.headers (this_type p.this) (types.Object name)) (sym own.0)
        (subst (λ (this : Option Name). IsAssignable p.scope.headers (this_type this) (types.Object p.scope.own.name)) (sym site) below))
    put_this (of_none locals stack none) r is own = absurd (no_this 2 stack is)

    put_fits : (r : Reference) (entries : List VType) → topmost 2 f.stack ≡ entries → MayPut p.scope r (lowest_of 2 f.stack)
        → AllFit p.scope (assignable_or_this (types.Object r.class) ∷ assignable_to (field_type r.desc) ∷ []) entries
        → AllFit (flat_scope p) (assignable_or_this (types.Object r.class) ∷ assignable_to (field_type r.desc) ∷ [])
        (map (placed_type p) entries)
    put_fits r [] are may fit = absurd fit
    put_fits r (object ∷ entries) are may fit =
        (of_object fit.0, all_fit_kept p (assignable_to (field_type r.desc) ∷ []) entries (sym (field_same r.desc), tt) fit.1) where
          lowest : lowest_of 2 f.stack ≡ object
          lowest = rw are refl

          of_object : Fits p.scope (assignable_or_this (types.Object r.class)) object
              → Fits (flat_scope p) (assignable_or_this (types.Object r.class)) (placed_type p object)
          of_object (inl fits) = inl (assignable_kept p p.scope.headers fits)
          of_object (inr is_this) =
              subst (λ (type : VType). Fits (flat_scope p) (assignable_or_this (types.Object r.class)) (placed_type p type)) (sym is_this)
              (put_this this r (lowest ∙ is_this)
              (subst (λ (type : VType). MayPut p.scope r type) (lowest ∙ is_this) may))

    pub put_field_moves : (reference : Option Reference) → HasOperands p f (put_field_row p.scope f reference)
        → Moves p f (put_field_row p.scope f reference) (put_field_row (flat_scope p) (placed_frame p f) reference)
    put_field_moves None fit = no_row_moves p f fit
    put_field_moves (Some r) fit = record {
      takes = refl;
      fits = λ may. put_fits r (topmost 2 f.stack) refl may fit;
      local = λ held. held;
      gives = refl;
      further =
          λ may. subst (MayPut (flat_scope p) r)
          (sym (lowest_same p 2 f.stack (has_enough p.scope
          (assignable_or_this (types.Object r.class) ∷ assignable_to (field_type r.desc) ∷ []) f.stack fit)))
          (may_put r (lowest_of 2 f.stack) refl may);
      locals = λ held. refl;
      becomes = λ entries. refl;
      goes_on = refl;
      ends = inl refl;
    }

  -- ---- calls

  pub instance_moves : (r : Reference) (Further Also Access Asked : Type 0) → (Further → Also)
      → HasOperands p f (instance_row f r Further Access)
      → Moves p f (instance_row f r Further Access) (instance_row (placed_frame p f) r Also Asked)
  instance_moves r Further Also Access Asked also fit =
      conditional_moves p f _ _ _ _ _ _ _ (refl, arguments_kept r.desc) (results_same (result_of r.desc)) also fit

  pub static_moves : (r : Reference) → HasOperands p f (static_row f r) → Moves p f (static_row f r) (static_row (placed_frame p f) r)
  static_moves r fit = plain_moves p f _ _ _ (arguments_kept r.desc) (results_same (result_of r.desc)) fit

  special_target : SameMethod p → (name : Name) → IsSpecialTarget p.scope name → IsSpecialTarget (flat_scope p) name
  special_target same name is =
      subst (λ (own : Header). IsSpecialTarget (record (flat_scope p) { own = own }) name) (sym same.own) is

  pub special_moves : SameMethod p → (r : Reference) → HasOperands p f (special_row p.scope f r)
      → Moves p f (special_row p.scope f r) (special_row (flat_scope p) (placed_frame p f) r)
  special_moves same r fit = instance_moves r _ _ _ _ (λ held. (
    special_target same r.class held.0,
    subst (λ (type : VType). IsAssignable p.scope.headers type (types.Object p.around.own.name))
        (sym (receiver_same (assignable_to (types.Object r.class)) r.desc fit))
        (subst (λ (own : Header). IsAssignable p.scope.headers (placed_type p (receiver f r.desc)) (types.Object own.name))
        (sym same.own) (assignable_kept p p.scope.headers held.1)),
  )) fit

  pub dynamic_moves : (constant : Option Const) → HasOperands p f (dynamic_row p.scope f constant)
      → Moves p f (dynamic_row p.scope f constant) (dynamic_row (flat_scope p) (placed_frame p f) constant)
  dynamic_moves None fit = no_row_moves p f fit
  dynamic_moves (Some (consts.InvokeDynamic bootstrap member)) fit = by (descriptor_at p.scope.pool member) refl fit where
    by : (desc : Option (List ℕ)) → descriptor_at p.scope.pool member ≡ desc
        → HasOperands p f (dynamic_row p.scope f (Some (consts.InvokeDynamic bootstrap member)))
        → Moves p f (dynamic_row p.scope f (Some (consts.InvokeDynamic bootstrap member)))
        (dynamic_row (flat_scope p) (placed_frame p f) (Some (consts.InvokeDynamic bootstrap member)))
    by None is = rw is (λ held. no_row_moves p f held)
    by (Some desc) is = rw is (λ held. plain_moves p f _ _ _ (arguments_kept desc) (results_same (result_of desc)) held)
  dynamic_moves (Some other) fit = no_row_moves p f fit

  -- ---- returns

  may_return : SameMethod p → MayReturn p.scope f → MayReturn (flat_scope p) (placed_frame p f)
  may_return same may = record {
    no_result = same.result ∙ may.no_result;
    initialised = λ is_init. let no : false ≡ true = subst (λ (b : Bool). IsTrue b) same.no_init is_init in absurd cc;
  }

  may_return_value : SameMethod p → (kind : Kind) (value : VType) → MayReturnValue p.scope kind value
      → MayReturnValue (flat_scope p) kind (placed_type p value)
  may_return_value same kind value may = record {
    type = may.type;
    is_result = same.result ∙ may.is_result;
    same_kind = may.same_kind;
    assignable =
        λ is_ref. subst (λ (type : VType). IsAssignable p.scope.headers (placed_type p value) type)
        (verification_same p may.type) (assignable_kept p p.scope.headers (may.assignable is_ref));
  }

  pub return_moves : SameMethod p → (kind : Option Kind) → HasOperands p f (return_row p.scope f kind)
      → Moves p f (return_row p.scope f kind) (return_row (flat_scope p) (placed_frame p f) kind)
  return_moves same None fit = ending_moves p f _ _ _ tt (may_return same) fit
  return_moves same (Some kind) fit = ending_moves p f _ _ _ (tt, tt)
      (λ may. subst (MayReturnValue (flat_scope p) kind)
      (sym (lowest_same p 1 f.stack (has_enough p.scope (of_kind kind ∷ []) f.stack fit)))
      (may_return_value same kind (lowest_of 1 f.stack) may)) fit
