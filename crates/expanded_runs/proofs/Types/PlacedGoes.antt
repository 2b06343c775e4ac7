-- A frame in its place may stand for what the frame of the method may stand for.
use Rattle.std.proofs.Common.{◌≡◌, ◌≢◌, ◌+◌, ℕ, suc, Bool, true, false, List, [], ◌∷◌, ◌++◌, length, map, take, drop, Option, Some, None, IsTrue, if◌then◌else◌, refl, sym, ap, subst, ◌∙◌, inl, inr}
use Rattle.std.specs.Prelude.{◌==◌, ◌⊎◌}
use Rattle.std.specs.List.{list_any}
use Rattle.class_model.specs.declared.frame.Frame.{Frame}
use Rattle.class_model.specs.declared.frame.VType.{VType}
use Rattle.class_model.specs.declared.frame.VType.TheVariants as types
use Rattle.class_tree.specs.Headers.{Name, Headers}
use Rattle.class_tree.specs.Laws.Above.{below_more}
use Rattle.class_tree.specs.Subtype.{IsArray, IsBelow, IsReferenceComponent}
use Rattle.class_tree.specs.Subtype as components
use Rattle.expanded_code.specs.Expanded.{overlaid}
use Rattle.expanded_runs.proofs.Types.PlacedTypes.{Place, assignable_kept, new_type, placed_frame, placed_type, this_type}
use Rattle.member_link.specs.Access.{IsAtOrBelow}
use Rattle.member_link.specs.Assignability.{IsAssignable, IsNameAssignable, from_array, from_null, of_components, of_names, to_class_above, to_interface, to_itself, to_same, to_top}
use Rattle.member_link.specs.References.{Reference}
use Rattle.member_link.specs.Rows.FrameAssignability.{AreAssignable, IsFrameAssignable, is_uninit_this}
use Rattle.member_link.specs.Rows.MemberRows.{initialised_type}
use Rattle.member_link.specs.Rows.Table.{without_older}

-- ---- lists that are assignable

pub assignable_long : (headers : Headers) (ones others : List VType) → AreAssignable headers ones others → length ones ≡ length others
assignable_long headers [] [] are = refl
assignable_long headers [] (other ∷ others) are = absurd are
assignable_long headers (one ∷ ones) [] are = absurd are
assignable_long headers (one ∷ ones) (other ∷ others) are = ap suc (assignable_long headers ones others are.1)

pub assignable_to_itself : (headers : Headers) (entries : List VType) → AreAssignable headers entries entries
assignable_to_itself headers [] = tt
assignable_to_itself headers (entry ∷ entries) = (to_same entry, assignable_to_itself headers entries)

pub assignable_joined : (headers : Headers) (ones others more also : List VType) → AreAssignable headers ones others
    → AreAssignable headers more also → AreAssignable headers (ones ++ more) (others ++ also)
assignable_joined headers [] [] more also are behind = behind
assignable_joined headers [] (other ∷ others) more also are behind = absurd are
assignable_joined headers (one ∷ ones) [] more also are behind = absurd are
assignable_joined headers (one ∷ ones) (other ∷ others) more also are behind =
    (are.0, assignable_joined headers ones others more also are.1 behind)

-- blocks over the same units
pub assignable_blocks : (headers : Headers) (unit : ℕ) (ones others units : List VType) → AreAssignable headers ones others
    → AreAssignable headers (overlaid unit ones units) (overlaid unit others units)
assignable_blocks headers unit ones others units are =
    subst (λ (n : ℕ). AreAssignable headers (overlaid unit ones units) (take unit units ++ others ++ drop (unit + n) units))
    (assignable_long headers ones others are)
    (assignable_joined headers (take unit units ++ ones) (take unit units ++ others) _ _
    (assignable_joined headers (take unit units) (take unit units) ones others (assignable_to_itself headers (take unit units)) are)
    (assignable_to_itself headers (drop (unit + length ones) units)))

-- ---- an uninitialised this among them

abbrev pub AnyThis : List VType → Type 0
AnyThis entries = IsTrue (list_any is_uninit_this entries)

any_split : (ones others : List VType) → AnyThis (ones ++ others) → AnyThis ones ⊎ AnyThis others
any_split [] others any = inr any
any_split (one ∷ ones) others any = by (is_uninit_this one) refl any (any_split ones others) where
  by : (b : Bool) → is_uninit_this one ≡ b → AnyThis (one ∷ ones ++ others) → (AnyThis (ones ++ others) → AnyThis ones ⊎ AnyThis others)
      → AnyThis (one ∷ ones) ⊎ AnyThis others
  by true is = rw is (λ any below. inl refl)
  by false is = rw is (λ any below. below any)

any_front : (ones others : List VType) → AnyThis ones → AnyThis (ones ++ others)
any_front [] others any = absurd cc
any_front (one ∷ ones) others any = by (is_uninit_this one) refl any (any_front ones others) where
  by : (b : Bool) → is_uninit_this one ≡ b → AnyThis (one ∷ ones) → (AnyThis ones → AnyThis (ones ++ others))
      → AnyThis (one ∷ ones ++ others)
  by true is = rw is (λ any below. refl)
  by false is = rw is (λ any below. below any)

any_behind : (ones others : List VType) → AnyThis others → AnyThis (ones ++ others)
any_behind [] others any = any
any_behind (one ∷ ones) others any = by (is_uninit_this one) refl (any_behind ones others any) where
  by : (b : Bool) → is_uninit_this one ≡ b → AnyThis (ones ++ others) → AnyThis (one ∷ ones ++ others)
  by true is = rw is (λ below. refl)
  by false is = rw is (λ below. below)

any_blocks : (unit : ℕ) (ones others units : List VType) → length ones ≡ length others → (AnyThis ones → AnyThis others)
    → AnyThis (overlaid unit ones units) → AnyThis (overlaid unit others units)
any_blocks unit ones others units same kept any =
    subst (λ (n : ℕ). AnyThis (take unit units ++ others ++ drop (unit + n) units)) same
    (of_all (any_split (take unit units ++ ones) (drop (unit + length ones) units) any)) where
      of_front : AnyThis (take unit units) ⊎ AnyThis ones → AnyThis (take unit units ++ others)
      of_front (inl front) = any_front (take unit units) others front
      of_front (inr own) = any_behind (take unit units) others (kept own)

      of_all : AnyThis (take unit units ++ ones) ⊎ AnyThis (drop (unit + length ones) units)
          → AnyThis (take unit units ++ others ++ drop (unit + length ones) units)
      of_all (inl own) =
          any_front (take unit units ++ others) (drop (unit + length ones) units) (of_front (any_split (take unit units) ones own))
      of_all (inr rest) = any_behind (take unit units ++ others) (drop (unit + length ones) units) rest

-- ---- classes

module _ (headers : Headers) (low middle : Name) (at_or_below : IsAtOrBelow headers low middle) (no_array : ¬ IsArray low)
    (no_array_above : ¬ IsArray middle) where
  no_component : {name component : Name} → IsReferenceComponent name component → name ≡ middle → ⊥
  no_component (components.array component is) same = no_array_above (component, sym same)
  no_component (components.class component) same = no_array_above (_, sym same)

  -- what is above a class is above those at or below it
  by_names : {one high : Name} → IsNameAssignable headers one high → one ≡ middle → IsNameAssignable headers low high
  by_names (to_itself name) same = of_itself at_or_below where
    of_itself : IsAtOrBelow headers low middle → IsNameAssignable headers low name
    of_itself (inl is) = subst (λ (high : Name). IsNameAssignable headers low high) (is ∙ sym same) (to_itself low)
    of_itself (inr below) = subst (λ (high : Name). IsNameAssignable headers low high) (sym same) (to_class_above low middle below)
  by_names (to_interface one high header not found is) same = to_interface low high header no_array found is
  by_names (to_class_above one high above) same = of_above at_or_below where
    of_above : IsAtOrBelow headers low middle → IsNameAssignable headers low high
    of_above (inl is) = subst (λ (name : Name). IsNameAssignable headers name high) (same ∙ sym is) (to_class_above one high above)
    of_above (inr below) =
        to_class_above low high (below_more below (subst (λ (name : Name). IsBelow headers name high) same above))
  by_names (from_array one high is above) same = absurd (no_array_above (subst IsArray same is))
  by_names (of_components one high one_component high_component of_one of_high is) same = absurd (no_component of_one same)

  by_types : {from to : VType} → IsAssignable headers from to → from ≡ types.Object middle → IsAssignable headers (types.Object low) to
  by_types (to_same type) same =
      subst (λ (to : VType). IsAssignable headers (types.Object low) to) (sym same) (of_names low middle (by_names (to_itself middle) refl))
  by_types (to_top type) same = to_top (types.Object low)
  by_types (from_null name) same = absurd cc
  by_types (of_names one high is) same = let one_is : one ≡ middle = cc in of_names low high (by_names is one_is)

  pub class_goes : (to : VType) → IsAssignable headers (types.Object middle) to → IsAssignable headers (types.Object low) to
  class_goes to is = by_types is refl

module _ (p : Place) where
  -- ---- one type in place of another

  -- A type may stand for what another may, in its place; it is an uninitialised this where the other is one that stays.
  pub record StandsFor (one type : VType) : Type 0 where
    pub assignable : (to : VType) → IsAssignable p.scope.headers type to → IsAssignable p.scope.headers one (placed_type p to)
    pub this : one ≡ types.UninitThis → (type ≡ types.UninitThis) × (p.this ≡ None)

  abbrev pub AllStandFor : List VType → List VType → Type 0
  AllStandFor [] [] = Unit {0}
  AllStandFor (one ∷ ones) (type ∷ entries) = StandsFor one type × AllStandFor ones entries
  AllStandFor ones entries = ⊥

  are_assignable : (ones entries to : List VType) → AllStandFor ones entries → AreAssignable p.scope.headers entries to
      → AreAssignable p.scope.headers ones (map (placed_type p) to)
  are_assignable [] [] [] stand are = tt
  are_assignable [] [] (other ∷ to) stand are = absurd are
  are_assignable [] (type ∷ entries) to stand are = absurd stand
  are_assignable (one ∷ ones) [] to stand are = absurd stand
  are_assignable (one ∷ ones) (type ∷ entries) [] stand are = absurd are
  are_assignable (one ∷ ones) (type ∷ entries) (other ∷ to) stand are =
      (stand.0.assignable other are.0, are_assignable ones entries to stand.1 are.1)

  this_is : (type : VType) → is_uninit_this type ≡ true → type ≡ types.UninitThis
  this_is types.UninitThis is = refl
  this_is other is = absurd cc

  any_this : (ones entries : List VType) → AllStandFor ones entries → AnyThis ones → AnyThis entries × (p.this ≡ None)
  any_this [] [] stand any = absurd cc
  any_this [] (type ∷ entries) stand any = absurd stand
  any_this (one ∷ ones) [] stand any = absurd stand
  any_this (one ∷ ones) (type ∷ entries) stand any = by (is_uninit_this one) refl any (any_this ones entries stand.1) where
    by : (b : Bool) → is_uninit_this one ≡ b → AnyThis (one ∷ ones) → (AnyThis ones → AnyThis entries × (p.this ≡ None))
        → AnyThis (type ∷ entries) × (p.this ≡ None)
    by true is any below =
        let this = stand.0.this (this_is one is) in
        (any_front (type ∷ []) entries (rw (this.0) refl), this.1)
    by false is any below =
        let later : AnyThis ones = rw (is) at any in
        (any_behind (type ∷ []) entries (below later).0, (below later).1)

  any_placed : (entries : List VType) → p.this ≡ None → AnyThis entries → AnyThis (map (placed_type p) entries)
  any_placed [] none any = absurd cc
  any_placed (type ∷ entries) none any = by (is_uninit_this type) refl any (any_placed entries none) where
    by : (b : Bool) → is_uninit_this type ≡ b → AnyThis (type ∷ entries) → (AnyThis entries → AnyThis (map (placed_type p) entries))
        → AnyThis (map (placed_type p) (type ∷ entries))
    by true is any below =
        let same : placed_type p type ≡ types.UninitThis = ap (placed_type p) (this_is type is) ∙ ap this_type none in
        any_front (placed_type p type ∷ []) (map (placed_type p) entries) (rw (same) refl)
    by false is any below =
        let later : AnyThis entries = rw (is) at any in
        any_behind (placed_type p type ∷ []) (map (placed_type p) entries) (below later)

  pub frame_goes : (locals stack : List VType) (g to : Frame) → AllStandFor locals g.locals → AllStandFor stack g.stack
      → IsFrameAssignable p.scope.headers g to
      → IsFrameAssignable p.scope.headers (record {
        locals = overlaid p.unit locals p.below.locals;
        stack = p.below.stack ++ stack;
      }) (placed_frame p to)
  frame_goes locals stack g to locals_stand stack_stands is = record {
    locals = assignable_blocks p.scope.headers p.unit locals (map (placed_type p) to.locals) p.below.locals own;
    stack = assignable_joined p.scope.headers p.below.stack p.below.stack stack (map (placed_type p) to.stack)
        (assignable_to_itself p.scope.headers p.below.stack) (are_assignable stack g.stack to.stack stack_stands is.stack);
    keeps_this = any_blocks p.unit locals (map (placed_type p) to.locals) p.below.locals
        (assignable_long p.scope.headers locals (map (placed_type p) to.locals) own)
        (λ any. let this = any_this locals g.locals locals_stand any in any_placed to.locals this.1 (is.keeps_this this.0));
  } where
    own : AreAssignable p.scope.headers locals (map (placed_type p) to.locals)
    own = are_assignable locals g.locals to.locals locals_stand is.locals

  -- ---- what stands for what

  no_new_this : (site : Option Name) (at : ℕ) → new_type site at ≢ types.UninitThis
  no_new_this None at = λ e. absurd cc
  no_new_this (Some class) at = λ e. absurd cc

  this_none : (this : Option Name) → this_type this ≡ types.UninitThis → this ≡ None
  this_none None is = refl
  this_none (Some class) is = absurd cc

  placed_this : (type : VType) → placed_type p type ≡ types.UninitThis → (type ≡ types.UninitThis) × (p.this ≡ None)
  placed_this (types.Uninit at) is = absurd (no_new_this (p.site (p.number at)) (p.number at) is)
  placed_this types.UninitThis is = (refl, this_none p.this is)
  placed_this other is = absurd cc

  -- a type in its place for itself
  pub itself_stands : (type : VType) → StandsFor (placed_type p type) type
  itself_stands type = record {
    assignable = λ to is. assignable_kept p p.scope.headers is;
    this = placed_this type;
  }

  pub all_themselves : (entries : List VType) → AllStandFor (map (placed_type p) entries) entries
  all_themselves [] = tt
  all_themselves (type ∷ entries) = (itself_stands type, all_themselves entries)

  -- for Top
  top_stands : (type : VType) → type ≢ types.UninitThis → StandsFor type types.Top
  top_stands type not = record {
    assignable = λ to is. top_goes is refl;
    this = λ is. absurd (not is);
  } where
    top_goes : {from to : VType} → IsAssignable p.scope.headers from to → from ≡ types.Top
        → IsAssignable p.scope.headers type (placed_type p to)
    top_goes (to_same top) same =
        subst (λ (to : VType). IsAssignable p.scope.headers type (placed_type p to)) (sym same) (to_top type)
    top_goes (to_top top) same = to_top type
    top_goes (from_null name) same = absurd cc
    top_goes (of_names low high is) same = absurd cc

  older_stands : (at : ℕ) (type : VType) → StandsFor (placed_type p type) (without_older at type)
  older_stands at (types.Uninit other) = by (other == at) where
    by : (b : Bool) → StandsFor (placed_type p (types.Uninit other)) (if b then types.Top else types.Uninit other)
    by true = top_stands (placed_type p (types.Uninit other)) (no_new_this (p.site (p.number other)) (p.number other))
    by false = itself_stands (types.Uninit other)
  older_stands at other = itself_stands other

  pub all_older : (at : ℕ) (entries : List VType) → AllStandFor (map (placed_type p) entries) (map (without_older at) entries)
  all_older at [] = tt
  all_older at (type ∷ entries) = (older_stands at type, all_older at entries)

  pub all_joined : (ones entries more also : List VType) → AllStandFor ones entries → AllStandFor more also
      → AllStandFor (ones ++ more) (entries ++ also)
  all_joined [] [] more also stand behind = behind
  all_joined [] (type ∷ entries) more also stand behind = absurd stand
  all_joined (one ∷ ones) [] more also stand behind = absurd stand
  all_joined (one ∷ ones) (type ∷ entries) more also stand behind = (stand.0, all_joined ones entries more also stand.1 behind)

  -- an object of a site's class for one of the class of the initialiser
  module _ (name : Name) (is_site : p.this ≡ Some name) (at_or_below : IsAtOrBelow p.scope.headers name p.scope.own.name)
      (no_array : ¬ IsArray name) (no_array_above : ¬ IsArray p.scope.own.name) (r : Reference) where
    object_stands : StandsFor (this_type p.this) (types.Object p.scope.own.name)
    object_stands = subst (λ (this : Option Name). StandsFor (this_type this) (types.Object p.scope.own.name)) (sym is_site) (record {
      assignable = λ to is. goes to (class_goes p.scope.headers name p.scope.own.name at_or_below no_array no_array_above to is);
      this = λ is. absurd cc;
    }) where
      goes : (to : VType) → IsAssignable p.scope.headers (types.Object name) to
          → IsAssignable p.scope.headers (types.Object name) (placed_type p to)
      goes to is = assignable_kept p p.scope.headers is

    initialised_stands : (type : VType) → StandsFor (placed_type p type) (initialised_type p.scope r types.UninitThis type)
    initialised_stands types.UninitThis = object_stands
    initialised_stands other = itself_stands other

    pub all_initialised : (entries : List VType)
        → AllStandFor (map (placed_type p) entries) (map (initialised_type p.scope r types.UninitThis) entries)
    all_initialised [] = tt
    all_initialised (type ∷ entries) = (initialised_stands type, all_initialised entries)
