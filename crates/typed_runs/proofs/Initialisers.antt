use Rattle.std.specs.Prelude.{◌≡◌, ◌⊎◌, ◌==◌, refl, ℕ, Bool, true, false, List, map, bytes_eq, codes, Option, Some, None, option_map, if◌then◌else◌}
use Rattle.std.proofs.Common.{inl, inr, ap, sym, ◌∙◌, subst}
use Rattle.std.proofs.lemmas.Slice.Eq.{bytes_eq-Decides}
use Rattle.class_model.specs.Names.{init}
use Rattle.class_model.specs.declared.frame.VType.{VType}
use Rattle.class_model.specs.declared.frame.VType.TheVariants as types
use Rattle.class_model.specs.declared.header.Header.{Header}
use Rattle.class_tree.specs.Headers.{Name, Headers, class_named, IsThere}
use Rattle.class_tree.specs.Laws.Above.{hierarchy_is_sound, class_decides, class_is_subtype, below_more}
use Rattle.class_tree.specs.Subtype.{IsArray, IsDirectlyBelow, superclass, directly, IsSubtype, itself, below}
use Rattle.class_tree.specs.Names.{method_handle}
use Rattle.machine_values.specs.Heaps.{Heap, object_at}
use Rattle.machine_values.specs.declared.object.Object.{Object}
use Rattle.machine_values.specs.declared.object.Shape.{Shape}
use Rattle.machine_values.specs.declared.object.Shape.TheVariants as shapes
use Rattle.machine_values.specs.declared.value.Value.{Value}
use Rattle.machine_values.specs.declared.value.Value.TheVariants as values
use Rattle.member_link.specs.Access.{IsAtOrBelow}
use Rattle.member_link.specs.DeclaredMembers.{Declared, declared_by, declared, own_method}
use Rattle.member_link.specs.Machine.CallSteps.{is_polymorphic}
use Rattle.member_link.specs.Machine.Programs.{Program, headers_in, name_of_class}
use Rattle.member_link.specs.Machine.Shapes.{class_of_shape, is_external}
use Rattle.member_link.specs.Methods.{FindsMethod, initialiser, polymorphic, of_array, of_class}
use Rattle.member_link.specs.References.{Reference}
use Rattle.member_link.specs.RowScope.{RowScope}
use Rattle.member_link.specs.Rows.MemberRows.{MayInitialise, initialised_type}
use Rattle.member_link.specs.Rows.Operands.{IsUninitialised}
use Rattle.typed_runs.proofs.Basics.{some_of, and_false, same_number}
use Rattle.typed_runs.proofs.BeginningSteps.{of_map}
use Rattle.typed_runs.proofs.Points.{of_chain}
use Rattle.typed_runs.proofs.NamesThere.{class_named_there, no_array_there}
use Rattle.typed_runs.specs.Conforming.{HasShape, Conforms, to_top, an_int, a_long, a_float, a_double, only_null, null_object, an_object, of_new, of_this, AllConform, no_values, and_value, UnitConforms, no_value, has_value, UnitsConform, no_units, and_unit, ShapeConforms, by_class, to_below, HoldsShape}
use Rattle.typed_runs.specs.TypedPrograms.{Typings, IsTypedProgram}

-- ---- types that become others

module _ {P : Program} {m : RowScope} {h : Heap} (F : VType → VType)
    (becomes : (t : VType) (v : Value) → Conforms P m h t v → Conforms P m h (F t) v) where
  pub all_become : {ts : List VType} {vs : List Value} → AllConform P m h ts vs → AllConform P m h (map F ts) vs
  all_become no_values = no_values
  all_become (and_value {type = t} {value = v} one others) = and_value (becomes t v one) (all_become others)

  pub units_become : F types.Top ≡ types.Top → {ts : List VType} {us : List (Option Value)} → UnitsConform P m h ts us
      → UnitsConform P m h (map F ts) us
  units_become top no_units = no_units
  units_become top (and_unit no_value others) = and_unit (subst (λ t. UnitConforms P m h t None) (sym top) no_value)
      (units_become top others)
  units_become top (and_unit {type = t} (has_value {value = v} one) others) =
      and_unit (has_value (becomes t v one)) (units_become top others)

-- ---- the object

-- the method that a reference to an instance initialiser finds is one of the named class
pub finds_own : {headers : Headers} {class : Name} {name desc : List ℕ} {o : Option Declared} → FindsMethod headers class name desc o
    → name ≡ init → o ≡ own_method headers class name desc
finds_own (initialiser is) same = refl
finds_own {name = name} (polymorphic p) same = absurd (by p.1) where
  by : (name ≡ codes "invoke") ⊎ (name ≡ codes "invokeExact") → ⊥
  by (inl e) = let no : bytes_eq init (codes "invoke") ≡ true = (bytes_eq-Decides init (codes "invoke")).1 (sym same ∙ e) in cc
  by (inr e) = let no : bytes_eq init (codes "invokeExact") ≡ true = (bytes_eq-Decides init (codes "invokeExact")).1 (sym same ∙ e) in cc
finds_own (of_array found other is finds) same = absurd (other same)
finds_own (of_class found other flat single finds) same = absurd (other same)

pub own_method_class : (headers : Headers) (class : Name) (name desc : List ℕ) (m : Declared)
    → own_method headers class name desc ≡ Some m → m.class ≡ class
own_method_class headers class name desc m is =
    let c = of_chain (λ (header : Header). option_map (declared_by class) (declared name desc header.methods))
    (class_named headers class) m is in
    let d = of_map (declared_by class) (declared name desc c.0.methods) m c.2 in
    ap (λ (x : Declared). x.class) (sym d.2)

pub not_polymorphic : (P : Program) (r : Reference) → r.name ≡ init → is_polymorphic P r ≡ false
not_polymorphic P r is = rw is (and_false (bytes_eq r.class method_handle) false refl)

-- an object that may be initialised: the reference to it, and what becomes of the types around it
pub record Uninitialised (P : Program) (s m : RowScope) (h : Heap) (r : Reference) (t : VType) (v : Value) : Type 0 where
  pub reference : ℕ
  pub is : v ≡ values.Ref reference
  pub object : Object
  pub is_there : object_at h reference ≡ Some object
  pub conforms : ShapeConforms P object.shape r.class
  pub of_folder : is_external object.shape ≡ false
      → (class : ℕ) × (object.shape ≡ shapes.Folder class) × (P.links.below (name_of_class P class) r.class ≡ true)
  pub top : initialised_type s r t types.Top ≡ types.Top
  pub becomes : (u : VType) (x : Value) → Conforms P m h u x → Conforms P m h (initialised_type s r t u) x

module _ (P : Program) (T : Typings) (program : IsTypedProgram P T) (s m : RowScope) (memory : Heap) (r : Reference) where
  -- ---- of a new

  pub new_becomes : (at : ℕ) → m.new_class at ≡ Some r.class → (u : VType) (x : Value) → Conforms P m memory u x
      → Conforms P m memory (initialised_type s r (types.Uninit at) u) x
  new_becomes at new u x (to_top is) = to_top is
  new_becomes at new u x an_int = an_int
  new_becomes at new u x a_long = a_long
  new_becomes at new u x a_float = a_float
  new_becomes at new u x a_double = a_double
  new_becomes at new u x only_null = only_null
  new_becomes at new u x null_object = null_object
  new_becomes at new u x (an_object shape is) = an_object shape is
  new_becomes at new u x (of_this shape up) = of_this shape up
  new_becomes at new u x (of_new {at = other} {reference = reference} {name = name} {shape = shape} also has class) =
      by (other == at) refl where
        by : (b : Bool) → (other == at) ≡ b → Conforms P m memory (if b then types.Object r.class else types.Uninit other)
            (values.Ref reference)
        by false e = of_new also has class
        by true e =
            let one : name ≡ r.class = some_of (sym also ∙ ap m.new_class (same_number other at e) ∙ new) in
            an_object has (by_class (to_below (subst (λ n. P.links.below n r.class ≡ true) (sym (class ∙ one))
            ((program.links.below r.class r.class).1 (itself r.class)))))

  pub of_new_object : (at reference : ℕ) (shape : Shape) → IsThere (headers_in P) r.class → HasShape memory reference shape
      → ((o : Object) → object_at memory reference ≡ Some o → HoldsShape P memory o.shape o.values) → class_of_shape P shape ≡ r.class
      → m.new_class at ≡ Some r.class → Uninitialised P s m memory r (types.Uninit at) (values.Ref reference)
  of_new_object at reference shape there has holds class new =
      let own : class_of_shape P has.object.shape ≡ r.class = ap (class_of_shape P) has.same ∙ class in
      record {
        reference = reference;
        is = refl;
        object = has.object;
        is_there = has.is_there;
        conforms = by_class (to_below (below_itself has.object.shape own));
        of_folder = folder has.object.shape refl own;
        top = refl;
        becomes = new_becomes at new;
      } where
        below_itself : (sh : Shape) → class_of_shape P sh ≡ r.class → P.links.below (class_of_shape P sh) r.class ≡ true
        below_itself sh same = subst (λ n. P.links.below n r.class ≡ true) (sym same)
            ((program.links.below r.class r.class).1 (itself r.class))

        folder : (sh : Shape) → has.object.shape ≡ sh → class_of_shape P sh ≡ r.class → is_external has.object.shape ≡ false
            → (k : ℕ) × (has.object.shape ≡ shapes.Folder k) × (P.links.below (name_of_class P k) r.class ≡ true)
        folder (shapes.Folder k) e same inside = (k, e, below_itself (shapes.Folder k) same)
        folder (shapes.Array desc len) e same inside =
            let is = subst (λ sh. HoldsShape P memory sh has.object.values) e (holds has.object has.is_there) in
            absurd (no_array_there P T program r.class there (subst IsArray same is.is_array))
        folder (shapes.External k also) e same inside = let outside : true ≡ false = ap is_external (sym e) ∙ inside in cc

  -- ---- of this

  pub this_becomes : s.own.name ≡ m.own.name → (u : VType) (x : Value) → Conforms P m memory u x
      → Conforms P m memory (initialised_type s r types.UninitThis u) x
  this_becomes own u x (to_top is) = to_top is
  this_becomes own u x an_int = an_int
  this_becomes own u x a_long = a_long
  this_becomes own u x a_float = a_float
  this_becomes own u x a_double = a_double
  this_becomes own u x only_null = only_null
  this_becomes own u x null_object = null_object
  this_becomes own u x (an_object shape is) = an_object shape is
  this_becomes own u x (of_new also has class) = of_new also has class
  this_becomes own u x (of_this {class = k} has up) =
      an_object has (by_class (to_below (subst (λ n. P.links.below (name_of_class P k) n ≡ true) (sym own) up)))

  -- below what is directly above
  pub over : {low middle high : Name} → ¬ IsArray low → IsSubtype (headers_in P) low middle → IsDirectlyBelow (headers_in P) middle high
      → IsSubtype (headers_in P) low high
  over {low = low} {middle = middle} {high = high} flat sub step =
      by ((class_decides (headers_in P) (hierarchy_is_sound
      (headers_in P) program.hierarchy) program.hierarchy.no_array low middle flat).0 sub) where
        by : IsAtOrBelow (headers_in P) low middle → IsSubtype (headers_in P) low high
        by (inl e) = subst (λ n. IsSubtype (headers_in P) n high) (sym e) (below middle high high step (itself high))
        by (inr up) = class_is_subtype (headers_in P) (hierarchy_is_sound (headers_in P) program.hierarchy) program.hierarchy.no_array
            (below_more up (directly middle high step))

  pub this_below : (k : ℕ) → IsThere (headers_in P) (name_of_class P k) → P.links.below (name_of_class P k) m.own.name ≡ true
      → s.own.name ≡ m.own.name → class_named (headers_in P) s.own.name ≡ Some s.own → MayInitialise s r types.UninitThis
      → P.links.below (name_of_class P k) r.class ≡ true
  this_below k there up own header may = by may where
    to_own : IsSubtype (headers_in P) (name_of_class P k) s.own.name
    to_own = (program.links.below (name_of_class P k) s.own.name).0 (subst (λ n. P.links.below (name_of_class P k) n ≡ true) (sym own) up)

    by : (r.class ≡ s.own.name) ⊎ (s.own.super_name ≡ Some r.class) → P.links.below (name_of_class P k) r.class ≡ true
    by (inl e) = (program.links.below (name_of_class P k) r.class).1
        (subst (λ n. IsSubtype (headers_in P) (name_of_class P k) n) (sym e) to_own)
    by (inr e) = (program.links.below (name_of_class P k) r.class).1
        (over (no_array_there P T program (name_of_class P k) there) to_own (superclass s.own.name r.class s.own header e))

  pub of_this_object : (reference k : ℕ) → HasShape memory reference (shapes.Folder k) → P.links.below (name_of_class P k) r.class ≡ true
      → s.own.name ≡ m.own.name → Uninitialised P s m memory r types.UninitThis (values.Ref reference)
  of_this_object reference k has up own = record {
    reference = reference;
    is = refl;
    object = has.object;
    is_there = has.is_there;
    conforms = subst (λ sh. ShapeConforms P sh r.class) (sym has.same) (by_class (to_below up));
    of_folder = λ inside. (k, has.same, up);
    top = refl;
    becomes = this_becomes own;
  }

  -- ---- the receiver of a call of an instance initialiser

  pub uninitialised_object : (t : VType) (v : Value) → IsUninitialised t → MayInitialise s r t → Conforms P m memory t v
      → ((at : ℕ) → s.new_class at ≡ m.new_class at) → (t ≡ types.UninitThis → s.own.name ≡ m.own.name)
      → class_named (headers_in P) s.own.name ≡ Some s.own
      → IsThere (headers_in P) r.class → ((n : ℕ) (o : Object) → object_at memory n ≡ Some o → HoldsShape P memory o.shape o.values)
      → Uninitialised P s m memory r t v
  uninitialised_object t v is may (of_new {at = at} {reference = reference} {name = name} {shape =
      shape} new has class) news own header there holds =
      let new_is : m.new_class at ≡ Some r.class = sym (news at) ∙ may in
      let one : name ≡ r.class = some_of (sym new ∙ new_is) in
      of_new_object at reference shape there has (holds reference) (class ∙ one) new_is
  uninitialised_object t v is may (of_this {reference = reference} {class = k} has up) news own header there holds =
      let in_folder = subst (λ sh. HoldsShape P memory sh has.object.values) has.same (holds reference has.object has.is_there) in
      of_this_object reference k has (this_below k (class_named_there P k in_folder.found in_folder.is_class) up (own refl) header may)
      (own refl)
  uninitialised_object t v is may (to_top x) news own header there holds = absurd is
  uninitialised_object t v is may an_int news own header there holds = absurd is
  uninitialised_object t v is may a_long news own header there holds = absurd is
  uninitialised_object t v is may a_float news own header there holds = absurd is
  uninitialised_object t v is may a_double news own header there holds = absurd is
  uninitialised_object t v is may only_null news own header there holds = absurd is
  uninitialised_object t v is may null_object news own header there holds = absurd is
  uninitialised_object t v is may (an_object shape c) news own header there holds = absurd is
