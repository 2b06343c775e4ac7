-- Which receivers pass where protected members are named: with open members each does; and as it is written one does that passes by its type.
use Rattle.std.proofs.Common.{◌≡◌, ◌≢◌, ◌⊎◌, ℕ, true, List, bytes_eq, codes, Option, Some, None, IsTrue, refl, sym, subst, ◌∙◌, inl, inr}
use Rattle.std.proofs.lemmas.Bool.{false≢true}
use Rattle.std.proofs.lemmas.Option.{none-some}
use Rattle.std.proofs.lemmas.Slice.Eq.{bytes_eq-Decides}
use Rattle.class_model.specs.Members.{PROTECTED, has}
use Rattle.class_model.specs.Names.{init}
use Rattle.class_model.specs.declared.frame.VType.{VType}
use Rattle.class_model.specs.declared.frame.VType.TheVariants as types
use Rattle.class_tree.specs.Headers.{Headers, IsThere, Name}
use Rattle.class_tree.specs.Hierarchy.{IsHierarchy}
use Rattle.class_tree.specs.Laws.Above.{above_is_there, hierarchy_is_sound, there_is_no_array}
use Rattle.class_tree.specs.Subtype.{IsArray}
use Rattle.expanded_code.specs.Callees.{IsOpenField, IsOpenFieldReference, IsOpenMethod, IsOpenMethodReference, clone_of_array, opened_field, package_field, package_method, public_field, public_method}
use Rattle.flow_code.specs.ReadTypes.{class_of_site, read_type}
use Rattle.member_link.specs.Access.{IsAtOrBelow}
use Rattle.member_link.specs.Assignability.{IsAssignable, from_null, of_names, to_same, to_top}
use Rattle.member_link.specs.DeclaredMembers.{Declared, own_method}
use Rattle.member_link.specs.Fields.{FindsField}
use Rattle.member_link.specs.Methods.{FindsMethod, initialiser, of_array, of_class, polymorphic}
use Rattle.member_link.specs.Overriding.{package_of}
use Rattle.member_link.specs.References.{Reference}
use Rattle.member_link.specs.RowScope.{RowScope}
use Rattle.member_link.specs.Rows.MemberRows.{PassesField, PassesInitialiser, PassesMethod, PassesProtected, PassesPut}
use Rattle.plan_flow.specs.Written.FramedCode.{type_by_item}
use Rattle.written_types.proofs.WrittenTypes.{by_item}
use Rattle.written_types.specs.Writing.{Writing}

-- ---- instance initialisers

-- one that is found is declared by the class that is named
own_found : {headers : Headers} {class : Name} {name desc : List ℕ} {found : Option Declared} → FindsMethod headers class name desc found
    → name ≡ init → found ≡ own_method headers class name desc
own_found (initialiser is) same = refl
own_found {name = name} (polymorphic p) same = absurd (by p.1) where
  by : (name ≡ codes "invoke") ⊎ (name ≡ codes "invokeExact") → ⊥
  by (inl e) = let no : bytes_eq init (codes "invoke") ≡ true = (bytes_eq-Decides init (codes "invoke")).1 (sym same ∙ e) in cc
  by (inr e) = let no : bytes_eq init (codes "invokeExact") ≡ true = (bytes_eq-Decides init (codes "invokeExact")).1 (sym same ∙ e) in cc
own_found (of_array found other is finds) same = absurd (other same)
own_found (of_class found other flat single finds) same = absurd (other same)

-- one that no class declares is not asked for
pub none_declared : (s : RowScope) (r : Reference) (at : ℕ) → own_method s.headers r.class r.name r.desc ≡ None → r.name ≡ init
    → PassesInitialiser s r (types.Uninit at)
none_declared s r at none named = λ member finds protected. absurd (none-some member (sym none ∙ sym (own_found finds named)))

-- ---- open members

module _ (s : RowScope) (hierarchy : IsHierarchy s.headers) (there : IsThere s.headers s.own.name) where
  no_array : (name : Name) → IsThere s.headers name → IsArray name → ⊥
  no_array name is array = there_is_no_array s.headers (hierarchy_is_sound s.headers hierarchy) hierarchy.no_array name is array

  -- no array is above a class
  none_above : (name : Name) → IsAtOrBelow s.headers s.own.name name → IsArray name → ⊥
  none_above name (inl same) array = no_array name (subst (IsThere s.headers) same there) array
  none_above name (inr up) array = no_array name (above_is_there s.headers (hierarchy_is_sound s.headers hierarchy) up) array

  field_refused : (field : Declared) → IsOpenField s.headers s.own.name field → IsTrue (has field.member.flags PROTECTED)
      → package_of field.class ≢ package_of s.own.name
      → ⊥
  field_refused field (public_field public unprotected) protected apart = false≢true (sym unprotected ∙ protected)
  field_refused field (package_field is_open same) protected apart = apart (sym same)
  field_refused field (opened_field private instance folder same) protected apart = apart (sym same)

  pub open_field : (r : Reference) → IsOpenFieldReference s.headers s.own.name r → (type : VType) → PassesField s r type
  open_field r is_open type = λ member finds protected apart below. absurd (field_refused member (is_open.member member finds) protected apart)

  pub open_put : (r : Reference) → IsOpenFieldReference s.headers s.own.name r → (type : VType) → PassesPut s r type
  open_put r is_open (types.Uninit at) = open_field r is_open (types.Uninit at)
  open_put r is_open types.Top = open_field r is_open types.Top
  open_put r is_open types.Int = open_field r is_open types.Int
  open_put r is_open types.Float = open_field r is_open types.Float
  open_put r is_open types.Long = open_field r is_open types.Long
  open_put r is_open types.Double = open_field r is_open types.Double
  open_put r is_open types.Null = open_field r is_open types.Null
  open_put r is_open types.UninitThis = tt
  open_put r is_open (types.Object name) = open_field r is_open (types.Object name)

  method_refused : (named : Name) (method : Declared) → IsOpenMethod s.own.name named method → IsTrue (has method.member.flags PROTECTED)
      → package_of method.class ≢ package_of s.own.name
      → IsAtOrBelow s.headers s.own.name named
      → ⊥
  method_refused named method (public_method public unprotected) protected apart below = false≢true (sym unprotected ∙ protected)
  method_refused named method (package_method is_open same) protected apart below = apart (sym same)
  method_refused named method (clone_of_array array is) protected apart below = none_above named below array

  pub open_method : (r : Reference) → IsOpenMethodReference s.headers s.own.name r → (type : VType) → PassesMethod s r type
  open_method r is_open type = λ member finds protected apart below. absurd (method_refused r.class member (is_open.member member finds) protected apart below)

  -- an array declares none
  init_same : (r : Reference) (method : Declared) → r.name ≡ init → FindsMethod s.headers r.class r.name r.desc (Some method)
      → IsOpenMethod s.own.name r.class method
      → IsTrue (has method.member.flags PROTECTED)
      → package_of method.class ≡ package_of s.own.name
  init_same r method named finds (public_method public unprotected) protected = absurd (false≢true (sym unprotected ∙ protected))
  init_same r method named finds (package_method is_open same) protected = sym same
  init_same r method named finds (clone_of_array array is) protected =
      let none : own_method s.headers r.class r.name r.desc ≡ None = rw (hierarchy.no_array r.class array) refl in
      absurd (none-some method (sym none ∙ sym (own_found finds named)))

  pub open_initialiser : (r : Reference) → IsOpenMethodReference s.headers s.own.name r → r.name ≡ init → (type : VType) → PassesInitialiser s r type
  open_initialiser r is_open named (types.Uninit at) = λ member finds protected. init_same r member named finds (is_open.member member finds) protected
  open_initialiser r is_open named types.Top = tt
  open_initialiser r is_open named types.Int = tt
  open_initialiser r is_open named types.Float = tt
  open_initialiser r is_open named types.Long = tt
  open_initialiser r is_open named types.Double = tt
  open_initialiser r is_open named types.Null = tt
  open_initialiser r is_open named types.UninitThis = tt
  open_initialiser r is_open named (types.Object name) = tt

-- ---- receivers as they are written

no_object : {headers : Headers} (at : ℕ) (name : Name) → IsAssignable headers (types.Uninit at) (types.Object name) → ⊥
no_object {headers} at name is = by is refl refl where
  by : {from to : VType} → IsAssignable headers from to → from ≡ types.Uninit at → to ≡ types.Object name → ⊥
  by (to_same type) one other = let e = sym one ∙ other in absurd cc
  by (to_top type) one other = absurd cc
  by (from_null named) one other = absurd cc
  by (of_names low high names) one other = absurd cc

module _ (s : RowScope) (r : Reference) where
  -- an uninitialised object passes where nothing is asked
  of_new : (Finds : Option Declared → Type 0) (at : ℕ) → PassesProtected s r Finds (types.Uninit at) → (type : VType) → PassesProtected s r Finds type
  of_new Finds at passes type = λ member finds protected apart below. absurd (by (passes member finds protected apart below)) where
    by : IsAssignable s.headers (types.Uninit at) (types.Object s.own.name) ⊎ ⊥ → ⊥
    by (inl is) = no_object at s.own.name is
    by (inr none) = none

  module _ (w : Writing) where
    -- what a type becomes that is read, by the numbers of items
    abbrev pub written : VType → VType
    written type = by_item w (read_type w.s.flat type)

    pub passes_written : (Finds : Option Declared → Type 0) (type : VType) → PassesProtected s r Finds type
        → PassesProtected s r Finds (written type)
    passes_written Finds (types.Uninit at) passes = of_new Finds at passes (written (types.Uninit at))
    passes_written Finds types.Top passes = passes
    passes_written Finds types.Int passes = passes
    passes_written Finds types.Float passes = passes
    passes_written Finds types.Long passes = passes
    passes_written Finds types.Double passes = passes
    passes_written Finds types.Null passes = passes
    passes_written Finds types.UninitThis passes = passes
    passes_written Finds (types.Object name) passes = passes

    pub put_written : (type : VType) → PassesPut s r type → PassesPut s r (written type)
    put_written (types.Uninit at) passes = by (class_of_site w.s.flat.sites at) refl where
      to : (type : VType) → PassesField s r type
      to type = of_new (FindsField s.headers r.class r.name r.desc) at passes type

      by : (found : Option Name) → class_of_site w.s.flat.sites at ≡ found → PassesPut s r (written (types.Uninit at))
      by None none = rw none (to (type_by_item w.form w.blocks (types.Uninit at)))
      by (Some class) some = rw some (to (types.Object class))
    put_written types.Top passes = passes
    put_written types.Int passes = passes
    put_written types.Float passes = passes
    put_written types.Long passes = passes
    put_written types.Double passes = passes
    put_written types.Null passes = passes
    put_written types.UninitThis passes = passes
    put_written (types.Object name) passes = passes

    pub initialiser_written : (type : VType) → PassesInitialiser s r type → PassesInitialiser s r (written type)
    initialiser_written (types.Uninit at) passes = by (class_of_site w.s.flat.sites at) refl where
      by : (found : Option Name) → class_of_site w.s.flat.sites at ≡ found → PassesInitialiser s r (written (types.Uninit at))
      by None none = rw none passes
      by (Some class) some = rw some tt
    initialiser_written types.Top passes = tt
    initialiser_written types.Int passes = tt
    initialiser_written types.Float passes = tt
    initialiser_written types.Long passes = tt
    initialiser_written types.Double passes = tt
    initialiser_written types.Null passes = tt
    initialiser_written types.UninitThis passes = tt
    initialiser_written (types.Object name) passes = tt
