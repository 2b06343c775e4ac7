-- The rows of fields, calls and returns in classes that have grown. The pool may be another.
use Rattle.std.proofs.Common.{◌≡◌, ◌≢◌, ◌∙◌, ◌&&◌, ◌||◌, ℕ, Bool, List, [], ◌∷◌, map, bytes_eq, Option, Some, None, IsTrue, refl, sym, ap, subst, inl, inr}
use Rattle.std.specs.Prelude.{◌==◌}
use Rattle.std.specs.List.{list_any}
use Rattle.std.proofs.lemmas.Bool.{false≢true}
use Rattle.class_model.specs.Members.{has, PROTECTED}
use Rattle.class_model.specs.Names.{init}
use Rattle.class_model.specs.Pool.{Constants}
use Rattle.class_model.specs.PoolChecks.{descriptor_at}
use Rattle.class_model.specs.declared.descriptor.Kind.{Kind}
use Rattle.class_model.specs.declared.frame.Frame.{Frame}
use Rattle.class_model.specs.declared.frame.VType.{VType}
use Rattle.class_model.specs.declared.frame.VType.TheVariants as types
use Rattle.class_model.specs.declared.header.Header.{Header}
use Rattle.class_model.specs.declared.header.Member.{Member}
use Rattle.class_model.specs.declared.opcodes.TheConstants.{INVOKESTATIC, INVOKESPECIAL}
use Rattle.class_model.specs.declared.pool.Const.{Const}
use Rattle.class_model.specs.declared.pool.Const.TheVariants as consts
use Rattle.class_tree.specs.Alike.{AreFieldsAlike}
use Rattle.class_tree.specs.Headers.{Name, Headers}
use Rattle.class_tree.specs.Laws.Alike.{alike_shapes, shapes, twin}
use Rattle.class_tree.specs.Names.{is_member}
use Rattle.class_tree.specs.Subtype.{IsChain, root, below}
use Rattle.member_link.specs.Access.{IsAtOrBelow}
use Rattle.member_link.specs.DeclaredMembers.{Declared}
use Rattle.member_link.specs.Fields.{FindsField}
use Rattle.member_link.specs.Methods.{FindsMethod}
use Rattle.member_link.specs.Overriding.{package_of}
use Rattle.member_link.specs.References.{Reference}
use Rattle.member_link.specs.RowScope.{RowScope}
use Rattle.member_link.specs.Rows.Assigning.{IsAssignableIn}
use Rattle.member_link.specs.Rows.MemberRows.{IsOwnField, IsSpecialTarget, MayInitialise, MayPut, MayReturnValue, PassesField, PassesInitialiser, PassesMethod, PassesProtected, PassesPut, call_row, dynamic_row, get_field_row, init_row, initialised_type, put_field_row, receiver, return_row, special_row}
use Rattle.member_link.specs.Rows.Operands.{lowest_of}
use Rattle.type_rules.proofs.Grown.Assigning.{assigned}
use Rattle.type_rules.proofs.Grown.Flags.{protected_stays}
use Rattle.type_rules.proofs.Grown.Headers.{field_before, grown_alike}
use Rattle.type_rules.proofs.Grown.Methods.{LooksUpAlike, at_or_below, method_before}
use Rattle.type_rules.proofs.Grown.Rows.{KeepsRow, either_kept, same_row}
use Rattle.type_rules.specs.Grown.{AreGrownHeaders, IsGrownHeader}

-- ---- fields of a name and descriptor

any_field : (name desc : List ℕ) (olds news : List Member) → AreFieldsAlike olds news → list_any (is_member name desc) news ≡ list_any (is_member name desc) olds
any_field name desc [] [] alike = refl
any_field name desc [] (new ∷ news) alike = absurd alike
any_field name desc (old ∷ olds) [] alike = absurd alike
any_field name desc (old ∷ olds) (new ∷ news) alike =
    ap (λ (n : List ℕ). (bytes_eq name n && bytes_eq desc new.desc) || list_any (is_member name desc) news) alike.0.same_name
    ∙ ap (λ (d : List ℕ). (bytes_eq name old.name && bytes_eq desc d) || list_any (is_member name desc) news) alike.0.same_desc
    ∙ ap (λ (b : Bool). is_member name desc old || b) (any_field name desc olds news alike.1)

-- ---- chains

chain_still : (one other : Headers) → shapes one ≡ shapes other → {name : Name} {names : List Name} → IsChain one name names → IsChain other name names
chain_still one other same (root name header is none) =
    let class = twin one other same name header is in
    root name class.0 class.1 (sym (ap (λ (h : Header). h.super_name) class.2) ∙ none)
chain_still one other same (below name above header names is some rest) =
    let class = twin one other same name header is in
    below name above class.0 names class.1 (sym (ap (λ (h : Header). h.super_name) class.2) ∙ some) (chain_still one other same rest)

maps_same : {A B : Type 0} (f g : A → B) → ((x : A) → f x ≡ g x) → (xs : List A) → map f xs ≡ map g xs
maps_same f g same [] = refl
maps_same {B = B} f g same (x ∷ xs) = ap (λ (y : B). y ∷ map f xs) (same x) ∙ ap (λ (ys : List B). g x ∷ ys) (maps_same f g same xs)

module _ (s : RowScope) (headers : Headers) (own : Header) (pool : Constants) (grown : AreGrownHeaders s.headers headers)
    (grows : IsGrownHeader s.own own) (methods : LooksUpAlike s.headers headers) where
  -- the scope among the grown classes
  abbrev pub among : RowScope
  among = record s { headers = headers; own = own; pool = pool }

  same : shapes s.headers ≡ shapes headers
  same = alike_shapes s.headers headers (grown_alike s.headers headers grown)

  name_same : own.name ≡ s.own.name
  name_same = grows.alike.same_name

  assigns_own : {type : VType} → IsAssignableIn s.headers s.major type (types.Object s.own.name) → IsAssignableIn headers s.major type (types.Object own.name)
  assigns_own {type} h = subst (λ (n : Name). IsAssignableIn headers s.major type (types.Object n)) (sym name_same) (assigned s.headers headers same h)

  -- ---- protected members

  -- a protected member that is found now was found, of the same class
  pub record WasFound (Finds : Option Declared → Type 0) (member : Declared) : Type 0 where
    pub was : Declared
    pub finds : Finds (Some was)
    pub protected : IsTrue (has was.member.flags PROTECTED)
    pub in_class : member.class ≡ was.class

  module _ (r : Reference) (Finds Now : Option Declared → Type 0)
      (before : (member : Declared) → Now (Some member) → IsTrue (has member.member.flags PROTECTED) → WasFound Finds member) where
    reaches : (member : Declared) → Now (Some member) → IsTrue (has member.member.flags PROTECTED) → package_of member.class ≢ package_of own.name
        → IsAtOrBelow headers own.name r.class → (type : VType) → PassesProtected s r Finds type
        → (was : Declared) × Finds (Some was) × IsTrue (has was.member.flags PROTECTED) × (package_of was.class ≢ package_of s.own.name) × IsAtOrBelow s.headers s.own.name r.class
    reaches member finds protected apart reach type passes =
        let was = before member finds protected in (
          was.was,
          was.finds,
          was.protected,
          (λ e. apart (ap package_of was.in_class ∙ e ∙ ap package_of (sym name_same))),
          at_or_below headers s.headers (sym same) (subst (λ (n : Name). IsAtOrBelow headers n r.class) name_same reach),
        )

    pub passes_still : (type : VType) → PassesProtected s r Finds type → PassesProtected among r Now type
    passes_still (types.Object name) passes = λ member finds protected apart reach.
        let was = reaches member finds protected apart reach (types.Object name) passes in
        elim (passes was.0 was.1 was.2 was.3 was.4) [ inl h ↦ inl (assigns_own h) | inr clone ↦ inr clone ]
    passes_still other passes = λ member finds protected apart reach.
        let was = reaches member finds protected apart reach other passes in
        elim (passes was.0 was.1 was.2 was.3 was.4) [ inl h ↦ inl (assigns_own h) | inr clone ↦ absurd clone ]

  field_was : (r : Reference) (member : Declared) → FindsField headers r.class r.name r.desc (Some member) → IsTrue (has member.member.flags PROTECTED)
      → WasFound (FindsField s.headers r.class r.name r.desc) member
  field_was r member finds protected =
      let was = field_before s.headers headers grown r.name r.desc r.class member finds in
      record {
        was = was.0;
        finds = was.1;
        protected = sym (ap (λ (flags : ℕ). has flags PROTECTED) was.2.opened.flags ∙ protected_stays was.0.member.flags was.2.opened.cleared) ∙ protected;
        in_class = was.2.class;
      }

  -- a method that was not found before is not protected
  method_was : (r : Reference) (member : Declared) → FindsMethod headers r.class r.name r.desc (Some member) → IsTrue (has member.member.flags PROTECTED)
      → WasFound (FindsMethod s.headers r.class r.name r.desc) member
  method_was r member finds protected = elim (method_before s.headers headers grown methods r.class r.name r.desc member finds) [
    | inl was ↦ record { was = member; finds = was; protected = protected; in_class = refl }
    | inr added ↦ absurd (false≢true (sym added.is_new.no_protected ∙ protected))
  ]

  passes_field : (r : Reference) (type : VType) → PassesField s r type → PassesField among r type
  passes_field r type passes = passes_still r (FindsField s.headers r.class r.name r.desc) (FindsField headers r.class r.name r.desc) (field_was r) type passes

  passes_method : (r : Reference) (type : VType) → PassesMethod s r type → PassesMethod among r type
  passes_method r type passes = passes_still r (FindsMethod s.headers r.class r.name r.desc) (FindsMethod headers r.class r.name r.desc) (method_was r) type passes

  -- ---- fields

  pub get_field_kept : (f : Frame) (r : Option Reference) → KeepsRow (get_field_row s f r) (get_field_row among f r)
  get_field_kept f None = same_row _
  get_field_kept f (Some r) = record {
    takes = refl;
    local = λ held. held;
    gives = refl;
    further = λ held. held;
    access = passes_field r (lowest_of 1 f.stack);
    locals = refl;
    becomes = λ entries. refl;
    goes_on = refl;
  }

  own_field : (r : Reference) → IsOwnField s r → IsOwnField among r
  own_field r is = (is.0 ∙ sym name_same, any_field r.name r.desc s.own.fields own.fields grows.alike.fields ∙ is.1)

  may_put : (r : Reference) (type : VType) → MayPut s r type → MayPut among r type
  may_put r types.UninitThis may = own_field r may
  may_put r other may = may

  passes_put : (r : Reference) (type : VType) → PassesPut s r type → PassesPut among r type
  passes_put r types.UninitThis passes = passes
  passes_put r types.Top passes = passes_field r types.Top passes
  passes_put r types.Int passes = passes_field r types.Int passes
  passes_put r types.Float passes = passes_field r types.Float passes
  passes_put r types.Long passes = passes_field r types.Long passes
  passes_put r types.Double passes = passes_field r types.Double passes
  passes_put r types.Null passes = passes_field r types.Null passes
  passes_put r (types.Object name) passes = passes_field r (types.Object name) passes
  passes_put r (types.Uninit at) passes = passes_field r (types.Uninit at) passes

  pub put_field_kept : (f : Frame) (r : Option Reference) → KeepsRow (put_field_row s f r) (put_field_row among f r)
  put_field_kept f None = same_row _
  put_field_kept f (Some r) = record {
    takes = refl;
    local = λ held. held;
    gives = refl;
    further = may_put r (lowest_of 2 f.stack);
    access = passes_put r (lowest_of 2 f.stack);
    locals = refl;
    becomes = λ entries. refl;
    goes_on = refl;
  }

  -- ---- calls

  special_target : (name : Name) → IsSpecialTarget s name → IsSpecialTarget among name
  special_target name (inl chain) =
      inl (chain.0, subst (λ (n : Name). IsChain headers n chain.0) (sym name_same) (chain_still s.headers headers same chain.1), chain.2)
  special_target name (inr named) = inr (named.0, ap (λ (names : List Name). list_any (bytes_eq name) names) grows.alike.same_interfaces ∙ named.1)

  special_kept : (f : Frame) (r : Reference) → KeepsRow (special_row s f r) (special_row among f r)
  special_kept f r = record {
    takes = refl;
    local = λ held. held;
    gives = refl;
    further = λ held. (special_target r.class held.0, assigns_own held.1);
    access = λ held. held;
    locals = refl;
    becomes = λ entries. refl;
    goes_on = refl;
  }

  may_initialise : (r : Reference) (type : VType) → MayInitialise s r type → MayInitialise among r type
  may_initialise r (types.Uninit at) may = may
  may_initialise r types.UninitThis (inl is) = inl (is ∙ sym name_same)
  may_initialise r types.UninitThis (inr above) = inr (grows.alike.same_super ∙ above)
  may_initialise r other may = absurd may

  passes_initialiser : (r : Reference) (type : VType) → PassesInitialiser s r type → PassesInitialiser among r type
  passes_initialiser r (types.Uninit at) passes = λ member finds protected.
      let was = method_was r member finds protected in
      ap package_of was.in_class ∙ passes was.was was.finds was.protected ∙ ap package_of (sym name_same)
  passes_initialiser r other passes = passes

  initialised_same : (r : Reference) (object type : VType) → initialised_type among r object type ≡ initialised_type s r object type
  initialised_same r types.UninitThis types.UninitThis = ap types.Object name_same
  initialised_same r types.UninitThis other = refl
  initialised_same r (types.Uninit at) (types.Uninit other) = refl
  initialised_same r (types.Uninit at) other = refl
  initialised_same r object type = refl

  init_kept : (f : Frame) (r : Reference) → KeepsRow (init_row s f r) (init_row among f r)
  init_kept f r =
      let object = receiver f r.desc in
      let each = maps_same (initialised_type among r object) (initialised_type s r object) (initialised_same r object) in
      record {
        takes = refl;
        local = λ held. held;
        gives = refl;
        further = may_initialise r object;
        access = passes_initialiser r object;
        locals = each f.locals;
        becomes = each;
        goes_on = refl;
      }

  pub call_kept : (f : Frame) (opcode : ℕ) (r : Option Reference) → KeepsRow (call_row s f opcode r) (call_row among f opcode r)
  call_kept f opcode None = same_row _
  call_kept f opcode (Some r) =
      either_kept (opcode == INVOKESTATIC) (same_row _)
      (either_kept (opcode == INVOKESPECIAL) (either_kept (bytes_eq r.name init) (init_kept f r) (special_kept f r))
      (record {
        takes = refl;
        local = λ held. held;
        gives = refl;
        further = λ held. held;
        access = passes_method r (receiver f r.desc);
        locals = refl;
        becomes = λ entries. refl;
        goes_on = refl;
      }))

  pub dynamic_kept : (f : Frame) (constant : Option Const)
      → ((bootstrap member : ℕ) → constant ≡ Some (consts.InvokeDynamic bootstrap member) → descriptor_at pool member ≡ descriptor_at s.pool member)
      → KeepsRow (dynamic_row s f constant) (dynamic_row among f constant)
  dynamic_kept f None same_desc = same_row _
  dynamic_kept f (Some (consts.InvokeDynamic bootstrap member)) same_desc = by (descriptor_at s.pool member) refl where
    by : (desc : Option (List ℕ)) → descriptor_at s.pool member ≡ desc
        → KeepsRow (dynamic_row s f (Some (consts.InvokeDynamic bootstrap member))) (dynamic_row among f (Some (consts.InvokeDynamic bootstrap member)))
    by None is = rw (same_desc bootstrap member refl, is) (same_row _)
    by (Some desc) is = rw (same_desc bootstrap member refl, is) (same_row _)
  dynamic_kept f (Some other) same_desc = same_row _

  -- ---- returns

  value_still : (kind : Kind) (type : VType) → MayReturnValue s kind type → MayReturnValue among kind type
  value_still kind type may = record {
    type = may.type;
    is_result = may.is_result;
    same_kind = may.same_kind;
    assignable = λ is. assigned s.headers headers same (may.assignable is);
  }

  pub return_kept : (f : Frame) (kind : Option Kind) → KeepsRow (return_row s f kind) (return_row among f kind)
  return_kept f None = record {
    takes = refl;
    local = λ held. held;
    gives = refl;
    further = λ may. record { no_result = may.no_result; initialised = may.initialised };
    access = λ held. held;
    locals = refl;
    becomes = λ entries. refl;
    goes_on = refl;
  }
  return_kept f (Some kind) = record {
    takes = refl;
    local = λ held. held;
    gives = refl;
    further = value_still kind (lowest_of 1 f.stack);
    access = λ held. held;
    locals = refl;
    becomes = λ entries. refl;
    goes_on = refl;
  }
