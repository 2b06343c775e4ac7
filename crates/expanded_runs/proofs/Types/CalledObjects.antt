-- The objects on which methods of the folder are called: each is null or of a class at or below the method's, so that it may stand, in its place,
-- for what the callee's first frame says of it.
use Rattle.std.proofs.Common.{◌≡◌, ◌⊎◌, ℕ, Bool, true, false, List, [], ◌∷◌, bytes_eq, is_some, Option, Some, None, IsTrue, refl, sym, ap, subst, ◌∙◌, inl, inr}
use Rattle.std.specs.List.{list_any}
use Rattle.std.proofs.lemmas.Bool.{false≢true}
use Rattle.std.proofs.lemmas.Option.{same_Some}
use Rattle.std.proofs.lemmas.Slice.Eq.{bytes_eq-Decides}
use Rattle.class_model.specs.Header.{header_of}
use Rattle.class_model.specs.Members.{STATIC, has, is_text}
use Rattle.class_model.specs.Names.{init}
use Rattle.class_model.specs.PoolChecks.{class_at, utf8_at}
use Rattle.class_model.specs.declared.class_file.MethodAt.{MethodAt}
use Rattle.class_model.specs.declared.frame.VType.{VType}
use Rattle.class_model.specs.declared.frame.VType.TheVariants as types
use Rattle.class_model.specs.declared.header.Member.{Member}
use Rattle.class_model.specs.declared.opcodes.TheConstants.{INVOKESTATIC, INVOKEVIRTUAL}
use Rattle.class_tree.specs.Headers.{Headers, Name, class_named, headers_of}
use Rattle.class_tree.specs.Laws.Above.{above_is_there, below_more, hierarchy_is_sound}
use Rattle.class_tree.specs.Laws.Arrays.{is_array_of}
use Rattle.class_tree.specs.Subtype.{IsArray, IsChain, IsDirectlyBelow, below, directly, interface, onwards, root, superclass}
use Rattle.expanded_code.specs.Callees.{Finds, IsCall, IsClass, StandsAt, own_name}
use Rattle.expanded_code.specs.Expanded.{Setting}
use Rattle.expanded_code.specs.Expansions.{Coded}
use Rattle.expanded_runs.proofs.Runs.CallLaws.{CallLaws, at_or_below, flat_there, headers, moved, no_handle, same_desc, start_below}
use Rattle.expanded_runs.proofs.Runs.CallTargets.{class_of_scope}
use Rattle.expanded_runs.proofs.Runs.CalledNames.{method_at}
use Rattle.expanded_runs.proofs.Runs.FolderReceivers.{IsFolderClass, assignable_under, no_array_under, subtype_under}
use Rattle.expanded_runs.proofs.Runs.LinkedInstrs.{call_linked}
use Rattle.expanded_runs.proofs.Runs.Setup.{IsSetup, Setup, before}
use Rattle.expanded_runs.proofs.Types.Edges.{placed_type}
use Rattle.expanded_runs.proofs.Types.EntryFrames.{this_of}
use Rattle.expanded_runs.proofs.Types.FrameFacts.{top_only}
use Rattle.expanded_runs.proofs.Types.OwnPoints.{scope_headers}
use Rattle.expanded_runs.proofs.Types.SiteObjects.{up_to}
use Rattle.flow_code.specs.FlatCode.{FlatCode}
use Rattle.member_link.specs.Access.{IsAtOrBelow}
use Rattle.member_link.specs.Assignability.{IsAssignable, IsNameAssignable, from_array, from_null, of_components, of_names, to_class_above, to_interface, to_itself, to_same, to_top}
use Rattle.member_link.specs.DeclaredMembers.{Declared}
use Rattle.member_link.specs.FoundAbove.{IsMethodAbove}
use Rattle.member_link.specs.Machine.Programs.{folder_number, headers_in}
use Rattle.member_link.specs.Methods.{FindsMethod, IsPolymorphic}
use Rattle.member_link.specs.References.{Reference}
use Rattle.member_link.specs.Rows.MemberRows.{IsSpecialTarget}
use Rattle.member_link.specs.Scope.{Scope, is_init, own_descriptor, row_scope, scope_at}
use Rattle.member_link.specs.Selection.{Selects, chosen_method}
use Rattle.member_link.specs.SpecialStart.{StartsSpecial, at_named, at_superclass}
use Rattle.member_link.specs.declared.selection.CallForm.TheVariants.{Special}

-- ---- names

-- a name at or below another is assignable to what that is
pub name_below : {headers : Headers} {low mid high : Name} → IsAtOrBelow headers low mid → ¬ IsArray low → ¬ IsArray mid
    → IsNameAssignable headers mid high
    → IsNameAssignable headers low high
name_below {headers} {low} {mid} {high} (inl same) flat other is = subst (λ (name : Name). IsNameAssignable headers name high) (sym same) is
name_below {headers} {low} (inr up) flat other (to_itself mid) = to_class_above low mid up
name_below {headers} {low} (inr up) flat other (to_interface mid high header also found is) = to_interface low high header flat found is
name_below {headers} {low} (inr up) flat other (to_class_above mid high more) = to_class_above low high (below_more up more)
name_below {headers} {low} (inr up) flat other (from_array mid high array above) = absurd (other array)
name_below {headers} {low} (inr up) flat other (of_components mid high one two is also names) = absurd (other (is_array_of is))

-- ---- types

-- An object on which a method of a class is called: null, or of a class at or below that.
pub data IsOn (headers : Headers) (object : VType) (own : Name) : Type 0 where
  on_null : object ≡ types.Null → IsOn headers object own
  on_class : (low : Name) → object ≡ types.Object low → IsAtOrBelow headers low own → ¬ IsArray low → IsOn headers object own

module _ (flat : FlatCode) (q : Setting) {headers : Headers} where
  -- an object of a class below another may stand for what is said of that
  pub below_said : {low mid : Name} {from said : VType} → IsAssignable headers from said → from ≡ types.Object mid
      → IsAtOrBelow headers low mid
      → ¬ IsArray low
      → ¬ IsArray mid
      → IsAssignable headers (types.Object low) (placed_type flat q said)
  below_said {low} {mid} (to_same type) is under low_flat mid_flat =
      subst (λ (t : VType). IsAssignable headers (types.Object low) (placed_type flat q t)) (sym is)
      (of_names low mid (name_below under low_flat mid_flat (to_itself mid)))
  below_said {low} (to_top type) is under low_flat mid_flat = to_top (types.Object low)
  below_said (from_null name) is under low_flat mid_flat = absurd cc
  below_said {low} {mid} (of_names one high names) is under low_flat mid_flat =
      let same : one ≡ mid = cc in
      of_names low high (name_below under low_flat mid_flat (subst (λ (name : Name). IsNameAssignable headers name high) same names))

  -- so may null
  null_said : {mid : Name} {from said : VType} → IsAssignable headers from said → from ≡ types.Object mid
      → IsAssignable headers types.Null (placed_type flat q said)
  null_said {mid} (to_same type) is =
      subst (λ (t : VType). IsAssignable headers types.Null (placed_type flat q t)) (sym is) (from_null mid)
  null_said (to_top type) is = to_top types.Null
  null_said (from_null name) is = absurd cc
  null_said (of_names one high names) is = from_null high

-- what the first local says of the object of a method that is no initialiser
this_is_own : (s : Scope) → is_init s ≡ false → (this_of s ≡ types.Object (own_name s)) ⊎ (this_of s ≡ types.Top)
this_is_own s other = by (utf8_at s.class.pool s.method.name) refl (class_at s.class.pool s.class.this_class) refl where
  by : (name : Option (List ℕ)) → utf8_at s.class.pool s.method.name ≡ name
      → (class : Option Name) → class_at s.class.pool s.class.this_class ≡ class
      → (this_of s ≡ types.Object (own_name s)) ⊎ (this_of s ≡ types.Top)
  by None name None class = inr (rw (name, class) refl)
  by None name (Some own) class = inl (rw (name, class) refl)
  by (Some text) name None class =
      let no : is_text init (Some text) ≡ false = rw (name) at other in
      inr (rw (name, class, no) refl)
  by (Some text) name (Some own) class =
      let no : is_text init (Some text) ≡ false = rw (name) at other in
      inl (rw (name, class, no) refl)

-- The object of a call may stand, in its place, for what the callee's first frame says of it.
pub this_passed : (flat : FlatCode) (t q : Setting) {headers : Headers} (s : Scope) → is_init s ≡ false → ¬ IsArray (own_name s)
    → (object said : VType)
    → IsOn headers object (own_name s)
    → IsAssignable headers (this_of s) said
    → IsAssignable headers (placed_type flat t object) (placed_type flat q said)
this_passed flat t q {headers} s other no_array object said on is = by (this_is_own s other) on where
  by : (this_of s ≡ types.Object (own_name s)) ⊎ (this_of s ≡ types.Top) → IsOn headers object (own_name s)
      → IsAssignable headers (placed_type flat t object) (placed_type flat q said)
  by (inr top) on =
      let same : said ≡ types.Top = top_only is top in
      subst (λ (type : VType). IsAssignable headers (placed_type flat t object) (placed_type flat q type)) (sym same)
      (to_top (placed_type flat t object))
  by (inl own) (on_null null) =
      subst (λ (type : VType). IsAssignable headers (placed_type flat t type) (placed_type flat q said)) (sym null) (null_said flat q is own)
  by (inl own) (on_class low class under low_flat) =
      subst (λ (type : VType). IsAssignable headers (placed_type flat t type) (placed_type flat q said)) (sym class)
      (below_said flat q is own under low_flat no_array)

-- what is assignable to a class
assigned : {headers : Headers} {object to : VType} (name : Name) → IsAssignable headers object to → to ≡ types.Object name
    → (object ≡ types.Null) ⊎ ((low : Name) × (object ≡ types.Object low) × IsNameAssignable headers low name)
assigned name (to_same type) is = inr (name, is, to_itself name)
assigned name (to_top type) is = absurd cc
assigned name (from_null other) is = inl refl
assigned {headers} name (of_names low high names) is =
    let same : high ≡ name = cc in
    inr (low, refl, subst (IsNameAssignable headers low) same names)

-- ---- the callee of a call

module _ (u : Setup) (is_setup : IsSetup u) (laws : CallLaws) where
  abbrev all : Headers
  all = headers_in (before u)

  -- what is assignable to a class below one of the folder
  pub on_folder_class : {class : Name} (folder : IsFolderClass (before u) class) (name : Name) → IsAtOrBelow (headers_in (before u)) name class
      → (object : VType) → IsAssignable (headers_in (before u)) object (types.Object name)
      → IsOn (headers_in (before u)) object class
  on_folder_class {class} folder name under object assignable = by (assigned name assignable refl) where
    by : (object ≡ types.Null) ⊎ ((low : Name) × (object ≡ types.Object low) × IsNameAssignable (headers_in (before u)) low name)
        → IsOn (headers_in (before u)) object class
    by (inl null) = on_null null
    by (inr found) =
        let below_class = assignable_under (before u) u.typings is_setup.program folder found.2 under in
        on_class found.0 found.1 below_class (λ array. no_array_under (before u) u.typings is_setup.program folder array below_class)

  module _ (from : MethodAt) (caller : Scope) (scope : scope_at u.classes from ≡ Some caller) (at : ℕ) (g : Coded)
      (callee : scope_at u.classes g.at ≡ Some g.scope) (method : Declared) (stands : StandsAt u.classes g.at method) where
    own_is : own_name g.scope ≡ method.class
    own_is = let own = method_at u.classes g.at g.scope callee method stands in own.own

    member_is : Member → Type 0
    member_is member = member ≡ method.member

    pub number : folder_number (before u) method.class ≡ Some g.at.class
    number =
        let class = class_of_scope u.classes u.links is_setup.hierarchy g.at g.scope callee in
        subst (λ (name : Name). folder_number (before u) name ≡ Some g.at.class) own_is class.number

    -- what the callee has of a method that is found, of the reference's name
    pub record IsOfReference (reference : Reference) : Type 0 where
      pub above : IsMethodAbove (headers_in (before u)) reference.class reference.name reference.desc method
      pub desc : own_descriptor g.scope ≡ reference.desc

    pub of_reference : (r : Reference) → Finds (headers_of u.classes) r method → IsOfReference r
    of_reference r finds =
        let here = moved u is_setup (λ hs. FindsMethod hs r.class r.name r.desc (Some method)) finds in
        let above = laws.finds_above (headers_in (before u)) r.class r.name r.desc method is_setup.program.hierarchy here in
        let other = no_handle u is_setup r method.class g.at.class number above.above in
        let own = method_at u.classes g.at g.scope callee method stands in
        record { above = above; desc = ap (λ (m : Member). m.desc) own.member ∙ same_desc u is_setup r method above other }

    flags_are : (b : Bool) → has method.member.flags STATIC ≡ b → has g.scope.method.flags STATIC ≡ b
    flags_are b is =
        let own = method_at u.classes g.at g.scope callee method stands in
        ap (λ (m : Member). has m.flags STATIC) own.member ∙ is

    -- that of a static call has no object
    pub static_flag : {r : Reference} → IsCall caller at INVOKESTATIC r → Finds (headers_of u.classes) r method
        → has g.scope.method.flags STATIC ≡ true
    static_flag {r} call finds =
        let linked = call_linked u is_setup from caller scope call in
        let here = moved u is_setup (λ hs. FindsMethod hs r.class r.name r.desc (Some method)) finds in
        let same : linked.linked.0.method ≡ method =
        same_Some linked.linked.0.method method
        (laws.finds_one (headers_in (before u)) r.class r.name r.desc (Some linked.linked.0.method) (Some method) linked.linked.0.finds here) in
        flags_are true (subst (λ (x : Declared). has x.member.flags STATIC ≡ true) same linked.linked.0.form)

    -- that of a virtual one has
    pub virtual_flag : {r : Reference} → IsCall caller at INVOKEVIRTUAL r → Finds (headers_of u.classes) r method
        → has g.scope.method.flags STATIC ≡ false
    virtual_flag {r} call finds =
        let linked = call_linked u is_setup from caller scope call in
        let here = moved u is_setup (λ hs. FindsMethod hs r.class r.name r.desc (Some method)) finds in
        let same : linked.linked.0.method ≡ method =
        same_Some linked.linked.0.method method
        (laws.finds_one (headers_in (before u)) r.class r.name r.desc (Some linked.linked.0.method) (Some method) linked.linked.0.finds here) in
        flags_are false (subst (λ (x : Declared). has x.member.flags STATIC ≡ false) same linked.linked.0.form)

    -- the object of a virtual call
    pub virtual_on : (r : Reference) → Finds (headers_of u.classes) r method → IsClass (headers_of u.classes) method.class
        → (object : VType) → IsAssignable (headers_in (before u)) object (types.Object r.class)
        → IsOn (headers_in (before u)) object (own_name g.scope)
    virtual_on r finds own object assignable =
        let class = moved u is_setup (λ hs. IsClass hs method.class) own in
        let folder : IsFolderClass (before u) method.class = record {
          number = g.at.class;
          numbered = number;
          header = class.header;
          found = class.found;
          no_interface = class.no_interface;
        } in
        let known = of_reference r finds in
        let under = subtype_under (before u) u.typings is_setup.program folder known.above.above (inl refl) in
        subst (IsOn (headers_in (before u)) object) (sym own_is) (on_folder_class folder r.class under object assignable)

    -- ---- a special call of what is no initialiser

    -- a class whose superclasses name another is that or below it
    chain_under : {headers : Headers} {name : Name} {names : List Name} → IsChain headers name names → (high : Name)
        → IsTrue (list_any (bytes_eq high) names)
        → IsAtOrBelow headers name high
    chain_under {headers} (root name header found none) high any = by (bytes_eq high name) refl any where
      by : (same : Bool) → bytes_eq high name ≡ same → IsTrue (list_any (bytes_eq high) (name ∷ [])) → IsAtOrBelow headers name high
      by true is any = inl (sym ((bytes_eq-Decides high name).0 is))
      by false is any = absurd (false≢true (rw (is) at any))
    chain_under {headers} (below name above header names found super chain) high any = by (bytes_eq high name) refl any (chain_under chain high) where
      by : (same : Bool) → bytes_eq high name ≡ same → IsTrue (list_any (bytes_eq high) (name ∷ names))
          → (IsTrue (list_any (bytes_eq high) names) → IsAtOrBelow headers above high)
          → IsAtOrBelow headers name high
      by true is any later = inl (sym ((bytes_eq-Decides high name).0 is))
      by false is any later = more (later (rw (is) at any)) where
        more : IsAtOrBelow headers above high → IsAtOrBelow headers name high
        more (inl same) = inr (directly name high (subst (IsDirectlyBelow headers name) same (superclass name above header found super)))
        more (inr up) = inr (onwards name above high (superclass name above header found super) up)

    -- what a special call names is at or above the caller's class
    target_over : (name : Name) → IsSpecialTarget (row_scope caller) name → IsAtOrBelow caller.headers (own_name caller) name
    target_over name (inl chained) = chain_under chained.1 name chained.2
    target_over name (inr interfaces) =
        let known = class_of_scope u.classes u.links is_setup.hierarchy from caller scope in
        inr (directly (own_name caller) name (interface (own_name caller) name (header_of caller.class)
        (subst (λ (hs : Headers). class_named hs (own_name caller) ≡ Some (header_of caller.class)) (sym caller_headers) known.found) interfaces.1))
      where
        caller_headers : caller.headers ≡ headers_of u.classes
        caller_headers = scope_headers u.classes from caller scope

    pub record IsOfSpecial (reference : Reference) : Type 0 where
      pub flag : has g.scope.method.flags STATIC ≡ false
      pub desc : own_descriptor g.scope ≡ reference.desc
      pub on : (object : VType) → IsAssignable (headers_in (before u)) object (types.Object (own_name caller))
          → IsOn (headers_in (before u)) object (own_name g.scope)

    pub of_special : (r : Reference) (found : Declared) (start : Name) → IsClass (headers_of u.classes) (own_name caller)
        → ¬ IsPolymorphic (headers_of u.classes) r.class r.name
        → Finds (headers_of u.classes) r found
        → has found.member.flags STATIC ≡ false
        → StartsSpecial (headers_of u.classes) (own_name caller) r.class start
        → Selects (headers_of u.classes) start found Special (chosen_method method)
        → IsSpecialTarget (row_scope caller) r.class
        → IsOfSpecial r
    of_special r found start own_class no_handle_named finds instance starts selects target =
        let here = moved u is_setup (λ hs. FindsMethod hs r.class r.name r.desc (Some found)) finds in
        let above = laws.finds_above (headers_in (before u)) r.class r.name r.desc found is_setup.program.hierarchy here in
        let other = moved u is_setup (λ hs. ¬ IsPolymorphic hs r.class r.name) no_handle_named in
        let starts_here = moved u is_setup (λ hs. StartsSpecial hs (own_name caller) r.class start) starts in
        let selects_here = moved u is_setup (λ hs. Selects hs start found Special (chosen_method method)) selects in
        let runs =
        laws.runnable (headers_in (before u)) start found method Special is_setup.program.hierarchy above.declares instance
        (start_below u is_setup starts_here above.above) selects_here in
        let own = method_at u.classes g.at g.scope callee method stands in
        let class = moved u is_setup (λ hs. IsClass hs (own_name caller)) own_class in
        let named = class_of_scope u.classes u.links is_setup.hierarchy from caller scope in
        let folder : IsFolderClass (before u) (own_name caller) = record {
          number = from.class;
          numbered = named.number;
          header = class.header;
          found = class.found;
          no_interface = class.no_interface;
        } in
        let over_name : IsAtOrBelow (headers_in (before u)) (own_name caller) r.class =
        subst (λ (hs : Headers). IsAtOrBelow hs (own_name caller) r.class) (scope_headers u.classes from caller scope ∙ sym (headers u is_setup))
        (target_over r.class target) in
        let over_start = start_over start r.class starts_here over_name in
        let flat_own = flat_there u is_setup (own_name caller) (ap is_some class.found) in
        let flat_start = above_flat (own_name caller) start flat_own over_start in
        let over_method : IsAtOrBelow (headers_in (before u)) start method.class = at_or_below u is_setup start method.class flat_start runs.above in
        record {
          flag = flags_are false runs.of_instance;
          desc = ap (λ (m : Member). m.desc) own.member ∙ runs.same_desc ∙ same_desc u is_setup r found above other;
          on = λ object assignable.
              subst (IsOn (headers_in (before u)) object) (sym own_is)
              (on_over (up_to over_start over_method) (on_folder_class folder (own_name caller) (inl refl) object assignable));
        } where
          start_over : (start named : Name) → StartsSpecial (headers_in (before u)) (own_name caller) named start
              → IsAtOrBelow (headers_in (before u)) (own_name caller) named
              → IsAtOrBelow (headers_in (before u)) (own_name caller) start
          start_over start named (at_superclass header _ super found some) over =
              inr (directly (own_name caller) start (superclass (own_name caller) start header found some))
          start_over start named (at_named none) over = over

          above_flat : (low high : Name) → ¬ IsArray low → IsAtOrBelow (headers_in (before u)) low high → ¬ IsArray high
          above_flat low high flat (inl same) = subst (λ (name : Name). ¬ IsArray name) same flat
          above_flat low high flat (inr up) =
              flat_there u is_setup high
              (above_is_there (headers_in (before u)) (hierarchy_is_sound (headers_in (before u)) is_setup.program.hierarchy) up)

          on_over : {low high : Name} {object : VType} → IsAtOrBelow (headers_in (before u)) low high → IsOn (headers_in (before u)) object low
              → IsOn (headers_in (before u)) object high
          on_over over (on_null null) = on_null null
          on_over over (on_class name is under flat) = on_class name is (up_to under over) flat
