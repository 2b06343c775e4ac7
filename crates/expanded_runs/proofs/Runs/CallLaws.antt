-- Laws of calls in the folder's own program: look-up, selection and arguments.
use Rattle.std.specs.Prelude.{◌≡◌, ◌≢◌, ◌⊎◌, ◌+◌, ◌&&◌, ◌||◌, not, refl, ℕ, Bool, true, false, List, [], ◌∷◌, bytes_eq, codes, get_or, is_some, Option, Some, None, option_and_then, option_map, if◌then◌else◌}
use Rattle.std.proofs.Common.{arith, inl, inr, ap, sym, subst, ◌∙◌}
use Rattle.std.proofs.lemmas.Option.{none-some, same_Some}
use Rattle.std.proofs.lemmas.Slice.Eq.{bytes_eq-Decides}
use Rattle.class_model.specs.Descriptors.{kind_of, units_of}
use Rattle.class_model.specs.Members.{ABSTRACT, STATIC, has, is_text}
use Rattle.class_model.specs.Names.{init}
use Rattle.class_model.specs.PoolChecks.{text_or_empty}
use Rattle.class_model.specs.declared.class_file.ClassFile.{ClassFile}
use Rattle.class_model.specs.declared.class_file.MethodAt.{MethodAt}
use Rattle.class_model.specs.declared.descriptor.FieldType.{FieldType}
use Rattle.class_model.specs.declared.frame.Frame.{Frame}
use Rattle.class_model.specs.declared.header.Header.{Header}
use Rattle.class_model.specs.declared.header.Member.{Member}
use Rattle.class_tree.specs.Headers.{Name, Classes, Headers, IsThere, class_named, headers_of}
use Rattle.class_tree.specs.Hierarchy.{IsHierarchy}
use Rattle.class_tree.specs.Laws.Above.{IsSound, class_decides, class_is_climbed, class_is_subtype, hierarchy_is_rooted, hierarchy_is_sound, below_more, low_is_there, there_is_no_array}
use Rattle.class_tree.specs.Laws.Headers.{class_there}
use Rattle.class_tree.specs.Names.{method_handle}
use Rattle.class_tree.specs.Order.{first_place, place_of}
use Rattle.class_tree.specs.Subtype.{IsArray, IsBelow, IsSubtype}
use Rattle.class_tree.specs.declared.place.Place.{Place}
use Rattle.class_tree.specs.declared.place.Place.TheVariants.{Folder, Library}
use Rattle.expanded_code.specs.Callees.{Calls, IsCallee, MayStandIn, is_callee}
use Rattle.expanded_code.specs.Expanded.{arguments_from}
use Rattle.expanded_runs.proofs.Runs.CallFrames.{EachInstrTyped, EachMethodTyped, StepsTyped}
use Rattle.expanded_runs.proofs.Runs.CallTargets.{Consecutive, first_numbered, headers_are, numbered}
use Rattle.expanded_runs.proofs.Runs.FolderReceivers.{below_outside}
use Rattle.expanded_runs.proofs.Runs.ReplacedCalls.{FitArguments}
use Rattle.expanded_runs.proofs.Runs.Setup.{IsSetup, Setup, before}
use Rattle.flow_code.specs.TypedFrames.{FolderFrames}
use Rattle.machine_values.specs.Values.{has_kind, have_kinds}
use Rattle.machine_values.specs.declared.value.Value.{Value}
use Rattle.member_link.specs.Access.{IsAtOrBelow}
use Rattle.member_link.specs.Choices.{IsRunnable}
use Rattle.member_link.specs.DeclaredMembers.{Declared, IsMethod, declared, declared_by, own_method}
use Rattle.member_link.specs.FoundAbove.{IsMethodAbove}
use Rattle.member_link.specs.Machine.CallSteps.{is_polymorphic}
use Rattle.member_link.specs.Machine.Links.{reference_to}
use Rattle.member_link.specs.Machine.Programs.{RunClass, folder_number, headers_in}
use Rattle.member_link.specs.Methods.{FindsMethod, IsInLibrary, IsPolymorphic, initialiser, of_array, of_class, polymorphic}
use Rattle.member_link.specs.References.{Reference}
use Rattle.member_link.specs.Scope.{Scope, scope_at}
use Rattle.member_link.specs.Selection.{Choice, Selects, abstract_choice, chosen_method, of_initialiser, of_special}
use Rattle.member_link.specs.SpecialStart.{StartsSpecial, at_named, at_superclass}
use Rattle.member_link.specs.declared.selection.CallForm.{CallForm}
use Rattle.member_link.specs.declared.selection.CallForm.TheVariants.{Special}

-- ---- laws of look-up, of selection and of typing

pub record CallLaws : Type 0 where
  pub finds_one : (headers : Headers) (class : Name) (name desc : List ℕ) (one other : Option Declared)
      → FindsMethod headers class name desc one → FindsMethod headers class name desc other → one ≡ other
  pub finds_above : (headers : Headers) (class : Name) (name desc : List ℕ) (method : Declared)
      → IsHierarchy headers → FindsMethod headers class name desc (Some method) → IsMethodAbove headers class name desc method
  pub chooses_one : (headers : Headers) (receiver : Name) (resolved : Declared) (form : CallForm) (one other : Choice)
      → Selects headers receiver resolved form one → Selects headers receiver resolved form other → one ≡ other
  pub runnable : (headers : Headers) (receiver : Name) (resolved method : Declared) (form : CallForm)
      → IsHierarchy headers
      → IsMethod headers resolved
      → has resolved.member.flags STATIC ≡ false
      → IsSubtype headers receiver resolved.class
      → Selects headers receiver resolved form (chosen_method method)
      → IsRunnable headers receiver resolved method
  pub consecutive : Consecutive
  pub methods : EachMethodTyped
  pub instrs : EachInstrTyped
  pub steps : StepsTyped

-- ---- arguments

both_kinds : (one : Bool) (type : FieldType) (types : List FieldType) (value : Value) (vs : List Value)
    → has_kind (kind_of type) value ≡ one → have_kinds (type ∷ types) (value ∷ vs) ≡ true
    → (has_kind (kind_of type) value ≡ true) × (have_kinds types vs ≡ true)
both_kinds true type types value vs e all = (e, rw e at all)
both_kinds false type types value vs e all = let no : false ≡ true = rw e at all in absurd cc

-- values of the kinds of types are of the kinds of arguments
pub kinds_fit : (unit : ℕ) (types : List FieldType) (vs : List Value) → have_kinds types vs ≡ true → FitArguments (arguments_from unit types) vs
kinds_fit unit [] [] all = tt
kinds_fit unit [] (value ∷ vs) all = absurd cc
kinds_fit unit (type ∷ types) [] all = absurd cc
kinds_fit unit (type ∷ types) (value ∷ vs) all =
    let both = both_kinds (has_kind (kind_of type) value) type types value vs refl all in
    (both.0, kinds_fit (unit + units_of (kind_of type)) types vs both.1)

-- ---- names

pub text_is : (name : List ℕ) (o : Option (List ℕ)) → text_or_empty o ≢ name → is_text name o ≡ false
text_is name None other = refl
text_is name (Some text) other = by (bytes_eq name text) refl where
  by : (b : Bool) → bytes_eq name text ≡ b → bytes_eq name text ≡ false
  by true e = absurd (other (sym ((bytes_eq-Decides name text).0 e)))
  by false e = e

pub text_named : (o : Option (List ℕ)) → text_or_empty o ≡ init → is_text init o ≡ true
text_named None e = let no : 0 ≡ 60 = ap (λ (text : List ℕ). get_or text 0 0) e in absurd (omega (arith, no))
text_named (Some text) e = (bytes_eq-Decides init text).1 (sym e)

and_first : (a b : Bool) → (a && b) ≡ true → a ≡ true
and_first true b is = refl
and_first false b is = is

and_second : (a b : Bool) → (a && b) ≡ true → b ≡ true
and_second true b is = is
and_second false b is = absurd cc

either_of : (a b : Bool) → (a || b) ≡ true → (a ≡ true) ⊎ (b ≡ true)
either_of true b is = inl refl
either_of false b is = inr is

-- ---- the callee of a call

-- what is known of a call and its callee
pub record CalleeParts (classes : Classes) (from : MethodAt) (at : ℕ) (callee : MethodAt) : Type 0 where
  pub host_class : ClassFile
  pub caller : Scope
  pub is_caller : scope_at classes from ≡ Some caller
  pub scope : Scope
  pub is_scope : scope_at classes callee ≡ Some scope
  pub frames : List Frame
  pub calls : Calls classes caller at callee
  pub stands : MayStandIn classes host_class scope frames

pub callee_parts : {classes : Classes} {typed : FolderFrames} {host : ℕ} {from : MethodAt} {at : ℕ} {callee : MethodAt}
    → IsCallee classes typed host from at callee → CalleeParts classes from at callee
callee_parts
    (is_callee from at callee host_class caller scope first frames inner is_host is_caller are_first is_scope are_frames its_calls stands result parts) =
    record { host_class = host_class; caller = caller; is_caller = is_caller; scope = scope; is_scope = is_scope; frames = frames; calls = its_calls; stands = stands }

-- an initialiser is found in the named class
own_class : (headers : Headers) (class : Name) (name desc : List ℕ) (m : Declared) → own_method headers class name desc ≡ Some m → m.class ≡ class
own_class headers class name desc m is = by (class_named headers class) is where
  of_member : (o : Option Member) → option_map (declared_by class) o ≡ Some m → m.class ≡ class
  of_member None e = absurd (none-some m e)
  of_member (Some member) e = ap (λ (d : Declared). d.class) (sym (same_Some (declared_by class member) m e))

  by : (o : Option Header) → option_and_then (λ (header : Header). option_map (declared_by class) (declared name desc header.methods)) o ≡ Some m
      → m.class ≡ class
  by None e = absurd (none-some m e)
  by (Some header) e = of_member (declared name desc header.methods) e

no_invoke : {name : List ℕ} → name ≡ init → (name ≡ codes "invoke") ⊎ (name ≡ codes "invokeExact") → ⊥
no_invoke is (inl e) = let no : 60 ≡ 105 = ap (λ (text : List ℕ). get_or text 0 0) (sym is ∙ e) in absurd (omega (arith, no))
no_invoke is (inr e) = let no : 60 ≡ 105 = ap (λ (text : List ℕ). get_or text 0 0) (sym is ∙ e) in absurd (omega (arith, no))

pub init_class : {headers : Headers} {class : Name} {name desc : List ℕ} {o : Option Declared} → FindsMethod headers class name desc o → name ≡ init
    → (m : Declared) → o ≡ Some m → m.class ≡ class
init_class {headers = headers} {class = class} {name = name} {desc = desc} (initialiser named) is m found = own_class headers class name desc m found
init_class (polymorphic handle) is m found = absurd (no_invoke is handle.1)
init_class (of_array o other array finds) is m found = absurd (other is)
init_class (of_class o other flat handle finds) is m found = absurd (other is)

-- an initialiser is itself the choice
pub init_chosen : {headers : Headers} {start : Name} {found : Declared} {choice : Choice} → Selects headers start found Special choice
    → found.member.name ≡ init
    → (m : Declared) → choice ≡ chosen_method m → found ≡ m
init_chosen {found = found} (of_initialiser named) is m same = by (has found.member.flags ABSTRACT) same where
  by : (b : Bool) → (if b then abstract_choice else chosen_method found) ≡ chosen_method m → found ≡ m
  by true e = absurd cc
  by false e = cc
init_chosen (of_special choice other chooses) is m same = absurd (other is)

module _ (u : Setup) (is : IsSetup u) where
  pub headers : headers_in (before u) ≡ headers_of u.classes
  headers = headers_are u.classes u.links

  sound : IsSound (headers_in (before u))
  sound = hierarchy_is_sound (headers_in (before u)) is.program.hierarchy

  -- what holds of the folder's headers holds of the program's
  pub moved : (Q : Headers → Type 0) → Q (headers_of u.classes) → Q (headers_in (before u))
  moved Q q = subst Q (sym headers) q

  pub flat_there : (name : Name) → IsThere (headers_in (before u)) name → ¬ IsArray name
  flat_there name there = there_is_no_array (headers_in (before u)) sound is.program.hierarchy.no_array name there

  pub at_or_below : (low high : Name) → ¬ IsArray low → IsSubtype (headers_in (before u)) low high → IsAtOrBelow (headers_in (before u)) low high
  at_or_below low high flat sub = (class_decides (headers_in (before u)) sound is.program.hierarchy.no_array low high flat).0 sub

  -- ---- methods that are found under every descriptor

  no_array_handle : ¬ IsArray method_handle
  no_array_handle array = let e : 106 ≡ 91 = ap (λ (xs : List ℕ). get_or xs 0 0) array.1 in absurd (omega (arith, e))

  -- a class of the library has no number
  outside : (name : Name) (k : ℕ) → place_of (headers_in (before u)) name ≡ Some (Library k) → folder_number (before u) name ≡ None
  outside name k place = by (folder_number (before u) name) refl where
    by : (o : Option ℕ) → folder_number (before u) name ≡ o → folder_number (before u) name ≡ None
    by None e = e
    by (Some n) e =
        let first : first_place (λ (header : Header). bytes_eq name header.name) (headers_in (before u)).folder ≡ Some n =
        first_numbered (λ (header : Header). bytes_eq name header.name) (λ (class : RunClass). class.header) (before u).classes ∙ e in
        let other : Some (Folder n) ≡ Some (Library k) = rw first at place in
        absurd cc

  polymorphic_named : (r : Reference) → IsThere (headers_in (before u)) r.class → is_polymorphic (before u) r ≡ true
      → IsPolymorphic (headers_in (before u)) r.class r.name
  polymorphic_named r there e =
      let class = (bytes_eq-Decides r.class method_handle).0 (and_first _ _ e) in
      let rest = and_second (bytes_eq r.class method_handle) _ e in
      let c = class_there (headers_in (before u)) r.class there in
      let stands = is.program.hierarchy.of_name r.class c.0 c.1 in
      (class, named (either_of _ _ (and_first _ _ rest)), in_library stands.0 stands.1.is_place (none (folder_number (before u) r.class) (and_second _ _ rest))) where
        named : (bytes_eq r.name (codes "invoke") ≡ true) ⊎ (bytes_eq r.name (codes "invokeExact") ≡ true)
            → (r.name ≡ codes "invoke") ⊎ (r.name ≡ codes "invokeExact")
        named (inl e) = inl ((bytes_eq-Decides r.name (codes "invoke")).0 e)
        named (inr e) = inr ((bytes_eq-Decides r.name (codes "invokeExact")).0 e)

        none : (o : Option ℕ) → not (is_some o) ≡ true → o ≡ None
        none None e = refl
        none (Some n) e = absurd cc

        in_library : (p : Place) → place_of (headers_in (before u)) r.class ≡ Some p → folder_number (before u) r.class ≡ None
            → IsInLibrary (headers_in (before u)) r.class
        in_library (Library k) e out = (k, e)
        in_library (Folder n) e out =
            absurd (none-some n (sym out ∙ numbered u.classes u.links r.class n (subst (λ hs. place_of hs r.class ≡ Some (Folder n)) headers e)))

  -- a call of another method selects one
  pub plain_call : (r : Reference) (d : Name) → IsThere (headers_in (before u)) d → IsSubtype (headers_in (before u)) r.class d
      → ¬ IsPolymorphic (headers_in (before u)) r.class r.name → is_polymorphic (before u) r ≡ false
  plain_call r d there sub other = by (is_polymorphic (before u) r) refl where
    of_above : IsAtOrBelow (headers_in (before u)) r.class d → IsThere (headers_in (before u)) r.class
    of_above (inl e) = subst (IsThere (headers_in (before u))) (sym e) there
    of_above (inr up) = low_is_there up

    by : (b : Bool) → is_polymorphic (before u) r ≡ b → is_polymorphic (before u) r ≡ false
    by true e =
        let class = (bytes_eq-Decides r.class method_handle).0 (and_first _ _ e) in
        let flat : ¬ IsArray r.class = λ array. no_array_handle (subst IsArray class array) in
        absurd (other (polymorphic_named r (of_above (at_or_below r.class d flat sub)) e))
    by false e = e

  -- what a class of the folder declares is no such method
  pub no_handle : (r : Reference) (d : Name) (n : ℕ) → folder_number (before u) d ≡ Some n → IsSubtype (headers_in (before u)) r.class d
      → ¬ IsPolymorphic (headers_in (before u)) r.class r.name
  no_handle r d n number sub handle = by (at_or_below r.class d (λ array. no_array_handle (subst IsArray handle.0 array)) sub) where
    out : folder_number (before u) r.class ≡ None
    out = outside r.class handle.2.0 handle.2.1

    by : IsAtOrBelow (headers_in (before u)) r.class d → ⊥
    by (inl e) = none-some n (sym (subst (λ name. folder_number (before u) name ≡ None) e out) ∙ number)
    by (inr up) = none-some n (sym (below_outside (before u) u.typings is.program up out) ∙ number)

  pub same_desc : (r : Reference) (d : Declared) → IsMethodAbove (headers_in (before u)) r.class r.name r.desc d
      → ¬ IsPolymorphic (headers_in (before u)) r.class r.name → d.member.desc ≡ r.desc
  same_desc r d above other = by above.same_desc where
    by : (d.member.desc ≡ r.desc) ⊎ IsPolymorphic (headers_in (before u)) r.class r.name → d.member.desc ≡ r.desc
    by (inl e) = e
    by (inr handle) = absurd (other handle)

  -- ---- look-up and selection

  pub links_to : CallLaws → (r : Reference) (d : Declared) → r.name ≢ init → FindsMethod (headers_in (before u)) r.class r.name r.desc (Some d)
      → u.links.method r ≡ Some (reference_to d)
  links_to laws r d other finds =
      let link = is.program.links.method r other in
      link.same ∙ ap (option_map reference_to) (laws.finds_one (headers_in (before u)) r.class r.name r.desc link.found (Some d) link.finds finds)

  pub start_below : {own class start high : Name} → StartsSpecial (headers_in (before u)) own class start
      → IsSubtype (headers_in (before u)) class high
      → IsSubtype (headers_in (before u)) start high
  start_below (at_named none) sub = sub
  start_below {class = class} {start = start} {high = high} (at_superclass header _ super found some) sub =
      let climbed =
      class_is_climbed (headers_in (before u)) sound
      (hierarchy_is_rooted (headers_in (before u)) is.program.hierarchy) super.above header super.header found
      super.found super.no_interface in
      by (sym (same_Some climbed.0 start (sym climbed.1 ∙ some))) climbed.2 where
        over : IsBelow (headers_in (before u)) start class → IsAtOrBelow (headers_in (before u)) class high
            → IsSubtype (headers_in (before u)) start high
        over up (inl e) =
            class_is_subtype (headers_in (before u)) sound is.program.hierarchy.no_array (subst (IsBelow (headers_in (before u)) start) e up)
        over up (inr more) = class_is_subtype (headers_in (before u)) sound is.program.hierarchy.no_array (below_more up more)

        by : {name : Name} → start ≡ name → (name ≡ class) ⊎ IsBelow (headers_in (before u)) name class → IsSubtype (headers_in (before u)) start high
        by same (inl e) = subst (λ name. IsSubtype (headers_in (before u)) name high) (sym (same ∙ e)) sub
        by same (inr up) =
            over (subst (λ name. IsBelow (headers_in (before u)) name class) (sym same) up)
            (at_or_below class high (flat_there class (ap is_some super.found)) sub)
