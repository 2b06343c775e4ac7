-- An instance initialiser that stands in flat code is of the class of a site, or of a class above it.
use Rattle.class_tree.specs.Layouts.{chain}
use Rattle.std.proofs.Common.{◌≡◌, ◌≢◌, ◌⊎◌, ◌++◌, ℕ, zero, suc, Bool, true, false, List, [], ◌∷◌, bytes_eq, slice_get, Option, Some, None, option_map, IsTrue, if◌then◌else◌, refl, sym, ap, subst, ◌∙◌, inl, inr}
use Rattle.std.specs.List.{list_any}
use Rattle.std.proofs.lemmas.Bool.{false≢true, or_right}
use Rattle.std.proofs.lemmas.Option.{none-some, same_Some, slice_get-map}
use Rattle.std.proofs.lemmas.Slice.Eq.{bytes_eq-Decides}
use Rattle.class_model.specs.Header.{header_of}
use Rattle.class_model.specs.Names.{clinit, init}
use Rattle.class_model.specs.declared.class_file.MethodAt.{MethodAt}
use Rattle.class_model.specs.declared.frame.Frame.{Frame}
use Rattle.class_model.specs.declared.frame.VType.{VType}
use Rattle.class_model.specs.declared.frame.VType.TheVariants.{Uninit, UninitThis}
use Rattle.class_model.specs.declared.header.Header.{Header}
use Rattle.class_model.specs.declared.instr.Placed.{Placed}
use Rattle.class_model.specs.declared.opcodes.TheConstants.{INVOKESPECIAL}
use Rattle.class_tree.specs.Headers.{Classes, Headers, Name, class_named, headers_of, named}
use Rattle.class_tree.specs.Hierarchy.{IsHierarchy}
use Rattle.class_tree.specs.Laws.Names.{one_name_first, one_of_first}
use Rattle.class_tree.specs.Names.{object}
use Rattle.class_tree.specs.declared.place.Place.TheVariants.{Folder}
use Rattle.expanded_code.specs.Callees.{Calls, InitialisesAt, IsCall, Runs, own_name, runs_special, runs_static, runs_virtual}
use Rattle.expanded_code.specs.Expanded.{expanded}
use Rattle.expanded_code.specs.Expansions.{Coded, Expands, Expansion}
use Rattle.expanded_code.specs.Laws.Instructions.{calls_of, new_there}
use Rattle.expanded_code.specs.Laws.SuperChains.{chain_is, chain_of_object, has_superclass, of_each_class, super_there}
use Rattle.expanded_code.specs.Sites.{HasFrames, IsReplaced, IsSite}
use Rattle.expanded_runs.proofs.AloneProgram.{EachTyped, OneEach}
use Rattle.expanded_runs.proofs.Runs.CalledNames.{clinit_named, init_named, init_of_named, method_at, run_has_name}
use Rattle.expanded_runs.proofs.Runs.CalleeLaws.{site_makes}
use Rattle.expanded_runs.proofs.Runs.FlatSites.{HasSite, becomes_site, site_is_candidate, site_stands}
use Rattle.expanded_runs.proofs.Runs.LinkedInstrs.{EachInstrTyped, IsOn, call_linked, initialiser_on}
use Rattle.expanded_runs.proofs.Runs.Positions.{IsReplacedAt, Standing, becomes, frames_of, instrs_of, scope_of}
use Rattle.expanded_runs.proofs.Runs.Setup.{IsSetup, Setup, before}
use Rattle.expanded_runs.proofs.Runs.StandingLaws.{BecomesAs, as_replaced, becomes_as, stands_so}
use Rattle.expanded_runs.proofs.Runs.Standings.{IsStanding, callee_stands, host_stands}
use Rattle.flow_code.specs.TypedFrames.{FolderFrames}
use Rattle.member_link.specs.DeclaredMembers.{Declared}
use Rattle.member_link.specs.Machine.Classes.{run_class_of}
use Rattle.member_link.specs.Machine.Programs.{RunClass, number_of_first}
use Rattle.member_link.specs.References.{Reference}
use Rattle.member_link.specs.Rows.MemberRows.{MayInitialise, receiver}
use Rattle.member_link.specs.Scope.{Scope, class_of_new, instructions, is_clinit, is_init, row_scope, scope_at}
use Rattle.member_link.specs.Laws.Scopes.{scope_is_at}

-- ---- chains

module _ (headers : Headers) (hierarchy : IsHierarchy headers) where
  -- a class but java/lang/Object is of its own chain
  pub of_own_chain : (name : Name) (header : Header) → class_named headers name ≡ Some header → name ≢ object
      → IsTrue (list_any (bytes_eq name) (chain headers name))
  of_own_chain name header is differ =
      let above = has_superclass headers hierarchy name header is differ in
      subst (λ (names : List Name). IsTrue (list_any (bytes_eq name) names))
      (sym (chain_is headers hierarchy name header is differ above.0 above.1))
      (one_name_first name name (chain headers above.0) refl)

  -- and its superclass is of each chain that it is of
  module _ (name above : Name) (header : Header) (is : class_named headers name ≡ Some header) (some : header.super_name ≡ Some above)
      (differ : above ≢ object) where
    abbrev GoesUp : Name → Type 0
    GoesUp low = IsTrue (list_any (bytes_eq name) (chain headers low)) → IsTrue (list_any (bytes_eq above) (chain headers low))

    at_object : (top : Header) → class_named headers object ≡ Some top → GoesUp object
    at_object top there of_chain =
        absurd (false≢true (subst (λ (names : List Name). list_any (bytes_eq name) names ≡ true) (chain_of_object headers hierarchy top there)
        of_chain))

    one_step : (low high : Name) (own : Header) → class_named headers low ≡ Some own → low ≢ object → own.super_name ≡ Some high → GoesUp high
        → GoesUp low
    one_step low high own there low_differs to_high rest of_chain =
        let same = chain_is headers hierarchy low own there low_differs high to_high in
        let of_names = subst (λ (names : List Name). IsTrue (list_any (bytes_eq name) names)) same of_chain in
        subst (λ (names : List Name). IsTrue (list_any (bytes_eq above) names)) (sym same)
        (or_right (bytes_eq above low) (list_any (bytes_eq above) (chain headers high)) (up (one_of_first low (chain headers high) name of_names)))
      where
        up : (low ≡ name) ⊎ IsTrue (list_any (bytes_eq name) (chain headers high)) → IsTrue (list_any (bytes_eq above) (chain headers high))
        up (inl here) =
            let own_header : own ≡ header = same_Some own header (sym there ∙ ap (class_named headers) here ∙ is) in
            let same : high ≡ above = same_Some high above (sym to_high ∙ ap (λ (h : Header). h.super_name) own_header ∙ some) in
            let high_header = super_there headers hierarchy name header is above some in
            subst (λ (n : Name). IsTrue (list_any (bytes_eq above) (chain headers n))) (sym same)
            (of_own_chain above high_header.0 high_header.1 differ)
        up (inr later) = rest later

    pub chain_goes_up : (low : Name) (own : Header) → class_named headers low ≡ Some own → GoesUp low
    chain_goes_up low own there = of_each_class headers hierarchy GoesUp at_object one_step low own there

-- a class of the folder is found by its name
pub named_in_folder : (name : Name) (folder library : List Header) (header : Header) → named name folder ≡ Some header
    → named name (folder ++ library) ≡ Some header
named_in_folder name [] library header is = absurd (none-some header is)
named_in_folder name (first ∷ folder) library header is = by (bytes_eq name first.name) is (named_in_folder name folder library header) where
  by : (b : Bool) → (if b then Some first else named name folder) ≡ Some header
      → (named name folder ≡ Some header → named name (folder ++ library) ≡ Some header)
      → (if b then Some first else named name (folder ++ library)) ≡ Some header
  by true is later = is
  by false is later = later is

-- where none is the first to pass a test, none passes
none_passes : {A : Type 0} (passes : A → Bool) (items : List A) → number_of_first passes items ≡ None
    → (number : ℕ) (item : A) → slice_get items number ≡ Some item → passes item ≡ false
none_passes passes [] none number item is = absurd (none-some item is)
none_passes {A} passes (first ∷ items) none number item is =
    by (passes first) refl (number_of_first passes items) none (none_passes passes items) number is where
      by : (b : Bool) → passes first ≡ b → (found : Option ℕ) → (if b then Some zero else option_map suc found) ≡ None
          → (found ≡ None → (number : ℕ) (item : A) → slice_get items number ≡ Some item → passes item ≡ false)
          → (number : ℕ) → slice_get (first ∷ items) number ≡ Some item → passes item ≡ false
      by true e found none rest number is = absurd cc
      by false e (Some later) none rest number is = absurd cc
      by false e None none rest zero is = ap passes (sym (same_Some first item is)) ∙ e
      by false e None none rest (suc number) is = rest refl number item is

-- ---- a call of an initialiser

-- in place of a call an initialiser stands: the call is a special one that names an initialiser of its class
pub record InitCall (s : Scope) (at : ℕ) (class : Name) : Type 0 where
  pub reference : Reference
  pub is_call : IsCall s at INVOKESPECIAL reference
  pub of_init : reference.name ≡ init
  pub own : class ≡ reference.class

-- A call on the uninitialised object of a method itself is replaced within an initialiser alone. (In code that is never reached any method
-- may state a frame with such an object.)
abbrev pub ThisInInit : Classes → FolderFrames → Type 0
ThisInInit classes typed =
    (host : MethodAt) (chain : List MethodAt) (from : MethodAt) (at : ℕ) (callee : MethodAt)
    (scope : Scope) (frames : List Frame) (reference : Reference)
    → IsReplaced classes typed host chain from at callee
    → HasFrames classes typed from scope frames
    → InitialisesAt scope frames at UninitThis reference
    → IsTrue (is_init scope)

pub this_in_init : (classes : Classes) (typed : FolderFrames) → ThisInInit classes typed
this_in_init classes typed host chain from at callee scope frames reference replaced has initialises =
    (replaced.of_this scope frames reference has initialises).0

module _ (u : Setup) (is_setup : IsSetup u) where
  abbrev headers : Headers
  headers = headers_of u.classes

  -- ---- classes of the folder

  module _ (at : MethodAt) (s : Scope) (scope : scope_at u.classes at ≡ Some s) where
    header_there : slice_get headers.folder at.class ≡ Some (header_of s.class)
    header_there =
        let known = scope_is_at u.classes at s scope in
        slice_get-map header_of u.classes.folder at.class ∙ ap (option_map header_of) known.of_folder

    -- the class of a method with code is found by its name
    pub own_class_named : class_named headers (own_name s) ≡ Some (header_of s.class)
    own_class_named = (is_setup.hierarchy.of_place (Folder at.class) (header_of s.class) header_there).found

    run_there : slice_get (before u).classes at.class ≡ Some (run_class_of u.links headers s.class)
    run_there =
        let known = scope_is_at u.classes at s scope in
        slice_get-map (run_class_of u.links headers) u.classes.folder at.class ∙ ap (option_map (run_class_of u.links headers)) known.of_folder

    -- a class of the program's folder
    pub own_class_numbered : number_of_first (λ (class : RunClass). bytes_eq (own_name s) class.header.name) (before u).classes ≢ None
    own_class_numbered none =
        let other = none_passes (λ (class : RunClass). bytes_eq (own_name s) class.header.name) (before u).classes none at.class
        (run_class_of u.links headers s.class) run_there in
        false≢true (sym other ∙ (bytes_eq-Decides (own_name s) (own_name s)).1 refl)

    -- it is not java/lang/Object
    pub own_class_no_object : own_name s ≢ object
    own_class_no_object same =
        own_class_numbered (ap (λ (name : Name). number_of_first (λ (class : RunClass). bytes_eq name class.header.name) (before u).classes) same
        ∙ is_setup.program.base.of_object.outside)

  -- ---- calls

  module _ (from : MethodAt) (s : Scope) (scope : scope_at u.classes from ≡ Some s) where
    by_run : {at opcode : ℕ} {reference : Reference} {method : Declared}
        → IsCall s at opcode reference
        → Runs headers (own_name s) reference opcode method
        → reference.name ≡ init
        → InitCall s at method.class
    by_run call (runs_static method finds) of_init =
        let linked = call_linked u is_setup from s scope call in
        absurd (linked.linked.1 of_init)
    by_run {reference = reference} call (runs_special found method start is_class no_handle finds of_instance starts selects) of_init = record {
      reference = reference;
      is_call = call;
      of_init = of_init;
      own = init_of_named finds selects of_init;
    }
    by_run call (runs_virtual method finds is_class alone) of_init =
        let linked = call_linked u is_setup from s scope call in
        absurd (linked.linked.1 of_init)

    -- a callee that is an initialiser
    pub init_called : (at : ℕ) (callee : MethodAt) (g : Scope) → Calls u.classes s at callee → scope_at u.classes callee ≡ Some g → IsTrue (is_init g)
        → InitCall s at (own_name g)
    init_called at callee g calls callee_scope is =
        let own = method_at u.classes callee g callee_scope calls.method calls.stands in
        subst (InitCall s at) (sym own.own)
        (by_run calls.is_call calls.runs
        (sym (run_has_name calls.runs) ∙ init_named u.classes callee g callee_scope calls.method calls.stands is))

    by_name : {at opcode : ℕ} {reference : Reference} {method : Declared}
        → IsCall s at opcode reference
        → Runs headers (own_name s) reference opcode method
        → reference.name ≢ clinit
    by_name call (runs_static method finds) =
        let linked = call_linked u is_setup from s scope call in
        linked.linked.0.no_clinit
    by_name call (runs_special found method start is_class no_handle finds of_instance starts selects) =
        let linked = call_linked u is_setup from s scope call in
        linked.linked.no_clinit
    by_name call (runs_virtual method finds is_class alone) =
        let linked = call_linked u is_setup from s scope call in
        linked.linked.0.no_clinit

    -- no callee is a class initialiser
    pub no_clinit_called : (at : ℕ) (callee : MethodAt) (g : Scope) → Calls u.classes s at callee → scope_at u.classes callee ≡ Some g
        → ¬ IsTrue (is_clinit g)
    no_clinit_called at callee g calls callee_scope is =
        by_name calls.is_call calls.runs
        (sym (run_has_name calls.runs) ∙ clinit_named u.classes callee g callee_scope calls.method calls.stands is)

-- ---- the initialisers that stand in a flat code

-- a class of the chain of a site's class
pub record OfSite (headers : Headers) (host : Coded) (e : Expansion) (class : Name) : Type 0 where
  pub of : Name
  pub has : HasSite of (expanded host e).sites
  pub of_chain : IsTrue (list_any (bytes_eq class) (chain headers of))

module _ (u : Setup) (is_setup : IsSetup u) (each : EachTyped) (one : OneEach) (host : Coded) (e : Expansion)
    (has : HasFrames u.classes u.typed host.at host.scope host.frames)
    (expands : Expands u.classes u.typed host.at [] host.at (instructions host.scope) e) where
  -- a class of a chain is of the folder, and so is not java/lang/Object; one above it is of that chain
  of_chain_above : (at : MethodAt) (s : Scope) → scope_at u.classes at ≡ Some s
      → (at_above : MethodAt) (above : Scope) → scope_at u.classes at_above ≡ Some above
      → (header_of s.class).super_name ≡ Some (own_name above)
      → OfSite (headers_of u.classes) host e (own_name s)
      → OfSite (headers_of u.classes) host e (own_name above)
  of_chain_above at s scope at_above above above_scope super of_site =
      let candidate = site_is_candidate u.classes u.typed host e of_site.of expands of_site.has in
      let found = named_in_folder of_site.of (headers_of u.classes).folder (headers_of u.classes).library candidate.header candidate.found in
      record {
        of = of_site.of;
        has = of_site.has;
        of_chain =
            chain_goes_up (headers_of u.classes) is_setup.hierarchy (own_name s) (own_name above) (header_of s.class)
            (own_class_named u is_setup at s scope) super (own_class_no_object u is_setup at_above above above_scope) of_site.of candidate.header found
            of_site.of_chain;
      }

  -- a callee in place of a call, and the method that calls it
  record CalleeThere (chain : List MethodAt) (p : Standing) (placed : Placed) (g : Coded) : Type 0 where
    replaced : IsReplaced u.classes u.typed host.at chain p.setting.coded.at placed.at g.at
    caller : HasFrames u.classes u.typed p.setting.coded.at (scope_of p) (frames_of p)
    callee : HasFrames u.classes u.typed g.at g.scope g.frames
    calls : Calls u.classes (scope_of p) placed.at g.at

  callee_there : {chain : List MethodAt} {p : Standing} {k : ℕ} {placed : Placed} {frame : Frame} {g : Coded} {inner : Expansion}
      → IsStanding host e chain p
      → IsReplacedAt p k placed frame g inner
      → CalleeThere chain p placed g
  callee_there {chain} {p} {k} {placed} below at =
      let stands = stands_so each one u.classes u.typed is_setup.types host e has expands below in
      let found = as_replaced (becomes_as chain p.setting.coded.at (instrs_of p) p.expansion stands.expands k placed at.is) at.becomes in
      record {
        replaced = found.0;
        caller = stands.has;
        callee = found.1;
        calls = calls_of found.0.is_callee stands.has.is_scope;
      }

  -- a new of a method that stands there is a site of the flat code, if it may be one
  new_is_site : {chain : List MethodAt} {p : Standing} → IsStanding host e chain p → (new : ℕ) (class : Name)
      → IsSite u.classes u.typed host.at chain p.setting.coded.at new class
      → HasSite class (expanded host e).sites
  new_is_site {chain} {p} standing new class site =
      let stands = stands_so each one u.classes u.typed is_setup.types host e has expands standing in
      let from = p.setting.coded.at in
      let makes : (other : Name) → IsSite u.classes u.typed host.at chain from new other → class_of_new (scope_of p) new ≡ Some other =
      λ other is. site_makes u (scope_of p) stands.has.is_scope is in
      let there = new_there (scope_of p) new class (makes class site) in
      let becomes = subst (λ (at : ℕ). BecomesAs u.classes u.typed host.at chain from at (becomes p.expansion there.number)) there.offset
      (becomes_as chain from (instrs_of p) p.expansion stands.expands there.number there.placed there.is) in
      let no_call : (callee : MethodAt) → ¬ IsReplaced u.classes u.typed host.at chain from new callee =
      λ callee replaced.
      let calls = calls_of replaced.is_callee stands.has.is_scope in
      let call = calls.is_call in
      there.no_call calls.opcode call.index call.count call.is in
      site_stands host e class standing there.number there.placed there.is
      (becomes_site class becomes site no_call (λ other is. same_Some other class (sym (makes other is) ∙ makes class site)))

  -- No class initialiser stands in the flat code of a host that is none.
  pub no_clinit_stands : ¬ IsTrue (is_clinit host.scope) → {chain : List MethodAt} {p : Standing} → IsStanding host e chain p
      → ¬ IsTrue (is_clinit (scope_of p))
  no_clinit_stands no_clinit host_stands is = no_clinit is
  no_clinit_stands no_clinit (callee_stands {p = p} k placed frame g inner below at) is =
      let there = callee_there below at in
      no_clinit_called u is_setup p.setting.coded.at (scope_of p) there.caller.is_scope placed.at g.at g.scope there.calls there.callee.is_scope is

  module _ (each_instr : EachInstrTyped) (this_in_init : ThisInInit u.classes u.typed) where
    -- an initialiser in place of a call, by what it is called on
    by_object : {chain : List MethodAt} {p : Standing} {placed : Placed} {g : Coded}
        → IsStanding host e chain p
        → CalleeThere chain p placed g
        → (call : InitCall (scope_of p) placed.at (own_name g.scope))
        → (on : IsOn (scope_of p) (frames_of p) placed.at call.reference)
        → (IsTrue (is_init (scope_of p)) → OfSite (headers_of u.classes) host e (own_name (scope_of p)))
        → (object : VType) → receiver on.frame call.reference.desc ≡ object → MayInitialise (row_scope (scope_of p)) call.reference object
        → OfSite (headers_of u.classes) host e (own_name g.scope)
    by_object {chain} {p} {placed} {g} below there call on caller (Uninit new) is may =
        let initialises : InitialisesAt (scope_of p) (frames_of p) placed.at (Uninit new) call.reference =
        record { is_call = call.is_call; of_init = call.of_init; frame = on.frame; before = on.before; on = is } in
        let site = there.replaced.of_site (scope_of p) (frames_of p) new call.reference there.caller initialises in
        let makes = site_makes u (scope_of p) there.caller.is_scope site.1 in
        let same : site.0 ≡ own_name g.scope = same_Some site.0 call.reference.class (sym makes ∙ may) ∙ sym call.own in
        record {
          of = own_name g.scope;
          has = subst (λ (class : Name). HasSite class (expanded host e).sites) same (new_is_site below new site.0 site.1);
          of_chain =
              of_own_chain (headers_of u.classes) is_setup.hierarchy (own_name g.scope) (header_of g.scope.class)
              (own_class_named u is_setup g.at g.scope there.callee.is_scope)
              (own_class_no_object u is_setup g.at g.scope there.callee.is_scope);
        }
    by_object {chain} {p} {placed} {g} below there call on caller UninitThis is may =
        let initialises : InitialisesAt (scope_of p) (frames_of p) placed.at UninitThis call.reference =
        record { is_call = call.is_call; of_init = call.of_init; frame = on.frame; before = on.before; on = is } in
        let of_caller = caller (this_in_init host.at chain p.setting.coded.at placed.at g.at (scope_of p) (frames_of p) call.reference there.replaced
        there.caller initialises) in
        elim may [
          | inl own ↦ subst (OfSite (headers_of u.classes) host e) (sym (call.own ∙ own)) of_caller
          | inr super ↦ of_chain_above p.setting.coded.at (scope_of p) there.caller.is_scope g.at g.scope there.callee.is_scope
              (super ∙ ap Some (sym call.own)) of_caller
        ]
    by_object below there call on caller _ is may = absurd may

    -- Each initialiser that stands in the flat code of a host that is none is of the chain of a site's class.
    pub initialiser_of_site : ¬ IsTrue (is_init host.scope) → {chain : List MethodAt} {p : Standing} → IsStanding host e chain p
        → IsTrue (is_init (scope_of p))
        → OfSite (headers_of u.classes) host e (own_name (scope_of p))
    initialiser_of_site no_init host_stands is = absurd (no_init is)
    initialiser_of_site no_init (callee_stands {chain = chain} {p = p} k placed frame g inner below at) is =
        let there = callee_there below at in
        let call = init_called u is_setup p.setting.coded.at (scope_of p) there.caller.is_scope placed.at g.at g.scope there.calls
        there.callee.is_scope is in
        let on = initialiser_on each each_instr u.classes u.typed is_setup.types there.caller call.is_call call.of_init in
        by_object below there call on (initialiser_of_site no_init below) (receiver on.frame call.reference.desc) refl on.may
