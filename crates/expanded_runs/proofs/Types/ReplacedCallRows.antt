-- The rows of special calls that are replaced, and with them those of all.
use Rattle.flow_code.specs.ReadTypes.{class_of_site, read_type}
use Rattle.std.proofs.Common.{◌≡◌, ◌≢◌, ℕ, Bool, true, false, List, Option, Some, None, bytes_eq, refl, sym, ap, subst, ◌∙◌}
use Rattle.std.proofs.lemmas.Bool.{eq-eqb, false≢true}
use Rattle.std.proofs.lemmas.Slice.Eq.{bytes_eq-Decides}
use Rattle.class_model.specs.Members.{STATIC, has, is_text}
use Rattle.class_model.specs.Names.{init}
use Rattle.class_model.specs.PoolChecks.{utf8_at}
use Rattle.class_model.specs.declared.class_file.MethodAt.{MethodAt}
use Rattle.class_model.specs.declared.descriptor.Kind.TheVariants as kinds
use Rattle.class_model.specs.declared.frame.Frame.{Frame}
use Rattle.class_model.specs.declared.frame.VType.{VType}
use Rattle.class_model.specs.declared.frame.VType.TheVariants as types
use Rattle.class_model.specs.declared.instr.Placed.{Placed}
use Rattle.class_model.specs.declared.opcodes.TheConstants.{INVOKESPECIAL}
use Rattle.class_tree.specs.Headers.{Headers, Name, headers_of}
use Rattle.class_tree.specs.Subtype.{IsArray}
use Rattle.expanded_code.specs.Callees.{Finds, IsCall, IsClass, StandsAt, own_name}
use Rattle.expanded_code.specs.Expanded.{Setting, expanded, set_type}
use Rattle.expanded_code.specs.Expansions.{Coded, Expansion}
use Rattle.expanded_runs.proofs.Runs.CallLaws.{CallLaws}
use Rattle.expanded_runs.proofs.Runs.Positions.{IsReplacedAt, Standing, frames_of, inner_setting, scope_of}
use Rattle.expanded_runs.proofs.Runs.Setup.{IsSetup, Setup}
use Rattle.expanded_runs.proofs.Runs.Standings.{IsStanding, Stands, callee_stands}
use Rattle.expanded_runs.proofs.Types.CalledObjects.{below_said, of_special}
use Rattle.expanded_runs.proofs.Types.Edges.{placed_type}
use Rattle.expanded_runs.proofs.Types.EntryFrames.{this_of}
use Rattle.expanded_runs.proofs.Types.FlatPlaces.{IsSiteSetting}
use Rattle.expanded_runs.proofs.Types.FrameFacts.{FrameFacts}
use Rattle.expanded_runs.proofs.Types.InitCallees.{InitCallee}
use Rattle.expanded_runs.proofs.Types.InitCalls.{init_facts, init_passes}
use Rattle.expanded_runs.proofs.Types.OwnPoints.{TypingLaws, scope_headers}
use Rattle.expanded_runs.proofs.Types.ReplacedRows.{RowSays, instr_is, known, on_passes, own_classes, row, row_says, there}
use Rattle.expanded_runs.proofs.Types.SiteObjects.{call as site_call, initialises, row_of_callee, site_setting, there as site_there, this_is}
use Rattle.expanded_runs.proofs.Types.SpecialCalls.{special_leaves, special_own, special_passed, special_target}
use Rattle.flow_code.specs.FlatCode.{FlatCode}
use Rattle.member_link.specs.Access.{IsAtOrBelow}
use Rattle.member_link.specs.Assignability.{IsAssignable}
use Rattle.member_link.specs.DeclaredMembers.{Declared}
use Rattle.member_link.specs.Methods.{IsPolymorphic}
use Rattle.member_link.specs.References.{Reference}
use Rattle.member_link.specs.Rows.MemberRows.{MayInitialise, initialised_type, receiver}
use Rattle.member_link.specs.Rows.Operands.{IsOfKind}
use Rattle.member_link.specs.Scope.{Scope, is_init, row_scope, scope_at}
use Rattle.member_link.specs.Selection.{Selects, chosen_method}
use Rattle.member_link.specs.SpecialStart.{StartsSpecial}
use Rattle.member_link.specs.declared.selection.CallForm.TheVariants.{Special}

-- another name
not_init : (name : List ℕ) → name ≢ init → bytes_eq name init ≡ false
not_init name apart = by (bytes_eq name init) refl where
  by : (b : Bool) → bytes_eq name init ≡ b → bytes_eq name init ≡ false
  by true e = absurd (apart ((bytes_eq-Decides name init).0 e))
  by false e = e

no_uninit_this : {new : ℕ} → types.Uninit new ≢ types.UninitThis
no_uninit_this is = cc

-- the object of a site is read as one of its class
read_site : (flat : FlatCode) (t : Setting) (object : VType) (new : ℕ) (class : Name) → set_type t object ≡ types.Uninit new
    → class_of_site flat.sites new ≡ Some class
    → placed_type flat t object ≡ types.Object class
read_site flat t object new class set is =
    let read : read_type flat (types.Uninit new) ≡ types.Object class = rw (is) refl in
    ap (read_type flat) set ∙ read

-- what the first local of an initialiser is
this_begins : (s : Scope) → is_init s ≡ true → this_of s ≡ types.UninitThis
this_begins s is = by (utf8_at s.class.pool s.method.name) refl where
  by : (name : Option (List ℕ)) → utf8_at s.class.pool s.method.name ≡ name → this_of s ≡ types.UninitThis
  by None name = absurd (false≢true (rw (name) at is))
  by (Some text) name =
      let named : is_text init (Some text) ≡ true = rw (name) at is in
      rw (name, named) refl

module _ (u : Setup) (is_setup : IsSetup u) (call_laws : CallLaws) (laws : TypingLaws) (facts : FrameFacts u.classes u.typed)
    (host : Coded) (e : Expansion)
    (stands : (chain : List MethodAt) (p : Standing) → IsStanding host e chain p → Stands u.classes u.typed host e chain p)
    (s : Scope) (is_host : scope_at u.classes host.at ≡ Some s) (no_init : is_init s ≡ false) where
  module _ {chain : List MethodAt} {p : Standing} (standing : IsStanding host e chain p) (k : ℕ) (placed : Placed) (frame : Frame) (g : Coded)
      (inner : Expansion) (here : IsReplacedAt p k placed frame g inner) where
    -- a special call that names no initialiser
    pub special_says : (method : Declared) → StandsAt u.classes g.at method → (r : Reference) (found : Declared) (start : Name)
        → IsCall (scope_of p) placed.at INVOKESPECIAL r
        → is_init g.scope ≡ false
        → r.name ≢ init
        → IsClass (headers_of u.classes) (own_name (scope_of p))
        → ¬ IsPolymorphic (headers_of u.classes) r.class r.name
        → Finds (headers_of u.classes) r found
        → has found.member.flags STATIC ≡ false
        → StartsSpecial (headers_of u.classes) (own_name (scope_of p)) r.class start
        → Selects (headers_of u.classes) start found Special (chosen_method method)
        → RowSays (expanded host e) (scope_of p).headers p k placed frame g inner
    special_says method at_callee r found start call no_init_callee named class no_handle finds instance starts selects =
        let callee = there u is_setup call_laws laws facts host e stands s is_host no_init standing k placed frame g inner here in
        let known_types = known u is_setup call_laws laws facts host e stands s is_host no_init standing k placed frame g inner here in
        let row_holds = row u is_setup call_laws laws facts host e stands s is_host no_init standing k placed frame g inner here in
        let instr = instr_is u is_setup call_laws laws facts host e stands s is_host no_init standing k placed frame g inner here call in
        let other = not_init r.name named in
        let target = special_target (expanded host e) p k placed frame g inner known_types call.index call.count r call.names row_holds instr other in
        let object = special_own (expanded host e) p k placed frame g inner known_types call.index call.count r call.names row_holds instr other in
        let of = of_special u is_setup call_laws p.setting.coded.at (scope_of p) callee.caller.is_scope placed.at g callee.callee.is_scope method
        at_callee r found start class no_handle finds instance starts selects target in
        let classes_are = own_classes u is_setup call_laws laws facts host e stands s is_host no_init standing k placed frame g inner here in
        let on = of.on (receiver frame r.desc)
        (subst (λ (hs : Headers). IsAssignable hs (receiver frame r.desc) (types.Object (own_name (scope_of p)))) classes_are object) in
        record {
          leaves =
              special_leaves (expanded host e) p k placed frame g inner known_types call.index call.count r call.names row_holds instr other of.desc
              of.flag;
          passes =
              special_passed (expanded host e) p k placed frame g inner known_types call.index call.count r call.names row_holds instr other of.desc
              of.flag
              (λ said is. on_passes u is_setup call_laws laws facts host e stands s is_host no_init standing k placed frame g inner here no_init_callee
              (receiver frame r.desc) said on is);
        }

    -- ---- a call of an initialiser

    module _ (is : is_init g.scope ≡ true) where
      abbrev callee_call : InitCallee u is_setup call_laws p.setting.coded.at (scope_of p)
          (site_there u is_setup call_laws laws facts host e stands s is_host no_init standing k placed frame g inner here is).caller.is_scope
          placed.at g
      callee_call = site_call u is_setup call_laws laws facts host e stands s is_host no_init standing k placed frame g inner here is

      abbrev object_of : Reference → VType
      object_of r = receiver frame r.desc

      -- the object is that of a site
      site : (class : Name) × IsSiteSetting (expanded host e) (inner_setting p k placed frame g inner) class
      site = site_setting u is_setup call_laws laws facts host e stands s is_host no_init (callee_stands k placed frame g inner standing here) is

      object_set : set_type p.setting (receiver frame callee_call.reference.desc) ≡ types.Uninit site.1.new
      object_set =
          sym (this_is u is_setup call_laws laws facts host e stands s is_host no_init standing k placed frame g inner here is) ∙ site.1.this

      own_of_all : (scope_of p).headers ≡ headers_of u.classes
      own_of_all =
          let callee = there u is_setup call_laws laws facts host e stands s is_host no_init standing k placed frame g inner here in
          scope_headers u.classes p.setting.coded.at (scope_of p) callee.caller.is_scope

      callee_of_all : g.scope.headers ≡ headers_of u.classes
      callee_of_all =
          let callee = there u is_setup call_laws laws facts host e stands s is_host no_init standing k placed frame g inner here in
          scope_headers u.classes g.at g.scope callee.callee.is_scope

      -- it is read as one of the site's class, which is at or below that of the initialiser
      through : (object : VType) → receiver frame callee_call.reference.desc ≡ object
          → MayInitialise (row_scope (scope_of p)) callee_call.reference object
          → (to : VType)
          → IsAssignable (scope_of p).headers (initialised_type (row_scope (scope_of p)) callee_call.reference object object) to
          → IsAssignable (scope_of p).headers (placed_type (expanded host e) p.setting object) (placed_type (expanded host e) p.setting to)
      through (types.Uninit at) on may to assignable =
          let own : own_name g.scope ≡ callee_call.reference.class = callee_call.own in
          let set : set_type p.setting (types.Uninit at) ≡ types.Uninit site.1.new = ap (set_type p.setting) (sym on) ∙ object_set in
          let becomes : initialised_type (row_scope (scope_of p)) callee_call.reference (types.Uninit at) (types.Uninit at)
          ≡ types.Object callee_call.reference.class = rw (eq-eqb at at refl) refl in
          let under : IsAtOrBelow (scope_of p).headers site.0 callee_call.reference.class =
          subst (λ (name : Name). IsAtOrBelow (scope_of p).headers site.0 name) own
          (subst (λ (hs : Headers). IsAtOrBelow hs site.0 (own_name g.scope)) (callee_of_all ∙ sym own_of_all) site.1.at_or_below) in
          subst (λ (type : VType). IsAssignable (scope_of p).headers type (placed_type (expanded host e) p.setting to))
          (sym (read_site (expanded host e) p.setting (types.Uninit at) site.1.new site.0 set site.1.site))
          (below_said (expanded host e) p.setting assignable becomes under site.1.no_array
          (subst (λ (name : Name). ¬ IsArray name) own site.1.no_array_above))
      through types.UninitThis on may to assignable =
          let callee = there u is_setup call_laws laws facts host e stands s is_host no_init standing k placed frame g inner here in
          let of_this =
          callee.replaced.of_this (scope_of p) (frames_of p) callee_call.reference callee.caller
          (initialises u is_setup call_laws laws facts host e stands s is_host no_init standing k placed frame g inner here is types.UninitThis on) in
          let earlier = site_setting u is_setup call_laws laws facts host e stands s is_host no_init standing of_this.0 in
          subst (λ (type : VType). IsAssignable (scope_of p).headers type (placed_type (expanded host e) p.setting to))
          (sym (read_site (expanded host e) p.setting types.UninitThis earlier.1.new earlier.0 earlier.1.this earlier.1.site))
          (below_said (expanded host e) p.setting assignable refl earlier.1.at_or_below earlier.1.no_array earlier.1.no_array_above)
      through other on may to assignable = absurd may

      pub init_says : RowSays (expanded host e) (scope_of p).headers p k placed frame g inner
      init_says =
          let known_types = known u is_setup call_laws laws facts host e stands s is_host no_init standing k placed frame g inner here in
          let row_holds = row u is_setup call_laws laws facts host e stands s is_host no_init standing k placed frame g inner here in
          let instr =
          instr_is u is_setup call_laws laws facts host e stands s is_host no_init standing k placed frame g inner here callee_call.is_call in
          let of_init = (bytes_eq-Decides callee_call.reference.name init).1 callee_call.of_init in
          let init_row_holds = row_of_callee u is_setup call_laws laws facts host e stands s is_host no_init standing k placed frame g inner here is in
          let goes = through (receiver frame callee_call.reference.desc) refl init_row_holds.further in
          let other : set_type p.setting (receiver frame callee_call.reference.desc) ≢ types.UninitThis =
          λ set. no_uninit_this (sym object_set ∙ set) in
          record {
            leaves =
                init_facts (expanded host e) p k placed frame g inner known_types callee_call.is_call.index callee_call.is_call.count
                callee_call.reference callee_call.is_call.names callee_call.desc row_holds callee_call.instance instr of_init goes other;
            passes =
                init_passes (expanded host e) p k placed frame g inner known_types callee_call.is_call.index callee_call.is_call.count
                callee_call.reference callee_call.is_call.names callee_call.desc row_holds callee_call.instance instr of_init goes other
                (subst (IsOfKind kinds.Ref) (sym object_set) tt) (this_begins g.scope is);
          }

    -- ---- each

    pub replaced_says : RowSays (expanded host e) (scope_of p).headers p k placed frame g inner
    replaced_says = row_says u is_setup call_laws laws facts host e stands s is_host no_init standing k placed frame g inner here (record {
      special = λ method at_callee r found start call other named class no_handle finds instance starts selects.
          special_says method at_callee r found start call other named class no_handle finds instance starts selects;
      initialiser = λ is. init_says is;
    })
