-- The own object of an initialiser that stands in flat code is that of a candidate site, of its class or of one below.
use Rattle.flow_code.specs.ReadTypes.{class_of_site}
use Rattle.std.proofs.Common.{◌≡◌, ◌==◌, ◌+◌, ◌≤◌, ℕ, true, false, List, ◌∷◌, ◌++◌, bytes_eq, length, map, slice_get, Some, ◌⊎◌, refl, sym, ap, subst, ◌∙◌, arith, inl, inr}
use Rattle.std.specs.Prelude.{is_some}
use Rattle.std.proofs.lemmas.Bool.{eq-eqb}
use Rattle.std.proofs.lemmas.Option.{same_Some}
use Rattle.std.proofs.lemmas.Slice.Eq.{bytes_eq-Decides}
use Rattle.std.proofs.lemmas.List.{length-map}
use Rattle.class_model.specs.Code.{verification_type}
use Rattle.class_model.specs.Descriptors.{parameters_of}
use Rattle.class_model.specs.Header.{header_of}
use Rattle.class_model.specs.Names.{init}
use Rattle.class_model.specs.Pool.{constant_at}
use Rattle.class_model.specs.declared.class_file.MethodAt.{MethodAt}
use Rattle.class_model.specs.declared.descriptor.FieldType.{FieldType}
use Rattle.class_model.specs.declared.frame.Frame.{Frame}
use Rattle.class_model.specs.declared.frame.VType.{VType}
use Rattle.class_model.specs.declared.frame.VType.TheVariants as types
use Rattle.class_model.specs.declared.instr.Instr.{Instr}
use Rattle.class_model.specs.declared.instr.Instr.TheVariants.{Invoke}
use Rattle.class_model.specs.declared.instr.Placed.{Placed}
use Rattle.class_model.specs.declared.opcodes.TheConstants.{INVOKESPECIAL}
use Rattle.class_tree.specs.Headers.{Headers, Name, headers_of}
use Rattle.class_tree.specs.Laws.Above.{below_more, hierarchy_is_sound, there_is_no_array}
use Rattle.class_tree.specs.Subtype.{IsArray, IsBelow, directly, superclass}
use Rattle.expanded_code.specs.Callees.{InitialisesAt, own_name}
use Rattle.expanded_code.specs.Expanded.{expanded, set_type}
use Rattle.expanded_code.specs.Expansions.{Coded, Expansion}
use Rattle.expanded_code.specs.Laws.Instructions.{new_there}
use Rattle.expanded_code.specs.Laws.Instructions.{calls_of}
use Rattle.expanded_code.specs.Sites.{IsReplaced, IsSite}
use Rattle.expanded_runs.proofs.Runs.CallLaws.{CallLaws}
use Rattle.expanded_runs.proofs.Runs.CalleeLaws.{site_makes}
use Rattle.expanded_runs.proofs.Runs.FlatSites.{becomes_site}
use Rattle.expanded_runs.proofs.Runs.LinkedInstrs.{instr_there}
use Rattle.expanded_runs.proofs.Runs.Positions.{IsReplacedAt, Standing, becomes, block_of, frames_of, inner_setting, instrs_of, makes_site, scope_of, start_of}
use Rattle.expanded_runs.proofs.Runs.Setup.{IsSetup, Setup}
use Rattle.expanded_runs.proofs.Runs.SiteInitialisers.{own_class_named}
use Rattle.expanded_runs.proofs.Runs.StandingLaws.{BecomesAs, becomes_as}
use Rattle.expanded_runs.proofs.Runs.Standings.{IsStanding, Stands, callee_stands, host_stands}
use Rattle.expanded_runs.proofs.Types.FlatParts.{IsOwn, own_site}
use Rattle.expanded_runs.proofs.Types.FlatPlaces.{IsSiteSetting}
use Rattle.expanded_runs.proofs.Types.FlatRows.{call_is_init, set_lowest}
use Rattle.expanded_runs.proofs.Types.FrameFacts.{FrameFacts}
use Rattle.expanded_runs.proofs.Types.InitCallees.{InitCallee, init_arguments, init_callee}
use Rattle.expanded_runs.proofs.Types.OwnPoints.{TypingLaws, row_at, scope_headers}
use Rattle.expanded_runs.proofs.Types.PlacedRows.{has_enough}
use Rattle.expanded_runs.proofs.Types.SitesThere.{made_by, site_here}
use Rattle.expanded_runs.proofs.Types.StandingPlaces.{CalleeHere, callee_here, host_scope_is, number_of_instr, start_number}
use Rattle.member_link.specs.Access.{IsAtOrBelow}
use Rattle.member_link.specs.BodyTyping.{RowHolds}
use Rattle.member_link.specs.References.{Reference}
use Rattle.member_link.specs.Rows.MemberRows.{MayInitialise, argument_needs, init_row, receiver}
use Rattle.member_link.specs.Rows.Operands.{assignable_to, lowest_of, uninitialised}
use Rattle.member_link.specs.Rows.Table.{row_of}
use Rattle.member_link.specs.Scope.{Scope, class_of_new, is_init, row_scope, scope_at}
use Rattle.member_link.specs.Signatures.{reference_of}

-- what is above a class is above those below it
pub up_to : {headers : Headers} {low middle high : Name} → IsAtOrBelow headers low middle → IsAtOrBelow headers middle high → IsAtOrBelow headers low high
up_to {headers} {low} {middle} {high} (inl same) rest = subst (λ (name : Name). IsAtOrBelow headers name high) (sym same) rest
up_to {headers} {low} {middle} {high} (inr below) (inl same) = inr (subst (IsBelow headers low) same below)
up_to (inr below) (inr above) = inr (below_more below above)

module _ (u : Setup) (is_setup : IsSetup u) (call_laws : CallLaws) (laws : TypingLaws) (facts : FrameFacts u.classes u.typed)
    (host : Coded) (e : Expansion)
    (stands : (chain : List MethodAt) (p : Standing) → IsStanding host e chain p → Stands u.classes u.typed host e chain p)
    (s : Scope) (is_host : scope_at u.classes host.at ≡ Some s) (no_init : is_init s ≡ false) where
  host_headers : s.headers ≡ headers_of u.classes
  host_headers = scope_headers u.classes host.at s is_host

  -- a class of the folder is no array
  pub folder_no_array : (at : MethodAt) (g : Scope) → scope_at u.classes at ≡ Some g → ¬ IsArray (own_name g)
  folder_no_array at g is =
      there_is_no_array (headers_of u.classes) (hierarchy_is_sound (headers_of u.classes) is_setup.hierarchy) is_setup.hierarchy.no_array (own_name g)
      (ap is_some (own_class_named u is_setup at g is))

  module _ {chain : List MethodAt} {p : Standing} (standing : IsStanding host e chain p) where
    -- ---- the row of a call of an initialiser

    pub init_row_at : (k : ℕ) (placed : Placed) (frame : Frame) → slice_get (instrs_of p) k ≡ Some placed → slice_get (frames_of p) k ≡ Some frame
        → (opcode index count : ℕ) → placed.instr ≡ Invoke opcode index count
        → (opcode == INVOKESPECIAL) ≡ true
        → (r : Reference) → reference_of (scope_of p).class.pool (constant_at (scope_of p).class.pool index) ≡ Some r
        → bytes_eq r.name init ≡ true
        → RowHolds (row_scope (scope_of p)) frame (init_row (row_scope (scope_of p)) frame r)
    init_row_at k placed frame is has opcode index count instr special r named is_init =
        let S = row_scope (scope_of p) in
        let row = row_at laws is_setup.types facts host e stands s host_headers standing k placed frame is has in
        let called : RowHolds S frame (row_of S frame placed.at (Invoke opcode index count)) =
        subst (λ (i : Instr). RowHolds S frame (row_of S frame placed.at i)) instr row in
        subst (RowHolds S frame) (call_is_init S frame opcode _ r special named is_init) called

    pub enough_below : (frame : Frame) (r : Reference) → RowHolds (row_scope (scope_of p)) frame (init_row (row_scope (scope_of p)) frame r)
        → length (parameters_of r.desc) + 1 ≤ length frame.stack
    enough_below frame r row =
        let many = has_enough (row_scope (scope_of p)) (uninitialised ∷ argument_needs r.desc) frame.stack row.operands in
        omega (arith, many, needs (parameters_of r.desc)) where
          needs : (params : List FieldType) → length (map (λ (param : FieldType). assignable_to (verification_type param)) params) ≡ length params
          needs params = length-map params (λ (param : FieldType). assignable_to (verification_type param))

    -- ---- a site

    -- the site of a new of the method is at its number
    pub site_of_new : (new : ℕ) (class : Name) → IsSite u.classes u.typed host.at chain p.setting.coded.at new class
        → class_of_site (expanded host e).sites (p.setting.number new) ≡ Some class
    site_of_new new class site =
        let own = stands chain p standing in
        let from = p.setting.coded.at in
        let makes : (other : Name) → IsSite u.classes u.typed host.at chain from new other → class_of_new (scope_of p) new ≡ Some other =
        λ other is. site_makes u (scope_of p) own.has.is_scope is in
        let there = new_there (scope_of p) new class (makes class site) in
        let known = subst (λ (at : ℕ). BecomesAs u.classes u.typed host.at chain from at (becomes p.expansion there.number)) there.offset
        (becomes_as chain from (instrs_of p) p.expansion own.expands there.number there.placed there.is) in
        let no_call : (callee : MethodAt) → ¬ IsReplaced u.classes u.typed host.at chain from new callee =
        λ callee replaced.
        let calls = calls_of replaced.is_callee own.has.is_scope in
        let call = calls.is_call in
        there.no_call calls.opcode call.index call.count call.is in
        let made : becomes p.expansion there.number ≡ makes_site class =
        becomes_site class known site no_call (λ other is. same_Some other class (sym (makes other is) ∙ makes class site)) in
        let number : p.setting.number new ≡ start_of p there.number =
        ap p.setting.number (sym there.offset) ∙ start_number laws host e stands s is_host standing there.number there.placed there.is in
        ap (class_of_site (expanded host e).sites) number
        ∙ site_here host e standing there.number there.placed there.is (subst IsOwn (sym made) own_site)
        ∙ ap made_by made

    -- ---- the object of a callee

    module _ (k : ℕ) (placed : Placed) (frame : Frame) (g : Coded) (inner : Expansion) (here : IsReplacedAt p k placed frame g inner)
        (is : is_init g.scope ≡ true) where
      pub there : CalleeHere laws host e stands s is_host chain p placed g inner
      there = callee_here laws host e stands s is_host standing here

      pub call : InitCallee u is_setup call_laws p.setting.coded.at (scope_of p) there.caller.is_scope placed.at g
      call = init_callee u is_setup call_laws p.setting.coded.at (scope_of p) there.caller.is_scope placed.at g there.calls there.callee.is_scope is

      r : Reference
      r = call.reference

      is_named : bytes_eq call.reference.name init ≡ true
      is_named = (bytes_eq-Decides call.reference.name init).1 call.of_init

      instr_is : placed.instr ≡ Invoke INVOKESPECIAL call.is_call.index call.is_call.count
      instr_is =
          let found = instr_there (scope_of p) placed.at (Invoke INVOKESPECIAL call.is_call.index call.is_call.count) call.is_call.is in
          let same : found.placed ≡ placed =
          same_Some found.placed placed
          (sym found.is ∙ ap (slice_get (instrs_of p)) (number_of_instr laws host e stands s is_host standing k placed here.is) ∙ here.is) in
          sym (ap (λ (x : Placed). x.instr) same) ∙ found.same

      pub row_of_callee : RowHolds (row_scope (scope_of p)) frame (init_row (row_scope (scope_of p)) frame call.reference)
      row_of_callee =
          init_row_at k placed frame here.is here.has_frame INVOKESPECIAL call.is_call.index call.is_call.count instr_is
          (eq-eqb INVOKESPECIAL INVOKESPECIAL refl) call.reference call.is_call.names is_named

      -- it is that on which the initialiser is called
      pub this_is : (inner_setting p k placed frame g inner).this ≡ set_type p.setting (receiver frame call.reference.desc)
      this_is =
          ap (λ (n : ℕ). lowest_of n (p.setting.below.stack ++ map (set_type p.setting) frame.stack))
          (init_arguments u is_setup call_laws p.setting.coded.at (scope_of p) there.caller.is_scope call (block_of p k))
          ∙ set_lowest p.setting frame.stack (length (parameters_of call.reference.desc) + 1) (enough_below frame call.reference row_of_callee)

      pub initialises : (object : VType) → receiver frame call.reference.desc ≡ object
          → InitialisesAt (scope_of p) (frames_of p) placed.at object call.reference
      initialises object on = record {
        is_call = call.is_call;
        of_init = call.of_init;
        frame = frame;
        before = ap (slice_get (frames_of p)) (number_of_instr laws host e stands s is_host standing k placed here.is) ∙ here.has_frame;
        on = on;
      }

      by_object : (is_init (scope_of p) ≡ true → (class : Name) × IsSiteSetting (expanded host e) p.setting class)
          → (object : VType) → receiver frame call.reference.desc ≡ object
          → MayInitialise (row_scope (scope_of p)) call.reference object
          → (class : Name) × IsSiteSetting (expanded host e) (inner_setting p k placed frame g inner) class
      by_object earlier (types.Uninit new) on may =
          let site = there.replaced.of_site (scope_of p) (frames_of p) new call.reference there.caller (initialises (types.Uninit new) on) in
          let makes = site_makes u (scope_of p) there.caller.is_scope site.1 in
          let own : site.0 ≡ own_name g.scope = same_Some site.0 call.reference.class (sym makes ∙ may) ∙ sym call.own in (
            site.0,
            record {
              new = p.setting.number new;
              this = this_is ∙ ap (set_type p.setting) on;
              site = site_of_new new site.0 site.1;
              at_or_below = inl own;
              no_array = subst (λ (name : Name). ¬ IsArray name) (sym own) (folder_no_array g.at g.scope there.callee.is_scope);
              no_array_above = folder_no_array g.at g.scope there.callee.is_scope;
            },
          )
      by_object earlier types.UninitThis on may =
          let found = there.replaced.of_this (scope_of p) (frames_of p) call.reference there.caller (initialises types.UninitThis on) in
          let before = earlier found.0 in (
            before.0,
            record {
              new = before.1.new;
              this = this_is ∙ ap (set_type p.setting) on ∙ before.1.this;
              site = before.1.site;
              at_or_below = subst (λ (h : Headers). IsAtOrBelow h before.0 (own_name g.scope)) (sym inner_headers)
                  (up_to (subst (λ (h : Headers). IsAtOrBelow h before.0 (own_name (scope_of p))) own_headers_are before.1.at_or_below) (step may));
              no_array = before.1.no_array;
              no_array_above = folder_no_array g.at g.scope there.callee.is_scope;
            },
          ) where
            own_headers_are : (scope_of p).headers ≡ headers_of u.classes
            own_headers_are = scope_headers u.classes p.setting.coded.at (scope_of p) there.caller.is_scope

            inner_headers : g.scope.headers ≡ headers_of u.classes
            inner_headers = scope_headers u.classes g.at g.scope there.callee.is_scope

            step : (call.reference.class ≡ own_name (scope_of p)) ⊎ ((header_of (scope_of p).class).super_name ≡ Some call.reference.class)
                → IsAtOrBelow (headers_of u.classes) (own_name (scope_of p)) (own_name g.scope)
            step (inl same) = inl (sym same ∙ sym call.own)
            step (inr super) =
                inr (directly (own_name (scope_of p)) (own_name g.scope)
                (superclass (own_name (scope_of p)) (own_name g.scope) (header_of (scope_of p).class)
                (own_class_named u is_setup p.setting.coded.at (scope_of p) there.caller.is_scope) (super ∙ ap Some (sym call.own))))
      by_object earlier other on may = absurd may

  -- Each initialiser that stands there.
  pub site_setting : {chain : List MethodAt} {p : Standing} → IsStanding host e chain p → is_init (scope_of p) ≡ true
      → (class : Name) × IsSiteSetting (expanded host e) p.setting class
  site_setting host_stands is =
      let none : is_init host.scope ≡ false = ap is_init (host_scope_is laws host e stands s is_host) ∙ no_init in
      absurd cc
  site_setting (callee_stands {p = p} k placed frame g inner below at) is =
      let own = row_of_callee below k placed frame g inner at is in
      by_object below k placed frame g inner at is (site_setting below) (receiver frame (call below k placed frame g inner at is).reference.desc)
      refl own.further
