-- Along the edges of an expanded flat code types of uninitialised objects of sites come from the same types, or from their news.
use Rattle.std.proofs.Common.{◌≡◌, ◌≢◌, ◌+◌, ◌≤◌, ◌++◌, ℕ, Bool, true, false, List, [], length, map, slice_get, Some, IsFalse, IsTrue, refl, sym, ap, subst, ◌∙◌, arith, inl, inr}
use Rattle.std.specs.Prelude.{IsSome}
use Rattle.std.specs.List.{AllByRecursion}
use Rattle.std.proofs.lemmas.Option.{none-some, same_Some, slice_get_within}
use Rattle.class_model.specs.declared.class_file.MethodAt.{MethodAt}
use Rattle.class_model.specs.declared.frame.Frame.{Frame}
use Rattle.class_model.specs.declared.frame.VType.{VType}
use Rattle.class_model.specs.declared.frame.VType.TheVariants as types
use Rattle.class_model.specs.declared.instr.Instr.TheVariants.{Invoke}
use Rattle.class_model.specs.declared.instr.Placed.{Placed}
use Rattle.class_tree.specs.Headers.{headers_of}
use Rattle.class_tree.specs.Hierarchy.{IsHierarchy}
use Rattle.expanded_code.specs.ExpandAnswers.{IsExpanded, IsNoHost}
use Rattle.expanded_code.specs.Expanded.{Setting, expanded, host_setting, set_frame, set_type}
use Rattle.expanded_code.specs.Expansions.{Coded, Expands, Expansion}
use Rattle.expanded_code.specs.Sites.{HasFrames}
use Rattle.expanded_runs.proofs.AloneProgram.{OneEach}
use Rattle.expanded_runs.proofs.Ready.Catches.{frame_there}
use Rattle.expanded_runs.proofs.Ready.Comes.{FrameThere, locals_there, set_site, stack_there, top_no_site}
use Rattle.expanded_runs.proofs.Ready.EntryEdges.{entry_edges}
use Rattle.expanded_runs.proofs.Ready.EntryTypes.{object_known, static_known}
use Rattle.expanded_runs.proofs.Ready.OwnEdges.{own_edges}
use Rattle.expanded_runs.proofs.Ready.PointKinds.{OwnKind, own_kind, own_returns, own_stays}
use Rattle.expanded_runs.proofs.Ready.ReturnEdges.{return_edges}
use Rattle.expanded_runs.proofs.Ready.RowKeeps.{new_before}
use Rattle.expanded_runs.proofs.Runs.CallLaws.{CallLaws}
use Rattle.expanded_runs.proofs.Runs.Positions.{IsReplacedAt, Standing, host_standing, instrs_of, start_of}
use Rattle.expanded_runs.proofs.Runs.Setup.{IsSetup, Setup}
use Rattle.expanded_runs.proofs.Runs.StandingLaws.{as_replaced, becomes_as}
use Rattle.expanded_runs.proofs.Runs.Standings.{IsStanding, Stands, host_stands}
use Rattle.expanded_runs.proofs.Types.Expanded.{MethodRows, entry_facts, this_known}
use Rattle.expanded_runs.proofs.Types.FlatParts.{OwnPart, Part, part_of}
use Rattle.expanded_runs.proofs.Types.FrameFacts.{FrameFacts}
use Rattle.expanded_runs.proofs.Types.KnownTypes.{NameLaws}
use Rattle.expanded_runs.proofs.Types.OwnPoints.{TypingLaws, scope_headers}
use Rattle.expanded_runs.proofs.Types.StandingPlaces.{replaced_is_call}
use Rattle.expanded_runs.proofs.Types.StandingRows.{host_no_init}
use Rattle.expanded_runs.proofs.Types.ThroughClass.{ArrayInterfaces}
use Rattle.expanded_runs.proofs.Types.Whole.{arrays, facts, outside, rows, stands}
use Rattle.flow_code.specs.FlatCode.{FlatCode}
use Rattle.flow_code.specs.ReadTypes.{is_site_object}
use Rattle.flow_code.specs.declared.point.Point.{Point}
use Rattle.member_link.specs.Linked.{IsLinked}
use Rattle.member_link.specs.Rows.Operands.{IsUninitialised}
use Rattle.member_link.specs.Scope.{instructions, is_init}
use Rattle.plan_flow.specs.Must.{row_of_point}
use Rattle.plan_flow.specs.PlanScope.{local_types, scope_of as plan_scope, stack_types}
use Rattle.plan_flow.specs.PlanTable.{edges_of}
use Rattle.plan_flow.specs.ReadyForPlans.{KeepsAlong, KeepsUninit}
use Rattle.std.proofs.lemmas.List.{length-map}
use Rattle.class_model.specs.Members.{STATIC, has as has_flag}
use Rattle.expanded_runs.proofs.Ready.RowKeeps.{local_outside}
use Rattle.expanded_runs.proofs.Runs.StandingLaws.{as_many, has_first}
use Rattle.expanded_runs.proofs.Types.Edges.{set_unit}
use Rattle.expanded_runs.proofs.Types.FlatParts.{slice_either}
use Rattle.expanded_runs.proofs.Types.FrameFacts.{frame_fits, has_room}
use Rattle.expanded_runs.proofs.Types.ReturnFrames.{no_entries}
use Rattle.expanded_runs.proofs.Types.ThisWithin.{NoThisStanding}
use Rattle.expanded_runs.proofs.Types.Units.{get_inside, inside, item_there, outside as out_of, where_is}
use Rattle.member_link.specs.Rows.FrameAssignability.{IsFrameAssignable}
use Rattle.type_rules.specs.Stated.{entry}

module _ (u : Setup) (is_setup : IsSetup u) (linked : IsLinked u.classes) (name_laws : NameLaws) (call_laws : CallLaws) (laws : TypingLaws)
    (one : OneEach) (host : Coded) (e : Expansion) (has : HasFrames u.classes u.typed host.at host.scope host.frames)
    (expands : Expands u.classes u.typed host.at [] host.at (instructions host.scope) e) (no_host : ¬ IsNoHost u.classes host.at) where
  known_facts : FrameFacts u.classes u.typed
  known_facts = facts u is_setup linked name_laws call_laws laws one

  all_stand : (chain : List MethodAt) (p : Standing) → IsStanding host e chain p → Stands u.classes u.typed host e chain p
  all_stand = stands u is_setup linked name_laws call_laws laws one host e has expands no_host

  method_rows : MethodRows u.classes host.scope host e
  method_rows = rows u is_setup linked name_laws call_laws laws one host e has expands no_host

  headers : host.scope.headers ≡ headers_of u.classes
  headers = scope_headers u.classes host.at host.scope has.is_scope

  hierarchy : IsHierarchy host.scope.headers
  hierarchy = subst IsHierarchy (sym headers) is_setup.hierarchy

  known_arrays : ArrayInterfaces host.scope.headers
  known_arrays =
      subst ArrayInterfaces (sym headers) (arrays u is_setup linked name_laws call_laws laws one host.at host.scope has.is_scope)

  no_init : is_init host.scope ≡ false
  no_init = host_no_init u.classes host.at host.scope has.is_scope no_host

  no_this : NoThisStanding host e
  no_this = outside u is_setup linked name_laws call_laws laws one host e has expands no_host

  no_own_this : (chain : List MethodAt) (p : Standing) → IsStanding host e chain p → IsSome p.setting.behind → p.setting.this ≢ types.UninitThis
  no_own_this = this_known laws is_setup.types known_facts host e all_stand method_rows hierarchy known_arrays

  call_there : (chain : List MethodAt) (p : Standing) → IsStanding host e chain p → (k : ℕ) (placed : Placed) (frame : Frame) (g : Coded)
      (inner : Expansion)
      → IsReplacedAt p k placed frame g inner
      → (opcode : ℕ) × (index : ℕ) × (count : ℕ) × (placed.instr ≡ Invoke opcode index count)
  call_there chain p standing k placed frame g inner at =
      let own = all_stand chain p standing in
      let found = as_replaced (becomes_as chain p.setting.coded.at (instrs_of p) p.expansion own.expands k placed at.is) at.becomes in
      replaced_is_call laws host e all_stand host.scope has.is_scope standing k placed at.is g.at found.0

  -- ---- each point

  abbrev Along : ℕ → Point → Type 0
  Along number point =
      AllByRecursion (KeepsAlong (plan_scope u.classes u.links (expanded host e)) number point)
      (edges_of number point (row_of_point (plan_scope u.classes u.links (expanded host e)) number point))

  own_along : (number : ℕ) (point : Point) → OwnPart host e number point → Along number point
  own_along number point own =
      subst (λ (n : ℕ). Along n point) (sym own.number_is) (by (own_kind own.p.setting own.placed own.frame own.behind point own.there)) where
        by : OwnKind own.p.setting own.placed own.frame own.behind point → Along (start_of own.p own.k + own.behind) point
        by (own_stays first stays same) =
            let here : start_of own.p own.k ≡ start_of own.p own.k + own.behind = omega (arith, first) in
            subst (λ (n : ℕ). Along n point) here
            (subst (Along (start_of own.p own.k)) same
            (own_edges u is_setup call_laws laws known_facts host e all_stand host.scope has.is_scope no_init no_this own.standing own.k own.placed own.frame
            own.is own.has_frame own.own stays))
        by (own_returns behind kind b i there) =
            return_edges laws is_setup.types known_facts host e all_stand host.scope headers no_own_this hierarchy known_arrays method_rows.calls call_there
            u.links own.chain own.p own.standing own.k own.placed own.frame own.is own.has_frame own.own behind b kind i own.behind point there

  part_along : (number : ℕ) (point : Point) → Part host e number point → Along number point
  part_along number point (inl own) = own_along number point own
  part_along number point (inr part) =
      subst (λ (n : ℕ). Along n point) (sym part.number_is)
      (entry_edges laws is_setup.types known_facts host e all_stand host.scope headers no_own_this hierarchy known_arrays method_rows.calls u.links
      part.standing part.k part.placed part.frame part.g part.inner part.here
      (entry_facts laws is_setup.types known_facts host e all_stand method_rows part.chain part.p part.standing part.k part.placed part.frame part.g
      part.inner part.here) part.behind point part.there)

  -- ---- the first point

  first_there : (first : Frame) × (slice_get host.frames 0 ≡ Some first)
  first_there =
      let start = has_first laws.types_each one u.classes u.typed is_setup.types host has in
      let many = as_many laws.types_each one u.classes u.typed is_setup.types host has in
      item_there host.frames 0 (omega (arith, many, slice_get_within (instructions host.scope) 0 start.0 start.1))

  abbrev first_frame : Frame
  first_frame = first_there.0

  entered : IsFrameAssignable host.scope.headers (entry host.scope) first_frame
  entered = known_facts.entered host.at host.scope host.frames has first_there.0 first_there.1

  -- what a host begins with is in its place no object of a site
  begins_known : (m : ℕ) (type : VType) → IsUninitialised type → slice_get (entry host.scope).locals m ≡ Some type
      → ¬ IsTrue (is_site_object (expanded host e) (set_type (host_setting host e) type))
  begins_known m type new is site = by (has_flag host.scope.method.flags STATIC) refl where
    by : (static : Bool) → has_flag host.scope.method.flags STATIC ≡ static → ⊥
    by true static = static_known host.scope static m type is new
    by false static =
        let found = object_known host.scope static m type is new in
        let no = subst (λ (t : VType). IsTrue (is_site_object (expanded host e) (set_type (host_setting host e) t))) found.1 site in
        absurd cc

  local_known : (n : ℕ) (type : VType) → slice_get (set_frame (host_setting host e) first_frame).locals n ≡ Some type
      → ¬ IsTrue (is_site_object (expanded host e) type)
  local_known n type is site = elim (where_is 0 (length first_frame.locals) n) [
    | out_of out ↦
        let below = sym (local_outside t first_frame fits n out) ∙ is in
        let top = (has_room known_facts host e all_stand host_stands).tops.each n (omega arith) (slice_get_within t.below.locals n type below) in
        absurd (top_no_site (expanded host e) type (same_Some type types.Top (sym below ∙ top)) site)
    | inside m place within ↦
        let inner = get_inside 0 (map (set_type t) first_frame.locals) t.below.locals (omega (arith, fits, length-map first_frame.locals (set_type t))) m
        (omega (arith, within, length-map first_frame.locals (set_type t))) in
        let own = set_unit (expanded host e) t first_frame.locals m type
        (sym inner ∙ ap (slice_get (set_frame t first_frame).locals) (sym place) ∙ is) in
        let site_own = subst (λ (x : VType). IsTrue (is_site_object (expanded host e) x)) own.2 site in
        let new = set_site (expanded host e) t own.0 site_own in
        begins_known m own.0 new (new_before host.scope.headers (entry host.scope).locals first_frame.locals entered.locals m own.0 new own.1) site_own
  ] where
    t : Setting
    t = host_setting host e

    fits : t.unit + length first_frame.locals ≤ length t.below.locals
    fits = frame_fits known_facts host e all_stand host_stands 0 first_there.0 first_there.1

  entry_none : (n : ℕ) (type : VType) → slice_get (set_frame (host_setting host e) first_frame).stack n ≡ Some type → ⊥
  entry_none n type is =
      let own = set_unit (expanded host e) (host_setting host e) first_frame.stack n type is in
      let none = no_entries host.scope.headers first_frame.stack entered.stack in
      none-some own.0 (sym (ap (λ (l : List VType). slice_get l n) none) ∙ own.1)

  begins_there : FrameThere (expanded host e) 0 (set_frame (host_setting host e) first_frame)
  begins_there = frame_there laws is_setup.types known_facts host e all_stand host.scope headers host_stands 0 first_there.0 first_there.1

  at_start : (n : ℕ) (type : VType) → slice_get (local_types (expanded host e) 0 ++ stack_types (expanded host e) 0) n ≡ Some type
      → IsFalse (is_site_object (expanded host e) type)
  at_start n type is = by (is_site_object (expanded host e) type) refl where
    by : (site : Bool) → is_site_object (expanded host e) type ≡ site → IsFalse (is_site_object (expanded host e) type)
    by false none = none
    by true site = elim (slice_either (local_types (expanded host e) 0) (stack_types (expanded host e) 0) n type is) [
      | inl front ↦
          absurd (local_known n type
          (subst (λ (l : List VType). slice_get l n ≡ Some type) (locals_there (expanded host e) 0 (set_frame (host_setting host e) first_frame) begins_there) front)
          site)
      | inr back ↦
          absurd (entry_none back.behind type
          (subst (λ (l : List VType). slice_get l back.behind ≡ Some type)
          (stack_there (expanded host e) 0 (set_frame (host_setting host e) first_frame) begins_there) back.there))
    ]

  pub keeps_uninit : KeepsUninit (plan_scope u.classes u.links (expanded host e))
  keeps_uninit = record {
    start = at_start;
    along = λ number point is. part_along number point (part_of host e (all_stand [] (host_standing host e) host_stands).fits number point is);
  }

-- Each expanded flat code keeps uninitialised objects of its sites apart.
pub expanded_keeps_uninit : (u : Setup) → IsSetup u → IsLinked u.classes → NameLaws → CallLaws → TypingLaws → OneEach → (at : MethodAt) (code : FlatCode)
    → IsExpanded u.classes u.typed at code
    → ¬ IsNoHost u.classes at
    → KeepsUninit (plan_scope u.classes u.links code)
expanded_keeps_uninit u is_setup linked name_laws call_laws laws one at code is no_host =
    subst (λ (f : FlatCode). KeepsUninit (plan_scope u.classes u.links f)) (sym is.is)
    (keeps_uninit u is_setup linked name_laws call_laws laws one is.host is.expansion
    (subst (λ (a : MethodAt). HasFrames u.classes u.typed a is.host.scope is.host.frames) (sym is.own) is.is_host)
    (subst (λ (a : MethodAt). Expands u.classes u.typed a [] a (instructions is.host.scope) is.expansion) (sym is.own) is.expands)
    (subst (λ (a : MethodAt). ¬ IsNoHost u.classes a) (sym is.own) no_host))
