-- The typed points of expanded code type it, by what is known of the rows of its methods.
use Rattle.same_runs.specs.TypedFlats.{TypesFlat, TypesPoint}
use Rattle.std.proofs.Common.{◌≡◌, ◌≢◌, ℕ, List, [], ◌∷◌, length, map, slice_get, Option, Some, None, refl, sym, ap, subst, ◌∙◌, arith}
use Rattle.std.specs.Prelude.{IsSome}
use Rattle.std.specs.List.{AllByRecursion}
use Rattle.std.proofs.lemmas.Option.{same_Some, slice_get_within}
use Rattle.class_model.specs.Descriptors.{parameters_of}
use Rattle.class_model.specs.declared.class_file.MethodAt.{MethodAt}
use Rattle.class_model.specs.declared.descriptor.Kind.{Kind}
use Rattle.class_model.specs.declared.frame.Frame.{Frame}
use Rattle.class_model.specs.declared.frame.VType.{VType}
use Rattle.class_model.specs.declared.frame.VType.TheVariants as types
use Rattle.class_model.specs.declared.instr.Instr.TheVariants.{Return}
use Rattle.class_model.specs.declared.instr.Placed.{Placed}
use Rattle.class_tree.specs.Headers.{Classes, Headers, IsClassFile, headers_of}
use Rattle.class_tree.specs.Hierarchy.{IsHierarchy}
use Rattle.expanded_code.specs.ExpandAnswers.{IsExpanded}
use Rattle.expanded_code.specs.Expanded.{Setting, arguments, expanded, set_frame, set_type}
use Rattle.expanded_code.specs.Expansions.{Coded, Expands, Expansion}
use Rattle.expanded_code.specs.Sites.{HasFrames}
use Rattle.expanded_runs.proofs.AloneProgram.{OneEach}
use Rattle.expanded_runs.proofs.Runs.PositionLaws.{length_arguments}
use Rattle.expanded_runs.proofs.Runs.Positions.{IsReplacedAt, Standing, becomes, block_of, frames_of, inner_setting, instrs_of, start_of}
use Rattle.expanded_runs.proofs.Runs.StandingLaws.{as_many, has_first, stands_so}
use Rattle.expanded_runs.proofs.Runs.Standings.{IsStanding, Stands, callee_stands, host_stands}
use Rattle.expanded_runs.proofs.Types.CallFacts.{CallFacts}
use Rattle.expanded_runs.proofs.Types.Entries.{EntryFacts, entry_point_typed, topmost_set}
use Rattle.expanded_runs.proofs.Types.EntryFrames.{PassedValues, passed_object, passed_static}
use Rattle.expanded_runs.proofs.Types.EntryTypes.{params_free}
use Rattle.expanded_runs.proofs.Types.FirstFrames.{frames_entered, frames_long}
use Rattle.expanded_runs.proofs.Types.FlatParts.{IsOwn}
use Rattle.expanded_runs.proofs.Types.FlatRows.{FlatRow}
use Rattle.expanded_runs.proofs.Types.FlatTyped.{types_flat}
use Rattle.expanded_runs.proofs.Types.FrameFacts.{FrameFacts}
use Rattle.expanded_runs.proofs.Types.HostBegins.{host_begins}
use Rattle.expanded_runs.proofs.Types.OwnPoints.{PlacedRow, TypingLaws, number_is, own_headers, scope_headers}
use Rattle.expanded_runs.proofs.Types.Returns.{returns_typed}
use Rattle.expanded_runs.proofs.Types.StandingUnits.{HasNarrowThis, folder_paired, narrow_block}
use Rattle.expanded_runs.proofs.Types.ThroughClass.{ArrayInterfaces, IsKnown}
use Rattle.expanded_runs.proofs.Types.Units.{item_there}
use Rattle.flow_code.specs.FlatCode.{FlatCode}
use Rattle.flow_code.specs.TypedFrames.{FolderFrames}
use Rattle.member_link.specs.Rows.FrameAssignability.{IsFrameAssignable}
use Rattle.member_link.specs.Rows.Operands.{lowest_of, topmost}
use Rattle.member_link.specs.Scope.{Scope, instructions, own_descriptor, scope_at}
use Rattle.type_rules.specs.Verified.{TypesFolder}

-- ---- the object of a callee

lowest_other : (count : ℕ) (stack values : List VType) → topmost count stack ≡ values
    → AllByRecursion (λ (type : VType). type ≢ types.UninitThis) values
    → lowest_of count stack ≢ types.UninitThis
lowest_other count stack [] are free is =
    let top : lowest_of count stack ≡ types.Top = rw (are) refl in
    let same : types.Top ≡ types.UninitThis = sym top ∙ is in
    cc
lowest_other count stack (value ∷ values) are free is =
    let first : lowest_of count stack ≡ value = rw (are) refl in
    free.0 (sym first ∙ is)

module _ (flat : FlatCode) (headers : Headers) (hierarchy : IsHierarchy headers) (arrays : ArrayInterfaces headers) where
  passed_free : (t q : Setting) (callee : Scope) (values : List VType) → PassedValues flat headers t q callee values
      → AllByRecursion (λ (type : VType). type ≢ types.UninitThis) (map (set_type t) values)
  passed_free t q callee values (passed_static static args) =
      params_free flat headers hierarchy arrays t q (parameters_of (own_descriptor callee)) values args
  passed_free t q callee _ (passed_object {object = object} {values = values} static kind other passes args) =
      (other, params_free flat headers hierarchy arrays t q (parameters_of (own_descriptor callee)) values args)

  -- it is no uninitialised this
  pub this_other : (p : Standing) (k : ℕ) (placed : Placed) (frame : Frame) (g : Coded) (inner : Expansion)
      → EntryFacts flat headers p k placed frame g inner
      → (inner_setting p k placed frame g inner).this ≢ types.UninitThis
  this_other p k placed frame g inner known =
      let t = p.setting in
      let stack = (set_frame t frame).stack in
      let tops : topmost (length (arguments g.scope (block_of p k))) stack
      ≡ map (set_type t) (topmost (length (arguments g.scope 0)) frame.stack) =
      ap (λ (n : ℕ). topmost n stack) (length_arguments g.scope (block_of p k))
      ∙ topmost_set t (length (arguments g.scope 0)) t.below.stack frame.stack known.enough in
      lowest_other (length (arguments g.scope (block_of p k))) stack _ tops
      (passed_free t (inner_setting p k placed frame g inner) g.scope (topmost (length (arguments g.scope 0)) frame.stack) known.passed)

-- ---- rows of instructions that stay

-- by the number of their points
placed_row : (classes : Classes) (s : Scope) (flat : FlatCode) (t : Setting) (placed : Placed) (frame : Frame)
    → t.coded.scope.headers ≡ s.headers
    → FlatRow classes s flat t frame placed.at placed.instr
    → (number : ℕ) → t.number placed.at ≡ number
    → PlacedRow classes s flat t number placed frame
placed_row classes s flat t placed frame headers row number same =
    subst (λ (n : ℕ). PlacedRow classes s flat t n placed frame) same (record {
      holds = row.holds;
      ends = row.stops;
      goes = λ own to is assignable.
          let behind = row.behind own is in (
            behind.frame,
            behind.is,
            behind.goes to (subst (λ (h : Headers). IsFrameAssignable h own to) (sym headers) assignable),
          );
    })

-- ---- what is asked of the methods of a flat code

-- The rows of instructions that stay hold in their place, and those of calls that are replaced say what they leave and what they pass. An
-- uninitialised this is not taken for a value of two units.
pub record MethodRows (classes : Classes) (s : Scope) (host : Coded) (e : Expansion) : Type 0 where
  pub rows : (chain : List MethodAt) (p : Standing) → IsStanding host e chain p → (k : ℕ) (placed : Placed) (frame : Frame)
      → slice_get (instrs_of p) k ≡ Some placed
      → slice_get (frames_of p) k ≡ Some frame
      → IsOwn (becomes p.expansion k)
      → (p.setting.behind ≢ None → (kind : Option Kind) → placed.instr ≢ Return kind)
      → FlatRow classes s (expanded host e) p.setting frame placed.at placed.instr
  pub calls : (chain : List MethodAt) (p : Standing) → IsStanding host e chain p → (k : ℕ) (placed : Placed) (frame : Frame) (g : Coded)
      (inner : Expansion)
      → IsReplacedAt p k placed frame g inner
      → CallFacts (expanded host e) s.headers p placed frame g
  pub passes : (chain : List MethodAt) (p : Standing) → IsStanding host e chain p → (k : ℕ) (placed : Placed) (frame : Frame) (g : Coded)
      (inner : Expansion)
      → IsReplacedAt p k placed frame g inner
      → PassedValues (expanded host e) s.headers p.setting (inner_setting p k placed frame g inner) g.scope
      (topmost (length (arguments g.scope 0)) frame.stack)
  pub narrow : (chain : List MethodAt) (p : Standing) → IsStanding host e chain p → (k : ℕ) (frame : Frame)
      → slice_get (frames_of p) k ≡ Some frame
      → HasNarrowThis p.setting frame

-- ---- what is known of the frames of typed methods

-- the types on the stacks of typed methods name classes that are there
pub record KnownTypes (classes : Classes) (typed : FolderFrames) : Type 0 where
  pub known : (at : MethodAt) (s : Scope) (frames : List Frame) → HasFrames classes typed at s frames
      → (k : ℕ) (frame : Frame) → slice_get frames k ≡ Some frame
      → (n : ℕ) (type : VType) → slice_get frame.stack n ≡ Some type
      → IsKnown s.headers type

-- ---- what follows of these rows

module _ (laws : TypingLaws) {classes : Classes} {typed : FolderFrames} (folder : TypesFolder classes typed) (facts : FrameFacts classes typed)
    (host : Coded) (e : Expansion) (stands : (chain : List MethodAt) (p : Standing) → IsStanding host e chain p → Stands classes typed host e chain p)
    (rows : MethodRows classes host.scope host e) where
  pub entry_facts : (chain : List MethodAt) (p : Standing) → IsStanding host e chain p → (k : ℕ) (placed : Placed) (frame : Frame) (g : Coded)
      (inner : Expansion)
      → IsReplacedAt p k placed frame g inner
      → EntryFacts (expanded host e) host.scope.headers p k placed frame g inner
  entry_facts chain p standing k placed frame g inner at = record {
    enough = (rows.calls chain p standing k placed frame g inner at).enough;
    passed = rows.passes chain p standing k placed frame g inner at;
    clear = record {
      narrow = λ before type same is.
          narrow_block facts (folder_paired laws folder) host e stands rows.narrow (callee_stands k placed frame g inner standing at) before type same is;
    };
  }

  pub this_known : IsHierarchy host.scope.headers → ArrayInterfaces host.scope.headers → (chain : List MethodAt) (p : Standing)
      → IsStanding host e chain p
      → IsSome p.setting.behind
      → p.setting.this ≢ types.UninitThis
  this_known own_hierarchy own_arrays chain p host_stands some = absurd cc
  this_known own_hierarchy own_arrays _ _ (callee_stands {chain = chain} {p = p} k placed frame g inner below at) some =
      this_other (expanded host e) host.scope.headers own_hierarchy own_arrays p k placed frame g inner
      (entry_facts chain p below k placed frame g inner at)

module _ (laws : TypingLaws) (one : OneEach) {classes : Classes} {typed : FolderFrames} (folder : TypesFolder classes typed)
    (files : AllByRecursion IsClassFile classes.folder) (types_known : KnownTypes classes typed) (hierarchy : IsHierarchy (headers_of classes)) (arrays : ArrayInterfaces (headers_of classes)) where
  facts : FrameFacts classes typed
  facts = record { long = frames_long laws folder files; entered = frames_entered laws folder; known = types_known.known }

  -- The flat code of a host is typed.
  pub expanded_typed : (host : Coded) (e : Expansion) → HasFrames classes typed host.at host.scope host.frames
      → Expands classes typed host.at [] host.at (instructions host.scope) e
      → MethodRows classes host.scope host e
      → TypesFlat classes host.scope (expanded host e)
  expanded_typed host e has expands rows =
      let headers = scope_headers classes host.at host.scope has.is_scope in
      let own_hierarchy : IsHierarchy host.scope.headers = subst IsHierarchy (sym headers) hierarchy in
      let own_arrays : ArrayInterfaces host.scope.headers = subst ArrayInterfaces (sym headers) arrays in
      let start = has_first laws.types_each one classes typed folder host has in
      let many = as_many laws.types_each one classes typed folder host has in
      let first = item_there host.frames 0 (omega (arith, many, slice_get_within (instructions host.scope) 0 start.0 start.1)) in
      types_flat laws folder facts host e stands host.scope headers (this_known laws folder facts host e stands rows own_hierarchy own_arrays) (record {
        rows = λ chain p standing k placed frame is there own stays.
            placed_row classes host.scope (expanded host e) p.setting placed frame
            (own_headers laws folder facts host e stands host.scope headers standing)
            (rows.rows chain p standing k placed frame is there own stays) (start_of p k)
            ((stands chain p standing).numbers placed.at
            ∙ ap (start_of p) (number_is laws folder facts host e stands host.scope headers standing k placed frame is there));
        returns =
            returns_typed laws folder facts host e stands host.scope headers (this_known laws folder facts host e stands rows own_hierarchy own_arrays) own_hierarchy own_arrays rows.calls;
        entries = λ number point part.
            subst (λ (n : ℕ). TypesPoint classes host.scope (expanded host e) n point) (sym part.number_is)
            (entry_point_typed laws folder facts host e stands host.scope headers (this_known laws folder facts host e stands rows own_hierarchy own_arrays) own_hierarchy own_arrays
            rows.calls part.standing part.k part.placed part.frame part.g part.inner part.here
            (entry_facts laws folder facts host e stands rows part.chain part.p part.standing part.k part.placed part.frame part.g part.inner part.here) part.behind point part.there);
        begins = host_begins laws folder facts host e stands headers first.0 first.1;
      })
    where
      stands : (chain : List MethodAt) (p : Standing) → IsStanding host e chain p → Stands classes typed host e chain p
      stands chain p standing = stands_so laws.types_each one classes typed folder host e has expands standing

  -- The typed points of the flat code of a method type it.
  pub expanded_types : (at : MethodAt) (flat : FlatCode) → (is : IsExpanded classes typed at flat) → (s : Scope) → scope_at classes at ≡ Some s
      → MethodRows classes is.host.scope is.host is.expansion
      → TypesFlat classes s flat
  expanded_types at flat is s scope rows =
      let same : is.host.scope ≡ s = same_Some is.host.scope s (sym is.is_host.is_scope ∙ scope) in
      subst (λ (x : Scope). TypesFlat classes x flat) same
      (subst (TypesFlat classes is.host.scope) (sym is.is)
      (expanded_typed is.host is.expansion
      (subst (λ (a : MethodAt). HasFrames classes typed a is.host.scope is.host.frames) (sym is.own) is.is_host)
      (subst (λ (a : MethodAt). Expands classes typed a [] a (instructions is.host.scope) is.expansion) (sym is.own) is.expands)
      rows))
