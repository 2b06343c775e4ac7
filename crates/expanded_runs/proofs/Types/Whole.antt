-- The typed points of each flat code of a verified folder type it.
use Rattle.same_runs.specs.TypedFlats.{TypesFlat}
use Rattle.std.proofs.Common.{◌≡◌, ℕ, List, [], Some, sym, subst}
use Rattle.class_model.specs.declared.class_file.MethodAt.{MethodAt}
use Rattle.class_model.specs.declared.frame.Frame.{Frame}
use Rattle.class_model.specs.declared.instr.Placed.{Placed}
use Rattle.class_tree.specs.Headers.{Headers, headers_of}
use Rattle.expanded_code.specs.ExpandAnswers.{IsExpanded, IsNoHost}
use Rattle.expanded_code.specs.Expanded.{expanded}
use Rattle.expanded_code.specs.Expansions.{Coded, Expands, Expansion}
use Rattle.expanded_code.specs.Sites.{HasFrames}
use Rattle.expanded_runs.proofs.AloneProgram.{OneEach}
use Rattle.expanded_runs.proofs.Runs.CallLaws.{CallLaws}
use Rattle.expanded_runs.proofs.Runs.Positions.{IsReplacedAt, Standing}
use Rattle.expanded_runs.proofs.Runs.Setup.{IsSetup, Setup}
use Rattle.expanded_runs.proofs.Runs.StandingLaws.{stands_so}
use Rattle.expanded_runs.proofs.Runs.Standings.{IsStanding, Stands}
use Rattle.expanded_runs.proofs.Types.Expanded.{KnownTypes, MethodRows, expanded_types}
use Rattle.expanded_runs.proofs.Types.FrameFacts.{FrameFacts}
use Rattle.expanded_runs.proofs.Types.HostTyped.{ReplacedRows, method_rows}
use Rattle.expanded_runs.proofs.Types.KnownTypes.{NameLaws, arrays_known, frame_facts}
use Rattle.expanded_runs.proofs.Types.OwnPoints.{TypingLaws, own_headers, scope_headers}
use Rattle.expanded_runs.proofs.Types.ReplacedCallRows.{replaced_says}
use Rattle.expanded_runs.proofs.Types.ReplacedRows.{RowSays}
use Rattle.expanded_runs.proofs.Types.StandingRows.{host_no_init}
use Rattle.expanded_runs.proofs.Types.ThisWithin.{NoThisStanding, no_this_standing}
use Rattle.expanded_runs.proofs.Types.ThroughClass.{ArrayInterfaces}
use Rattle.flow_code.specs.FlatCode.{FlatCode}
use Rattle.member_link.specs.Linked.{IsLinked}
use Rattle.member_link.specs.Scope.{Scope, instructions, scope_at}

module _ (u : Setup) (is_setup : IsSetup u) (linked : IsLinked u.classes) (name_laws : NameLaws) (call_laws : CallLaws) (laws : TypingLaws)
    (one : OneEach) where
  pub facts : FrameFacts u.classes u.typed
  facts = frame_facts name_laws laws is_setup.tree linked is_setup.hierarchy is_setup.types

  known : KnownTypes u.classes u.typed
  known = record { known = facts.known }

  pub arrays : (at : MethodAt) (s : Scope) → scope_at u.classes at ≡ Some s → ArrayInterfaces (headers_of u.classes)
  arrays at s is = subst ArrayInterfaces (scope_headers u.classes at s is) (arrays_known is_setup.tree at s is)

  module _ (host : Coded) (e : Expansion) (has : HasFrames u.classes u.typed host.at host.scope host.frames)
      (expands : Expands u.classes u.typed host.at [] host.at (instructions host.scope) e) (no_host : ¬ IsNoHost u.classes host.at) where
    pub stands : (chain : List MethodAt) (p : Standing) → IsStanding host e chain p → Stands u.classes u.typed host e chain p
    stands chain p standing = stands_so laws.types_each one u.classes u.typed is_setup.types host e has expands standing

    says : {chain : List MethodAt} {p : Standing} → IsStanding host e chain p → (k : ℕ) (placed : Placed) (frame : Frame) (g : Coded)
        (inner : Expansion)
        → IsReplacedAt p k placed frame g inner
        → RowSays (expanded host e) host.scope.headers p k placed frame g inner
    says {p = p} standing k placed frame g inner here =
        subst (λ (hs : Headers). RowSays (expanded host e) hs p k placed frame g inner)
        (own_headers laws is_setup.types facts host e stands host.scope (scope_headers u.classes host.at host.scope has.is_scope) standing)
        (replaced_says u is_setup call_laws laws facts host e stands host.scope has.is_scope
        (host_no_init u.classes host.at host.scope has.is_scope no_host) standing k placed frame g inner here)

    -- what is known of calls that are replaced
    pub replaced_rows : ReplacedRows host.scope host e
    replaced_rows = record {
      calls = λ chain p standing k placed frame g inner here. (says standing k placed frame g inner here).leaves;
      passes = λ chain p standing k placed frame g inner here. (says standing k placed frame g inner here).passes;
    }

    pub outside : NoThisStanding host e
    outside = no_this_standing u laws host e stands host.scope has.is_scope

    -- and so of all instructions
    pub rows : MethodRows u.classes host.scope host e
    rows =
        method_rows u is_setup call_laws laws one known (arrays host.at host.scope has.is_scope) host e has expands no_host outside
        replaced_rows

  -- The typed points of the flat code of a host type it.
  pub types_expanded : (at : MethodAt) (flat : FlatCode) → (is : IsExpanded u.classes u.typed at flat) → ¬ IsNoHost u.classes at
      → (s : Scope) → scope_at u.classes at ≡ Some s
      → TypesFlat u.classes s flat
  types_expanded at flat is no_host s scope =
      expanded_types laws one is_setup.types is_setup.tree.folder known is_setup.hierarchy (arrays at s scope) at flat is s scope
      (rows is.host is.expansion
      (subst (λ (a : MethodAt). HasFrames u.classes u.typed a is.host.scope is.host.frames) (sym is.own) is.is_host)
      (subst (λ (a : MethodAt). Expands u.classes u.typed a [] a (instructions is.host.scope) is.expansion) (sym is.own) is.expands)
      (subst (λ (a : MethodAt). ¬ IsNoHost u.classes a) (sym is.own) no_host))
