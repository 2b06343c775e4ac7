-- The typed points of the flat code of a host type it, by what is known of its calls that are replaced.
use Rattle.same_runs.specs.TypedFlats.{TypesFlat}
use Rattle.std.proofs.Common.{ℕ, List, [], length}
use Rattle.class_model.specs.declared.class_file.MethodAt.{MethodAt}
use Rattle.class_model.specs.declared.frame.Frame.{Frame}
use Rattle.class_model.specs.declared.instr.Placed.{Placed}
use Rattle.class_tree.specs.Headers.{headers_of}
use Rattle.expanded_code.specs.ExpandAnswers.{IsNoHost}
use Rattle.expanded_code.specs.Expanded.{arguments, expanded}
use Rattle.expanded_code.specs.Expansions.{Coded, Expands, Expansion}
use Rattle.expanded_code.specs.Sites.{HasFrames}
use Rattle.expanded_runs.proofs.AloneProgram.{OneEach}
use Rattle.expanded_runs.proofs.Runs.CallLaws.{CallLaws}
use Rattle.expanded_runs.proofs.Runs.Positions.{IsReplacedAt, Standing, inner_setting}
use Rattle.expanded_runs.proofs.Runs.Setup.{IsSetup, Setup}
use Rattle.expanded_runs.proofs.Runs.StandingLaws.{stands_so}
use Rattle.expanded_runs.proofs.Runs.Standings.{IsStanding, Stands}
use Rattle.expanded_runs.proofs.Types.CallFacts.{CallFacts}
use Rattle.expanded_runs.proofs.Types.EntryFrames.{PassedValues}
use Rattle.expanded_runs.proofs.Types.Expanded.{KnownTypes, MethodRows, expanded_typed}
use Rattle.expanded_runs.proofs.Types.FirstFrames.{frames_entered, frames_long}
use Rattle.expanded_runs.proofs.Types.FrameFacts.{FrameFacts}
use Rattle.expanded_runs.proofs.Types.OwnPoints.{TypingLaws}
use Rattle.expanded_runs.proofs.Types.StandingRows.{flat_rows, host_no_init, narrow_this}
use Rattle.expanded_runs.proofs.Types.ThisWithin.{NoThisStanding}
use Rattle.expanded_runs.proofs.Types.ThroughClass.{ArrayInterfaces}
use Rattle.member_link.specs.Rows.Operands.{topmost}
use Rattle.member_link.specs.Scope.{Scope, instructions}

-- what is known of calls that are replaced
pub record ReplacedRows (s : Scope) (host : Coded) (e : Expansion) : Type 0 where
  pub calls : (chain : List MethodAt) (p : Standing) → IsStanding host e chain p → (k : ℕ) (placed : Placed) (frame : Frame) (g : Coded)
      (inner : Expansion)
      → IsReplacedAt p k placed frame g inner
      → CallFacts (expanded host e) s.headers p placed frame g
  pub passes : (chain : List MethodAt) (p : Standing) → IsStanding host e chain p → (k : ℕ) (placed : Placed) (frame : Frame) (g : Coded)
      (inner : Expansion)
      → IsReplacedAt p k placed frame g inner
      → PassedValues (expanded host e) s.headers p.setting (inner_setting p k placed frame g inner) g.scope
      (topmost (length (arguments g.scope 0)) frame.stack)

module _ (u : Setup) (is_setup : IsSetup u) (call_laws : CallLaws) (laws : TypingLaws) (one : OneEach) (types_known : KnownTypes u.classes u.typed)
    (arrays : ArrayInterfaces (headers_of u.classes))
    (host : Coded) (e : Expansion) (has : HasFrames u.classes u.typed host.at host.scope host.frames)
    (expands : Expands u.classes u.typed host.at [] host.at (instructions host.scope) e) (no_host : ¬ IsNoHost u.classes host.at)
    (outside : NoThisStanding host e) where
  facts : FrameFacts u.classes u.typed
  facts = record {
    long = frames_long laws is_setup.types is_setup.tree.folder;
    entered = frames_entered laws is_setup.types;
    known = types_known.known;
  }

  stands : (chain : List MethodAt) (p : Standing) → IsStanding host e chain p → Stands u.classes u.typed host e chain p
  stands chain p standing = stands_so laws.types_each one u.classes u.typed is_setup.types host e has expands standing

  -- what is asked of its methods
  pub method_rows : ReplacedRows host.scope host e → MethodRows u.classes host.scope host e
  method_rows replaced = record {
    rows =
        flat_rows u is_setup call_laws laws facts host e stands host.scope has.is_scope (host_no_init u.classes host.at host.scope has.is_scope no_host)
        outside;
    calls = replaced.calls;
    passes = replaced.passes;
    narrow =
        narrow_this u is_setup call_laws laws facts host e stands host.scope has.is_scope
        (host_no_init u.classes host.at host.scope has.is_scope no_host) outside;
  }

  -- The typed points type it.
  pub host_typed : ReplacedRows host.scope host e → TypesFlat u.classes host.scope (expanded host e)
  host_typed replaced =
      expanded_typed laws one is_setup.types is_setup.tree.folder types_known is_setup.hierarchy arrays host e has expands (method_rows replaced)
