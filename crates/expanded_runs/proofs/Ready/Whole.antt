-- Expanded flat codes are ready to be written.
use Rattle.std.proofs.Common.{◌≡◌, Some, sym, subst}
use Rattle.class_model.specs.declared.class_file.MethodAt.{MethodAt}
use Rattle.expanded_code.specs.ExpandAnswers.{IsExpanded, IsNoHost, IsWide}
use Rattle.expanded_runs.proofs.AloneProgram.{OneEach}
use Rattle.expanded_runs.proofs.Plans.PlannedFlats.{expanded_fits, expanded_flows, expanded_locals}
use Rattle.expanded_runs.proofs.Ready.CandidateSites.{by_index}
use Rattle.expanded_runs.proofs.Ready.ReadyPoints.{expanded_points_ready}
use Rattle.expanded_runs.proofs.Ready.Uninits.{expanded_keeps_uninit}
use Rattle.expanded_runs.proofs.Runs.CallLaws.{CallLaws}
use Rattle.expanded_runs.proofs.Runs.Setup.{IsSetup, Setup}
use Rattle.expanded_runs.proofs.Types.KnownTypes.{NameLaws}
use Rattle.expanded_runs.proofs.Types.OwnPoints.{TypingLaws}
use Rattle.expanded_runs.proofs.Types.Whole.{types_expanded}
use Rattle.expanded_runs.specs.ByteCodes.{HaveByteCodes}
use Rattle.flow_code.specs.FlatCode.{FlatCode}
use Rattle.flow_code.specs.declared.point.Point.{Point}
use Rattle.member_link.specs.Linked.{IsLinked}
use Rattle.member_link.specs.Scope.{Scope, scope_at}
use Rattle.plan_flow.specs.PlanScope.{scope_of}
use Rattle.plan_flow.specs.ReadyForPlans.{IsReadyForPlans}
use Rattle.same_runs.specs.ReadyCode.{IsReadyCode}
use Rattle.std.specs.Prelude.{length}

module _ (u : Setup) (is_setup : IsSetup u) (linked : IsLinked u.classes) (names : NameLaws) (calls : CallLaws) (laws : TypingLaws) (one : OneEach)
    (at : MethodAt) (code : FlatCode) (is : IsExpanded u.classes u.typed at code) where
  -- so that plans can be written
  pub ready_for_plans : ¬ IsNoHost u.classes at → ¬ IsWide code → IsReadyForPlans (scope_of u.classes u.links code)
  ready_for_plans no_host narrow = record {
    flows = expanded_flows laws one names.methods is_setup.tree is_setup.types at code is;
    narrow = expanded_fits laws one names.methods is_setup.tree is_setup.types at code is narrow;
    widths = by_index (λ (point : Point). length point.typed.locals ≡ code.locals) code.points
        (expanded_locals laws one names.methods is_setup.tree is_setup.types at code is);
    uninit = expanded_keeps_uninit u is_setup linked names calls laws one at code is no_host;
  }

  -- and by its points
  pub ready_code : HaveByteCodes u.classes → ¬ IsNoHost u.classes at → (s : Scope) → scope_at u.classes at ≡ Some s → IsReadyCode u.classes s code
  ready_code bytes no_host s scope = record {
    host = subst (λ (f : FlatCode). scope_at u.classes f.host ≡ Some s) (sym is.is)
        (subst (λ (a : MethodAt). scope_at u.classes a ≡ Some s) (sym is.own) scope);
    typed = types_expanded u is_setup linked names calls laws one at code is no_host s scope;
    points = expanded_points_ready u is_setup linked names laws one bytes at code is;
  }
