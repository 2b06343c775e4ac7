-- What is asked of the flat codes and the plans of methods so that written code may take the place of flat code. It is this project's profile.
use Rattle.std.specs.Prelude.{◌≡◌, Some, option_map}
use Rattle.class_model.specs.declared.class_file.MethodAt.{MethodAt}
use Rattle.class_tree.specs.Headers.{Classes}
use Rattle.expanded_code.specs.CandidateSites.{HasCandidateSites}
use Rattle.member_link.specs.Machine.Programs.{Links}
use Rattle.member_link.specs.Scope.{Scope, scope_at}
use Rattle.plan_flow.specs.Plans.{IsValid, Plan}
use Rattle.plan_flow.specs.ReadyForPlans.{IsReadyForPlans}
use Rattle.plan_flow.specs.Written.Routes.{IsRouted}
use Rattle.plan_flow.specs.Written.WrittenPrograms.{WrittenMethod, WrittenMethods, plan_scope}
use Rattle.same_runs.specs.Flats.{Flats}
use Rattle.same_runs.specs.ReadyCode.{IsReadyCode}

-- The flat code of a method can be planned and written, and what is written goes by the routes of a valid plan of it.
pub record IsReadyMethod (classes : Classes) (links : Links) (at : MethodAt) (one : WrittenMethod)
    : Type 0 where
  pub host : one.flat.host ≡ at
  pub scope : Scope
  pub is_scope : scope_at classes at ≡ Some scope
  pub code : IsReadyCode classes scope one.flat
  pub for_plans : IsReadyForPlans (plan_scope classes links one)
  pub sites : HasCandidateSites classes one.flat
  pub plan : Plan
  pub valid : IsValid (plan_scope classes links one) plan
  pub routed : IsRouted (plan_scope classes links one) plan one.routes

abbrev pub AreReady : Classes → Links → WrittenMethods → Type 0
AreReady classes links written =
    (at : MethodAt) (one : WrittenMethod)
    → written at ≡ Some one
    → IsReadyMethod classes links at one

-- the flat codes of the methods that are rewritten
pub record AreFlatsOf (written : WrittenMethods) (flats : Flats) : Type 0 where
  pub each : (at : MethodAt) → flats at ≡ option_map (λ one. one.flat) (written at)
