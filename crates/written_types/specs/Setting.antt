-- What is asked of a writing so that frames type what is written: a flat code that is ready, a valid plan of it with its routes, the blocks that
-- these give, and a pool that has their constants. It is this project's profile.
use Rattle.std.specs.Prelude.{◌≡◌, ◌≢◌, ℕ, Some}
use Rattle.class_model.specs.Pool.{Constants}
use Rattle.class_model.specs.declared.instr.Instr.{Instr}
use Rattle.class_tree.specs.Headers.{headers_of}
use Rattle.class_tree.specs.Trees.{IsTree}
use Rattle.expanded_code.specs.CandidateSites.{HasCandidateSites}
use Rattle.expanded_runs.specs.CarriedConstants.{IsCarriable}
use Rattle.flow_code.specs.FlatCode.{point_at}
use Rattle.flow_code.specs.declared.point.FlatInstr.TheVariants.{Of}
use Rattle.flow_code.specs.declared.point.Point.{Point}
use Rattle.making_code.specs.Laws.GrownPools.{Begins}
use Rattle.member_link.specs.Machine.Links.{AreLinksOf}
use Rattle.plan_flow.specs.PlanScope.{pool_of}
use Rattle.plan_flow.specs.Plans.{IsValid, Plan}
use Rattle.plan_flow.specs.ReadyForPlans.{IsReadyForPlans}
use Rattle.plan_flow.specs.Written.Blocks.{blocks_of}
use Rattle.plan_flow.specs.Written.Finish.{finish}
use Rattle.plan_flow.specs.Written.Routes.{IsRouted, Routes}
use Rattle.plan_flow.specs.Written.WrittenCode.{short, written_items}
use Rattle.plan_flow.specs.Written.WrittenConstants.{code_pool}
use Rattle.plan_flow.specs.Written.WrittenPrograms.{GivesConstructors}
use Rattle.same_runs.specs.ReadyCode.{IsReadyCode}
use Rattle.written_types.specs.Writing.{Writing}

-- The constants are those of the short form: the wide one has no more. The pool before may have constants of other methods, and the last one
-- those of frames.
pub record Setting (w : Writing) : Type 0 where
  pub plan : Plan
  pub routes : Routes
  pub tree : IsTree w.s.classes
  pub links : AreLinksOf (headers_of w.s.classes) w.s.links
  pub ready : IsReadyCode w.s.classes w.host w.s.flat
  pub sites : HasCandidateSites w.s.classes w.s.flat
  pub for_plans : IsReadyForPlans w.s
  pub carried : (at : ℕ) (point : Point) (class : ℕ) (instr : Instr)
      → point_at w.s.flat at ≡ Some point
      → point.instr ≡ Of class instr
      → class ≢ w.s.flat.host.class
      → IsCarriable (pool_of w.s class) instr
  pub valid : IsValid w.s plan
  pub routed : IsRouted w.s plan routes
  pub blocks : w.blocks ≡ finish w.s.flat (blocks_of w.s routes)
  pub constructors : GivesConstructors w.s.classes w.constructor
  pub before : Constants
  pub begins_before : Begins w.host.class.pool before
  pub grown : Constants
  pub grows : code_pool w.s w.constructor (written_items short w.blocks) before ≡ Some grown
  pub begins : Begins grown w.pool
