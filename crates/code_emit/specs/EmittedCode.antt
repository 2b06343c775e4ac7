-- What code is emitted from, and what it is. It is this project's profile.
use Rattle.std.specs.Prelude.{◌≡◌, ◌≤◌, ℕ, List, Option, Some}
use Rattle.class_model.specs.Pool.{Constants}
use Rattle.class_tree.specs.Headers.{Classes, Name, headers_of}
use Rattle.code_drafts.specs.CodeOfPlans.{finished_blocks}
use Rattle.code_drafts.specs.Counts.{AreTooMany}
use Rattle.code_drafts.specs.FlatForms.{AreFormed}
use Rattle.code_layout.specs.PlainItems.{plain_items}
use Rattle.code_layout.specs.declared.emitted.EmitItem.{EmitItem}
use Rattle.flow_code.specs.FlatCode.{FlatCode}
use Rattle.flow_code.specs.WrittenUnits.{written_units}
use Rattle.flow_code.specs.declared.reason.Reason.{Reason}
use Rattle.flow_code.specs.declared.reason.Reason.TheVariants as reasons
use Rattle.making_code.specs.Constants.{grow}
use Rattle.making_code.specs.Items.{WItem}
use Rattle.materialise.specs.Growing.{Grows}
use Rattle.materialise.specs.MadeCode.{DescribesConstructors, HaveConstructors}
use Rattle.member_link.specs.Machine.Links.{AreLinksOf}
use Rattle.member_link.specs.Machine.Programs.{Links}
use Rattle.plan_flow.specs.Narrow.{IsNarrow}
use Rattle.plan_flow.specs.PlanScope.{PlanScope, scope_of}
use Rattle.plan_flow.specs.Plans.{FlowsInside, IsValid, Plan}
use Rattle.plan_flow.specs.Written.Routes.{IsRouted, Routes}
use Rattle.plan_flow.specs.Written.WrittenCode.{short, written_items}
use Rattle.plan_flow.specs.Written.WrittenConstants.{code_needs, indexed_items}
use Rattle.pool_edit.specs.Edits.{Edit, grown}
use Rattle.written_frames.specs.BlockStarts.{block_starts}
use Rattle.written_frames.specs.declared.starts.BlockStart.{BlockStart}

-- ---- what is asked

-- The plan is valid, numbers of local units, sites, targets and handlers fit, each site's class has a field constructor, and each
-- instruction has its form.
pub record CanEmit (classes : Classes) (flat : FlatCode) (plan : Plan) : Type 0 where
  pub few_units : written_units flat ≤ 65535
  pub narrow : IsNarrow flat
  pub flows : FlowsInside flat
  pub constructors : HaveConstructors classes flat
  pub formed : AreFormed flat
  pub valid :
      (links : Links)
      → AreLinksOf (headers_of classes) links
      → IsValid (scope_of classes links flat) plan

-- ---- what is given

-- the items of a plan
abbrev pub emitted_items : PlanScope → Routes → List WItem
emitted_items s routes = written_items short (finished_blocks s routes)

-- what a plan and its routes are meant by: links, the descriptors of field constructors, and routes
pub record IsMeantBy (classes : Classes) (flat : FlatCode) (plan : Plan) (links : Links)
    (constructor : Name → List ℕ) (routes : Routes)
    : Type 0 where
  pub is_links : AreLinksOf (headers_of classes) links
  pub describes : DescribesConstructors classes constructor
  pub routed : IsRouted (scope_of classes links flat) plan routes

-- The items by their indices in the pool, which has grown by what they need: in the short form, and not too many.
pub record IsEmittedCode (s : PlanScope) (constructor : Name → List ℕ) (routes : Routes)
    (old new : Edit) (emitted : List EmitItem)
    : Type 0 where
  pub grows : Grows old (code_needs s constructor (emitted_items s routes)) new
  pub items : plain_items emitted
      ≡ indexed_items s constructor (grown new) short (finished_blocks s routes)
  pub few : ¬ AreTooMany (emitted_items s routes)

-- Why a method is kept: its constants do not fit into the pool, or they do and its items are too many.
pub data IsKeptFor (s : PlanScope) (constructor : Name → List ℕ) (routes : Routes) (edit : Edit)
    : Reason → Type 0 where
  past_pool : grow edit.limit (grown edit) (code_needs s constructor (emitted_items s routes))
      ≡ Option.None
      → IsKeptFor s constructor routes edit reasons.PoolFull
  too_many : (more : Constants)
      → grow edit.limit (grown edit) (code_needs s constructor (emitted_items s routes))
      ≡ Some more
      → AreTooMany (emitted_items s routes)
      → IsKeptFor s constructor routes edit reasons.Long

-- ---- by whatever is meant

-- emitted code, whatever links, descriptors of field constructors and routes are meant: there are one of each
pub record IsEmittedFor (classes : Classes) (flat : FlatCode) (plan : Plan) (old new : Edit)
    (emitted : List EmitItem)
    : Type 0 where
  pub each :
      (links : Links) (constructor : Name → List ℕ) (routes : Routes)
      → IsMeantBy classes flat plan links constructor routes
      → IsEmittedCode (scope_of classes links flat) constructor routes old new emitted

-- where the blocks start
pub record StartsBlocks (classes : Classes) (flat : FlatCode) (plan : Plan)
    (starts : List BlockStart)
    : Type 0 where
  pub each :
      (links : Links) (constructor : Name → List ℕ) (routes : Routes)
      → IsMeantBy classes flat plan links constructor routes
      → starts ≡ block_starts 0 (finished_blocks (scope_of classes links flat) routes)

-- why the method is kept
pub record IsKeptAs (classes : Classes) (flat : FlatCode) (plan : Plan) (edit : Edit)
    (reason : Reason)
    : Type 0 where
  pub each :
      (links : Links) (constructor : Name → List ℕ) (routes : Routes)
      → IsMeantBy classes flat plan links constructor routes
      → IsKeptFor (scope_of classes links flat) constructor routes edit reason
