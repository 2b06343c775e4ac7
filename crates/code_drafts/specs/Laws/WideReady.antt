-- The items of a valid plan's code are such that the code that is made wide item by item is the definition's.
use Rattle.std.proofs.Common.{◌≡◌, ℕ, zero, suc, List, [], ◌∷◌, slice_get, Some, refl, sym, subst}
use Rattle.std.specs.List.{AllByRecursion}
use Rattle.std.proofs.lemmas.Bool.{false≢true}
use Rattle.class_model.specs.Pool.{Constants}
use Rattle.class_model.specs.Laws.Lists.{AllByRecursion-weaker, at_index}
use Rattle.class_tree.specs.Headers.{Name}
use Rattle.code_drafts.specs.FlatForms.{AreFormed}
use Rattle.code_drafts.specs.Laws.EmittedItems.{done, leads_inside}
use Rattle.code_drafts.specs.Laws.GoodBlocks.{IsFar}
use Rattle.code_drafts.specs.Laws.ReachedStarts.{LeadsSome, finished}
use Rattle.code_drafts.specs.Laws.WideWidths.{Keeps, written_keep}
use Rattle.code_drafts.specs.Laws.WrittenItems.{IsWrittenAt, is_far, is_near, near_jump, written_at}
use Rattle.making_code.specs.Items.{WCatch, WItem, WTarget, ahead, to_handler_pad, to_jump_pad, to_point}
use Rattle.plan_flow.specs.PlanScope.{PlanScope}
use Rattle.plan_flow.specs.Plans.{IsValid, Plan}
use Rattle.plan_flow.specs.Written.Routes.{IsRouted, Routes}
use Rattle.plan_flow.specs.Written.WrittenCode.{short, written_items}
use Rattle.written_frames.specs.WideItems.{GoesWide, LeadsToBlock}

-- what holds of each item of a list
each_item : {A : Type 0} (P : A → Type 0) (items : List A) → ((at : ℕ) (one : A) → slice_get items at ≡ Some one → P one) → AllByRecursion P items
each_item P [] each = tt
each_item P (first ∷ items) each = (each zero first refl, each_item P items (λ at one is. each (suc at) one is))

module _ (s : PlanScope) (constructor : Name → List ℕ) (pool : Constants) (plan : Plan) (routes : Routes) (formed : AreFormed s.flat)
    (valid : IsValid s plan) (routed : IsRouted s plan routes) where
  abbrev Wide : WItem → Type 0
  Wide one = GoesWide s constructor pool (finished s routes) one

  to_block : (target : WTarget) → LeadsSome s routes target → LeadsToBlock (finished s routes) target
  to_block (to_point to) leads = leads_inside s plan routes valid routed formed 0 (to_point to) leads
  to_block (to_jump_pad at edge) leads = leads_inside s plan routes valid routed formed 0 (to_jump_pad at edge) leads
  to_block (to_handler_pad at handler) leads = leads_inside s plan routes valid routed formed 0 (to_handler_pad at handler) leads
  to_block (ahead count) leads = absurd leads

  far_wide : (one : WItem) → IsFar s routes one → Keeps one → Wide one
  far_wide one far keeps = record {
    width = keeps.width;
    leads = λ told. AllByRecursion-weaker (LeadsSome s routes) (LeadsToBlock (finished s routes)) to_block one.targets far.targets;
    many = far.fits.many constructor pool;
    handlers =
        AllByRecursion-weaker (λ (catch : WCatch). LeadsSome s routes catch.to) (λ (catch : WCatch). LeadsToBlock (finished s routes) catch.to)
        (λ catch leads. to_block catch.to leads) one.catches far.catches;
    none_caught = keeps.none_caught;
  }

  near_wide : Keeps near_jump → Wide near_jump
  near_wide keeps = record {
    width = keeps.width;
    leads = λ told. absurd (false≢true (sym told));
    many = refl;
    handlers = tt;
    none_caught = keeps.none_caught;
  }

  one_wide : (at : ℕ) (one : WItem) → IsWrittenAt s routes (written_items short (finished s routes)) at one → Keeps one → Wide one
  one_wide at one (is_far far) keeps = far_wide one far keeps
  one_wide at one (is_near thrown same null throws instr none within) keeps =
      subst Wide (sym same) (near_wide (subst Keeps same keeps))

  pub all_wide : AllByRecursion Wide (written_items short (finished s routes))
  all_wide =
      each_item Wide (written_items short (finished s routes)) (λ at one is.
      one_wide at one (written_at s routes (finished s routes) at one (done s plan routes valid routed formed) is)
      (at_index Keeps (written_items short (finished s routes)) at one (written_keep s plan routes routed) is))
