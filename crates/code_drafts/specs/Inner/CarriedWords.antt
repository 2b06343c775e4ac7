-- What is carried of an instruction of a class: its constant, where it jumps, and its handlers.
use Rattle.std.specs.Prelude.{◌≡◌, ◌++◌, ℕ, List, [], ◌∷◌, map, Option, Some, None}
use Rattle.std.specs.List.{flat_map}
use Rattle.class_model.specs.Pool.{Constants}
use Rattle.class_model.specs.declared.instr.Instr.{Instr}
use Rattle.class_tree.specs.Headers.{Name}
use Rattle.code_drafts.specs.Drafts.{catch_of, meaning, meant, meant_catch}
use Rattle.code_drafts.specs.declared.draft.DraftCatch.{DraftCatch}
use Rattle.code_drafts.specs.declared.draft.DraftItem.{DraftItem}
use Rattle.flow_code.specs.declared.handlers.FlatHandler.{FlatHandler}
use Rattle.flow_code.specs.declared.point.Point.{Point}
use Rattle.making_code.specs.Constants.{Need}
use Rattle.making_code.specs.Items.{WCatch, WItem, carried, to_handler_pad, to_point}
use Rattle.materialise.specs.Growing.{Grows}
use Rattle.plan_flow.specs.PlanScope.{PlanScope}
use Rattle.plan_flow.specs.PlanTable.{targets_at}
use Rattle.plan_flow.specs.Written.Routes.{Route, RouteEdge}
use Rattle.plan_flow.specs.Written.Templates.{catches_at, jump_targets, to_or_pad}
use Rattle.plan_flow.specs.Written.WrittenConstants.{carried_instr, catch_index, catch_needs, item_needs}
use Rattle.pool_edit.specs.Edits.{Edit, grown}

-- an instruction of a class as it is written, in a pool and in whatever it grows to
pub record IsCarried (s : PlanScope) (edit : Edit) (class : ℕ) (instr one : Instr) : Type 0 where
  pub is : (more : Constants) → carried_instr s (grown edit ++ more) class instr ≡ one

-- the index of what a handler catches
pub record IsCatchIndex (edit : Edit) (class : Option Name) (index : ℕ) : Type 0 where
  pub is : (more : Constants) → catch_index (grown edit ++ more) class ≡ index

-- the handler of a number, if an edge leads to it
abbrev pub catch_on : ℕ → ℕ → FlatHandler → Option RouteEdge → List WCatch
catch_on at number handler None = []
catch_on at number handler (Some edge) = record {
  to = to_or_pad edge.made (to_point edge.to) (to_handler_pad at number);
  class = handler.catch_class;
} ∷ []

abbrev pub all_catch_needs : List WCatch → List Need
all_catch_needs catches = flat_map (λ catch. catch_needs catch.class) catches

-- handlers that are written behind others, and what they need in the pool
pub record Catches (catches : List WCatch) (old : Edit) (before : List DraftCatch) (new : Edit)
    (after : List DraftCatch)
    : Type 0 where
  pub grows : Grows old (all_catch_needs catches) new
  pub are : (more : Constants)
      → map catch_of after
      ≡ map catch_of before ++ map (meant_catch (grown new ++ more)) catches

-- ---- items

-- an instruction as it is
abbrev pub carried_item : ℕ → Point → Route → ℕ → Instr → WItem
carried_item at point route class instr = record {
  instr = carried class instr;
  targets = jump_targets at route 0 (targets_at point.instr);
  catches = catches_at at point route;
}

-- an item, once the pool has its constants
pub record IsDraft (s : PlanScope) (constructor : Name → List ℕ) (old new : Edit) (one : WItem)
    (draft : DraftItem)
    : Type 0 where
  pub grows : Grows old (item_needs s constructor one) new
  pub means : (more : Constants) → meaning draft ≡ meant s constructor (grown new ++ more) one
