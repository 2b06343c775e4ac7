-- What code that writes items does: items behind others, and the constants that they need in the pool.
use Rattle.std.specs.Prelude.{◌++◌, ℕ, Bool, List}
use Rattle.class_tree.specs.Headers.{Classes, Name}
use Rattle.code_drafts.specs.Drafts.{KeepsIn}
use Rattle.code_drafts.specs.declared.draft.DraftItem.{DraftItem}
use Rattle.flow_code.specs.FlatCode.{FlatCode}
use Rattle.making_code.specs.Items.{WItem}
use Rattle.materialise.specs.Growing.{Grows}
use Rattle.plan_flow.specs.PlanScope.{PlanScope}
use Rattle.plan_flow.specs.Plans.{Plan}
use Rattle.plan_flow.specs.Written.WrittenConstants.{code_needs}
use Rattle.pool_edit.specs.Edits.{Edit}

-- the items that are kept: none, once they are too many
pub record Kept : Type 0 where
  pub is_long : Bool
  pub items : List DraftItem

-- These items were written, behind whatever was, and the pool has grown by what they need.
pub record Emits (s : PlanScope) (constructor : Name → List ℕ) (old : Edit) (items : List WItem)
    (new : Edit) (before after : Kept)
    : Type 0 where
  pub grows : Grows old (code_needs s constructor items) new
  pub keeps : (front : List WItem)
      → KeepsIn s constructor old front before.is_long before.items
      → KeepsIn s constructor new (front ++ items) after.is_long after.items

-- what the code of a method is written from
pub record Writing : Type 0 where
  pub classes : Classes
  pub flat : FlatCode
  pub plan : Plan
