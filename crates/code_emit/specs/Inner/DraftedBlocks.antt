-- Blocks that are written behind others, and the constants that they need in the pool.
use Rattle.std.specs.Prelude.{◌≡◌, ◌++◌, ℕ, List}
use Rattle.class_tree.specs.Headers.{Name}
use Rattle.code_drafts.specs.Counts.{AreTooMany}
use Rattle.code_drafts.specs.Drafts.{AreDrafted, KeepsIn, all_items}
use Rattle.code_emit.specs.declared.drafts.Drafts.{Drafts}
use Rattle.materialise.specs.Growing.{Grows}
use Rattle.plan_flow.specs.PlanScope.{PlanScope}
use Rattle.plan_flow.specs.Written.Blocks.{Block}
use Rattle.plan_flow.specs.Written.WrittenConstants.{code_needs}
use Rattle.pool_edit.specs.Edits.{Edit}

-- The drafts of blocks: their items are kept, or none once they are too many; and each block is, unless they are.
pub record AreKept (s : PlanScope) (constructor : Name → List ℕ) (edit : Edit)
    (blocks : List Block) (drafts : Drafts)
    : Type 0 where
  pub items : KeepsIn s constructor edit (all_items blocks) drafts.kept.is_long drafts.kept.items
  pub drafted : ¬ AreTooMany (all_items blocks) → AreDrafted blocks drafts.blocks.items

-- These blocks were written, behind whatever was, and the pool has grown by what they need.
pub record Writes (s : PlanScope) (constructor : Name → List ℕ) (old : Edit) (blocks : List Block)
    (new : Edit) (before after : Drafts)
    : Type 0 where
  pub grows : Grows old (code_needs s constructor (all_items blocks)) new
  pub keeps : (front : List Block)
      → AreKept s constructor old front before
      → AreKept s constructor new (front ++ blocks) after

-- Of all blocks these are left; the others were written.
pub record WritesTo (s : PlanScope) (constructor : Name → List ℕ) (old : Edit)
    (all left : List Block) (now : Edit) (before between : Drafts)
    : Type 0 where
  pub done : List Block
  pub writes : Writes s constructor old done now before between
  pub whole : all ≡ done ++ left
