-- Items of written code with numbers for their targets, and the numbers of the first items of blocks.
use Rattle.std.specs.Prelude.{◌≡◌, ◌≤◌, ◌<◌, ℕ, ◌+◌, List, [], ◌∷◌, length, Option, Some, None}
use Rattle.class_model.specs.Pool.{Constants}
use Rattle.class_tree.specs.Headers.{Name}
use Rattle.code_drafts.specs.declared.placing.Numbered.{Numbered}
use Rattle.code_layout.specs.PlainItems.{plain_items}
use Rattle.plan_flow.specs.PlanScope.{PlanScope}
use Rattle.plan_flow.specs.Written.Blocks.{Block}
use Rattle.plan_flow.specs.Written.Finish.{Finished, finish, finished_items}
use Rattle.plan_flow.specs.Written.WrittenCode.{short, written_items}
use Rattle.plan_flow.specs.Written.WrittenConstants.{indexed_items}

-- the number of the first item of each block, from a number on
abbrev pub block_firsts : ℕ → List Finished → List ℕ
block_firsts number [] = []
block_firsts number (one ∷ others) =
    number ∷ block_firsts (number + length (finished_items one)) others

-- The items of all blocks with numbers for targets, and where each begins; or none where they are more than a code can have.
abbrev pub IsNumbered :
    PlanScope → (Name → List ℕ) → Constants → List Block → Option Numbered → Type 0
IsNumbered s constructor pool blocks None =
    65535 < length (written_items short (finish s.flat blocks))
IsNumbered s constructor pool blocks (Some numbered) =
    (length (written_items short (finish s.flat blocks)) ≤ 65535)
    × (plain_items numbered.items
    ≡ indexed_items s constructor pool short (finish s.flat blocks))
    × (numbered.firsts.items ≡ block_firsts 0 (finish s.flat blocks))
