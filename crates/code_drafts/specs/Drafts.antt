-- Drafts of written code: what the code keeps of items and blocks before items have numbers, and what it means.
use Rattle.std.specs.Prelude.{◌≡◌, ℕ, Bool, true, false, List, [], ◌∷◌, ◌++◌, length, map}
use Rattle.std.specs.List.{flat_map}
use Rattle.class_model.specs.Pool.{Constants}
use Rattle.class_model.specs.declared.instr.Instr.{Instr}
use Rattle.class_tree.specs.Headers.{Name}
use Rattle.code_drafts.specs.Counts.{AreTooMany}
use Rattle.code_drafts.specs.declared.draft.BlockKind.{BlockKind}
use Rattle.code_drafts.specs.declared.draft.BlockKind.TheVariants as kinds
use Rattle.code_drafts.specs.declared.draft.DraftBlock.{DraftBlock}
use Rattle.code_drafts.specs.declared.draft.DraftCatch.{DraftCatch}
use Rattle.code_drafts.specs.declared.draft.DraftItem.{DraftItem}
use Rattle.code_drafts.specs.declared.draft.Target.{Target}
use Rattle.code_drafts.specs.declared.draft.Target.TheVariants as targets
use Rattle.making_code.specs.Items.{WCatch, WItem, WTarget, ahead, to_handler_pad, to_jump_pad, to_point}
use Rattle.plan_flow.specs.PlanScope.{PlanScope}
use Rattle.plan_flow.specs.Written.Blocks.{Block, BlockOf, before_point, handler_pad, jump_pad, of_point, on_next_edge}
use Rattle.plan_flow.specs.Written.WrittenConstants.{catch_index, indexed_instr}
use Rattle.pool_edit.specs.Edits.{Edit, grown}

-- ---- items

-- an item by the indices of its constants, before its targets have numbers
pub record Meant : Type 0 where
  pub instr : Instr
  pub targets : List WTarget
  pub catches : List (WTarget × ℕ)

-- what an item is in a pool that has its constants
abbrev pub meant_catch : Constants → WCatch → WTarget × ℕ
meant_catch pool catch = (catch.to, catch_index pool catch.class)

abbrev pub meant : PlanScope → (Name → List ℕ) → Constants → WItem → Meant
meant s constructor pool one = record {
  instr = indexed_instr s constructor pool one.instr;
  targets = one.targets;
  catches = map (meant_catch pool) one.catches;
}

-- what a draft means
abbrev pub target_of : Target → WTarget
target_of (targets.Point to) = to_point to
target_of (targets.JumpPad at number) = to_jump_pad at number
target_of (targets.HandlerPad at number) = to_handler_pad at number
target_of (targets.Ahead count) = ahead count

abbrev pub catch_of : DraftCatch → WTarget × ℕ
catch_of catch = (target_of catch.to, catch.class)

abbrev pub meaning : DraftItem → Meant
meaning item = record {
  instr = item.instr;
  targets = map target_of item.targets;
  catches = map catch_of item.catches;
}

-- ---- items that are kept

-- Items as they are kept: all of them, or none once they are too many.
pub data Keeps (s : PlanScope) (constructor : Name → List ℕ) (pool : Constants) (items : List WItem)
    (is_long : Bool) (drafts : List DraftItem)
    : Type 0 where
  keeps_all : is_long ≡ false
      → map meaning drafts ≡ map (meant s constructor pool) items
      → Keeps s constructor pool items is_long drafts
  keeps_none : is_long ≡ true
      → AreTooMany items
      → Keeps s constructor pool items is_long drafts

-- they are kept so in a pool and whatever it grows to
abbrev pub KeepsIn : PlanScope → (Name → List ℕ) → Edit → List WItem → Bool → List DraftItem → Type 0
KeepsIn s constructor edit items is_long drafts =
    (more : Constants) → Keeps s constructor (grown edit ++ more) items is_long drafts

-- ---- blocks

abbrev pub kind_of : BlockKind → BlockOf
kind_of (kinds.BeforePoint at) = before_point at
kind_of (kinds.OfPoint at) = of_point at
kind_of (kinds.OnNextEdge at) = on_next_edge at
kind_of (kinds.JumpPad at number) = jump_pad at number
kind_of (kinds.HandlerPad at number) = handler_pad at number

-- a block as it is kept; its items are kept among those of all blocks
pub record IsDrafted (block : Block) (draft : DraftBlock) : Type 0 where
  pub of : kind_of draft.of ≡ block.of
  pub at : draft.at ≡ block.at
  pub state : draft.state ≡ block.state
  pub count : draft.count ≡ length block.items
  pub leaves : draft.leaves ≡ block.leaves

abbrev pub AreDrafted : List Block → List DraftBlock → Type 0
AreDrafted [] [] = Unit {0}
AreDrafted (block ∷ blocks) (draft ∷ drafts) = IsDrafted block draft × AreDrafted blocks drafts
AreDrafted blocks drafts = ⊥

abbrev pub all_items : List Block → List WItem
all_items blocks = flat_map (λ (block : Block). block.items) blocks
