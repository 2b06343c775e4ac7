-- Blocks with their items and ends, as drafts: where they begin, and their items with numbers for targets.
use Rattle.std.specs.Prelude.{◌≡◌, ◌≤◌, ◌<◌, ℕ, ◌+◌, suc, Bool, true, false, List, [], ◌∷◌, ◌++◌, drop, length, map, take, Option, Some, None, unwrap_or, if◌then◌else◌}
use Rattle.std.specs.List.{flat_map}
use Rattle.std.specs.HashMap.{get}
use Rattle.class_model.specs.declared.instr.Instr.TheVariants as instrs
use Rattle.code_drafts.specs.Drafts.{kind_of, target_of}
use Rattle.code_drafts.specs.contracts.draft.TargetPartialEq.TheImpl.{ghosts as comparison}
use Rattle.code_drafts.specs.declared.draft.BlockKind.{BlockKind}
use Rattle.code_drafts.specs.declared.draft.DraftBlock.{DraftBlock}
use Rattle.code_drafts.specs.declared.draft.DraftCatch.{DraftCatch}
use Rattle.code_drafts.specs.declared.draft.DraftItem.{DraftItem}
use Rattle.code_drafts.specs.declared.draft.Target.{Target}
use Rattle.code_drafts.specs.declared.draft.Target.TheVariants as targets
use Rattle.code_drafts.specs.declared.finishing.DraftEnd.{DraftEnd}
use Rattle.code_drafts.specs.declared.finishing.DraftEnd.TheVariants.{Goto, Nop, Nothing}
use Rattle.code_drafts.specs.declared.numbers.Starts.{Starts}
use Rattle.code_drafts.specs.declared.placing.Joined.{Joined}
use Rattle.making_code.specs.IndexedItems.{IndexedItem}
use Rattle.plan_flow.specs.Written.Blocks.{BlockOf}
use Rattle.plan_flow.specs.Written.Finish.{begins_point}
use Rattle.plan_flow.specs.Written.WrittenCode.{is_handler_pad, is_jump_pad, jumping_to}
use Rattle.plan_flow.specs.Written.WrittenConstants.{is_near}

-- ---- blocks with their items

-- what a block is, and what is written of it
pub record Part : Type 0 where
  pub of : BlockKind
  pub items : List DraftItem

abbrev pub end_drafts : DraftEnd → List DraftItem
end_drafts Nothing = []
end_drafts (Goto to) =
    record { instr = instrs.Goto 0; targets = targets.Point to ∷ []; catches = [] } ∷ []
end_drafts Nop = record { instr = instrs.Nop; targets = []; catches = [] } ∷ []

-- the items of all, as they come
abbrev pub parts_of : List DraftBlock → List DraftEnd → List DraftItem → List Part
parts_of [] ends items = []
parts_of (block ∷ blocks) [] items = []
parts_of (block ∷ blocks) (end ∷ ends) items =
    record { of = block.of; items = take block.count items ++ end_drafts end }
    ∷ parts_of blocks ends (drop block.count items)

abbrev pub part_items : List Part → List DraftItem
part_items parts = flat_map (λ part. part.items) parts

-- ---- where they begin

-- a target leads to a block
abbrev pub leads : Target → BlockOf → Bool
leads (targets.Point to) of = begins_point to of
leads (targets.JumpPad at number) of = is_jump_pad at number of
leads (targets.HandlerPad at number) of = is_handler_pad at number of
leads (targets.Ahead count) of = false

abbrev pub leads_to : Target → BlockKind → Bool
leads_to to of = leads to (kind_of of)

-- the number of the first item of the block that a target leads to; where there is none, the number behind the last item
abbrev pub start_in : Target → ℕ → List Part → ℕ
start_in to number [] = number
start_in to number (part ∷ parts) =
    if leads_to to part.of then number else start_in to (number + length part.items) parts

-- the number of the first item of each
abbrev pub firsts_in : ℕ → List Part → List ℕ
firsts_in number [] = []
firsts_in number (part ∷ parts) = number ∷ firsts_in (number + length part.items) parts

-- what is known of it
abbrev pub start_at : Starts → Target → Option ℕ
start_at starts to = get comparison.eq starts.numbers to

-- a block begins here, and leads there if none before it does
abbrev pub first_start : Option ℕ → Bool → ℕ → Option ℕ
first_start (Some start) leads number = Some start
first_start None true number = Some number
first_start None false number = None

-- ---- items with numbers

-- the number of a target of the item of a number, among so many
abbrev pub draft_number : Starts → ℕ → ℕ → Target → ℕ
draft_number starts total number (targets.Point to) =
    unwrap_or (start_at starts (targets.Point to)) total
draft_number starts total number (targets.JumpPad at edge) =
    unwrap_or (start_at starts (targets.JumpPad at edge)) total
draft_number starts total number (targets.HandlerPad at handler) =
    unwrap_or (start_at starts (targets.HandlerPad at handler)) total
draft_number starts total number (targets.Ahead count) = number + count

abbrev pub placed_catch : (Target → ℕ) → DraftCatch → ℕ × ℕ
placed_catch numbered catch = (numbered catch.to, catch.class)

abbrev pub placed_draft : (Target → ℕ) → DraftItem → IndexedItem
placed_draft numbered item = record {
  instr = jumping_to (map numbered item.targets) item.instr;
  near = is_near (map target_of item.targets);
  catches = map (placed_catch numbered) item.catches;
}

-- the items from a number on
abbrev pub placed_drafts : Starts → ℕ → ℕ → List DraftItem → List IndexedItem
placed_drafts starts total number [] = []
placed_drafts starts total number (item ∷ items) =
    placed_draft (draft_number starts total number) item
    ∷ placed_drafts starts total (suc number) items

-- ---- blocks one behind the other

-- A block was noted where it begins, and its items moved, with its end behind them; or there were too many items before.
abbrev pub JoinsPart :
    DraftBlock → DraftEnd → List DraftItem → List DraftItem → Joined → Joined → Bool → Type 0
JoinsPart block end items left old new false = 65535 < length old.items
JoinsPart block end items left old new true =
    (new.items ≡ old.items ++ (take block.count items ++ end_drafts end))
    × (left ≡ drop block.count items)
    × (new.firsts.items ≡ old.firsts.items ++ length old.items ∷ [])
    × ((to : Target) → start_at new.starts to
    ≡ first_start (start_at old.starts to) (leads_to to block.of) (length old.items))

-- All blocks were written, and where they begin is known; or they are more than a code can have.
abbrev pub Joins : List Part → Joined → Bool → Type 0
Joins parts joined false = 65535 < length (part_items parts)
Joins parts joined true =
    (joined.items ≡ part_items parts)
    × (length joined.items ≤ 65535)
    × (joined.firsts.items ≡ firsts_in 0 parts)
    × ((to : Target)
    → unwrap_or (start_at joined.starts to) (length joined.items) ≡ start_in to 0 parts)
