-- Written items in the wide form: what is asked of those of the short one, so that the code that is made wide item by item is the definition's. It is
-- this project's profile.
use Rattle.std.specs.Prelude.{◌≡◌, ◌<◌, ℕ, true, false, is_some, length, List, [], Option, None, if◌then◌else◌}
use Rattle.std.specs.List.{AllByRecursion}
use Rattle.class_model.specs.Instructions.{targets}
use Rattle.class_model.specs.Pool.{Constants}
use Rattle.class_model.specs.declared.instr.Instr.{Instr}
use Rattle.making_code.specs.Items.{WInstr, WItem, WTarget, ahead, carried, plain}
use Rattle.making_code.specs.Opposites.{opposite_instr}
use Rattle.plan_flow.specs.PlanScope.{PlanScope}
use Rattle.plan_flow.specs.Written.Finish.{Finished}
use Rattle.plan_flow.specs.Written.WrittenCode.{short, target_number, widened, written_items}
use Rattle.plan_flow.specs.Written.WrittenConstants.{indexed_instr, is_near}

-- the opposite of a conditional jump
abbrev pub opposite_of : WInstr → Option Instr
opposite_of (carried class instr) = opposite_instr instr
opposite_of (plain instr) = opposite_instr instr
opposite_of other = None

-- the jump over which the item stands that is emitted for this one, if it does
abbrev pub jump_of : WItem → Option Instr
jump_of one = if is_near one.targets then None else opposite_of one.instr

-- An item is as many in the wide form as the one that is emitted for it: a conditional jump of the flat code is over a goto there, and the one
-- inside a test for null is not.
abbrev pub KeepsWidth : WItem → Type 0
KeepsWidth one = (if is_some (jump_of one) then 2 else 1) ≡ length (widened one)

-- a target leads to a block, which begins with an item
abbrev pub LeadsToBlock : List Finished → WTarget → Type 0
LeadsToBlock blocks (ahead count) = ⊥
LeadsToBlock blocks target =
    target_number short blocks 0 target < length (written_items short blocks)

-- An item is as many in the wide form as the one that is emitted for it; it leads to blocks, but for the jump inside a test for null, and has a
-- target for each of its instruction; and a conditional jump has no handler.
pub record GoesWide (s : PlanScope) (constructor : List ℕ → List ℕ) (pool : Constants)
    (blocks : List Finished) (one : WItem)
    : Type 0 where
  pub width : KeepsWidth one
  pub leads : is_near one.targets ≡ false → AllByRecursion (LeadsToBlock blocks) one.targets
  pub many : length (targets (indexed_instr s constructor pool one.instr)) ≡ length one.targets
  pub handlers : AllByRecursion (λ catch. LeadsToBlock blocks catch.to) one.catches
  pub none_caught : is_some (jump_of one) ≡ true → one.catches ≡ []
