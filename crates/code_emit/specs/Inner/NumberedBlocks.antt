-- Blocks whose items have numbers.
use Rattle.std.specs.Prelude.{◌≡◌, ◌≤◌, ◌<◌, ℕ, List, length}
use Rattle.class_model.specs.Pool.{Constants}
use Rattle.class_tree.specs.Headers.{Name}
use Rattle.code_layout.specs.PlainItems.{plain_items}
use Rattle.code_layout.specs.declared.emitted.EmitItem.{EmitItem}
use Rattle.flow_code.specs.declared.reason.Reason.{Reason}
use Rattle.flow_code.specs.declared.reason.Reason.TheVariants.{Long}
use Rattle.plan_flow.specs.PlanScope.{PlanScope}
use Rattle.plan_flow.specs.Written.Blocks.{Block}
use Rattle.plan_flow.specs.Written.Finish.{finish}
use Rattle.plan_flow.specs.Written.WrittenCode.{short, written_items}
use Rattle.plan_flow.specs.Written.WrittenConstants.{indexed_items}
use Rattle.written_frames.specs.BlockStarts.{block_starts}
use Rattle.written_frames.specs.declared.starts.BlockStart.{BlockStart}

pub record ArePlaced (s : PlanScope) (constructor : Name → List ℕ) (pool : Constants)
    (blocks : List Block) (items : List EmitItem) (starts : List BlockStart)
    : Type 0 where
  pub few : length (written_items short (finish s.flat blocks)) ≤ 65535
  pub are : plain_items items ≡ indexed_items s constructor pool short (finish s.flat blocks)
  pub start : starts ≡ block_starts 0 (finish s.flat blocks)

pub record AreTooLong (s : PlanScope) (blocks : List Block) (reason : Reason) : Type 0 where
  pub is : reason ≡ Long
  pub many : 65535 < length (written_items short (finish s.flat blocks))
