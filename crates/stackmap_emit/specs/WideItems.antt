-- Written items in the wide form, as they are emitted. It is this project's profile.
use Rattle.std.specs.Prelude.{◌≡◌, ℕ, List, []}
use Rattle.std.specs.List.{AllByRecursion}
use Rattle.class_model.specs.Pool.{Constants}
use Rattle.class_tree.specs.Headers.{Name}
use Rattle.code_layout.specs.Emitting.{IsEmitted}
use Rattle.code_layout.specs.PlainItems.{plain_items}
use Rattle.code_layout.specs.WideForm as layout
use Rattle.code_layout.specs.declared.emitted.EmitItem.{EmitItem}
use Rattle.plan_flow.specs.PlanScope.{PlanScope}
use Rattle.plan_flow.specs.Written.Finish.{Finished}
use Rattle.plan_flow.specs.Written.WrittenCode.{short, wide, written_items}
use Rattle.plan_flow.specs.Written.WrittenConstants.{indexed_items}
use Rattle.written_frames.specs.WideItems.{GoesWide}

-- Emitted items that are those of the definition in the short form are, made wide, those of the definition in the wide form.
abbrev pub AreItemsWide : Type 0
AreItemsWide =
    (s : PlanScope) (constructor : Name → List ℕ) (pool : Constants) (blocks : List Finished)
    (emitted : List EmitItem)
    → IsEmitted emitted
    → plain_items emitted ≡ indexed_items s constructor pool short blocks
    → AllByRecursion (GoesWide s constructor pool blocks) (written_items short blocks)
    → layout.closing emitted ≡ []
    → plain_items (layout.widened emitted) ≡ indexed_items s constructor pool wide blocks
