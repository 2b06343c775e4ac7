use Rattle.std.proofs.Common.{◌≡◌, None, length, ℕ}
use Rattle.class_model.specs.declared.class_file.MethodAt.{MethodAt}
use Rattle.class_tree.specs.Headers.{Classes}
use Rattle.flow_code.specs.TypedFrames.{FolderFrames}
use Rattle.inline_expand.proofs.ready.next.Given as goal
use Rattle.inline_expand.specs.Inner.Verdicts.{verdict}
use Rattle.inline_expand.specs.Inner.Walks.{Walks}

abbrev pub invariant-loop-visit : goal.invariant-loop-visit
invariant-loop-visit l = record {
  walks : (classes : Classes) (typed : FolderFrames) (host : ℕ) (root : MethodAt)
      → Walks classes typed host root l.initial.verdicts l.initial.stack
      → Walks classes typed host root l.verdicts l.stack;
  unseen : (at : MethodAt) → verdict l.verdicts at ≡ None → verdict l.initial.verdicts at ≡ None;
}

abbrev pub decreases-loop-visit : goal.decreases-loop-visit
decreases-loop-visit l = length l.stack
