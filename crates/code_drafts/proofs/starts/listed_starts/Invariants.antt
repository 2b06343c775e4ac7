use Rattle.std.proofs.Common.{◌≡◌, ◌++◌, drop}
use Rattle.std.specs.Vec.Iter.{into_iter_items}
use Rattle.code_drafts.proofs.starts.listed_starts.Given as goal
use Rattle.code_drafts.specs.Inner.DraftStarts.{draft_starts}

abbrev pub invariant-loop-first : goal.invariant-loop-first
invariant-loop-first l =
    l.starts ++ draft_starts (into_iter_items l.left) (drop l.first-index l.firsts) ≡ draft_starts l.fn.blocks.items l.firsts
