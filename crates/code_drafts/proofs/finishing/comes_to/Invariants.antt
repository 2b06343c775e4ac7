use Rattle.std.proofs.Common.{◌≡◌, drop}
use Rattle.code_drafts.proofs.finishing.comes_to.Given as goal
use Rattle.code_drafts.specs.Inner.Ends.{draft_comes_to}

abbrev pub invariant-loop-at : goal.invariant-loop-at
invariant-loop-at l = draft_comes_to l.to (drop l.at l.blocks) (drop l.at l.ends) ≡ draft_comes_to l.to l.blocks l.ends
