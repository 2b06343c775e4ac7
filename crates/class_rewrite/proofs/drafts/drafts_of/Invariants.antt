use Rattle.std.proofs.Common.{◌≡◌}
use Rattle.class_rewrite.proofs.drafts.drafts_of.Given as goal
use Rattle.class_rewrite.specs.Inner.Deciding.{AreDraftsOf}

abbrev pub invariant-loop-number : goal.invariant-loop-number
invariant-loop-number l = record {
  same : l.rewriter ≡ record { classes = l.tree; typed = l.typed };
  drafts : AreDraftsOf l.tree l.typed l.number l.drafts.items l.known;
}
