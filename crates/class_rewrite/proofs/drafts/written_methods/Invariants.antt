use Rattle.std.proofs.Common.{◌≡◌}
use Rattle.class_rewrite.proofs.DecidedMethods.{IsEditIn}
use Rattle.class_rewrite.proofs.drafts.written_methods.Given as goal
use Rattle.class_rewrite.specs.Inner.Deciding.{AreAllDecided}

abbrev pub invariant-loop-method : goal.invariant-loop-method
invariant-loop-method l = record {
  same : l.rewriter ≡ l.initial.rewriter;
  decided : AreAllDecided l.initial.rewriter.classes l.initial.rewriter.typed l.fn.number l.class l.method l.pool l.written l.initial.known l.known;
  edit : IsEditIn l.class l.pool;
}
