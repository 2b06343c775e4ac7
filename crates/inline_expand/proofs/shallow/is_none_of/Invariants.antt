use Rattle.std.proofs.Common.{◌≢◌}
use Rattle.class_model.specs.declared.class_file.MethodAt.{MethodAt}
use Rattle.inline_expand.proofs.StandingParts.{IsLeft}
use Rattle.inline_expand.proofs.shallow.is_none_of.Given as goal

abbrev pub invariant-loop-other : goal.invariant-loop-other
invariant-loop-other l = IsLeft (λ (other : MethodAt). other ≢ l.fn.at) l.others l.other-index
