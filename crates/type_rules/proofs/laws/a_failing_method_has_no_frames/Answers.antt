use Rattle.type_rules.proofs.OneTyping.{no_typing, one_failure}
use Rattle.type_rules.proofs.laws.a_failing_method_has_no_frames.Goals as goal

pub returns-clause-none : goal.returns-clause-none
returns-clause-none c = no_typing

pub returns-clause-one : goal.returns-clause-one
returns-clause-one c = λ b offset other rule other_rule first second.
    let same = one_failure b offset other rule other_rule first second in
    (same.offset, same.rule_is)
