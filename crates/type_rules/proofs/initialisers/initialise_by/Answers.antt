use Rattle.std.proofs.Common.{◌+◌, ◌∙◌, List, ap, length}
use Rattle.class_model.specs.declared.frame.VType.{VType}
use Rattle.member_link.specs.Rows.Operands.{lowest_of}
use Rattle.type_rules.proofs.InitRows.{by_parts}
use Rattle.type_rules.proofs.initialisers.initialise_by.Goals as goal
use Rattle.member_link.specs.MemberRefs.{reference_meant}
use Rattle.member_link.specs.Scope.{row_scope}
use Rattle.type_rules.specs.Inner.Steps.{given}

pub returns : goal.returns
returns c =
    let d = c.args.descriptor.now in
    let receiver_is = c.receiver_of-receiver.ensures ∙ ap (λ (entries : List VType). lowest_of (length d.params + 1) entries) c.as_slice.ensures in
    by_parts (row_scope c.args.step.now.rules.now) c.args.step.now.before.now (reference_meant c.args.reference.now) c.conclude.result d.params d.result c.in_ok-count.count c.receiver_of-receiver.result.now c.in_ok-stack.stack c.in_ok-locals.locals
    (given c.in_ok-gives.gives) c.may_initialise-may.result c.passes_initialiser-passes.result c.in_ok-count.ensures.0 c.in_ok-count.ensures.1 receiver_is c.in_ok-gives.ensures c.in_ok-stack.ensures c.in_ok-locals.ensures c.may_initialise-may.ensures c.passes_initialiser-passes.ensures c.conclude.ensures
