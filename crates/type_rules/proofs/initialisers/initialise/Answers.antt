use Rattle.type_rules.proofs.InitRows.{by_descriptor}
use Rattle.type_rules.proofs.initialisers.initialise.Goals as goal
use Rattle.member_link.specs.MemberRefs.{reference_meant}
use Rattle.member_link.specs.Scope.{row_scope}

pub returns : goal.returns
returns c =
    let r = reference_meant c.args.reference.now in
    let d = c.args.descriptor.now in
    let read = c.a_descriptor_is_read_back.ensures r.desc d c.requires in
    by_descriptor (row_scope c.args.step.now.rules.now) c.args.step.now.before.now r c.initialise_by.result d.params d.result read.0 read.1 c.initialise_by.ensures
