use Rattle.std.proofs.Common.{subst}
use Rattle.member_link.specs.Fields.{FindsField}
use Rattle.member_link.specs.Found.{IsField, fields_of}
use Rattle.type_rules.proofs.ProtectedMembers.{bound_passes}
use Rattle.type_rules.proofs.protected.passes_field.Goals as goal
use Rattle.member_link.specs.MemberRefs.{reference_meant}
use Rattle.member_link.specs.Scope.{Scope, row_scope}

pub returns : goal.returns
returns c =
    let s = row_scope c.args.rules.now in
    let r = reference_meant c.args.reference.now in
    let found : IsField s.headers r.class r.name r.desc c.find_field-found.result =
    subst (λ (scope : Scope). IsField scope.headers r.class r.name r.desc c.find_field-found.result) c.rules.view_is c.find_field-found.ensures in
    bound_passes s r (FindsField s.headers r.class r.name r.desc) found.field found.finds (c.a_look_up_finds_one_field.ensures s.headers r.class r.name r.desc) c.is_foreign.result
    (c.is_foreign.ensures fields_of found.field found.same) c.args.receiver.now (c.is_free.ensures.no c.if-is_free.false)
