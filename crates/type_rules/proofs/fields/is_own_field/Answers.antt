use Rattle.std.proofs.Common.{◌≡◌, ◌↔◌, ◌∙◌, IsTrue, subst, sym}
use Rattle.class_tree.specs.Headers.{headers_of}
use Rattle.member_link.specs.Rows.MemberRows.{IsOwnField}
use Rattle.type_rules.proofs.OwnFields.{own_field}
use Rattle.type_rules.proofs.fields.is_own_field.Goals as goal
use Rattle.member_link.specs.MemberRefs.{reference_meant}
use Rattle.member_link.specs.Scope.{Scope, row_scope}
use Rattle.member_link.specs.Inner.Scope.{current}

pub returns-then-is_current : goal.returns-then-is_current
returns-then-is_current c =
    let inside = c.rules.inside in
    let seen : Scope = record { headers = headers_of inside.tree.now; class = inside.class.now; method = inside.method.now; part = inside.part.now } in
    let r = reference_meant c.args.reference.now in
    let same = subst (λ (s : Scope). r.class ≡ current s) (sym c.rules.view_is) (sym c.bytes.ensures.same ∙ c.is_current.ensures.0 c.if-is_current.true) in
    subst (λ (s : Scope). IsTrue c.is_some.result ↔ IsOwnField (row_scope s) r) c.rules.view_is
    (own_field seen inside.place inside.header.now r c.field.result c.rules.invariant.stands c.rules.invariant.header_is c.field.ensures same c.is_some.result c.is_some.ensures)
