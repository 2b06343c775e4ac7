use Rattle.std.proofs.Common.{ap, sym, subst, ◌∙◌, ◌≡◌, is_some, length, slice_get, arith}
use Rattle.std.proofs.lemmas.Option.{same_Some}
use Rattle.class_tree.specs.Headers.{headers_of}
use Rattle.class_tree.specs.Inner.MemberIndex.{IsMemberIndex}
use Rattle.class_tree.specs.Inner.Nodes.{AreLinks, indexes_of}
use Rattle.class_tree.specs.Order.{members_of}
use Rattle.class_tree.proofs.LinkedClasses.{IsAt, class_at, index_is}
use Rattle.class_tree.proofs.tree.Tree.member.Goals as goal
use Rattle.class_tree.proofs.tree.Tree.member.Goals.{After-number}

linked : (c : After-number) → AreLinks c.args.self.now c.self.inside.headers.items c.self.inside.links
linked c = subst (λ classes. AreLinks classes c.self.inside.headers.items c.self.inside.links) c.self.view_is c.self.invariant

class : (c : After-number) → IsAt (headers_of c.args.self.now) c.args.place c.number.result
class c = class_at (headers_of c.args.self.now) c.args.place c.number.result c.number.ensures (sym (ap is_some c.in_ok-header.ensures))

pub get-requires : goal.get-requires
get-requires c =
    let after = (goal.at.get-requires c).After-number in
    omega (arith, (class after).within, ((linked after).members c.args.kind).len, ap length c.members.ensures)

pub find_member-requires : goal.find_member-requires
find_member-requires c =
    let after = (goal.at.find_member-requires c).After-number in
    let at = class after in
    let same : at.header ≡ c.in_ok-header.header.now = same_Some _ _ (sym at.at ∙ sym c.in_ok-header.ensures) in
    rw c.members_of.ensures
    (subst (λ header. IsMemberIndex (members_of c.args.kind header) c.get.result.now) same
    (index_is (members_of c.args.kind) (headers_of c.args.self.now) (indexes_of c.args.kind c.self.inside.links) c.args.place c.number.result at c.get.result.now ((linked after).members c.args.kind) (ap (λ indexes. slice_get indexes c.number.result) (sym c.members.ensures) ∙ c.get.ensures)))
