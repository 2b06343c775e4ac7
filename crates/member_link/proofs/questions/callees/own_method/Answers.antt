use Rattle.std.proofs.Common.{sym}
use Rattle.class_tree.specs.Headers.{headers_of}
use Rattle.member_link.specs.Laws.OwnMethods.{own_at_place}
use Rattle.member_link.proofs.questions.callees.own_method.Goals as goal

pub returns : goal.returns
returns c =
    own_at_place (headers_of c.args.tree.now) c.a_tree_is_a_hierarchy.ensures c.args.class.now c.args.name.now c.args.desc.now c.in_ok-place.place _ (sym c.in_ok-place.ensures) c.own_method.ensures
