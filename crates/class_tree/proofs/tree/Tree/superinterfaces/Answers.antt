use Rattle.std.proofs.Common.{subst, arith}
use Rattle.class_tree.specs.Headers.{headers_of}
use Rattle.class_tree.specs.Inner.Nodes.{AreLinks}
use Rattle.class_tree.proofs.LinkedClasses.{IsAt, class_at, superinterfaces_are}
use Rattle.class_tree.proofs.tree.Tree.superinterfaces.Goals as goal
use Rattle.class_tree.proofs.tree.Tree.superinterfaces.Goals.{After-number}

linked : (c : After-number) → AreLinks c.args.self.now c.self.inside.headers.items c.self.inside.links
linked c = subst (λ classes. AreLinks classes c.self.inside.headers.items c.self.inside.links) c.self.view_is c.self.invariant

class : (c : After-number) → IsAt (headers_of c.args.self.now) c.args.place c.number.result
class c = class_at (headers_of c.args.self.now) c.args.place c.number.result c.number.ensures c.requires

pub get-requires : goal.get-requires
get-requires c =
    let after = (goal.at.get-requires c).After-number in
    omega (arith, (class after).within, (linked after).interfaces.len)

pub returns : goal.returns
returns c =
    let after = (goal.at.returns c).After-number in
    superinterfaces_are (headers_of c.args.self.now) c.self.inside.links.interfaces c.args.place c.number.result (class after) c.get.result.now (linked after).interfaces c.get.ensures
