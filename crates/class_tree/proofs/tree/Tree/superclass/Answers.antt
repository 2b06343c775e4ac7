use Rattle.std.proofs.Common.{ap, sym, subst, ◌∙◌, length, get_or, is_some, arith}
use Rattle.std.proofs.lemmas.Bool.{ltb-false}
use Rattle.class_tree.specs.Headers.{headers_of}
use Rattle.class_tree.specs.Inner.Nodes.{AreLinks}
use Rattle.class_tree.proofs.LinkedClasses.{IsAt, class_at, superclasses_have, superclass_is}
use Rattle.class_tree.proofs.tree.Tree.superclass.Goals as goal
use Rattle.class_tree.proofs.tree.Tree.superclass.Goals.{After-number}

linked : (c : After-number) → AreLinks c.args.self.now c.self.inside.headers.items c.self.inside.links
linked c = subst (λ classes. AreLinks classes c.self.inside.headers.items c.self.inside.links) c.self.view_is c.self.invariant

class : (c : After-number) → IsAt (headers_of c.args.self.now) c.args.place c.number.result
class c = class_at (headers_of c.args.self.now) c.args.place c.number.result c.number.ensures (sym (ap is_some c.in_ok-_class.ensures))

pub returns-in_err-get : goal.returns-in_err-get
returns-in_err-get c =
    let after = (goal.at.returns-in_err-get c).After-number in
    let low = superclasses_have c.args.self.now _ c.self.inside.links (linked after) c.args.place c.number.result (class after) in
    absurd (omega (arith, low, ltb-false _ _ (sym c.in_err-get.ensures.lookup.0), ap length c.deref.ensures.value))

pub returns : goal.returns
returns c =
    let after = (goal.at.returns c).After-number in
    superclass_is c.args.self.now _ c.self.inside.links (linked after) c.args.place c.number.result (class after) c.in_ok-get.field-0.now (c.in_ok-get.ensures.lookup.1 ∙ ap (λ places. get_or places c.number.result c.in_ok-get.field-0.now) c.deref.ensures.value)
