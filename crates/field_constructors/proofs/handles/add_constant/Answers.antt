use Rattle.std.proofs.Common.{◌++◌, ℕ, List, Option, OnOk, option_map, sym, ap, subst, ◌∙◌}
use Rattle.class_tree.specs.Headers.{Name, headers_of}
use Rattle.member_link.specs.MemberRefs.{reference_meant}
use Rattle.member_link.specs.References.{Reference}
use Rattle.field_constructors.specs.Inner.ConstructorWords.{AreHandled, handled_in}
use Rattle.field_constructors.proofs.handles.add_constant.Goals as goal

pub returns-in-Some : goal.returns-in-Some
returns-in-Some c =
    subst (λ (r : Option Reference). OnOk c.add_reference.result ((of : Name → List (List ℕ)) → AreHandled (headers_of c.args.tree.now) c.args.lists.now.items of
    → AreHandled (headers_of c.args.tree.now) c.add_reference.new.lists.items (λ class. of class ++ handled_in class r)))
    (sym (ap (option_map reference_meant) c.in-Some.is) ∙ c.handled.ensures) c.add_reference.ensures
