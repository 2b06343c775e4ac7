use Rattle.std.proofs.Common.{◌≢◌, ◌⊎◌, ◌↔◌, ◌∙◌, IsTrue, IsFalse, sym, subst}
use Rattle.class_model.specs.Members.{has, PUBLIC, STATIC}
use Rattle.class_tree.specs.Headers.{headers_of}
use Rattle.class_tree.specs.Names.{object}
use Rattle.member_link.specs.Inner.SelectionSteps.{CountsFrom}
use Rattle.member_link.specs.declared.selection.CallForm.{CallForm}
use Rattle.member_link.proofs.Selecting.{special_at_interface, special_at_class}
use Rattle.member_link.proofs.selection.counted_for.Goals as goal

pub returns-in-Special-clause-same : goal.returns-in-Special-clause-same
returns-in-Special-clause-same c = λ header found method at is.
    let headers = headers_of c.args.tree.now in
    let there = (c.a_tree_is_a_hierarchy.ensures.of_place c.args.start header at).found in
    subst (λ (form : CallForm). (IsFalse (has method.member.flags STATIC) × ((method.class ≢ object) ⊎ IsTrue (has method.member.flags PUBLIC))) ↔ CountsFrom headers header.name found form method) (sym c.in-Special.is)
    (special_at_interface headers header.name header there method (sym (c.is_interface.ensures header at) ∙ c.if-is_interface.true))

pub returns-in-Special-2-clause-same : goal.returns-in-Special-2-clause-same
returns-in-Special-2-clause-same c = λ header found method at is.
    let headers = headers_of c.args.tree.now in
    let there = (c.a_tree_is_a_hierarchy.ensures.of_place c.args.start header at).found in
    subst (λ (form : CallForm). IsFalse (has method.member.flags STATIC) ↔ CountsFrom headers header.name found form method) (sym c.in-Special-2.is)
    (special_at_class headers header.name header there method (sym (c.is_interface.ensures header at) ∙ c.if-is_interface.false))
