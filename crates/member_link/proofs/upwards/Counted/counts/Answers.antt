use Rattle.std.proofs.Common.{◌↔◌, IsTrue, not, sym, subst, ◌∙◌}
use Rattle.std.proofs.lemmas.Bool.{both_ways}
use Rattle.class_tree.specs.Headers.{headers_of}
use Rattle.class_tree.specs.Laws.Places.{same_place}
use Rattle.member_link.specs.Inner.Counting.{IsValid, Counts}
use Rattle.member_link.specs.declared.upwards.Counted.{Counted}
use Rattle.member_link.proofs.CountedMethods.{of_interface, of_overriding, of_instance}
use Rattle.member_link.proofs.SameFound.{same_found}
use Rattle.member_link.proofs.upwards.Counted.counts.Goals as goal

pub returns-else-eq : goal.returns-else-eq
returns-else-eq c = λ method is.
    let headers = headers_of c.args.tree.now in
    let place = c.in-OfInterface.place in
    let valid = subst (IsValid headers) c.in-OfInterface.is c.requires.valid in
    subst (λ (s : Counted). IsTrue c.is_public_instance.result ↔ Counts headers s method) (sym c.in-OfInterface.is)
    (of_interface headers c.a_tree_is_a_hierarchy.ensures c.args.found method is place valid (λ same. both_ways _ c.if-eq.false (c.eq.ensures ∙ (same_place c.args.found.place place).1 same)) c.is_public_instance.result c.is_public_instance.ensures)

pub returns-else-eq-2 : goal.returns-else-eq-2
returns-else-eq-2 c = λ method is.
    let headers = headers_of c.args.tree.now in
    let resolved = c.in-Overriding.resolved in
    let valid = subst (IsValid headers) c.in-Overriding.is c.requires.valid in
    subst (λ (s : Counted). IsTrue c.overrides.result ↔ Counts headers s method) (sym c.in-Overriding.is)
    (of_overriding headers c.a_tree_is_a_hierarchy.ensures c.args.found method is resolved valid (λ same. both_ways _ c.if-eq-2.false (c.eq-in-Overriding.ensures ∙ (same_found c.args.found resolved).1 same)) c.overrides.result c.overrides.ensures)

pub returns-else-has : goal.returns-else-has
returns-else-has c = λ method is.
    let headers = headers_of c.args.tree.now in
    subst (λ (s : Counted). IsTrue (not c.is_of_object.result) ↔ Counts headers s method) (sym c.in-InstanceOfInterface.is)
    (of_instance headers c.a_tree_is_a_hierarchy.ensures c.args.found method is c.has-in-InstanceOfInterface.result c.has-in-InstanceOfInterface.ensures c.if-not-has.true c.has-then-not-has.result c.has-then-not-has.ensures c.if-has.false c.is_of_object.result (c.is_of_object.ensures method is))
